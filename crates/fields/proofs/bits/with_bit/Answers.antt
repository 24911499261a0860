-- `fields::bits::with_bit` meets its contract. Assumes nothing.
use Rattle.meaning.proofs.NamesChanged.{off-le, name-off, name-on, on_fits}
use Rattle.fields.proofs.bits.with_bit.Goals as goal

pub overflow_sub-result : goal.overflow_sub-result
overflow_sub-result c =
    off-le c.args.set c.args.k c.args.there c.args.yes c.requires.0 c.requires.1 c.if-there.true

pub returns-then-there : goal.returns-then-there
returns-then-there c =
    name-off c.args.set c.args.k c.args.there c.args.yes c.requires.0 c.requires.1 c.if-there.true c.if-yes.false

pub overflow_add-result : goal.overflow_add-result
overflow_add-result c =
    record { fits = on_fits c.args.set c.args.k c.args.there c.args.yes c.requires.0 c.requires.1 c.if-there.false c.ranges.set.fits }

pub returns-then-yes-2 : goal.returns-then-yes-2
returns-then-yes-2 c =
    name-on c.args.set c.args.k c.args.there c.args.yes c.requires.0 c.requires.1 c.if-there.false c.if-yes-2.true
