-- `lines::text::Line::push_digits` meets its contract: no digit, one, or the last one behind the others.
-- Assumes nothing.
use mathlib.Core.Path.{refl, ap}
use mathlib.Core.List.{[], ◌∷◌, append-nil, append_assoc}
use Prim.Native.Nat.{◌+◌, ◌-◌, ◌/◌, ◌%◌}
use native.Mathlib.Omega.{arith}
use lib.ListN.{length}
use Rattle.lines.specs.Text.{digits}
use Rattle.lines.proofs.Writing.{digits-none, digits-one, digits_more, more-length}
use Rattle.lines.proofs.text.Line.+push_digits.Goals as goal

pub returns-then-left-eq0 : goal.returns-then-left-eq0
returns-then-left-eq0 t c =
    let none = digits-none c.args.left c.args.n c.if-left-eq0.true in
    record { text = rw none (simp append-nil); len = omega (arith, ap length none) }

pub push-requires : goal.push-requires
push-requires t c = omega (arith, c.requires, ap length (digits-one c.args.left c.args.n c.if-left-eq0.false c.if-n-lt10.true))

pub returns-then-n-lt10 : goal.returns-then-n-lt10
returns-then-n-lt10 t c =
    let one = digits-one c.args.left c.args.n c.if-left-eq0.false c.if-n-lt10.true in
    record { text = rw (one, c.push.ensures.text) refl; len = omega (arith, c.push.ensures.len, ap length one) }

pub push_digits-requires : goal.push_digits-requires
push_digits-requires t c =
    (omega arith, omega (arith, c.requires, more-length c.args.left c.args.n c.if-left-eq0.false c.if-n-lt10.false))

pub push-requires-2 : goal.push-requires-2
push-requires-2 t c =
    omega (arith, c.requires, c.push_digits.ensures.len, more-length c.args.left c.args.n c.if-left-eq0.false c.if-n-lt10.false)

pub returns : goal.returns
returns t c = record {
  text = rw (c.push-2.ensures.text, c.push_digits.ensures.text, digits_more c.args.left c.args.n c.if-left-eq0.false c.if-n-lt10.false)
      (append_assoc c.args.self.now (digits (c.args.left - 1) (c.args.n / 10)) ((48 + c.args.n % 10) ∷ []));
  len = omega (arith, c.push_digits.ensures.len, c.push-2.ensures.len, more-length c.args.left c.args.n c.if-left-eq0.false c.if-n-lt10.false);
}
