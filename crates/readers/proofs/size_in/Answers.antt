-- `readers::size_in` meets its contract: the arrays that stand in the rows hold the tree.
-- Assumes nothing.
use mathlib.Core.Path.{◌≡◌, sym}
use Rattle.meaning.specs.Reduce.{reduce, size}
use Rattle.reduction.specs.Held.{Held, ForTree}
use Rattle.readers.proofs.Places.{same_rows}
use Rattle.readers.proofs.size_in.Goals as goal

pub reduced_size-requires : goal.reduced_size-requires
reduced_size-requires c =
    same_rows (λ n r e. Held n r e 17 0) (sym c.of.ensures.names) (sym c.of.ensures.roles) (sym c.of.ensures.ends) c.requires.held

pub returns : goal.returns
returns c =
    same_rows (λ n r e. ForTree n r e 17 0 (λ t. c.reduced_size.result ≡ size (reduce t))) c.of.ensures.names c.of.ensures.roles
    c.of.ensures.ends c.reduced_size.ensures.for_tree
