-- `fractions::against` meets its contract: N times q minus p times D, over D times q; no product wraps.
-- Assumes nothing.
use mathlib.Core.Path.{refl, sym, subst, ◌∙◌}
use native.Mathlib.Omega.{arith}
use mir.Syntax.{w64}
use mir.Val.{SFits}
use mir.Facts.{to_z-of_z}
use Rattle.fractions.proofs.Products.{products}
use Rattle.fractions.proofs.against.Goals as goal

pub overflow_mul-num : goal.overflow_mul-num
overflow_mul-num c =
    let b = products _ _ _ _ c.requires.0 c.requires.1 c.requires.2 c.requires.3 in
    record { fits = omega (arith, b.given) }

pub overflow_mul-p : goal.overflow_mul-p
overflow_mul-p c =
    let b = products _ _ _ _ c.requires.0 c.requires.1 c.requires.2 c.requires.3 in
    record { fits = omega (arith, b.asked) }

pub difference-requires : goal.difference-requires
difference-requires c =
    let b = products _ _ _ _ c.requires.0 c.requires.1 c.requires.2 c.requires.3 in
    (omega (arith, b.given, b.other), omega (arith, b.asked))

pub overflow_mul-result : goal.overflow_mul-result
overflow_mul-result c =
    let p = c.requires in
    let b = products _ _ _ _ p.0 p.1 p.2 p.3 in
    record { fits = omega (arith, b.over) }

pub returns : goal.returns
returns c =
    let fits = c.difference.ensures.sfits in
    let same = to_z-of_z fits in record {
      num_value = (same ∙ c.difference.ensures.value, refl);
      sfits = subst (SFits w64) (sym same) fits;
    }
