-- `fractions::wrong` meets its contract: each test gives the number that the definition gives there.
-- Assumes nothing.
use mathlib.Core.Path.{sym, ◌∙◌}
use native.Mathlib.Omega.{arith}
use Rattle.meaning.proofs.FractionRows.{wrong-zero, wrong-large, wrong-above, wrong-common, wrong-none}
use Rattle.fractions.proofs.wrong.Goals as goal

pub returns-then-q-lt1 : goal.returns-then-q-lt1
returns-then-q-lt1 c =
    sym (wrong-zero _ _ (omega arith))

pub returns-then-q-gt-MOST_Q : goal.returns-then-q-gt-MOST_Q
returns-then-q-gt-MOST_Q c =
    sym (wrong-large _ _ (omega arith))

pub returns-then-q-p : goal.returns-then-q-p
returns-then-q-p c =
    sym (wrong-above _ _ (omega arith) (omega arith) (omega arith))

pub returns-then-common_divisor-ne1 : goal.returns-then-common_divisor-ne1
returns-then-common_divisor-ne1 c =
    sym (wrong-common _ _ (omega arith) (omega arith) (omega arith) (λ e. c.if-common_divisor-ne1.true (c.common_divisor.ensures ∙ e)))

pub returns : goal.returns
returns c =
    sym (wrong-none _ _ (omega arith) (omega arith) (omega arith) (sym c.common_divisor.ensures ∙ c.if-common_divisor-ne1.false))
