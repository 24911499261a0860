use mathlib.Core.Path.{refl}
use native.Mathlib.Omega.{arith}
use lib.ListN.{get_or}
use Rattle.std.specs.Prelude.{Some}
use Rattle.graph.proofs.Members.{found_from, found_word, next-from, next-bound, next-end}
use Rattle.graph.proofs.sets.Items.next_word.Goals as goal

pub returns-then-n-ne0 : goal.returns-then-n-ne0
returns-then-n-ne0 c =
    found_from _ _ _ (Some _) (omega arith) c.loop-i.invariant.2 (found_word c.args.self.now.words _ _ refl (omega arith) c.loop-i-test.true c.if-n-ne0.true)
