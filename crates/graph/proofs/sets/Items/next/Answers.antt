use mathlib.Core.Path.{refl}
use Prim.Native.Nat.{◌/◌, ◌%◌, ◌^◌}
use lib.ListN.{get_or}
use native.Mathlib.Omega.{arith}
use Rattle.graph.proofs.Members.{found_from, found_at, none-at, next-bound, next-end}
use Rattle.graph.proofs.sets.Items.next.Goals as goal

pub returns-then-rest-ne0 : goal.returns-then-rest-ne0
returns-then-rest-ne0 c =
    found_at c.args.self.now.words _ _ refl (omega arith) c.if-from-ge-MOST_ITEMS.false c.if-rest-ne0.true

pub returns : goal.returns
returns c =
    found_from _ _ _ _ (omega arith) (none-at c.args.self.now.words _ _ refl c.if-rest-ne0.false) c.next_word.ensures
