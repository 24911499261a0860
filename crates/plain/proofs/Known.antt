-- What a call knows once it has read a register and a plain requirement, or once one of them was refused.
-- Assumes nothing.
use mathlib.Core.Path.{◌≡◌, refl, sym, ap}
use mathlib.Core.List.{List}
use Prim.Native.Nat.{ℕ}
use native.Mathlib.Omega.{arith}
use lib.ListN.{get_or}
use Rattle.meaning.specs.declared.Refusal.{Refusal}
use Rattle.meaning.specs.Refusal.{Answer, good, refused, ◌>>=◌}
use Rattle.meaning.specs.Bytes.{Bytes}
use Rattle.meaning.specs.Tree.{Concept, nodes}
use Rattle.meaning.specs.Register.{Register, read_register}
use Rattle.meaning.specs.Calls.{read_plain}
use Rattle.meaning.proofs.Rows.{holds-nodes}
use Rattle.plain.specs.declared.Both.{Both}
use Rattle.std.specs.Prelude.{Ok, Err}
use Rattle.plain.specs.Reading.{read_both, BothGood, BothOutcome, BothDone}

abbrev both_of : Register → Concept → Answer (Register × Concept)
both_of g t = good (g, t)

-- in a call, the register and the requirement are read before all else
pub both_first : {C : Type 0} (next : Register → Concept → Answer C) (image message : List ℕ)
    → (read_register image >>= λ g. (read_plain message >>= λ t. next g t)) ≡ (read_both image message >>= λ x. next x.0 x.1)
unfolding read_both ◌>>=◌
both_first next image message = go (read_register image) (read_plain message)
  where
    go : (a : Answer Register) (b : Answer Concept) → (a >>= λ g. (b >>= λ t. next g t)) ≡ ((a >>= λ g. (b >>= λ t. both_of g t)) >>= λ x. next x.0 x.1)
    go (good g) (good t) = refl
    go (good g) (refused f) = refl
    go (refused f) b = refl

-- refused by a reader
pub both-no : (image message : List ℕ) (f : Refusal) → BothDone image message (Err f) → read_both image message ≡ refused f
both-no image message f done = go (read_both image message) done
  where
    go : (a : Answer (Register × Concept)) → BothOutcome image a (Err f) → a ≡ refused f
    go (good x) o = absurd o
    go (refused q) o = ap refused (sym o)

-- both were read
pub record Known (image message : List ℕ) (b : Both) : Type 0 where
  pub register : Register
  pub tree : Concept
  pub both : read_both image message ≡ good (register, tree)
  pub held : BothGood image register tree b
  pub bytes : Bytes image

pub known : {image message : List ℕ} {b : Both} → BothDone image message (Ok b) → Bytes image → Known image message b
known {image} {message} {b} done by = go (read_both image message) refl done
  where
    go : (a : Answer (Register × Concept)) → read_both image message ≡ a → BothOutcome image a (Ok b) → Known image message b
    go (good x) d o = record { register = x.0; tree = x.1; both = d; held = o; bytes = by }
    go (refused q) d o = absurd o

-- the rows end where the written nodes do
pub ended : {image message : List ℕ} {b : Both} (w : Known image message b) → get_or b.plain.reduced.tree.ends 0 0 ≡ nodes w.tree
ended {b} w =
    let t = b.plain.reduced.tree in
    omega (arith, holds-nodes t.names t.roles t.ends w.tree 17 0 _ w.held.held.posed.held)
