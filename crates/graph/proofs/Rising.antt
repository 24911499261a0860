-- The links of an image that was read rise: by item, and those of one item by role.
-- Assumes nothing.
use mathlib.Core.Path.{◌≡◌, refl}
use mathlib.Core.List.{List, [], ◌∷◌, Memᴰ}
use mathlib.Core.Option.{Option, some}
use mathlib.Core.Option.{none as nowhere}
use Prim.Native.Nat.{ℕ, zero, suc, ◌+◌, ◌-◌, ◌≤◌, ◌<◌}
use native.Mathlib.Nat.{le_of_eq}
use native.Mathlib.Omega.{arith}
use lib.Dec.{T}
use lib.ListN.{length, get_or}
use Rattle.meaning.specs.Bytes.{Bytes}
use Rattle.meaning.specs.Refusal.{good}
use Rattle.meaning.specs.Register.{Link, Register, links_of, read_buffer}
use Rattle.meaning.proofs.Links.{Below, rest, all-below}
use Rattle.meaning.proofs.Image.{image-fits}
use Rattle.register.specs.Image.{no_link}
use Rattle.graph.specs.Judged.{start_no, role_no}

link-member : (ls : List Link) (k : ℕ) → k < length ls → Memᴰ (get_or ls k no_link) ls
link-member [] k h = absurd (omega arith)
link-member (l ∷ ls) zero h = Memᴰ.head refl
link-member (l ∷ ls) (suc k) h = Memᴰ.tail (link-member ls k (omega arith))

below_at : (n : ℕ) (before : Option Link) (ls : List Link) (j k : ℕ) → T (links_of n before ls) → j < k → k < length ls
    → Below (get_or ls j no_link) (get_or ls k no_link)
below_at n before [] j k w h l = absurd (omega arith)
below_at n before (x ∷ ls) j zero w h l = absurd (omega arith)
below_at n before (x ∷ ls) zero (suc k) w h l = all-below n x ls (rest n before x ls w).1 (get_or ls k no_link) (link-member ls k (omega arith))
below_at n before (x ∷ ls) (suc j) (suc k) w h l = below_at n (some x) ls j k (rest n before x ls w).1 (omega arith) (omega arith)

pub roles-rise : (s : List ℕ) → Bytes s → (g : Register) → read_buffer s ≡ good g → (j k : ℕ) → j ≤ k → k < length g.links
    → start_no g j ≡ start_no g k → role_no g j ≤ role_no g k
roles-rise s b g h j k l m e = go (k - j) refl
  where
    go : (d : ℕ) → k - j ≡ d → role_no g j ≤ role_no g k
    go zero q = let z : j ≡ k = omega arith in rw z (le_of_eq refl)
    go (suc d) q = (below_at (length g.names) nowhere g.links j k (image-fits s g b h).0.rising (omega arith) m).role-le e

-- the link before the next one
pub one_on : (g : Register) (k role : ℕ) → role_no g k < role → role_no g (k + 1 - 1) < role
one_on g k role h = let z : k + 1 - 1 ≡ k = omega arith in rw z h
