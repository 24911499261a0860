-- An image with its index: what code holds of it says what `Judged` says.
-- Assumes nothing.
use mathlib.Core.Path.{◌≡◌, sym, subst}
use mathlib.Core.Bool.{false}
use mathlib.Core.List.{List}
use Prim.Native.Nat.{ℕ, ◌≤◌, ◌<◌}
use native.Mathlib.Omega.{arith}
use native.Mathlib.Decide.{dec_lt}
use lib.ListN.{length, get_or}
use Rattle.meaning.specs.Refusal.{good}
use Rattle.meaning.specs.Bytes.{Bytes}
use Rattle.meaning.specs.Register.{Register, withdrawn, read_buffer}
use Rattle.meaning.proofs.Image.{image-fits, link-right}
use Rattle.register.specs.Held.{held, IsRead}
use Rattle.register.specs.Image.{Begins, no_link}
use Rattle.register.proofs.Holding.{good-is, held-is, held-said, is_read}
use Rattle.graph.specs.Judged.{IsJudged, Judged}

-- no more items and links than there may be
pub read-few : (s : List ℕ) (items links : ℕ) → IsRead s items links → (items ≤ 512) × (links ≤ 4096)
read-few s items links r = let q = (image-fits s (held s) r.3 (good-is s r.0)).0 in (omega (arith, r.1, q.items), omega (arith, r.2, q.few))

-- the place behind the last item is how many links there are: each leads from an item before it
pub last-begins : (s : List ℕ) (g : Register) (e : ℕ) → Bytes s → read_buffer s ≡ good g → Begins g.links (length g.names) e → e ≡ length g.links
last-begins s g e b h w = go (dec_lt e (length g.links))
  where
    go : Dec (e < length g.links) → e ≡ length g.links
    go (yes l) = absurd (let z = w.behind e (omega arith) l in omega (arith, (link-right s g b h e no_link l).0))
    go (no m) = omega (arith, w.within, m)

-- whoever has `Judged` of a lent image has `IsJudged`
pub is-judged : {s : List ℕ} {items : ℕ} {index : List ℕ} → Bytes s → Judged s items index → IsJudged s items index
is-judged {s} {items} {index} b j =
    let g = j.register in
    let h : g ≡ held s = sym (held-is s g j.read) in
    let e : get_or index items 0 ≡ length g.links =
    last-begins s g (get_or index items 0) b j.read (subst (λ (z : ℕ). Begins g.links z (get_or index items 0)) j.items-are (j.indexed items (omega arith))) in
    record {
      read = is_read s items (get_or index items 0) b (record { register = g; read = j.read; holds = (j.items-are, e) });
      most = j.most;
      room = j.room;
      indexed = subst (λ (z : Register). (k : ℕ) → k ≤ items → Begins z.links k (get_or index k 0)) h j.indexed;
      serving = subst (λ (z : Register). get_or index 513 0 ≡ 0 → (x : ℕ) → withdrawn z x ≡ false) h j.serving;
    }

module _ {s : List ℕ} {items : ℕ} {index : List ℕ} (w : IsJudged s items index) where
  abbrev pub judged : Judged s items index
  judged = record {
    register = held s;
    read = good-is s w.read.0;
    items-are = w.read.1;
    most = w.most;
    room = w.room;
    indexed = w.indexed;
    serving = w.serving;
  }

  -- one of its links
  pub link-held : (k : ℕ) → ((j : Judged s items index) → k < length j.register.links) → k < get_or index items 0
  link-held k h = let l : k < length (held s).links = h judged in omega (arith, w.read.2)

-- what holds of the register that the bytes begin with holds of the one that is read from them
pub judged-held : {s : List ℕ} {items : ℕ} {index : List ℕ} (P : Register → Type 0) (j : Judged s items index) → P (held s) → P j.register
judged-held {s} P j p = held-said s P p j.register j.read

-- what is said of the register of an image holds where that is named otherwise
pub along : {s s' : List ℕ} {items items' : ℕ} {index index' : List ℕ} (P : Register → Type 0) → s ≡ s' → items ≡ items' → index ≡ index'
    → ((j : Judged s items index) → P j.register) → (j : Judged s' items' index') → P j.register
along {s} {s'} {items} {items'} {index} {index'} P e f g h =
    subst (λ (z : List ℕ). (j : Judged z items' index') → P j.register) e
    (subst (λ (z : ℕ). (j : Judged s z index') → P j.register) f
    (subst (λ (z : List ℕ). (j : Judged s items z) → P j.register) g h))
