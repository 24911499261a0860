-- The graph of an image that was read: where the links of each item begin, whether an item is withdrawn, and the run of an item's links under a role.
-- Assumes nothing.
use Rattle.std.specs.Prelude.{◌≡◌, false, List, [], ◌∷◌, ℕ, zero, suc, ◌+◌, ◌-◌, ◌≤◌, ◌<◌, max, length, get_or}
use Rattle.meaning.specs.Bounds.{most_items}
use Rattle.meaning.specs.Refusal.{good}
use Rattle.meaning.specs.Register.{Register, withdrawn, targets, read_buffer}
use Rattle.register.specs.Held.{held, IsRead}
use Rattle.register.specs.Image.{link_no, Begins, Image}

-- the register that the bytes begin with, of so many items, and an index that says where the links of each of them begin and end, and at its last place
-- 0 only where none of them is withdrawn
pub record Judged (s : List ℕ) (items : ℕ) (index : List ℕ) : Type 0 where
  pub register : Register
  pub read : read_buffer s ≡ good register
  pub items-are : items ≡ length register.names
  pub most : items ≤ most_items
  pub room : length index ≡ 514
  pub indexed : (k : ℕ) → k ≤ items → Begins register.links k (get_or index k 0)
  pub serving : get_or index 513 0 ≡ 0 → (x : ℕ) → withdrawn register x ≡ false

-- the same of the register that the bytes begin with, and what holds of every lent slice of bytes: so it is said of an image with its index in code. Behind
-- the last item stands how many links there are
pub record IsJudged (s : List ℕ) (items : ℕ) (index : List ℕ) : Type 0 where
  pub read : IsRead s items (get_or index items 0)
  pub most : items ≤ most_items
  pub room : length index ≡ 514
  pub indexed : (k : ℕ) → k ≤ items → Begins (held s).links k (get_or index k 0)
  pub serving : get_or index 513 0 ≡ 0 → (x : ℕ) → withdrawn (held s) x ≡ false

-- where the k-th link leads from and to
abbrev pub start_no : Register → ℕ → ℕ
start_no g k = (link_no g k).from

abbrev pub end_no : Register → ℕ → ℕ
end_no g k = (link_no g k).to

-- f of k, of k + 1 .., n of them
unfoldable pub values_from : (ℕ → ℕ) → ℕ → ℕ → List ℕ
values_from f k zero = []
values_from f k (suc n) = f k ∷ values_from f (k + 1) n

-- f of each number from `first` up to `end`
abbrev pub spanned : (ℕ → ℕ) → ℕ → ℕ → List ℕ
spanned f first end = values_from f first (end - first)

-- where the links of an item under a role lead: these are the links from `first` up to `end`, and they lead from the item
pub record Runs (g : Register) (item role first end : ℕ) : Type 0 where
  pub ends : targets g.links item role ≡ spanned (end_no g) first end
  pub own : (k : ℕ) → first ≤ k → k < end → start_no g k ≡ item
  pub order : first ≤ end
  pub within : end ≤ length g.links

-- ---- how a run is found

abbrev pub role_no : Register → ℕ → ℕ
role_no g k = (link_no g k).role

-- of the links from `first` up to `end`, the one before r is of a lower role, and the one at r is not
pub record Parted (g : Register) (role first end r : ℕ) : Type 0 where
  pub behind : first ≤ r
  pub within : r ≤ end
  pub before : first < r → role_no g (r - 1) < role
  pub here : r < end → role ≤ role_no g r

-- the links of an item from `first` on, where its successors under a role begin, up to its last; they end where those of no higher role do
pub record Opens (g : Register) (item role first stop : ℕ) : Type 0 where
  pub order : first ≤ stop
  pub within : stop ≤ length g.links
  pub run : (end : ℕ) → Parted g (role + 1) first stop end → Runs g item role first end

-- ---- how the index is filled

-- e is the place behind the last of the first n links that leads from the item, or 0 where none of them does
pub record Ends (g : Register) (n item e : ℕ) : Type 0 where
  pub within : e ≤ n
  pub all : (k : ℕ) → k < n → start_no g k ≡ item → k < e
  pub last : 0 < e → start_no g (e - 1) ≡ item

-- the first n links are noted: at 0 stands 0, and behind the place of each item where the last of its own ends
abbrev pub Noted : List ℕ → ℕ → ℕ → List ℕ → Type 0
Noted s items n index = (get_or index 0 0 ≡ 0) × Image s (λ g. (x : ℕ) → x < items → Ends g n x (get_or index (x + 1) 0))

-- each of the first n places behind the first has become the greater of itself and of what the place before it has become
pub record Risen (n : ℕ) (old new : List ℕ) : Type 0 where
  pub size : length new ≡ length old
  pub first : get_or new 0 0 ≡ get_or old 0 0
  pub done : (k : ℕ) → k < n → get_or new (k + 1) 0 ≡ max (get_or new k 0) (get_or old (k + 1) 0)
  pub rest : (k : ℕ) → n < k → get_or new k 0 ≡ get_or old k 0
