-- Document 01, "Requirement message": the bytes of a requirement, and their reading with every refusal.
-- Assumes nothing.
use Rattle.std.specs.Prelude.{Bool, ◌&&◌, cond, List, [], ◌∷◌, ◌++◌, ℕ, zero, suc, ◌+◌, ltb, leb, eqb, length, take, drop}
use Rattle.meaning.specs.declared.Side.TheVariants.{Requirement as requirement}
use Rattle.meaning.specs.declared.Refusal.{Refusal}
use Rattle.meaning.specs.Refusal.{Answer, good, refused, at, refuse_if, ◌>>=◌, ◌>>◌}
use Rattle.meaning.specs.Bytes.{number, bytes, fields, read_head, unequal, headed}
use Rattle.meaning.specs.Names.{is_set}
use Rattle.meaning.specs.Tree.{Tree, node, Forest, none, more, Concept, count, nodes, levels, each, written}
use Rattle.meaning.specs.Fraction.{◌÷◌, fraction, Comparison, less, at_most, greater, at_least}
pub use Rattle.meaning.specs.Fraction.{lawful}
use Rattle.meaning.specs.Reduce.{reduce, size}
use Rattle.meaning.specs.Bounds.{most_role, most_levels, most_nodes, most_thresholds, most_size}
use Rattle.meaning.specs.Requirement.{Threshold, Label, Requirement, every}

-- ---- which requirements there are

abbrev pub code : Comparison → ℕ
code less = 0
code at_most = 1
code greater = 2
code at_least = 3

-- the comparison of a byte of at most 3
abbrev pub comparison : ℕ → Comparison
comparison zero = less
comparison (suc zero) = at_most
comparison (suc (suc zero)) = greater
comparison (suc (suc (suc n))) = at_least

-- "depth at most 16. At most 64 nodes": an outer tree or an inner one
abbrev pub bounded : {L : Type 0} → (L → Bool) → Tree L → Bool
bounded ok t = each ok t && leb (levels t) most_levels && leb (nodes t) most_nodes

abbrev pub sound_inner : Concept → Bool
sound_inner t = bounded is_set t && leb (size (reduce t)) most_size

abbrev pub sound_threshold : Threshold → Bool
sound_threshold h = lawful h.limit.num h.limit.den && sound_inner h.inner

abbrev pub sound_label : Label → Bool
sound_label a = is_set a.names && every sound_threshold a.thresholds

-- the thresholds of a requirement in reading order
unfoldable pub joined : List Label → List Threshold
joined [] = []
joined (a ∷ as') = a.thresholds ++ joined as'

abbrev pub thresholds_of : Requirement → List Threshold
thresholds_of t = joined (written t)

unfoldable pub sound : Requirement → Bool
sound t = bounded sound_label t && leb (length (thresholds_of t)) most_thresholds

-- ---- the bytes

-- what stands at a node between its names and its children: how many thresholds, and their bytes
module _ {L : Type 0} (names_of : L → ℕ) (how_many : L → ℕ) (own : L → List ℕ) where
  unfoldable mutual
    pub node_bytes : Tree L → List ℕ
    node_bytes (node a f) = bytes 8 (names_of a) ++ (how_many a ∷ count f ∷ []) ++ own a ++ children_bytes f

    pub children_bytes : Forest L → List ℕ
    children_bytes none = []
    children_bytes (more r t f) = r ∷ node_bytes t ++ children_bytes f

-- an inner concept has no thresholds
abbrev pub concept_bytes : Concept → List ℕ
concept_bytes = node_bytes (λ a. a) (λ a. 0) (λ a. [])

abbrev pub threshold_bytes : Threshold → List ℕ
threshold_bytes h =
    code h.how ∷ bytes 2 h.limit.num ++ bytes 2 h.limit.den ++ bytes 2 (length (concept_bytes h.inner)) ++ concept_bytes h.inner

unfoldable pub thresholds_bytes : List Threshold → List ℕ
thresholds_bytes [] = []
thresholds_bytes (h ∷ hs) = threshold_bytes h ++ thresholds_bytes hs

abbrev pub requirement_bytes : Requirement → List ℕ
requirement_bytes = node_bytes (λ a. a.names) (λ a. length a.thresholds) (λ a. thresholds_bytes a.thresholds)

unfoldable pub encode : Requirement → List ℕ
encode t = headed (requirement_bytes t)

-- ---- reading

-- where a threshold stands: the written node that it is of, its first byte, and the length of its inner concept, which begins 7 bytes on
pub record Part : Type 0 where
  pub owner : ℕ
  pub first : ℕ
  pub len : ℕ

-- how far reading has come: the next byte, the nodes of this tree so far, and the message's thresholds so far
pub record Spot : Type 0 where
  pub next : ℕ
  pub nodes : ℕ
  pub parts : List Part

-- past the 10 bytes of a node's fixed fields
abbrev pub entered : Spot → Spot
entered w = record { next = w.next + 10; nodes = suc w.nodes; parts = w.parts }

abbrev pub passed : ℕ → Spot → Spot
passed n w = record { next = w.next + n; nodes = w.nodes; parts = w.parts }

-- Nodes and children. `label` reads a label at its node: 11, or the thresholds.
module _ {L : Type 0} (label : Spot → Answer (L × Spot)) (s : List ℕ) (end : ℕ) where
  -- "At an edge: 1, 7."
  unfoldable pub read_children : (Spot → Answer (Tree L × Spot)) → ℕ → Spot → Answer (Forest L × Spot)
  read_children read_child zero w = good (none, w)
  read_children read_child (suc k) w = do
    fields requirement end (1 ∷ []) w.next
    refuse_if (ltb most_role (number s w.next 1)) (at requirement 7 w.next)
    (t, v) ← read_child (passed 1 w)
    (f, u) ← read_children read_child k v
    good (more (number s w.next 1) t f, u)

  -- "At a node: 1, 9, 10, 11." The first argument is how many levels are left.
  unfoldable pub read_node : ℕ → Spot → Answer (Tree L × Spot)
  read_node zero w = do
    fields requirement end (8 ∷ 1 ∷ 1 ∷ []) w.next
    refused (at requirement 9 w.next)
  read_node (suc left) w = do
    fields requirement end (8 ∷ 1 ∷ 1 ∷ []) w.next
    refuse_if (leb most_nodes w.nodes) (at requirement 10 w.next)
    (a, v) ← label w
    (f, u) ← read_children (λ z. read_node left z) (number s (w.next + 9) 1) v
    good (node a f, u)

-- number 11: "threshold inside an inner concept (place of its count)"
unfoldable pub no_thresholds : List ℕ → Spot → Answer (ℕ × Spot)
no_thresholds s w = do
  refuse_if (ltb 0 (number s (w.next + 8) 1)) (at requirement 11 (w.next + 8))
  good (number s w.next 8, entered w)

-- an inner concept from place p on, with its own end; depth and nodes are counted anew
abbrev pub read_inner : List ℕ → ℕ → ℕ → Answer (Concept × Spot)
read_inner s end p = read_node (no_thresholds s) s end most_levels (record { next = p; nodes = 0; parts = [] })

-- what is wrong with the fraction of a threshold at place p stands "at the place of the p or q at fault": 23 at q, 24 and 25 at p
abbrev pub fault_place : ℕ → ℕ → ℕ
fault_place p n = cond (eqb n 23) (p + 3) (p + 1)

abbrev pub fault_at : ℕ → ℕ → Refusal
fault_at p n = at requirement n (fault_place p n)

-- "At a threshold: 12, 1, 13, 1 (inner length), then the inner concept, 8, 14"; after 13, which is "for the comparison byte", 23, 24 and 25. One of the
-- written node `owner`
unfoldable pub read_threshold : List ℕ → ℕ → ℕ → Spot → Answer (Threshold × Spot)
read_threshold s end owner w = do
  let p = w.next
  refuse_if (leb most_thresholds (length w.parts)) (at requirement 12 p)
  fields requirement end (1 ∷ 2 ∷ 2 ∷ []) p
  refuse_if (ltb 3 (number s p 1)) (at requirement 13 p)
  fraction (fault_at p) (number s (p + 1) 2) (number s (p + 3) 2)
  fields requirement end (2 ∷ []) (p + 5)
  let len = number s (p + 5) 2
  refuse_if (ltb end (p + 7 + len)) (at requirement 1 (p + 5))
  (t, v) ← read_inner s (p + 7 + len) (p + 7)
  refuse_if (ltb v.next (p + 7 + len)) (at requirement 8 v.next)
  refuse_if (ltb most_size (size (reduce t))) (at requirement 14 (p + 7))
  good (
    record { how = comparison (number s p 1); limit = number s (p + 1) 2 ÷ number s (p + 3) 2; inner = t },
    record {
      next = p + 7 + len;
      nodes = w.nodes;
      parts = w.parts ++ (record { owner = owner; first = p; len = len } ∷ []);
    },
  )

-- k of them, one after the other
unfoldable pub read_thresholds : List ℕ → ℕ → ℕ → ℕ → Spot → Answer (List Threshold × Spot)
read_thresholds s end owner zero w = good ([], w)
read_thresholds s end owner (suc k) w = do
  (h, v) ← read_threshold s end owner w
  (hs, u) ← read_thresholds s end owner k v
  good (h ∷ hs, u)

unfoldable pub with_thresholds : List ℕ → ℕ → Spot → Answer (Label × Spot)
with_thresholds s end w = do
  (hs, v) ← read_thresholds s end w.nodes (number s (w.next + 8) 1) (entered w)
  good (record { names = number s w.next 8; thresholds = hs }, v)

-- the whole message: the requirement, and where its thresholds stand
unfoldable pub read_requirement : List ℕ → Answer (Requirement × List Part)
read_requirement s = do
  end ← read_head requirement unequal s
  (t, w) ← read_node (with_thresholds s end) s end most_levels (record { next = 3; nodes = 0; parts = [] })
  refuse_if (ltb w.next end) (at requirement 8 w.next)
  good (t, w.parts)

-- ---- the k-th inner concept

-- the bytes of a threshold's inner concept are that part of the message itself
abbrev pub part_bytes : List ℕ → Part → List ℕ
part_bytes s p = take p.len (drop (p.first + 7) s)

unfoldable pub kth : List ℕ → List Part → ℕ → List ℕ
kth s [] k = []
kth s (p ∷ ps) zero = part_bytes s p
kth s (p ∷ ps) (suc k) = kth s ps k

abbrev pub part_of : List ℕ → ℕ → Answer (Requirement × List Part) → List ℕ
part_of s k (good r) = kth s r.1 k
part_of s k (refused r) = []

-- "A part without bytes means refused: message bad, or no k-th."
unfoldable pub inner_part : List ℕ → ℕ → List ℕ
inner_part s k = part_of s k (read_requirement s)
