-- The bytes of an inner list, node after node.
-- Assumes nothing.
use mathlib.Core.Path.{◌≡◌, sym, ap, ◌∙◌, subst}
use mathlib.Core.List.{List, [], ◌∷◌, ◌++◌}
use Prim.Native.Nat.{ℕ, zero, suc, ◌+◌, ◌*◌, ◌-◌, ◌/◌, ◌≤◌, ◌<◌}
use native.Mathlib.Omega.{arith}
use native.Mathlib.Decide.{ℕ_discrete, dec_lt}
use lib.Dec.{T}
use lib.ListN.{length, get_or, length-append}
use lib.Seq.{sets}
use Rattle.meaning.specs.Bytes.{bytes}
use Rattle.meaning.specs.Bounds.{most_role, most_nodes}
use Rattle.meaning.specs.Lists.{Listed, form_tree, concept}
use Rattle.meaning.specs.Message.{concept_bytes}
use Rattle.meaning.specs.Writing.{node_at, nodes_from, nodes_in}
use Rattle.meaning.proofs.Reading.{bytes-length}
use Rattle.meaning.proofs.ListsFit.{Fits, Fit, nodes-fit}
use Rattle.lists.specs.Handed.{nodes_to, Inner}
use Rattle.lists.proofs.Forms.{nodes_whole}
use Rattle.limits.specs.Flat.{ahead, fixed_at}
use Rattle.limits.proofs.Flat.{list_bytes, flat-bytes}
use Rattle.limits.proofs.Nodes.{nodes-next, nodes-end}
use Rattle.limits.proofs.Putting.{bytes_one, Put, put-more, put_all, put_as, put_both}

-- ---- nodes that pass

pub fit-few : (ns : List ℕ) (i k n : ℕ) → i ≤ most_nodes → Fit i (nodes_from ns k n) → i + n ≤ most_nodes
unfolding Fit nodes_from
fit-few ns i k zero l w = omega (arith, l)
fit-few ns i k (suc n) l w = omega (arith, fit-few ns (suc i) (suc k) n (omega (arith, w.0.2)) w.1)

pub fit_at : (ns : List ℕ) (i k n e : ℕ) → Fit i (nodes_from ns k n) → k ≤ e → e < k + n → Fits (i + (e - k)) (node_at ns e)
unfolding Fit nodes_from
fit_at ns i k zero e w l m = absurd (let z : e < k + 0 = m in omega (arith, l))
fit_at ns i k (suc n) e w l m = go (ℕ_discrete k e) (fit_at ns (suc i) (suc k) n e w.1)
  where
    go : Dec (k ≡ e) → (suc k ≤ e → e < suc k + n → Fits (suc i + (e - suc k)) (node_at ns e)) → Fits (i + (e - k)) (node_at ns e)
    go (yes q) f = let z : i ≡ i + (e - k) = omega (arith, q) in subst (λ (z : ℕ). Fits z (node_at ns e)) z (subst (λ (z : ℕ). Fits i (node_at ns z)) q w.0)
    go (no q) f =
        let z : suc i + (e - suc k) ≡ i + (e - k) = omega (arith, q, l) in
        subst (λ (z : ℕ). Fits z (node_at ns e)) z (f (omega (arith, q, l)) (omega (arith, m)))

-- a list that forms a tree is not empty
pub forms-some : (ns : List ℕ) (first end : ℕ) → T (form_tree (nodes_to ns first end)) → first < end
unfolding form_tree
forms-some ns first end w = go (dec_lt first end)
  where
    go : Dec (first < end) → first < end
    go (yes l) = l
    go (no n) = absurd (subst (λ (z : List (Listed ℕ)). T (form_tree z)) (nodes-end ns first end (omega (arith, n))) w)

pub inner-some : (ns : List ℕ) → Inner ns → 0 < length ns / 3
inner-some ns w = forms-some ns 0 (length ns / 3) (subst (λ (z : List (Listed ℕ)). T (form_tree z)) (sym (nodes_whole ns)) w.forms)

pub inner-few : (ns : List ℕ) → Inner ns → length ns / 3 ≤ 64
inner-few ns w = omega (arith, fit-few ns 0 0 (length ns / 3) (omega arith) (nodes-fit 0 (nodes_in ns) w.fits))

pub inner-role : (ns : List ℕ) (k : ℕ) → Inner ns → 0 < k → k < length ns / 3 → get_or ns (3 * k + 2) 0 ≤ most_role
inner-role ns k w l m = (fit_at ns 0 0 (length ns / 3) k (nodes-fit 0 (nodes_in ns) w.fits) (omega arith) (omega arith)).0 (omega arith)

-- ---- its bytes

abbrev pub plain_bytes : List (Listed ℕ) → List ℕ
plain_bytes = list_bytes (λ a. a) (λ a. 0) (λ a. [])

pub plain-next : (ns : List ℕ) (k end : ℕ) → k < end
    → plain_bytes (nodes_to ns k end) ≡ get_or ns (3 * k + 2) 0 ∷ (fixed_at ns k end 0 ++ plain_bytes (nodes_to ns (k + 1) end))
unfolding list_bytes
plain-next ns k end l = ap plain_bytes (nodes-next ns k end l)

pub plain_end : (ns : List ℕ) (k end : ℕ) → end ≤ k → plain_bytes (nodes_to ns k end) ≡ []
unfolding list_bytes
plain_end ns k end l = ap plain_bytes (nodes-end ns k end l)

-- what stands behind the first
unfoldable pub behind : List ℕ → List ℕ
behind [] = []
behind (x ∷ xs) = xs

-- the bytes of the tree: those of the root without its role, and those of the nodes behind it
pub concept-flat : (ns : List ℕ) (first end : ℕ) → T (form_tree (nodes_to ns first end))
    → concept_bytes (concept (nodes_to ns first end)) ≡ fixed_at ns first end 0 ++ plain_bytes (nodes_to ns (first + 1) end)
unfolding behind concept
concept-flat ns first end w =
    ap behind (sym (flat-bytes (λ a. a) (λ a. 0) (λ a. []) 0 (nodes_to ns first end) w) ∙ plain-next ns first end (forms-some ns first end w))

pub fixed-length : (ns : List ℕ) (k end limits : ℕ) → length (fixed_at ns k end limits) ≡ 10
fixed-length ns k end limits =
    length-append (bytes 8 (get_or ns (3 * k) 0)) (limits ∷ ahead (get_or ns (3 * k + 1) 0) (nodes_to ns (k + 1) end) ∷ [])
    ∙ omega (arith, bytes-length 8 (get_or ns (3 * k) 0))

-- what stands behind a node's ten bytes
pub behind-fixed : (ns old a b : List ℕ) (at k end limits : ℕ) (ys : List ℕ) → a ≡ sets old at (fixed_at ns k end limits) → b ≡ sets a (at + 10) ys
    → b ≡ sets old at (fixed_at ns k end limits ++ ys)
behind-fixed ns old a b at k end limits ys e f =
    put_both old a b at (at + 10) (fixed_at ns k end limits) ys e f (omega (arith, fixed-length ns k end limits))

-- a node is put: its role, and its ten bytes
pub inner-more : (ns old now a b : List ℕ) (at p k end r : ℕ) (all : List ℕ) → Put old now at p all (plain_bytes (nodes_to ns k end)) → k < end
    → r ≡ get_or ns (3 * k + 2) 0 → get_or ns (3 * k + 2) 0 ≤ most_role → a ≡ sets now p (bytes 1 r) → b ≡ sets a (p + 1) (fixed_at ns k end 0)
    → Put old b at (p + 11) all (plain_bytes (nodes_to ns (k + 1) end))
inner-more ns old now a b at p k end r all w l q m e f =
    let role = get_or ns (3 * k + 2) 0 in
    let rest = plain_bytes (nodes_to ns (k + 1) end) in
    let here = put_as old now at p all _ (role ∷ (fixed_at ns k end 0 ++ rest)) w (plain-next ns k end l) in
    let g : a ≡ sets now p (role ∷ []) = e ∙ ap (sets now p) (ap (bytes 1) q ∙ bytes_one role (omega (arith, m))) in
    let one = put-more old now a at p (p + 1) all (role ∷ []) (fixed_at ns k end 0 ++ rest) here g (omega arith) in
    put-more old a b at (p + 1) (p + 11) all (fixed_at ns k end 0) rest one f (omega (arith, fixed-length ns k end 0))

-- all nodes are put
pub inner-all : (ns old first-put now : List ℕ) (at p k : ℕ) → Inner ns → first-put ≡ sets old at (fixed_at ns 0 (length ns / 3) 0)
    → Put first-put now (at + 10) p (plain_bytes (nodes_to ns 1 (length ns / 3))) (plain_bytes (nodes_to ns k (length ns / 3))) → length ns / 3 ≤ k
    → now ≡ sets old at (concept_bytes (concept (nodes_in ns)))
inner-all ns old first-put now at p k w e v l =
    let end = length ns / 3 in
    let rest = plain_bytes (nodes_to ns 1 end) in
    let forms = subst (λ (z : List (Listed ℕ)). T (form_tree z)) (sym (nodes_whole ns)) w.forms in
    let done = put_all first-put now (at + 10) p rest (put_as first-put now (at + 10) p rest _ [] v (plain_end ns k end l)) in
    behind-fixed ns old first-put now at 0 end 0 rest e done ∙ ap (sets old at) (sym (concept-flat ns 0 end forms))
    ∙ ap (λ (z : List (Listed ℕ)). sets old at (concept_bytes (concept z))) (nodes_whole ns)
