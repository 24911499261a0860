-- The nodes of a list of numbers, one after the other, and the children of one of them counted along.
-- Assumes nothing.
use mathlib.Core.Path.{◌≡◌, refl, ap, ap₂, ◌∙◌}
use mathlib.Core.List.{List, [], ◌∷◌, ◌++◌}
use Prim.Native.Nat.{ℕ, zero, suc, ◌+◌, ◌*◌, ◌-◌, ◌≤◌, ◌<◌}
use native.Mathlib.Omega.{arith}
use native.Mathlib.Decide.{ℕ_discrete}
use lib.Dec.{eqb}
use lib.ListN.{length, get_or}
use lib.Seq.{sets}
use Rattle.std.specs.Int.{from_bool}
use Rattle.meaning.proofs.Lists.{same, other}
use Rattle.meaning.specs.Bytes.{bytes}
use Rattle.meaning.specs.Writing.{node_at, nodes_from}
use Rattle.lists.specs.Handed.{nodes_to}
use Rattle.limits.specs.Flat.{ahead, fixed_at}
use Rattle.limits.proofs.Flat.{ahead-end, ahead-next, ahead-deep, ahead-most}
use Rattle.limits.proofs.Putting.{put-ten}

pub nodes-length : (ns : List ℕ) (k n : ℕ) → length (nodes_from ns k n) ≡ n
unfolding nodes_from
nodes-length ns k zero = refl
nodes-length ns k (suc n) = ap suc (nodes-length ns (suc k) n)

pub nodes-next : (ns : List ℕ) (k end : ℕ) → k < end → nodes_to ns k end ≡ node_at ns k ∷ nodes_to ns (k + 1) end
unfolding nodes_from
nodes-next ns k end l =
    let e : end - k ≡ suc (end - (k + 1)) = omega (arith, l) in
    let f : suc k ≡ k + 1 = omega arith in
    ap (nodes_from ns k) e ∙ ap (λ (z : ℕ). node_at ns k ∷ nodes_from ns z (end - (k + 1))) f

pub nodes-end : (ns : List ℕ) (k end : ℕ) → end ≤ k → nodes_to ns k end ≡ []
unfolding nodes_from
nodes-end ns k end l = let e : end - k ≡ 0 = omega (arith, l) in ap (nodes_from ns k) e

-- ---- children counted from node to node

abbrev pub deep_at : List ℕ → ℕ → ℕ
deep_at ns k = get_or ns (3 * k + 1) 0

pub ahead-stop : (ns : List ℕ) (d e end f : ℕ) → e < end → f ≡ deep_at ns e → f ≤ d → ahead d (nodes_to ns e end) ≡ 0
ahead-stop ns d e end f l q h = rw (nodes-next ns e end l) (ahead-end d (node_at ns e) (nodes_to ns (e + 1) end) (omega (arith, q, h)))

pub ahead_none : (ns : List ℕ) (d e end : ℕ) → end ≤ e → ahead d (nodes_to ns e end) ≡ 0
unfolding ahead
ahead_none ns d e end l = rw (nodes-end ns e end l) refl

-- a node is counted where it is one deeper
pub ahead_more : (ns : List ℕ) (d e end f r : ℕ) → e < end → f ≡ deep_at ns e → d < f → r ≡ from_bool (eqb (f - 1) d)
    → (ahead d (nodes_to ns e end) ≡ r + ahead d (nodes_to ns (e + 1) end)) × (r ≤ 1)
ahead_more ns d e end f r l q h told = go (ℕ_discrete f (d + 1))
  where
    go : Dec (f ≡ d + 1) → (ahead d (nodes_to ns e end) ≡ r + ahead d (nodes_to ns (e + 1) end)) × (r ≤ 1)
    go (yes y) =
        let one : r ≡ 1 = told ∙ ap from_bool (same (f - 1) d (omega (arith, y))) in
        (ap (ahead d) (nodes-next ns e end l) ∙ omega (arith, ahead-next d (node_at ns e) (nodes_to ns (e + 1) end) (omega (arith, q, y)), one), omega (arith, one))
    go (no n) =
        let nought : r ≡ 0 = told ∙ ap from_bool (other (f - 1) d (λ z. n (let y : f - 1 ≡ d = z in omega (arith, h)))) in
        (ap (ahead d) (nodes-next ns e end l) ∙ omega (arith, ahead-deep d (node_at ns e) (nodes_to ns (e + 1) end) (omega (arith, q, n, h)), nought), omega (arith, nought))

-- n are counted, and none is ahead any more
pub ahead-all : (ns : List ℕ) (d k e end n : ℕ) → d ≡ deep_at ns k → n + ahead d (nodes_to ns e end) ≡ ahead d (nodes_to ns (k + 1) end)
    → ahead d (nodes_to ns e end) ≡ 0 → n ≡ ahead (deep_at ns k) (nodes_to ns (k + 1) end)
ahead-all ns d k e end n q w z = let y : n ≡ ahead d (nodes_to ns (k + 1) end) = omega (arith, w, z) in rw q at y

-- ---- the bytes of one node

pub fixed-put : (ns old a b out : List ℕ) (k end limits at names kids : ℕ) → a ≡ sets old at (bytes 8 names) → b ≡ sets a (at + 8) (bytes 1 limits)
    → out ≡ sets b (at + 9) (bytes 1 kids) → names ≡ get_or ns (3 * k) 0 → kids ≡ ahead (deep_at ns k) (nodes_to ns (k + 1) end) → end ≤ k + 64 → limits < 256
    → out ≡ sets old at (fixed_at ns k end limits)
fixed-put ns old a b out k end limits at names kids e f g p q l m =
    let few : kids < 256 = omega (arith, q, ahead-most (deep_at ns k) (nodes_to ns (k + 1) end), nodes-length ns (k + 1) (end - (k + 1)), l) in
    put-ten old a b out at names limits kids e f g m few
    ∙ ap₂ (λ (x y : ℕ). sets old at (bytes 8 x ++ (limits ∷ y ∷ []))) p q
