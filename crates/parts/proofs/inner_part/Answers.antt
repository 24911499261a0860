-- `parts::inner_part` meets its contract: the bytes at the place that was found.
-- Assumes nothing.
use mathlib.Core.Path.{◌∙◌, ap}
use Prim.Native.Nat.{ℕ}
use native.Mathlib.Nat.{add-sub_cancel_left}
use lib.ListN.{take, drop}
use Rattle.parts.proofs.Standing.{bytes_of, inner-bytes}
use Rattle.parts.proofs.inner_part.Goals as goal

pub returns-in-Some : goal.returns-in-Some
returns-in-Some c =
    let p = c.in-Some.place in
    ap (λ (n : ℕ). take n (drop p.start c.args.s.now)) (add-sub_cancel_left p.start p.len)
    ∙ ap (bytes_of c.args.s.now) c.in-Some.ensures.value ∙ inner-bytes c.args.s.now c.args.k

pub returns-in-None : goal.returns-in-None
returns-in-None c = ap (bytes_of c.args.s.now) c.in-None.ensures.value ∙ inner-bytes c.args.s.now c.args.k
