-- `plain::read_plain` meets its contract: the requirement's own faults, 11 at the first threshold, 14 at place 3, or marked rows.
-- Assumes nothing.
use mathlib.Core.Path.{◌≡◌, ap, ◌∙◌}
use mathlib.Core.List.{List}
use Prim.Native.Nat.{ℕ}
use lib.ListN.{get_or}
use Rattle.std.proofs.Common.{rules}
use Rattle.std.proofs.lemmas.Result.{err_from_is_err_and}
use Rattle.plain.proofs.ReadPlain.{plain-refused, plain-first, plain-held, plain-big, plain-good}
use Rattle.plain.proofs.read_plain.Goals as goal

pub returns-in_err-read : goal.returns-in_err-read
returns-in_err-read c =
    let p = err_from_is_err_and c.from_residual.result c.from_residual.ensures.1 in
    rw (p.1, p.2) (plain-refused c.args.message.now _ _ c.in_err-read.ensures)

pub returns-then-read-gt0 : goal.returns-then-read-gt0
returns-then-read-gt0 c =
    let e : c.from-first.result ≡ get_or c.of.result.firsts 0 0 = search rules in
    let first = e ∙ ap (λ (l : List ℕ). get_or l 0 0) c.of.ensures.firsts in
    rw (c.on.ensures, c.at.ensures) (plain-first c.args.message.now _ _ c.in_ok-read.ensures c.if-read-gt0.true _ first)

pub reduce-requires : goal.reduce-requires
reduce-requires c =
    let t = c.of-tree.ensures in plain-held c.args.message.now _ _ c.in_ok-read.ensures _ _ _ t.names t.roles t.ends

pub size-requires : goal.size-requires
size-requires c =
    let t = c.of-tree.ensures in record { roles = _; held = plain-held c.args.message.now _ _ c.in_ok-read.ensures _ _ _ t.names t.roles t.ends }

pub returns-then-size-gt-MOST_SIZE : goal.returns-then-size-gt-MOST_SIZE
returns-then-size-gt-MOST_SIZE c =
    let t = c.of-tree.ensures in
    rw (c.on-then-size-gt-MOST_SIZE.ensures, c.at-then-size-gt-MOST_SIZE.ensures) (plain-big c.args.message.now _ _ c.in_ok-read.ensures _ _ _ t.names t.roles t.ends
    c.if-read-gt0.false _ c.reduce.ensures _ c.size.ensures c.if-size-gt-MOST_SIZE.true)

pub returns : goal.returns
returns c =
    let t = c.of-tree.ensures in
    plain-good c.args.message.now _ _ c.in_ok-read.ensures _ _ _ t.names t.roles t.ends
    c.if-read-gt0.false _ c.reduce.ensures _ c.size.ensures c.if-size-gt-MOST_SIZE.false
