-- `writer::put_nodes` meets its contract: the root, then node after node, each with its thresholds.
-- Assumes nothing.
use mathlib.Core.Path.{refl, ◌∙◌, ap}
use Prim.Native.Nat.{ℕ, ◌+◌}
use native.Mathlib.Omega.{arith}
use Rattle.writer.proofs.Stages.{given, given-role, stage-first, stage-more, stage-room, first-room, stage-all}
use Rattle.writer.proofs.put_nodes.Goals as goal

pub put_labelled-first-requires : goal.put_labelled-first-requires
put_labelled-first-requires c =
    let g = given _ _ _ c.requires.ready in
    let r = first-room _ _ _ _ g c.own_count-j.ensures in record {
      k_in_bounds = (g.some, omega (arith, g.few));
      j_le_end = (omega arith, omega (arith, r.0, g.most), r.1);
      first_in_bounds = omega (arith, r.0, r.2, g.some, c.requires.inner_in_bounds);
    }

pub loop-k-init : goal.loop-k-init
loop-k-init c =
    let g = given _ _ _ c.requires.ready in
    let r = first-room _ _ _ _ g c.own_count-j.ensures in
    record { room = refl; thresholds = r.0; nodes = omega (arith, r.2, c.put_labelled-first.ensures.value); put = λ old w. w }

pub overflow_add-end : goal.overflow_add-end
overflow_add-end c =
    -- what is put so far, over the output as it was handed in
    let here = c.loop-k.invariant.put c.args.out.now (stage-first _ _ _ c.args.out.now _ _ _ c.requires.ready.forms (given _ _ _ c.requires.ready)
    c.own_count-j.ensures c.put_labelled-first.ensures.value c.put_labelled-first.ensures.out_after) in
    let g = given _ _ _ c.requires.ready in
    let r = stage-room _ _ _ _ _ _ _ _ _ (c.loop-k.j + c.own_count.result) here (ap (λ (z : ℕ). c.loop-k.j + z) c.own_count.ensures) in
    omega (arith, r.1, g.most)

pub put_labelled-first-requires-in-loop-k : goal.put_labelled-first-requires-in-loop-k
put_labelled-first-requires-in-loop-k c =
    -- what is put so far, over the output as it was handed in
    let here = c.loop-k.invariant.put c.args.out.now (stage-first _ _ _ c.args.out.now _ _ _ c.requires.ready.forms (given _ _ _ c.requires.ready)
    c.own_count-j.ensures c.put_labelled-first.ensures.value c.put_labelled-first.ensures.out_after) in
    let g = given _ _ _ c.requires.ready in
    let r = stage-room _ _ _ _ _ _ _ _ _ (c.loop-k.j + c.own_count.result) here
    (ap (λ (z : ℕ). c.loop-k.j + z) c.own_count.ensures) in record {
      k_in_bounds = (omega arith, omega (arith, g.few));
      j_le_end = (r.0, omega (arith, r.1, g.most), r.2);
      first_in_bounds = omega (
        arith,
        r.0,
        r.1,
        r.3,
        r.4,
        c.loop-k-test.true,
        c.requires.inner_in_bounds,
        c.loop-k.invariant.room,
        c.put_labelled-first.auto.out,
        c.put.auto.s,
      );
    }

pub loop-k-preserved : goal.loop-k-preserved
loop-k-preserved c =
    -- what is put so far, over the output as it was handed in
    let here = c.loop-k.invariant.put c.args.out.now (stage-first _ _ _ c.args.out.now _ _ _ c.requires.ready.forms (given _ _ _ c.requires.ready)
    c.own_count-j.ensures c.put_labelled-first.ensures.value c.put_labelled-first.ensures.out_after) in
    let g = given _ _ _ c.requires.ready in
    let r = stage-room _ _ _ _ _ _ _ _ _ (c.loop-k.j + c.own_count.result) here
    (ap (λ (z : ℕ). c.loop-k.j + z) c.own_count.ensures) in
    record {
      room = c.put_labelled-first-in-loop-k.auto.out ∙ c.put.auto.s ∙ c.loop-k.invariant.room;
      thresholds = r.1;
      nodes = omega (arith, r.4, c.put_labelled-first-in-loop-k.ensures.value);
      put = λ old w. stage-more c.args.of.now.nodes c.args.of.now.limits c.args.of.now.inner old _ _ _ _ _ _ _ _ _ _ (c.loop-k.invariant.put old w)
          (omega arith) c.role.ensures (given-role _ _ _ _ g (omega arith) (omega arith))
          (ap (λ (z : ℕ). c.loop-k.j + z) c.own_count.ensures) c.put_labelled-first-in-loop-k.ensures.value c.put.ensures
          c.put_labelled-first-in-loop-k.ensures.out_after;
    }

pub returns : goal.returns
returns c =
    -- what is put so far, over the output as it was handed in
    let here = c.loop-k.invariant.put c.args.out.now (stage-first _ _ _ c.args.out.now _ _ _ c.requires.ready.forms (given _ _ _ c.requires.ready)
    c.own_count-j.ensures c.put_labelled-first.ensures.value c.put_labelled-first.ensures.out_after) in
    stage-all _ _ _ _ _ _ _ _ _ here (omega arith)
