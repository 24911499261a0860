-- `limits::put_limits` meets its contract: threshold after threshold, each a step on in the bytes that the numbers say.
-- Assumes nothing.
use mathlib.Core.Path.{sym, ap, ◌∙◌}
use native.Mathlib.Omega.{arith}
use lib.Seq.{sets}
use Rattle.meaning.specs.Lists.{Limit, threshold}
use Rattle.meaning.specs.Writing.{limit_fits}
use Rattle.meaning.specs.Message.{threshold_bytes}
use Rattle.lists.proofs.Parts.{limit-own, one-own}
use Rattle.limits.proofs.Putting.{put-length}
use Rattle.limits.proofs.Runs.{after_next, after-room, after_none, each-here, each_next, limits-more, limits-all}
use Rattle.limits.proofs.put_limits.Goals as goal

pub inners-n-requires : goal.inners-n-requires
inners-n-requires c =
    (each-here _ _ _ _ _ c.loop-e-test.true c.loop-e.invariant.each).0.whole

pub part-requires : goal.part-requires
part-requires c =
    omega (arith, (each-here _ _ _ _ _ c.loop-e-test.true c.loop-e.invariant.each).0.room, c.inners-n.ensures)

pub put_limit-p-requires : goal.put_limit-p-requires
put_limit-p-requires c =
    let n = c.inners-n.ensures in
    let here = each-here _ _ _ _ _ c.loop-e-test.true c.loop-e.invariant.each in
    let own = limit-own c.args.of.now.limits c.args.of.now.inner _ c.loop-e.e c.loop-e.k _ c.part.ensures.nodes c.part.ensures.len n in
    record {
      one = (one-own _ _ _ _ _ _ c.part.ensures.nodes c.part.ensures.len n here.0, ap (limit_fits c.loop-e.e) own ∙ here.1);
      in_bounds = (omega arith, omega (arith, after-room c.args.of.now.limits c.loop-e.e c.loop-e.k c.args.end c.loop-e-test.true));
    }

pub loop-e-preserved : goal.loop-e-preserved
loop-e-preserved c =
    let hs = c.args.of.now.limits in
    let l = c.loop-e-test.true in
    let n = c.inners-n.ensures in
    let own = limit-own hs c.args.of.now.inner _ c.loop-e.e c.loop-e.k _ c.part.ensures.nodes c.part.ensures.len n in
    let out = c.put_limit-p.ensures.out_after ∙ ap (λ (h : Limit). sets c.loop-e.out c.loop-e.p (threshold_bytes (threshold h))) own in
    let w = limits-more hs c.args.of.now.inner _ _ _ _ _ _ _ _ _ _ _ c.loop-e.invariant.put l n (each-here _ _ _ _ _ l c.loop-e.invariant.each).0
    c.put_limit-p.ensures.value out in
    record {
      from = omega arith;
      place = omega arith;
      room = put-length _ _ _ _ _ _ w;
      behind = c.loop-e.invariant.behind ∙ after_next hs _ _ _ _ l n;
      each = each_next hs _ _ _ _ _ l n c.loop-e.invariant.each;
      put = w;
    }

pub returns : goal.returns
returns c =
    record {
      value = sym (c.loop-e.invariant.behind ∙ after_none c.args.of.now.limits _ _ _ c.loop-e-test.false);
      out_after = limits-all c.args.of.now.limits c.args.of.now.inner _ _ _ _ _ _ _ _ c.loop-e.invariant.put c.loop-e-test.false;
    }
