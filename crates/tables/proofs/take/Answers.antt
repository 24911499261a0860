use mathlib.Core.Path.{refl}
use native.Mathlib.Omega.{arith}
use Rattle.graph.proofs.Empty.{zero-at}
use Rattle.tables.proofs.Stored.{tops-long, tops_fit, tops-folded}
use Rattle.tables.proofs.take.Goals as goal

pub gather-requires : goal.gather-requires
gather-requires c =
    record {
      by_index = (_, c.requires.in_order);
      role_bound = (omega (arith, c.from.ensures, c.ranges.role.fits), c.requires.from-fits, refl, λ x. zero-at 512 x);
    }

pub fold-requires : goal.fold-requires
fold-requires c =
    let w = c.requires in
    let long = c.gather.auto.tops in
    let is = rw c.from.ensures at c.gather.ensures c.args.over.now.image.now in
    record {
      in_bounds = omega (arith, w.at-fits, tops-long c.args.role c.args.«from» c.args.at c.args.scale c.args.product c.args.table.now c.gather.new.tops long is w.in_order.most);
      by_index = tops_fit c.args.role c.args.«from» c.args.at c.args.scale c.args.product c.args.table.now c.gather.new.tops long is w;
    }

pub returns : goal.returns
returns c =
    tops-folded c.args.role c.args.«from» c.args.at c.args.scale c.args.product c.args.table.now c.gather.new.tops c.gather.auto.tops
    (rw c.from.ensures at c.gather.ensures c.args.over.now.image.now) _ c.fold.ensures
