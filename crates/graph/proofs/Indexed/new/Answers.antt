use native.Mathlib.Omega.{arith}
use Rattle.register.specs.Held.{held}
use Rattle.register.proofs.Holding.{good-is}
use Rattle.graph.proofs.Asked.{all-served}
use Rattle.graph.proofs.Empty.{zero-at}
use Rattle.graph.proofs.Index.{begins-all, flag-long, flag-aside, flag-there, noted-yes}
use Rattle.graph.proofs.Judging.{read-few, is-judged}
use Rattle.graph.proofs.Indexed.new.Goals as goal

pub note_ends-requires : goal.note_ends-requires
note_ends-requires c =
    zero-at 514

pub raise-requires : goal.raise-requires
raise-requires c =
    let q = read-few _ _ _ c.args.read.now.read in omega arith

pub none_out-requires : goal.none_out-requires
none_out-requires c =
    let r = c.args.read.now.read in record { register = held c.args.read.now.bytes.now; read = good-is _ r.0; holds = r.1 }

pub invariant_of-result : goal.invariant_of-result
invariant_of-result c =
    let s = c.args.read.now.bytes.now in
    let r = c.args.read.now.read in
    let g = held s in
    let few = (read-few _ _ _ r).0 in
    let mid = c.raise.new.index in
    record {
      judged = is-judged r.3 (record {
        register = g;
        read = good-is s r.0;
        items-are = r.1;
        most = few;
        room = flag-long g.links 0 mid c.from.result c.raise.array_long;
        indexed = flag-aside g.links c.args.read.now.items mid c.from.result c.raise.array_long few
            (begins-all s r.3 g (good-is s r.0) _ _ _ (rw r.2 at c.note_ends.ensures) c.raise.ensures);
        serving = λ z. all-served g _ r.1
            (c.none_out.ensures (noted-yes _ (rw c.from.ensures at (flag-there g.links 0 mid c.from.result c.raise.array_long z))) g (good-is s r.0));
      });
    }
