use Prim.Native.Nat.{◌-◌, ◌<◌}
use Rattle.graph.specs.Judged.{role_no}
use Rattle.graph.specs.On.{JudgedAlong}
use Rattle.graph.proofs.Walk.from_role.Given as goal

abbrev pub invariant-loop-k : goal.invariant-loop-k
invariant-loop-k l =
    (j : JudgedAlong l.self) → l.begin < l.k → role_no j.register (l.k - 1) < l.role
