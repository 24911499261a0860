use Prim.Native.Nat.{◌+◌, ◌-◌, ◌<◌}
use Rattle.graph.specs.Judged.{end_no, role_no, spanned}
use Rattle.graph.specs.Sets.{Gathered}
use Rattle.graph.specs.On.{JudgedAlong}
use Rattle.graph.proofs.Walk.gather.Given as goal

abbrev pub invariant-loop-k : goal.invariant-loop-k
invariant-loop-k l =
    (j : JudgedAlong l.self) → (l.start < l.k → role_no j.register (l.k - 1) < l.role + 1)
    × Gathered (spanned (end_no j.register) l.start l.k) l.self.items l.fn.set.words l.set.words
