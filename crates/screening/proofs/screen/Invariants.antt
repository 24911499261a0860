-- `screening::screen`: the thresholds so far are satisfied by what stays.
use Rattle.graph.specs.Walked.{walked}
use Rattle.graph.specs.Sets.{Among}
use Rattle.graph.specs.On.{JudgedOn}
use Rattle.screening.specs.Standing.{AllStand}
use Rattle.screening.proofs.Through.{Through}
use Rattle.screening.proofs.screen.Given as goal

abbrev pub invariant-loop-k : goal.invariant-loop-k
invariant-loop-k l = record {
  among : Among l.on.items l.set.words;
  through : (j : JudgedOn l.on) (a : AllStand l.wanted.message.now l.wanted.parts.firsts l.wanted.parts.count)
      → Through (walked j.register) l.wanted.parts.owners a.thresholds l.node l.initial.set.words l.set.words l.k;
}
