-- `screening::grade` meets its contract: the inner concept that was read again is marked, and its degrees are worked out.
-- Assumes nothing.
use Rattle.graph.proofs.Judging.{judged}
use Rattle.screening.proofs.Inner.{concept-arrays, inner-held, inner-gradable}
use Rattle.screening.proofs.grade.Goals as goal

pub reduce-requires : goal.reduce-requires
reduce-requires c =
    let t = c.of-tree.ensures in
    let rows = concept-arrays _ _ _ _ t.names t.roles t.ends c.read_concept.ensures in
    let one = c.requires.one_stands in
    inner-held _ _ one.threshold one.stands _ c.two.ensures.value _ _ _ rows

pub degrees-requires : goal.degrees-requires
degrees-requires c =
    let t = c.of-tree.ensures in
    let rows = concept-arrays _ _ _ _ t.names t.roles t.ends c.read_concept.ensures in
    let one = c.requires.one_stands in
    record {
      gradable = inner-gradable _ _ one.threshold one.stands _ c.two.ensures.value _ _ _ rows (judged c.args.on.now.judged) _ c.reduce.ensures;
      items = c.requires.among;
    }

pub returns : goal.returns
returns c = λ j h st.
    let t = c.of-tree.ensures in
    let rows = concept-arrays _ _ _ _ t.names t.roles t.ends c.read_concept.ensures in
    c.degrees.ensures (inner-gradable _ _ h st _ c.two.ensures.value _ _ _ rows j _ c.reduce.ensures)
