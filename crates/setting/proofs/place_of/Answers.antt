use Rattle.std.proofs.Common.{rules}
use Rattle.std.proofs.lemmas.List.Sorted.{answers_always}
use Rattle.meaning.specs.Register.{link_at}
use Rattle.register.specs.Reading.{key}
use Rattle.setting.proofs.Rows.{found-in}
use Rattle.setting.proofs.place_of.Goals as goal

-- the closure gives a row's number, and the rows are those of the links
pub returns : goal.returns
returns c =
    let r = c.args.read.now in
    let facts = c.binary_search_by_key.ensures in
    let by_key = facts.position (λ row. key (link_at row 0)) (answers_always _ _ _ (λ f a r g called. search rules)) in
    found-in r.bytes.now r.items r.links r.read c.links_of-rows.result.now c.links_of-rows.ensures c.args.number _ facts.bound by_key
