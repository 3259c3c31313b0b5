use Rattle.std.proofs.Common.{rules}
use Rattle.std.proofs.lemmas.List.Sorted.{answers_always}
use Rattle.ipfix_elements.proofs.Rising.{no_entry, found, absent}
use Rattle.ipfix_elements.proofs.element.find_by_number.Goals as goal

-- the closure gives an entry's number
pub returns-in_err-place : goal.returns-in_err-place
returns-in_err-place c =
    let facts = c.binary_search_by_key.ensures in
    let by_key = facts.position (λ row. row.number) (answers_always _ _ _ (λ f a r g called. search rules)) in
    rw c.from_residual.ensures (absent c.args.table.now no_entry c.args.number c.requires c.binary_search_by_key.result facts.bound by_key c.in_err-place.ensures.value)

pub returns : goal.returns
returns c =
    let facts = c.binary_search_by_key.ensures in
    let by_key = facts.position (λ row. row.number) (answers_always _ _ _ (λ f a r g called. search rules)) in
    found c.args.table.now _ c.args.number c.requires c.binary_search_by_key.result c.in_ok-place.place facts.bound by_key c.in_ok-place.ensures.value
