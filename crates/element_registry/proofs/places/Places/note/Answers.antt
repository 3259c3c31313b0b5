use Rattle.std.proofs.Common.{map, sym, rules}
use Rattle.std.proofs.lemmas.List.{length-map}
use Rattle.std.proofs.lemmas.Result.{err_from_is_err_and}
use Rattle.element_registry.specs.Registries.{shown}
use Rattle.element_registry.proofs.Noted.{noted_more, noted_numbers}
use Rattle.element_registry.proofs.places.Places.note.Goals as goal

pub returns-in_err-insert-2-clause-err : goal.returns-in_err-insert-2-clause-err
returns-in_err-insert-2-clause-err c =
    let e = err_from_is_err_and c.from_residual-in_err-insert-2.result c.from_residual-in_err-insert-2.ensures.1 in
    rw e.1
    (noted_numbers c.args.self.now c.insert.new.self c.insert-2.new.self (map shown c.args.entries.now) c.args.entry.now.element _ c.requires.noted c.requires.number c.in_ok-insert.ensures.updates c.in_err-insert-2.ensures.err)

pub returns-clause-ok : goal.returns-clause-ok
returns-clause-ok c =
    noted_more c.args.self.now (record { by_element = c.insert.new.self; by_name = c.insert-2.new.self }) (map shown c.args.entries.now) (shown c.args.entry.now) c.in_ok-name.name _
    (sym (length-map c.args.entries.now shown)) c.requires.noted c.requires.number c.requires.name (search rules) c.in_ok-insert.ensures.updates c.in_ok-insert-2.ensures.updates
