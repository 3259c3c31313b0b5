use Rattle.std.proofs.Common.{◌≡◌, true, false, is_some, refl, ◌∙◌, arith, rules}
use Rattle.std.specs.Prelude.{nat_eq}
use Rattle.indexmap.specs.IndexMap.{get}
use Rattle.indexmap.proofs.CallerLemmas.{insert_entry-new}
use Rattle.ipfix_message.proofs.History.{admit-known, admit-full, admit-room, admit-new, none_is}
use Rattle.ipfix_message.proofs.message.admit.Goals as goal

pub returns-then-contains_key-clause-gives : goal.returns-then-contains_key-clause-gives
returns-then-contains_key-clause-gives c = λ ds stands.
    let there : is_some (get nat_eq c.args.known.now c.args.domain) ≡ true = search rules in
    admit-known c.args.known.now.entries ds c.args.domain stands there

pub returns-then-len-ge-MAX_DOMAINS-clause-gives : goal.returns-then-len-ge-MAX_DOMAINS-clause-gives
returns-then-len-ge-MAX_DOMAINS-clause-gives c = λ ds stands.
    let new : is_some (get nat_eq c.args.known.now c.args.domain) ≡ false = search rules in
    admit-full c.args.known.now.entries ds c.args.domain stands new (omega (arith, c.len.ensures.len, c.if-len-ge-MAX_DOMAINS.true))

pub returns-in_err-insert-clause-memory : goal.returns-in_err-insert-clause-memory
returns-in_err-insert-clause-memory c = λ want ds stands.
    let new : is_some (get nat_eq c.args.known.now c.args.domain) ≡ false = search rules in
    rw (admit-room c.args.known.now.entries ds c.args.domain stands new (omega (arith, c.len.ensures.len, c.if-len-ge-MAX_DOMAINS.false))) refl

pub returns-clause-gives : goal.returns-clause-gives
returns-clause-gives c = λ ds stands.
    let new : is_some (get nat_eq c.args.known.now c.args.domain) ≡ false = search rules in
    admit-new c.args.known.now.entries c.insert.new.self.entries ds c.args.domain c.new.result stands new (omega (arith, c.len.ensures.len, c.if-len-ge-MAX_DOMAINS.false))
    (c.in_ok-insert.ensures.entries ∙ insert_entry-new nat_eq c.args.known.now c.args.domain c.new.result (none_is _ new)) c.new.ensures.empty
