use Rattle.std.proofs.Common.{◌≡◌, ◌<◌, ◌^◌, [], ◌++◌, Some, None, subst, sym, rules, false}
use Rattle.std.specs.Prelude.{option_copied, nat_eq, is_some}
use Rattle.std.specs.Option.{unwrap_or}
use Rattle.std.specs.BTreeMap.{values}
use Rattle.std.proofs.lemmas.List.Elements.{All-nil}
use Rattle.recording_files.specs.Preambles.{IsTemplate}
use Rattle.std.specs.Map.{lookup}
use Rattle.ipfix_session.specs.Given.{known_after}
use Rattle.recording_files.specs.Recorders.{State, KeepsWithin, Leading}
use Rattle.recording_files.proofs.Leading.{ok_for, on_ok, on_ok_3, new_domain, leads, bare, none_found, all_found}
use Rattle.recording_files.proofs.recorder.Recorder.append_lead.Goals as goal

pub returns-in_default-clause-lead : goal.returns-in_default-clause-lead
returns-in_default-clause-lead c = λ limit before here keeps.
    let inside : State = record { domains = c.self.inside.domains; limit = c.self.inside.limit; due = c.self.inside.due.entries; here = c.self.inside.here.entries; kept = c.self.inside.kept.items } in
    let now : KeepsWithin limit inside before here = subst (λ (s : State). KeepsWithin limit s before here) (sym c.self.view_is) keeps in
    let none : lookup (nat_eq c.args.header.now.domain) c.self.inside.due.entries ≡ None = search rules in
    new_domain inside before here c.args.header.now c.args.out.now.items now none

pub returns-in-None-clause-lead : goal.returns-in-None-clause-lead
returns-in-None-clause-lead c = ok_for c.args.self.now (Leading c.args.header.now c.args.out.now.items c.append_bare_message.new.out.items) c.append_bare_message.result (λ limit before here keeps.
    let inside : State = record { domains = c.self.inside.domains; limit = c.self.inside.limit; due = c.self.inside.due.entries; here = c.self.inside.here.entries; kept = c.self.inside.kept.items } in
    let now : KeepsWithin limit inside before here = subst (λ (s : State). KeepsWithin limit s before here) (sym c.self.view_is) keeps in
    let ds = known_after [] (before ++ here) in
    let d = c.args.header.now.domain in
    let found : lookup (nat_eq c.args.header.now.domain) c.self.inside.due.entries ≡ Some c.in-Some.due = search rules in
    let absent : is_some (lookup (nat_eq c.args.header.now.domain) c.self.inside.here.entries) ≡ false = search rules in
    let sequence : c.unwrap_or.result ≡ unwrap_or c.in-Some.due c.args.header.now.sequence = search rules in
    let time : c.args.header.now.export_time < 2 ^ 32 = search rules in
    let small : c.unwrap_or.result < 2 ^ 32 = search rules in
    let domain : c.args.header.now.domain < 2 ^ 32 = search rules in
    let same = c.templates.ensures.found now.not_spent ds now.known in
    let none : option_copied c.templates.result ≡ None = search rules in
    on_ok c.append_bare_message.result (λ written. leads inside before here c.args.header.now c.in-Some.due c.unwrap_or.result [] c.args.out.now.items c.append_bare_message.new.out.items now found absent sequence time small domain
    (none_found ds d (option_copied c.templates.result) none same) (All-nil IsTemplate) (bare c.args.out.now.items c.append_bare_message.new.out.items (record { export_time = c.args.header.now.export_time; sequence = c.unwrap_or.result; domain = c.args.header.now.domain }) written)) c.append_bare_message.ensures)

pub returns-in-Some-templates-clause-lead : goal.returns-in-Some-templates-clause-lead
returns-in-Some-templates-clause-lead c = ok_for c.args.self.now (Leading c.args.header.now c.args.out.now.items c.append_preamble.new.out.items) c.append_preamble.result (λ limit before here keeps.
    let inside : State = record { domains = c.self.inside.domains; limit = c.self.inside.limit; due = c.self.inside.due.entries; here = c.self.inside.here.entries; kept = c.self.inside.kept.items } in
    let now : KeepsWithin limit inside before here = subst (λ (s : State). KeepsWithin limit s before here) (sym c.self.view_is) keeps in
    let ds = known_after [] (before ++ here) in
    let d = c.args.header.now.domain in
    let found : lookup (nat_eq c.args.header.now.domain) c.self.inside.due.entries ≡ Some c.in-Some.due = search rules in
    let absent : is_some (lookup (nat_eq c.args.header.now.domain) c.self.inside.here.entries) ≡ false = search rules in
    let sequence : c.unwrap_or.result ≡ unwrap_or c.in-Some.due c.args.header.now.sequence = search rules in
    let time : c.args.header.now.export_time < 2 ^ 32 = search rules in
    let small : c.unwrap_or.result < 2 ^ 32 = search rules in
    let domain : c.args.header.now.domain < 2 ^ 32 = search rules in
    let same = c.templates.ensures.found now.not_spent ds now.known in
    let m = c.in-Some-templates.templates.now in
    let some : option_copied c.templates.result ≡ Some c.in-Some-templates.templates.now = search rules in
    on_ok_3 c.append_preamble.result (λ ordered writable written. leads inside before here c.args.header.now c.in-Some.due c.unwrap_or.result (values m) c.args.out.now.items c.append_preamble.new.out.items now found absent sequence time small domain
    (all_found ds d (option_copied c.templates.result) m some ordered same) writable written) c.append_preamble.ensures.ordered c.append_preamble.ensures.writable c.append_preamble.ensures.octets)
