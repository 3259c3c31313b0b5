use Rattle.std.proofs.Common.{◌≡◌, [], ℕ, Bool, true, List, Ok, sym, subst, ◌∙◌, rules}
use Rattle.std.specs.Prelude.{option_copied}
use Rattle.std.specs.BTreeMap.{values}
use Rattle.std.proofs.lemmas.Result.{err_from_is_err_and}
use Rattle.ipfix_message.specs.Domains.{template_for}
use Rattle.ipfix_message.specs.Outcome.{Fails}
use Rattle.ipfix_message.specs.declared.record.Template.{Template}
use Rattle.ipfix_datagrams.specs.Datagrams.{Basis, given_after, template_in}
use Rattle.ipfix_datagrams.specs.Attempts.{IsPlain, Reads}
use Rattle.ipfix_datagrams.proofs.Attempting.{attempted, withdraws_more}
use Rattle.ipfix_datagrams.proofs.Answered.{no_values, no_room_refused, first_plainly, first_data, refused_plainly, refused_data, are_dropped, dropped_can, changes_can, first_changed, refused_changed}
use Rattle.ipfix_datagrams.proofs.reading.read_first.Goals as goal

abbrev basis_with : List Template → List ℕ → Basis
basis_with resumed barred = record { resumed = resumed; barred = barred }

pub returns-in_err-is_data-clause-reads : goal.returns-in_err-is_data-clause-reads
returns-in_err-is_data-clause-reads c = λ ds represents.
    let m = c.args.datagram.now in
    let h = c.args.header.now in
    let before = λ (id : ℕ). template_in (option_copied c.templates-in_force.result) id in
    let drops = c.in_ok-ended.ensures.items ∙ are_dropped c.args.barred.now ds m h.domain c.args.first.now before c.requires.first (λ id. c.templates-in_force.ensures.found represents.fresh ds represents.stands id) in
    let p = err_from_is_err_and c.from_residual-in_err-is_data.result c.from_residual-in_err-is_data.ensures.1 in
    let plain = c.in_err-is_data.ensures ds represents in
    let none : c.in_ok-ended.ended.items ≡ [] = sym c.deref.ensures.value ∙ plain.0 in
    rw (p.1, p.2) (λ resumed. refused_data (basis_with resumed c.args.barred.now) ds m h c.in_ok-ended.ended.items c.in_err-is_data.field-0.0 c.requires.kept c.requires.header drops none plain.1 plain.2)

pub returns-then-is_data-clause-reads : goal.returns-then-is_data-clause-reads
returns-then-is_data-clause-reads c = λ ds represents.
    let m = c.args.datagram.now in
    let h = c.args.header.now in
    let before = λ (id : ℕ). template_in (option_copied c.templates-in_force.result) id in
    let drops = c.in_ok-ended.ensures.items ∙ are_dropped c.args.barred.now ds m h.domain c.args.first.now before c.requires.first (λ id. c.templates-in_force.ensures.found represents.fresh ds represents.stands id) in
    let is : c.in_ok-is_data.is_data ≡ true = search rules in
    let plain = subst (λ (b : Bool). IsPlain (Ok b) c.deref.result.now ds m) is (c.in_ok-is_data.ensures ds represents) in
    first_data c.args.barred.now ds m h c.in_ok-ended.ended.items c.requires.header drops (sym c.deref.ensures.value ∙ plain.0) plain.1

pub returns-then-not-has_room-clause-reads : goal.returns-then-not-has_room-clause-reads
returns-then-not-has_room-clause-reads c = λ ds represents. λ resumed. no_room_refused (basis_with resumed c.args.barred.now) ds c.args.datagram.now c.args.header.now c.requires.kept c.requires.header (c.if-not-has_room.ensures ds represents.stands)

pub returns-in-Ok-clause-reads : goal.returns-in-Ok-clause-reads
returns-in-Ok-clause-reads c = λ ds represents.
    let m = c.args.datagram.now in
    let d = c.args.header.now.domain in
    let b = c.args.barred.now in
    let ws = c.in_ok-ended.ended.items in
    let before = λ (id : ℕ). template_in (option_copied c.templates-in_force.result) id in
    let drops = c.in_ok-ended.ensures.items ∙ are_dropped b ds m d c.args.first.now before c.requires.first (λ id. c.templates-in_force.ensures.found represents.fresh ds represents.stands id) in
    first_plainly b ds m d ws c.in-Ok.after drops (attempted c.args.domains.now ds d ws c.deref-2.result.now [] (values c.new-none.result) (λ p. Reads ds d p m c.in-Ok.after) represents
    (c.if-not-has_room.ensures ds represents.stands) c.deref-2.ensures.value (no_values c.new-none.result c.new-none.ensures.len) (dropped_can b ds m d ws drops) (c.in-Ok.ensures ds))

pub returns-then-not-is_change-clause-reads : goal.returns-then-not-is_change-clause-reads
returns-then-not-is_change-clause-reads c = λ ds represents.
    let m = c.args.datagram.now in
    let h = c.args.header.now in
    let d = h.domain in
    let b = c.args.barred.now in
    let ws = c.in_ok-ended.ended.items in
    let before = λ (id : ℕ). template_in (option_copied c.templates-in_force.result) id in
    let drops = c.in_ok-ended.ensures.items ∙ are_dropped b ds m d c.args.first.now before c.requires.first (λ id. c.templates-in_force.ensures.found represents.fresh ds represents.stands id) in
    let fails = attempted c.args.domains.now ds d ws c.deref-2.result.now [] (values c.new-none.result) (λ p. Fails c.in-Err.fault (given_after ds d p m)) represents
    (c.if-not-has_room.ensures ds represents.stands) c.deref-2.ensures.value (no_values c.new-none.result c.new-none.ensures.len) (dropped_can b ds m d ws drops) (c.in-Err.ensures ds) in
    λ resumed. refused_plainly (basis_with resumed b) ds m h ws c.in-Err.fault c.requires.kept c.requires.header drops c.if-not-is_change.ensures fails

-- the templates that it replaces are withdrawn, and it is read again
pub returns-in-Ok-attempt-clause-reads : goal.returns-in-Ok-attempt-clause-reads
returns-in-Ok-attempt-clause-reads c = λ ds represents.
    let m = c.args.datagram.now in
    let d = c.args.header.now.domain in
    let b = c.args.barred.now in
    let ws = c.in_ok-ended.ended.items in
    let vs = c.in_ok-withdrawn.withdrawn.items in
    let before = λ (id : ℕ). template_in (option_copied c.templates-in_force.result) id in
    let found : (id : ℕ) → before id ≡ template_for ds d id = λ id. c.templates-in_force.ensures.found represents.fresh ds represents.stands id in
    let drops = c.in_ok-ended.ensures.items ∙ are_dropped b ds m d c.args.first.now before c.requires.first found in
    let room = c.if-not-has_room.ensures ds represents.stands in
    let none = no_values c.new-none.result c.new-none.ensures.len in
    let fails = attempted c.args.domains.now ds d ws c.deref-2.result.now [] (values c.new-none.result) (λ p. Fails c.in-Err.fault (given_after ds d p m)) represents room c.deref-2.ensures.value none (dropped_can b ds m d ws drops) (c.in-Err.ensures ds) in
    let changes = withdraws_more b ds m d ws vs c.args.first.now before c.in-Err.fault drops c.if-not-is_change.ensures fails c.requires.first c.in_ok-withdrawn.ensures.ordered found c.in_ok-withdrawn.ensures.items in
    first_changed b ds m d vs c.in-Ok-attempt.after changes
    (attempted c.args.domains.now ds d vs c.deref-3.result.now [] (values c.new-none.result) (λ p. Reads ds d p m c.in-Ok-attempt.after) represents room c.deref-3.ensures.value none (changes_can b ds m d vs changes) (c.in-Ok-attempt.ensures ds))

pub returns-clause-reads : goal.returns-clause-reads
returns-clause-reads c = λ ds represents.
    let m = c.args.datagram.now in
    let h = c.args.header.now in
    let d = h.domain in
    let b = c.args.barred.now in
    let ws = c.in_ok-ended.ended.items in
    let vs = c.in_ok-withdrawn.withdrawn.items in
    let before = λ (id : ℕ). template_in (option_copied c.templates-in_force.result) id in
    let found : (id : ℕ) → before id ≡ template_for ds d id = λ id. c.templates-in_force.ensures.found represents.fresh ds represents.stands id in
    let drops = c.in_ok-ended.ensures.items ∙ are_dropped b ds m d c.args.first.now before c.requires.first found in
    let room = c.if-not-has_room.ensures ds represents.stands in
    let none = no_values c.new-none.result c.new-none.ensures.len in
    let fails = attempted c.args.domains.now ds d ws c.deref-2.result.now [] (values c.new-none.result) (λ p. Fails c.in-Err.fault (given_after ds d p m)) represents room c.deref-2.ensures.value none (dropped_can b ds m d ws drops) (c.in-Err.ensures ds) in
    let changes = withdraws_more b ds m d ws vs c.args.first.now before c.in-Err.fault drops c.if-not-is_change.ensures fails c.requires.first c.in_ok-withdrawn.ensures.ordered found c.in_ok-withdrawn.ensures.items in
    λ resumed. refused_changed (basis_with resumed b) ds m h vs c.in-Err-attempt.fault c.requires.kept c.requires.header changes
    (attempted c.args.domains.now ds d vs c.deref-3.result.now [] (values c.new-none.result) (λ p. Fails c.in-Err-attempt.fault (given_after ds d p m)) represents room c.deref-3.ensures.value none (changes_can b ds m d vs changes) (c.in-Err-attempt.ensures ds))
