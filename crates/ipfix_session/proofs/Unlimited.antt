-- A session that its limit of templates does not end gives all that it gives without one.
use Rattle.std.proofs.Common.{◌≡◌, ℕ, List, [], ◌∷◌, ◌++◌, Option, None, Some, true, refl, sym, ap, subst, ◌∙◌, append-nil, inl, inr}
use Rattle.std.specs.Prelude.{◌≢◌}
use Rattle.std.specs.Option.{ForSome}
use Rattle.std.specs.Io.KnownBytes.{Consumes}
use Rattle.ipfix_wire.proofs.Parts.{cases_read}
use Rattle.ipfix_message.specs.Domains.{History, Message}
use Rattle.ipfix_message.specs.TemplateLimits.{message_within}
use Rattle.ipfix_message.specs.declared.fault.MessageFault.{MessageFault}
use Rattle.ipfix_message.specs.declared.fault.MessageFault.TheVariants.{OutOfMemory}
use Rattle.ipfix_message.specs.declared.record.DataRecord.{DataRecord}
use Rattle.ipfix_message.proofs.TemplateLimits.{left_within}
use Rattle.ipfix_session.specs.declared.fault.SessionFault.{SessionFault}
use Rattle.ipfix_session.specs.declared.fault.SessionFault.TheVariants as faults
use Rattle.ipfix_session.specs.declared.report.SessionReport.{SessionReport}
use Rattle.ipfix_session.specs.declared.session_limits.SessionLimits.{SessionLimits}
use Rattle.ipfix_session.specs.declared.stop.Stop.{Stop}
use Rattle.ipfix_session.specs.declared.stop.Stop.TheVariants.{Clean}
use Rattle.ipfix_session.specs.Drives.{IsDueWithin, IsGivenWithin}
use Rattle.ipfix_session.specs.Given.{Given, given_within, gives, messages_give, messages_within, records_in, records_within, stop_after, stop_of, stop_within}
use Rattle.ipfix_session.specs.MessageStream.{cut, rest_stop}
use Rattle.ipfix_session.specs.Sources.{SourceView}
use Rattle.ipfix_session.proofs.Giving.{closed, give-next, give-none, give_within-fault, give_within-next, give_within-none, gives_within-is}

-- ---- a text

same_messages : (limit : Option ℕ) (ds : History) (ms : List (List ℕ)) → (messages_within limit ds ms).1 ≡ None → messages_within limit ds ms ≡ messages_give ds ms
same_messages limit ds [] none = give_within-none limit ds ∙ sym (give-none ds)
same_messages limit ds (m ∷ ms) none =
    elim (cases_read (message_within limit ds m)) [
      | inl good ↦
          let x = good.0 in
          let is = give_within-next limit ds m ms x good.1 in
          let rest = same_messages limit x.domains ms (sym (ap (λ (r : List Message × Option MessageFault). r.1) is) ∙ none) in
          is ∙ ap (λ (r : List Message × Option MessageFault). (x ∷ r.0, r.1)) rest ∙ sym (give-next ds m ms x (left_within limit ds m x good.1).0)
      | inr bad ↦
          let some = sym (ap (λ (r : List Message × Option MessageFault). r.1) (give_within-fault limit ds m ms bad.0 bad.1)) ∙ none in
          absurd cc
    ]

none_if_clean : (o : Option MessageFault) (s : Stop) → stop_after o s ≡ Clean → o ≡ None
none_if_clean None s clean = refl
none_if_clean (Some e) s clean = absurd cc

whole_within : (limit : Option ℕ) (text : List ℕ) → stop_within limit text ≡ Clean → given_within limit text ≡ gives text
whole_within limit text clean =
    let read = messages_within limit [] (cut text).items in
    let is : given_within limit text ≡ closed read (cut text).rest = gives_within-is limit [] text (cut text) refl in
    let none = none_if_clean read.1 (rest_stop (cut text).rest) (sym (ap (λ (g : Given). g.stop) is) ∙ clean) in
    is ∙ ap (λ (r : List Message × Option MessageFault). closed r (cut text).rest) (same_messages limit [] (cut text).items none) ∙ sym (gives_within-is None [] text (cut text) refl)

-- ---- a session without a fault

consumed_all : (before after : Option (List ℕ)) (whole gave : List ℕ) → before ≡ Some whole → Consumes before after gave → ForSome after (λ xs. xs ≡ []) → gave ≡ whole
consumed_all before None whole gave is some end = absurd (subst (λ b. Consumes b None gave) is some)
consumed_all before (Some left) whole gave is some end =
    let all : whole ≡ gave ++ left = subst (λ b. Consumes b (Some left) gave) is some in
    sym (all ∙ ap (λ (w : List ℕ). gave ++ w) (end left refl) ∙ append-nil gave)

-- its text is whole messages, of which it has all records, within its limit and without one
pub record HasAll (limit : Option ℕ) (whole : List ℕ) (records : List DataRecord) : Type 0 where
  pub clean : stop_of whole ≡ Clean
  pub within : records ≡ records_within limit whole
  pub same : given_within limit whole ≡ gives whole

pub given_all_within : {S : Type 0} (seen : S → SourceView) (limits : SessionLimits) (before after : S) (r : SessionReport) (records : List DataRecord) (whole : List ℕ)
    → ((seen after).ended ≡ true → ForSome (seen after).text (λ xs. xs ≡ []))
    → IsGivenWithin seen limits before after r records → r.fault ≡ None → (seen before).text ≡ Some whole → HasAll limits.templates whole records
given_all_within seen limits before after r records whole at_end g none is =
    let due : IsDueWithin None limits g.gave (seen before) (seen after) = subst (λ (o : Option SessionFault). IsDueWithin o limits g.gave (seen before) (seen after)) none g.given.fault_is_due in
    let all : g.gave ≡ whole = consumed_all (seen before).text (seen after).text whole g.gave is g.given.octets (at_end due.1) in
    let memory : r.fault ≢ Some (faults.Message OutOfMemory) = λ e. let no : None ≡ Some (faults.Message OutOfMemory) = sym none ∙ e in cc in
    let clean : stop_within limits.templates whole ≡ Clean = ap (stop_within limits.templates) (sym all) ∙ due.0 in
    let same = whole_within limits.templates whole clean in
    record {
      clean = ap (λ (w : Given). w.stop) (sym same) ∙ clean;
      within = g.records_are ∙ ap records_in (g.all memory) ∙ ap (records_within limits.templates) all;
      same = same;
    }
