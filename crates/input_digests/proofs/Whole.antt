-- Without a fault all octets of a text count.
use Rattle.std.proofs.Common.{◌≡◌, ℕ, ◌<◌, ◌≤◌, List, [], ◌∷◌, ◌++◌, length, drop, refl, sym, ap, subst, ◌∙◌, arith}
use Rattle.std.specs.Prelude.{◌^◌, true, Option, Some, None}
use Rattle.std.specs.Io.KnownBytes.{Consumes}
use Rattle.std.specs.Option.{ForSome}
use Rattle.std.proofs.lemmas.List.{append-nil, length-drop}
use Rattle.ipfix_message.specs.Domains.{History}
use Rattle.ipfix_session.specs.declared.fault.SessionFault.{SessionFault}
use Rattle.ipfix_session.specs.declared.report.FullReport.{FullReport}
use Rattle.ipfix_session.specs.declared.report.MessagePlace.{MessagePlace}
use Rattle.ipfix_session.specs.declared.session_limits.SessionLimits.{SessionLimits}
use Rattle.ipfix_session.specs.declared.stop.Stop.{Stop}
use Rattle.ipfix_session.specs.declared.stop.Stop.TheVariants.{Clean}
use Rattle.ipfix_session.specs.Drives.{DrivesTo, IsDueWithin, PutsUpTo}
use Rattle.ipfix_session.specs.Given.{Given, given_within, gives_within, known_after, stop_within}
use Rattle.ipfix_session.specs.Places.{ReportsInFull}
use Rattle.ipfix_session.specs.Sinks.{SinkView}
use Rattle.ipfix_session.specs.Sources.{SourceView}
use Rattle.ipfix_session.proofs.Cut.{next_stop}
use Rattle.ipfix_session.proofs.Giving.{gives_within-stop}
use Rattle.ipfix_session.proofs.Places.{place_is_within, stops_at_place_within}
use Rattle.ipfix_session.proofs.Reaching.{never_clean}
use Rattle.input_digests.proofs.Counted.{no_message, octets_before}

abbrev ends_so : Stop → Given
ends_so s = record { messages = []; stop = s }

-- what gives no message and stops clean is nothing
clean_rest : (limit : Option ℕ) (ds : History) (r : List ℕ) → gives_within limit ds r ≡ ends_so Clean → r ≡ []
clean_rest limit ds [] none = refl
clean_rest limit ds (b ∷ w) none =
    let rest = no_message limit ds (b ∷ w) Clean none tt in
    let same : rest.stop ≡ Clean = ap (λ (g : Given). g.stop) (sym (gives_within-stop limit ds (b ∷ w) rest.stop rest.none) ∙ none) in
    absurd (never_clean b w (next_stop (b ∷ w) rest.stop rest.none ∙ same))

all_count : (limit : Option ℕ) (text : List ℕ) → stop_within limit text ≡ Clean → length text ≤ octets_before limit text
all_count limit text clean =
    let rest = drop (octets_before limit text) text in
    let empty = clean_rest limit (known_after [] (given_within limit text).messages) rest (stops_at_place_within limit text ∙ ap ends_so clean) in
    let none : length rest ≡ 0 = ap length empty in
    omega (arith, none, length-drop {A = ℕ})

gave_all : (text gave : List ℕ) (after : Option (List ℕ)) → Consumes (Some text) after gave → ForSome after (λ xs. xs ≡ []) → text ≡ gave
gave_all text gave None c end = absurd c
gave_all text gave (Some left) c end = c ∙ ap (λ (w : List ℕ). gave ++ w) (end left refl) ∙ append-nil gave

pub whole_counts : {S K : Type 0} (seen : S → SourceView) (view : SinkView K) (limits : SessionLimits) (before after : S) (first last : K) (full : FullReport) (text : List ℕ)
    → ((seen after).ended ≡ true → ForSome (seen after).text (λ xs. xs ≡ [])) → DrivesTo seen view limits before after first last full.report.fault (ReportsInFull full)
    → full.report.fault ≡ None → (seen before).text ≡ Some text → length text < 2 ^ 64 → length text ≤ full.stopped_at.octet
whole_counts seen view limits before after first last full text at_end d none start small =
    let due : IsDueWithin None limits d.gave (seen before) (seen after) = subst (λ (o : Option SessionFault). IsDueWithin o limits d.gave (seen before) (seen after)) none d.given.fault_is_due in
    let given : Consumes (Some text) (seen after).text d.gave = subst (λ (o : Option (List ℕ)). Consumes o (seen after).text d.gave) start d.given.octets in
    let all : text ≡ d.gave = gave_all text d.gave (seen after).text given (at_end due.1) in
    let puts : PutsUpTo view None (given_within limits.templates d.given.stops.earlier).messages (given_within limits.templates d.gave).messages d.middle last (ReportsInFull full) =
    subst (λ (o : Option SessionFault). PutsUpTo view o (given_within limits.templates d.given.stops.earlier).messages (given_within limits.templates d.gave).messages d.middle last (ReportsInFull full)) none d.puts in
    let here = ap (λ (p : MessagePlace). p.octet) (puts.tells.counts.stopped_at ∙ place_is_within limits.templates d.gave) in
    let counts = all_count limits.templates d.gave due.0 in
    omega (arith, here, counts, ap length all, small)
