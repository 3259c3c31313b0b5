-- A message, set by set.
use Rattle.std.proofs.Common.{◌≡◌, ℕ, ◌+◌, ◌<◌, true, eqb, List, ◌++◌, length, map, Option, Some, None, Result, Ok, Err, refl, sym, ap, subst, ◌∙◌, inl, inr}
use Rattle.std.specs.Prelude.{◌≢◌}
use Rattle.std.specs.Global.{Vec}
use Rattle.std.proofs.lemmas.Bool.{lt-ltb, eq-eqb}
use Rattle.ipfix_wire.specs.declared.header.Header.{Header}
use Rattle.ipfix_message.specs.declared.fault.MessageFault.{MessageFault}
use Rattle.ipfix_message.specs.declared.record.Template.{Template}
use Rattle.ipfix_message.specs.Fields.{Field}
use Rattle.ipfix_message.specs.declared.record.DataRecord.{DataRecord}
use Rattle.ipfix_message.specs.declared.template_record.TemplateKind.{TemplateKind}
use Rattle.ipfix_message.specs.declared.template_record.Event.{Event}
use Rattle.ipfix_message.specs.declared.message.Decoded.{Decoded}
use Rattle.ipfix_message.specs.Outcome.{◌>>=◌, unless, Fails, Gives}
use Rattle.ipfix_wire.specs.InTurn.{Parts, parts_of}
use Rattle.ipfix_message.specs.DataRecords.{records_of_body, record_of}
use Rattle.ipfix_message.specs.TemplatesInForce.{template_set_gives}
use Rattle.ipfix_message.specs.Sets.{Set, set_of, next_set, fault_after_sets}
use Rattle.ipfix_message.specs.Messages.{Decoding, one_skipped, one_unknown, more_ignored, templates_in, data_in, set_gives, sets_give, sets_from}
use Rattle.ipfix_message.specs.Held.{Updates, Holds, Reaches, extended}
use Rattle.ipfix_message.proofs.MessageSets.{sets_shrink, next_set-fault, next_set-nil}
use Rattle.ipfix_message.proofs.Reading.{Fails-of, ok_is, not_both, bind_ok, bind_err}
use Rattle.ipfix_wire.proofs.Parts.{parts_of-next, parts_of-none}
use Rattle.ipfix_wire.proofs.Choices.{different}

-- ---- one set

pub template_set : (kind : TemplateKind) (d : Decoding) (body : List ℕ) (entries news : List (ℕ × Template)) (p : Decoded) (n : ℕ) → Holds entries p d
    → Updates (Ok n) news (template_set_gives kind d.events body)
    → Reaches (Ok tt) news (record p { ignored_withdrawals = p.ignored_withdrawals + n }) (templates_in kind d body)
unfolding templates_in
template_set kind d body entries news p n holds updated = (
  record d { events = updated.0; passed_over = more_ignored n d.passed_over },
  ap (λ (read : Result (List Event × ℕ) MessageFault). read >>= λ r. Ok (record d { events = r.0; passed_over = more_ignored r.1 d.passed_over })) updated.1,
  record { templates = updated.2; records = holds.records; passed_over = ap (more_ignored n) holds.passed_over },
)

pub template_set_fails : (x : MessageFault) (kind : TemplateKind) (d : Decoding) (body : List ℕ) → Fails x (template_set_gives kind d.events body) → Fails x (templates_in kind d body)
unfolding templates_in
template_set_fails x kind d body fails =
    Fails-of x (template_set_gives kind d.events body) (templates_in kind d body) (λ f h.
    ap (λ (read : Result (List Event × ℕ) MessageFault). read >>= λ r. Ok (record d { events = r.0; passed_over = more_ignored r.1 d.passed_over })) h) fails

pub no_template : (h : Header) (d : Decoding) (body : List ℕ) (entries : List (ℕ × Template)) (p : Decoded) (o : Option Template) → Holds entries p d → o ≡ None
    → Reaches (Ok tt) entries (record p { unknown_sets = p.unknown_sets + 1 }) (data_in h d body o)
unfolding data_in
no_template h d body entries p o holds none = (
  record d { passed_over = one_unknown d.passed_over },
  ap (data_in h d body) none,
  record { templates = holds.templates; records = holds.records; passed_over = ap one_unknown holds.passed_over },
)

data_set_at : (h : Header) (d : Decoding) (body : List ℕ) (entries : List (ℕ × Template)) (p : Decoded) (t : Template) (result : Result (Unit {0}) MessageFault) (v : Vec DataRecord) → Holds entries p d
    → Gives (λ _. v.items) result (extended p.records.items h t body)
    → Reaches result entries (record p { records = v }) (data_in h d body (Some t))
unfolding data_in
data_set_at h d body entries p t (Ok x) v holds given =
    let a = bind_ok (records_of_body t.specs body) (λ rs. Ok (p.records.items ++ map (record_of h t) rs)) v.items given in
    let rs = map (record_of h t) a.0 in
    let same : v.items ≡ d.records ++ rs = sym (ok_is (p.records.items ++ rs) v.items a.2) ∙ ap (λ (xs : List DataRecord). xs ++ rs) holds.records in (
      record d { records = d.records ++ rs },
      ap (λ (read : Result (List (List Field)) MessageFault). read >>= λ rs'. Ok (record d { records = d.records ++ map (record_of h t) rs' })) a.1,
      record { templates = holds.templates; records = same; passed_over = holds.passed_over },
    )
data_set_at h d body entries p t (Err e) v holds given =
    Fails-of e (extended p.records.items h t body) (data_in h d body (Some t)) (λ f g.
    elim (bind_err (records_of_body t.specs body) (λ rs. Ok (p.records.items ++ map (record_of h t) rs)) f g) [
      | inl here ↦ ap (λ (read : Result (List (List Field)) MessageFault). read >>= λ rs'. Ok (record d { records = d.records ++ map (record_of h t) rs' })) here
      | inr later ↦ absurd (not_both (p.records.items ++ map (record_of h t) later.0) f later.2)
    ]) given

pub data_set : (h : Header) (d : Decoding) (body : List ℕ) (entries : List (ℕ × Template)) (p : Decoded) (o : Option Template) (t : Template) (result : Result (Unit {0}) MessageFault) (v : Vec DataRecord) → Holds entries p d → o ≡ Some t
    → Gives (λ _. v.items) result (extended p.records.items h t body)
    → Reaches result entries (record p { records = v }) (data_in h d body o)
data_set h d body entries p o t result v holds is given =
    subst (λ (x : Option Template). Reaches result entries (record p { records = v }) (data_in h d body x)) (sym is)
    (data_set_at h d body entries p t result v holds given)

-- ---- the sets in turn

sets_from-is : (h : Header) (d : Decoding) (w : List ℕ) → sets_from h d w ≡ (sets_give h d (parts_of next_set w).items >>= λ e. unless (fault_after_sets (parts_of next_set w).rest) e)
unfolding sets_from
sets_from-is h d w = refl

sets_from-step : (h : Header) (d : Decoding) (w : List ℕ) (s : Set) (r : List ℕ) (read : Result Decoding MessageFault) → next_set w ≡ Ok (s, r) → set_gives h d s ≡ read
    → sets_from h d w ≡ ((read >>= λ e. sets_give h e (parts_of next_set r).items) >>= λ e. unless (fault_after_sets (parts_of next_set r).rest) e)
unfolding sets_give
sets_from-step h d w s r read here is =
    sets_from-is h d w ∙ ap (λ (p : Parts Set). sets_give h d p.items >>= λ e. unless (fault_after_sets p.rest) e) (parts_of-next next_set sets_shrink w s r here)
    ∙ ap (λ (x : Result Decoding MessageFault). (x >>= λ e. sets_give h e (parts_of next_set r).items) >>= λ e. unless (fault_after_sets (parts_of next_set r).rest) e) is

pub sets_from-next : (h : Header) (d e : Decoding) (w : List ℕ) (s : Set) (r : List ℕ) → next_set w ≡ Ok (s, r) → set_gives h d s ≡ Ok e → sets_from h d w ≡ sets_from h e r
sets_from-next h d e w s r here is = sets_from-step h d w s r (Ok e) here is ∙ sym (sets_from-is h e r)

pub sets_from-fault : (h : Header) (d : Decoding) (w : List ℕ) (s : Set) (r : List ℕ) (f : MessageFault) → next_set w ≡ Ok (s, r) → set_gives h d s ≡ Err f → sets_from h d w ≡ Err f
sets_from-fault h d w s r f here is = sets_from-step h d w s r (Err f) here is

sets_from-none : (h : Header) (d : Decoding) (w : List ℕ) (f : MessageFault) → next_set w ≡ Err f → sets_from h d w ≡ unless (fault_after_sets w) d
unfolding sets_give
sets_from-none h d w f here = sets_from-is h d w ∙ ap (λ (p : Parts Set). sets_give h d p.items >>= λ e. unless (fault_after_sets p.rest) e) (parts_of-none next_set w f here)

pub sets_from-cut : (h : Header) (d : Decoding) (w : List ℕ) (f : MessageFault) → 0 < length w → next_set w ≡ Err f → sets_from h d w ≡ Err f
sets_from-cut h d w f some here =
    sets_from-none h d w f here ∙ ap (λ (o : Option MessageFault). unless o d) (next_set-fault w f some here)

pub sets_from-done : (h : Header) (d : Decoding) (w : List ℕ) → length w ≡ 0 → sets_from h d w ≡ Ok d
sets_from-done h d w none =
    let ended = next_set-nil w none in
    let yes : eqb (length w) 0 ≡ true = eq-eqb (length w) 0 none in
    sets_from-none h d w ended.0 ended.1 ∙ rw yes refl

-- ---- the loop over the sets

pub record Going (h : Header) (entries : List (ℕ × Template)) (p : Decoded) (w : List ℕ) (total : Result Decoding MessageFault) : Type 0 where
  pub decoding : Decoding
  pub holds : Holds entries p decoding
  pub same : sets_from h decoding w ≡ total

pub starts : (h : Header) (entries : List (ℕ × Template)) (p : Decoded) (d : Decoding) (w : List ℕ) → Holds entries p d → Going h entries p w (sets_from h d w)
starts h entries p d w holds = record { decoding = d; holds = holds; same = refl }

pub goes_on : (h : Header) (entries news : List (ℕ × Template)) (p q : Decoded) (w : List ℕ) (s : Set) (r : List ℕ) (total : Result Decoding MessageFault) → next_set w ≡ Ok (s, r)
    → ((d : Decoding) → Holds entries p d → Reaches (Ok tt) news q (set_gives h d s)) → Going h entries p w total → Going h news q r total
goes_on h entries news p q w s r total here taken going =
    let t = taken going.decoding going.holds in
    record { decoding = t.0; holds = t.2; same = sym (sets_from-next h going.decoding t.0 w s r here t.1) ∙ going.same }

pub faults : (x : MessageFault) (h : Header) (entries : List (ℕ × Template)) (p : Decoded) (w : List ℕ) (s : Set) (r : List ℕ) (total : Result Decoding MessageFault) → next_set w ≡ Ok (s, r)
    → ((d : Decoding) → Holds entries p d → Fails x (set_gives h d s)) → Going h entries p w total → Fails x total
faults x h entries p w s r total here fails going =
    Fails-of x (set_gives h going.decoding s) total (λ f is. sym going.same ∙ sets_from-fault h going.decoding w s r f here is) (fails going.decoding going.holds)

pub ends : (x : MessageFault) (h : Header) (entries : List (ℕ × Template)) (p : Decoded) (w : List ℕ) (total : Result Decoding MessageFault) → 0 < length w
    → Fails x (next_set w) → Going h entries p w total → Fails x total
ends x h entries p w total some fails going = Fails-of x (next_set w) total (λ f here. sym going.same ∙ sets_from-cut h going.decoding w f some here) fails

pub is_done : (h : Header) (entries : List (ℕ × Template)) (p : Decoded) (w : List ℕ) (total : Result Decoding MessageFault) → length w ≡ 0
    → Going h entries p w total → Reaches (Ok tt) entries p total
is_done h entries p w total none going = (going.decoding, sym going.same ∙ sets_from-done h going.decoding w none, going.holds)

pub skipped_set : (h : Header) (d : Decoding) (id : ℕ) (body : List ℕ) (entries : List (ℕ × Template)) (p : Decoded) → Holds entries p d → id ≢ 2 → id ≢ 3 → id < 256
    → Reaches (Ok tt) entries (record p { skipped_sets = p.skipped_sets + 1 }) (set_gives h d (set_of id body))
unfolding set_gives
skipped_set h d id body entries p holds two three below = (
  record d { passed_over = one_skipped d.passed_over },
  rw (different id 2 two, different id 3 three, lt-ltb id 256 below) refl,
  record { templates = holds.templates; records = holds.records; passed_over = ap one_skipped holds.passed_over },
)
