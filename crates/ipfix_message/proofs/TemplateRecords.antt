-- Template records: what is read is what is spelled, and each fault is the first that fits.
use Rattle.std.proofs.Common.{◌≡◌, ℕ, zero, suc, ◌^◌, ◌<◌, ◌≤◌, Bool, true, false, cond, ltb, eqb, List, [], ◌∷◌, ◌++◌, length, get_or, take, drop, Option, Some, None, Result, Ok, Err, refl, sym, ap, subst, ◌∙◌, append_assoc, arith, inl, inr}
use Rattle.std.specs.Prelude.{◌⊎◌, ◌||◌, ◌↔◌}
use Rattle.std.specs.List.{list_all}
use Rattle.std.specs.Result.{result_err}
use Rattle.std.proofs.lemmas.Bool.{cases_Bool, ltb-true, ltb-false, le-ltb, lt-ltb, eqb-true, eqb-false, eq-eqb, cond_both}
use Rattle.std.proofs.lemmas.List.{append-nil, length-append, length-drop, get_or-drop, take-append-drop, drop_at}
use Rattle.std.proofs.lemmas.List.Sums.{AllPass-from_list_all, list_all-from_AllPass}
use Rattle.byteorder.specs.Endian.{big_bytes, big_number}
use Rattle.ipfix_wire.specs.Numbers.{number_at, IsOctets}
use Rattle.ipfix_wire.specs.FieldSpecifier.{spec_at}
use Rattle.ipfix_wire.specs.declared.specifier.Spec.{Spec}
use Rattle.ipfix_wire.specs.InTurn.{IsLongest, Parts, InTurn}
use Rattle.ipfix_wire.proofs.Octets.{IsOctets-drop, octets_2, short_spec_spelled, IsOctets-rest}
use Rattle.ipfix_wire.proofs.Parts.{Shrinks, Reads, Spelled, cases_read, parts_of-only}
use Rattle.ipfix_wire.proofs.Longest.{longest_from, longest_only}
use Rattle.ipfix_message.specs.declared.fault.MessageFault.{MessageFault}
use Rattle.ipfix_message.specs.declared.fault.MessageFault.TheVariants.{TemplateId, TemplateCut, Scope, ZeroLength}
use Rattle.ipfix_message.specs.declared.record.Template.{Template}
use Rattle.ipfix_message.specs.declared.template_record.TemplateKind.{TemplateKind}
use Rattle.ipfix_message.specs.declared.template_record.TemplateKind.TheVariants.{Plain, Options}
use Rattle.ipfix_message.specs.declared.template_record.Event.{Event}
use Rattle.ipfix_message.specs.declared.template_record.Event.TheVariants.{Define, Withdraw, WithdrawAll}
use Rattle.ipfix_message.specs.Outcome.{◌>>=◌}
use Rattle.ipfix_message.specs.SpelledFields.{least}
use Rattle.ipfix_message.specs.TemplateRecords.{set_id_of, IsScope, scope_octets, SpellsEvent, IsPadding, IsTemplateSet, FirstOf, HasWrongId, MissesScope, HasWrongScope, behind_counts, BeginsWith, MissesSpec, HasNoOctets, FaultOf, FaultAt, scope_at, one_spec, specs_at, withdrawal, definition, record_at, event_at, events_of, is_padding, fault_after_events}
use Rattle.ipfix_wire.proofs.Choices.{chosen, different, or_true, or_false, or_right, both_true}
use Rattle.ipfix_message.proofs.Reading.{ok_is, not_both, bind_ok}
use Rattle.ipfix_message.proofs.FieldSpecifiers.{specs_at-found, specs_at-only, specs_at-fault, specs_at-begins, specs_at-misses}

-- ---- padding

pub is_padding-tells : (w : List ℕ) → is_padding w ≡ true ↔ IsPadding w
is_padding-tells w = (
  λ h. elim (or_true (ltb (length w) 4) (list_all (λ b. eqb b 0) w) h) [
    | inl short ↦ inl (ltb-true (length w) 4 short)
    | inr zeros ↦ inr (λ k d lt. eqb-true (get_or w k d) 0 (AllPass-from_list_all (λ b. eqb b 0) w zeros k d lt))
  ],
  λ h. elim h [
    | inl short ↦ rw (lt-ltb (length w) 4 short) refl
    | inr zeros ↦ or_right (ltb (length w) 4) (list_all (λ b. eqb b 0) w) (list_all-from_AllPass (λ b. eqb b 0) w (λ k d lt. eq-eqb (get_or w k d) 0 (zeros k d lt)))
  ],
)

-- ---- the first fault that fits

-- no two faults are the first
first_one : (P : Type 0) (e : MessageFault) (M N : Type 0) (f g : MessageFault) → (M → N → f ≡ g) → FirstOf P e M f → FirstOf P e N g → f ≡ g
first_one P e M N f g more (inl a) (inl b) = a.1 ∙ sym b.1
first_one P e M N f g more (inl a) (inr b) = absurd (b.0 a.0)
first_one P e M N f g more (inr a) (inl b) = absurd (a.0 b.0)
first_one P e M N f g more (inr a) (inr b) = more a.1 b.1

one_fault : (kind : TemplateKind) (id count : ℕ) (w : List ℕ) (f g : MessageFault) → FaultOf kind id count w f → FaultOf kind id count w g → f ≡ g
one_fault kind id count w f g =
    first_one _ _ _ _ f g (first_one _ _ _ _ f g (first_one _ _ _ _ f g (first_one _ _ _ _ f g (first_one _ _ _ _ f g (λ a b. absurd a)))))

none_fits : (P : Type 0) (e : MessageFault) (M : Type 0) (f : MessageFault) → ¬ P → ¬ M → ¬ FirstOf P e M f
none_fits P e M f one more (inl a) = one a.0
none_fits P e M f one more (inr a) = more a.1

-- where none of the five fits there is no fault
no_fault : (kind : TemplateKind) (id count : ℕ) (w : List ℕ) → ¬ HasWrongId kind id count → ¬ MissesScope kind count w → ¬ HasWrongScope kind count w → ¬ MissesSpec count (behind_counts kind w) → ¬ HasNoOctets count (behind_counts kind w)
    → (f : MessageFault) → ¬ FaultOf kind id count w f
no_fault kind id count w a b c d e f = none_fits _ _ _ f a (none_fits _ _ _ f b (none_fits _ _ _ f c (none_fits _ _ _ f d (none_fits _ _ _ f e (λ x. x)))))

-- a fault that is answered is the first that fits, and where a record is answered none fits
abbrev Judged : TemplateKind → ℕ → ℕ → List ℕ → Result (Event × List ℕ) MessageFault → Type 0
Judged kind id count w (Ok x) = (f : MessageFault) → ¬ FaultOf kind id count w f
Judged kind id count w (Err f) = FaultOf kind id count w f

no_scope_missed : (kind : TemplateKind) (count : ℕ) (w : List ℕ) → count ≡ 0 → ¬ MissesScope kind count w
no_scope_missed Plain count w empty h = h
no_scope_missed Options count w empty h = omega (arith, empty, h.0)

no_wrong_scope : (kind : TemplateKind) (count : ℕ) (w : List ℕ) → count ≡ 0 → ¬ HasWrongScope kind count w
no_wrong_scope Plain count w empty h = h
no_wrong_scope Options count w empty h = omega (arith, empty, h.0)

no_specs : (w : List ℕ) → BeginsWith [] w
no_specs w = record { text = []; rest = w; whole = refl; in_turn = refl }

-- a withdrawal has no fault but its id
withdraws : (kind : TemplateKind) (id count : ℕ) (w : List ℕ) → count ≡ 0 → ¬ HasWrongId kind id count → (f : MessageFault) → ¬ FaultOf kind id count w f
withdraws kind id count w empty right =
    no_fault kind id count w right (no_scope_missed kind count w empty) (no_wrong_scope kind count w empty) (λ misses. misses [] (sym empty) (no_specs (behind_counts kind w))) (λ h. omega (arith, empty, h.0))

judged_withdrawal : (kind : TemplateKind) (id count : ℕ) (w : List ℕ) → count ≡ 0 → Judged kind id count w (withdrawal kind id w)
judged_withdrawal kind id count w empty =
    cond_both (eqb id (set_id_of kind)) (Ok (WithdrawAll kind, w)) (cond (ltb id 256) (Err TemplateId) (Ok (Withdraw kind id, w))) (Judged kind id count w)
    (λ t. withdraws kind id count w empty (λ h. elim h.1 [ inl some ↦ omega (arith, empty, some) | inr other ↦ other (eqb-true id (set_id_of kind) t) ]))
    (λ f. cond_both (ltb id 256) (Err TemplateId) (Ok (Withdraw kind id, w)) (Judged kind id count w)
    (λ t. inl ((ltb-true id 256 t, inr (eqb-false id (set_id_of kind) f)), refl))
    (λ g. let high = ltb-false id 256 g in withdraws kind id count w empty (λ h. omega (arith, high, h.0))))

judged_specs : (kind : TemplateKind) (id scope count : ℕ) (w : List ℕ) → ¬ HasWrongId kind id count → ¬ MissesScope kind count w → ¬ HasWrongScope kind count w → 0 < count → IsOctets (behind_counts kind w)
    → Judged kind id count w (specs_at count (behind_counts kind w) >>= λ specs. definition id scope specs)
judged_specs kind id scope count w a b c some fits = by_cases (specs_at count (behind_counts kind w)) refl
  where
    v : List ℕ
    v = behind_counts kind w

    by_cases : (read : Result (List Spec × List ℕ) MessageFault) → specs_at count (behind_counts kind w) ≡ read → Judged kind id count w (read >>= λ specs. definition id scope specs)
    by_cases (Err e) is = inr (a, inr (b, inr (c, inl (specs_at-misses count (behind_counts kind w) e is, specs_at-fault count (behind_counts kind w) e is))))
    by_cases (Ok x) is =
        let at = specs_at-found count (behind_counts kind w) x.0 x.1 fits is in
        let begins : BeginsWith x.0 (behind_counts kind w) = record { text = at.text; rest = x.1; whole = at.whole; in_turn = at.in_turn } in
        let all : ¬ MissesSpec count (behind_counts kind w) = λ misses. misses x.0 at.count begins in
        cond_both (eqb (least x.0) 0) (Err ZeroLength) (Ok (Define (record { id = id; scope = scope; specs = x.0 }), x.1)) (Judged kind id count w)
        (λ t. inr (a, inr (b, inr (c, inr (all, inl ((some, (x.0, at.count, begins, eqb-true (least x.0) 0 t)), refl))))))
        (λ f. no_fault kind id count w a b c all (λ h.
        let other : h.1.0 ≡ x.0 = ap (λ (p : List Spec × List ℕ). p.0) (ok_is (h.1.0, h.1.2.rest) x (sym (specs_at-begins count (behind_counts kind w) h.1.0 h.1.1 h.1.2) ∙ is)) in
        eqb-false (least x.0) 0 f (ap least (sym other) ∙ h.1.3)))

judged_fields : (kind : TemplateKind) (id count : ℕ) (w : List ℕ) → IsOctets w → ¬ HasWrongId kind id count → 0 < count
    → Judged kind id count w (scope_at kind count w >>= λ scope. specs_at count scope.1 >>= λ specs. definition id scope.0 specs)
judged_fields Plain id count w fits right some = judged_specs Plain id 0 count w right (λ h. h) (λ h. h) some fits
judged_fields Options id count w fits right some =
    let scope = big_number 2 w in
    cond_both (ltb (length w) 2) (Err TemplateCut) (cond (eqb scope 0 || ltb count scope) (Err Scope) (Ok (scope, drop 2 w)))
    (λ (s : Result (ℕ × List ℕ) MessageFault). Judged Options id count w (s >>= λ scope. specs_at count scope.1 >>= λ specs. definition id scope.0 specs))
    (λ t. inr (right, inl ((some, ltb-true (length w) 2 t), refl)))
    (λ f.
    let room = ltb-false (length w) 2 f in
    let there : ¬ MissesScope Options count w = λ h. omega (arith, room, h.1) in
    cond_both (eqb scope 0 || ltb count scope) (Err Scope) (Ok (scope, drop 2 w))
    (λ (s : Result (ℕ × List ℕ) MessageFault). Judged Options id count w (s >>= λ scope. specs_at count scope.1 >>= λ specs. definition id scope.0 specs))
    (λ t. inr (right, inr (there, inl ((some, wrong scope t), refl))))
    (λ g.
    let both = or_false (eqb scope 0) (ltb count scope) g in
    let scoped : ¬ HasWrongScope Options count w = λ h. elim h.1 [ inl none ↦ eqb-false scope 0 both.0 none | inr above ↦ omega (arith, above, ltb-false count scope both.1) ] in
    judged_specs Options id scope count w right there scoped some (IsOctets-drop 2 w fits)))
  where
    wrong : (scope : ℕ) → (eqb scope 0 || ltb count scope) ≡ true → (scope ≡ 0) ⊎ (count < scope)
    wrong scope t = elim (or_true (eqb scope 0) (ltb count scope) t) [ inl none ↦ inl (eqb-true scope 0 none) | inr above ↦ inr (ltb-true count scope above) ]

judged : (kind : TemplateKind) (id count : ℕ) (w : List ℕ) → IsOctets w → Judged kind id count w (record_at kind id count w)
judged kind id count w fits =
    let fields = scope_at kind count w >>= λ scope. specs_at count scope.1 >>= λ specs. definition id scope.0 specs in
    cond_both (eqb count 0) (withdrawal kind id w) (cond (ltb id 256) (Err TemplateId) fields) (Judged kind id count w)
    (λ t. judged_withdrawal kind id count w (eqb-true count 0 t))
    (λ f.
    let ne = eqb-false count 0 f in
    let some : 0 < count = omega (arith, ne) in
    cond_both (ltb id 256) (Err TemplateId) fields (Judged kind id count w)
    (λ t. inl ((ltb-true id 256 t, inl some), refl))
    (λ g. let high = ltb-false id 256 g in judged_fields kind id count w fits (λ h. omega (arith, high, h.0)) some))

event_at-long : (kind : TemplateKind) (w : List ℕ) → 4 ≤ length w → event_at kind w ≡ record_at kind (big_number 2 w) (number_at 2 2 w) (drop 4 w)
unfolding event_at
event_at-long kind w room = let long : ltb (length w) 4 ≡ false = le-ltb (length w) 4 room in rw long refl

pub event_at-faults : (kind : TemplateKind) (w : List ℕ) (f : MessageFault) → IsOctets w → 4 ≤ length w → event_at kind w ≡ Err f ↔ FaultAt kind w f
event_at-faults kind w f fits room =
    let id = big_number 2 w in
    let count = number_at 2 2 w in
    let rest = drop 4 w in
    let j = judged kind id count rest (IsOctets-drop 4 w fits) in (
      λ h. subst (Judged kind id count rest) (sym (event_at-long kind w room) ∙ h) j,
      λ fault. elim (cases_read (record_at kind id count rest)) [
        | inl found ↦ absurd (subst (Judged kind id count rest) found.1 j f fault)
        | inr none ↦ event_at-long kind w room ∙ none.1 ∙ ap (λ (e : MessageFault). Err e) (one_fault kind id count rest none.0 f (subst (Judged kind id count rest) none.1 j) fault)
      ],
    )

-- ---- a record that was read

-- after its id and its field count
record RecordSpelled (kind : TemplateKind) (id count : ℕ) (w : List ℕ) (e : Event) (r : List ℕ) : Type 0 where
  text : List ℕ
  whole : w ≡ text ++ r
  is : SpellsEvent kind e ((big_bytes 2 id ++ big_bytes 2 count) ++ text)

abbrev PairSpelled : TemplateKind → ℕ → ℕ → List ℕ → Event × List ℕ → Type 0
PairSpelled kind id count w p = RecordSpelled kind id count w p.0 p.1

same_head : (a b c d : ℕ) → a ≡ c → b ≡ d → (big_bytes 2 a ++ big_bytes 2 b) ++ [] ≡ big_bytes 2 c ++ big_bytes 2 d
same_head a b c d p q = rw (p, q) (append-nil (big_bytes 2 c ++ big_bytes 2 d))

withdrawal-found : (kind : TemplateKind) (id count : ℕ) (w : List ℕ) (e : Event) (r : List ℕ) → count ≡ 0 → id < 2 ^ 16 → withdrawal kind id w ≡ Ok (e, r) → RecordSpelled kind id count w e r
withdrawal-found kind id count w e r empty small h =
    elim (chosen (eqb id (set_id_of kind)) (Ok (WithdrawAll kind, w)) (cond (ltb id 256) (Err TemplateId) (Ok (Withdraw kind id, w))) (Ok (e, r)) h) [
      | inl t ↦ subst (PairSpelled kind id count w) (ok_is (WithdrawAll kind, w) (e, r) t.1) (record { text = []; whole = refl; is = (refl, same_head id count (set_id_of kind) 0 (eqb-true id (set_id_of kind) t.0) empty) })
      | inr f ↦ elim (chosen (ltb id 256) (Err TemplateId) (Ok (Withdraw kind id, w)) (Ok (e, r)) f.1) [
        | inl t ↦ absurd (not_both (e, r) TemplateId (sym t.1))
        | inr g ↦ subst (PairSpelled kind id count w) (ok_is (Withdraw kind id, w) (e, r) g.1) (record { text = []; whole = refl; is = (refl, ltb-false id 256 g.0, small, same_head id count id 0 refl empty) })
      ]
    ]

record ScopeAt (kind : TemplateKind) (count : ℕ) (w : List ℕ) (scope : ℕ) (r : List ℕ) : Type 0 where
  scoped : IsScope kind scope count
  whole : w ≡ scope_octets kind scope ++ r

scope_at-found : (kind : TemplateKind) (count : ℕ) (w : List ℕ) (scope : ℕ) (r : List ℕ) → IsOctets w → scope_at kind count w ≡ Ok (scope, r) → ScopeAt kind count w scope r
scope_at-found Plain count w scope r fits h =
    let e = ok_is (0, w) (scope, r) h in
    record { scoped = sym (ap (λ (p : ℕ × List ℕ). p.0) e); whole = ap (λ (p : ℕ × List ℕ). p.1) e }
scope_at-found Options count w scope r fits h =
    let n = big_number 2 w in
    elim (chosen (ltb (length w) 2) (Err TemplateCut) (cond (eqb n 0 || ltb count n) (Err Scope) (Ok (n, drop 2 w))) (Ok (scope, r)) h) [
      | inl t ↦ absurd (not_both (scope, r) TemplateCut (sym t.1))
      | inr f ↦ elim (chosen (eqb n 0 || ltb count n) (Err Scope) (Ok (n, drop 2 w)) (Ok (scope, r)) f.1) [
        | inl t ↦ absurd (not_both (scope, r) Scope (sym t.1))
        | inr g ↦
            let e = ok_is (n, drop 2 w) (scope, r) g.1 in
            let first : n ≡ scope = ap (λ (p : ℕ × List ℕ). p.0) e in
            let both = or_false (eqb n 0) (ltb count n) g.0 in
            let some = eqb-false n 0 both.0 in
            let most = ltb-false count n both.1 in
            let least_one : 1 ≤ scope = omega (arith, some, first) in
            let most_all : scope ≤ count = omega (arith, most, first) in
            let spelled = octets_2 w scope fits (ltb-false (length w) 2 f.0) (sym first) in
            record {
              scoped = (least_one, most_all);
              whole = sym (take-append-drop 2 w) ∙ ap (λ (t : List ℕ). t ++ drop 2 w) spelled ∙ ap (λ (t : List ℕ). big_bytes 2 scope ++ t) (ap (λ (p : ℕ × List ℕ). p.1) e);
            }
      ]
    ]

abbrev template : ℕ → ℕ → List Spec → Template
template id scope specs = record { id = id; scope = scope; specs = specs }

head_is : (a b b' c d : List ℕ) → b ≡ b' → (a ++ b) ++ (c ++ d) ≡ a ++ (b' ++ (c ++ d))
head_is a b b' c d e = append_assoc a b (c ++ d) ∙ ap (λ (t : List ℕ). a ++ (t ++ (c ++ d))) e

fields-found : (kind : TemplateKind) (id count : ℕ) (w : List ℕ) (e : Event) (r : List ℕ) → IsOctets w → 256 ≤ id → id < 2 ^ 16 → 0 < count → count < 2 ^ 16
    → (scope_at kind count w >>= λ scope. specs_at count scope.1 >>= λ specs. definition id scope.0 specs) ≡ Ok (e, r) → RecordSpelled kind id count w e r
fields-found kind id count w e r fits high small some many h =
    let a = bind_ok (scope_at kind count w) (λ scope. specs_at count scope.1 >>= λ specs. definition id scope.0 specs) (e, r) h in
    let b = bind_ok (specs_at count a.0.1) (λ specs. definition id a.0.0 specs) (e, r) a.2 in
    let scope = a.0.0 in
    let specs = b.0.0 in
    let at = scope_at-found kind count w scope a.0.1 fits a.1 in
    let all = specs_at-found count a.0.1 specs b.0.1 (IsOctets-rest (scope_octets kind scope) a.0.1 (subst IsOctets at.whole fits)) b.1 in
    elim (chosen (eqb (least specs) 0) (Err ZeroLength) (Ok (Define (template id scope specs), b.0.1)) (Ok (e, r)) b.2) [
      | inl t ↦ absurd (not_both (e, r) ZeroLength (sym t.1))
      | inr g ↦
          let ne = eqb-false (least specs) 0 g.0 in
          let lots : length specs < 2 ^ 16 = omega (arith, all.count, many) in
          let one : 1 ≤ length specs = omega (arith, all.count, some) in
          let positive : 0 < least specs = omega (arith, ne) in
          subst (PairSpelled kind id count w) (ok_is (Define (template id scope specs), b.0.1) (e, r) g.1) (record {
            text = scope_octets kind scope ++ all.text;
            whole = at.whole ∙ ap (λ (t : List ℕ). scope_octets kind scope ++ t) all.whole ∙ sym (append_assoc (scope_octets kind scope) all.text b.0.1);
            is = record {
              fields = all.text;
              octets = head_is (big_bytes 2 id) (big_bytes 2 count) (big_bytes 2 (length specs)) (scope_octets kind scope) all.text (ap (big_bytes 2) (sym all.count));
              in_turn = all.in_turn;
              lowest = high;
              highest = small;
              some = one;
              many = lots;
              scoped = subst (IsScope kind scope) (sym all.count) at.scoped;
              positive = positive;
            };
          })
    ]

record_at-found : (kind : TemplateKind) (id count : ℕ) (w : List ℕ) (e : Event) (r : List ℕ) → IsOctets w → id < 2 ^ 16 → count < 2 ^ 16 → record_at kind id count w ≡ Ok (e, r) → RecordSpelled kind id count w e r
record_at-found kind id count w e r fits small many h =
    let fields = scope_at kind count w >>= λ scope. specs_at count scope.1 >>= λ specs. definition id scope.0 specs in
    elim (chosen (eqb count 0) (withdrawal kind id w) (cond (ltb id 256) (Err TemplateId) fields) (Ok (e, r)) h) [
      | inl t ↦ withdrawal-found kind id count w e r (eqb-true count 0 t.0) small t.1
      | inr f ↦
          let ne = eqb-false count 0 f.0 in
          let some : 0 < count = omega (arith, ne) in
          elim (chosen (ltb id 256) (Err TemplateId) fields (Ok (e, r)) f.1) [
            | inl t ↦ absurd (not_both (e, r) TemplateId (sym t.1))
            | inr g ↦ fields-found kind id count w e r fits (ltb-false id 256 g.0) small some many g.1
          ]
    ]

event_at-room : (kind : TemplateKind) (w : List ℕ) (e : Event) (r : List ℕ) → event_at kind w ≡ Ok (e, r) → 4 ≤ length w
unfolding event_at
event_at-room kind w e r h =
    elim (chosen (ltb (length w) 4) (Err TemplateCut) (record_at kind (big_number 2 w) (number_at 2 2 w) (drop 4 w)) (Ok (e, r)) h) [
      | inl t ↦ absurd (not_both (e, r) TemplateCut (sym t.1))
      | inr f ↦ ltb-false (length w) 4 f.0
    ]

event_at-found : (kind : TemplateKind) (w : List ℕ) (e : Event) (r : List ℕ) → IsOctets w → event_at kind w ≡ Ok (e, r) → Spelled (SpellsEvent kind) w e r
event_at-found kind w e r fits h =
    let room = event_at-room kind w e r h in
    let id = big_number 2 w in
    let count = number_at 2 2 w in
    let two = IsOctets-drop 2 w fits in
    let small : big_number 2 w < 2 ^ 16 = omega (arith, fits 0, fits 1) in
    let many : number_at 2 2 w < 2 ^ 16 = omega (arith, two 0, two 1) in
    let found = record_at-found kind id count (drop 4 w) e r (IsOctets-drop 4 w fits) small many (sym (event_at-long kind w room) ∙ h) in
    let head = big_bytes 2 id ++ big_bytes 2 count in
    let front : take 4 w ≡ head = short_spec_spelled w id count fits room refl refl in
    let whole : w ≡ (head ++ found.text) ++ r = sym (take-append-drop 4 w) ∙ ap (λ (t : List ℕ). t ++ drop 4 w) front ∙ ap (λ (t : List ℕ). head ++ t) found.whole ∙ sym (append_assoc head found.text r) in
    record { text = head ++ found.text; whole = whole; is = found.is }

-- ---- a record that is spelled

pub event_at-is : (kind : TemplateKind) (w : List ℕ) (id count : ℕ) → 4 ≤ length w → big_number 2 w ≡ id → number_at 2 2 w ≡ count → event_at kind w ≡ record_at kind id count (drop 4 w)
event_at-is kind w id count room i n =
    event_at-long kind w room ∙ ap (λ (k : ℕ). record_at kind k (number_at 2 2 w) (drop 4 w)) i ∙ ap (λ (k : ℕ). record_at kind id k (drop 4 w)) n

event_at-again : (kind : TemplateKind) (id count : ℕ) (x : List ℕ) → id < 2 ^ 16 → count < 2 ^ 16 → event_at kind ((big_bytes 2 id ++ big_bytes 2 count) ++ x) ≡ record_at kind id count x
event_at-again kind id count x small many =
    let head = big_bytes 2 id ++ big_bytes 2 count in
    let first : big_number 2 ((big_bytes 2 id ++ big_bytes 2 count) ++ x) ≡ id = omega (arith, small) in
    let second : number_at 2 2 ((big_bytes 2 id ++ big_bytes 2 count) ++ x) ≡ count = omega (arith, many) in
    event_at-is kind (head ++ x) id count (omega (arith, length-append head x)) first second ∙ ap (record_at kind id count) (drop_at head x 4 refl)

not_set_id : (kind : TemplateKind) (id : ℕ) → 256 ≤ id → eqb id (set_id_of kind) ≡ false
not_set_id Plain id high = different id 2 (λ e. omega (arith, e, high))
not_set_id Options id high = different id 3 (λ e. omega (arith, e, high))

withdraws_all : (kind : TemplateKind) (r : List ℕ) → withdrawal kind (set_id_of kind) r ≡ Ok (WithdrawAll kind, r)
withdraws_all Plain r = refl
withdraws_all Options r = refl

set_id_small : (kind : TemplateKind) → set_id_of kind < 2 ^ 16
set_id_small Plain = omega arith
set_id_small Options = omega arith

scope_at-is : (count : ℕ) (w : List ℕ) (n : ℕ) → 2 ≤ length w → big_number 2 w ≡ n → 1 ≤ n → n ≤ count → scope_at Options count w ≡ Ok (n, drop 2 w)
scope_at-is count w n room e one most =
    let x : ltb (length w) 2 ≡ false = le-ltb (length w) 2 room in
    let y : eqb (big_number 2 w) 0 ≡ false = different (big_number 2 w) 0 (λ z. omega (arith, z, e, one)) in
    let z : ltb count (big_number 2 w) ≡ false = le-ltb count (big_number 2 w) (omega (arith, e, most)) in
    rw (x, y, z) (ap (λ (k : ℕ). Ok (k, drop 2 w)) e)

scope_at-again : (kind : TemplateKind) (count n : ℕ) (x : List ℕ) → IsScope kind n count → count < 2 ^ 16 → scope_at kind count (scope_octets kind n ++ x) ≡ Ok (n, x)
scope_at-again Plain count n x scoped many = ap (λ (k : ℕ). Ok (k, x)) (sym scoped)
scope_at-again Options count n x scoped many =
    let first : big_number 2 (big_bytes 2 n ++ x) ≡ n = omega (arith, scoped.1, many) in
    scope_at-is count (big_bytes 2 n ++ x) n (omega (arith, length-append (big_bytes 2 n) x)) first scoped.0 scoped.1 ∙ ap (λ (t : List ℕ). Ok (n, t)) (drop_at (big_bytes 2 n) x 2 refl)

regrouped : (a b c d r : List ℕ) → (a ++ (b ++ (c ++ d))) ++ r ≡ (a ++ b) ++ (c ++ (d ++ r))
regrouped a b c d r = simp append_assoc

defined : (t : Template) (r : List ℕ) → 0 < least t.specs → definition t.id t.scope (t.specs, r) ≡ Ok (Define t, r)
defined t r positive = let no : eqb (least t.specs) 0 ≡ false = different (least t.specs) 0 (λ e. omega (arith, e, positive)) in rw no refl

event_at-only : (kind : TemplateKind) (e : Event) (u r : List ℕ) → SpellsEvent kind e u → event_at kind (u ++ r) ≡ Ok (e, r)
event_at-only kind (Withdraw k id) u r spelled =
    let other = not_set_id kind id spelled.1 in
    let high : ltb id 256 ≡ false = le-ltb id 256 spelled.1 in
    let taken : withdrawal kind id r ≡ Ok (Withdraw kind id, r) = rw (other, high) refl in
    ap (λ (t : List ℕ). event_at kind (t ++ r)) spelled.3 ∙ event_at-again kind id 0 r spelled.2 (omega arith) ∙ taken ∙ ap (λ (x : TemplateKind). Ok (Withdraw x id, r)) (sym spelled.0)
event_at-only kind (WithdrawAll k) u r spelled =
    ap (λ (t : List ℕ). event_at kind (t ++ r)) spelled.1 ∙ event_at-again kind (set_id_of kind) 0 r (set_id_small kind) (omega arith) ∙ withdraws_all kind r ∙ ap (λ (x : TemplateKind). Ok (WithdrawAll x, r)) (sym spelled.0)
event_at-only kind (Define t) u r spelled =
    let n = length t.specs in
    let head = big_bytes 2 t.id ++ big_bytes 2 n in
    let x = scope_octets kind t.scope ++ (spelled.fields ++ r) in
    let no : eqb n 0 ≡ false = different n 0 (λ e. omega (arith, e, spelled.some)) in
    let high : ltb t.id 256 ≡ false = le-ltb t.id 256 spelled.lowest in
    let fields : record_at kind t.id n x ≡ (scope_at kind n x >>= λ scope. specs_at n scope.1 >>= λ specs. definition t.id scope.0 specs) = rw (no, high) refl in
    ap (λ (v : List ℕ). event_at kind (v ++ r)) spelled.octets
    ∙ ap (event_at kind) (regrouped (big_bytes 2 t.id) (big_bytes 2 n) (scope_octets kind t.scope) spelled.fields r)
    ∙ event_at-again kind t.id n x spelled.highest spelled.many
    ∙ fields
    ∙ ap (λ (s : Result (ℕ × List ℕ) MessageFault). s >>= λ scope. specs_at n scope.1 >>= λ specs. definition t.id scope.0 specs) (scope_at-again kind n t.scope (spelled.fields ++ r) spelled.scoped spelled.many)
    ∙ ap (λ (s : Result (List Spec × List ℕ) MessageFault). s >>= λ specs. definition t.id t.scope specs) (specs_at-only t.specs spelled.fields r spelled.in_turn)
    ∙ defined t r spelled.positive

pub events_read : (kind : TemplateKind) → Reads (SpellsEvent kind) (event_at kind)
events_read kind = record { found = event_at-found kind; only = event_at-only kind }

-- ---- how much a template record takes

one_spec-takes : (w : List ℕ) (o : Option (Spec × ℕ)) (s : Spec) (r : List ℕ) → one_spec o w ≡ Ok (s, r) → length r ≤ length w
one_spec-takes w None s r h = absurd (not_both (s, r) TemplateCut (sym h))
one_spec-takes w (Some x) s r h = let e : drop x.1 w ≡ r = ap (λ (p : Spec × List ℕ). p.1) (ok_is (x.0, drop x.1 w) (s, r) h) in omega (arith, ap length e, length-drop x.1 w)

specs_at-takes : (n : ℕ) (w : List ℕ) (ss : List Spec) (r : List ℕ) → specs_at n w ≡ Ok (ss, r) → length r ≤ length w
unfolding specs_at
specs_at-takes zero w ss r h = let e : w ≡ r = ap (λ (p : List Spec × List ℕ). p.1) (ok_is ([], w) (ss, r) h) in omega (arith, ap length e)
specs_at-takes (suc n) w ss r h =
    let a = bind_ok (one_spec (spec_at w) w) (λ first. specs_at n first.1 >>= λ others. Ok (first.0 ∷ others.0, others.1)) (ss, r) h in
    let b = bind_ok (specs_at n a.0.1) (λ others. Ok (a.0.0 ∷ others.0, others.1)) (ss, r) a.2 in
    let first = one_spec-takes w (spec_at w) a.0.0 a.0.1 a.1 in
    let more = specs_at-takes n a.0.1 b.0.0 b.0.1 b.1 in
    let e : b.0.1 ≡ r = ap (λ (p : List Spec × List ℕ). p.1) (ok_is (a.0.0 ∷ b.0.0, b.0.1) (ss, r) b.2) in
    omega (arith, first, more, ap length e)

scope_at-takes : (kind : TemplateKind) (count : ℕ) (w : List ℕ) (n : ℕ) (r : List ℕ) → scope_at kind count w ≡ Ok (n, r) → length r ≤ length w
scope_at-takes Plain count w n r h = let e : w ≡ r = ap (λ (p : ℕ × List ℕ). p.1) (ok_is (0, w) (n, r) h) in omega (arith, ap length e)
scope_at-takes Options count w n r h =
    let scope = big_number 2 w in
    elim (chosen (ltb (length w) 2) (Err TemplateCut) (cond (eqb scope 0 || ltb count scope) (Err Scope) (Ok (scope, drop 2 w))) (Ok (n, r)) h) [
      | inl t ↦ absurd (not_both (n, r) TemplateCut (sym t.1))
      | inr f ↦ elim (chosen (eqb scope 0 || ltb count scope) (Err Scope) (Ok (scope, drop 2 w)) (Ok (n, r)) f.1) [
        | inl t ↦ absurd (not_both (n, r) Scope (sym t.1))
        | inr g ↦ let e : drop 2 w ≡ r = ap (λ (p : ℕ × List ℕ). p.1) (ok_is (scope, drop 2 w) (n, r) g.1) in omega (arith, ap length e, length-drop 2 w)
      ]
    ]

withdrawal-takes : (kind : TemplateKind) (id : ℕ) (w : List ℕ) (e : Event) (r : List ℕ) → withdrawal kind id w ≡ Ok (e, r) → w ≡ r
withdrawal-takes kind id w e r h =
    elim (chosen (eqb id (set_id_of kind)) (Ok (WithdrawAll kind, w)) (cond (ltb id 256) (Err TemplateId) (Ok (Withdraw kind id, w))) (Ok (e, r)) h) [
      | inl t ↦ ap (λ (p : Event × List ℕ). p.1) (ok_is (WithdrawAll kind, w) (e, r) t.1)
      | inr f ↦ elim (chosen (ltb id 256) (Err TemplateId) (Ok (Withdraw kind id, w)) (Ok (e, r)) f.1) [
        | inl t ↦ absurd (not_both (e, r) TemplateId (sym t.1))
        | inr g ↦ ap (λ (p : Event × List ℕ). p.1) (ok_is (Withdraw kind id, w) (e, r) g.1)
      ]
    ]

definition-takes : (id scope : ℕ) (specs : List Spec × List ℕ) (e : Event) (r : List ℕ) → definition id scope specs ≡ Ok (e, r) → specs.1 ≡ r
definition-takes id scope specs e r h =
    elim (chosen (eqb (least specs.0) 0) (Err ZeroLength) (Ok (Define (record { id = id; scope = scope; specs = specs.0 }), specs.1)) (Ok (e, r)) h) [
      | inl t ↦ absurd (not_both (e, r) ZeroLength (sym t.1))
      | inr f ↦ ap (λ (p : Event × List ℕ). p.1) (ok_is (Define (record { id = id; scope = scope; specs = specs.0 }), specs.1) (e, r) f.1)
    ]

pub event_at-takes : (kind : TemplateKind) (w : List ℕ) (e : Event) (r : List ℕ) → event_at kind w ≡ Ok (e, r) → length r < length w
unfolding event_at
event_at-takes kind w e r h =
    let id = big_number 2 w in
    let count = number_at 2 2 w in
    let long = λ (scope : ℕ × List ℕ). specs_at count scope.1 >>= λ specs. definition id scope.0 specs in
    elim (chosen (ltb (length w) 4) (Err TemplateCut) (cond (eqb count 0) (withdrawal kind id (drop 4 w)) (cond (ltb id 256) (Err TemplateId) (scope_at kind count (drop 4 w) >>= long))) (Ok (e, r)) h) [
      | inl t ↦ absurd (not_both (e, r) TemplateCut (sym t.1))
      | inr f ↦
          let room = ltb-false (length w) 4 f.0 in
          elim (chosen (eqb count 0) (withdrawal kind id (drop 4 w)) (cond (ltb id 256) (Err TemplateId) (scope_at kind count (drop 4 w) >>= long)) (Ok (e, r)) f.1) [
            | inl t ↦ omega (arith, room, ap length (withdrawal-takes kind id (drop 4 w) e r t.1), length-drop 4 w)
            | inr g ↦ elim (chosen (ltb id 256) (Err TemplateId) (scope_at kind count (drop 4 w) >>= long) (Ok (e, r)) g.1) [
              | inl t ↦ absurd (not_both (e, r) TemplateId (sym t.1))
              | inr d ↦
                  let a = bind_ok (scope_at kind count (drop 4 w)) long (e, r) d.1 in
                  let b = bind_ok (specs_at count a.0.1) (λ specs. definition id a.0.0 specs) (e, r) a.2 in
                  let one = scope_at-takes kind count (drop 4 w) a.0.0 a.0.1 a.1 in
                  let two = specs_at-takes count a.0.1 b.0.0 b.0.1 b.1 in
                  let three = definition-takes id a.0.0 b.0 e r b.2 in
                  omega (arith, room, one, two, ap length three, length-drop 4 w)
            ]
          ]
    ]

pub events_shrink : (kind : TemplateKind) → Shrinks (event_at kind)
events_shrink kind = record { less = event_at-takes kind }

-- ---- padding holds no record

pub long_from_padding : (w : List ℕ) → is_padding w ≡ false → 4 ≤ length w
long_from_padding w h = ltb-false (length w) 4 ((or_false (ltb (length w) 4) (list_all (λ b. eqb b 0) w) h).0)

zeros : (w : List ℕ) (i : ℕ) → list_all (λ b. eqb b 0) w ≡ true → get_or w i 0 ≡ 0
zeros [] i h = refl
zeros (b ∷ w) zero h = eqb-true b 0 (both_true (eqb b 0) (list_all (λ b. eqb b 0) w) h).0
zeros (b ∷ w) (suc i) h = zeros w i (both_true (eqb b 0) (list_all (λ b. eqb b 0) w) h).1

no_withdrawal : (kind : TemplateKind) (w : List ℕ) → withdrawal kind 0 w ≡ Err TemplateId
no_withdrawal Plain w = refl
no_withdrawal Options w = refl

pub padding_is_none : (kind : TemplateKind) (w : List ℕ) → is_padding w ≡ true → (f : MessageFault) × (event_at kind w ≡ Err f)
unfolding event_at
padding_is_none kind w h =
    elim (or_true (ltb (length w) 4) (list_all (λ b. eqb b 0) w) h) [
      | inl short ↦ (TemplateCut, rw short refl)
      | inr all_zero ↦
          let first : big_number 2 w ≡ 0 = omega (arith, zeros w 0 all_zero, zeros w 1 all_zero) in
          let a : get_or (drop 2 w) 0 0 ≡ 0 = get_or-drop 2 w 0 0 ∙ zeros w 2 all_zero in
          let b : get_or (drop 2 w) 1 0 ≡ 0 = get_or-drop 2 w 1 0 ∙ zeros w 3 all_zero in
          let second : number_at 2 2 w ≡ 0 = omega (arith, a, b) in
          by_length (ltb (length w) 4) (big_number 2 w) (number_at 2 2 w) (drop 4 w) _ first second
    ]
  where
    by_length : (b : Bool) (id count : ℕ) (r : List ℕ) (long : Result (Event × List ℕ) MessageFault) → id ≡ 0 → count ≡ 0
        → (f : MessageFault) × (cond b (Err TemplateCut) (cond (eqb count 0) (withdrawal kind id r) long) ≡ Err f)
    by_length true id count r long i c = (TemplateCut, refl)
    by_length false id count r long i c = (TemplateId, rw (c, i) (no_withdrawal kind r))

-- ---- all records of a set

pub events_of-found : (kind : TemplateKind) (w : List ℕ) → IsOctets w → IsLongest (SpellsEvent kind) (events_of kind w).items (events_of kind w).rest w
events_of-found kind w fits = longest_from (SpellsEvent kind) (event_at kind) (events_read kind) (events_shrink kind) w fits

pub events_of-only : (kind : TemplateKind) (w rest : List ℕ) (events : List Event) → IsOctets w → IsLongest (SpellsEvent kind) events rest w → events_of kind w ≡ record { items = events; rest = rest }
events_of-only kind w rest events fits longest = longest_only (SpellsEvent kind) (event_at kind) (events_read kind) (events_shrink kind) events rest w fits longest

not_none : (f : MessageFault) → result_err {T = Event × List ℕ} (Err f) ≡ None → ⊥
not_none f h = cc

err_of : (r : Result (Event × List ℕ) MessageFault) (f : MessageFault) → result_err r ≡ Some f → r ≡ Err f
err_of (Ok x) f h = absurd cc
err_of (Err e) f h = let same : e ≡ f = cc in ap (λ (x : MessageFault). Err x) same

-- the fault after the last record is the first that fits
pub fault_after_events-first : (kind : TemplateKind) (rest : List ℕ) (f : MessageFault) → IsOctets rest → fault_after_events kind rest ≡ Some f ↔ ((¬ IsPadding rest) × FaultAt kind rest f)
fault_after_events-first kind rest f fits = (
  λ h. elim (chosen (is_padding rest) None (result_err (event_at kind rest)) (Some f) h) [
    | inl t ↦ absurd cc
    | inr g ↦
        let room = long_from_padding rest g.0 in (
          λ pad. not_yes (is_padding rest) g.0 ((is_padding-tells rest).1 pad),
          (event_at-faults kind rest f fits room).0 (err_of (event_at kind rest) f g.1),
        )
  ],
  λ h. elim (cases_Bool (is_padding rest)) [
    | inl pads ↦ absurd (h.0 ((is_padding-tells rest).0 pads))
    | inr long ↦ rw (long, (event_at-faults kind rest f fits (long_from_padding rest long)).1 h.1) refl
  ],
)
  where
    not_yes : (b : Bool) → b ≡ false → b ≡ true → ⊥
    not_yes b p q = cc

-- there is no fault exactly where the whole set is records and padding
pub template_set-whole : (kind : TemplateKind) (w : List ℕ) (events : List Event) → IsOctets w → IsTemplateSet kind events w ↔ (((events_of kind w).items ≡ events) × (fault_after_events kind (events_of kind w).rest ≡ None))
template_set-whole kind w events fits = (
  λ set.
      let pad : is_padding set.padding ≡ true = (is_padding-tells set.padding).1 set.padded in
      let none = padding_is_none kind set.padding pad in
      let all : events_of kind w ≡ record { items = events; rest = set.padding } = ap (events_of kind) set.whole ∙ parts_of-only (SpellsEvent kind) (event_at kind) (events_read kind) (events_shrink kind) events set.octets set.padding none.0 set.spelled none.1 in
      let padded : fault_after_events kind set.padding ≡ None = rw pad refl in
      (ap (λ (p : Parts Event). p.items) all, ap (λ (p : Parts Event). fault_after_events kind p.rest) all ∙ padded),
  λ h.
      let longest = events_of-found kind w fits in
      let rest = (events_of kind w).rest in
      record {
        octets = longest.text;
        padding = rest;
        whole = longest.whole;
        spelled = subst (λ (es : List Event). InTurn (SpellsEvent kind) es longest.text) h.0 longest.spelled;
        padded = elim (cases_Bool (is_padding rest)) [
          | inl pads ↦ (is_padding-tells rest).0 pads
          | inr long ↦ elim (cases_read (event_at kind rest)) [
            | inl found ↦
                let one = event_at-found kind rest found.0.0 found.0.1 (IsOctets-rest longest.text rest (subst IsOctets longest.whole fits)) found.1 in
                absurd (longest.last found.0.0 one.text found.0.1 one.whole one.is)
            | inr none ↦
                let is : fault_after_events kind rest ≡ result_err (event_at kind rest) = rw long refl in
                absurd (not_none none.0 (sym (ap result_err none.1) ∙ sym is ∙ h.1))
          ]
        ];
      },
)
