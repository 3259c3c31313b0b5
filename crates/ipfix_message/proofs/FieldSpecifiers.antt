-- Field specifiers in turn: what is read is what is spelled.
use Rattle.std.proofs.Common.{◌≡◌, ℕ, zero, suc, List, [], ◌∷◌, ◌++◌, length, take, drop, Option, Some, None, Result, Ok, Err, refl, sym, ap, subst, ◌∙◌, append_assoc, arith, inl, inr}
use Rattle.std.proofs.lemmas.List.{take-append-drop, drop_at}
use Rattle.ipfix_wire.specs.Numbers.{IsOctets}
use Rattle.ipfix_wire.specs.FieldSpecifier.{SpellsSpec, spec_at}
use Rattle.ipfix_wire.specs.declared.specifier.Spec.{Spec}
use Rattle.ipfix_wire.specs.InTurn.{InTurn}
use Rattle.ipfix_wire.proofs.Octets.{IsOctets-rest}
use Rattle.ipfix_wire.proofs.Parts.{Spelled}
use Rattle.ipfix_message.specs.declared.fault.MessageFault.{MessageFault}
use Rattle.ipfix_message.specs.declared.fault.MessageFault.TheVariants.{TemplateCut}
use Rattle.ipfix_message.specs.Outcome.{◌>>=◌}
use Rattle.ipfix_message.specs.TemplateRecords.{BeginsWith, MissesSpec, one_spec, specs_at}
use Rattle.ipfix_wire.proofs.FieldSpecifiers.{spec_at-found, spec_at-only}
use Rattle.ipfix_message.proofs.Reading.{ok_is, not_both, fault_is, bind_ok, bind_err}

-- ---- one

pub one_spec-found : (w : List ℕ) (s : Spec) (r : List ℕ) → IsOctets w → one_spec (spec_at w) w ≡ Ok (s, r) → Spelled SpellsSpec w s r
one_spec-found w s r fits h = by_cases (spec_at w) refl h
  where
    by_cases : (o : Option (Spec × ℕ)) → spec_at w ≡ o → one_spec o w ≡ Ok (s, r) → Spelled SpellsSpec w s r
    by_cases None is g = absurd (not_both (s, r) TemplateCut (sym g))
    by_cases (Some x) is g =
        let at = spec_at-found w x.0 x.1 fits is in
        let P : Spec × List ℕ → Type 0 = λ p. Spelled SpellsSpec w p.0 p.1 in
        subst P (ok_is (x.0, drop x.1 w) (s, r) g) (record { text = take x.1 w; whole = sym (take-append-drop x.1 w); is = at.is })

one_spec-only : (s : Spec) (u r : List ℕ) → SpellsSpec s u → one_spec (spec_at (u ++ r)) (u ++ r) ≡ Ok (s, r)
one_spec-only s u r spelled =
    ap (λ (o : Option (Spec × ℕ)). one_spec o (u ++ r)) (spec_at-only s u r spelled) ∙ ap (λ (v : List ℕ). Ok (s, v)) (drop_at u r (length u) refl)

one_spec-fault : (o : Option (Spec × ℕ)) (w : List ℕ) (e : MessageFault) → one_spec o w ≡ Err e → e ≡ TemplateCut
one_spec-fault None w e h = sym (fault_is TemplateCut e h)
one_spec-fault (Some x) w e h = absurd (not_both (x.0, drop x.1 w) e h)

-- ---- several

abbrev read_specs : List Spec → List ℕ → Result (List Spec × List ℕ) MessageFault
read_specs ss r = Ok (ss, r)

pub record SpecsAt (n : ℕ) (w : List ℕ) (ss : List Spec) (r : List ℕ) : Type 0 where
  pub text : List ℕ
  pub whole : w ≡ text ++ r
  pub in_turn : InTurn SpellsSpec ss text
  pub count : length ss ≡ n

pub specs_at-found : (n : ℕ) (w : List ℕ) (ss : List Spec) (r : List ℕ) → IsOctets w → specs_at n w ≡ Ok (ss, r) → SpecsAt n w ss r
unfolding specs_at
specs_at-found zero w ss r fits h =
    let P : List Spec × List ℕ → Type 0 = λ p. SpecsAt 0 w p.0 p.1 in
    subst P (ok_is ([], w) (ss, r) h) (record { text = []; whole = refl; in_turn = refl; count = refl })
specs_at-found (suc n) w ss r fits h =
    let a = bind_ok (one_spec (spec_at w) w) (λ first. specs_at n first.1 >>= λ others. Ok (first.0 ∷ others.0, others.1)) (ss, r) h in
    let b = bind_ok (specs_at n a.0.1) (λ others. Ok (a.0.0 ∷ others.0, others.1)) (ss, r) a.2 in
    let first = one_spec-found w a.0.0 a.0.1 fits a.1 in
    let more = specs_at-found n a.0.1 b.0.0 b.0.1 (IsOctets-rest first.text a.0.1 (subst IsOctets first.whole fits)) b.1 in
    let whole : w ≡ (first.text ++ more.text) ++ b.0.1 = first.whole ∙ ap (λ (t : List ℕ). first.text ++ t) more.whole ∙ sym (append_assoc first.text more.text b.0.1) in
    let count : length (a.0.0 ∷ b.0.0) ≡ suc n = omega (arith, more.count) in
    let P : List Spec × List ℕ → Type 0 = λ p. SpecsAt (suc n) w p.0 p.1 in
    subst P (ok_is (a.0.0 ∷ b.0.0, b.0.1) (ss, r) b.2) (record { text = first.text ++ more.text; whole = whole; in_turn = (first.text, more.text, refl, first.is, more.in_turn); count = count })

pub specs_at-only : (ss : List Spec) (u r : List ℕ) → InTurn SpellsSpec ss u → specs_at (length ss) (u ++ r) ≡ read_specs ss r
unfolding specs_at
specs_at-only [] u r spelled = rw spelled refl
specs_at-only (s ∷ ss) u r spelled =
    let a = spelled.0 in
    let b = spelled.1 in
    let n = length ss in
    let regrouped : u ++ r ≡ a ++ (b ++ r) = ap (λ (t : List ℕ). t ++ r) spelled.2 ∙ append_assoc a b r in
    ap (specs_at (suc n)) regrouped
    ∙ ap (λ (o : Result (Spec × List ℕ) MessageFault). o >>= λ first. specs_at n first.1 >>= λ others. read_specs (first.0 ∷ others.0) others.1) (one_spec-only s a (b ++ r) spelled.3)
    ∙ ap (λ (o : Result (List Spec × List ℕ) MessageFault). o >>= λ others. read_specs (s ∷ others.0) others.1) (specs_at-only ss b r spelled.4)

pub specs_at-fault : (n : ℕ) (w : List ℕ) (e : MessageFault) → specs_at n w ≡ Err e → e ≡ TemplateCut
unfolding specs_at
specs_at-fault zero w e h = absurd (not_both ([], w) e h)
specs_at-fault (suc n) w e h =
    elim (bind_err (one_spec (spec_at w) w) (λ first. specs_at n first.1 >>= λ others. Ok (first.0 ∷ others.0, others.1)) e h) [
      | inl here ↦ one_spec-fault (spec_at w) w e here
      | inr later ↦ elim (bind_err (specs_at n later.0.1) (λ others. Ok (later.0.0 ∷ others.0, others.1)) e later.2) [
        | inl there ↦ specs_at-fault n later.0.1 e there
        | inr none ↦ absurd (not_both (later.0.0 ∷ none.0.0, none.0.1) e none.2)
      ]
    ]

-- a text that begins with that many is read so
pub specs_at-begins : (n : ℕ) (w : List ℕ) (ss : List Spec) → length ss ≡ n → (begins : BeginsWith ss w) → specs_at n w ≡ read_specs ss begins.rest
specs_at-begins n w ss count begins =
    ap (λ (k : ℕ). specs_at k w) (sym count) ∙ ap (specs_at (length ss)) begins.whole ∙ specs_at-only ss begins.text begins.rest begins.in_turn

-- where reading fails one is missing
pub specs_at-misses : (n : ℕ) (w : List ℕ) (e : MessageFault) → specs_at n w ≡ Err e → MissesSpec n w
specs_at-misses n w e h = λ ss count begins. not_both (ss, begins.rest) e (sym (specs_at-begins n w ss count begins) ∙ h)
