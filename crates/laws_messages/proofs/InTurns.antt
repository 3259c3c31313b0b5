-- What follows a message's header, as its sets.
use Rattle.std.proofs.Common.{◌≡◌, ℕ, cond, eqb, ltb, List, [], ◌∷◌, ◌++◌, length, Some, None, Ok, refl, sym, ap, subst, ◌∙◌, arith, inl, inr}
use Rattle.std.specs.Prelude.{All}
use Rattle.std.proofs.lemmas.Bool.{eqb-true}
use Rattle.std.proofs.lemmas.List.{append-nil, nil_from_length}
use Rattle.ipfix_wire.specs.InTurn.{InTurn, parts_of}
use Rattle.ipfix_wire.specs.Numbers.{IsOctets}
use Rattle.ipfix_wire.specs.SetHeader.{set_octets}
use Rattle.ipfix_wire.specs.declared.header.Header.{Header}
use Rattle.ipfix_wire.proofs.Choices.{chosen}
use Rattle.ipfix_wire.proofs.Octets.{IsOctets-rest}
use Rattle.ipfix_wire.proofs.Parts.{InTurn-all, parts_of-only}
use Rattle.ipfix_message.specs.declared.fault.MessageFault.TheVariants.{SetHeader, SetLength}
use Rattle.ipfix_message.specs.Outcome.{unless}
use Rattle.ipfix_message.specs.Sets.{Set, SpellsSet, next_set, sets_of, fault_after_sets}
use Rattle.ipfix_message.specs.Messages.{Decoding, sets_give, sets_from}
use Rattle.ipfix_message.proofs.MessageSets.{sets_read, sets_shrink, sets_of-found, next_set-nil}
use Rattle.ipfix_message.proofs.Reading.{bind_ok}
use Rattle.laws_messages.proofs.TemplateEvents.{unless-found}
use Rattle.laws_messages.proofs.Totals.{BodyHas}

nothing_left : (rest : List ℕ) → fault_after_sets rest ≡ None → rest ≡ []
nothing_left rest h =
    elim (chosen (eqb (length rest) 0) None (cond (ltb (length rest) 4) (Some SetHeader) (Some SetLength)) None h) [
      | inl t ↦ nil_from_length rest (eqb-true (length rest) 0 t.0)
      | inr f ↦ elim (chosen (ltb (length rest) 4) (Some SetHeader) (Some SetLength) None f.1) [
        | inl t ↦ absurd cc
        | inr g ↦ absurd cc
      ]
    ]

-- the sets in which the octets are cut give this
pub record Cut (h : Header) (d : Decoding) (w : List ℕ) (e : Decoding) : Type 0 where
  pub sets : List Set
  pub in_turn : InTurn SpellsSet sets w
  pub give : sets_give h d sets ≡ Ok e

pub cut-found : (h : Header) (d e : Decoding) (w : List ℕ) → IsOctets w → sets_from h d w ≡ Ok e → Cut h d w e
unfolding sets_from
cut-found h d e w fits read =
    let r = bind_ok (sets_give h d (sets_of w).items) (λ x. unless (fault_after_sets (sets_of w).rest) x) e read in
    let none = unless-found (fault_after_sets (sets_of w).rest) r.0 e r.2 in
    let longest = sets_of-found w fits in
    let whole : longest.text ≡ w = sym (append-nil longest.text) ∙ ap (λ (t : List ℕ). longest.text ++ t) (sym (nothing_left (sets_of w).rest none.0)) ∙ sym longest.whole in
    record {
      sets = (sets_of w).items;
      in_turn = subst (InTurn SpellsSet (sets_of w).items) whole longest.spelled;
      give = r.1 ∙ ap (λ (x : Decoding). Ok x) none.1;
    }

pub cut-only : (h : Header) (d e : Decoding) (w : List ℕ) (sets : List Set) → InTurn SpellsSet sets w → sets_give h d sets ≡ Ok e → sets_from h d w ≡ Ok e
unfolding sets_from
cut-only h d e w sets in_turn give =
    let ended = next_set-nil [] refl in
    let all : sets_of w ≡ record { items = sets; rest = [] } = ap (parts_of next_set) (sym (append-nil w)) ∙ parts_of-only SpellsSet next_set sets_read sets_shrink sets w [] ended.0 in_turn ended.1 in
    rw (all, give) refl

pub bodies : (sets : List Set) (w : List ℕ) → IsOctets w → InTurn SpellsSet sets w → All BodyHas sets
bodies sets w fits in_turn =
    InTurn-all SpellsSet BodyHas (λ s u here spelled. IsOctets-rest (set_octets s.id (length s.body)) s.body (subst IsOctets spelled.octets here)) sets w fits in_turn
