-- The ids of the sets of a message.
use Rattle.std.proofs.Common.{◌≡◌, ℕ, List, [], ◌∷◌, ◌++◌, map, length, Ok, Err, sym, ap, ◌∙◌, append_assoc}
use Rattle.std.proofs.lemmas.List.{append-nil}
use Rattle.ipfix_wire.specs.InTurn.{Parts}
use Rattle.ipfix_wire.proofs.Parts.{parts_of-next, parts_of-none}
use Rattle.ipfix_message.specs.declared.fault.MessageFault.{MessageFault}
use Rattle.ipfix_message.specs.Sets.{Set, next_set, sets_of}
use Rattle.ipfix_message.proofs.MessageSets.{sets_shrink, next_set-nil}

abbrev pub ids_of : List ℕ → List ℕ
ids_of w = map (λ s. s.id) (sets_of w).items

next_ids : (w : List ℕ) (s : Set) (r : List ℕ) → next_set w ≡ Ok (s, r) → ids_of w ≡ s.id ∷ ids_of r
next_ids w s r is = ap (λ (p : Parts Set). map (λ (x : Set). x.id) p.items) (parts_of-next next_set sets_shrink w s r is)

no_ids : (w : List ℕ) (f : MessageFault) → next_set w ≡ Err f → ids_of w ≡ []
no_ids w f is = ap (λ (p : Parts Set). map (λ (x : Set). x.id) p.items) (parts_of-none next_set w f is)

pub one_more_id : (all done new w r : List ℕ) (s : Set) → all ≡ done ++ ids_of w → next_set w ≡ Ok (s, r) → new ≡ done ++ s.id ∷ [] → all ≡ new ++ ids_of r
one_more_id all done new w r s so_far is pushed =
    so_far ∙ ap (λ (ids : List ℕ). done ++ ids) (next_ids w s r is) ∙ sym (append_assoc done (s.id ∷ []) (ids_of r)) ∙ ap (λ (ids : List ℕ). ids ++ ids_of r) (sym pushed)

pub no_more_ids : (all done w : List ℕ) → all ≡ done ++ ids_of w → (fault : MessageFault) × (next_set w ≡ Err fault) → done ≡ all
no_more_ids all done w so_far none = sym (so_far ∙ ap (λ (ids : List ℕ). done ++ ids) (no_ids w none.0 none.1) ∙ append-nil done)

pub at_end : (all done w : List ℕ) → all ≡ done ++ ids_of w → length w ≡ 0 → done ≡ all
at_end all done w so_far none = no_more_ids all done w so_far (next_set-nil w none)
