-- Reading field specifiers one after the other, as a loop does.
use Rattle.std.proofs.Common.{◌≡◌, ℕ, suc, ◌+◌, ◌-◌, ◌<◌, ◌≤◌, List, [], ◌∷◌, ◌++◌, drop, Option, Some, None, Result, Ok, Err, sym, ap, ◌∙◌, arith}
use Rattle.std.proofs.lemmas.List.{append-nil}
use Rattle.ipfix_wire.specs.FieldSpecifier.{spec_at}
use Rattle.ipfix_wire.specs.declared.specifier.Spec.{Spec}
use Rattle.ipfix_message.specs.declared.fault.MessageFault.{MessageFault}
use Rattle.ipfix_message.specs.declared.fault.MessageFault.TheVariants.{TemplateCut}
use Rattle.ipfix_message.specs.Outcome.{◌>>=◌}
use Rattle.ipfix_message.specs.TemplateRecords.{one_spec, specs_at}
use Rattle.ipfix_message.proofs.Reading.{with_front, with_front-next}

pub goes_on : (front : List Spec) (count i : ℕ) (w : List ℕ) (s : Spec) (used : ℕ) (total : Result (List Spec × List ℕ) MessageFault) → i < count → spec_at w ≡ Some (s, used)
    → with_front front (specs_at (count - i) w) ≡ total → with_front (front ++ s ∷ []) (specs_at (count - (i + 1)) (drop used w)) ≡ total
unfolding specs_at
goes_on front count i w s used total lt h so_far =
    let k : count - i ≡ suc (count - (i + 1)) = omega arith in
    let here : one_spec (spec_at w) w ≡ Ok (s, drop used w) = ap (λ (o : Option (Spec × ℕ)). one_spec o w) h in
    let one : with_front front (specs_at (count - i) w) ≡ with_front (front ++ s ∷ []) (specs_at (count - (i + 1)) (drop used w)) =
    ap (λ (n : ℕ). with_front front (specs_at n w)) k
    ∙ ap (λ (r : Result (Spec × List ℕ) MessageFault). with_front front (r >>= λ first. specs_at (count - (i + 1)) first.1 >>= λ others. Ok (first.0 ∷ others.0, others.1))) here
    ∙ with_front-next front s (specs_at (count - (i + 1)) (drop used w)) in
    sym one ∙ so_far

pub ends : (front : List Spec) (count i : ℕ) (w : List ℕ) (total : Result (List Spec × List ℕ) MessageFault) → i < count → spec_at w ≡ None
    → with_front front (specs_at (count - i) w) ≡ total → total ≡ Err TemplateCut
unfolding specs_at
ends front count i w total lt h so_far =
    let k : count - i ≡ suc (count - (i + 1)) = omega arith in
    let here : one_spec (spec_at w) w ≡ Err TemplateCut = ap (λ (o : Option (Spec × ℕ)). one_spec o w) h in
    sym so_far ∙ ap (λ (n : ℕ). with_front front (specs_at n w)) k
    ∙ ap (λ (r : Result (Spec × List ℕ) MessageFault). with_front front (r >>= λ first. specs_at (count - (i + 1)) first.1 >>= λ others. Ok (first.0 ∷ others.0, others.1))) here

pub is_done : (front : List Spec) (count i : ℕ) (w : List ℕ) (total : Result (List Spec × List ℕ) MessageFault) → count ≤ i → with_front front (specs_at (count - i) w) ≡ total → total ≡ Ok (front, w)
unfolding specs_at
is_done front count i w total le so_far =
    let k : count - i ≡ 0 = omega arith in
    sym so_far ∙ ap (λ (n : ℕ). with_front front (specs_at n w)) k ∙ ap (λ (ss : List Spec). Ok (ss, w)) (append-nil front)
