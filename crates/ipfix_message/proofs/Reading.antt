-- What reading gives: a value, or the first fault.
use Rattle.std.proofs.Common.{◌≡◌, ℕ, List, [], ◌∷◌, ◌++◌, Result, Ok, Err, refl, ap, append_assoc, inl, inr}
use Rattle.std.specs.Prelude.{◌⊎◌}
use Rattle.ipfix_message.specs.declared.fault.MessageFault.{MessageFault}
use Rattle.ipfix_message.specs.declared.fault.MessageFault.TheVariants.{RecordCut, OutOfMemory}
use Rattle.ipfix_message.specs.Outcome.{◌>>=◌, Fails}
use Rattle.ipfix_message.specs.declared.fault.MessageFault.TheVariants as faults

-- ---- a value, and a fault

abbrev pub done : {A : Type 0} → A → Result A MessageFault
done x = Ok x

abbrev pub failed : {A : Type 0} → MessageFault → Result A MessageFault
failed e = Err e

pub ok_is : {A : Type 0} (x y : A) → done x ≡ done y → x ≡ y
ok_is x y e = cc

pub not_both : {A : Type 0} (x : A) (e : MessageFault) → done x ≡ failed e → ⊥
not_both x e h = cc

pub fault_is : {A : Type 0} (d e : MessageFault) → failed {A = A} d ≡ failed e → d ≡ e
fault_is d e h = cc

pub bind_ok : {A B : Type 0} (r : Result A MessageFault) (f : A → Result B MessageFault) (y : B) → (r >>= f) ≡ Ok y → (x : A) × (r ≡ Ok x) × (f x ≡ Ok y)
bind_ok (Ok x) f y e = (x, refl, e)
bind_ok (Err d) f y e = absurd cc

pub bind_err : {A B : Type 0} (r : Result A MessageFault) (f : A → Result B MessageFault) (d : MessageFault) → (r >>= f) ≡ Err d → (r ≡ Err d) ⊎ ((x : A) × (r ≡ Ok x) × (f x ≡ Err d))
bind_err (Ok x) f d e = inr (x, refl, e)
bind_err (Err c) f d e = inl (ap (λ (k : MessageFault). Err k) (fault_is c d e))

-- a fault of the part is a fault of the whole
pub Fails-of : {X Y : Type 0} (e : MessageFault) (part : Result X MessageFault) (whole : Result Y MessageFault) → ((f : MessageFault) → part ≡ Err f → whole ≡ Err f) → Fails e part → Fails e whole
Fails-of OutOfMemory part whole h fails = tt
Fails-of faults.Version part whole h fails = h _ fails
Fails-of faults.MessageLength part whole h fails = h _ fails
Fails-of faults.SetHeader part whole h fails = h _ fails
Fails-of faults.SetLength part whole h fails = h _ fails
Fails-of faults.TemplateId part whole h fails = h _ fails
Fails-of faults.TemplateCut part whole h fails = h _ fails
Fails-of faults.Scope part whole h fails = h _ fails
Fails-of faults.ZeroLength part whole h fails = h _ fails
Fails-of faults.TemplateChanged part whole h fails = h _ fails
Fails-of faults.RecordCut part whole h fails = h _ fails
Fails-of faults.TooManyDomains part whole h fails = h _ fails
Fails-of faults.Spent part whole h fails = h _ fails
Fails-of faults.TooManyFields part whole h fails = h _ fails

-- ---- one after the other, as a loop reads

-- what was read before, and what is still read
abbrev pub with_front : {X : Type 0} → List X → Result (List X × List ℕ) MessageFault → Result (List X × List ℕ) MessageFault
with_front front read = read >>= λ x. Ok (front ++ x.0, x.1)

pub with_front-next : {X : Type 0} (front : List X) (x : X) (read : Result (List X × List ℕ) MessageFault)
    → with_front front (read >>= λ r. Ok (x ∷ r.0, r.1)) ≡ with_front (front ++ x ∷ []) read
with_front-next front x (Ok r) = ap (λ (xs : List _). Ok (xs, r.1)) (simp append_assoc)
with_front-next front x (Err e) = refl
