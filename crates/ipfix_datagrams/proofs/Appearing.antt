-- A domain among the others, which appears where it has not yet.
use Rattle.std.proofs.Common.{◌≡◌, ℕ, ◌<◌, arith, Bool, true, false, cond, eqb, is_some, List, [], ◌∷◌, ◌++◌, Option, Some, None, Ok, refl, sym, ap, subst, ◌∙◌, inl, inr}
use Rattle.std.specs.Prelude.{IsOk}
use Rattle.std.specs.Map.{lookup}
use Rattle.std.specs.Option.{unwrap_or}
use Rattle.std.proofs.lemmas.Bool.{eq-eqb, lt-ltb}
use Rattle.ipfix_message.specs.declared.template_record.Event.{Event}
use Rattle.ipfix_message.specs.Domains.{History, admit, alone, events_in, with_events}
use Rattle.ipfix_message.specs.Alike.{knows}
use Rattle.ipfix_message.proofs.History.{lookup-append, lookup-front, none_is}
use Rattle.ipfix_message.proofs.PartsOf.{HasRoom}
use Rattle.ipfix_datagrams.specs.Datagrams.{with_domain}
use Rattle.ipfix_datagrams.proofs.WithdrawnDomains.{alone_none, alone_knows}

-- it was there
pub with_known : (ds : History) (domain : ℕ) → knows ds domain ≡ true → with_domain ds domain ≡ ds
with_known ds domain there = ap (λ (b : Bool). cond b ds (ds ++ (domain, []) ∷ [])) there

with_new : (ds : History) (domain : ℕ) → knows ds domain ≡ false → with_domain ds domain ≡ ds ++ (domain, []) ∷ []
with_new ds domain new = ap (λ (b : Bool). cond b ds (ds ++ (domain, []) ∷ [])) new

abbrev no_event : List Event
no_event = []

abbrev empty : Option (List Event)
empty = Some []

abbrev nothing : Option (List Event)
nothing = None

found_last : (ds : History) (domain : ℕ) → knows ds domain ≡ false → lookup (eqb domain) (ds ++ (domain, []) ∷ []) ≡ Some []
found_last ds domain new =
    lookup-append (eqb domain) ds ((domain, []) ∷ []) (none_is (lookup (eqb domain) ds) new) ∙ by_test (eqb domain domain) (eq-eqb domain domain refl)
  where
    by_test : (b : Bool) → b ≡ true → cond b empty nothing ≡ empty
    by_test true e = refl
    by_test false e = absurd cc

-- it is there
pub knows-domain : (ds : History) (domain : ℕ) → knows (with_domain ds domain) domain ≡ true
knows-domain ds domain = by_cases (knows ds domain) refl
  where
    by_cases : (b : Bool) → knows ds domain ≡ b → knows (with_domain ds domain) domain ≡ true
    by_cases true e = ap (λ (k : History). knows k domain) (with_known ds domain e) ∙ e
    by_cases false e = ap (λ (k : History). knows k domain) (with_new ds domain e) ∙ ap is_some (found_last ds domain e)

-- and no other is that wasn't
pub knows-domain_other : (ds : History) (domain q : ℕ) → eqb q domain ≡ false → knows (with_domain ds domain) q ≡ knows ds q
knows-domain_other ds domain q other = by_cases (knows ds domain) refl
  where
    by_lookup : (o : Option (List Event)) → lookup (eqb q) ds ≡ o → is_some (lookup (eqb q) (ds ++ (domain, []) ∷ [])) ≡ is_some o
    by_lookup (Some es) e = ap is_some (lookup-front (eqb q) ds ((domain, []) ∷ []) es e)
    by_lookup None e = ap is_some (lookup-append (eqb q) ds ((domain, []) ∷ []) e) ∙ ap (λ (b : Bool). is_some (cond b empty nothing)) other

    by_cases : (b : Bool) → knows ds domain ≡ b → knows (with_domain ds domain) q ≡ knows ds q
    by_cases true e = ap (λ (k : History). knows k q) (with_known ds domain e)
    by_cases false e = ap (λ (k : History). knows k q) (with_new ds domain e) ∙ by_lookup (lookup (eqb q) ds) refl

-- and no domain has other events
pub events-domain : (ds : History) (domain q : ℕ) → events_in (with_domain ds domain) q ≡ events_in ds q
events-domain ds domain q = by_cases (knows ds domain) refl
  where
    none_more : (b : Bool) → unwrap_or (cond b empty nothing) no_event ≡ no_event
    none_more true = refl
    none_more false = refl

    by_lookup : (o : Option (List Event)) → lookup (eqb q) ds ≡ o → unwrap_or (lookup (eqb q) (ds ++ (domain, []) ∷ [])) [] ≡ unwrap_or o []
    by_lookup (Some es) e = ap (λ (o : Option (List Event)). unwrap_or o []) (lookup-front (eqb q) ds ((domain, []) ∷ []) es e)
    by_lookup None e = ap (λ (o : Option (List Event)). unwrap_or o []) (lookup-append (eqb q) ds ((domain, []) ∷ []) e) ∙ none_more (eqb q domain)

    by_cases : (b : Bool) → knows ds domain ≡ b → events_in (with_domain ds domain) q ≡ events_in ds q
    by_cases true e = ap (λ (k : History). events_in k q) (with_known ds domain e)
    by_cases false e = ap (λ (k : History). events_in k q) (with_new ds domain e) ∙ by_lookup (lookup (eqb q) ds) refl

-- where there is room for it
pub admits_with : (ds : History) (domain : ℕ) → HasRoom ds domain → admit ds domain ≡ Ok (with_domain ds domain)
unfolding admit
admits_with ds domain (inl there) = rw there refl
admits_with ds domain (inr new) = rw (new.0, lt-ltb _ 1024 new.1) refl

pub room_ok : (ds : History) (domain : ℕ) → HasRoom ds domain → IsOk (admit ds domain)
room_ok ds domain room = rw (admits_with ds domain room) refl

pub knows_room : (ds : History) (domain : ℕ) → knows ds domain ≡ true → HasRoom ds domain
knows_room ds domain there = inl there

-- and so it has alone
pub room_alone : (ds : History) (domain : ℕ) → HasRoom ds domain → HasRoom (alone ds domain) domain
room_alone ds domain (inl there) = inl (alone_knows ds domain ∙ there)
room_alone ds domain (inr new) =
    let empty : alone ds domain ≡ [] = alone_none ds domain (none_is (lookup (eqb domain) ds) new.0) in
    subst (λ (k : History). HasRoom k domain) (sym empty) (inr (refl, few))
  where
    few : 0 < 1024
    few = omega arith
