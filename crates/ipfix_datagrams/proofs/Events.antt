-- The events of a domain, put in the place of others.
use Rattle.std.proofs.Common.{◌≡◌, ℕ, Bool, true, false, eqb, is_some, List, [], Option, Some, None, refl, ap, ◌∙◌}
use Rattle.std.specs.Map.{lookup}
use Rattle.std.specs.Option.{unwrap_or}
use Rattle.std.proofs.lemmas.Bool.{eq-eqb}
use Rattle.ipfix_message.specs.declared.template_record.Event.{Event}
use Rattle.ipfix_message.specs.Domains.{History, events_in, with_events}
use Rattle.ipfix_message.specs.Alike.{knows}
use Rattle.ipfix_message.proofs.History.{put, lookup-set_value}

is_some-put : {X : Type 0} (w : X) (b : Bool) (o : Option X) → is_some (put w b o) ≡ is_some o
is_some-put w false o = refl
is_some-put w true None = refl
is_some-put w true (Some x) = refl

-- no domain comes or goes
pub knows-events : (ds : History) (domain q : ℕ) (es : List Event) → knows (with_events ds domain es) q ≡ knows ds q
knows-events ds domain q es = ap is_some (lookup-set_value q domain ds es) ∙ is_some-put es (eqb q domain) (lookup (eqb q) ds)

-- the events of a domain that is known
pub events_now : (ds : History) (domain : ℕ) (es : List Event) → knows ds domain ≡ true → events_in (with_events ds domain es) domain ≡ es
events_now ds domain es there =
    ap (λ (o : Option (List Event)). unwrap_or o []) (lookup-set_value domain domain ds es)
    ∙ ap (λ (b : Bool). unwrap_or (put es b (lookup (eqb domain) ds)) []) (eq-eqb domain domain refl)
    ∙ some (lookup (eqb domain) ds) there
  where
    some : (o : Option (List Event)) → is_some o ≡ true → unwrap_or (put es true o) [] ≡ es
    some (Some x) h = refl
    some None h = absurd cc
