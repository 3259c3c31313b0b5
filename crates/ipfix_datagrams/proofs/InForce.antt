-- What is in force is known over UDP.
use Rattle.std.proofs.Common.{◌≡◌, ℕ, Bool, true, false, cond, eqb, is_some, List, [], ◌∷◌, Option, Some, None, refl, sym, ◌∙◌}
use Rattle.std.specs.Option.{option_or}
use Rattle.ipfix_message.specs.declared.record.Template.{Template}
use Rattle.ipfix_message.specs.declared.template_record.TemplateKind.{TemplateKind}
use Rattle.ipfix_message.specs.declared.template_record.Event.{Event}
use Rattle.ipfix_message.specs.declared.template_record.Event.TheVariants.{Define, Withdraw, WithdrawAll}
use Rattle.ipfix_message.specs.TemplatesInForce.{in_force, is_of, unless_of}
use Rattle.ipfix_message.specs.Domains.{History, events_in, template_for}
use Rattle.ipfix_datagrams.specs.Datagrams.{definition_of, known_in, withdrawn_in}
use Rattle.ipfix_datagrams.proofs.Readings.{template_is}

some_none : (t : Template) → None ≡ Some t → ⊥
some_none t e = cc

unless_some : (kind : TemplateKind) (o : Option Template) (t : Template) → unless_of kind o ≡ Some t → o ≡ Some t
unless_some kind None t e = e
unless_some kind (Some u) t e = by_test (is_of kind u) e
  where
    by_test : (b : Bool) → cond b None (Some u) ≡ Some t → Some u ≡ Some t
    by_test true h = absurd (some_none t h)
    by_test false h = h

pub in_force_known : (es : List Event) (id : ℕ) (t : Template) → in_force es id ≡ Some t → definition_of es id ≡ Some t
unfolding in_force definition_of
in_force_known [] id t e = e
in_force_known (Define u ∷ es) id t e = by_test (eqb id u.id) e (in_force_known es id t)
  where
    by_test : (b : Bool) → cond b (Some u) (in_force es id) ≡ Some t → (in_force es id ≡ Some t → definition_of es id ≡ Some t) → cond b (Some u) (definition_of es id) ≡ Some t
    by_test true h later = h
    by_test false h later = later h
in_force_known (Withdraw kind i ∷ es) id t e = in_force_known es id t (by_test (eqb id i) e)
  where
    by_test : (b : Bool) → cond b (unless_of kind (in_force es id)) (in_force es id) ≡ Some t → in_force es id ≡ Some t
    by_test true h = unless_some kind (in_force es id) t h
    by_test false h = h
in_force_known (WithdrawAll kind ∷ es) id t e = in_force_known es id t (unless_some kind (in_force es id) t e)

-- what is known is in force, or was withdrawn
pub known_or : (ds : History) (domain id : ℕ) → known_in ds domain id ≡ option_or (template_for ds domain id) (withdrawn_in ds domain id)
known_or ds domain id = by_cases (template_for ds domain id) refl
  where
    by_cases : (o : Option Template) → template_for ds domain id ≡ o → known_in ds domain id ≡ option_or o (cond (is_some o) None (known_in ds domain id))
    by_cases None e = refl
    by_cases (Some t) e = in_force_known (events_in ds domain) id t (sym (template_is ds domain id) ∙ e)
