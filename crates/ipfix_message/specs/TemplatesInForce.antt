-- The templates that are in force after template records (RFC 7011, section 8).
use Rattle.std.specs.Prelude.{◌≡◌, ℕ, ◌+◌, Bool, true, false, ◌&&◌, not, IsTrue, ◌==◌, if◌then◌else◌, List, [], ◌∷◌, ◌++◌, Option, Some, None, Ok, Err}
use Rattle.std.specs.Cmp.Lexicographic.{pointwise}
use Rattle.ipfix_wire.specs.declared.specifier.Spec.{Spec}
use Rattle.ipfix_message.specs.declared.fault.MessageFault.TheVariants.{TemplateChanged}
use Rattle.ipfix_message.specs.declared.record.Template.{Template}
use Rattle.ipfix_message.specs.declared.template_record.TemplateKind.{TemplateKind}
use Rattle.ipfix_message.specs.declared.template_record.TemplateKind.TheVariants.{Plain, Options}
use Rattle.ipfix_message.specs.declared.template_record.Event.{Event}
use Rattle.ipfix_message.specs.declared.template_record.Event.TheVariants.{Define, Withdraw, WithdrawAll}
use Rattle.ipfix_message.specs.Outcome.{Read, ◌>>=◌, unless}
use Rattle.ipfix_message.specs.TemplateRecords.{events_of, fault_after_events}

-- ---- the template in force for an id; events stand with the newest first

-- an options template has scope fields
abbrev pub is_of : TemplateKind → Template → Bool
is_of Plain t = t.scope == 0
is_of Options t = not (t.scope == 0)

-- what a withdrawal of a kind leaves in force
abbrev pub unless_of : TemplateKind → Option Template → Option Template
unless_of kind None = None
unless_of kind (Some t) = if is_of kind t then None else Some t

-- the last definition of an id, unless a later event withdrew it
unfoldable pub in_force : List Event → ℕ → Option Template
in_force [] id = None
in_force (Define t ∷ es) id = if id == t.id then Some t else in_force es id
in_force (Withdraw kind i ∷ es) id = if id == i then unless_of kind (in_force es id) else in_force es id
in_force (WithdrawAll kind ∷ es) id = unless_of kind (in_force es id)

-- an event that ends t: another definition of its id, or a withdrawal of it or of all templates of its kind
abbrev pub Ends : Template → Event → Type 0
Ends t (Define u) = u.id ≡ t.id
Ends t (Withdraw kind id) = IsTrue (is_of kind t) × (id ≡ t.id)
Ends t (WithdrawAll kind) = IsTrue (is_of kind t)

-- t outlasts these events
abbrev pub Outlasts : Template → List Event → Type 0
Outlasts t [] = Unit {0}
Outlasts t (e ∷ es) = (¬ Ends t e) × Outlasts t es

-- t was defined, and outlasts all later events
pub record IsInForce (t : Template) (es : List Event) : Type 0 where
  pub later : List Event
  pub earlier : List Event
  pub order : es ≡ later ++ Define t ∷ earlier
  pub lasts : Outlasts t later

-- t is the last definition of this id, and no later event ended it
abbrev pub IsInForceFor : ℕ → Template → List Event → Type 0
IsInForceFor id t es = (t.id ≡ id) × IsInForce t es

-- ---- what an event means after the events before it

abbrev pub same_spec : Spec → Spec → Bool
same_spec a b = (a.element.pen == b.element.pen) && (a.element.number == b.element.number) && (a.width == b.width)

-- the same id, scope field count and field specifiers
abbrev pub same_template : Template → Template → Bool
same_template t u = (t.id == u.id) && (t.scope == u.scope) && pointwise same_spec t.specs u.specs

-- another template is there
abbrev pub is_other : Template → Option Template → Bool
is_other t None = false
is_other t (Some u) = not (same_template t u)

-- no template of that kind is there
abbrev pub is_none_of : TemplateKind → Option Template → Bool
is_none_of kind None = true
is_none_of kind (Some t) = not (is_of kind t)

-- a definition changes a template where another one is in force for its id
abbrev pub changes_template : List Event → Event → Bool
changes_template es (Define t) = is_other t (in_force es t.id)
changes_template es (Withdraw kind id) = false
changes_template es (WithdrawAll kind) = false

-- a withdrawal is ignored where no template of its kind is in force for its id; one of all templates never is
abbrev pub is_ignored : List Event → Event → Bool
is_ignored es (Define t) = false
is_ignored es (Withdraw kind id) = is_none_of kind (in_force es id)
is_ignored es (WithdrawAll kind) = false

-- whether the next event is a withdrawal that is ignored; a changed template is a fault
unfoldable pub event_gives : List Event → Event → Read Bool
event_gives es e = if changes_template es e then Err TemplateChanged else Ok (is_ignored es e)

-- events after the earlier ones es: all of them, the newest first, and how many withdrawals are ignored
unfoldable pub events_give : List Event → List Event → Read (List Event × ℕ)
events_give [] es = Ok (es, 0)
events_give (e ∷ more) es = do
  ignored ← event_gives es e
  rest ← events_give more (e ∷ es)
  Ok (rest.0, (if ignored then 1 else 0) + rest.1)

-- a template set, after the events es of its domain: what its events give, and then the fault of what is left of it
unfoldable pub template_set_gives : TemplateKind → List Event → List ℕ → Read (List Event × ℕ)
template_set_gives kind es w = events_give (events_of kind w).items es >>= λ r. unless (fault_after_events kind (events_of kind w).rest) r
