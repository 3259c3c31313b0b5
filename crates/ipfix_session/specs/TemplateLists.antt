-- The templates that are in force, as a list (RFC 7011, section 8).
use Rattle.std.specs.Prelude.{◌≡◌, List, Some, All, Contains}
use Rattle.ipfix_message.specs.TemplatesInForce.{in_force}
use Rattle.ipfix_message.specs.declared.record.Template.{Template}
use Rattle.ipfix_message.specs.declared.template_record.Event.{Event}

-- the templates are in force after these events, and there are no others
pub record AreInForce (ts : List Template) (es : List Event) : Type 0 where
  pub each : All (λ t. in_force es t.id ≡ Some t) ts
  pub all : (t : Template) → in_force es t.id ≡ Some t → Contains ts t
