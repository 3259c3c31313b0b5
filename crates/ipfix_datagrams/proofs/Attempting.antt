-- What an attempt to read a datagram gives.
use Rattle.std.proofs.Common.{◌≡◌, ℕ, List, Option, sym, ap₂, subst}
use Rattle.std.specs.Prelude.{◌++◌, IsOk, flat_map}
use Rattle.std.specs.Ordering.{nat_cmp}
use Rattle.std.specs.BTreeMap.{BTreeMap, IsOrdered, values}
use Rattle.ipfix_message.specs.Domains.{DomainsView, History, admit, message_gives, template_for}
use Rattle.ipfix_message.specs.Outcome.{Fails}
use Rattle.ipfix_message.specs.declared.fault.MessageFault.{MessageFault}
use Rattle.ipfix_message.specs.declared.fault.MessageFault.TheVariants.{TemplateChanged}
use Rattle.ipfix_message.specs.declared.record.Template.{Template}
use Rattle.ipfix_datagrams.specs.declared.withdrawn_template.WithdrawnTemplate.{WithdrawnTemplate}
use Rattle.ipfix_datagrams.specs.Attempts.{CanAttempt, CanPrepare, HasFirst}
use Rattle.ipfix_datagrams.specs.Datagrams.{Changes, Preparation, Represents, dropped, replaced_by, with_withdrawn}
use Rattle.ipfix_datagrams.proofs.Answered.{are_changes, changed_is, prepared_as}

-- what holds of an attempt after these are withdrawn and defined, as it can be made
pub attempted : (domains : DomainsView) (ds : History) (domain : ℕ) (ws us : List WithdrawnTemplate) (ts vs : List Template) (P : Preparation → Type 0) → Represents domains ds → IsOk (admit ds domain) → us ≡ ws → vs ≡ ts → CanPrepare ds domain (prepared_as ws ts)
    → (CanAttempt domains ds domain (prepared_as us vs) → P (prepared_as us vs)) → P (prepared_as ws ts)
attempted domains ds domain ws us ts vs P represents room withdrawn defined can holds =
    let same : prepared_as us vs ≡ prepared_as ws ts = ap₂ (λ (a : List WithdrawnTemplate) (b : List Template). prepared_as a b) withdrawn defined in
    subst P same (holds (record { represents = represents; room = room; can = subst (CanPrepare ds domain) (sym same) can }))

-- where it fails since the datagram changes a template, those that it replaces are withdrawn, too
pub withdraws_more : (barred : List ℕ) (ds : History) (m : List ℕ) (domain : ℕ) (vs ws : List WithdrawnTemplate) (first : BTreeMap ℕ Template) (f : ℕ → Option Template) (fault : MessageFault) → vs ≡ dropped barred ds m domain → fault ≡ TemplateChanged → Fails fault (message_gives (with_withdrawn ds domain vs) m)
    → HasFirst first m → IsOrdered nat_cmp first → ((id : ℕ) → f id ≡ template_for ds domain id) → ws ≡ vs ++ flat_map (λ t. replaced_by t (f t.id)) (values first) → Changes barred ds m domain ws
withdraws_more barred ds m domain vs ws first f fault drops is_change fails = are_changes barred ds m domain vs ws first f drops (changed_is (message_gives (with_withdrawn ds domain vs) m) fault is_change fails)
