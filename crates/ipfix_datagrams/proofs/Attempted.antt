-- An attempt to read a datagram in a copy of its domain.
use Rattle.std.proofs.Common.{◌≡◌, ℕ, true, false, List, [], ◌∷◌, Option, Some, None, Ok, map, refl, sym, ap, subst, ◌∙◌, arith, eqb, inl, inr, is_some}
use Rattle.std.specs.Prelude.{IsOk}
use Rattle.std.specs.Map.{lookup}
use Rattle.std.specs.BTreeMap.{BTreeMap, values}
use Rattle.ipfix_message.specs.declared.record.Template.{Template}
use Rattle.ipfix_datagrams.specs.declared.withdrawn_template.WithdrawnTemplate.{WithdrawnTemplate}
use Rattle.ipfix_message.specs.declared.template_record.Event.{Event}
use Rattle.ipfix_wire.specs.declared.header.Header.{Header}
use Rattle.ipfix_message.specs.declared.fault.MessageFault.{MessageFault}
use Rattle.ipfix_message.specs.TemplatesInForce.{in_force}
use Rattle.ipfix_message.specs.Outcome.{Fails}
use Rattle.ipfix_message.specs.Messages.{Decoding}
use Rattle.ipfix_message.specs.Domains.{DomainsView, History, Message, admit, alone, events_in, template_for, message_header, message_gives}
use Rattle.ipfix_message.specs.Alike.{Alike, knows}
use Rattle.ipfix_message.proofs.PartsOf.{HasRoom}
use Rattle.ipfix_datagrams.specs.Datagrams.{Preparation, Represents, prepared, with_withdrawn}
use Rattle.ipfix_datagrams.specs.Attempts.{CanDefine, CanPrepare, MayWithdraw, Reads}
use Rattle.ipfix_datagrams.proofs.Appearing.{room_alone, room_ok}
use Rattle.ipfix_datagrams.proofs.WithdrawnDomains.{alone_events, alone_knows}
use Rattle.ipfix_datagrams.proofs.Defined.{room_prepared, room_withdrawn, same_in, same_prepared}
use Rattle.ipfix_datagrams.proofs.Readings.{SameGiven, room_of, same_reading, alike_given, alike_fails, template_behind, header_same}

-- the copy, after the preparation
abbrev copy : History → ℕ → Preparation → History
copy ds domain p = prepared (alone ds domain) domain p

-- the copy can be prepared as the domain can
pub copy_may : (ds : History) (domain : ℕ) (ws : List WithdrawnTemplate) → MayWithdraw ds domain ws → MayWithdraw (alone ds domain) domain ws
copy_may ds domain ws (inl none) = inl none
copy_may ds domain ws (inr there) = inr (alone_knows ds domain ∙ there)

pub copy_can : (ds : History) (domain : ℕ) (p : Preparation) → CanPrepare ds domain p → CanPrepare (alone ds domain) domain p
copy_can ds domain p can =
    let may = copy_may ds domain p.withdrawn can.0 in
    (may, subst (λ (es : List Event). CanDefine es p.defined) (sym (same_in ds (alone ds domain) domain p.withdrawn can.0 may (alone_events ds domain))) can.1)

pub copy_room : (ds : History) (domain : ℕ) (ws : List WithdrawnTemplate) → MayWithdraw ds domain ws → IsOk (admit ds domain) → IsOk (admit (with_withdrawn (alone ds domain) domain ws) domain)
copy_room ds domain ws may ok =
    room_ok (with_withdrawn (alone ds domain) domain ws) domain (room_withdrawn (alone ds domain) domain ws (copy_may ds domain ws may) (room_alone ds domain (room_of ds domain ok)))

-- the datagram is read in the copy as it is there
copy_reads : (ds : History) (m : List ℕ) (h : Header) (p : Preparation) → message_header m ≡ Ok h → IsOk (admit ds h.domain) → CanPrepare ds h.domain p
    → Alike SameGiven (message_gives (copy ds h.domain p) m) (message_gives (prepared ds h.domain p) m)
copy_reads ds m h p good ok can =
    let room = room_of ds h.domain ok in
    let may = copy_may ds h.domain p.withdrawn can.0 in
    same_reading (copy ds h.domain p) (prepared ds h.domain p) m h good (room_prepared (alone ds h.domain) h.domain p may (room_alone ds h.domain room)) (room_prepared ds h.domain p can.0 room)
    (same_prepared ds (alone ds h.domain) h.domain p can.0 may (alone_events ds h.domain))

pub attempt_fails : (ds : History) (m : List ℕ) (h : Header) (p : Preparation) (f : MessageFault) → message_header m ≡ Ok h → IsOk (admit ds h.domain) → CanPrepare ds h.domain p
    → Fails f (message_gives (copy ds h.domain p) m) → Fails f (message_gives (prepared ds h.domain p) m)
attempt_fails ds m h p f good ok can fails = alike_fails (message_gives (copy ds h.domain p) m) (message_gives (prepared ds h.domain p) m) f (copy_reads ds m h p good ok can) fails

-- the templates after it are those of the message
behind : (fs ds : History) (m : List ℕ) (h : Header) (x y : Message) (id : ℕ) → message_header m ≡ Ok h → message_gives fs m ≡ Ok x → SameGiven x y → template_for x.domains h.domain id ≡ in_force y.decoding.events id
behind fs ds m h x y id good read same =
    ap (λ (k : Header). template_for x.domains k.domain id) (sym (header_same fs m h x good read)) ∙ template_behind fs m x id read ∙ ap (λ (d : Decoding). in_force d.events id) same.1

pub attempt_reads : (ds : History) (m : List ℕ) (h : Header) (p : Preparation) (x : Message) (after : DomainsView) → message_header m ≡ Ok h → IsOk (admit ds h.domain) → CanPrepare ds h.domain p
    → message_gives (copy ds h.domain p) m ≡ Ok x → Represents after x.domains → Reads ds h.domain p m after
attempt_reads ds m h p x after good ok can read represents =
    let y = alike_given (message_gives (copy ds h.domain p) m) (message_gives (prepared ds h.domain p) m) x (copy_reads ds m h p good ok can) read in
    let same : y.0.header ≡ h = header_same (prepared ds h.domain p) m h y.0 good y.1 in
    record {
      given = y.0;
      domain_is = ap (λ (k : Header). k.domain) same;
      read = y.1;
      leaves = record {
        history = x.domains;
        represents = represents;
        same = λ id. ap (λ (k : Header). template_for x.domains k.domain id) same ∙ behind (copy ds h.domain p) ds m h x y.0 id good read y.2;
      };
    }
