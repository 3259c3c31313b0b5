use Rattle.std.proofs.Common.{◌≡◌, ℕ, cond, eqb, List, [], ◌∷◌, ◌++◌, length, Some, sym, ap, subst, ◌∙◌, append_assoc, arith}
use Rattle.indexmap.specs.IndexMap.{get}
use Rattle.ipfix_wire.specs.declared.header.Header.{Header}
use Rattle.ipfix_message.specs.Domains.{History, Message, StandsFor}
use Rattle.ipfix_session.specs.Given.{known_after, records_in}
use Rattle.ipfix_session.specs.Intake.{counts_of}
use Rattle.ipfix_session.proofs.Chains.{known_after-push}
use Rattle.ipfix_session.proofs.Reaching.{tells_accounts, tells_delivered}
use Rattle.recording_resumption.specs.Readings.{HasCounted}
use Rattle.recording_resumption.specs.Resumption.{last_message}
use Rattle.recording_resumption.specs.declared.file_messages.FileMessages.{FileMessages}
use Rattle.recording_resumption.specs.declared.last_message.LastMessage.{LastMessage}
use Rattle.recording_resumption.proofs.Reading.{counted_on}
use Rattle.recording_resumption.proofs.file_messages.FileMessagesMessageSinkUnit.take.Goals as goal

pub returns : goal.returns
returns c = λ before messages given taken.
    let m = c.args.self.now in
    let n : FileMessages = record { domains = c.decode_with_header.new.self; tally = c.take.new.self; last = c.insert.new.self } in
    let ms = before ++ given in
    let r = c.in_ok-decoded.ensures.gives taken.is_ready.not_spent (known_after (known_after [] before) given) taken.is_ready.stands in
    let x = r.0 in
    let size : c.len-records.result ≡ length c.in_ok-decoded.decoded.records.items = omega arith in
    let count : c.len-records.result ≡ length x.decoding.records = size ∙ ap length r.2.records in
    let accounts = c.make_room.new.self.accounts.entries in
    let delivered = c.saturating_add-self.result in
    let put = tells_delivered (record (counts_of m.tally) { accounts = accounts }) delivered (length x.decoding.records) ms (length (records_in ms))
    (tells_accounts (counts_of m.tally) accounts ms (length (records_in ms)) taken.took.tells c.in_ok-make_room.ensures.same) (λ n is. omega (arith, is, count, c.saturating_add-self.ensures)) in
    let tells = c.take.ensures.tells ms x _ put (sym r.2.header) (sym count) (sym r.2.passed_over ∙ sym c.passed_over-passed_over.ensures) in
    let last : (d : ℕ) → get eqb c.insert.new.self d ≡ cond (eqb x.header.domain d) (Some (last_message x)) (get eqb m.last d) =
    λ d. c.in_ok-insert.ensures.updates.0 d ∙ ap (λ (h : Header). cond (eqb h.domain d) (Some c.last_message.result) (get eqb m.last d)) r.2.header
    ∙ ap (λ (l : LastMessage). cond (eqb x.header.domain d) (Some l) (get eqb m.last d)) (c.last_message.ensures x r.2) in (
      x,
      r.1,
      record {
        took = subst (λ (all : List Message). HasCounted n all) (append_assoc before given (x ∷ [])) (counted_on m n ms x taken.took tells last);
        is_ready = record {
          not_spent = c.in_ok-decoded.ensures.ok;
          stands = subst (λ (ds : History). StandsFor c.decode_with_header.new.self.domains ds) (sym (known_after-push (known_after [] before) given x)) r.3;
        };
      },
    )
