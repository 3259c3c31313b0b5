use Rattle.std.proofs.Common.{◌≡◌, ℕ, List, [], ◌∷◌, ◌++◌, Ok, false, length, refl, sym, ap, subst, ◌∙◌, rules}
use Rattle.std.specs.Prelude.{fold}
use Rattle.ipfix_wire.specs.declared.header.Header.{Header}
use Rattle.ipfix_message.specs.Domains.{DomainsView, StandsFor}
use Rattle.ipfix_message.specs.declared.passed_over.PassedOver.{PassedOver}
use Rattle.ipfix_message.specs.declared.record.DataRecord.{DataRecord}
use Rattle.ipfix_session.specs.Given.{known_after, octets_of}
use Rattle.ipfix_session.specs.Ledger.{count_in}
use Rattle.ipfix_session.proofs.MessagesTaken.{octets-append}
use Rattle.ipfix_session.proofs.Reaching.{decodes_within}
use Rattle.recording_files.specs.KeptOptions.{Kept, kept_then, kept_with}
use Rattle.recording_files.specs.Recordings.{Precedes}
use Rattle.recording_files.specs.Recorders.{State, KeepsWithin}
use Rattle.ipfix_message.proofs.PartsOf.{was_read}
use Rattle.ipfix_message.proofs.TemplateLimits.{left_within}
use Rattle.recording_files.proofs.Keeping.{one_header, keeps_on}
use Rattle.recording_files.proofs.recorder.Recorder.take_message.Goals as goal

pub returns-clause-records : goal.returns-clause-records
returns-clause-records c = λ limit before here keeps.
    let ds = known_after [] (before ++ here) in
    let inside : State = record { domains = c.self.inside.domains; limit = c.self.inside.limit; due = c.self.inside.due.entries; here = c.self.inside.here.entries; kept = c.self.inside.kept.items } in
    let at_head : KeepsWithin limit c.append_head.new.self before here = subst (λ (s : State). KeepsWithin limit s before here) (sym c.append_head.ensures.same) keeps in
    let now : KeepsWithin limit inside before here = subst (λ (s : State). KeepsWithin limit s before here) (sym (c.self.view_is ∙ c.append_lead.ensures.same)) at_head in
    let r = decodes_within inside.limit limit ds (Ok c.in-Ok.decoded) _ c.args.message.now now.has_limit now.within (c.in-Ok.ensures.gives now.not_spent ds now.known) in
    let x = r.0 in
    let given = left_within limit ds c.args.message.now x r.1 in
    let read = was_read ds c.args.message.now x given.0 in
    let header : c.args.header.now ≡ x.header = one_header c.args.message.now c.args.header.now x.header c.requires read.header in
    let head = c.in_ok-append_head.ensures.head limit before here keeps in
    let lead = c.in_ok-append_lead.ensures.lead limit before here at_head in
    let first : c.append_head.new.out.items ≡ octets_of head.head = head.octets ∙ ap (λ (w : List ℕ). w ++ octets_of head.head) c.clear.ensures.items in
    let both : c.append_lead.new.out.items ≡ octets_of (head.head ++ lead.lead) =
    lead.octets ∙ ap (λ (w : List ℕ). w ++ octets_of lead.lead) first ∙ sym (octets-append head.head lead.lead) in
    let back : c.decode_within.new.self ≡ c.keep.new.self.domains = sym c.in_ok-keep.ensures.domains in
    let fresh : c.keep.new.self.domains.spent ≡ false = subst (λ (s : DomainsView). s.spent ≡ false) back c.in-Ok.ensures.ok in
    let stands : StandsFor c.keep.new.self.domains.domains x.domains = subst (λ (s : DomainsView). StandsFor s.domains x.domains) back r.3 in
    let others : c.keep_options.new.self ≡ record c.keep.new.self { kept = c.keep_options.new.self.kept } = c.keep_options.ensures.others in
    let size : c.len.result ≡ length c.in-Ok.decoded.records.items = search rules in
    let count : c.len.result ≡ count_in x = size ∙ ap (λ (rs : List DataRecord). length rs) r.2.records in
    let unknown : c.in-Ok.decoded.unknown_sets ≡ x.decoding.passed_over.unknown_sets = ap (λ (p : PassedOver). p.unknown_sets) r.2.passed_over in
    let again : c.len-2.result ≡ length c.in-Ok.decoded.records.items = search rules in
    let kept : c.keep_options.new.self.kept ≡ kept_then inside.kept x =
    c.in_ok-keep_options.ensures.kept fresh x.domains stands
    ∙ ap (λ (rs : List DataRecord). fold (kept_with x.domains) c.keep.new.self.kept rs) c.deref.ensures.value
    ∙ ap (λ (ks : List Kept). fold (kept_with x.domains) ks c.in-Ok.decoded.records.items) c.keep.ensures.kept
    ∙ ap (λ (rs : List DataRecord). fold (kept_with x.domains) inside.kept rs) r.2.records in
    let own = keeps_on limit inside (record c.keep.new.self { kept = c.keep_options.new.self.kept }) before here x c.args.header.now c.len.result c.in-Ok.decoded.unknown_sets now fresh stands c.in_ok-keep.ensures.limit given.1 header count unknown c.in_ok-keep.ensures.due c.in_ok-keep.ensures.in_file kept in
    record {
      given = x;
      read = r.1;
      lead = head.head ++ lead.lead;
      is = subst (λ (h : Header). Precedes before here h (head.head ++ lead.lead)) header (record { head = head.head; own = lead.lead; is = refl; begins = head.is; leads = lead.is });
      octets_are = ap (λ (w : List ℕ). w ++ c.args.message.now) both;
      keeps = subst (λ (s : State). KeepsWithin limit s before (here ++ x ∷ [])) (sym others) own;
      counts = record { header = sym header; records = sym (again ∙ ap (λ (rs : List DataRecord). length rs) r.2.records); passed_over = sym r.2.passed_over ∙ sym c.passed_over.ensures };
    }
