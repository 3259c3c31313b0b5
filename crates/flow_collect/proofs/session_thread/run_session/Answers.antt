use Rattle.std.proofs.Common.{◌≡◌, ◌∷◌, ◌++◌, [], ap, sym, ◌∙◌, arith}
use Rattle.flow_link.specs.Parcels.{items}
use Rattle.flow_link.specs.declared.parcel.Parcel.TheVariants.{Last}
use Rattle.flow_collect.specs.Dealt.{given_to}
use Rattle.flow_collect.proofs.SendLists.{chain_sent, link_view}
use Rattle.flow_collect.proofs.SessionSinks.{went_through}
use Rattle.flow_collect.proofs.session_thread.run_session.Goals as goal

pub returns : goal.returns
returns g c =
    let over = c.drive_in_full-full.new.sink in
    let none : over.refused ≡ 0 = omega (arith, c.if-sinks-gt0.false) in
    let tells = c.told_at_end-report.ensures.told in
    let went = went_through g.S.Source.seen link_view (given_to c.args.start) c.drive_in_full-full.new.source c.drive_in_full-full.result _ _ c.in_ok-sinks.sinks over
    c.in_ok-sinks.ensures c.in_default.is none (rw c.limits.ensures at c.drive_in_full-full.ensures)
    (record { full_is = tells.full_is; filtered_is = tells.filtered_is; tells = tells.tells; times_are = tells.times_are; great_is = tells.great_is }) in
    let chain = chain_sent (λ k. k.sender) (λ k. k.sent) c.new-link.result went.records over.sink.sink.sink.sink went.chain in
    let link = c.told_at_end-report.ensures.sink in
    let last = rw c.if-not-sent.false at c.send_last-sent.ensures.sent in
    let sender = c.new-link.ensures.0 in
    let sent : over.sink.sink.sink.sink.sender.sent ≡ items went.records = chain.0 ∙ ap (λ x. x ++ items went.records) (ap (λ s. s.sent) sender ∙ c.requires) in
    record {
      records = went.records;
      given = went.given;
      sent_is = sym (ap (λ k. k.sender.sent) link) ∙ last ∙ ap (λ x. x ++ Last ∷ []) sent;
      link_is = sym (ap (λ k. k.sender.link) link) ∙ c.send_last-sent.ensures.link ∙ (chain.1 ∙ ap (λ s. s.link) sender);
      capacity_is = sym (ap (λ k. k.sender.capacity) link) ∙ c.send_last-sent.ensures.capacity ∙ (chain.2 ∙ ap (λ s. s.capacity) sender);
    }
