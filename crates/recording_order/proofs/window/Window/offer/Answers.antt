use Rattle.std.proofs.Common.{◌≡◌, ◌∙◌, true, false, eqb, ap, sym}
use Rattle.std.proofs.lemmas.Bool.{ne_eqb}
use Rattle.recording_order.specs.Arrivals.{Arrival}
use Rattle.recording_order.specs.Windows.{WindowView, is_doubled}
use Rattle.recording_order.specs.declared.numbering.Standing.TheVariants.{AtOnce, Ahead, Afar}
use Rattle.recording_order.proofs.Keeping.{offered-doubled, offered-other}
use Rattle.recording_order.proofs.window.Window.offer.Goals as goal

pub returns-then-is_doubled-clause-ok : goal.returns-then-is_doubled-clause-ok
returns-then-is_doubled-clause-ok c =
    let waits : eqb c.args.self.now.seconds 0 ≡ false = ap (λ (v : WindowView). eqb v.seconds 0) (sym c.self.view_is) ∙ ne_eqb c.self.inside.seconds 0 c.if-self-eq0.false in
    let doubled : true ≡ is_doubled c.args.self.now c.args.header.now.domain c.args.datagram.now = sym c.if-is_doubled.true ∙ c.is_doubled.ensures in
    let a : Arrival = record { header = c.args.header.now; second = c.args.second; octets = c.args.datagram.now } in
    rw c.count_doubled.ensures (sym (offered-doubled c.args.self.now a waits doubled))

pub returns-in-AtOnce-clause-ok : goal.returns-in-AtOnce-clause-ok
returns-in-AtOnce-clause-ok c =
    let waits : eqb c.args.self.now.seconds 0 ≡ false = ap (λ (v : WindowView). eqb v.seconds 0) (sym c.self.view_is) ∙ ne_eqb c.self.inside.seconds 0 c.if-self-eq0.false in
    let other : false ≡ is_doubled c.args.self.now c.args.header.now.domain c.args.datagram.now = sym c.if-is_doubled.false ∙ c.is_doubled.ensures in
    let a : Arrival = record { header = c.args.header.now; second = c.args.second; octets = c.args.datagram.now } in
    rw (c.pass.ensures) (sym (offered-other c.args.self.now a AtOnce waits other (rw c.numbering.ensures at (sym c.in-AtOnce.is ∙ c.standing_of.ensures))))

pub returns-in-Ahead-clause-ok : goal.returns-in-Ahead-clause-ok
returns-in-Ahead-clause-ok c =
    let waits : eqb c.args.self.now.seconds 0 ≡ false = ap (λ (v : WindowView). eqb v.seconds 0) (sym c.self.view_is) ∙ ne_eqb c.self.inside.seconds 0 c.if-self-eq0.false in
    let other : false ≡ is_doubled c.args.self.now c.args.header.now.domain c.args.datagram.now = sym c.if-is_doubled.false ∙ c.is_doubled.ensures in
    let a : Arrival = record { header = c.args.header.now; second = c.args.second; octets = c.args.datagram.now } in
    rw (offered-other c.args.self.now a Ahead waits other (rw c.numbering.ensures at (sym c.in-Ahead.is ∙ c.standing_of.ensures))) c.offer_ahead.ensures.ok

pub returns-in-Afar-clause-ok : goal.returns-in-Afar-clause-ok
returns-in-Afar-clause-ok c =
    let waits : eqb c.args.self.now.seconds 0 ≡ false = ap (λ (v : WindowView). eqb v.seconds 0) (sym c.self.view_is) ∙ ne_eqb c.self.inside.seconds 0 c.if-self-eq0.false in
    let other : false ≡ is_doubled c.args.self.now c.args.header.now.domain c.args.datagram.now = sym c.if-is_doubled.false ∙ c.is_doubled.ensures in
    let a : Arrival = record { header = c.args.header.now; second = c.args.second; octets = c.args.datagram.now } in
    sym (offered-other c.args.self.now a Afar waits other (rw c.numbering.ensures at (sym c.in-Afar.is ∙ c.standing_of.ensures)))
