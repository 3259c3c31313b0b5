use Rattle.std.proofs.Common.{◌≡◌, ◌∙◌, true, false, eqb, refl, ap, sym, subst, OnOk}
use Rattle.std.specs.Prelude.{◌&&◌}
use Rattle.std.proofs.lemmas.Bool.{ne_eqb}
use Rattle.recording_order.specs.Arrivals.{Arrival}
use Rattle.recording_order.specs.DataSets.{has_data}
use Rattle.recording_order.specs.Numbers.{is_at_due, numbers_after}
use Rattle.recording_order.specs.Windows.{WindowView, numbering, renumbered, with_last, after_writing}
use Rattle.recording_order.proofs.Keeping.{noted-last, noted-other}
use Rattle.recording_order.proofs.window.Window.note.Goals as goal
use Rattle.recording_order.proofs.window.Window.note.Goals.{then-is_at_due+then-has_data+in_ok-copy_of+in_ok-keep_last, else-is_at_due, else-is_at_due-via-then-is_at_due+else-has_data, else-is_at_due-via-else-is_at_due}

pub returns-clause-ok : goal.returns-clause-ok
returns-clause-ok c =
    let before : WindowView = c.args.self.now in
    let a : Arrival = record { header = c.args.header.now; second = c.args.second; octets = c.args.datagram.now } in
    let waits : eqb before.seconds 0 ≡ false = ap (λ (v : WindowView). eqb v.seconds 0) (sym c.self.view_is) ∙ ne_eqb c.self.inside.seconds 0 c.if-self-eq0.false in
    let at_due : c.is_at_due.result ≡ is_at_due (numbering before a.header.domain) a.header.sequence = rw c.numbering-numbering.ensures at c.is_at_due.ensures in
    let number : c.numbers_after-after.result ≡ numbers_after (numbering before a.header.domain) a.header.sequence c.args.counts = rw c.numbering-numbering.ensures at c.numbers_after-after.ensures in
    let noted : renumbered c.if-is_at_due.self a.header.domain (numbers_after (numbering before a.header.domain) a.header.sequence c.args.counts) ≡ after_writing before a c.args.counts =
    elim c.if-is_at_due.branch [
      | then-is_at_due+then-has_data+in_ok-copy_of+in_ok-keep_last w ↦
          let due : (is_at_due (numbering before a.header.domain) a.header.sequence && has_data a.octets) ≡ true =
          rw (sym at_due, w.if-is_at_due.true, sym w.has_data.ensures, w.if-has_data.true) refl in
          let kept : c.if-is_at_due.self ≡ with_last before a =
          w.self-is ∙ w.in_ok-keep_last.ensures.ok ∙ ap (with_last before) w.in_ok-copy_of.ensures in
          noted-last before c.if-is_at_due.self a c.args.counts waits due kept
      | else-is_at_due w ↦
          elim w.else-is_at_due.branch [
            | else-is_at_due-via-then-is_at_due+else-has_data v ↦
                let due : (is_at_due (numbering before a.header.domain) a.header.sequence && has_data a.octets) ≡ false =
                rw (sym at_due, v.if-is_at_due.true, sym v.has_data.ensures, v.if-has_data.false) refl in
                noted-other before c.if-is_at_due.self a c.args.counts waits due w.self-is
            | else-is_at_due-via-else-is_at_due v ↦
                let due : (is_at_due (numbering before a.header.domain) a.header.sequence && has_data a.octets) ≡ false =
                rw (sym at_due, v.if-is_at_due.false) refl in
                noted-other before c.if-is_at_due.self a c.args.counts waits due w.self-is
          ]
    ] in
    let after = ap (renumbered c.if-is_at_due.self a.header.domain) number ∙ noted in
    subst (λ (v : WindowView). OnOk c.renumber.result (c.renumber.new.self ≡ v)) after c.renumber.ensures.ok
