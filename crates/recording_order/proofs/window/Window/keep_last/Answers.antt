use Rattle.std.proofs.Common.{◌≡◌, ◌∙◌, ◌++◌, ◌∷◌, [], ap, rules}
use Rattle.recording_order.specs.Arrivals.{room_beside}
use Rattle.recording_order.specs.Windows.{WindowView, with_last}
use Rattle.recording_order.proofs.Keeping.{kept}
use Rattle.recording_order.proofs.window.Window.keep_last.Goals as goal

pub returns-clause-ok : goal.returns-clause-ok
returns-clause-ok c =
    let w : WindowView = record { seconds = c.self.inside.seconds; numbers = c.self.inside.numbers.entries; waiting = c.self.inside.waiting.items; last = c.self.inside.last.items } in
    let pushed : c.push.new.self.items ≡ c.self.inside.last.items ++ c.args.datagram ∷ [] = search rules in
    let room : c.room_beside.result ≡ room_beside 65536 c.self.inside.waiting.items = search rules in
    kept w c.args.datagram c.push.new.self.items c.limit.new.last.items c.fit.new.last.items c.header-domain.result.domain c.room_beside.result (search rules) pushed c.limit.ensures room c.fit.ensures
    ∙ ap (λ (v : WindowView). with_last v c.args.datagram) c.self.view_is
