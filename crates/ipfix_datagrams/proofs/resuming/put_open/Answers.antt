use Rattle.std.proofs.Common.{◌≡◌, Bool, true, sym, subst, ◌∙◌}
use Rattle.std.specs.Prelude.{OnOk}
use Rattle.ipfix_message.specs.declared.record.Template.{Template}
use Rattle.ipfix_datagrams.specs.Attempts.{PutsOthers, if_open, is_open_in}
use Rattle.ipfix_datagrams.proofs.resuming.put_open.Goals as goal

pub returns-then-is_open-clause-puts : goal.returns-then-is_open-clause-puts
returns-then-is_open-clause-puts c =
    let known = c.args.known.now in
    let opens = λ (t : Template). is_open_in c.args.in_force c.args.withdrawn c.args.first.now t in
    let is : true ≡ opens known = subst (λ (t : Template). true ≡ opens t) c.template.ensures (sym c.if-is_open.true ∙ c.is_open.ensures) in
    subst (λ (b : Bool). OnOk c.put_first.result (PutsOthers c.args.defined.now c.put_first.new.first (if_open b known))) is c.put_first.ensures.puts
