use Rattle.std.proofs.Common.{◌≡◌, ◌∷◌, List, subst, sym, rules}
use Rattle.std.specs.Prelude.{All, flat_map, option_copied}
use Rattle.std.specs.BTreeMap.{values}
use Rattle.std.proofs.lemmas.List.Elements.{All-cons}
use Rattle.ipfix_message.specs.declared.record.Template.{Template}
use Rattle.ipfix_message.specs.WrittenTemplates.{IsTemplate}
use Rattle.ipfix_datagrams.specs.Datagrams.{replaced_by, template_in}
use Rattle.ipfix_datagrams.proofs.Replacing.{replaced_more}
use Rattle.ipfix_datagrams.proofs.changes.changes.Goals as goal

pub loop-known-preserved : goal.loop-known-preserved
loop-known-preserved c =
    let step : c.loop-known.known-iterator ≡ c.in-Some.known.now ∷ c.next.new.self = search rules in
    let f = λ (t : Template). replaced_by t (template_in (option_copied c.args.before) t.id) in
    record {
      items = replaced_more f (flat_map f (values c.args.first.now)) c.loop-known.withdrawn.items c.push_replaced.new.withdrawn.items c.in-Some.known.now c.to_write.result.now c.loop-known.known-iterator c.next.new.self step c.to_write.ensures.same c.in_ok-push_replaced.ensures c.loop-known.invariant.items;
      each = λ rest. c.loop-known.invariant.each (subst (λ (ts : List Template). All IsTemplate ts) (sym step) (All-cons IsTemplate c.in-Some.known.now c.next.new.self c.to_write.ensures.writable rest));
    }
