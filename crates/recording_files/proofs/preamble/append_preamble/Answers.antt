use Rattle.std.proofs.Common.{◌≡◌, ◌∷◌, List, All, subst, sym, rules}
use Rattle.std.specs.BTreeMap.{values}
use Rattle.std.proofs.lemmas.List.Elements.{All-cons}
use Rattle.ipfix_message.specs.declared.record.Template.{Template}
use Rattle.ipfix_message.specs.WrittenTemplates.{IsTemplate}
use Rattle.recording_files.proofs.PreamblesAre.{begins, goes_on}
use Rattle.recording_files.proofs.preamble.append_preamble.Goals as goal

pub loop-known-init : goal.loop-known-init
loop-known-init c =
    let same : c.into_iter-known-iterator.result ≡ values c.args.templates.now = search rules in
    record {
      octets = begins c.args.out.now.items c.append_bare_message.new.out.items c.args.stamp c.into_iter-known-iterator.result (values c.args.templates.now) same c.in_ok-append_bare_message.ensures;
      each = λ all. subst (λ (ts : List Template). All IsTemplate ts) same all;
    }

pub loop-known-preserved : goal.loop-known-preserved
loop-known-preserved c =
    let step : c.loop-known.known-iterator ≡ c.in-Some.known.now ∷ c.next.new.self = search rules in
    record {
      octets = goes_on _ c.loop-known.out.items c.append_template_message.new.out.items c.args.stamp c.in-Some.known.now c.to_write.result.now c.loop-known.known-iterator c.next.new.self step c.to_write.ensures.same c.in_ok-append_template_message.ensures c.loop-known.invariant.octets;
      each = λ rest. c.loop-known.invariant.each (subst (λ (ts : List Template). All IsTemplate ts) (sym step) (All-cons IsTemplate c.in-Some.known.now c.next.new.self c.to_write.ensures.writable rest));
    }
