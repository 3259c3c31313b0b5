use Rattle.std.proofs.Common.{ℕ, Option, refl, ap, ◌∙◌}
use Rattle.std.specs.Prelude.{option_copied}
use Rattle.std.specs.BTreeMap.{BTreeMap, get}
use Rattle.std.specs.Ordering.{nat_cmp}
use Rattle.ipfix_datagrams.specs.declared.known_templates.KnownTemplates.{KnownTemplates}
use Rattle.ipfix_message.specs.declared.record.Template.{Template}
use Rattle.ipfix_datagrams.specs.Datagrams.{barred_in, template_in}
use Rattle.ipfix_datagrams.proofs.Times.{times_kept}
use Rattle.ipfix_datagrams.proofs.Weighed.{barred_then, weighs_kept}
use Rattle.ipfix_datagrams.proofs.withdrawn_templates.keep_known.Goals as goal

pub returns : goal.returns
returns c = λ s keeps weighs.
    let old = c.args.known.now in
    let new : KnownTemplates = record { withdrawn = c.keep_withdrawn.new.withdrawn; barred = c.drop_defined.new.barred; weights = c.keep_weights.new.kept; budget = old.budget; times = c.keep_times.new.times; reorder = old.reorder } in
    let last = get nat_cmp c.args.reading.now.definitions in
    let before : ℕ → Option Template = λ id. template_in (option_copied c.templates.result) id in
    let kept : ℕ → Option Template = λ id. template_in (option_copied c.get.result) id in
    record {
      keeps = record {
        withdrawn = c.in_ok-keep_withdrawn.ensures s keeps.withdrawn;
        fits = weighs_kept old.budget old.weights c.args.reading.now.weights new.weights.entries s.history s.given.domains c.in_ok-keep_weights.ensures weighs keeps.fits;
      };
      barred = barred_then (barred_in old.barred) (barred_in new.barred) s.datagram last c.args.domain s.given.header.domain s.reading.defines s.of_domain c.in_ok-drop_defined.ensures;
      times = times_kept old.times new.times s.history s.datagram c.args.domain s.given.header.domain c.args.now last before kept s.of_domain s.reading.defines (λ id. c.templates.ensures.found s.represents.fresh s.history s.represents.stands id) (λ id. ap (λ (o : Option (BTreeMap ℕ Template)). template_in o id) c.get.ensures.value ∙ keeps.withdrawn.at c.args.domain id) c.in_ok-keep_times.ensures;
      budget = refl;
      reorder = refl;
    }
