use Rattle.std.proofs.Common.{◌≡◌, ◌<◌, ◌^◌, length, subst, ap, ◌∙◌, arith, rules}
use Rattle.recording_files.specs.KeptOptions.{Kept}
use Rattle.recording_files.specs.Preambles.{IsTemplate}
use Rattle.recording_files.proofs.HeadsWritten.{if_appended, options_written}
use Rattle.recording_files.proofs.head.append_options.Goals as goal

pub returns : goal.returns
returns c =
    let template = ap (λ (k : Kept). k.template) c.kept.view_is in
    let writable : IsTemplate c.args.kept.now.template = subst IsTemplate template c.to_write-template.ensures.writable in
    let domain : c.args.stamp.domain < 2 ^ 32 = search rules in
    let octets : c.deref.result.now ≡ c.args.kept.now.octets = c.deref.ensures.value ∙ ap (λ (k : Kept). k.octets) c.kept.view_is in
    let size : c.len-length.result ≡ length c.deref.result.now = search rules in
    if_appended c.extend_from_slice.result c.write_set.new.out.items c.deref.result.now c.extend_from_slice.new.self.items c.extend_from_slice.ensures.items
    (λ last. (
      options_written c.args.stamp c.args.kept.now c.to_write-template.result.now c.deref.result.now _ c.len-length.result c.args.out.now.items c.append_template_message.new.out.items c.write_header.new.out.items c.write_set.new.out.items c.extend_from_slice.new.self.items
          (c.to_write-template.ensures.same ∙ template) octets c.in_ok-append_template_message.ensures c.in_ok-write_header.ensures.ok c.in_ok-write_set.ensures.ok last size (omega arith),
      (writable, domain),
    ))
