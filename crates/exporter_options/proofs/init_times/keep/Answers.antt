use Rattle.std.proofs.Common.{rules, ◌==◌, not}
use Rattle.std.proofs.lemmas.Fn.{filter_same}
use Rattle.exporter_options.proofs.Numbers.{kept_front}
use Rattle.exporter_options.proofs.init_times.keep.Goals as goal

pub returns : goal.returns
returns c =
    let kept = filter_same _ (λ k. not (k.domain == c.args.told.domain)) _ (λ x b f' k. search rules) _ _ c.retain.ensures.filtered in
    kept_front (λ k. not (k.domain == c.args.told.domain)) c.args.told 1023 c.args.kept.now.items _ _ _ kept c.truncate.ensures.items c.push_front_reserved.ensures.items
