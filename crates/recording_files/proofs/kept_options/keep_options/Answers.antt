use Rattle.std.proofs.Common.{◌≡◌, ◌∷◌, length, sym, ap, ◌∙◌, arith, rules}
use Rattle.std.specs.Prelude.{fold}
use Rattle.recording_files.specs.KeptOptions.{kept_with}
use Rattle.recording_files.proofs.HeadsWritten.{none_left}
use Rattle.recording_files.proofs.kept_options.keep_options.Goals as goal

pub loop-item-preserved : goal.loop-item-preserved
loop-item-preserved c = λ fresh ds stands.
    let split : c.loop-item.left.now ≡ c.in-Some.item.now ∷ c.in-Some.others.now = search rules in
    ap (λ ks. fold (kept_with ds) ks c.in-Some.others.now) (c.in_ok-keep_one.ensures fresh ds stands)
    ∙ ap (λ rs. fold (kept_with ds) c.loop-item.kept.items rs) (sym split)
    ∙ c.loop-item.invariant fresh ds stands

pub returns : goal.returns
returns c = λ fresh ds stands.
    let empty : length c.loop-item.left.now ≡ 0 = grind (arith, c.split_first.ensures.variant) in
    sym (ap (λ rs. fold (kept_with ds) c.loop-item.kept.items rs) (none_left c.loop-item.left.now empty)) ∙ c.loop-item.invariant fresh ds stands
