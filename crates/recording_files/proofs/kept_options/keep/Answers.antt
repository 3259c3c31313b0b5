use Rattle.std.proofs.Common.{rules}
use Rattle.std.specs.Prelude.{not}
use Rattle.std.proofs.lemmas.Fn.{filter_same}
use Rattle.recording_files.specs.KeptOptions.{Kept, tells_again}
use Rattle.recording_files.proofs.HeadsWritten.{kept_last}
use Rattle.recording_files.proofs.kept_options.keep.Goals as goal

pub returns : goal.returns
returns c =
    let others = filter_same _ (λ (k : Kept). not (tells_again c.args.new.told k.told)) _ (λ x b f' k. search rules) _ _ c.retain.ensures.filtered in
    kept_last c.args.new c.args.kept.now.items c.retain.new.self.items c.make_room.new.kept.items _ others c.make_room.ensures (search rules)
