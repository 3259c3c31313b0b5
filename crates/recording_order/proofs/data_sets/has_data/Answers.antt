use Rattle.std.proofs.Common.{◌≡◌, length, drop, sym, arith}
use Rattle.std.proofs.lemmas.List.{length-drop}
use Rattle.recording_order.proofs.DataSets.{have_data-nil}
use Rattle.recording_order.proofs.data_sets.has_data.Goals as goal

pub returns-then-octets-lt-HEADER_LENGTH : goal.returns-then-octets-lt-HEADER_LENGTH
returns-then-octets-lt-HEADER_LENGTH c =
    let none : length (drop 16 c.args.octets.now) ≡ 0 = omega (arith, length-drop 16 c.args.octets.now) in
    sym (have_data-nil (drop 16 c.args.octets.now) none)
