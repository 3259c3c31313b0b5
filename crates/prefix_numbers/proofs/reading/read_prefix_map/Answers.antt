use Rattle.prefix_numbers.proofs.LinesRead.{rows_have_zeros}
use Rattle.prefix_numbers.proofs.reading.read_prefix_map.Goals as goal

pub of_rows-requires : goal.of_rows-requires
of_rows-requires c = rows_have_zeros _ c.in_ok-rows-in-Ok.rows.items c.in_ok-rows-in-Ok.ensures
