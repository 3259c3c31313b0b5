use Rattle.std.proofs.Common.{refl}
use Rattle.laws_merge.proofs.laws.merged_is_merged_again.Goals as goal

pub returns : goal.returns
returns c = λ plan rs merged time has can.
    record {
      is_plan = can.is_plan;
      short = can.short;
      is_table = has;
      fits = record { ascending = can.fits.ascending; rows = can.fits.rows };
      few = can.few;
      time = time;
      small_time = can.small_time;
      octets = refl;
    }
