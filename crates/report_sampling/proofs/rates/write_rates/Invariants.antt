use Rattle.std.proofs.Common.{take}
use Rattle.std.specs.List.{flat_map}
use Rattle.std.specs.Io.KnownBytes.{Appends}
use Rattle.report_sampling.specs.SamplingLines.{rate_line}
use Rattle.report_sampling.proofs.rates.write_rates.Given as goal

abbrev pub invariant-loop-index : goal.invariant-loop-index
invariant-loop-index g l = record {
  told : Appends (g.W.WriteLines.lines l.initial.out).contents (g.W.WriteLines.lines l.out).contents (flat_map (rate_line l.session l.origin) (take l.index l.counts.items));
  kept : (g.W.WriteLines.lines l.initial.out).failed → (g.W.WriteLines.lines l.out).failed;
}
