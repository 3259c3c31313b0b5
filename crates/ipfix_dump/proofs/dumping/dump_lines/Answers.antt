use Rattle.std.proofs.Common.{◌∙◌, rules, subst}
use Rattle.std.specs.List.{flat_map}
use Rattle.std.specs.Io.KnownBytes.{Appends}
use Rattle.ipfix_dump.specs.Lines.{line_of}
use Rattle.ipfix_dump.proofs.InFull.{took_in_full}
use Rattle.ipfix_dump.proofs.Writing.{writes_lines}
use Rattle.ipfix_dump.proofs.dumping.dump_lines.Goals as goal

pub returns-in-None : goal.returns-in-None
returns-in-None g c =
    let held = g.W.Write.contents in
    let k = took_in_full _ _ _ _ _ _ _ _ c.drive_in_full-full.ensures (c.drive_in_full-full.new.sink.kept c.in-None.is) in
    let (same, written) = writes_lines (λ s. line_of s.line.now) (λ s. s.out.ghost_name) (λ s. held s.out.now) _ k.records _ k.takes.chain in
    let name = same ∙ c.new-sink.ensures.same_writer in
    let lines = subst (λ l. Appends (held c.new-sink.result.out.now) (held c.drive_in_full-full.new.sink.out.now) (flat_map (line_of l) k.records)) c.new-sink.ensures.same_line written in
    let bytes = subst (λ w. Appends (held w) (held c.drive_in_full-full.new.sink.out.now) (flat_map (line_of c.args.line.now) k.records)) c.new-sink.ensures.nothing_written lines in
    record { dumps = record { records = k.records; given = k.given; written = search rules }; in_full = k.in_full }
