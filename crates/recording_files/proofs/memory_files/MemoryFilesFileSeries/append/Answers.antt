use Rattle.std.proofs.Common.{◌≡◌, ◌++◌, take, drop, sym, rules}
use Rattle.std.proofs.lemmas.List.{take-append-drop}
use Rattle.recording_files.proofs.memory_files.MemoryFilesFileSeries.append.Goals as goal

pub returns-then-count-octets : goal.returns-then-count-octets
returns-then-count-octets c =
    let n = c.min-count.result in
    let octets = c.args.octets.now in
    let old = c.args.self.now.unfinished.items in
    let written : c.extend_from_slice.new.self.items ≡ old ++ take n octets = search rules in
    (take n octets, (drop n octets, sym (take-append-drop n octets)), search rules)
