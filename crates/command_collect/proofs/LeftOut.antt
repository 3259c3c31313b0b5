-- How many records were left out of the first sessions, and of one more.
use Rattle.std.proofs.Common.{◌≡◌, ℕ, ◌+◌, ◌<◌, ◌≤◌, List, length, take, get_or, ap, subst, arith}
use Rattle.std.proofs.lemmas.List.{take_all}
use Rattle.std.proofs.lemmas.List.Sums.{sum_by_more}
use Rattle.ipfix_session.specs.Ledger.{capped}
use Rattle.flow_collect.specs.declared.collected.FilteredReport.{FilteredReport}
use Rattle.command_collect.specs.Gathered.{all_filtered}

pub filtered_more : (reports : List FilteredReport) (i : ℕ) (told : FilteredReport) (old new : ℕ) → i < length reports → old ≡ capped (all_filtered (take i reports)) → told ≡ get_or reports i told → new ≡ capped (old + told.filtered)
    → new ≡ capped (all_filtered (take (i + 1) reports))
filtered_more reports i told old new less was is now =
    let more : all_filtered (take (i + 1) reports) ≡ all_filtered (take i reports) + (get_or reports i told).filtered = sum_by_more (λ (t : FilteredReport). t.filtered) reports i told less in
    let same : told.filtered ≡ (get_or reports i told).filtered = ap (λ (t : FilteredReport). t.filtered) is in
    omega (arith, was, now, more, same)

pub filtered_all : (reports : List FilteredReport) (i n : ℕ) → length reports ≤ i → n ≡ capped (all_filtered (take i reports)) → n ≡ capped (all_filtered reports)
filtered_all reports i n all is = subst (λ (l : List FilteredReport). n ≡ capped (all_filtered l)) (take_all i reports all) is
