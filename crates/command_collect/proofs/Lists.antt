-- Lists that are made item by item: what is left comes after what is there.
use Rattle.std.proofs.Common.{◌≡◌, ℕ, ◌+◌, List, [], ◌∷◌, ◌++◌, length, map, refl, sym, ap, ap₂, subst, ◌∙◌, arith, append_assoc, append-nil}
use Rattle.std.proofs.lemmas.List.{map-append, nil_from_length}
use Rattle.element_registry.specs.Registries.{Known, element_name}
use Rattle.ipfix_wire.specs.declared.specifier.ElementId.{ElementId}
use Rattle.ipfix_session.specs.declared.report.DomainBalance.{DomainBalance}
use Rattle.ipfix_session.specs.declared.report.DomainReport.{DomainReport}
use Rattle.ipfix_session.specs.declared.report.FullReport.{FullReport}
use Rattle.report_writing.specs.declared.origin.Origin.{Origin}
use Rattle.flow_table.specs.SameTables.{RowValue}
use Rattle.table_receipts.specs.Values.{InputValue, SumValue, input_value, sum_value}
use Rattle.table_receipts.specs.declared.receipt.CounterSum.{CounterSum}
use Rattle.table_receipts.specs.declared.receipt.DomainReceipt.{DomainReceipt}
use Rattle.table_receipts.specs.declared.receipt.InputReceipt.{InputReceipt}
use Rattle.std.specs.Prelude.{Option}
use Rattle.std.specs.declared.net.ip_addr.IpAddr.{IpAddr}
use Rattle.flow_table.specs.declared.context.Context.{Context}
use Rattle.command_collect.specs.Exporters.{other_origins, others_told}
use Rattle.command_collect.specs.Inputs.{domain_of, domains_of, input_at, inputs_in}
use Rattle.command_collect.specs.Tables.{sum_at, sums_from}

-- an item that is next moves to those that are there
moved : {R V : Type 0} (value : R → V) (all : List R) (r : R) (v : V) (rest left : List V) → value r ≡ v → left ≡ v ∷ rest → map value (all ++ r ∷ []) ++ rest ≡ map value all ++ left
moved value all r v rest left is next =
    ap (λ xs. xs ++ rest) (map-append value all (r ∷ [])) ∙ append_assoc (map value all) (value r ∷ []) rest
    ∙ ap (λ x. map value all ++ x ∷ rest) is ∙ ap (λ xs. map value all ++ xs) (sym next)

module _ (wanted : Context) where
  pub inputs_more : (all : List InputReceipt) (i : InputReceipt) (told later_told : List (Option IpAddr)) (left later_left : List Origin) (fulls later : List FullReport) (hashes rest : List (List ℕ)) (full : FullReport) (digest : List ℕ)
      → fulls ≡ full ∷ later → hashes ≡ digest ∷ rest → input_value i ≡ input_at wanted told left full digest
      → later_told ≡ others_told told → later_left ≡ other_origins left
      → map input_value (all ++ i ∷ []) ++ inputs_in wanted later_told later_left later rest ≡ map input_value all ++ inputs_in wanted told left fulls hashes
  inputs_more all i told later_told left later_left fulls later hashes rest full digest split_fulls split_hashes is others_are origins_are =
      moved input_value all i (input_at wanted told left full digest) (inputs_in wanted later_told later_left later rest) (inputs_in wanted told left fulls hashes) is
      (ap₂ (λ (f : List FullReport) (h : List (List ℕ)). inputs_in wanted told left f h) split_fulls split_hashes
      ∙ ap₂ (λ (t : List (Option IpAddr)) (o : List Origin). input_at wanted told left full digest ∷ inputs_in wanted t o later rest) (sym others_are) (sym origins_are))

  pub no_inputs : (told : List (Option IpAddr)) (origins : List Origin) (fulls : List FullReport) (hashes : List (List ℕ)) → length hashes ≡ 0 → inputs_in wanted told origins fulls hashes ≡ []
  no_inputs told origins [] hashes none = refl
  no_inputs told origins (f ∷ fulls) [] none = refl
  no_inputs told origins (f ∷ fulls) (h ∷ hashes) none = absurd (omega (arith, none))

  pub no_reports : (told : List (Option IpAddr)) (origins : List Origin) (fulls : List FullReport) (hashes : List (List ℕ)) → length fulls ≡ 0 → inputs_in wanted told origins fulls hashes ≡ []
  no_reports told origins [] hashes none = refl
  no_reports told origins (f ∷ fulls) hashes none = absurd (omega (arith, none))

-- what is there is all, if nothing is left
pub all_there : {V : Type 0} (xs left all : List V) → xs ++ left ≡ all → left ≡ [] → xs ≡ all
all_there xs left all so_far none = sym (append-nil xs) ∙ ap (λ ys. xs ++ ys) (sym none) ∙ so_far

pub domains_more : (all : List DomainReceipt) (r : DomainReceipt) (left later : List DomainReport) (others rest : List DomainBalance) (d : DomainReport) (b : DomainBalance)
    → left ≡ d ∷ later → others ≡ b ∷ rest → r ≡ domain_of d b → (all ++ r ∷ []) ++ domains_of later rest ≡ all ++ domains_of left others
domains_more all r left later others rest d b split_left split_others is =
    append_assoc all (r ∷ []) (domains_of later rest) ∙ ap (λ (x : DomainReceipt). all ++ x ∷ domains_of later rest) is
    ∙ ap (λ (xs : List DomainReceipt). all ++ xs) (sym (ap₂ domains_of split_left split_others))

pub no_balances : (ds : List DomainReport) (bs : List DomainBalance) → length bs ≡ 0 → domains_of ds bs ≡ []
no_balances [] bs none = refl
no_balances (d ∷ ds) [] none = refl
no_balances (d ∷ ds) (b ∷ bs) none = absurd (omega (arith, none))

pub no_domains : (ds : List DomainReport) (bs : List DomainBalance) → length ds ≡ 0 → domains_of ds bs ≡ []
no_domains [] bs none = refl
no_domains (d ∷ ds) bs none = absurd (omega (arith, none))

pub sums_more : (known : List Known) (rows : List RowValue) (place : ℕ) (all : List CounterSum) (s : CounterSum) (left later : List ElementId) (counter : ElementId) → left ≡ counter ∷ later
    → sum_value s ≡ record { name = element_name known counter; total = sum_at place rows }
    → map sum_value (all ++ s ∷ []) ++ sums_from known rows (place + 1) later ≡ map sum_value all ++ sums_from known rows place left
sums_more known rows place all s left later counter split is =
    moved sum_value all s _ (sums_from known rows (place + 1) later) (sums_from known rows place left) is (ap (sums_from known rows place) split)

pub no_counters : (known : List Known) (rows : List RowValue) (place : ℕ) (left : List ElementId) → length left ≡ 0 → sums_from known rows place left ≡ []
no_counters known rows place [] none = refl
no_counters known rows place (c ∷ left) none = absurd (omega (arith, none))
