-- What a sink of lines wrote, and a dump without a fault.
use Rattle.std.proofs.Common.{◌≡◌, ℕ, List, [], ◌∷◌, Option, None, Some, true, refl, ap, subst, ◌∙◌}
use Rattle.std.specs.List.{FoldsTo, flat_map}
use Rattle.std.specs.Option.{ForSome}
use Rattle.std.specs.Io.KnownBytes.{Appends}
use Rattle.std.proofs.KnownBytes.{Appends-nil, Appends-trans}
use Rattle.ipfix_message.specs.declared.record.DataRecord.{DataRecord}
use Rattle.ipfix_session.specs.declared.report.SessionReport.{SessionReport}
use Rattle.ipfix_session.specs.Sources.{SourceView}
use Rattle.ipfix_session.specs.Given.{Given, records_in}
use Rattle.ipfix_dump.specs.Dumped.{Dumps, DumpsAll, limits_with}
use Rattle.ipfix_session.proofs.Unlimited.{given_all_within}

module _ {K N : Type 0} (line_of : K → DataRecord → List ℕ) (name : K → N) (contents : K → Option (List ℕ)) where
  -- a record's line is appended to the same writer, and the lines of others stay as they were
  abbrev pub WritesLine : K → DataRecord → K → Type 0
  WritesLine before r after = (name after ≡ name before) × (line_of after ≡ line_of before) × Appends (contents before) (contents after) (line_of before r)

  pub writes_lines : (first : K) (rs : List DataRecord) (last : K) → FoldsTo WritesLine first rs last
      → (name last ≡ name first) × Appends (contents first) (contents last) (flat_map (line_of first) rs)
  writes_lines first [] last chain = subst (λ (k : K). (name k ≡ name first) × Appends (contents first) (contents k) []) chain (refl, Appends-nil (contents first))
  writes_lines first (r ∷ rs) last chain =
      let rest = writes_lines chain.0 rs last chain.2 in
      let later = subst (λ (text : DataRecord → List ℕ). Appends (contents chain.0) (contents last) (flat_map text rs)) chain.1.1 rest.1 in
      (rest.0 ∙ chain.1.0, Appends-trans _ _ _ (line_of first r) (flat_map (line_of first) rs) chain.1.2 later)

-- ---- a dump without a fault

pub dumps_all : {S : Type 0} (seen : S → SourceView) (line_of : DataRecord → List ℕ) (templates : Option ℕ) (before after : S) (old new : Option (List ℕ)) (r : SessionReport) → ((seen after).ended ≡ true → ForSome (seen after).text (λ xs. xs ≡ []))
    → Dumps line_of templates seen before after old new r → r.fault ≡ None → (held : Option (List ℕ)) → (seen before).text ≡ held → DumpsAll line_of held old new
dumps_all seen line_of templates before after old new r at_end d none None is = tt
dumps_all seen line_of templates before after old new r at_end d none (Some whole) is =
    let all = given_all_within seen (limits_with templates) before after r d.records whole at_end d.given none is in
    (all.clean, subst (λ (rs : List DataRecord). Appends old new (flat_map line_of rs)) (all.within ∙ ap (λ (g : Given). records_in g.messages) all.same) d.written)
