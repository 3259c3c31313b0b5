use Rattle.std.proofs.Common.{Bor, List, ℕ, ◌≡◌, ◌∙◌, sym, refl, rules, inl, inr, true, map, Some, ◌∷◌, []}
use Rattle.std.specs.Result.{is_ok}
use Rattle.std.proofs.lemmas.List.{map-append}
use Rattle.std.proofs.lemmas.List.Elements.{All-push}
use Rattle.element_registry.specs.TextLines.{BeginsAt}
use Rattle.element_registry.specs.declared.rows.Row.{Row}
use Rattle.csv.specs.Reading.{Reached, default_config, strip_bom}
use Rattle.csv.specs.Records.{fields_of}
use Rattle.element_registry.specs.Files.{fields_in}
use Rattle.csv.specs.declared.parser.State.TheVariants.{StartRecord}
use Rattle.csv.proofs.ReadFacts.{rows-end, rows-more}
use Rattle.element_registry.proofs.rows.read_rows.Goals as goal

pub loop-row-init : goal.loop-row-init
unfolding Reached
loop-row-init c =
    let made = c.from_reader-reader.ensures in
    let set = c.flexible.ensures in
    let named = c.has_headers.ensures in
    let start = c.into_iter-row-iterator.ensures.into_iter_gives ∙ refl in
    let reader = c.into_byte_records-row-items.ensures.rdr in
    let left = c.into_byte_records-row-items.ensures.left in
    rw (start, reader, c.new-rows.ensures.items) (
      rw (set, named) at made.trim ∙ c.new.ensures.trim,
      inr (inr (rw (set, named) at made.has_headers, made.headers)),
      left,
      rw set at made.flexible,
      rw (set, named) at made.config ∙ c.new.ensures.config,
      strip_bom c.args.text.now,
      made.source,
      (sym made.state, refl),
      search rules,
    )

pub loop-row-preserved : goal.loop-row-preserved
loop-row-preserved c =
    let kept = c.loop-row.invariant in
    let step = rw (c.in-Some.is, c.in-Ok.is) at ((c.next.ensures.steps kept.2 kept.0).0 kept.1) in
    let good : is_ok c.push.result ≡ true = search rules in
    let items = rw good at c.push.ensures.items in
    let more = rows-more (λ (s : Bor (List ℕ)). Some s.now) c.loop-row.row-iterator.rdr c.next.new.self.rdr (fields_of c.in-Ok.record) default_config StartRecord (strip_bom c.args.text.now) kept.5 (map fields_in c.loop-row.rows.items) kept.4 kept.6 kept.7 step.0 in (
      step.0.3 ∙ kept.0,
      inl step.1,
      step.2,
      (rw (c.in-Some.is, c.in-Ok.is) at ((c.next.ensures.steps kept.2 kept.0).3)) ∙ kept.3,
      step.0.2 ∙ kept.4,
      more.0,
      more.1,
      rw (items, map-append fields_in c.loop-row.rows.items (_ ∷ [])) more.2,
      rw items (All-push (λ (row : Row). BeginsAt c.args.text.now row.place) c.loop-row.rows.items _ kept.8 c.place_of-place.ensures),
    )

pub returns-clause-ok : goal.returns-clause-ok
returns-clause-ok c =
    let kept = c.loop-row.invariant in
    let step = rw c.in-None.is at ((c.next.ensures.steps kept.2 kept.0).0 kept.1) in
    record {
      records = (c.loop-row.row-iterator.rdr.state, kept.5, kept.7, rows-end (λ (s : Bor (List ℕ)). Some s.now) c.loop-row.row-iterator.rdr c.next.new.self.rdr [] default_config kept.5 kept.4 kept.6 step);
      places = kept.8;
    }
