use Rattle.std.proofs.Common.{◌≡◌, ℕ, List, lt-ltb, nat_lt, length, Option, None, Some, sym, ap, ◌∙◌, subst, arith}
use Rattle.std.proofs.lemmas.Bool.{le-ltb}
use Rattle.ipfix_elements.specs.declared.kind.Kind.{Kind}
use Rattle.ipfix_message.specs.declared.record.DataRecord.{DataRecord}
use Rattle.flow_table.specs.declared.choices.Choices.{Choices}
use Rattle.flow_table.specs.declared.key.Key.{Key}
use Rattle.flow_table.specs.Plans.{PlanValue}
use Rattle.flow_table.specs.Reading.{start_of, end_of, is_too_long}
use Rattle.flow_table.specs.Readings.{HasKey, ReadsKey}
use Rattle.flow_table.proofs.FlowIntervals.{too_many}
use Rattle.flow_table.proofs.UsedRecords.{is_left_too_long, is_used}
use Rattle.flow_table.proofs.reading.read.Goals.{After-from}
use Rattle.flow_table.proofs.reading.read.Goals as goal

of_plan : (plan : PlanValue) (keys : List Key) (kinds : List Kind) (r : DataRecord) (words : List ℕ) → keys ≡ plan.keys → kinds ≡ plan.kinds → HasKey keys kinds r words → HasKey plan.keys plan.kinds r words
of_plan plan keys kinds r words same_keys same_kinds has =
    subst (λ (ks : List Key). HasKey ks plan.kinds r words) same_keys (subst (λ (ks : List Kind). HasKey keys ks r words) same_kinds has)

-- the record has the keys, a start and an end, and how many intervals the flow covers tells whether it is too long
record HasSpan (c : After-from) : Type 0 where
  has : HasKey c.args.plan.now.keys c.args.plan.now.kinds c.args.data_record.now c.read_key.new.words.items
  start : start_of c.args.plan.now.choices.times c.args.data_record.now ≡ Some c.in-Some.start
  end : end_of c.args.plan.now.choices.times c.args.data_record.now ≡ Some c.in-Some-end_of.end
  long : is_too_long c.args.plan.now c.in-Some.start c.in-Some-end_of.end ≡ nat_lt c.args.plan.now.max_spread c.covered-first.result.1

spanned : (c : After-from) → HasSpan c
spanned c =
    let r = c.args.data_record.now in
    let words = c.read_key.new.words.items in
    let read : ReadsKey c.keys.result.now c.kinds.result.now r words None = subst (λ (o : Option ℕ). ReadsKey c.keys.result.now c.kinds.result.now r words o) c.in_default-2.is c.in_ok-place.ensures.words in
    record {
      has = of_plan c.args.plan.now c.keys.result.now c.kinds.result.now r words c.keys.ensures.value c.kinds.ensures.value read;
      start = subst (λ (choices : Choices). start_of choices.times r ≡ Some c.in-Some.start) c.choices-times.ensures (sym c.in-Some.ensures.value);
      end = subst (λ (choices : Choices). end_of choices.times r ≡ Some c.in-Some-end_of.end) c.choices-times.ensures (sym c.in-Some-end_of.ensures.value);
      long = too_many c.args.plan.now c.in-Some.start c.in-Some-end_of.end c.covered-first.result.0 c.covered-first.result.1 (omega (arith, c.max_spread.ensures.value, c.max_spread.ensures.some)) c.covered-first.ensures.covers;
    }

pub returns-then-from-count : goal.returns-then-from-count
returns-then-from-count c =
    let plan = c.args.plan.now in
    let span = spanned (goal.at.returns-then-from-count c).After-from in
    let over = lt-ltb plan.max_spread c.covered-first.result.1 (omega (arith, c.max_spread.ensures.value)) in
    record {
      class = is_left_too_long plan c.args.data_record.now c.in-Some.start c.in-Some-end_of.end span.has.key c.if-data_record-gt0.false span.start span.end c.if-end-start.false span.has.is (span.long ∙ over);
      lacks = tt;
    }

pub returns : goal.returns
returns c =
    let plan = c.args.plan.now in
    let span = spanned (goal.at.returns c).After-from in
    let within = le-ltb plan.max_spread c.covered-first.result.1 (omega (arith, c.max_spread.ensures.value)) in
    record {
      intervals = record { covers = c.covered-first.ensures.covers; fits = c.covered-first.ensures.fits; alone = c.covered-first.ensures.alone };
      key = span.has.key;
      is = is_used plan c.args.data_record.now c.in-Some.start c.in-Some-end_of.end span.has.key c.if-data_record-gt0.false span.start span.end c.if-end-start.false c.in-Some-end_of.ensures.small span.has.is (span.long ∙ within);
      fits = record { beside = ap length (sym c.kinds.ensures.value) ∙ c.kinds.ensures.beside; fit = span.has.fits };
      are = span.has.are;
    }
