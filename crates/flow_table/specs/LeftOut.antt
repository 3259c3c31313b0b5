-- Why a data record is left out of a table, and what it lacks.
use Rattle.std.specs.Prelude.{◌≡◌, ℕ, ◌==◌, is_some, true, if◌then◌else◌, None, Some}
use Rattle.ipfix_message.specs.declared.record.DataRecord.{DataRecord}
use Rattle.flow_table.specs.declared.class.Class.{Class}
use Rattle.flow_table.specs.declared.class.Class.TheVariants as classes
use Rattle.flow_table.specs.declared.left_out.LeftOut.{LeftOut}
use Rattle.flow_table.specs.declared.left_out.LeftOut.TheVariants.{Options, WithoutStart, WithoutEnd, Backward, WithoutKey, TooLong}
use Rattle.flow_table.specs.declared.missing.Missing.{Missing}
use Rattle.flow_table.specs.declared.plan.TheConstants.{MAX_KEYS, MAX_COUNTERS}
use Rattle.flow_table.specs.Missing.{by_place, first_without}
use Rattle.flow_table.specs.Plans.{PlanValue}
use Rattle.flow_table.specs.Reading.{class_of, start_of}

-- the class of a record that is left out
abbrev pub class_in : LeftOut → Class
class_in Options = classes.Options
class_in WithoutStart = classes.Untimed
class_in WithoutEnd = classes.Untimed
class_in Backward = classes.Backward
class_in (WithoutKey place) = classes.Unkeyed
class_in TooLong = classes.TooLong

-- counts of times and keys, and none of counters
abbrev pub times_and_keys : ℕ → ℕ → (ℕ → ℕ) → Missing
times_and_keys start end key = record {
  start = start;
  end = end;
  keys = by_place MAX_KEYS key;
  counters = by_place MAX_COUNTERS (λ c. 0);
}

-- what one such record lacks
unfoldable pub missing_in : LeftOut → Missing
missing_in Options = times_and_keys 0 0 (λ k. 0)
missing_in WithoutStart = times_and_keys 1 0 (λ k. 0)
missing_in WithoutEnd = times_and_keys 0 1 (λ k. 0)
missing_in Backward = times_and_keys 0 0 (λ k. 0)
missing_in (WithoutKey place) = times_and_keys 0 0 (λ k. if k == place then 1 else 0)
missing_in TooLong = times_and_keys 0 0 (λ k. 0)

-- what is lacking, where the class doesn't say it
abbrev pub Lacks : PlanValue → DataRecord → LeftOut → Type 0
Lacks plan r Options = Unit {0}
Lacks plan r WithoutStart = start_of plan.choices.times r ≡ None
Lacks plan r WithoutEnd = is_some (start_of plan.choices.times r) ≡ true
Lacks plan r Backward = Unit {0}
Lacks plan r (WithoutKey place) = first_without plan.keys plan.kinds r ≡ Some place
Lacks plan r TooLong = Unit {0}

-- a record is left out for this reason
pub record IsLeftOut (plan : PlanValue) (r : DataRecord) (left_out : LeftOut) : Type 0 where
  pub class : class_of plan r ≡ class_in left_out
  pub lacks : Lacks plan r left_out
