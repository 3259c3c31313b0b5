-- What contracts see of the sinks of a type, and what a sink took.
use Rattle.std.specs.Prelude.{◌≡◌, ℕ, List}
use Rattle.std.specs.List.{FoldsTo}
use Rattle.ipfix_message.specs.declared.record.DataRecord.{DataRecord}

pub record SinkView (K : Type 0) : Type 1 where
  -- what a record that a sink took changes
  pub took : K → DataRecord → K → Type 0
  -- how many records it gave back
  pub refused : K → ℕ

-- a sink took these records, and gave none back
pub record Takes {K : Type 0} (view : SinkView K) (before : K) (put : List DataRecord) (after : K) : Type 0 where
  pub chain : FoldsTo view.took before put after
  pub none_refused : view.refused after ≡ view.refused before
