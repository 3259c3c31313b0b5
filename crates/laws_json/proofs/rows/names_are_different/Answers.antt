use Rattle.std.proofs.Common.{refl}
use Rattle.std.specs.Fmt.{digits}
use Rattle.ipfix_elements.specs.Elements.{elements}
use Rattle.ipfix_elements.specs.Names.{element_named, numbers_in}
use Rattle.laws_json.proofs.Names.{names_differ, no_names_differ, no_context_named}
use Rattle.laws_json.proofs.rows.names_are_different.Goals as goal

pub returns-clause-different : goal.returns-clause-different
returns-clause-different c known plan fits own is = names_differ known fits plan own is

pub returns-clause-no_files : goal.returns-clause-no_files
unfolding element_named elements numbers_in digits
returns-clause-no_files c =
    record {
      registry = record { not_built_in = refl; not_named = refl; numbers_apart = refl; names_apart = refl };
      plain = refl;
      start = refl;
      end = refl;
      flows = refl;
    }

pub returns-clause-no_names : goal.returns-clause-no_names
returns-clause-no_names c plan = no_names_differ plan

pub returns-clause-no_context : goal.returns-clause-no_context
returns-clause-no_context c known plan none = no_context_named known plan.keys none
