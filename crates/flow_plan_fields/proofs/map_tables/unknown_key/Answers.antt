use Rattle.std.proofs.Common.{rules, tests}
use Rattle.std.specs.Prelude.{not, string_bytes}
use Rattle.std.specs.BTreeMap.{keys}
use Rattle.std.proofs.lemmas.Iterator.Consumers.{YieldsList-from_rest}
use Rattle.std.proofs.lemmas.Iterator.Search.{find_from_yields_List}
use Rattle.flow_plan_fields.specs.Maps.{is_map_key}
use Rattle.flow_plan_fields.proofs.Members.{unknown_names}
use Rattle.flow_plan_fields.proofs.map_tables.unknown_key.Goals as goal

pub returns : goal.returns
returns c =
    unknown_names is_map_key c.args.table.now.entries c.find.result
    (find_from_yields_List (λ k. not (is_map_key (string_bytes k))) _ _ c.find.result c.find.ensures.ran (YieldsList-from_rest (keys c.args.table.now) c.keys.ensures.rest) (λ x b q k. search (rules, tests)))
