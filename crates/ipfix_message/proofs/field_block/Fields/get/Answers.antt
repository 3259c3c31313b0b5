use Rattle.std.proofs.lemmas.Iterator.Consumers.{nth_from_yields_List, YieldsList-from_first}
use Rattle.ipfix_message.specs.FieldViews.{field_of}
use Rattle.ipfix_message.proofs.field_block.Fields.get.Goals as goal

pub returns : goal.returns
returns c = nth_from_yields_List c.nth.result c.nth.new.self c.args.index c.nth.ensures.ran (YieldsList-from_first field_of (λ rest. rest) c.args.self.now c.iter.ensures)
