use Rattle.std.proofs.Common.{rules, sym}
use Rattle.command_tables.specs.Named.{IsFilesOf}
use Rattle.command_tables.proofs.EachZipped.{zip_all, zip_more}
use Rattle.command_tables.proofs.days.names.files_of.Goals as goal

pub loop-part-preserved : goal.loop-part-preserved
loop-part-preserved c =
    zip_more IsFilesOf c.args.names.now c.loop-part.part-index _ _ c.loop-part.files.items c.push.new.self.items c.file_names.result
    c.loop-part-test.true (sym c.part-item.is) (search rules) c.loop-part.invariant c.file_names.ensures

pub returns : goal.returns
returns c = zip_all IsFilesOf c.args.names.now c.loop-part.files.items c.loop-part.part-index c.loop-part-test.false c.loop-part.invariant
