use Rattle.std.proofs.Common.{arith}
use Rattle.command_elements.proofs.Joined.{all_are, fits_both, written_both}
use Rattle.command_elements.proofs.listing.write_listed.Goals as goal

pub returns-then-is_built_in : goal.returns-then-is_built_in
returns-then-is_built_in g c =
    let all = all_are c.args.search.now c.entries.result.now c.entries.ensures in
    let any = fits_both c.args.search.now _ _ _ _ _ _ _ _ all c.in_ok-is_built_in.ensures c.in_ok-is_of_file.ensures in
    record { written = written_both c.args.search.now _ _ _ _ _ _ _ _ all c.in_ok-is_built_in.ensures c.in_ok-is_of_file.ensures; answered = grind (arith, any) }

pub returns-else-is_built_in : goal.returns-else-is_built_in
returns-else-is_built_in g c =
    let all = all_are c.args.search.now c.entries.result.now c.entries.ensures in
    let any = fits_both c.args.search.now _ _ _ _ _ _ _ _ all c.in_ok-is_built_in.ensures c.in_ok-is_of_file.ensures in
    record { written = written_both c.args.search.now _ _ _ _ _ _ _ _ all c.in_ok-is_built_in.ensures c.in_ok-is_of_file.ensures; answered = grind (arith, any) }
