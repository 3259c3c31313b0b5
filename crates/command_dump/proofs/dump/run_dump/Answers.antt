use Rattle.std.proofs.Common.{refl}
use Rattle.command_dump.proofs.FullDumped.{retold, told_plain}
use Rattle.command_dump.proofs.dump.run_dump.Goals as goal

pub returns-clause-runs : goal.returns-clause-runs
returns-clause-runs g c =
    let runs = rw c.built_in-elements.ensures at c.dump_to_end.ensures.runs in
    rw c.number.ensures (retold (λ full tells. told_plain _ _ refl _ full _ tells) (λ lines told. told) runs)
