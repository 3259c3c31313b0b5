use Rattle.std.proofs.Common.{◌≡◌, ◌*◌, sym, subst, take, arith}
use Rattle.std.specs.Io.KnownBytes.{Appends}
use Rattle.std.proofs.lemmas.List.{take_all}
use Rattle.ipfix_elements.specs.Texts.{ipv6_text}
use Rattle.command_collect.proofs.CellTexts.{groups_first, groups_next}
use Rattle.command_collect.proofs.cells.write_ipv6.Goals as goal

pub loop-group-init : goal.loop-group-init
loop-group-init g c =
    record {
      told = groups_first _ _ _ c.args.address.now (omega arith) c.in_ok-write_octet.ensures.told c.in_ok-write_octet-2.ensures.told;
      kept = λ failed. c.write_octet-2.ensures.kept (c.write_octet.ensures.kept failed);
    }

pub loop-group-preserved : goal.loop-group-preserved
loop-group-preserved g c =
    record {
      told = groups_next _ _ _ _ _ c.args.address.now c.loop-group.group (omega arith) (omega arith) c.loop-group.invariant.told c.in_ok-write_all.ensures.bytes c.in_ok-write_octet-3.ensures.told c.in_ok-write_octet-4.ensures.told;
      kept = λ failed. c.write_octet-in-loop-group-2.ensures.kept (c.write_octet-in-loop-group.ensures.kept (c.write_all.ensures.kept (c.loop-group.invariant.kept failed)));
    }

pub returns : goal.returns
returns g c =
    let address = c.args.address.now in
    let all : take (2 * c.loop-group.group) address ≡ address = take_all (2 * c.loop-group.group) address (omega arith) in
    record {
      told = subst (λ l. Appends (g.W.WriteLines.lines c.args.out.now).contents (g.W.WriteLines.lines c.loop-group.out).contents (ipv6_text l)) all c.loop-group.invariant.told;
      failed = tt;
      kept = c.loop-group.invariant.kept;
    }
