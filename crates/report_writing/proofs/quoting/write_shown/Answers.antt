use Rattle.std.proofs.Common.{arith, length, take, sym}
use Rattle.std.specs.Prelude.{codes}
use Rattle.std.specs.List.{flat_map}
use Rattle.std.proofs.KnownBytes.{Appends-trans}
use Rattle.std.proofs.lemmas.Bool.{lt-ltb}
use Rattle.std.proofs.lemmas.List.{length-take-le}
use Rattle.std.proofs.lemmas.Result.{on_ok_weaker}
use Rattle.report_writing.specs.Quoting.{octet_shown}
use Rattle.report_writing.proofs.quoting.write_shown.Goals as goal

pub slice_bounds-write_octets-end : goal.slice_bounds-write_octets-end
slice_bounds-write_octets-end g c = sym (length-take-le 64 c.args.text.now (omega (arith, c.if-text-gt-MOST_SHOWN.true)))

pub returns-in_ok-write_octets : goal.returns-in_ok-write_octets
returns-in_ok-write_octets g c = record {
  told = rw (lt-ltb 64 (length c.args.text.now) c.if-text-gt-MOST_SHOWN.true)
      (on_ok_weaker c.write.result (λ h. Appends-trans _ _ _ (flat_map octet_shown (take 64 c.args.text.now)) (codes "..") c.in_ok-write_octets.ensures.told h) c.write.ensures.bytes);
  failed = c.write.ensures.failed;
  kept = λ failed. c.write.ensures.kept (c.write_octets.ensures.kept failed);
}
