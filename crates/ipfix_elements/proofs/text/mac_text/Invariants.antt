use Rattle.std.proofs.Common.{◌≡◌, ◌+◌, ◌*◌, take}
use Rattle.arrayvec.specs.ArrayVec.{array_vec_len}
use Rattle.ipfix_elements.specs.Texts.{mac_text}
use Rattle.ipfix_elements.proofs.text.mac_text.Given as goal

abbrev pub invariant-loop-group : goal.invariant-loop-group
invariant-loop-group l = record {
  written : l.text.items ≡ mac_text (take l.group l.address);
  long : array_vec_len l.text + 1 ≡ 3 * l.group;
}
