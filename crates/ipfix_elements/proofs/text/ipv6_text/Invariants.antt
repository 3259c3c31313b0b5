use Rattle.std.proofs.Common.{◌≡◌, ◌+◌, ◌*◌, take}
use Rattle.arrayvec.specs.ArrayVec.{array_vec_len}
use Rattle.ipfix_elements.specs.Texts.{ipv6_text}
use Rattle.ipfix_elements.proofs.text.ipv6_text.Given as goal

abbrev pub invariant-loop-group : goal.invariant-loop-group
invariant-loop-group l = record {
  written : l.text.items ≡ ipv6_text (take (2 * l.group) l.address);
  long : array_vec_len l.text + 1 ≡ 5 * l.group;
}
