-- Vectors by their elements.
use Rattle.std.specs.Prelude.{ℕ, ◌-◌, ◌^◌, ◌<◌, ◌≤◌, List, length, take}
use Rattle.std.specs.Global.{Global, Vec}
use Rattle.std.specs.Ptr.{null_ptr}
use Rattle.std.proofs.Common.{refl, arith, length-take}

pub in_a_vector : {X : Type 0} → (xs : List X) → length (take (2 ^ 63 - 1) xs) < 2 ^ 63
in_a_vector xs = omega (arith, length-take (2 ^ 63 - 1) xs)

pub no_more_room : (n : ℕ) → n ≤ n
no_more_room n = omega arith

-- a vector of these elements, wherever in memory; of 2^63 or more, which none has, the first alone
unfoldable pub vec_of : {X : Type 0} → Global → List X → Vec X
vec_of alloc xs = record {
  ptr = null_ptr;
  len = length (take (2 ^ 63 - 1) xs);
  cap = length (take (2 ^ 63 - 1) xs);
  alloc = alloc;
  items = take (2 ^ 63 - 1) xs;
  ok = (refl, no_more_room (length (take (2 ^ 63 - 1) xs)));
  small = in_a_vector xs;
}
