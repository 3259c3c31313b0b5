-- Texts that are appended one after another.
use Rattle.std.proofs.Common.{◌≡◌, ℕ, List, ◌++◌, append_assoc}

pub joined_five : (a p q r s t x1 x2 x3 x4 x5 : List ℕ) → x1 ≡ a ++ p → x2 ≡ x1 ++ q → x3 ≡ x2 ++ r → x4 ≡ x3 ++ s → x5 ≡ x4 ++ t → x5 ≡ a ++ (p ++ (q ++ (r ++ (s ++ t))))
joined_five a p q r s t x1 x2 x3 x4 x5 is1 is2 is3 is4 is5 = rw (is5, is4, is3, is2, is1) (simp append_assoc)
