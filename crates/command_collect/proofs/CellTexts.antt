-- The text of an address of IPv6, written group by group.
use Rattle.std.proofs.Common.{ℕ, ◌+◌, ◌*◌, ◌<◌, ◌≤◌, List, [], ◌∷◌, ◌++◌, length, get_or, take, Option, subst}
use Rattle.std.specs.Io.KnownBytes.{Appends}
use Rattle.std.proofs.KnownBytes.{Appends-trans}
use Rattle.ipfix_elements.specs.Texts.{ipv6_text, octet_text}
use Rattle.ipfix_elements.proofs.Written.{ipv6_first, ipv6_more}

pub groups_first : (o p q : Option (List ℕ)) (a : List ℕ) → 2 ≤ length a → Appends o p (octet_text (get_or a 0 0)) → Appends p q (octet_text (get_or a 1 0)) → Appends o q (ipv6_text (take 2 a))
groups_first o p q a long first second = subst (Appends o q) (ipv6_first a long) (Appends-trans o p q (octet_text (get_or a 0 0)) (octet_text (get_or a 1 0)) first second)

pub groups_next : (o p q r s : Option (List ℕ)) (a : List ℕ) (i : ℕ) → 0 < i → 2 * i + 1 < length a → Appends o p (ipv6_text (take (2 * i) a)) → Appends p q (58 ∷ [])
    → Appends q r (octet_text (get_or a (2 * i) 0)) → Appends r s (octet_text (get_or a (2 * i + 1) 0)) → Appends o s (ipv6_text (take (2 * (i + 1)) a))
groups_next o p q r s a i some within before colon first second =
    let x = octet_text (get_or a (2 * i) 0) in
    let done = ipv6_text (take (2 * i) a) in
    subst (Appends o s) (ipv6_more a i some within)
    (Appends-trans o r s ((done ++ 58 ∷ []) ++ x) (octet_text (get_or a (2 * i + 1) 0)) (Appends-trans o q r (done ++ 58 ∷ []) x (Appends-trans o p q done (58 ∷ []) before colon) first) second)
