-- One word more that spells a prefix.
use Rattle.std.proofs.Common.{ℕ, zero, suc, ◌<◌, List, [], ◌∷◌, ◌++◌, length, take, get_or, arith}
use denote.Bor.{Bor}
use Rattle.network_prefixes.specs.Prefixes.{IsPrefixWord}
use Rattle.network_prefixes.specs.declared.prefix.Prefix.{Prefix}
use Rattle.command_record.specs.PeerPrefixes.{ArePrefixes}

pub one_more : (words : List (Bor (List ℕ))) (i : ℕ) (d : Bor (List ℕ)) (prefixes : List Prefix) (prefix : Prefix) → i < length words
    → ArePrefixes (take i words) prefixes → IsPrefixWord (get_or words i d).now prefix → ArePrefixes (take (suc i) words) (prefixes ++ prefix ∷ [])
one_more [] i d prefixes prefix inside are is = absurd (omega (arith, inside))
one_more (w ∷ words) zero d [] prefix inside are is = (is, tt)
one_more (w ∷ words) zero d (p ∷ prefixes) prefix inside are is = absurd are
one_more (w ∷ words) (suc i) d [] prefix inside are is = absurd are
one_more (w ∷ words) (suc i) d (p ∷ prefixes) prefix inside are is = (are.0, one_more words i d prefixes prefix (omega (arith, inside)) are.1 is)
