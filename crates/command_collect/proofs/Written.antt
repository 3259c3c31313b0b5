-- What was hashed as a writer took it.
use Rattle.std.proofs.Common.{◌≡◌, ℕ, ◌+◌, ◌<◌, List, [], ◌∷◌, ◌++◌, length, refl, sym, ap, subst, ◌∙◌, arith, length-append}
use Rattle.std.specs.Prelude.{◌^◌, Option, Some, None}
use Rattle.std.specs.Io.KnownBytes.{Appends, Keeps}
use Rattle.std.proofs.KnownBytes.{Appends-trans}
use Rattle.sha2.specs.Hashers.{Holds256}
use Rattle.sha2.specs.Sha256.{sha256}
use Rattle.sha2.specs.declared.Sha256.{Sha256}
use Rattle.ipfix_session.specs.Ledger.{capped}
use Rattle.command_collect.specs.Digests.{IsDigestOf, IsDigestOfAppended}
use Rattle.command_collect.specs.Hashing.{HasWritten}
use Rattle.command_collect.specs.declared.receipts.hashed_table.TextDigest.{TextDigest}

-- a writer that is as it was
pub written_kept : (hasher : Sha256) (octets : ℕ) (start now after : Option (List ℕ)) → HasWritten hasher octets start now → Keeps now after → HasWritten hasher octets start after
written_kept hasher octets start now after h kept =
    record { taken = h.taken; appended = kept_on start now after h.taken h.appended kept; hashed = h.hashed; counted = h.counted }
  where
    kept_on : (start now after : Option (List ℕ)) (taken : List ℕ) → Appends start now taken → Keeps now after → Appends start after taken
    kept_on None now after taken a k = tt
    kept_on (Some x) None after taken a k = absurd a
    kept_on (Some x) (Some y) None taken a k = absurd k
    kept_on (Some x) (Some y) (Some z) taken a k = k ∙ a

-- one that took more
pub written_on : (hasher later : Sha256) (octets more : ℕ) (start now after : Option (List ℕ)) (piece : List ℕ) → HasWritten hasher octets start now → Appends now after piece
    → ((m : List ℕ) → Holds256 hasher m → Holds256 later (m ++ piece)) → more ≡ capped (octets + length piece) → HasWritten later more start after
written_on hasher later octets more start now after piece h appended on count =
    let sum : length (h.taken ++ piece) ≡ length h.taken + length piece = length-append h.taken piece in
    record {
      taken = h.taken ++ piece;
      appended = Appends-trans start now after h.taken piece h.appended appended;
      hashed = on h.taken h.hashed;
      counted = omega (arith, count, h.counted, sum);
    }

-- the text that was appended is what was taken
pub same_taken : (held taken text : List ℕ) (after : Option (List ℕ)) → Appends (Some held) after taken → Appends (Some held) after text → taken ≡ text
same_taken held taken text None a b = absurd a
same_taken held taken text (Some now) a b = same_end held taken text (sym a ∙ b)
  where
    same_end : (xs ys zs : List ℕ) → xs ++ ys ≡ xs ++ zs → ys ≡ zs
    same_end [] ys zs e = e
    same_end (x ∷ xs) ys zs e = let rest : xs ++ ys ≡ xs ++ zs = cc in same_end xs ys zs rest

pub digest_of_text : (hasher : Sha256) (octets : ℕ) (start after : Option (List ℕ)) (digest : TextDigest) (text : List ℕ) → HasWritten hasher octets start after → Appends start after text
    → digest.octets ≡ octets → ((m : List ℕ) → Holds256 hasher m → digest.sha256 ≡ sha256 m) → IsDigestOfAppended start digest text
digest_of_text hasher octets start after digest text h appended count hash = λ held is small.
    let first : Appends (Some held) after h.taken = subst (λ (o : Option (List ℕ)). Appends o after h.taken) is h.appended in
    let other : Appends (Some held) after text = subst (λ (o : Option (List ℕ)). Appends o after text) is appended in
    let same : h.taken ≡ text = same_taken held h.taken text after first other in
    (omega (arith, count, h.counted, ap length same, small), hash h.taken h.hashed ∙ ap sha256 same)
