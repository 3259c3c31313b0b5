use Rattle.std.proofs.Common.{◌≡◌, ℕ, List, [], ◌∷◌, ◌++◌, sym, ap, ◌∙◌}
use Rattle.std.specs.Prelude.{codes}
use Rattle.hex.specs.Hex.{encode_lower}
use Rattle.json.specs.Token.{Token, key, string, end_object}
use Rattle.sha2.specs.Sha256.{sha256}
use Rattle.table_receipts.specs.Values.{receipt_value}
use Rattle.table_receipts.specs.Texts.{text_before}
use Rattle.table_receipts.proofs.Endings.{text_is, last_tokens}
use Rattle.table_receipts.proofs.writing.write_receipt.Goals as goal

pub returns : goal.returns
returns c =
    let r = receipt_value c.args.receipt.now in
    let front : c.in_ok-text.text.items ≡ text_before r = c.in_ok-text.ensures in
    let digest : c.sha256_of-digest.result ≡ sha256 (text_before r) = c.sha256_of-digest.ensures ∙ ap sha256 (c.as_slice.ensures.value ∙ front) in
    let first : c.new-writer.result.tokens ≡ [] = c.new-writer.ensures.tokens in
    let member : c.write_digest_member.new.writer.tokens ≡ c.new-writer.result.tokens ++ key (codes "sha256") ∷ string (encode_lower c.sha256_of-digest.result) ∷ [] = c.in_ok-write_digest_member.ensures.ok in
    let end : c.end_object.new.self.tokens ≡ c.write_digest_member.new.writer.tokens ++ end_object ∷ [] = c.in_ok-end_object.ensures.ok in
    let tokens : c.end_object.new.self.tokens ≡ last_tokens r =
    end ∙ ap (λ (ts : List Token). ts ++ end_object ∷ []) (member ∙ ap (λ (ts : List Token). ts ++ key (codes "sha256") ∷ string (encode_lower c.sha256_of-digest.result) ∷ []) first)
    ∙ ap (λ (d : List ℕ). key (codes "sha256") ∷ string (encode_lower d) ∷ end_object ∷ []) digest in
    let before : c.end_object.new.self.before ≡ text_before r ++ 44 ∷ [] =
    c.in_ok-end_object.ensures.room.0 ∙ c.in_ok-write_digest_member.ensures.before ∙ c.new-writer.ensures.before ∙ c.in_ok-push.ensures.items ∙ ap (λ (xs : List ℕ). xs ++ 44 ∷ []) front in
    (rw (before, tokens) at c.into_inner.ensures.items) ∙ sym (text_is r)
