-- The text of a receipt: what stands before its last member, and that member.
use Rattle.std.proofs.Common.{◌≡◌, ℕ, List, [], ◌∷◌, ◌++◌, refl, sym, ap, append_assoc, ◌∙◌, arith}
use Rattle.std.specs.Prelude.{Bool, true, false, codes, fold}
use Rattle.hex.specs.Hex.{encode_lower}
use Rattle.json.specs.Json.{Json, boolean}
use Rattle.json.specs.Token.{Token, begin_object, end_object}
use Rattle.json.specs.Token as token
use Rattle.json.specs.Tree.{json_tokens, members_tokens}
use Rattle.json.specs.Json.{document}
use Rattle.json.specs.Print.{print, print_from, ends}
use Rattle.json.proofs.Printed.Tokens.{print_from-append, ends_push}
use Rattle.json.proofs.Printed.Trees.{document-print}
use Rattle.sha2.specs.Sha256.{sha256}
use Rattle.table_receipts.specs.Values.{ReceiptValue}
use Rattle.table_receipts.specs.Objects.{members_of, member_tokens, origin_members, first_members, left_out_members, digest_json, list_json, input_json, counts_json, table_json}
use Rattle.table_receipts.specs.Texts.{receipt_json, receipt_text, text_before}
use Rattle.table_receipts.proofs.Forms.{receipt_good}
use Rattle.table_receipts.proofs.MemberTokens.{tokens_append}
use Rattle.std.specs.Prelude.{Some, None}
use Rattle.std.proofs.lemmas.Option.{none-some, same_Some}

members-append : (xs ys : List (List ℕ × Json)) → members_tokens (members_of (xs ++ ys)) ≡ member_tokens xs ++ members_tokens (members_of ys)
members-append [] ys = refl
members-append (x ∷ xs) ys =
    ap (λ (ts : List Token). token.key x.0 ∷ (json_tokens x.1 ++ ts)) (members-append xs ys)
    ∙ ap (λ (ts : List Token). token.key x.0 ∷ ts) (sym (append_assoc (json_tokens x.1) (member_tokens xs) (members_tokens (members_of ys))))

abbrev ends_so : List Token → Bool
ends_so = fold (λ _ t. ends t) false

-- the last of the first members is a flag
inner : ReceiptValue → List (List ℕ × Json)
inner r = origin_members r ++ ((codes "inputs", list_json input_json r.inputs) ∷ (codes "records", counts_json r.records) ∷ (codes "table", table_json r.table) ∷ left_out_members r.left_out)

split : (r : ReceiptValue) → first_members r ≡ inner r ++ (codes "complete", boolean r.complete) ∷ []
unfolding inner
split r = refl

ended : (r : ReceiptValue) → ends_so (begin_object ∷ member_tokens (first_members r)) ≡ true
ended r =
    let flag : List Token = token.key (codes "complete") ∷ [] in
    let tokens : begin_object ∷ member_tokens (first_members r) ≡ (begin_object ∷ (member_tokens (inner r) ++ flag)) ++ token.boolean r.complete ∷ [] =
    ap (λ ms. begin_object ∷ member_tokens ms) (split r)
    ∙ ap (λ (ts : List Token). begin_object ∷ ts) (tokens_append (inner r) ((codes "complete", boolean r.complete) ∷ []) ∙ sym (append_assoc (member_tokens (inner r)) flag (token.boolean r.complete ∷ []))) in
    ap ends_so tokens ∙ ends_push false (begin_object ∷ (member_tokens (inner r) ++ flag)) (token.boolean r.complete)

-- the tokens of the last member, and of the end
abbrev pub last_tokens : ReceiptValue → List Token
last_tokens r = token.key (codes "sha256") ∷ token.string (encode_lower (sha256 (text_before r))) ∷ end_object ∷ []

pub text_is : (r : ReceiptValue) → receipt_text r ≡ (text_before r ++ 44 ∷ []) ++ print (last_tokens r)
unfolding receipt_text receipt_json text_before print_from
text_is r =
    let front = begin_object ∷ member_tokens (first_members r) in
    let last = last_tokens r in
    ap (λ (ts : List Token). print (begin_object ∷ ts)) (members-append (first_members r) ((codes "sha256", digest_json (sha256 (text_before r))) ∷ []))
    ∙ print_from-append false front last
    ∙ ap (λ (b : Bool). print front ++ print_from b last) (ended r)
    ∙ sym (append_assoc (print front) (44 ∷ []) (print last))

-- a reader of JSON has the value of a receipt's text
pub text_reads : (r : ReceiptValue) → document (receipt_text r) ≡ Some (receipt_json r)
unfolding receipt_text
text_reads r = let good = receipt_good r in document-print (receipt_json r) good.numbers (omega (arith, good.nests))

-- what a reader of JSON has of the text of a receipt
pub reads_as : (r : ReceiptValue) (text : List ℕ) (j : Json) → receipt_text r ≡ text → document text ≡ Some j → j ≡ receipt_json r
reads_as r text j is doc = same_Some j (receipt_json r) (sym doc ∙ ap document (sym is) ∙ text_reads r)

pub reads_so : (r : ReceiptValue) (text : List ℕ) → receipt_text r ≡ text → document text ≡ None → ⊥
reads_so r text is none = none-some (receipt_json r) (sym none ∙ ap document (sym is) ∙ text_reads r)
