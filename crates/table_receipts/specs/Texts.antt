-- The text of a receipt.
use Rattle.std.specs.Prelude.{List, [], ◌∷◌, ◌++◌, ℕ}
use Rattle.json.specs.Json.{Json}
use Rattle.json.specs.Token.{begin_object}
use Rattle.json.specs.Tree.{json_tokens}
use Rattle.json.specs.Print.{print}
use Rattle.table_receipts.specs.Values.{ReceiptValue}
use Rattle.table_receipts.specs.Objects.{object_of, member_tokens, first_members, sha256_member}

-- the octets before the last member, with no comma behind them
unfoldable pub text_before : ReceiptValue → List ℕ
text_before r = print (begin_object ∷ member_tokens (first_members r))

-- a receipt has the SHA-256 (FIPS 180-4) of all before its last member as that member
unfoldable pub receipt_json : ReceiptValue → Json
receipt_json r = object_of (first_members r ++ sha256_member (text_before r) ∷ [])

-- with no space between the parts
unfoldable pub receipt_text : ReceiptValue → List ℕ
receipt_text r = print (json_tokens (receipt_json r))
