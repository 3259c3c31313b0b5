-- Writing tokens of JSON behind others.
use Rattle.std.specs.Prelude.{◌≡◌, ℕ, List, ◌∷◌, ◌++◌, Result, OnOk}
use Rattle.json.specs.Json.{Json}
use Rattle.json.specs.Token.{Token, key}
use Rattle.json.specs.Tree.{json_tokens}
use Rattle.json.specs.Written.{Written}
use Rattle.table_receipts.specs.Objects.{member_tokens}

-- these tokens were appended, unless memory ran out
pub record Appends {E : Type 0} (answer : Result (Unit {0}) E) (old new : Written) (tokens : List Token) : Type 0 where
  pub ok : OnOk answer (new.tokens ≡ old.tokens ++ tokens)
  pub before : new.before ≡ old.before

-- this value was appended, unless memory ran out
abbrev pub Writes : {E : Type 0} → Result (Unit {0}) E → Written → Written → Json → Type 0
Writes answer old new j = Appends answer old new (json_tokens j)

-- this member of an object was appended, its name and its value, unless memory ran out
abbrev pub WritesMember : {E : Type 0} → Result (Unit {0}) E → Written → Written → List ℕ × Json → Type 0
WritesMember answer old new pair = Appends answer old new (key pair.0 ∷ json_tokens pair.1)

-- all of these members of an object were appended, in their order, unless memory ran out
abbrev pub WritesAll : {E : Type 0} → Result (Unit {0}) E → Written → Written → List (List ℕ × Json) → Type 0
WritesAll answer old new pairs = Appends answer old new (member_tokens pairs)
