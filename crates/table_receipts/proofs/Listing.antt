-- Writing a list, item by item.
use Rattle.std.proofs.Common.{◌≡◌, ℕ, List, ◌++◌, drop}
use Rattle.json.specs.Json.{Json}
use Rattle.json.specs.Token.{Token}
use Rattle.json.specs.Tree.{items_tokens}
use Rattle.json.specs.Value.{items_of}
use Rattle.json.specs.Written.{Written}

-- the tokens of values, and the bracket that closes their list
abbrev pub list_tokens : List Json → List Token
list_tokens js = items_tokens (items_of js)

-- the items before this place were written: what is left goes behind them
pub record Writing {X : Type 0} (h : List X → List Json) (xs : List X) (i : ℕ) (first now : Written) : Type 0 where
  pub tokens : now.tokens ++ list_tokens (h (drop i xs)) ≡ first.tokens ++ list_tokens (h xs)
  pub before : now.before ≡ first.before
