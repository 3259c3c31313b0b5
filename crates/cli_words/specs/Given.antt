-- What was given for the arguments of a command, or stands for it if nothing was given.
use Rattle.std.specs.Prelude.{◌≡◌, ◌<◌, ◌^◌, ℕ, Bool, true, false, List, [], Option, None, SomeIff, MatchOption, option_map, unwrap_or, codes}
use Rattle.std.specs.Str.Parse.{IsNumeral, digits_value, without_leading_plus}
use Rattle.clap.specs.Words.{Row, count_of, first_value, found_of, matched_of, one_text, raw_values, rows_of}
use Rattle.cli_words.specs.declared.chosen.Chosen.{Chosen}

-- what the parser found for all of them
abbrev pub rows_given : Chosen → List Row
rows_given chosen = rows_of (found_of chosen.matches.now)

-- the first text of an argument, by its word
abbrev pub text_given : Chosen → List ℕ → Option (List ℕ)
text_given chosen word = first_value (found_of chosen.matches.now) word

-- its texts, in their order
abbrev pub texts_given : Chosen → List ℕ → List (List ℕ)
texts_given chosen word = unwrap_or (option_map raw_values (matched_of (found_of chosen.matches.now) word)) []

-- how often it is given
abbrev pub count_given : Chosen → List ℕ → ℕ
count_given chosen word = count_of word (rows_given chosen)

-- its first text as the parser reads it, where it is no text that is asked for
abbrev pub value_given : Chosen → List ℕ → Option (List ℕ)
value_given chosen word = one_text (found_of chosen.matches.now) word

-- n is what a text says in decimal digits, below 2 ^ 32; there is none if the text says none
abbrev pub IsNumberOf : List ℕ → Option ℕ → Type 0
IsNumberOf text n =
    let digits = without_leading_plus text in
    SomeIff n (IsNumeral 10 digits × (digits_value 10 digits < 2 ^ 32)) (digits_value 10 digits)

-- n is the number of an argument
abbrev pub IsNumberGiven : Chosen → List ℕ → Option ℕ → Type 0
IsNumberGiven chosen word n = MatchOption (value_given chosen word) (n ≡ None) (λ text. IsNumberOf text n)

-- is_given says whether the parser holds an argument for given
abbrev pub IsFlagGiven : Chosen → List ℕ → Bool → Type 0
IsFlagGiven chosen word is_given = MatchOption (value_given chosen word) (is_given ≡ false)
    (λ text. (text ≡ codes "true" → is_given ≡ true) × (text ≡ codes "false" → is_given ≡ false))
