-- What holds by the history that the domains of a session stand for.
use Rattle.std.specs.Prelude.{◌≡◌, IfOk, OnOk, Result}
use Rattle.ipfix_message.specs.Domains.{DomainsView, History, IfUnspent}

-- a value that the history makes, and the value of an answer
abbrev pub ByHistory : {A : Type 0} → DomainsView → (History → A) → A → Type 0
ByHistory d f a = IfUnspent d (λ ds. a ≡ f ds)

abbrev pub OkByHistory : {A E : Type 0} → DomainsView → (History → A) → Result A E → Type 0
OkByHistory d f r = IfUnspent d (λ ds. IfOk r (λ a. a ≡ f ds))

-- what holds once the answer is Ok
abbrev pub OnOkFor : {A E : Type 0} → DomainsView → Result A E → (History → Type 0) → Type 0
OnOkFor d r P = IfUnspent d (λ ds. OnOk r (P ds))
