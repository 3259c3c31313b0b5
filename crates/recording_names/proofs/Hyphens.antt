-- Texts with hyphens between them, and the decimal numbers in them.
use Rattle.std.proofs.Common.{◌≡◌, ℕ, ◌<◌, ◌^◌, List, [], ◌∷◌, ◌++◌, length, get_or, take, drop, zero, suc, eqb, refl, take-append-drop, ◌+◌, ◌≤◌, Option, Some, None, Result, sym, ap, subst, ◌∙◌, append_assoc, length-append, arith}
use denote.Bor.{Bor}
use Rattle.std.specs.Prelude.{◌≢◌, IfNone, IfSome}
use Rattle.std.specs.Option.{MatchOption}
use Rattle.std.specs.Fmt.{decimal}
use Rattle.std.specs.Result.{result_ok}
use Rattle.std.specs.Str.Parse.{AllDigits, digits_value, ParsesUnsigned}
use Rattle.std.specs.declared.net.socket_addr.SocketAddr.{SocketAddr}
use Rattle.std.specs.Net.Socket.{socket_ip, socket_port}
use Rattle.std.proofs.lemmas.Fmt.{digits_decimal, decimal_injective, parse-decimal}
use Rattle.std.proofs.lemmas.Str.Parse.{IsNumeralModel, numerals_by_value, tells_digits, not_in_digits}
use Rattle.std.proofs.lemmas.Str.Pattern.{IsSplitOnceResult, split_after, NoCharPasses-char, drop_at_char}
use Rattle.std.specs.Str.Pattern.{RFindsChar}
use Rattle.std.specs.Str.{NoCharPasses}
use Rattle.std.proofs.lemmas.Option.{none-some, same_Some}
use Rattle.std.proofs.Math.Seq.{get_or-append_seam}
use Rattle.recording_names.specs.SessionNames.{AreInRange, AreParts, HasNoHyphen, SessionParts, hyphened, address_name, name_of_session, number_text, parts_of, session_text, text_of}
use Rattle.recording_names.specs.declared.session_names.SessionName.{SessionName}
use Rattle.recording_names.specs.declared.transport.Transport.{Transport}
use Rattle.recording_names.specs.declared.transport.Transport.TheVariants.{Connection, Datagrams}
use Rattle.recording_names.specs.UnfinishedNames.{name_of_unfinished}

pub digits : IsNumeralModel (AllDigits 10) (digits_value 10)
digits = numerals_by_value (AllDigits 10) tells_digits

-- a decimal number has none
pub no_hyphen : (n : ℕ) → n < 2 ^ 64 → HasNoHyphen (decimal n)
no_hyphen n small i within = not_in_digits digits (decimal n) 45 (digits_decimal digits n small) (λ r. omega (arith, r.0, r.1)) i within

-- what is written for a number is parsed
pub parsed : {E : Type 0} (n : ℕ) (text : List ℕ) (r : Result ℕ E) (o : Option ℕ) → n < 2 ^ 64 → text ≡ decimal n → ParsesUnsigned 64 10 text r → o ≡ result_ok r → o ≡ Some n
parsed n text r o small is parses ok = ok ∙ ap result_ok (parse-decimal 64 n text r small small is parses)

-- a hyphen follows any text
no_seam : (text front back : List ℕ) → HasNoHyphen text → text ≢ front ++ 45 ∷ back
no_seam text front back none is =
    none (length front) (subst (λ (t : List ℕ). length front < length t) (sym is) (omega (arith, length-append front (45 ∷ back))))
    (ap (λ (t : List ℕ). get_or t (length front) 0) is ∙ get_or-append_seam front 45 back 0)

-- ---- the last hyphen of a text

-- the clause of `rsplit_once` at a character
abbrev IsSplitLast : ℕ → List ℕ → Option (Bor (List ℕ) × Bor (List ℕ)) → Type 0
IsSplitLast c bs r = MatchOption r (RFindsChar c bs None)
    (λ x. (i : ℕ) × (j : ℕ) × RFindsChar c bs (Some (i, j)) × (x.0.now ≡ take i bs) × (x.1.now ≡ drop j bs) × (i ≤ j) × (length x.0.now ≡ i) × (length x.1.now + j ≡ length bs))

-- what it finds
pub none_apart : (text : List ℕ) (r : Option (Bor (List ℕ) × Bor (List ℕ))) → IsSplitLast 45 text r → IfNone r ((front back : List ℕ) → text ≢ hyphened front back)
none_apart text None h = λ front back. no_seam text front back (λ i. NoCharPasses-char 45 text i h (omega arith))
none_apart text (Some x) h = tt

pub last_parts : (text : List ℕ) (r : Option (Bor (List ℕ) × Bor (List ℕ))) → IsSplitLast 45 text r → IfSome r (λ x. text ≡ hyphened x.0.now x.1.now)
last_parts text None h = tt
last_parts text (Some x) h = sym (take-append-drop h.0 text) ∙ (λ k. sym h.3 k ++ (drop_at_char 45 text h.0 h.1 h.2.1 (omega arith) ∙ ap (λ l. 45 ∷ l) (sym h.4)) k)

pub last_has_none : (text : List ℕ) (r : Option (Bor (List ℕ) × Bor (List ℕ))) → IsSplitLast 45 text r → IfSome r (λ x. HasNoHyphen x.1.now)
last_has_none text None h = tt
last_has_none text (Some x) h = λ i. NoCharPasses-char 45 x.1.now i (subst (NoCharPasses (λ d. eqb d 45)) (sym h.4) h.2.0) (omega arith)

-- there is one
pub one_split : (front other back rest : List ℕ) → HasNoHyphen back → HasNoHyphen rest → hyphened front back ≡ hyphened other rest → (front ≡ other) × (back ≡ rest)
one_split [] [] back rest none no_more is = (refl, ap (drop 1) is)
one_split [] (b ∷ other) back rest none no_more is = absurd (no_seam back other rest none (ap (drop 1) is))
one_split (b ∷ front) [] back rest none no_more is = absurd (no_seam rest front back no_more (sym (ap (drop 1) is)))
one_split (b ∷ front) (d ∷ other) back rest none no_more is =
    let r = one_split front other back rest none no_more (ap (drop 1) is) in
    let head : b ≡ d = ap (λ (t : List ℕ). get_or t 0 0) is in
    (subst (λ (x : ℕ). b ∷ front ≡ x ∷ other) head (ap (λ (t : List ℕ). b ∷ t) r.0), r.1)

-- ---- a session's number

number_has_no_hyphen : (transport : Transport) (number : ℕ) → number < 2 ^ 64 → HasNoHyphen (number_text transport number)
number_has_no_hyphen Connection number small i within = no_hyphen number small i within
number_has_no_hyphen Datagrams number small zero within = λ is. omega (arith, is)
number_has_no_hyphen Datagrams number small (suc i) within = no_hyphen number small i (omega (arith, within))

-- no decimal number begins with the letter
no_letter : (number : ℕ) (rest : List ℕ) → number < 2 ^ 64 → decimal number ≢ 117 ∷ rest
no_letter number rest small is =
    not_in_digits digits (decimal number) 117 (digits_decimal digits number small) (λ r. omega (arith, r.0, r.1)) 0 (subst (λ (t : List ℕ). 0 < length t) (sym is) (omega arith)) (ap (λ (t : List ℕ). get_or t 0 0) is)

one_number : (transport over : Transport) (number next : ℕ) → number < 2 ^ 64 → next < 2 ^ 64 → number_text transport number ≡ number_text over next → (transport ≡ over) × (number ≡ next)
one_number Connection Connection number next small fits is = (refl, decimal_injective number next small fits is)
one_number Connection Datagrams number next small fits is = absurd (no_letter number (decimal next) small is)
one_number Datagrams Connection number next small fits is = absurd (no_letter next (decimal number) fits (sym is))
one_number Datagrams Datagrams number next small fits is = (refl, decimal_injective number next small fits (ap (drop 1) is))

-- where none is read after the letter, or without it
pub none_after_letter : (text rest : List ℕ) → text ≡ 117 ∷ rest → ((n : ℕ) → n < 2 ^ 64 → rest ≢ decimal n) → (transport : Transport) (n : ℕ) → n < 2 ^ 64 → text ≢ number_text transport n
none_after_letter text rest is none Connection n small e = no_letter n rest small (sym e ∙ is)
none_after_letter text rest is none Datagrams n small e = none n small (ap (drop 1) (sym is ∙ e))

pub none_without_letter : (text : List ℕ) → ((rest : List ℕ) → text ≢ 117 ∷ rest) → ((n : ℕ) → n < 2 ^ 64 → text ≢ decimal n) → (transport : Transport) (n : ℕ) → n < 2 ^ 64 → text ≢ number_text transport n
none_without_letter text other none Connection n small e = none n small e
none_without_letter text other none Datagrams n small e = other (decimal n) e

-- ---- the names of sessions

-- an address and a port, and then the number
pub before_number : (address : List ℕ) (port : ℕ) (transport : Transport) (number : ℕ) → session_text address port transport number ≡ hyphened (hyphened address (decimal port)) (number_text transport number)
before_number address port transport number = sym (append_assoc address (45 ∷ decimal port) (45 ∷ number_text transport number))

-- what stands before and after the last hyphen of a name
name_parts : (name peer rest address : List ℕ) (port : ℕ) (transport : Transport) (number : ℕ) → (name ≡ hyphened peer rest) × HasNoHyphen rest → number < 2 ^ 64 → name ≡ session_text address port transport number
    → (peer ≡ hyphened address (decimal port)) × (rest ≡ number_text transport number)
name_parts name peer rest address port transport number split small is =
    one_split peer (hyphened address (decimal port)) rest (number_text transport number) split.1 (number_has_no_hyphen transport number small) (sym split.0 ∙ is ∙ before_number address port transport number)

-- and before that the port follows one
pub port_is : (peer front digits address : List ℕ) (port : ℕ) → (peer ≡ hyphened front digits) × HasNoHyphen digits → port < 2 ^ 16 → peer ≡ hyphened address (decimal port) → digits ≡ decimal port
port_is peer front digits address port split small is = (one_split front address digits (decimal port) split.1 (no_hyphen port (omega (arith, small))) (sym split.0 ∙ is)).1

-- what is read of both parts is read of the name
module _ (name peer rest : List ℕ) (split : (name ≡ hyphened peer rest) × HasNoHyphen rest) where
  pub session_read : (r : Option SessionName) → IfSome r (λ told. AreParts peer rest (parts_of told)) → IfSome r (λ told. name ≡ text_of (parts_of told))
  session_read None is = tt
  session_read (Some told) is =
      split.0 ∙ ap (λ (front : List ℕ). hyphened front rest) is.0 ∙ ap (hyphened (hyphened told.address.now (decimal told.port))) is.1 ∙ sym (before_number told.address.now told.port told.transport told.number)

  pub none_read : (r : Option SessionName) → IfNone r ((s : SessionParts) → AreInRange s → ¬ AreParts peer rest s) → IfNone r ((s : SessionParts) → AreInRange s → name ≢ text_of s)
  none_read None none = λ s range is. none s range (name_parts name peer rest s.address s.port s.transport s.number split range.1 is)
  none_read (Some told) none = tt

-- what a name says
pub one_session : (one other : SessionParts) → AreInRange one → AreInRange other → text_of one ≡ text_of other → one ≡ other
one_session one other range fits is =
    let last = one_split (hyphened one.address (decimal one.port)) (hyphened other.address (decimal other.port)) (number_text one.transport one.number) (number_text other.transport other.number)
    (number_has_no_hyphen one.transport one.number range.1) (number_has_no_hyphen other.transport other.number fits.1)
    (sym (before_number one.address one.port one.transport one.number) ∙ is ∙ before_number other.address other.port other.transport other.number) in
    let front = one_split one.address other.address (decimal one.port) (decimal other.port) (no_hyphen one.port (omega (arith, range.0))) (no_hyphen other.port (omega (arith, fits.0))) last.0 in
    let numbers = one_number one.transport other.transport one.number other.number range.1 fits.1 last.1 in
    let ports = decimal_injective one.port other.port (omega (arith, range.0)) (omega (arith, fits.0)) front.1 in
    λ k. record { address = front.0 k; port = ports k; transport = numbers.0 k; number = numbers.1 k }

-- so sessions of different numbers differ in name, whatever the ports are
pub one_number_in : (peer other : SocketAddr) (transport over : Transport) (number next : ℕ) → number < 2 ^ 64 → next < 2 ^ 64 → name_of_session peer transport number ≡ name_of_session other over next → number ≡ next
one_number_in peer other transport over number next small fits is =
    let last = one_split (hyphened (address_name (socket_ip peer)) (decimal (socket_port peer))) (hyphened (address_name (socket_ip other)) (decimal (socket_port other))) (number_text transport number) (number_text over next)
    (number_has_no_hyphen transport number small) (number_has_no_hyphen over next fits)
    (sym (before_number (address_name (socket_ip peer)) (socket_port peer) transport number) ∙ is ∙ before_number (address_name (socket_ip other)) (socket_port other) over next) in
    (one_number transport over number next small fits last.1).1

-- ---- the names of unfinished files

-- the two parts of an unfinished file's name
pub parts_again : (begins : ℕ) (session name : List ℕ) (r : Option (Bor (List ℕ) × Bor (List ℕ))) → IsSplitOnceResult 45 name r → begins < 2 ^ 64 → name ≡ name_of_unfinished begins session → MatchOption r ⊥ (λ x. (x.0.now ≡ decimal begins) × (x.1.now ≡ session))
parts_again begins session name r split small is = split_after 45 name (decimal begins) session r split (omega arith) is (no_hyphen begins small)

-- so there are parts
pub not_whole : (begins : ℕ) (session name : List ℕ) (r : Option (Bor (List ℕ) × Bor (List ℕ))) → IsSplitOnceResult 45 name r → begins < 2 ^ 64 → r ≡ None → name ≢ name_of_unfinished begins session
not_whole begins session name None split small none is = parts_again begins session name None split small is
not_whole begins session name (Some x) split small none is = absurd (none-some x (sym none))

-- and the first is the number
pub front_is : (begins : ℕ) (session name : List ℕ) (r : Option (Bor (List ℕ) × Bor (List ℕ))) (front back : Bor (List ℕ)) → IsSplitOnceResult 45 name r → begins < 2 ^ 64 → r ≡ Some (front, back) → name ≡ name_of_unfinished begins session → front.now ≡ decimal begins
front_is begins session name None front back split small some is = absurd (none-some (front, back) some)
front_is begins session name (Some x) front back split small some is = ap (λ (y : Bor (List ℕ) × Bor (List ℕ)). y.0.now) (sym (same_Some x (front, back) some)) ∙ (parts_again begins session name (Some x) split small is).0
