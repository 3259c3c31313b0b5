-- Each fault is found by its number and by its name, in any letter case.
use Rattle.std.proofs.Common.{◌≡◌, ◌||◌, ℕ, List, Option, Some, find, refl, sym, subst, inl, inr}
use Rattle.std.specs.Fmt.{decimal, digits}
use Rattle.std.specs.Str.{bytes_eq, str_to_ascii_lowercase}
use Rattle.ipfix_message.specs.declared.fault.MessageFault.TheVariants.{Version}
use Rattle.command_explain.specs.declared.ending_fault.EndingFault.{EndingFault}
use Rattle.command_explain.specs.declared.ending_fault.EndingFault.TheVariants.{Session}
use Rattle.ipfix_session.specs.declared.fault.SessionFault.TheVariants.{Message}
use Rattle.command_explain.specs.EndingFaults.{number_of, name_of}
use Rattle.command_explain.specs.Explained.{named, IsWordOf}
use Rattle.command_explain.specs.declared.faults.TheConstants.{FAULTS}

-- the fault that a word names, of the word in lower case
found : List ℕ → Option EndingFault
found lower = find (λ fault. bytes_eq lower (str_to_ascii_lowercase (decimal (number_of fault))) || bytes_eq lower (str_to_ascii_lowercase (name_of fault))) FAULTS

-- the first line lets each fault be a case of its own
by_number : (fault : EndingFault) → found (str_to_ascii_lowercase (decimal (number_of fault))) ≡ Some fault
unfolding found digits
by_number (Session (Message Version)) = refl
by_number fault = refl

by_name : (fault : EndingFault) → found (str_to_ascii_lowercase (name_of fault)) ≡ Some fault
unfolding found digits
by_name (Session (Message Version)) = refl
by_name fault = refl

pub each : (word : List ℕ) (fault : EndingFault) → IsWordOf word fault → named word ≡ Some fault
unfolding found named
each word fault (inl is) = subst (λ (lower : List ℕ). found lower ≡ Some fault) (sym is) (by_number fault)
each word fault (inr is) = subst (λ (lower : List ℕ). found lower ≡ Some fault) (sym is) (by_name fault)
