-- The sets of a message (RFC 7011, section 3.3).
use Rattle.std.specs.Prelude.{◌≡◌, ℕ, ◌+◌, ◌^◌, ◌<◌, nat_lt, Bool, ◌==◌, ◌||◌, if◌then◌else◌, List, ◌++◌, length, take, drop, Option, Some, None, Result, Ok, Err}
use Rattle.std.specs.List.{list_any}
use Rattle.ipfix_wire.specs.InTurn.{IsLongest, Parts, parts_of}
use Rattle.ipfix_wire.specs.SetHeader.{set_octets, set_at}
use Rattle.ipfix_wire.specs.declared.set.TheConstants.{SET_HEADER_LENGTH, TEMPLATE_SET_ID, OPTIONS_TEMPLATE_SET_ID}
use Rattle.ipfix_wire.specs.declared.set.SetSpan.{SetSpan}
use Rattle.ipfix_wire.specs.declared.fault.WireFault.{WireFault}
use Rattle.ipfix_message.specs.declared.fault.MessageFault.{MessageFault}
use Rattle.ipfix_message.specs.declared.fault.MessageFault.TheVariants.{SetHeader, SetLength}
use Rattle.ipfix_message.specs.Faults.{fault_of}
use Rattle.ipfix_message.specs.Outcome.{Read}

-- a set: its id, and its body with the padding
pub record Set : Type 0 where
  pub id : ℕ
  pub body : List ℕ

abbrev pub set_of : ℕ → List ℕ → Set
set_of id body = record { id = id; body = body }

-- how long a set of this body is: the length in its header counts the header too (section 3.3.2)
abbrev pub set_length : List ℕ → ℕ
set_length body = SET_HEADER_LENGTH + length body

-- w spells a set: a header, whose length counts the header too, and the body (section 3.3.2)
pub record SpellsSet (s : Set) (w : List ℕ) : Type 0 where
  pub id : s.id < 2 ^ 16
  pub size : set_length s.body < 2 ^ 16
  pub octets : w ≡ set_octets s.id (length s.body) ++ s.body

-- ---- reading them

abbrev pub cut_set : List ℕ → Result SetSpan WireFault → Read (Set × List ℕ)
cut_set w (Err e) = Err (fault_of e)
cut_set w (Ok s) = Ok (record { id = s.id; body = take s.body (drop SET_HEADER_LENGTH w) }, drop s.body (drop SET_HEADER_LENGTH w))

-- the set that a text begins with, and what follows it
unfoldable pub next_set : List ℕ → Read (Set × List ℕ)
next_set w = cut_set w (set_at w)

-- the sets in what follows a message's header, and what follows the last one
abbrev pub sets_of : List ℕ → Parts Set
sets_of w = parts_of next_set w

-- sets, and what follows them: the longest list of sets that are spelled one after another at the beginning of w
abbrev pub AreSetsOf : Parts Set → List ℕ → Type 0
AreSetsOf sets w = IsLongest SpellsSet sets.items sets.rest w

-- the fault of what is left: none if nothing is, a cut set header if it is shorter than that, else a wrong set length
abbrev pub fault_after_sets : List ℕ → Option MessageFault
fault_after_sets rest =
    if length rest == 0 then None
    else if nat_lt (length rest) SET_HEADER_LENGTH then Some SetHeader
    else Some SetLength

-- ---- template sets

-- a set of template records, of either kind
abbrev pub is_template_set : Set → Bool
is_template_set s = (s.id == TEMPLATE_SET_ID) || (s.id == OPTIONS_TEMPLATE_SET_ID)

-- whether there is one in what follows a message's header
abbrev pub has_template_set : List ℕ → Bool
has_template_set w = list_any is_template_set (sets_of w).items
