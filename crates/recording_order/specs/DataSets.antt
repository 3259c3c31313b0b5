-- Whether a datagram has a data set (RFC 7011, section 3.4.3).
use Rattle.std.specs.Prelude.{ℕ, Bool, nat_le, List, drop}
use Rattle.std.specs.List.{list_any}
use Rattle.ipfix_wire.specs.declared.header.TheConstants.{HEADER_LENGTH}
use Rattle.ipfix_wire.specs.declared.set.TheConstants.{FIRST_TEMPLATE_ID}
use Rattle.ipfix_message.specs.Sets.{Set, sets_of}

abbrev pub is_data : Set → Bool
is_data set = nat_le FIRST_TEMPLATE_ID set.id

-- among sets in turn
abbrev pub have_data : List ℕ → Bool
have_data sets = list_any is_data (sets_of sets).items

-- among those after its header
abbrev pub has_data : List ℕ → Bool
has_data octets = have_data (drop HEADER_LENGTH octets)
