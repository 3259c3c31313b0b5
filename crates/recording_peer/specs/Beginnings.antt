-- Which datagram begins the session of a peer of which nothing is kept (RFC 7011, sections 8 and 10.3).
use Rattle.std.specs.Prelude.{◌≡◌, ◌≢◌, ◌⊎◌, ℕ, true, false, List, [], Ok}
use Rattle.std.specs.BTreeMap.{BTreeMap}
use Rattle.ipfix_message.specs.Domains.{Message, message_header}
use Rattle.ipfix_message.specs.declared.fault.MessageFault.{MessageFault}
use Rattle.ipfix_message.specs.declared.record.Template.{Template}
use Rattle.ipfix_datagrams.specs.Datagrams.{Basis, Fits, IsTooMuch, Preparation, IsTaken, HasFault, defines_template, withdraws_only}
use Rattle.recording_resumption.specs.declared.earlier_domain.EarlierDomain.{EarlierDomain}
use Rattle.recording_peer.specs.Peers.{resumed_at}
use Rattle.recording_peer.specs.declared.beginning.Beginning.{Beginning}
use Rattle.recording_peer.specs.declared.beginning.Beginning.TheVariants.{Begins, PassesBy, BeginsNone}

-- what is resumed before the first datagram of a peer, by what an earlier run left
abbrev pub resumed_first : BTreeMap ℕ EarlierDomain → List ℕ → List Template
resumed_first left m = (resumed_at left [] (message_header m)).templates

abbrev pub first_basis : List Template → Basis
first_basis resumed = record { resumed = resumed; barred = [] }

-- with these resumed before it, it is taken
pub record IsTakenFirst (budget : ℕ) (resumed : List Template) (m : List ℕ) : Type 0 where
  pub preparation : Preparation
  pub weights : List (ℕ × ℕ)
  pub given : Message
  pub taken : IsTaken (first_basis resumed) [] m preparation given
  pub fits : Fits budget weights given.domains

-- and leaves a template in force: it defines one, or some are resumed
pub record BeginsPeer (budget : ℕ) (resumed : List Template) (m : List ℕ) : Type 0 where
  pub taken : IsTakenFirst budget resumed m
  pub leaves : (defines_template m ≡ true) ⊎ (resumed ≢ [])

-- or leaves none
pub record LeavesNone (budget : ℕ) (resumed : List Template) (m : List ℕ) : Type 0 where
  pub taken : IsTakenFirst budget resumed m
  pub defines : defines_template m ≡ false
  pub none : resumed ≡ []

-- or isn't taken: it has a fault, its definitions are too many for the budget, or it has withdrawals only
abbrev pub WhyNotTaken : ℕ → List Template → List ℕ → Type 0
WhyNotTaken budget resumed m = ((fault : MessageFault) × HasFault (first_basis resumed) [] m fault)
    ⊎ (((ids : List ℕ) × IsTooMuch (first_basis resumed) budget [] m ids) ⊎ (withdraws_only m ≡ true))

-- why a datagram doesn't begin a session
abbrev pub WhyNone : ℕ → List Template → List ℕ → Type 0
WhyNone budget resumed m = LeavesNone budget resumed m ⊎ WhyNotTaken budget resumed m

-- what it does
abbrev pub BeginsAs : ℕ → List Template → List ℕ → Beginning → Type 0
BeginsAs budget resumed m Begins = BeginsPeer budget resumed m
BeginsAs budget resumed m (PassesBy h) = (message_header m ≡ Ok h) × LeavesNone budget resumed m
BeginsAs budget resumed m BeginsNone = WhyNotTaken budget resumed m
