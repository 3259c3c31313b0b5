-- What contracts see of what takes the messages of a session, and how far it has come in a text.
use Rattle.std.specs.Prelude.{◌≡◌, List, [], ◌∷◌, ◌++◌, ℕ, Option, Result, Ok, Err}
use Rattle.ipfix_message.specs.Domains.{History, Message}
use Rattle.ipfix_message.specs.TemplateLimits.{message_within}
use Rattle.ipfix_message.specs.Outcome.{Fails}
use Rattle.ipfix_message.specs.declared.fault.MessageFault.{MessageFault}
use Rattle.ipfix_message.specs.declared.fault.MessageFault.TheVariants.{OutOfMemory}
use Rattle.ipfix_session.specs.declared.stop.Stop.TheVariants.{Fault}
use Rattle.ipfix_session.specs.declared.fault.SessionFault.{SessionFault}
use Rattle.ipfix_session.specs.declared.fault.SessionFault.TheVariants as faults
use Rattle.ipfix_session.specs.MessageStream.{cut}
use Rattle.ipfix_session.specs.Given.{gives_within, behind, known_after, octets_of, IsPrefix}
use Rattle.ipfix_session.specs.Buffers.{IsRest}

pub record MessageSinkView (M T : Type 0) : Type 1 where
  -- what there was before the first message
  pub Before : Type 0
  -- the domains and events of the session then
  pub known : Before → History
  -- what the templates of the session may count, if they have a limit
  pub limit : Before → Option ℕ
  -- these messages were taken since, and gave this, which was passed on
  pub took : Before → M → T → List (List ℕ) → List Message → Type 0
  -- and the next can be taken
  pub is_ready : Before → M → List Message → Type 0
  -- only a part of what this message after them gives was passed on
  pub gave_part : Before → M → T → List Message → Message → Type 0

module _ {M T : Type 0} (view : MessageSinkView M T) (before : view.Before) where
  -- the domains and events of the session after these messages
  abbrev pub known_behind : List Message → History
  known_behind given = known_after (view.known before) given

  pub record HasTaken (m : M) (to : T) (messages : List (List ℕ)) (given : List Message) : Type 0 where
    pub took : view.took before m to messages given
    pub is_ready : view.is_ready before m given

  -- what became of the next message, by the answer
  abbrev pub TakesOne : Result (Unit {0}) SessionFault → M → T → List (List ℕ) → List Message → List ℕ → Type 0
  TakesOne (Ok x) m to messages given octets =
      (next : Message) × (message_within (view.limit before) (known_behind given) octets ≡ Ok next) × HasTaken m to (messages ++ octets ∷ []) (given ++ next ∷ [])
  TakesOne (Err (faults.Message e)) m to messages given octets = view.took before m to messages given × Fails e (message_within (view.limit before) (known_behind given) octets)
  TakesOne (Err faults.SinkClosed) m to messages given octets =
      (next : Message) × (message_within (view.limit before) (known_behind given) octets ≡ Ok next) × view.gave_part before m to given next
  TakesOne (Err faults.Truncated) m to messages given octets = ⊥
  TakesOne (Err faults.ReadFailed) m to messages given octets = ⊥
  TakesOne (Err faults.TooManyReads) m to messages given octets = ⊥

  -- whole messages of a text were taken, and left is what follows them
  pub record IsBetween (text : List ℕ) (m : M) (to : T) (left : List ℕ) : Type 0 where
    pub messages : List (List ℕ)
    pub given : List Message
    pub taken : HasTaken m to messages given
    pub octets : text ≡ octets_of messages ++ left
    pub is : gives_within (view.limit before) (view.known before) text ≡ behind given (gives_within (view.limit before) (known_behind given) left)
    pub rest : (cut text).rest ≡ (cut left).rest

  -- and no message begins there, but one may when the text goes on
  pub record IsAtRest (text : List ℕ) (m : M) (to : T) (left : List ℕ) : Type 0 where
    pub between : IsBetween text m to left
    pub is_rest : IsRest left

  -- the first messages of a text were taken
  pub record TookFirst (text : List ℕ) (m : M) (to : T) : Type 0 where
    pub messages : List (List ℕ)
    pub given : List Message
    pub left : List ℕ
    pub took : view.took before m to messages given
    pub octets : text ≡ octets_of messages ++ left
    pub next : IsPrefix given (gives_within (view.limit before) (view.known before) text).messages

  -- all before the first that has this fault
  pub record TookUpTo (fault : MessageFault) (text : List ℕ) (m : M) (to : T) : Type 0 where
    pub first : TookFirst text m to
    pub all : gives_within (view.limit before) (view.known before) text ≡ record { messages = first.given; stop = Fault fault }

  -- and then only a part of one was passed on
  pub record TookPart (text : List ℕ) (m : M) (to : T) : Type 0 where
    pub given : List Message
    pub next : Message
    pub more : List Message
    pub are : (gives_within (view.limit before) (view.known before) text).messages ≡ given ++ next ∷ more
    pub part : view.gave_part before m to given next

  -- why no more of them can be taken
  abbrev pub Stops : SessionFault → List ℕ → M → T → Type 0
  Stops (faults.Message OutOfMemory) text m to = TookFirst text m to
  Stops (faults.Message e) text m to = TookUpTo e text m to
  Stops faults.SinkClosed text m to = TookPart text m to
  Stops faults.Truncated text m to = ⊥
  Stops faults.ReadFailed text m to = ⊥
  Stops faults.TooManyReads text m to = ⊥

  -- the octets of a text were read, by the answer
  abbrev pub Reads : Result (Unit {0}) SessionFault → List ℕ → M → T → List ℕ → Type 0
  Reads (Ok x) text m to left = IsAtRest text m to left
  Reads (Err fault) text m to left = Stops fault text m to

-- taking a message, whatever was taken before
abbrev pub TakesNext : {M T : Type 0} → MessageSinkView M T → Result (Unit {0}) SessionFault → M → T → M → T → List ℕ → Type 0
TakesNext view answer m to n later octets =
    (before : view.Before) (messages : List (List ℕ)) (given : List Message) → HasTaken view before m to messages given → TakesOne view before answer n later messages given octets
