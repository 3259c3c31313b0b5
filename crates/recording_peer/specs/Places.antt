-- What keeps a peer's place, where there is no room for one more (RFC 7011, section 10.3).
use Rattle.std.specs.Prelude.{◌≡◌, ◌==◌, ℕ, ◌+◌, ◌-◌, Bool, false, nat_eq, nat_lt, if◌then◌else◌, List, sum_by, IsSome, MatchBool, Option, None, option_copied, option_map, unwrap_or}
use Rattle.std.specs.Borrow.{Bor}
use Rattle.std.specs.BTreeMap.{BTreeMap}
use Rattle.std.specs.List.{list_any}
use Rattle.std.specs.Map.{lookup}
use Rattle.std.specs.Option.{option_and_then}
use Rattle.std.specs.Ordering.{nat_cmp, eq_by_cmp}
use Rattle.ipfix_message.specs.Domains.{History}
use Rattle.ipfix_message.specs.declared.record.Template.{Template}
use Rattle.ipfix_message.specs.TemplateLimits.{fields_of}
use Rattle.ipfix_datagrams.specs.Datagrams.{known_in}
use Rattle.ipfix_datagrams.specs.RecordsCame.{has_records}
use Rattle.ipfix_message.specs.declared.template_limit.TheConstants.{DOMAIN_FIELDS}
use Rattle.recording_peer.specs.Recording.{PeerView, barred_shown}

-- templates as they are listed, if there are any
abbrev pub listed : Option (Bor (BTreeMap ℕ Template)) → Option (List (ℕ × Template))
listed templates = option_map (λ ts. ts.entries) (option_copied templates)

-- what the template of an id counts, if there is one
abbrev pub fields_in : Option (List (ℕ × Template)) → ℕ → ℕ
fields_in templates id = unwrap_or (option_map fields_of (option_and_then (λ ts. lookup (eq_by_cmp nat_cmp id) ts) templates)) 0

-- the templates of a domain that are in force in the files, and those that withdrawals ended there
abbrev pub in_files : PeerView → ℕ → Option (List (ℕ × Template))
in_files s domain = if s.recorder.domains.spent then None else lookup (nat_eq domain) s.recorder.domains.domains

abbrev pub ended_in_files : PeerView → ℕ → Option (List (ℕ × Template))
ended_in_files s domain = lookup (eq_by_cmp nat_cmp domain) s.known.withdrawn

-- what the template counts that is known for an id: the one or the other
abbrev pub fields_for : Option (List (ℕ × Template)) → Option (List (ℕ × Template)) → ℕ → ℕ
fields_for files ended id = fields_in files id + fields_in ended id

-- what is left of what a domain counts without itself and without the templates of ids that have none
abbrev pub fields_left : PeerView → ℕ × ℕ → ℕ
fields_left s e = (e.1 - DOMAIN_FIELDS) - sum_by (fields_for (in_files s e.0) (ended_in_files s e.0)) (barred_shown s.known e.0)

-- there is a domain that has more than that: one with a template in force
abbrev pub has_template : PeerView → Bool
has_template s = list_any (λ e. nat_lt 0 (fields_left s e)) s.known.weights

-- a data record was read
abbrev pub has_record : PeerView → Bool
has_record s = has_records s.told.advances

-- ---- what that means

-- a template is in force over UDP for an id in a domain: one is known, and the id isn't one of those that have none
abbrev pub IsInForce : PeerView → History → ℕ → ℕ → Type 0
IsInForce s ds domain id = IsSome (known_in ds domain id) × (list_any (λ b. b == id) (barred_shown s.known domain) ≡ false)

pub record HasInForce (s : PeerView) (ds : History) : Type 0 where
  pub domain : ℕ
  pub id : ℕ
  pub is : IsInForce s ds domain id

abbrev pub HasNoneInForce : PeerView → History → Type 0
HasNoneInForce s ds = (domain id : ℕ) → IsInForce s ds domain id → ⊥

-- so it says
abbrev pub SaysInForce : PeerView → History → Type 0
SaysInForce s ds = MatchBool (has_template s) (HasInForce s ds) (HasNoneInForce s ds)
