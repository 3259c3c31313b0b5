-- Which datagram begins the session of a peer.
use Rattle.std.proofs.Common.{◌≡◌, ℕ, true, false, List, [], Ok, Option, Some, None, sym, ap, subst, ◌∙◌, inl, inr}
use Rattle.std.specs.Prelude.{◌≢◌, IfOk, Result, Err, length}
use Rattle.std.specs.BTreeMap.{BTreeMap, values, get}
use Rattle.std.specs.Ordering.{nat_cmp}
use Rattle.ipfix_wire.specs.declared.header.Header.{Header}
use Rattle.ipfix_message.specs.Domains.{DomainsView, History, Message, StandsFor, message_header}
use Rattle.ipfix_message.specs.declared.record.Template.{Template}
use Rattle.ipfix_datagrams.specs.Datagrams.{Answers, Basis, Fits, HasFault, IsRefused, basis_of, IsReadingOf, Represents, WeighAfter, defines_template, preparation_of}
use Rattle.ipfix_datagrams.specs.declared.reading.DatagramReading.{DatagramReading}
use Rattle.ipfix_datagrams.specs.declared.reading.Reading.{Reading}
use Rattle.ipfix_datagrams.specs.declared.known_templates.KnownTemplates.{KnownTemplates}
use Rattle.ipfix_message.specs.declared.fault.MessageFault.{MessageFault}
use Rattle.ipfix_message.specs.declared.fault.MessageFault.TheVariants.{OutOfMemory}
use Rattle.ipfix_datagrams.proofs.Answered.{no_values, some_values}
use Rattle.recording_resumption.specs.Resumption.{resumed_by}
use Rattle.recording_resumption.specs.declared.earlier_domain.EarlierDomain.{EarlierDomain}
use Rattle.recording_peer.specs.Beginnings.{BeginsAs, IsTakenFirst, first_basis, resumed_first}
use Rattle.recording_peer.specs.declared.beginning.Beginning.{Beginning}
use Rattle.recording_peer.specs.declared.beginning.Beginning.TheVariants.{Begins, PassesBy, BeginsNone}
use Rattle.recording_peer.specs.Peers.{resumed_at, resumed_of}

-- of a peer of which nothing is kept
pub no_domains : (d : DomainsView) → d.spent ≡ false → StandsFor d.domains [] → Represents d []
no_domains d fresh stands = record { fresh = fresh; stands = stands }

-- a datagram that is taken
taken : (budget : ℕ) (ws : List (ℕ × ℕ)) (ts : List Template) (m : List ℕ) (r : DatagramReading) (x : Message) → IsReadingOf (first_basis ts) [] m r x → Fits budget ws x.domains → IsTakenFirst budget ts m
taken budget ws ts m r x is fits = record { preparation = preparation_of r; weights = ws; given = x; taken = is.taken; fits = fits }

-- where none is resumed
pub begins_by_own : (budget : ℕ) (ws : List (ℕ × ℕ)) (ts : BTreeMap ℕ Template) (m : List ℕ) (r : DatagramReading) (x : Message) → IsReadingOf (first_basis (values ts)) [] m r x → Fits budget ws x.domains → defines_template m ≡ true
    → BeginsAs budget (values ts) m Begins
begins_by_own budget ws ts m r x is fits defines = record { taken = taken budget ws (values ts) m r x is fits; leaves = inl defines }

pub passes_by : (budget : ℕ) (ws : List (ℕ × ℕ)) (ts : BTreeMap ℕ Template) (m : List ℕ) (r : DatagramReading) (x : Message) (h : Header) → message_header m ≡ Ok h → IsReadingOf (first_basis (values ts)) [] m r x → Fits budget ws x.domains → length ts.entries ≡ 0
    → defines_template m ≡ false → BeginsAs budget (values ts) m (PassesBy h)
passes_by budget ws ts m r x h good is fits none defines = (good, record { taken = taken budget ws (values ts) m r x is fits; defines = defines; none = no_values ts none })

-- and where some are
pub begins_by_resumed : (budget : ℕ) (ws : List (ℕ × ℕ)) (ts : BTreeMap ℕ Template) (m : List ℕ) (r : DatagramReading) (x : Message) → IsReadingOf (first_basis (values ts)) [] m r x → Fits budget ws x.domains → (length ts.entries ≡ 0 → ⊥) → BeginsAs budget (values ts) m Begins
begins_by_resumed budget ws ts m r x is fits some = record { taken = taken budget ws (values ts) m r x is fits; leaves = inr (some_values ts some) }

-- what is counted after it
pub fits_after : (budget : ℕ) (o : Option (BTreeMap ℕ ℕ)) (ws : List (ℕ × ℕ)) (after : History) → WeighAfter o budget [] after → Fits budget ws [] → (vs : List (ℕ × ℕ)) × Fits budget vs after
fits_after budget None ws after same fits = (ws, subst (Fits budget ws) (sym same) fits)
fits_after budget (Some vs) ws after fits none = (vs.entries, fits)

-- by its budget
pub answers_first : (k : KnownTemplates) (ts : BTreeMap ℕ Template) (budget : ℕ) (m : List ℕ) (r : Reading) → k.budget ≡ budget → Answers (basis_of ts []) k.budget [] m r → Answers (first_basis (values ts)) budget [] m r
answers_first k ts budget m r same answers = subst (λ (n : ℕ). Answers (basis_of ts []) n [] m r) same answers

-- one with a fault begins none
has_fault : (basis : Basis) (m : List ℕ) (f : MessageFault) → IsRefused basis [] m f → f ≢ OutOfMemory → HasFault basis [] m f
has_fault basis m f (inl memory) other = absurd (other memory)
has_fault basis m f (inr fault) other = fault.1

pub none_begun : {E : Type 0} (budget : ℕ) (ts : List Template) (m : List ℕ) (f : MessageFault) (r : Result Beginning E) → IsRefused (first_basis ts) [] m f → IfOk r (λ b. (b ≡ BeginsNone) × (f ≢ OutOfMemory)) → IfOk r (BeginsAs budget ts m)
none_begun budget ts m f (Ok b) refused none = subst (BeginsAs budget ts m) (sym none.0) (inl (f, has_fault (first_basis ts) m f refused none.1))
none_begun budget ts m f (Err e) refused none = tt

-- with what is resumed
pub with_resumed : {E : Type 0} (left : BTreeMap ℕ EarlierDomain) (m : List ℕ) (h : Header) (o : Option EarlierDomain) (b : Result Beginning E) (budget : ℕ) → message_header m ≡ Ok h → resumed_by (get nat_cmp left h.domain) h ≡ o
    → IfOk b (BeginsAs budget (resumed_of o).templates m) → IfOk b (BeginsAs budget (resumed_first left m) m)
with_resumed left m h o b budget good is so =
    let same : resumed_first left m ≡ (resumed_of o).templates = ap (λ r. (resumed_at left [] r).templates) good ∙ ap (λ (p : Option EarlierDomain). (resumed_of p).templates) is in
    subst (λ (ts : List Template). IfOk b (BeginsAs budget ts m)) (sym same) so
