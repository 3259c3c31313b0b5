-- What is known of templates beside the files, as it is shown.
use Rattle.std.proofs.Common.{◌≡◌, ◌&&◌, ℕ, Bool, true, false, cond, eqb, List, [], ◌∷◌, Option, Some, Result, refl, sym, ap, subst, ◌∙◌, inl, inr}
use Rattle.std.specs.Prelude.{◌||◌, MatchResult, option_map, unwrap_or}
use Rattle.std.specs.Global.{Vec}
use Rattle.std.specs.List.{IsDistinct, list_any}
use Rattle.std.proofs.lemmas.Bool.Decides.{eqb_tells}
use Rattle.ipfix_message.specs.declared.fault.MessageFault.{MessageFault}
use Rattle.ipfix_datagrams.specs.declared.known_templates.KnownTemplates.{KnownTemplates}
use Rattle.ipfix_datagrams.specs.declared.reading.Reading.{Reading}
use Rattle.std.specs.Map.{lookup}
use Rattle.std.specs.Option.{option_and_then}
use Rattle.std.specs.Ordering.{nat_cmp, eq_by_cmp}
use Rattle.std.specs.BTreeMap.{BTreeMap, get}
use Rattle.ipfix_message.specs.Kept.{kept}
use Rattle.ipfix_message.specs.declared.record.Template.{Template}
use Rattle.ipfix_message.specs.Domains.{History}
use Rattle.ipfix_datagrams.specs.Datagrams.{Answers as AnswersOf, AreOnce, Fits, IsRefused, KeepsKnown, KeepsWithdrawn, barred_after, barred_in, template_at}
use Rattle.ipfix_datagrams.proofs.Once.{once_filter, once_put}
use Rattle.recording_peer.specs.Peers.{Resumed, basis_with, known_after_all}
use Rattle.recording_peer.specs.Fronts.{ReadsWhere}
use Rattle.recording_peer.specs.Recording.{BarsOnce, FiledDatagrams, KeepsListed, KnownShown, PeerView, barred_listed, barred_shown, known_shown, resumed_for, taken_in, template_listed}

same_lookup : (test : ℕ → Bool) (id : ℕ) (es : List (ℕ × BTreeMap ℕ Template)) → option_and_then (λ ts. lookup (eq_by_cmp nat_cmp id) ts) (lookup test (kept es)) ≡ option_and_then (λ t. get nat_cmp t id) (lookup test es)
same_lookup test id [] = refl
same_lookup test id (e ∷ es) = by_test (test e.0) (same_lookup test id es)
  where
    by_test : (b : Bool) → option_and_then (λ ts. lookup (eq_by_cmp nat_cmp id) ts) (lookup test (kept es)) ≡ option_and_then (λ t. get nat_cmp t id) (lookup test es)
        → option_and_then (λ ts. lookup (eq_by_cmp nat_cmp id) ts) (cond b (Some e.1.entries) (lookup test (kept es))) ≡ option_and_then (λ t. get nat_cmp t id) (cond b (Some e.1) (lookup test es))
    by_test true more = refl
    by_test false more = more

at_same : (s : BTreeMap ℕ (BTreeMap ℕ Template)) (domain id : ℕ) → template_listed (kept s.entries) domain id ≡ template_at s domain id
at_same s domain id = same_lookup (eq_by_cmp nat_cmp domain) id s.entries

pub listed : (s : BTreeMap ℕ (BTreeMap ℕ Template)) (ds : History) → KeepsWithdrawn s ds → KeepsListed (kept s.entries) ds
listed s ds keeps = record { at = λ domain id. at_same s domain id ∙ keeps.at domain id }

pub unlisted : (s : BTreeMap ℕ (BTreeMap ℕ Template)) (ds : History) → KeepsListed (kept s.entries) ds → KeepsWithdrawn s ds
unlisted s ds keeps = record { at = λ domain id. sym (at_same s domain id) ∙ keeps.at domain id }

-- ---- all that is known

pub keeps_known : (k : KnownTemplates) (ds : History) → KeepsListed (known_shown k).withdrawn ds → Fits k.budget k.weights.entries ds → KeepsKnown k ds
keeps_known k ds withdrawn fits = record { withdrawn = unlisted k.withdrawn ds withdrawn; fits = fits }

barred_lookup : (test : ℕ → Bool) (es : List (ℕ × Vec ℕ)) → lookup test (barred_listed es) ≡ option_map (λ v. v.items) (lookup test es)
barred_lookup test [] = refl
barred_lookup test (e ∷ es) = by_test (test e.0) (barred_lookup test es)
  where
    by_test : (b : Bool) → lookup test (barred_listed es) ≡ option_map (λ v. v.items) (lookup test es) → cond b (Some e.1.items) (lookup test (barred_listed es)) ≡ option_map (λ v. v.items) (cond b (Some e.1) (lookup test es))
    by_test true more = refl
    by_test false more = more

pub barred_same : (k : KnownTemplates) (domain : ℕ) → barred_shown (known_shown k) domain ≡ barred_in k.barred domain
barred_same k domain = ap (λ (o : Option (List ℕ)). unwrap_or o []) (barred_lookup (eq_by_cmp nat_cmp domain) k.barred.entries)

-- none has none
pub none_barred : (k : KnownTemplates) → ((domain : ℕ) → barred_in k.barred domain ≡ []) → BarsOnce (known_shown k)
unfolding IsDistinct
none_barred k none domain = subst (IsDistinct eqb) (sym (barred_same k domain ∙ none domain)) tt

-- each is listed once after ids were barred, and after a datagram
pub once_barred : (old new : KnownTemplates) (s : KnownShown) → known_shown old ≡ s → (AreOnce (barred_in old.barred) → AreOnce (barred_in new.barred)) → BarsOnce s → BarsOnce (known_shown new)
once_barred old new s same once before domain =
    subst (IsDistinct eqb) (sym (barred_same new domain)) (once (λ q. subst (IsDistinct eqb) (sym (sym (barred_same old q) ∙ ap (λ (k : KnownShown). barred_shown k q) same)) (before q)) domain)

pub once_again : (s t : KnownShown) (d : ℕ) (m : List ℕ) → ((domain : ℕ) → barred_shown t domain ≡ cond (eqb domain d) (barred_after (barred_shown s domain) m) (barred_shown s domain)) → BarsOnce s → BarsOnce t
once_again s t d m again before = once_put (barred_shown s) (barred_shown t) d (barred_after (barred_shown s d) m) (λ domain. again domain ∙ here domain) (λ once. once_filter _ (barred_shown s d) once) before
  where
    here : (domain : ℕ) → cond (eqb domain d) (barred_after (barred_shown s domain) m) (barred_shown s domain) ≡ cond (eqb domain d) (barred_after (barred_shown s d) m) (barred_shown s domain)
    here domain = elim (eqb_tells domain d) [
      | inl same ↦ ap (λ (q : ℕ). cond (eqb domain d) (barred_after (barred_shown s q) m) (barred_shown s domain)) same.1
      | inr other ↦ rw other.0 refl
    ]

-- after a datagram
pub shown_again : (old new : KnownTemplates) (s : KnownShown) (d : ℕ) (m : List ℕ) → known_shown old ≡ s
    → ((domain : ℕ) → barred_in new.barred domain ≡ cond (eqb domain d) (barred_after (barred_in old.barred domain) m) (barred_in old.barred domain))
    → (domain : ℕ) → barred_shown (known_shown new) domain ≡ cond (eqb domain d) (barred_after (barred_shown s domain) m) (barred_shown s domain)
shown_again old new s d m same again domain =
    let before : barred_in old.barred domain ≡ barred_shown s domain = sym (barred_same old domain) ∙ ap (λ (k : KnownShown). barred_shown k domain) same in
    barred_same new domain ∙ again domain ∙ ap (λ (ids : List ℕ). cond (eqb domain d) (barred_after ids m) ids) before

-- after ids were barred
pub shown_barred : (old new : KnownTemplates) (s : KnownShown) (d : ℕ) (ids : List ℕ) → known_shown old ≡ s
    → ((q id : ℕ) → list_any (λ b. eqb b id) (barred_in new.barred q) ≡ (list_any (λ b. eqb b id) (barred_in old.barred q) || (eqb q d && list_any (λ b. eqb b id) ids)))
    → (q id : ℕ) → list_any (λ b. eqb b id) (barred_shown (known_shown new) q) ≡ (list_any (λ b. eqb b id) (barred_shown s q) || (eqb q d && list_any (λ b. eqb b id) ids))
shown_barred old new s d ids same bars q id =
    let before : barred_in old.barred q ≡ barred_shown s q = sym (barred_same old q) ∙ ap (λ (k : KnownShown). barred_shown k q) same in
    ap (list_any (λ b. eqb b id)) (barred_same new q) ∙ bars q id ∙ ap (λ (is : List ℕ). list_any (λ b. eqb b id) is || (eqb q d && list_any (λ b. eqb b id) ids)) before

-- ---- what a datagram is read with

pub reads_as : (s : PeerView) (k : KnownTemplates) (filed : FiledDatagrams) (m : List ℕ) (r : Resumed) (barred : List ℕ) (result : Result Reading MessageFault) → known_shown k ≡ s.known → resumed_for filed m ≡ r
    → MatchResult result (AnswersOf (record { resumed = r.templates; barred = barred }) k.budget (known_after_all (taken_in filed)) m) (IsRefused (record { resumed = r.templates; barred = barred }) (known_after_all (taken_in filed)) m)
    → ReadsWhere s m barred result filed
reads_as s k filed m r barred result same is reads =
    let ds = known_after_all (taken_in filed) in
    let budget : k.budget ≡ s.known.budget = ap (λ (known : KnownShown). known.budget) same in
    subst (λ (n : ℕ). MatchResult result (AnswersOf (basis_with (resumed_for filed m) barred) n ds m) (IsRefused (basis_with (resumed_for filed m) barred) ds m)) budget
    (subst (λ (q : Resumed). MatchResult result (AnswersOf (basis_with q barred) k.budget ds m) (IsRefused (basis_with q barred) ds m)) (sym is) reads)
