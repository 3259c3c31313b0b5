-- The last of a peer's files that were noted, with one more.
use Rattle.std.proofs.Common.{◌≡◌, ℕ, Global, Bool, true, false, cond, List, [], ◌∷◌, ◌++◌, Option, Some, None, refl, sym, ap, subst, ◌∙◌}
use Rattle.std.specs.List.{Contains}
use Rattle.std.specs.Cmp.Lexicographic.{slice_cmp}
use Rattle.std.specs.Ordering.{nat_cmp, is_lt, ordering_reverse}
use Rattle.std.specs.Prelude.{bytes_eq, if◌then◌else◌}
use Rattle.std.specs.Option.{option_map_or}
use Rattle.std.specs.declared.string.String.{String}
use Rattle.std.specs.BTreeMap.{BTreeMap, get, is_at}
use Rattle.std.specs.Map.{lookup}
use Rattle.std.specs.String.{string_bytes}
use Rattle.std.specs.declared.cmp.Ordering.{Ordering}
use Rattle.std.specs.declared.cmp.Ordering.TheVariants.{Less, Equal, Greater}
use Rattle.std.proofs.lemmas.Cmp.{nat_list_cmp_total}
use Rattle.std.proofs.lemmas.Slice.Eq.{bytes_eq-Decides}
use Rattle.std.proofs.lemmas.List.Elements.{All-nil, All-push, All-weaker, Contains-append_left, Contains-push}
use Rattle.recording_folder.specs.PeerFiles.{Note, rank, IsLater, IsLastOf}
use Rattle.recording_folder.specs.EarlierPeers.{HasNoted, IsHandedOver, IsKeptBy, IsLeftBy, IsLeftByLast, KeepsOf, is_later, is_of, kept_of, peer_of, with_domains, comes_later}
use Rattle.recording_folder.specs.declared.earlier_peers.EarlierPeer.{EarlierPeer}
use Rattle.recording_folder.specs.declared.earlier_peers.EarlierPeers.{EarlierPeers}
use Rattle.recording_resumption.specs.declared.earlier_domain.EarlierDomain.{EarlierDomain}

-- what isn't later than one that is before another isn't later than that
later_on : (f last next : Note) → IsLater next.file last.file → ¬ IsLater f.file last.file → ¬ IsLater f.file next.file
later_on f last next on not_later later = not_later (nat_list_cmp_total.trans (rank last.file) (rank next.file) (rank f.file) on later)

-- nothing is later than itself
not_itself : (f : Note) → ¬ IsLater f.file f.file
not_itself f later = by_order (slice_cmp nat_cmp (rank f.file) (rank f.file)) later (nat_list_cmp_total.antisymm (rank f.file) (rank f.file))
  where
    by_order : (o : Ordering) → o ≡ Less → o ≡ ordering_reverse o → ⊥
    by_order Less e is = absurd cc
    by_order Equal e is = absurd cc
    by_order Greater e is = absurd cc

added : (files : List Note) (f : Note) → Contains (files ++ f ∷ []) f
added files f = Contains-push files f

-- it doesn't pass, or isn't later
abbrev NotLater : (Note → Bool) → Note → Note → Type 0
NotLater passes last g = passes g ≡ true → ¬ IsLater g.file last.file

passes_not : (passes : Note → Bool) (last g : Note) → passes g ≡ false → NotLater passes last g
passes_not passes last g no_pass passed = let wrong : false ≡ true = sym no_pass ∙ passed in absurd cc

itself : (passes : Note → Bool) (f : Note) → NotLater passes f f
itself passes f passed = not_itself f

behind : (passes : Note → Bool) (last next g : Note) → IsLater next.file last.file → NotLater passes last g → NotLater passes next g
behind passes last next g on not_later passed = later_on g last next on (not_later passed)

-- one file more
abbrev pub last_with : Option Note → Note → Bool → Option Note
last_with last f false = last
last_with None f true = Some f
last_with (Some last) f true = elim (slice_cmp nat_cmp (rank last.file) (rank f.file)) [ Less ↦ Some f | _ ↦ Some last ]

pub last_more : (passes : Note → Bool) (files : List Note) (last : Option Note) (f : Note) (b : Bool) → b ≡ passes f → IsLastOf passes files last → IsLastOf passes (files ++ f ∷ []) (last_with last f b)
last_more passes files None f false e h = All-push (λ (g : Note). passes g ≡ false) files f h (sym e)
last_more passes files (Some last) f false e h = (
  Contains-append_left files (f ∷ []) last h.0,
  h.1,
  All-push (NotLater passes last) files f h.2 (passes_not passes last f (sym e)),
)
last_more passes files None f true e h = (
  added files f,
  sym e,
  All-push (NotLater passes f) files f (All-weaker (λ (g : Note). passes g ≡ false) (NotLater passes f) (passes_not passes f) files h) (itself passes f),
)
last_more passes files (Some last) f true e h = by_order (slice_cmp nat_cmp (rank last.file) (rank f.file)) refl
  where
    kept : ¬ IsLater f.file last.file → IsLastOf passes (files ++ f ∷ []) (Some last)
    kept not_later = (Contains-append_left files (f ∷ []) last h.0, h.1, All-push (NotLater passes last) files f h.2 (λ passed. not_later))

    by_order : (o : Ordering) → slice_cmp nat_cmp (rank last.file) (rank f.file) ≡ o → IsLastOf passes (files ++ f ∷ []) (elim o [ Less ↦ Some f | _ ↦ Some last ])
    by_order Less is = (
      added files f,
      sym e,
      All-push (NotLater passes f) files f (All-weaker (NotLater passes last) (NotLater passes f) (λ g. behind passes last f g is) files h.2) (itself passes f),
    )
    by_order Equal is = kept (λ less. let wrong : Equal ≡ Less = sym is ∙ less in absurd cc)
    by_order Greater is = kept (λ less. let wrong : Greater ≡ Less = sym is ∙ less in absurd cc)

-- ---- what is kept of each peer

text_same : (xs ys : List ℕ) → bytes_eq xs ys ≡ true → xs ≡ ys
text_same xs ys is = (bytes_eq-Decides xs ys).0 is

-- this is the last, if it passes and is later
last_is : (last : Option Note) (kept : Option EarlierPeer) (f : Note) → IsKeptBy last kept → is_later kept (rank f.file) ≡ true → last_with last f true ≡ Some f
last_is None None f k later = refl
last_is None (Some p) f k later = absurd k
last_is (Some last) None f k later = absurd k
last_is (Some last) (Some p) f k later = by_order (slice_cmp nat_cmp (rank last.file) (rank f.file)) (subst (λ (r : List ℕ). is_lt (slice_cmp nat_cmp r (rank f.file)) ≡ true) k.0 later)
  where
    by_order : (o : Ordering) → is_lt o ≡ true → (elim o [ Less ↦ Some f | _ ↦ Some last ]) ≡ Some f
    by_order Less is = refl
    by_order Equal is = absurd cc
    by_order Greater is = absurd cc

-- and it isn't, if it isn't later
last_stays : (last : Option Note) (kept : Option EarlierPeer) (f : Note) → IsKeptBy last kept → is_later kept (rank f.file) ≡ false → last_with last f true ≡ last
last_stays None None f k later = absurd cc
last_stays None (Some p) f k later = absurd k
last_stays (Some last) None f k later = absurd k
last_stays (Some last) (Some p) f k later = by_order (slice_cmp nat_cmp (rank last.file) (rank f.file)) (subst (λ (r : List ℕ). is_lt (slice_cmp nat_cmp r (rank f.file)) ≡ false) k.0 later)
  where
    by_order : (o : Ordering) → is_lt o ≡ false → (elim o [ Less ↦ Some f | _ ↦ Some last ]) ≡ Some last
    by_order Less is = absurd cc
    by_order Equal is = refl
    by_order Greater is = refl

-- nothing is kept
pub none_kept : (e : EarlierPeers) (q : List ℕ) → e.peers.entries ≡ [] → kept_of e q ≡ None
none_kept e q none = ap (λ (es : List (String Global × EarlierPeer)). lookup (is_at (λ k. slice_cmp nat_cmp q (string_bytes k))) es) none

-- nothing was noted
pub noted_first : (e : EarlierPeers) → ((q : List ℕ) → kept_of e q ≡ None) → HasNoted e []
noted_first e none = record {
  last = λ q. None;
  is_last = λ q. All-nil (λ (n : Note). is_of q n ≡ false);
  kept = λ q. subst (λ (o : Option EarlierPeer). IsKeptBy None o) (sym (none q)) tt;
}

-- a file was noted that is later than what is kept of its peer
pub noted_later : (e new : EarlierPeers) (notes : List Note) (f : Note) (p : EarlierPeer) → HasNoted e notes → comes_later e f.file ≡ true
    → p.rank ≡ rank f.file → IsLeftBy f.session p.domains → ((q : List ℕ) → kept_of new q ≡ cond (bytes_eq (peer_of f.file) q) (Some p) (kept_of e q)) → HasNoted new (notes ++ f ∷ [])
noted_later e new notes f p h later same left is = record {
  last = λ q. last_with (h.last q) f (is_of q f);
  is_last = λ q. last_more (is_of q) notes (h.last q) f (is_of q f) refl (h.is_last q);
  kept = λ q. by_peer q (is_of q f) refl;
}
  where
    by_peer : (q : List ℕ) (b : Bool) → is_of q f ≡ b → IsKeptBy (last_with (h.last q) f b) (kept_of new q)
    by_peer q false other =
        subst (λ (o : Option EarlierPeer). IsKeptBy (h.last q) o) (sym (is q ∙ ap (λ (b : Bool). cond b (Some p) (kept_of e q)) other)) (h.kept q)
    by_peer q true here =
        let peer : peer_of f.file ≡ q = text_same (peer_of f.file) q here in
        let was = subst (λ (r : List ℕ). is_later (kept_of e r) (rank f.file) ≡ true) peer later in
        subst (λ (l : Option Note). IsKeptBy l (kept_of new q)) (sym (last_is (h.last q) (kept_of e q) f (h.kept q) was))
        (subst (λ (o : Option EarlierPeer). IsKeptBy (Some f) o) (sym (is q ∙ ap (λ (b : Bool). cond b (Some p) (kept_of e q)) here)) (same, left))

-- and one that isn't
pub noted_no_later : (e : EarlierPeers) (notes : List Note) (f : Note) → HasNoted e notes → comes_later e f.file ≡ false → HasNoted e (notes ++ f ∷ [])
noted_no_later e notes f h not_later = record {
  last = λ q. last_with (h.last q) f (is_of q f);
  is_last = λ q. last_more (is_of q) notes (h.last q) f (is_of q f) refl (h.is_last q);
  kept = λ q. by_peer q (is_of q f) refl;
}
  where
    by_peer : (q : List ℕ) (b : Bool) → is_of q f ≡ b → IsKeptBy (last_with (h.last q) f b) (kept_of e q)
    by_peer q false other = h.kept q
    by_peer q true here =
        let peer : peer_of f.file ≡ q = text_same (peer_of f.file) q here in
        let was = subst (λ (r : List ℕ). is_later (kept_of e r) (rank f.file) ≡ false) peer not_later in
        subst (λ (l : Option Note). IsKeptBy l (kept_of e q)) (sym (last_stays (h.last q) (kept_of e q) f (h.kept q) was)) (h.kept q)

-- of an entry that is there others are kept then
pub keeps_of : (before after : EarlierPeers) (peer : List ℕ) (p w : EarlierPeer) (left : BTreeMap ℕ EarlierDomain) → kept_of before peer ≡ Some p → Some w ≡ with_domains left (Some p)
    → ((q : List ℕ) → kept_of after q ≡ cond (bytes_eq peer q) (Some w) (kept_of before q)) → KeepsOf before peer left after
keeps_of before after peer p w left found is kept q = kept q ∙ by_peer (bytes_eq peer q) refl
  where
    by_peer : (b : Bool) → bytes_eq peer q ≡ b → cond b (Some w) (kept_of before q) ≡ (if b then with_domains left (kept_of before q) else kept_of before q)
    by_peer false other = refl
    by_peer true here = is ∙ ap (with_domains left) (sym found ∙ ap (kept_of before) (text_same peer q here))

-- what is handed over of a peer
pub handed_over : (e : EarlierPeers) (notes : List Note) (peer : List ℕ) (none : BTreeMap ℕ EarlierDomain) → HasNoted e notes → ((domain : ℕ) → get nat_cmp none domain ≡ None)
    → IsHandedOver notes peer (option_map_or (λ p. p.domains) (kept_of e peer) none)
handed_over e notes peer none h empty = record { last = h.last peer; is_last = h.is_last peer; is_left = by_last (h.last peer) (kept_of e peer) (h.kept peer) }
  where
    by_last : (last : Option Note) (kept : Option EarlierPeer) → IsKeptBy last kept → IsLeftByLast last (option_map_or (λ p. p.domains) kept none)
    by_last None None k = empty
    by_last None (Some p) k = absurd k
    by_last (Some n) None k = absurd k
    by_last (Some n) (Some p) k = k.1
