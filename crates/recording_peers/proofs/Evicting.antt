-- A peer that goes for a new one.
use Rattle.std.proofs.Common.{◌≡◌, ℕ, ◌+◌, ◌-◌, ◌^◌, min, ◌<◌, ◌≤◌, zero, suc, Bool, true, false, cond, not, List, [], ◌∷◌, take, length, slice_get, is_some, ltb, Option, Some, None, refl, sym, ap, ◌∙◌, subst, arith, inl, inr}
use Rattle.std.specs.Prelude.{◌⊎◌, filter, unwrap_or, Result, Ok, Err, IfOk, OnErr}
use Rattle.std.specs.List.{AllByRecursion, IsDistinct}
use Rattle.std.specs.Option.{option_or, option_map_or}
use Rattle.std.specs.Map.{keys_of, lookup_entry, lookup_key, remove_entry}
use Rattle.std.specs.declared.net.socket_addr.SocketAddr.{SocketAddr}
use Rattle.std.specs.contracts.net.socket_addr.SocketAddrEq.TheImpl.Laws.{laws-law}
use Rattle.std.proofs.lemmas.List.{take_all}
use Rattle.std.proofs.lemmas.Bool.{ltb-true, ltb-false}
use Rattle.lru.specs.LruCache.{lru_cache, put_entries, last_entry}
use Rattle.recording_peers.specs.Table.{address_of, entry_of, last_of, of_peer, same_peer, with_first, without}

-- ---- what is answered

pub in_ok : {Y E : Type 0} (r : Result Y E) (P Q : Y → Type 0) → IfOk r P → ((y : Y) → P y → Q y) → IfOk r Q
in_ok (Ok y) P Q p on = on y p
in_ok (Err e) P Q p on = tt

pub in_err : {Y E : Type 0} (r : Result Y E) (P Q : Type 0) → OnErr r P → (P → Q) → OnErr r Q
in_err (Ok y) P Q p on = tt
in_err (Err e) P Q p on = on p

module _ {X : Type 0} where
  -- ---- it is among them

  abbrev pub IsAmong : List (SocketAddr × X) → SocketAddr × X → Type 0
  IsAmong [] e = ⊥
  IsAmong (x ∷ es) e = (x ≡ e) ⊎ IsAmong es e

  pub at_among : (es : List (SocketAddr × X)) (n : ℕ) (e : SocketAddr × X) → slice_get es n ≡ Some e → IsAmong es e
  at_among [] n e h = cc
  at_among (x ∷ es) zero e h = let same : x ≡ e = cc in inl same
  at_among (x ∷ es) (suc n) e h = inr (at_among es n e h)

  pub last_among : (holds : X → Bool) (es : List (SocketAddr × X)) (e : SocketAddr × X) → last_of holds es ≡ Some e → IsAmong es e
  last_among holds [] e h = cc
  last_among holds (x ∷ es) e h = by_rest (last_of holds es) (last_among holds es e) h
    where
      here : (b : Bool) → cond b (Some x) None ≡ Some e → x ≡ e
      here true g = cc
      here false g = cc

      by_rest : (o : Option (SocketAddr × X)) → (o ≡ Some e → IsAmong es e) → option_or o (cond (holds x.1) (Some x) None) ≡ Some e → IsAmong (x ∷ es) e
      by_rest None on g = inl (here (holds x.1) g)
      by_rest (Some f) on g = inr (on g)

  or_among : (es : List (SocketAddr × X)) (o p : Option (SocketAddr × X)) (e : SocketAddr × X) → (o ≡ Some e → IsAmong es e) → (p ≡ Some e → IsAmong es e) → option_or o p ≡ Some e → IsAmong es e
  or_among es None p e h k is = k is
  or_among es (Some x) p e h k is = h is

  -- one of those that lack something, or else the last
  pub first_among : (f g : X → Bool) (es : List (SocketAddr × X)) (e : SocketAddr × X) → option_or (last_of f es) (option_or (last_of g es) (last_entry es)) ≡ Some e → IsAmong es e
  first_among f g es e h = or_among es (last_of f es) _ e (last_among f es e) (or_among es (last_of g es) (last_entry es) e (last_among g es e) (at_among es (length es - 1) e)) h

  -- ---- it is found by its address, and no other peer is

  differs : (es : List (SocketAddr × X)) (q : SocketAddr) (e : SocketAddr × X) → AllByRecursion (λ y. same_peer q y ≡ false) (keys_of es) → IsAmong es e → same_peer q e.0 ≡ false
  differs [] q e h a = absurd a
  differs (x ∷ es) q e h (inl same) = subst (λ (y : SocketAddr × X). same_peer q y.0 ≡ false) same h.0
  differs (x ∷ es) q e h (inr more) = differs es q e h.1 more

  pub found_among : (es : List (SocketAddr × X)) (e : SocketAddr × X) → IsDistinct same_peer (keys_of es) → IsAmong es e → lookup_entry (same_peer e.0) es ≡ Some e
  unfolding IsDistinct
  found_among [] e d a = absurd a
  found_among (x ∷ es) e d (inl same) = subst (λ (y : SocketAddr × X). lookup_entry (same_peer y.0) (x ∷ es) ≡ Some y) same (rw (laws-law.refl x.0) refl)
  found_among (x ∷ es) e d (inr more) = rw (laws-law.symm e.0 x.0 ∙ differs es x.0 e d.0 more) (found_among es e d.1 more)

  -- it isn't the new one
  pub is_other : (es : List (SocketAddr × X)) (peer : SocketAddr) (e : SocketAddr × X) → of_peer peer es ≡ None → IsAmong es e → same_peer e.0 peer ≡ false
  is_other [] peer e h a = absurd a
  is_other (x ∷ es) peer e h a = (elim (same_peer peer x.0) as (λ b. same_peer peer x.0 ≡ b → cond b (Some x.1) (of_peer peer es) ≡ None → same_peer e.0 peer ≡ false) [
    | true ↦ λ t g. cc
    | false ↦ λ t g. elim a [
      | inl same ↦ laws-law.symm e.0 peer ∙ subst (λ (y : SocketAddr × X). same_peer peer y.0 ≡ false) same t
      | inr more ↦ is_other es peer e g more
    ]
  ]) refl h

  -- ---- the others

  pub one_less : (test : SocketAddr → Bool) (es : List (SocketAddr × X)) (e : SocketAddr × X) → lookup_entry test es ≡ Some e → suc (length (remove_entry test es)) ≡ length es
  one_less test [] e h = cc
  one_less test (x ∷ es) e h = (elim (test x.0) as (λ b. cond b (Some x) (lookup_entry test es) ≡ Some e → suc (length (cond b es (x ∷ remove_entry test es))) ≡ suc (length es)) [
    | true ↦ λ g. refl
    | false ↦ λ g. ap suc (one_less test es e g)
  ]) h

  all_apart : (q : SocketAddr) (es : List (SocketAddr × X)) → AllByRecursion (λ y. same_peer q y ≡ false) (keys_of es) → filter (λ e. not (same_peer q e.0)) es ≡ es
  all_apart q [] h = refl
  all_apart q (x ∷ es) h = rw h.0 (ap (λ l. x ∷ l) (all_apart q es h.1))

  same_apart : (q k : SocketAddr) (es : List (SocketAddr × X)) → same_peer q k ≡ true → AllByRecursion (λ y. same_peer k y ≡ false) (keys_of es) → AllByRecursion (λ y. same_peer q y ≡ false) (keys_of es)
  same_apart q k [] t h = tt
  same_apart q k (x ∷ es) t h = (laws-law.congr q k x.0 t ∙ h.0, same_apart q k es t h.1)

  -- taken out, it is none of the others
  one_out : (q : SocketAddr) (es : List (SocketAddr × X)) → IsDistinct same_peer (keys_of es) → remove_entry (same_peer q) es ≡ filter (λ e. not (same_peer q e.0)) es
  unfolding IsDistinct
  one_out q [] d = refl
  one_out q (x ∷ es) d = (elim (same_peer q x.0) as (λ b. same_peer q x.0 ≡ b → cond b es (x ∷ remove_entry (same_peer q) es) ≡ cond (not b) (x ∷ filter (λ e. not (same_peer q e.0)) es) (filter (λ e. not (same_peer q e.0)) es)) [
    | true ↦ λ t. sym (all_apart q es (same_apart q x.0 es t d.0))
    | false ↦ λ t. ap (λ l. x ∷ l) (one_out q es d.1)
  ]) refl

  -- a new one goes first, as there is room
  pub put_first : (es : List (SocketAddr × X)) (most : ℕ) (peer : SocketAddr) (x : X) → lookup_entry (same_peer peer) es ≡ None → length es < most → put_entries same_peer (lru_cache es most) peer x ≡ (peer, x) ∷ es
  put_first es most peer x none room = by (lookup_entry (same_peer peer) es) none
    where
      by : (o : Option (SocketAddr × X)) → o ≡ None → option_map_or (λ e. (e.0, x) ∷ remove_entry (same_peer peer) es) o ((peer, x) ∷ take (most - 1) es) ≡ (peer, x) ∷ es
      by o e = rw e (ap (λ l. (peer, x) ∷ l) (take_all (most - 1) es (omega (arith, room))))

  pub no_entry : (peer : SocketAddr) (es : List (SocketAddr × X)) → of_peer peer es ≡ None → lookup_entry (same_peer peer) es ≡ None
  no_entry peer [] h = refl
  no_entry peer (x ∷ es) h = (elim (same_peer peer x.0) as (λ b. cond b (Some x.1) (of_peer peer es) ≡ None → cond b (Some x) (lookup_entry (same_peer peer) es) ≡ None) [
    | true ↦ λ g. cc
    | false ↦ λ g. no_entry peer es g
  ]) h

  -- and then one goes
  pub record GoesBehind (es : List (SocketAddr × X)) (most : ℕ) (peer : SocketAddr) (x : X) (e : SocketAddr × X) : Type 0 where
    pub entry : lookup_entry (same_peer e.0) ((peer, x) ∷ es) ≡ Some e
    pub there : lookup_entry (same_peer e.0) es ≡ Some e
    pub others : take most (remove_entry (same_peer e.0) ((peer, x) ∷ es)) ≡ (peer, x) ∷ without (Some e.0) es

  pub goes_behind : (es : List (SocketAddr × X)) (most : ℕ) (peer : SocketAddr) (x : X) (e : SocketAddr × X) → IsDistinct same_peer (keys_of es) → of_peer peer es ≡ None → IsAmong es e → length es ≤ most → GoesBehind es most peer x e
  goes_behind es most peer x e d none a fits =
      let there = found_among es e d a in
      let other = is_other es peer e none a in
      let less = one_less (same_peer e.0) es e there in record {
        entry = rw other there;
        there = there;
        others = rw other (take_all most ((peer, x) ∷ remove_entry (same_peer e.0) es) (omega (arith, less, fits))) ∙ ap (λ l. (peer, x) ∷ l) (one_out e.0 es d);
      }

  -- ---- who goes

  abbrev pub gone_by : (X → Bool) → (X → Bool) → ℕ → List (SocketAddr × X) → Option (SocketAddr × X)
  gone_by f g most es = cond (ltb (length es) most) None (option_or (last_of f es) (option_or (last_of g es) (last_entry es)))

  pub record Going (f g : X → Bool) (most : ℕ) (es : List (SocketAddr × X)) (q : SocketAddr) : Type 0 where
    pub entry : SocketAddr × X
    pub is : gone_by f g most es ≡ Some entry
    pub at : entry.0 ≡ q
    pub among : IsAmong es entry
    pub full : most ≤ length es

  pub going : (f g : X → Bool) (most : ℕ) (es : List (SocketAddr × X)) (q : SocketAddr) → Some q ≡ address_of (gone_by f g most es) → Going f g most es q
  going f g most es q h = by_room (ltb (length es) most) refl (option_or (last_of f es) (option_or (last_of g es) (last_entry es))) refl h
    where
      by_room : (b : Bool) → ltb (length es) most ≡ b → (o : Option (SocketAddr × X)) → option_or (last_of f es) (option_or (last_of g es) (last_entry es)) ≡ o → Some q ≡ address_of (cond b None o) → Going f g most es q
      by_room true room o is k = cc
      by_room false room None is k = cc
      by_room false room (Some e) is k = record {
        entry = e;
        is = rw (room, is) refl;
        at = cc;
        among = first_among f g es e is;
        full = ltb-false (length es) most room;
      }

  get_some : (es : List (SocketAddr × X)) (n : ℕ) → n < length es → (e : SocketAddr × X) × (slice_get es n ≡ Some e)
  get_some [] n h = absurd (omega (arith, h))
  get_some (x ∷ es) zero h = (x, refl)
  get_some (x ∷ es) (suc n) h = get_some es n (omega (arith, h))

  none_of_three : (o p q : Option (SocketAddr × X)) (e : SocketAddr × X) → q ≡ Some e → address_of (option_or o (option_or p q)) ≡ None → ⊥
  none_of_three None None None e is k = cc
  none_of_three None None (Some x) e is k = cc
  none_of_three None (Some x) q e is k = cc
  none_of_three (Some x) p q e is k = cc

  pub record NoneGoes (f g : X → Bool) (most : ℕ) (es : List (SocketAddr × X)) : Type 0 where
    pub is : gone_by f g most es ≡ None
    pub room : length es < most

  pub none_goes : (f g : X → Bool) (most : ℕ) (es : List (SocketAddr × X)) → 0 < most → None ≡ address_of (gone_by f g most es) → NoneGoes f g most es
  none_goes f g most es some h = by_room (ltb (length es) most) refl h
    where
      by_room : (b : Bool) → ltb (length es) most ≡ b → None ≡ address_of (cond b None (option_or (last_of f es) (option_or (last_of g es) (last_entry es)))) → NoneGoes f g most es
      by_room true room k = record { is = rw room refl; room = ltb-true (length es) most room }
      by_room false room k =
          let full : most ≤ length es = ltb-false (length es) most room in
          let last = get_some es (length es - 1) (omega (arith, some, full)) in
          absurd (none_of_three (last_of f es) (last_of g es) (last_entry es) last.0 last.1 (sym k))

  -- ---- room for one more

  pub record IsWide (es : List (SocketAddr × X)) (n : ℕ) : Type 0 where
    pub same : take n es ≡ es
    pub room : length es < n

  pub is_wide : (es : List (SocketAddr × X)) (most n k : ℕ) → n ≡ min (k + 1) (2 ^ 64 - 1) → k ≡ most → length es ≤ most → most ≤ length es → length es < 2 ^ 63 → IsWide es n
  is_wide es most n k is same fits full short =
      let wide : n ≡ suc most = omega (arith, is, same, fits, full, short) in
      record { same = take_all n es (omega (arith, wide, fits)); room = omega (arith, wide, fits) }

  no_key : (peer : SocketAddr) (es : List (SocketAddr × X)) → of_peer peer es ≡ None → lookup_key (same_peer peer) es ≡ None
  no_key peer [] h = refl
  no_key peer (x ∷ es) h = (elim (same_peer peer x.0) as (λ b. cond b (Some x.1) (of_peer peer es) ≡ None → cond b (Some x.0) (lookup_key (same_peer peer) es) ≡ None) [
    | true ↦ λ g. cc
    | false ↦ λ g. no_key peer es g
  ]) h

  pub first_new : (gone : Option SocketAddr) (peer : SocketAddr) (x : X) (es : List (SocketAddr × X)) → of_peer peer es ≡ None → with_first gone peer x es ≡ (peer, x) ∷ without gone es
  first_new gone peer x es h = by (lookup_key (same_peer peer) es) (no_key peer es h) (of_peer peer es) h
    where
      by : (o : Option SocketAddr) → o ≡ None → (p : Option X) → p ≡ None → (unwrap_or o peer, x) ∷ cond (is_some p) (remove_entry (same_peer peer) es) (without gone es) ≡ (peer, x) ∷ without gone es
      by o e p f = rw (e, f) refl

  -- one that went, as it was found behind the new one
  pub record HasGone (es left : List (SocketAddr × X)) (peer : SocketAddr) (x : X) (e : SocketAddr × X) (gone : Option (SocketAddr × X)) : Type 0 where
    pub is : gone ≡ Some e
    pub was_kept : gone ≡ entry_of (address_of gone) es
    pub others : left ≡ with_first (address_of gone) peer x es

  pub has_gone : (es begun rest left : List (SocketAddr × X)) (most n : ℕ) (peer q : SocketAddr) (x : X) (e : SocketAddr × X) (gone : Option (SocketAddr × X)) → GoesBehind es most peer x e → of_peer peer es ≡ None → e.0 ≡ q → begun ≡ es → n ≡ most
      → gone ≡ lookup_entry (same_peer q) ((peer, x) ∷ begun) → rest ≡ remove_entry (same_peer q) ((peer, x) ∷ begun) → left ≡ take n rest → HasGone es left peer x e gone
  has_gone es begun rest left most n peer q x e gone behind none at same room is others left_is =
      let found : gone ≡ Some e = is ∙ ap (λ (l : List (SocketAddr × X)). lookup_entry (same_peer q) ((peer, x) ∷ l)) same ∙ ap (λ (a : SocketAddr). lookup_entry (same_peer a) ((peer, x) ∷ es)) (sym at) ∙ behind.entry in
      let rests : rest ≡ remove_entry (same_peer e.0) ((peer, x) ∷ es) = others ∙ ap (λ (l : List (SocketAddr × X)). remove_entry (same_peer q) ((peer, x) ∷ l)) same ∙ ap (λ (a : SocketAddr). remove_entry (same_peer a) ((peer, x) ∷ es)) (sym at) in
      let all : left ≡ (peer, x) ∷ without (Some e.0) es = left_is ∙ ap (λ (m : ℕ). take m rest) room ∙ ap (take most) rests ∙ behind.others in
      record {
        is = found;
        was_kept = subst (λ (o : Option (SocketAddr × X)). o ≡ entry_of (address_of o) es) (sym found) (sym behind.there);
        others = subst (λ (o : Option (SocketAddr × X)). left ≡ with_first (address_of o) peer x es) (sym found) (all ∙ sym (first_new (Some e.0) peer x es none));
      }
