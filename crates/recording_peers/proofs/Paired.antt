-- Two tables of the same peers in the same order, whose values are related.
use Rattle.std.proofs.Common.{◌≡◌, ℕ, zero, suc, Bool, true, false, cond, List, [], ◌∷◌, take, length, slice_get, is_some, Option, Some, None, refl, ap, subst, arith}
use Rattle.std.specs.Prelude.{filter, not, unwrap_or}
use Rattle.std.specs.Map.{lookup, lookup_entry, lookup_key, remove_entry}
use Rattle.std.specs.declared.net.socket_addr.SocketAddr.{SocketAddr}
use Rattle.recording_peers.specs.Table.{Beside, Paired, Both, entry_of, same_peer, of_peer, others_for, with_first, without}

module _ {K V W : Type 0} (R : V → W → Type 0) where
  -- at the same index
  pub paired_get : (es : List (K × V)) (cs : List (K × W)) (n : ℕ) → Paired R es cs → Both (Beside R) (slice_get es n) (slice_get cs n)
  paired_get [] [] n p = tt
  paired_get [] (c ∷ cs) n p = absurd p
  paired_get (e ∷ es) [] n p = absurd p
  paired_get (e ∷ es) (c ∷ cs) zero p = p.0
  paired_get (e ∷ es) (c ∷ cs) (suc n) p = paired_get es cs n p.1

  pub paired_take : (es : List (K × V)) (cs : List (K × W)) (n : ℕ) → Paired R es cs → Paired R (take n es) (take n cs)
  paired_take es cs zero p = tt
  paired_take [] [] (suc n) p = tt
  paired_take [] (c ∷ cs) (suc n) p = absurd p
  paired_take (e ∷ es) [] (suc n) p = absurd p
  paired_take (e ∷ es) (c ∷ cs) (suc n) p = (p.0, paired_take es cs n p.1)

  pub paired_length : (es : List (K × V)) (cs : List (K × W)) → Paired R es cs → length es ≡ length cs
  paired_length [] [] p = refl
  paired_length [] (c ∷ cs) p = absurd p
  paired_length (e ∷ es) [] p = absurd p
  paired_length (e ∷ es) (c ∷ cs) p = let same = paired_length es cs p.1 in omega arith

  module _ (test : K → Bool) where
    by_test : (P : Bool → Bool → Type 0) (x y : K) → x ≡ y → ((b : Bool) → P b b) → P (test x) (test y)
    by_test P x y e h = subst (λ z. P (test x) (test z)) e (h (test x))

    pub paired_lookup : (es : List (K × V)) (cs : List (K × W)) → Paired R es cs → Both R (lookup test es) (lookup test cs)
    paired_lookup [] [] p = tt
    paired_lookup [] (c ∷ cs) p = absurd p
    paired_lookup (e ∷ es) [] p = absurd p
    paired_lookup (e ∷ es) (c ∷ cs) p = by_test (λ a b. Both R (cond a (Some e.1) (lookup test es)) (cond b (Some c.1) (lookup test cs))) e.0 c.0 p.0.0
        (λ b. elim b as (λ b. Both R (cond b (Some e.1) (lookup test es)) (cond b (Some c.1) (lookup test cs))) [ true ↦ p.0.1 | false ↦ paired_lookup es cs p.1 ])

    pub paired_key : (es : List (K × V)) (cs : List (K × W)) → Paired R es cs → lookup_key test es ≡ lookup_key test cs
    paired_key [] [] p = refl
    paired_key [] (c ∷ cs) p = absurd p
    paired_key (e ∷ es) [] p = absurd p
    paired_key (e ∷ es) (c ∷ cs) p = λ i. cond (test (p.0.0 i)) (Some (p.0.0 i)) (paired_key es cs p.1 i)

    pub paired_remove : (es : List (K × V)) (cs : List (K × W)) → Paired R es cs → Paired R (remove_entry test es) (remove_entry test cs)
    paired_remove [] [] p = tt
    paired_remove [] (c ∷ cs) p = absurd p
    paired_remove (e ∷ es) [] p = absurd p
    paired_remove (e ∷ es) (c ∷ cs) p = by_test (λ a b. Paired R (cond a es (e ∷ remove_entry test es)) (cond b cs (c ∷ remove_entry test cs))) e.0 c.0 p.0.0
        (λ b. elim b as (λ b. Paired R (cond b es (e ∷ remove_entry test es)) (cond b cs (c ∷ remove_entry test cs))) [ true ↦ p.1 | false ↦ (p.0, paired_remove es cs p.1) ])

    pub paired_entry : (es : List (K × V)) (cs : List (K × W)) → Paired R es cs → Both (Beside R) (lookup_entry test es) (lookup_entry test cs)
    paired_entry [] [] p = tt
    paired_entry [] (c ∷ cs) p = absurd p
    paired_entry (e ∷ es) [] p = absurd p
    paired_entry (e ∷ es) (c ∷ cs) p = by_test (λ a b. Both (Beside R) (cond a (Some e) (lookup_entry test es)) (cond b (Some c) (lookup_entry test cs))) e.0 c.0 p.0.0
        (λ b. elim b as (λ b. Both (Beside R) (cond b (Some e) (lookup_entry test es)) (cond b (Some c) (lookup_entry test cs))) [ true ↦ p.0 | false ↦ paired_entry es cs p.1 ])

    pub paired_filter : (es : List (K × V)) (cs : List (K × W)) → Paired R es cs → Paired R (filter (λ e. not (test e.0)) es) (filter (λ c. not (test c.0)) cs)
    paired_filter [] [] p = tt
    paired_filter [] (c ∷ cs) p = absurd p
    paired_filter (e ∷ es) [] p = absurd p
    paired_filter (e ∷ es) (c ∷ cs) p =
        let rest = filter (λ (x : K × V). not (test x.0)) es in
        let others = filter (λ (x : K × W). not (test x.0)) cs in
        by_test (λ a b. Paired R (cond (not a) (e ∷ rest) rest) (cond (not b) (c ∷ others) others)) e.0 c.0 p.0.0
        (λ b. elim b as (λ b. Paired R (cond (not b) (e ∷ rest) rest) (cond (not b) (c ∷ others) others)) [ true ↦ paired_filter es cs p.1 | false ↦ (p.0, paired_filter es cs p.1) ])

module _ {V W : Type 0} (R : V → W → Type 0) (gone : Option SocketAddr) where
  -- the one that goes, and the others
  pub paired_gone : (es : List (SocketAddr × V)) (cs : List (SocketAddr × W)) → Paired R es cs → Both (Beside R) (entry_of gone es) (entry_of gone cs)
  paired_gone es cs p = by gone
    where
      by : (o : Option SocketAddr) → Both (Beside R) (entry_of o es) (entry_of o cs)
      by None = tt
      by (Some peer) = paired_entry R (same_peer peer) es cs p

  pub paired_without : (es : List (SocketAddr × V)) (cs : List (SocketAddr × W)) → Paired R es cs → Paired R (without gone es) (without gone cs)
  paired_without es cs p = by gone
    where
      by : (o : Option SocketAddr) → Paired R (without o es) (without o cs)
      by None = p
      by (Some peer) = paired_filter R (same_peer peer) es cs p

module _ {V W : Type 0} (R : V → W → Type 0) (gone : Option SocketAddr) (peer : SocketAddr) where
  others_by : (o : Option V) (q : Option W) (es : List (SocketAddr × V)) (cs : List (SocketAddr × W)) → Both R o q → Paired R es cs
      → Paired R (cond (is_some o) (remove_entry (same_peer peer) es) (without gone es)) (cond (is_some q) (remove_entry (same_peer peer) cs) (without gone cs))
  others_by None None es cs b p = paired_without R gone es cs p
  others_by None (Some w) es cs b p = absurd b
  others_by (Some v) None es cs b p = absurd b
  others_by (Some v) (Some w) es cs b p = paired_remove R (same_peer peer) es cs p

  pub paired_others : (es : List (SocketAddr × V)) (cs : List (SocketAddr × W)) → Paired R es cs → Paired R (others_for gone peer es) (others_for gone peer cs)
  paired_others es cs p = others_by (of_peer peer es) (of_peer peer cs) es cs (paired_lookup R (same_peer peer) es cs p) p

  pub paired_first : (es : List (SocketAddr × V)) (cs : List (SocketAddr × W)) (v : V) (w : W) → Paired R es cs → R v w → Paired R (with_first gone peer v es) (with_first gone peer w cs)
  paired_first es cs v w p r = ((ap (λ o. unwrap_or o peer) (paired_key R (same_peer peer) es cs p), r), paired_others es cs p)
