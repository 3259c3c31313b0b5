-- Entries of a table that are looked up, and that go first.
use Rattle.std.proofs.Common.{◌≡◌, ◌-◌, Bool, true, false, cond, List, [], ◌∷◌, ◌++◌, take, length, is_some, option_map, Option, Some, None, refl, sym, ap, ◌∙◌, subst, arith}
use Rattle.std.specs.Prelude.{unwrap_or}
use Rattle.std.specs.List.{AllByRecursion, IsDistinct}
use Rattle.std.specs.Option.{option_map_or}
use Rattle.std.specs.Map.{keys_of, lookup, lookup_entry, lookup_key, remove_entry, set_value}
use Rattle.std.specs.declared.net.socket_addr.SocketAddr.{SocketAddr}
use Rattle.std.specs.contracts.net.socket_addr.SocketAddrEq.TheImpl.Laws.{laws-law}
use Rattle.lru.specs.LruCache.{promoted, last_entry}
use Rattle.lru.proofs.Pairs.{cut_end, last_of_push, lookup-lookup_entry}
use Rattle.lru.proofs.Splits.{distinct_differs}
use Rattle.recording_peers.specs.Table.{same_peer, of_peer, others_for, with_first, without}

module _ {K V : Type 0} (test : K → Bool) where
  -- an entry is found, under a key that passes
  pub record IsFound (es : List (K × V)) (k : K) (v : V) : Type 0 where
    pub passes : test k ≡ true
    pub entry : lookup_entry test es ≡ Some (k, v)
    pub key : lookup_key test es ≡ Some k

  pub found : (es : List (K × V)) (v : V) → lookup test es ≡ Some v → (k : K) × IsFound es k v
  found [] v h = cc
  found (e ∷ es) v h = (elim (test e.0) as (λ b. test e.0 ≡ b → (k : K) × IsFound (e ∷ es) k v) [
    | true ↦ λ t. let h' = rw t at h in let same : e.1 ≡ v = cc in (e.0, record { passes = t; entry = rw t (ap (λ w. Some (e.0, w)) same); key = rw t })
    | false ↦ λ t. let on = found es v (rw t at h) in (on.0, record { passes = on.1.passes; entry = rw t on.1.entry; key = rw t on.1.key })
  ]) refl

  pub record IsAbsent (es : List (K × V)) : Type 0 where
    pub entry : lookup_entry test es ≡ None
    pub key : lookup_key test es ≡ None

  pub absent : (es : List (K × V)) → lookup test es ≡ None → IsAbsent es
  absent [] h = record { entry = refl; key = refl }
  absent (e ∷ es) h = (elim (test e.0) as (λ b. test e.0 ≡ b → IsAbsent (e ∷ es)) [
    | true ↦ λ t. let h' = rw t at h in cc
    | false ↦ λ t. let on = absent es (rw t at h) in record { entry = rw t on.entry; key = rw t on.key }
  ]) refl

  -- written at its key, it goes first
  pub set_first : (es : List (K × V)) (k : K) (v w : V) → IsFound es k v → set_value test (promoted test es) w ≡ (k, w) ∷ remove_entry test es
  set_first es k v w f = by (lookup_entry test es) f.entry
    where
      by : (o : Option (K × V)) → o ≡ Some (k, v) → set_value test (option_map_or (λ e. e ∷ remove_entry test es) o es) w ≡ (k, w) ∷ remove_entry test es
      by o h = rw (h, f.passes)

-- ---- a peer

module _ {X : Type 0} (peer : SocketAddr) where
  choose : (b : Bool) (x y : List (SocketAddr × X)) → b ≡ true → cond b x y ≡ x
  choose b x y h = rw h

  otherwise : (b : Bool) (x y : List (SocketAddr × X)) → b ≡ false → cond b x y ≡ y
  otherwise b x y h = rw h

  pub others_known : (gone : Option SocketAddr) (es : List (SocketAddr × X)) (v : X) → of_peer peer es ≡ Some v → others_for gone peer es ≡ remove_entry (same_peer peer) es
  others_known went es v h = choose (is_some (of_peer peer es)) _ _ (ap is_some h)

  pub others_new : (gone : Option SocketAddr) (es : List (SocketAddr × X)) → of_peer peer es ≡ None → others_for gone peer es ≡ without gone es
  others_new went es h = otherwise (is_some (of_peer peer es)) _ _ (ap is_some h)

  -- what is written at a peer's key, which goes first
  pub written : (gone : Option SocketAddr) (es : List (SocketAddr × X)) (v w : X) → of_peer peer es ≡ Some v → set_value (same_peer peer) (promoted (same_peer peer) es) w ≡ with_first gone peer w es
  written gone es v w h =
      let at = found (same_peer peer) es v h in
      set_first (same_peer peer) es at.0 v w at.1 ∙ (λ i. (unwrap_or (sym at.1.key i) peer, w) ∷ sym (others_known gone es v h) i)

  -- and taken out then
  pub taken_out : (gone : Option SocketAddr) (es : List (SocketAddr × X)) (v w : X) → of_peer peer es ≡ Some v → remove_entry (same_peer peer) (set_value (same_peer peer) (promoted (same_peer peer) es) w) ≡ others_for gone peer es
  taken_out gone es v w h =
      let at = found (same_peer peer) es v h in
      ap (remove_entry (same_peer peer)) (set_first (same_peer peer) es at.0 v w at.1) ∙ out at.0 at.1.passes ∙ sym (others_known gone es v h)
    where
      out : (k : SocketAddr) → same_peer peer k ≡ true → remove_entry (same_peer peer) ((k, w) ∷ remove_entry (same_peer peer) es) ≡ remove_entry (same_peer peer) es
      out k t = rw t

  pub value_out : (es : List (SocketAddr × X)) (v w : X) → of_peer peer es ≡ Some v → lookup (same_peer peer) (set_value (same_peer peer) (promoted (same_peer peer) es) w) ≡ Some w
  value_out es v w h =
      let at = found (same_peer peer) es v h in
      ap (lookup (same_peer peer)) (set_first (same_peer peer) es at.0 v w at.1) ∙ out at.0 at.1.passes
    where
      out : (k : SocketAddr) → same_peer peer k ≡ true → lookup (same_peer peer) ((k, w) ∷ remove_entry (same_peer peer) es) ≡ Some w
      out k t = rw t

  -- a new one goes first
  pub with_new : (gone : Option SocketAddr) (es : List (SocketAddr × X)) (w : X) → of_peer peer es ≡ None → with_first gone peer w es ≡ (peer, w) ∷ without gone es
  with_new gone es w h = λ i. (unwrap_or ((absent (same_peer peer) es h).key i) peer, w) ∷ others_new gone es h i

  -- one that has just begun is there
  pub begun : (gone : Option SocketAddr) (es : List (SocketAddr × X)) (v : X) → of_peer peer es ≡ None → of_peer peer (with_first gone peer v es) ≡ Some v
  begun gone es v h = ap (of_peer peer) (with_new gone es v h) ∙ there (without gone es)
    where
      there : (xs : List (SocketAddr × X)) → of_peer peer ((peer, v) ∷ xs) ≡ Some v
      there xs = rw (laws-law.refl peer)

  -- what is written there then is as if it had begun so
  pub begun_others : (gone : Option SocketAddr) (es : List (SocketAddr × X)) (v : X) → of_peer peer es ≡ None → others_for None peer (with_first gone peer v es) ≡ others_for gone peer es
  begun_others gone es v h =
      others_known None (with_first gone peer v es) v (begun gone es v h) ∙ ap (remove_entry (same_peer peer)) (with_new gone es v h) ∙ out (without gone es) ∙ sym (others_new gone es h)
    where
      out : (xs : List (SocketAddr × X)) → remove_entry (same_peer peer) ((peer, v) ∷ xs) ≡ xs
      out xs = rw (laws-law.refl peer)

  pub begun_first : (gone : Option SocketAddr) (es : List (SocketAddr × X)) (v w : X) → of_peer peer es ≡ None → with_first None peer w (with_first gone peer v es) ≡ with_first gone peer w es
  begun_first gone es v w h =
      (λ i. (unwrap_or (lookup_key (same_peer peer) (with_new gone es v h i)) peer, w) ∷ begun_others gone es v h i)
      ∙ ap (λ k. (k, w) ∷ others_for gone peer es) (there (without gone es))
      ∙ ap (λ l. (peer, w) ∷ l) (others_new gone es h)
      ∙ sym (with_new gone es w h)
    where
      there : (xs : List (SocketAddr × X)) → unwrap_or (lookup_key (same_peer peer) ((peer, v) ∷ xs)) peer ≡ peer
      there xs = rw (laws-law.refl peer)

-- ---- the last one

module _ {X : Type 0} where
  -- it is found by its key, and the others are those before it
  pub record IsLast (es : List (SocketAddr × X)) (e : SocketAddr × X) : Type 0 where
    pub found_it : IsFound (same_peer e.0) es e.0 e.1
    pub before : remove_entry (same_peer e.0) es ≡ take (length es - 1) es

  pub record IsBehind (xs : List (SocketAddr × X)) (e : SocketAddr × X) : Type 0 where
    pub found_it : IsFound (same_peer e.0) (xs ++ e ∷ []) e.0 e.1
    pub before : remove_entry (same_peer e.0) (xs ++ e ∷ []) ≡ xs

  behind : (xs : List (SocketAddr × X)) (e : SocketAddr × X) → AllByRecursion (λ x. same_peer e.0 x.0 ≡ false) (xs ++ []) → IsBehind xs e
  behind [] e h = let r = laws-law.refl e.0 in record { found_it = record { passes = r; entry = rw r; key = rw r }; before = rw r }
  behind (x ∷ xs) e h = let on = behind xs e h.1 in record {
    found_it = record { passes = laws-law.refl e.0; entry = rw h.0 on.found_it.entry; key = rw h.0 on.found_it.key };
    before = rw h.0 (ap (λ l. x ∷ l) on.before);
  }

  is_last : (es xs : List (SocketAddr × X)) (e f : SocketAddr × X) → es ≡ xs ++ f ∷ [] → IsDistinct same_peer (keys_of es) → last_entry es ≡ Some e → IsLast es e
  is_last es xs e f cut d last =
      let end = last_of_push xs f in
      let here : last_entry (xs ++ f ∷ []) ≡ Some e = subst (λ l. last_entry l ≡ Some e) cut last in
      let same : f ≡ e = cc (end.0, here) in
      let apart = distinct_differs (λ (x : SocketAddr × X). x.0) same_peer laws-law.symm xs f [] (subst (λ l. IsDistinct same_peer (keys_of l)) cut d) in
      let on = behind xs f apart in
      subst (λ l. IsLast l e) (sym cut) (subst (λ g. IsLast (xs ++ f ∷ []) g) same (record { found_it = on.found_it; before = on.before ∙ sym end.1 }))

  pub last_is : (es : List (SocketAddr × X)) (e : SocketAddr × X) → IsDistinct same_peer (keys_of es) → last_entry es ≡ Some e → IsLast es e
  last_is [] e d last = cc
  last_is (x ∷ es) e d last = let cut = cut_end (x ∷ es) (omega arith) in is_last (x ∷ es) cut.0 e cut.1 cut.2 d last

  -- written at its key, it goes first
  pub last_first : (es : List (SocketAddr × X)) (e : SocketAddr × X) (w : X) → IsLast es e → set_value (same_peer e.0) (promoted (same_peer e.0) es) w ≡ (e.0, w) ∷ take (length es - 1) es
  last_first es e w l = set_first (same_peer e.0) es e.0 e.1 w l.found_it ∙ ap (λ r. (e.0, w) ∷ r) l.before

  -- and taken out then
  pub last_out : (es : List (SocketAddr × X)) (e : SocketAddr × X) (w : X) → IsLast es e → remove_entry (same_peer e.0) (set_value (same_peer e.0) (promoted (same_peer e.0) es) w) ≡ take (length es - 1) es
  last_out es e w l = ap (remove_entry (same_peer e.0)) (last_first es e w l) ∙ out (take (length es - 1) es)
    where
      out : (xs : List (SocketAddr × X)) → remove_entry (same_peer e.0) ((e.0, w) ∷ xs) ≡ xs
      out xs = rw (laws-law.refl e.0)

  pub last_there : (es : List (SocketAddr × X)) (e : SocketAddr × X) → IsLast es e → of_peer e.0 es ≡ Some e.1
  last_there es e l = sym (lookup-lookup_entry (same_peer e.0) es) ∙ ap (option_map (λ (f : SocketAddr × X). f.1)) l.found_it.entry
