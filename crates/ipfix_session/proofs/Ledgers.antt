-- The sums of a ledger, message by message, from the sequence number that is due.
use Rattle.std.proofs.Common.{◌≡◌, ℕ, ◌+◌, ◌^◌, ◌%◌, ◌<◌, true, false, cond, eqb, List, [], ◌∷◌, ◌++◌, length, Option, Some, None, refl, arith}
use Rattle.std.specs.Prelude.{◌-◌}
use Rattle.std.proofs.lemmas.List.Elements.{filter-append}
use Rattle.ipfix_wire.specs.declared.header.Header.{Header}
use Rattle.ipfix_message.specs.declared.record.DataRecord.{DataRecord}
use Rattle.ipfix_message.specs.declared.passed_over.PassedOver.{PassedOver}
use Rattle.ipfix_message.specs.Alike.{SameMessage}
use Rattle.ipfix_message.specs.Domains.{Message}
use Rattle.ipfix_session.specs.Ledger.{due_after, gap, lost_at, backward_at, lost_between, backward_between, sum_neighbours, due_of, messages_of}

-- ---- sums from what is due

-- a sum over neighbours, from the sequence number that is due
pub record Adds (f : Message → Message → ℕ) (g : Option ℕ → ℕ → ℕ) : Type 0 where
  pub none : (n : ℕ) → g None n ≡ 0
  pub due : (q : ℕ) → q < 2 ^ 32 → g (Some q) q ≡ 0
  pub is : (m n : Message) → f m n ≡ g (due_after m) n.header.sequence

gap_same : (x : ℕ) → x < 2 ^ 32 → gap x x ≡ 0
gap_same x small = let whole : x + (2 ^ 32 - x) ≡ 2 ^ 32 = omega (arith, small) in rw whole refl

pub lost_adds : Adds lost_between lost_at
lost_adds = record { none = λ n. refl; due = λ q small. rw (gap_same q small) refl; is = λ m n. refl }

pub backward_adds : Adds backward_between backward_at
backward_adds = record { none = λ n. refl; due = λ q small. rw (gap_same q small) refl; is = λ m n. refl }

-- the sum over messages, from what is due before the first
abbrev pub walk : (Option ℕ → ℕ → ℕ) → Option ℕ → List Message → ℕ
walk g o [] = 0
walk g o (x ∷ xs) = g o x.header.sequence + walk g (due_after x) xs

-- what is due after messages
abbrev pub due_behind : Option ℕ → List Message → Option ℕ
due_behind o [] = o
due_behind o (x ∷ xs) = due_behind (due_after x) xs

pub walk-append : (g : Option ℕ → ℕ → ℕ) (o : Option ℕ) (xs ys : List Message) → walk g o (xs ++ ys) ≡ walk g o xs + walk g (due_behind o xs) ys
walk-append g o [] ys = omega arith
walk-append g o (x ∷ xs) ys = omega (arith, walk-append g (due_after x) xs ys)

pub due_behind-append : (o : Option ℕ) (xs ys : List Message) → due_behind o (xs ++ ys) ≡ due_behind (due_behind o xs) ys
due_behind-append o [] ys = refl
due_behind-append o (x ∷ xs) ys = due_behind-append (due_after x) xs ys

pub behind_is : (xs : List Message) → due_behind None xs ≡ due_of xs
behind_is [] = refl
behind_is (x ∷ []) = refl
behind_is (x ∷ y ∷ ys) = behind_is (y ∷ ys)

module _ (f : Message → Message → ℕ) (g : Option ℕ → ℕ → ℕ) (adds : Adds f g) where
  neighbours : (x : Message) (xs : List Message) → sum_neighbours f (x ∷ xs) ≡ walk g (due_after x) xs
  neighbours x [] = refl
  neighbours x (y ∷ ys) = omega (arith, adds.is x y, neighbours y ys)

  pub sum-walk : (xs : List Message) → sum_neighbours f xs ≡ walk g None xs
  sum-walk [] = refl
  sum-walk (x ∷ xs) = omega (arith, adds.none x.header.sequence, neighbours x xs)

-- ---- the messages of a domain

pub own_one : (d : ℕ) (m : Message) (ms : List Message) → eqb m.header.domain d ≡ true → messages_of d (m ∷ ms) ≡ m ∷ messages_of d ms
own_one d m ms e = rw e refl

pub own_other : (d : ℕ) (m : Message) (ms : List Message) → eqb m.header.domain d ≡ false → messages_of d (m ∷ ms) ≡ messages_of d ms
own_other d m ms e = rw e refl

pub own-append : (d : ℕ) (xs ys : List Message) → messages_of d (xs ++ ys) ≡ messages_of d xs ++ messages_of d ys
own-append d xs ys = filter-append (λ (m : Message). eqb m.header.domain d) xs ys

-- ---- messages that gave the same

abbrev due_parts : Header → List DataRecord → PassedOver → Option ℕ
due_parts h rs p = cond (eqb p.unknown_sets 0) (Some ((h.sequence + length rs) % 2 ^ 32)) None

same_parts : (h k : Header) (rs qs : List DataRecord) (p r : PassedOver) → h ≡ k → rs ≡ qs → p ≡ r → due_parts h rs p ≡ due_parts k qs r
same_parts h k rs qs p r a b c = rw (a, b, c) refl

pub due_same : (x y : Message) → SameMessage x y → due_after x ≡ due_after y
due_same x y s = same_parts x.header y.header x.decoding.records y.decoding.records x.decoding.passed_over y.decoding.passed_over s.header s.decoding.records s.decoding.passed_over
