-- The ledger of a domain balances.
use Rattle.std.proofs.Common.{◌≡◌, ℕ, ◌+◌, ◌<◌, Bool, true, false, cond, eqb, ltb, Some, None, List, [], ◌∷◌, refl, ap, ◌∙◌, arith, subst}
use Rattle.std.specs.Prelude.{◌-◌, ◌%◌, ◌^◌, sum_by}
use Rattle.std.proofs.lemmas.List.Sums.{sum_by-cons}
use Rattle.ipfix_message.specs.Domains.{Message}
use Rattle.ipfix_session.specs.Ledger.{capped, count_in, sequence_behind, gap, lost_at, backward_at, lost_between, backward_between, sum_neighbours, messages_of}
use Rattle.ipfix_session.specs.Balances.{unaccounted_between, late_between, sequence_at_end, AdvanceBy, Balances, KeepsCount}

-- up to a number that is ahead of a sequence, modulo 2^32, are as many as the gap says
over_gap : (s k n : ℕ) → (s + k + gap ((s + k) % 2 ^ 32) n) % 2 ^ 32 ≡ n % 2 ^ 32
over_gap s k n = omega arith

abbrev step : Bool → ℕ
step b = cond b 0 1

-- a gap is lost, if it's no step backward
lost_is : (due n : ℕ) → backward_at (Some due) n ≡ 0 → lost_at (Some due) n ≡ gap due n
lost_is due n = by_test (ltb (gap due n) (2 ^ 31))
  where
    by_test : (b : Bool) → step b ≡ 0 → cond b (gap due n) 0 ≡ gap due n
    by_test true none = refl
    by_test false none = absurd (omega (arith, none))

-- between two neighbours the sequence number advances by the records, the lost ones and those that are unaccounted for
between : (m n : Message) → backward_between m n ≡ 0 → late_between m n ≡ 0 → (m.header.sequence + count_in m + lost_between m n + unaccounted_between m n) % 2 ^ 32 ≡ n.header.sequence % 2 ^ 32
between m n = by_test (eqb m.decoding.passed_over.unknown_sets 0)
  where
    ahead : (m.header.sequence + count_in m + gap (sequence_behind m) n.header.sequence) % 2 ^ 32 ≡ n.header.sequence % 2 ^ 32
    ahead = over_gap m.header.sequence (count_in m) n.header.sequence

    by_test : (b : Bool) → backward_at (cond b (Some (sequence_behind m)) None) n.header.sequence ≡ 0 → backward_at (cond b None (Some (sequence_behind m))) n.header.sequence ≡ 0
        → (m.header.sequence + count_in m + lost_at (cond b (Some (sequence_behind m)) None) n.header.sequence + lost_at (cond b None (Some (sequence_behind m))) n.header.sequence) % 2 ^ 32 ≡ n.header.sequence % 2 ^ 32
    by_test true none late =
        ap (λ k. (m.header.sequence + count_in m + k + 0) % 2 ^ 32) (lost_is (sequence_behind m) n.header.sequence none) ∙ subst (λ k. k % 2 ^ 32 ≡ n.header.sequence % 2 ^ 32) (omega arith) ahead
    by_test false none late =
        ap (λ k. (m.header.sequence + count_in m + 0 + k) % 2 ^ 32) (lost_is (sequence_behind m) n.header.sequence late) ∙ subst (λ k. k % 2 ^ 32 ≡ n.header.sequence % 2 ^ 32) (omega arith) ahead

-- two ways one after another
both_ways : (s c l u n cs ls us end : ℕ) → (s + c + l + u) % 2 ^ 32 ≡ n % 2 ^ 32 → (n + cs + ls + us) % 2 ^ 32 ≡ end → (s + (c + cs) + (l + ls) + (u + us)) % 2 ^ 32 ≡ end
both_ways s c l u n cs ls us end first next = omega (arith, first, next)

advances : (m : Message) (ms : List Message) → sum_neighbours backward_between (m ∷ ms) ≡ 0 → sum_neighbours late_between (m ∷ ms) ≡ 0
    → (m.header.sequence + sum_by count_in (m ∷ ms) + sum_neighbours lost_between (m ∷ ms) + sum_neighbours unaccounted_between (m ∷ ms)) % 2 ^ 32 ≡ sequence_at_end m ms
advances m [] none late = ap (λ k. k % 2 ^ 32) (omega arith)
advances m (n ∷ ms) none late =
    ap (λ (c : ℕ). (m.header.sequence + c + sum_neighbours lost_between (m ∷ n ∷ ms) + sum_neighbours unaccounted_between (m ∷ n ∷ ms)) % 2 ^ 32) (sum_by-cons count_in m (n ∷ ms))
    ∙ both_ways m.header.sequence (count_in m) (lost_between m n) (unaccounted_between m n) n.header.sequence (sum_by count_in (n ∷ ms)) (sum_neighbours lost_between (n ∷ ms)) (sum_neighbours unaccounted_between (n ∷ ms)) (sequence_at_end n ms)
    (between m n (omega (arith, none)) (omega (arith, late))) (advances n ms (omega (arith, none)) (omega (arith, late)))

-- a count that has not stopped is the sum
uncapped : (n : ℕ) → capped n < 2 ^ 64 - 1 → capped n ≡ n
uncapped n small = omega (arith, small)

none_is : (n : ℕ) → capped n ≡ 0 → n ≡ 0
none_is n none = omega (arith, none)

same_sum : (s a b c d e f end : ℕ) → a ≡ d → b ≡ e → c ≡ f → (s + d + e + f) % 2 ^ 32 ≡ end → (s + (a + b + c)) % 2 ^ 32 ≡ end
same_sum s a b c d e f end h i j is = omega (arith, h, i, j, is)

of_own : (own : List Message) → capped (sum_neighbours backward_between own) ≡ 0 → capped (sum_neighbours late_between own) ≡ 0
    → capped (sum_by count_in own) < 2 ^ 64 - 1
    → capped (sum_neighbours lost_between own) < 2 ^ 64 - 1 → capped (sum_neighbours unaccounted_between own) < 2 ^ 64 - 1
    → AdvanceBy (capped (sum_by count_in own) + capped (sum_neighbours lost_between own) + capped (sum_neighbours unaccounted_between own)) own
of_own [] none late count lost unaccounted = tt
of_own (first ∷ more) none late count lost unaccounted =
    let own = first ∷ more in
    same_sum first.header.sequence _ _ _ (sum_by count_in own) (sum_neighbours lost_between own) (sum_neighbours unaccounted_between own) _
    (uncapped (sum_by count_in own) count) (uncapped (sum_neighbours lost_between own) lost) (uncapped (sum_neighbours unaccounted_between own) unaccounted)
    (advances first more (none_is (sum_neighbours backward_between own) none) (none_is (sum_neighbours late_between own) late))

pub balances : (ms : List Message) (domain : ℕ) → KeepsCount ms domain → Balances ms domain
balances ms domain keeps = of_own (messages_of domain ms) keeps.none_backward keeps.none_late keeps.count keeps.lost keeps.unaccounted
