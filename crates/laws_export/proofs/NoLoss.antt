-- Messages whose sequence numbers count on have lost nothing.
use Rattle.std.proofs.Common.{◌≡◌, ℕ, zero, suc, ◌+◌, ◌-◌, ◌*◌, ◌^◌, ◌<◌, ◌≤◌, false, eqb, List, [], ◌∷◌, length, map, drop, Some, refl, ◌∙◌, arith}
use Rattle.std.specs.List.{range_with_len}
use Rattle.std.proofs.lemmas.List.{length-map, length-take, length-drop}
use Rattle.std.proofs.Math.Nat.{mod-eq_of_lt}
use Rattle.ipfix_message.specs.Domains.{Message}
use Rattle.ipfix_wire.proofs.Choices.{different}
use Rattle.ipfix_session.specs.Ledger.{count_in, due_after, gap, lost_at, backward_at, lost_between, backward_between, sum_neighbours, messages_of, domain_report}
use Rattle.flow_table.specs.Plans.{PlanValue}
use Rattle.flow_table.specs.SameTables.{RowValue}
use Rattle.flow_export.specs.IpfixText.{message_count, rows_of_message}
use Rattle.laws_export.proofs.Room.{CanBeWritten}
use Rattle.laws_export.proofs.Hundreds.{read_hundred, read_all}

-- messages of domain 0, from this sequence number on
pub record IsDue (sequence : ℕ) (m : Message) : Type 0 where
  pub number : m.header.sequence ≡ sequence
  pub small : sequence < 2 ^ 32
  pub known : m.decoding.passed_over.unknown_sets ≡ 0
  pub domain : m.header.domain ≡ 0

abbrev pub CountOn : ℕ → List Message → Type 0
CountOn n [] = Unit {0}
CountOn n (m ∷ ms) = IsDue n m × CountOn (n + count_in m) ms

gap_same : (x : ℕ) → x < 2 ^ 32 → gap x x ≡ 0
gap_same x small = let whole : x + (2 ^ 32 - x) ≡ 2 ^ 32 = omega (arith, small) in rw whole refl

due_is : (m : Message) (n : ℕ) → IsDue n m → n + count_in m < 2 ^ 32 → due_after m ≡ Some (n + count_in m)
due_is m n due small = rw (due.known, due.number, mod-eq_of_lt small) refl

none_lost : (x : ℕ) → x < 2 ^ 32 → lost_at (Some x) x ≡ 0
none_lost x small = rw (gap_same x small) refl

none_backward : (x : ℕ) → x < 2 ^ 32 → backward_at (Some x) x ≡ 0
none_backward x small = rw (gap_same x small) refl

pub nothing_lost : (n : ℕ) (ms : List Message) → CountOn n ms → sum_neighbours lost_between ms ≡ 0
nothing_lost n [] h = refl
nothing_lost n (m ∷ []) h = refl
nothing_lost n (m ∷ k ∷ ms) h =
    let next = h.1.0 in
    let here : lost_between m k ≡ 0 = rw (due_is m n h.0 next.small, next.number) (none_lost (n + count_in m) next.small) in
    rw (here, nothing_lost (n + count_in m) (k ∷ ms) h.1) refl

pub nothing_backward : (n : ℕ) (ms : List Message) → CountOn n ms → sum_neighbours backward_between ms ≡ 0
nothing_backward n [] h = refl
nothing_backward n (m ∷ []) h = refl
nothing_backward n (m ∷ k ∷ ms) h =
    let next = h.1.0 in
    let here : backward_between m k ≡ 0 = rw (due_is m n h.0 next.small, next.number) (none_backward (n + count_in m) next.small) in
    rw (here, nothing_backward (n + count_in m) (k ∷ ms) h.1) refl

-- ---- by domain

all_own : (n : ℕ) (ms : List Message) → CountOn n ms → messages_of 0 ms ≡ ms
all_own n [] h = refl
all_own n (m ∷ ms) h = rw (h.0.domain, all_own (n + count_in m) ms h.1) refl

none_own : (n d : ℕ) (ms : List Message) → CountOn n ms → eqb 0 d ≡ false → messages_of d ms ≡ []
none_own n d [] h other = refl
none_own n d (m ∷ ms) h other = rw (h.0.domain, other, none_own (n + count_in m) d ms h.1 other) refl

pub no_loss : (ms : List Message) (domain : ℕ) → CountOn 0 ms → ((domain_report ms domain).lost ≡ 0) × ((domain_report ms domain).backward ≡ 0)
no_loss ms zero h = (rw (all_own 0 ms h, nothing_lost 0 ms h) refl, rw (all_own 0 ms h, nothing_backward 0 ms h) refl)
no_loss ms (suc d) h =
    let other : eqb 0 (suc d) ≡ false = different 0 (suc d) (λ e. omega (arith, e)) in
    (rw (none_own 0 (suc d) ms h other) refl, rw (none_own 0 (suc d) ms h other) refl)

-- ---- the messages of a table

hundreds_count : (plan : PlanValue) (time : ℕ) (rows : List RowValue) (i n : ℕ) → CanBeWritten plan time rows → 100 * (i + n) ≤ length rows + 99
    → CountOn (100 * i) (map (read_hundred plan time rows) (range_with_len i n))
hundreds_count plan time rows i zero can within = tt
hundreds_count plan time rows i (suc zero) can within = (record { number = refl; small = omega (arith, within, can.few); known = refl; domain = refl }, tt)
hundreds_count plan time rows i (suc (suc n)) can within =
    let size : count_in (read_hundred plan time rows i) ≡ length (rows_of_message rows i) = length-map _ _ ∙ length-map _ _ in
    let full : 100 * i + count_in (read_hundred plan time rows i) ≡ 100 * (i + 1) = omega (arith, size, length-take 100 (drop (100 * i) rows), length-drop (100 * i) rows, within) in
    let others = hundreds_count plan time rows (i + 1) (suc n) can (omega (arith, within)) in
    (record { number = refl; small = omega (arith, within, can.few); known = refl; domain = refl }, rw full others)

pub all_count : (plan : PlanValue) (time : ℕ) (rows : List RowValue) → CanBeWritten plan time rows → CountOn 0 (read_all plan time rows)
all_count plan time rows can = (record { number = refl; small = omega arith; known = refl; domain = refl }, hundreds_count plan time rows 0 (message_count rows) can (omega arith))
