-- The advance over messages whose numbers are right.
use Rattle.std.proofs.Common.{◌≡◌, ℕ, ◌+◌, ◌%◌, ◌^◌, ◌<◌, ◌≤◌, Bool, true, false, cond, ltb, List, [], ◌∷◌, ◌++◌, refl, sym, ap, subst, ◌∙◌, arith, inl, inr}
use Rattle.std.specs.Prelude.{◌-◌, ◌⊎◌, max, sum_by}
use Rattle.std.proofs.lemmas.List.Sums.{sum_by-cons, sum_by-append}
use Rattle.std.proofs.lemmas.List.{map-append}
use Rattle.std.proofs.lemmas.Bool.{le-ltb, lt-ltb, ltb-true, ltb-false}
use Rattle.ipfix_message.specs.Domains.{Message}
use Rattle.ipfix_session.specs.Ledger.{count_in, gap, sequence_behind}
use Rattle.ipfix_datagrams.specs.Advances.{forward, further, advance_from, advance_of, came_of, missing_of}
use Rattle.ipfix_datagrams.specs.Streams.{Placed, Sent, messages, place_behind, furthest_place, AreNear, AreWithin, AreNumbered, AreFew, HaveEnds, IsDoubled, IsSwapped, sent, came, not_come}

-- ---- one message

-- the number after a message is the place after it
behind_is : (m : Message) (n : ℕ) → m.header.sequence ≡ n % 2 ^ 32 → sequence_behind m ≡ (n + count_in m) % 2 ^ 32
behind_is m n is = omega (arith, is)

gap_ahead : (n k : ℕ) → n ≤ k → k < n + 2 ^ 31 → gap (n % 2 ^ 32) (k % 2 ^ 32) ≡ k - n
gap_ahead n k low high = omega (arith, low, high)

gap_back : (n k : ℕ) → k < n → n < k + 2 ^ 31 → 2 ^ 31 ≤ gap (n % 2 ^ 32) (k % 2 ^ 32)
gap_back n k low high = omega (arith, low, high)

-- a place ahead is forward by the way there, and further
forward_ahead : (n k : ℕ) → n ≤ k → k < n + 2 ^ 31 → forward (n % 2 ^ 32) (k % 2 ^ 32) ≡ k - n
forward_ahead n k low high =
    let is = gap_ahead n k low high in
    let small : gap (n % 2 ^ 32) (k % 2 ^ 32) < 2 ^ 31 = omega (arith, is, low, high) in
    ap (λ (b : Bool). cond b (gap (n % 2 ^ 32) (k % 2 ^ 32)) 0) (lt-ltb (gap (n % 2 ^ 32) (k % 2 ^ 32)) (2 ^ 31) small) ∙ is

further_ahead : (n k : ℕ) → n ≤ k → k < n + 2 ^ 31 → further (n % 2 ^ 32) (k % 2 ^ 32) ≡ k % 2 ^ 32
further_ahead n k low high =
    let is = gap_ahead n k low high in
    let small : gap (n % 2 ^ 32) (k % 2 ^ 32) < 2 ^ 31 = omega (arith, is, low, high) in
    ap (λ (b : Bool). cond b (k % 2 ^ 32) (n % 2 ^ 32)) (lt-ltb (gap (n % 2 ^ 32) (k % 2 ^ 32)) (2 ^ 31) small)

-- and an earlier one goes nowhere
forward_back : (n k : ℕ) → k < n → n < k + 2 ^ 31 → forward (n % 2 ^ 32) (k % 2 ^ 32) ≡ 0
forward_back n k low high =
    ap (λ (b : Bool). cond b (gap (n % 2 ^ 32) (k % 2 ^ 32)) 0) (le-ltb (gap (n % 2 ^ 32) (k % 2 ^ 32)) (2 ^ 31) (gap_back n k low high))

further_back : (n k : ℕ) → k < n → n < k + 2 ^ 31 → further (n % 2 ^ 32) (k % 2 ^ 32) ≡ n % 2 ^ 32
further_back n k low high =
    ap (λ (b : Bool). cond b (k % 2 ^ 32) (n % 2 ^ 32)) (le-ltb (gap (n % 2 ^ 32) (k % 2 ^ 32)) (2 ^ 31) (gap_back n k low high))

either : (n k : ℕ) → (n ≤ k) ⊎ (k < n)
either n k = by_test (ltb k n) refl
  where
    by_test : (b : Bool) → ltb k n ≡ b → (n ≤ k) ⊎ (k < n)
    by_test true e = inr (ltb-true k n e)
    by_test false e = inl (ltb-false k n e)

-- one more message, from the furthest place so far
step_forward : (n k : ℕ) → k < n + 2 ^ 31 → n < k + 2 ^ 31 → n + forward (n % 2 ^ 32) (k % 2 ^ 32) ≡ max n k
step_forward n k high low = elim (either n k) [
  | inl ahead ↦ omega (arith, forward_ahead n k ahead high, ahead)
  | inr back ↦ omega (arith, forward_back n k back low, back)
]

step_further : (n k : ℕ) → k < n + 2 ^ 31 → n < k + 2 ^ 31 → further (n % 2 ^ 32) (k % 2 ^ 32) ≡ max n k % 2 ^ 32
step_further n k high low = elim (either n k) [
  | inl ahead ↦ let same : k ≡ max n k = omega (arith, ahead) in further_ahead n k ahead high ∙ ap (λ (i : ℕ). i % 2 ^ 32) same
  | inr back ↦ let same : n ≡ max n k = omega (arith, back) in further_back n k back low ∙ ap (λ (i : ℕ). i % 2 ^ 32) same
]

-- ---- up to the furthest

reaches : (n : ℕ) (ps : List Placed) → AreNear n ps → n + advance_from (n % 2 ^ 32) (messages ps) ≡ furthest_place n ps
reaches n [] near = omega arith
reaches n (p ∷ ps) near =
    let b = behind_is p.message p.place near.0 in
    let go = ap (λ (k : ℕ). forward (n % 2 ^ 32) k) b in
    let on = ap (λ (k : ℕ). further (n % 2 ^ 32) k) b ∙ step_further n (place_behind p) near.1 near.2 in
    let rest = ap (λ (k : ℕ). advance_from k (messages ps)) on in
    omega (arith, go, step_forward n (place_behind p) near.1 near.2, rest, reaches (max n (place_behind p)) ps near.3)

pub to_the_furthest : (p : Placed) (ps : List Placed) → AreNear p.place (p ∷ ps) → advance_of (messages (p ∷ ps)) ≡ furthest_place p.place (p ∷ ps) - p.place
to_the_furthest p ps near =
    let first = ap (λ (k : ℕ). advance_from k (messages (p ∷ ps))) near.0 in
    omega (arith, first, reaches p.place (p ∷ ps) near)

-- ---- in any order

near_within : (low n : ℕ) (ps : List Placed) → AreWithin low ps → low ≤ n → n < low + 2 ^ 31 → AreNear n ps
near_within low n [] within least most = tt
near_within low n (p ∷ ps) within least most =
    (within.0, omega (arith, least, within.2), omega (arith, most, within.1), near_within low (max n (place_behind p)) ps within.3 (omega (arith, least)) (omega (arith, most, within.2)))

to_the_furthest_within : (low : ℕ) (p : Placed) (ps : List Placed) → AreWithin low (p ∷ ps) → advance_of (messages (p ∷ ps)) ≡ furthest_place p.place (p ∷ ps) - p.place
to_the_furthest_within low p ps within = to_the_furthest p ps (near_within low p.place (p ∷ ps) within within.1 (omega (arith, within.2)))

within-append : (low : ℕ) (ps qs : List Placed) → AreWithin low ps → AreWithin low qs → AreWithin low (ps ++ qs)
within-append low [] qs a b = b
within-append low (p ∷ ps) qs a b = (a.0, a.1, a.2, within-append low ps qs a.3 b)

within_first : (low : ℕ) (ps qs : List Placed) → AreWithin low (ps ++ qs) → AreWithin low ps
within_first low [] qs within = tt
within_first low (p ∷ ps) qs within = (within.0, within.1, within.2, within_first low ps qs within.3)

within_last : (low : ℕ) (ps qs : List Placed) → AreWithin low (ps ++ qs) → AreWithin low qs
within_last low [] qs within = within
within_last low (p ∷ ps) qs within = within_last low ps qs within.3

furthest-append : (n : ℕ) (ps qs : List Placed) → furthest_place n (ps ++ qs) ≡ furthest_place (furthest_place n ps) qs
furthest-append n [] qs = refl
furthest-append n (p ∷ ps) qs = furthest-append (max n (place_behind p)) ps qs

-- the furthest is no nearer than where it began
furthest_least : (n : ℕ) (ps : List Placed) → n ≤ furthest_place n ps
furthest_least n [] = omega arith
furthest_least n (p ∷ ps) = omega (arith, furthest_least (max n (place_behind p)) ps)

max_swap : (n a b : ℕ) → max (max n a) b ≡ max (max n b) a
max_swap n a b = omega arith

came-cons : (p : Placed) (ps : List Placed) → came_of (messages (p ∷ ps)) ≡ count_in p.message + came_of (messages ps)
came-cons p ps = sum_by-cons count_in p.message (messages ps)

came-append : (ps qs : List Placed) → came_of (messages (ps ++ qs)) ≡ came_of (messages ps) + came_of (messages qs)
came-append ps qs = ap came_of (map-append (λ (p : Placed). p.message) ps qs) ∙ sum_by-append count_in (messages ps) (messages qs)

in_this_order : (low : ℕ) (p x y : Placed) (before behind : List Placed) → AreWithin low (p ∷ (before ++ x ∷ (y ∷ behind)))
    → (advance_of (messages (p ∷ (before ++ x ∷ (y ∷ behind)))) ≡ advance_of (messages (p ∷ (before ++ y ∷ (x ∷ behind)))))
    × (came_of (messages (p ∷ (before ++ x ∷ (y ∷ behind)))) ≡ came_of (messages (p ∷ (before ++ y ∷ (x ∷ behind)))))
in_this_order low p x y before behind within =
    let n = max p.place (place_behind p) in
    let last = within_last low before (x ∷ (y ∷ behind)) within.3 in
    let other : AreWithin low (p ∷ (before ++ y ∷ (x ∷ behind))) = (
      within.0,
      within.1,
      within.2,
      within-append low before (y ∷ (x ∷ behind)) (within_first low before (x ∷ (y ∷ behind)) within.3)
          (last.3.0, last.3.1, last.3.2, (last.0, last.1, last.2, last.3.3)),
    ) in
    let same : furthest_place n (before ++ x ∷ (y ∷ behind)) ≡ furthest_place n (before ++ y ∷ (x ∷ behind)) =
    furthest-append n before (x ∷ (y ∷ behind)) ∙ ap (λ (k : ℕ). furthest_place k behind) (max_swap (furthest_place n before) (place_behind x) (place_behind y))
    ∙ sym (furthest-append n before (y ∷ (x ∷ behind))) in (
      to_the_furthest_within low p (before ++ x ∷ (y ∷ behind)) within ∙ ap (λ (k : ℕ). k - p.place) same ∙ sym (to_the_furthest_within low p (before ++ y ∷ (x ∷ behind)) other),
      omega (
        arith,
        came-cons p (before ++ x ∷ (y ∷ behind)),
        came-cons p (before ++ y ∷ (x ∷ behind)),
        came-append before (x ∷ (y ∷ behind)),
        came-append before (y ∷ (x ∷ behind)),
        came-cons x (y ∷ behind),
        came-cons y behind,
        came-cons y (x ∷ behind),
        came-cons x behind,
      ),
    )

doubled : (low : ℕ) (p x : Placed) (before between behind : List Placed) → AreWithin low (p ∷ (before ++ x ∷ (between ++ x ∷ behind)))
    → (advance_of (messages (p ∷ (before ++ x ∷ (between ++ x ∷ behind)))) ≡ advance_of (messages (p ∷ (before ++ x ∷ (between ++ behind)))))
    × (came_of (messages (p ∷ (before ++ x ∷ (between ++ x ∷ behind)))) ≡ came_of (messages (p ∷ (before ++ x ∷ (between ++ behind)))) + count_in x.message)
doubled low p x before between behind within =
    let n = max p.place (place_behind p) in
    let last = within_last low before (x ∷ (between ++ x ∷ behind)) within.3 in
    let other : AreWithin low (p ∷ (before ++ x ∷ (between ++ behind))) = (
      within.0,
      within.1,
      within.2,
      within-append low before (x ∷ (between ++ behind)) (within_first low before (x ∷ (between ++ x ∷ behind)) within.3)
          (last.0, last.1, last.2, within-append low between behind (within_first low between (x ∷ behind) last.3) (within_last low between (x ∷ behind) last.3).3),
    ) in
    let m = max (furthest_place n before) (place_behind x) in
    let far = furthest_least m between in
    let stays : max (furthest_place m between) (place_behind x) ≡ furthest_place m between = omega (arith, far) in
    let same : furthest_place n (before ++ x ∷ (between ++ x ∷ behind)) ≡ furthest_place n (before ++ x ∷ (between ++ behind)) =
    furthest-append n before (x ∷ (between ++ x ∷ behind)) ∙ furthest-append m between (x ∷ behind) ∙ ap (λ (k : ℕ). furthest_place k behind) stays
    ∙ sym (furthest-append n before (x ∷ (between ++ behind)) ∙ furthest-append m between behind) in (
      to_the_furthest_within low p (before ++ x ∷ (between ++ x ∷ behind)) within ∙ ap (λ (k : ℕ). k - p.place) same ∙ sym (to_the_furthest_within low p (before ++ x ∷ (between ++ behind)) other),
      omega (
        arith,
        came-cons p (before ++ x ∷ (between ++ x ∷ behind)),
        came-cons p (before ++ x ∷ (between ++ behind)),
        came-append before (x ∷ (between ++ x ∷ behind)),
        came-append before (x ∷ (between ++ behind)),
        came-cons x (between ++ x ∷ behind),
        came-cons x (between ++ behind),
        came-append between (x ∷ behind),
        came-append between behind,
        came-cons x behind,
      ),
    )

-- ---- messages that were sent

all_from : (n : ℕ) (ms : List Message) → AreNumbered n ms → AreFew ms → advance_from (n % 2 ^ 32) ms ≡ came_of ms
all_from n [] are few = refl
all_from n (m ∷ ms) are few =
    let b = behind_is m n are.0 in
    let k = n + count_in m in
    let high : k < n + 2 ^ 31 = omega (arith, few.0) in
    let go = ap (λ (i : ℕ). forward (n % 2 ^ 32) i) b ∙ forward_ahead n k (omega arith) high in
    let on = ap (λ (i : ℕ). further (n % 2 ^ 32) i) b ∙ further_ahead n k (omega arith) high in
    let rest = ap (λ (i : ℕ). advance_from i ms) on in
    omega (arith, go, rest, all_from k ms are.1 few.1, sum_by-cons count_in m ms)

pub when_all_came : (n : ℕ) (ms : List Message) → AreNumbered n ms → AreFew ms → (advance_of ms ≡ came_of ms) × (missing_of ms ≡ 0)
when_all_came n [] are few = (refl, refl)
when_all_came n (m ∷ ms) are few =
    let all : advance_of (m ∷ ms) ≡ came_of (m ∷ ms) = ap (λ (i : ℕ). advance_from i (m ∷ ms)) are.0 ∙ all_from n (m ∷ ms) are few in
    (all, omega (arith, all))

-- from the furthest place so far, where so many were sent up to here
gaps_from : (f n : ℕ) (es : Sent) (last : Message) → f ≤ n → AreNumbered n (sent es ++ last ∷ []) → n + came_of (sent es ++ last ∷ []) < f + 2 ^ 31
    → f + advance_from (f % 2 ^ 32) (came es ++ last ∷ []) ≡ n + came_of (sent es ++ last ∷ [])
gaps_from f n [] last low are few =
    let b = behind_is last n are.0 in
    let k = n + count_in last in
    let sum = sum_by-cons count_in last [] in
    let high : k < f + 2 ^ 31 = omega (arith, few, sum) in
    let go = ap (λ (i : ℕ). forward (f % 2 ^ 32) i) b ∙ forward_ahead f k (omega (arith, low)) high in
    omega (arith, go, sum, low)
gaps_from f n ((m, true) ∷ es) last low are few =
    let b = behind_is m n are.0 in
    let k = n + count_in m in
    let sum = sum_by-cons count_in m (sent es ++ last ∷ []) in
    let high : k < f + 2 ^ 31 = omega (arith, few, sum) in
    let go = ap (λ (i : ℕ). forward (f % 2 ^ 32) i) b ∙ forward_ahead f k (omega (arith, low)) high in
    let on = ap (λ (i : ℕ). further (f % 2 ^ 32) i) b ∙ further_ahead f k (omega (arith, low)) high in
    let rest = ap (λ (i : ℕ). advance_from i (came es ++ last ∷ [])) on in
    omega (arith, go, rest, low, sum, gaps_from k k es last (omega arith) are.1 (omega (arith, few, sum, low)))
gaps_from f n ((m, false) ∷ es) last low are few =
    let sum = sum_by-cons count_in m (sent es ++ last ∷ []) in
    omega (arith, sum, gaps_from f (n + count_in m) es last (omega (arith, low)) are.1 (omega (arith, few, sum)))

-- those that came and those that didn't are those that were sent
parted : (es : Sent) (last : Message) → came_of (sent es ++ last ∷ []) ≡ came_of (came es ++ last ∷ []) + sum_by count_in (not_come es)
parted [] last = omega arith
parted ((m, true) ∷ es) last = omega (arith, sum_by-cons count_in m (sent es ++ last ∷ []), sum_by-cons count_in m (came es ++ last ∷ []), parted es last)
parted ((m, false) ∷ es) last = omega (arith, sum_by-cons count_in m (sent es ++ last ∷ []), sum_by-cons count_in m (not_come es), parted es last)

gaps_between : (n : ℕ) (first last : Message) (between : Sent) → AreNumbered n (first ∷ (sent between ++ last ∷ [])) → sum_by count_in (first ∷ (sent between ++ last ∷ [])) < 2 ^ 31
    → (advance_of (first ∷ (came between ++ last ∷ [])) ≡ sum_by count_in (first ∷ (sent between ++ last ∷ []))) × (missing_of (first ∷ (came between ++ last ∷ [])) ≡ sum_by count_in (not_come between))
gaps_between n first last between are few =
    let es = (first, true) ∷ between in
    let all = gaps_from n n es last (omega arith) are (omega (arith, few)) in
    let start = ap (λ (i : ℕ). advance_from i (first ∷ (came between ++ last ∷ []))) are.0 in
    let advance : advance_of (first ∷ (came between ++ last ∷ [])) ≡ sum_by count_in (first ∷ (sent between ++ last ∷ [])) = omega (arith, all, start) in
    (advance, omega (arith, advance, parted es last))

-- ---- as the laws say it

pub in_any_order : (low : ℕ) (ps qs : List Placed) → AreWithin low ps → IsSwapped ps qs → (advance_of (messages ps) ≡ advance_of (messages qs)) × (came_of (messages ps) ≡ came_of (messages qs))
in_any_order low ps qs within s =
    let here : (advance_of (messages ps) ≡ advance_of (messages (s.first ∷ (s.before ++ s.other ∷ (s.one ∷ s.rest))))) × (came_of (messages ps) ≡ came_of (messages (s.first ∷ (s.before ++ s.other ∷ (s.one ∷ s.rest))))) =
    subst (λ (xs : List Placed). (advance_of (messages xs) ≡ advance_of (messages (s.first ∷ (s.before ++ s.other ∷ (s.one ∷ s.rest))))) × (came_of (messages xs) ≡ came_of (messages (s.first ∷ (s.before ++ s.other ∷ (s.one ∷ s.rest)))))) (sym s.here)
    (in_this_order low s.first s.one s.other s.before s.rest (subst (AreWithin low) s.here within)) in
    subst (λ (xs : List Placed). (advance_of (messages ps) ≡ advance_of (messages xs)) × (came_of (messages ps) ≡ came_of (messages xs))) (sym s.there) here

pub one_twice : (low : ℕ) (x : Placed) (twice once : List Placed) → AreWithin low twice → IsDoubled x twice once → (advance_of (messages twice) ≡ advance_of (messages once)) × (came_of (messages twice) ≡ came_of (messages once) + count_in x.message)
one_twice low x twice once within d =
    let here : (advance_of (messages twice) ≡ advance_of (messages (d.first ∷ (d.before ++ x ∷ (d.between ++ d.rest))))) × (came_of (messages twice) ≡ came_of (messages (d.first ∷ (d.before ++ x ∷ (d.between ++ d.rest)))) + count_in x.message) =
    subst (λ (xs : List Placed). (advance_of (messages xs) ≡ advance_of (messages (d.first ∷ (d.before ++ x ∷ (d.between ++ d.rest))))) × (came_of (messages xs) ≡ came_of (messages (d.first ∷ (d.before ++ x ∷ (d.between ++ d.rest)))) + count_in x.message)) (sym d.here)
    (doubled low d.first x d.before d.between d.rest (subst (AreWithin low) d.here within)) in
    subst (λ (xs : List Placed). (advance_of (messages twice) ≡ advance_of (messages xs)) × (came_of (messages twice) ≡ came_of (messages xs) + count_in x.message)) (sym d.there) here

-- the last one of those that were sent
sent_last : (es : Sent) (last : Message) → sent (es ++ (last, true) ∷ []) ≡ sent es ++ last ∷ []
sent_last [] last = refl
sent_last (e ∷ es) last = ap (λ (ms : List Message). e.0 ∷ ms) (sent_last es last)

came_last : (es : Sent) (last : Message) → came (es ++ (last, true) ∷ []) ≡ came es ++ last ∷ []
came_last [] last = refl
came_last ((m, true) ∷ es) last = ap (λ (ms : List Message). m ∷ ms) (came_last es last)
came_last ((m, false) ∷ es) last = came_last es last

not_come_last : (es : Sent) (last : Message) → not_come (es ++ (last, true) ∷ []) ≡ not_come es
not_come_last [] last = refl
not_come_last ((m, true) ∷ es) last = not_come_last es last
not_come_last ((m, false) ∷ es) last = ap (λ (ms : List Message). m ∷ ms) (not_come_last es last)

pub the_gaps : (n : ℕ) (es : Sent) → HaveEnds es → AreNumbered n (sent es) → sum_by count_in (sent es) < 2 ^ 31 → (advance_of (came es) ≡ sum_by count_in (sent es)) × (missing_of (came es) ≡ sum_by count_in (not_come es))
the_gaps n es ends are few =
    let all : sent es ≡ ends.first ∷ (sent ends.between ++ ends.last ∷ []) = ap sent ends.are ∙ ap (λ (ms : List Message). ends.first ∷ ms) (sent_last ends.between ends.last) in
    let some : came es ≡ ends.first ∷ (came ends.between ++ ends.last ∷ []) = ap came ends.are ∙ ap (λ (ms : List Message). ends.first ∷ ms) (came_last ends.between ends.last) in
    let others : not_come es ≡ not_come ends.between = ap not_come ends.are ∙ not_come_last ends.between ends.last in
    let gaps = gaps_between n ends.first ends.last ends.between (subst (AreNumbered n) all are) (subst (λ (ms : List Message). sum_by count_in ms < 2 ^ 31) all few) in
    (ap advance_of some ∙ gaps.0 ∙ ap (sum_by count_in) (sym all), ap missing_of some ∙ gaps.1 ∙ ap (sum_by count_in) (sym others))
