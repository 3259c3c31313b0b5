-- Windows that are the same but for their counts hand on the same.
use Rattle.std.proofs.Common.{◌≡◌, ℕ, ◌-◌, ◌^◌, Bool, true, false, cond, Option, Some, None, List, [], ◌∷◌, length, map, take, slice_get, is_some, option_map, refl, sym, ap, ◌∙◌}
use Rattle.std.specs.Prelude.{nat_eq, nat_le, nat_lt, not, ◌||◌, ◌&&◌, remove, find}
use Rattle.std.specs.List.{list_any}
use Rattle.std.specs.Map.{lookup}
use Rattle.std.specs.Option.{option_map_or}
use Rattle.std.proofs.lemmas.Map.Made.{lookup-map_values}
use Rattle.indexmap.specs.IndexMap.{insert_entry}
use Rattle.recording_order.specs.Arrivals.{Arrival, is_in}
use Rattle.recording_order.specs.Counts.{none_counted, with_counts_begun}
use Rattle.recording_order.specs.DataSets.{has_data}
use Rattle.recording_order.specs.Leasts.{least_of}
use Rattle.recording_order.specs.Numbers.{place, standing_of, is_at_due, numbers_after}
use Rattle.recording_order.specs.declared.datagram_counts.DatagramCounts.{DatagramCounts}
use Rattle.recording_order.specs.declared.least.Least.{Least}
use Rattle.recording_order.specs.declared.numbering.Numbering.{Numbering}
use Rattle.recording_order.specs.declared.numbering.Standing.{Standing}
use Rattle.recording_order.specs.declared.numbering.Standing.TheVariants.{AtOnce, Ahead, Afar}
use Rattle.recording_order.specs.declared.offer.Offer.TheVariants.{Write, Waits, Doubled, First, Anew}
use Rattle.recording_order.specs.Windows.{WindowView, numbering, renumbered, due_number, is_due, counted, one_doubled, one_reordered, with_doubled, with_reordered, passing, least, without, leaving, if_ripe, ripe, next_of, is_late, late_domain, least_in, last_of, with_last, is_doubled, has_room, held, Offered, now, first_or, offered_full, if_ahead, offered_as, offered, noted, after_writing}

-- the counts of a domain begin anew
abbrev plain : Numbering → Numbering
plain n = record n { doubled = 0; reordered = 0 }

-- and those of all
abbrev begun : WindowView → WindowView
begun w = with_counts_begun w

-- ---- what is decided by the numbers of a domain

begun-numbering : (w : WindowView) (d : ℕ) → numbering (begun w) d ≡ option_map plain (numbering w d)
begun-numbering w d = lookup-map_values plain (nat_eq d) w.numbers

begun-due_number : (w : WindowView) (d : ℕ) → due_number (begun w) d ≡ due_number w d
begun-due_number w d = ap (λ o. option_map_or (λ (n : Numbering). n.after) o 0) (begun-numbering w d) ∙ by (numbering w d)
  where
    by : (o : Option Numbering) → option_map_or (λ (n : Numbering). n.after) (option_map plain o) 0 ≡ option_map_or (λ (n : Numbering). n.after) o 0
    by None = refl
    by (Some n) = refl

begun-is_due : (w : WindowView) (d : ℕ) → is_due (begun w) d ≡ is_due w d
begun-is_due w d = ap (λ o. option_map_or (λ (n : Numbering). n.is_due) o false) (begun-numbering w d) ∙ by (numbering w d)
  where
    by : (o : Option Numbering) → option_map_or (λ (n : Numbering). n.is_due) (option_map plain o) false ≡ option_map_or (λ (n : Numbering). n.is_due) o false
    by None = refl
    by (Some n) = refl

begun-standing : (w : WindowView) (d number : ℕ) → standing_of (numbering (begun w) d) number ≡ standing_of (numbering w d) number
begun-standing w d number = ap (λ o. standing_of o number) (begun-numbering w d) ∙ by (numbering w d)
  where
    by : (o : Option Numbering) → standing_of (option_map plain o) number ≡ standing_of o number
    by None = refl
    by (Some n) = refl

begun-least : (w : WindowView) (d : ℕ) → least (begun w) d ≡ least w d
begun-least w d = ap (λ due. least_of d due w.waiting) (begun-due_number w d)

begun-ripe : (w : WindowView) (d second : ℕ) → ripe (begun w) d second ≡ ripe w d second
begun-ripe w d second = ap (if_ripe (begun w) d second) (begun-least w d) ∙ by (least w d)
  where
    by : (o : Option Least) → if_ripe (begun w) d second o ≡ if_ripe w d second o
    by None = refl
    by (Some l) = ap (λ due. cond (not due || (nat_le l.place (2 ^ 31) || nat_lt w.seconds (second - l.second))) (Some l) None) (begun-is_due w d)

begun-late : (w : WindowView) (second : ℕ) → late_domain (begun w) second ≡ late_domain w second
begun-late w second = ap (λ test. option_map (λ (a : Arrival). a.header.domain) (find test w.waiting)) late
  where
    late : is_late (begun w) second ≡ is_late w second
    late = λ i a. nat_lt w.seconds (second - a.second) && is_some (begun-ripe w a.header.domain second i)

-- ---- what changes nothing but counts

pub begun-twice : (w : WindowView) → begun (begun w) ≡ begun w
begun-twice w = ap (λ ns. record w { numbers = ns }) (twice w.numbers)
  where
    twice : (ns : List (ℕ × Numbering)) → map none_counted (map none_counted ns) ≡ map none_counted ns
    twice [] = refl
    twice (e ∷ es) = ap (λ l. none_counted e ∷ l) (twice es)

inserted : (f : Numbering → Numbering) → ((n : Numbering) → plain (f n) ≡ plain n) → (ns : List (ℕ × Numbering)) (d : ℕ) (n : Numbering) → lookup (nat_eq d) ns ≡ Some n
    → map none_counted (insert_entry nat_eq ns d (f n)) ≡ map none_counted ns
inserted f same [] d n h = absurd cc
inserted f same (e ∷ es) d n h =
    (elim (nat_eq d e.0) as (λ b. cond b (Some e.1) (lookup (nat_eq d) es) ≡ Some n → map none_counted (cond b ((e.0, f n) ∷ es) (e ∷ insert_entry nat_eq es d (f n))) ≡ map none_counted (e ∷ es)) [
      | true ↦ λ g. let is : e.1 ≡ n = cc in ap (λ m. (e.0, m) ∷ map none_counted es) (same n ∙ ap plain (sym is))
      | false ↦ λ g. ap (λ l. none_counted e ∷ l) (inserted f same es d n g)
    ]) h

begun-counted : (f : Numbering → Numbering) → ((n : Numbering) → plain (f n) ≡ plain n) → (w : WindowView) (d : ℕ) (o : Option Numbering) → numbering w d ≡ o → begun (counted w d (option_map f o)) ≡ begun w
begun-counted f same w d None is = refl
begun-counted f same w d (Some n) is = ap (λ ns. record w { numbers = ns }) (inserted f same w.numbers d n is)

begun-reordered : (w : WindowView) (d : ℕ) → begun (with_reordered w d) ≡ begun w
begun-reordered w d = begun-counted one_reordered (λ n. refl) w d (numbering w d) refl

begun-doubled : (w : WindowView) (d : ℕ) → begun (with_doubled w d) ≡ begun w
begun-doubled w d = begun-counted one_doubled (λ n. refl) w d (numbering w d) refl

begun-passing : (w : WindowView) (d : ℕ) (xs : List Arrival) → begun (passing w d xs) ≡ begun w
begun-passing w d xs = by (list_any (is_in d) xs)
  where
    by : (b : Bool) → begun (cond b (with_reordered w d) w) ≡ begun w
    by true = begun-reordered w d
    by false = refl

-- ---- one that leaves

-- but for counts
abbrev pub begun_out : Option (Arrival × WindowView) → Option (Arrival × WindowView)
begun_out o = option_map (λ x. (x.0, begun x.1)) o

without-alike : (w v : WindowView) (index : ℕ) (a : Arrival) → begun w ≡ begun v → begun (without w index a) ≡ begun (without v index a)
without-alike w v index a alike =
    begun-passing (record w { waiting = remove w.waiting index }) a.header.domain (take index w.waiting)
    ∙ ap (λ (u : WindowView). record u { waiting = remove u.waiting index }) alike
    ∙ sym (begun-passing (record v { waiting = remove v.waiting index }) a.header.domain (take index v.waiting))

leaving-alike : (w v : WindowView) (o : Option Least) → begun w ≡ begun v → begun_out (leaving w o) ≡ begun_out (leaving v o)
leaving-alike w v None alike = refl
leaving-alike w v (Some l) alike = by (slice_get w.waiting l.index) ∙ ap (λ (u : WindowView). begun_out (option_map (λ (a : Arrival). (a, without v l.index a)) (slice_get u.waiting l.index))) alike
  where
    by : (p : Option Arrival) → begun_out (option_map (λ (a : Arrival). (a, without w l.index a)) p) ≡ begun_out (option_map (λ (a : Arrival). (a, without v l.index a)) p)
    by None = refl
    by (Some a) = ap (λ (u : WindowView). Some (a, u)) (without-alike w v l.index a alike)

least-alike : (w v : WindowView) (d : ℕ) → begun w ≡ begun v → least w d ≡ least v d
least-alike w v d alike = sym (begun-least w d) ∙ ap (λ (u : WindowView). least u d) alike ∙ begun-least v d

pub next-alike : (w v : WindowView) (d second : ℕ) → begun w ≡ begun v → begun_out (next_of w d second) ≡ begun_out (next_of v d second)
next-alike w v d second alike =
    leaving-alike w v (ripe w d second) alike
    ∙ ap (λ o. begun_out (leaving v o)) (sym (begun-ripe w d second) ∙ ap (λ (u : WindowView). ripe u d second) alike ∙ begun-ripe v d second)

pub least_in-alike : (w v : WindowView) (d : ℕ) → begun w ≡ begun v → begun_out (least_in w d) ≡ begun_out (least_in v d)
least_in-alike w v d alike = leaving-alike w v (least w d) alike ∙ ap (λ o. begun_out (leaving v o)) (least-alike w v d alike)

pub last-alike : (w v : WindowView) → begun w ≡ begun v → begun_out (last_of w w.waiting) ≡ begun_out (last_of v v.waiting)
last-alike w v alike = by w.waiting ∙ ap (λ (u : WindowView). begun_out (last_of v u.waiting)) alike
  where
    by : (xs : List Arrival) → begun_out (last_of w xs) ≡ begun_out (last_of v xs)
    by [] = refl
    by (a ∷ xs) = least_in-alike w v a.header.domain alike

pub late-alike : (w v : WindowView) (second : ℕ) → begun w ≡ begun v → late_domain w second ≡ late_domain v second
late-alike w v second alike = sym (begun-late w second) ∙ ap (λ (u : WindowView). late_domain u second) alike ∙ begun-late v second

-- ---- one that comes

abbrev pub begun_offer : Offered → Offered
begun_offer o = (o.0, begun o.1)

now-alike : (w v : WindowView) (d : ℕ) → begun w ≡ begun v → begun_offer (now w d) ≡ begun_offer (now v d)
now-alike w v d alike = ap (λ (u : WindowView). (Write, u)) (begun-passing w d w.waiting ∙ alike ∙ sym (begun-passing v d v.waiting))

first-alike : (x y : Offered) (o q : Option (Arrival × WindowView)) → begun_offer x ≡ begun_offer y → begun_out o ≡ begun_out q → begun_offer (first_or x o) ≡ begun_offer (first_or y q)
first-alike x y None None same h = same
first-alike x y None (Some q) same h = absurd cc
first-alike x y (Some o) None same h = absurd cc
first-alike x y (Some o) (Some q) same h = let both : (o.0, begun o.1) ≡ (q.0, begun q.1) = cc in ap (λ (z : Arrival × WindowView). (First z.0, z.1)) both

full-alike : (w v : WindowView) (a : Arrival) → begun w ≡ begun v → begun_offer (offered_full w a.header (least w a.header.domain)) ≡ begun_offer (offered_full v a.header (least v a.header.domain))
full-alike w v a alike = by (least w a.header.domain) ∙ ap (λ o. begun_offer (offered_full v a.header o)) (least-alike w v a.header.domain alike)
  where
    by_test : (l : Least) (b : Bool) → begun_offer (cond b (first_or (now w a.header.domain) (leaving w (Some l))) (now w a.header.domain)) ≡ begun_offer (cond b (first_or (now v a.header.domain) (leaving v (Some l))) (now v a.header.domain))
    by_test l true = first-alike (now w a.header.domain) (now v a.header.domain) (leaving w (Some l)) (leaving v (Some l)) (now-alike w v a.header.domain alike) (leaving-alike w v (Some l) alike)
    by_test l false = now-alike w v a.header.domain alike

    due : due_number w a.header.domain ≡ due_number v a.header.domain
    due = sym (begun-due_number w a.header.domain) ∙ ap (λ (u : WindowView). due_number u a.header.domain) alike ∙ begun-due_number v a.header.domain

    by : (o : Option Least) → begun_offer (offered_full w a.header o) ≡ begun_offer (offered_full v a.header o)
    by None = now-alike w v a.header.domain alike
    by (Some l) =
        by_test l (nat_le l.place (place (due_number w a.header.domain) a.header.sequence))
        ∙ ap (λ n. begun_offer (cond (nat_le l.place (place n a.header.sequence)) (first_or (now v a.header.domain) (leaving v (Some l))) (now v a.header.domain))) due

ahead-alike : (w v : WindowView) (a : Arrival) → begun w ≡ begun v → begun_offer (if_ahead w a) ≡ begun_offer (if_ahead v a)
ahead-alike w v a alike =
    by (has_room w a.header.domain (length a.octets))
    ∙ ap (λ (u : WindowView). begun_offer (cond (has_room u a.header.domain (length a.octets)) (Waits, held v a) (offered_full v a.header (least v a.header.domain)))) alike
  where
    by : (b : Bool) → begun_offer (cond b (Waits, held w a) (offered_full w a.header (least w a.header.domain))) ≡ begun_offer (cond b (Waits, held v a) (offered_full v a.header (least v a.header.domain)))
    by true = ap (λ (u : WindowView). (Waits, held u a)) alike
    by false = full-alike w v a alike

as-alike : (w v : WindowView) (a : Arrival) (s : Standing) → begun w ≡ begun v → begun_offer (offered_as w a s) ≡ begun_offer (offered_as v a s)
as-alike w v a AtOnce alike = now-alike w v a.header.domain alike
as-alike w v a Ahead alike = ahead-alike w v a alike
as-alike w v a Afar alike = ap (λ (u : WindowView). (Anew, u)) alike

-- where a datagram may wait
abbrev offered_then : Arrival → WindowView → Offered
offered_then a w = cond (is_doubled w a.header.domain a.octets) (Doubled, with_doubled w a.header.domain) (offered_as w a (standing_of (numbering w a.header.domain) a.header.sequence))

then-alike : (w v : WindowView) (a : Arrival) → begun w ≡ begun v → begun_offer (offered_then a w) ≡ begun_offer (offered_then a v)
then-alike w v a alike =
    by (is_doubled w a.header.domain a.octets)
    ∙ ap (λ (u : WindowView). begun_offer (cond (is_doubled u a.header.domain a.octets) (Doubled, with_doubled v a.header.domain) (offered_as v a (standing_of (numbering v a.header.domain) a.header.sequence)))) alike
  where
    same : standing_of (numbering w a.header.domain) a.header.sequence ≡ standing_of (numbering v a.header.domain) a.header.sequence
    same = sym (begun-standing w a.header.domain a.header.sequence) ∙ ap (λ (u : WindowView). standing_of (numbering u a.header.domain) a.header.sequence) alike ∙ begun-standing v a.header.domain a.header.sequence

    by : (b : Bool) → begun_offer (cond b (Doubled, with_doubled w a.header.domain) (offered_as w a (standing_of (numbering w a.header.domain) a.header.sequence)))
        ≡ begun_offer (cond b (Doubled, with_doubled v a.header.domain) (offered_as v a (standing_of (numbering v a.header.domain) a.header.sequence)))
    by true = ap (λ (u : WindowView). (Doubled, u)) (begun-doubled w a.header.domain ∙ alike ∙ sym (begun-doubled v a.header.domain))
    by false = as-alike w v a (standing_of (numbering w a.header.domain) a.header.sequence) alike ∙ ap (λ s. begun_offer (offered_as v a s)) same

pub offered-alike : (w v : WindowView) (a : Arrival) → begun w ≡ begun v → begun_offer (offered w a) ≡ begun_offer (offered v a)
offered-alike w v a alike = by (nat_eq w.seconds 0) ∙ ap (λ (u : WindowView). begun_offer (cond (nat_eq u.seconds 0) (Write, v) (offered_then a v))) alike
  where
    by : (b : Bool) → begun_offer (cond b (Write, w) (offered_then a w)) ≡ begun_offer (cond b (Write, v) (offered_then a v))
    by true = ap (λ (u : WindowView). (Write, u)) alike
    by false = then-alike w v a alike

-- ---- one that was written

begun-after_writing : (w : WindowView) (a : Arrival) (c : DatagramCounts) → begun (after_writing w a c) ≡ after_writing (begun w) a c
begun-after_writing w a c = by_seconds (nat_eq w.seconds 0)
  where
    into : (ns : List (ℕ × Numbering)) (n : Numbering) → map none_counted (insert_entry nat_eq ns a.header.domain n) ≡ insert_entry nat_eq (map none_counted ns) a.header.domain (plain n)
    into [] n = refl
    into (e ∷ es) n = elim (nat_eq a.header.domain e.0) as (λ b. map none_counted (cond b ((e.0, n) ∷ es) (e ∷ insert_entry nat_eq es a.header.domain n)) ≡ cond b ((e.0, plain n) ∷ map none_counted es) (none_counted e ∷ insert_entry nat_eq (map none_counted es) a.header.domain (plain n))) [
      | true ↦ refl
      | false ↦ ap (λ l. none_counted e ∷ l) (into es n)
    ]

    after : (o : Option Numbering) → plain (numbers_after o a.header.sequence c) ≡ numbers_after (option_map plain o) a.header.sequence c
    after None = refl
    after (Some n) = refl

    at_due : (o : Option Numbering) → is_at_due (option_map plain o) a.header.sequence ≡ is_at_due o a.header.sequence
    at_due None = refl
    at_due (Some n) = refl

    renumbers : (o : Option Numbering) → begun (renumbered w a.header.domain (numbers_after o a.header.sequence c)) ≡ renumbered (begun w) a.header.domain (numbers_after (option_map plain o) a.header.sequence c)
    renumbers o = ap (λ ns. record w { numbers = ns }) (into w.numbers (numbers_after o a.header.sequence c) ∙ ap (insert_entry nat_eq (map none_counted w.numbers) a.header.domain) (after o))

    by_test : (o : Option Numbering) (b : Bool) → begun (cond b (with_last (renumbered w a.header.domain (numbers_after o a.header.sequence c)) a) (renumbered w a.header.domain (numbers_after o a.header.sequence c)))
        ≡ cond b (with_last (renumbered (begun w) a.header.domain (numbers_after (option_map plain o) a.header.sequence c)) a) (renumbered (begun w) a.header.domain (numbers_after (option_map plain o) a.header.sequence c))
    by_test o true = ap (λ (u : WindowView). with_last u a) (renumbers o)
    by_test o false = renumbers o

    notes : (o : Option Numbering) → begun (noted w a o c) ≡ noted (begun w) a (option_map plain o) c
    notes o =
        by_test o (is_at_due o a.header.sequence && has_data a.octets)
        ∙ ap (λ b. cond (b && has_data a.octets) (with_last (renumbered (begun w) a.header.domain (numbers_after (option_map plain o) a.header.sequence c)) a) (renumbered (begun w) a.header.domain (numbers_after (option_map plain o) a.header.sequence c))) (sym (at_due o))

    by_seconds : (b : Bool) → begun (cond b w (noted w a (numbering w a.header.domain) c)) ≡ cond b (begun w) (noted (begun w) a (numbering (begun w) a.header.domain) c)
    by_seconds true = refl
    by_seconds false = notes (numbering w a.header.domain) ∙ ap (λ o. noted (begun w) a o c) (sym (begun-numbering w a.header.domain))

pub writing-alike : (w v : WindowView) (a : Arrival) (c : DatagramCounts) → begun w ≡ begun v → begun (after_writing w a c) ≡ begun (after_writing v a c)
writing-alike w v a c alike = begun-after_writing w a c ∙ ap (λ (u : WindowView). after_writing u a c) alike ∙ sym (begun-after_writing v a c)
