-- What the files' ledgers say adds up to what the session's says.
use Rattle.std.proofs.Common.{◌≡◌, ℕ, ◌+◌, ◌^◌, ◌%◌, ◌<◌, ◌≤◌, cond, subst, filter, Bool, true, false, eqb, List, [], ◌∷◌, ◌++◌, length, Option, Some, None, refl, sym, ap, ap₂, ◌∙◌, append_assoc, arith, inl, inr}
use Rattle.std.specs.Prelude.{◌-◌, ◌||◌, ◌&&◌, not, All, ◌⊎◌, is_some}
use Rattle.std.specs.Option.{unwrap_or}
use Rattle.std.proofs.lemmas.Bool.{cases_Bool, eq-eqb, eqb-true}
use Rattle.std.proofs.lemmas.Bool.Decides.{eqb_tells}
use Rattle.std.proofs.lemmas.List.Elements.{All-cons, All-head, All-nil, All-tail}
use Rattle.std.proofs.Math.Nat.{add-mod_right, mod-add-mod, mod-eq_of_lt, mod-lt}
use Rattle.std.proofs.lemmas.List.{append-nil, length-append}
use Rattle.ipfix_wire.specs.declared.header.Header.{Header}
use Rattle.ipfix_wire.proofs.Choices.{both_true, or_right}
use Rattle.ipfix_message.specs.Domains.{History, Message, template_for}
use Rattle.ipfix_message.specs.declared.passed_over.PassedOver.{PassedOver}
use Rattle.ipfix_session.specs.Given.{Given, known_after}
use Rattle.ipfix_session.specs.Ledger.{count_in, due_after, sum_neighbours, messages_of, due_of}
use Rattle.ipfix_message.specs.Alike.{SameMessage}
use Rattle.ipfix_message.specs.declared.stamp.Stamp.{Stamp}
use Rattle.recording_files.specs.Heads.{count_in as count_in_of, goes_on_with, is_now, is_written, number_before, number_in, stamp_of, written}
use Rattle.recording_files.specs.KeptOptions.{Kept, kept_after}
use Rattle.recording_files.specs.Recordings.{has, begins_again, stamp_for, Part}
use Rattle.recording_files.specs.Faithful.{in_file, in_files, all_given}
use Rattle.ipfix_session.proofs.Accounts.{of_last-push}
use Rattle.ipfix_session.proofs.Chains.{GivesAll}
use Rattle.ipfix_session.proofs.Ledgers.{Adds, walk, due_behind, walk-append, due_behind-append, behind_is, sum-walk, own_one, own_other, own-append, due_same}
use Rattle.ipfix_session.proofs.Texts.{text_gives}
use Rattle.recording_files.proofs.HeadsRead.{HeadRead, IsOptions}
use Rattle.recording_files.proofs.KeptCopied.{few_written, length-filter_at_most}
use Rattle.recording_files.proofs.PreamblesRead.{IsLead}
use Rattle.recording_files.proofs.Beside.{has-push}
use Rattle.recording_files.proofs.FilesRead.{HeadGiven, LedBy, Tracks, ReadAlone}

-- ---- the messages of preambles add nothing

module _ (f : Message → Message → ℕ) (g : Option ℕ → ℕ → ℕ) (adds : Adds f g) where
  small_due : (q : ℕ) → q < 2 ^ 32 → (l : Message) → l.header.sequence ≡ q → l.decoding.records ≡ [] → l.decoding.passed_over.unknown_sets ≡ 0 → due_after l ≡ Some q
  small_due q small l number none known =
      let count : count_in l ≡ 0 = ap length none in
      let all : l.header.sequence + count_in l ≡ q = omega (arith, number, count) in
      rw (known, all, mod-eq_of_lt small) refl

  lead_due : (s : Stamp) (l : Message) → s.sequence < 2 ^ 32 → IsLead s l → due_after l ≡ Some s.sequence
  lead_due s l small is = small_due s.sequence small l is.sequence is.records (ap (λ (p : PassedOver). p.unknown_sets) is.passed_over)

  leads_walk : (s : Stamp) (o : Option ℕ) (ls rest : List Message) → s.sequence < 2 ^ 32 → All (IsLead s) ls → (o ≡ None) ⊎ (o ≡ Some s.sequence)
      → g o s.sequence ≡ 0 → walk g o (ls ++ rest) ≡ walk g (due_behind o ls) rest
  leads_walk s o [] rest small all is zero = refl
  leads_walk s o (l ∷ ls) rest small all is zero =
      let here = All-head (IsLead s) l ls all in
      let due = lead_due s l small here in
      let number : g o l.header.sequence ≡ 0 = ap (g o) here.sequence ∙ zero in
      let more : walk g (due_after l) (ls ++ rest) ≡ walk g (due_behind (due_after l) ls) rest =
      leads_walk s (due_after l) ls rest small (All-tail (IsLead s) l ls all) (inr due) (rw due (adds.due s.sequence small)) in
      omega (arith, number, more)

  leads_behind : (s : Stamp) (l : Message) (ls : List Message) → s.sequence < 2 ^ 32 → All (IsLead s) (l ∷ ls) → (o : Option ℕ) → due_behind o (l ∷ ls) ≡ Some s.sequence
  leads_behind s l [] small all o = lead_due s l small (All-head (IsLead s) l [] all)
  leads_behind s l (k ∷ ls) small all o = leads_behind s k ls small (All-tail (IsLead s) l (k ∷ ls) all) (due_after l)

-- ---- the messages of a domain

pub eqb-sym : (a b : ℕ) → eqb a b ≡ eqb b a
eqb-sym a b = elim (eqb_tells a b) [
  | inl y ↦ y.0 ∙ sym (eq-eqb b a (sym y.1))
  | inr n ↦ elim (eqb_tells b a) [ inl z ↦ absurd (n.1 (sym z.1)) | inr m ↦ n.0 ∙ sym m.0 ]
]

pub own_none : (d : ℕ) (ms : List Message) → has ms d ≡ false → messages_of d ms ≡ []
own_none d [] h = refl
own_none d (m ∷ ms) h = by_test (eqb d m.header.domain) refl h (λ g. own_none d ms g)
  where
    by_test : (b : Bool) → eqb d m.header.domain ≡ b → (b || has ms d) ≡ false → (has ms d ≡ false → messages_of d ms ≡ []) → messages_of d (m ∷ ms) ≡ []
    by_test true e g more = absurd cc
    by_test false e g more = let other : eqb m.header.domain d ≡ false = eqb-sym m.header.domain d ∙ e in rw other (more g)

own_leads : (d : ℕ) (s : Stamp) (ls : List Message) → eqb s.domain d ≡ true → All (IsLead s) ls → messages_of d ls ≡ ls
own_leads d s [] e all = refl
own_leads d s (l ∷ ls) e all =
    let here : eqb l.header.domain d ≡ true = ap (λ (n : ℕ). eqb n d) (All-head (IsLead s) l ls all).domain ∙ e in
    own_one d l ls here ∙ ap (λ (k : List Message). l ∷ k) (own_leads d s ls e (All-tail (IsLead s) l ls all))

no_leads : (d : ℕ) (s : Stamp) (ls : List Message) → eqb s.domain d ≡ false → All (IsLead s) ls → messages_of d ls ≡ []
no_leads d s [] e all = refl
no_leads d s (l ∷ ls) e all =
    let here : eqb l.header.domain d ≡ false = ap (λ (n : ℕ). eqb n d) (All-head (IsLead s) l ls all).domain ∙ e in
    own_other d l ls here ∙ no_leads d s ls e (All-tail (IsLead s) l ls all)

-- ---- the messages of a head add nothing

mod_small : (n : ℕ) → n % 2 ^ 32 < 2 ^ 32
mod_small n = mod-lt n (omega arith)

step_number : (q c : ℕ) → c < 256 → (number_before q (c + 1) + 1) % 2 ^ 32 ≡ number_before q c
step_number q c few =
    let this : (c + 1) % 2 ^ 32 ≡ c + 1 = mod-eq_of_lt (omega (arith, few)) in
    let next : c % 2 ^ 32 ≡ c = mod-eq_of_lt (omega (arith, few)) in
    let more : q + 2 ^ 32 - (c + 1) + 1 ≡ q + 2 ^ 32 - c = omega (arith, few) in
    ap (λ (n : ℕ). ((q + 2 ^ 32 - n) % 2 ^ 32 + 1) % 2 ^ 32) this
    ∙ mod-add-mod (q + 2 ^ 32 - (c + 1)) (2 ^ 32) 1
    ∙ ap (λ (n : ℕ). n % 2 ^ 32) more
    ∙ sym (ap (λ (n : ℕ). (q + 2 ^ 32 - n) % 2 ^ 32) next)

last_number : (q : ℕ) → q < 2 ^ 32 → number_before q 0 ≡ q
last_number q small =
    let none : 0 % 2 ^ 32 ≡ 0 = mod-eq_of_lt {n = 0} {m = 2 ^ 32} (omega arith) in
    let whole : q + 2 ^ 32 - 0 ≡ q + 2 ^ 32 = omega arith in
    ap (λ (n : ℕ). (q + 2 ^ 32 - n) % 2 ^ 32) none ∙ ap (λ (n : ℕ). n % 2 ^ 32) whole ∙ add-mod_right q (2 ^ 32) ∙ mod-eq_of_lt small

options_due : (s : Stamp) (k : Kept) (y : Message) → IsOptions s k y → due_after y ≡ Some ((s.sequence + 1) % 2 ^ 32)
options_due s k y is =
    let known : y.decoding.passed_over.unknown_sets ≡ 0 = ap (λ (p : PassedOver). p.unknown_sets) is.passed_over in
    let one : count_in y ≡ 1 = ap length is.records in
    let all : y.header.sequence + count_in y ≡ s.sequence + 1 = omega (arith, is.sequence, one) in
    rw (known, all) refl

abbrev some_number : ℕ → Option ℕ
some_number n = Some n

same_number : (n m : ℕ) (o : Option ℕ) → o ≡ some_number n → o ≡ some_number m → n ≡ m
same_number n m o a b = let e : some_number n ≡ some_number m = sym a ∙ b in cc

found_number : (o : Option ℕ) → is_some o ≡ true → o ≡ Some (unwrap_or o 0)
found_number None h = absurd cc
found_number (Some n) h = refl

-- nothing is due yet, or what the records that are left begin with
abbrev DueBefore : (ℕ → Option ℕ) → ℕ → List Kept → Option ℕ → Type 0
DueBefore number d ks o = (o ≡ None) ⊎ ((q : ℕ) × (number d ≡ Some q) × (o ≡ Some (number_before q (count_in_of d ks))))

record HeadWalk (g : Option ℕ → ℕ → ℕ) (number : ℕ → Option ℕ) (d : ℕ) (o : Option ℕ) (own rest : List Message) : Type 0 where
  sum : walk g o (own ++ rest) ≡ walk g (due_behind o own) rest
  due : DueBefore number d [] (due_behind o own)

module _ (f : Message → Message → ℕ) (g : Option ℕ → ℕ → ℕ) (adds : Adds f g) (time : ℕ) (number : ℕ → Option ℕ) (d : ℕ) where
  few_in : (k : Kept) (ks : List Kept) → length (k ∷ ks) ≤ 256 → count_in_of d ks < 256
  few_in k ks few = let both = length-filter_at_most (λ (j : Kept). eqb j.domain d) ks in omega (arith, few, both)

  -- the first of those of the domain has the number that was due, if one was
  zero_first : (q c : ℕ) (ks : List Kept) (n : ℕ) (o : Option ℕ) → number d ≡ Some q → count_in_of d ks ≡ c → n ≡ number_before q c → n < 2 ^ 32 → DueBefore number d ks o → g o n ≡ 0
  zero_first q c ks n o is_q count here small (inl none) = ap (λ (p : Option ℕ). g p n) none ∙ adds.none n
  zero_first q c ks n o is_q count here small (inr due) =
      let same : due.0 ≡ q = same_number due.0 q (number d) due.1 is_q in
      let is : o ≡ Some n = due.2 ∙ ap some_number (ap₂ number_before same count ∙ sym here) in
      ap (λ (p : Option ℕ). g p n) is ∙ adds.due n small

  -- the two messages of one of the domain
  two_walk : (k : Kept) (ks : List Kept) (t y : Message) (more rest : List Message) (o : Option ℕ) → eqb k.domain d ≡ true → IsLead (stamp_of time number k ks) t → IsOptions (stamp_of time number k ks) k y
      → is_some (number k.domain) ≡ true → length (k ∷ ks) ≤ 256 → DueBefore number d (k ∷ ks) o
      → ((q : ℕ) → number d ≡ Some q → due_after y ≡ Some (number_before q (count_in_of d ks)) → HeadWalk g number d (due_after y) more rest) → HeadWalk g number d o (t ∷ y ∷ more) rest
  two_walk k ks t y more rest o e lead options known few due next =
      let s = stamp_of time number k ks in
      let same : k.domain ≡ d = eqb-true k.domain d e in
      let q = unwrap_or (number k.domain) 0 in
      let is_q : number d ≡ Some q = ap number (sym same) ∙ found_number (number k.domain) known in
      let first : count_in_of d (k ∷ ks) ≡ count_in_of d ks + 1 = ap (λ (b : Bool). length (cond b (k ∷ filter (λ (j : Kept). eqb j.domain d) ks) (filter (λ (j : Kept). eqb j.domain d) ks))) e ∙ omega arith in
      let here : s.sequence ≡ number_before q (count_in_of d ks + 1) = ap (λ (n : ℕ). number_before q (count_in_of n (k ∷ ks))) same ∙ ap (number_before q) first in
      let small : s.sequence < 2 ^ 32 = mod_small _ in
      let zero : g o s.sequence ≡ 0 = zero_first q (count_in_of d ks + 1) (k ∷ ks) s.sequence o is_q first here small due in
      let due_t : due_after t ≡ Some s.sequence = lead_due f g adds s t small lead in
      let due_y : due_after y ≡ Some (number_before q (count_in_of d ks)) =
      options_due s k y options ∙ ap (λ (n : ℕ). some_number ((n + 1) % 2 ^ 32)) here ∙ ap some_number (step_number q (count_in_of d ks) (few_in k ks few)) in
      let one : g o t.header.sequence ≡ 0 = ap (g o) lead.sequence ∙ zero in
      let two : g (due_after t) y.header.sequence ≡ 0 = ap₂ g due_t options.sequence ∙ adds.due s.sequence small in
      let left = next q is_q due_y in
      record { sum = omega (arith, one, two, left.sum); due = left.due }

  head_walk : (ks : List Kept) (hs rest : List Message) (o : Option ℕ) → HeadRead time number ks hs → All (λ k. is_some (number k.domain) ≡ true) ks → length ks ≤ 256 → DueBefore number d ks o
      → HeadWalk g number d o (messages_of d hs) rest
  head_walk [] hs rest o read known few due = subst (λ (ms : List Message). HeadWalk g number d o (messages_of d ms) rest) (sym read) (record { sum = refl; due = due })
  head_walk (k ∷ ks) hs rest o read known few due =
      let t = read.0 in
      let y = read.1 in
      let left = read.2 in
      let others = All-tail (λ (j : Kept). is_some (number j.domain) ≡ true) k ks known in
      subst (λ (ms : List Message). HeadWalk g number d o (messages_of d ms) rest) (sym read.3) (elim (cases_Bool (eqb k.domain d)) [
        | inl e ↦
            let own_t : eqb t.header.domain d ≡ true = ap (λ (n : ℕ). eqb n d) read.4.domain ∙ e in
            let own_y : eqb y.header.domain d ≡ true = ap (λ (n : ℕ). eqb n d) read.5.domain ∙ e in
            let both : messages_of d (t ∷ y ∷ left) ≡ t ∷ y ∷ messages_of d left = own_one d t (y ∷ left) own_t ∙ ap (λ (ms : List Message). t ∷ ms) (own_one d y left own_y) in
            subst (λ (ms : List Message). HeadWalk g number d o ms rest) (sym both)
            (two_walk k ks t y (messages_of d left) rest o e read.4 read.5 (All-head (λ (j : Kept). is_some (number j.domain) ≡ true) k ks known) few due
            (λ q is_q due_y. head_walk ks left rest (due_after y) read.6 others (omega (arith, few)) (inr (q, is_q, due_y))))
        | inr n ↦
            let own_t : eqb t.header.domain d ≡ false = ap (λ (m : ℕ). eqb m d) read.4.domain ∙ n in
            let own_y : eqb y.header.domain d ≡ false = ap (λ (m : ℕ). eqb m d) read.5.domain ∙ n in
            let count : count_in_of d (k ∷ ks) ≡ count_in_of d ks = ap (λ (b : Bool). length (cond b (k ∷ filter (λ (j : Kept). eqb j.domain d) ks) (filter (λ (j : Kept). eqb j.domain d) ks))) n in
            let none : messages_of d (t ∷ y ∷ left) ≡ messages_of d left = own_other d t (y ∷ left) own_t ∙ own_other d y left own_y in
            subst (λ (ms : List Message). HeadWalk g number d o ms rest) (sym none)
            (head_walk ks left rest o read.6 others (omega (arith, few)) (subst (λ (c : ℕ). (o ≡ None) ⊎ ((q : ℕ) × (number d ≡ Some q) × (o ≡ Some (number_before q c)))) count due))
      ])

-- ---- a file's sum

-- the sequence number that is due in the session, after the messages of earlier files and those of this one
abbrev due_in : ℕ → List Message → List Message → Option ℕ
due_in d before here = due_of (messages_of d before ++ messages_of d here)

-- the number that a domain goes on with, or none is due yet
abbrev GoesOn : Option ℕ → Option ℕ → Type 0
GoesOn number o = (o ≡ None) ⊎ ((q : ℕ) × (number ≡ Some q) × (o ≡ Some q) × (q < 2 ^ 32))

-- what is due in a file: the same, once it has a message of the domain
pub record FileDue (d : ℕ) (before here : List Message) (o : Option ℕ) : Type 0 where
  pub there : has here d ≡ true → o ≡ due_in d before here
  pub new : has here d ≡ false → GoesOn (due_of (messages_of d before)) o
  pub first : here ≡ [] → o ≡ None

-- and after its head, before a message with this header
record StepDue (d : ℕ) (before here : List Message) (h : Header) (o : Option ℕ) : Type 0 where
  there : has here d ≡ true → o ≡ due_in d before here
  new : has here d ≡ false → GoesOn (number_in before h d) o

due_small : (ms : List Message) (q : ℕ) → due_of ms ≡ Some q → q < 2 ^ 32
due_small [] q e = absurd cc
due_small (m ∷ []) q e = by_test (eqb m.decoding.passed_over.unknown_sets 0) e
  where
    by_test : (b : Bool) → cond b (some_number ((m.header.sequence + count_in m) % 2 ^ 32)) None ≡ Some q → q < 2 ^ 32
    by_test true h = let same : (m.header.sequence + count_in m) % 2 ^ 32 ≡ q = cc in subst (λ (n : ℕ). n < 2 ^ 32) same (mod_small (m.header.sequence + count_in m))
    by_test false h = absurd cc
due_small (m ∷ n ∷ ms) q e = due_small (n ∷ ms) q e

number_small : (before : List Message) (h : Header) (d q : ℕ) → h.sequence < 2 ^ 32 → number_in before h d ≡ Some q → q < 2 ^ 32
number_small before h d q small e = by_due (due_of (messages_of d before)) refl e
  where
    by_test : (b : Bool) → cond b (some_number h.sequence) None ≡ Some q → q < 2 ^ 32
    by_test true k = let same : h.sequence ≡ q = cc in subst (λ (n : ℕ). n < 2 ^ 32) same small
    by_test false k = absurd cc

    by_due : (o : Option ℕ) → due_of (messages_of d before) ≡ o → goes_on_with o h.domain h.sequence d ≡ Some q → q < 2 ^ 32
    by_due None is k = by_test (eqb d h.domain) k
    by_due (Some p) is k = let same : p ≡ q = cc in due_small (messages_of d before) q (is ∙ ap some_number same)

-- in its own domain
number_own : (before : List Message) (h : Header) → number_in before h h.domain ≡ Some (unwrap_or (due_of (messages_of h.domain before)) h.sequence)
number_own before h = by_due (due_of (messages_of h.domain before))
  where
    by_due : (o : Option ℕ) → goes_on_with o h.domain h.sequence h.domain ≡ Some (unwrap_or o h.sequence)
    by_due None = ap (λ (b : Bool). cond b (some_number h.sequence) None) (eq-eqb h.domain h.domain refl)
    by_due (Some p) = refl

number_other : (before : List Message) (h : Header) (d : ℕ) → eqb d h.domain ≡ false → number_in before h d ≡ due_of (messages_of d before)
number_other before h d e = by_due (due_of (messages_of d before))
  where
    by_due : (o : Option ℕ) → goes_on_with o h.domain h.sequence d ≡ o
    by_due None = ap (λ (b : Bool). cond b (some_number h.sequence) None) e
    by_due (Some p) = refl

number_due : (before : List Message) (h : Header) (d q : ℕ) → due_of (messages_of d before) ≡ Some q → number_in before h d ≡ Some q
number_due before h d q e = ap (λ (o : Option ℕ). goes_on_with o h.domain h.sequence d) e

known_numbers : (ds : History) (number : ℕ → Option ℕ) (ks : List Kept) → All (λ k. is_some (number k.domain) ≡ true) (filter (is_written ds number) ks)
known_numbers ds number [] = All-nil (λ (k : Kept). is_some (number k.domain) ≡ true)
known_numbers ds number (k ∷ ks) = by_test (is_written ds number k) refl (known_numbers ds number ks)
  where
    by_test : (b : Bool) → is_written ds number k ≡ b → All (λ k. is_some (number k.domain) ≡ true) (filter (is_written ds number) ks) → All (λ k. is_some (number k.domain) ≡ true) (cond b (k ∷ filter (is_written ds number) ks) (filter (is_written ds number) ks))
    by_test true e more =
        All-cons (λ (j : Kept). is_some (number j.domain) ≡ true) k (filter (is_written ds number) ks)
        (both_true (is_now k.template (template_for ds k.domain k.template.id)) (is_some (number k.domain)) e).1 more
    by_test false e more = more

due_here : (d : ℕ) (before here : List Message) (x : Message) → eqb x.header.domain d ≡ true → due_in d before (here ++ x ∷ []) ≡ due_after x
due_here d before here x e =
    ap (λ (k : List Message). due_of (messages_of d before ++ k)) (own-append d here (x ∷ []) ∙ ap (λ (k : List Message). messages_of d here ++ k) (own_one d x [] e))
    ∙ ap due_of (sym (append_assoc (messages_of d before) (messages_of d here) (x ∷ [])))
    ∙ of_last-push due_after (messages_of d before ++ messages_of d here) x

due_there : (d : ℕ) (before here : List Message) (x : Message) → eqb x.header.domain d ≡ false → due_in d before (here ++ x ∷ []) ≡ due_in d before here
due_there d before here x e =
    ap (λ (k : List Message). due_of (messages_of d before ++ k)) (own-append d here (x ∷ []) ∙ ap (λ (k : List Message). messages_of d here ++ k) (own_other d x [] e) ∙ append-nil (messages_of d here))

has_here : (d : ℕ) (here : List Message) (x : Message) → eqb x.header.domain d ≡ true → has (here ++ x ∷ []) d ≡ true
has_here d here x e = let same : eqb d x.header.domain ≡ true = eqb-sym d x.header.domain ∙ e in has-push here x d ∙ or_right (has here d) (eqb d x.header.domain) same

has_there : (d : ℕ) (here : List Message) (x : Message) → eqb x.header.domain d ≡ false → has (here ++ x ∷ []) d ≡ has here d
has_there d here x e = let other : eqb d x.header.domain ≡ false = eqb-sym d x.header.domain ∙ e in has-push here x d ∙ ap (λ (b : Bool). has here d || b) other ∙ or_false_right (has here d)
  where
    or_false_right : (b : Bool) → (b || false) ≡ b
    or_false_right true = refl
    or_false_right false = refl

at_domain : (d : ℕ) (x : Message) → eqb x.header.domain d ≡ true → x.header.domain ≡ d
at_domain d x e = eqb-true x.header.domain d e

and_not : (a b : Bool) → (a && not b) ≡ true → b ≡ false
and_not true false h = refl
and_not true true h = absurd cc
and_not false b h = absurd cc

and_not_false : (a b : Bool) → (a && not b) ≡ false → b ≡ false → a ≡ false
and_not_false true true h k = absurd cc
and_not_false true false h k = absurd cc
and_not_false false b h k = refl

not_empty : (here : List Message) (x : Message) → here ++ x ∷ [] ≡ [] → ⊥
not_empty here x h = let size : length (here ++ x ∷ []) ≡ 0 = ap length h in omega (arith, size, length-append here (x ∷ []))

module _ (f : Message → Message → ℕ) (g : Option ℕ → ℕ → ℕ) (adds : Adds f g) (d : ℕ) where
  abbrev sum_from : Option ℕ → List Message → ℕ
  sum_from o ms = walk g o ms

  -- the step from a preamble to its message is that of the session
  from_lead : (o : Option ℕ) (n : ℕ) → unwrap_or o n < 2 ^ 32 → g (Some (unwrap_or o n)) n ≡ g o n
  from_lead None n small = adds.due n small ∙ sym (adds.none n)
  from_lead (Some q) n small = refl

  -- a message of the domain, after those that lead it
  one_own : (before here : List Message) (x : Message) (ls rest : List Message) (o : Option ℕ) (b : Bool) → begins_again before here d ≡ b → eqb x.header.domain d ≡ true → LedBy b (stamp_for before x.header) ls
      → StepDue d before here x.header o → sum_from o (messages_of d ls ++ (x ∷ rest)) ≡ g (due_in d before here) x.header.sequence + sum_from (due_after x) rest
  one_own before here x ls rest o true again e led due =
      let s = stamp_for before x.header in
      let l = led.0 in
      let small = led.4.sequence in
      let fresh : has here d ≡ false = and_not (has before d) (has here d) again in
      let own : messages_of d ls ≡ l ∷ led.1 = ap (messages_of d) led.2 ∙ own_leads d s (l ∷ led.1) e led.3 in
      let first : (o ≡ None) ⊎ (o ≡ Some s.sequence) = none_or_own before x e o (due.new fresh) in
      let zero : g o s.sequence ≡ 0 = none_or_zero o s.sequence small first in
      let q : unwrap_or (due_of (messages_of x.header.domain before)) x.header.sequence ≡ unwrap_or (due_of (messages_of d before)) x.header.sequence =
      ap (λ (n : ℕ). unwrap_or (due_of (messages_of n before)) x.header.sequence) (at_domain d x e) in
      let empty : due_in d before here ≡ due_of (messages_of d before) = ap (λ (k : List Message). due_of (messages_of d before ++ k)) (own_none d here fresh) ∙ ap due_of (append-nil (messages_of d before)) in
      let step : g (Some s.sequence) x.header.sequence ≡ g (due_in d before here) x.header.sequence =
      ap (λ (n : ℕ). g (Some n) x.header.sequence) q ∙ from_lead (due_of (messages_of d before)) x.header.sequence (rw q at small) ∙ ap (λ (p : Option ℕ). g p x.header.sequence) (sym empty) in
      ap (λ (k : List Message). sum_from o (k ++ (x ∷ rest))) own
      ∙ leads_walk f g adds s o (l ∷ led.1) (x ∷ rest) small led.3 first zero
      ∙ ap (λ (p : Option ℕ). sum_from p (x ∷ rest)) (leads_behind f g adds s l led.1 small led.3 o)
      ∙ ap (λ (n : ℕ). n + sum_from (due_after x) rest) step
    where
      none_or_own : (before : List Message) (x : Message) → eqb x.header.domain d ≡ true → (o : Option ℕ) → GoesOn (number_in before x.header d) o → (o ≡ None) ⊎ (o ≡ Some (stamp_for before x.header).sequence)
      none_or_own before x e o (inl none) = inl none
      none_or_own before x e o (inr due) =
          let own : number_in before x.header d ≡ Some (stamp_for before x.header).sequence = ap (number_in before x.header) (sym (at_domain d x e)) ∙ number_own before x.header in
          inr (due.2 ∙ ap some_number (same_number due.0 (stamp_for before x.header).sequence (number_in before x.header d) due.1 own))

      none_or_zero : (o : Option ℕ) (n : ℕ) → n < 2 ^ 32 → (o ≡ None) ⊎ (o ≡ Some n) → g o n ≡ 0
      none_or_zero o n small (inl none) = rw none (adds.none n)
      none_or_zero o n small (inr is) = rw is (adds.due n small)
  one_own before here x ls rest o false again e led due =
      let same : g o x.header.sequence ≡ g (due_in d before here) x.header.sequence = by_here (has here d) refl in
      ap (λ (k : List Message). sum_from o (messages_of d k ++ (x ∷ rest))) led ∙ ap (λ (n : ℕ). n + sum_from (due_after x) rest) same
    where
      first_one : due_in d before here ≡ None → GoesOn (number_in before x.header d) o → due_of (messages_of d before) ≡ None → g o x.header.sequence ≡ g (due_in d before here) x.header.sequence
      first_one none (inl is) due_none = ap (λ (p : Option ℕ). g p x.header.sequence) (is ∙ sym none)
      first_one none (inr is) due_none =
          let own : number_in before x.header d ≡ Some (unwrap_or (due_of (messages_of x.header.domain before)) x.header.sequence) = ap (number_in before x.header) (sym (at_domain d x e)) ∙ number_own before x.header in
          let here_none : unwrap_or (due_of (messages_of x.header.domain before)) x.header.sequence ≡ x.header.sequence =
          ap (λ (n : ℕ). unwrap_or (due_of (messages_of n before)) x.header.sequence) (at_domain d x e) ∙ ap (λ (p : Option ℕ). unwrap_or p x.header.sequence) due_none in
          let same : is.0 ≡ x.header.sequence = same_number is.0 x.header.sequence (number_in before x.header d) is.1 (own ∙ ap some_number here_none) in
          let small : x.header.sequence < 2 ^ 32 = subst (λ (n : ℕ). n < 2 ^ 32) same is.3 in
          ap (λ (p : Option ℕ). g p x.header.sequence) (is.2 ∙ ap some_number same) ∙ adds.due x.header.sequence small ∙ sym (adds.none x.header.sequence) ∙ ap (λ (p : Option ℕ). g p x.header.sequence) (sym none)

      by_here : (h : Bool) → has here d ≡ h → g o x.header.sequence ≡ g (due_in d before here) x.header.sequence
      by_here true k = ap (λ (p : Option ℕ). g p x.header.sequence) (due.there k)
      by_here false k =
          let none : has before d ≡ false = and_not_false (has before d) (has here d) again k in
          let both : messages_of d before ++ messages_of d here ≡ [] = rw (own_none d before none, own_none d here k) refl in
          first_one (ap due_of both) (due.new k) (ap due_of (own_none d before none))

  -- what stands before a message of another domain
  others_none : (b : Bool) (s : Stamp) (ls : List Message) → eqb s.domain d ≡ false → LedBy b s ls → messages_of d ls ≡ []
  others_none true s ls e led = ap (messages_of d) led.2 ∙ no_leads d s (led.0 ∷ led.1) e led.3
  others_none false s ls e led = ap (messages_of d) led

  walk_same : (x y : Message) → SameMessage x y → (front rest : List Message) (o : Option ℕ) → sum_from o (front ++ (y ∷ rest)) ≡ sum_from o (front ++ (x ∷ rest))
  walk_same x y same [] rest o =
      ap (λ (h : Header). g o h.sequence + sum_from (due_after y) rest) (sym same.header) ∙ ap (λ (p : Option ℕ). g o x.header.sequence + sum_from p rest) (sym (due_same x y same))
  walk_same x y same (l ∷ front) rest o = ap (λ (n : ℕ). g o l.header.sequence + n) (walk_same x y same front rest (due_after l))

  next_here : (before here : List Message) (x : Message) → eqb x.header.domain d ≡ true → FileDue d before (here ++ x ∷ []) (due_after x)
  next_here before here x e = record { there = λ h. sym (due_here d before here x e); new = λ h. absurd (not_both (has (here ++ x ∷ []) d) (has_here d here x e) h); first = λ h. absurd (not_empty here x h) }
    where
      not_both : (b : Bool) → b ≡ true → b ≡ false → ⊥
      not_both b p q = cc

  next_other : (before here : List Message) (x : Message) (o : Option ℕ) → eqb x.header.domain d ≡ false → StepDue d before here x.header o → FileDue d before (here ++ x ∷ []) o
  next_other before here x o e due = record {
    there = λ h. due.there (sym (has_there d here x e) ∙ h) ∙ sym (due_there d before here x e);
    new = λ h. subst (λ (n : Option ℕ). GoesOn n o) (number_other before x.header d (eqb-sym d x.header.domain ∙ e)) (due.new (sym (has_there d here x e) ∙ h));
    first = λ h. absurd (not_empty here x h);
  }

  -- what stands at the head of a file
  record HeadStep (before here : List Message) (h : Header) (hs rest : List Message) (o : Option ℕ) : Type 0 where
    after : Option ℕ
    sum : sum_from o (messages_of d hs ++ rest) ≡ sum_from after rest
    due : StepDue d before here h after

  head_step : (before here : List Message) (h : Header) (hs rest : List Message) (o : Option ℕ) → HeadGiven before here h hs → FileDue d before here o → HeadStep before here h hs rest o
  head_step before [] h hs rest o given due =
      let number = number_in before h in
      let ks = written before h in
      let few : length ks ≤ 256 = few_written before h in
      let w = head_walk f g adds h.export_time number d ks hs rest o given.0 (known_numbers (known_after [] before) number (kept_after before)) few (inl (due.first refl)) in
      record {
        after = due_behind o (messages_of d hs);
        sum = w.sum;
        due = record { there = λ k. absurd cc; new = λ k. at_end given.1 (due_behind o (messages_of d hs)) w.due };
      }
    where
      at_end : h.sequence < 2 ^ 32 → (p : Option ℕ) → DueBefore (number_in before h) d [] p → GoesOn (number_in before h d) p
      at_end small p (inl none) = inl none
      at_end small p (inr is) =
          let below = number_small before h d is.0 small is.1 in
          inr (is.0, is.1, is.2 ∙ ap some_number (last_number is.0 below), below)
  head_step before (z ∷ zs) h hs rest o none due = record {
    after = o;
    sum = ap (λ (ms : List Message). sum_from o (messages_of d ms ++ rest)) none;
    due = record { there = due.there; new = λ k. again (due.new k) };
  }
    where
      again : GoesOn (due_of (messages_of d before)) o → GoesOn (number_in before h d) o
      again (inl is) = inl is
      again (inr is) = inr (is.0, number_due before h d is.0 is.1, is.2, is.3)

  -- one message of a file, and those that lead it
  step_walk : (before here : List Message) (x y : Message) (xs ls rest : List Message) (o : Option ℕ) (b : Bool) → eqb x.header.domain d ≡ b → SameMessage x y
      → LedBy (begins_again before here x.header.domain) (stamp_for before x.header) ls → StepDue d before here x.header o
      → ((p : Option ℕ) → FileDue d before (here ++ x ∷ []) p → sum_from p (messages_of d rest) ≡ sum_from (due_in d before (here ++ x ∷ [])) (messages_of d xs))
      → sum_from o (messages_of d ls ++ messages_of d (y ∷ rest)) ≡ sum_from (due_in d before here) (messages_of d (x ∷ xs))
  step_walk before here x y xs ls rest o true e same led due more =
      let same_begin : begins_again before here d ≡ begins_again before here x.header.domain = ap (begins_again before here) (sym (at_domain d x e)) in
      let own_y : eqb y.header.domain d ≡ true = ap (λ (h : Header). eqb h.domain d) (sym same.header) ∙ e in
      ap (λ (k : List Message). sum_from o (messages_of d ls ++ k)) (own_one d y rest own_y)
      ∙ walk_same x y same (messages_of d ls) (messages_of d rest) o
      ∙ one_own before here x ls (messages_of d rest) o (begins_again before here x.header.domain) same_begin e led due
      ∙ ap (λ (n : ℕ). g (due_in d before here) x.header.sequence + n) (more (due_after x) (next_here before here x e))
      ∙ ap (λ (p : Option ℕ). g (due_in d before here) x.header.sequence + sum_from p (messages_of d xs)) (due_here d before here x e)
      ∙ ap (sum_from (due_in d before here)) (sym (own_one d x xs e))
  step_walk before here x y xs ls rest o false e same led due more =
      let own_y : eqb y.header.domain d ≡ false = ap (λ (h : Header). eqb h.domain d) (sym same.header) ∙ e in
      ap (λ (k : List Message). sum_from o (k ++ messages_of d (y ∷ rest))) (others_none (begins_again before here x.header.domain) (stamp_for before x.header) ls e led)
      ∙ ap (sum_from o) (own_other d y rest own_y)
      ∙ more o (next_other before here x o e due)
      ∙ ap (λ (p : Option ℕ). sum_from p (messages_of d xs)) (due_there d before here x e)
      ∙ ap (sum_from (due_in d before here)) (sym (own_other d x xs e))

  -- the sum over a file's messages of the domain is that of the session's, from what is due there
  file_walk : (before here xs ys : List Message) (o : Option ℕ) → Tracks before here xs ys → FileDue d before here o → sum_from o (messages_of d ys) ≡ sum_from (due_in d before here) (messages_of d xs)
  file_walk before here [] ys o tracks due = ap (λ (k : List Message). sum_from o (messages_of d k)) tracks
  file_walk before here (x ∷ xs) ys o tracks due =
      let hs = tracks.0 in
      let ls = tracks.1 in
      let y = tracks.2 in
      let rest = tracks.3 in
      let h = head_step before here x.header hs (messages_of d (ls ++ (y ∷ rest))) o tracks.6 due in
      ap (λ (k : List Message). sum_from o (messages_of d k)) tracks.4
      ∙ ap (sum_from o) (own-append d hs (ls ++ (y ∷ rest)))
      ∙ h.sum
      ∙ ap (sum_from h.after) (own-append d ls (y ∷ rest))
      ∙ step_walk before here x y xs ls rest h.after (eqb x.header.domain d) refl tracks.5 tracks.7 h.due
      (λ p next. file_walk before (here ++ x ∷ []) xs rest p tracks.8 next)

  -- ---- all files

  one_file : (before : List Message) (p : Part) (ys : List Message) → GivesAll [] p.file ys → Tracks before [] p.given ys → in_file f d p ≡ sum_from (due_of (messages_of d before)) (messages_of d p.given)
  one_file before p ys gives tracks =
      ap (λ (x : Given). sum_neighbours f (messages_of d x.messages)) (text_gives [] p.file ys gives)
      ∙ sum-walk f g adds (messages_of d ys)
      ∙ file_walk before [] p.given ys None tracks (record { there = λ h. absurd cc; new = λ h. inl refl; first = λ h. refl })
      ∙ ap (λ (k : List Message). sum_from (due_of k) (messages_of d p.given)) (append-nil (messages_of d before))

  due_on : (before more : List Message) → due_behind (due_of (messages_of d before)) (messages_of d more) ≡ due_of (messages_of d (before ++ more))
  due_on before more =
      ap (λ (o : Option ℕ). due_behind o (messages_of d more)) (sym (behind_is (messages_of d before)))
      ∙ sym (due_behind-append None (messages_of d before) (messages_of d more))
      ∙ behind_is (messages_of d before ++ messages_of d more)
      ∙ ap due_of (sym (own-append d before more))

  files_walk : (before : List Message) (ps : List Part) → ReadAlone before ps → in_files f d ps ≡ sum_from (due_of (messages_of d before)) (messages_of d (all_given ps))
  files_walk before [] alone = refl
  files_walk before (p ∷ ps) alone =
      let here = one_file before p alone.0.0 alone.0.1 alone.0.2 in
      let more = files_walk (before ++ p.given) ps alone.1 in
      let o = due_of (messages_of d before) in
      ap₂ (λ (a b : ℕ). a + b) here more
      ∙ ap (λ (q : Option ℕ). sum_from o (messages_of d p.given) + sum_from q (messages_of d (all_given ps))) (sym (due_on before p.given))
      ∙ sym (walk-append g o (messages_of d p.given) (messages_of d (all_given ps)))
      ∙ ap (sum_from o) (sym (own-append d p.given (all_given ps)))

  pub adds_up : (ps : List Part) → ReadAlone [] ps → in_files f d ps ≡ sum_neighbours f (messages_of d (all_given ps))
  adds_up ps alone = files_walk [] ps alone ∙ sym (sum-walk f g adds (messages_of d (all_given ps)))
