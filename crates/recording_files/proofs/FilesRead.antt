-- Each file of a recording is read by itself.
use Rattle.std.proofs.Common.{◌≡◌, ℕ, ◌^◌, ◌<◌, Bool, true, false, cond, eqb, List, [], ◌∷◌, ◌++◌, Option, refl, sym, ap, subst, ◌∙◌, append_assoc, arith, inl, inr}
use Rattle.std.specs.Prelude.{◌⊎◌, ◌||◌, ◌&&◌, not, All, MatchBool}
use Rattle.std.specs.Map.{lookup}
use Rattle.std.specs.Option.{unwrap_or}
use Rattle.std.proofs.lemmas.Bool.{cases_Bool, eq-eqb}
use Rattle.std.proofs.lemmas.List.{append-nil}
use Rattle.std.proofs.lemmas.List.Elements.{All-filter}
use Rattle.ipfix_wire.specs.declared.header.Header.{Header}
use Rattle.ipfix_wire.proofs.Choices.{or_right}
use Rattle.ipfix_message.specs.declared.template_record.Event.{Event}
use Rattle.ipfix_message.specs.TemplatesInForce.{in_force}
use Rattle.ipfix_message.specs.Domains.{History, Message, events_in}
use Rattle.ipfix_message.proofs.History.{none_is}
use Rattle.ipfix_session.specs.Given.{known_after, records_in}
use Rattle.ipfix_message.specs.Alike.{SameInForce, SameMessage, knows, IsPartOf}
use Rattle.ipfix_message.specs.declared.stamp.Stamp.{Stamp}
use Rattle.recording_files.specs.Heads.{BeginsWith, is_written, number_in, written}
use Rattle.recording_files.specs.KeptOptions.{kept_after}
use Rattle.recording_files.specs.Preambles.{IsStamp}
use Rattle.recording_files.specs.Recordings.{has, begins_again, stamp_for, Leads, Writes, Part, Recorded}
use Rattle.ipfix_message.proofs.PartsOf.{was_read, part_reads, itself_part, or_left}
use Rattle.ipfix_session.proofs.Chains.{GivesAll, gives-append, known-append}
use Rattle.ipfix_message.proofs.TemplateMessages.{Below}
use Rattle.recording_files.proofs.Beside.{Beside, BesideOf, IsSession, beside_leads, beside_reads, has-append, has-push, room_beside, unknown_beside}
use Rattle.recording_files.proofs.HeadsRead.{HeadRead, head_read, now_in_force}
use Rattle.recording_files.proofs.KeptCopied.{IsCopied, copied}
use Rattle.recording_files.proofs.PreamblesRead.{IsLead, led}

-- what a file gives: the messages of the session, before the first of them those of its head, and before some of them those of preambles
abbrev pub HeadGiven : List Message → List Message → Header → List Message → Type 0
HeadGiven before [] h hs = HeadRead h.export_time (number_in before h) (written before h) hs × (h.sequence < 2 ^ 32)
HeadGiven before (z ∷ zs) h hs = hs ≡ []

abbrev pub LedBy : Bool → Stamp → List Message → Type 0
LedBy true s ls = (l : Message) × (more : List Message) × (ls ≡ l ∷ more) × All (IsLead s) (l ∷ more) × IsStamp s
LedBy false s ls = ls ≡ []

abbrev pub Tracks : List Message → List Message → List Message → List Message → Type 0
Tracks before here [] ys = ys ≡ []
Tracks before here (x ∷ xs) ys =
    (hs : List Message) × (ls : List Message) × (y : Message) × (rest : List Message) × (ys ≡ hs ++ (ls ++ (y ∷ rest))) × SameMessage x y
    × HeadGiven before here x.header hs × LedBy (begins_again before here x.header.domain) (stamp_for before x.header) ls × Tracks before (here ++ x ∷ []) xs rest

itself : (n : ℕ) → eqb n n ≡ true
itself n = eq-eqb n n refl

both_true : (a b : Bool) → (a && not b) ≡ true → (a ≡ true) × (b ≡ false)
both_true true false h = (refl, refl)
both_true true true h = absurd cc
both_true false b h = absurd cc

not_before : (a b : Bool) → (a && not b) ≡ false → b ≡ false → (a || b) ≡ false
not_before true true h k = absurd cc
not_before true false h k = absurd cc
not_before false b h k = k

no_events : (ds : History) (q : ℕ) → knows ds q ≡ false → events_in ds q ≡ []
no_events ds q f = ap (λ (o : Option (List Event)). unwrap_or o []) (none_is (lookup (eqb q) ds) f)

none_below : (full : List Event) → Below [] full
unfolding in_force
none_below full = record { at = λ id. inl refl }

-- ---- the head of a file

record Headed (before here : List Message) (fs : History) (h : Header) (head : List (List ℕ)) : Type 0 where
  given : List Message
  is : GivesAll fs head given
  reads : HeadGiven before here h given
  beside : Beside before here (known_after fs given)

headed : (before here : List Message) (fs : History) (h : Header) (head : List (List ℕ)) → Beside before here fs → BeginsWith before here h head → Headed before here fs h head
headed before [] fs h head b begins =
    let ds = known_after [] before in
    let rs = records_in before in
    let number = number_in before h in
    let beside : BesideOf ds before [] fs = subst (λ (ms : List Message). BesideOf (known_after [] ms) ms [] fs) (append-nil before) b in
    let r = head_read ds before fs h.export_time number rs (written before h) beside begins.export_time (All-filter (is_written ds number) (IsCopied rs) (kept_after before) (copied before)) begins.writable
    (now_in_force ds number (kept_after before)) in
    record {
      given = r.given;
      is = subst (λ (w : List (List ℕ)). GivesAll fs w r.given) (sym begins.is) r.is;
      reads = (r.reads, begins.sequence);
      beside = subst (λ (ms : List Message). BesideOf (known_after [] ms) ms [] (known_after fs r.given)) (sym (append-nil before)) r.beside;
    }
headed before (z ∷ zs) fs h head b none = record { given = []; is = rw none tt; reads = refl; beside = b }

-- ---- a domain's preamble

-- what a domain's first messages in a file are led by: after it the file has the domain's templates
record Leading (before here : List Message) (fs : History) (x : Message) (lead : List (List ℕ)) : Type 0 where
  given : List Message
  is : GivesAll fs lead given
  led_by : LedBy (begins_again before here x.header.domain) (stamp_for before x.header) given
  beside : Beside before here (known_after fs given)
  known : knows (known_after fs given) x.header.domain ≡ knows (known_after [] (before ++ here)) x.header.domain
  same : SameInForce (events_in (known_after [] (before ++ here)) x.header.domain) (events_in (known_after fs given) x.header.domain)

leading : (before here : List Message) (fs : History) (x : Message) (lead : List (List ℕ)) → Beside before here fs
    → MatchBool (begins_again before here x.header.domain) (Leads before here x.header lead) (lead ≡ []) → Leading before here fs x lead
leading before here fs x lead b precedes = by_cases (begins_again before here x.header.domain) refl precedes
  where
    by_here : begins_again before here x.header.domain ≡ false → lead ≡ [] → (has here x.header.domain ≡ true) ⊎ (has here x.header.domain ≡ false) → Leading before here fs x lead
    by_here e none (inl t) =
        let whole = b.whole x.header.domain t in
        let there : knows (known_after [] (before ++ here)) x.header.domain ≡ true =
        b.session.knows_at x.header.domain ∙ has-append before here x.header.domain ∙ or_right (has before x.header.domain) (has here x.header.domain) t in
        record { given = []; is = rw none tt; led_by = rw e refl; beside = b; known = whole.0 ∙ sym there; same = whole.1 }
    by_here e none (inr f) =
        let new : knows (known_after [] (before ++ here)) x.header.domain ≡ false =
        b.session.knows_at x.header.domain ∙ has-append before here x.header.domain ∙ not_before (has before x.header.domain) (has here x.header.domain) e f in
        let unknown = unknown_beside (known_after [] (before ++ here)) (before ++ here) here fs x.header.domain b new in
        let empty : events_in (known_after [] (before ++ here)) x.header.domain ≡ events_in fs x.header.domain =
        no_events (known_after [] (before ++ here)) x.header.domain new ∙ sym (no_events fs x.header.domain unknown) in
        record {
          given = [];
          is = rw none tt;
          led_by = rw e refl;
          beside = b;
          known = unknown ∙ sym new;
          same = subst (SameInForce (events_in (known_after [] (before ++ here)) x.header.domain)) empty (record { at = λ id. refl });
        }

    by_cases : (c : Bool) → begins_again before here x.header.domain ≡ c → MatchBool c (Leads before here x.header lead) (lead ≡ []) → Leading before here fs x lead
    by_cases false e none = by_here e none (cases_Bool (has here x.header.domain))
    by_cases true e leads =
        let two = both_true (has before x.header.domain) (has here x.header.domain) e in
        let there : knows (known_after [] (before ++ here)) x.header.domain ≡ true =
        b.session.knows_at x.header.domain ∙ has-append before here x.header.domain ∙ or_left (has before x.header.domain) (has here x.header.domain) two.0 in
        let full = events_in (known_after [] (before ++ here)) x.header.domain in
        let l = led fs (stamp_for before x.header) leads.templates lead full leads.fits (room_beside (known_after [] (before ++ here)) (before ++ here) here fs x.header.domain b there) leads.is leads.spelled leads.in_force (b.below x.header.domain) in
        let news = known_after fs (l.first ∷ l.others) in
        let now : events_in news x.header.domain ≡ l.events = l.steps.events_at x.header.domain ∙ ap (λ (c : Bool). cond c l.events (events_in fs x.header.domain)) (itself x.header.domain) in
        record {
          given = l.first ∷ l.others;
          is = l.is;
          led_by = rw e (l.first, l.others, refl, l.leads, leads.fits);
          beside = beside_leads (known_after [] (before ++ here)) (before ++ here) here fs news x.header.domain l.events b l.steps there (record { at = λ id. inr (sym (l.same.at id)) }) (λ h. l.same);
          known = l.steps.knows_at x.header.domain ∙ or_right (knows fs x.header.domain) (eqb x.header.domain x.header.domain) (itself x.header.domain) ∙ sym there;
          same = subst (SameInForce full) (sym now) l.same;
        }

-- ---- a file

-- the messages of a file are read: each as in the session, and those of its head and of preambles before them
pub record FileRead (before here xs : List Message) (fs : History) (w : List (List ℕ)) : Type 0 where
  pub given : List Message
  pub is : GivesAll fs w given
  pub tracks : Tracks before here xs given
  pub beside : Beside before (here ++ xs) (known_after fs given)

pub file_read : (before here : List Message) (ms : List (List ℕ)) (xs : List Message) (w : List (List ℕ)) (fs : History) → Beside before here fs → Writes before here ms xs w → FileRead before here xs fs w
file_read before here [] [] w fs b writes = record { given = []; is = rw writes tt; tracks = refl; beside = subst (λ (ns : List Message). Beside before ns fs) (sym (append-nil here)) b }
file_read before here [] (x ∷ xs) w fs b writes = absurd writes
file_read before here (m ∷ ms) [] w fs b writes = absurd writes
file_read before here (m ∷ ms) (x ∷ xs) w fs b writes =
    let ds = known_after [] (before ++ here) in
    let rest = writes.1 in
    let p = writes.4 in
    let h = headed before here fs x.header p.head b p.begins in
    let after_head = known_after fs h.given in
    let l = leading before here after_head x p.own h.beside p.leads in
    let one = beside_reads ds (before ++ here) here (known_after after_head l.given) m x l.beside l.known l.same (was_read ds m x writes.3) in
    let y = one.given in
    let now : known_after [] (before ++ (here ++ x ∷ [])) ≡ x.domains = ap (known_after []) (sym (append_assoc before here (x ∷ []))) ∙ known-append [] (before ++ here) (x ∷ []) in
    let next : Beside before (here ++ x ∷ []) y.domains =
    subst (λ (k : History). BesideOf k (before ++ (here ++ x ∷ [])) (here ++ x ∷ []) y.domains) (sym now)
    (subst (λ (ns : List Message). BesideOf x.domains ns (here ++ x ∷ []) y.domains) (append_assoc before here (x ∷ [])) one.beside) in
    let more = file_read before (here ++ x ∷ []) ms xs rest y.domains next writes.5 in
    let inner : GivesAll after_head (p.own ++ (m ∷ rest)) (l.given ++ (y ∷ more.given)) = gives-append after_head p.own (m ∷ rest) l.given (y ∷ more.given) l.is (one.is, more.is) in
    let all : GivesAll fs (p.head ++ (p.own ++ (m ∷ rest))) (h.given ++ (l.given ++ (y ∷ more.given))) = gives-append fs p.head (p.own ++ (m ∷ rest)) h.given (l.given ++ (y ∷ more.given)) h.is inner in
    let whole : w ≡ p.head ++ (p.own ++ (m ∷ rest)) = writes.2 ∙ ap (λ (lead : List (List ℕ)). lead ++ (m ∷ rest)) p.is ∙ append_assoc p.head p.own (m ∷ rest) in
    let end : known_after fs (h.given ++ (l.given ++ (y ∷ more.given))) ≡ known_after y.domains more.given =
    known-append fs h.given (l.given ++ (y ∷ more.given)) ∙ known-append after_head l.given (y ∷ more.given) in
    record {
      given = h.given ++ (l.given ++ (y ∷ more.given));
      is = subst (λ (v : List (List ℕ)). GivesAll fs v (h.given ++ (l.given ++ (y ∷ more.given)))) (sym whole) all;
      tracks = (h.given, l.given, y, more.given, refl, one.same, h.reads, l.led_by, more.tracks);
      beside = subst (λ (k : History). Beside before (here ++ (x ∷ xs)) k) (sym end) (subst (λ (ns : List Message). Beside before ns (known_after y.domains more.given)) (append_assoc here (x ∷ []) xs) more.beside);
    }

-- ---- the session goes on after a file

pub writes_session : (before here : List Message) (ms : List (List ℕ)) (xs : List Message) (w : List (List ℕ)) → Writes before here ms xs w → GivesAll (known_after [] (before ++ here)) ms xs
writes_session before here [] [] w writes = tt
writes_session before here [] (x ∷ xs) w writes = absurd writes
writes_session before here (m ∷ ms) [] w writes = absurd writes
writes_session before here (m ∷ ms) (x ∷ xs) w writes =
    let now : known_after [] (before ++ (here ++ x ∷ [])) ≡ x.domains = ap (known_after []) (sym (append_assoc before here (x ∷ []))) ∙ known-append [] (before ++ here) (x ∷ []) in
    (writes.3, rw now at (writes_session before (here ++ x ∷ []) ms xs writes.1 writes.5))

pub session_goes_on : (ds : History) (old : List Message) (ms : List (List ℕ)) (xs : List Message) → IsSession ds old → GivesAll ds ms xs → IsSession (known_after ds xs) (old ++ xs)
session_goes_on ds old [] [] is h = rw (append-nil old) is
session_goes_on ds old [] (x ∷ xs) is h = absurd h
session_goes_on ds old (m ∷ ms) [] is h = absurd h
session_goes_on ds old (m ∷ ms) (x ∷ xs) is h =
    let r = was_read ds m x h.0 in
    let whole : IsPartOf ds ds = itself_part ds is.few in
    let one = part_reads ds ds m x whole refl r in
    let next : IsSession x.domains (old ++ x ∷ []) = record {
      few = one.3.few;
      knows_at = λ q. r.steps.knows_at q ∙ ap (λ (b : Bool). b || eqb q x.header.domain) (is.knows_at q) ∙ sym (has-push old x q);
    } in
    subst (IsSession (known_after x.domains xs)) (append_assoc old (x ∷ []) xs) (session_goes_on x.domains (old ++ x ∷ []) ms xs next h.1)

-- no file knows a domain before its first message
pub begins : (before : List Message) → IsSession (known_after [] before) before → Beside before [] []
begins before is = record {
  session = rw (append-nil before) is;
  twin = [];
  keys = refl;
  part = record { few = rw (append-nil before) is.few; some = omega arith; known = λ q h. absurd cc; templates = λ q h. absurd cc };
  below = λ q. none_below (events_in (known_after [] (before ++ [])) q);
  whole = λ q h. absurd cc;
}

-- the next file begins where one ends
pub turned : (before here : List Message) (fs : History) → Beside before here fs → Beside (before ++ here) [] fs
turned before here fs b =
    let next : BesideOf (known_after [] (before ++ here)) (before ++ here) [] fs =
    record { session = b.session; twin = b.twin; keys = b.keys; part = b.part; below = b.below; whole = λ q h. absurd cc } in
    subst (λ (ms : List Message). BesideOf (known_after [] ms) ms [] fs) (sym (append-nil (before ++ here))) next

pub none_yet : IsSession [] []
none_yet = record { few = omega arith; knows_at = λ q. refl }

-- ---- all files

abbrev pub ReadAlone : List Message → List Part → Type 0
ReadAlone before [] = Unit {0}
ReadAlone before (p ∷ ps) = ((ys : List Message) × GivesAll [] p.file ys × Tracks before [] p.given ys) × ReadAlone (before ++ p.given) ps

pub files_read : (before : List Message) (ps : List Part) → IsSession (known_after [] before) before → Recorded before ps → ReadAlone before ps
files_read before [] is recorded = tt
files_read before (p ∷ ps) is recorded =
    let given : GivesAll (known_after [] before) p.messages p.given = rw (append-nil before) at (writes_session before [] p.messages p.given p.file recorded.0) in
    let next : IsSession (known_after [] (before ++ p.given)) (before ++ p.given) = rw (known-append [] before p.given) (session_goes_on (known_after [] before) before p.messages p.given is given) in
    let file = file_read before [] p.messages p.given p.file [] (begins before is) recorded.0 in
    ((file.given, file.is, file.tracks), files_read (before ++ p.given) ps next recorded.1)
