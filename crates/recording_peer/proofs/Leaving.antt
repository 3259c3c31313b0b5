-- What is left of an earlier run, after one datagram more.
use Rattle.std.proofs.Common.{◌≡◌, ℕ, Bool, true, false, cond, eqb, List, [], ◌∷◌, ◌++◌, Option, Some, None, Ok, refl, sym, ap, subst, ◌∙◌, append_assoc}
use Rattle.std.proofs.lemmas.List.{append-nil}
use Rattle.std.specs.Prelude.{option_map}
use Rattle.std.specs.Map.{lookup, values_of}
use Rattle.std.specs.Ordering.{nat_cmp, eq_by_cmp}
use Rattle.std.specs.BTreeMap.{BTreeMap, get}
use Rattle.ipfix_wire.specs.declared.header.Header.{Header}
use Rattle.ipfix_message.specs.Domains.{message_header}
use Rattle.ipfix_datagrams.specs.Datagrams.{defines_template}
use Rattle.recording_resumption.specs.Resumption.{LeftAfter, after, due_left, is_resumed, is_waiting, left_after, left_at, resumed_by}
use Rattle.recording_resumption.specs.declared.earlier_domain.EarlierDomain.{EarlierDomain}
use Rattle.recording_peer.specs.Peers.{Taken, Resumed, AreResumed, left_in, resumed_after, resumed_at, resumed_of}
use Rattle.recording_peer.specs.Recording.{FiledDatagrams, KeepsLeft, LeftShown, filed_with, left_listed, left_shown, resumed_for, taken_in}
use Rattle.recording_peer.proofs.PeerFiles.{taken_in-push}

-- ---- as it is shown

abbrev shown : Option EarlierDomain → Option LeftShown
shown o = option_map left_shown o

abbrev left_after_shown : Option LeftShown → Header → Bool → Option LeftShown
left_after_shown None h defines = None
left_after_shown (Some p) h defines = cond (is_waiting (after p.0 h defines)) (Some (after p.0 h defines, p.1)) None

shown_after : (o : Option EarlierDomain) (h : Header) (defines : Bool) → shown (left_after o h defines) ≡ left_after_shown (shown o) h defines
shown_after None h defines = refl
shown_after (Some e) h defines = by_test (is_waiting (after e.state h defines))
  where
    by_test : (b : Bool) → shown (cond b (Some (record e { state = after e.state h defines })) None) ≡ cond b (Some (after e.state h defines, e.templates.entries)) None
    by_test true = refl
    by_test false = refl

abbrev nothing_resumed : Resumed
nothing_resumed = record { templates = []; due = None }

abbrev resumed_shown : Option LeftShown → Header → Resumed
resumed_shown None h = nothing_resumed
resumed_shown (Some p) h = cond (is_resumed (after p.0 h false)) (record { templates = values_of p.1; due = due_left p.0 }) nothing_resumed

shown_resumed : (o : Option EarlierDomain) (h : Header) → resumed_of (resumed_by o h) ≡ resumed_shown (shown o) h
shown_resumed None h = refl
shown_resumed (Some e) h = by_test (is_resumed (after e.state h false))
  where
    by_test : (b : Bool) → resumed_of (cond b (Some e) None) ≡ cond b (record { templates = values_of e.templates.entries; due = due_left e.state }) nothing_resumed
    by_test true = refl
    by_test false = refl

-- of what an earlier run left, this is kept
pub record KeepsIn (now earlier : BTreeMap ℕ EarlierDomain) (ts : List Taken) : Type 0 where
  pub at : (domain : ℕ) → shown (get nat_cmp now domain) ≡ shown (left_in domain (get nat_cmp earlier domain) ts)

lookup-listed : (test : ℕ → Bool) (es : List (ℕ × EarlierDomain)) → lookup test (left_listed es) ≡ shown (lookup test es)
lookup-listed test [] = refl
lookup-listed test (e ∷ es) = by_test (test e.0) (lookup-listed test es)
  where
    by_test : (b : Bool) → lookup test (left_listed es) ≡ shown (lookup test es) → cond b (Some (left_shown e.1)) (lookup test (left_listed es)) ≡ shown (cond b (Some e.1) (lookup test es))
    by_test true more = refl
    by_test false more = more

pub left_as_listed : (m earlier : BTreeMap ℕ EarlierDomain) (ts : List Taken) → KeepsIn m earlier ts → KeepsLeft (left_listed m.entries) earlier ts
left_as_listed m earlier ts keeps = record { at = λ domain. lookup-listed (eq_by_cmp nat_cmp domain) m.entries ∙ keeps.at domain }

pub left_as_kept : (m earlier : BTreeMap ℕ EarlierDomain) (ts : List Taken) → KeepsLeft (left_listed m.entries) earlier ts → KeepsIn m earlier ts
left_as_kept m earlier ts keeps = record { at = λ domain. sym (lookup-listed (eq_by_cmp nat_cmp domain) m.entries) ∙ keeps.at domain }

-- after one datagram
abbrev left_by_shown : ℕ → Option LeftShown → Header → Bool → Option LeftShown
left_by_shown domain o h defines = cond (eqb domain h.domain) (left_after_shown o h defines) o

shown_by : (domain : ℕ) (o : Option EarlierDomain) (h : Header) (defines : Bool) → shown (left_at domain o h defines) ≡ left_by_shown domain (shown o) h defines
shown_by domain o h defines = by_test (eqb domain h.domain)
  where
    by_test : (b : Bool) → shown (cond b (left_after o h defines) o) ≡ cond b (left_after_shown (shown o) h defines) (shown o)
    by_test true = shown_after o h defines
    by_test false = refl

left-push : (domain : ℕ) (o : Option EarlierDomain) (ts : List Taken) (t : Taken) → left_in domain o (ts ++ t ∷ []) ≡ left_at domain (left_in domain o ts) t.given.header (defines_template t.datagram)
left-push domain o [] t = refl
left-push domain o (u ∷ us) t = left-push domain (left_at domain o u.given.header (defines_template u.datagram)) us t

resumed-push : (earlier : BTreeMap ℕ EarlierDomain) (before ts : List Taken) (t : Taken) → AreResumed earlier before ts → t.resumed ≡ resumed_after earlier (before ++ ts) t.given.header → AreResumed earlier before (ts ++ t ∷ [])
resumed-push earlier before [] t are is = (is ∙ ap (λ (us : List Taken). resumed_after earlier us t.given.header) (append-nil before), tt)
resumed-push earlier before (u ∷ us) t are is =
    (are.0, resumed-push earlier (before ++ u ∷ []) us t are.1 (is ∙ ap (λ (vs : List Taken). resumed_after earlier vs t.given.header) (sym (append_assoc before (u ∷ []) us))))

-- what is resumed before a datagram with this header
pub resumed_with : (filed : FiledDatagrams) (m : List ℕ) (h : Header) → message_header m ≡ Ok h → resumed_for filed m ≡ resumed_after filed.earlier (taken_in filed) h
resumed_with filed m h good = ap (resumed_at filed.earlier (taken_in filed)) good

pub are_resumed : (filed : FiledDatagrams) (t : Taken) → AreResumed filed.earlier [] (taken_in filed) → t.resumed ≡ resumed_after filed.earlier (taken_in filed) t.given.header → AreResumed filed.earlier [] (taken_in (filed_with filed t))
are_resumed filed t are is = subst (AreResumed filed.earlier []) (sym (taken_in-push filed t)) (resumed-push filed.earlier [] (taken_in filed) t are is)

-- what is left then
pub keeps_left : (now new : BTreeMap ℕ EarlierDomain) (filed : FiledDatagrams) (t : Taken) → KeepsIn now filed.earlier (taken_in filed)
    → LeftAfter now new t.given.header (defines_template t.datagram) → KeepsIn new filed.earlier (taken_in (filed_with filed t))
keeps_left now new filed t left is = record {
  at = λ q.
      let h = t.given.header in
      let d = defines_template t.datagram in
      let first = get nat_cmp filed.earlier q in
      ap shown (is q) ∙ shown_by q (get nat_cmp now q) h d ∙ ap (λ (o : Option LeftShown). left_by_shown q o h d) (left.at q) ∙ sym (shown_by q (left_in q first (taken_in filed)) h d)
      ∙ ap shown (sym (left-push q first (taken_in filed) t) ∙ ap (left_in q first) (sym (taken_in-push filed t)));
}

-- by what is kept
pub resumed_now : (now : BTreeMap ℕ EarlierDomain) (filed : FiledDatagrams) (h : Header) → KeepsIn now filed.earlier (taken_in filed) → resumed_of (resumed_by (get nat_cmp now h.domain) h) ≡ resumed_after filed.earlier (taken_in filed) h
resumed_now now filed h left =
    shown_resumed (get nat_cmp now h.domain) h ∙ ap (λ (o : Option LeftShown). resumed_shown o h) (left.at h.domain) ∙ sym (shown_resumed (left_in h.domain (get nat_cmp filed.earlier h.domain) (taken_in filed)) h)
