-- The digest of a session is that of the octets that count.
use Rattle.std.proofs.Common.{◌≡◌, ℕ, ◌<◌, List, ◌++◌, length, take, refl, sym, ap, subst, ◌∙◌, arith, inl, inr}
use Rattle.std.specs.Prelude.{◌⊎◌, ◌^◌, ◌≢◌, ◌≤◌, Bool, true, false, Option, Some, None}
use Rattle.std.specs.Io.KnownBytes.{Consumes}
use Rattle.std.proofs.lemmas.List.{length-append, take-append-le, take_at}
use Rattle.ipfix_wire.specs.Numbers.{IsOctets}
use Rattle.ipfix_session.specs.declared.report.FullReport.{FullReport}
use Rattle.ipfix_session.specs.declared.report.MessagePlace.{MessagePlace}
use Rattle.ipfix_session.specs.declared.session_limits.SessionLimits.{SessionLimits}
use Rattle.ipfix_session.specs.declared.fault.SessionFault.{SessionFault}
use Rattle.ipfix_session.specs.declared.fault.SessionFault.TheVariants as faults
use Rattle.ipfix_message.specs.declared.fault.MessageFault.TheVariants.{OutOfMemory}
use Rattle.ipfix_session.specs.Drives.{IsDueWithin}
use Rattle.ipfix_session.specs.Faults.{ends_open}
use Rattle.ipfix_session.specs.Given.{given_within, stop_within, IsOpen}
use Rattle.ipfix_session.specs.MessageCounts.{CounterView}
use Rattle.ipfix_session.specs.Places.{place_after}
use Rattle.ipfix_session.specs.Sources.{SourceView}
use Rattle.ipfix_session.specs.WholeMessages.{whole_octets}
use Rattle.ipfix_session.proofs.Places.{place_is_within}
use Rattle.sha2.specs.Sha256.{sha256}
use Rattle.input_digests.specs.declared.front_digest.FrontDigest.{FrontDigest}
use Rattle.input_digests.specs.FrontDigests.{HasRead, MayBeUnknown}
use Rattle.input_digests.specs.HashedTexts.{HasHashed, TellsSession}
use Rattle.input_digests.proofs.Counted.{Counted, CountsIn, IsCut, are_octets, counts_in, octets_fit, whole_before}

-- what was given of a text, and what is left of it
pub record IsGivenOf (text gave : List ℕ) : Type 0 where
  pub left : List ℕ
  pub whole : text ≡ gave ++ left

given_of : (text gave : List ℕ) (after : Option (List ℕ)) → Consumes (Some text) after gave → IsGivenOf text gave
given_of text gave None c = absurd c
given_of text gave (Some left) c = record { left = left; whole = c }

-- two that were given of a text, with the same left, are the same
same_given : (text a b left : List ℕ) → text ≡ a ++ left → text ≡ b ++ left → a ≡ b
same_given text a b left p q =
    let long : length a ≡ length b = omega (arith, ap length p, ap length q, length-append a left, length-append b left) in
    sym (take_at a left (length a) refl) ∙ ap (take (length a)) (sym p ∙ q) ∙ take_at b left (length a) (sym long)

both_given : (text a b : List ℕ) (after : Option (List ℕ)) → Consumes (Some text) after a → Consumes (Some text) after b → a ≡ b
both_given text a b None c e = absurd c
both_given text a b (Some left) c e = same_given text a b left c e

-- ---- a session whose report tells of all its messages that count

-- the octets that a session counted of what a source gave, and the digest has read it
pub record CountedOf (digest : FrontDigest) (text : List ℕ) (full : FullReport) (now : SourceView) : Type 0 where
  pub gave : List ℕ
  pub left : List ℕ
  pub whole : text ≡ gave ++ left
  pub sure : ℕ
  pub read : HasRead digest sure gave
  pub small : length gave < 2 ^ 64
  pub counts : CountsIn full.stopped_at.octet gave
  -- more are known to count only after the end, and then the session ended at a message
  pub settled : full.stopped_at.octet < sure → (now.ended ≡ true) × (ends_open full.report.fault ≡ false)

-- no message that counts is after those that are whole, if the session could have gone on
all_if_open : (fault : Option SessionFault) (limits : SessionLimits) (gave : List ℕ) (before after : SourceView) → IsDueWithin fault limits gave before after → ends_open fault ≡ true → IsOpen (stop_within limits.templates gave) × (fault ≢ Some (faults.Message OutOfMemory))
all_if_open None limits gave before after due goes = (subst IsOpen (sym due.0) tt, λ is. absurd cc)
all_if_open (Some faults.Truncated) limits gave before after due goes = (subst IsOpen (sym due.0) tt, λ is. absurd cc)
all_if_open (Some faults.ReadFailed) limits gave before after due goes = (due.0, λ is. absurd cc)
all_if_open (Some faults.TooManyReads) limits gave before after due goes = (due.0, λ is. absurd cc)
all_if_open (Some (faults.Message e)) limits gave before after due goes = absurd cc
all_if_open (Some faults.SinkClosed) limits gave before after due goes = absurd cc

pub counted_of : {S : Type 0} (seen : S → SourceView) (limits : SessionLimits) (before after : S) (full : FullReport) (digest : FrontDigest) (messages : CounterView) (text : List ℕ)
    → IsCut → length text < 2 ^ 64 → (seen before).text ≡ Some text → TellsSession seen limits before after full → HasHashed digest messages (Some text) (seen after) → CountedOf digest text full (seen after)
counted_of seen limits before after full digest messages text is_cut small start t h =
    let g = t.given in
    let stops = g.given.stops in
    let given : Consumes (Some text) (seen after).text g.gave = subst (λ (o : Option (List ℕ)). Consumes o (seen after).text g.gave) start g.given.octets in
    let of = given_of text g.gave (seen after).text given in
    let same : h.gave ≡ g.gave = both_given text h.gave g.gave (seen after).text h.given given in
    let octets : IsOctets g.gave = subst IsOctets same (are_octets h.gave h.octets) in
    let less : length g.gave < 2 ^ 64 = omega (arith, ap length of.whole, length-append g.gave of.left, small) in
    let c : Counted (given_within limits.templates stops.earlier).messages (given_within limits.templates g.gave).messages full.stopped_at = record { messages = g.counted; from = g.earlier; up_to = g.first; is = t.told.counts.stopped_at } in
    record {
      gave = g.gave;
      left = of.left;
      whole = of.whole;
      sure = h.sure;
      read = subst (HasRead digest h.sure) same h.read;
      small = less;
      counts = counts_in limits.templates is_cut g.gave stops.earlier stops.last full.stopped_at octets less stops.is stops.size stops.no_fault c;
      settled = by_end same less h.settled;
    }
  where
    by_fault : length t.given.gave < 2 ^ 64 → h.sure ≤ whole_octets t.given.gave → full.stopped_at.octet < h.sure → (goes : Bool) → ends_open full.report.fault ≡ goes → ends_open full.report.fault ≡ false
    by_fault less few more false is = is
    by_fault less few more true is =
        let g = t.given in
        let goes = all_if_open full.report.fault limits g.gave (seen before) (seen after) g.given.fault_is_due is in
        let all = g.all goes.1 in
        let place = ap (λ (p : MessagePlace). p.octet) (t.told.counts.stopped_at ∙ ap place_after all ∙ place_is_within limits.templates g.gave) in
        let whole = whole_before limits.templates is_cut g.gave goes.0 in
        let long = octets_fit limits.templates is_cut g.gave in
        absurd (omega (arith, few, more, place, whole, long, less))

    by_end : h.gave ≡ t.given.gave → length t.given.gave < 2 ^ 64 → (h.sure ≡ 0) ⊎ (((seen after).ended ≡ true) × (h.sure ≤ whole_octets h.gave)) → full.stopped_at.octet < h.sure → ((seen after).ended ≡ true) × (ends_open full.report.fault ≡ false)
    by_end same less (inl none) more = absurd (omega (arith, none, more))
    by_end same less (inr some) more = (some.0, by_fault less (subst (λ (xs : List ℕ). h.sure ≤ whole_octets xs) same some.1) more (ends_open full.report.fault) refl)

-- the digest that was found is that of the octets that count
pub digested : (digest : FrontDigest) (text : List ℕ) (full : FullReport) (now : SourceView) (sha : List ℕ) → CountedOf digest text full now
    → ((sure : ℕ) (t : List ℕ) → HasRead digest sure t → length t < 2 ^ 64 → sha ≡ sha256 (take full.stopped_at.octet t)) → sha ≡ sha256 (take full.stopped_at.octet text)
digested digest text full now sha c is =
    is c.sure c.gave c.read c.small ∙ ap sha256 (sym (ap (take full.stopped_at.octet) c.whole ∙ take-append-le full.stopped_at.octet c.gave c.left c.counts.at_most))

-- and none is found only of a session that ended at a message, after the end of its source
pub none_digested : (digest : FrontDigest) (text : List ℕ) (full : FullReport) (now : SourceView) → CountedOf digest text full now
    → ((sure : ℕ) (t : List ℕ) → HasRead digest sure t → length t < 2 ^ 64 → MayBeUnknown full.stopped_at.octet sure t) → (now.ended ≡ true) × (ends_open full.report.fault ≡ false)
none_digested digest text full now c none =
    elim (none c.sure c.gave c.read c.small) [
      | inl few ↦ absurd (omega (arith, few, c.counts.at_most))
      | inr (inl more) ↦ c.settled more
      | inr (inr many) ↦ absurd (omega (arith, many, c.counts.at_least))
    ]
