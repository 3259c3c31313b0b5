-- The names of recordings' files, and what is read of them.
use Rattle.std.proofs.Common.{◌≡◌, ℕ, ◌<◌, ◌^◌, List, [], ◌∷◌, ◌++◌, Option, Some, None, Result, Ok, Err, refl, sym, ap, subst, ◌∙◌, arith, inl, inr}
use Rattle.std.specs.Prelude.{◌⊎◌, IfOk, codes}
use Rattle.std.specs.Fmt.{decimal}
use Rattle.std.specs.Net.Grammar.{IsIpText}
use Rattle.std.specs.declared.net.ip_addr.IpAddr.{IpAddr}
use Rattle.std.proofs.lemmas.Bool.Decides.{eqb_tells}
use Rattle.recording_names.specs.FinishedNames.{IsCopy, copy_text, finished_text}
use Rattle.recording_names.specs.SessionNames.{AreInRange, SessionParts, number_text}
use Rattle.recording_names.specs.declared.transport.Transport.{Transport}
use Rattle.recording_names.specs.declared.transport.Transport.TheVariants.{Connection, Datagrams}
use Rattle.recording_names.proofs.FinishedNames.{at_hyphen, has_hyphen}
use Rattle.recording_names.proofs.Hyphens.{no_hyphen, one_split}
use Rattle.exporter_names.specs.Cuts.{HasNo, joined}
use Rattle.exporter_names.specs.Finding.{Finds}
use Rattle.exporter_names.specs.RecordedExporters.{IsFileName, IsRecorded, IsRecordedExporter, slash, with_colons}
use Rattle.exporter_names.proofs.Cuts.{no_seam, none_in-append, none_in-cons, none_in-nothing, one_cut}

-- ---- the name of a path

pub one_file : (path one other : List ℕ) → IsFileName path one → IsFileName path other → one ≡ other
one_file path one other a b =
    elim a.name_is [
      | inl p ↦ elim b.name_is [ inl q ↦ sym p ∙ q | inr q ↦ absurd (no_seam slash one q.0 other a.last (sym p ∙ q.1)) ]
      | inr p ↦ elim b.name_is [ inl q ↦ absurd (no_seam slash other p.0 one b.last (sym q ∙ p.1)) | inr q ↦ (one_cut slash p.0 q.0 one other a.last b.last (sym p.1 ∙ q.1)).1 ]
    ]

pub recorded_at : {E : Type 0} (path name : List ℕ) (r : Result (Option IpAddr) E) → IsFileName path name → IfOk r (Finds (IsRecorded name)) → IfOk r (Finds (IsRecordedExporter path))
recorded_at path name (Err e) file h = tt
recorded_at path name (Ok None) file h = λ a x. h a (subst (λ (n : List ℕ). IsRecorded n a) (one_file path x.name name x.file file) x.recorded)
recorded_at path name (Ok (Some a)) file h = record { name = name; file = file; recorded = h }

-- ---- the address in a name

copy_has_none : (copy : ℕ) → IsCopy copy → HasNo 45 (copy_text copy)
copy_has_none copy few =
    let ending : HasNo 45 (codes "ipfix") =
    none_in-cons 45 105 (112 ∷ 102 ∷ 105 ∷ 120 ∷ []) (λ e. omega (arith, e)) (none_in-cons 45 112 (102 ∷ 105 ∷ 120 ∷ []) (λ e. omega (arith, e)) (none_in-cons 45 102 (105 ∷ 120 ∷ []) (λ e. omega (arith, e))
    (none_in-cons 45 105 (120 ∷ []) (λ e. omega (arith, e)) (none_in-cons 45 120 [] (λ e. omega (arith, e)) none_in-nothing)))) in
    elim (eqb_tells copy 1) [
      | inl h ↦ rw h.0 ending
      | inr h ↦ rw h.0 (none_in-append 45 (decimal copy) (46 ∷ codes "ipfix") (no_hyphen copy few.1) (none_in-cons 45 46 (codes "ipfix") (λ e. omega (arith, e)) ending))
    ]

number_has_none : (transport : Transport) (number : ℕ) → number < 2 ^ 64 → HasNo 45 (number_text transport number)
number_has_none Connection number small = no_hyphen number small
number_has_none Datagrams number small = none_in-cons 45 117 (decimal number) (λ e. omega (arith, e)) (no_hyphen number small)

one_address : (name : List ℕ) (s t : SessionParts) (c d : ℕ) → AreInRange s → AreInRange t → IsCopy c → IsCopy d → name ≡ finished_text s c → name ≡ finished_text t d → s.address ≡ t.address
one_address name s t c d range fits few small is same =
    let rest = none_in-append 45 (number_text t.transport t.number) (46 ∷ copy_text d) (number_has_none t.transport t.number fits.1) (none_in-cons 45 46 (copy_text d) (λ e. omega (arith, e)) (copy_has_none d small)) in
    let parts = at_hyphen name s c range few is _ _ (has_hyphen name t d fits small same, rest) in
    (one_split s.address t.address (decimal s.port) (decimal t.port) (no_hyphen s.port (omega (arith, range.0))) (no_hyphen t.port (omega (arith, fits.0))) (sym parts.0)).0

pub recorded_in : {E : Type 0} (name : List ℕ) (s : SessionParts) (copy : ℕ) (r : Result (Option IpAddr) E) → AreInRange s → IsCopy copy → name ≡ finished_text s copy
    → IfOk r (Finds (IsIpText (with_colons s.address))) → IfOk r (Finds (IsRecorded name))
recorded_in name s copy (Err e) range few is h = tt
recorded_in name s copy (Ok None) range few is h = λ a x.
    h a (subst (λ (text : List ℕ). IsIpText (with_colons text) a) (one_address name x.session s x.copy copy x.range range x.few few x.name_is is) x.address_is)
recorded_in name s copy (Ok (Some a)) range few is h = record { session = s; copy = copy; range = range; few = few; name_is = is; address_is = h }
