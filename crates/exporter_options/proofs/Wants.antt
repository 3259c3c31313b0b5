-- What is told beside records, if nothing of it is wanted, and of the first records of a session.
use Rattle.std.proofs.Common.{◌≡◌, ℕ, Bool, true, false, ◌||◌, List, [], ◌∷◌, ◌++◌, length, Option, None, refl, sym, ap, ◌∙◌, append-nil, arith}
use Rattle.std.specs.Prelude.{if◌then◌else◌}
use Rattle.std.proofs.lemmas.Bool.{cond-true, cond-false, ltb-false}
use Rattle.ipfix_message.specs.Fields.{Field}
use Rattle.ipfix_message.specs.declared.record.DataRecord.{DataRecord}
use Rattle.exporter_options.specs.Known.{Known, has_samplings, init_time_beside, noted, sampling_beside}
use Rattle.exporter_options.specs.declared.init_times.InitTime.{InitTime}
use Rattle.exporter_options.specs.declared.samplings.DomainSampling.{DomainSampling}
use Rattle.exporter_options.specs.Beside.{Asked, all_told, asked_next, init_time_fields, rate_fields, rate_in, with_told}
use Rattle.exporter_options.specs.declared.sampling.Rate.{Rate}

-- whether anything is wanted
abbrev pub wants_any : Asked → Bool
wants_any s = s.wanted.init_time || s.wanted.sampling

no_fields : (a b : Bool) (time : Option ℕ) (rate : Option Rate) → (a || b) ≡ false
    → init_time_fields (if a then time else None) ++ rate_fields (if b then rate else None) ≡ []
no_fields false false time rate none = refl
no_fields true b time rate none = absurd cc
no_fields false true time rate none = absurd cc

pub unwanted_told : (s : Asked) (r : DataRecord) → wants_any s ≡ false → r ≡ with_told s r
unwanted_told s r none =
    let nothing = no_fields s.wanted.init_time s.wanted.sampling (init_time_beside s.known r) (rate_in (sampling_beside s.known r)) none in
    ap (λ (fields : List Field). record { domain = r.domain; export_time = r.export_time; template = r.template; scope = r.scope; fields = fields })
    (sym (ap (λ (l : List Field). r.fields ++ l) nothing ∙ append-nil r.fields))

pub unwanted_next : (s : Asked) (r : DataRecord) → wants_any s ≡ false → s ≡ asked_next s r
unwanted_next s r none = sym (cond-false (wants_any s) (record { wanted = s.wanted; known = noted s.known r }) s none)

pub wanted_next : (s : Asked) (r : DataRecord) → wants_any s ≡ true → record { wanted = s.wanted; known = noted s.known r } ≡ asked_next s r
wanted_next s r some = sym (cond-true (wants_any s) (record { wanted = s.wanted; known = noted s.known r }) s some)

pub unwanted_all : (s : Asked) (q : List DataRecord) → wants_any s ≡ false → all_told s q ≡ q
unwanted_all s [] none = refl
unwanted_all s (r ∷ q) none =
    ap (λ x. x ∷ all_told (asked_next s r) q) (sym (unwanted_told s r none))
    ∙ ap (λ t. r ∷ all_told t q) (sym (unwanted_next s r none))
    ∙ ap (λ (l : List DataRecord). r ∷ l) (unwanted_all s q none)

-- what is told beside the first records of more is told beside them
pub told_append : (s : Asked) (xs ys : List DataRecord) → (t : Asked) × (all_told s (xs ++ ys) ≡ all_told s xs ++ all_told t ys)
told_append s [] ys = (s, refl)
told_append s (x ∷ xs) ys =
    let rest = told_append (asked_next s x) xs ys in
    (rest.0, ap (λ (l : List DataRecord). with_told s x ∷ l) rest.1)

-- where no sampling was told of, there is no rate beside a record
none_of : (times : List InitTime) (samplings : List DomainSampling) (r : DataRecord) → has_samplings (record { init_times = times; samplings = samplings }) ≡ false
    → None ≡ rate_in (sampling_beside (record { init_times = times; samplings = samplings }) r)
none_of times [] r none = refl
none_of times (k ∷ samplings) r none = absurd (omega (arith, ltb-false 0 (length (k ∷ samplings)) none))

pub no_rate : (known : Known) (r : DataRecord) → has_samplings known ≡ false → None ≡ rate_in (sampling_beside known r)
no_rate known r none = none_of known.init_times known.samplings r none
