-- What an error of a part tells is what an error of the whole tells.
use Rattle.std.proofs.Common.{◌≡◌, ℕ, true, List, Option, Some, None, refl, sym, ap, subst, ◌∙◌}
use Rattle.std.specs.Prelude.{Result, Ok, Err, IfOk, IfErr, string_bytes}
use Rattle.std.specs.Option.{ok_or}
use Rattle.std.specs.Result.{result_ok}
use Rattle.std.specs.Str.{IsUtf8}
use Rattle.flow_table.specs.declared.key.Key.{Key}
use Rattle.flow_table.specs.Plans.{PlanValue}
use Rattle.toml.specs.Data.{Members}
use Rattle.toml.specs.Parse.{parse_document}
use Rattle.element_registry.specs.Registries.{Known}
use Rattle.flow_plan.specs.declared.fault.PlanTextFault.{PlanTextFault}
use Rattle.flow_plan.specs.declared.fault.PlanTextFault.TheVariants as faults
use Rattle.flow_plan.specs.declared.error.PlanKey.{PlanKey}
use Rattle.flow_plan.specs.declared.error.PlanKey.TheVariants.{Keys, Counters}
use Rattle.flow_plan.specs.declared.error.PlanTextError.{PlanTextError}
use Rattle.flow_plan.specs.declared.error.PlanTextError.TheVariants.{NotUtf8, NotToml, UnknownField, Missing, WrongKind, UnknownElement, Plan, OutOfMemory}
use Rattle.flow_plan.specs.Faults.{Read, Fails}
use Rattle.flow_plan.specs.PlanTexts.{Fields, all_of, counters_in, has_known_fields, fields_of, key_named, keys_in, plan_of_fields, plan_of_document, plan_of_text}
use Rattle.flow_plan.specs.Places.{fault_of, no_counter_in, no_key_in, IsDocument, IsNoDocument, IsNoTextOfDocument, IsPlanError, IsPlanOf, IsUnknown, Tells, TellsKey}
use Rattle.flow_plan.specs.Shown.{GivesOr, IsOfText, IsOfValues, ReadsFields}
use Rattle.flow_plan.proofs.Listed.{none_without}

pub given : {X : Type 0} (o : Option X) (fault : PlanTextFault) → result_ok (ok_or o fault) ≡ o
given None fault = refl
given (Some x) fault = refl

-- a text that names no element, of this key
of_text : {X : Type 0} (known : List Known) (f : Fields) (k : PlanKey) (unknown : Option (List ℕ)) (read : Read X) (e : PlanTextError) → ((text : List ℕ) → unknown ≡ Some text → IsUnknown known f k text)
    → (read ≡ Err faults.UnknownElement → plan_of_fields known f ≡ Err faults.UnknownElement) → Fails (fault_of e) read × IsOfText k unknown e → Fails (fault_of e) (plan_of_fields known f) × IsOfValues known f e
of_text known f k unknown read (UnknownElement key text) is whole h = (whole h.0, subst (λ key. IsUnknown known f key (string_bytes text)) h.1.0 (is (string_bytes text) h.1.1))
of_text known f k unknown read OutOfMemory is whole h = (tt, tt)
of_text known f k unknown read (NotUtf8 line) is whole h = absurd h.1
of_text known f k unknown read (NotToml error line column message) is whole h = absurd h.1
of_text known f k unknown read (UnknownField key) is whole h = absurd h.1
of_text known f k unknown read (Missing key) is whole h = absurd h.1
of_text known f k unknown read (WrongKind key) is whole h = absurd h.1
of_text known f k unknown read (Plan fault place) is whole h = absurd h.1

pub of_keys : (known : List Known) (f : Fields) (e : PlanTextError) → Fails (fault_of e) (keys_in known f.keys) × IsOfText Keys (no_key_in known f.keys) e
    → Fails (fault_of e) (plan_of_fields known f) × IsOfValues known f e
of_keys known f e h = of_text known f Keys (no_key_in known f.keys) (keys_in known f.keys) e (λ text is. is) (λ failed. rw failed refl) h

-- a counter, where each key names one
pub of_counters : (known : List Known) (f : Fields) (keys : List Key) (e : PlanTextError) → keys_in known f.keys ≡ Ok keys
    → Fails (fault_of e) (counters_in known f.counters) × IsOfText Counters (no_counter_in known f.counters) e → Fails (fault_of e) (plan_of_fields known f) × IsOfValues known f e
of_counters known f keys e named h =
    let known_keys = none_without (key_named known) f.keys keys (sym (given (all_of (key_named known) f.keys) faults.UnknownElement) ∙ ap result_ok named) in
    of_text known f Counters (no_counter_in known f.counters) (counters_in known f.counters) e (λ text is. (known_keys, is)) (λ failed. rw named (rw failed refl)) h

-- a key whose value is refused, where no key is unknown
pub of_key : (known : List Known) (d : Members) (e : PlanTextError) → has_known_fields d ≡ true
    → ReadsFields d (Err e) → Fails (fault_of e) (plan_of_document known d) × TellsKey known d e
of_key known d (Missing key) fields h = (rw fields (rw h.0 refl), h.1)
of_key known d (WrongKind key) fields h = (rw fields (rw h.0 refl), h.1)
of_key known d OutOfMemory fields h = (tt, tt)
of_key known d (NotUtf8 line) fields h = absurd h.1
of_key known d (NotToml error line column message) fields h = absurd h.1
of_key known d (UnknownField key) fields h = absurd h.1
of_key known d (UnknownElement key text) fields h = absurd h.1
of_key known d (Plan fault place) fields h = absurd h.1

-- values that make no plan, where no key is unknown and no value is refused
of_values : (known : List Known) (d : Members) (f : Fields) (e : PlanTextError) → has_known_fields d ≡ true → fields_of d ≡ Ok f
    → Fails (fault_of e) (plan_of_fields known f) × IsOfValues known f e → Fails (fault_of e) (plan_of_document known d) × TellsKey known d e
of_values known d f (UnknownElement key text) fields is h = (rw fields (rw is h.0), (f, is, h.1))
of_values known d f (Plan fault place) fields is h = (rw fields (rw is h.0), (f, is, h.1))
of_values known d f OutOfMemory fields is h = (tt, tt)
of_values known d f (NotUtf8 line) fields is h = absurd h.1
of_values known d f (NotToml error line column message) fields is h = absurd h.1
of_values known d f (UnknownField key) fields is h = absurd h.1
of_values known d f (Missing key) fields is h = absurd h.1
of_values known d f (WrongKind key) fields is h = absurd h.1

pub of_fields : (known : List Known) (d : Members) (f : Fields) (r : Result PlanValue PlanTextError) → has_known_fields d ≡ true → fields_of d ≡ Ok f
    → GivesOr (λ plan. plan) (IsOfValues known f) r (plan_of_fields known f) → GivesOr (λ plan. plan) (TellsKey known d) r (plan_of_document known d)
of_fields known d f (Ok plan) fields is h = rw fields (rw is h)
of_fields known d f (Err e) fields is h = of_values known d f e fields is h

-- ---- a document, and the text that it is read from

pub of_document : (known : List Known) (text : List ℕ) (d : Members) (r : Result PlanValue PlanTextError) → parse_document text ≡ Some d
    → GivesOr (λ plan. plan) (TellsKey known d) r (plan_of_document known d) → GivesOr (λ plan. plan) (Tells known text) r (plan_of_text known text)
of_document known text d (Ok plan) is h = rw is h
of_document known text d (Err (UnknownField key)) is h = (rw is h.0, (d, is, h.1))
of_document known text d (Err (Missing key)) is h = (rw is h.0, (d, is, h.1))
of_document known text d (Err (WrongKind key)) is h = (rw is h.0, (d, is, h.1))
of_document known text d (Err (UnknownElement key name)) is h = (rw is h.0, (d, is, h.1))
of_document known text d (Err (Plan fault place)) is h = (rw is h.0, (d, is, h.1))
of_document known text d (Err OutOfMemory) is h = (tt, tt)
of_document known text d (Err (NotUtf8 line)) is h = absurd h.1
of_document known text d (Err (NotToml error line column message)) is h = absurd h.1

-- ---- octets

pub no_text : (known : List Known) (text : List ℕ) (e : PlanTextError) → IsUtf8 text → IsNoTextOfDocument text e → IsPlanError known text e
no_text known text (NotToml error line column message) utf8 n = record { place = (n.1, n.2, n.3, n.4); fault = λ is. rw n.0 refl; not_utf8 = λ no. absurd (no utf8) }
no_text known text OutOfMemory utf8 n = record { place = tt; fault = λ is. tt; not_utf8 = λ no. absurd (no utf8) }
no_text known text (NotUtf8 line) utf8 n = absurd n
no_text known text (UnknownField key) utf8 n = absurd n
no_text known text (Missing key) utf8 n = absurd n
no_text known text (WrongKind key) utf8 n = absurd n
no_text known text (UnknownElement key name) utf8 n = absurd n
no_text known text (Plan fault place) utf8 n = absurd n

pub no_document : (known : List Known) (octets : List ℕ) (e : PlanTextError) → IsNoDocument octets e → IsPlanError known octets e
no_document known octets (NotUtf8 line) n = record { place = n.1; fault = λ utf8. absurd (n.0 utf8); not_utf8 = λ no. refl }
no_document known octets (NotToml error line column message) n = no_text known octets _ n.0 n.1
no_document known octets OutOfMemory n = no_text known octets _ n.0 n.1
no_document known octets (UnknownField key) n = no_text known octets _ n.0 n.1
no_document known octets (Missing key) n = no_text known octets _ n.0 n.1
no_document known octets (WrongKind key) n = no_text known octets _ n.0 n.1
no_document known octets (UnknownElement key name) n = no_text known octets _ n.0 n.1
no_document known octets (Plan fault place) n = no_text known octets _ n.0 n.1

-- what is read of the members of the document of octets
pub of_octets : (known : List Known) (octets : List ℕ) (d : Members) (r : Result PlanValue PlanTextError) → IsDocument octets d → GivesOr (λ plan. plan) (TellsKey known d) r (plan_of_document known d)
    → IfOk r (IsPlanOf known octets) × IfErr r (IsPlanError known octets)
of_octets known octets d (Ok plan) is h = ((is.0, of_document known octets d (Ok plan) is.1 h), tt)
of_octets known octets d (Err e) is h =
    let told = of_document known octets d (Err e) is.1 h in
    (tt, record { place = told.1; fault = λ utf8. told.0; not_utf8 = λ no. absurd (no is.0) })
