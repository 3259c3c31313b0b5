-- The elements that nothing names, of the templates that are in force at the end of a session, and their line.
use Rattle.std.specs.Prelude.{ℕ, ◌==◌, ◌&&◌, nat_eq, nat_lt, not, is_none, Bool, List, [], ◌∷◌, ◌++◌, codes, decimal, length, map, filter, take, if◌then◌else◌, Option, Some, None, unwrap_or}
use Rattle.std.specs.List.{flat_map}
use Rattle.std.specs.Map.{lookup}
use Rattle.ipfix_wire.specs.declared.specifier.ElementId.{ElementId}
use Rattle.ipfix_elements.specs.Names.{numbered_text}
use Rattle.element_registry.specs.Registries.{Known, listed_name}
use Rattle.ipfix_message.specs.Domains.{DomainsView}
use Rattle.ipfix_message.specs.declared.record.Template.{Template}
use Rattle.ipfix_session.specs.declared.report.DomainReport.{DomainReport}
use Rattle.ipfix_session.specs.declared.report.FullReport.{FullReport}
use Rattle.report_writing.specs.Origins.{session_start}
use Rattle.report_writing.specs.declared.origin.Origin.{Origin}
use Rattle.report_writing.specs.declared.verbosity.Verbosity.{Verbosity}

-- ---- the templates in force (RFC 7011, section 8)

-- those of a domain, by their ids; none, where a message was refused
abbrev pub templates_of : DomainsView → ℕ → List Template
templates_of d domain = if d.spent then [] else map (λ e. e.1) (unwrap_or (lookup (nat_eq domain) d.domains) [])

-- those of the domains of a report, domain by domain in their order
abbrev pub templates_in : DomainsView → List DomainReport → List Template
templates_in d reports = flat_map (λ r. templates_of d r.domain) reports

-- those at the end of a session, domain by domain in the order of its report; none, where none is in force for certain
abbrev pub templates_at : Option DomainsView → List DomainReport → List Template
templates_at None reports = []
templates_at (Some d) reports = templates_in d reports

abbrev pub templates_at_end : FullReport → List Template
templates_at_end full = templates_at full.domains full.report.domains.items

-- ---- their elements

abbrev pub is_unnamed : List Known → ElementId → Bool
is_unnamed known e = is_none (listed_name known e)

-- the elements of a template's field specifiers (RFC 7011, section 3.2) that nothing names under files, field by field
abbrev pub unnamed_in : List Known → Template → List ElementId
unnamed_in known t = filter (is_unnamed known) (map (λ s. s.element) t.specs)

-- those of templates, one after another
abbrev pub unnamed_of : List Known → List Template → List ElementId
unnamed_of known templates = flat_map (unnamed_in known) templates

abbrev pub is_element : ElementId → ElementId → Bool
is_element e other = (other.pen == e.pen) && (other.number == e.number)

-- each element once, where it first appears
abbrev pub each_once : List ElementId → List ElementId
each_once [] = []
each_once (e ∷ es) = e ∷ filter (λ other. not (is_element other e)) (each_once es)

abbrev pub unnamed_elements : List Known → FullReport → List ElementId
unnamed_elements known full = each_once (unnamed_of known (templates_at_end full))

-- ---- their line

-- what contracts see of the elements that a line names: the first ones, and whether there were more
pub record ElementsView : Type 0 where
  pub first : List ElementId
  pub more : Bool

-- how many there are
unfoldable pub count_text : ℕ → List ℕ
count_text count = codes ": elements without a name " ++ (decimal count ++ codes ":")

-- there are more than the line names
unfoldable pub over_text : List ℕ
over_text = codes ": elements without a name over 64:"

abbrev pub number_shown : ℕ → Bool → List ℕ
number_shown count more = if more then over_text else count_text count

-- an element as a dump spells it that has no name
unfoldable pub element_text : ElementId → List ℕ
element_text e = codes " " ++ numbered_text e

-- the first ones, and whether there are more; no line, if there is none
abbrev pub elements_line : ℕ → Origin → ElementsView → List ℕ
elements_line session origin v =
    if length v.first == 0 then [] else session_start session origin ++ (number_shown (length v.first) v.more ++ (flat_map element_text v.first ++ codes "\n"))

abbrev pub unnamed_line : List Known → ℕ → Origin → FullReport → List ℕ
unnamed_line known session origin full =
    let all = unnamed_elements known full in
    elements_line session origin (record { first = take 64 all; more = nat_lt 64 (length all) })

-- the same, if verbose lines are asked for
abbrev pub unnamed_told : Verbosity → List Known → ℕ → Origin → FullReport → List ℕ
unnamed_told verbosity known session origin full = if verbosity.verbose then unnamed_line known session origin full else []
