-- The full report of a session, and the domains that are told in it.
use Rattle.std.proofs.Common.{◌≡◌, ℕ, Bool, true, false, cond, List, Option, Some, None, is_some, refl, sym, ap, ◌∙◌}
use Rattle.std.specs.Prelude.{IfSome}
use Rattle.ipfix_message.specs.Domains.{DomainsView, Message}
use Rattle.ipfix_session.specs.declared.fault.SessionFault.{SessionFault}
use Rattle.ipfix_session.specs.declared.report.FullReport.{FullReport}
use Rattle.ipfix_session.specs.declared.stop.Stop.{Stop}
use Rattle.ipfix_session.specs.declared.stop.Stop.TheVariants.{Clean, Short, Fault}
use Rattle.ipfix_session.specs.Faults.{end_within, ends_open, fault_at_end}
use Rattle.ipfix_session.specs.Feeding.{State, StandsForText}
use Rattle.ipfix_session.specs.Given.{given_within, stop_within, IsOpen}
use Rattle.ipfix_session.specs.Places.{AreDomainsOf, CountsInFull, ReportsInFull}
use Rattle.ipfix_session.specs.Reports.{ended_by}

-- what is told if a test holds, and nothing otherwise
told_if : {X : Type 0} (test : Bool) (told : Option X) (x : X) (P : X → Type 0) → told ≡ cond test (Some x) None → (test ≡ true → P x) → (is_some told ≡ test) × IfSome told P
told_if true told x P is holds = rw is (refl, holds refl)
told_if false told x P is holds = rw is (refl, tt)

module _ (r : FullReport) (ms : List Message) (delivered : ℕ) (d : DomainsView) (end : Option SessionFault) (fault : r.report.fault ≡ end) (counts : CountsInFull r ms delivered) (domains : r.domains ≡ cond (ends_open end) (Some d) None) where
  pub in_full : (ends_open end ≡ true → AreDomainsOf ms d) → ReportsInFull r ms delivered
  in_full known =
      let both = told_if (ends_open end) r.domains d (AreDomainsOf ms) domains known in
      record { counts = counts; has_domains = both.0 ∙ ap ends_open (sym fault); in_force = both.1 }

  -- after a fault with which it could not have gone on
  pub in_full_refused : ends_open end ≡ false → ReportsInFull r ms delivered
  in_full_refused refused = in_full (λ goes_on. let no : true ≡ false = sym goes_on ∙ refused in absurd cc)

pub still_refused : (fault : Option SessionFault) (rest : List ℕ) → ends_open fault ≡ false → ends_open (ended_by fault rest) ≡ false
still_refused None rest refused = absurd cc
still_refused (Some fault) rest refused = refused

-- the domains of a session that stands for a text without a fault
pub domains_of_open : (limit : Option ℕ) (s : State) (text : List ℕ) → StandsForText limit s text → IsOpen (stop_within limit text) → AreDomainsOf (given_within limit text).messages s.domains
domains_of_open limit s text stands is_open =
    let on = stands.goes_on is_open in
    record { not_spent = on.not_spent; stands = on.known }

open_end : (s : Stop) → ends_open (fault_at_end s) ≡ true → IsOpen s
open_end Clean e = tt
open_end Short e = tt
open_end (Fault fault) e = absurd cc

pub domains_at_end : (limit : Option ℕ) (s : State) (text : List ℕ) → StandsForText limit s text → ends_open (end_within limit text) ≡ true → AreDomainsOf (given_within limit text).messages s.domains
domains_at_end limit s text stands e = domains_of_open limit s text stands (open_end (stop_within limit text) e)
