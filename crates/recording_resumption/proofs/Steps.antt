-- What becomes of an earlier run's templates, by the datagrams that come.
use Rattle.std.proofs.Common.{◌≡◌, ℕ, ◌≤◌, ◌<◌, Bool, true, false, cond, List, [], ◌∷◌, zero, suc, refl, sym, ap, ◌∙◌, arith, length}
use Rattle.std.specs.Prelude.{not, nat_le, ◌&&◌, ◌||◌}
use Rattle.std.proofs.lemmas.Bool.Decides.{nat_tests}
use Rattle.std.specs.List.{Contains}
use Rattle.recording_resumption.specs.Resumption.{Datagram, IsNotBefore, after_all, goes_on}
use Rattle.recording_resumption.specs.declared.earlier.Earlier.TheVariants.{Ended, Resumed, Waiting}
use Rattle.recording_resumption.specs.declared.last_message.LastMessage.{LastMessage}

pub ended_stays : (ds : List Datagram) → after_all Ended ds ≡ Ended
ended_stays [] = refl
ended_stays (d ∷ ds) = ended_stays ds

both : (a b c : Bool) → (not a && b && c) ≡ true → (a ≡ false) × (c ≡ true)
both false true true e = (refl, refl)
both true b c e = absurd cc
both false false c e = absurd cc
both false true false e = absurd cc

at_most : (a b : ℕ) → nat_le a b ≡ true → a ≤ b
at_most a b e = grind (arith, nat_tests)

-- a datagram among these isn't before the last message
abbrev pub HasOneNotBefore : LastMessage → List Datagram → Type 0
HasOneNotBefore last ds = (d : Datagram) × Contains ds d × IsNotBefore last d.header

pub resumes : (last : LastMessage) (is_doubted : Bool) (ds : List Datagram) → after_all (Waiting last is_doubted) ds ≡ Resumed → HasOneNotBefore last ds
resumes last is_doubted [] is = absurd cc
resumes last is_doubted (d ∷ ds) is = by_test (goes_on last d.header) refl (d.defines || is_doubted) (resumes last true ds) is
  where
    by_test : (goes : Bool) → goes_on last d.header ≡ goes → (ends : Bool) → (after_all (Waiting last true) ds ≡ Resumed → HasOneNotBefore last ds)
        → after_all (cond goes Resumed (cond ends Ended (Waiting last true))) ds ≡ Resumed → HasOneNotBefore last (d ∷ ds)
    by_test true e ends again r = let is = both _ _ _ e in (d, (0, omega arith, refl), (is.0, at_most _ _ is.1))
    by_test false e true again r = let stays : Ended ≡ Resumed = sym (ended_stays ds) ∙ r in absurd cc
    by_test false e false again r = let more = again r in (more.0, (suc more.1.0, omega (arith, more.1.1), more.1.2), more.2)
