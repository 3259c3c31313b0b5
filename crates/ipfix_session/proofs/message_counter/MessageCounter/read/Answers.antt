use Rattle.std.proofs.Common.{◌≡◌, ◌∙◌, ◌++◌, [], ◌∷◌, List, ℕ, length, refl, sym, ap, subst, rules, arith}
use Rattle.std.proofs.lemmas.List.{append-nil}
use Rattle.std.proofs.lemmas.Bool.Decides.{nat_tests}
use Rattle.ipfix_session.specs.MessageCounts.{HasRead}
use Rattle.ipfix_session.proofs.message_counter.MessageCounter.read.Goals as goal

none_left : (w : List ℕ) → length w ≡ 0 → w ≡ []
none_left [] e = refl
none_left (b ∷ w) e = absurd (omega (arith, e))

pub returns : goal.returns
returns c =
    let size : length c.loop-left.left.now ≡ 0 = first_of (search rules, grind (arith, nat_tests)) in
    let none : c.loop-left.left.now ≡ [] = none_left c.loop-left.left.now size in
    λ text has.
    let reading = c.loop-left.invariant text has in
    let whole = sym (append-nil reading.front) ∙ ap (λ (w : List ℕ). reading.front ++ w) (sym none) ∙ reading.whole in
    subst (λ (w : List ℕ). HasRead c.loop-left.self w) whole reading.has_read
