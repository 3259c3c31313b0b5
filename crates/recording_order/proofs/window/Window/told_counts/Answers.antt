use Rattle.std.proofs.Common.{◌≡◌, ◌∙◌, ◌+◌, ◌∷◌, ◌++◌, [], ℕ, List, Some, true, false, cond, ap, sym, subst, Bool, Vec, Global, rules, arith}
use Rattle.std.specs.Prelude.{slice_get}
use Rattle.recording_order.specs.Counts.{counts_of, is_told}
use Rattle.recording_order.specs.declared.numbering.Numbering.{Numbering}
use Rattle.recording_order.specs.declared.order_counts.OrderCounts.{OrderCounts}
use Rattle.recording_order.proofs.Counting.{told, told-next}
use Rattle.recording_order.proofs.window.Window.told_counts.Goals as goal
use Rattle.recording_order.proofs.window.Window.told_counts.Goals.{then-is_told+in_ok-push, else-is_told}

pub loop-index-preserved : goal.loop-index-preserved
loop-index-preserved c =
    let index = c.loop-index.index in
    let es : List (ℕ × Numbering) = c.args.self.now.numbers in
    let e : ℕ × Numbering = (c.unwrap.result.0.now, c.unwrap.result.1.now) in
    let at : slice_get es index ≡ Some e = search rules in
    let next = told-next index (index + 1) es e (omega arith) at in
    elim c.if-is_told.branch [
      | then-is_told+in_ok-push w ↦
          let is : is_told (counts_of e) ≡ true = sym w.if-is_told.ensures in
          let more : told index es ++ counts_of e ∷ [] ≡ told (index + 1) es = subst (λ (b : Bool). cond b (told index es ++ counts_of e ∷ []) (told index es) ≡ told (index + 1) es) is next in
          ap (λ (v : Vec OrderCounts Global). v.items) w.told-is ∙ w.in_ok-push.ensures.items ∙ ap (λ (cs : List OrderCounts). cs ++ counts_of e ∷ []) c.loop-index.invariant ∙ more
      | else-is_told w ↦
          let is : is_told (counts_of e) ≡ false = sym w.if-is_told.ensures in
          let more : told index es ≡ told (index + 1) es = subst (λ (b : Bool). cond b (told index es ++ counts_of e ∷ []) (told index es) ≡ told (index + 1) es) is next in
          ap (λ (v : Vec OrderCounts Global). v.items) w.told-is ∙ c.loop-index.invariant ∙ more
    ]
