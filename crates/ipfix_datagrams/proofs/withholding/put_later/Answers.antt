use Rattle.std.proofs.Common.{◌≡◌, ◌&&◌, ℕ, Bool, eqb, sym, ◌∙◌}
use Rattle.std.specs.Prelude.{◌||◌, option_copied}
use Rattle.std.specs.List.{list_any}
use Rattle.ipfix_datagrams.specs.Late.{is_later, time_in}
use Rattle.ipfix_datagrams.proofs.Kept.{on_kept}
use Rattle.ipfix_datagrams.proofs.LateIds.{put_held, put_none}
use Rattle.ipfix_datagrams.proofs.withholding.put_later.Goals as goal

pub returns-then-is_later : goal.returns-then-is_later
returns-then-is_later c =
    let p : ℕ → Bool = λ id. is_later c.args.reorder c.args.at.now (time_in (option_copied c.args.times) id) in
    let old : ℕ → Bool = λ q. list_any (λ b. eqb b q) c.args.all.now.items in
    let new : ℕ → Bool = λ q. list_any (λ b. eqb b q) c.put_id.new.all.items in
    on_kept c.put_id.result ((q : ℕ) → new q ≡ (old q || eqb c.args.id q)) ((q : ℕ) → new q ≡ (old q || (eqb c.args.id q && p q)))
    (λ h q. put_held p c.args.id q (old q) (new q) (sym c.is_later.ensures ∙ c.if-is_later.true) (h q)) c.put_id.ensures.puts

pub returns : goal.returns
returns c = λ q.
    let p : ℕ → Bool = λ id. is_later c.args.reorder c.args.at.now (time_in (option_copied c.args.times) id) in
    put_none p c.args.id q (list_any (λ b. eqb b q) c.args.all.now.items) (sym c.is_later.ensures ∙ c.if-is_later.false)
