use Rattle.std.proofs.Common.{◌≡◌, ◌∙◌, ◌+◌, refl, sym, ap, subst, ℕ}
use Rattle.std.specs.Int.NonZero.{non_zero_u16_get}
use Rattle.ipfix_session.specs.MessageCounts.{CounterView, CountsWhole, IsWithinMessage}
use Rattle.ipfix_session.specs.Ledger.{capped}
use Rattle.ipfix_session.proofs.Counting.{going_on, none_begun, reads_within, reads_one}
use Rattle.ipfix_session.proofs.message_counter.MessageCounter.go_on.Goals as goal

pub returns-in-Some : goal.returns-in-Some
returns-in-Some c = λ text part counts within.
    let due : c.args.due ≡ non_zero_u16_get c.in-Some.due = sym c.in-Some.ensures in
    reads_within _ c.args.length (non_zero_u16_get c.in-Some.due) text part (subst (λ (v : CounterView). CountsWhole v.messages v.octets text) (sym c.self.view_is) counts) refl c.in-Some.due.ok
    (subst (λ (n : ℕ). IsWithinMessage c.args.length n (going_on text part)) due within)

pub returns-in-None : goal.returns-in-None
returns-in-None c = λ text part counts within.
    let messages : c.self.inside.messages ≡ c.args.self.now.messages = ap (λ (v : CounterView). v.messages) c.self.view_is in
    let octets : c.self.inside.octets ≡ c.args.self.now.octets = ap (λ (v : CounterView). v.octets) c.self.view_is in
    reads_one c.args.self.now.messages c.args.self.now.octets _ c.args.length text part counts
    (c.saturating_add-self-inside.ensures ∙ ap (λ (n : ℕ). capped (n + 1)) messages)
    (c.saturating_add-self-inside-in-None.ensures ∙ ap (λ (n : ℕ). capped (n + c.from.result)) octets ∙ ap (λ (n : ℕ). capped (c.args.self.now.octets + n)) c.from.ensures)
    (subst (λ (n : ℕ). IsWithinMessage c.args.length n (going_on text part)) c.in-None.ensures within) (none_begun _ c.new-in-None.ensures)
