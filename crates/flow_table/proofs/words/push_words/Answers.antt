use Rattle.std.proofs.Common.{ℕ, ◌≡◌, ◌+◌, ◌*◌, ◌^◌, ◌++◌, ◌∷◌, [], ◌∙◌, ap, arith, rules}
use Rattle.flow_table.proofs.WordSteps.{push_one, push_pair, push_two}
use Rattle.flow_table.proofs.words.push_words.Goals as goal

pub returns-in_ok-push-in-Short : goal.returns-in_ok-push-in-Short
returns-in_ok-push-in-Short c =
    let first : c.from.result ≡ c.in-Some.first = search rules in
    let second : c.from-in-Short.result ≡ c.in-Short.word = search rules in
    let same : c.from.result * 2 ^ 32 + c.from-in-Short.result ≡ c.in-Some.first * 2 ^ 32 + c.in-Short.word = omega (arith, first, second) in
    rw c.in-Short.is
    (push_pair c.args.half c.in-Some.first c.in-Short.word c.args.words.now.items c.push.new.self.items c.in-Some.is (c.in_ok-push-in-Short.ensures.items ∙ ap (λ (word : ℕ). c.args.words.now.items ++ word ∷ []) same))

pub returns-in_ok-push-in-One : goal.returns-in_ok-push-in-One
returns-in_ok-push-in-One c =
    rw c.in-One.is (push_one c.args.half c.in-One.word c.args.words.now.items c.push_half.new.words.items c.push-in-One.new.self.items c.in_ok-push_half-in-One.ensures c.in_ok-push-in-One.ensures.items)

pub returns-in_ok-push-in-Two-2 : goal.returns-in_ok-push-in-Two-2
returns-in_ok-push-in-Two-2 c =
    rw c.in-Two.is (push_two c.args.half c.in-Two.high c.in-Two.low c.args.words.now.items c.push_half-in-Two.new.words.items c.push-in-Two.new.self.items c.push-in-Two-2.new.self.items c.in_ok-push_half-in-Two.ensures c.in_ok-push-in-Two.ensures.items c.in_ok-push-in-Two-2.ensures.items)
