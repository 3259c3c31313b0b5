use Rattle.std.proofs.Common.{◌≡◌, ◌++◌, ℕ, List, [], Result, Ok, Err, true, false, sym, ap, subst, ◌∙◌, arith}
use Rattle.std.specs.Int.NonZero.{non_zero_u16_get}
use Rattle.std.specs.Result.{is_ok, OnOk, OnErr}
use Rattle.std.proofs.lemmas.List.{append-nil}
use Rattle.arrayvec.specs.ArrayVec.{ArrayVec}
use Rattle.ipfix_session.specs.MessageStream.{cut}
use Rattle.ipfix_session.specs.MessageCounts.{PlaceView, EndsAt, CounterView, HasRead}
use Rattle.ipfix_session.specs.CounterPlaces.{place_view}
use Rattle.ipfix_session.proofs.Counting.{reading_on, goes_on_header, goes_on_within, goes_on_faulty}
use Rattle.ipfix_session.proofs.message_counter.MessageCounter.read_part.Goals as goal

-- what holds of a result that was tested
on_ok : {T E P : Type 0} (r : Result T E) → is_ok r ≡ true → OnOk r P → P
on_ok (Ok x) e p = p
on_ok (Err y) e p = absurd cc

on_err : {T E P : Type 0} (r : Result T E) → is_ok r ≡ false → OnErr r P → P
on_err (Ok x) e p = absurd cc
on_err (Err y) e p = p

pub returns-then-is_ok-clause-reads : goal.returns-then-is_ok-clause-reads
returns-then-is_ok-clause-reads c =
    let kept = c.try_extend_from_slice in
    let fits : is_ok kept.result ≡ true = sym c.is_ok.ensures.value ∙ c.if-is_ok.true in
    let room = kept.ensures.variant.0 fits in
    let grown = on_ok kept.result fits kept.ensures.len in
    reading_on c.args.self.now _ c.args.piece.now c.args.piece.now [] (sym (append-nil c.args.piece.now))
    (λ t has.
    let inside = subst (λ (v : CounterView). HasRead v t) (sym c.self.view_is) has in
    goes_on_header _ c.in-Header.begun.items kept.new.self.items t c.args.piece.now (ap place_view c.in-Header.is) (on_ok kept.result fits kept.ensures.ok) (omega (arith, room, grown)) inside)

pub returns-else-is_ok-clause-reads : goal.returns-else-is_ok-clause-reads
returns-else-is_ok-clause-reads c =
    let kept = c.try_extend_from_slice in
    let full : is_ok kept.result ≡ false = sym c.is_ok.ensures.value ∙ c.if-is_ok.false in
    let same : kept.new.self ≡ c.in-Header.begun = on_err kept.result full kept.ensures.err in
    reading_on c.args.self.now c.begin_message.new.self c.args.piece.now c.split_at.result.0.now c.split_at.result.1.now c.split_at.ensures.by_index.0
    (λ t has.
    let inside = subst (λ (v : CounterView). HasRead v t) (sym c.self.view_is) has in
    let begins = subst (λ (p : PlaceView). EndsAt p (cut t).rest) (ap place_view c.in-Header.is) inside.place in
    c.begin_message.ensures t c.split_at.result.0.now inside.counts
    (ap (λ (w : List ℕ). w ++ c.split_at.result.0.now) (begins.octets ∙ ap (λ (v : ArrayVec ℕ). v.items) (sym same) ∙ sym c.as_slice.ensures.value) ∙ sym c.whole_header-header.ensures))

pub returns-in-Message-clause-reads : goal.returns-in-Message-clause-reads
returns-in-Message-clause-reads c =
    reading_on c.args.self.now c.go_on.new.self c.args.piece.now c.split_at-in-Message.result.0.now c.split_at-in-Message.result.1.now c.split_at-in-Message.ensures.by_index.0
    (λ t has.
    let inside = subst (λ (v : CounterView). HasRead v t) (sym c.self.view_is) has in
    c.go_on.ensures t c.split_at-in-Message.result.0.now inside.counts
    (goes_on_within _ c.in-Message.length (non_zero_u16_get c.in-Message.due) _ t c.split_at-in-Message.result.0.now (ap place_view c.in-Message.is) (omega arith) inside))

pub returns-in-Fault-clause-reads : goal.returns-in-Fault-clause-reads
returns-in-Fault-clause-reads c =
    reading_on c.args.self.now _ c.args.piece.now c.args.piece.now [] (sym (append-nil c.args.piece.now))
    (λ t has.
    let inside = subst (λ (v : CounterView). HasRead v t) (sym c.self.view_is) has in
    goes_on_faulty _ t c.args.piece.now (ap place_view c.in-Fault.is) inside)
