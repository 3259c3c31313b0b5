use Rattle.std.proofs.Common.{◌≡◌, sym, ◌∙◌, arith}
use Rattle.std.specs.Prelude.{bytes_eq, codes}
use Rattle.std.proofs.lemmas.Bool.{false≢true}
use Rattle.std.proofs.lemmas.Fmt.{decimal_injective}
use Rattle.std.proofs.lemmas.Slice.Eq.{bytes_eq-Decides}
use Rattle.recording_names.proofs.FinishedNames.{alike, copy_is, copy_none, differ, digits_parts, dot_found, not_numbered}
use Rattle.recording_names.proofs.finished_names.read_copy.Goals as goal

pub returns-in_err-digits-clause-none : goal.returns-in_err-digits-clause-none
returns-in_err-digits-clause-none c =
    let whole = λ (e : c.args.ending.now ≡ codes "ipfix"). false≢true (sym c.if-eq.false ∙ c.eq.ensures ∙ (bytes_eq-Decides c.args.ending.now (codes "ipfix")).1 e) in
    rw c.from_residual.ensures (copy_none c.args.ending.now whole (λ k more few. not_numbered c.args.ending.now c.split_once.result c.split_once.ensures.cases c.in_err-digits.was k few))

pub returns-then-ne-clause-none : goal.returns-then-ne-clause-none
returns-then-ne-clause-none c =
    let whole = λ (e : c.args.ending.now ≡ codes "ipfix"). false≢true (sym c.if-eq.false ∙ c.eq.ensures ∙ (bytes_eq-Decides c.args.ending.now (codes "ipfix")).1 e) in
    copy_none c.args.ending.now whole (λ k more few is.
    let parts = digits_parts c.args.ending.now k c.split_once.result c.in_ok-digits.digits c.in_ok-digits.rest c.split_once.ensures.cases c.in_ok-digits.was few is in
    differ (bytes_eq c.in_ok-digits.rest.now (codes "ipfix")) c.ne.result c.ne.ensures c.if-ne.true ((bytes_eq-Decides c.in_ok-digits.rest.now (codes "ipfix")).1 parts.1))

pub returns-then-copy-lt2-clause-none : goal.returns-then-copy-lt2-clause-none
returns-then-copy-lt2-clause-none c =
    let whole = λ (e : c.args.ending.now ≡ codes "ipfix"). false≢true (sym c.if-eq.false ∙ c.eq.ensures ∙ (bytes_eq-Decides c.args.ending.now (codes "ipfix")).1 e) in
    copy_none c.args.ending.now whole (λ k more few is.
    let parts = digits_parts c.args.ending.now k c.split_once.result c.in_ok-digits.digits c.in_ok-digits.rest c.split_once.ensures.cases c.in_ok-digits.was few is in
    let same = decimal_injective c.in_ok-copy.copy k (omega arith) few (sym c.in_ok-copy.ensures.some ∙ parts.0) in
    omega (arith, same, more, c.if-copy-lt2.true))

pub returns-clause-copy : goal.returns-clause-copy
returns-clause-copy c = (omega (arith, c.if-copy-lt2.false), omega arith)

pub returns-clause-said : goal.returns-clause-said
returns-clause-said c =
    copy_is c.in_ok-copy.copy c.args.ending.now c.in_ok-digits.digits.now c.in_ok-digits.rest.now (omega (arith, c.if-copy-lt2.false))
    (dot_found c.args.ending.now c.split_once.result c.in_ok-digits.digits c.in_ok-digits.rest c.split_once.ensures.cases c.in_ok-digits.was) c.in_ok-copy.ensures.some
    ((bytes_eq-Decides c.in_ok-digits.rest.now (codes "ipfix")).0 (alike (bytes_eq c.in_ok-digits.rest.now (codes "ipfix")) c.ne.result c.ne.ensures c.if-ne.false))
