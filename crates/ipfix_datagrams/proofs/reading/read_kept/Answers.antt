use Rattle.std.proofs.Common.{Some, None, refl, inl}
use Rattle.std.specs.BTreeMap.{values}
use Rattle.std.proofs.lemmas.Result.{err_from_is_err_and}
use Rattle.ipfix_message.specs.Outcome.{Fails}
use Rattle.ipfix_datagrams.specs.declared.reading.DatagramReading.{DatagramReading}
use Rattle.ipfix_datagrams.specs.Datagrams.{basis_of, given_after}
use Rattle.ipfix_datagrams.specs.Attempts.{Reads}
use Rattle.ipfix_datagrams.specs.Readings.{AreSetsOf}
use Rattle.ipfix_datagrams.proofs.Resumed.{are_before}
use Rattle.ipfix_datagrams.proofs.Attempting.{attempted}
use Rattle.ipfix_datagrams.proofs.Answered.{no_values, can_prepare, had_room, has_first, HasLast, taken_first, taken_again, refused_again}
use Rattle.ipfix_datagrams.proofs.reading.read_kept.Goals as goal

pub returns-in_err-reading-clause-reads : goal.returns-in_err-reading-clause-reads
returns-in_err-reading-clause-reads c = λ ds represents keeps.
    let e = err_from_is_err_and c.from_residual.result c.from_residual.ensures.1 in
    rw (e.1, e.2) (c.in_err-reading.ensures.reads ds represents (values c.args.resumed.now))

pub returns-in_err-defined-clause-reads : goal.returns-in_err-defined-clause-reads
returns-in_err-defined-clause-reads c = λ ds represents keeps.
    let m = c.args.datagram.now in
    let sets : AreSetsOf c.after_header-sets.result.now c.args.definitions.first m = record { octets = c.after_header-sets.ensures.octets; defines = has_first c.args.definitions m c.requires.defines } in
    let e = err_from_is_err_and c.from_residual-in_err-defined.result c.from_residual-in_err-defined.ensures.1 in
    rw (e.1, e.2) (inl (c.in_err-defined.ensures.before ds m represents keeps sets))

pub returns-then-is_empty-clause-reads : goal.returns-then-is_empty-clause-reads
returns-then-is_empty-clause-reads c = λ ds represents keeps.
    let m = c.args.datagram.now in
    let d = c.args.header.now.domain in
    let r = c.in_ok-reading.reading in
    let basis = basis_of c.args.resumed.now c.args.barred.now in
    let f = c.in_ok-reading.ensures.reads ds represents in
    let before = c.in_ok-defined.ensures.before ds m represents keeps (record { octets = c.after_header-sets.ensures.octets; defines = has_first c.args.definitions m c.requires.defines }) in
    let are = are_before basis ds m d c.in_ok-defined.defined c.in_ok-defined.ensures.ordered before in
    let answer : DatagramReading = record { withdrawn = r.withdrawn; defined = c.in_ok-defined.defined; definitions = c.args.definitions.last; withdrawals = c.args.definitions.withdrawals; after = r.after; weights = None } in
    let last : HasLast answer m = record { defines = c.requires.defines.last; withdrawals = c.requires.defines.withdrawals } in
    taken_first basis ds m d answer f are before (no_values c.in_ok-defined.defined (c.if-is_empty.ensures.0 refl)) c.requires.kept last

pub returns-in_err-after-clause-reads : goal.returns-in_err-after-clause-reads
returns-in_err-after-clause-reads c = λ ds represents keeps.
    let m = c.args.datagram.now in
    let d = c.args.header.now.domain in
    let r = c.in_ok-reading.reading in
    let basis = basis_of c.args.resumed.now c.args.barred.now in
    let f = c.in_ok-reading.ensures.reads ds represents in
    let before = c.in_ok-defined.ensures.before ds m represents keeps (record { octets = c.after_header-sets.ensures.octets; defines = has_first c.args.definitions m c.requires.defines }) in
    let are = are_before basis ds m d c.in_ok-defined.defined c.in_ok-defined.ensures.ordered before in
    let ts = values c.in_ok-defined.defined in
    let ws = r.withdrawn.items in
    let e = err_from_is_err_and c.from_residual-in_err-after.result c.from_residual-in_err-after.ensures.1 in
    let fails = attempted c.args.domains.now ds d ws c.deref.result.now ts ts (λ p. Fails c.in_err-after.field-0.0 (given_after ds d p m)) represents
    (had_room basis.barred ds m d ws r.after f) c.deref.ensures.value refl (can_prepare basis ds m d ws ts f.changes are) (c.in_err-after.ensures ds) in
    rw (e.1, e.2) (refused_again basis ds m d ws r.after ts c.in_err-after.field-0.0 c.requires.kept f are fails)

pub returns-clause-reads : goal.returns-clause-reads
returns-clause-reads c = λ ds represents keeps.
    let m = c.args.datagram.now in
    let d = c.args.header.now.domain in
    let r = c.in_ok-reading.reading in
    let basis = basis_of c.args.resumed.now c.args.barred.now in
    let f = c.in_ok-reading.ensures.reads ds represents in
    let before = c.in_ok-defined.ensures.before ds m represents keeps (record { octets = c.after_header-sets.ensures.octets; defines = has_first c.args.definitions m c.requires.defines }) in
    let are = are_before basis ds m d c.in_ok-defined.defined c.in_ok-defined.ensures.ordered before in
    let ts = values c.in_ok-defined.defined in
    let ws = r.withdrawn.items in
    let reads = attempted c.args.domains.now ds d ws c.deref.result.now ts ts (λ p. Reads ds d p m c.in_ok-after.after) represents
    (had_room basis.barred ds m d ws r.after f) c.deref.ensures.value refl (can_prepare basis ds m d ws ts f.changes are) (c.in_ok-after.ensures ds) in
    let answer : DatagramReading = record { withdrawn = r.withdrawn; defined = c.in_ok-defined.defined; definitions = c.args.definitions.last; withdrawals = c.args.definitions.withdrawals; after = Some c.in_ok-after.after; weights = None } in
    let last : HasLast answer m = record { defines = c.requires.defines.last; withdrawals = c.requires.defines.withdrawals } in
    taken_again basis ds m d answer r.after c.in_ok-after.after refl f are before reads c.requires.kept last
