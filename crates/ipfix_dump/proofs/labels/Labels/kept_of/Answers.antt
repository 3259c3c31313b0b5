use Rattle.ipfix_dump.proofs.Kept.{kept_at}
use Rattle.ipfix_dump.proofs.labels.Labels.kept_of.Goals as goal

pub returns-in-Some-Some : goal.returns-in-Some-Some
returns-in-Some-Some c =
    let labels = c.args.self.now in
    let lookup = rw c.deref.ensures.value at c.in-Some-Some.ensures.lookup in
    kept_at labels.form labels.elements.now labels.kept.items c.place_of.result c.in-Some-Some.field-0.now c.in-Some-Some.label c.args.element labels.labels_are lookup.3.0 lookup.1
    c.in-Some-Some.field-0-is c.if-eq.ensures
