use Rattle.std.proofs.Common.{List, Option, sym, subst}
use Rattle.std.specs.Prelude.{All}
use Rattle.ipfix_dump.specs.LineParts.{IsKept}
use Rattle.ipfix_dump.specs.declared.label.Label.{Label}
use Rattle.ipfix_dump.proofs.Kept.{put_in}
use Rattle.ipfix_dump.proofs.labels.Labels.keep.Goals as goal

pub invariant_of-self : goal.invariant_of-self
invariant_of-self c =
    let labels = c.args.self.now in
    record {
      labels_are = subst (λ (places : List (Option Label)). All (IsKept labels.form labels.elements.now) places) (sym c.put.ensures)
          (put_in labels.form labels.elements.now labels.kept.items c.place_of-place.result c.args.label c.requires labels.labels_are);
    }
