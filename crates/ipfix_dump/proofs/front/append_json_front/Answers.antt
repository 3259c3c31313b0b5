use Rattle.std.specs.Prelude.{codes}
use Rattle.ipfix_dump.specs.DumpLines.{labelled}
use Rattle.ipfix_dump.proofs.Joined.{joined_five}
use Rattle.ipfix_dump.proofs.front.append_json_front.Goals as goal

pub returns : goal.returns
returns c =
    let r = c.args.data_record.now in
    let all =
    joined_five c.args.out.now.items (labelled (codes "{\"domain\":") r.domain) (labelled (codes ",\"template\":") c.from.result) (labelled (codes ",\"export_time\":") r.export_time)
    (labelled (codes ",\"scope\":") c.from-2.result) (codes ",\"fields\":[") c.append_labelled.new.out.items c.append_labelled-2.new.out.items c.append_labelled-3.new.out.items
    c.append_labelled-4.new.out.items c.extend_from_slice.new.self.items c.in_ok-append_labelled.ensures c.in_ok-append_labelled-2.ensures c.in_ok-append_labelled-3.ensures
    c.in_ok-append_labelled-4.ensures c.in_ok-extend_from_slice.ensures.items in
    rw (c.from.ensures, c.from-2.ensures) at all
