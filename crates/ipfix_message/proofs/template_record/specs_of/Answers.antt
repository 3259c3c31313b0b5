use Rattle.std.proofs.Common.{length, take, sym, arith}
use Rattle.ipfix_message.specs.TemplateRecords.{specs_at}
use Rattle.ipfix_message.proofs.SpecReading.{goes_on, ends, is_done}
use Rattle.ipfix_message.proofs.WritableTemplates.{each_more, room_more}
use Rattle.ipfix_message.proofs.template_record.specs_of.Goals as goal

pub returns-in_default-clause-exact : goal.returns-in_default-clause-exact
returns-in_default-clause-exact c = ends c.loop.specs.items c.args.count c.loop.counter c.loop.rest.now (specs_at c.args.count c.args.octets.now) c.loop-test.true (sym c.in_default.ensures.exact) c.loop.invariant.so_far

pub loop-preserved : goal.loop-preserved
loop-preserved c = record {
  so_far = rw (c.in_ok-push.ensures.items, c.split_at.ensures.back)
      (goes_on c.loop.specs.items c.args.count c.loop.counter c.loop.rest.now c.in-Some.spec c.in-Some.used (specs_at c.args.count c.args.octets.now) c.loop-test.true (sym c.in-Some.ensures.exact) c.loop.invariant.so_far);
  count = omega (arith, c.in_ok-push.ensures.len, c.loop.invariant.count);
  each = rw c.in_ok-push.ensures.items (each_more c.loop.specs.items c.in-Some.spec (take c.in-Some.used c.loop.rest.now) c.loop.invariant.each c.in-Some.ensures.found.1);
  room = rw (c.in_ok-push.ensures.items, c.split_at.ensures.back) (room_more c.loop.specs.items c.in-Some.spec c.in-Some.used c.loop.rest.now (length c.args.octets.now) c.in-Some.ensures.found.0 c.in-Some.ensures.found.1 c.loop.invariant.room);
}

pub returns-clause-exact : goal.returns-clause-exact
returns-clause-exact c = is_done c.loop.specs.items c.args.count c.loop.counter c.loop.rest.now (specs_at c.args.count c.args.octets.now) c.loop-test.false c.loop.invariant.so_far
