use Rattle.std.proofs.Common.{◌+◌, List, [], length, get_or, take, refl, sym, subst, arith}
use Rattle.std.specs.Prelude.{◌-◌}
use Rattle.std.proofs.lemmas.List.{take_all, take_more}
use Rattle.recording_files.specs.declared.message_count.MessageCount.{MessageCount}
use Rattle.recording_files.specs.Counting.{told_of, CountsUpTo}
use Rattle.recording_files.proofs.Counts.{up_to-none, up_to-push, room_at}
use Rattle.recording_files.proofs.counting.count_all.Goals as goal

abbrev no_count : MessageCount
no_count = record {
  header = record { length = 0; export_time = 0; sequence = 0; domain = 0 };
  records = 0;
  passed_over = record { skipped_sets = 0; unknown_sets = 0; ignored_withdrawals = 0 };
}

pub loop-message-init : goal.loop-message-init
loop-message-init c = record {
  room = room_at c.args.tally.now.ledger (length c.args.messages.now) _ (omega arith) c.requires;
  counts = up_to-none (told_of c.args.tally.now c.args.file.now) [] refl;
}

pub loop-message-preserved : goal.loop-message-preserved
loop-message-preserved c =
    let n = length c.args.messages.now in
    let i = c.loop-message.message-index in
    record {
      room = c.count_one.ensures.room (n - (i + 1)) (room_at c.loop-message.tally.ledger (n - i) ((n - (i + 1)) + 1) (omega arith) c.loop-message.invariant.room);
      counts = subst (λ (cs : List MessageCount). CountsUpTo (told_of c.args.tally.now c.args.file.now) (told_of c.count_one.new.tally c.count_one.new.file) cs)
          (sym (take_more c.args.messages.now i no_count c.loop-message-test.true))
          (up_to-push (told_of c.args.tally.now c.args.file.now) (told_of c.loop-message.tally c.loop-message.file) (told_of c.count_one.new.tally c.count_one.new.file) (take i c.args.messages.now)
          (get_or c.args.messages.now i no_count) c.loop-message.invariant.counts c.count_one.ensures.counts);
    }

pub count_one-requires : goal.count_one-requires
count_one-requires c = room_at c.loop-message.tally.ledger (length c.args.messages.now - c.loop-message.message-index) 1 (omega arith) c.loop-message.invariant.room

pub returns : goal.returns
returns c = record {
  room = room_at c.loop-message.tally.ledger (length c.args.messages.now - c.loop-message.message-index) 0 (omega arith) c.loop-message.invariant.room;
  counts = subst (λ (cs : List MessageCount). CountsUpTo (told_of c.args.tally.now c.args.file.now) (told_of c.loop-message.tally c.loop-message.file) cs)
      (take_all c.loop-message.message-index c.args.messages.now (omega arith)) c.loop-message.invariant.counts;
}
