use Rattle.recording_connections.proofs.serving.record_source.Goals as goal

pub returns : goal.returns
returns g c = record {
  session = c.record-session.result;
  written = c.record-session.new.files;
  asked_last = c.record-session.new.clock;
  recorded = c.record-session.ensures c.requires;
  end = c.finish-end.result;
  is_end = c.finish-end.ensures;
  said = c.failure.result;
  is_said = c.failure.ensures;
  told = rw c.read_failure-failure.ensures at c.write_connection.ensures;
}
