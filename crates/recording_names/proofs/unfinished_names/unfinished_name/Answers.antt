use Rattle.recording_names.proofs.unfinished_names.unfinished_name.Goals as goal

pub returns : goal.returns
returns c = c.format.ensures.ok
