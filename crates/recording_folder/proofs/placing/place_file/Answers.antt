use Rattle.recording_folder.proofs.placing.place_file.Goals as goal

pub returns : goal.returns
returns g c =
    let there = rw (c.as_str-3.ensures.value, c.in_ok-period_path.ensures, c.path.ensures, c.as_str.ensures.value) at c.in_ok-path.ensures in
    record { name = _; is_named = c.in_ok-name.ensures; is_there = there }
