use Rattle.input_sources.proofs.map_places.write_key_fault.Goals as goal

pub returns : goal.returns
returns g c = rw (c.number.ensures, c.name.ensures) at c.write_fault.ensures
