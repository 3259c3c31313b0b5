use Rattle.exporter_names.proofs.recorded_names.exporter_in_name.Goals as goal

pub address_of-requires : goal.address_of-requires
address_of-requires c = record { transport = c.in-Some.told.session.transport; copy = c.in-Some.told.copy; few = c.in-Some.ensures.copy; name_is = c.in-Some.ensures.named }

pub returns-in-None : goal.returns-in-None
returns-in-None c = λ a is. c.in-None.ensures.none (record { session = is.session; copy = is.copy; in_range = is.range; is_copy = is.few; named = is.name_is })
