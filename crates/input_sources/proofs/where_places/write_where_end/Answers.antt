use Rattle.input_sources.proofs.where_places.write_where_end.Goals as goal

pub returns-in-NoElement : goal.returns-in-NoElement
returns-in-NoElement g c = rw c.in-NoElement.is c.write_key_words-in-NoElement.ensures

pub returns-in-NoSide : goal.returns-in-NoSide
returns-in-NoSide g c = rw c.in-NoSide.is c.write_words_end-in-NoSide.ensures

pub returns-in-Kind : goal.returns-in-Kind
returns-in-Kind g c = rw c.in-Kind.is c.write_key_words-in-Kind.ensures

pub returns-in-OutOfMemory : goal.returns-in-OutOfMemory
returns-in-OutOfMemory g c = rw c.in-OutOfMemory.is c.write_words_end-in-OutOfMemory.ensures
