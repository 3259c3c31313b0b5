use Rattle.std.proofs.Common.{[], refl}
use Rattle.ipfix_message.specs.declared.fault.MessageFault.TheVariants.{OutOfMemory}
use Rattle.recording_files.specs.declared.record_fault.RecordFault.TheVariants as faults
use Rattle.recording_connections.specs.Serving.{fault_line}
use Rattle.recording_datagrams.proofs.Told.{tells_nothing}
use Rattle.recording_datagrams.proofs.taking.tell_became.Goals as goal

pub returns-in-Taken : goal.returns-in-Taken
returns-in-Taken g c = record { lines = []; are = rw c.in-Taken.is refl; told = tells_nothing }

pub returns-in-NoPlace : goal.returns-in-NoPlace
returns-in-NoPlace g c = record { lines = []; are = rw c.in-NoPlace.is refl; told = tells_nothing }

pub returns-in-NoMemory : goal.returns-in-NoMemory
returns-in-NoMemory g c = record { lines = fault_line c.args.peer (faults.Message OutOfMemory); are = rw c.in-NoMemory.is refl; told = c.tell_no_memory.ensures }
