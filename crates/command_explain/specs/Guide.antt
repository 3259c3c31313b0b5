-- The explanation of each fault of a session.
use Rattle.std.specs.Prelude.{ℕ, List, codes}
use Rattle.ipfix_message.specs.declared.fault.MessageFault.{MessageFault}
use Rattle.ipfix_message.specs.declared.fault.MessageFault.TheVariants.{Version, MessageLength, SetHeader, SetLength, TemplateId, TemplateCut, Scope, ZeroLength, TemplateChanged, RecordCut, TooManyDomains, OutOfMemory, Spent, TooManyFields}
use Rattle.ipfix_session.specs.declared.fault.SessionFault.{SessionFault}
use Rattle.ipfix_session.specs.declared.fault.SessionFault.TheVariants.{Message, Truncated, ReadFailed, TooManyReads, SinkClosed}
use Rattle.command_explain.specs.declared.ending_fault.EndingFault.{EndingFault}
use Rattle.command_explain.specs.declared.ending_fault.EndingFault.TheVariants.{Session, NotWritten}

-- what was found, by which rule it is a fault, and what an operator does about it
pub record Texts : Type 0 where
  pub found : List ℕ
  pub rule : List ℕ
  pub advice : List ℕ

abbrev pub texts : List ℕ → List ℕ → List ℕ → Texts
texts found rule advice = record { found = found; rule = rule; advice = advice }

abbrev pub texts_of_message : MessageFault → Texts
texts_of_message Version = texts (codes "the version is not 10") (codes "RFC 7011, section 3.1")
    (codes "What was sent is not IPFIX. Let the exporter send version 10, not NetFlow 5 or 9\n(softflowd: -v 10), and check that nothing else writes to the port or the file. If a file\nholds several sessions, cut it where each begins (docs/RECIPES.md, Several sessions).")
texts_of_message MessageLength = texts (codes "the length field is below 16, or is not the length of the message") (codes "RFC 7011, section 3.1")
    (codes "The exporter is faulty, or octets were lost or added on the way. A file has to be\ncopied as it is, and to begin where a message begins.")
texts_of_message SetHeader = texts (codes "1 to 3 octets where a set should begin") (codes "RFC 7011, section 3.3")
    (codes "The lengths that the exporter writes contradict each other. Report it to the vendor.")
texts_of_message SetLength = texts (codes "a set's length is below 4, or past the end of the message") (codes "RFC 7011, section 3.3")
    (codes "The lengths that the exporter writes contradict each other. Report it to the vendor.\nIf a file holds several sessions and one of them was cut, separate them where each\nbegins (docs/RECIPES.md, Several sessions).")
texts_of_message TemplateId = texts (codes "a template id below 256 that is no withdrawal of all") (codes "RFC 7011, sections 3.4.1 and 8.1")
    (codes "The exporter gives a template an id that is reserved for sets. Report it to the vendor.")
texts_of_message TemplateCut = texts (codes "a template record goes past its set") (codes "RFC 7011, sections 3.4.1 and 3.4.2")
    (codes "The field count that the exporter writes does not match the fields after it, or the\nlength of the set is wrong. Report it to the vendor.")
texts_of_message Scope = texts (codes "a scope field count of 0, or above the field count") (codes "RFC 7011, section 3.4.2")
    (codes "The options template does not say what its options are about. Report it to the vendor,\nand turn the exporter's options off until it is fixed, if you can.")
texts_of_message ZeroLength = texts (codes "a template whose records would have no octets") (codes "none of RFC 7011")
    (codes "Every field of the template has width 0, so its records could not be counted. Report\nit to the vendor.")
texts_of_message TemplateChanged = texts (codes "another template is in force under that id") (codes "RFC 7011, section 8.1")
    (codes "The exporter gave an id to another template without a withdrawal. Give each exporter,\nand each start of one, a session of its own; cut a file that holds several sessions where\neach begins (docs/RECIPES.md, Several sessions). Otherwise report it to the vendor.")
texts_of_message RecordCut = texts (codes "a data record goes past its set") (codes "RFC 7011, section 3.4.3")
    (codes "The records do not match their template. Give each exporter, and each start of one, a\nsession of its own; cut a file that holds several sessions where each begins\n(docs/RECIPES.md, Several sessions). Otherwise report it to the vendor.")
texts_of_message TooManyDomains = texts (codes "one domain more than 1,024") (codes "none of RFC 7011")
    (codes "The session has more observation domains than this program accepts. Let the exporter\nuse fewer domains, or more sessions.")
texts_of_message OutOfMemory = texts (codes "memory was refused; may come in place of any other answer") (codes "none of RFC 7011")
    (codes "Give the program more memory, or fewer sessions at once, or shorter rings (--ring); or\nmake the table smaller: longer intervals, fewer keys, a smaller max_spread.")
texts_of_message Spent = texts (codes "an earlier message of the session had a fault") (codes "none of RFC 7011")
    (codes "Look for the fault of that message: it came first.")
texts_of_message TooManyFields = texts (codes "more templates are defined than --templates allows") (codes "none of RFC 7011")
    (codes "A template counts 8 and its fields, a domain 16. If the exporter needs so many, give a\nlarger --templates. A session ends so; of a UDP peer the datagram alone is refused, and\nthe ids that it would have changed have no template until they are defined again.")

abbrev pub texts_of_session : SessionFault → Texts
texts_of_session (Message fault) = texts_of_message fault
texts_of_session Truncated = texts (codes "the input ended inside a message") (codes "RFC 7011, section 3.1")
    (codes "The file was cut, or the exporter was stopped while it sent. A tunnel that is killed\nends a session in the same way (seen with stunnel). Copy the file again, or find out\nwhy the exporter stopped.")
texts_of_session ReadFailed = texts (codes "the input could not be read on, or was silent for too long") (codes "none of RFC 7011")
    (codes "The connection was reset, sent nothing for as long as --idle says, or had brought record\nno whole message after 60 seconds; or the file's disk fails. Look at the logs of the\nsystem and of the exporter, and let it connect again.")
texts_of_session TooManyReads = texts (codes "the input had not ended after 2^40 reads") (codes "none of RFC 7011")
    (codes "End the session earlier, and begin another one.")
texts_of_session SinkClosed = texts (codes "the sink takes no more records") (codes "none of RFC 7011")
    (codes "What the records went to has ended. Look for the fault that it reports.")

abbrev pub texts_of : EndingFault → Texts
texts_of (Session fault) = texts_of_session fault
texts_of NotWritten = texts (codes "a file of the recorded session could not be written, or not be finished") (codes "none of RFC 7011")
    (codes "Look for a full disk, or for a folder without permission. The messages that were written\nare whole in the session's files. Let the exporter connect again.")
