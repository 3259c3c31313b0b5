-- The files of a session, and its clock.
use Rattle.std.specs.Prelude.{◌≡◌, ℕ}
use Rattle.std.specs.String.{string_bytes}
use Rattle.std.specs.declared.net.socket_addr.SocketAddr.{SocketAddr}
use Rattle.recording_files.specs.Periods.{ClockView}
use Rattle.recording_folder.specs.declared.filed_session.FiledSession.{FiledSession}
use Rattle.recording_folder.specs.declared.system_periods.SystemPeriods.{SystemPeriods}
use Rattle.recording_names.specs.SessionNames.{name_of_session}
use Rattle.recording_names.specs.declared.transport.Transport.{Transport}

-- they have its name
abbrev pub IsNamed : FiledSession → SocketAddr → Transport → ℕ → Type 0
IsNamed session peer transport number = string_bytes session.name ≡ name_of_session peer transport number

-- periods have so many seconds, and the clock was not asked
abbrev pub BeginsWith : {R : Type 0} → ℕ → SystemPeriods R → Type 0
BeginsWith every clock = (clock.every ≡ every) × (clock.asked ≡ 0) × (clock.over ≡ 0)

-- how often a clock was asked, and how often a period was over
abbrev pub asked_of : {R : Type 0} → SystemPeriods R → ClockView
asked_of clock = record { asked = clock.asked; over = clock.over }
