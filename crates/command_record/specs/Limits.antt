-- For how long a peer may be silent, and how many peers are kept.
use Rattle.std.specs.Prelude.{ℕ, ◌+◌, ◌-◌, ◌*◌, ◌/◌, ◌^◌, min, max, nat_lt, if◌then◌else◌, List, [], ◌++◌, Option, Some, None, is_some, codes, decimal}
use Rattle.std.specs.Duration.{as_nanos}
use Rattle.std.specs.Int.NonZero.{non_zero_u64_get, non_zero_usize_get}
use Rattle.std.specs.declared.time.Duration.{Duration}
use Rattle.cli_inputs.specs.declared.arguments.RecordArguments.{RecordArguments}

-- ---- silent peers

-- how many seconds a peer may be silent: half an hour if no time is given
abbrev pub idle_seconds : Option Duration → ℕ
idle_seconds None = 1800
idle_seconds (Some limit) = as_nanos limit / 1000000000

-- the second at which a period began that ended no longer ago than a peer may be silent; none is as late if no datagrams are taken
abbrev pub first_read_back : RecordArguments → ℕ → ℕ
first_read_back a now = if is_some a.udp then now - idle_seconds a.idle - non_zero_u64_get a.every else 2 ^ 64 - 1

-- ---- descriptors

-- a session needs three, a peer one, and a second one while a period ends; the rest of the run needs 32
abbrev pub peers_within : ℕ → ℕ → ℕ → ℕ
peers_within limit sessions peers = min peers (max ((limit - (3 * sessions + 32)) / 2) 1)

-- the sessions that are recorded at once, if connections are taken
abbrev pub sessions_of : RecordArguments → ℕ
sessions_of a = if is_some a.listen then a.sessions else 0

-- as many peers as are asked for; as there are descriptors for, if datagrams are taken and the system says how many
abbrev pub kept_of : Option ℕ → RecordArguments → ℕ
kept_of None a = non_zero_usize_get a.peers
kept_of (Some limit) a = if is_some a.udp then peers_within limit (sessions_of a) (non_zero_usize_get a.peers) else non_zero_usize_get a.peers

unfoldable pub descriptors_line : ℕ → ℕ → ℕ → List ℕ
descriptors_line limit within peers =
    codes "collectd: record: descriptors " ++ (decimal limit ++ (codes ": peers " ++ (decimal within ++ (codes " of " ++ (decimal peers ++ codes "\n")))))

-- what is told if fewer are kept than are asked for
abbrev pub fewer_lines : ℕ → ℕ → ℕ → List ℕ
fewer_lines limit kept peers = if nat_lt kept peers then descriptors_line limit kept peers else []

abbrev pub peers_lines : Option ℕ → RecordArguments → List ℕ
peers_lines None a = []
peers_lines (Some limit) a = fewer_lines limit (kept_of (Some limit) a) (non_zero_usize_get a.peers)
