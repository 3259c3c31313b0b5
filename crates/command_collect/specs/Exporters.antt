-- Whose sessions they are.
use Rattle.std.specs.Prelude.{◌||◌, true, List, [], ◌∷◌, Option, Some, None}
use Rattle.std.specs.Net.Socket.{socket_ip}
use Rattle.std.specs.declared.net.ip_addr.IpAddr.{IpAddr}
use Rattle.exporter_options.specs.declared.beside.Wanted.{Wanted}
use Rattle.report_writing.specs.Origins.{tells_balances}
use Rattle.report_writing.specs.declared.origin.Origin.{Origin}
use Rattle.report_writing.specs.declared.origin.Origin.TheVariants.{File, Peer, Unknown}
use Rattle.flow_collect.specs.Contexts.{exporter_at}
use Rattle.flow_collect.specs.declared.session_context.Exporter.{Exporter}
use Rattle.flow_collect.specs.declared.session_context.InContext.{InContext}
use Rattle.command_collect.specs.declared.job.CollectJob.{CollectJob}

-- the exporter that is told of a session, else the peer of its connection
abbrev pub exporter_of : Option IpAddr → Origin → Option Exporter
exporter_of (Some address) origin = Some (exporter_at address)
exporter_of None (Peer address) = Some (exporter_at (socket_ip address))
exporter_of None (File name size) = None
exporter_of None Unknown = None

-- the first origin, if there is one, and the others
abbrev pub first_origin : List Origin → Origin
first_origin [] = Unknown
first_origin (origin ∷ origins) = origin

abbrev pub other_origins : List Origin → List Origin
other_origins [] = []
other_origins (origin ∷ origins) = origins

-- the same of the exporters that are told
abbrev pub first_told : List (Option IpAddr) → Option IpAddr
first_told [] = None
first_told (told ∷ others) = told

abbrev pub others_told : List (Option IpAddr) → List (Option IpAddr)
others_told [] = []
others_told (told ∷ others) = others

-- what records get of what options records told: what the job wants, and rates of sampling also where they are told, or judged
abbrev pub asked_of : CollectJob → Wanted
asked_of job = record { init_time = job.options.init_time; sampling = job.options.sampling || tells_balances job.verbosity }

-- the same job, where rates are noted whatever is told
abbrev pub noting : CollectJob → CollectJob
noting job =
    record {
      elements = job.elements;
      plan = job.plan;
      engine = job.engine;
      output = job.output;
      verbosity = job.verbosity;
      wanted = job.wanted;
      options = record { init_time = job.options.init_time; sampling = true };
      maps = job.maps;
      estimates = job.estimates;
      refuses_sampled = job.refuses_sampled;
      times = job.times;
      great_counters = job.great_counters;
      templates = job.templates;
      filter = job.filter;
      exporters = job.exporters;
    }

-- the sources, each with what its session knows by what has its place: the exporter that is told, and the origin; with what it
-- asks of options records; and with its maps, its estimates, its limit of templates and its filter
abbrev pub in_places : {S : Type 0} → CollectJob → List S → List (Option IpAddr) → List Origin → List (InContext S)
in_places job [] told origins = []
in_places job (source ∷ sources) told origins =
    record { source = source; context = record { exporter = exporter_of (first_told told) (first_origin origins); wanted = job.wanted; options = asked_of job; maps = job.maps; estimates = job.estimates; refuses_sampled = job.refuses_sampled; times = job.times; great_counters = job.great_counters; templates = job.templates }; filter = job.filter }
    ∷ in_places job sources (others_told told) (other_origins origins)

-- as far as the job wants it
abbrev pub in_context : {S : Type 0} → CollectJob → List S → List Origin → List (InContext S)
in_context job sources origins = in_places job sources job.exporters.now origins

-- the same, where rates are noted whatever is told, as receipts need it
abbrev pub in_noting_context : {S : Type 0} → CollectJob → List S → List Origin → List (InContext S)
in_noting_context job sources origins = in_context (noting job) sources origins
