-- What an options record tells (RFC 7011, section 3.4.2).
use Rattle.std.specs.Prelude.{ℕ, ◌==◌, if◌then◌else◌, Option, Some, None, take, unwrap_or}
use Rattle.ipfix_elements.specs.declared.kind.Kind.TheVariants.{Millis}
use Rattle.ipfix_message.specs.declared.record.DataRecord.{DataRecord}
use Rattle.exporter_options.specs.Rates.{number_as, number_of, sampling_in, selector_in}
use Rattle.exporter_options.specs.declared.telling.Told.{Told}

-- it speaks of the domain (149) that is among its scope fields, or else of that of its message
abbrev pub domain_of : DataRecord → ℕ
domain_of r = unwrap_or (number_of 149 (take r.scope r.fields)) r.domain

-- a record with scope fields is an options record; systemInitTimeMilliseconds (160) is when the exporter was started
abbrev pub told_by : DataRecord → Option Told
told_by r =
    if r.scope == 0 then None
    else Some (record { domain = domain_of r; init_time = number_as Millis 160 r.fields; sampling = sampling_in r.fields; selector = selector_in r.fields })
