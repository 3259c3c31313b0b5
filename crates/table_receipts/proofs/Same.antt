-- Values with the same parts are the same.
use Rattle.std.proofs.Common.{◌≡◌, refl}
use Rattle.table_receipts.specs.declared.receipt.DomainReceipt.{DomainReceipt}
use Rattle.table_receipts.specs.declared.receipt.RecordCounts.{RecordCounts}
use Rattle.table_receipts.specs.Values.{FileValue, InputValue, IntoValue, SumValue, TableValue, ReceiptValue}

pub file_same : (f g : FileValue) → f.name ≡ g.name → f.octets ≡ g.octets → f.digest ≡ g.digest → f ≡ g
file_same f g a b c =
    let whole : record { name = f.name; octets = f.octets; digest = f.digest } ≡ g = rw (a, b, c) refl in whole

pub domain_same : (f g : DomainReceipt) → f.domain ≡ g.domain → f.lost ≡ g.lost → f.backward ≡ g.backward → f.unaccounted ≡ g.unaccounted → f.unknown_sets ≡ g.unknown_sets → f ≡ g
domain_same f g a b c d e =
    let whole : record { domain = f.domain; lost = f.lost; backward = f.backward; unaccounted = f.unaccounted; unknown_sets = f.unknown_sets } ≡ g = rw (a, b, c, d, e) refl in whole

pub input_same : (f g : InputValue) → f.file ≡ g.file → f.messages ≡ g.messages → f.records ≡ g.records → f.fault ≡ g.fault → f.domains ≡ g.domains → f.exporter ≡ g.exporter → f ≡ g
input_same f g a b c d e h =
    let whole : record { file = f.file; messages = f.messages; records = f.records; fault = f.fault; domains = f.domains; exporter = f.exporter } ≡ g = rw (a, b, c, d, e, h) refl in whole

pub counts_same : (f g : RecordCounts) → f.used ≡ g.used → f.options ≡ g.options → f.untimed ≡ g.untimed → f.backward ≡ g.backward → f.unkeyed ≡ g.unkeyed → f.too_long ≡ g.too_long → f ≡ g
counts_same f g a b c d e h =
    let whole : record { used = f.used; options = f.options; untimed = f.untimed; backward = f.backward; unkeyed = f.unkeyed; too_long = f.too_long } ≡ g = rw (a, b, c, d, e, h) refl in whole

pub sum_same : (f g : SumValue) → f.name ≡ g.name → f.total ≡ g.total → f ≡ g
sum_same f g a b =
    let whole : record { name = f.name; total = f.total } ≡ g = rw (a, b) refl in whole

pub into_same : (f g : IntoValue) → f.interval ≡ g.interval → f.zone ≡ g.zone → f ≡ g
into_same f g a b =
    let whole : record { interval = f.interval; zone = f.zone } ≡ g = rw (a, b) refl in whole

pub table_same : (f g : TableValue) → f.format ≡ g.format → f.time ≡ g.time → f.into ≡ g.into → f.octets ≡ g.octets → f.digest ≡ g.digest → f.rows ≡ g.rows → f.sums ≡ g.sums → f.flows ≡ g.flows → f ≡ g
table_same f g a b m c d e h k =
    let whole : record { format = f.format; time = f.time; into = f.into; octets = f.octets; digest = f.digest; rows = f.rows; sums = f.sums; flows = f.flows } ≡ g = rw (a, b, m, c, d, e, h, k) refl in whole

pub receipt_same : (f g : ReceiptValue) → f.collectd ≡ g.collectd → f.plan ≡ g.plan → f.elements ≡ g.elements → f.maps ≡ g.maps → f.inputs ≡ g.inputs → f.records ≡ g.records → f.table ≡ g.table → f.left_out ≡ g.left_out → f.complete ≡ g.complete → f ≡ g
receipt_same f g a b c m d e h k l =
    let whole : record { collectd = f.collectd; plan = f.plan; elements = f.elements; maps = f.maps; inputs = f.inputs; records = f.records; table = f.table; left_out = f.left_out; complete = f.complete } ≡ g = rw (a, b, c, m, d, e, h, k, l) refl in whole
