use Rattle.std.proofs.Common.{◌≡◌, ◌<◌, Some, option_map, sym, ◌∙◌, subst, arith}
use Rattle.std.proofs.lemmas.List.Elements.{All-from_get_or}
use Rattle.ipfix_elements.specs.Values.{number_in, cell_in}
use Rattle.ipfix_elements.specs.declared.cell.Cell.TheVariants.{Number}
use Rattle.ipfix_elements.specs.declared.kind.Kind.{Kind}
use Rattle.flow_table.specs.Fitting.{IsCellOf}
use Rattle.flow_table.specs.Reading.{projected}
use Rattle.flow_table.specs.Readings.{HasCell}
use Rattle.flow_table.specs.Words.{HasWords}
use Rattle.flow_table.proofs.CellsRead.{has_number}
use Rattle.flow_table.proofs.Fits.{IsOctets, number_fits}
use Rattle.flow_table.proofs.key_words.words_in.Goals.{In_ok-read_number-in-Unsigned}
use Rattle.flow_table.proofs.key_words.words_in.Goals as goal

-- the number that was read is of its kind
number_read : (c : In_ok-read_number-in-Unsigned) → (number_in c.args.kind c.args.octets.now ≡ Some c.in_ok-read_number-in-Unsigned.field-0) × IsOctets c.args.octets.now
number_read c =
    (sym c.read_number.ensures ∙ c.in_ok-read_number-in-Unsigned.was, All-from_get_or (λ b. b < 256) c.args.octets.now 0 (λ i inside. let small = c.type_inv.octets i in omega (arith, small)))

pub number_words-requires : goal.number_words-requires
number_words-requires c =
    let n = c.in_ok-read_number-in-Unsigned.field-0 in
    let read = number_read c in
    subst (λ (k : Kind). IsCellOf k (Number n)) (sym c.in-Unsigned.is) (number_fits c.in-Unsigned.field-0 c.args.octets.now n read.1 (subst (λ (k : Kind). number_in k c.args.octets.now ≡ Some n) c.in-Unsigned.is read.0))

pub returns-in_ok-read_number-in-Unsigned : goal.returns-in_ok-read_number-in-Unsigned
returns-in_ok-read_number-in-Unsigned c =
    let octets = c.args.octets.now in
    let n = c.in_ok-read_number-in-Unsigned.field-0 in
    let read = number_read (goal.at.returns-in_ok-read_number-in-Unsigned c).In_ok-read_number-in-Unsigned in
    subst (λ (k : Kind). HasCell k (option_map (projected c.args.prefix) (cell_in k octets)) c.number_words.result) (sym c.in-Unsigned.is)
    (has_number c.in-Unsigned.field-0 c.args.prefix octets n c.number_words.result read.1 (subst (λ (k : Kind). number_in k octets ≡ Some n) c.in-Unsigned.is read.0)
    (subst (λ (k : Kind). HasWords k (Number n) c.number_words.result) c.in-Unsigned.is c.number_words.ensures))
