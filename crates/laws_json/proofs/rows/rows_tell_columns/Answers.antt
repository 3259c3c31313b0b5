use Rattle.flow_table.specs.SameTables.{value_of}
use Rattle.laws_json.proofs.Columns.{row_tells}
use Rattle.laws_json.proofs.LinesRead.{row_is_read}
use Rattle.laws_json.proofs.rows.rows_tell_columns.Goals as goal

pub returns : goal.returns
returns c known plan heads own is row row_is = row_is_read known heads.plain _ plan (value_of row) row_is.addresses (row_tells known plan row heads own is row_is.length row_is.fits)
