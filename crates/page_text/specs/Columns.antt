-- The bytes of one output. `Column` is the struct of src/columns.rt: the bytes of a page's cycles, how many outputs and cycles there are, and which output it is.
use Rattle.std.specs.Prelude.{ℕ, List}
use Rattle.page_text.specs.declared.columns.Column.{Column}
use Rattle.page_text.specs.Pages.{output_bytes}

abbrev pub column_bytes : Column → List ℕ
column_bytes c = output_bytes c.outputs c.output c.cycles c.bytes.now
