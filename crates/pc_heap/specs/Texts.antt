-- The bytes of a text.
use Rattle.std.specs.{Prelude.{ℕ, List}, List.concat}
use Rattle.pc_heap.specs.{declared.text.Form.Form, declared.text.Form.TheVariants.{Whole, Pieces}}

abbrev pub bytes_of : Form → List ℕ
bytes_of (Whole bytes) = bytes
bytes_of (Pieces pieces) = concat pieces
