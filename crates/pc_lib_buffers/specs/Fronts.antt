-- What follows the front of a line. Only the contracts of the parts of `find_place` use it.
use Rattle.std.specs.Prelude.{ℕ, codes, decimal, Option}
use Rattle.pc_deriv.specs.Reading.{after_bytes}
use Rattle.pc_base.specs.Lists.{◌>>=◌, Text}

-- What follows a word and a colon.
unfoldable pub after_word : Text → Text → Option Text
after_word word text = after_bytes word text >>= after_bytes (codes ":")

-- What follows the numbers of a line and of a column, each with a colon, and a blank.
unfoldable pub after_numbers : (line column : ℕ) → Text → Option Text
after_numbers line column text = after_word (decimal line) text >>= (λ rest. after_word (decimal column) rest >>= after_bytes (codes " "))
