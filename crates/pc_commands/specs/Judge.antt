-- `judge SRC DERIV`.
use Rattle.std.specs.Prelude.{◌++◌, codes}
use Rattle.pc_base.specs.Lists.{Text, line_end}

abbrev pub accepted_text : Text
accepted_text = codes "accepted" ++ line_end
