-- The words for capabilities and forms, in every text.
use Rattle.std.specs.Prelude.{codes}
use Rattle.pc_base.specs.Lists.{Text}
use Rattle.pc_caps.specs.{declared.capability.Cap.Cap, declared.capability.Form.Form, Tables.{at, at_form}}

abbrev pub cap_name : Cap → Text
cap_name = at (codes "iso") (codes "trn") (codes "ref") (codes "val") (codes "box") (codes "tag")

abbrev pub form_name : Form → Text
form_name =
    at_form (codes "iso^") (codes "trn^") (codes "iso") (codes "trn") (codes "ref") (codes "val") (codes "box") (codes "tag")
