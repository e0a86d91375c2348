-- What each kind of entity may contain, said of the parts of a tree.
use Rattle.std.specs.Prelude.{List, Option}
use Rattle.pc_tree.specs.{declared.kinds.EntityKind.EntityKind, Kinds.{may_have_fields, is_abstract, FieldsIf, BodyUnless}}
use Rattle.pc_tree.specs.Tree as t

abbrev pub MayHaveFields : EntityKind → List t.Field → Type 0
MayHaveFields e fs = FieldsIf (may_have_fields e) fs

abbrev pub HasBody : EntityKind → Option t.Seq → Type 0
HasBody e b = BodyUnless (is_abstract e) b
