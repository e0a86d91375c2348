-- Where a byte is in a file.
use Rattle.std.specs.Prelude.{ℕ, zero, suc, Bool, nat_le, List, [], ◌∷◌, ◌++◌, map, Option, Some, None, slice_get, count_by}
use Rattle.pc_base.specs.declared.span.Span.{Span}
use Rattle.pc_explain_names.specs.{declared.marks.Mark.Mark, Lists.{entity_name_span, method_name_span, param_name_span}, Marks.{expr_marks, seq_marks, locals}}
use Rattle.pc_tree.specs.Tree as t

abbrev pub begins_by : ℕ → Span → Bool
begins_by at span = nat_le span.start at

-- The last of the first n ones.
abbrev pub last_of_first : {A : Type 0} → ℕ → List A → Option A
last_of_first zero xs = None
last_of_first (suc n) xs = slice_get xs n

-- How many entities begin at or before a byte.
unfoldable pub place_at : t.File → ℕ → ℕ
place_at file at = count_by (begins_by at) (map entity_name_span file.entities)

-- The entity whose text contains a byte: the last one whose name begins at or before it.
unfoldable pub entity_around : t.File → ℕ → Option t.Entity
entity_around file at = last_of_first (place_at file at) file.entities

-- The same for an entity's methods. The fields come before the first method.
unfoldable pub method_at : t.Entity → ℕ → Option t.Method
method_at e at = last_of_first (count_by (begins_by at) (map method_name_span e.methods)) e.methods

-- ---- what is found there

abbrev pub value_marks : ℕ → Option t.Expr → List Mark
value_marks at None = []
value_marks at (Some e) = expr_marks at e

abbrev pub field_marks : ℕ → t.Field → List Mark
field_marks at f = value_marks at f.value

abbrev pub body_marks : ℕ → Option t.Seq → List Mark
body_marks at None = []
body_marks at (Some b) = seq_marks at b

abbrev pub all_field_marks : ℕ → List t.Field → List Mark
all_field_marks at [] = []
all_field_marks at (f ∷ fs) = field_marks at f ++ all_field_marks at fs

-- In the method's body, or in the fields' initial values.
unfoldable pub marks_at : ℕ → t.Entity → Option t.Method → List Mark
marks_at at e None = all_field_marks at e.fields
marks_at at e (Some m) = body_marks at m.body

abbrev pub param_spans_of : Option t.Method → List Span
param_spans_of None = []
param_spans_of (Some m) = map param_name_span m.params

-- The parameters and locals that are visible where these marks were found.
unfoldable pub visible_by : Option t.Method → List Mark → List Span
visible_by m marks = param_spans_of m ++ locals marks

abbrev pub visible_at : ℕ → t.Entity → Option t.Method → List Span
visible_at at e m = visible_by m (marks_at at e m)
