-- Names by their places, and lists of them in words.
use Rattle.std.specs.{Prelude.{ℕ, ◌-◌, Bool, true, false, ◌&&◌, not, nat_eq, nat_lt, List, [], ◌∷◌, ◌++◌, length, take, codes, decimal, if◌then◌else◌}, Str.bytes_eq}
use Rattle.pc_base.specs.{declared.span.Span.Span, Lists.Text}
use Rattle.pc_tree.specs.{declared.file.ParamDef.ParamDef, declared.written_names.Name.Name}
use Rattle.pc_explain_window.specs.{Places.piece_of, Quoting.quoted}
use Rattle.pc_tree.specs.Tree as t

-- ---- the places of names

abbrev pub entity_name_span : t.Entity → Span
entity_name_span e = e.name.span

abbrev pub field_span : t.Field → Span
field_span f = f.name.span

abbrev pub method_name_span : t.Method → Span
method_name_span m = m.name.span

abbrev pub param_name_span : ParamDef → Span
param_name_span p = p.name.span

abbrev pub name_span : Name → Span
name_span n = n.span

-- ---- names that are looked for

-- The name at the place is this one.
abbrev pub span_is_named : Text → Text → Span → Bool
span_is_named bytes name span = bytes_eq (piece_of bytes span) name

-- The name at the place is this one, and the place is not this byte.
abbrev pub is_other : Text → Text → ℕ → Span → Bool
is_other bytes name at span = span_is_named bytes name span && not (nat_eq span.start at)

-- ---- in words

-- How many names of a list are written at most.
abbrev pub most : ℕ
most = 8

abbrev pub name_separator : (first : Bool) → Text
name_separator first = if first then [] else codes ", "

abbrev pub one_listed : Text → (first : Bool) → Span → Text
one_listed bytes first s = name_separator first ++ quoted (piece_of bytes s)

-- Names between backquotes, with a comma between any two.
abbrev pub listed : Text → (first : Bool) → List Span → Text
listed bytes first [] = []
listed bytes first (s ∷ ss) = one_listed bytes first s ++ listed bytes false ss

-- How many are not written.
abbrev pub rest : ℕ → Text
rest count = if nat_lt most count then codes " and " ++ (decimal (count - most) ++ codes " more") else []

abbrev pub none_at_all : Text
none_at_all = codes "none"

-- The first eight names, and how many more there are; or `none`.
unfoldable pub names_listed : Text → List Span → Text
names_listed bytes [] = none_at_all
names_listed bytes (s ∷ ss) = listed bytes true (take most (s ∷ ss)) ++ rest (length (s ∷ ss))
