-- The parts of a printed text by names of their own, for the contracts of the code and for proofs. Each of `more_...` is
-- what is left of a list after its first element.
use Rattle.std.specs.{Prelude.{ℕ, List, [], ◌++◌, Bool, Option, if◌then◌else◌, codes, flat_map}, List.join_by, Option.option_map_or}
use Rattle.pc_tree.specs.{declared.written_names.Name.Name, declared.file.ParamDef.ParamDef, declared.kinds.Op.Op}
use Rattle.pc_print.specs.Printing.{body_lines, escaped, op_text, printed_arms, printed_entity, printed_expr, printed_exprs, printed_field, printed_items, printed_method, printed_param}
use Rattle.pc_tree.specs.Tree as t

abbrev pub all_escaped : List ℕ → List ℕ
all_escaped bytes = flat_map escaped bytes

abbrev pub hat : Bool → List ℕ
hat written = if written then codes "^" else []

-- ---- expressions

-- an operator between two terms
abbrev pub between_terms : Op → List ℕ
between_terms op = codes " " ++ (op_text op ++ codes " ")

-- `a + b + c`
abbrev pub printed_terms : t.Exprs → Op → List ℕ
printed_terms es op = printed_exprs [] (between_terms op) es

abbrev pub more_terms : t.Exprs → Op → List ℕ
more_terms es op = printed_exprs (between_terms op) (between_terms op) es

-- `a, b`
abbrev pub printed_args : t.Exprs → List ℕ
printed_args es = printed_exprs [] (codes ", ") es

abbrev pub more_args : t.Exprs → List ℕ
more_args es = printed_exprs (codes ", ") (codes ", ") es

-- `if s then s elseif s then s`
abbrev pub all_arms : t.Arms → List ℕ
all_arms xs = printed_arms (codes "if ") (codes " elseif ") xs

abbrev pub more_arms : t.Arms → List ℕ
more_arms xs = printed_arms (codes " elseif ") (codes " elseif ") xs

-- `s; s`
abbrev pub all_items : t.Items → List ℕ
all_items is = printed_items [] (codes "; ") is

abbrev pub more_items : t.Items → List ℕ
more_items is = printed_items (codes "; ") (codes "; ") is

-- each item on a line of its own
abbrev pub printed_lines : t.Items → List ℕ
printed_lines is = printed_items (codes "\n    ") (codes "\n    ") is

-- ---- members

-- ` = e`, if there is a value
abbrev pub printed_value : Option t.Expr → List ℕ
printed_value value = option_map_or (λ e. codes " = " ++ printed_expr e) value []

abbrev pub printed_fields : List t.Field → List ℕ
printed_fields fs = flat_map printed_field fs

-- `x: T, y: U`
abbrev pub printed_params : List ParamDef → List ℕ
printed_params ds = join_by printed_param (codes ", ") ds

abbrev pub more_params : List ParamDef → List ℕ
more_params ds = flat_map (λ d. codes ", " ++ printed_param d) ds

-- ` =>` and the lines of the body, if there is one
abbrev pub printed_body : Option t.Seq → List ℕ
printed_body body = option_map_or (λ b. codes " =>" ++ body_lines b) body []

abbrev pub printed_methods : List t.Method → List ℕ
printed_methods ms = flat_map printed_method ms

-- ---- entities

-- `A & B`
abbrev pub printed_names : List Name → List ℕ
printed_names ms = join_by (λ (m : Name). m.text) (codes " & ") ms

abbrev pub more_names : List Name → List ℕ
more_names ms = flat_map (λ (m : Name). codes " & " ++ m.text) ms

abbrev pub printed_entities : List t.Entity → List ℕ
printed_entities es = join_by printed_entity (codes "\n\n") es

abbrev pub more_entities : List t.Entity → List ℕ
more_entities es = flat_map (λ e. codes "\n\n" ++ printed_entity e) es
