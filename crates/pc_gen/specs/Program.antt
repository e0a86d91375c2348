-- The tree of the program generated from a seed and a size, whose printed text is `generated_text`.
--
--   class Cell
--     var _n: U64 = 0
--     fun ref add(k: U64) =>
--       _n = _n + k
--     fun value(): U64 =>
--       _n
--
-- After it come `actor Work0` and so on, `size` of them, each with a task drawn for it, and then `Main`.
use Rattle.std.specs.{Prelude.{ℕ, Bool, false, List, [], ◌∷◌, Option, Some, None, codes, suc, ◌+◌, ◌*◌, ◌==◌, true, if◌then◌else◌, ◌++◌, map}, List.range_with_len, Fmt.decimal}
use Rattle.pc_base.specs.declared.span.Span.{Span}
use Rattle.pc_caps.specs.declared.capability.Cap.{Cap}
use Rattle.pc_tree.specs.{declared.written_names.Name.Name, declared.written_names.TypeRef.TypeRef, declared.file.ParamDef.ParamDef, declared.kinds.Op.Op, declared.kinds.MethodWord.MethodWord, Parts.{exprs_of, suffixes_of, arms_of, items_of}}
use Rattle.pc_gen.specs.declared.task.Task.{Task}
use Rattle.pc_draws.specs.Draws.{draw}
use Rattle.pc_tree.specs.Tree as t
use Rattle.pc_tree.specs.declared.kinds.EntityKind.TheVariants as kind
use Rattle.pc_tree.specs.declared.kinds.MethodWord.TheVariants as word
use Rattle.pc_caps.specs.declared.capability.Cap.TheVariants as cap
use Rattle.pc_tree.specs.declared.kinds.Op.TheVariants as op
use Rattle.pc_gen.specs.declared.task.Task.TheVariants as task

-- ---- parts of a generated tree

-- Each is named as it is written. A generated tree is in no text: all its spans are empty and at 0.
abbrev pub without_place : Span
without_place = record { start = 0; end = 0 }

abbrev pub placeless_name : List ℕ → Name
placeless_name text = record { text = text; span = without_place }

-- `C` or `C k`
abbrev pub type_reference : List ℕ → Option Cap → TypeRef
type_reference c k = record { name = placeless_name c; cap = k; hat = false }

-- ---- expressions

-- `x`
abbrev pub variable_expression : List ℕ → t.Expr
variable_expression x = t.name (placeless_name x)

-- `C`
abbrev pub type_expression : List ℕ → t.Expr
type_expression c = t.type_name (placeless_name c)

-- `5`
abbrev pub number : ℕ → t.Expr
number n = t.number n without_place

-- `consume x`
abbrev pub consume_expression : List ℕ → t.Expr
consume_expression x = t.consume (placeless_name x) without_place

-- `a + b`
abbrev pub operator_expression : Op → t.Expr → t.Expr → t.Expr
operator_expression op a b = t.infix_ op (exprs_of (a ∷ b ∷ [])) without_place

-- `x = e`
abbrev pub assign_expression : List ℕ → t.Expr → t.Expr
assign_expression x e = t.assign (variable_expression x) e without_place

-- `.m` and `(a, b)`
abbrev pub dot : List ℕ → t.Suffix
dot m = t.dot (placeless_name m)

abbrev pub arguments_suffix : List t.Expr → t.Suffix
arguments_suffix es = t.args (exprs_of es) without_place

abbrev pub chained : t.Expr → List t.Suffix → t.Expr
chained e ss = t.chain e (suffixes_of ss) without_place

-- `x.m(a, b)`
abbrev pub call_expression : List ℕ → List ℕ → List t.Expr → t.Expr
call_expression x m es = chained (variable_expression x) (dot m ∷ arguments_suffix es ∷ [])

-- `C(a, b)`
abbrev pub construct : List ℕ → List t.Expr → t.Expr
construct c es = chained (type_expression c) (arguments_suffix es ∷ [])

-- ---- sequences

abbrev pub sequence_of : List t.Item → t.Seq
sequence_of is = t.seq (items_of is) without_place

abbrev pub alone : t.Expr → t.Seq
alone e = sequence_of (t.plain e ∷ [])

-- `let x: T = e`, or `var` in place of `let`
abbrev pub local : Bool → List ℕ → TypeRef → t.Expr → t.Item
local fixed x ty e = t.local fixed (placeless_name x) (Some ty) e without_place

-- `if c then a else b end`
abbrev pub choice : t.Seq → t.Seq → t.Seq → t.Expr
choice c a b = t.if_ (arms_of (t.arm_of c a without_place ∷ [])) (t.other b) without_place

-- `while c do a end`
abbrev pub turns : t.Seq → t.Seq → t.Expr
turns c a = t.while_ c a without_place

-- `recover k a end`
abbrev pub recover_expression : Cap → t.Seq → t.Expr
recover_expression k a = t.recover (Some k) a without_place

-- ---- members and entities

-- `x: T`
abbrev pub param_definition : List ℕ → TypeRef → ParamDef
param_definition x ty = record { name = placeless_name x; ty = ty }

abbrev pub method_definition : MethodWord → Option Cap → List ℕ → List ParamDef → Option TypeRef → t.Seq → t.Method
method_definition begin k name params result body =
    record { word = begin; cap = k; name = placeless_name name; params = params; result = result; body = Some body }

-- `new create(x: T) => body`
abbrev pub create : List ParamDef → t.Seq → t.Method
create params body = method_definition word.New None (codes "create") params None body

-- an actor without fields, with one method
abbrev pub actor : List ℕ → t.Method → t.Entity
actor name m = record { kind = kind.Actor; cap = None; name = placeless_name name; provides = []; fields = []; methods = m ∷ [] }

-- ---- the class Cell

abbrev pub numbers : TypeRef
numbers = type_reference (codes "U64") None

-- `var _n: U64 = 0`
abbrev pub count_field : t.Field
count_field = record { fixed = false; name = placeless_name (codes "_n"); ty = numbers; value = Some (number 0) }

-- `fun ref add(k: U64) => _n = _n + k`
abbrev pub add_method : t.Method
add_method = method_definition word.Fun (Some cap.Ref) (codes "add") (param_definition (codes "k") numbers ∷ []) None (alone (assign_expression (codes "_n") (operator_expression op.Add (variable_expression (codes "_n")) (variable_expression (codes "k")))))

-- `fun value(): U64 => _n`
abbrev pub value_method : t.Method
value_method = method_definition word.Fun None (codes "value") [] (Some numbers) (alone (variable_expression (codes "_n")))

abbrev pub cell : t.Entity
cell = record { kind = kind.Class; cap = None; name = placeless_name (codes "Cell"); provides = []; fields = count_field ∷ []; methods = add_method ∷ value_method ∷ [] }

-- ---- what a worker does with its cell `c` and its number k

-- `x.add(e)`
abbrev pub add_expression : List ℕ → t.Expr → t.Expr
add_expression x e = call_expression x (codes "add") (e ∷ [])

-- `x.value()`
abbrev pub value_expression : List ℕ → t.Expr
value_expression x = call_expression x (codes "value") []

-- `out.print(x.value().string())`
abbrev pub tell : List ℕ → t.Expr
tell x = call_expression (codes "out") (codes "print") (chained (variable_expression x) (dot (codes "value") ∷ arguments_suffix [] ∷ dot (codes "string") ∷ arguments_suffix [] ∷ []) ∷ [])

-- `if c.value() > k then c.add(1) else c.add(k) end`
abbrev pub compare : ℕ → t.Expr
compare k = choice (alone (operator_expression op.Gt (value_expression (codes "c")) (number k))) (alone (add_expression (codes "c") (number 1)))
    (alone (add_expression (codes "c") (number k)))

-- `t + n`
abbrev pub turn_and : ℕ → t.Expr
turn_and n = operator_expression op.Add (variable_expression (codes "t")) (number n)

-- `while t < 3 do c.add(t + k); t = t + 1 end`
abbrev pub repeat : ℕ → t.Expr
repeat k = turns (alone (operator_expression op.Lt (variable_expression (codes "t")) (number 3))) (sequence_of (t.plain (add_expression (codes "c") (turn_and k)) ∷ t.plain (assign_expression (codes "t") (turn_and 1)) ∷ []))

-- `recover val let e: Cell ref = Cell; e.add(v); e end`
abbrev pub freeze : t.Expr
freeze = recover_expression cap.Val (sequence_of (local true (codes "e") (type_reference (codes "Cell") (Some cap.Ref)) (type_expression (codes "Cell")) ∷ t.plain (add_expression (codes "e") (variable_expression (codes "v"))) ∷ t.plain (variable_expression (codes "e")) ∷ []))

-- `var t: U64 = 0` and the loop
abbrev pub repeat_items : ℕ → List t.Item
repeat_items k = local false (codes "t") numbers (number 0) ∷ t.plain (repeat k) ∷ []

-- `let d: Cell val = recover .. end`, `out.print(d.value().string())`
abbrev pub frozen_items : List t.Item
frozen_items = local true (codes "d") (type_reference (codes "Cell") (Some cap.Val)) freeze ∷ t.plain (tell (codes "d")) ∷ []

-- `c.add(k)`, `let v: U64 = c.value()`, and a frozen copy of the cell's content
abbrev pub freeze_items : ℕ → List t.Item
freeze_items k = t.plain (add_expression (codes "c") (number k)) ∷ local true (codes "v") numbers (value_expression (codes "c")) ∷ frozen_items

abbrev pub task_items : Task → ℕ → List t.Item
task_items task.Add k = t.plain (add_expression (codes "c") (number k)) ∷ []
task_items task.Compare k = t.plain (compare k) ∷ []
task_items task.Repeat k = repeat_items k
task_items task.Freeze k = freeze_items k

-- the task chosen by a draw below 4
abbrev pub task_of : ℕ → Task
task_of n = if n == 0 then task.Add else (if n == 1 then task.Compare else (if n == 2 then task.Repeat else task.Freeze))

-- ---- the workers and Main

-- `Work5`
abbrev pub worker_name : ℕ → List ℕ
worker_name i = codes "Work" ++ decimal i

-- `let c: Cell iso = consume cell`
abbrev pub take_cell : t.Item
take_cell = local true (codes "c") (type_reference (codes "Cell") (Some cap.Iso)) (consume_expression (codes "cell"))

-- `out: OutStream, cell: Cell iso`
abbrev pub worker_params : List ParamDef
worker_params = param_definition (codes "out") (type_reference (codes "OutStream") None)
    ∷ param_definition (codes "cell") (type_reference (codes "Cell") (Some cap.Iso)) ∷ []

-- Each worker but the last passes the cell on, and the last one prints its content.
abbrev pub hand_on : (size number : ℕ) → t.Expr
hand_on size i = if i + 1 == size then tell (codes "c") else construct (worker_name (i + 1))
    (variable_expression (codes "out") ∷ consume_expression (codes "c") ∷ [])

abbrev pub work_items : (size number : ℕ) → Task → (drawn : ℕ) → List t.Item
work_items size i task k = take_cell ∷ (task_items task k ++ t.plain (hand_on size i) ∷ [])

-- the worker with this number, with this task and the number drawn for it
abbrev pub work : (size number : ℕ) → Task → (drawn : ℕ) → t.Entity
work size i task k = actor (worker_name i) (create worker_params (sequence_of (work_items size i task k)))

-- Two numbers are drawn for each worker, the first for its task and the second as the task's number.
abbrev pub worker : (seed size number : ℕ) → t.Entity
worker seed size i = work size i (task_of (draw seed (i * 2) 4)) (draw seed (suc (i * 2)) 1000)

abbrev pub workers : (seed size : ℕ) → List t.Entity
workers seed size = map (worker seed size) (range_with_len 0 size)

-- `new create(env: Env) => Work0(env.out, Cell)`
abbrev pub main : t.Entity
main = actor (codes "Main") (create (param_definition (codes "env") (type_reference (codes "Env") None) ∷ []) (alone (construct (codes "Work0") (chained (variable_expression (codes "env")) (dot (codes "out") ∷ []) ∷ type_expression (codes "Cell") ∷ []))))

abbrev pub program : (seed size : ℕ) → t.File
program seed size = record { entities = cell ∷ (workers seed size ++ main ∷ []) }
