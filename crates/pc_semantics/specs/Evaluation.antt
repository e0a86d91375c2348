-- The evaluation of a node, operators, and the choice of what to do next.
use Rattle.std.specs.{Prelude.{ℕ, ◌+◌, ◌-◌, ◌*◌, ◌/◌, ◌%◌, ◌^◌, List, [], ◌∷◌, ◌++◌, length, Option, Some, None, nat_eq, nat_lt, Bool, true, false, not, ◌&&◌, cond, if◌then◌else◌}, Str.bytes_eq}
use Rattle.pc_base.specs.Limits.{text_limit}
use Rattle.pc_tree.specs.declared.kinds.Op.{Op}
use Rattle.pc_heap.specs.{declared.value.Value.Value, declared.value.Value.TheVariants.{Num, Truth, Text, Prim, At}}
use Rattle.pc_core.specs.{declared.kinds.Operation.Operation, declared.kinds.Connective.Connective, declared.nodes.NodeKind.NodeKind, Kinds.{applied_operation, connective}}
use Rattle.pc_semantics.specs.{declared.frames.Task.Task, declared.frames.Frame.Frame, Configurations.{Move, Stuck, Overflows, Goes, pushed, with_slot, slot_value, doing, given, push_value, pop, none}, Children.evaluations}
use Rattle.pc_tree.specs.declared.kinds.Op.TheVariants as op
use Rattle.pc_core.specs.declared.kinds.Connective.TheVariants as joins
use Rattle.pc_core.specs.declared.kinds.Operation.TheVariants as applies
use Rattle.pc_core.specs.declared.nodes.NodeKind.TheVariants as node
use Rattle.pc_semantics.specs.declared.frames.Task.TheVariants as task
use Rattle.pc_semantics.specs.declared.outcome.Lack.TheVariants as lack

-- ---- Eval

-- How a node is evaluated: to a value; to that of a slot, which is copied or taken; all children and then a task; the
-- first child and then tasks; or the items of a sequence, of which every value but the last is dropped.
pub data Way : Type 0 where
  Gives : Value → Way
  Copies : ℕ → Way
  Takes : ℕ → Way
  AllThen : Task → Way
  FirstThen : List Task → Way
  Items : Way

-- The way of node n, by its kind.
abbrev pub way_of : ℕ → NodeKind → Way
way_of n (node.Number k) = Gives (Num k)
way_of n (node.Truth b) = Gives (Truth b)
way_of n (node.Text t) = Gives (Text t)
way_of n (node.Prim e) = Gives (Prim e)
way_of n node.This = Copies 0
way_of n (node.Local s) = Copies s
way_of n (node.Consume s) = Takes s
way_of n (node.Field name) = AllThen (task.Get n)
way_of n (node.SetField name) = AllThen (task.Put n)
way_of n (node.Define s) = AllThen (task.Store n)
way_of n (node.Assign s) = AllThen (task.Store n)
way_of n (node.New m) = AllThen (task.Make n)
way_of n (node.Spawn m) = AllThen (task.Spawn n)
way_of n (node.Call name) = AllThen (task.Invoke n)
way_of n (node.Binary o) = AllThen (task.Apply n)
way_of n node.Not = AllThen (task.Apply n)
way_of n (node.Same b) = AllThen (task.Apply n)
way_of n node.And = FirstThen (task.Test n ∷ [])
way_of n node.Or = FirstThen (task.Test n ∷ [])
way_of n node.If = FirstThen (task.Branch n ∷ [])
way_of n node.While = FirstThen (task.Loop n ∷ [])
way_of n node.Seq = Items
way_of n (node.Recover cap) = FirstThen []
way_of n node.Body = FirstThen (task.Return ∷ [])

abbrev pub first_then : Frame → List ℕ → List Task → Move
first_then f [] ts = Stuck lack.Value
first_then f (c ∷ children) ts = Goes (doing f (task.Eval c ∷ ts))

abbrev pub item_tasks : List ℕ → List Task
item_tasks [] = []
item_tasks (c ∷ []) = task.Eval c ∷ []
item_tasks (c ∷ d ∷ children) = task.Eval c ∷ task.Discard ∷ item_tasks (d ∷ children)

abbrev pub by_way : Frame → List ℕ → Way → Move
by_way f cs (Gives v) = Goes (pushed f v)
by_way f cs (Copies s) = push_value f lack.Slot (slot_value f s)
by_way f cs (Takes s) = given lack.Slot (slot_value f s) λ v. Goes (pushed (with_slot f s None) v)
by_way f cs (AllThen t) = Goes (doing f (evaluations cs ++ t ∷ []))
by_way f cs (FirstThen ts) = first_then f cs ts
by_way f cs Items = Goes (doing f (item_tasks cs))

abbrev pub evaluate : Frame → ℕ → List ℕ → NodeKind → Move
evaluate f n cs k = by_way f cs (way_of n k)

-- ---- Apply

-- Sums, differences and products are reduced to 64 bits. A quotient or remainder by 0 is 0.
abbrev pub of_numbers : Op → (left right : ℕ) → Option Value
of_numbers op.Add a b = Some (Num ((a + b) % 2 ^ 64))
of_numbers op.Sub a b = Some (Num ((a + (2 ^ 64 - b)) % 2 ^ 64))
of_numbers op.Mul a b = Some (Num ((a * b) % 2 ^ 64))
of_numbers op.Div a b = Some (Num (if nat_eq b 0 then 0 else a / b))
of_numbers op.Rem a b = Some (Num (if nat_eq b 0 then 0 else a % b))
of_numbers op.Eq a b = Some (Truth (nat_eq a b))
of_numbers op.Ne a b = Some (Truth (not (nat_eq a b)))
of_numbers op.Lt a b = Some (Truth (nat_lt a b))
of_numbers op.Le a b = Some (Truth (not (nat_lt b a)))
of_numbers op.Gt a b = Some (Truth (nat_lt b a))
of_numbers op.Ge a b = Some (Truth (not (nat_lt a b)))
of_numbers o a b = None

abbrev pub same_truth : Bool → Bool → Bool
same_truth a b = cond a b (not b)

abbrev pub of_truths : Op → Bool → Bool → Option Value
of_truths op.Eq a b = Some (Truth (same_truth a b))
of_truths op.Ne a b = Some (Truth (not (same_truth a b)))
of_truths op.Xor a b = Some (Truth (not (same_truth a b)))
of_truths o a b = None

-- Two texts are joined, unless the result would be too long, or compared.
abbrev pub of_texts : Frame → Op → List ℕ → List ℕ → Move
of_texts f op.Add a b = if nat_lt text_limit (length (a ++ b)) then Overflows else Goes (pushed f (Text (a ++ b)))
of_texts f op.Eq a b = Goes (pushed f (Truth (bytes_eq a b)))
of_texts f op.Ne a b = Goes (pushed f (Truth (not (bytes_eq a b))))
of_texts f o a b = Stuck lack.Value

abbrev pub binary : Frame → Op → Value → Value → Move
binary f o (Num a) (Num b) = push_value f lack.Value (of_numbers o a b)
binary f o (Truth a) (Truth b) = push_value f lack.Value (of_truths o a b)
binary f o (Text a) (Text b) = of_texts f o a b
binary f o v w = Stuck lack.Value

-- Equal numbers, equal truth values, texts with equal bytes, the same primitive, or the same object.
abbrev pub same_value : Value → Value → Bool
same_value (Num a) (Num b) = nat_eq a b
same_value (Truth a) (Truth b) = same_truth a b
same_value (Text a) (Text b) = bytes_eq a b
same_value (Prim a) (Prim b) = nat_eq a b
same_value (At a) (At b) = nat_eq a.maker b.maker && nat_eq a.serial b.serial
same_value v w = false

-- The value must be a truth value.
abbrev pub truth : (Bool → Frame → Move) → Value → Frame → Move
truth next (Truth b) f = next b f
truth next v f = Stuck lack.Value

-- An operator; `is`, or `isnt` if the truth value is false; or `not`. The right operand is on top.
abbrev pub applied : Frame → Operation → Move
applied f (applies.Binary o) = pop f λ w g. pop g λ v h. binary h o v w
applied f (applies.Same b) = pop f λ w g. pop g λ v h. Goes (pushed h (Truth (same_truth b (same_value v w))))
applied f applies.Not = pop f (truth λ b g. Goes (pushed g (Truth (not b))))

abbrev pub apply_task : Frame → NodeKind → Move
apply_task f k = given lack.Value (applied_operation k) (applied f)

-- ---- Test, Branch and Loop

abbrev pub right_side : Frame → List ℕ → Move
right_side f (a ∷ b ∷ []) = Goes (doing f (task.Eval b ∷ []))
right_side f cs = Stuck lack.Value

-- The left side decides, or the right side is evaluated.
abbrev pub decided : Connective → List ℕ → Bool → Frame → Move
decided joins.And cs false f = Goes (pushed f (Truth false))
decided joins.Or cs true f = Goes (pushed f (Truth true))
decided o cs b f = right_side f cs

abbrev pub test_task : Frame → List ℕ → NodeKind → Move
test_task f cs k = given lack.Value (connective k) λ o. pop f (truth (decided o cs))

-- One of the two branches is evaluated.
abbrev pub branch : List ℕ → Bool → Frame → Move
branch (c ∷ a ∷ b ∷ []) true f = Goes (doing f (task.Eval a ∷ []))
branch (c ∷ a ∷ b ∷ []) false f = Goes (doing f (task.Eval b ∷ []))
branch cs b f = Stuck lack.Value

-- The body and then the whole loop again, or None.
abbrev pub loop_turn : ℕ → List ℕ → Bool → Frame → Move
loop_turn n (c ∷ a ∷ []) true f = Goes (doing f (task.Eval a ∷ task.Discard ∷ task.Eval n ∷ []))
loop_turn n (c ∷ a ∷ []) false f = Goes (pushed f none)
loop_turn n cs b f = Stuck lack.Value
