-- As in the code: the notes of a node's children, in order, held together, or each found by its number among all notes.
use Rattle.std.specs.Prelude.{ℕ, Bool, true, false, ◌&&◌, ◌<◌, List, [], ◌∷◌, length, Option, Some, None, slice_get}
use Rattle.pc_core.specs.{declared.declarations.ParamInfo.ParamInfo, CoreData.CoreData}
use Rattle.pc_base.specs.Lists.{Each, ◌>>=◌}
use Rattle.pc_ann.specs.declared.annotation.Note.{Note}
use Rattle.pc_valid.specs.Words.{Ty}
use Rattle.pc_rules.specs.Calls.{argument_goes, argument_sendable}

-- Each of these nodes has a note.
abbrev pub HaveNotes : List Note → List ℕ → Type 0
HaveNotes notes cs = Each (λ i c. c < length notes) cs

abbrev pub is_there : Option Note → Bool
is_there None = false
is_there (Some t) = true

abbrev pub each_has : List Note → List ℕ → Bool
each_has notes [] = true
each_has notes (c ∷ cs) = is_there (slice_get notes c) && each_has notes cs

-- The notes of those nodes that have one.
abbrev pub put_before : Option Note → List Note → List Note
put_before None ts = ts
put_before (Some t) ts = t ∷ ts

abbrev pub gather : List Note → List ℕ → List Note
gather notes [] = []
gather notes (c ∷ cs) = put_before (slice_get notes c) (gather notes cs)

-- All notes, or those with these numbers among them.
abbrev pub all_or_gathered : Bool → List Note → List ℕ → List Note
all_or_gathered true notes cs = notes
all_or_gathered false notes cs = gather notes cs

abbrev pub MayGather : Bool → List Note → List ℕ → Type 0
MayGather true notes cs = Unit {0}
MayGather false notes cs = HaveNotes notes cs

-- The note of the child with this index.
abbrev pub picked_note : List Note → List ℕ → ℕ → Option Note
picked_note notes cs i = do
  c ← slice_get cs i
  slice_get notes c

-- The type of the child with this index.
abbrev pub type_at : List Note → ℕ → Option Ty
type_at ns i = do
  t ← slice_get ns i
  t.ty

-- The child with this index goes to the parameter with this index.
abbrev pub goes_to_param : CoreData → List Note → ℕ → Option ParamInfo → Bool
goes_to_param core ns i None = false
goes_to_param core ns i (Some p) = argument_goes core p (type_at ns i)

abbrev pub goes_at : CoreData → List Note → List ParamInfo → ℕ → Bool
goes_at core ns ps i = goes_to_param core ns i (slice_get ps i)

-- The child has a sendable form, or goes to a sendable parameter.
abbrev pub sendable_to_param : List Note → ℕ → Option ParamInfo → Bool
sendable_to_param ns i None = false
sendable_to_param ns i (Some p) = argument_sendable p (type_at ns i)

abbrev pub sendable_at : List Note → List ParamInfo → ℕ → Bool
sendable_at ns ps i = sendable_to_param ns i (slice_get ps i)
