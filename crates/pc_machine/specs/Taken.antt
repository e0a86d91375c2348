-- What a message means to the idle actor that takes it.
use Rattle.std.specs.Prelude.{ℕ, List, [], ◌∷◌, Option, Some, None, slice_get}
use Rattle.pc_heap.specs.{declared.value.Value.Value, declared.value.Value.TheVariants.{Text, At}}
use Rattle.pc_core.specs.CoreData.{CoreData}
use Rattle.pc_base.specs.Lists.{◌>>=◌}
use Rattle.pc_semantics.specs.{declared.frames.Frame.Frame, declared.mailbox.Message.Message, Configurations.{own_address, first_frame}}

-- The text to print.
abbrev pub only_text : List Value → Option (List ℕ)
only_text (Text t ∷ []) = Some t
only_text arguments = None

-- The frame of the method that actor i begins.
abbrev pub frame_begun : CoreData → ℕ → Message → Option Frame
frame_begun core i m = do
  x ← slice_get core.methods m.method
  body ← x.body
  Some (first_frame m.method x (At (own_address i)) m.arguments body)
