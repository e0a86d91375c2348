-- The masks of the source of a node.
use Rattle.std.specs.Prelude.{Option, Some, None, slice_get}
use Rattle.pc_core.specs.{declared.declarations.Method.Method, CoreData.CoreData}
use Rattle.pc_ann.specs.{declared.annotation.Note.Note, declared.annotation.Ann.Ann}
use Rattle.pc_masks.specs.Masks.{empty}
use Rattle.pc_valid.specs.Words.{Masks, masks_after}
use Rattle.pc_check.specs.{Sources.start_masks, declared.sources.Source.Source}
use Rattle.pc_check.specs.declared.sources.Source.TheVariants as source

abbrev pub masks_in : CoreData → Option Method → Masks
masks_in core None = (empty, empty)
masks_in core (Some f) = start_masks core f

abbrev pub masks_behind : Option Note → Masks
masks_behind None = (empty, empty)
masks_behind (Some t) = masks_after t

-- The masks of a source.
abbrev pub masks_from : CoreData → Ann → Source → Masks
masks_from core ann (source.Start m) = masks_in core (slice_get core.methods m)
masks_from core ann (source.Behind s) = masks_behind (slice_get ann.notes s)
