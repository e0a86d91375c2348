-- The files of a call have its texts.
use Rattle.std.proofs.Common.{◌∙◌, List}
use Rattle.std.specs.Prelude.{codes}
use Rattle.pc_io.specs.declared.entries.Entry.{Entry}
use Rattle.pc_base.specs.Lists.{Text}
use Rattle.pc_lib_buffers.specs.{Holding.{Adds, AddsBeside, HoldsTexts}, declared.beside.Beside.Beside, declared.beside.Beside.TheVariants.{Nothing, Derivation, Schedule}}

-- First the source was added, and then the text beside it.
pub holds : (none one all : List Entry) (source : Text) (beside : Beside) → Adds none one (codes "source") source → AddsBeside one all beside → HoldsTexts all source beside
holds none one all source Nothing first second = (second (codes "source") ∙ first (codes "source"), tt)
holds none one all source (Derivation derivation) first second = (second (codes "source") ∙ first (codes "source"), second (codes "derivation"))
holds none one all source (Schedule schedule) first second = (second (codes "source") ∙ first (codes "source"), second (codes "schedule"))
