-- The entity of a noted type, and of a note.
use Rattle.std.specs.Prelude.{ℕ, Option, option_map}
use Rattle.pc_ann.specs.declared.annotation.Note.{Note}
use Rattle.pc_valid.specs.Words.{Ty}

abbrev pub noted_entity : Option Ty → Option ℕ
noted_entity ty = option_map (λ (t : Ty). t.0) ty

abbrev pub noted_in : Note → Option ℕ
noted_in note = noted_entity note.ty
