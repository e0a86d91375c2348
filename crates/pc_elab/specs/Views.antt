-- The parts of `pc_file_spec` that the parts of the code represent.
use Rattle.pc_elab.specs.declared.parts.Parts.{Parts}
use Rattle.pc_file_spec.specs.Cores as spec

abbrev pub parts_view : Parts → spec.Parts
parts_view p = record { methods = p.methods; slots = p.slots; nodes = p.nodes }
