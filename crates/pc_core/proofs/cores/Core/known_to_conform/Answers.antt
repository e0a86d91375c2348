use Rattle.std.proofs.Common.{List, subst}
use Rattle.std.specs.Prelude.{Option, IfSome}
use Rattle.pc_masks.specs.declared.mask.Mask.{Mask}
use Rattle.pc_core.specs.{CoreData.CoreData, Conforming.TellsConforming}
use Rattle.pc_core.proofs.cores.Core.known_to_conform.Goals as goal

pub told-requires : goal.told-requires
told-requires c =
    let of_inside = λ (core : CoreData) (o : Option (List (List Mask))). IfSome o (TellsConforming core) in
    subst (λ (core : CoreData). TellsConforming core c.in-Some.sets) c.self.view_is
    (subst (of_inside (record { entities = c.self.inside.entities; methods = c.self.inside.methods; slots = c.self.inside.slots; nodes = c.self.inside.nodes; names = c.self.inside.names })) c.in-Some.is c.self.invariant.2)
