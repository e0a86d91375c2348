use Rattle.pc_body_spec.proofs.{Scopes.scoped, BodyScopes.{bodies_are_scoped, added_bodies_are_scoped}}
use Rattle.pc_body_spec.proofs.laws.locals_are_visible.Goals as goal

pub returns : goal.returns
returns c = record { expressions = scoped; bodies = bodies_are_scoped; added = added_bodies_are_scoped }
