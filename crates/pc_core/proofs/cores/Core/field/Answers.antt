use Rattle.std.proofs.Common.{◌≡◌, ◌≤◌, length, sym, ap, subst, ◌∙◌}
use Rattle.std.specs.{Prelude.{List, Some, Option, slice_get}, Option.option_copied}
use Rattle.pc_core.specs.{declared.declarations.EntityDef.EntityDef, declared.declarations.FieldInfo.FieldInfo, Members.field_exact}
use Rattle.pc_base.specs.Lists.{◌>>=◌, place_of}
use Rattle.pc_core.specs.CoreData as spec
use Rattle.pc_core.specs.Parts as parts
use Rattle.pc_core.proofs.cores.Core.field.Goals as goal

there : (c : goal.After-as_slice) → slice_get c.args.self.now.entities c.args.entity ≡ Some c.in_ok-found.found.now
there c = sym c.entity_at.ensures ∙ ap option_copied (c.in_ok-found.was)

pub place_of_field-requires : goal.place_of_field-requires
place_of_field-requires c = subst (λ (fs : List FieldInfo). length fs ≤ 64) (sym c.as_slice.ensures) (c.formed.ensures.entities c.args.entity c.in_ok-found.found.now (there c)).few_fields

value : (c : goal.After-place_of_field) → c.place_of_field.result ≡ spec.field_named c.args.self.now c.args.entity c.args.name
value c =
    c.place_of_field.ensures
    ∙ ap (λ (fs : List FieldInfo). place_of parts.field_name c.args.name fs 0) c.as_slice.ensures
    ∙ sym (ap (λ (o : Option EntityDef). o >>= λ x. place_of parts.field_name c.args.name x.fields 0) (sym c.entity_at.ensures ∙ ap option_copied (c.in_ok-found.was)))

pub returns-clause-value : goal.returns-clause-value
returns-clause-value c = value c

pub returns-clause-exact : goal.returns-clause-exact
returns-clause-exact c = field_exact c.args.self.now c.args.entity c.args.name c.place_of_field.result (value c)
