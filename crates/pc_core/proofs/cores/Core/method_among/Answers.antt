use Rattle.std.proofs.Common.{◌≡◌, ◌+◌, ◌<◌, ◌≤◌, ◌^◌, length, sym, ap, subst, ◌∙◌}
use Rattle.std.specs.{Prelude.{List, Option, slice_range}, Option.option_copied}
use Rattle.pc_core.specs.{declared.declarations.EntityDef.EntityDef, declared.declarations.Method.Method, Members.{methods_within, own_methods_within}}
use Rattle.pc_base.specs.Lists.{◌>>=◌, place_of}
use Rattle.pc_core.specs.CoreData as spec
use Rattle.pc_core.specs.Parts as parts
use Rattle.pc_core.proofs.cores.Core.method_among.Goals as goal

pub part-methods-requires : goal.part-methods-requires
part-methods-requires c =
    let there = sym c.entity_at.ensures ∙ ap option_copied c.in_ok-found.was in
    subst (λ (ms : List Method). c.in_ok-found.found.now.first_method + c.in_ok-found.found.now.methods ≤ length ms) (sym c.methods.ensures)
    (methods_within c.args.self.now c.args.entity c.in_ok-found.found.now c.formed.ensures there)

own : (c : goal.After-part-methods) → c.part-methods.result.now ≡ spec.own_methods c.args.self.now c.in_ok-found.found.now
own c =
    c.part-methods.ensures
    ∙ ap (λ (ms : List Method). slice_range ms c.in_ok-found.found.now.first_method (c.in_ok-found.found.now.first_method + c.in_ok-found.found.now.methods)) c.methods.ensures

pub place_of_method-requires : goal.place_of_method-requires
place_of_method-requires c =
    let there = sym c.entity_at.ensures ∙ ap option_copied c.in_ok-found.was in
    subst (λ (ms : List Method). c.in_ok-found.found.now.first_method + length ms < 2 ^ 32) (sym (own c))
    (own_methods_within c.args.self.now c.args.entity c.in_ok-found.found.now c.formed.ensures there)

pub returns : goal.returns
returns c =
    let found = c.in_ok-found.found.now in
    let same : c.part-methods.result.now ≡ spec.own_methods c.args.self.now found =
    c.part-methods.ensures ∙ ap (λ (ms : List Method). slice_range ms found.first_method (found.first_method + found.methods)) c.methods.ensures in
    c.place_of_method.ensures
    ∙ ap (λ (ms : List Method). place_of parts.method_name c.args.name ms found.first_method) same
    ∙ sym (ap (λ (o : Option EntityDef). o >>= λ x. place_of parts.method_name c.args.name (spec.own_methods c.args.self.now x) x.first_method) (sym c.entity_at.ensures ∙ ap option_copied c.in_ok-found.was))
