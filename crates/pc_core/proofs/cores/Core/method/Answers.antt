use Rattle.std.proofs.Common.{◌≡◌, ℕ, List, map, ap, subst, ◌∙◌}
use Rattle.std.specs.Prelude.{Option, IfSome}
use Rattle.pc_core.specs.{CoreData.CoreData, Members.method_exact, MethodKeys.method_key}
use Rattle.pc_core.specs.CoreData as spec
use Rattle.pc_core.proofs.Keys.{named_by_key}
use Rattle.pc_core.proofs.cores.Core.method.Goals as goal

pub returns-in-None-clause-exact : goal.returns-in-None-clause-exact
returns-in-None-clause-exact c = method_exact c.args.self.now c.args.entity c.args.name c.method_among.result c.formed.ensures c.method_among.ensures

value : (c : goal.After-number_of) → c.number_of.result ≡ spec.method_named c.args.self.now c.args.entity c.args.name
value c =
    let keys : c.in-Some.index ≡ map method_key c.self.inside.methods =
    subst (λ (o : Option (List (ℕ × ℕ))). IfSome o (λ ks. ks ≡ map method_key c.self.inside.methods)) c.in-Some.is c.self.invariant.1 in
    let all : c.in-Some.index ≡ map method_key c.args.self.now.methods = keys ∙ ap (λ (x : CoreData). map method_key x.methods) c.self.view_is in
    c.number_of.ensures ∙ named_by_key c.args.self.now c.args.entity c.args.name c.in-Some.index c.formed.ensures all

pub returns-in-Some-clause-value : goal.returns-in-Some-clause-value
returns-in-Some-clause-value c = value c

pub returns-in-Some-clause-exact : goal.returns-in-Some-clause-exact
returns-in-Some-clause-exact c = method_exact c.args.self.now c.args.entity c.args.name c.number_of.result c.formed.ensures (value c)
