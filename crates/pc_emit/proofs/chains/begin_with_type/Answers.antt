use Rattle.std.proofs.Common.{◌≡◌, map, sym, ap, ◌∙◌, subst}
use Rattle.pc_tree.specs.View.{suffix_view}
use Rattle.pc_resolve.specs.Meanings.{type_view}
use Rattle.pc_body_spec.specs.Bodies.{no_value, primitive, type_meaning, with_type}
use Rattle.pc_emit.specs.declared.chains.Beginning.TheVariants as begins
use Rattle.pc_emit.specs.Closing.{BeginsChain}
use Rattle.pc_emit.proofs.Suffixes.{begins_with_nothing, reads_primitive}
use Rattle.pc_emit.proofs.chains.begin_with_type.Goals as goal

pub returns-in-NoValue-clause-begins : goal.returns-in-NoValue-clause-begins
returns-in-NoValue-clause-begins c =
    let cx = c.args.context.now in
    let ss = map suffix_view c.args.suffixes.now in
    let none : type_meaning cx c.args.name.now.text ≡ no_value = ap (type_meaning cx) (sym c.as_slice.ensures) ∙ sym c.type_meaning.ensures ∙ ap type_view c.in-NoValue.is in
    subst (λ w. BeginsChain cx (with_type w) ss begins.Value) (sym none) (begins_with_nothing cx ss)

pub returns-in-Created-clause-begins : goal.returns-in-Created-clause-begins
returns-in-Created-clause-begins c =
    let cx = c.args.context.now in
    let is = ap (type_meaning cx) (sym c.as_slice.ensures) ∙ sym c.type_meaning.ensures ∙ ap type_view c.in-Created.is in
    subst (λ w. BeginsChain cx (with_type w) (map suffix_view c.args.suffixes.now) c.begin_with_object-beginning.result) (sym is) c.begin_with_object-beginning.ensures.begins

pub returns-in-Primitive-clause-begins : goal.returns-in-Primitive-clause-begins
returns-in-Primitive-clause-begins c =
    let cx = c.args.context.now in
    let is = ap (type_meaning cx) (sym c.as_slice.ensures) ∙ sym c.type_meaning.ensures ∙ ap type_view c.in-Primitive.is in
    subst (λ w. BeginsChain cx (with_type w) (map suffix_view c.args.suffixes.now) c.begin_with_primitive-beginning.result)
    (sym is) c.begin_with_primitive-beginning.ensures.begins

pub returns-in-Primitive-clause-reads : goal.returns-in-Primitive-clause-reads
returns-in-Primitive-clause-reads c = λ scope.
    let cx = c.args.context.now in
    let is : type_meaning cx c.args.name.now.text ≡ primitive c.in-Primitive.entity = ap (type_meaning cx) (sym c.as_slice.ensures) ∙ sym c.type_meaning.ensures ∙ ap type_view c.in-Primitive.is in
    reads_primitive cx scope c.args.name.now c.in-Primitive.entity is
