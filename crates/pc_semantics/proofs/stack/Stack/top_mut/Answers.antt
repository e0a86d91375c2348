use Rattle.std.proofs.{Common.{◌≡◌, ◌<◌, ◌-◌, ◌∙◌, ◌∷◌, refl, ap, arith, length, drop, get_or, sym, set}, lemmas.List.length-reverse, lemmas.Option.slice_get-get_or}
use Rattle.std.specs.Prelude.{Some, reverse, slice_get}
use Rattle.pc_semantics.proofs.Ends.{reverse_set_last, top_last}
use Rattle.pc_semantics.proofs.stack.Stack.top_mut.Goals as goal

pub returns : goal.returns
returns g c =
    let xs = c.self.inside.items.items in
    let x = c.index_mut.result.now in
    let l : 0 < length xs = omega (arith, length-reverse xs, ap length c.self.view_is, c.requires) in
    let place : c.len-place.result - 1 ≡ length xs - 1 = omega (arith, c.len-place.ensures, c.self.inside.items.ok.0) in
    let last : x ≡ get_or xs (length xs - 1) x = c.index_mut.ensures.value ∙ ap (λ k. get_or xs k x) place in
    let there = slice_get-get_or xs (length xs - 1) x (omega (arith, l)) ∙ ap Some (sym last) in (
      (refl, λ w. ap (λ k. reverse (set xs k w)) place ∙ reverse_set_last xs w l ∙ ap (λ zs. w ∷ drop 1 zs) c.self.view_is),
      record {
        writes_back = tt;
        value = ap (λ zs. slice_get zs 0) (sym c.self.view_is) ∙ top_last xs x l there;
      },
    )
