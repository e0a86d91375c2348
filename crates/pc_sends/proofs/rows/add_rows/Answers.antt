use Rattle.std.proofs.{Common.{◌++◌, ◌∷◌, [], List, map, take, get_or, ap, sym, ◌∙◌, append_assoc}, lemmas.List.map_more}
use Rattle.pc_sends.specs.{declared.table.Row.Row, Tables.row}
use Rattle.pc_sends.proofs.rows.add_rows.Goals as goal

pub loop-target-preserved : goal.loop-target-preserved
loop-target-preserved c =
    let l = c.loop-target in
    let ts = c.args.targets.now in
    let k = l.target-index in
    let f = row c.args.from in
    let last : List Row = f (get_or ts k 0) ∷ [] in
    c.in_ok-push.ensures.ok ∙ ap (λ (xs : List Row). xs ++ last) l.invariant ∙ append_assoc c.args.rows.now (map f (take k ts)) last ∙ ap (λ (xs : List Row). c.args.rows.now ++ xs) (sym (map_more f ts k 0 c.loop-target-test.true))
