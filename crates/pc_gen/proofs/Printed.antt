-- The printed text of the tree of a generated program is its text.
use Rattle.std.proofs.{Common.{◌≡◌, ℕ, suc, ◌+◌, ◌*◌, ◌==◌, Bool, true, false, List, [], ◌∷◌, ◌++◌, codes, map, flat_map, refl, sym, ap, ap₂, ◌∙◌, arith, append_assoc, append-nil}, lemmas.List.map-append, lemmas.List.Concat.flat_map-append}
use Rattle.std.specs.{Fmt.{decimal, digits}, List.range_with_len}
use Rattle.pc_draws.specs.Draws.{draw}
use Rattle.pc_base.specs.Lists.{Text, line_end}
use Rattle.pc_print.specs.Printing.{printed, printed_entity, printed_expr, printed_item, printed_items, printed_method, printed_seq}
use Rattle.pc_tree.specs.Parts.{items_of}
use Rattle.pc_tree.specs.Tree as t
use Rattle.pc_tree.specs.declared.kinds.Op.TheVariants as op
use Rattle.pc_gen.specs.Generated.{cell_lines, add_line, task_lines, last_line, worker_lines, main_actor_lines, generated_text}
use Rattle.pc_gen.specs.Program as spec

abbrev lined : List Text → Text
lined ls = flat_map (λ (l : Text). l ++ line_end) ls

by_test : {A : Type 0} (b : Bool) → (b ≡ true → A) → (b ≡ false → A) → A
by_test true f g = f refl
by_test false f g = g refl

-- ---- the items of a body

-- the line of an item
abbrev item_line : t.Item → Text
item_line i = codes "    " ++ printed_item i

-- the items, each after the end of a line
abbrev body : List t.Item → Text
body is = printed_items (codes "\n    ") (codes "\n    ") (items_of is)

-- a line that is followed by others, and by more
line_then : (one more rest : Text) → ((one ++ line_end) ++ more) ++ rest ≡ one ++ 10 ∷ (more ++ rest)
line_then one more rest = append_assoc (one ++ line_end) more rest ∙ append_assoc one line_end (more ++ rest)

body_lined : (is : List t.Item) (rest : Text) → body is ++ 10 ∷ rest ≡ 10 ∷ (lined (map item_line is) ++ rest)
body_lined [] rest = refl
body_lined (i ∷ is) rest =
    let one = printed_item i in
    let more = lined (map item_line is) in
    ap (λ (l : Text). codes "\n    " ++ l) (append_assoc one (body is) (10 ∷ rest) ∙ ap (λ (l : Text). one ++ l) (body_lined is rest) ∙ sym (line_then one more rest))

-- ---- what a worker does

bare : (d : Text) → ((d ++ []) ++ codes ")") ++ [] ≡ d ++ codes ")"
bare d = append-nil ((d ++ []) ++ codes ")") ∙ ap (λ (l : Text). l ++ codes ")") (append-nil d)

add_printed : (k : ℕ) → item_line (t.plain (spec.add_expression (codes "c") (spec.number k))) ≡ add_line k
add_printed k = ap (λ (l : Text). codes "    c.add(" ++ l) (bare (decimal k))

-- the numbers below 4 that are written in every program
zero_written : decimal 0 ≡ codes "0"
unfolding digits
zero_written = refl

one_written : decimal 1 ≡ codes "1"
unfolding digits
one_written = refl

three_written : decimal 3 ≡ codes "3"
unfolding digits
three_written = refl

-- `if c then a else b end`, of texts
choice_printed : (c a b : t.Seq) (x y z : Text) → printed_seq c ≡ x → printed_seq a ≡ y → printed_seq b ≡ z
    → printed_expr (spec.choice c a b) ≡ codes "if " ++ (x ++ (codes " then " ++ (y ++ (codes " else " ++ (z ++ codes " end")))))
choice_printed c a b x y z e f g =
    let one = printed_seq c in
    let two = codes " then " ++ printed_seq a in
    let other = codes " else " ++ (printed_seq b ++ codes " end") in
    ap (λ (l : Text). codes "if " ++ l) (append_assoc (one ++ two) [] other ∙ append_assoc one two other)
    ∙ ap (λ (l : Text). codes "if " ++ (l ++ (two ++ other))) e
    ∙ ap₂ (λ (l m : Text). codes "if " ++ (x ++ (codes " then " ++ (l ++ (codes " else " ++ (m ++ codes " end")))))) f g

compare_printed : (k : ℕ) → item_line (t.plain (spec.compare k)) ≡ codes "    if c.value() > " ++ (decimal k ++ (codes " then c.add(1) else c.add(" ++ (decimal k ++ codes ") end")))
compare_printed k =
    let d = decimal k in
    let test = spec.alone (spec.operator_expression op.Gt (spec.value_expression (codes "c")) (spec.number k)) in
    let one = spec.add_expression (codes "c") (spec.number 1) in
    let other = spec.add_expression (codes "c") (spec.number k) in
    let tested : printed_seq test ≡ codes "c.value() > " ++ d = ap (λ (l : Text). codes "c.value() > " ++ l) (append-nil (d ++ []) ∙ append-nil d) in
    let added : printed_seq (spec.alone one) ≡ codes "c.add(1)" = append-nil (printed_expr one) ∙ ap (λ (l : Text). codes "c.add(" ++ l) (bare (decimal 1) ∙ ap (λ (l : Text). l ++ codes ")") one_written) in
    let more : printed_seq (spec.alone other) ≡ codes "c.add(" ++ (d ++ codes ")") = append-nil (printed_expr other) ∙ ap (λ (l : Text). codes "c.add(" ++ l) (bare d) in
    ap (λ (l : Text). codes "    " ++ l) (choice_printed test (spec.alone one) (spec.alone other) (codes "c.value() > " ++ d) (codes "c.add(1)") (codes "c.add(" ++ (d ++ codes ")")) tested added more)
    ∙ ap (λ (l : Text). codes "    if c.value() > " ++ (d ++ (codes " then c.add(1) else c.add(" ++ l))) (append_assoc d (codes ")") (codes " end"))

count_printed : item_line (spec.local false (codes "t") spec.numbers (spec.number 0)) ≡ codes "    var t: U64 = 0"
count_printed = ap (λ (l : Text). codes "    var t: U64 = " ++ l) zero_written

repeat_printed : (k : ℕ) → item_line (t.plain (spec.repeat k)) ≡ codes "    while t < 3 do c.add(t + " ++ (decimal k ++ codes "); t = t + 1 end")
repeat_printed k =
    let d = decimal k in
    let test = spec.operator_expression op.Lt (spec.variable_expression (codes "t")) (spec.number 3) in
    let count = printed_expr (spec.assign_expression (codes "t") (spec.turn_and 1)) in
    let tested : printed_seq (spec.alone test) ≡ codes "t < 3" = append-nil (printed_expr test) ∙ ap (λ (l : Text). codes "t < " ++ l) (append-nil (decimal 3) ∙ three_written) in
    let added : printed_expr (spec.add_expression (codes "c") (spec.turn_and k)) ≡ codes "c.add(t + " ++ (d ++ codes ")") =
    ap (λ (l : Text). codes "c.add(" ++ l) (bare (printed_expr (spec.turn_and k)) ∙ ap (λ (l : Text). (codes "t + " ++ l) ++ codes ")") (append-nil d)) in
    let counted : count ++ [] ≡ codes "t = t + 1" = append-nil count ∙ ap (λ (l : Text). codes "t = t + " ++ l) (append-nil (decimal 1) ∙ one_written) in
    ap (λ (l : Text). codes "    while " ++ (l ++ (codes " do " ++ ((printed_expr (spec.add_expression (codes "c") (spec.turn_and k)) ++ (codes "; " ++ (count ++ []))) ++ codes " end")))) tested
    ∙ ap₂ (λ (l m : Text). codes "    while t < 3 do " ++ ((l ++ (codes "; " ++ m)) ++ codes " end")) added counted
    ∙ ap (λ (l : Text). codes "    while t < 3 do c.add(t + " ++ l) (append_assoc (d ++ codes ")") (codes "; t = t + 1") (codes " end") ∙ append_assoc d (codes ")") (codes "; t = t + 1 end"))

task_printed : (n k : ℕ) → map item_line (spec.task_items (spec.task_of n) k) ≡ task_lines n k
task_printed n k =
    by_test (n == 0) (λ e. rw e (ap (λ l. l ∷ []) (add_printed k)))
    (λ e. rw e (by_test (n == 1) (λ f. rw f (ap (λ l. l ∷ []) (compare_printed k)))
    (λ f. rw f (by_test (n == 2) (λ g. rw g (ap₂ (λ l m. l ∷ m ∷ []) count_printed (repeat_printed k)))
    (λ g. rw g (ap (λ l. l ∷ codes "    let v: U64 = c.value()" ∷ codes "    let d: Cell val = recover val let e: Cell ref = Cell; e.add(v); e end" ∷ codes "    out.print(d.value().string())" ∷ []) (add_printed k)))))))

last_printed : (size i : ℕ) → item_line (t.plain (spec.hand_on size i)) ≡ last_line size i
last_printed size i = by_test (i + 1 == size) (λ e. rw e refl) (λ e. rw e refl)

-- the number drawn for a task
number_drawn : (seed i : ℕ) → draw seed (suc (i * 2)) 1000 ≡ draw seed (i * 2 + 1) 1000
number_drawn seed i = let same : suc (i * 2) ≡ i * 2 + 1 = omega arith in ap (λ n. draw seed n 1000) same

-- ---- the actors

worker_printed : (seed size i : ℕ) (rest : Text) → 10 ∷ (printed_entity (spec.worker seed size i) ++ 10 ∷ rest) ≡ lined (worker_lines seed size i) ++ rest
worker_printed seed size i rest =
    let d = draw seed (i * 2) 4 in
    let k = draw seed (suc (i * 2)) 1000 in
    let items = spec.work_items size i (spec.task_of d) k in
    let all = task_lines d (draw seed (i * 2 + 1) 1000) ++ last_line size i ∷ [] in
    let tasks : map item_line (spec.task_items (spec.task_of d) k) ≡ task_lines d (draw seed (i * 2 + 1) 1000) = task_printed d k ∙ ap (task_lines d) (number_drawn seed i) in
    let lines : map item_line items ≡ codes "    let c: Cell iso = consume cell" ∷ all =
    ap (λ ls. codes "    let c: Cell iso = consume cell" ∷ ls) (map-append item_line (spec.task_items (spec.task_of d) k) (t.plain (spec.hand_on size i) ∷ []) ∙ ap₂ (λ ls l. ls ++ l ∷ []) tasks (last_printed size i)) in
    let inner : (body items ++ []) ++ 10 ∷ rest ≡ 10 ∷ (lined (codes "    let c: Cell iso = consume cell" ∷ all) ++ rest) =
    append_assoc (body items) [] (10 ∷ rest) ∙ body_lined items rest ∙ ap (λ ls. 10 ∷ (lined ls ++ rest)) lines in
    let head = codes "\n  new create(out: OutStream, cell: Cell iso) =>" in
    let more = lined (codes "  new create(out: OutStream, cell: Cell iso) =>" ∷ codes "    let c: Cell iso = consume cell" ∷ all) in
    ap (λ (l : Text). codes "\nactor Work" ++ l)
    (append_assoc (decimal i) (head ++ (body items ++ [])) (10 ∷ rest) ∙ ap (λ (l : Text). decimal i ++ (head ++ l)) inner ∙ sym (line_then (decimal i) more rest))

-- the actors of a file, each after an empty line
abbrev actors : List t.Entity → Text
actors es = flat_map (λ e. codes "\n\n" ++ printed_entity e) es

actors_printed : (seed size : ℕ) (is : List ℕ) → actors (map (spec.worker seed size) is ++ spec.main ∷ []) ++ line_end ≡ 10 ∷ lined (flat_map (worker_lines seed size) is ++ main_actor_lines)
actors_printed seed size [] = refl
actors_printed seed size (i ∷ is) =
    let one = printed_entity (spec.worker seed size i) in
    let more = actors (map (spec.worker seed size) is ++ spec.main ∷ []) in
    let ls = worker_lines seed size i in
    let rest = flat_map (worker_lines seed size) is ++ main_actor_lines in
    let after : lined ls ++ lined rest ≡ lined ((ls ++ flat_map (worker_lines seed size) is) ++ main_actor_lines) = sym (flat_map-append (λ (l : Text). l ++ line_end) ls rest) ∙ ap lined (sym (append_assoc ls (flat_map (worker_lines seed size) is) main_actor_lines)) in
    ap (λ (l : Text). codes "\n\n" ++ l) (append_assoc one more line_end ∙ ap (λ (l : Text). one ++ l) (actors_printed seed size is))
    ∙ ap (λ (l : Text). 10 ∷ l) (worker_printed seed size i (lined rest) ∙ after)

cell_printed : (rest : Text) → printed_entity spec.cell ++ 10 ∷ rest ≡ lined cell_lines ++ rest
cell_printed rest =
    let methods = flat_map printed_method spec.cell.methods in
    ap (λ (l : Text). codes "class Cell\n  var _n: U64 = " ++ (((l ++ []) ++ methods) ++ 10 ∷ rest)) zero_written

-- The text of a generated program is the printed text of its tree.
pub program_printed : (seed size : ℕ) → printed (spec.program seed size) ≡ generated_text seed size
unfolding printed generated_text
program_printed seed size =
    let one = printed_entity spec.cell in
    let rest = flat_map (worker_lines seed size) (range_with_len 0 size) ++ main_actor_lines in
    append_assoc one (actors (spec.workers seed size ++ spec.main ∷ [])) line_end
    ∙ ap (λ (l : Text). one ++ l) (actors_printed seed size (range_with_len 0 size))
    ∙ cell_printed (lined rest)
    ∙ sym (flat_map-append (λ (l : Text). l ++ line_end) cell_lines rest)
