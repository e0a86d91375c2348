-- The text of the program that is generated from a seed and a size, and the schedule by which it is run.
use Rattle.std.specs.{Prelude.{ℕ, ◌+◌, ◌*◌, ◌==◌, List, [], ◌∷◌, ◌++◌, if◌then◌else◌, codes, decimal, flat_map, map}, List.range_with_len}
use Rattle.pc_base.specs.Lists.{Text, line_end}
use Rattle.pc_draws.specs.Draws.{draw}
use Rattle.pc_sched.specs.declared.turns.Turn.{Turn}

abbrev pub cell_lines : List Text
cell_lines =
    codes "class Cell"
    ∷ codes "  var _n: U64 = 0"
    ∷ codes "  fun ref add(k: U64) =>"
    ∷ codes "    _n = _n + k"
    ∷ codes "  fun value(): U64 =>"
    ∷ codes "    _n"
    ∷ []

abbrev pub add_line : ℕ → Text
add_line k = codes "    c.add(" ++ (decimal k ++ codes ")")

-- What a worker does with its cell `c`: one of four tasks, by a number below 4, with a number k that is drawn for it.
abbrev pub task_lines : (task k : ℕ) → List Text
task_lines task k =
    if task == 0 then add_line k ∷ []
    else (if task == 1 then (codes "    if c.value() > " ++ (decimal k ++ (codes " then c.add(1) else c.add(" ++ (decimal k ++ codes ") end")))) ∷ []
    else (if task == 2 then codes "    var t: U64 = 0" ∷ (codes "    while t < 3 do c.add(t + " ++ (decimal k ++ codes "); t = t + 1 end")) ∷ []
    else add_line k
    ∷ codes "    let v: U64 = c.value()"
    ∷ codes "    let d: Cell val = recover val let e: Cell ref = Cell; e.add(v); e end"
    ∷ codes "    out.print(d.value().string())"
    ∷ []))

-- Each worker but the last passes the cell on, and the last one prints its content.
abbrev pub last_line : (size worker : ℕ) → Text
last_line size i = if i + 1 == size then codes "    out.print(c.value().string())" else codes "    Work" ++ (decimal (i + 1) ++ codes "(out, consume c)")

-- A worker, after an empty line. Two numbers are drawn for each, the first for its task and the second as its k.
abbrev pub worker_lines : (seed size worker : ℕ) → List Text
worker_lines seed size i =
    []
    ∷ (codes "actor Work" ++ decimal i)
    ∷ codes "  new create(out: OutStream, cell: Cell iso) =>"
    ∷ codes "    let c: Cell iso = consume cell"
    ∷ (task_lines (draw seed (i * 2) 4) (draw seed (i * 2 + 1) 1000) ++ last_line size i ∷ [])

abbrev pub main_actor_lines : List Text
main_actor_lines =
    []
    ∷ codes "actor Main"
    ∷ codes "  new create(env: Env) =>"
    ∷ codes "    Work0(env.out, Cell)"
    ∷ []

-- The class, as many workers as the size says, counted from 0, and `Main`.
unfoldable pub generated_text : (seed size : ℕ) → Text
generated_text seed size = flat_map (λ line. line ++ line_end) (cell_lines ++ (flat_map (worker_lines seed size) (range_with_len 0 size) ++ main_actor_lines))

-- 400 turns each of `Main`, which is actor 1, and of the workers after it, in order; and then the same number of turns
-- in all of actor 0, the output stream.
abbrev pub schedule : (size : ℕ) → List Turn
schedule size = map (λ i. record { actor = i + 1; times = 400 }) (range_with_len 0 (size + 1)) ++ record { actor = 0; times = size + 1 } ∷ []
