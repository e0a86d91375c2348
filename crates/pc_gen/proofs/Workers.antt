-- One more worker, and the two draws that it takes.
use Rattle.std.proofs.{Common.{◌≡◌, ℕ, suc, ◌+◌, ◌*◌, List, [], ◌∷◌, ◌++◌, map, sym, ap, ap₂, ◌∙◌, arith, append_assoc}, lemmas.List.FromFn.map-range_with_len_more}
use Rattle.std.specs.List.{range_with_len}
use Rattle.pc_tree.specs.Tree as t
use Rattle.pc_draws.specs.Draws.{next, high, state}
use Rattle.pc_gen.specs.Program.{work, worker, task_of}

pub two_draws : (seed i s : ℕ) → s ≡ state seed (i * 2) → next (next s) ≡ state seed ((i + 1) * 2)
two_draws seed i s e =
    let twice : (i + 1) * 2 ≡ suc (suc (i * 2)) = omega arith in
    ap (λ x. next (next x)) e ∙ sym (ap (state seed) twice)

-- the worker made by the next two draws
pub drawn : (seed size i s : ℕ) → s ≡ state seed (i * 2) → work size i (task_of (high (next s) 4)) (high (next (next s)) 1000) ≡ worker seed size i
drawn seed size i s e = ap (λ x. work size i (task_of (high (next x) 4)) (high (next (next x)) 1000)) e

-- After the workers up to this number comes the one with this number.
pub one_more : (seed size i : ℕ) (before all : List t.Entity) (e : t.Entity)
    → all ≡ before ++ map (worker seed size) (range_with_len 0 i) → e ≡ worker seed size i
    → all ++ e ∷ [] ≡ before ++ map (worker seed size) (range_with_len 0 (i + 1))
one_more seed size i before all e same is =
    ap₂ (λ l x. l ++ x ∷ []) same is
    ∙ append_assoc before (map (worker seed size) (range_with_len 0 i)) (worker seed size i ∷ [])
    ∙ ap (λ l. before ++ l) (sym (map-range_with_len_more (worker seed size) 0 i i (omega arith)))
