-- The steps of turns, one after another.
use Rattle.std.proofs.{Common.{◌≡◌, ◌≤◌, ℕ, ◌+◌, List, [], ◌∷◌, ◌++◌, length, replicate, refl, sym, ap, ◌∙◌, arith, append_assoc, append-nil, length-append}, lemmas.List.{length-replicate, replicate_more}}
use Rattle.pc_sched.specs.{declared.turns.Turn.Turn, Schedules.total}
use Rattle.pc_run.specs.Spreading.{spread}

pub spread_app : (xs ys : List Turn) → spread (xs ++ ys) ≡ spread xs ++ spread ys
spread_app [] ys = refl
spread_app (t ∷ xs) ys = ap (λ l. replicate t.times t.actor ++ l) (spread_app xs ys) ∙ sym (append_assoc (replicate t.times t.actor) (spread xs) (spread ys))

pub spread_push : (xs : List Turn) (t : Turn) → spread (xs ++ t ∷ []) ≡ spread xs ++ replicate t.times t.actor
spread_push xs t = spread_app xs (t ∷ []) ∙ ap (λ l. spread xs ++ l) (append-nil (replicate t.times t.actor))

-- A step after the last turn is a turn with one more step.
pub spread_longer : (xs : List Turn) (t : Turn) → spread (xs ++ record { actor = t.actor; times = t.times + 1 } ∷ []) ≡ spread (xs ++ t ∷ []) ++ t.actor ∷ []
spread_longer xs t =
    spread_push xs (record { actor = t.actor; times = t.times + 1 }) ∙ ap (λ l. spread xs ++ l) (sym (replicate_more t.times t.actor))
    ∙ sym (append_assoc (spread xs) (replicate t.times t.actor) (t.actor ∷ [])) ∙ ap (λ l. l ++ t.actor ∷ []) (sym (spread_push xs t))

pub length-spread : (turns : List Turn) → length (spread turns) ≡ total turns
length-spread [] = refl
length-spread (t ∷ ts) =
    length-append (replicate t.times t.actor) (spread ts) ∙ ap (λ n. n + length (spread ts)) (length-replicate t.times t.actor) ∙ ap (λ n. t.times + n) (length-spread ts)

-- The last turn has no more steps than there are.
pub last_within : (xs : List Turn) (t : Turn) → t.times ≤ length (spread (xs ++ t ∷ []))
last_within xs t =
    let e = ap (λ (l : List ℕ). length l) (spread_push xs t) in
    let f = length-append (spread xs) (replicate t.times t.actor) in
    let g = length-replicate t.times t.actor in
    omega (arith, e, f, g)
