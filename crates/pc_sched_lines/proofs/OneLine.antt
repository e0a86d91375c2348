-- A list of steps has only one line.
use Rattle.std.proofs.{Common.{◌≡◌, ◌<◌, ℕ, zero, suc, cond, nat_eq, List, [], ◌∷◌, ◌++◌, replicate, refl, sym, ap, ◌∙◌, arith}, lemmas.Bool.{eq-eqb, ne_eqb}}
use Rattle.pc_sched.specs.declared.turns.Turn.{Turn}
use Rattle.pc_sched_lines.specs.{Rows.LinesAreOne, Lines.{line_of, AreRows, HasOtherActor}}
use Rattle.pc_run.specs.Spreading.{spread}

-- the rows of a list, with one step more in front
joined : ℕ → List Turn → List Turn
joined actor [] = record { actor = actor; times = 1 } ∷ []
joined actor (turn ∷ turns) = cond (nat_eq actor turn.actor) (record { actor = actor; times = suc turn.times } ∷ turns) (record { actor = actor; times = 1 } ∷ turn ∷ turns)

grouped : List ℕ → List Turn
grouped [] = []
grouped (actor ∷ list) = joined actor (grouped list)

joined_other : (turn : Turn) (turns : List Turn) → HasOtherActor turn turns → joined turn.actor turns ≡ record { actor = turn.actor; times = 1 } ∷ turns
unfolding joined
joined_other turn [] d = refl
joined_other turn (next ∷ turns) d =
    ap (λ b. cond b (record { actor = turn.actor; times = suc next.times } ∷ turns) (record { actor = turn.actor; times = 1 } ∷ next ∷ turns)) (ne_eqb turn.actor next.actor d)

joined_same : (actor times : ℕ) (turns : List Turn) → joined actor (record { actor = actor; times = times } ∷ turns) ≡ record { actor = actor; times = suc times } ∷ turns
unfolding joined
joined_same actor times turns =
    ap (λ b. cond b (record { actor = actor; times = suc times } ∷ turns) (record { actor = actor; times = 1 } ∷ record { actor = actor; times = times } ∷ turns)) (eq-eqb actor actor refl)

row_grouped : (turn : Turn) (turns : List Turn) (list : List ℕ) (k : ℕ) → HasOtherActor turn turns → grouped list ≡ turns
    → grouped (replicate (suc k) turn.actor ++ list) ≡ record { actor = turn.actor; times = suc k } ∷ turns
unfolding grouped joined
row_grouped turn turns list zero d e = ap (joined turn.actor) e ∙ joined_other turn turns d
row_grouped turn turns list (suc k) d e = ap (joined turn.actor) (row_grouped turn turns list k d e) ∙ joined_same turn.actor (suc k) turns

with_times : (turn : Turn) (turns : List Turn) (list : List ℕ) (n : ℕ) → turn.times ≡ n → 0 < n → HasOtherActor turn turns
    → grouped list ≡ turns
    → grouped (replicate turn.times turn.actor ++ list) ≡ turn ∷ turns
with_times turn turns list zero e some d g = absurd (omega (arith, some))
with_times turn turns list (suc k) e some d g =
    ap (λ n. grouped (replicate n turn.actor ++ list)) e ∙ row_grouped turn turns list k d g ∙ ap (λ n. record { actor = turn.actor; times = n } ∷ turns) (sym e)

-- Rows are the groups of their steps.
rows_grouped : (turns : List Turn) → AreRows turns → grouped (spread turns) ≡ turns
unfolding grouped
rows_grouped [] r = refl
rows_grouped (turn ∷ turns) r = with_times turn turns (spread turns) turn.times refl r.0 r.1 (rows_grouped turns r.2)

rows_one : (one other : List Turn) → AreRows one → AreRows other → spread one ≡ spread other → one ≡ other
rows_one one other r s e = sym (rows_grouped one r) ∙ ap grouped e ∙ rows_grouped other s

pub lines_one : LinesAreOne
lines_one list one other l m = l.line ∙ ap line_of (rows_one l.turns m.turns l.rows m.rows (l.steps ∙ sym m.steps)) ∙ sym m.line
