-- The entries of plays are those of the plays that are the first with their outcome.
use Rattle.std.proofs.{Common.{◌≡◌, ◌⊎◌, ◌<◌, ◌≤◌, ◌+◌, ℕ, Bool, true, false, cond, List, [], ◌∷◌, ◌++◌, length, take, take_at, append_assoc, append-nil, length-append, Option, Some, inl, inr, refl, sym, ap, ap₂, ◌∙◌, subst, arith}, lemmas.Bool.{cases_lt, false≢true}, lemmas.Option.slice_get_within, lemmas.Slice.Eq.bytes_eq-Decides}
use Rattle.std.specs.{Prelude.{◌&&◌, ◌||◌, IsSomeAnd, slice_get}, List.{AllByRecursion, count_by, list_any}, Str.bytes_eq}
use Rattle.pc_outcomes.specs.{declared.entry.Ending.Ending, declared.entry.Entry.Entry, declared.entry.Play.Play, Plays.{has_outcome, same_ending}, Tables.{AreEntries, Ascend, IsEntry, IsFirstPlay, shows_outcome}}
use Rattle.pc_outcomes.proofs.Grouping.{ending_self, outcome_is}
use Rattle.pc_outcome_laws.proofs.Lists.{all_at, any_take, none_counted, some_at, there}

-- ---- outcomes

pub has_own : (t : List ℕ) (a : Ending) (p : Play) → t ≡ p.text → a ≡ p.ending → has_outcome t a p ≡ true
has_own t a p e f =
    ap (λ (b : Bool). b && same_ending a p.ending) ((bytes_eq-Decides t p.text).1 e) ∙ subst (λ (x : Ending). same_ending a x ≡ true) f (ending_self a)

-- ---- the table

-- The entry of a play among all, whose outcome none before it has.
abbrev pub entry_at : (all : List Play) (seed : ℕ) → Play → Entry
entry_at all seed p = record { seed = seed; number = count_by (has_outcome p.text p.ending) all; steps = p.steps; text = p.text; ending = p.ending }

-- The entries of those that are the first with their outcome, after these.
abbrev pub firsts : (all seen rest : List Play) → List Entry
firsts all seen [] = []
firsts all seen (p ∷ ps) = cond (list_any (has_outcome p.text p.ending) seen) (firsts all (seen ++ p ∷ []) ps) (entry_at all (length seen) p ∷ firsts all (seen ++ p ∷ []) ps)

same_entry : (e : Entry) (seed number steps : ℕ) (text : List ℕ) (ending : Ending) → e.seed ≡ seed → e.number ≡ number → e.steps ≡ steps → e.text ≡ text → e.ending ≡ ending
    → e ≡ record { seed = seed; number = number; steps = steps; text = text; ending = ending }
same_entry e seed number steps text ending a b c t d =
    ap (λ (x : ℕ). record { seed = x; number = e.number; steps = e.steps; text = e.text; ending = e.ending }) a
    ∙ ap (λ (x : ℕ). record { seed = seed; number = x; steps = e.steps; text = e.text; ending = e.ending }) b
    ∙ ap (λ (x : ℕ). record { seed = seed; number = number; steps = x; text = e.text; ending = e.ending }) c
    ∙ ap (λ (x : List ℕ). record { seed = seed; number = number; steps = steps; text = x; ending = e.ending }) t
    ∙ ap (λ (x : Ending). record { seed = seed; number = number; steps = steps; text = text; ending = x }) d

-- An entry has this first seed.
abbrev HasSeed : ℕ → List Entry → Type 0
HasSeed i [] = ⊥
HasSeed i (e ∷ es) = (e.seed ≡ i) ⊎ HasSeed i es

seed_above : (i low : ℕ) (es : List Entry) → Ascend low es → HasSeed i es → low ≤ i
seed_above i low [] a h = absurd h
seed_above i low (e ∷ es) a (inl s) = let l = a.0 in omega (arith, l, s)
seed_above i low (e ∷ es) a (inr h) = let l = a.0 in let r = seed_above i (e.seed + 1) es a.1 h in omega (arith, l, r)

module _ (all : List Play) where
  -- An entry whose first seed is this one has the outcome of the play there.
  first_at : (e : Entry) (i : ℕ) (p : Play) → IsEntry all e → e.seed ≡ i → slice_get all i ≡ Some p → IsFirstPlay e p
  first_at e i p is s at =
      let t = there (IsFirstPlay e) (slice_get all e.seed) is.first in
      let same : Some t.0 ≡ Some p = sym t.1 ∙ ap (slice_get all) s ∙ at in
      subst (λ (o : Option Play). IsSomeAnd o (IsFirstPlay e)) same t.2

  -- none before it has
  first_new : (e : Entry) (p : Play) (seen : List Play) → IsEntry all e → IsFirstPlay e p → take e.seed all ≡ seen → list_any (has_outcome p.text p.ending) seen ≡ false
  first_new e p seen is f same =
      let none : list_any (shows_outcome e) seen ≡ false =
      none_counted (shows_outcome e) seen (subst (λ (l : List Play). count_by (shows_outcome e) l ≡ 0) same is.none_before) in
      ap (λ (t : List ℕ). list_any (λ (q : Play). bytes_eq t q.text && same_ending p.ending q.ending) seen) f.text
      ∙ ap (λ (a : Ending). list_any (λ (q : Play). bytes_eq e.text q.text && same_ending a q.ending) seen) f.ending ∙ none

  entry_is : (e : Entry) (i : ℕ) (p : Play) → IsEntry all e → IsFirstPlay e p → e.seed ≡ i → e ≡ entry_at all i p
  entry_is e i p is f s =
      let counts : count_by (shows_outcome e) all ≡ count_by (has_outcome p.text p.ending) all =
      ap (λ (t : List ℕ). count_by (λ (q : Play). bytes_eq t q.text && same_ending e.ending q.ending) all) (sym f.text)
      ∙ ap (λ (a : Ending). count_by (λ (q : Play). bytes_eq p.text q.text && same_ending a q.ending) all) (sym f.ending) in
      same_entry e i (count_by (has_outcome p.text p.ending) all) p.steps p.text p.ending s (is.number ∙ counts) (sym f.steps) (sym f.text) (sym f.ending)

  -- Each play from a place on that is the first with its outcome has an entry.
  abbrev Complete : ℕ → List Entry → Type 0
  Complete low es = (i : ℕ) (p : Play) → low ≤ i → slice_get all i ≡ Some p → list_any (has_outcome p.text p.ending) (take i all) ≡ false → HasSeed i es

  -- an entry that shows a new play begins with it
  shows_new : (e : Entry) (i : ℕ) (p : Play) → IsEntry all e → shows_outcome e p ≡ true → slice_get all i ≡ Some p → list_any (has_outcome p.text p.ending) (take i all) ≡ false → (e.seed < i) ⊎ (i ≤ e.seed) → (i < e.seed) ⊎ (e.seed ≤ i) → e.seed ≡ i
  shows_new e i p is h at new (inl under) q =
      let t = there (IsFirstPlay e) (slice_get all e.seed) is.first in
      let o = outcome_is e.text e.ending p h in
      let own : has_outcome p.text p.ending t.0 ≡ true = has_own p.text p.ending t.0 (sym o.0 ∙ sym t.2.text) (sym o.1 ∙ sym t.2.ending) in
      absurd (false≢true (sym new ∙ any_take (has_outcome p.text p.ending) all i e.seed t.0 under t.1 own))
  shows_new e i p is h at new (inr low) (inl over) =
      absurd (false≢true (sym (none_counted (shows_outcome e) (take e.seed all) is.none_before) ∙ any_take (shows_outcome e) all e.seed i p over at h))
  shows_new e i p is h at new (inr low) (inr high) = omega (arith, low, high)

  has_here : (i : ℕ) (p : Play) → slice_get all i ≡ Some p → list_any (has_outcome p.text p.ending) (take i all) ≡ false → (e : Entry) (es : List Entry) → IsEntry all e → (list_any (λ f. shows_outcome f p) es ≡ true → HasSeed i es)
      → (b : Bool) → shows_outcome e p ≡ b → (b || list_any (λ f. shows_outcome f p) es) ≡ true → HasSeed i (e ∷ es)
  has_here i p at new e es is more true h any = inl (shows_new e i p is h at new (cases_lt e.seed i) (cases_lt i e.seed))
  has_here i p at new e es is more false h any = inr (more any)

  has_new : (i : ℕ) (p : Play) → slice_get all i ≡ Some p → list_any (has_outcome p.text p.ending) (take i all) ≡ false → (es : List Entry) → AllByRecursion (IsEntry all) es → list_any (λ e. shows_outcome e p) es ≡ true → HasSeed i es
  has_new i p at new [] is any = absurd (false≢true any)
  has_new i p at new (e ∷ es) is any = has_here i p at new e es is.0 (λ m. has_new i p at new es is.1 m) (shows_outcome e p) refl any

  pub complete : (es : List Entry) → AreEntries all es → Complete 0 es
  complete es are i p low at new =
      has_new i p at new es are.each (all_at (λ play. list_any (λ e. shows_outcome e play) es ≡ true) all i p at are.every)

  -- ---- the entries from a place on

  seed_later : (k : ℕ) (e : Entry) → (e.seed ≡ k → IsEntry all e → ⊥) → IsEntry all e → k ≤ e.seed → (k < e.seed) ⊎ (e.seed ≤ k) → k + 1 ≤ e.seed
  seed_later k e not is low (inl l) = omega (arith, l)
  seed_later k e not is low (inr l) = absurd (not (omega (arith, l, low)) is)

  ascend_later : (k : ℕ) (es : List Entry) → ((e : Entry) → e.seed ≡ k → IsEntry all e → ⊥) → AllByRecursion (IsEntry all) es → Ascend k es → Ascend (k + 1) es
  ascend_later k [] not is a = tt
  ascend_later k (e ∷ es) not is a = (seed_later k e (not e) is.0 a.0 (cases_lt k e.seed), a.1)

  module _ (p : Play) (ps seen : List Play) (same : all ≡ seen ++ p ∷ ps) where
    at : slice_get all (length seen) ≡ Some p
    at = ap (λ (l : List Play). slice_get l (length seen)) same ∙ some_at seen p ps

    before : take (length seen) all ≡ seen
    before = ap (take (length seen)) same ∙ take_at seen (p ∷ ps) (length seen) refl

    moved : all ≡ (seen ++ p ∷ []) ++ ps
    moved = same ∙ sym (append_assoc seen (p ∷ []) ps)

    longer : length (seen ++ p ∷ []) ≡ length seen + 1
    longer = length-append seen (p ∷ [])

    -- it is not the first: no entry has its seed
    old_seed : list_any (has_outcome p.text p.ending) seen ≡ true → (e : Entry) → e.seed ≡ length seen → IsEntry all e → ⊥
    old_seed h e s is = false≢true (sym (first_new e p seen is (first_at e (length seen) p is s at) (ap (λ (n : ℕ). take n all) s ∙ before)) ∙ h)

    old_complete : (es : List Entry) → Complete (length seen) es → Complete (length (seen ++ p ∷ [])) es
    old_complete es c i q low = let l = longer in c i q (omega (arith, l, low))

    -- it is the first: its entry is the next
    head_seed : (e : Entry) (es : List Entry) → Ascend (length seen) (e ∷ es) → HasSeed (length seen) (e ∷ es) → e.seed ≡ length seen
    head_seed e es a (inl s) = s
    head_seed e es a (inr h) = let l = a.0 in let r = seed_above (length seen) (e.seed + 1) es a.1 h in absurd (omega (arith, l, r))

    tail_has : (i : ℕ) (e : Entry) (es : List Entry) → e.seed ≡ length seen → length (seen ++ p ∷ []) ≤ i → HasSeed i (e ∷ es) → HasSeed i es
    tail_has i e es s low (inl t) = let l = longer in absurd (omega (arith, s, t, l, low))
    tail_has i e es s low (inr h) = h

    new_complete : (e : Entry) (es : List Entry) → e.seed ≡ length seen → Complete (length seen) (e ∷ es) → Complete (length (seen ++ p ∷ [])) es
    new_complete e es s c i q low there_is new = let l = longer in tail_has i e es s low (c i q (omega (arith, l, low)) there_is new)

  none_past : (es : List Entry) (seen : List Play) → all ≡ seen ++ [] → AllByRecursion (IsEntry all) es → Ascend (length seen) es → es ≡ []
  none_past [] seen same is a = refl
  none_past (e ∷ es) seen same is a =
      let t = there (IsFirstPlay e) (slice_get all e.seed) is.0.first in
      let within = slice_get_within all e.seed t.0 t.1 in
      let long : length all ≡ length seen = ap (λ (l : List Play). length l) (same ∙ append-nil seen) in
      let low = a.0 in
      absurd (omega (arith, within, long, low))

  -- What is left of the entries is the table of what is left of the plays.
  abbrev Are : List Play → List Play → Type 0
  Are rest seen = (es : List Entry) → AllByRecursion (IsEntry all) es → Ascend (length seen) es → Complete (length seen) es → es ≡ firsts all seen rest

  module _ (p : Play) (ps seen : List Play) (same : all ≡ seen ++ p ∷ ps) (more : Are ps (seen ++ p ∷ [])) where
    by_head : (es : List Entry) → AllByRecursion (IsEntry all) es → Ascend (length seen) es → Complete (length seen) es → HasSeed (length seen) es → es ≡ entry_at all (length seen) p ∷ firsts all (seen ++ p ∷ []) ps
    by_head [] is a c h = absurd h
    by_head (e ∷ es) is a c h =
        let s = head_seed p ps seen same e es a h in
        let next : e.seed + 1 ≡ length (seen ++ p ∷ []) = ap (λ (n : ℕ). n + 1) s ∙ sym (longer p ps seen same) in
        let rest = more es is.1 (subst (λ (n : ℕ). Ascend n es) next a.1) (new_complete p ps seen same e es s c) in
        ap₂ (λ (x : Entry) (xs : List Entry). x ∷ xs) (entry_is e (length seen) p is.0 (first_at e (length seen) p is.0 s (at p ps seen same)) s) rest

    by_first : (es : List Entry) → AllByRecursion (IsEntry all) es → Ascend (length seen) es → Complete (length seen) es → (b : Bool) → list_any (has_outcome p.text p.ending) seen ≡ b
        → es ≡ cond b (firsts all (seen ++ p ∷ []) ps) (entry_at all (length seen) p ∷ firsts all (seen ++ p ∷ []) ps)
    by_first es is a c true h =
        let later = ascend_later (length seen) es (old_seed p ps seen same h) is a in
        more es is (subst (λ (n : ℕ). Ascend n es) (sym (longer p ps seen same)) later) (old_complete p ps seen same es c)
    by_first es is a c false h =
        let new = ap (λ (l : List Play). list_any (has_outcome p.text p.ending) l) (before p ps seen same) ∙ h in
        by_head es is a c (c (length seen) p (omega arith) (at p ps seen same) new)

  pub are_firsts : (rest seen : List Play) → all ≡ seen ++ rest → Are rest seen
  are_firsts [] seen same es is a c = none_past es seen same is a
  are_firsts (p ∷ ps) seen same es is a c =
      by_first p ps seen same (are_firsts ps (seen ++ p ∷ []) (moved p ps seen same)) es is a c (list_any (has_outcome p.text p.ending) seen) refl

-- The entries of plays are one list.
pub one_table : (plays : List Play) (es : List Entry) → AreEntries plays es → es ≡ firsts plays [] plays
one_table plays es are = are_firsts plays plays [] refl es are.each are.ascend (complete plays es are)
