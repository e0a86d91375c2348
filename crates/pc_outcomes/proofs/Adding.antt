-- A play is added to a table in the making.
use Rattle.std.proofs.{Common.{◌≡◌, ◌^◌, ℕ, zero, suc, ◌+◌, ◌<◌, ◌≤◌, Bool, true, false, cond, not, nat_lt, List, [], ◌∷◌, ◌++◌, length, get_or, Option, Some, None, Err, refl, sym, ap, ◌∙◌, subst, arith}, lemmas.Bool.ltb-false, lemmas.List.Folds.list_any_at, lemmas.List.Quantifiers.position-Some, lemmas.List.Sums.count_by-le-length, lemmas.Option.{get_or_from_slice_get, slice_get-get_or}}
use Rattle.std.specs.{Prelude.{◌||◌, IfSome, slice_get, slice_set, position}, List.{list_any, position_or_len, AllByRecursion}}
use Rattle.pc_core.specs.CoreData.{CoreData}
use Rattle.pc_outcomes.specs.{declared.entry.Entry.Entry, declared.entry.Play.Play, declared.table.Totals.Totals, Plays.IsPlayOfSeed, Tables.{AnswersTable, shows_outcome, IsEntry, StepsPass, TextsPass, steps_limit, texts_limit, total_steps}, declared.fault.OutcomesFault.OutcomesFault, Under.{Under, AddsTo, one_more, entry_of}}
use Rattle.pc_outcomes.specs.declared.fault.OutcomesFault.TheVariants as fault
use Rattle.pc_outcomes.proofs.{Grouping.{counted, set_counted, texts_counted, texts_new}, Growing.{none_yet, steps_push, with_new, with_shown}}

-- ---- lists

abbrev There : {X : Type 0} → Option X → Type 0
There None = ⊥
There (Some x) = Unit {0}

gone : {X : Type 0} (x : X) → Some x ≡ None → ⊥
gone x e = subst There e tt

none_here : {X : Type 0} (p : X → Bool) (x : X) (xs : List X) → (length xs ≤ position_or_len p xs → list_any p xs ≡ false) → (b : Bool) → suc (length xs) ≤ cond (not b) (1 + position_or_len p xs) 0 → (b || list_any p xs) ≡ false
none_here p x xs more true l = absurd (omega (arith, l))
none_here p x xs more false l = more (omega (arith, l))

none_found : {X : Type 0} (p : X → Bool) (xs : List X) → length xs ≤ position_or_len p xs → list_any p xs ≡ false
none_found p [] l = refl
none_found p (x ∷ xs) l = none_here p x xs (none_found p xs) (p x) l

none_of : {X : Type 0} (p : X → Bool) (xs : List X) (b : Bool) (n : ℕ) → nat_lt (position_or_len p xs) (length xs) ≡ b → cond b (Some n) None ≡ None → list_any p xs ≡ false
none_of p xs true n e f = absurd (gone n f)
none_of p xs false n e f = none_found p xs (ltb-false (position_or_len p xs) (length xs) e)

pub not_found : {X : Type 0} (p : X → Bool) (xs : List X) → position p xs ≡ None → list_any p xs ≡ false
not_found p xs e = none_of p xs (nat_lt (position_or_len p xs) (length xs)) (position_or_len p xs) refl e

-- ---- plays and entries

module _ (core : CoreData) (seed : ℕ) (es : List Entry) (totals : Totals) (u : Under core seed es totals) (p : Play) (is : IsPlayOfSeed core seed p) where
  steps_now : totals.steps + p.steps ≡ total_steps (u.table.plays ++ p ∷ [])
  steps_now = ap (λ (n : ℕ). n + p.steps) u.steps ∙ sym (steps_push core seed es u.table p is)

  pub steps_pass : steps_limit < totals.steps + p.steps → StepsPass core seed
  steps_pass l = record { entries = es; table = u.table; play = p; is = is; passes = let e = u.steps in omega (arith, e, l) }

  pub texts_pass : totals.steps + p.steps ≤ steps_limit → position (λ e. shows_outcome e p) es ≡ None → texts_limit < totals.texts + length p.text → TextsPass core seed
  texts_pass s n l = record {
    entries = es;
    table = u.table;
    play = p;
    is = is;
    within = let e = u.steps in omega (arith, e, s);
    new = not_found (λ e. shows_outcome e p) es n;
    passes = let e = u.texts in omega (arith, e, l);
  }

  module _ (s : totals.steps + p.steps ≤ steps_limit) where
    few : total_steps u.table.plays + p.steps ≤ steps_limit
    few = let e = u.steps in omega (arith, e, s)

    pub adds_new : position (λ e. shows_outcome e p) es ≡ None → totals.texts + length p.text ≤ texts_limit → Under core (seed + 1) (es ++ entry_of seed p ∷ []) (record { steps = totals.steps + p.steps; texts = totals.texts + length p.text })
    adds_new n l =
        let none = not_found (λ e. shows_outcome e p) es n in
        subst (λ (k : ℕ). Under core (seed + 1) (es ++ entry_of k p ∷ []) (record { steps = totals.steps + p.steps; texts = totals.texts + length p.text })) u.table.are.all
        (record {
          table = with_new core seed es u.table p is few none (let e = u.texts in omega (arith, e, l));
          steps = steps_now;
          texts = let e = texts_new u.table.plays p es in let f = u.texts in omega (arith, e, f);
        })

    module _ (j : ℕ) (found : position (λ e. shows_outcome e p) es ≡ Some j) (e : Entry) (there : slice_get es j ≡ Some e) (now : List Entry) (set : now ≡ slice_set es j (one_more e)) where
      at : get_or es j e ≡ e
      at = get_or_from_slice_get es j e e there

      shown : list_any (λ f. shows_outcome f p) es ≡ true
      shown = let q = position-Some (λ f. shows_outcome f p) es j e found in list_any_at (λ f. shows_outcome f p) es j e q.0 q.1

      now_is : now ≡ counted u.table.plays p es
      now_is = let q = position-Some (λ f. shows_outcome f p) es j e found in set ∙ ap (λ (x : Entry). slice_set es j (one_more x)) (sym at) ∙ set_counted u.table.plays p es j e q.0 q.1 q.2

      pub adds_again : Under core (seed + 1) now (record { steps = totals.steps + p.steps; texts = totals.texts })
      adds_again =
          subst (λ (x : List Entry). Under core (seed + 1) x (record { steps = totals.steps + p.steps; texts = totals.texts })) (sym now_is)
          (record {
            table = with_shown core seed es u.table p is few shown;
            steps = steps_now;
            texts = u.texts ∙ sym (texts_counted u.table.plays p es);
          })

    module _ (j : ℕ) (found : position (λ e. shows_outcome e p) es ≡ Some j) (now : List Entry) where
      by_there : (o : Option Entry) → slice_get es j ≡ o → IfSome o (λ e. now ≡ slice_set es j (one_more e)) → Under core (seed + 1) now (record { steps = totals.steps + p.steps; texts = totals.texts })
      by_there None t h =
          let d : Entry = entry_of 0 p in
          let q = position-Some (λ e. shows_outcome e p) es j d found in
          absurd (gone (get_or es j d) (sym (slice_get-get_or es j d q.0) ∙ t))
      by_there (Some e) t h = adds_again j found e t now h

      pub adds_found : IfSome (slice_get es j) (λ e. now ≡ slice_set es j (one_more e)) → Under core (seed + 1) now (record { steps = totals.steps + p.steps; texts = totals.texts })
      adds_found h = by_there (slice_get es j) refl h

-- ---- numbers

few_in : (ps : List Play) (seed : ℕ) → length ps ≡ seed → (es : List Entry) → AllByRecursion (IsEntry ps) es → (at : ℕ) → IfSome (slice_get es at) (λ e. e.number ≤ seed)
few_in ps seed l [] a at = tt
few_in ps seed l (e ∷ es) a zero = let n = a.0.number in let c = count_by-le-length (shows_outcome e) ps in omega (arith, n, c, l)
few_in ps seed l (e ∷ es) a (suc at) = few_in ps seed l es a.1 at

pub numbers_few : (core : CoreData) (seed : ℕ) (es : List Entry) (totals : Totals) → Under core seed es totals → (at : ℕ) → IfSome (slice_get es at) (λ e. e.number ≤ seed)
numbers_few core seed es totals u at = few_in u.table.plays seed (u.table.are.all) es u.table.entries_are.each at

-- ---- before the first seed

pub begins : (core : CoreData) (es : List Entry) (totals : Totals) → es ≡ [] → totals ≡ record { steps = 0; texts = 0 } → Under core 0 es totals
begins core es totals e t =
    subst (λ (x : List Entry). Under core 0 x totals) (sym e)
    (subst (λ (x : Totals). Under core 0 [] x) (sym t)
    (record { table = none_yet core; steps = refl; texts = refl }))

-- ---- the ways out

if_map : {X : Type 0} (P Q : X → Type 0) → ((x : X) → P x → Q x) → (o : Option X) → IfSome o P → IfSome o Q
if_map P Q f None a = tt
if_map P Q f (Some x) a = f x a

pub numbers_fit : (core : CoreData) (seed : ℕ) (es : List Entry) (totals : Totals) → Under core seed es totals → seed + 1 < 2 ^ 32 → (at : ℕ) → IfSome (slice_get es at) (λ e. e.number + 1 < 2 ^ 32)
numbers_fit core seed es totals u l at = if_map (λ e. e.number ≤ seed) (λ e. e.number + 1 < 2 ^ 32) (λ e n. omega (arith, n, l)) (slice_get es at) (numbers_few core seed es totals u at)

pub ends : (core : CoreData) (seed count : ℕ) (es : List Entry) (f : OutcomesFault) → seed < count → AddsTo core seed es (Err f) → AnswersTable core count (Err f)
ends core seed count es (fault.Steps s) l a = subst (λ (k : ℕ). (k < count) × StepsPass core k) (sym a.0) (l, a.1)
ends core seed count es (fault.Texts s) l a = subst (λ (k : ℕ). (k < count) × TextsPass core k) (sym a.0) (l, a.1)
ends core seed count es fault.Memory l a = tt
