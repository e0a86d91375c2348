-- What the queue has found is Reach when nothing is left in it; and a turn of the queue goes on.
use Rattle.std.specs.Prelude.{◌≡◌, ℕ, ◌+◌, ◌<◌, ◌≤◌, List, [], length, Option, Some, None, slice_get}
use Rattle.std.proofs.{Common.{inl, inr, ap, sym, subst, ◌∙◌, arith}, lemmas.Option.{same_Some, none-some}, lemmas.Bool.cases_lt}
use Rattle.pc_base.proofs.{Gets.{get_below, get_within, get_front}, Elements.differ_none}
use Rattle.pc_core.specs.{CoreData.CoreData, Formed.Formed}
use Rattle.pc_base.specs.Lists.{Has}
use Rattle.pc_semantics.specs.Configurations.{main_create}
use Rattle.pc_sends.specs.{Growth.Grown, Tables.{UsesMethod, Reach, first, next}, Reached.{Found, IsReach}}
use Rattle.pc_sends.proofs.{Grows.grown_kept, There.reach_below, Sorted.differ_few}

-- What is at a place of the old list.
old_get : (P : ℕ → Type 0) (a b : List ℕ) (i t : ℕ) → Grown P a b → i < length a → slice_get b i ≡ Some t → slice_get a i ≡ Some t
old_get P a b i t g l e =
    let there = get_within a i l in
    let front : slice_get b i ≡ Some there.0 = ap (λ (m : List ℕ). slice_get m i) g.behind ∙ get_front a g.more i there.0 there.1 in
    there.1 ∙ sym front ∙ e

past : (xs : List ℕ) (k : ℕ) → slice_get xs k ≡ None → length xs ≤ k
past xs k e =
    elim (cases_lt k (length xs)) [
      | inl within ↦ let there = get_within xs k within in absurd (none-some there.0 (sym e ∙ there.1))
      | inr high ↦ high
    ]

-- The first method: that with which the program begins.
abbrev pub IsFirst : CoreData → ℕ → Type 0
IsFirst core t = (e : ℕ) × (main_create core ≡ Some (e, t))

module _ (core : CoreData) (ents : List (Option ℕ)) where
  -- ---- the first turn

  pub begun : (found : List ℕ) → Grown (IsFirst core) [] found → Found core ents 0 found
  begun found g = record {
    reached = λ i t e. elim (g.only t (i, e)) [ inl old ↦ absurd (none-some t old.1) | inr p ↦ first p.1 ];
    differ = g.differ differ_none;
    begins = λ e t is. g.all t (e, is);
    closed = λ i m t l e u. absurd (omega (arith, l));
  }

  -- ---- a turn of the queue

  pub found_next : (k m : ℕ) (found new : List ℕ) → Found core ents k found → slice_get found k ≡ Some m → Grown (λ t. UsesMethod core ents m t) found new → Found core ents (k + 1) new
  found_next k m found new f at g = record {
    reached = λ i t e. elim (g.only t (i, e)) [ inl old ↦ f.reached old.0 t old.1 | inr u ↦ next (f.reached k m at) u ];
    differ = g.differ f.differ;
    begins = λ e t is. grown_kept (λ t. UsesMethod core ents m t) found new t g (f.begins e t is);
    closed = λ i p t l e u.
        let within = get_below found k m at in
        let early : i < length found = omega (arith, l, within) in
        let here = old_get (λ t. UsesMethod core ents m t) found new i p g early e in
        elim (cases_lt i k) [
          | inl below ↦ grown_kept (λ t. UsesMethod core ents m t) found new t g (f.closed i p t below here u)
          | inr last ↦ let same : i ≡ k = omega (arith, last, l) in
              g.all t (subst (λ (q : ℕ). UsesMethod core ents q t) (same_Some p m (sym here ∙ ap (slice_get found) same ∙ at)) u)
        ];
  }

  -- ---- the end

  reach_found : (k : ℕ) (found : List ℕ) → Found core ents k found → length found ≤ k → (t : ℕ) → Reach core ents t → Has found t
  reach_found k found f l t (first e) = f.begins _ t e
  reach_found k found f l t (next r u) =
      let h = reach_found k found f l _ r in
      let low = get_below found h.0 _ h.1 in
      f.closed h.0 _ t (omega (arith, low, l)) h.1 u

  pub is_reach : (k : ℕ) (found : List ℕ) → Found core ents k found → length found ≤ k → IsReach core ents found
  is_reach k found f l = record { differ = f.differ; exact = λ t. (λ h. f.reached h.0 t h.1, reach_found k found f l t) }

  -- What is at no place.
  pub nothing_left : (k : ℕ) (found : List ℕ) → Found core ents k found → slice_get found k ≡ None → IsReach core ents found
  nothing_left k found f e = is_reach k found f (past found k e)

  -- There are no more turns than methods.
  pub found_few : (k : ℕ) (found : List ℕ) → Formed core → Found core ents k found → length found ≤ length core.methods
  found_few k found formed f = differ_few found (length core.methods) f.differ (λ i t e. reach_below core ents formed t (f.reached i t e))

  pub all_turns : (k : ℕ) (found : List ℕ) → Formed core → Found core ents k found → length core.methods ≤ k → IsReach core ents found
  all_turns k found formed f l = let few = found_few k found formed f in is_reach k found f (omega (arith, few, l))
