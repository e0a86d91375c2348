-- The rows of the table, entity by entity, and what is the target of none.
use Rattle.std.specs.Prelude.{◌≡◌, ◌⊎◌, ◌↔◌, ℕ, ◌+◌, ◌-◌, ◌<◌, ◌≤◌, List, [], ◌++◌, map, length, Option, Some, slice_get, refl}
use Rattle.std.proofs.{Common.{inl, inr, ap, sym, subst, ◌∙◌, arith}, lemmas.Option.none-some, lemmas.Bool.cases_lt}
use Rattle.pc_core.specs.{CoreData.CoreData, Formed.Formed}
use Rattle.pc_base.specs.Lists.{Each, Has, Ascends}
use Rattle.pc_base.proofs.{Elements.{has_front, has_behind, has_either}, Gets.{get_below, get_map, map_get, append_get}}
use Rattle.pc_sends.specs.{declared.table.Row.Row, declared.table.Table.Table, Growth.{Grown, OfSome, Sorts}, Tables.{Sends, row, RowBefore, InOrder, IsOfActor, IsLater, IsNever, IsTable, TableTells}, Unsent.IsUnsent, Found.MayWait, Covering.ReachCovers, Reached.{IsReach, AreSent}}
use Rattle.pc_semantics.specs.Configurations.{Configuration, main_create}

-- ---- rows

-- The rows of the first n entities.
pub record RowsTo (core : CoreData) (ents : List (Option ℕ)) (n : ℕ) (rows : List Row) : Type 0 where
  pub order : InOrder rows
  pub below : Each (λ i r. r.from < n) rows
  pub exact : (e t : ℕ) → (Has rows (row e t)) ↔ ((e < n) × Sends core ents e t)

pub rows_none : (core : CoreData) (ents : List (Option ℕ)) → RowsTo core ents 0 []
rows_none core ents = record {
  order = λ i j a b l e f. absurd (none-some a e);
  below = λ i r e. absurd (none-some r e);
  exact = λ e t. (λ h. absurd (none-some (row e t) h.1), λ k. let l = k.0 in absurd (omega (arith, l)));
}

-- A row of entity n.
row_of : (n : ℕ) (ts : List ℕ) (i : ℕ) (r : Row) → slice_get (map (row n) ts) i ≡ Some r → (t : ℕ) × (slice_get ts i ≡ Some t) × (row n t ≡ r)
row_of n ts i r e = map_get (row n) ts i r e

has_row : (n : ℕ) (ts : List ℕ) (e t : ℕ) → Has (map (row n) ts) (row e t) → (e ≡ n) × Has ts t
has_row n ts e t h =
    let k = row_of n ts h.0 (row e t) h.1 in
    (sym (ap (λ (r : Row). r.from) k.2), (h.0, k.1 ∙ ap (λ (r : Row). Some r.target) k.2))

module _ (core : CoreData) (ents : List (Option ℕ)) (n : ℕ) (rows : List Row) (ts : List ℕ) (before : RowsTo core ents n rows) (sent : AreSent core ents n ts) where
  late : (i : ℕ) (r : Row) → slice_get (map (row n) ts) i ≡ Some r → r.from ≡ n
  late i r e = let k = row_of n ts i r e in sym (ap (λ (q : Row). q.from) k.2)

  later : (i j : ℕ) (a b : Row) → i < j → slice_get (map (row n) ts) i ≡ Some a → slice_get (map (row n) ts) j ≡ Some b → RowBefore a b
  later i j a b l e f =
      let p = row_of n ts i a e in
      let q = row_of n ts j b f in
      let up = sent.ascends i j p.0 q.0 l p.1 q.1 in
      let first = ap (λ (r : Row). r.target) p.2 in
      let second = ap (λ (r : Row). r.target) q.2 in
      inr (late i a e ∙ sym (late j b f), omega (arith, up, first, second))

  ordered : InOrder (rows ++ map (row n) ts)
  ordered i j a b l e f = both (append_get rows (map (row n) ts) i a e) (append_get rows (map (row n) ts) j b f)
    where
      both : (slice_get rows i ≡ Some a) ⊎ ((length rows ≤ i) × (slice_get (map (row n) ts) (i - length rows) ≡ Some a)) → (slice_get rows j ≡ Some b) ⊎ ((length rows ≤ j) × (slice_get (map (row n) ts) (j - length rows) ≡ Some b)) → RowBefore a b
      both (inl x) (inl y) = before.order i j a b l x y
      both (inl x) (inr y) = let low = before.below i a x in let at = late (j - length rows) b y.1 in inl (omega (arith, low, at))
      both (inr x) (inl y) = let high = x.0 in let low = get_below rows j b y in absurd (omega (arith, high, low, l))
      both (inr x) (inr y) = let high = x.0 in let k : i - length rows < j - length rows = omega (arith, high, l) in later (i - length rows) (j - length rows) a b k x.1 y.1

  below_next : Each (λ i r. r.from < n + 1) (rows ++ map (row n) ts)
  below_next i r e =
      elim (append_get rows (map (row n) ts) i r e) [
        | inl old ↦ let low = before.below i r old in omega (arith, low)
        | inr new ↦ let at = late (i - length rows) r new.1 in omega (arith, at)
      ]

  has_next : (e t : ℕ) → Has (rows ++ map (row n) ts) (row e t) → (e < n + 1) × Sends core ents e t
  has_next e t h =
      elim (has_either rows (map (row n) ts) (row e t) h) [
        | inl old ↦ let k = (before.exact e t).0 old in let low = k.0 in (omega (arith, low), k.1)
        | inr new ↦ let k = has_row n ts e t new in let at = k.0 in (omega (arith, at), subst (λ (d : ℕ). Sends core ents d t) (sym at) ((sent.exact t).0 k.1))
      ]

  next_has : (e t : ℕ) → (e < n + 1) × Sends core ents e t → Has (rows ++ map (row n) ts) (row e t)
  next_has e t k =
      elim (cases_lt e n) [
        | inl low ↦ has_front rows (map (row n) ts) (row e t) ((before.exact e t).1 (low, k.1))
        | inr high ↦ let l = k.0 in let at : e ≡ n = omega (arith, high, l) in
            let h = (sent.exact t).1 (subst (λ (d : ℕ). Sends core ents d t) at k.1) in
            subst (λ (d : ℕ). Has (rows ++ map (row n) ts) (row d t)) (sym at) (has_behind rows (map (row n) ts) (row n t) (h.0, get_map (row n) ts h.0 t h.1))
      ]

  pub rows_next : RowsTo core ents (n + 1) (rows ++ map (row n) ts)
  rows_next = record { order = ordered; below = below_next; exact = λ e t. (has_next e t, next_has e t) }

-- Who sends something is an entity of the core.
sender_below : (core : CoreData) (ents : List (Option ℕ)) (e t : ℕ) → Formed core → Sends core ents e t → e < length core.entities
sender_below core ents e t formed s =
    let fits = formed.methods s.from s.method s.is_method in
    get_below core.entities e fits.owner (ap (slice_get core.entities) (sym s.entity) ∙ fits.is_owner)

pub rows_all : (core : CoreData) (ents : List (Option ℕ)) (n : ℕ) (rows : List Row) → Formed core → length core.entities ≤ n → RowsTo core ents n rows → (e t : ℕ) → (Has rows (row e t)) ↔ (Sends core ents e t)
rows_all core ents n rows formed l r e t = (
  λ h. ((r.exact e t).0 h).1,
  λ s. let low = sender_below core ents e t formed s in (r.exact e t).1 (omega (arith, low, l), s),
)

-- ---- targets

abbrev pub TargetOf : Row → ℕ → Type 0
TargetOf r t = r.target ≡ t

abbrev pub IsTarget : List Row → ℕ → Type 0
IsTarget rows t = (e : ℕ) × Has rows (row e t)

pub targets_are : (rows : List Row) (targets : List ℕ) (t : ℕ) → Grown (OfSome TargetOf rows) [] targets → (Has targets t) ↔ (IsTarget rows t)
targets_are rows targets t g = (
  λ h. elim (g.only t h) [
    | inl old ↦ absurd (none-some t old.1)
    | inr k ↦ (k.1.from, (k.0, k.2 ∙ ap (λ (m : ℕ). Some (row k.1.from m)) k.3))
  ],
  λ k. g.all t (k.1.0, row k.0 t, k.1.1, refl),
)

-- ---- what is never sent

module _ (core : CoreData) (rows : List Row) (targets : List ℕ) (first : Option (ℕ × ℕ)) (is : first ≡ main_create core) (same : (t : ℕ) → (Has targets t) ↔ (IsTarget rows t)) where
  pub unsent_to : (t : ℕ) → (IsOfActor core t × IsLater first t × (Has targets t → ⊥)) → IsUnsent core rows t
  unsent_to t k = record {
    of_actor = k.0;
    later = subst (λ (f : Option (ℕ × ℕ)). IsLater f t) is k.1;
    unsent = λ e h. k.2 ((same t).1 (e, h));
  }

  pub unsent_from : (t : ℕ) → IsUnsent core rows t → IsOfActor core t × IsLater first t × (Has targets t → ⊥)
  unsent_from t u = (u.of_actor, subst (λ (f : Option (ℕ × ℕ)). IsLater f t) (sym is) u.later, λ h. let k = (same t).0 h in u.unsent k.0 k.1)

pub unsent_below : (core : CoreData) (rows : List Row) (t : ℕ) → IsUnsent core rows t → t < length core.methods
unsent_below core rows t u = get_below core.methods t u.of_actor.method u.of_actor.is_method

pub never_is : (core : CoreData) (ents : List (Option ℕ)) (rows : List Row) (t : ℕ) → ((e t : ℕ) → (Has rows (row e t)) ↔ (Sends core ents e t)) → (IsUnsent core rows t) ↔ (IsNever core ents t)
never_is core ents rows t same = (
  λ u. record { of_actor = u.of_actor; later = u.later; unsent = λ e s. u.unsent e ((same e t).1 s) },
  λ n. record { of_actor = n.of_actor; later = n.later; unsent = λ e h. n.unsent e ((same e t).0 h) },
)

-- ---- the table

pub table_made : (core : CoreData) (ents : List (Option ℕ)) (rows : List Row) (never reached found : List ℕ) → InOrder rows → ((e t : ℕ) → (Has rows (row e t)) ↔ (Sends core ents e t))
    → Ascends never → ((t : ℕ) → (Has never t) ↔ (IsUnsent core rows t)) → IsReach core ents found → Sorts found reached
    → IsTable core ents (record { rows = rows; never = never; reached = reached })
table_made core ents rows never reached found order exact up unsent is s = record {
  order = order;
  rows = exact;
  never_ascends = up;
  never = λ t. let n = never_is core ents rows t exact in (λ h. n.0 ((unsent t).0 h), λ k. (unsent t).1 (n.1 k));
  reached_ascends = s.ascends;
  reached = λ t. (λ h. (is.exact t).0 ((s.same t).0 h), λ r. (s.same t).1 ((is.exact t).1 r));
}

-- ---- what the table states about a configuration

may_not_wait : (core : CoreData) (ents : List (Option ℕ)) (t : ℕ) → MayWait core ents t → IsNever core ents t → ⊥
may_not_wait core ents t (inl first) n = n.later first.0 first.1
may_not_wait core ents t (inr sent) n = n.unsent sent.0 sent.1

pub table_tells : (core : CoreData) (ents : List (Option ℕ)) (table : Table) (c : Configuration) → IsTable core ents table → ReachCovers core ents c → TableTells core table c
table_tells core ents table c is covered = record {
  frames = λ i a at k f e. (is.reached f.method).1 (covered.frames i a at k f e);
  sends = λ i x m s. (is.rows x.entity m.method).1 (covered.sends i x m s);
  waits = λ i a at k m e h. may_not_wait core ents m.method (covered.waits i a at k m e) ((is.never m.method).0 h);
}
