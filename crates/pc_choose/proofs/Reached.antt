-- The state of a choice after some steps of a list.
use Rattle.std.proofs.{Common.{◌≡◌, ℕ, zero, suc, ◌+◌, ◌-◌, ◌<◌, ◌≤◌, List, [], ◌∷◌, ◌++◌, length, Option, Some, None, inl, inr, refl, sym, subst, arith, length-append}, lemmas.List.{length-map, length-set}}
use Rattle.std.specs.Prelude.{IsSomeAnd, ◌⊎◌}
use Rattle.pc_core.specs.CoreData.{CoreData}
use Rattle.pc_semantics.specs.{declared.ahead.Ahead.Ahead, declared.outcome.Outcome.Outcome, declared.outcome.Outcome.TheVariants.{Moved, Skipped, Lacks, TooLong}, Ahead.ahead_of, Configurations.{Configuration, main_create, start, start_of}, Step.{followed, run_from, step}}
use Rattle.pc_semantics.specs.declared.ahead.Ahead.TheVariants as ahead
use Rattle.pc_choose.specs.{declared.point.Point.Point, Choice.{most_times, stepped, turn}, Lists.{AfterStep, Follows}, Marks.{mark_of, marks_by, marks_of}}
use Rattle.pc_choose.proofs.{Listing.{never, never_within}, Marking.counts, Picking.{Begun, Turned, turned}}

-- ---- how many actors there are

marked : (next : Ahead) (ms : List ℕ) → (length ms ≤ length (marks_by next ms)) × (length (marks_by next ms) ≤ length ms + 1)
marked ahead.Skipped ms = (omega arith, omega arith)
marked ahead.Lacks ms = (omega arith, omega arith)
marked ahead.TooLong ms = (omega arith, omega arith)
marked ahead.Take ms = (omega arith, omega arith)
marked ahead.Spawn ms = let e = length-append ms (1 ∷ []) in (omega (arith, e), omega (arith, e))
marked (ahead.Send j) ms = let e = length-set ms j 1 in (omega (arith, e), omega (arith, e))
marked ahead.Task ms = (omega arith, omega arith)

-- A step that moves makes one actor at most, and none goes.
pub one_comes : (core : CoreData) (c d : Configuration) (i : ℕ) → ◌≡◌ {A = Outcome × Configuration} (Moved, d) (step core c i)
    → (length c.actors ≤ length d.actors) × (length d.actors ≤ length c.actors + 1)
one_comes core c d i e =
    let m = marked (ahead_of core c i) (marks_of c) in
    let n = counts core c d i (marks_of c) (ahead_of core c i) refl refl e in
    let k = length-map c.actors mark_of in
    (omega (arith, m.0, n, k), omega (arith, m.1, n, k))

few_at : (core : CoreData) (main : Option (ℕ × ℕ)) → length (start_of core main).actors ≤ 2
few_at core None = omega arith
few_at core (Some main) = omega arith

pub few_at_start : (core : CoreData) → length (start core).actors ≤ 2
few_at_start core = few_at core (main_create core)

-- ---- points on the way

pub record IsBounded (p : Point) (c : Configuration) : Type 0 where
  pub left : p.left ≤ most_times
  pub round : p.round ≤ length c.actors

after_turn : (p q : Point) (c d : Configuration) → IsBounded p c → length c.actors ≤ length d.actors → ((q ≡ p) × (0 < p.left)) ⊎ Begun p c q → IsBounded (stepped q) d
after_turn p q c d b l t = elim t [
  | inl same ↦
      subst (λ (x : Point). IsBounded (stepped x) d) (sym same.0)
      (record { left = let f = b.left in omega (arith, f); round = let f = b.round in omega (arith, f, l) })
  | inr new ↦ record { left = let f = new.few in omega (arith, f); round = let f = new.round b.round in omega (arith, f, l) }
]

-- The rest of a list, from a point on.
pub record Stands (core : CoreData) (seed : ℕ) (c : Configuration) (rest : List ℕ) : Type 0 where
  pub room : ℕ
  pub point : Point
  pub follows : Follows core seed room point c rest
  pub bounded : IsBounded point c

module _ (core : CoreData) (seed r : ℕ) (rs : List ℕ) where
  module _ (room : ℕ) (ks : List ℕ) (more : (q : Point) (d : Configuration) → Follows core seed room q d (ks ++ r ∷ rs) → IsBounded q d → Stands core seed (run_from core d ks) (r ∷ rs)) where
    later : (p q : Point) (c : Configuration) (k : ℕ) → IsBounded p c → ((q ≡ p) × (0 < p.left)) ⊎ Begun p c q → (x : Outcome × Configuration) → step core c k ≡ x
        → AfterStep (λ d. Follows core seed room (stepped q) d (ks ++ r ∷ rs)) (ks ++ r ∷ rs) x → Stands core seed (followed (λ next. run_from core next ks) c c x) (r ∷ rs)
    later p q c k b t (Moved, d) e f = more (stepped q) d f (after_turn p q c d b (one_comes core c d k (sym e)).0 t)
    later p q c k b t (Skipped, d) e f = absurd (never_within ks r rs f)
    later p q c k b t (Lacks l, d) e f = absurd (never_within ks r rs f)
    later p q c k b t (TooLong, d) e f = absurd (never_within ks r rs f)

    later_turn : (p : Point) (c : Configuration) (k : ℕ) → IsBounded p c → (t : Option Point) → Turned p c t
        → IsSomeAnd t (λ q. (k ≡ q.actor) × AfterStep (λ d. Follows core seed room (stepped q) d (ks ++ r ∷ rs)) (ks ++ r ∷ rs) (step core c k))
        → Stands core seed (followed (λ next. run_from core next ks) c c (step core c k)) (r ∷ rs)
    later_turn p c k b None u f = absurd f
    later_turn p c k b (Some q) u f = later p q c k b u (step core c k) refl f.1

  pub stands : (before : List ℕ) (room : ℕ) (p : Point) (c : Configuration) → Follows core seed room p c (before ++ r ∷ rs) → IsBounded p c → Stands core seed (run_from core c before) (r ∷ rs)
  stands [] room p c f b = record { room = room; point = p; follows = f; bounded = b }
  stands (k ∷ ks) zero p c f b = absurd (never k (ks ++ r ∷ rs) f)
  stands (k ∷ ks) (suc room) p c f b = later_turn room ks (stands ks room) p c k b (turn seed p c) (turned seed p c) f
