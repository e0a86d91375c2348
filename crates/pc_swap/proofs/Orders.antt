-- Steps that are apart may be swapped.
use Rattle.std.specs.{Prelude.{◌≡◌, ◌≢◌, ◌<◌, ℕ, Bool, true, false, List, [], ◌∷◌, ◌++◌, length, Option, Some, None, refl}, FinMap.get}
use Rattle.std.proofs.{Common.{inl, inr, ap, sym, ◌∙◌, arith}, lemmas.Option.none-some}
use Rattle.pc_heap.specs.{Objects.{ObjectMap, Object}, declared.value.Address.Address}
use Rattle.pc_core.specs.CoreData.{CoreData}
use Rattle.pc_semantics.specs.{declared.actors.Actor.Actor, declared.mailbox.Message.Message, declared.outcome.Outcome.Outcome, declared.outcome.Outcome.TheVariants.Moved, Configurations.{Configuration, start}, Step.{step, followed, run_from, after}, Safety.Race}
use Rattle.pc_semantics.specs.declared.ahead.Ahead.TheVariants as ahead
use Rattle.pc_swap.specs.{Apart.{Apart, Swapped}, Laws.{StepsSwap, ListsSwap}}
use Rattle.pc_events.proofs.{Changes.{Heaping, Same, Sets, New, Change, applied, plan}, Maps.{Fit, Different, heaps_pass}, Plans.{plans, step_is}, Told.{place_of, HeapTold, SendTold, SpawnTold, PrintTold, TakeTold, Told, told}, Pass.{Waits, OtherBoxes, Within, NotBoth, NotBothPrint, actors_pass, prints_pass}, Kept.plan_kept, Reach.{Placed, fits, after_placed, run_goes_on}}

same_configuration : (h g : ObjectMap) (l m : List Actor) (p q : List (List ℕ)) → h ≡ g → l ≡ m → p ≡ q → ◌≡◌ {A = Configuration} (record { objects = h; actors = l; printed = p }) (record { objects = g; actors = m; printed = q })
same_configuration h g l m p q e f k =
    ap (λ (z : ObjectMap). record { objects = z; actors = l; printed = p }) e ∙ ap (λ (z : List Actor). record { objects = g; actors = z; printed = p }) f
    ∙ ap (λ (z : List (List ℕ)). record { objects = g; actors = m; printed = z }) k

waits : (c : Configuration) (i : ℕ) (t : Bool) → TakeTold c i t → Waits c.actors i t
waits c i false w = tt
waits c i true w = w

module _ (core : CoreData) (c : Configuration) (i j : ℕ) (race : Race core c → ⊥) (placed : Placed c) (apart : Apart core c i j) where
  within : (k : ℕ) (o : Option (ℕ × Message)) → SendTold core c k o → Within c.actors o
  within k None t = tt
  within k (Some p) t = t.0

  boxes : (o p : Option (ℕ × Message)) → SendTold core c i o → SendTold core c j p → OtherBoxes o p
  boxes None p s t = tt
  boxes (Some o) None s t = tt
  boxes (Some o) (Some p) s t = λ e. apart.one_mailbox o.0 s.1 (t.1 ∙ ap ahead.Send (sym e))

  births : (o p : Option Message) → SpawnTold core c i o → SpawnTold core c j p → NotBoth o p
  births None p s t = tt
  births (Some o) None s t = tt
  births (Some o) (Some p) s t = apart.both_spawn s t

  prints : (o p : Option (List ℕ)) → PrintTold i o → PrintTold j p → NotBothPrint o p
  prints None p s t = tt
  prints (Some o) None s t = tt
  prints (Some o) (Some p) s t = apart.differ (s ∙ sym t)

  -- If both make an object, the makers differ.
  places : (o p : Option Message) (a b : Address) → NotBoth o p → i < length c.actors → j < length c.actors → a ≡ place_of c.objects i (length c.actors) o → b ≡ place_of c.objects j (length c.actors) p → a ≢ b
  places None None a b n u v s t = λ e. apart.differ (ap (λ (q : Address). q.maker) (sym s ∙ e ∙ t))
  places None (Some m) a b n u v s t = λ e. let f : i ≡ length c.actors = ap (λ (q : Address). q.maker) (sym s ∙ e ∙ t) in absurd (omega (arith, u, f))
  places (Some m) None a b n u v s t = λ e. let f : length c.actors ≡ j = ap (λ (q : Address). q.maker) (sym s ∙ e ∙ t) in absurd (omega (arith, v, f))
  places (Some m) (Some k) a b n u v s t = absurd n

  -- What exists is not what is made.
  standing : (h : ObjectMap) (a b : Address) → (o : Object) × (get h a ≡ Some o) → get h b ≡ None → a ≢ b
  standing h a b o n e = none-some o.0 (sym n ∙ ap (get h) (sym e) ∙ o.1)

  heaps : (o p : Option Message) → NotBoth o p → i < length c.actors → j < length c.actors → (x y : Heaping) → HeapTold core c i o x → HeapTold core c j p y → Fit c.objects x → Fit c.objects y → Different x y
  heaps o p n u v Same y s t f g = tt
  heaps o p n u v (Sets a k w) Same s t f g = tt
  heaps o p n u v (Sets a k w) (Sets b l z) s t f g =
      λ e d. race (record { i = i; j = j; differ = apart.differ; one = record { address = a; field = k; write = true }; other = record { address = b; field = l; write = true }; accesses = s.2; accesses_too = t.2; address = e; field = d; writes = inl refl })
  heaps o p n u v (Sets a k w) (New b q) s t f g = standing c.objects a b f g
  heaps o p n u v (New a q) Same s t f g = tt
  heaps o p n u v (New a q) (Sets b l z) s t f g = standing c.objects b a g f
  heaps o p n u v (New a q) (New b r) s t f g = places o p a b n u v s t

  module _ (x y : Change) (px : plan core c i ≡ Some x) (py : plan core c j ≡ Some y) where
    tx : Told core c i x
    tx = told core c i x px

    ty : Told core c j y
    ty = told core c j y py

    fx : Fit c.objects x.heap
    fx = fits core c i x placed tx

    fy : Fit c.objects y.heap
    fy = fits core c j y placed ty

    step_i : step core c i ≡ (Moved, applied c i x)
    step_i = step_is core c i x px

    step_j : step core c j ≡ (Moved, applied c j y)
    step_j = step_is core c j y py

    then_j : step core (applied c i x) j ≡ (Moved, applied (applied c i x) j y)
    then_j = step_is core (applied c i x) j y (plan_kept core c j i y x (λ e. apart.differ (sym e)) race py px fx (λ s t. apart.both_spawn t s))

    then_i : step core (applied c j y) i ≡ (Moved, applied (applied c j y) i x)
    then_i = step_is core (applied c j y) i x (plan_kept core c i j x y apart.differ race px py fy apart.both_spawn)

    both : applied (applied c i x) j y ≡ applied (applied c j y) i x
    both =
        let n : NotBoth x.spawns y.spawns = births x.spawns y.spawns tx.spawns ty.spawns in
        same_configuration _ _ _ _ _ _
        (heaps_pass c.objects x.heap y.heap (heaps x.spawns y.spawns n tx.there ty.there x.heap y.heap tx.heap ty.heap fx fy))
        (actors_pass c.actors i j x y apart.differ tx.there ty.there (waits c i x.takes tx.takes) (waits c j y.takes ty.takes) (within i x.sends tx.sends) (within j y.sends ty.sends) (boxes x.sends y.sends tx.sends ty.sends) x.spawns y.spawns n)
        (prints_pass x.prints y.prints c.printed (prints x.prints y.prints tx.prints ty.prints))

    second_of : (k : ℕ) (r : Outcome × Configuration) (d : Configuration) → r ≡ (Moved, d) → step core r.1 k ≡ step core d k
    second_of k r d e = ap (λ (q : Outcome × Configuration). step core q.1 k) e

    swapped_by : Swapped core c i j
    swapped_by =
        let second_j : step core (step core c i).1 j ≡ (Moved, applied (applied c i x) j y) = second_of j (step core c i) (applied c i x) step_i ∙ then_j in
        let second_i : step core (step core c j).1 i ≡ (Moved, applied (applied c j y) i x) = second_of i (step core c j) (applied c j y) step_j ∙ then_i in
        record {
          first = apart.moves;
          then = ap (λ (r : Outcome × Configuration). r.0) second_j;
          first_too = apart.moves_too;
          then_too = ap (λ (r : Outcome × Configuration). r.0) second_i;
          same = ap (λ (r : Outcome × Configuration). r.1) second_j ∙ both ∙ sym (ap (λ (r : Outcome × Configuration). r.1) second_i);
        }

  -- Without a race, and if objects are placed, steps that are apart are swapped.
  pub swapped : Swapped core c i j
  swapped = let x = plans core c i apart.moves in let y = plans core c j apart.moves_too in swapped_by x.0 y.0 x.1 y.1

-- ---- after a list

pub moved_on : (r : Outcome × Configuration) (rest : Configuration → Configuration) (c : Configuration) → r.0 ≡ Moved → followed rest c c r ≡ rest r.1
moved_on r rest c e = ap (λ (o : Outcome). followed rest c c (o, r.1)) e

two_steps : (core : CoreData) (c : Configuration) (i j : ℕ) → (step core c i).0 ≡ Moved → (step core (step core c i).1 j).0 ≡ Moved → run_from core c (i ∷ j ∷ []) ≡ (step core (step core c i).1 j).1
two_steps core c i j e f = moved_on (step core c i) (λ next. run_from core next (j ∷ [])) c e ∙ moved_on (step core (step core c i).1 j) (λ next. next) (step core c i).1 f

pub lists_swap : (core : CoreData) (list : List ℕ) (i j : ℕ) → Swapped core (after core list) i j → after core (list ++ i ∷ j ∷ []) ≡ after core (list ++ j ∷ i ∷ [])
lists_swap core list i j s =
    elim (run_goes_on core list (start core)) [
      | inl on ↦
          on (i ∷ j ∷ []) ∙ two_steps core (after core list) i j s.first s.then ∙ s.same ∙ sym (two_steps core (after core list) j i s.first_too s.then_too) ∙ sym (on (j ∷ i ∷ []))
      | inr ended ↦ ended (i ∷ j ∷ []) ∙ sym (ended (j ∷ i ∷ []))
    ]

pub steps_swap : StepsSwap
steps_swap core safe list i j apart =
    let s : Swapped core (after core list) i j = swapped core (after core list) i j (safe list).no_race (after_placed core list) apart in
    (s, lists_swap core list i j s)

-- ---- and what follows

two_and_more : (core : CoreData) (c : Configuration) (i j : ℕ) (rest : List ℕ) → (step core c i).0 ≡ Moved → (step core (step core c i).1 j).0 ≡ Moved → run_from core c (i ∷ j ∷ rest) ≡ run_from core (step core (step core c i).1 j).1 rest
two_and_more core c i j rest e f = moved_on (step core c i) (λ next. run_from core next (j ∷ rest)) c e ∙ moved_on (step core (step core c i).1 j) (λ next. run_from core next rest) (step core c i).1 f

whole_swap : (core : CoreData) (list : List ℕ) (i j : ℕ) (rest : List ℕ) → Swapped core (after core list) i j → after core (list ++ i ∷ j ∷ rest) ≡ after core (list ++ j ∷ i ∷ rest)
whole_swap core list i j rest s =
    elim (run_goes_on core list (start core)) [
      | inl on ↦
          on (i ∷ j ∷ rest) ∙ two_and_more core (after core list) i j rest s.first s.then ∙ ap (λ (c : Configuration). run_from core c rest) s.same ∙ sym (two_and_more core (after core list) j i rest s.first_too s.then_too) ∙ sym (on (j ∷ i ∷ rest))
      | inr ended ↦ ended (i ∷ j ∷ rest) ∙ sym (ended (j ∷ i ∷ rest))
    ]

pub whole_lists_swap : ListsSwap
whole_lists_swap core safe list i j rest apart = whole_swap core list i j rest (steps_swap core safe list i j apart).0
