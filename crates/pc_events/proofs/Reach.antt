-- In each configuration that a run leads to, the objects of a maker are the first ones of its serials, and the makers are actors.
use Rattle.std.specs.{Prelude.{◌≡◌, ◌≢◌, ◌⊎◌, ◌<◌, ◌≤◌, ℕ, ◌+◌, List, [], ◌∷◌, ◌++◌, length, Option, Some, None, nat_eq, refl, ⊤}, FinMap.{get, insert, empty, get-empty, len-empty}}
use Rattle.std.proofs.{Common.{inl, inr, ap, sym, subst, ◌∙◌, arith}, lemmas.Option.none-some, lemmas.Bool.{eq-eqb, ne_eqb}}
use Rattle.pc_heap.specs.{Objects.{address_cmp, ObjectMap, made_by, next_address, with_field, Object}, Parts.object_in, declared.value.Address.Address}
use Rattle.pc_base.specs.Counts.{one_if}
use Rattle.pc_heap.proofs.Counts.{made_more, made_same, made_few}
use Rattle.pc_core.specs.CoreData.{CoreData}
use Rattle.pc_semantics.specs.{declared.actors.Actor.Actor, declared.mailbox.Message.Message, declared.outcome.Outcome.Outcome, declared.outcome.Outcome.TheVariants.{Moved, Skipped, Lacks, TooLong}, Configurations.{Configuration, own_address, environment_address, environment, blank_object, main_create, start_of, start}, Step.{step, followed, run_from, after}}
use Rattle.pc_events.proofs.{Changes.{Heaping, Same, Sets, New, heaped, spawned, Change, acted, applied}, Maps.{address_cases, get_other, Fit}, Plans.{plans, step_is}, Told.{place_of, Told, HeapTold, told}, Pass.length_acted, Kept.{count_grows, length_push}}

abbrev no_objects : ObjectMap
no_objects = empty

empty_there : (a : Address) → get no_objects a ≡ None
empty_there a = get-empty address_cmp a

-- Of n actors.
pub record PlacedIn (h : ObjectMap) (n : ℕ) : Type 0 where
  pub maker : (a : Address) (o : Object) → get h a ≡ Some o → a.maker < n
  pub serial : (a : Address) (o : Object) → get h a ≡ Some o → a.serial < made_by h a.maker
  pub later : (k : ℕ) → n ≤ k → made_by h k ≡ 0

abbrev pub Placed : Configuration → Type 0
Placed c = PlacedIn c.objects (length c.actors)

-- What is made is the next object of its maker, or its first.
abbrev NextIn : ObjectMap → ℕ → Heaping → Type 0
NextIn h n Same = ⊤
NextIn h n (Sets a k v) = ⊤
NextIn h n (New a o) = (a.maker < n) × (a.serial ≤ made_by h a.maker)

less : (a b c : ℕ) → a < b → b ≤ c → a < c
less a b c p q = omega (arith, p, q)

at_most : (n k m : ℕ) → n ≤ k → k ≤ m → n ≤ m
at_most n k m p q = omega (arith, p, q)

no_sum : (n k : ℕ) → n ≡ 0 → k ≡ 0 → n + k ≡ 0
no_sum n k e f = omega (arith, e, f)

below_other : (a k m : ℕ) → a < k → k ≤ m → a ≢ m
below_other a k m p q e = absurd (omega (arith, p, q, e))

less_more : (s m k r : ℕ) → s < m → r ≡ m + k → s < r
less_more s m k r p e = omega (arith, p, e)

last_one : (s m k r : ℕ) → s ≤ m → k ≡ 1 → r ≡ m + k → s < r
last_one s m k r p e f = omega (arith, p, e, f)

heaps_placed : (h : ObjectMap) (n k : ℕ) (x : Heaping) → Fit h x → n ≤ k → NextIn h k x → PlacedIn h n → PlacedIn (heaped x h) k
heaps_placed h n k Same fit b next p = record { maker = λ a o e. less a.maker n k (p.maker a o e) b; serial = p.serial; later = λ m l. p.later m (at_most n k m b l) }
heaps_placed h n k (Sets a f v) fit b next p = record {
  maker = λ q o e. less q.maker n k (p.maker q (was q o e).0 (was q o e).1) b;
  serial = λ q o e. subst (λ (m : ℕ). q.serial < m) (sym (made_same h a _ fit.0 q.maker fit.1)) (p.serial q (was q o e).0 (was q o e).1);
  later = λ m l. made_same h a _ fit.0 m fit.1 ∙ p.later m (at_most n k m b l);
}
  where
    was : (q : Address) (o : Object) → get (heaped (Sets a f v) h) q ≡ Some o → (r : Object) × (get h q ≡ Some r)
    was q o e = elim (address_cases q a) [ inl s ↦ (fit.0, ap (get h) s ∙ fit.1) | inr d ↦ (o, sym (get_other h a (with_field (object_in (get h a)) f v) q d) ∙ e) ]
heaps_placed h n k (New a x) fit b next p = record {
  maker = λ q o e. elim (address_cases q a) [ inl s ↦ subst (λ (r : Address). r.maker < k) (sym s) next.0 | inr d ↦ less q.maker n k (p.maker q o (was q o e d)) b ];
  serial = λ q o e.
      elim (address_cases q a) [
        | inl s ↦ subst (λ (r : Address). r.serial < made_by (insert h a x) r.maker) (sym s) (last_one a.serial (made_by h a.maker) (one_if (nat_eq a.maker a.maker)) _ next.1 (ap one_if (eq-eqb a.maker a.maker refl)) (made_more h a x a.maker fit))
        | inr d ↦ less_more q.serial (made_by h q.maker) (one_if (nat_eq a.maker q.maker)) _ (p.serial q o (was q o e d)) (made_more h a x q.maker fit)
      ];
  later = λ m l. made_more h a x m fit ∙ no_sum (made_by h m) (one_if (nat_eq a.maker m)) (p.later m (at_most n k m b l)) (ap one_if (ne_eqb a.maker m (below_other a.maker k m next.0 l)));
}
  where
    was : (q : Address) (o : Object) → get (insert h a x) q ≡ Some o → q ≢ a → get h q ≡ Some o
    was q o e d = sym (get_other h a x q d) ∙ e

-- ---- a step

free_here : (h : ObjectMap) (a : Address) → ((o : Object) → get h a ≡ Some o → ⊥) → (p : Option Object) → get h a ≡ p → p ≡ None
free_here h a never None e = refl
free_here h a never (Some o) e = absurd (never o e)

-- At the place where an object is made, there is none.
place_free : (h : ObjectMap) (i n : ℕ) → PlacedIn h n → (s : Option Message) (o : Object) → get h (place_of h i n s) ≡ Some o → ⊥
place_free h i n p None o e = let b = p.serial (next_address h i) o e in absurd (omega (arith, b))
place_free h i n p (Some m) o e = let b = p.maker (own_address n) o e in absurd (omega (arith, b))

heap_fits : (core : CoreData) (c : Configuration) (i : ℕ) → Placed c → (s : Option Message) (z : Heaping) → HeapTold core c i s z → Fit c.objects z
heap_fits core c i p s Same t = tt
heap_fits core c i p s (Sets a k v) t = (t.0, t.1)
heap_fits core c i p s (New a o) t = free_here c.objects a (λ x e. place_free c.objects i (length c.actors) p s x (ap (get c.objects) (sym t) ∙ e)) (get c.objects a) refl

pub fits : (core : CoreData) (c : Configuration) (i : ℕ) (x : Change) → Placed c → Told core c i x → Fit c.objects x.heap
fits core c i x p t = heap_fits core c i p x.spawns x.heap t.heap

at_end : (n k : ℕ) → k ≡ n + 1 → n < k
at_end n k e = omega (arith, e)

none_less : (n : ℕ) → 0 ≤ n
none_less n = omega arith

same_below : (n : ℕ) → n ≤ n
same_below n = omega arith

heap_next : (core : CoreData) (c : Configuration) (i : ℕ) (l : List Actor) → length l ≡ length c.actors → i < length c.actors → (s : Option Message) (z : Heaping) → HeapTold core c i s z → NextIn c.objects (length (spawned s l)) z
heap_next core c i l e b s Same t = tt
heap_next core c i l e b s (Sets a k v) t = tt
heap_next core c i l e b None (New a o) t = subst (λ (q : Address). (q.maker < length l) × (q.serial ≤ made_by c.objects q.maker)) (sym t) (subst (λ (n : ℕ). i < n) (sym e) b, same_below (made_by c.objects i))
heap_next core c i l e b (Some m) (New a o) t =
    subst (λ (q : Address). (q.maker < length (spawned (Some m) l)) × (q.serial ≤ made_by c.objects q.maker)) (sym t)
    (subst (λ (n : ℕ). n < length (spawned (Some m) l)) e (at_end (length l) (length (spawned (Some m) l)) (length_push l _)), none_less (made_by c.objects (length c.actors)))

pub change_placed : (core : CoreData) (c : Configuration) (i : ℕ) (x : Change) → Placed c → Told core c i x → Placed (applied c i x)
change_placed core c i x p t =
    let l : List Actor = acted i x c.actors in
    let e : length l ≡ length c.actors = length_acted i x c.actors in
    heaps_placed c.objects (length c.actors) (length (spawned x.spawns l)) x.heap (fits core c i x p t) (count_grows x.spawns l c.actors e) (heap_next core c i l e t.there x.spawns x.heap t.heap) p

-- ---- the start

none_made : (k : ℕ) → made_by no_objects k ≡ 0
none_made k = let few = made_few no_objects k in let none = len-empty address_cmp Object in omega (arith, few, none)

nothing_placed : (n : ℕ) → PlacedIn empty n
nothing_placed n = record { maker = λ a o e. absurd (none-some o (sym (empty_there a) ∙ e)); serial = λ a o e. absurd (none-some o (sym (empty_there a) ∙ e)); later = λ k l. none_made k }

env_other : environment_address ≢ own_address 0
env_other e = let f : 1 ≡ 0 = ap (λ (a : Address). a.serial) e in absurd (omega (arith, f))

one_other : (a : Address) → a.maker ≡ 0 → own_address 1 ≢ a
one_other a z e = let f : 1 ≡ 0 = ap (λ (b : Address). b.maker) e ∙ z in absurd (omega (arith, f))

one_below : (n k r : ℕ) → k ≡ 1 → r ≡ n + k → 1 ≤ r
one_below n k r e f = omega (arith, e, f)

start_placed : (core : CoreData) (o : Option (ℕ × ℕ)) → Placed (start_of core o)
start_placed core None = nothing_placed 0
start_placed core (Some main) =
    let a : Object = blank_object core 5 in
    let b : Object = environment core in
    let d : Object = blank_object core main.0 in
    let h : ObjectMap = insert empty (own_address 0) a in
    let g : ObjectMap = insert h environment_address b in
    let none_h : get h environment_address ≡ None = get_other empty (own_address 0) a environment_address env_other ∙ empty_there environment_address in
    let none_g : get g (own_address 1) ≡ None = get_other h environment_address b (own_address 1) (one_other environment_address refl) ∙ get_other empty (own_address 0) a (own_address 1) (one_other (own_address 0) refl) ∙ empty_there (own_address 1) in
    let p : PlacedIn h 2 = heaps_placed empty 2 2 (New (own_address 0) a) (empty_there (own_address 0)) (same_below 2) (omega arith, none_less (made_by empty 0)) (nothing_placed 2) in
    let q : PlacedIn g 2 = heaps_placed h 2 2 (New environment_address b) none_h (same_below 2) (omega arith, one_below (made_by empty 0) (one_if (nat_eq 0 0)) (made_by h 0) (ap one_if (eq-eqb 0 0 refl)) (made_more empty (own_address 0) a 0 (empty_there (own_address 0)))) p in
    heaps_placed g 2 2 (New (own_address 1) d) none_g (same_below 2) (omega arith, none_less (made_by g 1)) q

-- ---- runs

step_placed : (core : CoreData) (c : Configuration) (i : ℕ) → Placed c → (step core c i).0 ≡ Moved → Placed (step core c i).1
step_placed core c i p e =
    let x = plans core c i e in
    subst Placed (sym (ap (λ (r : Outcome × Configuration). r.1) (step_is core c i x.0 x.1))) (change_placed core c i x.0 p (told core c i x.0 x.1))

followed_placed : (c : Configuration) → Placed c → (rest : Configuration → Configuration) (r : Outcome × Configuration) → (r.0 ≡ Moved → Placed r.1) → ((next : Configuration) → Placed next → Placed (rest next)) → Placed (followed rest c c r)
followed_placed c p rest (Moved, next) s more = more next (s refl)
followed_placed c p rest (Skipped, next) s more = more c p
followed_placed c p rest (Lacks l, next) s more = p
followed_placed c p rest (TooLong, next) s more = p

pub run_placed : (core : CoreData) (list : List ℕ) (c : Configuration) → Placed c → Placed (run_from core c list)
run_placed core [] c p = p
run_placed core (i ∷ is) c p = followed_placed c p (λ next. run_from core next is) (step core c i) (λ e. step_placed core c i p e) (λ next q. run_placed core is next q)

pub after_placed : (core : CoreData) (list : List ℕ) → Placed (after core list)
after_placed core list = run_placed core list (start core) (start_placed core (main_create core))

-- ---- a list that goes on

-- Either it goes on from where the first part of the list has led, or the run has ended.
pub run_goes_on : (core : CoreData) (list : List ℕ) (c : Configuration)
    → ((rest : List ℕ) → run_from core c (list ++ rest) ≡ run_from core (run_from core c list) rest) ⊎ ((rest : List ℕ) → run_from core c (list ++ rest) ≡ run_from core c list)
run_goes_on core [] c = inl (λ rest. refl)
run_goes_on core (i ∷ is) c = go (λ d. run_goes_on core is d) (step core c i)
  where
    go : ((d : Configuration) → ((rest : List ℕ) → run_from core d (is ++ rest) ≡ run_from core (run_from core d is) rest) ⊎ ((rest : List ℕ) → run_from core d (is ++ rest) ≡ run_from core d is)) → (r : Outcome × Configuration)
        → ((rest : List ℕ) → followed (λ n. run_from core n (is ++ rest)) c c r ≡ run_from core (followed (λ n. run_from core n is) c c r) rest) ⊎ ((rest : List ℕ) → followed (λ n. run_from core n (is ++ rest)) c c r ≡ followed (λ n. run_from core n is) c c r)
    go more (Moved, next) = more next
    go more (Skipped, next) = more c
    go more (Lacks l, next) = inr (λ rest. refl)
    go more (TooLong, next) = inr (λ rest. refl)
