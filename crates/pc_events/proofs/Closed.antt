-- Each configuration that a run leads to is like itself: it mentions no actor that does not exist.
use Rattle.std.specs.{Prelude.{◌≡◌, ◌<◌, ℕ, zero, suc, ◌+◌, List, [], ◌∷◌, ◌++◌, take, length, Option, Some, None, slice_get, refl}, FinMap.{get, insert, empty, get-empty}}
use Rattle.std.proofs.{Common.{inl, inr, ap, sym, subst, ◌∙◌, arith}, lemmas.Option.{same_Some, none-some}, lemmas.List.append-nil}
use Rattle.pc_base.proofs.Gets.{get_push}
use Rattle.pc_heap.specs.{Objects.{address_cmp, ObjectMap, class_at, Object}, Parts.field_in, Fields.field_at, declared.value.Address.Address, declared.value.Value.TheVariants.At}
use Rattle.pc_core.specs.CoreData.{CoreData}
use Rattle.pc_semantics.specs.{declared.actors.Actor.Actor, declared.outcome.Outcome.Outcome, declared.outcome.Outcome.TheVariants.{Moved, Skipped, Lacks, TooLong}, Configurations.{Configuration, own_address, environment_address, environment, blank_object, main_create, start_of, start}, Parts.number_of_fields, Step.{step, followed, outcomes}, Safety.{LacksNothing, Safe}}
use Rattle.pc_events.specs.{Before.{at_place, takes_one, taken_before}, Counting.Live}
use Rattle.pc_events.proofs.{Changes.{Change, left_mail, applied, plan}, Maps.{address_cases, get_here, get_other}, Plans.{view, plans, step_is}, Told.told, Reach.{Placed, fits, after_placed}, Like.{AddressLike, SlotsLike, FoundLike, empty_slots, slots_get, slots_set}, Sim.{MailLike, Marks, Clean, Status, Sim}, SimBoth.both_go, SimEvent.{Followed, event_goes}, Outcomes.{turn, own_next, other_next, skipped_next}}

-- Other numbers that are the same.
pub sim_front : (marks : Marks) (front next : ℕ → ℕ) (c d : Configuration) (names : List ℕ) → ((k : ℕ) → next k ≡ front k) → Sim marks front c d names → Sim marks next c d names
sim_front marks front next c d names h s = record {
  count = s.count;
  first = s.first;
  inject = s.inject;
  within = s.within;
  classes = s.classes;
  fields = s.fields;
  actors = λ i a e.
      elim (s.actors i a e) [
        | inl k ↦ inl (record { other = k.other; actor = k.actor; name = k.name; is = k.is; frames = k.frames; mail = subst (λ (n : ℕ). MailLike names (marks.post i) n a.mailbox k.actor.mailbox) (sym (h i)) k.mail; made = k.made })
        | inr (inl k) ↦ inr (inl k)
        | inr (inr k) ↦ inr (inr (record { frames = k.frames; message = k.message; rest = k.rest; mail = k.mail; marked = subst (marks.post i) (sym (h i)) k.marked }))
      ];
}

-- Both configurations make like steps.
module _ (core : CoreData) (marks : Marks) (front next : ℕ → ℕ) (c d : Configuration) (names : List ℕ) (sim : Sim marks front c d names) (lacks : LacksNothing core d) (placed : Placed c) (placed_too : Placed d) (i : ℕ) (a : Actor) (here : slice_get c.actors i ≡ Some a) (clean : Clean marks front c d names i a)
    (x : Change) (px : plan core c i ≡ Some x) (counts : (k : ℕ) → next k ≡ front k + takes_one core c i k) (f : Followed core marks front c d names sim lacks i a here clean x) where
  pub pair_goes : Sim marks next (applied c i x) (applied d clean.other f.change) (names ++ f.more)
  pair_goes =
      both_go marks front next c d names f.more i x f.change sim a here clean placed placed_too (fits core c i x placed (told core c i x px)) (fits core d clean.other f.change placed_too (told core d clean.other f.change f.plans)) f.like
      (subst (λ (n : ℕ). MailLike (names ++ f.more) (marks.post i) n (left_mail x.takes a.mailbox) (left_mail f.change.takes clean.actor.mailbox)) (sym (own_next core c i (front i) (next i) x px (counts i))) f.mail)
      (λ k n. other_next core c i k (front k) (next k) n (counts k))

-- ---- the start

abbrev pub nothing : Marks
nothing = record { actor = λ i. ⊥; post = λ i n. ⊥; wrote = λ a f. ⊥ }

pub record Closed (c : Configuration) (front : ℕ → ℕ) : Type 0 where
  pub names : List ℕ
  pub sim : Sim nothing front c c names
  pub identity : (j a : ℕ) → slice_get names j ≡ Some a → a ≡ j

-- Each object is like itself.
abbrev Selves : List ℕ → ObjectMap → Type 0
Selves names h = (q : Address) (o : Object) → get h q ≡ Some o → SlotsLike names o.fields o.fields

more_selves : (names : List ℕ) (h : ObjectMap) (a : Address) (x : Object) → SlotsLike names x.fields x.fields → Selves names h → Selves names (insert h a x)
more_selves names h a x l s q o e =
    elim (address_cases q a) [
      | inl t ↦ subst (λ (p : Object). SlotsLike names p.fields p.fields) (same_Some x o (sym (get_here h a x) ∙ sym (ap (get (insert h a x)) t) ∙ e)) l
      | inr n ↦ s q o (sym (get_other h a x q n) ∙ e)
    ]

blank_self : (names : List ℕ) (core : CoreData) (e : ℕ) → SlotsLike names (blank_object core e).fields (blank_object core e).fields
blank_self names core e = empty_slots names (number_of_fields (slice_get core.entities e))

found_self : (names : List ℕ) (f : ℕ) (p : Option Object) → ((o : Object) → p ≡ Some o → SlotsLike names o.fields o.fields) → FoundLike names (field_in p f) (field_in p f)
found_self names f None h = tt
found_self names f (Some o) h = slots_get names o.fields o.fields f (h o refl)

same_address_by : (a b : Address) → a.maker ≡ b.maker → a.serial ≡ b.serial → a ≡ b
same_address_by a b e f = ap (λ (m : ℕ). record { maker = m; serial = a.serial }) e ∙ ap (λ (s : ℕ). record { maker = b.maker; serial = s }) f

name_is : (j a : ℕ) → slice_get (0 ∷ 1 ∷ []) j ≡ Some a → a ≡ j
name_is zero a e = sym (same_Some 0 a e)
name_is (suc zero) a e = sym (same_Some 1 a e)
name_is (suc (suc j)) a e = absurd (none-some a e)

name_less : (j a : ℕ) → slice_get (0 ∷ 1 ∷ []) j ≡ Some a → a < 2
name_less zero a e = let f : 0 ≡ a = same_Some 0 a e in omega (arith, f)
name_less (suc zero) a e = let f : 1 ≡ a = same_Some 1 a e in omega (arith, f)
name_less (suc (suc j)) a e = absurd (none-some a e)

start_status : (core : CoreData) (main : ℕ × ℕ) (front : ℕ → ℕ) (i : ℕ) (a : Actor) → slice_get (start_of core (Some main)).actors i ≡ Some a → Status nothing front (start_of core (Some main)) (start_of core (Some main)) (0 ∷ 1 ∷ []) i a
start_status core main front zero a e =
    subst (Status nothing front (start_of core (Some main)) (start_of core (Some main)) (0 ∷ 1 ∷ []) 0) (same_Some _ a e)
    (inl (record { other = 0; actor = record { mailbox = []; frames = [] }; name = refl; is = refl; frames = tt; mail = tt; made = refl }))
start_status core main front (suc zero) a e =
    subst (Status nothing front (start_of core (Some main)) (start_of core (Some main)) (0 ∷ 1 ∷ []) 1) (same_Some _ a e)
    (inl (record {
      other = 1;
      actor = record { mailbox = record { method = main.1; arguments = At environment_address ∷ [] } ∷ []; frames = [] };
      name = refl;
      is = refl;
      frames = tt;
      mail = inl (record { method = refl; arguments = (record { maker = refl; serial = refl }, tt) }, tt);
      made = refl;
    }))
start_status core main front (suc (suc i)) a e = absurd (none-some a e)

start_closed : (core : CoreData) (o : Option (ℕ × ℕ)) (front : ℕ → ℕ) → Closed (start_of core o) front
start_closed core None front = record {
  names = [];
  sim = record {
    count = refl;
    first = λ j a e. absurd (none-some a e);
    inject = λ j k a e f. absurd (none-some a e);
    within = λ j a e. absurd (none-some a e);
    classes = λ a b l e is. absurd (none-some a.maker l.maker);
    fields = λ a b l e is f. absurd (none-some a.maker l.maker);
    actors = λ i a e. absurd (none-some a e);
  };
  identity = λ j a e. absurd (none-some a e);
}
start_closed core (Some main) front =
    let names : List ℕ = 0 ∷ 1 ∷ [] in
    let h : ObjectMap = insert (insert (insert empty (own_address 0) (blank_object core 5)) environment_address (environment core)) (own_address 1) (blank_object core main.0) in
    let c : Configuration = start_of core (Some main) in
    let same : (a b : Address) → AddressLike names a b → b ≡ a = λ a b l. same_address_by b a (sym (name_is b.maker a.maker l.maker)) (sym l.serial) in
    let selves : Selves names h =
    more_selves names _ (own_address 1) (blank_object core main.0) (blank_self names core main.0)
    (more_selves names _ environment_address (environment core) (slots_set names _ _ 0 (Some (At (own_address 0))) (Some (At (own_address 0))) (record { maker = refl; serial = refl }) (blank_self names core 4))
    (more_selves names _ (own_address 0) (blank_object core 5) (blank_self names core 5) (λ q o e. absurd (none-some o (sym (get-empty address_cmp q) ∙ e)))))
    in
    record {
      names = names;
      sim = record {
        count = refl;
        first = λ j a e. let f : a ≡ j = name_is j a e in (λ z. sym f ∙ z, λ z. f ∙ z);
        inject = λ j k a e f. sym (name_is j a e) ∙ name_is k a f;
        within = name_less;
        classes = λ a b l e is. ap (class_at h) (sym (same a b l)) ∙ is;
        fields = λ a b l e is f. inl (subst (λ (z : Address). FoundLike names (field_at h a f) (field_at h z f)) (sym (same a b l)) (found_self names f (get h a) (λ o g. selves a o g)));
        actors = start_status core main front;
      };
      identity = name_is;
    }

-- ---- every place

pub actor_of : (core : CoreData) (c : Configuration) (i : ℕ) (x : Change) → plan core c i ≡ Some x → (a : Actor) × (slice_get c.actors i ≡ Some a)
actor_of core c i x p = elim (view core c i x p) [ inl r ↦ (r.actor, r.is) | inr t ↦ (t.actor, t.is) ]

module _ (core : CoreData) (c : Configuration) (front next : ℕ → ℕ) (closed : Closed c front) (placed : Placed c) (lacks : LacksNothing core c) (i : ℕ) (x : Change) (px : plan core c i ≡ Some x) (counts : (k : ℕ) → next k ≡ front k + takes_one core c i k) where
  module _ (a : Actor) (here : slice_get c.actors i ≡ Some a) (clean : Clean nothing front c c closed.names i a) (f : Followed core nothing front c c closed.names closed.sim lacks i a here clean x) where
    same_actor : clean.other ≡ i
    same_actor = sym (closed.identity clean.other i clean.name)

    same_change : f.change ≡ x
    same_change = same_Some f.change x (sym f.plans ∙ ap (plan core c) same_actor ∙ px)

    all_identity : (j b : ℕ) → slice_get (closed.names ++ f.more) j ≡ Some b → b ≡ j
    all_identity j b e =
        elim f.like.births [
          | inl n ↦ closed.identity j b (sym (ap (λ (m : List ℕ). slice_get m j) (ap (λ (z : List ℕ). closed.names ++ z) n.added ∙ append-nil closed.names)) ∙ e)
          | inr n ↦
              elim (get_push closed.names (length c.actors) j b (sym (ap (λ (z : List ℕ). slice_get (closed.names ++ z) j) n.added) ∙ e)) [
                | inl q ↦ closed.identity j b q
                | inr q ↦ sym q.1 ∙ closed.sim.count ∙ sym q.0
              ]
        ]

    closed_goes : Closed (applied c i x) next
    closed_goes = record {
      names = closed.names ++ f.more;
      sim =
          subst (λ (d : Configuration). Sim nothing next (applied c i x) d (closed.names ++ f.more)) (ap (λ (k : ℕ). applied c k f.change) same_actor ∙ ap (applied c i) same_change)
          (pair_goes core nothing front next c c closed.names closed.sim lacks placed placed i a here clean x px counts f);
      identity = all_identity;
    }

  closed_by : (a : Actor) (here : slice_get c.actors i ≡ Some a) → Status nothing front c c closed.names i a → Closed (applied c i x) next
  closed_by a here (inl k) =
      elim (event_goes core nothing front c c closed.names closed.sim lacks i a here k x px) [
        | inl f ↦ closed_goes a here k f
        | inr (inl r) ↦ absurd r.1
        | inr (inr r) ↦ absurd r.2
      ]
  closed_by a here (inr (inl k)) = absurd k
  closed_by a here (inr (inr k)) = absurd k.marked

  pub closed_step : Closed (applied c i x) next
  closed_step = let w = actor_of core c i x px in closed_by w.0 w.1 (closed.sim.actors i w.0 w.1)

-- What comes after a turn that moves, and after one that is skipped.
pub moved_next : (core : CoreData) (list : List ℕ) (k : ℕ) (e : slice_get (outcomes core list) k ≡ Some Moved) → (x : Change) → plan core (at_place core list k) (turn core list (start core) k Moved e).actor ≡ Some x
    → at_place core list (suc k) ≡ applied (at_place core list k) (turn core list (start core) k Moved e).actor x
moved_next core list k e x p =
    let t = turn core list (start core) k Moved e in
    let c : Configuration = at_place core list k in
    t.next ∙ ap (followed (λ n. n) c c) (step_is core c t.actor x p)

skipped_followed : (c : Configuration) (r : Outcome × Configuration) → r.0 ≡ Skipped → followed (λ n. n) c c r ≡ c
skipped_followed c (Moved, n) e = absurd (bad e)
  where
    bad : Moved ≡ Skipped → ⊥
    bad z = cc
skipped_followed c (Skipped, n) e = refl
skipped_followed c (Lacks l, n) e = refl
skipped_followed c (TooLong, n) e = refl

pub skipped_behind : (core : CoreData) (list : List ℕ) (k : ℕ) → slice_get (outcomes core list) k ≡ Some Skipped → at_place core list (suc k) ≡ at_place core list k
skipped_behind core list k e = let t = turn core list (start core) k Skipped e in t.next ∙ skipped_followed (at_place core list k) (step core (at_place core list k) t.actor) t.ends

pub closed_at : (core : CoreData) → Safe core → (list : List ℕ) (k : ℕ) → Live core list k → Closed (at_place core list k) (taken_before core list k)
closed_at core safe list zero live = start_closed core (main_create core) (taken_before core list 0)
closed_at core safe list (suc k) live =
    let less : k < suc k = omega arith in
    let before : Closed (at_place core list k) (taken_before core list k) = closed_at core safe list k (λ m b. live m (omega (arith, b))) in
    elim (live k less) [
      | inl e ↦
          let t = turn core list (start core) k Moved e in
          let x = plans core (at_place core list k) t.actor t.ends in
          subst (λ (d : Configuration). Closed d (taken_before core list (suc k))) (sym (moved_next core list k e x.0 x.1))
          (closed_step core (at_place core list k) (taken_before core list k) (taken_before core list (suc k)) before (after_placed core (take k list)) (safe (take k list)).lacks_nothing t.actor x.0 x.1 t.counts)
      | inr e ↦
          let t = turn core list (start core) k Skipped e in
          subst (λ (d : Configuration). Closed d (taken_before core list (suc k))) (sym (skipped_behind core list k e)) (record {
            names = before.names;
            sim = sim_front nothing (taken_before core list k) (taken_before core list (suc k)) _ _ before.names (λ a. skipped_next core (at_place core list k) t.actor a (taken_before core list k a) (taken_before core list (suc k) a) t.ends (t.counts a)) before.sim;
            identity = before.identity;
          })
    ]
