-- The events of a run, their order and their clocks exist.
use Rattle.std.proofs.{Common.{◌≡◌, ◌⊎◌, ◌<◌, ◌+◌, ℕ, zero, suc, List, [], ◌∷◌, ◌++◌, length, Some, inl, inr, refl, sym, ◌∙◌, subst, arith, length-append}, lemmas.Bool.cases_eq, lemmas.Option.none-some}
use Rattle.std.specs.Prelude.{slice_get}
use Rattle.pc_core.specs.CoreData.{CoreData}
use Rattle.pc_events.proofs.Events.{event_is, is_event_so}
use Rattle.pc_events.specs.{Before.{Before, Carries, Event, at_place, receiver_of, taken_before, waiting_for}, Before.Before.{carried, chain, own}, Clock.{Clock, Clocks, UpTo}, Counting.is_event}
use Rattle.pc_base.proofs.Gets.{get_below, get_push}
use Rattle.pc_base.specs.Lists.{Each}
use Rattle.pc_semantics.specs.{Ahead.ahead_of, declared.ahead.Ahead.Ahead}
use Rattle.pc_semantics.specs.declared.ahead.Ahead.TheVariants as ahead
use Rattle.pc_verdicts.proofs.{Chains.{Led, led_on, led_told, more, one}, Deciding.{at_told, both_told, either_told, filtered, is_told, less_told, true_told, turned}, Same.Told}

take_told : (x : Ahead) → Told (x ≡ ahead.Take)
take_told ahead.Take = inl refl
take_told ahead.Skipped = inr (λ e. cc e)
take_told ahead.Lacks = inr (λ e. cc e)
take_told ahead.TooLong = inr (λ e. cc e)
take_told ahead.Spawn = inr (λ e. cc e)
take_told (ahead.Send k) = inr (λ e. cc e)
take_told ahead.Task = inr (λ e. cc e)

module _ (core : CoreData) (list : List ℕ) where
  event_told : (p i : ℕ) → Told (Event core list p i)
  event_told p i = turned (is_event_so core list p i) (event_is core list p i) (true_told (is_event core list i p))

  pub event_below : (p i : ℕ) → Event core list p i → p < length list
  event_below p i e = get_below list p i e.actor

  -- ---- the order

  abbrev Own : ℕ → ℕ → Type 0
  Own p q = (p < q) × ((i : ℕ) × (slice_get list p ≡ Some i) × (Event core list p i × Event core list q i))

  own_told : (p q : ℕ) → Told (Own p q)
  own_told p q = both_told (less_told p q) (at_told list p (λ i. Event core list p i × Event core list q i) (λ i. both_told (event_told p i) (event_told q i)))

  abbrev Carried : (p q sender receiver : ℕ) → Type 0
  Carried p q i r =
      (Event core list p i × ((receiver_of core (at_place core list p) i ≡ Some r) × Event core list q r))
      × ((ahead_of core (at_place core list q) r ≡ ahead.Take) × ((p < q) × (taken_before core list q r ≡ taken_before core list p r + waiting_for (at_place core list p) r)))

  carried_told : (p q i r : ℕ) → Told (Carried p q i r)
  carried_told p q i r = both_told
      (both_told (event_told p i) (both_told (is_told (receiver_of core (at_place core list p) i) r) (event_told q r)))
      (both_told (take_told (ahead_of core (at_place core list q) r)) (both_told (less_told p q) (cases_eq (taken_before core list q r) (taken_before core list p r + waiting_for (at_place core list p) r))))

  pub carries_told : (p q : ℕ) → Told (Carries core list p q)
  carries_told p q =
      turned
      (λ h. record {
        sender = h.0;
        receiver = h.2.0;
        puts = h.2.2.0.0;
        to = h.2.2.0.1.0;
        takes = h.2.2.0.1.1;
        take = h.2.2.1.0;
        later = h.2.2.1.1.0;
        message = h.2.2.1.1.1;
      })
      (λ (c : Carries core list p q). (c.sender, c.puts.actor, (c.receiver, c.takes.actor, ((c.puts, (c.to, c.takes)), (c.take, (c.later, c.message))))))
      (at_told list p (λ i. (r : ℕ) × (slice_get list q ≡ Some r) × Carried p q i r) (λ i. at_told list q (λ r. Carried p q i r) (λ r. carried_told p q i r)))

  abbrev Linked : ℕ → ℕ → Type 0
  Linked p q = Own p q ⊎ Carries core list p q

  linked_below : (p q : ℕ) → Linked p q → (p < length list) × (q < length list)
  linked_below p q (inl h) = (event_below p h.1.0 h.1.2.0, event_below q h.1.0 h.1.2.1)
  linked_below p q (inr c) = (event_below p c.sender c.puts, event_below q c.receiver c.takes)

  linked_before : (p q : ℕ) → Linked p q → Before core list p q
  linked_before p q (inl h) = own h.1.0 p q h.0 h.1.2.0 h.1.2.1
  linked_before p q (inr c) = carried p q c

  led_before : {p q : ℕ} → Led Linked p q → Before core list p q
  led_before {p} {q} (one h) = linked_before p q h
  led_before {p} {q} (more {b = r} h l) = chain p r q (linked_before p r h) (led_before l)

  before_led : {p q : ℕ} → Before core list p q → Led Linked p q
  before_led (own i p q l e f) = one (inl (l, (i, e.actor, (e, f))))
  before_led (carried p q c) = one (inr c)
  before_led (chain p q r b c) = led_on (before_led b) (before_led c)

  before_told : (p q : ℕ) → Told (Before core list p q)
  before_told p q = turned led_before before_led (led_told (length list) Linked (λ a b. either_told (own_told a b) (carries_told a b)) linked_below p q)

  -- ---- clocks

  up_to_told : (p a q : ℕ) → Told (UpTo core list p a q)
  up_to_told p a q = both_told (event_told q a) (either_told (cases_eq q p) (before_told q p))

  clock_is_there : (p a : ℕ) → (n : ℕ) × Clock core list p a n
  clock_is_there p a =
      let f = filtered (UpTo core list p a) (up_to_told p a) (length list) in (
        length f.0,
        record {
          which = f.0;
          ascends = f.1.ascends;
          have = λ k q e. ((f.1.exact q).0 (k, e)).1;
          all = λ q h. (f.1.exact q).1 (event_below q a h.0, h);
          count = refl;
        },
      )

  numbers_to : (p n : ℕ) → (numbers : List ℕ) × (length numbers ≡ n) × Each (Clock core list p) numbers
  numbers_to p zero = ([], refl, λ a k e. absurd (none-some k e))
  numbers_to p (suc n) =
      let before = numbers_to p n in
      let k = clock_is_there p n in
      let count = length-append before.0 (k.0 ∷ []) in
      let all = before.1 in (
        before.0 ++ k.0 ∷ [],
        omega (arith, count, all),
        λ a m e. elim (get_push before.0 k.0 a m e) [
          | inl old ↦ before.2 a m old
          | inr last ↦ subst (λ (c : ℕ). Clock core list p c m) (sym (last.0 ∙ all)) (subst (λ (c : ℕ). Clock core list p n c) last.1 k.1)
        ],
      )

  pub clocks_are_there : (p : ℕ) → (numbers : List ℕ) × Clocks core list p numbers
  clocks_are_there p = let all = numbers_to p (length (at_place core list p).actors) in (all.0, record { actors = all.1; each = all.2 })

  -- The actor whose event a place is.
  pub event_at : (p : ℕ) → Told ((i : ℕ) × (slice_get list p ≡ Some i) × Event core list p i)
  event_at p = at_told list p (λ i. Event core list p i) (λ i. event_told p i)
