-- What the events of a safe core name exists.
use Rattle.std.specs.Prelude.{◌≡◌, ◌⊎◌, ◌<◌, ℕ, suc, List, take, length, Option, Some, None, IsSome, slice_get, refl}
use Rattle.std.proofs.{Common.{inl, inr, sym, subst, ◌∙◌}, lemmas.Option.{none-some, same_Some}}
use Rattle.pc_core.specs.{CoreData.CoreData, Formed.Formed, declared.declarations.Method.Method}
use Rattle.pc_events.specs.Before.{at_place, Event}
use Rattle.pc_heap.specs.declared.value.Address.{Address}
use Rattle.pc_base.proofs.Gets.{get_within}
use Rattle.pc_base.specs.Lists.{◌>>=◌}
use Rattle.pc_run_events.proofs.Effects.{Effects, NoneMade, OneMade, effects_at}
use Rattle.pc_run_events.specs.{Events.{AllEvents, Does, MadeThere, method_waiting}, Lines.{AllNamed, MethodHasName, DeedHasNames}, declared.events.Deed.Deed, declared.events.RunEvent.RunEvent}
use Rattle.pc_run_events.specs.declared.events.Deed.TheVariants as deed
use Rattle.pc_semantics.specs.{Configurations.Configuration, Safety.{Quiet, Safe}, declared.actors.Actor.Actor, declared.mailbox.Message.Message}

is_some : {T : Type 0} (o : Option T) (x : T) → o ≡ Some x → IsSome o
is_some {T} o x e = subst (λ (p : Option T). IsSome p) (sym e) refl

some_below : {T : Type 0} (xs : List T) (n : ℕ) → n < length xs → IsSome (slice_get xs n)
some_below xs n l = let there = get_within xs n l in is_some (slice_get xs n) there.0 there.1

module _ (core : CoreData) (formed : Formed core) where
  method_there : (m : ℕ) (x : Method) → slice_get core.methods m ≡ Some x → MethodHasName core m
  method_there m x e =
      let fits = formed.methods m x e in
      (x, e, is_some (slice_get core.entities x.entity) fits.owner fits.is_owner, some_below core.names x.name fits.name)

  -- ---- a message that waits

  module _ (c : Configuration) (quiet : Quiet core c) (a n m : ℕ) where
    of_message : (x : Actor) → slice_get c.actors a ≡ Some x → (o : Option Message) → slice_get x.mailbox n ≡ o → (o >>= (λ m. Some m.method)) ≡ Some m → MethodHasName core m
    of_message x is None there e = absurd (none-some m e)
    of_message x is (Some sent) there e = let known = quiet a x is n sent there in subst (MethodHasName core) (same_Some sent.method m e) (method_there sent.method known.method known.is_method)

    of_actor : (o : Option Actor) → slice_get c.actors a ≡ o → (o >>= (λ x. slice_get x.mailbox n >>= (λ m. Some m.method))) ≡ Some m → MethodHasName core m
    of_actor None is e = absurd (none-some m e)
    of_actor (Some x) is e = of_message x is (slice_get x.mailbox n) refl e

    waiting_named : method_waiting c a n ≡ Some m → MethodHasName core m
    waiting_named e = of_actor (slice_get c.actors a) refl e

  -- ---- an event

  module _ (safe : Safe core) (list : List ℕ) (p i : ℕ) (ev : Event core list p i) where
    abbrev here : Configuration
    here = at_place core list p

    abbrev next : Configuration
    next = at_place core list (suc p)

    entity_named : NoneMade here next ⊎ OneMade core here next i → (a : Address) (e : ℕ) → MadeThere here next a e → IsSome (slice_get core.entities e)
    entity_named (inl none) a e made = absurd (none.1 a e made)
    entity_named (inr one) a e made =
        let of = one.of_constructor in
        let fits = formed.methods of.0 of.1 of.2 in
        subst (λ (k : ℕ). IsSome (slice_get core.entities k)) (sym ((one.only a e made).1 ∙ of.3)) (is_some (slice_get core.entities of.1.entity) fits.owner fits.is_owner)

    named : (d : Deed) → Does core list p i d → DeedHasNames core d
    named (deed.Take m sent) does = waiting_named here (safe (take p list)).quiet i 0 m does.1
    named (deed.Send r m) does = waiting_named next (safe (take (suc p) list)).quiet r _ m does.1
    named (deed.Make a m) does = waiting_named next (safe (take (suc p) list)).quiet a 0 m does.2
    named (deed.New a e) does = entity_named (subst (Effects core here next i) does.0 (effects_at core list p i ev)) a e does.1
    named (deed.Touch x) does = tt

  pub all_named : Safe core → (list : List ℕ) (events : List RunEvent) → AllEvents core list events → AllNamed core events
  all_named safe list events all k t e = let w = all.each k t e in named safe list w.0 t.actor w.2.event t.deed w.2.does
