-- A step does at most one thing.
use Rattle.std.specs.Prelude.{◌≡◌, ◌⊎◌, ◌<◌, ℕ, zero, suc, List, Some, refl}
use Rattle.std.proofs.{Common.{inl, inr, ap, sym, subst, ◌∙◌, arith}, lemmas.Bool.Decides.leb_tells, lemmas.Option.{none-some, same_Some}}
use Rattle.pc_core.specs.CoreData.{CoreData}
use Rattle.pc_heap.specs.declared.value.Address.{Address}
use Rattle.pc_semantics.specs.{Ahead.ahead_of, Configurations.{Configuration, start}, Safety.access, declared.access.Access.Access, declared.ahead.Ahead.Ahead, declared.outcome.Outcome.TheVariants.Moved}
use Rattle.pc_semantics.specs.declared.ahead.Ahead.TheVariants as ahead
use Rattle.pc_events.specs.{Before.{at_place, Carries, Event, receiver_of, taken_before, waiting_for}, Counting.{Live, Put, total}}
use Rattle.pc_events.proofs.{Events.one_actor, Outcomes.earlier, Totals.put_below}
use Rattle.pc_run_events.specs.{Events.{Does, MadeThere, SentAt, method_waiting}, declared.events.Deed.Deed}
use Rattle.pc_run_events.specs.declared.events.Deed.TheVariants as deed
use Rattle.pc_run_events.proofs.{Access.{IsTask, access_is_task}, Effects.{Effects, NoneMade, OneMade, effects_at}}

-- ---- one event sent a message

module _ (core : CoreData) (list : List ℕ) (q : ℕ) where
  live : (p i : ℕ) → Event core list p i → Live core list p
  live p i v m l = earlier core list (start core) m p Moved v.moved l

  put_by : (p r : ℕ) → Carries core list p q → (i : ℕ) → Event core list q i → Put core list p i (taken_before core list q i)
  put_by p r c i v =
      let same : c.receiver ≡ i = one_actor core list q c.receiver i c.takes v in
      record {
        sender = c.sender;
        puts = c.puts;
        to = subst (λ (z : ℕ). receiver_of core (at_place core list p) c.sender ≡ Some z) same c.to;
        number = subst (λ (z : ℕ). taken_before core list q z ≡ total core list p z) same c.message;
      }

  not_later : (p r : ℕ) → Carries core list p q → Carries core list r q → p < r → ⊥
  not_later p r c d l =
      let one = put_by p r c d.receiver d.takes in
      let other = put_by r p d d.receiver d.takes in
      let below = put_below core list p r d.receiver (taken_before core list q d.receiver) (live r d.sender d.puts) l one in
      let number = other.number in
      omega (arith, below, number)

  one_sender : (p r : ℕ) → Carries core list p q → Carries core list r q → p ≡ r
  one_sender p r c d =
      elim (leb_tells p r) [
        | inl s ↦
            elim (leb_tells r p) [
              | inl t ↦ let a = s.1 in let b = t.1 in omega (arith, a, b)
              | inr t ↦ absurd (not_later p r c d t.1)
            ]
        | inr s ↦ absurd (not_later r p d c s.1)
      ]

  one_sent : (s t : ℕ) → SentAt core list q s → SentAt core list q t → s ≡ t
  one_sent zero zero a b = refl
  one_sent zero (suc r) a b = absurd (a r b)
  one_sent (suc p) zero a b = absurd (b p a)
  one_sent (suc p) (suc r) a b = ap suc (one_sender p r a b)

-- ---- one deed

take_send : (r : ℕ) → ahead.Take ≡ ahead.Send r → ⊥
take_send r e = cc

take_spawn : ahead.Take ≡ ahead.Spawn → ⊥
take_spawn e = cc

take_task : ahead.Take ≡ ahead.Task → ⊥
take_task e = cc

send_spawn : (r : ℕ) → ahead.Send r ≡ ahead.Spawn → ⊥
send_spawn r e = cc

send_task : (r : ℕ) → ahead.Send r ≡ ahead.Task → ⊥
send_task r e = cc

spawn_task : ahead.Spawn ≡ ahead.Task → ⊥
spawn_task e = cc

send_same : (r s : ℕ) → ahead.Send r ≡ ahead.Send s → r ≡ s
send_same r s e = cc e

both : {A B : Type 0} (make : A → B → Deed) (a c : A) (b d : B) → a ≡ c → b ≡ d → make a b ≡ make c d
both make a c b d e f = ap (λ x. make x b) e ∙ ap (make c) f

module _ (core : CoreData) (list : List ℕ) (p i : ℕ) where
  abbrev here : Configuration
  here = at_place core list p

  abbrev next : Configuration
  next = at_place core list (suc p)

  no_task : (h : Ahead) → (IsTask h → ⊥) → (x : Access) → ahead_of core here i ≡ h → Does core list p i (deed.Touch x) → ⊥
  no_task h not x is does = not (subst IsTask is (access_is_task core here i x does))

  module _ (ev : Event core list p i) where
    made : ahead_of core here i ≡ ahead.Task → NoneMade here next ⊎ OneMade core here next i
    made is = subst (Effects core here next i) is (effects_at core list p i ev)

    new_new : NoneMade here next ⊎ OneMade core here next i → (a b : Address) (e f : ℕ) → MadeThere here next a e → MadeThere here next b f → deed.New a e ≡ deed.New b f
    new_new (inl none) a b e f x y = absurd (none.1 a e x)
    new_new (inr one) a b e f x y =
        let u = one.only a e x in
        let v = one.only b f y in
        both deed.New a b e f (u.0 ∙ sym v.0) (u.1 ∙ sym v.1)

    new_touch : NoneMade here next ⊎ OneMade core here next i → (a : Address) (e : ℕ) (x : Access) → MadeThere here next a e → access core here i ≡ Some x → ⊥
    new_touch (inl none) a e x m t = none.1 a e m
    new_touch (inr one) a e x m t = none-some x (sym one.untouched ∙ t)

    pub one_deed : (d e : Deed) → Does core list p i d → Does core list p i e → d ≡ e
    one_deed (deed.Take m s) (deed.Take k t) a b = both deed.Take m k s t (same_Some m k (sym a.1 ∙ b.1)) (one_sent core list p s t a.2 b.2)
    one_deed (deed.Take m s) (deed.Send r k) a b = absurd (take_send r (sym a.0 ∙ b.0))
    one_deed (deed.Take m s) (deed.Make n k) a b = absurd (take_spawn (sym a.0 ∙ b.0))
    one_deed (deed.Take m s) (deed.New q e) a b = absurd (take_task (sym a.0 ∙ b.0))
    one_deed (deed.Take m s) (deed.Touch x) a b = absurd (no_task ahead.Take (λ z. z) x a.0 b)
    one_deed (deed.Send r m) (deed.Take k t) a b = absurd (take_send r (sym b.0 ∙ a.0))
    one_deed (deed.Send r m) (deed.Send s k) a b =
        let to : r ≡ s = send_same r s (sym a.0 ∙ b.0) in
        both deed.Send r s m k to (same_Some m k (sym a.1 ∙ ap (λ (z : ℕ). method_waiting next z (waiting_for here z)) to ∙ b.1))
    one_deed (deed.Send r m) (deed.Make n k) a b = absurd (send_spawn r (sym a.0 ∙ b.0))
    one_deed (deed.Send r m) (deed.New q e) a b = absurd (send_task r (sym a.0 ∙ b.0))
    one_deed (deed.Send r m) (deed.Touch x) a b = absurd (no_task (ahead.Send r) (λ z. z) x a.0 b)
    one_deed (deed.Make n m) (deed.Take k t) a b = absurd (take_spawn (sym b.0 ∙ a.0))
    one_deed (deed.Make n m) (deed.Send s k) a b = absurd (send_spawn s (sym b.0 ∙ a.0))
    one_deed (deed.Make n m) (deed.Make o k) a b =
        let same : n ≡ o = a.1 ∙ sym b.1 in
        both deed.Make n o m k same (same_Some m k (sym a.2 ∙ ap (λ (z : ℕ). method_waiting next z 0) same ∙ b.2))
    one_deed (deed.Make n m) (deed.New q e) a b = absurd (spawn_task (sym a.0 ∙ b.0))
    one_deed (deed.Make n m) (deed.Touch x) a b = absurd (no_task ahead.Spawn (λ z. z) x a.0 b)
    one_deed (deed.New q e) (deed.Take k t) a b = absurd (take_task (sym b.0 ∙ a.0))
    one_deed (deed.New q e) (deed.Send s k) a b = absurd (send_task s (sym b.0 ∙ a.0))
    one_deed (deed.New q e) (deed.Make o k) a b = absurd (spawn_task (sym b.0 ∙ a.0))
    one_deed (deed.New q e) (deed.New r f) a b = new_new (made a.0) q r e f a.1 b.1
    one_deed (deed.New q e) (deed.Touch x) a b = absurd (new_touch (made a.0) q e x a.1 b)
    one_deed (deed.Touch x) (deed.Take k t) a b = absurd (no_task ahead.Take (λ z. z) x b.0 a)
    one_deed (deed.Touch x) (deed.Send s k) a b = absurd (no_task (ahead.Send s) (λ z. z) x b.0 a)
    one_deed (deed.Touch x) (deed.Make o k) a b = absurd (no_task ahead.Spawn (λ z. z) x b.0 a)
    one_deed (deed.Touch x) (deed.New r f) a b = absurd (new_touch (made b.0) r f x b.1 a)
    one_deed (deed.Touch x) (deed.Touch y) a b = ap deed.Touch (same_Some x y (sym a ∙ b))
