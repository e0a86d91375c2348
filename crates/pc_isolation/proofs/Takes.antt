-- A step that takes a message puts its arguments into the slots of the frame that begins, and changes no object.
use Rattle.std.specs.Prelude.{◌≡◌, ℕ, zero, suc, List, [], ◌∷◌, map, Option, Some, None, slice_get, refl}
use Rattle.std.proofs.{Common.{inl, inr, ap, sym, subst, ◌∙◌}, lemmas.Option.{same_Some, none-some}}
use Rattle.pc_base.proofs.{Bools.false_true, Options.bind_some, Gets.{get_front, get_map}}
use Rattle.pc_heap.specs.{declared.value.Address.Address, declared.value.Value.Value, declared.value.Value.TheVariants.{Text, At}}
use Rattle.pc_caps.specs.declared.capability.Cap.{Cap}
use Rattle.pc_core.specs.{CoreData.CoreData, declared.declarations.Method.Method}
use Rattle.pc_semantics.specs.{declared.actors.Actor.Actor, declared.mailbox.Message.Message, declared.outcome.Outcome.Outcome, declared.outcome.Outcome.TheVariants.Moved, Configurations.Configuration, Step.step, declared.ahead.Ahead.Ahead, Ahead.ahead_of}
use Rattle.pc_semantics.specs.declared.ahead.Ahead.TheVariants as ahead
use Rattle.pc_events.specs.{Before.is_take, AheadLaws.Agrees}
use Rattle.pc_events.proofs.{Outcomes.takes_is, SimEvent.task_takes, Agrees.ahead_agrees, Changes.{Change, applied, plan_print, plan_begun, plan_begin, plan_message, plan}, Lists.get_changed, Plans.{Running, Taking, view, plans, step_is}}
use Rattle.pc_isolation.specs.{Isolated.Waits, Passed.{HandedOver, TakenWhole}}

text_at : (t : List ℕ) (n : ℕ) (a : Address) → slice_get (Text t ∷ []) n ≡ Some (At a) → ⊥
text_at t zero a e = cc
text_at t (suc n) a e = none-some (At a) e

module _ (core : CoreData) (c : Configuration) (j n : ℕ) (a : Address) (actor : Actor) (is : slice_get c.actors j ≡ Some actor) where
  print_handed : (vs : List Value) (x : Change) → plan_print vs ≡ Some x → slice_get vs n ≡ Some (At a) → HandedOver core c (applied c j x) j n a
  print_handed (Text t ∷ []) x p at = absurd (text_at t n a at)
  print_handed vs x p at = absurd (none-some x p)

  begun_handed : (k : ℕ) (m : Message) (y : Method) (b : Option ℕ) (x : Change) → plan_begun k m y b ≡ Some x → slice_get m.arguments n ≡ Some (At a) → HandedOver core c (applied c j x) j n a
  begun_handed k m y None x p at = absurd (none-some x p)
  begun_handed k m y (Some body) x p at =
      subst (λ (z : Change). HandedOver core c (applied c j z) j n a) (same_Some _ x p) (record {
        objects = refl;
        actor = _;
        is_actor = get_changed c.actors j _ actor is;
        frame = _;
        begins = refl;
        slot = get_front (map Some m.arguments) _ n (Some (At a)) (get_map Some m.arguments n (At a) at);
      })

  begin_handed : (k : ℕ) (m : Message) (o : Option Method) (x : Change) → plan_begin k m o ≡ Some x → slice_get m.arguments n ≡ Some (At a) → HandedOver core c (applied c j x) j n a
  begin_handed k m None x p at = absurd (none-some x p)
  begin_handed k m (Some y) x p at = begun_handed k m y y.body x p at

  message_handed : (k : ℕ) (m : Message) (x : Change) → plan_message core k m ≡ Some x → slice_get m.arguments n ≡ Some (At a) → HandedOver core c (applied c j x) j n a
  message_handed zero m x p at = print_handed m.arguments x p at
  message_handed (suc k) m x p at = begin_handed (suc k) m (slice_get core.methods m.method) x p at

-- ---- the step

module _ (core : CoreData) (c : Configuration) (j n : ℕ) (q : Cap) (a : Address) (takes : ahead_of core c j ≡ ahead.Take) (w : Waits core c j 0 n q a) where
  running : (x : Change) → plan core c j ≡ Some x → Running core c j x → ⊥
  running x p r = false_true (sym (task_takes _ r.below _ x r.plans) ∙ sym (takes_is core c j x p) ∙ ap is_take takes)

  -- The first message that waits is the one that is taken.
  first_is : (x : Change) (t : Taking core c j x) → w.message ≡ t.message
  first_is x t =
      let b = bind_some (slice_get c.actors j) _ w.message w.waits in
      let same : b.0 ≡ t.actor = same_Some b.0 t.actor (sym b.1 ∙ t.is) in
      same_Some w.message t.message (sym b.2 ∙ ap (λ (z : Actor). slice_get z.mailbox 0) same ∙ ap (λ (ms : List Message). slice_get ms 0) t.mail)

  change_hands : (x : Change) → plan core c j ≡ Some x → HandedOver core c (applied c j x) j n a
  change_hands x p =
      elim (view core c j x p) [
        | inl r ↦ absurd (running x p r)
        | inr t ↦ message_handed core c j n a t.actor t.is j t.message x t.plans (subst (λ (m : Message). slice_get m.arguments n ≡ Some (At a)) (first_is x t) w.argument)
      ]

  pub handed_over : HandedOver core c (step core c j).1 j n a
  handed_over =
      let moved : (step core c j).0 ≡ Moved = subst (λ (h : Ahead). Agrees h (step core c j).0) takes (ahead_agrees core c j) in
      let x = plans core c j moved in
      subst (λ (r : Outcome × Configuration). HandedOver core c r.1 j n a) (sym (step_is core c j x.0 x.1)) (change_hands x.0 x.1)

pub taken_whole : (core : CoreData) (c : Configuration) → TakenWhole core c
taken_whole core c j n q a takes w = handed_over core c j n q a takes w
