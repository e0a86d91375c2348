-- A message that waits, before a step that does not take it and after it.
use Rattle.std.specs.Prelude.{◌≡◌, ◌≢◌, ℕ, suc, ◌+◌, Bool, true, false, ◌&&◌, cond, if◌then◌else◌, List, [], ◌∷◌, Some, nat_eq, slice_get, refl}
use Rattle.std.proofs.{Common.{inl, inr, ap, subst, ◌∙◌}, lemmas.Option.none-some, lemmas.Bool.Decides.eqb_tells}
use Rattle.pc_base.proofs.{Options.{bind_some, bind_is}, Gets.get_front}
use Rattle.pc_core.specs.CoreData.{CoreData}
use Rattle.pc_semantics.specs.{declared.actors.Actor.Actor, declared.mailbox.Message.Message, declared.outcome.Outcome.Outcome, declared.outcome.Outcome.TheVariants.Moved, Configurations.Configuration, Step.step, declared.ahead.Ahead.Ahead, Ahead.ahead_of}
use Rattle.pc_semantics.specs.declared.ahead.Ahead.TheVariants as ahead
use Rattle.pc_events.specs.{Before.{is_take, takes_one}, AheadLaws.Agrees}
use Rattle.pc_events.proofs.{Outcomes.{own_next, other_next}, Agrees.ahead_agrees, Changes.{changed, left_mail, going, acted, Change, applied, plan}, Lists.get_changed, Kept.{Still, sent_still, acted_still, spawned_still}}
use Rattle.pc_isolation.specs.Isolated.{waiting_at}

left_at : (t : Bool) (ms : List Message) (k l : ℕ) (m : Message) → k ≡ cond t (suc l) l → slice_get ms k ≡ Some m → slice_get (left_mail t ms) l ≡ Some m
left_at true [] k l m e s = absurd (none-some m s)
left_at true (y ∷ ys) k l m e s = subst (λ (z : ℕ). slice_get (y ∷ ys) z ≡ Some m) e s
left_at false ms k l m e s = subst (λ (z : ℕ). slice_get ms z ≡ Some m) e s

module _ (core : CoreData) (c : Configuration) (i : ℕ) (x : Change) (p : plan core c i ≡ Some x) (j k l : ℕ) (m : Message) (e : k ≡ l + takes_one core c i j) where
  found : (b : Actor) → Still (applied c i x).actors j b → slice_get b.mailbox l ≡ Some m → waiting_at (applied c i x) j l ≡ Some m
  found b s at =
      bind_is (slice_get (applied c i x).actors j) _ s.actor s.is ∙ ap (λ (ms : List Message). slice_get ms l) s.mail ∙ get_front b.mailbox s.more l m at

  own_found : (a : Actor) → slice_get c.actors j ≡ Some a → slice_get a.mailbox k ≡ Some m → j ≡ i → waiting_at (applied c i x) j l ≡ Some m
  own_found a is at same =
      let g : Actor → Actor = going x.takes x.frames in
      let here : slice_get (changed c.actors i g) j ≡ Some (g a) = subst (λ (n : ℕ). slice_get (changed c.actors n g) j ≡ Some (g a)) same (get_changed c.actors j g a is) in
      let count : k ≡ cond x.takes (suc l) l = own_next core c i l k x p (subst (λ (n : ℕ). k ≡ l + takes_one core c i n) same e) in
      found (g a) (spawned_still x.spawns (acted i x c.actors) j (g a) (sent_still x.sends (changed c.actors i g) j (g a) here)) (left_at x.takes a.mailbox k l m count at)

  other_found : (a : Actor) → slice_get c.actors j ≡ Some a → slice_get a.mailbox k ≡ Some m → j ≢ i → waiting_at (applied c i x) j l ≡ Some m
  other_found a is at other =
      found a (spawned_still x.spawns (acted i x c.actors) j a (acted_still i x c.actors j a other is))
      (subst (λ (n : ℕ). slice_get a.mailbox n ≡ Some m) (other_next core c i j l k other e) at)

  -- The message is further to the front by as many as were taken from its mailbox.
  pub message_kept : waiting_at c j k ≡ Some m → waiting_at (applied c i x) j l ≡ Some m
  message_kept w =
      let a = bind_some (slice_get c.actors j) _ m w in
      elim (eqb_tells j i) [
        | inl same ↦ own_found a.0 a.1 a.2 same.1
        | inr other ↦ other_found a.0 a.1 a.2 other.1
      ]

-- ---- a step that does not move takes nothing

no_take : (h : Ahead) (o : Outcome) → Agrees h o → o ≢ Moved → is_take h ≡ false
no_take ahead.Skipped o agrees n = refl
no_take ahead.Lacks o agrees n = refl
no_take ahead.TooLong o agrees n = refl
no_take ahead.Take o agrees n = absurd (n agrees)
no_take ahead.Spawn o agrees n = refl
no_take (ahead.Send a) o agrees n = refl
no_take ahead.Task o agrees n = refl

abbrev one_or_none : Bool → ℕ
one_or_none b = if b then 1 else 0

none_of : (a b : Bool) → b ≡ false → one_or_none (a && b) ≡ 0
none_of true b e = ap one_or_none e
none_of false b e = refl

pub nothing_taken : (core : CoreData) (c : Configuration) (i j : ℕ) → (step core c i).0 ≢ Moved → takes_one core c i j ≡ 0
nothing_taken core c i j n = none_of (nat_eq i j) (is_take (ahead_of core c i)) (no_take (ahead_of core c i) (step core c i).0 (ahead_agrees core c i) n)
