-- The first configuration goes on alone, by a change of an actor that is marked.
use Rattle.std.specs.Prelude.{◌≡◌, ◌≢◌, ◌⊎◌, ◌<◌, ◌≤◌, ℕ, ◌+◌, Bool, cond, List, [], length, Option, Some, None, slice_get, refl}
use Rattle.std.proofs.{Common.{inl, inr, ap, sym, subst, ◌∙◌, arith}, lemmas.Bool.Decides.eqb_tells}
use Rattle.pc_base.proofs.Gets.{get_below, get_push}
use Rattle.pc_heap.specs.{Objects.class_at, Fields.field_at, declared.value.Address.Address, declared.value.Value.Value}
use Rattle.pc_semantics.specs.{declared.actors.Actor.Actor, declared.mailbox.Message.Message, declared.frames.Frame.Frame, Configurations.Configuration}
use Rattle.pc_events.proofs.{Changes.{Heaping, Same, Sets, New, going, pushing, born, spawned, Change, acted, applied}, Maps.{address_cases, Fit, NotBy, Touches, class_kept, field_kept, made_kept}, Pass.length_acted, Kept.count_grows, Like.{AddressLike, FramesLike, FoundLike}, Sim.{MailLike, mail_one, Marks, Clean, Status, Sim}, SimBoth.{own_after, received, acted_from, late_received, late_moved}}

touches_or : (z : Heaping) (q : Address) (f : ℕ) → Touches z q f ⊎ (Touches z q f → ⊥)
touches_or Same q f = inr (λ u. u)
touches_or (Sets a k v) q f =
    elim (address_cases a q) [
      | inl s ↦ elim (eqb_tells k f) [ inl t ↦ inl (s, t.1) | inr t ↦ inr (λ u. t.1 u.1) ]
      | inr s ↦ inr (λ u. s u.0)
    ]
touches_or (New a o) q f = inr (λ u. u)

module _ (marks : Marks) (front next : ℕ → ℕ) (c d : Configuration) (names : List ℕ) (i : ℕ) (x : Change) (sim : Sim marks front c d names) (fx : Fit c.objects x.heap) (marked : marks.actor i) (wrote : (a : Address) (f : ℕ) → Touches x.heap a f → marks.wrote a f)
    (sends : (p : ℕ × Message) → x.sends ≡ Some p → (b : Actor) → slice_get c.actors p.0 ≡ Some b → marks.post p.0 (front p.0 + length b.mailbox)) (spawns : (m : Message) → x.spawns ≡ Some m → marks.post (length c.actors) (next (length c.actors)))
    (others : (k : ℕ) → k ≢ i → next k ≡ front k) (by_others : (k : ℕ) → k ≢ i → k < length c.actors → NotBy x.heap k) where
  abbrev c2 : Configuration
  c2 = applied c i x

  less_grown : (k n m : ℕ) → k < n → n ≤ m → k < m
  less_grown k n m b e = omega (arith, b, e)

  fields_one : (a b : Address) → AddressLike names a b → (e : ℕ) → class_at d.objects b ≡ Some e → (f : ℕ) → FoundLike names (field_at c2.objects a f) (field_at d.objects b f) ⊎ marks.wrote a f
  fields_one a b l e is f =
      elim (touches_or x.heap a f) [
        | inl u ↦ inr (wrote a f u)
        | inr u ↦
            elim (sim.fields a b l e is f) [
              | inl k ↦ inl (subst (λ (z : Option (Option Value)). FoundLike names z (field_at d.objects b f)) (sym (field_kept c.objects x.heap fx a f e (sim.classes a b l e is) u)) k)
              | inr w ↦ inr w
            ]
      ]

  clean_moved : (k : ℕ) (a : Actor) → k ≢ i → (q : Clean marks front c d names k a) → (b : Actor) → b.frames ≡ a.frames → MailLike names (marks.post k) (front k) b.mailbox q.actor.mailbox → k < length c.actors → Clean marks next c2 d names k b
  clean_moved k a n q b e m there = record {
    other = q.other;
    actor = q.actor;
    name = q.name;
    is = q.is;
    frames = subst (λ (fs : List Frame). FramesLike names fs q.actor.frames) (sym e) q.frames;
    mail = subst (λ (z : ℕ). MailLike names (marks.post k) z b.mailbox q.actor.mailbox) (sym (others k n)) m;
    made = made_kept c.objects x.heap fx k (by_others k n there) ∙ q.made;
  }

  received_one : (o : Option (ℕ × Message)) → x.sends ≡ o → (k : ℕ) (a : Actor) → slice_get c.actors k ≡ Some a → k ≢ i → Clean marks front c d names k a → Clean marks next c2 d names k (received o k a)
  received_one None s k a is n q = clean_moved k a n q a refl q.mail (get_below c.actors k a is)
  received_one (Some p) s k a is n q =
      elim (eqb_tells k p.0) [
        | inl e ↦
            subst (λ (z : Bool). Clean marks next c2 d names k (cond z (pushing p.1 a) a)) (sym e.0) (
            clean_moved k a n q (pushing p.1 a) refl
            (mail_one names (marks.post k) (front k) a.mailbox q.actor.mailbox p.1 q.mail (subst (λ (z : ℕ). marks.post z (front z + length a.mailbox)) (sym e.1) (sends p s a (subst (λ (z : ℕ). slice_get c.actors z ≡ Some a) e.1 is))))
            (get_below c.actors k a is)
            )
        | inr e ↦ subst (λ (z : Bool). Clean marks next c2 d names k (cond z (pushing p.1 a) a)) (sym e.0) (clean_moved k a n q a refl q.mail (get_below c.actors k a is))
      ]

  is_other : (k : ℕ) (b : Actor) → k ≢ i → own_after i x k b ≡ b
  is_other k b n = elim (eqb_tells k i) [ inl t ↦ absurd (n t.1) | inr t ↦ ap (λ (s : Bool). cond s (going x.takes x.frames b) b) t.0 ]

  other_status : (k : ℕ) (a : Actor) → slice_get c.actors k ≡ Some a → k ≢ i → Status marks front c d names k a → Status marks next c2 d names k (received x.sends k a)
  other_status k a is n (inl q) = inl (received_one x.sends refl k a is n q)
  other_status k a is n (inr (inl q)) = inr (inl q)
  other_status k a is n (inr (inr q)) = inr (inr (late_received marks next c2 d names k x.sends a (late_moved marks front next c d c2 d names names k a (others k n) q)))

  old_status : (k : ℕ) (b : Actor) → slice_get (acted i x c.actors) k ≡ Some b → Status marks next c2 d names k b
  old_status k b is =
      let w = acted_from i x c.actors k b is in
      elim (eqb_tells k i) [
        | inl e ↦ inr (inl (subst marks.actor (sym e.1) marked))
        | inr e ↦ subst (Status marks next c2 d names k) (sym (w.2 ∙ ap (received x.sends k) (is_other k w.0 e.1))) (other_status k w.0 w.1 e.1 (sim.actors k w.0 w.1))
      ]

  all_status : (o : Option Message) → x.spawns ≡ o → (k : ℕ) (b : Actor) → slice_get (spawned o (acted i x c.actors)) k ≡ Some b → Status marks next c2 d names k b
  all_status None s k b is = old_status k b is
  all_status (Some m) s k b is =
      elim (get_push (acted i x c.actors) (born m) k b is) [
        | inl q ↦ old_status k b q
        | inr q ↦
            subst (Status marks next c2 d names k) q.1 (
            inr (inr (record { frames = refl; message = m; rest = []; mail = refl; marked = subst (λ (z : ℕ). marks.post z (next z)) (sym (q.0 ∙ length_acted i x c.actors)) (spawns m s) }))
            )
      ]

  pub one_goes : Sim marks next (applied c i x) d names
  one_goes = record {
    count = sim.count;
    first = sim.first;
    inject = sim.inject;
    within = λ k b e. less_grown b (length c.actors) (length c2.actors) (sim.within k b e) (count_grows x.spawns (acted i x c.actors) c.actors (length_acted i x c.actors));
    classes = λ a b l e is. class_kept c.objects x.heap fx a e (sim.classes a b l e is);
    fields = fields_one;
    actors = all_status x.spawns refl;
  }
