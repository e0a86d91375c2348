-- A move that preserves what it has to leaves a configuration that has regions.
use Rattle.std.specs.{Prelude.{◌≡◌, ◌≢◌, ◌⊎◌, ℕ, suc, ◌+◌, ◌<◌, Bool, List, [], ◌∷◌, ◌++◌, length, Option, Some, None, slice_get, slice_set, refl}, FinMap.insert}
use Rattle.std.proofs.{Common.{inl, inr, ap, sym, subst, ◌∙◌, arith, length-set, length-append, cond}, lemmas.Bool.{ne_eqb, eq-eqb, cases_eq}, lemmas.Option.{none-some, same_Some}}
use Rattle.pc_heap.specs.{Objects.{ObjectMap, with_value, Object}, declared.value.Value.TheVariants.At}
use Rattle.pc_base.proofs.Gets.{get_within, get_below, get_push, get_set, get_set_same, get_set_other}
use Rattle.pc_core.specs.CoreData.{CoreData}
use Rattle.pc_ann.specs.declared.annotation.Ann.{Ann}
use Rattle.pc_semantics.specs.{declared.actors.Actor.Actor, declared.frames.Frame.Frame, declared.mailbox.Message.Message, Configurations.{Configuration, with_actor, with_frames, own_address, Move, Stuck, Overflows, Goes, Writes, Makes, Spawns, Enters, Sends, Leaves}, Parts.{with_objects, delivered}, Step.{around, left, made}}
use Rattle.pc_caps.specs.declared.capability.Form.TheVariants as form
use Rattle.pc_regions.proofs.{World.{InMail, World, WorldOk}, Fitting.{FramesFit, MessageFits, MailFits, ActorFits, InRegions, StaysFrozen, LeadsOn}, MoveFits.{one_more, Others, Turned, RegionMoveOk}, OthersKept.{frames_kept, mail_kept, mail_more}}

-- What is at a place after a write: what was written, there, or what was at another place.
pub set_cases : {T : Type 0} → (xs : List T) (i : ℕ) (y : T) (j : ℕ) (x : T) → slice_get (slice_set xs i y) j ≡ Some x → ((j ≡ i) × (x ≡ y)) ⊎ ((j ≢ i) × (slice_get xs j ≡ Some x))
set_cases {T = T} xs i y j x e =
    elim (cases_eq j i) [
      | inl at ↦ elim (get_set xs i y j x e) [
        | inl p ↦ inl p
        | inr old ↦ let l = get_below xs j x old in
            let new : slice_get (slice_set xs i y) i ≡ Some y = get_set_same xs i y (subst (λ (k : ℕ). k < length xs) at l) in
            inl (at, same_Some x y (sym e ∙ ap (slice_get (slice_set xs i y)) at ∙ new))
      ]
      | inr other ↦ inr (other, sym (get_set_other xs i y j other) ∙ e)
    ]

none_more : (n m k : ℕ) → n ≡ m + k → k ≡ 0 → n ≡ m
none_more n m k e z = omega (arith, e, z)

one_on : (n m k : ℕ) → n ≡ m + k → k ≡ 1 → n ≡ suc m
one_on n m k e z = omega (arith, e, z)

module _ (core : CoreData) (ann : Ann) (c : Configuration) (i : ℕ) (a : Actor) (is : slice_get c.actors i ≡ Some a) (w : World) (g : InRegions core ann w c) where
  -- Actor i with these frames.
  abbrev gone_on : List Frame → Actor
  gone_on fs = record { mailbox = a.mailbox; frames = fs }

  module _ (w' : World) (to : Option ℕ) (o : Others w w' i (length c.actors) to) where
    -- What each actor has when actor i has gone on: messages that fitted, and frames that fit.
    gone : (fs : List Frame) → FramesFit core ann w' i fs → (j : ℕ) (b : Actor) → slice_get (slice_set c.actors i (gone_on fs)) j ≡ Some b → ((t : ℕ) × MailFits core w j t b.mailbox) × FramesFit core ann w' j b.frames
    gone fs k j b e =
        elim (set_cases c.actors i (gone_on fs) j b e) [
          | inl p ↦ subst (λ (n : ℕ). ((t : ℕ) × MailFits core w n t b.mailbox) × FramesFit core ann w' n b.frames) (sym p.0)
              (subst (λ (x : Actor). ((t : ℕ) × MailFits core w i t x.mailbox) × FramesFit core ann w' i x.frames) (sym p.1) ((g.actors i a is).0, k))
          | inr q ↦ let old = g.actors j b q.1 in
              (old.0, frames_kept core ann w w' i (length c.actors) to o j (get_below c.actors j b q.1) (λ same. q.0 (sym same)) b.frames old.1)
        ]

    kept_mail : (fs : List Frame) → FramesFit core ann w' i fs → (j : ℕ) (b : Actor) → slice_get (slice_set c.actors i (gone_on fs)) j ≡ Some b → one_more to j ≡ 0 → ActorFits core ann w' j b
    kept_mail fs k j b e none =
        let old = gone fs k j b e in
        let l : j < length c.actors = subst (λ (n : ℕ). j < n) (length-set c.actors i (gone_on fs)) (get_below (slice_set c.actors i (gone_on fs)) j b e) in
        ((old.0.0, mail_kept core ann w w' i (length c.actors) to o j old.0.0 b.mailbox (none_more (w'.sent j) (w.sent j) (one_more to j) (o.sent j l) none) old.0.1), old.1)

    -- With one message more.
    sent_mail : (fs : List Frame) → FramesFit core ann w' i fs → (j : ℕ) (b : Actor) (m : Message) → slice_get (slice_set c.actors i (gone_on fs)) j ≡ Some b → one_more to j ≡ 1 → MessageFits core w' j (w.sent j) m → ActorFits core ann w' j (record { mailbox = b.mailbox ++ m ∷ []; frames = b.frames })
    sent_mail fs k j b m e one new =
        let old = gone fs k j b e in
        let l : j < length c.actors = subst (λ (n : ℕ). j < n) (length-set c.actors i (gone_on fs)) (get_below (slice_set c.actors i (gone_on fs)) j b e) in
        ((old.0.0, mail_more core ann w w' i (length c.actors) to o j old.0.0 b.mailbox m (one_on (w'.sent j) (w.sent j) (one_more to j) (o.sent j l) one) new old.0.1), old.1)

  -- Actor i goes on.
  goes_on : (w' : World) (objects : ObjectMap) (fs : List Frame) → Turned core ann w w' i (length c.actors) None objects (length c.actors) fs → InRegions core ann w' (with_frames (with_objects c objects) i a fs)
  goes_on w' objects fs t = record {
    world = subst (WorldOk w' objects) (sym (length-set c.actors i (gone_on fs))) t.world;
    fields = t.fields;
    actors = λ j b e. kept_mail w' None t.others fs t.frames j b e refl;
  }

  -- A message is delivered.
  arrives : (w' : World) (fs : List Frame) (j : ℕ) (m : Message) (p : Option Actor) → slice_get (slice_set c.actors i (gone_on fs)) j ≡ p → Turned core ann w w' i (length c.actors) (Some j) c.objects (length c.actors) fs → MessageFits core w' j (w.sent j) m → (b : Actor) → p ≡ Some b
      → InRegions core ann w' (with_actor (with_frames c i a fs) j (record { mailbox = b.mailbox ++ m ∷ []; frames = b.frames }))
  arrives w' fs j m p at t new b some = record {
    world = subst (WorldOk w' c.objects) (sym (length-set (slice_set c.actors i (gone_on fs)) j (record { mailbox = b.mailbox ++ m ∷ []; frames = b.frames }) ∙ length-set c.actors i (gone_on fs))) t.world;
    fields = t.fields;
    actors = λ k x e.
        elim (set_cases (slice_set c.actors i (gone_on fs)) j (record { mailbox = b.mailbox ++ m ∷ []; frames = b.frames }) k x e) [
          | inl q ↦ subst (λ (n : ℕ). ActorFits core ann w' n x) (sym q.0)
              (subst (ActorFits core ann w' j) (sym q.1) (sent_mail w' (Some j) t.others fs t.frames j b m (at ∙ some) (ap (λ (y : Bool). cond y 1 0) (eq-eqb j j refl)) new))
          | inr q ↦ kept_mail w' (Some j) t.others fs t.frames k x q.1 (ap (λ (y : Bool). cond y 1 0) (ne_eqb j k (λ same. q.0 (sym same))))
        ];
  }

  delivers : (w' : World) (fs : List Frame) (j : ℕ) (m : Message) (p : Option Actor) → slice_get (slice_set c.actors i (gone_on fs)) j ≡ p → j < length c.actors → Turned core ann w w' i (length c.actors) (Some j) c.objects (length c.actors) fs → MessageFits core w' j (w.sent j) m
      → InRegions core ann w' (delivered c (with_frames c i a fs) j m p).1
  delivers w' fs j m None at l t new =
      let b = get_within (slice_set c.actors i (gone_on fs)) j (subst (λ (n : ℕ). j < n) (sym (length-set c.actors i (gone_on fs))) l) in
      absurd (none-some b.0 (sym at ∙ b.1))
  delivers w' fs j m (Some b) at l t new = arrives w' fs j m (Some b) at t new b refl

  -- An actor is made.
  comes : (w' : World) (n : ℕ) (o : Object) (m : Message) (fs : List Frame) → n ≡ length c.actors → Turned core ann w w' i (length c.actors) None (insert c.objects (own_address n) o) (n + 1) fs → MessageFits core w' n 0 m → w'.sent n ≡ 1 → w'.top n ≡ 0
      → InRegions core ann w' (record { objects = insert c.objects (own_address n) o; actors = slice_set c.actors i (gone_on fs) ++ record { mailbox = m ∷ []; frames = [] } ∷ []; printed = c.printed })
  comes w' n o m fs at t new one zero_top =
      let born : Actor = record { mailbox = m ∷ []; frames = [] } in
      let set : length (slice_set c.actors i (gone_on fs)) ≡ n = length-set c.actors i (gone_on fs) ∙ sym at in
      record {
        world = subst (WorldOk w' (insert c.objects (own_address n) o)) (sym (length-append (slice_set c.actors i (gone_on fs)) (born ∷ []) ∙ ap (λ (k : ℕ). k + 1) set)) t.world;
        fields = t.fields;
        actors = λ j b e.
            elim (get_push (slice_set c.actors i (gone_on fs)) born j b e) [
              | inl p ↦ kept_mail w' None t.others fs t.frames j b p refl
              | inr p ↦ subst (λ (x : Actor). ActorFits core ann w' j x) p.1 (subst (λ (k : ℕ). ActorFits core ann w' k born) (sym (p.0 ∙ set)) ((0, (new, sym one)), zero_top))
            ];
      }

  -- What is frozen would fit a waiting `val` argument, and what fits one still does.
  stays_frozen : (w' : World) (to : Option ℕ) → Others w w' i (length c.actors) to → StaysFrozen w w'
  stays_frozen w' to o b f = o.fits (InMail 0 0 0) form.Val (At b) refl refl f

  pub made_regions : (fs : List Frame) (m : Move) → RegionMoveOk core ann w (around c i) fs m → LeadsOn core ann w (made c i a fs m).1
  made_regions fs (Stuck l) k = (w, g, λ b f. f)
  made_regions fs Overflows k = (w, g, λ b f. f)
  made_regions fs (Goes f) k = (k.0, goes_on k.0 c.objects (f ∷ fs) k.1, stays_frozen k.0 None k.1.others)
  made_regions fs (Writes at n v f) k = (k.0, goes_on k.0 (with_value c.objects at n v) (f ∷ fs) k.1, stays_frozen k.0 None k.1.others)
  made_regions fs (Makes at o h f) k = (k.0, goes_on k.0 (insert c.objects at o) (h ∷ f ∷ fs) k.1, stays_frozen k.0 None k.1.others)
  made_regions fs (Spawns o m f) k =
      let n : ℕ = length (slice_set c.actors i (gone_on (f ∷ fs))) in
      let at : n ≡ length c.actors = length-set c.actors i (gone_on (f ∷ fs)) in (
        k.0,
        comes k.0 n o m (f ∷ fs) at
            (subst (λ (q : ℕ). Turned core ann w k.0 i (length c.actors) None (insert c.objects (own_address q) o) (q + 1) (f ∷ fs)) (sym at) k.1)
            (subst (λ (q : ℕ). MessageFits core k.0 q 0 m) (sym at) k.2) (ap k.0.sent at ∙ k.3) (ap k.0.top at ∙ k.4),
        stays_frozen k.0 None k.1.others,
      )
  made_regions fs (Enters h f) k = (k.0, goes_on k.0 c.objects (h ∷ f ∷ fs) k.1, stays_frozen k.0 None k.1.others)
  made_regions fs (Sends j m f) k = (k.1, delivers k.1 (f ∷ fs) j m (slice_get (slice_set c.actors i (gone_on (f ∷ fs))) j) refl k.0 k.2 k.3, stays_frozen k.1 (Some j) k.2.others)
  made_regions fs (Leaves v) k = (k.0, goes_on k.0 c.objects (left v fs) k.1, stays_frozen k.0 None k.1.others)
