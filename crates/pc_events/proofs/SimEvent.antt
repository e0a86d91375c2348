-- An actor that is like another: its next step is the other's too, or it is marked from now on.
use Rattle.std.specs.Prelude.{◌≡◌, ◌≢◌, ◌⊎◌, ◌<◌, ℕ, zero, suc, Bool, true, false, cond, List, [], ◌∷◌, ◌++◌, length, Option, Some, None, slice_get, refl, ⊤}
use Rattle.std.proofs.{Common.{inl, inr, ap, sym, subst, ◌∙◌, arith}, lemmas.Option.{same_Some, none-some}}
use Rattle.pc_base.proofs.Gets.{get_behind}
use Rattle.pc_heap.specs.{Objects.{ObjectMap, class_at, Object}, Parts.object_in, Fields.field_at, declared.value.Address.Address, declared.value.Value.Value, declared.value.Value.TheVariants.{Num, Truth, Text, Prim, At}}
use Rattle.pc_base.specs.Lists.{◌>>=◌}
use Rattle.pc_core.specs.{CoreData.{field_named, CoreData}, declared.declarations.Method.Method}
use Rattle.pc_semantics.specs.{declared.access.Access.Access, declared.actors.Actor.Actor, declared.frames.Frame.Frame, declared.frames.Task.Task, declared.mailbox.Message.Message, declared.outcome.Lack.Lack, declared.outcome.Outcome.Outcome, declared.outcome.Outcome.TheVariants.Lacks, Configurations.{Configuration, own_address, Move, Stuck, Overflows, Goes, Writes, Makes, Spawns, Enters, Sends, Leaves, first_frame}, Step.{task_move, left, made, run_frames, step}, Parts.{run_task, step_of}, Safety.{touched_name, access, LacksNothing}}
use Rattle.pc_events.proofs.{Changes.{Heaping, Same, Sets, New, Change, left_mail, planned, plan_print, plan_begun, plan_begin, plan_message, plan_first, plan_tasks, plan_frames, plan_actor, plan}, Right.{touch, touch_by}, Stable.NotStuck, Plans.{Running, Taking, view}, Told.{HeapTold, Told, told, access_is}, Kept.touched_there, Like.{AddressLike, Like, SlotLike, Likes, FrameLike, FramesLike, MessageLike, ObjectLike, FoundLike, MoveLike, address_more, like_more, slots_more, frames_more, message_more}, LikeBasic.pushed_like, LikeTasks.{AroundLike, moves_like, first_frame_like}, Sim.{MailLike, mail_weaker, Marks, Clean, Sim, first_address}, SimHeaps.HeapLike, SimBoth.{SendsLike, NoBirth, Birth, ChangeLike}}

-- ---- what is touched

-- What the second touches, the first touches at its address.
touch_by_like : (core : CoreData) (names : List ℕ) (h g : ObjectMap) → ((a b : Address) → AddressLike names a b → (e : ℕ) → class_at g b ≡ Some e → class_at h a ≡ Some e) → (n : ℕ × Bool) (v w : Value) → Like names v w → (x : Access) → touch_by core g n (Some w) ≡ Some x
    → (a : Address) → AddressLike names a x.address → touch_by core h n (Some v) ≡ Some (record { address = a; field = x.field; write = x.write })
touch_by_like core names h g classes n (Num k) w l x e a m = absurd (none-some x (sym (ap (λ (z : Value). touch_by core g n (Some z)) l) ∙ e))
touch_by_like core names h g classes n (Truth k) w l x e a m = absurd (none-some x (sym (ap (λ (z : Value). touch_by core g n (Some z)) l) ∙ e))
touch_by_like core names h g classes n (Text k) w l x e a m = absurd (none-some x (sym (ap (λ (z : Value). touch_by core g n (Some z)) l) ∙ e))
touch_by_like core names h g classes n (Prim k) w l x e a m = absurd (none-some x (sym (ap (λ (z : Value). touch_by core g n (Some z)) l) ∙ e))
touch_by_like core names h g classes n (At p) (Num k) l x e a m = absurd l
touch_by_like core names h g classes n (At p) (Truth k) l x e a m = absurd l
touch_by_like core names h g classes n (At p) (Text k) l x e a m = absurd l
touch_by_like core names h g classes n (At p) (Prim k) l x e a m = absurd l
touch_by_like core names h g classes n (At p) (At q) l x e a m = entity (class_at g q) refl e
  where
    field : (c : ℕ) → class_at h p ≡ Some c → (o : Option ℕ) → field_named core c n.0 ≡ o → (o >>= (λ i. Some (record { address = q; field = i; write = n.1 }))) ≡ Some x → touch_by core h n (Some (At p)) ≡ Some (record { address = a; field = x.field; write = x.write })
    field c s None r t = absurd (none-some x t)
    field c s (Some i) r t =
        let u : record { address = q; field = i; write = n.1 } ≡ x = same_Some _ x t in
        let z : a ≡ p = first_address names a p q (subst (λ (y : Access). AddressLike names a y.address) (sym u) m) l in
        ap (λ (o : Option ℕ). o >>= (λ e. field_named core e n.0 >>= (λ i. Some (record { address = p; field = i; write = n.1 })))) s
        ∙ ap (λ (o : Option ℕ). o >>= (λ i. Some (record { address = p; field = i; write = n.1 }))) r
        ∙ ap (λ (y : Address). Some (record { address = y; field = i; write = n.1 })) (sym z)
        ∙ ap (λ (y : Access). Some (record { address = a; field = y.field; write = y.write })) u

    entity : (o : Option ℕ) → class_at g q ≡ o → (o >>= (λ e. field_named core e n.0 >>= (λ i. Some (record { address = q; field = i; write = n.1 })))) ≡ Some x → touch_by core h n (Some (At p)) ≡ Some (record { address = a; field = x.field; write = x.write })
    entity None s t = absurd (none-some x t)
    entity (Some c) s t = field c (classes p q l c s) (field_named core c n.0) refl t

touch_top_like : (core : CoreData) (names : List ℕ) (h g : ObjectMap) → ((a b : Address) → AddressLike names a b → (e : ℕ) → class_at g b ≡ Some e → class_at h a ≡ Some e) → (o : Option (ℕ × Bool)) (vs ws : List Value) → Likes names vs ws → (x : Access) → (o >>= (λ n. touch_by core g n (slice_get ws 0))) ≡ Some x
    → (a : Address) → AddressLike names a x.address → (o >>= (λ n. touch_by core h n (slice_get vs 0))) ≡ Some (record { address = a; field = x.field; write = x.write })
touch_top_like core names h g classes None vs ws l x e a m = absurd (none-some x e)
touch_top_like core names h g classes (Some n) [] [] l x e a m = absurd (none-some x e)
touch_top_like core names h g classes (Some n) [] (w ∷ ws) l x e a m = absurd l
touch_top_like core names h g classes (Some n) (v ∷ vs) [] l x e a m = absurd l
touch_top_like core names h g classes (Some n) (v ∷ vs) (w ∷ ws) l x e a m = touch_by_like core names h g classes n v w l.0 x e a m

pub touch_like : (core : CoreData) (names : List ℕ) (h g : ObjectMap) → ((a b : Address) → AddressLike names a b → (e : ℕ) → class_at g b ≡ Some e → class_at h a ≡ Some e) → (t : Task) (vs ws : List Value) → Likes names vs ws → (x : Access) → touch core g ws t ≡ Some x
    → (a : Address) → AddressLike names a x.address → touch core h vs t ≡ Some (record { address = a; field = x.field; write = x.write })
touch_like core names h g classes t vs ws l x e a m = touch_top_like core names h g classes (touched_name core t) vs ws l x e a m

-- ---- like plans

-- Like changes, if nothing is said about the objects that exist.
abbrev HeapAlike : List ℕ → Heaping → Heaping → Type 0
HeapAlike names Same Same = ⊤
HeapAlike names (Sets a k v) (Sets b l w) = AddressLike names a b × (k ≡ l) × Like names v w
HeapAlike names (New a o) (New b p) = AddressLike names a b × ObjectLike names o p
HeapAlike names x y = ⊥

pub record Alike (names : List ℕ) (c d : Configuration) (x y : Change) (more : List ℕ) : Type 0 where
  pub frames : FramesLike (names ++ more) x.frames y.frames
  pub heap : HeapAlike (names ++ more) x.heap y.heap
  pub sends : SendsLike names x.sends y.sends
  pub births : NoBirth x y more ⊎ Birth (names ++ more) (length c.actors) x y more
  pub takes : x.takes ≡ y.takes

heap_told : (core : CoreData) (names : List ℕ) (c d : Configuration) (i j : ℕ) (s t : Option Message) (x y : Heaping) → HeapTold core c i s x → HeapTold core d j t y → HeapAlike names x y → HeapLike names c.objects d.objects x y
heap_told core names c d i j s t Same Same p q l = tt
heap_told core names c d i j s t Same (Sets b k w) p q l = absurd l
heap_told core names c d i j s t Same (New b o) p q l = absurd l
heap_told core names c d i j s t (Sets a k v) Same p q l = absurd l
heap_told core names c d i j s t (Sets a k v) (Sets b m w) p q l =
    (l.0, l.1, l.2, subst (λ (z : Option Object). k < length (object_in z).fields) (sym p.1) p.3, subst (λ (z : Option Object). m < length (object_in z).fields) (sym q.1) q.3)
heap_told core names c d i j s t (Sets a k v) (New b o) p q l = absurd l
heap_told core names c d i j s t (New a o) Same p q l = absurd l
heap_told core names c d i j s t (New a o) (Sets b k w) p q l = absurd l
heap_told core names c d i j s t (New a o) (New b r) p q l = l

told_alike : (core : CoreData) (names : List ℕ) (c d : Configuration) (i j : ℕ) (x y : Change) (more : List ℕ) → Told core c i x → Told core d j y → Alike names c d x y more → ChangeLike names c d x y more
told_alike core names c d i j x y more p q l = record { frames = l.frames; heap = heap_told core (names ++ more) c d i j x.spawns y.spawns x.heap y.heap p.heap q.heap l.heap; sends = l.sends; births = l.births }

module _ (names : List ℕ) (c d : Configuration) (count : length d.actors ≡ length names) where
  abbrev PlanLike : Option Change → Change → Type 0
  PlanLike o x = (y : Change) × (more : List ℕ) × (o ≡ Some y) × Alike names c d x y more

  no_more : (x y : Change) → FramesLike names x.frames y.frames → HeapAlike (names ++ []) x.heap y.heap → SendsLike names x.sends y.sends → x.spawns ≡ None → y.spawns ≡ None → x.takes ≡ y.takes → PlanLike (Some y) x
  no_more x y fs h s e f t = (y, [], refl, record { frames = frames_more names [] x.frames y.frames fs; heap = h; sends = s; births = inl (record { one = e; two = f; added = refl }); takes = t })

  object_more : (more : List ℕ) (o p : Object) → ObjectLike names o p → ObjectLike (names ++ more) o p
  object_more more o p l = record { entity = l.entity; fields = slots_more names more o.fields p.fields l.fields }

  left_like : (o p : Option Value) (fs gs : List Frame) → SlotLike names o p → FramesLike names fs gs → FramesLike names (left o fs) (left p gs)
  left_like None None fs gs l k = k
  left_like None (Some w) fs gs l k = absurd l
  left_like (Some v) None fs gs l k = absurd l
  left_like (Some v) (Some w) [] [] l k = k
  left_like (Some v) (Some w) [] (g ∷ gs) l k = absurd k
  left_like (Some v) (Some w) (f ∷ fs) [] l k = absurd k
  left_like (Some v) (Some w) (f ∷ fs) (g ∷ gs) l k = (pushed_like names 0 f g v w k.0 l, k.1)

  plans_like : (fs gs : List Frame) → FramesLike names fs gs → (m k : Move) → MoveLike names (length c.actors) m k → NotStuck k → (x : Change) → planned (length c.actors) fs m ≡ Some x → PlanLike (planned (length d.actors) gs k) x
  plans_like fs gs q (Stuck l) k e free x p = absurd (none-some x p)
  plans_like fs gs q Overflows k e free x p = absurd (none-some x p)
  plans_like fs gs q m (Stuck l) e free x p = absurd free
  plans_like fs gs q (Goes f) (Goes g) e free x p = subst (PlanLike _) (same_Some _ x p) (no_more _ _ (e, q) tt tt refl refl refl)
  plans_like fs gs q (Writes a k v f) (Writes b l w g) e free x p =
      subst (PlanLike _) (same_Some _ x p) (no_more _ _ (e.3, q) (address_more names [] a b e.0, e.1, like_more names [] v w e.2) tt refl refl refl)
  plans_like fs gs q (Makes a o f h) (Makes b r g k) e free x p =
      subst (PlanLike _) (same_Some _ x p) (no_more _ _ (e.2, (e.3, q)) (address_more names [] a b e.0, object_more [] o r e.1) tt refl refl refl)
  plans_like fs gs q (Spawns o m f) (Spawns r k g) e free x p =
      subst (PlanLike _) (same_Some _ x p) (
        _,
        length c.actors ∷ [],
        refl,
        record {
          frames = (e.2, frames_more names (length c.actors ∷ []) fs gs q);
          heap = (record { maker = ap (slice_get (names ++ length c.actors ∷ [])) count ∙ get_behind names (length c.actors) []; serial = refl }, object_more (length c.actors ∷ []) o r e.0);
          sends = tt;
          births = inr (record { first = m; second = k; one = refl; two = refl; added = refl; like = message_more names (length c.actors ∷ []) m k e.1 });
          takes = refl;
        },
      )
  plans_like fs gs q (Enters f h) (Enters g k) e free x p = subst (PlanLike _) (same_Some _ x p) (no_more _ _ (e.0, (e.1, q)) tt tt refl refl refl)
  plans_like fs gs q (Sends i m f) (Sends j k g) e free x p = subst (PlanLike _) (same_Some _ x p) (no_more _ _ (e.2, q) tt (e.0, e.1) refl refl refl)
  plans_like fs gs q (Leaves o) (Leaves r) e free x p = subst (PlanLike _) (same_Some _ x p) (no_more _ _ (left_like o r fs gs e q) tt tt refl refl refl)
  plans_like fs gs q m k e free x p = absurd e

  -- ---- messages

  prints_like : (vs ws : List Value) → Likes names vs ws → (x : Change) → plan_print vs ≡ Some x → PlanLike (plan_print ws) x
  prints_like (Text t ∷ []) [] l x p = absurd l
  prints_like (Text t ∷ []) (w ∷ []) l x p = subst (λ (z : Value). PlanLike (plan_print (z ∷ [])) x) (sym l.0) (subst (PlanLike _) (same_Some _ x p) (no_more _ _ tt tt tt refl refl refl))
  prints_like (Text t ∷ []) (w ∷ u ∷ ws) l x p = absurd l.1
  prints_like vs ws l x p = absurd (none-some x p)

  module _ (core : CoreData) (i j : ℕ) (name : slice_get names j ≡ Some i) (m k : Message) (like : MessageLike names m k) where
    begun_like : (x : Method) (b : Option ℕ) (y : Change) → plan_begun i m x b ≡ Some y → PlanLike (plan_begun j k x b) y
    begun_like x None y p = absurd (none-some y p)
    begun_like x (Some b) y p =
        subst (PlanLike _) (same_Some _ y p) (
        no_more _ _ (
          subst (λ (z : ℕ). FrameLike names (first_frame m.method x (At (own_address i)) m.arguments b) (first_frame z x (At (own_address j)) k.arguments b)) like.method
              (first_frame_like core names c.objects d.objects i j 0 0 m.method x (At (own_address i)) (At (own_address j)) m.arguments k.arguments b (record { maker = name; serial = refl }) like.arguments),
          tt,
        )
        tt tt refl refl refl
        )

    begin_like : (o : Option Method) (y : Change) → plan_begin i m o ≡ Some y → PlanLike (plan_begin j k o) y
    begin_like None y p = absurd (none-some y p)
    begin_like (Some x) y p = begun_like x x.body y p

  messages_like : (core : CoreData) → ((j a : ℕ) → slice_get names j ≡ Some a → (a ≡ 0 → j ≡ 0) × (j ≡ 0 → a ≡ 0)) → ((j k a : ℕ) → slice_get names j ≡ Some a → slice_get names k ≡ Some a → j ≡ k) → (i j : ℕ) → slice_get names j ≡ Some i → (m k : Message) → MessageLike names m k → (x : Change) → plan_message core i m ≡ Some x → PlanLike (plan_message core j k) x
  messages_like core z inject zero zero n m k l x p = prints_like m.arguments k.arguments l.arguments x p
  messages_like core z inject zero (suc j) n m k l x p = let e : suc j ≡ 0 = (z (suc j) 0 n).0 refl in absurd (omega (arith, e))
  messages_like core z inject (suc i) zero n m k l x p = let e : suc i ≡ 0 = (z 0 (suc i) n).1 refl in absurd (omega (arith, e))
  messages_like core z inject (suc i) (suc j) n m k l x p =
      subst (λ (q : ℕ). PlanLike (plan_begin (suc j) k (slice_get core.methods q)) x) l.method (begin_like core (suc i) (suc j) n m k l (slice_get core.methods m.method) x p)

-- ---- a step of an actor that is like another

pub print_takes : (vs : List Value) (x : Change) → plan_print vs ≡ Some x → x.takes ≡ true
print_takes (Text t ∷ []) x p = ap (λ (z : Change). z.takes) (sym (same_Some _ x p))
print_takes vs x p = absurd (none-some x p)

begun_takes : (i : ℕ) (m : Message) (k : Method) (b : Option ℕ) (x : Change) → plan_begun i m k b ≡ Some x → x.takes ≡ true
begun_takes i m k None x p = absurd (none-some x p)
begun_takes i m k (Some b) x p = ap (λ (z : Change). z.takes) (sym (same_Some _ x p))

begin_takes : (i : ℕ) (m : Message) (o : Option Method) (x : Change) → plan_begin i m o ≡ Some x → x.takes ≡ true
begin_takes i m None x p = absurd (none-some x p)
begin_takes i m (Some k) x p = begun_takes i m k k.body x p

pub message_takes : (core : CoreData) (i : ℕ) (m : Message) (x : Change) → plan_message core i m ≡ Some x → x.takes ≡ true
message_takes core zero m x p = print_takes m.arguments x p
message_takes core (suc i) m x p = begin_takes (suc i) m (slice_get core.methods m.method) x p

pub task_takes : (n : ℕ) (fs : List Frame) (m : Move) (x : Change) → planned n fs m ≡ Some x → x.takes ≡ false
task_takes n fs (Stuck l) x p = absurd (none-some x p)
task_takes n fs Overflows x p = absurd (none-some x p)
task_takes n fs (Goes f) x p = ap (λ (z : Change). z.takes) (sym (same_Some _ x p))
task_takes n fs (Writes a k v f) x p = ap (λ (z : Change). z.takes) (sym (same_Some _ x p))
task_takes n fs (Makes a o f g) x p = ap (λ (z : Change). z.takes) (sym (same_Some _ x p))
task_takes n fs (Spawns o m f) x p = ap (λ (z : Change). z.takes) (sym (same_Some _ x p))
task_takes n fs (Enters f g) x p = ap (λ (z : Change). z.takes) (sym (same_Some _ x p))
task_takes n fs (Sends j m f) x p = ap (λ (z : Change). z.takes) (sym (same_Some _ x p))
task_takes n fs (Leaves v) x p = ap (λ (z : Change). z.takes) (sym (same_Some _ x p))

pub not_lacking : (d : Configuration) (j : ℕ) (b : Actor) (gs : List Frame) (m : Move) → ((l : Lack) → (made d j b gs m).0 ≢ Lacks l) → NotStuck m
not_lacking d j b gs (Stuck l) h = h l refl
not_lacking d j b gs m h = tt

pub frames_cons : (names : List ℕ) (f : Frame) (fs hs gs : List Frame) → hs ≡ f ∷ fs → FramesLike names hs gs → (g : Frame) × (rest : List Frame) × (gs ≡ g ∷ rest) × FrameLike names f g × FramesLike names fs rest
frames_cons names f fs hs [] e l = absurd (subst (λ (z : List Frame). FramesLike names z []) e l)
frames_cons names f fs hs (g ∷ gs) e l = let k : FramesLike names (f ∷ fs) (g ∷ gs) = subst (λ (z : List Frame). FramesLike names z (g ∷ gs)) e l in (g, gs, refl, k.0, k.1)

frames_nil : (names : List ℕ) (hs gs : List Frame) → hs ≡ [] → FramesLike names hs gs → gs ≡ []
frames_nil names hs [] e l = refl
frames_nil names hs (g ∷ gs) e l = absurd (subst (λ (z : List Frame). FramesLike names z (g ∷ gs)) e l)

module _ (core : CoreData) (marks : Marks) (front : ℕ → ℕ) (c d : Configuration) (names : List ℕ) (sim : Sim marks front c d names) (lacks : LacksNothing core d) (i : ℕ) (a : Actor) (here : slice_get c.actors i ≡ Some a) (clean : Clean marks front c d names i a) where
  -- The other makes a like change.
  pub record Followed (x : Change) : Type 0 where
    pub change : Change
    pub more : List ℕ
    pub plans : plan core d clean.other ≡ Some change
    pub like : ChangeLike names c d x change more
    pub mail : MailLike (names ++ more) (marks.post i) (cond x.takes (suc (front i)) (front i)) (left_mail x.takes a.mailbox) (left_mail change.takes clean.actor.mailbox)

  -- It takes a message that is marked, or touches a field that is.
  abbrev pub Reason : Change → Type 0
  Reason x = ((x.takes ≡ true) × marks.post i (front i)) ⊎ ((z : Access) × (access core c i ≡ Some z) × marks.wrote z.address z.field)

  module _ (x : Change) (px : plan core c i ≡ Some x) where
    followed_by : (y : Change) (more : List ℕ) → plan core d clean.other ≡ Some y → Alike names c d x y more → MailLike (names ++ more) (marks.post i) (cond x.takes (suc (front i)) (front i)) (left_mail x.takes a.mailbox) (left_mail y.takes clean.actor.mailbox) → Followed x
    followed_by y more p l m = record { change = y; more = more; plans = p; like = told_alike core names c d i clean.other x y more (told core c i x px) (told core d clean.other y p) l; mail = m }

    -- ---- a task

    module _ (r : Running core c i x) (same : r.actor ≡ a) where
      abbrev f : Frame
      f = record { method = r.frame.method; slots = r.frame.slots; stack = r.frame.stack; tasks = r.rest }

      split : (g : Frame) × (rest : List Frame) × (clean.actor.frames ≡ g ∷ rest) × FrameLike names r.frame g × FramesLike names r.below rest
      split = frames_cons names r.frame r.below a.frames clean.actor.frames (ap (λ (z : Actor). z.frames) (sym same) ∙ r.frames) clean.frames

      abbrev FieldsLike : List Value → Type 0
      FieldsLike ws = (z : Access) → touch core d.objects ws r.task ≡ Some z → (p : Address) → AddressLike names p z.address → FoundLike names (field_at c.objects p z.field) (field_at d.objects z.address z.field)

      -- The field that is touched is alike, or marked.
      touched_name_or : (ws : List Value) → Likes names r.frame.stack ws → (z : Access) → touch core d.objects ws r.task ≡ Some z → (o : Option ℕ) → slice_get names z.address.maker ≡ o → FieldsLike ws ⊎ ((z : Access) × (access core c i ≡ Some z) × marks.wrote z.address z.field)
      touched_name_or ws l z e None n = inl (λ y u p m. absurd (none-some p.maker (sym n ∙ ap (λ (t : Access). slice_get names t.address.maker) (same_Some z y (sym e ∙ u)) ∙ m.maker)))
      touched_name_or ws l z e (Some w) n =
          let q : Address = record { maker = w; serial = z.address.serial } in
          let m : AddressLike names q z.address = record { maker = n; serial = refl } in
          let there = touched_there core d.objects ws (touched_name core r.task) z e in
          elim (sim.fields q z.address m there.0 there.1 z.field) [
            | inl k ↦
                inl (λ y u p v.
                let s : z ≡ y = same_Some z y (sym e ∙ u) in
                let t : p ≡ q = first_address names p q z.address (subst (λ (t : Access). AddressLike names p t.address) (sym s) v) m in
                subst (λ (t : Access). FoundLike names (field_at c.objects p t.field) (field_at d.objects t.address t.field)) s (subst (λ (t : Address). FoundLike names (field_at c.objects t z.field) (field_at d.objects z.address z.field)) (sym t) k))
            | inr k ↦
                inr (
                  record { address = q; field = z.field; write = z.write },
                  access_is core c i r.actor r.frame r.below r.task r.rest r.is r.frames r.tasks ∙ touch_like core names c.objects d.objects sim.classes r.task r.frame.stack ws l z e q m,
                  k,
                )
          ]

      touched_or : (ws : List Value) → Likes names r.frame.stack ws → (o : Option Access) → touch core d.objects ws r.task ≡ o → FieldsLike ws ⊎ ((z : Access) × (access core c i ≡ Some z) × marks.wrote z.address z.field)
      touched_or ws l None e = inl (λ y u p m. absurd (none-some y (sym e ∙ u)))
      touched_or ws l (Some z) e = touched_name_or ws l z e (slice_get names z.address.maker) refl

      goes_too : FieldsLike split.0.stack → Followed x
      goes_too fields =
          let g : Frame = record { method = split.0.method; slots = split.0.slots; stack = split.0.stack; tasks = r.rest } in
          let n : ℕ = length c.actors in
          let k : ℕ = length d.actors in
          let two : Move = task_move core (record { objects = d.objects; actor = clean.other; actors = k }) g r.task in
          let tasks : split.0.tasks ≡ r.task ∷ r.rest = sym split.3.tasks ∙ r.tasks in
          let frame : FrameLike names f g = record { method = split.3.method; slots = split.3.slots; stack = split.3.stack; tasks = refl } in
          let around : AroundLike core names c.objects d.objects i clean.other n k g.stack r.task = record { actor = clean.name; count = sim.count; inject = sim.inject; within = sim.within; classes = sim.classes; made = clean.made; fields = fields } in
          let like = moves_like core names c.objects d.objects i clean.other n k f g r.task around frame in
          let stepped : step core d clean.other ≡ made d clean.other clean.actor split.1 two =
          ap (step_of core d clean.other) clean.is ∙ ap (run_frames core d clean.other clean.actor) split.2 ∙ ap (run_task core d clean.other clean.actor split.0 split.1) tasks
          in
          let free : NotStuck two = not_lacking d clean.other clean.actor split.1 two (λ l e. lacks clean.other l (ap (λ (t : Outcome × Configuration). t.0) stepped ∙ e)) in
          let p = plans_like names c d sim.count r.below split.1 split.4 _ two like free x r.plans in
          let plans : plan core d clean.other ≡ Some p.0 =
          ap (plan_actor core d.objects k clean.other) clean.is ∙ ap (plan_frames core d.objects k clean.other clean.actor.mailbox) split.2 ∙ ap (plan_tasks core d.objects k clean.other split.0 split.1) tasks ∙ p.2
          in
          let still : x.takes ≡ false = task_takes n r.below _ x r.plans in
          followed_by p.0 p.1 plans p.3 (
          subst (λ (t : Bool). MailLike (names ++ p.1) (marks.post i) (cond t (suc (front i)) (front i)) (left_mail t a.mailbox) (left_mail p.0.takes clean.actor.mailbox)) (sym still)
          (subst (λ (t : Bool). MailLike (names ++ p.1) (marks.post i) (front i) a.mailbox (left_mail t clean.actor.mailbox)) (sym still ∙ p.3.takes)
          (mail_weaker names p.1 (marks.post i) (marks.post i) (λ q z. z) (front i) a.mailbox clean.actor.mailbox clean.mail))
          )

      running_goes : Followed x ⊎ Reason x
      running_goes = elim (touched_or split.0.stack split.3.stack (touch core d.objects split.0.stack r.task) refl) [ inl k ↦ inl (goes_too k) | inr k ↦ inr (inr k) ]

    -- ---- a message

    module _ (t : Taking core c i x) (same : t.actor ≡ a) where
      mail_is : a.mailbox ≡ t.message ∷ t.rest
      mail_is = ap (λ (z : Actor). z.mailbox) (sym same) ∙ t.mail

      taken : x.takes ≡ true
      taken = message_takes core i t.message x t.plans

      idle_too : clean.actor.frames ≡ []
      idle_too = frames_nil names a.frames clean.actor.frames (ap (λ (z : Actor). z.frames) (sym same) ∙ t.frames) clean.frames

      mail_goes : (ks : List Message) → clean.actor.mailbox ≡ ks → MailLike names (marks.post i) (front i) (t.message ∷ t.rest) ks → Followed x ⊎ Reason x
      mail_goes [] e l = inr (inl (taken, l))
      mail_goes (k ∷ ks) e (inr l) = inr (inl (taken, l))
      mail_goes (k ∷ ks) e (inl l) =
          let p = messages_like names c d sim.count core sim.first sim.inject i clean.other clean.name t.message k l.0 x t.plans in
          let n : ℕ = length d.actors in
          let plans : plan core d clean.other ≡ Some p.0 =
          ap (plan_actor core d.objects n clean.other) clean.is ∙ ap (plan_frames core d.objects n clean.other clean.actor.mailbox) idle_too ∙ ap (plan_first core clean.other) e ∙ p.2
          in
          inl (followed_by p.0 p.1 plans p.3 (
          subst (λ (b : Bool). MailLike (names ++ p.1) (marks.post i) (cond b (suc (front i)) (front i)) (left_mail b a.mailbox) (left_mail p.0.takes clean.actor.mailbox)) (sym taken)
          (subst (λ (b : Bool). MailLike (names ++ p.1) (marks.post i) (suc (front i)) (left_mail true a.mailbox) (left_mail b clean.actor.mailbox)) (sym taken ∙ p.3.takes)
          (subst (λ (ms : List Message). MailLike (names ++ p.1) (marks.post i) (suc (front i)) (left_mail true ms) (left_mail true clean.actor.mailbox)) (sym mail_is)
          (subst (λ (ms : List Message). MailLike (names ++ p.1) (marks.post i) (suc (front i)) t.rest (left_mail true ms)) (sym e)
          (mail_weaker names p.1 (marks.post i) (marks.post i) (λ q z. z) (suc (front i)) t.rest ks l.1))))
          ))

      taking_goes : Followed x ⊎ Reason x
      taking_goes = mail_goes clean.actor.mailbox refl (subst (λ (ms : List Message). MailLike names (marks.post i) (front i) ms clean.actor.mailbox) mail_is clean.mail)

    pub event_goes : Followed x ⊎ Reason x
    event_goes =
        elim (view core c i x px) [
          | inl r ↦ running_goes r (same_Some r.actor a (sym r.is ∙ here))
          | inr t ↦ taking_goes t (same_Some t.actor a (sym t.is ∙ here))
        ]
