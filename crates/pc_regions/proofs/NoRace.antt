-- A configuration that is well typed and has regions is safe, except for what steps lack.
use Rattle.std.specs.Prelude.{◌≡◌, ◌⊎◌, ℕ, Bool, true, false, List, [], ◌∷◌, length, Some, slice_get, refl, suc, zero}
use Rattle.std.proofs.{Common.{inl, inr, ap, sym, subst, ◌∙◌}, lemmas.Option.{same_Some, none-some}}
use Rattle.pc_heap.specs.{Objects.{ObjectMap, class_at}, declared.value.Value.Value, declared.value.Value.TheVariants.At}
use Rattle.pc_caps.specs.declared.capability.Form.{Form}
use Rattle.pc_caps.specs.declared.capability.Form.TheVariants as form
use Rattle.pc_core.specs.{declared.nodes.Node.Node, declared.declarations.MethodKind.MethodKind, declared.declarations.ParamInfo.ParamInfo, CoreData.{field_named, CoreData}, Kinds.field_read}
use Rattle.pc_rules.specs.Parts.{type_of}
use Rattle.pc_valid.specs.Words.{Ty}
use Rattle.pc_core.specs.declared.declarations.MethodKind.TheVariants as method
use Rattle.pc_sub.specs.Declarations.{takes_sendable}
use Rattle.pc_semantics.specs.{declared.mailbox.Message.Message, declared.access.Access.Access, declared.actors.Actor.Actor, declared.frames.Frame.Frame, declared.frames.Task.Task, Configurations.{Configuration, address_of}, Safety.{touched_name, access_of, access, Race, Quiet}, Step.around}
use Rattle.pc_types.proofs.{Types.ArgumentsOk, Tasks.TasksOk, Frames.FramesOk, Typed.{MessageOk, MailOk, FirstMailOk, WellTyped, ActorOk}, Needs.Needs, Steps.some_frames}
use Rattle.pc_base.proofs.{Gets.get_below, Options.bind_some}
use Rattle.pc_ann.specs.declared.annotation.Ann.{Ann}
use Rattle.pc_semantics.specs.declared.frames.Task.TheVariants as task
use Rattle.pc_regions.proofs.{World.{OnStack, World, Frozen, FitsIn}, StackForms.{piled, TasksRise, uses_top}, Fitting.{TopAlias, FramesFit, MessageFits, MailFits, InRegions}, MoveFits.Situated, OneHolder.{AccessOk, AccessesOk, address_is, no_race, let_alone}, Accesses.{top_fits, get_access, put_access}}

-- A list with a first value.
first_is : {T : Type 0} → (xs : List T) (x : T) → slice_get xs 0 ≡ Some x → (ys : List T) × (xs ≡ x ∷ ys)
first_is [] x e = absurd (none-some x e)
first_is (y ∷ ys) x e = (ys, ap (λ z. z ∷ ys) (same_Some y x e))

-- What an access of the top of a stack is.
record Touches (f : Frame) (write : Bool) (x : Access) : Type 0 where
  rest : List Value
  at : f.stack ≡ At x.address ∷ rest
  writes : x.write ≡ write

touches : (core : CoreData) (c : Configuration) (f : Frame) (t : ℕ × Bool) (x : Access) → access_of core c f t ≡ Some x → Touches f t.1 x
touches core c f t x e =
    let v = bind_some (slice_get f.stack 0) _ x e in
    let a = bind_some (address_of v.0) _ x v.2 in
    let d = bind_some (class_at c.objects a.0) _ x a.2 in
    let i = bind_some (field_named core d.0 t.0) _ x d.2 in
    let is : record { address = a.0; field = i.0; write = t.1 } ≡ x = same_Some _ x i.2 in
    let s = first_is f.stack v.0 v.1 in
    record {
      rest = s.0;
      at = s.1 ∙ ap (λ (u : Value). u ∷ s.0) (address_is v.0 a.0 a.1) ∙ ap (λ (y : Access). At y.address ∷ s.0) is;
      writes = sym (ap (λ (y : Access). y.write) is);
    }

module _ (core : CoreData) (ann : Ann) (needs : Needs core ann) (c : Configuration) (typed : WellTyped core ann c) (w : World) (g : InRegions core ann w c) (i : ℕ) (a : Actor) (is : slice_get c.actors i ≡ Some a) where
  module _ (f : Frame) (fs : List Frame) (ok : FramesOk core ann c.objects i (f ∷ fs)) (k : FramesFit core ann w i (f ∷ fs)) where
    situated : (ts : List Task) → f.tasks ≡ ts → Situated core ann w (around c i) f ts fs
    situated ts at = record {
      world = g.world;
      fields = g.fields;
      here = get_below c.actors i a is;
      active = k.0;
      tasks = subst (λ (us : List Task). TasksRise core ann f.method us k.0.depth k.0.holds.live k.0.holds.entries) at k.1;
      fresh = subst (λ (us : List Task). uses_top us ≡ true → TopAlias w i k.0.holds.base k.0.holds.entries f.stack) at k.2;
      wait = k.3;
    }

    task_access : (t : Task) (ts : List Task) → f.tasks ≡ t ∷ ts → (n : ℕ × Bool) → touched_name core t ≡ Some n → (x : Access) → access_of core c f n ≡ Some x → AccessOk w i x
    task_access (task.Get n) ts at p e x h =
        let y = bind_some (slice_get core.nodes n) _ p e in
        let m = bind_some (field_read y.0.kind) _ p y.2 in
        let reads : p.1 ≡ false = sym (ap (λ (q : ℕ × Bool). q.1) (same_Some _ p m.2)) in
        let t = touches core c f p x h in
        elim (get_access core ann needs (around c i) f fs (record { objects = typed.objects; here = get_below c.actors i a is; held = ok.0.0; wait = ok.1 }) w n x.address t.rest t.at ts
        (subst (λ (us : List Task). TasksOk core ann f.method us ok.0.0.live ok.0.0.set ok.0.0.wants) at ok.0.1) (situated (task.Get n ∷ ts) at)) [
          | inl b ↦ inl b
          | inr d ↦ inr (t.writes ∙ reads, d)
        ]
    task_access (task.Put n) ts at p e x h =
        let t = touches core c f p x h in
        inl (put_access core ann needs (around c i) f fs (record { objects = typed.objects; here = get_below c.actors i a is; held = ok.0.0; wait = ok.1 }) w n x.address t.rest t.at ts
        (subst (λ (us : List Task). TasksOk core ann f.method us ok.0.0.live ok.0.0.set ok.0.0.wants) at ok.0.1) (situated (task.Put n ∷ ts) at))
    task_access t ts at p e x h = absurd (none-some p e)

    -- What is read through an expression that is noted `val` is frozen.
    val_read : (n : ℕ) (ts : List Task) → f.tasks ≡ task.Get n ∷ ts → (y : Node) → slice_get core.nodes n ≡ Some y → (child : ℕ) → y.children ≡ child ∷ [] → (t : Ty) → type_of ann child ≡ Some t → t.1 ≡ form.Val
        → (p : ℕ × Bool) (x : Access) → access_of core c f p ≡ Some x → Frozen w (w.region x.address)
    val_read n ts at y is_y child children t noted val p x h =
        let s : Situated core ann w (around c i) f (task.Get n ∷ ts) fs = situated (task.Get n ∷ ts) at in
        let same : s.tasks.node ≡ y = same_Some s.tasks.node y (sym s.tasks.is_node ∙ is_y) in
        let v = touches core c f p x h in
        let entries : s.active.holds.entries ≡ record { ty = type_of ann child; depth = s.active.depth } ∷ s.tasks.below = s.tasks.stack ∙ ap (λ (cs : List ℕ). piled ann s.active.depth cs s.tasks.below) (ap (λ (z : Node). z.children) same ∙ children) in
        let k = top_fits core ann needs (around c i) f (task.Get n ∷ ts) fs (record { objects = typed.objects; here = get_below c.actors i a is; held = ok.0.0; wait = ok.1 }) w s refl child s.tasks.below entries (At x.address) v.rest v.at t noted in
        subst (λ (q : Form). FitsIn w (OnStack i (length fs) (length v.rest) (w.top i)) q (w.region x.address)) val k.0

  val_by : (f : Frame) (fs : List Frame) → a.frames ≡ f ∷ fs → ActorOk core ann c.objects i a → FramesFit core ann w i a.frames → (n : ℕ) (ts : List Task) → f.tasks ≡ task.Get n ∷ ts → (y : Node) → slice_get core.nodes n ≡ Some y → (child : ℕ) → y.children ≡ child ∷ []
      → (t : Ty) → type_of ann child ≡ Some t → t.1 ≡ form.Val → (p : ℕ × Bool) (x : Access) → access_of core c f p ≡ Some x → Frozen w (w.region x.address)
  val_by f fs at (inl ok) k n ts tasks y is_y child children t noted val p x h = absurd (some_frames f fs (sym at ∙ ok.0))
  val_by f fs at (inr ok) k n ts tasks y is_y child children t noted val p x h =
      val_read f fs (subst (FramesOk core ann c.objects i) at ok.0) (subst (FramesFit core ann w i) at k) n ts tasks y is_y child children t noted val p x h

  pub val_reads : (f : Frame) (fs : List Frame) → a.frames ≡ f ∷ fs → (n : ℕ) (ts : List Task) → f.tasks ≡ task.Get n ∷ ts → (y : Node) → slice_get core.nodes n ≡ Some y → (child : ℕ) → y.children ≡ child ∷ []
      → (t : Ty) → type_of ann child ≡ Some t → t.1 ≡ form.Val → (x : Access) → access core c i ≡ Some x → Frozen w (w.region x.address)
  val_reads f fs at n ts tasks y is_y child children t noted val x e =
      let b = bind_some (slice_get c.actors i) _ x e in
      let g1 = bind_some (slice_get b.0.frames 0) _ x b.2 in
      let u = bind_some (slice_get g1.0.tasks 0) _ x g1.2 in
      let p = bind_some (touched_name core u.0) _ x u.2 in
      let same_actor : b.0 ≡ a = same_Some b.0 a (sym b.1 ∙ is) in
      let same_frame : g1.0 ≡ f = same_Some g1.0 f (sym g1.1 ∙ ap (λ (z : Actor). slice_get z.frames 0) same_actor ∙ ap (λ (l : List Frame). slice_get l 0) at) in
      val_by f fs at (typed.actors i a is) (g.actors i a is).1 n ts tasks y is_y child children t noted val p.0 x (subst (λ (z : Frame). access_of core c z p.0 ≡ Some x) same_frame p.2)

  frame_access : (f : Frame) (fs : List Frame) → a.frames ≡ f ∷ fs → ActorOk core ann c.objects i a → FramesFit core ann w i a.frames → (t : Task) → slice_get f.tasks 0 ≡ Some t → (n : ℕ × Bool) → touched_name core t ≡ Some n → (x : Access) → access_of core c f n ≡ Some x → AccessOk w i x
  frame_access f fs at (inl ok) k t e n p x h = absurd (some_frames f fs (sym at ∙ ok.0))
  frame_access f fs at (inr ok) k t e n p x h =
      let ts = first_is f.tasks t e in
      task_access f fs (subst (FramesOk core ann c.objects i) at ok.0) (subst (FramesFit core ann w i) at k) t ts.0 ts.1 n p x h

-- Each access is on an object of the actor, or reads a frozen one.
pub accesses_ok : (core : CoreData) (ann : Ann) → Needs core ann → (c : Configuration) → WellTyped core ann c → (w : World) → InRegions core ann w c → AccessesOk core w c
accesses_ok core ann needs c typed w g i x e =
    let a = bind_some (slice_get c.actors i) _ x e in
    let f = bind_some (slice_get a.0.frames 0) _ x a.2 in
    let t = bind_some (slice_get f.0.tasks 0) _ x f.2 in
    let n = bind_some (touched_name core t.0) _ x t.2 in
    let fs = first_is a.0.frames f.0 f.1 in
    frame_access core ann needs c typed w g i a.0 a.1 f.0 fs.0 fs.1 (typed.actors i a.0 a.1) (g.actors i a.0 a.1).1 t.0 t.1 n.0 n.1 x n.2

-- ---- waiting messages

arguments_count : (core : CoreData) (objects : ObjectMap) (vs : List Value) (ps : List ParamInfo) → ArgumentsOk core objects vs ps → length ps ≡ length vs
arguments_count core objects [] [] k = refl
arguments_count core objects [] (p ∷ ps) k = absurd k
arguments_count core objects (v ∷ vs) [] k = absurd k
arguments_count core objects (v ∷ vs) (p ∷ ps) k = ap suc (arguments_count core objects vs ps k.1)

-- A method whose messages wait.
abbrev Waiting : MethodKind → Type 0
Waiting k = (k ≡ method.Be) ⊎ (k ≡ method.Spawn)

mail_at : (core : CoreData) (objects : ObjectMap) (j : ℕ) (ms : List Message) → MailOk core objects j ms → (k : ℕ) (m : Message) → slice_get ms k ≡ Some m → MessageOk core objects j method.Be m
mail_at core objects j [] ok k m e = absurd (none-some m e)
mail_at core objects j (x ∷ ms) ok zero m e = subst (MessageOk core objects j method.Be) (same_Some x m e) ok.0
mail_at core objects j (x ∷ ms) ok (suc k) m e = mail_at core objects j ms ok.1 k m e

first_mail_at : (core : CoreData) (objects : ObjectMap) (j : ℕ) (ms : List Message) → FirstMailOk core objects j ms → (k : ℕ) (m : Message) → slice_get ms k ≡ Some m → (q : MethodKind) × Waiting q × MessageOk core objects j q m
first_mail_at core objects j [] ok k m e = absurd ok
first_mail_at core objects j (x ∷ ms) ok zero m e = (method.Spawn, inr refl, subst (MessageOk core objects j method.Spawn) (same_Some x m e) ok.0)
first_mail_at core objects j (x ∷ ms) ok (suc k) m e = (method.Be, inl refl, mail_at core objects j ms ok.1 k m e)

any_mail_at : (core : CoreData) (ann : Ann) (objects : ObjectMap) (j : ℕ) (a : Actor) → ActorOk core ann objects j a → (k : ℕ) (m : Message) → slice_get a.mailbox k ≡ Some m → (q : MethodKind) × Waiting q × MessageOk core objects j q m
any_mail_at core ann objects j a (inl ok) k m e = first_mail_at core objects j a.mailbox ok.1 k m e
any_mail_at core ann objects j a (inr ok) k m e = (method.Be, inl refl, mail_at core objects j a.mailbox ok.1 k m e)

mail_fits_at : (core : CoreData) (w : World) (j t : ℕ) (ms : List Message) → MailFits core w j t ms → (k : ℕ) (m : Message) → slice_get ms k ≡ Some m → (u : ℕ) × MessageFits core w j u m
mail_fits_at core w j t [] f k m e = absurd (none-some m e)
mail_fits_at core w j t (x ∷ ms) f zero m e = (t, subst (MessageFits core w j t) (same_Some x m e) f.0)
mail_fits_at core w j t (x ∷ ms) f (suc k) m e = mail_fits_at core w j (suc t) ms f.1 k m e

takes_it : (k : MethodKind) (f : Form) → Waiting k → takes_sendable k f ≡ true
takes_it k f (inl e) = ap (λ (q : MethodKind). takes_sendable q f) e
takes_it k f (inr e) = ap (λ (q : MethodKind). takes_sendable q f) e

module _ (core : CoreData) (ann : Ann) (needs : Needs core ann) (c : Configuration) (typed : WellTyped core ann c) (w : World) (g : InRegions core ann w c) where
  -- What waits is let alone.
  pub quiet : Quiet core c
  quiet j a is k m at =
      let ok = any_mail_at core ann c.objects j a (typed.actors j a is) k m at in
      let fit = mail_fits_at core w j (g.actors j a is).0.0 a.mailbox (g.actors j a is).0.1 k m at in
      record {
        method = ok.2.own;
        is_method = ok.2.is_own;
        own = ok.2.home;
        count = arguments_count core c.objects m.arguments ok.2.own.params ok.2.arguments;
        sendable = needs.valid.declarations.sendable m.method ok.2.own ok.2.is_own (takes_it ok.2.own.kind ok.2.own.result.1 (elim ok.1 [ inl b ↦ inl (ok.2.kind ∙ b) | inr s ↦ inr (ok.2.kind ∙ s) ]));
        arguments = λ n p v e h. let_alone core w c (accesses_ok core ann needs c typed w g) p v j fit.0 n (fit.1 ok.2.own n p v ok.2.is_own e h);
      }

  pub races_not : Race core c → ⊥
  races_not = no_race core w c (accesses_ok core ann needs c typed w g)
