-- A call of a function, by regions: the receiver and the arguments settle in the slots of the frame that begins.
use Rattle.std.specs.Prelude.{◌≡◌, ◌≢◌, ℕ, suc, ◌+◌, ◌-◌, ◌<◌, ◌≤◌, Bool, true, false, ◌&&◌, ◌||◌, cond, List, [], ◌∷◌, ◌++◌, length, Option, Some, None, nat_eq, nat_lt, refl}
use Rattle.std.proofs.{Common.{inl, inr, ap, sym, subst, ◌∙◌, arith}, lemmas.Bool.{eq-eqb, ne_eqb, le-ltb, or_from, and_right}}
use Rattle.pc_heap.specs.{Objects.ObjectMap, declared.value.Address.Address, declared.value.Value.Value, declared.value.Value.TheVariants.{Num, Truth, Text, Prim, At}}
use Rattle.pc_caps.specs.{Computed.is_below, Closure.below_iff, Tables.{unalias, sendable_form}, declared.capability.Cap.Cap, declared.capability.Form.Form}
use Rattle.pc_caps.specs.declared.capability.Cap.TheVariants as cap
use Rattle.pc_caps.specs.declared.capability.Form.TheVariants as form
use Rattle.pc_core.specs.{declared.declarations.Method.Method, declared.declarations.MethodKind.MethodKind, declared.nodes.NodeKind.NodeKind, CoreData.CoreData}
use Rattle.pc_core.specs.declared.declarations.MethodKind.TheVariants as method
use Rattle.pc_core.specs.declared.nodes.NodeKind.TheVariants as nodes
use Rattle.pc_masks.specs.declared.mask.Mask.{Mask}
use Rattle.pc_ann.specs.declared.annotation.Ann.{Ann}
use Rattle.pc_semantics.specs.{declared.frames.Frame.Frame, declared.frames.Task.Task, Configurations.{Around, first_frame, with_stack, popped}, Calls.invoke_task}
use Rattle.pc_semantics.specs.declared.frames.Task.TheVariants as task
use Rattle.pc_rules.specs.{Parts.type_of, Calls.{is_isolated, is_lent, recovered_result}}
use Rattle.pc_valid.specs.Words.{Ty}
use Rattle.pc_rules.proofs.ByNumber.{arguments}
use Rattle.pc_base.proofs.Bools.{false_true}
use Rattle.pc_types.proofs.{Types.OfKind, Tasks.{FinishOk, invokes, TasksOk}, Moves.Runs, Needs.Needs, Values.own_no_trait, InverseCalls.CalledRule, Popped.{popped_is, receiver_last, arguments_count}, Callers.{counts, not_print}, InvokeTask.{no_behaviour, Received, received}}
use Rattle.pc_regions.proofs.{World.{Place, InSlot, OnStack, World, home, same, Over, over_part, FitsIn, Fits, FitsSome, Alias, AliasIn, AliasSome, WorldOk}, StackForms.{Entry, Shallow, FinishRises, TasksRise, Below, piled}, Fitting.{StackFits, Entered, OpenedTo, GoesTo, SendableSome, TopAlias, FieldsFit}, MoveFits.{Others, Turned, Situated, RegionMoveOk}, Changes.{lent, Shifts}, Settled.SettleLaw, ContextLaws.{higher, LentLaw}, Shifts.{shifts_both, lower_shift}, CallForms.{CallRule, LendRule}, Arguments.{ArgumentsStand, Pulled, pull, pulled_is, piled_last, stands_below}, FirstFrame.ArgumentsAt, Calm.{calm_wider, calm_both, calm_same}, ArgumentsSettle.{lower_still, near_home, the_place, from_place, one_later, PassedOne, pass_near, pass_all, stand_under}, CallerKept.{from_elsewhere, from_lower, from_under, Rests, LeftAbove, live_left, follows_at, fields_on, others_on, rests_on, fields_low, others_low, rests_low}, CallBegins.{finish_at, enters_frames}, Rising.higher_elsewhere}

-- ---- what was on the stack

pub receiver_under : (rest values under : ℕ) → under ≡ rest + values → rest ≤ under
receiver_under rest values under e = omega (arith, e)

pub values_under : (rest values under : ℕ) → under ≡ rest + values → rest + values ≤ under
values_under rest values under e = omega (arith, e)

-- The receiver, and below it the arguments, each at its place.
pub record CallStands (ann : Ann) (w : World) (i h base d : ℕ) (args : List ℕ) (below : List Entry) (under values rest : List Value) (f : Form) (this : Value) : Type 0 where
  pub receiver : Fits w (OnStack i h (length under) (base + d)) f this
  pub stand : ArgumentsStand ann w i h (base + d) (length rest) args values
  pub fits : StackFits w i h base below rest
  pub total : length under ≡ length rest + length values

pub call_stands : (core : CoreData) (ann : Ann) (w : World) (i h base d : ℕ) (cs : List ℕ) (last : ℕ) (below : List Entry) (vs under values rest : List Value) (this : Value) (ty : Ty)
    → cs ≡ arguments cs ++ last ∷ [] → type_of ann last ≡ Some ty → vs ≡ this ∷ under
    → ((p : Pulled ann w i h base d (arguments cs) below under) → (p.values ≡ values) × (p.rest ≡ rest)) → StackFits w i h base (piled ann d cs below) vs
    → CallStands ann w i h base d (arguments cs) below under values rest ty.1 this
call_stands core ann w i h base d cs last below vs under values rest this ty children is_ty is pulled k =
    let e : Entry = record { ty = type_of ann last; depth = d } in
    let pile : piled ann d cs below ≡ e ∷ piled ann d (arguments cs) below = ap (λ (ds : List ℕ). piled ann d ds below) children ∙ piled_last ann d (arguments cs) last below in
    let both : FitsSome w (OnStack i h (length under) (base + d)) (type_of ann last) this × StackFits w i h base (piled ann d (arguments cs) below) under =
    subst (λ (us : List Value). StackFits w i h base (e ∷ piled ann d (arguments cs) below) us) is (subst (λ (g : List Entry). StackFits w i h base g vs) pile k)
    in
    let p = pull ann w i h base d (arguments cs) below under both.1 in
    let q = pulled p in
    record {
      receiver = subst (λ (o : Option Ty). FitsSome w (OnStack i h (length under) (base + d)) o this) is_ty both.0;
      stand = subst (λ (us : List Value). ArgumentsStand ann w i h (base + d) (length us) (arguments cs) values) q.1 (subst (λ (us : List Value). ArgumentsStand ann w i h (base + d) (length p.rest) (arguments cs) us) q.0 p.stand);
      fits = subst (λ (us : List Value). StackFits w i h base below us) q.1 p.fits;
      total = subst (λ (us : List Value). length under ≡ length rest + length us) q.0 (subst (λ (us : List Value). length under ≡ length us + length p.values) q.1 p.total);
    }

-- ---- what comes out

pub entered_fun : (w : World) (i : ℕ) (x : Method) (t : Option Ty) (base at b : ℕ) (k : MethodKind) → k ≡ method.Fun → Entered w i x t base at b method.Fun → Entered w i x t base at b k
entered_fun w i x t base at b k is e = subst (Entered w i x t base at b) (sym is) e

lent_goes : (core : CoreData) (a r : Ty) → Below core a r → (t : Option Ty) → t ≡ recovered_result r → GoesTo core a t × SendableSome t
lent_goes core a r low t is = subst (λ (o : Option Ty). GoesTo core a o × SendableSome o) (sym is) (go (sendable_form r.1) refl)
  where
    go : (b : Bool) → sendable_form r.1 ≡ b → GoesTo core a (cond b (Some r) None) × SendableSome (cond b (Some r) None)
    go true e = (low, e)
    go false e = (tt, tt)

-- ---- a lent receiver

-- What is over an alias that may be used.
pub record UnderAlias (w : World) (i base : ℕ) (q : ℕ) : Type 0 where
  pub free : w.role q ≡ None
  pub level : ℕ
  pub from : base ≤ level
  pub to : level ≤ w.top i
  pub over : Over w i q level

under_alias : (w : World) (objects : ObjectMap) (count i base : ℕ) (f : Form) (q : ℕ) → WorldOk w objects count → i < count → base ≤ w.top i → is_isolated f ≡ true → AliasIn w i base (w.top i) f q → UnderAlias w i base q
under_alias w objects count i base form.Iso q ok here low is a = record { free = a.0; level = a.2; from = a.3; to = a.4; over = a.5 }
under_alias w objects count i base form.Trn q ok here low is a = record { free = a.0; level = w.top i; from = low; to = omega arith; over = over_part (w.context i (w.top i)) a.1 a.2 a.3 (ok.named i (w.top i) here (omega arith)) }
under_alias w objects count i base f q ok here low is a = absurd (false_true is)

-- A region that is the home of a place fits there if it is lent.
lent_in : (w : World) (p : Place) (q : ℕ) (k j : Cap) → is_lent k ≡ true → is_below (unalias k) (unalias j) ≡ true → q ≡ home w p → FitsIn w p (unalias j) q
lent_in w p q cap.Ref cap.Ref a e is = is
lent_in w p q cap.Ref cap.Box a e is = same is
lent_in w p q cap.Ref cap.Tag a e is = tt
lent_in w p q cap.Box cap.Box a e is = same is
lent_in w p q cap.Box cap.Tag a e is = tt
lent_in w p q cap.Ref j a e is = absurd (false_true e)
lent_in w p q cap.Box j a e is = absurd (false_true e)
lent_in w p q k j a e is = absurd (false_true a)

lent_top : (w : World) (i q level : ℕ) → w.top i ≡ level → (lent w i q).top i ≡ suc level
lent_top w i q level e = ap (λ (b : Bool). cond b (suc (w.top i)) (w.top i)) (eq-eqb i i refl) ∙ ap suc e

lent_context : (w : World) (i q level : ℕ) → w.top i ≡ level → (lent w i q).context i (suc level) ≡ q
lent_context w i q level e = ap (λ (b : Bool). cond (b && nat_eq (suc (w.top i)) (suc level)) q (w.context i (suc level))) (eq-eqb i i refl) ∙ ap (λ (b : Bool). cond b q (w.context i (suc level))) (eq-eqb (suc (w.top i)) (suc level) (ap suc e))

lent_before : (w : World) (i q j : ℕ) → j ≤ w.top i → (lent w i q).context i j ≡ w.context i j
lent_before w i q j low = ap (λ (b : Bool). cond b q (w.context i j)) (and_right (nat_eq i i) (nat_eq (suc (w.top i)) j) (ne_eqb (suc (w.top i)) j (λ e. absurd (omega (arith, e, low)))))

pub not_higher : (i k l : ℕ) → l ≤ k → (nat_eq i i && nat_lt k l) ≡ false
not_higher i k l low = and_right (nat_eq i i) (nat_lt k l) (le-ltb k l low)

-- What is on the pile is no deeper than what is on it with more.
pub piled_shallow : (ann : Ann) (d : ℕ) (cs : List ℕ) (below : List Entry) → Shallow (piled ann d cs below) d → Shallow below d
piled_shallow ann d [] below k = k
piled_shallow ann d (c ∷ cs) below k = (piled_shallow ann d cs (record { ty = type_of ann c; depth = d } ∷ below) k).1

pub stand_kept : (ann : Ann) (w w' : World) (i h l : ℕ) → ((d : ℕ) (f : Form) (v : Value) → Fits w (OnStack i h d l) f v → Fits w' (OnStack i h d l) f v) → (m : ℕ) (cs : List ℕ) (vs : List Value) → ArgumentsStand ann w i h l m cs vs → ArgumentsStand ann w' i h l m cs vs
stand_kept ann w w' i h l on m [] [] k = k
stand_kept ann w w' i h l on m [] (v ∷ vs) k = k
stand_kept ann w w' i h l on m (c ∷ cs) [] k = k
stand_kept ann w w' i h l on m (c ∷ cs) (v ∷ vs) k = (some_on (type_of ann c) k.0, stand_kept ann w w' i h l on (suc m) cs vs k.1)
  where
    some_on : (o : Option Ty) → FitsSome w (OnStack i h m l) o v → FitsSome w' (OnStack i h m l) o v
    some_on None e = tt
    some_on (Some t) e = on m t.1 v e

-- A value that is not an address fits anywhere.
abbrev pub is_at : Value → Bool
is_at (At a) = true
is_at v = false

pub plain_fits : (w : World) (p : Place) (g : Form) (v : Value) → is_at v ≡ false → Fits w p g v
plain_fits w p g (At a) e = absurd (false_true (sym e))
plain_fits w p g (Num n) e = tt
plain_fits w p g (Truth b) e = tt
plain_fits w p g (Text t) e = tt
plain_fits w p g (Prim n) e = tt

pub left_lent : (core : CoreData) (ann : Ann) (around : Around) (f : Frame) (fs : List Frame) (ts : List Task) (w : World) (s : Situated core ann w around f ts fs) (does : NodeKind → Bool) (n : ℕ) (go : ℕ → Mask → List Entry → Type 0)
    (e : FinishRises core ann f.method s.active.depth s.active.holds.live s.active.holds.entries does n go) (m : ℕ) → LeftAbove core ann around f fs ts w s does n go e m (λ p. higher around.actor (w.top around.actor) p || from_place around.actor (length fs) m p)
left_lent core ann around f fs ts w s does n go e m =
    let i : ℕ = around.actor in
    let k : ℕ = w.top i in
    record {
      far = λ p z. or_from (higher i k p) (from_place i (length fs) m p) (higher_elsewhere i k p z) (from_elsewhere i (length fs) m p z);
      fieldless = λ a z. refl;
      slots = λ h t l low. or_from (nat_eq i i && nat_lt k l) false (not_higher i k l low) refl;
      lower = λ h d l under low. or_from (nat_eq i i && nat_lt k l) (from_place i (length fs) m (OnStack i h d l)) (not_higher i k l low) (from_lower i (length fs) m h d l under);
      under = λ d l below low. or_from (nat_eq i i && nat_lt k l) (from_place i (length fs) m (OnStack i (length fs) d l)) (not_higher i k l low) (from_under i (length fs) m d l below);
    }

-- ---- a call

module _ (settle : SettleLaw) (core : CoreData) (ann : Ann) (needs : Needs core ann) (around : Around) (f : Frame) (fs : List Frame) (r : Runs core ann around f fs) (n : ℕ)
    (e : FinishOk core ann f.method r.held.live r.held.set r.held.wants invokes n (λ l s g. TasksOk core ann f.method f.tasks l s g)) (w : World) (s : Situated core ann w around f (task.Invoke n ∷ f.tasks) fs)
    (g : FinishRises core ann f.method s.active.depth s.active.holds.live s.active.holds.entries invokes n (λ d l st. TasksRise core ann f.method f.tasks d l st)) (name : ℕ) (is_call : g.node.kind ≡ nodes.Call name) where
  abbrev pub level : ℕ
  level = s.active.holds.base + s.active.depth

  abbrev pub here : FinishOk core ann f.method r.held.live r.held.set r.held.wants invokes n (λ l s g. TasksOk core ann f.method f.tasks l s g)
  here = finish_at core ann f.method r.held.live r.held.set r.held.wants invokes n (λ l s g. TasksOk core ann f.method f.tasks l s g) e g.node g.note g.is_node g.is_note

  abbrev pub Calls : CalledRule core ann g.node name g.note → Type 0
  Calls by = Received core around.objects r.held.this e.below f.stack (length g.node.children - 1) name by.receiver by.own

  pub calls : (by : CalledRule core ann g.node name g.note) → Calls by
  calls by = received core ann needs around f fs r n here name is_call by

  pub is_top : w.top around.actor ≡ level
  is_top = sym s.active.last

  pub same_level : level ≤ level
  same_level = omega arith

  pub next_level : level ≤ suc level
  next_level = omega arith

  last_level : suc level ≤ suc level
  last_level = omega arith

  up_far : (c a b : ℕ) → c ≤ a → b ≡ suc a → c ≤ b
  up_far c a b l e = omega (arith, l, e)

  up_to : (l a k : ℕ) → l ≤ a → a ≡ k → l < suc k
  up_to l a k low e = omega (arith, low, e)

  -- Where the receiver and the arguments are.
  pub stands : (by : CalledRule core ann g.node name g.note) (c : Calls by) → CallStands ann w around.actor (length fs) s.active.holds.base s.active.depth (arguments g.node.children) g.below c.under c.popped.values c.popped.rest by.receiver.1 c.this
  stands by c =
      let count : length (arguments g.node.children) ≡ length g.node.children - 1 = arguments_count g.node.children by.last by.is_last in
      let is = popped_is core around.objects r.held.this e.below c.under (length g.node.children - 1) by.own.params c.popped in
      call_stands core ann w around.actor (length fs) s.active.holds.base s.active.depth g.node.children by.last g.below f.stack c.under c.popped.values c.popped.rest c.this by.receiver
      (receiver_last g.node.children by.last by.is_last) by.is_receiver c.is
      (λ p. pulled_is ann w around.actor (length fs) s.active.holds.base s.active.depth (arguments g.node.children) g.below c.under p c.popped.values c.popped.rest (ap (λ (k : ℕ). popped k c.under []) count ∙ is))
      (subst (λ (es : List Entry). StackFits w around.actor (length fs) s.active.holds.base es f.stack) g.stack s.active.holds.stack_fit)

  -- The alias of the receiver.
  pub alias_of : (by : CalledRule core ann g.node name g.note) (c : Calls by) → Alias w around.actor s.active.holds.base (w.top around.actor) by.receiver.1 c.this
  alias_of by c =
      let last : Entry = record { ty = type_of ann by.last; depth = s.active.depth } in
      let pile : s.active.holds.entries ≡ last ∷ piled ann s.active.depth (arguments g.node.children) g.below =
      g.stack ∙ ap (λ (ds : List ℕ). piled ann s.active.depth ds g.below) (receiver_last g.node.children by.last by.is_last) ∙ piled_last ann s.active.depth (arguments g.node.children) by.last g.below
      in
      let top : AliasSome w around.actor s.active.holds.base (w.top around.actor) (type_of ann by.last) c.this =
      subst (λ (vs : List Value). TopAlias w around.actor s.active.holds.base (last ∷ piled ann s.active.depth (arguments g.node.children) g.below) vs) c.is
      (subst (λ (es : List Entry). TopAlias w around.actor s.active.holds.base es f.stack) pile (s.fresh refl))
      in
      subst (λ (o : Option Ty). AliasSome w around.actor s.active.holds.base (w.top around.actor) o c.this) by.is_receiver top

  module _ (by : CalledRule core ann g.node name g.note) (kind : by.own.kind ≡ method.Fun) (c : Calls by) where
    fun : c.found.own.kind ≡ method.Fun
    fun = c.found.kind ∙ kind

    other : c.found.number ≢ 0
    other = not_print core ann needs c.found.number c.found.own method.Fun c.found.is_own fun no_behaviour

    body : (b : ℕ) × (c.found.own.body ≡ Some b)
    body =
        let own = c.found.own in
        let owner = needs.formed.methods c.found.number own c.found.is_own in
        let kind_of : OfKind core own.entity c.this = subst (λ (d : ℕ). OfKind core d c.this) (sym c.found.entity) c.typed.kind in
        needs.has_body c.found.number own owner.owner c.found.is_own other owner.is_owner
        (own_no_trait core ann needs around.objects own.entity owner.owner c.this kind_of (c.typed.is_entity ∙ ap Some (sym c.found.entity)) owner.is_owner)

    enters_move : (u : World) → Turned core ann w u around.actor around.actors None around.objects around.actors (first_frame c.found.number c.found.own c.this c.popped.values body.0 ∷ with_stack f c.popped.rest ∷ fs) → RegionMoveOk core ann w around fs (invoke_task core around f g.node.children (nodes.Call name))
    enters_move u turned =
        rw (c.is, popped_is core around.objects r.held.this e.below c.under (length g.node.children - 1) by.own.params c.popped, c.typed.is_entity, c.found.found, c.found.is_own, fun, counts core around.objects c.popped.values c.found.own.params c.fit, body.1)
        (u, turned)

    -- The frame begins at level b of the world that came of it.
    begins_at : (u : World) (b : ℕ) → WorldOk u around.objects around.actors → FieldsFit core u around.objects → Others w u around.actor around.actors None
        → Rests core ann u around.actor f.method s.active.holds.base s.active.depth s.active.holds.live g.below f.slots c.popped.rest fs → u.top around.actor ≡ b
        → Fits u (InSlot around.actor (suc (length fs)) 0 b) (unalias c.found.own.receiver) c.this → ArgumentsAt u (λ k. InSlot around.actor (suc (length fs)) (suc k) b) c.found.own.params c.popped.values
        → Entered u around.actor c.found.own g.note.ty s.active.holds.base level b method.Fun → GoesTo core c.found.own.result g.note.ty
        → RegionMoveOk core ann w around fs (invoke_task core around f g.node.children (nodes.Call name))
    begins_at u b ok fields others rests top this_fits fit entered result =
        let go = λ (d : ℕ) (l : Mask) (st : List Entry). TasksRise core ann f.method f.tasks d l st in
        enters_move u
        (record {
          world = ok;
          fields = fields;
          others = others;
          frames = enters_frames core ann needs u around.actor f.method s.active.holds.base s.active.depth b s.active.holds.live g.below f.slots c.popped.rest fs f.tasks rests g.note.live_after g.note.ty
              (live_left core ann around f fs (task.Invoke n ∷ f.tasks) w s invokes n go g by.behind by.is_behind by.live)
              (follows_at core ann around f fs (task.Invoke n ∷ f.tasks) w s invokes n go g)
              c.found.number c.found.own c.found.is_own other body.0 body.1 c.this c.popped.values top this_fits fit (entered_fun u around.actor c.found.own g.note.ty s.active.holds.base level b c.found.own.kind fun entered) result;
        })

    -- The receiver has settled at the level of the node.
    begins_here : PassedOne core ann settle around.objects around.actors around.actor (length fs) level level s.here same_level w (length c.under) (InSlot around.actor (suc (length fs)) 0 level) (unalias c.found.own.receiver) c.this → GoesTo core c.found.own.result g.note.ty
        → RegionMoveOk core ann w around fs (invoke_task core around f g.node.children (nodes.Call name))
    begins_here this result =
        let i : ℕ = around.actor in
        let h : ℕ = length fs in
        let m : ℕ = length c.popped.rest in
        let st = stands by c in
        let all = pass_all core ann settle around.objects around.actors i h level level s.here same_level this.world this.calm.shifts.world (this.calm.top i ∙ is_top) m (λ k. InSlot i (suc h) (suc k) level)
        (arguments g.node.children) by.own.params c.found.own.params c.popped.values by.goes c.found.stands.count (λ k p a q z. stands_below core p q (c.found.stands.params k p a q z))
        (stand_under core ann settle around.objects around.actors i h level level s.here same_level w this.world (length c.under) this.calm m (arguments g.node.children) c.popped.values (values_under m (length c.popped.values) (length c.under) st.total) st.stand)
        (λ u t k q a d. (refl, subst (λ (z : ℕ). level ≤ z) (sym t) same_level)) (λ k d. refl) (inl (λ u d k. refl))
        in
        let calm = calm_both w this.world all.world around.objects around.actors i (from_place i h m)
        (calm_wider w this.world around.objects around.actors i (the_place i h (length c.under)) (from_place i h m) (λ p z. one_later i h m (length c.under) (receiver_under m (length c.popped.values) (length c.under) st.total) p z) this.calm) all.calm
        in
        let go = λ (d : ℕ) (l : Mask) (es : List Entry). TasksRise core ann f.method f.tasks d l es in
        begins_at all.world level calm.shifts.world (fields_on core ann around f fs (task.Invoke n ∷ f.tasks) w s invokes n go g all.world m calm.shifts)
        (others_on core ann around f fs (task.Invoke n ∷ f.tasks) w s invokes n go g all.world m calm.shifts)
        (rests_on core ann around f fs (task.Invoke n ∷ f.tasks) w s invokes n go g all.world m calm.shifts c.popped.rest (omega arith) st.fits)
        (calm.top i ∙ is_top) (all.calm.shifts.fits (InSlot i (suc h) 0 level) (unalias c.found.own.receiver) c.this refl this.fits) all.fit (inl refl) result

  below_result : (by : CalledRule core ann g.node name g.note) (c : Calls by) → Below core c.found.own.result by.own.result
  below_result by c = (needs.under c.found.own.result.0 by.own.result.0 (inl c.found.stands.entity), (below_iff c.found.own.result.1 by.own.result.1).1 c.found.stands.form)

  pub call_ok : CallRule core ann g.node name g.note → RegionMoveOk core ann w around fs (invoke_task core around f g.node.children (nodes.Call name))
  call_ok rule =
      let by = rule.by in
      let c = calls by in
      let i : ℕ = around.actor in
      let h : ℕ = length fs in
      let g2 : Form = unalias c.found.own.receiver in
      let less = lower_still by.receiver.1 (unalias by.own.receiver) g2 rule.receiver ((below_iff (unalias by.own.receiver) g2).1 c.found.stands.receiver) in
      begins_here by rule.kind c
      (pass_near core ann settle around.objects around.actors i h level level s.here same_level w s.world is_top (length c.under) (InSlot i (suc h) 0 level) by.receiver.1 g2 c.this less (stands by c).receiver
      (near_home w (OnStack i h (length c.under) level) by.receiver.1 g2 (InSlot i (suc h) 0 level) refl) (refl, subst (λ (z : ℕ). level ≤ z) (sym is_top) same_level))
      (subst (GoesTo core c.found.own.result) (sym rule.ty) (below_result by c))

  -- ---- a receiver that is lent

  module _ (lends : LentLaw) (rule : LendRule core ann g.node name g.note) (c : Calls rule.by) where
    comes_out : GoesTo core c.found.own.result g.note.ty × SendableSome g.note.ty
    comes_out = lent_goes core c.found.own.result rule.by.own.result (below_result rule.by c) g.note.ty rule.ty

    base_low : s.active.holds.base ≤ w.top around.actor
    base_low = let last = s.active.last in omega (arith, last)

    low_enough : (j : ℕ) → j ≤ s.active.holds.base + s.active.depth → j ≤ w.top around.actor
    low_enough j to = let last = s.active.last in omega (arith, last, to)

    within_depth : (j : ℕ) → j ≤ w.top around.actor → j ≤ s.active.holds.base + s.active.depth
    within_depth j to = let last = s.active.last in omega (arith, last, to)

    below_shallow : Shallow g.below s.active.depth
    below_shallow = piled_shallow ann s.active.depth g.node.children g.below (subst (λ (es : List Entry). Shallow es s.active.depth) g.stack s.active.shallow)

    lend_at : (a : Address) → c.this ≡ At a → RegionMoveOk core ann w around fs (invoke_task core around f g.node.children (nodes.Call name))
    lend_at a is =
        let i : ℕ = around.actor in
        let h : ℕ = length fs in
        let m : ℕ = length c.popped.rest in
        let q : ℕ = w.region a in
        let by = rule.by in
        let st = stands by c in
        let alias : AliasIn w i s.active.holds.base (w.top i) by.receiver.1 q = subst (λ (v : Value). Alias w i s.active.holds.base (w.top i) by.receiver.1 v) is (alias_of by c) in
        let under = under_alias w around.objects around.actors i s.active.holds.base by.receiver.1 q s.world s.here base_low rule.isolated alias in
        let base : ℕ = s.active.holds.base in
        let lend = lends w around.objects around.actors s.world i s.here base base_low (λ j up to. s.active.opened j up (within_depth j to)) q under.level under.free under.from under.to under.over (higher i (w.top i)) (λ p z. z) in
        let v : World = lent w i q in
        let top : v.top i ≡ suc level = lent_top w i q level is_top in
        let home_is : v.context i (suc level) ≡ q = lent_context w i q level is_top in
        let g2 : Form = unalias c.found.own.receiver in
        let this_fits : Fits v (InSlot i (suc h) 0 (suc level)) g2 c.this =
        subst (λ (z : Value). Fits v (InSlot i (suc h) 0 (suc level)) g2 z) (sym is)
        (lent_in v (InSlot i (suc h) 0 (suc level)) q by.own.receiver c.found.own.receiver rule.lent ((below_iff (unalias by.own.receiver) g2).1 c.found.stands.receiver) (sym home_is))
        in
        let all = pass_all core ann settle around.objects around.actors i h level (suc level) s.here next_level v lend.0.world top m (λ k. InSlot i (suc h) (suc k) (suc level))
        (arguments g.node.children) by.own.params c.found.own.params c.popped.values by.goes c.found.stands.count (λ k p b z y. stands_below core p z (c.found.stands.params k p b z y))
        (stand_kept ann w v i h level (λ d k z fit. lend.0.fits (OnStack i h d level) k z (not_higher i (w.top i) level (subst (λ (j : ℕ). level ≤ j) (sym is_top) same_level)) fit) m (arguments g.node.children) c.popped.values st.stand)
        (λ u t k z b d. (refl, subst (λ (j : ℕ). suc level ≤ j) (sym t) last_level)) (λ k d. refl) (inr (inr rule.sendable))
        in
        let u : World = all.world in
        let gone = λ (p : Place). higher i (w.top i) p || from_place i h m p in
        let x : Shifts w u around.objects around.actors i base gone =
        shifts_both w v u around.objects around.actors i base (higher i (w.top i)) (from_place i h m) lend.0
        (lower_shift v u around.objects around.actors i (v.top i) base (from_place i h m) (up_far base (w.top i) (v.top i) base_low (top ∙ ap suc (sym is_top))) all.calm.shifts)
        in
        let context : u.context i (suc level) ≡ q = all.calm.context i (suc level) s.here (subst (λ (j : ℕ). suc level ≤ j) (sym top) last_level) ∙ home_is in
        let open_still : OpenedTo u i base s.active.depth = λ j up to.
        let low : j ≤ w.top i = low_enough j to in
        ap u.stands (all.calm.context i j s.here (up_far j (w.top i) (v.top i) low (top ∙ ap suc (sym is_top))))
        ∙ all.calm.opened (v.context i j) i (ap w.stands (lent_before w i q j low) ∙ s.active.opened j up to)
        in
        let go = λ (d : ℕ) (l : Mask) (es : List Entry). TasksRise core ann f.method f.tasks d l es in
        let left = left_lent core ann around f fs (task.Invoke n ∷ f.tasks) w s invokes n go g m in
        begins_at by rule.kind c u (suc level) x.world (fields_low core ann around f fs (task.Invoke n ∷ f.tasks) w s invokes n go g u m gone left x)
        (others_low core ann around f fs (task.Invoke n ∷ f.tasks) w s invokes n go g u m gone left x)
        (rests_low core ann around f fs (task.Invoke n ∷ f.tasks) w s invokes n go g u m gone left x open_still c.popped.rest (omega arith) below_shallow st.fits)
        (all.calm.top i ∙ top) (all.calm.shifts.fits (InSlot i (suc h) 0 (suc level)) g2 c.this refl this_fits) all.fit
        (inr (refl, comes_out.1, under.level, under.from, up_to under.level (w.top i) level under.to is_top, subst (λ (z : ℕ). Over u i z under.level) (sym context) (all.calm.over i lend.1)))
        comes_out.0

    lend_plain : is_at c.this ≡ false → RegionMoveOk core ann w around fs (invoke_task core around f g.node.children (nodes.Call name))
    lend_plain plain =
        begins_here rule.by rule.kind c
        (record {
          world = w;
          calm = calm_same w around.objects around.actors around.actor (the_place around.actor (length fs) (length c.under)) s.world;
          fits = plain_fits w (InSlot around.actor (suc (length fs)) 0 level) (unalias c.found.own.receiver) c.this plain;
        })
        comes_out.0

    by_value : (v : Value) → c.this ≡ v → RegionMoveOk core ann w around fs (invoke_task core around f g.node.children (nodes.Call name))
    by_value (At a) is = lend_at a is
    by_value (Num k) is = lend_plain (ap is_at is)
    by_value (Truth b) is = lend_plain (ap is_at is)
    by_value (Text t) is = lend_plain (ap is_at is)
    by_value (Prim k) is = lend_plain (ap is_at is)

  pub lend_ok : LentLaw → LendRule core ann g.node name g.note → RegionMoveOk core ann w around fs (invoke_task core around f g.node.children (nodes.Call name))
  lend_ok lends rule = let c = calls rule.by in by_value lends rule c c.this refl
