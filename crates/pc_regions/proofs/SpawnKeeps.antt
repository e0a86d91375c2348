-- The task Spawn, by regions: the arguments settle in the constructor's message, the new actor has its object in a region of its own,
-- and the address goes up as a `tag`.
use Rattle.std.specs.{Prelude.{◌≡◌, ◌≢◌, ℕ, ◌+◌, ◌<◌, ◌≤◌, true, List, ◌∷◌, length, Option, None, refl}, FinMap.{get, insert}}
use Rattle.std.proofs.{Common.{inl, inr, ap, sym, subst, ◌∙◌, arith}, lemmas.Bool.{lt-ltb, ltb-true}}
use Rattle.pc_heap.specs.{Objects.ObjectMap, declared.value.Address.Address, declared.value.Value.Value, declared.value.Value.TheVariants.At}
use Rattle.pc_caps.specs.Tables.{unalias, sendable}
use Rattle.pc_core.specs.{declared.declarations.Method.Method, declared.declarations.MethodKind.MethodKind, CoreData.CoreData}
use Rattle.pc_core.specs.declared.nodes.NodeKind.TheVariants as nodes
use Rattle.pc_base.specs.Lists.{Each}
use Rattle.pc_masks.specs.declared.mask.Mask.{Mask}
use Rattle.pc_ann.specs.declared.annotation.Ann.{Ann}
use Rattle.pc_semantics.specs.{declared.frames.Frame.Frame, Configurations.{own_address, blank_object, Around}, Calls.spawn_task}
use Rattle.pc_semantics.specs.declared.frames.Task.TheVariants as task
use Rattle.pc_sub.specs.Declarations.{takes_sendable}
use Rattle.pc_valid.specs.Words.{Ty}
use Rattle.pc_types.proofs.{Types.OfSome, Tasks.{FinishOk, spawns, TasksOk}, Moves.Runs, Needs.Needs, Made.own_free, Popped.popped_is, SpawnTask.{spawns_is, one_more, Spawning, spawning, spawn_move, born_typed}}
use Rattle.pc_regions.proofs.{World.{Place, InSlot, OnStack, InField, InMail, World, FitsSome, AliasSome}, StackForms.{Entry, FinishRises, TasksRise}, Fitting.MessageFits, MoveFits.{among, Others, Turned, Situated, RegionMoveOk}, Settled.SettleLaw, Climbed.ClimbLaw, Schedules.KeepsRegions, FirstFrame.message_fits, ArgumentsSettle.{sent_form, Passed, pass_all}, CallerKept.{pushes_of, children_on, live_left, follows_at, fields_on, others_on, rests_on}, CallBegins.finish_at, Rising.{Pushes, rise, others_both}, WorldGrows.Grows, GrownFits.{others_grown, fields_grown, rests_grown, arguments_grown}, NewActor.{born, born_grows, born_world, new_top, new_sent}, Arguments.{ChildrenStand, same_params}}

-- ---- one actor more

last_of : (n : ℕ) → n < n + 1
last_of n = omega arith

among_more : (n : ℕ) (p : Place) → among n p ≡ true → among (n + 1) p ≡ true
among_more n (InSlot j h s l) e = lt-ltb j (n + 1) (one_more j n (ltb-true j n e))
among_more n (OnStack j h d l) e = lt-ltb j (n + 1) (one_more j n (ltb-true j n e))
among_more n (InField a k) e = refl
among_more n (InMail j t k) e = refl

-- What is preserved of this many actors is preserved of one fewer.
others_fewer : (w w' : World) (i n : ℕ) → Others w w' i (n + 1) None → Others w w' i n None
others_fewer w w' i n o = record {
  fits = λ p f v e m k. o.fits p f v e (among_more n p m) k;
  sent = λ j low. o.sent j (one_more j n low);
  top = λ j low differ. o.top j (one_more j n low) differ;
  opened = λ j l low differ e. o.opened j l (one_more j n low) differ e;
  over = λ j m l low differ k. o.over j m l (one_more j n low) differ k;
  alias = λ j b f v low differ a. o.alias j b f v (one_more j n low) differ a;
}

module _ (settle : SettleLaw) (core : CoreData) (climb : ClimbLaw core) (ann : Ann) (needs : Needs core ann) (around : Around) (f : Frame) (fs : List Frame) (r : Runs core ann around f fs) (n : ℕ)
    (e : FinishOk core ann f.method r.held.live r.held.set r.held.wants spawns n (λ l s g. TasksOk core ann f.method f.tasks l s g)) (w : World) (s : Situated core ann w around f (task.Spawn n ∷ f.tasks) fs)
    (g : FinishRises core ann f.method s.active.depth s.active.holds.live s.active.holds.entries spawns n (λ d l st. TasksRise core ann f.method f.tasks d l st)) (k : ℕ) (is_spawn : g.node.kind ≡ nodes.Spawn k) where
  abbrev i : ℕ
  i = around.actor

  abbrev count : ℕ
  count = around.actors

  abbrev h : ℕ
  h = length fs

  abbrev base : ℕ
  base = s.active.holds.base

  abbrev level : ℕ
  level = s.active.holds.base + s.active.depth

  abbrev go : ℕ → Mask → List Entry → Type 0
  go d l es = TasksRise core ann f.method f.tasks d l es

  abbrev here : FinishOk core ann f.method r.held.live r.held.set r.held.wants spawns n (λ l s g. TasksOk core ann f.method f.tasks l s g)
  here = finish_at core ann f.method r.held.live r.held.set r.held.wants spawns n (λ l s g. TasksOk core ann f.method f.tasks l s g) e g.node g.note g.is_node g.is_note

  abbrev has : Spawning core ann around.objects r.held.this e.below f.stack g.node g.note k
  has = spawning core ann needs around f fs r n here k is_spawn

  abbrev own : Method
  own = has.rule.own

  abbrev values : List Value
  values = has.popped.values

  abbrev rest : List Value
  rest = has.popped.rest

  -- The new actor's object, and the objects with it.
  abbrev a : Address
  a = own_address around.actors

  abbrev new : ObjectMap
  new = insert around.objects a (blank_object core own.entity)

  is_top : w.top i ≡ level
  is_top = sym s.active.last

  same_level : level ≤ level
  same_level = omega arith

  stand : ChildrenStand ann w i h base s.active.depth g.node.children g.below values rest
  stand =
      children_on core ann around f fs (task.Spawn n ∷ f.tasks) w s spawns n go g values rest
      (popped_is core around.objects r.held.this e.below f.stack (length g.node.children) own.params has.popped)

  -- ---- the arguments are in the message

  sent : Each (λ j p. sendable p.cap ≡ true) own.params
  sent = needs.valid.declarations.sendable k own has.rule.is_own (ap (λ (j : MethodKind). takes_sendable j own.result.1) has.spawn)

  abbrev all : Passed core ann settle around.objects count i h level level s.here same_level w (length rest) (λ j. InMail count 0 j) own.params values
  all =
      pass_all core ann settle around.objects count i h level level s.here same_level w s.world is_top (length rest) (λ j. InMail count 0 j)
      g.node.children own.params own.params values has.rule.goes refl (same_params core own.params) stand.stand
      (λ u t j z y c. sent_form z.cap (sent j z y)) (λ j c. refl) (inr (inl sent))

  none : get around.objects a ≡ None
  none = own_free core around.objects count r.objects

  abbrev v : World
  v = born all.world count

  grown : Grows all.world v around.objects count
  grown = born_grows all.world around.objects count all.calm.shifts.world none

  pushes : Pushes core ann v new (count + 1) i f.method base s.active.depth s.active.holds.live g.below f.slots rest fs
  pushes =
      let rests = rests_grown all.world v around.objects count grown core ann i f.method base s.active.depth s.active.holds.live g.below f.slots rest fs s.here
      (rests_on core ann around f fs (task.Spawn n ∷ f.tasks) w s spawns n go g all.world (length rest) all.calm.shifts rest (omega arith) stand.fits)
      in
      pushes_of core ann v new (count + 1) i f.method base s.active.depth s.active.holds.live g.below f.slots rest fs rests
      (born_world all.world around.objects count all.calm.shifts.world none (blank_object core own.entity))
      (fields_grown all.world v around.objects count grown core a own.entity (fields_on core ann around f fs (task.Spawn n ∷ f.tasks) w s spawns n go g all.world (length rest) all.calm.shifts))
      (one_more i count s.here) (grown.top i s.here ∙ all.calm.top i ∙ is_top)

  -- ---- the address goes up

  rises : (w' : World) × Turned core ann v w' i (count + 1) None new (count + 1) (record { method = f.method; slots = f.slots; stack = At a ∷ rest; tasks = f.tasks } ∷ fs)
  rises =
      rise core ann climb new (count + 1) i f.method base s.active.depth s.active.holds.live g.below f.slots rest fs v pushes g.note.live_after g.note.ty (At a) f.tasks
      (live_left core ann around f fs (task.Spawn n ∷ f.tasks) w s spawns n go g has.rule.behind has.rule.is_behind has.rule.live)
      (subst (λ (t : Option Ty). OfSome core new t (At a)) (sym has.rule.ty_is) (born_typed core ann needs around f fs r n here k is_spawn has))
      (subst (λ (t : Option Ty). FitsSome v (OnStack i h (length rest) level) t (At a)) (sym has.rule.ty_is) tt)
      (subst (λ (t : Option Ty). AliasSome v i base level t (At a)) (sym has.rule.ty_is) tt)
      (follows_at core ann around f fs (task.Spawn n ∷ f.tasks) w s spawns n go g)

  message_in : MessageFits core v count 0 (record { method = k; arguments = values })
  message_in = message_fits core v count 0 k own values has.rule.is_own (arguments_grown all.world v around.objects count grown (λ j. InMail count 0 j) own.params values (λ j. tt) all.fit)

  one_sent : (b c : ℕ) → b ≡ c + 0 → c ≡ 1 → b ≡ 1
  one_sent b c x y = omega (arith, x, y)

  not_last : i ≢ count
  not_last is = let low = s.here in omega (arith, is, low)

  pub spawn_in : RegionMoveOk core ann w around fs (spawn_task core around f g.node.children (nodes.Spawn k))
  spawn_in =
      let u : World = all.world in
      let up = rises in
      let more = up.1.others in
      spawn_move core ann needs around f fs r n here k is_spawn (RegionMoveOk core ann w around fs) has (
        up.0,
        record {
          world = up.1.world;
          fields = up.1.fields;
          others = others_both w v up.0 i count
              (others_both w u v i count (others_on core ann around f fs (task.Spawn n ∷ f.tasks) w s spawns n go g u (length rest) all.calm.shifts) (others_grown u v around.objects count grown i))
              (others_fewer v up.0 i count more);
          frames = up.1.frames;
        },
        λ x j q z b c d. more.fits (InMail count 0 j) (unalias q.cap) z refl refl (message_in x j q z b c d),
        one_sent (up.0.sent count) (v.sent count) (more.sent count (last_of count)) (new_sent u around.objects count all.calm.shifts.world none),
        more.top count (last_of count) not_last ∙ new_top u around.objects count all.calm.shifts.world none,
      )

pub regions_spawn : SettleLaw → ((core : CoreData) (ann : Ann) → Needs core ann → ClimbLaw core) → (n : ℕ) → KeepsRegions (task.Spawn n)
regions_spawn settle climb n core ann needs around f fs r e w s =
    let g = s.tasks in
    let k = spawns_is g.node.kind g.kind in
    rw (g.is_node, k.1) (spawn_in settle core (climb core ann needs) ann needs around f fs r n e w s g k.0 k.1)
