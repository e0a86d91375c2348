-- When values fit their places by regions: those of frames, of objects and of waiting messages. A configuration has
-- regions if some world makes all of them fit.
use Rattle.std.specs.{Prelude.{◌≡◌, ◌⊎◌, ℕ, suc, ◌+◌, ◌<◌, ◌≤◌, true, false, List, [], ◌∷◌, length, Option, Some, None, slice_get}, FinMap.get}
use Rattle.pc_heap.specs.{Objects.{ObjectMap, Object}, declared.value.Address.Address, declared.value.Value.Value}
use Rattle.pc_caps.specs.{Tables.{unalias, sendable_form}, declared.capability.Cap.Cap}
use Rattle.pc_core.specs.{declared.declarations.EntityDef.EntityDef, declared.declarations.FieldInfo.FieldInfo, declared.declarations.Method.Method, declared.declarations.MethodKind.MethodKind, declared.declarations.ParamInfo.ParamInfo, declared.nodes.Slot.Slot, CoreData.CoreData}
use Rattle.pc_core.specs.declared.declarations.MethodKind.TheVariants as method
use Rattle.pc_masks.specs.{declared.mask.Mask.Mask, Masks.IsInMask}
use Rattle.pc_ann.specs.declared.annotation.Ann.{Ann}
use Rattle.pc_semantics.specs.{declared.actors.Actor.Actor, declared.frames.Frame.Frame, declared.mailbox.Message.Message, Configurations.Configuration}
use Rattle.pc_sub.specs.Declarations.{isolates}
use Rattle.pc_valid.specs.Words.{Ty}
use Rattle.pc_rules.proofs.ByNumber.{slot_of}
use Rattle.pc_types.proofs.Tasks.{Within}
use Rattle.pc_regions.proofs.{World.{World, Frozen, Opened, InSlot, OnStack, InField, InMail, Fits, FitsSome, AliasSome, Over, WorldOk}, StackForms.{Entry, Shallow, Below, Ascent, Climbs, top_of, SlotsShallow, TasksRise, uses_top}}

-- ---- one frame, of actor i, with h frames below it

-- The slot of `this` holds what fits the method's receiver, at the level at which the frame began.
abbrev pub ThisFits : CoreData → World → ℕ → ℕ → ℕ → ℕ → List (Option Value) → Type 0
ThisFits core w i h m base slots =
    (x : Method) (v : Value) → slice_get core.methods m ≡ Some x → slice_get slots 0 ≡ Some (Some v) → Fits w (InSlot i h 0 base) (unalias x.receiver) v

-- Each other live slot holds what fits the slot's capability, at the level of the slot's depth.
abbrev pub SlotsFit : CoreData → Ann → World → ℕ → ℕ → ℕ → ℕ → Mask → List (Option Value) → Type 0
SlotsFit core ann w i h m base live slots =
    (s : ℕ) → 0 < s → IsInMask live s → (v : Value) → slice_get slots s ≡ Some (Some v) → (y : Slot × (ℕ × Cap)) → slot_of core ann m s ≡ Some y
    → Fits w (InSlot i h s (base + y.0.depth)) (unalias y.1.1) v

abbrev pub StackFits : World → ℕ → ℕ → ℕ → List Entry → List Value → Type 0
StackFits w i h base [] [] = Unit {0}
StackFits w i h base (e ∷ es) (v ∷ vs) = FitsSome w (OnStack i h (length vs) (base + e.depth)) e.ty v × StackFits w i h base es vs
StackFits w i h base es vs = ⊥

-- A frame but for its tasks: the level at which it began, its live slots, and what its stack holds.
pub record Holds (core : CoreData) (ann : Ann) (w : World) (i h m : ℕ) (slots : List (Option Value)) (stack : List Value) : Type 0 where
  pub base : ℕ
  pub live : Mask
  pub entries : List Entry
  pub this_fits : ThisFits core w i h m base slots
  pub slots_fit : SlotsFit core ann w i h m base live slots
  pub stack_fit : StackFits w i h base entries stack

-- The recovers of a frame, one for each depth, are open.
abbrev pub OpenedTo : World → ℕ → ℕ → ℕ → Type 0
OpenedTo w i base d = (j : ℕ) → base < j → j ≤ base + d → w.stands (w.context i j) ≡ Opened i

-- ---- frames that wait

abbrev pub SendableSome : Option Ty → Type 0
SendableSome None = Unit {0}
SendableSome (Some t) = sendable_form t.1 ≡ true

-- The frame above began at the level of the node that waits, or one level above: if it makes an object in a context of
-- its own, or if its receiver is lent. Then only what may be sent comes out, and what is over the receiver is at a
-- level of the frame that waits.
abbrev pub Entered : World → ℕ → Method → Option Ty → ℕ → ℕ → ℕ → MethodKind → Type 0
Entered w i x t base at b method.New = ((isolates x.result.1 ≡ false) × (b ≡ at)) ⊎ ((isolates x.result.1 ≡ true) × (b ≡ suc at) × (w.stands (w.context i b) ≡ Opened i))
Entered w i x t base at b k = (b ≡ at) ⊎ ((b ≡ suc at) × SendableSome t × (l : ℕ) × (base ≤ l) × (l < b) × Over w i (w.context i b) l)

-- The result goes to this type, if there is one.
abbrev pub GoesTo : CoreData → Ty → Option Ty → Type 0
GoesTo core r None = Unit {0}
GoesTo core r (Some t) = Below core r t

-- The frame waits for what method x leaves, whose frame began at level b: the value of a node of this type and depth, which then
-- goes its way up.
pub record Awaits (core : CoreData) (ann : Ann) (w : World) (i h b : ℕ) (x : Method) (f : Frame) : Type 0 where
  pub holds : Holds core ann w i h f.method f.slots f.stack
  pub call : Entry
  pub entered : Entered w i x call.ty holds.base (holds.base + call.depth) b x.kind
  pub opened : OpenedTo w i holds.base call.depth
  pub result : GoesTo core x.result call.ty
  pub way : List Ascent
  pub climbs : Climbs core way call
  pub shallow : Shallow holds.entries (top_of way call).depth
  pub deep : SlotsShallow core f.method holds.live call.depth
  pub low : Mask
  pub less : Within low holds.live
  pub not_deeper : SlotsShallow core f.method low (top_of way call).depth
  pub next : TasksRise core ann f.method f.tasks (top_of way call).depth low (top_of way call ∷ holds.entries)

abbrev pub WaitFits : CoreData → Ann → World → ℕ → ℕ → ℕ → List Frame → Type 0
WaitFits core ann w i b m [] = b ≡ 0
WaitFits core ann w i b m (f ∷ fs) =
    (x : Method) × (slice_get core.methods m ≡ Some x) × (k : Awaits core ann w i (length fs) b x f) × WaitFits core ann w i k.holds.base f.method fs

-- ---- the frames of an actor

-- What was pushed last is an alias that may be used, at the actor's last level.
abbrev pub TopAlias : World → ℕ → ℕ → List Entry → List Value → Type 0
TopAlias w i base (e ∷ es) (v ∷ vs) = AliasSome w i base (w.top i) e.ty v
TopAlias w i base es vs = Unit {0}

-- The last frame goes on at depth d, if its level is the actor's last.
pub record Active (core : CoreData) (ann : Ann) (w : World) (i h m : ℕ) (slots : List (Option Value)) (stack : List Value) : Type 0 where
  pub holds : Holds core ann w i h m slots stack
  pub depth : ℕ
  pub last : holds.base + depth ≡ w.top i
  pub opened : OpenedTo w i holds.base depth
  pub not_deeper : SlotsShallow core m holds.live depth
  pub shallow : Shallow holds.entries depth

abbrev pub FramesFit : CoreData → Ann → World → ℕ → List Frame → Type 0
FramesFit core ann w i [] = w.top i ≡ 0
FramesFit core ann w i (f ∷ fs) =
    (k : Active core ann w i (length fs) f.method f.slots f.stack) × TasksRise core ann f.method f.tasks k.depth k.holds.live k.holds.entries
    × (uses_top f.tasks ≡ true → TopAlias w i k.holds.base k.holds.entries f.stack) × WaitFits core ann w i k.holds.base f.method fs

-- ---- objects, messages and actors

-- What the fields of objects hold fits the fields' capabilities.
abbrev pub FieldsFit : CoreData → World → ObjectMap → Type 0
FieldsFit core w objects =
    (a : Address) (o : Object) (e : EntityDef) (k : ℕ) (f : FieldInfo) (v : Value) → get objects a ≡ Some o → slice_get core.entities o.entity ≡ Some e
    → slice_get e.fields k ≡ Some f → slice_get o.fields k ≡ Some (Some v) → Fits w (InField a k) (unalias f.cap) v

-- What a message brings fits the parameters.
abbrev pub MessageFits : CoreData → World → ℕ → ℕ → Message → Type 0
MessageFits core w i t m =
    (x : Method) (k : ℕ) (p : ParamInfo) (v : Value) → slice_get core.methods m.method ≡ Some x → slice_get x.params k ≡ Some p → slice_get m.arguments k ≡ Some v
    → Fits w (InMail i t k) (unalias p.cap) v

-- The messages that wait for actor i, from the one of this number on, up to the last that was sent.
abbrev pub MailFits : CoreData → World → ℕ → ℕ → List Message → Type 0
MailFits core w i t [] = t ≡ w.sent i
MailFits core w i t (m ∷ ms) = MessageFits core w i t m × MailFits core w i (suc t) ms

abbrev pub ActorFits : CoreData → Ann → World → ℕ → Actor → Type 0
ActorFits core ann w i a = ((t : ℕ) × MailFits core w i t a.mailbox) × FramesFit core ann w i a.frames

-- ---- configurations

pub record InRegions (core : CoreData) (ann : Ann) (w : World) (c : Configuration) : Type 0 where
  pub world : WorldOk w c.objects (length c.actors)
  pub fields : FieldsFit core w c.objects
  pub actors : (i : ℕ) (a : Actor) → slice_get c.actors i ≡ Some a → ActorFits core ann w i a

abbrev pub HasRegions : CoreData → Ann → Configuration → Type 0
HasRegions core ann c = (w : World) × InRegions core ann w c

-- What was frozen in world w is frozen in w'.
abbrev pub StaysFrozen : World → World → Type 0
StaysFrozen w w' = (a : Address) → Frozen w (w.region a) → Frozen w' (w'.region a)

-- Some world fits the configuration, and what was frozen in world w is frozen there.
abbrev pub LeadsOn : CoreData → Ann → World → Configuration → Type 0
LeadsOn core ann w c = (w' : World) × InRegions core ann w' c × StaysFrozen w w'
