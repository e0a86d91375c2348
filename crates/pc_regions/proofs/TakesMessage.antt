-- An idle actor takes its first message, in regions: what the message held is held by the slots of the frame that begins.
use Rattle.std.specs.Prelude.{◌≡◌, ◌≢◌, ◌⊎◌, ℕ, zero, suc, ◌<◌, ◌≤◌, Bool, true, false, ◌&&◌, cond, List, [], ◌∷◌, length, Option, Some, None, nat_eq, slice_get, refl}
use Rattle.std.proofs.{Common.{inl, inr, ap, sym, subst, ◌∙◌, arith, length-set}, lemmas.Bool.{eq-eqb, ne_eqb, cases_Bool, and_from, and_left, and_right, cond-true, cond-false}, lemmas.Option.same_Some}
use Rattle.pc_heap.specs.{Objects.ObjectMap, declared.value.Address.Address, declared.value.Value.Value, declared.value.Value.TheVariants.{Num, Truth, Text, Prim, At}}
use Rattle.pc_base.proofs.{Gets.get_below, Bools.false_true}
use Rattle.pc_caps.specs.{Tables.{unalias, sendable}, declared.capability.Cap.Cap, declared.capability.Form.Form}
use Rattle.pc_caps.specs.declared.capability.Cap.TheVariants as cap
use Rattle.pc_caps.specs.declared.capability.Form.TheVariants as form
use Rattle.pc_core.specs.{declared.declarations.Method.Method, declared.declarations.MethodKind.MethodKind, declared.declarations.ParamInfo.ParamInfo, CoreData.CoreData, Entities.print_method, Methods.ResultFits}
use Rattle.pc_core.specs.declared.declarations.MethodKind.TheVariants as method
use Rattle.pc_base.specs.Lists.{Each}
use Rattle.pc_ann.specs.declared.annotation.Ann.{Ann}
use Rattle.pc_semantics.specs.{declared.actors.Actor.Actor, declared.frames.Frame.Frame, declared.mailbox.Message.Message, Configurations.{Configuration, with_actor, with_frames, own_address, first_frame}, Step.printed_text, Parts.begin_method}
use Rattle.pc_valid.specs.Words.{Ty}
use Rattle.pc_sub.specs.Declarations.{takes_sendable}
use Rattle.pc_types.proofs.{Types.ArgumentsOk, Typed.{MessageOk, MailOk, FirstMailOk, WellTyped}, Needs.Needs, Values.own_no_trait, Growth.object_of}
use Rattle.pc_regions.proofs.{World.{Place, InSlot, OnStack, InField, InMail, Standing, Unused, Froze, Opened, Loose, Held, Child, World, home, steady, Fits, Alias, AliasSome, Over, WorldOk}, StackForms.Entry, Fitting.{TopAlias, FramesFit, MailFits, ActorFits, InRegions, LeadsOn}, Waiting.{holds_kept, wait_kept}, MoveMade.set_cases, FirstFrame.{ArgumentsAt, begins_active, begins_body}, Schedules.TakesRegions}
use Rattle.pc_regions.proofs.SameRegions as renewed

-- ---- the world in which a message is taken

-- Each argument of message t for actor i is in the slot after `this` with the same number.
abbrev arrived : ℕ → ℕ → Place → Place
arrived i t (InMail j n k) = cond (nat_eq i j && nat_eq t n) (InSlot i 0 (suc k) 0) (InMail j n k)
arrived i t p = p

abbrev arrive : ℕ → ℕ → Standing → Standing
arrive i t (Held p) = Held (arrived i t p)
arrive i t s = s

abbrev received : World → ℕ → ℕ → World
received w i t = record { region = w.region; stands = λ x. arrive i t (w.stands x); role = w.role; context = w.context; top = w.top; sent = w.sent; next = w.next }

abbrev of_message : ℕ → ℕ → Place → Bool
of_message i t (InMail j n k) = nat_eq i j && nat_eq t n
of_message i t p = false

stays_put : (i t : ℕ) (p : Place) → of_message i t p ≡ false → arrived i t p ≡ p
stays_put i t (InSlot j h s l) e = refl
stays_put i t (OnStack j h d l) e = refl
stays_put i t (InField a k) e = refl
stays_put i t (InMail j n k) e = cond-false (nat_eq i j && nat_eq t n) (InSlot i 0 (suc k) 0) (InMail j n k) e

was_child : (i t u : ℕ) (at : Option Place) (s : Standing) → arrive i t s ≡ Child u at → s ≡ Child u at
was_child i t u at (Child v to) e = e
was_child i t u at Unused e = e
was_child i t u at Froze e = e
was_child i t u at (Opened j) e = e
was_child i t u at (Loose j l) e = e
was_child i t u at (Held p) e = absurd (cc)

was_field : (i t : ℕ) (a : Address) (k : ℕ) (p : Place) → arrived i t p ≡ InField a k → p ≡ InField a k
was_field i t a k (InSlot j h s l) e = e
was_field i t a k (OnStack j h d l) e = e
was_field i t a k (InField b n) e = e
was_field i t a k (InMail j n m) e =
    elim (cases_Bool (nat_eq i j && nat_eq t n)) [
      | inl y ↦ absurd (slot_is (sym (cond-true (nat_eq i j && nat_eq t n) (InSlot i 0 (suc m) 0) (InMail j n m) y) ∙ e))
      | inr y ↦ absurd (mail_is (sym (cond-false (nat_eq i j && nat_eq t n) (InSlot i 0 (suc m) 0) (InMail j n m) y) ∙ e))
    ]
  where
    slot_is : InSlot i 0 (suc m) 0 ≡ InField a k → ⊥
    slot_is f = cc

    mail_is : InMail j n m ≡ InField a k → ⊥
    mail_is f = cc

was_held : (i t : ℕ) (a : Address) (k : ℕ) (s : Standing) → arrive i t s ≡ Held (InField a k) → s ≡ Held (InField a k)
was_held i t a k (Held p) e = ap Held (was_field i t a k p (cc))
was_held i t a k (Child v to) e = absurd (cc)
was_held i t a k Unused e = absurd (cc)
was_held i t a k Froze e = absurd (cc)
was_held i t a k (Opened j) e = absurd (cc)
was_held i t a k (Loose j l) e = absurd (cc)

was_empty : (i t : ℕ) (s : Standing) → arrive i t s ≡ Unused → s ≡ Unused
was_empty i t (Held p) e = absurd (cc)
was_empty i t (Child v to) e = e
was_empty i t Unused e = e
was_empty i t Froze e = e
was_empty i t (Opened j) e = e
was_empty i t (Loose j l) e = e

module _ (w : World) (i t : ℕ) where
  moves : (x : ℕ) (s : Standing) → w.stands x ≡ s → arrive i t s ≡ s → (received w i t).stands x ≡ s
  moves x s e stays = ap (arrive i t) e ∙ stays

  children : (x u : ℕ) (at : Option Place) → w.stands x ≡ Child u at → (to : Option Place) × ((received w i t).stands x ≡ Child u to) × (steady at ≡ true → steady to ≡ true)
  children x u at e = (at, moves x (Child u at) e refl, λ s. s)

  homes : (p : Place) → of_message i t p ≡ false → home (received w i t) p ≡ home w p
  homes (InSlot j h s l) g = refl
  homes (OnStack j h d l) g = refl
  homes (InField a n) g = refl
  homes (InMail j n k) g = refl

  fits_on : (p : Place) (f : Form) (v : Value) → of_message i t p ≡ false → Fits w p f v → Fits (received w i t) p f v
  fits_on p f v g e =
      renewed.fits_same w (received w i t) (λ a. refl) (λ y e. moves y Froze e refl) (λ y a n e. moves y (Held (InField a n)) e refl) children
      (of_message i t) homes (λ x p g e. moves x (Held p) e (ap Held (stays_put i t p g))) (λ x u p g e. moves x (Child u (Some p)) e refl) p f v g e

  over_on : (j l x : ℕ) → Over w j x l → Over (received w i t) j x l
  over_on j l x o =
      renewed.over_same w (received w i t) (λ a. refl) (λ y e. moves y Froze e refl) (λ y a n e. moves y (Held (InField a n)) e refl) children j l
      (λ y e. moves y (Loose j l) e refl) (λ y h s e. moves y (Held (InSlot j h s l)) e refl) (λ y e. e) (λ y u e. e) o

  alias_on : (j c k : ℕ) (f : Form) (v : Value) → Alias w j c k f v → Alias (received w i t) j c k f v
  alias_on j c k f v a =
      renewed.alias_same w (received w i t) (λ a. refl) (λ y e. moves y Froze e refl) (λ y a m e. moves y (Held (InField a m)) e refl) children j k
      (λ l x u o. over_on j l x o) (λ x l o e. e) (λ x at e r. r) (λ x u at e. (at, was_child i t u at (w.stands x) e)) refl c f v a

  opened_on : (x j : ℕ) → w.stands x ≡ Opened j → (received w i t).stands x ≡ Opened j
  opened_on x j e = moves x (Opened j) e refl

  world_on : (objects : ObjectMap) (count : ℕ) → WorldOk w objects count → WorldOk (received w i t) objects count
  world_on objects count ok = record {
    zero = ok.zero;
    named = ok.named;
    roles = ok.roles;
    root = λ j there. opened_on (w.context j 0) j (ok.root j there);
    own = ok.own;
    contexts = λ j l there u.
        elim (ok.contexts j l there u) [
          | inl e ↦ inl (opened_on (w.context j l) j e)
          | inr o ↦ inr (o.0, o.1, over_on j o.0 (w.context j l) o.2)
        ];
    unused = λ x more. (moves x Unused (ok.unused x more).0 refl, (ok.unused x more).1);
    regions = ok.regions;
    parents = λ x u at e. ok.parents x u at (was_child i t u at (w.stands x) e);
    holders = λ x a n e. ok.holders x a n (was_held i t a n (w.stands x) e);
    absent = λ a e. moves (w.region a) Unused (ok.absent a e) refl;
    present = λ a o e u. ok.present a o e (was_empty i t (w.stands (w.region a)) u);
    homes = λ j l there u. ok.homes j l there (was_empty i t (w.stands (w.context j l)) u);
  }

  -- ---- an argument

  held_now : (x k : ℕ) → w.stands x ≡ Held (InMail i t k) → (received w i t).stands x ≡ Held (InSlot i 0 (suc k) 0)
  held_now x k e = ap (arrive i t) e ∙ ap Held (cond-true (nat_eq i i && nat_eq t t) (InSlot i 0 (suc k) 0) (InMail i t k) (and_from (nat_eq i i) (nat_eq t t) (eq-eqb i i refl) (eq-eqb t t refl)))

  argument_in : (k : ℕ) (p : Cap) (a : Address) → sendable p ≡ true → Fits w (InMail i t k) (unalias p) (At a) → Fits (received w i t) (InSlot i 0 (suc k) 0) (unalias p) (At a)
  argument_in k cap.Iso a s e = held_now (w.region a) k e
  argument_in k cap.Val a s e = renewed.frozen_same w (received w i t) (λ a. refl) (λ y e. moves y Froze e refl) (λ y a n e. moves y (Held (InField a n)) e refl) children e
  argument_in k cap.Tag a s e = tt
  argument_in k cap.Trn a s e = absurd (false_true s)
  argument_in k cap.Ref a s e = absurd (false_true s)
  argument_in k cap.Box a s e = absurd (false_true s)

  argument_on : (k : ℕ) (p : Cap) (v : Value) → sendable p ≡ true → Fits w (InMail i t k) (unalias p) v → Fits (received w i t) (InSlot i 0 (suc k) 0) (unalias p) v
  argument_on k p (At a) s e = argument_in k p a s e
  argument_on k p (Num n) s e = tt
  argument_on k p (Truth b) s e = tt
  argument_on k p (Text x) s e = tt
  argument_on k p (Prim n) s e = tt

-- Each argument fits, if there are as many as parameters.
arguments_at : (core : CoreData) (objects : ObjectMap) (w : World) (at : ℕ → Place) (ps : List ParamInfo) (vs : List Value) → ArgumentsOk core objects vs ps
    → ((n : ℕ) (p : ParamInfo) (v : Value) → slice_get ps n ≡ Some p → slice_get vs n ≡ Some v → Fits w (at n) (unalias p.cap) v) → ArgumentsAt w at ps vs
arguments_at core objects w at [] [] typed fit = tt
arguments_at core objects w at [] (v ∷ vs) typed fit = absurd typed
arguments_at core objects w at (p ∷ ps) [] typed fit = absurd typed
arguments_at core objects w at (p ∷ ps) (v ∷ vs) typed fit =
    (fit 0 p v refl refl, arguments_at core objects w (λ n. at (suc n)) ps vs typed.1 (λ n q u e g. fit (suc n) q u e g))

-- ---- what the others have

module _ (core : CoreData) (ann : Ann) (w : World) (i t : ℕ) where
  some_alias : (j b k : ℕ) (u : Option Ty) (v : Value) → AliasSome w j b k u v → AliasSome (received w i t) j b k u v
  some_alias j b k None v a = tt
  some_alias j b k (Some u) v a = alias_on w i t j b k u.1 v a

  top_alias : (j base : ℕ) (es : List Entry) (vs : List Value) → TopAlias w j base es vs → TopAlias (received w i t) j base es vs
  top_alias j base [] vs a = tt
  top_alias j base (e ∷ es) [] a = tt
  top_alias j base (e ∷ es) (v ∷ vs) a = some_alias j base (w.top j) e.ty v a

  frames_on : (j : ℕ) (fs : List Frame) → FramesFit core ann w j fs → FramesFit core ann (received w i t) j fs
  frames_on j [] k = k
  frames_on j (f ∷ fs) k =
      let slots = λ (h s l : ℕ) (g : Form) (v : Value) (low : h < suc (length fs)) (x : Fits w (InSlot j h s l) g v). fits_on w i t (InSlot j h s l) g v refl x in
      let stacks = λ (h d l : ℕ) (g : Form) (v : Value) (low : h < suc (length fs)) (x : Fits w (OnStack j h d l) g v). fits_on w i t (OnStack j h d l) g v refl x in
      let over = λ (m l : ℕ) (up : m ≤ k.0.holds.base) (low : l < k.0.holds.base) (x : Over w j (w.context j m) l). over_on w i t j l (w.context j m) x in
      let ajar = λ (l : ℕ) (up : l ≤ k.0.holds.base) (x : w.stands (w.context j l) ≡ Opened j). opened_on w i t (w.context j l) j x in (
        record {
          holds = holds_kept core ann w (received w i t) j (suc (length fs)) slots stacks k.0.holds.base ajar over (length fs) f.method f.slots f.stack (omega arith) k.0.holds;
          depth = k.0.depth;
          last = k.0.last;
          opened = λ l a z. opened_on w i t (w.context j l) j (k.0.opened l a z);
          not_deeper = k.0.not_deeper;
          shallow = k.0.shallow;
        },
        k.1,
        λ u. top_alias j k.0.holds.base k.0.holds.entries f.stack (k.2 u),
        wait_kept core ann w (received w i t) j (suc (length fs)) slots stacks k.0.holds.base ajar over k.0.holds.base f.method fs (omega arith) (omega arith) k.3,
      )

  other_message : (j n : ℕ) → ((i ≢ j) ⊎ (t ≢ n)) → (nat_eq i j && nat_eq t n) ≡ false
  other_message j n (inl d) = and_left (nat_eq i j) (nat_eq t n) (ne_eqb i j d)
  other_message j n (inr d) = and_right (nat_eq i j) (nat_eq t n) (ne_eqb t n d)

  later : (j n : ℕ) → (i ≢ j) ⊎ (t < n) → (i ≢ j) ⊎ (t ≢ n)
  later j n (inl d) = inl d
  later j n (inr l) = inr (λ e. omega (arith, l, e))

  next_one : (j n : ℕ) → (i ≢ j) ⊎ (t < n) → (i ≢ j) ⊎ (t < suc n)
  next_one j n (inl d) = inl d
  next_one j n (inr l) = inr (omega (arith, l))

  mail_on : (j n : ℕ) (ms : List Message) → (i ≢ j) ⊎ (t < n) → MailFits core w j n ms → MailFits core (received w i t) j n ms
  mail_on j n [] o k = k
  mail_on j n (m ∷ ms) o k =
      (λ x q p v a b d. fits_on w i t (InMail j n q) (unalias p.cap) v (other_message j n (later j n o)) (k.0 x q p v a b d), mail_on j (suc n) ms (next_one j n o) k.1)

-- ---- the message is taken

module _ (core : CoreData) (ann : Ann) (needs : Needs core ann) (c : Configuration) (typed : WellTyped core ann c) (w : World) (g : InRegions core ann w c) (i : ℕ) (a : Actor) (is : slice_get c.actors i ≡ Some a) (none : a.frames ≡ []) (m : Message) (ms : List Message) (at : a.mailbox ≡ m ∷ ms) where
  -- What the actor had.
  had : ((t : ℕ) × MailFits core w i t (m ∷ ms)) × (w.top i ≡ 0)
  had =
      let k = g.actors i a is in
      (subst (λ (x : List Message). (t : ℕ) × MailFits core w i t x) at k.0, subst (λ (fs : List Frame). FramesFit core ann w i fs) none k.1)

  -- The stream prints.
  idle : InRegions core ann w (with_actor c i (record { mailbox = ms; frames = [] }))
  idle = record {
    world = subst (WorldOk w c.objects) (sym (length-set c.actors i (record { mailbox = ms; frames = [] }))) g.world;
    fields = g.fields;
    actors = λ j b e.
        elim (set_cases c.actors i (record { mailbox = ms; frames = [] }) j b e) [
          | inl p ↦ subst (λ (n : ℕ). ActorFits core ann w n b) (sym p.0) (subst (ActorFits core ann w i) (sym p.1) ((suc had.0.0, had.0.1.1), had.1))
          | inr q ↦ g.actors j b q.1
        ];
  }

  prints : (vs : List Value) → i ≡ 0 → LeadsOn core ann w (printed_text c (record { mailbox = ms; frames = [] }) vs).1
  prints [] first = (w, g, λ b f. f)
  prints (Text x ∷ []) first =
      let k : InRegions core ann w (with_actor c 0 (record { mailbox = ms; frames = [] })) = subst (λ (n : ℕ). InRegions core ann w (with_actor c n (record { mailbox = ms; frames = [] }))) first idle in
      (w, record { world = k.world; fields = k.fields; actors = k.actors }, λ b f. f)
  prints (Num n ∷ vs) first = (w, g, λ b f. f)
  prints (Truth b ∷ vs) first = (w, g, λ b f. f)
  prints (Prim n ∷ vs) first = (w, g, λ b f. f)
  prints (At x ∷ vs) first = (w, g, λ b f. f)
  prints (Text x ∷ v ∷ vs) first = (w, g, λ b f. f)

  -- Another actor begins a method.
  module _ (k : MethodKind) (msg : MessageOk core c.objects i k m) (how : (k ≡ method.Spawn) ⊎ (k ≡ method.Be)) (more : 0 < i) where
    abbrev t : ℕ
    t = had.0.0

    sends : Each (λ n p. sendable p.cap ≡ true) msg.own.params
    sends =
        let takes_those : takes_sendable msg.own.kind msg.own.result.1 ≡ true = elim how [
          | inl s ↦ ap (λ (z : MethodKind). takes_sendable z msg.own.result.1) (msg.kind ∙ s)
          | inr b ↦ ap (λ (z : MethodKind). takes_sendable z msg.own.result.1) (msg.kind ∙ b)
        ] in
        needs.valid.declarations.sendable m.method msg.own msg.is_own takes_those

    receives : msg.own.receiver ≡ cap.Ref
    receives =
        let fits = (needs.formed.methods m.method msg.own msg.is_own).result_fits in
        elim how [
          | inl s ↦ (subst (λ (z : MethodKind). ResultFits z msg.own) (msg.kind ∙ s) fits).0
          | inr b ↦ (subst (λ (z : MethodKind). ResultFits z msg.own) (msg.kind ∙ b) fits).0
        ]

    arguments_in : ArgumentsAt (received w i t) (λ n. InSlot i 0 (suc n) 0) msg.own.params m.arguments
    arguments_in =
        arguments_at core c.objects (received w i t) (λ n. InSlot i 0 (suc n) 0) msg.own.params m.arguments msg.arguments
        (λ n p v e h. argument_on w i t n p.cap v (sends n p e) (had.0.1.0 msg.own n p v msg.is_own e h))

    this_in : Fits (received w i t) (InSlot i 0 0 0) (unalias msg.own.receiver) (At (own_address i))
    this_in = subst (λ (z : Cap). Fits (received w i t) (InSlot i 0 0 0) (unalias z) (At (own_address i))) (sym receives) (g.world.own i (get_below c.actors i a is))

    begun : (b : ℕ) → msg.own.body ≡ Some b → m.method ≢ 0 → FramesFit core ann (received w i t) i (first_frame m.method msg.own (At (own_address i)) m.arguments b ∷ [])
    begun b has other = (
      begins_active core ann needs m.method msg.own msg.is_own other (received w i t) i 0 0 (At (own_address i)) m.arguments this_in arguments_in had.1,
      inr (begins_body core ann needs m.method msg.own msg.is_own other b has),
      λ e. absurd (false_true e),
      refl,
    )

    goes : (b : ℕ) → msg.own.body ≡ Some b → m.method ≢ 0 → InRegions core ann (received w i t) (with_frames c i (record { mailbox = ms; frames = [] }) (first_frame m.method msg.own (At (own_address i)) m.arguments b ∷ []))
    goes b has other = record {
      world = subst (WorldOk (received w i t) c.objects) (sym (length-set c.actors i (record { mailbox = ms; frames = first_frame m.method msg.own (At (own_address i)) m.arguments b ∷ [] }))) (world_on w i t c.objects (length c.actors) g.world);
      fields = λ x o e n f v h r u z. fits_on w i t (InField x n) (unalias f.cap) v refl (g.fields x o e n f v h r u z);
      actors = λ j y e.
          elim (set_cases c.actors i (record { mailbox = ms; frames = first_frame m.method msg.own (At (own_address i)) m.arguments b ∷ [] }) j y e) [
            | inl p ↦ subst (λ (n : ℕ). ActorFits core ann (received w i t) n y) (sym p.0)
                (subst (ActorFits core ann (received w i t) i) (sym p.1) ((suc t, mail_on core ann w i t i (suc t) ms (inr (omega arith)) had.0.1.1), begun b has other))
            | inr q ↦ let old = g.actors j y q.1 in
                ((old.0.0, mail_on core ann w i t j old.0.0 y.mailbox (inl (λ same. q.0 (sym same))) old.0.1), frames_on core ann w i t j y.frames old.1)
          ];
    }

    begins : LeadsOn core ann w (begin_method c i (record { mailbox = ms; frames = [] }) m (slice_get core.methods m.method)).1
    begins =
        let own = msg.own in
        let o = object_of c.objects (own_address i) own.entity msg.home in
        let ok = typed.objects.each (own_address i) o.0 o.1 in
        let owner = ok.0.entity in
        let is_owner : slice_get core.entities own.entity ≡ Some owner = ap (slice_get core.entities) (sym o.2) ∙ ok.0.is_entity in
        let other : m.method ≢ 0 = λ zero.
        let print : own ≡ print_method needs.formed.built_in.print = same_Some own _ (sym msg.is_own ∙ ap (slice_get core.methods) zero ∙ needs.formed.built_in.method) in
        let bad : i ≡ 0 = ok.1.stream (o.2 ∙ ap (λ (x : Method). x.entity) print) in
        absurd (omega (arith, more, bad))
        in
        let body = needs.has_body m.method own owner msg.is_own other is_owner (own_no_trait core ann needs c.objects own.entity owner (At (own_address i)) (owner, is_owner, ok.0.placed) msg.home is_owner) in
        rw (msg.is_own, body.1) (received w i t, goes body.0 body.1 other, λ b f. fits_on w i t (InField (own_address i) 0) form.Val (At b) refl f)

  -- ---- whichever message it is

  message_of : (x : List Message) → x ≡ m ∷ ms → (FirstMailOk core c.objects i x ⊎ MailOk core c.objects i x) → (k : MethodKind) × MessageOk core c.objects i k m × ((k ≡ method.Spawn) ⊎ (k ≡ method.Be))
  message_of x e (inl k) = let y : FirstMailOk core c.objects i (m ∷ ms) = subst (FirstMailOk core c.objects i) e k in (method.Spawn, y.0, inl refl)
  message_of x e (inr k) = let y : MailOk core c.objects i (m ∷ ms) = subst (MailOk core c.objects i) e k in (method.Be, y.0, inr refl)

  waiting : (k : MethodKind) × MessageOk core c.objects i k m × ((k ≡ method.Spawn) ⊎ (k ≡ method.Be))
  waiting =
      elim (typed.actors i a is) [
        | inl k ↦ message_of a.mailbox at (inl k.1)
        | inr k ↦ message_of a.mailbox at (inr k.1)
      ]

pub takes_regions : TakesRegions
takes_regions core ann needs c typed w g zero a is none m ms at = prints core ann needs c typed w g zero a is none m ms at m.arguments refl
takes_regions core ann needs c typed w g (suc i) a is none m ms at =
    let k = waiting core ann needs c typed w g (suc i) a is none m ms at in
    begins core ann needs c typed w g (suc i) a is none m ms at k.0 k.1 k.2 (omega arith)
