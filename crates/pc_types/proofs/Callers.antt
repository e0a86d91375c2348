-- What a call leaves behind: the frame that waits for the method's value, and an object that begins.
use Rattle.std.specs.{Prelude.{◌≡◌, ◌≢◌, ℕ, Bool, true, false, List, [], ◌∷◌, Option, Some, slice_get, nat_eq, length, refl}, FinMap.insert}
use Rattle.std.proofs.{Common.{inl, inr, ap, sym, subst, ◌∙◌, arith}, lemmas.Option.same_Some, lemmas.Bool.eq-eqb}
use Rattle.pc_heap.specs.{Objects.{ObjectMap, Object}, declared.value.Address.Address, declared.value.Value.Value, declared.value.Value.TheVariants.At}
use Rattle.pc_tree.specs.{declared.kinds.EntityKind.EntityKind, declared.kinds.MethodWord.MethodWord, Kinds.{is_abstract, may_have_fields, may_stand}}
use Rattle.pc_tree.specs.declared.kinds.EntityKind.TheVariants as kind
use Rattle.pc_tree.specs.declared.kinds.MethodWord.TheVariants as word
use Rattle.pc_tree.proofs.KindFacts.{created}
use Rattle.pc_core.specs.{declared.declarations.EntityDef.EntityDef, declared.declarations.Method.Method, declared.declarations.MethodKind.MethodKind, declared.declarations.ParamInfo.ParamInfo, declared.nodes.Node.Node, CoreData.CoreData, Methods.StandsIn, Entities.{constructor_kind, word_kind}}
use Rattle.pc_core.specs.declared.declarations.MethodKind.TheVariants as method
use Rattle.pc_masks.specs.{declared.mask.Mask.Mask, Masks.{IsInMask, empty}, MaskLaws.first_bits}
use Rattle.pc_ann.specs.{declared.annotation.Note.Note, declared.annotation.Ann.Ann}
use Rattle.pc_semantics.specs.{declared.frames.Frame.Frame, Configurations.{blank_object, Around, with_stack}}
use Rattle.pc_rules.specs.{Parts.constructs, Control.start_set, Fields.is_this}
use Rattle.pc_valid.specs.Words.{Masks}
use Rattle.pc_base.proofs.Bools.{false_true}
use Rattle.pc_types.proofs.{Types.{Lower, ArgumentsOk, Want, wanted, StackOk}, Tasks.{Within, Follows, TasksOk}, Frames.{ThisOk, FrameOk, leaves, WaitOk}, Moves.Runs, Needs.Needs, Basic.{within_trans, trans_lower}, Begin.arguments_length, Growth.class_is, Heaps.get_here, Running.{fewer_slots, fewer_set, frame_in}}

-- ---- masks after a call

-- What a note leaves is there if what its children leave is.
pub left_within : (o : Option Masks) (b c : Masks) (live set l s : Mask) → o ≡ Some b → o ≡ Some c → live ≡ c.0 → set ≡ c.1 → Within b.0 l → Within b.1 s → Within live l × Within set s
left_within o b c live set l s e g is_live is_set wl ws =
    let same : b ≡ c = same_Some b c (sym e ∙ g) in (
      λ i h. wl i (subst (λ (p : Masks). IsInMask p.0 i) (sym same) (subst (λ (p : Mask). IsInMask p i) is_live h)),
      λ i h. ws i (subst (λ (p : Masks). IsInMask p.1 i) (sym same) (subst (λ (p : Mask). IsInMask p i) is_set h)),
    )

-- ---- methods

-- The arguments are as many as the parameters.
pub counts : (core : CoreData) (objects : ObjectMap) (vs : List Value) (ps : List ParamInfo) → ArgumentsOk core objects vs ps → nat_eq (length vs) (length ps) ≡ true
counts core objects vs ps k = eq-eqb (length vs) (length ps) (arguments_length core objects vs ps k)

-- A class's constructor is in a class, an actor's in an actor, and a behaviour in an actor, a trait or an interface.
pub class_of_new : (m : MethodKind) (k : EntityKind) → m ≡ method.New → StandsIn m k → k ≡ kind.Class
class_of_new m k e h = by h.0 h.1 (h.2 ∙ e)
  where
    by : (w : MethodWord) → may_stand k w ≡ true → word_kind k w ≡ method.New → k ≡ kind.Class
    by word.Fun s q = absurd (cc)
    by word.Be s q = absurd (cc)
    by word.New s q = elim (created k s) [ inl c ↦ c | inr a ↦ let bad : method.Spawn ≡ method.New = ap constructor_kind (sym a) ∙ q in absurd (cc) ]

pub actor_of_spawn : (m : MethodKind) (k : EntityKind) → m ≡ method.Spawn → StandsIn m k → k ≡ kind.Actor
actor_of_spawn m k e h = by h.0 h.1 (h.2 ∙ e)
  where
    by : (w : MethodWord) → may_stand k w ≡ true → word_kind k w ≡ method.Spawn → k ≡ kind.Actor
    by word.Fun s q = absurd (cc)
    by word.Be s q = absurd (cc)
    by word.New s q = elim (created k s) [ inl c ↦ let bad : method.New ≡ method.Spawn = ap constructor_kind (sym c) ∙ q in absurd (cc) | inr a ↦ a ]

no_spawn : (k : EntityKind) → constructor_kind k ≡ method.Be → ⊥
no_spawn kind.Class q = cc
no_spawn kind.Actor q = cc
no_spawn kind.Primitive q = cc
no_spawn kind.Trait q = cc
no_spawn kind.Interface q = cc

pub actor_of_be : (m : MethodKind) (k : EntityKind) → m ≡ method.Be → StandsIn m k → is_abstract k ≡ false → k ≡ kind.Actor
actor_of_be m k e h n = by h.0 h.1 (h.2 ∙ e)
  where
    go : (k : EntityKind) → may_stand k word.Be ≡ true → is_abstract k ≡ false → k ≡ kind.Actor
    go kind.Actor s n = refl
    go kind.Class s n = absurd (false_true s)
    go kind.Primitive s n = absurd (false_true s)
    go kind.Trait s n = absurd (false_true (sym n))
    go kind.Interface s n = absurd (false_true (sym n))

    by : (w : MethodWord) → may_stand k w ≡ true → word_kind k w ≡ method.Be → k ≡ kind.Actor
    by word.Fun s q = absurd (cc)
    by word.Be s q = go k s n
    by word.New s q = absurd (no_spawn k q)

pub class_no_trait : (k : EntityKind) → k ≡ kind.Class → is_abstract k ≡ false
class_no_trait k c = ap is_abstract c

-- The first method is a behaviour.
pub not_print : (core : CoreData) (ann : Ann) (needs : Needs core ann) (m : ℕ) (f : Method) (k : MethodKind) → slice_get core.methods m ≡ Some f → f.kind ≡ k → k ≢ method.Be → m ≢ 0
not_print core ann needs m f k at is other zero = other (sym is ∙ ap (λ (g : Method). g.kind) (same_Some f _ (sym at ∙ ap (slice_get core.methods) zero ∙ needs.formed.built_in.method)))

-- ---- an object that begins

no_bit : (i : ℕ) → IsInMask empty i → ⊥
no_bit i h = let p = ((first_bits 0 i).0 h).0 in absurd (omega (arith, p))

pub nothing_set : (core : CoreData) (f : Method) (i : ℕ) → constructs f.kind ≡ true → IsInMask (start_set core f) i → ⊥
nothing_set core f i c h = no_bit i (rw c at h)

-- The object of a class or an actor, as `this` of a constructor that begins.
pub born_this : (core : CoreData) (h : ObjectMap) (a : Address) (f : Method) (owner : EntityDef) → slice_get core.entities f.entity ≡ Some owner → may_have_fields owner.kind ≡ true → constructs f.kind ≡ true → ThisOk core (insert h a (blank_object core f.entity)) f (start_set core f) (At a)
born_this core h a f owner is has c =
    let o : Object = blank_object core f.entity in
    record {
      is_entity = class_is (insert h a o) a o (get_here h a o);
      kind = (owner, is, has);
      finished = λ n s. absurd (false_true (sym n ∙ c));
      fields = λ b. (o, get_here h a o, λ i bit. absurd (nothing_set core f i c bit));
    }

-- ---- the frame that waits

pub plain_want : (w : Want) (b : Bool) → w.own ≡ b → (b ≡ true → ⊥) → w ≡ wanted w.ty
plain_want w true e n = absurd (n refl)
plain_want w false e n = ap (λ (own : Bool). record { ty = w.ty; own = own }) e

module _ (core : CoreData) (ann : Ann) (needs : Needs core ann) (around : Around) (f : Frame) (fs : List Frame) (r : Runs core ann around f fs) (x : Node) (t : Note) (below : List Want) (o : Follows core x t below (λ l s g. TasksOk core ann f.method f.tasks l s g)) where
  module _ (vs : List Value) (call : is_this x.kind ≡ true → ⊥) (live : Within t.live_after r.held.live) (set : Within t.set_after r.held.set) (stack : StackOk core around.objects r.held.this below vs) where
    -- It goes on with a value of what is wanted.
    abbrev pub caller_ok : FrameOk core ann around.objects (wanted o.goal.ty ∷ []) (with_stack f vs)
    caller_ok =
        frame_in core ann needs around f fs r around.objects (wanted o.goal.ty ∷ []) o.live o.set below f.slots vs f.tasks refl refl
        (fewer_set core around.objects r.held.own r.held.set o.set r.held.this (within_trans o.set t.set_after r.held.set o.set_left set) r.held.this_ok)
        (fewer_slots core ann around.objects r.held.own r.held.live o.live f.slots (within_trans o.live t.live_after r.held.live o.live_left live) r.held.slots_ok) stack
        (subst (λ (w : Want). TasksOk core ann f.method f.tasks o.live o.set (w ∷ below)) (plain_want o.goal o.goal.own refl (λ h. call (o.this h))) o.next)

    -- It and the frames below it wait for what method m leaves.
    pub waits_ok : (m : ℕ) (own : Method) (this : Value) → slice_get core.methods m ≡ Some own → leaves own.kind ≡ true → Lower core (Some own.result) t.ty → WaitOk core ann around.objects around.actor m this (with_stack f vs ∷ fs)
    waits_ok m own this at gives low = (own, at, gives, o.goal.ty, trans_lower core ann needs (Some own.result) t.ty o.goal.ty low o.fits, caller_ok, r.wait)
