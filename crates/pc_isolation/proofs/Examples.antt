-- The examples, computed. The laws of maps determine what is at an address.
use Rattle.std.specs.{Prelude.{◌≡◌, ◌≢◌, ℕ, zero, suc, Bool, true, false, [], ◌∷◌, Some, None, slice_get, refl}, FinMap.{empty, get, get-empty}}
use Rattle.std.proofs.{Common.{ap, sym, subst, ◌∙◌, arith}, lemmas.Option.{same_Some, none-some}}
use Rattle.pc_base.proofs.Bools.{false_true}
use Rattle.pc_heap.specs.{Objects.{address_cmp, Object}, declared.value.Address.Address, declared.value.Value.Value, declared.value.Value.TheVariants.At}
use Rattle.pc_caps.specs.{Tables.sendable, declared.capability.Cap.Cap}
use Rattle.pc_caps.specs.declared.capability.Cap.TheVariants as cap
use Rattle.pc_core.specs.{Entities.nowhere, declared.declarations.Method.Method, declared.declarations.ParamInfo.ParamInfo}
use Rattle.pc_core.specs.declared.declarations.MethodKind.TheVariants as method
use Rattle.pc_semantics.specs.{declared.access.Access.Access, declared.actors.Actor.Actor, declared.frames.Task.Task, declared.mailbox.Message.Message, Programs.constructor_of, Safety.{access, LetAlone, QuietMessage, Quiet}}
use Rattle.pc_semantics.specs.declared.frames.Task.TheVariants as task
use Rattle.pc_events.proofs.Maps.{get_after}
use Rattle.pc_isolation.specs.{Isolated.{itself, further, Inside}, Examples.{taking, whole, part, about_to, WaitingIsSeen}}

get_none : (b : Address) → get (empty {X = Object} {R = address_cmp}) b ≡ None
get_none b = get-empty address_cmp b

ruleset gets = (get_after, get_none)

-- ---- the message

abbrev brought : Message
brought = record { method = 1; arguments = At whole ∷ [] }

abbrev parameter : Cap → ParamInfo
parameter q = record { entity = 6; cap = q; span = nowhere }

abbrev taker : Cap → Method
taker q = constructor_of 7 method.Be (parameter q ∷ []) 2 3

abbrev Alone : Cap → Address → Task → Type 0
Alone q a t = LetAlone (taking q) (about_to a t) (parameter q) (At whole)

alone : (q : Cap) (a : Address) (t : Task) → Quiet (taking q) (about_to a t) → Alone q a t
alone q a t quiet =
    let m = quiet 1 _ refl 0 brought refl in
    let same : taker q ≡ m.method = same_Some (taker q) m.method m.is_method in
    m.arguments 0 (parameter q) (At whole) (ap (λ (x : Method). slice_get x.params 0) (sym same)) refl

module _ (q : Cap) (may : sendable q ≡ true) (a : Address) (t : Task) (let_alone : Alone q a t) where
  params_sendable : (k : ℕ) (p : ParamInfo) → slice_get (parameter q ∷ []) k ≡ Some p → sendable p.cap ≡ true
  params_sendable zero p e = subst (λ (z : ParamInfo). sendable z.cap ≡ true) (same_Some (parameter q) p e) may
  params_sendable (suc k) p e = absurd (none-some p e)

  arguments_alone : (k : ℕ) (p : ParamInfo) (v : Value) → slice_get (parameter q ∷ []) k ≡ Some p → slice_get (At whole ∷ []) k ≡ Some v → LetAlone (taking q) (about_to a t) p v
  arguments_alone zero p v e h =
      subst (λ (z : ParamInfo). LetAlone (taking q) (about_to a t) z v) (same_Some (parameter q) p e) (subst (LetAlone (taking q) (about_to a t) (parameter q)) (same_Some (At whole) v h) let_alone)
  arguments_alone (suc k) p v e h = absurd (none-some p e)

  quiet_message : QuietMessage (taking q) (about_to a t) 1 brought
  quiet_message = record {
    method = taker q;
    is_method = refl;
    own = simp gets refl;
    count = refl;
    sendable = params_sendable;
    arguments = arguments_alone;
  }

  quiet : Quiet (taking q) (about_to a t)
  quiet zero b is k m at = absurd (none-some m (ap (λ (z : Actor). slice_get z.mailbox k) (same_Some _ b is) ∙ at))
  quiet (suc zero) b is zero m at = subst (QuietMessage (taking q) (about_to a t) 1) (same_Some brought m (ap (λ (z : Actor). slice_get z.mailbox 0) (same_Some _ b is) ∙ at)) quiet_message
  quiet (suc zero) b is (suc k) m at = absurd (none-some m (ap (λ (z : Actor). slice_get z.mailbox (suc k)) (same_Some _ b is) ∙ at))
  quiet (suc (suc j)) b is k m at = absurd (none-some b is)

-- ---- what is touched

abbrev touches : Address → Bool → Access
touches a write = record { address = a; field = 0; write = write }

whole_read : (q : Cap) → access (taking q) (about_to whole (task.Get 1)) 1 ≡ Some (touches whole false)
whole_read q = simp gets refl

whole_written : (q : Cap) → access (taking q) (about_to whole (task.Put 2)) 1 ≡ Some (touches whole true)
whole_written q = simp gets refl

part_is_read : (q : Cap) → access (taking q) (about_to part (task.Get 1)) 1 ≡ Some (touches part false)
part_is_read q = simp gets refl

-- Only actor 1 touches anything.
only_touch : (q : Cap) (a : Address) (t : Task) (z : Access) → access (taking q) (about_to a t) 1 ≡ Some z → (i : ℕ) (x : Access) → access (taking q) (about_to a t) i ≡ Some x → z ≡ x
only_touch q a t z known zero x e = absurd (none-some x e)
only_touch q a t z known (suc zero) x e = same_Some z x (sym known ∙ e)
only_touch q a t z known (suc (suc i)) x e = absurd (none-some x e)

iso_no_val : cap.Iso ≡ cap.Val → ⊥
iso_no_val e = cc

val_no_iso : cap.Val ≡ cap.Iso → ⊥
val_no_iso e = cc

part_no_whole : part ≢ whole
part_no_whole e = let bad : 2 ≡ 1 = ap (λ (a : Address). a.serial) e in absurd (omega (arith, bad))

val_alone : Alone cap.Val whole (task.Get 1)
val_alone = record {
  iso = λ e a at i x touched here. val_no_iso e;
  val = λ e a at i x touched writes here. false_true (ap (λ (y : Access). y.write) (only_touch cap.Val whole (task.Get 1) _ (whole_read cap.Val) i x touched) ∙ writes);
}

part_alone : Alone cap.Iso part (task.Get 1)
part_alone = record {
  iso = λ e a at i x touched here. part_no_whole (ap (λ (y : Access). y.address) (only_touch cap.Iso part (task.Get 1) _ (part_is_read cap.Iso) i x touched) ∙ here ∙ sym (same_Some whole a at));
  val = λ e a at i x touched writes here. iso_no_val e;
}

part_in_it : Inside (taking cap.Iso) (about_to part (task.Get 1)) 1 0 0 part
part_in_it = (whole, record { message = brought; waits = refl; declared = refl; argument = refl }, further whole cap.Ref (itself refl) refl (record { place = 0; declared = simp gets refl; holds = simp gets refl }))

pub waiting_is_seen : WaitingIsSeen
waiting_is_seen = record {
  iso_read = λ quiet. (alone cap.Iso whole (task.Get 1) quiet).iso refl whole refl 1 (touches whole false) (whole_read cap.Iso) refl;
  val_written = λ quiet. (alone cap.Val whole (task.Put 2) quiet).val refl whole refl 1 (touches whole true) (whole_written cap.Val) refl refl;
  val_read = quiet cap.Val refl whole (task.Get 1) val_alone;
  part_inside = part_in_it;
  part_read = quiet cap.Iso refl part (task.Get 1) part_alone;
  part_touched = λ isolated. isolated.untouched 1 0 0 part part_in_it 1 (touches part false) (part_is_read cap.Iso) refl;
}
