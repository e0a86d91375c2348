-- Slots and fields that a sentence names.
use Rattle.std.specs.Prelude.{ℕ, zero, suc, ◌+◌, Bool, false, ◌&&◌, not, nat_eq, List, [], ◌∷◌, take, Option, Some, None, slice_get, if◌then◌else◌}
use Rattle.pc_ann.specs.declared.annotation.Note.{Note}
use Rattle.pc_base.specs.Limits.{field_limit, slot_limit}
use Rattle.pc_core.specs.{declared.nodes.Node.Node, declared.nodes.NodeKind.NodeKind, FurtherKinds.consumed_slot}
use Rattle.pc_masks.specs.{Masks.has, declared.mask.Mask.Mask}
use Rattle.pc_explain_words.specs.Scene.{child}
use Rattle.pc_explain_sentences.specs.Stop.{StopData}

-- ---- where a slot is consumed

abbrev pub is_slot : ℕ → Option ℕ → Bool
is_slot k None = false
is_slot k (Some c) = nat_eq c k

abbrev pub consumes_as : ℕ → NodeKind → Bool
consumes_as k kind = is_slot k (consumed_slot kind)

abbrev pub consumes : (method slot : ℕ) → Node → Bool
consumes m k x = nat_eq x.method m && consumes_as k x.kind

-- The start of the last of these nodes that consumes the slot.
abbrev pub last_consume : (method slot : ℕ) → Option ℕ → List Node → Option ℕ
last_consume m k found [] = found
last_consume m k found (x ∷ xs) = last_consume m k (if consumes m k x then Some x.span.start else found) xs

-- Among the nodes before this one.
unfoldable pub consumed_at : StopData → ℕ → Option ℕ
consumed_at st k = last_consume st.at.method k None (take st.number st.scene.core.nodes)

-- ---- what a loop does not preserve

-- The first of `count` numbers, from this one on, that passes, or 0.
abbrev pub least : (ℕ → Bool) → (count from : ℕ) → ℕ
least p zero k = 0
least p (suc n) k = if p k then k else least p n (k + 1)

abbrev pub note_in : StopData → Option ℕ → Option Note
note_in st None = None
note_in st (Some c) = slice_get st.scene.notes c

-- The note of a loop's body.
abbrev pub loop_body_note : StopData → Option Note
loop_body_note st = note_in st (child st.at 1)

abbrev pub live_after : StopData → Option Note → Mask
live_after st None = st.live
live_after st (Some t) = t.live_after

abbrev pub set_after : StopData → Option Note → Mask
set_after st None = st.set
set_after st (Some t) = t.set_after

abbrev pub is_lost : Mask → Mask → ℕ → Bool
is_lost before after k = has before k && not (has after k)

abbrev pub differs : Mask → Mask → ℕ → Bool
differs before after k = if has before k then not (has after k) else has after k

-- The first slot that is live before a loop, but not after its body.
unfoldable pub lost_slot : StopData → ℕ
lost_slot st = least (is_lost st.live (live_after st (loop_body_note st))) slot_limit 0

-- The first field that is set in the loop's body.
unfoldable pub looped_field : StopData → ℕ
looped_field st = least (differs st.set (set_after st (loop_body_note st))) field_limit 0
