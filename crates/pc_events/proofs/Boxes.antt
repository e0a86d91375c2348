-- What a step changes in the mailboxes, by its kind.
use Rattle.std.specs.Prelude.{◌≡◌, ◌≢◌, ◌<◌, ◌≤◌, ℕ, zero, suc, Bool, true, false, List, [], ◌∷◌, ◌++◌, length, Option, Some, None, slice_get, refl}
use Rattle.std.proofs.{Common.{inl, inr, ap, sym, subst, ◌∙◌, arith}, lemmas.Option.{same_Some, none-some}}
use Rattle.pc_core.specs.{CoreData.CoreData, declared.declarations.Method.Method}
use Rattle.pc_heap.specs.{declared.value.Value.Value, declared.value.Value.TheVariants.Text}
use Rattle.pc_semantics.specs.{declared.actors.Actor.Actor, declared.frames.Frame.Frame, declared.mailbox.Message.Message, Configurations.{Configuration, Move, Stuck, Overflows, Goes, Writes, Makes, Spawns, Enters, Sends, Leaves}, Step.left, declared.ahead.Ahead.Ahead, Ahead.{by_move, ahead_of}}
use Rattle.pc_semantics.specs.declared.ahead.Ahead.TheVariants as ahead
use Rattle.pc_events.proofs.{Changes.{Same, Sets, New, changed, going, pushing, born, sent, spawned, Change, acted, applied, local, on_heap, planned, plan_print, plan_begun, plan_begin, plan_message, plan}, Lists.{length_changed, get_changed, get_unchanged}, Plans.view, Told.{Told, told, ahead_is}, Outcomes.taking_ahead}
use Rattle.pc_base.proofs.Gets.{get_within, get_behind}
use Rattle.pc_events.specs.Before.{waiting_of, waiting_for}

-- ---- the mailboxes of a list of actors

abbrev pub waiting_in : List Actor → ℕ → ℕ
waiting_in l a = waiting_of (slice_get l a)

kept_going : (l : List Actor) (i : ℕ) (fs : List Frame) (a : ℕ) → waiting_in (changed l i (going false fs)) a ≡ waiting_in l a
kept_going [] i fs a = refl
kept_going (b ∷ bs) zero fs zero = refl
kept_going (b ∷ bs) zero fs (suc a) = refl
kept_going (b ∷ bs) (suc i) fs zero = refl
kept_going (b ∷ bs) (suc i) fs (suc a) = kept_going bs i fs a

kept_other : (l : List Actor) (i : ℕ) (g : Actor → Actor) (a : ℕ) → a ≢ i → waiting_in (changed l i g) a ≡ waiting_in l a
kept_other l i g a n = ap waiting_of (get_unchanged l i g a n)

pushed_one : (ms : List Message) (m : Message) → length (ms ++ m ∷ []) ≡ suc (length ms)
pushed_one [] m = refl
pushed_one (x ∷ xs) m = ap suc (pushed_one xs m)

pushed_there : (l : List Actor) (j : ℕ) (m : Message) → j < length l → waiting_in (changed l j (pushing m)) j ≡ suc (waiting_in l j)
pushed_there l j m b =
    let w = get_within l j b in
    ap waiting_of (get_changed l j (pushing m) w.0 w.1) ∙ pushed_one w.0.mailbox m ∙ ap (λ (o : Option Actor). suc (waiting_of o)) (sym w.1)

born_there : (l : List Actor) (m : Message) → waiting_in (l ++ born m ∷ []) (length l) ≡ 1
born_there l m = ap waiting_of (get_behind l (born m) [])

-- Who is not there has no mailbox.
pub none_behind : (l : List Actor) (a : ℕ) → length l ≤ a → slice_get l a ≡ None
none_behind [] a b = refl
none_behind (x ∷ xs) zero b = absurd (omega (arith, b))
none_behind (x ∷ xs) (suc a) b = let k : length xs ≤ a = omega (arith, b) in none_behind xs a k

born_other : (l : List Actor) (m : Message) (a : ℕ) → a ≢ length l → waiting_in (l ++ born m ∷ []) a ≡ waiting_in l a
born_other [] m zero n = absurd (n refl)
born_other [] m (suc a) n = refl
born_other (x ∷ xs) m zero n = refl
born_other (x ∷ xs) m (suc a) n = born_other xs m a (λ e. n (ap suc e))

-- ---- by what a step is

-- Actor i goes from c to d by such a step.
abbrev pub Boxes : Configuration → Configuration → ℕ → Ahead → Type 0
Boxes c d i ahead.Take = (length d.actors ≡ length c.actors) × (waiting_for c i ≡ suc (waiting_for d i))
    × ((a : ℕ) → a ≢ i → waiting_for d a ≡ waiting_for c a)
Boxes c d i (ahead.Send r) = (length d.actors ≡ length c.actors) × (r < length c.actors) × (waiting_for d r ≡ suc (waiting_for c r)) × ((a : ℕ) → a ≢ r → waiting_for d a ≡ waiting_for c a)
Boxes c d i ahead.Spawn = (length d.actors ≡ suc (length c.actors)) × (waiting_for d (length c.actors) ≡ 1) × ((a : ℕ) → a ≢ length c.actors → waiting_for d a ≡ waiting_for c a)
Boxes c d i ahead.Task = (length d.actors ≡ length c.actors) × ((a : ℕ) → waiting_for d a ≡ waiting_for c a)
Boxes c d i x = ⊥

module _ (core : CoreData) (c : Configuration) (i : ℕ) where
  abbrev To : Ahead → Change → Type 0
  To h x = Boxes c (applied c i x) i h

  task_boxes : (fs : List Frame) (x : Change) → x.takes ≡ false → x.frames ≡ fs → x.sends ≡ None → x.spawns ≡ None → To ahead.Task x
  task_boxes fs x takes frames sends spawns =
      let l : List Actor = changed c.actors i (going false fs) in
      let is : (applied c i x).actors ≡ l =
      ap (λ (o : Option Message). spawned o (acted i x c.actors)) spawns ∙ ap (λ (o : Option (ℕ × Message)). sent o (changed c.actors i (going x.takes x.frames))) sends
      ∙ ap (λ (t : Bool). changed c.actors i (going t x.frames)) takes ∙ ap (λ (gs : List Frame). changed c.actors i (going false gs)) frames
      in
      (ap (λ (m : List Actor). length m) is ∙ length_changed c.actors i (going false fs), λ a. ap (λ (m : List Actor). waiting_in m a) is ∙ kept_going c.actors i fs a)

  move_boxes : (fs : List Frame) (m : Move) (x : Change) → planned (length c.actors) fs m ≡ Some x → Told core c i x → To (by_move m) x
  move_boxes fs (Stuck l) x p t = absurd (none-some x p)
  move_boxes fs Overflows x p t = absurd (none-some x p)
  move_boxes fs (Goes f) x p t = subst (To ahead.Task) (same_Some _ x p) (task_boxes (f ∷ fs) (local (f ∷ fs)) refl refl refl refl)
  move_boxes fs (Writes q k v f) x p t = subst (To ahead.Task) (same_Some _ x p) (task_boxes (f ∷ fs) (on_heap (f ∷ fs) (Sets q k v)) refl refl refl refl)
  move_boxes fs (Makes q o g f) x p t = subst (To ahead.Task) (same_Some _ x p) (task_boxes (g ∷ f ∷ fs) (on_heap (g ∷ f ∷ fs) (New q o)) refl refl refl refl)
  move_boxes fs (Enters g f) x p t = subst (To ahead.Task) (same_Some _ x p) (task_boxes (g ∷ f ∷ fs) (local (g ∷ f ∷ fs)) refl refl refl refl)
  move_boxes fs (Leaves v) x p t = subst (To ahead.Task) (same_Some _ x p) (task_boxes (left v fs) (local (left v fs)) refl refl refl refl)
  move_boxes fs (Spawns o m f) x p t =
      let l : List Actor = changed c.actors i (going false (f ∷ fs)) in
      let same : length l ≡ length c.actors = length_changed c.actors i (going false (f ∷ fs)) in
      subst (To ahead.Spawn) (same_Some _ x p) (
        length_append_one l m ∙ ap suc same,
        subst (λ (n : ℕ). waiting_in (l ++ born m ∷ []) n ≡ 1) same (born_there l m),
        λ a n. born_other l m a (λ e. n (e ∙ same)) ∙ kept_going c.actors i (f ∷ fs) a,
      )
    where
      length_append_one : (l : List Actor) (m : Message) → length (l ++ born m ∷ []) ≡ suc (length l)
      length_append_one [] m = refl
      length_append_one (x ∷ xs) m = ap suc (length_append_one xs m)
  move_boxes fs (Sends j m f) x p t =
      let l : List Actor = changed c.actors i (going false (f ∷ fs)) in
      let same : length l ≡ length c.actors = length_changed c.actors i (going false (f ∷ fs)) in
      let told_there : Told core c i (record { takes = false; frames = f ∷ fs; heap = Same; sends = Some (j, m); spawns = None; prints = None }) = subst (Told core c i) (sym (same_Some _ x p)) t in
      let b : j < length c.actors = told_there.sends.0 in
      subst (To (ahead.Send j)) (same_Some _ x p) (
        length_changed l j (pushing m) ∙ same,
        b,
        pushed_there l j m (subst (λ (n : ℕ). j < n) (sym same) b) ∙ ap suc (kept_going c.actors i (f ∷ fs) j),
        λ a n. kept_other l j (pushing m) a n ∙ kept_going c.actors i (f ∷ fs) a,
      )

  take_boxes : (a : Actor) (m : Message) (ms : List Message) → slice_get c.actors i ≡ Some a → a.mailbox ≡ m ∷ ms → (x : Change) → x.takes ≡ true → x.sends ≡ None → x.spawns ≡ None → To ahead.Take x
  take_boxes a m ms is mail x takes sends spawns =
      let l : List Actor = changed c.actors i (going true x.frames) in
      let made : (applied c i x).actors ≡ l =
      ap (λ (o : Option Message). spawned o (acted i x c.actors)) spawns ∙ ap (λ (o : Option (ℕ × Message)). sent o (changed c.actors i (going x.takes x.frames))) sends
      ∙ ap (λ (t : Bool). changed c.actors i (going t x.frames)) takes
      in (
        ap (λ (n : List Actor). length n) made ∙ length_changed c.actors i (going true x.frames),
        ap waiting_of is ∙ ap (λ (ns : List Message). length ns) mail
            ∙ sym (ap suc (ap (λ (n : List Actor). waiting_in n i) made ∙ ap waiting_of (get_changed c.actors i (going true x.frames) a is) ∙ ap (λ (ns : List Message). length (left_behind ns)) mail)),
        λ b n. ap (λ (k : List Actor). waiting_in k b) made ∙ kept_other c.actors i (going true x.frames) b n,
      )
    where
      left_behind : List Message → List Message
      left_behind [] = []
      left_behind (y ∷ ys) = ys

-- ---- what a take changes

abbrev Alone : Change → Type 0
Alone x = (x.takes ≡ true) × (x.sends ≡ None) × (x.spawns ≡ None)

print_alone : (vs : List Value) (x : Change) → plan_print vs ≡ Some x → Alone x
print_alone (Text t ∷ []) x p = subst Alone (same_Some _ x p) (refl, refl, refl)
print_alone vs x p = absurd (none-some x p)

begun_alone : (j : ℕ) (m : Message) (k : Method) (b : Option ℕ) (x : Change) → plan_begun j m k b ≡ Some x → Alone x
begun_alone j m k None x p = absurd (none-some x p)
begun_alone j m k (Some b) x p = subst Alone (same_Some _ x p) (refl, refl, refl)

begin_alone : (j : ℕ) (m : Message) (o : Option Method) (x : Change) → plan_begin j m o ≡ Some x → Alone x
begin_alone j m None x p = absurd (none-some x p)
begin_alone j m (Some k) x p = begun_alone j m k k.body x p

message_alone : (core : CoreData) (j : ℕ) (m : Message) (x : Change) → plan_message core j m ≡ Some x → Alone x
message_alone core zero m x p = print_alone m.arguments x p
message_alone core (suc j) m x p = begin_alone (suc j) m (slice_get core.methods m.method) x p

-- ---- every step

pub boxes : (core : CoreData) (c : Configuration) (i : ℕ) (x : Change) → plan core c i ≡ Some x → Boxes c (applied c i x) i (ahead_of core c i)
boxes core c i x p =
    elim (view core c i x p) [
      | inl r ↦
          subst (λ (h : Ahead). Boxes c (applied c i x) i h) (sym (ahead_is core c i r.actor r.frame r.below r.task r.rest r.is r.frames r.tasks))
          (move_boxes core c i r.below _ x r.plans (told core c i x p))
      | inr t ↦
          let k = message_alone core i t.message x t.plans in
          subst (λ (h : Ahead). Boxes c (applied c i x) i h) (sym (taking_ahead core c i x p t)) (take_boxes core c i t.actor t.message t.rest t.is t.mail x k.0 k.1 k.2)
    ]
