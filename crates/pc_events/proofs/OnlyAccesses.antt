-- A step changes no field except the one that its actor was about to write.
use Rattle.std.specs.{Prelude.{◌≡◌, ◌≢◌, ◌⊎◌, ℕ, zero, suc, true, List, [], ◌∷◌, replicate, Option, Some, None, slice_get, refl, ⊤}, FinMap.get}
use Rattle.std.proofs.{Common.{inl, inr, ap, sym, subst, ◌∙◌}, lemmas.Option.{same_Some, none-some}, lemmas.Bool.Decides.eqb_tells}
use Rattle.pc_heap.specs.{Objects.{ObjectMap, class_at, Object}, Parts.{class_in, field_in, value_in}, Fields.{field_at, value_at}, declared.value.Address.Address, declared.value.Value.Value, declared.value.Value.TheVariants.Text}
use Rattle.pc_core.specs.{CoreData.CoreData, declared.declarations.Method.Method}
use Rattle.pc_semantics.specs.{declared.frames.Frame.Frame, declared.frames.Task.Task, declared.mailbox.Message.Message, declared.outcome.Lack.Lack, declared.outcome.Outcome.Outcome, declared.outcome.Outcome.TheVariants.{Moved, Skipped, Lacks, TooLong}, Configurations.{Configuration, Move, Stuck, Overflows, Goes, Writes, Makes, Spawns, Enters, Sends, Leaves}, Parts.number_of_fields, Step.{step, after}, Safety.access, Laws.OnlyMovesChange}
use Rattle.pc_events.specs.{Accesses.OnlyAccessed, AheadLaws.OnlyAccessesTouchFields}
use Rattle.pc_events.proofs.{Changes.{Heaping, Same, Sets, New, heaped, Change, applied, planned, plan_print, plan_begun, plan_begin, plan_message, plan}, Maps.{address_cases, get_here, get_other, Fit, class_kept, field_kept}, Right.{Blank, Right, right}, Plans.{view, plans, step_is}, Told.{Told, HeapTold, told}, Reach.{Placed, fits, after_placed}}

-- ---- what is made is blank

abbrev BlankMade : CoreData → Heaping → Type 0
BlankMade core Same = ⊤
BlankMade core (Sets a k v) = ⊤
BlankMade core (New a o) = Blank core o

abbrev MadeBy : CoreData → Change → Type 0
MadeBy core x = BlankMade core x.heap

move_blank : (core : CoreData) (h : ObjectMap) (i n : ℕ) (stack : List Value) (t : Task) (fs : List Frame) (m : Move) → Right core h i n stack t m → (x : Change) → planned n fs m ≡ Some x → MadeBy core x
move_blank core h i n stack t fs (Stuck l) r x p = absurd (none-some x p)
move_blank core h i n stack t fs Overflows r x p = absurd (none-some x p)
move_blank core h i n stack t fs (Goes f) r x p = subst (MadeBy core) (same_Some _ x p) tt
move_blank core h i n stack t fs (Writes a k v f) r x p = subst (MadeBy core) (same_Some _ x p) tt
move_blank core h i n stack t fs (Makes a o g f) r x p = subst (MadeBy core) (same_Some _ x p) r.1
move_blank core h i n stack t fs (Spawns o m f) r x p = subst (MadeBy core) (same_Some _ x p) r
move_blank core h i n stack t fs (Enters g f) r x p = subst (MadeBy core) (same_Some _ x p) tt
move_blank core h i n stack t fs (Sends j m f) r x p = subst (MadeBy core) (same_Some _ x p) tt
move_blank core h i n stack t fs (Leaves v) r x p = subst (MadeBy core) (same_Some _ x p) tt

print_blank : (core : CoreData) (vs : List Value) (x : Change) → plan_print vs ≡ Some x → MadeBy core x
print_blank core (Text t ∷ []) x p = subst (MadeBy core) (same_Some _ x p) tt
print_blank core vs x p = absurd (none-some x p)

begun_blank : (core : CoreData) (i : ℕ) (m : Message) (k : Method) (b : Option ℕ) (x : Change) → plan_begun i m k b ≡ Some x → MadeBy core x
begun_blank core i m k None x p = absurd (none-some x p)
begun_blank core i m k (Some b) x p = subst (MadeBy core) (same_Some _ x p) tt

begin_blank : (core : CoreData) (i : ℕ) (m : Message) (o : Option Method) (x : Change) → plan_begin i m o ≡ Some x → MadeBy core x
begin_blank core i m None x p = absurd (none-some x p)
begin_blank core i m (Some k) x p = begun_blank core i m k k.body x p

message_blank : (core : CoreData) (i : ℕ) (m : Message) (x : Change) → plan_message core i m ≡ Some x → MadeBy core x
message_blank core zero m x p = print_blank core m.arguments x p
message_blank core (suc i) m x p = begin_blank core (suc i) m (slice_get core.methods m.method) x p

made_blank : (core : CoreData) (c : Configuration) (i : ℕ) (x : Change) → plan core c i ≡ Some x → MadeBy core x
made_blank core c i x p =
    elim (view core c i x p) [
      | inl r ↦
          let f : Frame = record { method = r.frame.method; slots = r.frame.slots; stack = r.frame.stack; tasks = r.rest } in
          move_blank core c.objects i _ f.stack r.task r.below _ (right core c.objects i _ f r.task) x r.plans
      | inr t ↦ message_blank core i t.message x t.plans
    ]

empty_fields : (n k : ℕ) → value_in (slice_get (replicate n None) k) ≡ None
empty_fields zero k = refl
empty_fields (suc n) zero = refl
empty_fields (suc n) (suc k) = empty_fields n k

blank_empty : (core : CoreData) (o : Object) → Blank core o → (k : ℕ) → value_in (slice_get o.fields k) ≡ None
blank_empty core o b k = ap (λ (p : Object). value_in (slice_get p.fields k)) b.1 ∙ empty_fields (number_of_fields (slice_get core.entities b.0)) k

-- ---- the objects

pub absent_empty : (o : Option Object) (k : ℕ) → class_in o ≡ None → value_in (field_in o k) ≡ None
absent_empty None k e = refl
absent_empty (Some o) k e = absurd (none-some o.entity (sym e))

module _ (core : CoreData) (c : Configuration) (i : ℕ) where
  fields_but : (s : Option Message) (z : Heaping) → HeapTold core c i s z → Fit c.objects z → (a : Address) (e k : ℕ) → class_at c.objects a ≡ Some e
      → (field_at (heaped z c.objects) a k ≡ field_at c.objects a k) ⊎ (access core c i ≡ Some (record { address = a; field = k; write = true }))
  fields_but s Same t f a e k is = inl refl
  fields_but s (Sets q j v) t f a e k is =
      elim (address_cases a q) [
        | inl same ↦ elim (eqb_tells k j) [
          | inl here ↦ inr (t.2 ∙ ap (λ (b : Address). Some (record { address = b; field = j; write = true })) (sym same) ∙ ap (λ (l : ℕ). Some (record { address = a; field = l; write = true })) (sym here.1))
          | inr other ↦ inl (field_kept c.objects (Sets q j v) f a k e is (λ u. other.1 (sym u.1)))
        ]
        | inr other ↦ inl (field_kept c.objects (Sets q j v) f a k e is (λ u. other (sym u.0)))
      ]
  fields_but s (New q o) t f a e k is = inl (field_kept c.objects (New q o) f a k e is (λ u. u))

  new_empty : (z : Heaping) → BlankMade core z → Fit c.objects z → (a : Address) (k : ℕ) → class_at c.objects a ≡ None → value_at (heaped z c.objects) a k ≡ None
  new_empty Same b f a k is = absent_empty (get c.objects a) k is
  new_empty (Sets q j v) b f a k is =
      elim (address_cases a q) [
        | inl same ↦ absurd (none-some f.0.entity (sym is ∙ ap (class_at c.objects) same ∙ ap class_in f.1))
        | inr other ↦ ap (λ (o : Option Object). value_in (field_in o k)) (get_other c.objects q _ a other) ∙ absent_empty (get c.objects a) k is
      ]
  new_empty (New q o) b f a k is =
      elim (address_cases a q) [
        | inl same ↦ ap (λ (r : Address). value_at (heaped (New q o) c.objects) r k) same ∙ ap (λ (p : Option Object). value_in (field_in p k)) (get_here c.objects q o) ∙ blank_empty core o b k
        | inr other ↦ ap (λ (p : Option Object). value_in (field_in p k)) (get_other c.objects q o a other) ∙ absent_empty (get c.objects a) k is
      ]

  change_accessed : (x : Change) → Placed c → plan core c i ≡ Some x → OnlyAccessed core c (applied c i x) i
  change_accessed x placed p =
      let t : Told core c i x = told core c i x p in
      let f : Fit c.objects x.heap = fits core c i x placed t in
      record {
        stays = λ a e is. class_kept c.objects x.heap f a e is;
        fields = λ a e k is. fields_but x.spawns x.heap t.heap f a e k is;
        new = λ a k is. new_empty x.heap (made_blank core c i x p) f a k is;
      }

  unchanged : OnlyAccessed core c c i
  unchanged = record { stays = λ a e is. is; fields = λ a e k is. inl refl; new = λ a k is. absent_empty (get c.objects a) k is }

  -- ---- a step

  moved_accessed : Placed c → (step core c i).0 ≡ Moved → OnlyAccessed core c (step core c i).1 i
  moved_accessed placed e =
      let x = plans core c i e in
      subst (λ (r : Outcome × Configuration). OnlyAccessed core c r.1 i) (sym (step_is core c i x.0 x.1)) (change_accessed x.0 placed x.1)

  still : OnlyMovesChange → (step core c i).0 ≢ Moved → OnlyAccessed core c (step core c i).1 i
  still never n = subst (λ (d : Configuration). OnlyAccessed core c d i) (sym (never core c i n)) unchanged

  skipped_moved : Skipped ≡ Moved → ⊥
  skipped_moved e = cc

  lacks_moved : (l : Lack) → Lacks l ≡ Moved → ⊥
  lacks_moved l e = cc

  long_moved : TooLong ≡ Moved → ⊥
  long_moved e = cc

  by_outcome : OnlyMovesChange → Placed c → (o : Outcome) → (step core c i).0 ≡ o → OnlyAccessed core c (step core c i).1 i
  by_outcome never placed Moved e = moved_accessed placed e
  by_outcome never placed Skipped e = still never (λ m. skipped_moved (sym e ∙ m))
  by_outcome never placed (Lacks l) e = still never (λ m. lacks_moved l (sym e ∙ m))
  by_outcome never placed TooLong e = still never (λ m. long_moved (sym e ∙ m))

  pub step_accessed : OnlyMovesChange → Placed c → OnlyAccessed core c (step core c i).1 i
  step_accessed never placed = by_outcome never placed (step core c i).0 refl

pub only_accesses_touch_fields : OnlyMovesChange → OnlyAccessesTouchFields
only_accesses_touch_fields never core list i = step_accessed core (after core list) i never (after_placed core list)
