-- A move that preserves what it has to leaves a well-typed configuration, and lacks nothing.
use Rattle.std.specs.{Prelude.{◌≡◌, ◌≢◌, ℕ, zero, suc, ◌+◌, ◌<◌, ◌≤◌, true, List, [], ◌∷◌, ◌++◌, length, replicate, Option, Some, None, slice_get, slice_set, refl}, FinMap.{get, insert}}
use Rattle.std.proofs.{Common.{inl, inr, ap, sym, subst, ◌∙◌, arith, length-set, length-append}, lemmas.Option.{same_Some, none-some}, lemmas.List.length-replicate}
use Rattle.pc_heap.specs.{Objects.{ObjectMap, made_by, next_address, with_field, with_value, Object}, declared.value.Address.Address, declared.value.Value.Value}
use Rattle.pc_heap.proofs.Counts.{made_same}
use Rattle.pc_tree.specs.{declared.kinds.EntityKind.EntityKind, Kinds.may_have_fields}
use Rattle.pc_tree.specs.declared.kinds.EntityKind.TheVariants as kind
use Rattle.pc_base.proofs.Gets.{get_within, get_push, get_set}
use Rattle.pc_core.specs.{declared.declarations.EntityDef.EntityDef, declared.declarations.FieldInfo.FieldInfo, CoreData.CoreData, Formed.Formed}
use Rattle.pc_core.specs.declared.declarations.MethodKind.TheVariants as method
use Rattle.pc_ann.specs.declared.annotation.Ann.{Ann}
use Rattle.pc_semantics.specs.{declared.actors.Actor.Actor, declared.frames.Frame.Frame, declared.mailbox.Message.Message, declared.outcome.Lack.Lack, declared.outcome.Outcome.Outcome, declared.outcome.Outcome.TheVariants.Lacks, Configurations.{Configuration, with_actor, with_frames, own_address, blank_object, Move, Stuck, Overflows, Goes, Writes, Makes, Spawns, Enters, Sends, Leaves}, Parts.{with_objects, number_of_fields, delivered}, Step.{left, made, around}}
use Rattle.pc_types.proofs.{Types.OfType, Frames.FramesOk, Typed.{field_type, ObjectOk, PlaceOk, ObjectsOk, MessageOk, MailOk, FirstMailOk, ActorOk, WellTyped}, Moves.{SpawnOk, MoveOk}, Growth.{Extends, class_kept, of_kept, object_kept, mail_kept, actor_kept}, Heaps.{put_or_before, fresh_extends, written, write_extends, made_grows, made_here, fresh}}

-- The configuration is well typed, and the step lacks nothing.
abbrev pub StepOk : CoreData → Ann → Outcome × Configuration → Type 0
StepOk core ann r = WellTyped core ann r.1 × ((l : Lack) → r.0 ≢ Lacks l)

-- ---- objects

module _ (core : CoreData) where
  -- The address of an object, when there are no fewer actors and objects.
  place_kept : (old new : ObjectMap) (n k : ℕ) (a : Address) (e : ℕ) → n ≤ k → made_by old a.maker ≤ made_by new a.maker → PlaceOk core old n a e → PlaceOk core new k a e
  place_kept old new n k a e l m p =
      let first = p.maker in
      let below = p.serial in
      record { maker = omega (arith, l, first); serial = omega (arith, m, below); first = p.first; stream = p.stream }

  -- A field's value is another of its type.
  set_object : (old new : ObjectMap) (o : Object) (k : ℕ) (v : Value) (e : EntityDef) (f : FieldInfo) → Extends old new → slice_get core.entities o.entity ≡ Some e → slice_get e.fields k ≡ Some f → OfType core old (field_type f) v → ObjectOk core old o → ObjectOk core new (with_field o k v)
  set_object old new o k v e f x is_e is_f fits ok =
      let same : ok.entity ≡ e = same_Some ok.entity e (sym ok.is_entity ∙ is_e) in
      record {
        entity = ok.entity;
        is_entity = ok.is_entity;
        placed = ok.placed;
        room = length-set o.fields k (Some v) ∙ ok.room;
        fields = λ i g w at is.
            elim (get_set o.fields k (Some v) i (Some w) is) [
              | inl p ↦ let this : Some w ≡ Some v = p.1 in
                  let field : f ≡ g = same_Some f g (sym is_f ∙ ap (λ (d : EntityDef). slice_get d.fields k) (sym same) ∙ ap (slice_get ok.entity.fields) (sym p.0) ∙ at) in
                  subst (λ (y : Value). OfType core new (field_type g) y) (sym (same_Some w v this)) (subst (λ (d : FieldInfo). OfType core new (field_type d) v) field (of_kept old new x core (field_type f) v fits))
              | inr q ↦ of_kept old new x core (field_type g) w (ok.fields i g w at q)
            ];
      }

  at_most : (n m : ℕ) → m ≡ n → n ≤ m
  at_most n m e = omega (arith, e)

  pub write_objects : (h : ObjectMap) (n : ℕ) (a : Address) (k : ℕ) (v : Value) (o : Object) (e : EntityDef) (f : FieldInfo) → ObjectsOk core h n → get h a ≡ Some o → slice_get core.entities o.entity ≡ Some e → slice_get e.fields k ≡ Some f → OfType core h (field_type f) v → ObjectsOk core (with_value h a k v) n
  write_objects h n a k v o e f ok stands is_e is_f fits =
      let p : Object = with_field o k v in
      let is : with_value h a k v ≡ insert h a p = written h a k v o stands in
      let x : Extends h (insert h a p) = subst (Extends h) is (write_extends h a k v o stands) in
      subst (λ (new : ObjectMap). ObjectsOk core new n) (sym is) (record {
        each = λ q y at.
            elim (put_or_before h a p q y at) [
              | inl same ↦ let new : ObjectOk core (insert h a p) p = set_object h (insert h a p) o k v e f x is_e is_f fits (ok.each a o stands).0 in
                  let place : PlaceOk core (insert h a p) n a o.entity = place_kept h (insert h a p) n n a o.entity (omega arith) (at_most (made_by h a.maker) _ (made_same h a p o a.maker stands)) (ok.each a o stands).1 in
                  subst (λ (z : Object). ObjectOk core (insert h a p) z × PlaceOk core (insert h a p) n q z.entity) (sym same.1) (subst (λ (z : Address). ObjectOk core (insert h a p) p × PlaceOk core (insert h a p) n z o.entity) (sym same.0) (new, place))
              | inr before ↦ let was = ok.each q y before in
                  (object_kept h (insert h a p) x core y was.0, place_kept h (insert h a p) n n q y.entity (omega arith) (at_most (made_by h q.maker) _ (made_same h a p o q.maker stands)) was.1)
            ];
        stream = class_kept h (insert h a p) x _ 5 ok.stream;
      })

  -- ---- new objects

  pub no_value : {T : Type 0} (n i : ℕ) (v : T) → slice_get (replicate n None) i ≡ Some (Some v) → ⊥
  no_value zero i v e = none-some (Some v) e
  no_value (suc n) zero v e = none-some v (same_Some None (Some v) e)
  no_value (suc n) (suc i) v e = no_value n i v e

  pub blank_ok : (h : ObjectMap) (e : ℕ) (x : EntityDef) → slice_get core.entities e ≡ Some x → may_have_fields x.kind ≡ true → ObjectOk core h (blank_object core e)
  blank_ok h e x is placed = record {
    entity = x;
    is_entity = is;
    placed = placed;
    room = length-replicate (number_of_fields (slice_get core.entities e)) None ∙ ap number_of_fields is;
    fields = λ i f v at has. absurd (no_value (number_of_fields (slice_get core.entities e)) i v has);
  }

  -- One object more, at a free address.
  pub add_objects : (h : ObjectMap) (n k : ℕ) (a : Address) (o : Object) → ObjectsOk core h n → n ≤ k → get h a ≡ None → ObjectOk core (insert h a o) o → PlaceOk core (insert h a o) k a o.entity → ObjectsOk core (insert h a o) k
  add_objects h n k a o ok l none new place =
      let x : Extends h (insert h a o) = fresh_extends h a o none in
      record {
        each = λ q y at.
            elim (put_or_before h a o q y at) [
              | inl same ↦ subst (λ (z : Object). ObjectOk core (insert h a o) z × PlaceOk core (insert h a o) k q z.entity) (sym same.1) (subst (λ (z : Address). ObjectOk core (insert h a o) o × PlaceOk core (insert h a o) k z o.entity) (sym same.0) (new, place))
              | inr before ↦ let was = ok.each q y before in
                  (object_kept h (insert h a o) x core y was.0, place_kept h (insert h a o) n k q y.entity l (made_grows h a o q.maker none) was.1)
            ];
        stream = class_kept h (insert h a o) x _ 5 ok.stream;
      }

  -- The next address of an actor is free.
  pub next_free : (h : ObjectMap) (n i : ℕ) → ObjectsOk core h n → get h (next_address h i) ≡ None
  next_free h n i ok = fresh h i (λ o e. (ok.each (next_address h i) o e).1.serial) (get h (next_address h i)) refl

  free_in : (h : ObjectMap) (n : ℕ) → ObjectsOk core h n → (p : Option Object) → get h (own_address n) ≡ p → p ≡ None
  free_in h n ok None e = refl
  free_in h n ok (Some o) e = let l = (ok.each (own_address n) o e).1.maker in absurd (omega (arith, l))

  -- The address of the next actor is free.
  pub own_free : (h : ObjectMap) (n : ℕ) → ObjectsOk core h n → get h (own_address n) ≡ None
  own_free h n ok = free_in h n ok (get h (own_address n)) refl

  no_class : (k : EntityKind) → k ≡ kind.Class → k ≡ kind.Actor → ⊥
  no_class k c a = let bad : kind.Class ≡ kind.Actor = sym c ∙ a in cc

  pub make_objects : (formed : Formed core) (h : ObjectMap) (n i e : ℕ) (x : EntityDef) → ObjectsOk core h n → i < n → slice_get core.entities e ≡ Some x → x.kind ≡ kind.Class → ObjectsOk core (insert h (next_address h i) (blank_object core e)) n
  make_objects formed h n i e x ok l is class =
      let a : Address = next_address h i in
      let o : Object = blank_object core e in
      let none : get h a ≡ None = next_free h n i ok in
      add_objects h n n a o ok (omega arith) none (blank_ok (insert h a o) e x is (ap may_have_fields class)) (record {
        maker = l;
        serial = made_here h a o none;
        first = λ y at actor. absurd (no_class x.kind class (ap (λ (z : EntityDef). z.kind) (same_Some x y (sym is ∙ at)) ∙ actor));
        stream = λ five. absurd (no_class x.kind class (ap (λ (z : EntityDef). z.kind) (same_Some x _ (sym is ∙ ap (slice_get core.entities) five ∙ formed.built_in.stream))));
      })

  pub spawn_objects : (h : ObjectMap) (n e : ℕ) (x : EntityDef) → ObjectsOk core h n → slice_get core.entities e ≡ Some x → x.kind ≡ kind.Actor → e ≢ 5 → ObjectsOk core (insert h (own_address n) (blank_object core e)) (n + 1)
  spawn_objects h n e x ok is actor other =
      let a : Address = own_address n in
      let o : Object = blank_object core e in
      let none : get h a ≡ None = own_free h n ok in
      let more = made_here h a o none in
      add_objects h n (n + 1) a o ok (omega arith) none (blank_ok (insert h a o) e x is (ap may_have_fields actor)) (record {
        maker = omega arith;
        serial = omega (arith, more);
        first = λ y at act. refl;
        stream = λ five. absurd (other five);
      })

-- ---- configurations

module _ (core : CoreData) (ann : Ann) where
  -- Other frames and another mailbox of one actor.
  pub actor_typed : (c : Configuration) (i : ℕ) (a : Actor) → WellTyped core ann c → ActorOk core ann c.objects i a → WellTyped core ann (with_actor c i a)
  actor_typed c i a w ok = record {
    objects = subst (ObjectsOk core c.objects) (sym (length-set c.actors i a)) w.objects;
    actors = λ j b e.
        elim (get_set c.actors i a j b e) [
          | inl p ↦ subst (λ (x : Actor). ActorOk core ann c.objects j x) (sym p.1) (subst (λ (k : ℕ). ActorOk core ann c.objects k a) (sym p.0) ok)
          | inr q ↦ w.actors j b q
        ];
  }

  pub frames_typed : (c : Configuration) (i : ℕ) (a : Actor) (fs : List Frame) → WellTyped core ann c → MailOk core c.objects i a.mailbox → FramesOk core ann c.objects i fs → WellTyped core ann (with_frames c i a fs)
  frames_typed c i a fs w mail ok = actor_typed c i (record { mailbox = a.mailbox; frames = fs }) w (inr (ok, mail))

  -- Other objects.
  pub objects_typed : (c : Configuration) (new : ObjectMap) → WellTyped core ann c → Extends c.objects new → ObjectsOk core new (length c.actors) → WellTyped core ann (with_objects c new)
  objects_typed c new w x ok = record { objects = ok; actors = λ i a e. actor_kept c.objects new x core ann i a (w.actors i a e) }

  -- ---- messages

  mail_push : (h : ObjectMap) (j : ℕ) (ms : List Message) (m : Message) → MailOk core h j ms → MessageOk core h j method.Be m → MailOk core h j (ms ++ m ∷ [])
  mail_push h j [] m k ok = (ok, tt)
  mail_push h j (x ∷ ms) m k ok = (k.0, mail_push h j ms m k.1 ok)

  first_push : (h : ObjectMap) (j : ℕ) (ms : List Message) (m : Message) → FirstMailOk core h j ms → MessageOk core h j method.Be m → FirstMailOk core h j (ms ++ m ∷ [])
  first_push h j [] m k ok = absurd k
  first_push h j (x ∷ ms) m k ok = (k.0, mail_push h j ms m k.1 ok)

  pushed_ok : (h : ObjectMap) (j : ℕ) (b : Actor) (m : Message) → ActorOk core ann h j b → MessageOk core h j method.Be m → ActorOk core ann h j (record { mailbox = b.mailbox ++ m ∷ []; frames = b.frames })
  pushed_ok h j b m (inl k) ok = inl (k.0, first_push h j b.mailbox m k.1 ok)
  pushed_ok h j b m (inr k) ok = inr (k.0, mail_push h j b.mailbox m k.1 ok)

  delivered_ok : (before c : Configuration) (j : ℕ) (m : Message) (o : Option Actor) → slice_get c.actors j ≡ o → j < length c.actors → WellTyped core ann c → MessageOk core c.objects j method.Be m → StepOk core ann (delivered before c j m o)
  delivered_ok before c j m None e l w ok = let b = get_within c.actors j l in absurd (none-some b.0 (sym e ∙ b.1))
  delivered_ok before c j m (Some b) e l w ok = (actor_typed c j (record { mailbox = b.mailbox ++ m ∷ []; frames = b.frames }) w (pushed_ok c.objects j b m (w.actors j b e) ok), λ k bad. cc)

  -- ---- a new actor

  spawned_typed : (c : Configuration) (i n : ℕ) (a : Actor) (o : Object) (m : Message) (frames : List Frame) → n ≡ length c.actors → WellTyped core ann c → MailOk core c.objects i a.mailbox → SpawnOk core ann c.objects i n frames o m
      → WellTyped core ann (record { objects = insert c.objects (own_address n) o; actors = slice_set c.actors i (record { mailbox = a.mailbox; frames = frames }) ++ record { mailbox = m ∷ []; frames = [] } ∷ []; printed = c.printed })
  spawned_typed c i n a o m frames is w mail ok =
      let h : ObjectMap = c.objects in
      let new : ObjectMap = insert h (own_address n) o in
      let here : Actor = record { mailbox = a.mailbox; frames = frames } in
      let born : Actor = record { mailbox = m ∷ []; frames = [] } in
      let objects : ObjectsOk core h n = subst (ObjectsOk core h) (sym is) w.objects in
      let x : Extends h new = fresh_extends h (own_address n) o (own_free core h n objects) in
      let more : ObjectsOk core new (n + 1) = subst (λ (p : Object). ObjectsOk core (insert h (own_address n) p) (n + 1)) (sym ok.blank) (spawn_objects core h n ok.number ok.entity objects ok.is_entity ok.actor ok.other) in
      let set : length (slice_set c.actors i here) ≡ n = length-set c.actors i here ∙ sym is in
      let total : length (slice_set c.actors i here ++ born ∷ []) ≡ n + 1 = length-append (slice_set c.actors i here) (born ∷ []) ∙ ap (λ (k : ℕ). k + 1) set in
      record {
        objects = subst (ObjectsOk core new) (sym total) more;
        actors = λ j b e.
            elim (get_push (slice_set c.actors i here) born j b e) [
              | inl p ↦ elim (get_set c.actors i here j b p) [
                | inl q ↦ subst (λ (z : Actor). ActorOk core ann new j z) (sym q.1) (subst (λ (k : ℕ). ActorOk core ann new k here) (sym q.0) (inr (ok.frames, mail_kept h new x core i a.mailbox mail)))
                | inr q ↦ actor_kept h new x core ann j b (w.actors j b q)
              ]
              | inr p ↦ subst (λ (z : Actor). ActorOk core ann new j z) p.1 (subst (λ (k : ℕ). ActorOk core ann new k born) (sym (p.0 ∙ set)) (inl (refl, (ok.message, tt))))
            ];
      }

  -- ---- the move is made

  pub made_ok : (formed : Formed core) (c : Configuration) (i : ℕ) (a : Actor) (fs : List Frame) (m : Move) → WellTyped core ann c → i < length c.actors → MailOk core c.objects i a.mailbox → MoveOk core ann (around c i) fs m → StepOk core ann (made c i a fs m)
  made_ok formed c i a fs (Stuck l) w here mail ok = absurd ok
  made_ok formed c i a fs Overflows w here mail ok = (w, λ l e. cc)
  made_ok formed c i a fs (Goes f) w here mail ok = (frames_typed c i a (f ∷ fs) w mail ok, λ l e. cc)
  made_ok formed c i a fs (Writes at k v f) w here mail ok =
      let new : ObjectMap = with_value c.objects at k v in
      let x : Extends c.objects new = write_extends c.objects at k v ok.object ok.stands in
      let objects : ObjectsOk core new (length c.actors) = write_objects core c.objects (length c.actors) at k v ok.object ok.entity ok.field w.objects ok.stands ok.is_entity ok.is_field ok.fits in
      (frames_typed (with_objects c new) i a (f ∷ fs) (objects_typed c new w x objects) (mail_kept c.objects new x core i a.mailbox mail) ok.frames, λ l e. cc)
  made_ok formed c i a fs (Makes at o g f) w here mail ok =
      let h : ObjectMap = c.objects in
      let new : ObjectMap = insert h at o in
      let none : get h at ≡ None = ap (get h) ok.address ∙ next_free core h (length c.actors) i w.objects in
      let x : Extends h new = fresh_extends h at o none in
      let objects : ObjectsOk core new (length c.actors) =
      subst (λ (q : Address). ObjectsOk core (insert h q o) (length c.actors)) (sym ok.address)
      (subst (λ (p : Object). ObjectsOk core (insert h (next_address h i) p) (length c.actors)) (sym ok.blank) (make_objects core formed h (length c.actors) i ok.number ok.entity w.objects here ok.is_entity ok.class))
      in
      (frames_typed (with_objects c new) i a (g ∷ f ∷ fs) (objects_typed c new w x objects) (mail_kept h new x core i a.mailbox mail) ok.frames, λ l e. cc)
  made_ok formed c i a fs (Spawns o m f) w here mail ok =
      let set : length (slice_set c.actors i (record { mailbox = a.mailbox; frames = f ∷ fs })) ≡ length c.actors = length-set c.actors i (record { mailbox = a.mailbox; frames = f ∷ fs }) in
      (spawned_typed c i (length (slice_set c.actors i (record { mailbox = a.mailbox; frames = f ∷ fs }))) a o m (f ∷ fs) set w mail (subst (λ (n : ℕ). SpawnOk core ann c.objects i n (f ∷ fs) o m) (sym set) ok), λ l e. cc)
  made_ok formed c i a fs (Enters g f) w here mail ok = (frames_typed c i a (g ∷ f ∷ fs) w mail ok, λ l e. cc)
  made_ok formed c i a fs (Sends j m f) w here mail ok =
      let d : Configuration = with_frames c i a (f ∷ fs) in
      let there : j < length d.actors = subst (λ (n : ℕ). j < n) (sym (length-set c.actors i (record { mailbox = a.mailbox; frames = f ∷ fs }))) ok.0 in
      delivered_ok c d j m (slice_get d.actors j) refl there (frames_typed c i a (f ∷ fs) w mail ok.2) ok.1
  made_ok formed c i a fs (Leaves v) w here mail ok = (frames_typed c i a (left v fs) w mail ok, λ l e. cc)
