-- Objects that are like others stay so if both are changed alike.
use Rattle.std.specs.{Prelude.{◌≡◌, ◌≢◌, ◌⊎◌, ◌<◌, ℕ, ◌+◌, Bool, nat_eq, List, ◌++◌, length, Option, Some, None, slice_get, refl, ⊤}, FinMap.{get, insert}}
use Rattle.std.proofs.{Common.{inl, inr, ap, sym, subst, ◌∙◌}, lemmas.Option.none-some, lemmas.Bool.Decides.eqb_tells}
use Rattle.pc_base.proofs.Gets.{get_set_same, get_set_other}
use Rattle.pc_heap.specs.{Objects.{ObjectMap, class_at, made_by, with_field, with_value, Object}, Parts.{class_in, object_in, field_in}, Fields.field_at, declared.value.Address.Address, declared.value.Value.Value}
use Rattle.pc_base.specs.Counts.{one_if}
use Rattle.pc_heap.proofs.Counts.{made_more, made_same}
use Rattle.pc_events.proofs.{Changes.{Heaping, Same, Sets, New, heaped}, Maps.{address_cases, get_here, get_other, Fit, class_kept}, Like.{AddressLike, Like, ObjectLike, FoundLike, slot_more, slots_get}, Sim.{names_same, name_before, second_address, first_address}}

pub found_more : (names more : List ℕ) (o p : Option (Option Value)) → FoundLike names o p → FoundLike (names ++ more) o p
found_more names more None None k = tt
found_more names more None (Some p) k = absurd k
found_more names more (Some o) None k = absurd k
found_more names more (Some o) (Some p) k = slot_more names more o p k

-- Both set like fields, which are there, or both make like objects, or neither does.
abbrev pub HeapLike : List ℕ → ObjectMap → ObjectMap → Heaping → Heaping → Type 0
HeapLike names h g Same Same = ⊤
HeapLike names h g (Sets a k v) (Sets b l w) = AddressLike names a b × (k ≡ l) × Like names v w × (k < length (object_in (get h a)).fields) × (l < length (object_in (get g b)).fields)
HeapLike names h g (New a o) (New b p) = AddressLike names a b × ObjectLike names o p
HeapLike names h g x y = ⊥

set_class : (h : ObjectMap) (a : Address) (k : ℕ) (v : Value) → (o : Object) × (get h a ≡ Some o) → (q : Address) → class_at (with_value h a k v) q ≡ class_at h q
set_class h a k v f q =
    elim (address_cases q a) [
      | inl s ↦ subst (λ (r : Address). class_at (with_value h a k v) r ≡ class_at h r) (sym s)
          (ap class_in (get_here h a (with_field (object_in (get h a)) k v)) ∙ ap (λ (p : Option Object). Some (object_in p).entity) f.1 ∙ sym (ap class_in f.1))
      | inr n ↦ ap class_in (get_other h a (with_field (object_in (get h a)) k v) q n)
    ]

set_field_here : (h : ObjectMap) (a : Address) (k : ℕ) (v : Value) → k < length (object_in (get h a)).fields → field_at (with_value h a k v) a k ≡ Some (Some v)
set_field_here h a k v b = ap (λ (p : Option Object). field_in p k) (get_here h a (with_field (object_in (get h a)) k v)) ∙ get_set_same (object_in (get h a)).fields k (Some v) b

set_field_other : (h : ObjectMap) (a : Address) (k : ℕ) (v : Value) → (o : Object) × (get h a ≡ Some o) → (f : ℕ) → f ≢ k → field_at (with_value h a k v) a f ≡ field_at h a f
set_field_other h a k v o f n =
    ap (λ (p : Option Object). field_in p f) (get_here h a (with_field (object_in (get h a)) k v)) ∙ get_set_other (object_in (get h a)).fields k (Some v) f n
    ∙ ap (λ (p : Option Object). slice_get (object_in p).fields f) o.1 ∙ sym (ap (λ (p : Option Object). field_in p f) o.1)

set_other_object : (h : ObjectMap) (a : Address) (k : ℕ) (v : Value) (q : Address) → q ≢ a → (f : ℕ) → field_at (with_value h a k v) q f ≡ field_at h q f
set_other_object h a k v q n f = ap (λ (p : Option Object). field_in p f) (get_other h a (with_field (object_in (get h a)) k v) q n)

module _ (wrote : Address → ℕ → Type 0) (names more : List ℕ) (h g : ObjectMap) (inject : (j k a : ℕ) → slice_get (names ++ more) j ≡ Some a → slice_get (names ++ more) k ≡ Some a → j ≡ k)
    -- what exists in the second is of its actors
    (standing : (b : Address) (o : Object) → get g b ≡ Some o → b.maker < length names)
    (classes : (a b : Address) → AddressLike names a b → (e : ℕ) → class_at g b ≡ Some e → class_at h a ≡ Some e)
    (fields : (a b : Address) → AddressLike names a b → (e : ℕ) → class_at g b ≡ Some e → (f : ℕ) → FoundLike names (field_at h a f) (field_at g b f) ⊎ wrote a f) where
  object_there : (p : Option Object) (e : ℕ) → class_in p ≡ Some e → (o : Object) × (p ≡ Some o)
  object_there None e is = absurd (none-some e is)
  object_there (Some o) e is = (o, refl)

  old_address : (a b : Address) → AddressLike (names ++ more) a b → (e : ℕ) → class_at g b ≡ Some e → AddressLike names a b
  old_address a b k e is = let o = object_there (get g b) e is in record { maker = name_before names more b.maker a.maker (standing b o.0 o.1) k.maker; serial = k.serial }

  old_class : (a b : Address) → AddressLike (names ++ more) a b → (e : ℕ) → class_at g b ≡ Some e → class_at h a ≡ Some e
  old_class a b k e is = classes a b (old_address a b k e is) e is

  old_field : (a b : Address) → AddressLike (names ++ more) a b → (e : ℕ) → class_at g b ≡ Some e → (f : ℕ) → FoundLike (names ++ more) (field_at h a f) (field_at g b f) ⊎ wrote a f
  old_field a b k e is f = elim (fields a b (old_address a b k e is) e is f) [ inl l ↦ inl (found_more names more (field_at h a f) (field_at g b f) l) | inr w ↦ inr w ]

  seconds : (a b x : Address) → AddressLike (names ++ more) a b → AddressLike (names ++ more) a x → b ≡ x
  seconds a b x k l = second_address (names ++ more) inject a b x k l

  firsts : (a x b : Address) → AddressLike (names ++ more) a b → AddressLike (names ++ more) x b → a ≡ x
  firsts a x b k l = first_address (names ++ more) a x b k l

  like_at : (a x b q : Address) → AddressLike (names ++ more) a b → AddressLike (names ++ more) x q → b ≡ q → a ≡ x
  like_at a x b q k l e = firsts a x b k (subst (AddressLike (names ++ more) x) (sym e) l)

  pub classes_both : (x y : Heaping) → Fit h x → Fit g y → HeapLike (names ++ more) h g x y → (a b : Address) → AddressLike (names ++ more) a b → (e : ℕ) → class_at (heaped y g) b ≡ Some e → class_at (heaped x h) a ≡ Some e
  classes_both Same Same f1 f2 l a b k e is = old_class a b k e is
  classes_both Same (Sets q j w) f1 f2 l a b k e is = absurd l
  classes_both Same (New q o) f1 f2 l a b k e is = absurd l
  classes_both (Sets p m v) Same f1 f2 l a b k e is = absurd l
  classes_both (Sets p m v) (Sets q j w) f1 f2 l a b k e is = set_class h p m v f1 a ∙ old_class a b k e (sym (set_class g q j w f2 b) ∙ is)
  classes_both (Sets p m v) (New q o) f1 f2 l a b k e is = absurd l
  classes_both (New p o) Same f1 f2 l a b k e is = absurd l
  classes_both (New p o) (Sets q j w) f1 f2 l a b k e is = absurd l
  classes_both (New p o) (New q r) f1 f2 l a b k e is =
      elim (address_cases b q) [
        | inl s ↦ ap (class_at (insert h p o)) (like_at a p b q k l.0 s) ∙ ap class_in (get_here h p o) ∙ ap Some l.1.entity ∙ sym (ap class_in (get_here g q r)) ∙ sym (ap (class_at (insert g q r)) s) ∙ is
        | inr n ↦ class_kept h (New p o) f1 a e (old_class a b k e (sym (ap class_in (get_other g q r b n)) ∙ is))
      ]

  pub fields_both : (x y : Heaping) → Fit h x → Fit g y → HeapLike (names ++ more) h g x y → (a b : Address) → AddressLike (names ++ more) a b → (e : ℕ) → class_at (heaped y g) b ≡ Some e → (f : ℕ)
      → FoundLike (names ++ more) (field_at (heaped x h) a f) (field_at (heaped y g) b f) ⊎ wrote a f
  fields_both Same Same f1 f2 l a b k e is f = old_field a b k e is f
  fields_both Same (Sets q j w) f1 f2 l a b k e is f = absurd l
  fields_both Same (New q o) f1 f2 l a b k e is f = absurd l
  fields_both (Sets p m v) Same f1 f2 l a b k e is f = absurd l
  fields_both (Sets p m v) (New q o) f1 f2 l a b k e is f = absurd l
  fields_both (New p o) Same f1 f2 l a b k e is f = absurd l
  fields_both (New p o) (Sets q j w) f1 f2 l a b k e is f = absurd l
  fields_both (Sets p m v) (Sets q j w) f1 f2 l a b k e is f =
      let was : class_at g b ≡ Some e = sym (set_class g q j w f2 b) ∙ is in
      elim (address_cases b q) [
        | inl s ↦
            let t : a ≡ p = like_at a p b q k l.0 s in
            elim (eqb_tells f m) [
              | inl u ↦
                  inl (subst (λ (z : Option (Option Value)). FoundLike (names ++ more) z (field_at (with_value g q j w) b f)) (sym (ap (λ (r : Address). field_at (with_value h p m v) r f) t ∙ ap (field_at (with_value h p m v) p) u.1 ∙ set_field_here h p m v l.3))
                  (subst (λ (z : Option (Option Value)). FoundLike (names ++ more) (Some (Some v)) z) (sym (ap (λ (r : Address). field_at (with_value g q j w) r f) s ∙ ap (field_at (with_value g q j w) q) (u.1 ∙ l.1) ∙ set_field_here g q j w l.4)) l.2))
              | inr u ↦
                  let one : field_at (with_value h p m v) a f ≡ field_at h a f = ap (λ (r : Address). field_at (with_value h p m v) r f) t ∙ set_field_other h p m v f1 f u.1 ∙ sym (ap (λ (r : Address). field_at h r f) t) in
                  let two : field_at (with_value g q j w) b f ≡ field_at g b f = ap (λ (r : Address). field_at (with_value g q j w) r f) s ∙ set_field_other g q j w f2 f (λ z. u.1 (z ∙ sym l.1)) ∙ sym (ap (λ (r : Address). field_at g r f) s) in
                  same_fields a b f _ _ one two (old_field a b k e was f)
            ]
        | inr n ↦ same_fields a b f _ _ (set_other_object h p m v a (λ z. n (seconds a b q k (subst (λ (r : Address). AddressLike (names ++ more) r q) (sym z) l.0))) f) (set_other_object g q j w b n f) (old_field a b k e was f)
      ]
    where
      same_fields : (a b : Address) (f : ℕ) (z u : Option (Option Value)) → z ≡ field_at h a f → u ≡ field_at g b f → FoundLike (names ++ more) (field_at h a f) (field_at g b f) ⊎ wrote a f → FoundLike (names ++ more) z u ⊎ wrote a f
      same_fields a b f z u e1 e2 (inl k) = inl (subst (λ (y : Option (Option Value)). FoundLike (names ++ more) y u) (sym e1) (subst (FoundLike (names ++ more) (field_at h a f)) (sym e2) k))
      same_fields a b f z u e1 e2 (inr w) = inr w
  fields_both (New p o) (New q r) f1 f2 l a b k e is f =
      elim (address_cases b q) [
        | inl s ↦
            let t : a ≡ p = like_at a p b q k l.0 s in
            inl (subst (λ (z : Option (Option Value)). FoundLike (names ++ more) z (field_at (insert g q r) b f)) (sym (ap (λ (x : Address). field_at (insert h p o) x f) t ∙ ap (λ (x : Option Object). field_in x f) (get_here h p o)))
            (subst (λ (z : Option (Option Value)). FoundLike (names ++ more) (slice_get o.fields f) z) (sym (ap (λ (x : Address). field_at (insert g q r) x f) s ∙ ap (λ (x : Option Object). field_in x f) (get_here g q r))) (slots_get (names ++ more) o.fields r.fields f l.1.fields)))
        | inr n ↦
            let m : a ≢ p = λ z. n (seconds a b q k (subst (λ (r : Address). AddressLike (names ++ more) r q) (sym z) l.0)) in
            same_fields a b f _ _ (ap (λ (x : Option Object). field_in x f) (get_other h p o a m)) (ap (λ (x : Option Object). field_in x f) (get_other g q r b n)) (old_field a b k e (sym (ap class_in (get_other g q r b n)) ∙ is) f)
      ]
    where
      same_fields : (a b : Address) (f : ℕ) (z u : Option (Option Value)) → z ≡ field_at h a f → u ≡ field_at g b f → FoundLike (names ++ more) (field_at h a f) (field_at g b f) ⊎ wrote a f → FoundLike (names ++ more) z u ⊎ wrote a f
      same_fields a b f z u e1 e2 (inl k) = inl (subst (λ (y : Option (Option Value)). FoundLike (names ++ more) y u) (sym e1) (subst (FoundLike (names ++ more) (field_at h a f)) (sym e2) k))
      same_fields a b f z u e1 e2 (inr w) = inr w

  pub made_both : (x y : Heaping) → Fit h x → Fit g y → HeapLike (names ++ more) h g x y → (i j : ℕ) → slice_get (names ++ more) j ≡ Some i → made_by h i ≡ made_by g j → made_by (heaped x h) i ≡ made_by (heaped y g) j
  made_both Same Same f1 f2 l i j n e = e
  made_both Same (Sets q m w) f1 f2 l i j n e = absurd l
  made_both Same (New q o) f1 f2 l i j n e = absurd l
  made_both (Sets p m v) Same f1 f2 l i j n e = absurd l
  made_both (Sets p m v) (Sets q k w) f1 f2 l i j n e = made_same h p _ f1.0 i f1.1 ∙ e ∙ sym (made_same g q _ f2.0 j f2.1)
  made_both (Sets p m v) (New q o) f1 f2 l i j n e = absurd l
  made_both (New p o) Same f1 f2 l i j n e = absurd l
  made_both (New p o) (Sets q m w) f1 f2 l i j n e = absurd l
  made_both (New p o) (New q r) f1 f2 l i j n e =
      made_more h p o i f1 ∙ ap (λ (z : ℕ). z + one_if (nat_eq p.maker i)) e ∙ ap (λ (b : Bool). made_by g j + one_if b) (names_same (names ++ more) inject p.maker i q.maker j l.0.maker n) ∙ sym (made_more g q r j f2)
