-- A heap stays sound, and its objects afterwards.
use Rattle.std.proofs.{Common.{◌≡◌, ℕ, zero, suc, ◌+◌, ◌^◌, ◌<◌, ◌≤◌, ◌⊎◌, inl, inr, Bool, true, false, cond, List, [], ◌∷◌, ◌++◌, length, set, slice_get, replicate, Option, Some, None, refl, sym, ap, ◌∙◌, subst, arith, length-append, length-set}, lemmas.List.length-replicate, lemmas.Bool.{eq-eqb, eqb-true}, lemmas.Option.{none-some, same_Some, slice_get_within, slice_get_past}, lemmas.Map.Views.tells_apart}
use Rattle.std.specs.{Prelude.nat_eq, Ordering.eq_by_cmp, FinMap.{empty, get, insert, len, same_map, get-insert, get-empty, len-empty}}
use Rattle.pc_heap.specs.{declared.value.Address.Address, Objects.{Object, address_cmp, ObjectMap, made_by, new_object, with_field, with_value}, Parts.{object_in, field_in}, declared.value.Value.Value, declared.entry.Entry.Entry, Heaps.{Room, object_limit}, Rows.{RowList, numbers_of}, Entries.{Items, object_of, objects_of, at_number, entry_found, Laid}, Inside.{Ready, Sound}}
use Rattle.pc_heap.proofs.{Maps.{addresses_total, exact_addresses, get_at}, Counts.{made_more, made_same, len_more, len_same, made_few}, Finds.{other_than, object_found, found_is, entry_is, laid_within, laid_apart, laid_more}, Slices.{part, get_part, set_before, set_after, set_inside, part_append, part_new, get_old, get_new, get_far}}
use Rattle.pc_base.specs.Counts.{one_if}

which : (b : Bool) → (b ≡ true) ⊎ (b ≡ false)
which true = inl refl
which false = inr refl

-- a new heap
pub sound_new : (free spare : ℕ) (rows : RowList) → rows ≡ [] → Sound [] free [] spare rows None
sound_new free spare rows e = record {
  found = λ a i at. absurd (none-some i (sym (ap (λ (m : RowList). slice_get (numbers_of m a.maker) a.serial) e) ∙ at));
  numbered = λ i x at. absurd (none-some x at);
  laid = refl;
  counted = λ k. none_made k (made_few (objects_of [] []) k) ∙ sym (ap (λ (m : RowList). length (numbers_of m k)) e);
  count = sym none_at_all;
  few = omega arith;
  small = omega arith;
  ready = tt;
}
  where
    no_objects : objects_of [] [] ≡ empty
    no_objects = same_map {R = address_cmp} addresses_total exact_addresses (objects_of [] []) empty (λ q. get_at addresses_total [] q ∙ sym (get-empty address_cmp q))

    none_at_all : len (objects_of [] []) ≡ 0
    none_at_all = ap len no_objects ∙ len-empty address_cmp Object

    none_made : (k : ℕ) → made_by (objects_of [] []) k ≤ len (objects_of [] []) → made_by (objects_of [] []) k ≡ 0
    none_made k le = let none = none_at_all in omega arith

module _ (made : List Entry) (free : ℕ) (items : Items) (spare : ℕ) (rows : RowList) (room : Option Room) (h : Sound made free items spare rows room) where
  abbrev objects : ObjectMap
  objects = objects_of items made

  pub look : (q : Address) → get objects q ≡ object_found items (entry_found rows made q)
  look = found_is made rows h.found h.numbered items

  pub serial_small : (maker : ℕ) → length (numbers_of rows maker) ≤ object_limit
  serial_small maker = let few = h.few in omega (arith, h.counted maker, made_few objects maker, h.count)

  -- the memory of the next object is another
  pub moved : (free2 spare2 : ℕ) (rows2 : RowList) (room2 : Option Room) → ((k : ℕ) → numbers_of rows2 k ≡ numbers_of rows k) → Ready (length made) free2 spare2 rows2 room2 → Sound made free2 items spare2 rows2 room2
  moved free2 spare2 rows2 room2 same ready = record {
    found = λ a i e. h.found a i (ap (λ l. slice_get l a.serial) (sym (same a.maker)) ∙ e);
    numbered = λ i e at. ap (λ l. slice_get l e.address.serial) (same e.address.maker) ∙ h.numbered i e at;
    laid = h.laid;
    counted = λ k. h.counted k ∙ ap length (sym (same k));
    count = h.count;
    few = h.few;
    small = h.small;
    ready = ready;
  }

  -- the field of an object
  module _ (a : Address) (e : Entry) (is : entry_found rows made a ≡ Some e) (field : ℕ) where
    here : (i : ℕ) × (slice_get (numbers_of rows a.maker) a.serial ≡ Some i) × (slice_get made i ≡ Some e) × (e.address ≡ a)
    here = entry_is made rows h.found h.numbered a e is

    pub stands : get objects a ≡ Some (object_of items e)
    stands = look a ∙ ap (object_found items) is

    module _ (lt : field < e.fields) where
      pub within : e.first + field < length items
      within = let on = (laid_within 0 made (length items) here.0 e h.laid here.2).1 in omega arith

      pub place_small : e.first + field < 2 ^ 32
      place_small = let small = h.small in let few = h.few in let on = within in omega arith

      pub field_is : field_in (get objects a) field ≡ slice_get items (e.first + field)
      field_is = ap (λ o. field_in o field) stands ∙ get_part e.first e.fields items field lt

      module _ (x : Option Value) where
        abbrev items2 : Items
        items2 = set items (e.first + field) x

        abbrev new : Object
        new = object_of items2 e

        other_object : (q : Address) (f : Entry) → (q ≡ a → ⊥) → entry_found rows made q ≡ Some f → object_of items2 f ≡ object_of items f
        other_object q f apart isf =
            let there = entry_is made rows h.found h.numbered q f isf in
            let differ : (here.0 ≡ there.0 → ⊥) = λ same. apart (sym there.3 ∙ ap (λ (y : Entry). y.address) (same_Some f e (sym there.2 ∙ ap (slice_get made) (sym same) ∙ here.2)) ∙ here.3) in
            ap (λ (fs : List (Option Value)). record { entity = f.entity; fields = fs }) (elim (laid_apart 0 made (length items) here.0 there.0 e f h.laid here.2 there.2 differ) [
              | inl before ↦ set_before f.first f.fields items (e.first + field) x (omega arith)
              | inr after ↦ set_after f.first f.fields items (e.first + field) x (omega arith)
            ])

        others : (q : Address) (o : Option Entry) → (q ≡ a → ⊥) → entry_found rows made q ≡ o → object_found items2 o ≡ object_found items o
        others q None apart e2 = refl
        others q (Some f) apart e2 = ap Some (other_object q f apart e2)

        at_each : (q : Address) (b : Bool) → eq_by_cmp address_cmp q a ≡ b → object_found items2 (entry_found rows made q) ≡ cond b (Some new) (object_found items (entry_found rows made q))
        at_each q true eb = ap (λ (k : Address). object_found items2 (entry_found rows made k)) (tells_apart exact_addresses q a eb) ∙ ap (object_found items2) is
        at_each q false eb = others q (entry_found rows made q) (other_than q a eb) refl

        written : objects_of items2 made ≡ insert objects a new
        written = same_map {R = address_cmp} addresses_total exact_addresses (objects_of items2 made) (insert objects a new) (λ q.
            found_is made rows h.found h.numbered items2 q ∙ at_each q (eq_by_cmp address_cmp q a) refl ∙ ap (cond (eq_by_cmp address_cmp q a) (Some new)) (sym (look q)) ∙ sym (get-insert addresses_total objects a new q))

        pub put : (v : Value) → x ≡ Some v → objects_of items2 made ≡ with_value objects a field v
        put v ex = written ∙ ap (λ (fs : List (Option Value)). insert objects a (record { entity = e.entity; fields = fs })) (set_inside e.first e.fields items field x lt)
            ∙ ap (λ (y : Option Value). insert objects a (record { entity = e.entity; fields = set (part e.first e.fields items) field y })) ex
            ∙ ap (λ (o : Option Object). insert objects a (with_field (object_in o) field v)) (sym stands)

        pub put_sound : Sound made free items2 spare rows room
        put_sound =
            let same = length-set items (e.first + field) x in record {
              found = h.found;
              numbered = h.numbered;
              laid = subst (Laid 0 made) (sym same) h.laid;
              counted = λ k. ap (λ (m : ObjectMap). made_by m k) written ∙ made_same objects a new (object_of items e) k stands ∙ h.counted k;
              count = h.count ∙ sym (ap len written ∙ len_same objects a new (object_of items e) stands);
              few = h.few;
              small = let small = h.small in omega arith;
              ready = h.ready;
            }

-- an object is made
module _ (made : List Entry) (free : ℕ) (items : Items) (spare : ℕ) (rows : RowList) (maker entity fields : ℕ) (h : Sound made free items spare rows (Some record { maker = maker; fields = fields })) where
  abbrev serials : List ℕ
  serials = numbers_of rows maker

  abbrev pub made_at : Address
  made_at = record { maker = maker; serial = length serials }

  abbrev x : Entry
  x = record { address = made_at; entity = entity; first = length items; fields = fields }

  abbrev made2 : List Entry
  made2 = made ++ x ∷ []

  abbrev values2 : Items
  values2 = items ++ replicate fields None

  old : ObjectMap
  old = objects_of items made

  free_number : slice_get (numbers_of rows made_at.maker) made_at.serial ≡ None
  free_number = slice_get_past serials (length serials) (omega arith)

  pub made_free : get (objects_of items made) made_at ≡ None
  made_free = look made free items spare rows (Some record { maker = maker; fields = fields }) h made_at ∙ ap (λ o. object_found items (at_number made o)) free_number

  module _ (rows2 : RowList) (written2 : (other : ℕ) → numbers_of rows2 other ≡ cond (nat_eq maker other) (serials ++ length made ∷ []) (numbers_of rows other)) where
    own_row : (k : ℕ) → k ≡ maker → numbers_of rows2 k ≡ serials ++ length made ∷ []
    own_row k e = written2 k ∙ ap (λ b. cond b (serials ++ length made ∷ []) (numbers_of rows k)) (eq-eqb maker k (sym e))

    other_row : (k : ℕ) → nat_eq maker k ≡ false → numbers_of rows2 k ≡ numbers_of rows k
    other_row k e = written2 k ∙ ap (λ b. cond b (serials ++ length made ∷ []) (numbers_of rows k)) e

    order : (a b : ℕ) → (a < b) ⊎ ((a ≡ b) ⊎ (b < a))
    order zero zero = inr (inl refl)
    order zero (suc b) = inl (omega arith)
    order (suc a) zero = inr (inr (omega arith))
    order (suc a) (suc b) = elim (order a b) [ inl lt ↦ inl (omega arith) | inr rest ↦ elim rest [ inl e ↦ inr (inl (ap suc e)) | inr gt ↦ inr (inr (omega arith)) ] ]

    -- what the rows name at an address that is not the new one
    same_number : (q : Address) → (q ≡ made_at → ⊥) → slice_get (numbers_of rows2 q.maker) q.serial ≡ slice_get (numbers_of rows q.maker) q.serial
    same_number q apart = elim (which (nat_eq maker q.maker)) [
      | inl e ↦ let own = sym (eqb-true maker q.maker e) in
          ap (λ l. slice_get l q.serial) (own_row q.maker own) ∙ elim (order q.serial (length serials)) [
            | inl lt ↦ get_old serials (length made) q.serial lt
            | inr rest ↦ elim rest [
              | inl same ↦ absurd (apart (λ i. record { maker = own i; serial = same i }))
              | inr gt ↦ get_far serials (length made) q.serial gt ∙ sym (slice_get_past serials q.serial (omega arith))
            ]
          ] ∙ ap (λ k. slice_get (numbers_of rows k) q.serial) (sym own)
      | inr e ↦ ap (λ l. slice_get l q.serial) (other_row q.maker e)
    ]

    new_number : (q : Address) → q ≡ made_at → slice_get (numbers_of rows2 q.maker) q.serial ≡ Some (length made)
    new_number q e = ap (λ (a : Address). slice_get (numbers_of rows2 a.maker) a.serial) e ∙ ap (λ l. slice_get l (length serials)) (own_row maker refl) ∙ get_new serials (length made) (length serials) refl

    found2 : (a : Address) (i : ℕ) → slice_get (numbers_of rows2 a.maker) a.serial ≡ Some i → (e : Entry) × (slice_get made2 i ≡ Some e) × (e.address ≡ a)
    found2 a i at = elim (which (eq_by_cmp address_cmp a made_at)) [
      | inl e ↦ let own = tells_apart exact_addresses a made_at e in
          (x, get_new made x i (sym (same_Some (length made) i (sym (new_number a own) ∙ at))), sym own)
      | inr e ↦ let before = h.found a i (sym (same_number a (other_than a made_at e)) ∙ at) in
          (before.0, get_old made x i (slice_get_within made i before.0 before.1) ∙ before.1, before.2)
    ]

    numbered2 : (i : ℕ) (e : Entry) → slice_get made2 i ≡ Some e → slice_get (numbers_of rows2 e.address.maker) e.address.serial ≡ Some i
    numbered2 i e at = elim (order i (length made)) [
      | inl lt ↦ let before = h.numbered i e (sym (get_old made x i lt) ∙ at) in
          same_number e.address (λ own. none-some i (sym (ap (λ (a : Address). slice_get (numbers_of rows a.maker) a.serial) own ∙ free_number) ∙ before)) ∙ before
      | inr rest ↦ elim rest [
        | inl same ↦ let is = same_Some x e (sym (get_new made x i same) ∙ at) in new_number e.address (ap (λ (y : Entry). y.address) (sym is)) ∙ ap Some (sym same)
        | inr gt ↦ absurd (none-some e (sym (get_far made x i gt) ∙ at))
      ]
    ]

    same_entry : (q : Address) (o : Option ℕ) → slice_get (numbers_of rows q.maker) q.serial ≡ o → object_found values2 (at_number made2 o) ≡ object_found items (at_number made o)
    same_entry q None e = refl
    same_entry q (Some i) e =
        let there = h.found q i e in let f = there.0 in let low = laid_within 0 made (length items) i f h.laid there.1 in
        ap (object_found values2) (get_old made x i (slice_get_within made i f there.1) ∙ there.1)
        ∙ ap (λ (fs : List (Option Value)). Some record { entity = f.entity; fields = fs }) (part_append f.first f.fields items (replicate fields None) low.1) ∙ ap (object_found items) (sym there.1)

    new_one : object_of values2 x ≡ new_object entity fields
    new_one = ap (λ (fs : List (Option Value)). record { entity = entity; fields = fs }) (part_new fields items (replicate fields None) (sym (length-replicate fields None)))

    at_each2 : (q : Address) (b : Bool) → eq_by_cmp address_cmp q made_at ≡ b → object_found values2 (entry_found rows2 made2 q) ≡ cond b (Some (new_object entity fields)) (object_found items (entry_found rows made q))
    at_each2 q true e = ap (λ o. object_found values2 (at_number made2 o)) (new_number q (tells_apart exact_addresses q made_at e)) ∙ ap (object_found values2) (get_new made x (length made) refl) ∙ ap Some new_one
    at_each2 q false e = ap (λ o. object_found values2 (at_number made2 o)) (same_number q (other_than q made_at e)) ∙ same_entry q (slice_get (numbers_of rows q.maker) q.serial) refl

    pub made_objects : objects_of values2 made2 ≡ insert (objects_of items made) made_at (new_object entity fields)
    made_objects = same_map {R = address_cmp} addresses_total exact_addresses (objects_of values2 made2) (insert (objects_of items made) made_at (new_object entity fields)) (λ q.
        found_is made2 rows2 found2 numbered2 values2 q ∙ at_each2 q (eq_by_cmp address_cmp q made_at) refl
        ∙ ap (cond (eq_by_cmp address_cmp q made_at) (Some (new_object entity fields))) (sym (found_is made rows h.found h.numbered items q)) ∙ sym (get-insert addresses_total (objects_of items made) made_at (new_object entity fields) q))

    counts : (k : ℕ) (b : Bool) → nat_eq maker k ≡ b → length (numbers_of rows k) + one_if (nat_eq maker k) ≡ length (numbers_of rows2 k)
    counts k true e =
        let own = sym (eqb-true maker k e) in let one = ap one_if e in let more = length-append serials (length made ∷ []) in
        let new = ap length (own_row k own) in let before = ap (λ j. length (numbers_of rows j)) own in omega arith
    counts k false e = let same = ap length (other_row k e) in let none = ap one_if e in omega arith

    pub made_sound : (free2 spare2 : ℕ) → Sound made2 free2 values2 spare2 rows2 None
    made_sound free2 spare2 =
        let more = length-append made (x ∷ []) in let wide = length-append items (replicate fields None) in let none : Option Value = None in let size = length-replicate fields none in let ready = h.ready in
        record {
          found = found2;
          numbered = numbered2;
          laid = subst (Laid 0 made2) (sym (wide ∙ ap (λ k. length items + k) size)) (laid_more 0 made (length items) x h.laid refl);
          counted = λ k. ap (λ (m : ObjectMap). made_by m k) made_objects ∙ made_more (objects_of items made) made_at (new_object entity fields) k made_free ∙ ap (λ c. c + one_if (nat_eq maker k)) (h.counted k) ∙ counts k (nat_eq maker k) refl;
          count = let many = ap len made_objects ∙ len_more (objects_of items made) made_at (new_object entity fields) made_free in let before = h.count in omega arith;
          few = let low = ready.3 in omega arith;
          small = let low = ready.4 in let before = h.small in omega arith;
          ready = tt;
        }
