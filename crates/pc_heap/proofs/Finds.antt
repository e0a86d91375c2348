-- What the map of the entries has at an address, and where the fields of entries lie.
use Rattle.std.proofs.{Common.{◌≡◌, ℕ, zero, suc, ◌+◌, ◌≤◌, ◌⊎◌, inl, inr, Bool, true, false, cond, List, [], ◌∷◌, ◌++◌, slice_get, Option, Some, None, refl, sym, ap, ◌∙◌, arith}, lemmas.Bool.true≢false, lemmas.Option.{none-some, same_Some}, lemmas.Map.Views.tells_apart}
use Rattle.std.specs.{Ordering.eq_by_cmp, FinMap.get}
use Rattle.pc_heap.specs.{declared.value.Address.Address, Objects.{Object, address_cmp}, declared.entry.Entry.Entry, Rows.{RowList, numbers_of}, Entries.{Items, object_of, listed, objects_of, at_number, entry_found, Laid}}
use Rattle.pc_heap.proofs.Maps.{addresses_total, exact_addresses, get_at, entry_at, tied_own}

pub other_than : (q a : Address) → eq_by_cmp address_cmp q a ≡ false → q ≡ a → ⊥
other_than q a e same = true≢false (sym (tied_own addresses_total a) ∙ ap (λ b. eq_by_cmp address_cmp b a) (sym same) ∙ e)

abbrev pub object_found : Items → Option Entry → Option Object
object_found items None = None
object_found items (Some e) = Some (object_of items e)

module _ (items : Items) (q : Address) where
  abbrev At : List Entry → Option Object
  At es = entry_at addresses_total (listed items es) q

  listed_step : (x e : Entry) (es : List Entry) (i : ℕ) (b : Bool) → eq_by_cmp address_cmp q x.address ≡ b → slice_get (x ∷ es) i ≡ Some e → e.address ≡ q
      → ((j : ℕ) (f : Entry) → slice_get (x ∷ es) j ≡ Some f → f.address ≡ q → j ≡ i) → ((i2 : ℕ) → i ≡ suc i2 → At es ≡ Some (object_of items e)) → cond b (Some (object_of items x)) (At es) ≡ Some (object_of items e)
  listed_step x e es i true eb is own once on =
      let first : 0 ≡ i = once 0 x refl (sym (tells_apart exact_addresses q x.address eb)) in
      ap (λ (y : Entry). Some (object_of items y)) (same_Some x e (ap (slice_get (x ∷ es)) first ∙ is))
  listed_step x e es zero false eb is own once on = absurd (other_than q x.address eb (sym own ∙ ap (λ (y : Entry). y.address) (sym (same_Some x e is))))
  listed_step x e es (suc i) false eb is own once on = on i refl

  pub listed_at : (es : List Entry) (i : ℕ) (e : Entry) → slice_get es i ≡ Some e → e.address ≡ q → ((j : ℕ) (f : Entry) → slice_get es j ≡ Some f → f.address ≡ q → j ≡ i) → At es ≡ Some (object_of items e)
  listed_at [] i e is own once = absurd (none-some _ is)
  listed_at (x ∷ es) i e is own once = listed_step x e es i (eq_by_cmp address_cmp q x.address) refl is own once (λ k ek.
      listed_at es k e (sym (ap (slice_get (x ∷ es)) ek) ∙ is) own (λ j f at addr. let s : suc j ≡ i = once (suc j) f at addr in omega arith))

  never_step : (b : Bool) (o : Option Object) (x : Object) → (b ≡ true → ⊥) → o ≡ None → cond b (Some x) o ≡ None
  never_step true o x apart e = absurd (apart refl)
  never_step false o x apart e = e

  pub not_listed : (es : List Entry) → ((j : ℕ) (f : Entry) → slice_get es j ≡ Some f → f.address ≡ q → ⊥) → At es ≡ None
  not_listed [] never = refl
  not_listed (x ∷ es) never = never_step (eq_by_cmp address_cmp q x.address) (At es) (object_of items x) (λ e. never 0 x refl (sym (tells_apart exact_addresses q x.address e))) (not_listed es (λ j f at. never (suc j) f at))

-- The rows name each entry once, by its address.
module _ (made : List Entry) (rows : RowList) (found : (a : Address) (i : ℕ) → slice_get (numbers_of rows a.maker) a.serial ≡ Some i → (e : Entry) × (slice_get made i ≡ Some e) × (e.address ≡ a))
    (numbered : (i : ℕ) (e : Entry) → slice_get made i ≡ Some e → slice_get (numbers_of rows e.address.maker) e.address.serial ≡ Some i) where
  named : (q : Address) (j : ℕ) (f : Entry) → slice_get made j ≡ Some f → f.address ≡ q → slice_get (numbers_of rows q.maker) q.serial ≡ Some j
  named q j f at own = ap (λ (a : Address). slice_get (numbers_of rows a.maker) a.serial) (sym own) ∙ numbered j f at

  found_at : (items : Items) (q : Address) (o : Option ℕ) → slice_get (numbers_of rows q.maker) q.serial ≡ o → get (objects_of items made) q ≡ object_found items (at_number made o)
  found_at items q None e = get_at addresses_total (listed items made) q ∙ not_listed items q made (λ j f at own. none-some j (sym e ∙ named q j f at own))
  found_at items q (Some i) e = let is = found q i e in
      get_at addresses_total (listed items made) q ∙ listed_at items q made i is.0 is.1 is.2 (λ j f at own. same_Some j i (sym (named q j f at own) ∙ e)) ∙ ap (object_found items) (sym is.1)

  -- what the map has is what the rows find
  pub found_is : (items : Items) (q : Address) → get (objects_of items made) q ≡ object_found items (entry_found rows made q)
  found_is items q = found_at items q (slice_get (numbers_of rows q.maker) q.serial) refl

  entry_some : (q : Address) (o : Option ℕ) (e : Entry) → slice_get (numbers_of rows q.maker) q.serial ≡ o → at_number made o ≡ Some e → (i : ℕ) × (slice_get (numbers_of rows q.maker) q.serial ≡ Some i) × (slice_get made i ≡ Some e) × (e.address ≡ q)
  entry_some q None e eo is = absurd (none-some e is)
  entry_some q (Some i) e eo is = let h = found q i eo in (i, eo, is, ap (λ (y : Entry). y.address) (same_Some e h.0 (sym is ∙ h.1)) ∙ h.2)

  pub entry_is : (q : Address) (e : Entry) → entry_found rows made q ≡ Some e → (i : ℕ) × (slice_get (numbers_of rows q.maker) q.serial ≡ Some i) × (slice_get made i ≡ Some e) × (e.address ≡ q)
  entry_is q e is = entry_some q (slice_get (numbers_of rows q.maker) q.serial) e refl is

pub laid_within : (n : ℕ) (es : List Entry) (end i : ℕ) (e : Entry) → Laid n es end → slice_get es i ≡ Some e → (n ≤ e.first) × (e.first + e.fields ≤ end)
laid_within n [] end i e h is = absurd (none-some e is)
laid_within n (x ∷ es) end zero e h is =
    let same = same_Some x e is in let first = ap (λ (y : Entry). y.first) same in let size = ap (λ (y : Entry). y.fields) same in let start = h.0 in let rest = laid_end (n + x.fields) es end h.1 in (omega arith, omega arith)
  where
    laid_end : (m : ℕ) (fs : List Entry) (to : ℕ) → Laid m fs to → m ≤ to
    laid_end m [] to k = omega arith
    laid_end m (f ∷ fs) to k = let on = laid_end (m + f.fields) fs to k.1 in omega arith
laid_within n (x ∷ es) end (suc i) e h is = let on = laid_within (n + x.fields) es end i e h.1 is in (omega (arith, on.0), on.1)

-- the fields of two entries lie apart
pub laid_apart : (n : ℕ) (es : List Entry) (end i j : ℕ) (e f : Entry) → Laid n es end → slice_get es i ≡ Some e → slice_get es j ≡ Some f → (i ≡ j → ⊥) → (e.first + e.fields ≤ f.first) ⊎ (f.first + f.fields ≤ e.first)
laid_apart n [] end i j e f h ei fj other = absurd (none-some e ei)
laid_apart n (x ∷ es) end zero zero e f h ei fj other = absurd (other refl)
laid_apart n (x ∷ es) end zero (suc j) e f h ei fj other =
    let same = same_Some x e ei in let first = ap (λ (y : Entry). y.first) same in let size = ap (λ (y : Entry). y.fields) same in let start = h.0 in let on = laid_within (n + x.fields) es end j f h.1 fj in inl (omega (arith, on.0))
laid_apart n (x ∷ es) end (suc i) zero e f h ei fj other =
    let same = same_Some x f fj in let first = ap (λ (y : Entry). y.first) same in let size = ap (λ (y : Entry). y.fields) same in let start = h.0 in let on = laid_within (n + x.fields) es end i e h.1 ei in inr (omega (arith, on.0))
laid_apart n (x ∷ es) end (suc i) (suc j) e f h ei fj other = laid_apart (n + x.fields) es end i j e f h.1 ei fj (λ s. other (ap suc s))

pub laid_more : (n : ℕ) (es : List Entry) (end : ℕ) (x : Entry) → Laid n es end → x.first ≡ end → Laid n (es ++ x ∷ []) (end + x.fields)
laid_more n [] end x h at = (at ∙ sym h, ap (λ k. k + x.fields) h)
laid_more n (y ∷ es) end x h at = (h.0, laid_more (n + y.fields) es end x h.1 at)
