-- The texts of a file.
use Rattle.std.proofs.{Common.{◌≡◌, ℕ, zero, suc, ◌+◌, ◌<◌, List, [], ◌∷◌, ◌++◌, length, Some, Bool, true, false, refl, sym, ap, ◌∙◌, subst, if◌then◌else◌, inl, inr, arith, ⊎_elim}, lemmas.Option.{same_Some, none-some}}
use Rattle.std.specs.{Prelude.{slice_get, codes}, Str.bytes_eq}
use Rattle.pc_base.proofs.{Gets.{get_front, get_behind, get_below}, Bools.true_false, Elements.{differ_none, has_front, has_behind}}
use Rattle.pc_base.specs.Lists.{Has, Differ, Text}
use Rattle.pc_tree.specs.Tree as t
use Rattle.pc_members.specs.{MemberLists.{is_among, with_name, with_names}, Members.{field_texts, method_texts}}
use Rattle.pc_names.specs.Faults.{with_members}
use Rattle.pc_members.proofs.Differences.{names_differ, same_text, equal_texts, among_has}
use Rattle.pc_names.proofs.OtherTexts.{members_differ}
use Rattle.pc_body_spec.specs.{Bodies.text_from, Slots.entities_texts}
use Rattle.pc_file_spec.specs.{Cores.texts_of_file, Laws.{IsNeeded, TextsAreThere}}

-- ---- tables

-- A table that grows keeps its places.
name_kept : (names : List Text) (x : Text) (i : ℕ) (y : Text) → slice_get names i ≡ Some y → slice_get (with_name names x) i ≡ Some y
name_kept names x i y h = by (is_among x names)
  where
    by : (b : Bool) → slice_get (if b then names else names ++ x ∷ []) i ≡ Some y
    by true = h
    by false = get_front names (x ∷ []) i y h

pub names_kept : (xs names : List Text) (i : ℕ) (y : Text) → slice_get names i ≡ Some y → slice_get (with_names names xs) i ≡ Some y
names_kept [] names i y h = h
names_kept (x ∷ xs) names i y h = names_kept xs (with_name names x) i y (name_kept names x i y h)

pub members_kept : (es : List t.Entity) (names : List Text) (i : ℕ) (y : Text) → slice_get names i ≡ Some y → slice_get (with_members names es) i ≡ Some y
members_kept [] names i y h = h
members_kept (e ∷ es) names i y h = members_kept es (with_names names (field_texts e.fields ++ method_texts e.methods)) i y (names_kept (field_texts e.fields ++ method_texts e.methods) names i y h)

-- What is added is there.
name_there : (names : List Text) (x : Text) → Has (with_name names x) x
name_there names x = by (is_among x names) refl
  where
    by : (b : Bool) → is_among x names ≡ b → Has (if b then names else names ++ x ∷ []) x
    by true e = among_has x names e
    by false e = (length names, get_behind names x [])

pub names_there : (xs names : List Text) (x : Text) (i : ℕ) → slice_get xs i ≡ Some x → Has (with_names names xs) x
names_there [] names x i h = absurd (none-some x h)
names_there (y ∷ xs) names x zero h =
    let there = name_there names y in
    subst (λ z. Has (with_names (with_name names y) xs) z) (same_Some y x h) (there.0, names_kept xs (with_name names y) there.0 y there.1)
names_there (y ∷ xs) names x (suc i) h = names_there xs (with_name names y) x i h

members_there : (es : List t.Entity) (names : List Text) (x : Text) (i : ℕ) (e : t.Entity) → slice_get es i ≡ Some e → Has (field_texts e.fields ++ method_texts e.methods) x → Has (with_members names es) x
members_there [] names x i e h g = absurd (none-some e h)
members_there (f ∷ es) names x zero e h g =
    let own : List Text = field_texts f.fields ++ method_texts f.methods in
    let here : Has own x = subst (λ (d : t.Entity). Has (field_texts d.fields ++ method_texts d.methods) x) (sym (same_Some f e h)) g in
    let there = names_there own names x here.0 here.1 in
    (there.0, members_kept es (with_names names own) there.0 x there.1)
members_there (f ∷ es) names x (suc i) e h g = members_there es (with_names names (field_texts f.fields ++ method_texts f.methods)) x i e h g

-- ---- the texts of a file

abbrev pub language : List Text
language = codes "out" ∷ codes "print" ∷ codes "create" ∷ codes "apply" ∷ []

pub language_kept : (file : t.File) (i : ℕ) (x : Text) → slice_get language i ≡ Some x → slice_get (texts_of_file file) i ≡ Some x
language_kept file i x h = names_kept (entities_texts file.entities) (with_members language file.entities) i x (members_kept file.entities language i x h)

pub texts_differ : (file : t.File) → Differ (texts_of_file file)
texts_differ file = names_differ (entities_texts file.entities) (with_members language file.entities) (members_differ file.entities language (names_differ language [] differ_none))

pub member_there : (file : t.File) (e : t.Entity) (x : Text) → Has file.entities e → Has (field_texts e.fields ++ method_texts e.methods) x → Has (texts_of_file file) x
member_there file e x h g =
    let there = members_there file.entities language x h.0 e h.1 g in
    (there.0, names_kept (entities_texts file.entities) (with_members language file.entities) there.0 x there.1)

needed : (file : t.File) (x : Text) → IsNeeded file x → Has (texts_of_file file) x
needed file x (inl h) = (h.0, language_kept file h.0 x h.1)
needed file x (inr (inl h)) = member_there file h.0 x h.1 (⊎_elim (λ a. has_front (field_texts h.0.fields) (method_texts h.0.methods) x a) (λ b. has_behind (field_texts h.0.fields) (method_texts h.0.methods) x b) h.2)
needed file x (inr (inr h)) = names_there (entities_texts file.entities) (with_members language file.entities) x h.0 h.1

pub texts_there : TextsAreThere
texts_there file = (texts_differ file, needed file)

-- ---- the number of a text

text_at : (at : ℕ) (xs : List Text) (x : Text) (i : ℕ) → slice_get xs i ≡ Some x → (k : ℕ) × (text_from at xs x ≡ at + k) × (slice_get xs k ≡ Some x)
text_at at [] x i h = absurd (none-some x h)
text_at at (y ∷ xs) x i h = by (λ j g. text_at (suc at) xs x j g) (bytes_eq y x) refl i h
  where
    by : ((j : ℕ) → slice_get xs j ≡ Some x → (k : ℕ) × (text_from (suc at) xs x ≡ suc at + k) × (slice_get xs k ≡ Some x)) → (b : Bool) → bytes_eq y x ≡ b → (i : ℕ) → slice_get (y ∷ xs) i ≡ Some x → (k : ℕ) × ((if b then at else text_from (suc at) xs x) ≡ at + k) × (slice_get (y ∷ xs) k ≡ Some x)
    by rest true e i g = (0, omega arith, ap (λ z. Some z) (equal_texts y x e))
    by rest false e zero g = absurd (true_false (sym (ap (λ z. bytes_eq z x) (same_Some y x g) ∙ same_text x) ∙ e))
    by rest false e (suc i) g = let r = rest i g in let s = r.1 in (suc r.0, omega (arith, s), r.2)

pub text_found : (xs : List Text) (x : Text) → Has xs x → slice_get xs (text_from 0 xs x) ≡ Some x
text_found xs x h = let r = text_at 0 xs x h.0 h.1 in let s = r.1 in let e : text_from 0 xs x ≡ r.0 = omega (arith, s) in ap (slice_get xs) e ∙ r.2

pub text_below : (xs : List Text) (x : Text) → Has xs x → text_from 0 xs x < length xs
text_below xs x h = get_below xs (text_from 0 xs x) x (text_found xs x h)

-- Texts of the list with the same number are the same.
pub one_text : (xs : List Text) (x y : Text) → Has xs x → Has xs y → text_from 0 xs x ≡ text_from 0 xs y → x ≡ y
one_text xs x y h g e = same_Some x y (sym (text_found xs x h) ∙ ap (slice_get xs) e ∙ text_found xs y g)
