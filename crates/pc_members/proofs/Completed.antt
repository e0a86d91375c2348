-- The members of each entity, from a table of the methods of traits and interfaces.
use Rattle.std.proofs.Common.{◌≡◌, ℕ, suc, ◌+◌, ◌&&◌, ◌||◌, not, List, [], ◌∷◌, ◌++◌, map, Some, Bool, true, false, refl, sym, ap, ◌∙◌, subst, length, arith, append_assoc, if◌then◌else◌}
use Rattle.std.specs.{Prelude.slice_get, Str.bytes_eq}
use Rattle.pc_tree.specs.{declared.kinds.EntityKind.EntityKind, Kinds.is_abstract}
use Rattle.pc_tree.specs.Tree as t
use Rattle.pc_base.specs.Lists.{Text}
use Rattle.pc_members.specs.{MemberLists.{is_among, with_name, with_names, methods_taken_over, of_each, abstract_methods, members, abstract_members, concrete_members}, Parts.{or_no_members, added_if}, Members.{entity_names, has_added, IsTransitiveClosure, Member, written, without_body, is_takable, own_texts}, Founded.IsFounded, Rounds.{ClosesOwn, Knows, methods_written, bodiless, taken_members, completed, completed_from, concrete, own_members, named_all}}
use Rattle.pc_members.proofs.{Differences.equal_texts, Ranks.all_named, Rounding.knows_all}

-- ---- known names

-- Both have the same texts.
abbrev pub SameTexts : List Text → List Text → Type 0
SameTexts xs ys = (x : Text) → is_among x xs ≡ is_among x ys

or_assoc : (a b c : Bool) → (a || (b || c)) ≡ ((a || b) || c)
or_assoc true b c = refl
or_assoc false b c = refl

pub among_parts : (x : Text) (xs ys : List Text) → is_among x (xs ++ ys) ≡ (is_among x xs || is_among x ys)
among_parts x [] ys = refl
among_parts x (y ∷ xs) ys = ap (λ b. bytes_eq x y || b) (among_parts x xs ys) ∙ or_assoc (bytes_eq x y) (is_among x xs) (is_among x ys)

same_push : (xs ys : List Text) (z : Text) → SameTexts xs ys → SameTexts (xs ++ z ∷ []) (ys ++ z ∷ [])
same_push xs ys z s x = among_parts x xs (z ∷ []) ∙ ap (λ b. b || is_among x (z ∷ [])) (s x) ∙ sym (among_parts x ys (z ∷ []))

-- A known name adds nothing.
pub name_known : (names : List Text) (y : Text) → SameTexts (with_name names y) (names ++ y ∷ [])
name_known names y x = by (is_among y names) refl
  where
    or_false : (b : Bool) → b ≡ (b || false)
    or_false true = refl
    or_false false = refl

    or_true : (b : Bool) → (b || true) ≡ true
    or_true true = refl
    or_true false = refl

    here : is_among y names ≡ true → (b : Bool) → bytes_eq x y ≡ b → is_among x names ≡ (is_among x names || (b || false))
    here e true d = ap (λ z. is_among z names) (equal_texts x y d) ∙ e ∙ sym (or_true (is_among x names))
    here e false d = or_false (is_among x names)

    by : (b : Bool) → is_among y names ≡ b → is_among x (if b then names else names ++ y ∷ []) ≡ is_among x (names ++ y ∷ [])
    by true e = here e (bytes_eq x y) refl ∙ sym (among_parts x names (y ∷ []))
    by false e = refl

pub names_known : (names xs : List Text) → SameTexts (with_names names xs) (names ++ xs)
names_known names [] x = sym (among_parts x names [] ∙ or_none_left (is_among x names))
  where
    or_none_left : (b : Bool) → (b || false) ≡ b
    or_none_left true = refl
    or_none_left false = refl
names_known names (y ∷ xs) x =
    names_known (with_name names y) xs x ∙ among_parts x (with_name names y) xs ∙ ap (λ b. b || is_among x xs) (name_known names y x) ∙ sym (among_parts x (names ++ y ∷ []) xs) ∙ ap (is_among x) (append_assoc names (y ∷ []) xs)

-- ---- what is taken over

pub taken_known : (k : EntityKind) (known next : List Text) (ms : List t.Method) → SameTexts known next
    → methods_taken_over k known ms ≡ methods_taken_over k next ms
taken_known k known next [] s = refl
taken_known k known next (m ∷ ms) s =
    by (is_takable k m && not (is_among m.name.text next)) (λ a b h. taken_known k a b ms h) (ap (λ b. is_takable k m && not b) (s m.name.text))
  where
    by : (b : Bool) → ((xs ys : List Text) → SameTexts xs ys → methods_taken_over k xs ms ≡ methods_taken_over k ys ms) → (is_takable k m && not (is_among m.name.text known)) ≡ b
        → (if is_takable k m && not (is_among m.name.text known) then m ∷ methods_taken_over k (known ++ m.name.text ∷ []) ms else methods_taken_over k known ms) ≡ (if b then m ∷ methods_taken_over k (next ++ m.name.text ∷ []) ms else methods_taken_over k next ms)
    by true rest e = ap (λ b. if b then m ∷ methods_taken_over k (known ++ m.name.text ∷ []) ms else methods_taken_over k known ms) e ∙ ap (λ xs. m ∷ xs) (rest (known ++ m.name.text ∷ []) (next ++ m.name.text ∷ []) (same_push known next m.name.text s))
    by false rest e = ap (λ b. if b then m ∷ methods_taken_over k (known ++ m.name.text ∷ []) ms else methods_taken_over k known ms) e
        ∙ rest known next s

pub taken_written : (k : EntityKind) (known : List Text) (ms : List t.Method)
    → taken_members k known (map written ms) ≡ map written (methods_taken_over k known ms)
taken_written k known [] = refl
taken_written k known (m ∷ ms) = by (λ ks. taken_written k ks ms) (is_takable k m && not (is_among m.name.text known))
  where
    by : ((ks : List Text) → taken_members k ks (map written ms) ≡ map written (methods_taken_over k ks ms)) → (b : Bool)
        → (if b then written m ∷ taken_members k (known ++ m.name.text ∷ []) (map written ms) else taken_members k known (map written ms)) ≡ map written (if b then m ∷ methods_taken_over k (known ++ m.name.text ∷ []) ms else methods_taken_over k known ms)
    by rest true = ap (λ xs. written m ∷ xs) (rest (known ++ m.name.text ∷ []))
    by rest false = rest known

-- ---- members

bodiless_all : (ms : List t.Method) → map bodiless (map written ms) ≡ map (λ m. written (without_body m)) ms
bodiless_all [] = refl
bodiless_all (m ∷ ms) = ap (λ xs. written (without_body m) ∷ xs) (bodiless_all ms)

abbrev pub HasMethods : t.File → List (List Member) → Type 0
HasMethods file table = (j : ℕ) (e : t.Entity) → slice_get file.entities j ≡ Some e → is_abstract e.kind ≡ true → slice_get table j ≡ Some (methods_written file e)

abstract_is : (file : t.File) (table : List (List Member)) (i : ℕ) (e : t.Entity) → HasMethods file table → slice_get file.entities i ≡ Some e → is_abstract e.kind ≡ true → map bodiless (or_no_members (slice_get table i)) ≡ abstract_members file.entities e
abstract_is file table i e has h is = ap (λ o. map bodiless (or_no_members o)) (has i e h is) ∙ bodiless_all (abstract_methods file.entities e)

concrete_is : (file : t.File) (above : List (List ℕ)) → IsFounded file → IsTransitiveClosure file above → (table : List (List Member)) (i : ℕ) (e : t.Entity) → HasMethods file table → slice_get file.entities i ≡ Some e → concrete (entity_names file) table e ≡ concrete_members file.entities e
concrete_is file above founded closed table i e has h =
    let ms : List t.Method = of_each (abstract_methods file.entities) file.entities e.provides in
    let known : List Text = with_names [] (own_texts e) in
    let these : taken_members e.kind known (named_all (entity_names file) table e.provides) ≡ map written (methods_taken_over e.kind (own_texts e) ms) =
    ap (taken_members e.kind known) (all_named file above founded closed table i e h has) ∙ taken_written e.kind known ms ∙ ap (map written) (taken_known e.kind known (own_texts e) ms (names_known [] (own_texts e))) in
    ap (λ xs. own_members e ++ xs) these
    ∙ append_assoc (map written e.methods) (added_if (has_added e)) (map written (methods_taken_over e.kind (own_texts e) ms))

completed_is : (file : t.File) (above : List (List ℕ)) → IsFounded file → IsTransitiveClosure file above → (table : List (List Member)) (i : ℕ) (e : t.Entity) → HasMethods file table → slice_get file.entities i ≡ Some e → completed (entity_names file) table i e ≡ members file.entities e
completed_is file above founded closed table i e has h = by (is_abstract e.kind) refl
  where
    by : (b : Bool) → is_abstract e.kind ≡ b → (if b then map bodiless (or_no_members (slice_get table i)) else concrete (entity_names file) table e) ≡ (if b then abstract_members file.entities e else concrete_members file.entities e)
    by true is = abstract_is file table i e has h is
    by false is = concrete_is file above founded closed table i e has h

completes : (file : t.File) (entities : List Text) (table : List (List Member)) (i : ℕ) (es : List t.Entity) → ((j : ℕ) (e : t.Entity) → slice_get es j ≡ Some e → completed entities table (i + j) e ≡ members file.entities e) → completed_from entities table i es ≡ map (members file.entities) es
completes file entities table i [] h = refl
completes file entities table i (e ∷ es) h =
    let here : completed entities table i e ≡ members file.entities e = ap (λ k. completed entities table k e) (let z : i ≡ i + 0 = omega arith in z) ∙ h 0 e refl in
    rw (here, completes file entities table (i + 1) es (λ j d g. ap (λ k. completed entities table k d) (let z : i + 1 + j ≡ i + suc j = omega arith in z) ∙ h (suc j) d g)) refl

-- If the table has all traits and interfaces, each entity gets its members.
pub all_completed : (file : t.File) (entities : List Text) (own : List (List ℕ)) (n : ℕ) (table : List (List Member)) → entities ≡ entity_names file → ClosesOwn file own → IsFounded file → n ≡ length file.entities → Knows file own n 0 table → completed_from entities table 0 file.entities ≡ map (members file.entities) file.entities
all_completed file entities own n table names c founded same k =
    let has : HasMethods file table = knows_all file own table c founded (subst (λ m. Knows file own m 0 table) same k) in
    ap (λ ns. completed_from ns table 0 file.entities) names
    ∙ completes file (entity_names file) table 0 file.entities (λ j e h. ap (λ i. completed (entity_names file) table i e) (let z : 0 + j ≡ j = omega arith in z) ∙ completed_is file c.0 founded c.1 table j e has h)
