-- A trait has all methods of the traits above it, whatever the bound on the length of a chain of `is`.
use Rattle.std.proofs.{Common.{◌≡◌, ℕ, zero, suc, ◌+◌, ◌-◌, ◌<◌, ◌≤◌, List, [], ◌∷◌, ◌++◌, length, Option, Some, None, Bool, true, false, refl, sym, ap, ◌∙◌, subst, arith, if◌then◌else◌, inl, inr}, lemmas.Bool.cases_lt, lemmas.Option.{same_Some, none-some}}
use Rattle.std.specs.{Prelude.{slice_get, ◌⊎◌}, Str.bytes_eq}
use Rattle.pc_base.proofs.{Gets.{get_below, get_append, get_map, map_get}, Bools.true_false, Elements.{has_on, has_either, has_front, has_behind}}
use Rattle.pc_tree.specs.{declared.written_names.Name.Name, Kinds.{is_abstract, first_own}}
use Rattle.pc_tree.specs.Tree as t
use Rattle.pc_base.specs.Lists.{Has, Differ, Text}
use Rattle.pc_members.specs.{MemberLists.{is_among, firsts, entity_named, of_each, trait_methods}, Parts.of_entity, Members.{built_in_names, texts_of, entity_names, method_texts, IsTransitiveClosure}}
use Rattle.pc_members.proofs.{Differences.{same_text, among_has}, Named.{named_is, one_entity}}
use Rattle.pc_members.specs.Members as chain
use Rattle.pc_names.proofs.CycleFirsts.{no_cycle}
use Rattle.pc_file_spec.specs.Laws.{TraitsInherit, BoundIsEnough}
use Rattle.pc_file_spec.proofs.{Collects.{Collects, collects}, Origins.{provided_trait, abstract_texts}, Entities.{own_entity, entity_own, position_get}, Aboves.{names_entity, written_above}}

-- ---- lists without equal elements

abbrev without : {T : Type 0} → ℕ → List T → List T
without i [] = []
without zero (x ∷ xs) = xs
without (suc i) (x ∷ xs) = x ∷ without i xs

without_count : {T : Type 0} → (i : ℕ) (xs : List T) (x : T) → slice_get xs i ≡ Some x → length xs ≡ suc (length (without i xs))
without_count i [] x h = absurd (none-some x h)
without_count zero (y ∷ xs) x h = refl
without_count (suc i) (y ∷ xs) x h = ap suc (without_count i xs x h)

without_has : {T : Type 0} → (i j : ℕ) (xs : List T) (y : T) → (j ≡ i → ⊥) → slice_get xs j ≡ Some y → Has (without i xs) y
without_has i j [] y n h = absurd (none-some y h)
without_has zero zero (x ∷ xs) y n h = absurd (n refl)
without_has zero (suc j) (x ∷ xs) y n h = (j, h)
without_has (suc i) zero (x ∷ xs) y n h = (0, h)
without_has (suc i) (suc j) (x ∷ xs) y n h = let r = without_has i j xs y (λ e. n (ap suc e)) h in (suc r.0, r.1)

differ_tail : {T : Type 0} → (x : T) (xs : List T) → Differ (x ∷ xs) → Differ xs
differ_tail x xs d i j y g h = let e : suc i ≡ suc j = d (suc i) (suc j) y g h in omega (arith, e)

-- A list of different elements is no longer than one that has them all.
no_longer : {T : Type 0} → (xs zs : List T) → Differ xs → ((x : T) → Has xs x → Has zs x) → length xs ≤ length zs
no_longer [] zs d f = omega arith
no_longer {T} (x ∷ xs) zs d f =
    let at : Has zs x = f x (0, refl) in
    let count = without_count at.0 zs x at.1 in
    let rest = no_longer xs (without at.0 zs) (differ_tail x xs d) (λ y h. let there = f y (has_on x xs y h) in without_has at.0 there.0 zs y (λ e. apart y h (sym at.1 ∙ ap (slice_get zs) (sym e) ∙ there.1)) there.1) in
    omega (arith, count, rest)
  where
    apart : (y : T) → Has xs y → Some x ≡ Some y → ⊥
    apart y h e = let k : suc h.0 ≡ 0 = d (suc h.0) 0 y h.1 e in absurd (omega (arith, k))

-- ---- numbers below another

abbrev upto : ℕ → List ℕ
upto zero = []
upto (suc n) = n ∷ upto n

upto_count : (n : ℕ) → length (upto n) ≡ n
upto_count zero = refl
upto_count (suc n) = ap suc (upto_count n)

upto_has : (n c : ℕ) → c < n → Has (upto n) c
upto_has zero c l = absurd (omega (arith, l))
upto_has (suc n) c l = elim (cases_lt c n) [
  | inl m ↦ has_on n (upto n) c (upto_has n c m)
  | inr m ↦ let e : n ≡ c = omega (arith, l, m) in (0, ap Some e)
]

-- There are no more different numbers below a bound than the bound.
few_below : (n : ℕ) (path : List ℕ) → Differ path → ((c : ℕ) → Has path c → c < n) → length path ≤ n
few_below n path d f = let k = no_longer path (upto n) d (λ c h. upto_has n c (f c h)) in let e = upto_count n in omega (arith, k, e)

-- ---- one more step

same_each : (one other : t.Entity → List t.Method) (all : List t.Entity) (ns : List Name) → ((n : Name) (f : t.Entity) → Has ns n → entity_named all n.text ≡ Some f → one f ≡ other f) → of_each one all ns ≡ of_each other all ns
same_each one other all [] h = refl
same_each one other all (n ∷ ns) h =
    let first : of_entity one (entity_named all n.text) ≡ of_entity other (entity_named all n.text) = by (entity_named all n.text) refl in
    let rest = same_each one other all ns (λ m f g e. h m f (has_on n ns m g) e) in
    ap (λ xs. xs ++ of_each one all ns) first ∙ ap (λ xs. of_entity other (entity_named all n.text) ++ xs) rest
  where
    by : (o : Option t.Entity) → entity_named all n.text ≡ o → of_entity one o ≡ of_entity other o
    by None e = refl
    by (Some f) e = h n f (0, refl) e

-- A chain with one more `is`.
longer : (file : t.File) {a b c : ℕ} → chain.LeadsInFile file a b → chain.ProvidesInFile file b c → chain.LeadsInFile file a c
longer file (chain.one h) l = chain.more h (chain.one l)
longer file (chain.more h r) l = chain.more h (longer file r l)

-- Each entity of the path is the last one, or leads to it.
abbrev Path : t.File → List ℕ → ℕ → Type 0
Path file path a = (c : ℕ) → Has path c → (c ≡ a) ⊎ chain.LeadsInFile file (first_own + c) (first_own + a)

module _ (file : t.File) (above : List (List ℕ)) (c : Collects file above) (closes : IsTransitiveClosure file above) where
  abbrev all : List t.Entity
  all = file.entities

  no_way_back : (b : ℕ) (f : t.Entity) → slice_get all b ≡ Some f → is_abstract f.kind ≡ true → chain.LeadsInFile file (first_own + b) (first_own + b) → ⊥
  no_way_back b f h is l = no_cycle file above closes c.cycles (first_own + b) (f, own_entity file b f h, is, l)

  pub stays : (k a : ℕ) (e : t.Entity) (path : List ℕ) → slice_get all a ≡ Some e → Differ path → ((b : ℕ) → Has path b → b < length all) → Path file path a → length all < length path + k → trait_methods (suc k) all e ≡ trait_methods k all e
  stays zero a e path ha d low p far = let few = few_below (length all) path d low in absurd (omega (arith, few, far))
  stays (suc k) a e path ha d low p far =
      ap (λ xs. firsts [] (e.methods ++ xs)) (same_each (trait_methods (suc k) all) (trait_methods k all) all e.provides (λ n f hn named.
      let s = named_is all n.text f named in
      let b : ℕ = s.0.0 in
      let is : is_abstract f.kind ≡ true = provided_trait file above e f n c (a, ha) hn s.0 s.1 in
      let link : chain.ProvidesInFile file (first_own + a) (first_own + b) = names_entity file above a e f n b c ha hn s.0.1 s.1 in
      let more : length all < length (b ∷ path) + k = omega (arith, far) in
      let fresh : Has path b → ⊥ = λ h. no_way_back b f s.0.1 is (elim (p b h) [ inl same ↦ subst (λ x. chain.LeadsInFile file (first_own + x) (first_own + b)) (sym same) (chain.one link) | inr way ↦ longer file way link ]) in
      stays k b f (b ∷ path) s.0.1 (differ_more b path fresh d) (below_more b path (get_below all b f s.0.1) low) (path_more a b path p link) more))
    where
      differ_more : (b : ℕ) (path : List ℕ) → (Has path b → ⊥) → Differ path → Differ (b ∷ path)
      differ_more b path n d zero zero x g h = refl
      differ_more b path n d zero (suc j) x g h = absurd (n (j, h ∙ sym g))
      differ_more b path n d (suc i) zero x g h = absurd (n (i, g ∙ sym h))
      differ_more b path n d (suc i) (suc j) x g h = ap suc (d i j x g h)

      below_more : (b : ℕ) (path : List ℕ) → b < length all → ((x : ℕ) → Has path x → x < length all) → (x : ℕ) → Has (b ∷ path) x → x < length all
      below_more b path l f x (zero, h) = subst (λ y. y < length all) (same_Some b x h) l
      below_more b path l f x (suc i, h) = f x (i, h)

      path_more : (a b : ℕ) (path : List ℕ) → Path file path a → chain.ProvidesInFile file (first_own + a) (first_own + b) → Path file (b ∷ path) b
      path_more a b path p l x (zero, h) = inl (sym (same_Some b x h))
      path_more a b path p l x (suc i, h) = elim (p x (i, h)) [
        | inl same ↦ inr (subst (λ y. chain.LeadsInFile file (first_own + y) (first_own + b)) (sym same) (chain.one l))
        | inr way ↦ inr (longer file way l)
      ]

  alone : (a : ℕ) → Differ {T = ℕ} (a ∷ [])
  alone a zero zero x g h = refl
  alone a zero (suc j) x g h = absurd (none-some x h)
  alone a (suc i) j x g h = absurd (none-some x g)

  -- From the number of the entities on, one more step makes no difference.
  pub one_more : (k a : ℕ) (e : t.Entity) → slice_get all a ≡ Some e → length all ≤ k → trait_methods (suc k) all e ≡ trait_methods k all e
  one_more k a e h l =
      stays k a e (a ∷ []) h (alone a) (λ b g. subst (λ x. x < length all) (sym (is_first b g)) (get_below all a e h)) (λ b g. inl (is_first b g)) (omega (arith, l))
    where
      is_first : (b : ℕ) → Has (a ∷ []) b → b ≡ a
      is_first b (zero, g) = sym (same_Some a b g)
      is_first b (suc i, g) = absurd (none-some b g)

  pub enough : (j a : ℕ) (e : t.Entity) → slice_get all a ≡ Some e → trait_methods (length all + j) all e ≡ trait_methods (length all) all e
  enough zero a e h = let z : length all + 0 ≡ length all = omega arith in ap (λ k. trait_methods k all e) z
  enough (suc j) a e h =
      let z : length all + suc j ≡ suc (length all + j) = omega arith in
      ap (λ k. trait_methods k all e) z ∙ one_more (length all + j) a e h (omega arith) ∙ enough j a e h

-- ---- the names of a trait's methods

firsts_named : (known : List Text) (ms : List t.Method) (x : Text) → Has (method_texts ms) x → Has known x ⊎ Has (method_texts (firsts known ms)) x
firsts_named known [] x h = absurd (none-some x h.1)
firsts_named known (m ∷ ms) x h = by (λ k g. firsts_named k ms x g) (is_among m.name.text known) refl h
  where
    single : Has (m.name.text ∷ []) x → m.name.text ≡ x
    single (zero, g) = same_Some m.name.text x g
    single (suc i, g) = absurd (none-some x g)

    by : ((k : List Text) → Has (method_texts ms) x → Has k x ⊎ Has (method_texts (firsts k ms)) x) → (b : Bool) → is_among m.name.text known ≡ b → Has (method_texts (m ∷ ms)) x → Has known x ⊎ Has (method_texts (if b then firsts known ms else m ∷ firsts (known ++ m.name.text ∷ []) ms)) x
    by rest true e (zero, g) = inl (subst (Has known) (same_Some m.name.text x g) (among_has m.name.text known e))
    by rest true e (suc i, g) = rest known (i, g)
    by rest false e (zero, g) = inr (0, g)
    by rest false e (suc i, g) = elim (rest (known ++ m.name.text ∷ []) (i, g)) [
      | inl a ↦ elim (has_either known (m.name.text ∷ []) x a) [ inl b ↦ inl b | inr b ↦ inr (0, ap Some (single b)) ]
      | inr a ↦ inr (has_on m.name.text (method_texts (firsts (known ++ m.name.text ∷ []) ms)) x a)
    ]

pub each_there : (methods : t.Entity → List t.Method) (all : List t.Entity) (ns : List Name) (n : Name) (f : t.Entity) (y : t.Method) (i : ℕ) → slice_get ns i ≡ Some n → entity_named all n.text ≡ Some f → Has (methods f) y → Has (of_each methods all ns) y
each_there methods es [] n f y i h e g = absurd (none-some n h)
each_there methods es (m ∷ ns) n f y zero h e g = has_front (of_entity methods (entity_named es m.text)) (of_each methods es ns) y (subst (λ o. Has (of_entity methods o) y) (sym (ap (λ (x : Name). entity_named es x.text) (same_Some m n h) ∙ e)) g)
each_there methods es (m ∷ ns) n f y (suc i) h e g = has_behind (of_entity methods (entity_named es m.text)) (of_each methods es ns) y (each_there methods es ns n f y i h e g)

pub named_there : (es : List t.Entity) (f : t.Entity) (i : ℕ) → slice_get es i ≡ Some f → (g : t.Entity) × (entity_named es f.name.text ≡ Some g)
named_there [] f i h = absurd (none-some f h)
named_there (e ∷ es) f i h = by (λ j g. named_there es f j g) (bytes_eq e.name.text f.name.text) refl i h
  where
    by : ((j : ℕ) → slice_get es j ≡ Some f → (g : t.Entity) × (entity_named es f.name.text ≡ Some g)) → (b : Bool) → bytes_eq e.name.text f.name.text ≡ b → (i : ℕ) → slice_get (e ∷ es) i ≡ Some f → (g : t.Entity) × ((if b then Some e else entity_named es f.name.text) ≡ Some g)
    by rest true d i g = (e, refl)
    by rest false d zero g = absurd (true_false (sym (ap (λ (x : t.Entity). bytes_eq x.name.text f.name.text) (same_Some e f g) ∙ same_text f.name.text) ∙ d))
    by rest false d (suc i) g = rest i g

-- A chain starts at an entity of the file.
begins : (file : t.File) (p q : ℕ) → chain.LeadsInFile file p q
    → (a : ℕ) × (e : t.Entity) × (p ≡ first_own + a) × (slice_get file.entities a ≡ Some e)
begins file p q (chain.one h) = let o = entity_own file p h.0 h.1 in (o.0, h.0, o.1, o.2)
begins file p q (chain.more h r) = let o = entity_own file p h.0 h.1 in (o.0, h.0, o.1, o.2)

module _ (file : t.File) (above : List (List ℕ)) (c : Collects file above) (closes : IsTransitiveClosure file above) where
  abbrev methods : t.Entity → List t.Method
  methods = trait_methods (length file.entities) file.entities

  -- What is in the entity or in one that it names is found by its name.
  turn : (a : ℕ) (e : t.Entity) (x : Text) → slice_get file.entities a ≡ Some e → Has (method_texts (e.methods ++ of_each methods file.entities e.provides)) x → Has (method_texts (methods e)) x
  turn a e x h g = elim (firsts_named [] (e.methods ++ of_each methods file.entities e.provides) x g) [
    | inl n ↦ absurd (none-some x n.1)
    | inr y ↦ subst (λ ms. Has (method_texts ms) x) (one_more file above c closes (length file.entities) a e h (omega arith)) y
  ]

  own_there : (a : ℕ) (e : t.Entity) (x : Text) → slice_get file.entities a ≡ Some e → Has (method_texts e.methods) x → Has (method_texts (methods e)) x
  own_there a e x h g =
      let r = map_get (λ (m : t.Method). m.name.text) e.methods g.0 x g.1 in
      let y = has_front e.methods (of_each methods file.entities e.provides) r.0 (g.0, r.1) in
      turn a e x h (y.0, get_map (λ (m : t.Method). m.name.text) (e.methods ++ of_each methods file.entities e.provides) y.0 r.0 y.1 ∙ ap Some r.2)

  named_methods : (a b : ℕ) (e f : t.Entity) (x : Text) → slice_get file.entities a ≡ Some e → slice_get file.entities b ≡ Some f → chain.ProvidesInFile file (first_own + a) (first_own + b) → Has (method_texts (methods f)) x → Has (method_texts (methods e)) x
  named_methods a b e f x ha hb l g =
      let own = entity_own file (first_own + a) l.0 l.1 in
      let number = own.1 in
      let place : own.0 ≡ a = omega (arith, number) in
      let same : l.0 ≡ e = same_Some l.0 e (sym own.2 ∙ ap (slice_get file.entities) place ∙ ha) in
      let n : Name = l.2.0 in
      let provided : slice_get e.provides l.2.1.0 ≡ Some n = ap (λ (y : t.Entity). slice_get y.provides l.2.1.0) (sym same) ∙ l.2.1.1 in
      let text : n.text ≡ f.name.text = same_Some n.text f.name.text (sym (position_get n.text (entity_names file) (first_own + b) l.2.2) ∙ get_append built_in_names (texts_of file.entities) b ∙ get_map (λ (y : t.Entity). y.name.text) file.entities b f hb) in
      let there = named_there file.entities f b hb in
      let found = named_is file.entities f.name.text there.0 there.1 in
      let is : there.0 ≡ f = one_entity file there.0 f c.names found.0 (b, hb) found.1 in
      let named : entity_named file.entities n.text ≡ Some f = ap (entity_named file.entities) text ∙ there.1 ∙ ap Some is in
      let r = map_get (λ (m : t.Method). m.name.text) (methods f) g.0 x g.1 in
      let y = has_behind e.methods (of_each methods file.entities e.provides) r.0 (each_there methods file.entities e.provides n f r.0 l.2.1.0 provided named (g.0, r.1)) in
      turn a e x ha (y.0, get_map (λ (m : t.Method). m.name.text) (e.methods ++ of_each methods file.entities e.provides) y.0 r.0 y.1 ∙ ap Some r.2)

  above_there : (p q : ℕ) → chain.LeadsInFile file p q → (a b : ℕ) (e f : t.Entity) (x : Text) → p ≡ first_own + a → q ≡ first_own + b → slice_get file.entities a ≡ Some e → slice_get file.entities b ≡ Some f → Has (method_texts f.methods) x → Has (method_texts (methods e)) x
  above_there p q (chain.one h) a b e f x ep eq ha hb g = named_methods a b e f x ha hb (subst (λ i. chain.ProvidesInFile file i (first_own + b)) ep (subst (chain.ProvidesInFile file p) eq h)) (own_there b f x hb g)
  above_there p q (chain.more {b = d} h r) a b e f x ep eq ha hb g =
      let o = begins file d q r in
      named_methods a o.0 e o.1 x ha o.3 (subst (λ i. chain.ProvidesInFile file i (first_own + o.0)) ep (subst (chain.ProvidesInFile file p) o.2 h)) (above_there d q r o.0 b o.1 f x o.2 eq o.3 hb g)

abbrev Inherits : t.File → ℕ → t.Entity → Text → Type 0
Inherits file a e x = Has (method_texts e.methods) x ⊎ ((b : ℕ) × (f : t.Entity) × chain.LeadsInFile file (first_own + a) (first_own + b) × (slice_get file.entities b ≡ Some f) × Has (method_texts f.methods) x)

inherits : (file : t.File) (above : List (List ℕ)) → Collects file above → IsTransitiveClosure file above → (a : ℕ) (e : t.Entity) (x : Text) → slice_get file.entities a ≡ Some e → Has (method_texts (trait_methods (length file.entities) file.entities e)) x → Inherits file a e x
inherits file above c closes a e x h g =
    let r = map_get (λ (m : t.Method). m.name.text) (trait_methods (length file.entities) file.entities e) g.0 x g.1 in
    elim (written_above file above c (length file.entities) a e r.0 h (g.0, r.1)) [
      | inl y ↦ inl (named e.methods r.0 x r.2 y)
      | inr y ↦ inr (y.0, y.1, y.2, y.3, named y.1.methods r.0 x r.2 y.5)
    ]
  where
    named : (ms : List t.Method) (m : t.Method) (x : Text) → m.name.text ≡ x → Has ms m → Has (method_texts ms) x
    named ms m x e h = (h.0, get_map (λ (y : t.Method). y.name.text) ms h.0 m h.1 ∙ ap Some e)

inherited : (file : t.File) (above : List (List ℕ)) → Collects file above → IsTransitiveClosure file above → (a : ℕ) (e : t.Entity) (x : Text) → slice_get file.entities a ≡ Some e → Inherits file a e x → Has (method_texts (trait_methods (length file.entities) file.entities e)) x
inherited file above c closes a e x h (inl g) = own_there file above c closes a e x h g
inherited file above c closes a e x h (inr g) = above_there file above c closes (first_own + a) (first_own + g.0) g.2 a g.0 e g.1 x refl refl h g.3 g.4

-- ---- the laws

pub traits_inherit : TraitsInherit
traits_inherit file names collected a e h d x =
    let c : Collects file names.above = collects file names collected in
    let texts = abstract_texts file.entities e d in
    (λ g. inherits file names.above c collected.above a e x h (subst (λ xs. Has xs x) texts g), λ g. subst (λ xs. Has xs x) (sym texts) (inherited file names.above c collected.above a e x h g))

pub bound_is_enough : BoundIsEnough
bound_is_enough file names collected e k h l =
    let c : Collects file names.above = collects file names collected in
    let n : ℕ = length file.entities in
    let z : k ≡ n + (k - n) = omega (arith, l) in
    ap (λ i. trait_methods i file.entities e) z ∙ enough file names.above c collected.above (k - n) h.0 e h.1
