-- The outcome of one member.
use Rattle.std.proofs.{Common.{◌≡◌, ℕ, suc, ◌+◌, ◌<◌, ◌≤◌, List, [], ◌∷◌, ◌++◌, length, map, Option, Some, None, refl, sym, ap, ◌∙◌, subst, inl, inr, arith, append-nil}, lemmas.Bool.cases_lt, lemmas.Option.{same_Some, none-some}, lemmas.List.{length-append, length-map}}
use Rattle.std.specs.Prelude.{slice_get, ◌⊎◌, Result, Ok, Err}
use Rattle.pc_base.proofs.Gets.{get_within}
use Rattle.pc_base.specs.{declared.span.Span.Span, Lists.Each}
use Rattle.pc_tree.specs.{declared.written_names.Name.Name, declared.file.ParamDef.ParamDef}
use Rattle.pc_tree.specs.Tree as t
use Rattle.pc_core.specs.{declared.nodes.Node.Node, Entities.param_slot}
use Rattle.pc_body_spec.specs.{Bodies.{Rose, body_of, added_body, Context}, Fold.{Numbered, put, local_slot}, Faults.{BodyNameFault, body_faults, initial_faults}, Slots.{Local, initial_locals, method_locals}, Methods.{MethodOutcome, slot_names, local_names, param_names, unless_fault, unless_name, unless_full, numbered_or_full, put_body}, Laws.BodyStands}
use Rattle.pc_body_spec.proofs.Bodies.{bodies_stand, added_bodies_stand}
use Rattle.pc_members.specs.Members.{Member, written, added}
use Rattle.pc_file_spec.specs.Cores.{Owned, slots_from, params_of, param_of, member_locals, outcome}

-- ---- the parts of an outcome

abbrev pub member_faults : Context → t.Entity → Member → List BodyNameFault
member_faults c e (written x) = body_faults c e.fields x
member_faults c e added = initial_faults c e.fields

abbrev pub member_names : t.Entity → Member → List Name
member_names e (written x) = slot_names e.fields x
member_names e added = local_names (initial_locals e.fields)

abbrev pub member_rose : Context → t.Entity → Member → Option Rose
member_rose c e (written x) = body_of c e.fields x
member_rose c e added = Some (added_body c e.fields e.name.span)

abbrev member_place : t.Entity → Member → Span
member_place e (written x) = x.name.span
member_place e added = e.name.span

abbrev member_rest : Context → ℕ → t.Entity → Member → List Node → MethodOutcome
member_rest c m e x before = put_body m (member_place e x) (member_rose c e x) before

outcome_is : (c : Context) (m : ℕ) (e : t.Entity) (x : Member) (before : List Node) → outcome c m e x before ≡ unless_fault (member_faults c e x) (unless_full (member_names e x) (member_rest c m e x before))
outcome_is c m e (written x) before = refl
outcome_is c m e added before = refl

-- ---- no fault

abbrev pub IsOk : {A B : Type 0} → Result A B → Type 0
IsOk (Ok a) = Unit {0}
IsOk (Err e) = ⊥

abbrev value : {A B : Type 0} → Result A B → Option A
value (Ok a) = Some a
value (Err e) = None

pub same_ok : {A B : Type 0} (x y : A) (r : Result A B) → r ≡ Ok x → r ≡ Ok y → x ≡ y
same_ok x y r h g = same_Some x y (ap value (sym h ∙ g))

record Passed (fs : List BodyNameFault) (names : List Name) (rest : MethodOutcome) (r : Option ℕ × List Node) : Type 0 where
  no_fault : fs ≡ []
  few : 1 + length names ≤ 64
  rest_is : rest ≡ Ok r

few_names : (names : List Name) → slice_get names 63 ≡ None → 1 + length names ≤ 64
few_names names e = elim (cases_lt 63 (length names)) [
  | inl l ↦ let g = get_within names 63 l in absurd (none-some g.0 (sym e ∙ g.1))
  | inr l ↦ omega (arith, l)
]

passed : (fs : List BodyNameFault) (names : List Name) (rest : MethodOutcome) (r : Option ℕ × List Node) → unless_fault fs (unless_full names rest) ≡ Ok r → Passed fs names rest r
passed (f ∷ fs) names rest r h = absurd (subst IsOk (sym h) tt)
passed [] names rest r h = by (slice_get names 63) refl h
  where
    by : (o : Option Name) → slice_get names 63 ≡ o → unless_name o rest ≡ Ok r → Passed [] names rest r
    by None e g = record { no_fault = refl; few = few_names names e; rest_is = g }
    by (Some x) e g = absurd (subst IsOk (sym g) tt)

-- ---- the body, if there is one

-- The body of a member that is method m comes after these nodes.
pub record Built (c : Context) (m : ℕ) (e : t.Entity) (x : Member) (before : List Node) (n : ℕ) (after : List Node) : Type 0 where
  pub rose : Rose
  pub is_rose : member_rose c e x ≡ Some rose
  pub put_is : put m rose before ≡ Some (n, after)
  pub stands : BodyStands c m n before after

abbrev pub Ends : Context → ℕ → t.Entity → Member → List Node → Option ℕ × List Node → Type 0
Ends c m e x before r = ((r ≡ (None, before)) × (member_rose c e x ≡ None)) ⊎ ((n : ℕ) × (after : List Node) × (r ≡ (Some n, after)) × Built c m e x before n after)

put_ends : (m : ℕ) (s : Span) (o : Option Rose) (before : List Node) (r : Option ℕ × List Node) → put_body m s o before ≡ Ok r
    → ((r ≡ (None, before)) × (o ≡ None)) ⊎ ((n : ℕ) × (after : List Node) × (r ≡ (Some n, after)) × ((x : Rose) × (o ≡ Some x) × (put m x before ≡ Some (n, after))))
put_ends m s None before r h = inl (sym (same_ok (None, before) r (Ok (None, before)) refl h), refl)
put_ends m s (Some x) before r h = by (put m x before) refl h
  where
    by : (p : Numbered ℕ) → put m x before ≡ p → numbered_or_full s p ≡ Ok r → ((r ≡ (None, before)) × (Some x ≡ None)) ⊎ ((n : ℕ) × (after : List Node) × (r ≡ (Some n, after)) × ((y : Rose) × (Some x ≡ Some y) × (put m y before ≡ Some (n, after))))
    by None e g = absurd (subst IsOk (sym g) tt)
    by (Some p) e g = inr (p.0, p.1, sym (same_ok (Some p.0, p.1) r (Ok (Some p.0, p.1)) refl g), (x, refl, e))

body_stands : (c : Context) (m : ℕ) (e : t.Entity) (x : Member) (r : Rose) (n : ℕ) (before after : List Node) → 0 < length c.texts → member_faults c e x ≡ [] → member_rose c e x ≡ Some r → put m r before ≡ Some (n, after) → BodyStands c m n before after
body_stands c m e (written x) r n before after some_text f is p = bodies_stand c e.fields x r m n before after some_text f is p
body_stands c m e added r n before after some_text f is p = added_bodies_stand c e.fields e.name.span m n before after some_text f (subst (λ o. put m o before ≡ Some (n, after)) (sym (same_Some _ _ is)) p)

-- A member without a fault.
pub record Made (c : Context) (m : ℕ) (e : t.Entity) (x : Member) (before : List Node) (r : Option ℕ × List Node) : Type 0 where
  pub no_fault : member_faults c e x ≡ []
  pub few : 1 + length (member_names e x) ≤ 64
  pub ends : Ends c m e x before r

pub made : (c : Context) (m : ℕ) (e : t.Entity) (x : Member) (before : List Node) (r : Option ℕ × List Node) → 0 < length c.texts → outcome c m e x before ≡ Ok r → Made c m e x before r
made c m e x before r some_text h =
    let p : Passed (member_faults c e x) (member_names e x) (member_rest c m e x before) r = passed (member_faults c e x) (member_names e x) (member_rest c m e x before) r (sym (outcome_is c m e x before) ∙ h) in
    record {
      no_fault = p.no_fault;
      few = p.few;
      ends = elim (put_ends m (member_place e x) (member_rose c e x) before r p.rest_is) [
        | inl a ↦ inl a
        | inr b ↦ inr (b.0, b.1, b.2, record { rose = b.3.0; is_rose = b.3.1; put_is = b.3.2; stands = body_stands c m e x b.3.0 b.0 before b.1 some_text p.no_fault b.3.1 b.3.2 })
      ];
    }

-- ---- its slots and nodes

-- It has one slot for each name, and that of `this`.
pub names_count : (c : Context) (e : t.Entity) (x : Member) → length (member_names e x) ≡ length (params_of c.entities x) + length (member_locals e x)
names_count c e (written x) =
    let all = length-append (param_names x.params) (local_names (method_locals e.fields x)) in
    let first : length (param_names x.params) ≡ length x.params = length-map x.params (λ (p : ParamDef). p.name) in
    let last : length (local_names (method_locals e.fields x)) ≡ length (method_locals e.fields x) = length-map (method_locals e.fields x) (λ (l : Local). l.name) in
    let params : length (map (param_of c.entities) x.params) ≡ length x.params = length-map x.params (param_of c.entities) in
    omega (arith, all, first, last, params)
names_count c e added =
    let last : length (local_names (initial_locals e.fields)) ≡ length (initial_locals e.fields) = length-map (initial_locals e.fields) (λ (l : Local). l.name) in
    omega (arith, last)

pub slots_count : (c : Context) (m : ℕ) (o : Owned) → length (slots_from c m o) ≡ 1 + length (member_names o.owner o.member)
slots_count c m o =
    let ps = params_of c.entities o.member in
    let ls = member_locals o.owner o.member in
    let all : length (map (param_slot m) ps ++ map (local_slot c m) ls) ≡ length (map (param_slot m) ps) + length (map (local_slot c m) ls) = length-append (map (param_slot m) ps) (map (local_slot c m) ls) in
    let first : length (map (param_slot m) ps) ≡ length ps = length-map ps (param_slot m) in
    let last : length (map (local_slot c m) ls) ≡ length ls = length-map ls (local_slot c m) in
    let names : length (member_names o.owner o.member) ≡ length ps + length ls = names_count c o.owner o.member in
    let whole : length (slots_from c m o) ≡ suc (length (map (param_slot m) ps ++ map (local_slot c m) ls)) = refl in
    omega (arith, whole, all, first, last, names)

-- Its nodes come after those before it, and all belong to it.
pub record Behind (m : ℕ) (before after : List Node) : Type 0 where
  pub own : List Node
  pub is_behind : after ≡ before ++ own
  pub method : Each (λ i y. y.method ≡ m) own

pub behind : (c : Context) (m : ℕ) (e : t.Entity) (x : Member) (before : List Node) (r : Option ℕ × List Node) → Ends c m e x before r → Behind m before r.1
behind c m e x before r (inl a) = record { own = []; is_behind = ap (λ (p : Option ℕ × List Node). p.1) a.0 ∙ sym (append-nil before); method = λ i y h. absurd (none-some y h) }
behind c m e x before r (inr b) = record { own = b.3.stands.stands.own; is_behind = ap (λ (p : Option ℕ × List Node). p.1) b.2 ∙ b.3.stands.stands.behind; method = b.3.stands.stands.method }
