-- A use is at fault iff the definition of a body's faults says so.
use Rattle.std.proofs.{Common.{◌≡◌, ℕ, ◌<◌, List, [], ◌∷◌, length, Option, Some, None, Bool, true, false, refl, sym, ◌∙◌, subst, inl, inr, ⊎_elim, if◌then◌else◌, arith}, lemmas.Bool.ltb-true}
use Rattle.std.specs.Prelude.{nat_lt}
use Rattle.pc_base.specs.{Lists.{Has, Text}, declared.span.Span.Span}
use Rattle.pc_base.proofs.Bools.{false_true}
use Rattle.pc_tree.specs.{declared.written_names.Name.Name, declared.written_names.TypeRef.TypeRef}
use Rattle.pc_body_spec.specs.{Bodies.{Context, Scope, KnownEntity, Meaning, local, field, method, nothing, member, unless_local, slot_named, resolve, is_among_names, TypeMeaning, primitive, created, no_value, type_meaning, constructor_named, Start, with_method, with_type, with_value, start_with_name, create_name}, Faults.{BodyNameFault, unknown, double, long_text, is_name_taken, is_entity, bare_name_faults, type_name_faults, Next, arguments, name, end, start_faults, dot_faults}, Parts.{fault_if, unless_some, written_faults}, Places.written_places}
use Rattle.pc_name_laws.specs.Uses as u
use Rattle.pc_name_laws.specs.{Uses.{Here, BehindDot, TypeIn, spot}, Missing.{IsCreated, IsPrimitive, HasConstructor, Means, IsAtFault}}
use Rattle.pc_name_laws.proofs.{Telling.{Tells, no_spot, no_fault_here, fault_here, meant, missing}, Meanings.{names, Answers, is_some, among, slots_answer, Says, says, Constructs, constructs, Knows, knows}}

-- ---- what follows is different

abbrev IsArguments : Next → Type 0
IsArguments arguments = Unit {0}
IsArguments name = ⊥
IsArguments end = ⊥

abbrev IsDotName : Next → Type 0
IsDotName arguments = ⊥
IsDotName name = Unit {0}
IsDotName end = ⊥

-- ---- bare names

-- Nothing has the name, except as `next` allows for methods.
unknown_name : (c : Context) (visible : List Text) (n : Name) (next : Next) → (Has visible n.text → ⊥) → (Has c.fields n.text → ⊥) → ((next ≡ arguments) × Has c.methods n.text → ⊥) → Means c visible (u.bare n next) → ⊥
unknown_name c visible n next v f m means = ⊎_elim v (λ r. ⊎_elim f m r) means

bare_by : (c : Context) (visible : List Text) (n : Name) (next : Next) (o : Option ℕ) (a b : Bool) → Answers (is_some o) visible n.text → Answers a c.fields n.text → Answers b c.methods n.text
    → Tells c (start_faults (start_with_name n (unless_local o (member a b))) next (bare_name_faults (unless_local o (member a b)) n.span)) (Here visible (u.bare n next)) (n.span.start ∷ [])
bare_by c visible n next (Some s) a b v f m = meant c visible (u.bare n next) (λ z. z) (λ z. z) (inl v)
bare_by c visible n next None true b v f m = meant c visible (u.bare n next) (λ z. z) (λ z. z) (inr (inl f))
bare_by c visible n arguments None false true v f m = meant c visible (u.bare n arguments) (λ z. z) (λ z. z) (inr (inr (refl, m)))
bare_by c visible n name None false true v f m = missing c visible (u.bare n name) (λ z. z) (λ z. z) (unknown_name c visible n name v f (λ z. subst IsDotName z.0 tt))
bare_by c visible n end None false true v f m = missing c visible (u.bare n end) (λ z. z) (λ z. z) (unknown_name c visible n end v f (λ z. subst IsArguments (sym z.0) tt))
bare_by c visible n next None false false v f m = missing c visible (u.bare n next) (λ z. z) (λ z. z) (unknown_name c visible n next v f (λ z. m z.1))

pub bare_tells : (c : Context) (sc : Scope) (n : Name) (next : Next) → Tells c (start_faults (start_with_name n (resolve c sc n.text)) next (bare_name_faults (resolve c sc n.text) n.span)) (Here (names sc) (u.bare n next)) (n.span.start ∷ [])
bare_tells c sc n next = bare_by c (names sc) n next (slot_named sc n.text) (is_among_names c.fields n.text) (is_among_names c.methods n.text) (slots_answer sc n.text) (among c.fields n.text) (among c.methods n.text)

pub consumed_tells : (c : Context) (sc : Scope) (n : Name) → Tells c (unless_some (slot_named sc n.text) (unknown n.span)) (Here (names sc) (u.consumed n)) (n.span.start ∷ [])
consumed_tells c sc n = by (slot_named sc n.text) (slots_answer sc n.text)
  where
    by : (o : Option ℕ) → Answers (is_some o) (names sc) n.text → Tells c (unless_some o (unknown n.span)) (Here (names sc) (u.consumed n)) (n.span.start ∷ [])
    by (Some s) a = meant c (names sc) (u.consumed n) (λ z. z) (λ z. z) a
    by None a = missing c (names sc) (u.consumed n) (λ z. z) (λ z. z) a

-- ---- type names

created_by : (c : Context) (visible : List Text) (n : Name) (next : Next) (x : KnownEntity) (o : Option ℕ) → IsCreated c n.text x → ((y : KnownEntity) → IsCreated c n.text y → y ≡ x) → (IsPrimitive c n.text → ⊥) → (next ≡ name → ⊥)
    → Constructs o x create_name → Tells c (unless_some o (unknown n.span)) (Here visible (u.type_value n next)) (n.span.start ∷ [])
created_by c visible n next x (Some m) at only other apart k = meant c visible (u.type_value n next) (λ z. z) (λ z. z) (inr (x, at, inr k))
created_by c visible n next x None at only other apart k =
    missing c visible (u.type_value n next) (λ z. z) (λ z. z) (λ m. ⊎_elim other (λ y. ⊎_elim apart (λ h. k (subst (λ (z : KnownEntity). HasConstructor z create_name) (only y.0 y.1) h)) y.2) m)

type_by : (c : Context) (visible : List Text) (n : Name) (next : Next) (m : TypeMeaning) → Says c n.text m → Tells c (start_faults (with_type m) next (type_name_faults m n.span)) (Here visible (u.type_value n next)) (n.span.start ∷ [])
type_by c visible n next (primitive e) s = meant c visible (u.type_value n next) (λ z. z) (λ z. z) (inl s.0)
type_by c visible n arguments (created actor cs) s =
    created_by c visible n arguments s.0 (constructor_named cs create_name) s.1 s.3 s.4 (λ z. subst IsArguments z tt) (constructs s.0 cs create_name s.2)
type_by c visible n name (created actor cs) s = meant c visible (u.type_value n name) (λ z. z) (λ z. z) (inr (s.0, s.1, inl refl))
type_by c visible n end (created actor cs) s =
    created_by c visible n end s.0 (constructor_named cs create_name) s.1 s.3 s.4 (λ z. subst IsDotName (sym z) tt) (constructs s.0 cs create_name s.2)
type_by c visible n next no_value s =
    missing c visible (u.type_value n next) (λ z. z) (λ z. z) (λ m. ⊎_elim s.0 (λ y. s.1 y.0 y.1) m)

pub type_tells : (c : Context) (visible : List Text) (n : Name) (next : Next) → Tells c (start_faults (with_type (type_meaning c n.text)) next (type_name_faults (type_meaning c n.text) n.span)) (Here visible (u.type_value n next)) (n.span.start ∷ [])
type_tells c visible n next = type_by c visible n next (type_meaning c n.text) (says c n.text)

-- ---- after a type name

named_by : (c : Context) (visible : List Text) (of n : Name) (x : KnownEntity) (o : Option ℕ) → IsCreated c of.text x → ((y : KnownEntity) → IsCreated c of.text y → y ≡ x) → Constructs o x n.text
    → Tells c (unless_some o (unknown n.span)) (Here visible (u.member_of of n arguments)) (n.span.start ∷ [])
named_by c visible of n x (Some m) at only k =
    meant c visible (u.member_of of n arguments) (λ z. z) (λ z. z) (λ y h. (refl, subst (λ (z : KnownEntity). HasConstructor z n.text) (sym (only y h)) k))
named_by c visible of n x None at only k = missing c visible (u.member_of of n arguments) (λ z. z) (λ z. z) (λ m. k (m x at).1)

dot_by : (c : Context) (visible : List Text) (of n : Name) (next : Next) (m : TypeMeaning) → Says c of.text m → Tells c (dot_faults (with_type m) n next) (Here visible (u.member_of of n next)) (n.span.start ∷ [])
dot_by c visible of n next (primitive e) s = meant c visible (u.member_of of n next) (λ z. z) (λ z. z) (λ y h. absurd (s.1 y h))
dot_by c visible of n next no_value s = meant c visible (u.member_of of n next) (λ z. z) (λ z. z) (λ y h. absurd (s.1 y h))
dot_by c visible of n arguments (created actor cs) s = named_by c visible of n s.0 (constructor_named cs n.text) s.1 s.3 (constructs s.0 cs n.text s.2)
dot_by c visible of n name (created actor cs) s = missing c visible (u.member_of of n name) (λ z. z) (λ z. z) (λ m. subst IsDotName (m s.0 s.1).0 tt)
dot_by c visible of n end (created actor cs) s = missing c visible (u.member_of of n end) (λ z. z) (λ z. z) (λ m. subst IsArguments (sym (m s.0 s.1).0) tt)

-- How a chain begins for the definition of faults, and with which type name.
abbrev pub Begins : Context → Start → Option Name → Type 0
Begins c (with_method n) of = of ≡ None
Begins c (with_type m) of = (n : Name) × (of ≡ Some n) × (m ≡ type_meaning c n.text)
Begins c with_value of = of ≡ None

pub dot_tells : (c : Context) (visible : List Text) (st : Start) (of : Option Name) (n : Name) (next : Next) → Begins c st of → Tells c (dot_faults st n next) (BehindDot visible of n next) (n.span.start ∷ [])
dot_tells c visible (with_method k) of n next h = subst (λ o. Tells c [] (BehindDot visible o n next) (n.span.start ∷ [])) (sym h) (no_spot c (n.span.start ∷ []))
dot_tells c visible with_value of n next h = subst (λ o. Tells c [] (BehindDot visible o n next) (n.span.start ∷ [])) (sym h) (no_spot c (n.span.start ∷ []))
dot_tells c visible (with_type m) of n next h =
    subst (λ o. Tells c (dot_faults (with_type m) n next) (BehindDot visible o n next) (n.span.start ∷ [])) (sym h.1) (subst (λ k. Tells c (dot_faults (with_type k) n next) (Here visible (u.member_of h.0 n next)) (n.span.start ∷ [])) (sym h.2) (dot_by c visible h.0 n next (type_meaning c h.0.text) (says c h.0.text)))

pub name_begins : (c : Context) (n : Name) (m : Meaning) → Begins c (start_with_name n m) None
name_begins c n (local x) = refl
name_begins c n field = refl
name_begins c n method = refl
name_begins c n nothing = refl

-- ---- locals and texts

taken_by : (c : Context) (visible : List Text) (n : Name) (o : Option ℕ) (a b : Bool) → Answers (is_some o) visible n.text → Answers a c.fields n.text → Tells c (fault_if (is_name_taken (unless_local o (member a b))) (double n.span)) (Here visible (u.local n)) (n.span.start ∷ [])
taken_by c visible n o a b v f = by o a b v f
  where
    only : (g : BodyNameFault) → IsAtFault c (spot visible (u.local n)) g → g ≡ double n.span
    only g at = ⊎_elim (λ m. absurd (m.1 tt)) (λ r. ⊎_elim (λ d. d.0) (λ d. absurd d.1) r) at

    free : (Has visible n.text → ⊥) → (Has c.fields n.text → ⊥) → (g : BodyNameFault) → IsAtFault c (spot visible (u.local n)) g → ⊥
    free fresh other g at = ⊎_elim (λ m. m.1 tt) (λ r. ⊎_elim (λ d. ⊎_elim fresh other d.1) (λ d. d.1) r) at

    by : (p : Option ℕ) (x y : Bool) → Answers (is_some p) visible n.text → Answers x c.fields n.text → Tells c (fault_if (is_name_taken (unless_local p (member x y))) (double n.span)) (Here visible (u.local n)) (n.span.start ∷ [])
    by (Some s) x y h g = fault_here c visible (u.local n) (double n.span) (inr (inl (refl, inl h))) only
    by None true y h g = fault_here c visible (u.local n) (double n.span) (inr (inl (refl, inr g))) only
    by None false true h g = no_fault_here c visible (u.local n) (n.span.start ∷ []) (free h g)
    by None false false h g = no_fault_here c visible (u.local n) (n.span.start ∷ []) (free h g)

pub local_tells : (c : Context) (sc : Scope) (n : Name) → Tells c (fault_if (is_name_taken (resolve c sc n.text)) (double n.span)) (Here (names sc) (u.local n)) (n.span.start ∷ [])
local_tells c sc n = taken_by c (names sc) n (slot_named sc n.text) (is_among_names c.fields n.text) (is_among_names c.methods n.text) (slots_answer sc n.text) (among c.fields n.text)

pub written_tells : (c : Context) (visible : List Text) (ty : Option TypeRef) → Tells c (written_faults c ty) (TypeIn visible ty) (written_places ty)
written_tells c visible None = no_spot c []
written_tells c visible (Some ty) = by (is_entity c.entities ty.name.text) (knows c.entities ty.name.text)
  where
    by : (b : Bool) → Knows b c.entities ty.name.text → Tells c (if b then [] else unknown ty.name.span ∷ []) (Here visible (u.local_type ty.name)) (ty.name.span.start ∷ [])
    by true k = meant c visible (u.local_type ty.name) (λ z. z) (λ z. z) k
    by false k = missing c visible (u.local_type ty.name) (λ z. z) (λ z. z) k

pub literal_tells : (c : Context) (visible : List Text) (b : List ℕ) (s : Span) → Tells c (fault_if (nat_lt 4096 (length b)) (long_text s)) (Here visible (u.literal b s)) (s.start ∷ [])
literal_tells c visible b s = by (nat_lt 4096 (length b)) refl
  where
    only : (g : BodyNameFault) → IsAtFault c (spot visible (u.literal b s)) g → g ≡ long_text s
    only g at = ⊎_elim (λ m. absurd (m.1 tt)) (λ r. ⊎_elim (λ d. absurd d.1) (λ d. d.0) r) at

    less_true : 4096 < length b → nat_lt 4096 (length b) ≡ true
    less_true l = search (arith, l)

    by : (x : Bool) → nat_lt 4096 (length b) ≡ x → Tells c (fault_if x (long_text s)) (Here visible (u.literal b s)) (s.start ∷ [])
    by true e = fault_here c visible (u.literal b s) (long_text s) (inr (inr (refl, ltb-true 4096 (length b) e))) only
    by false e = no_fault_here c visible (u.literal b s) (s.start ∷ []) (λ g at. ⊎_elim (λ m. m.1 tt) (λ r. ⊎_elim (λ d. d.1) (λ d. false_true (sym e ∙ less_true d.1)) r) at)
