-- The members can be listed for a file whose names and declarations have no fault, and which has no cycle.
use Rattle.std.proofs.{Common.{◌≡◌, ℕ, zero, suc, ◌+◌, ◌<◌, ◌≤◌, List, [], ◌∷◌, ◌++◌, length, Bool, true, false, not, refl, sym, subst, arith, append-nil}, lemmas.Bool.{ltb-true, not-false}, lemmas.Option.{same_Some, none-some}, lemmas.List.{length_push, append_assoc}}
use Rattle.std.specs.Prelude.{nat_lt, drop}
use Rattle.pc_tree.specs.{declared.written_names.Name.Name, Kinds.first_own}
use Rattle.pc_tree.specs.Tree as t
use Rattle.pc_base.specs.Lists.{Has, Differ, Text}
use Rattle.pc_base.proofs.{Elements.differ_none, Cuts.{nil_left, nil_right}}
use Rattle.pc_names.specs.{declared.fault.NameFault.NameFault, Faults.{either_fault, provided_faults, added_faults, entity_faults, entity_name_faults, declaration_faults, cycle_faults, NamesData, Collected}, Parts.{where_, entities_faults, known_limit}}
use Rattle.pc_names.specs.declared.fault.NameFault.TheVariants as fault
use Rattle.pc_names.specs.declared.fault.Which.TheVariants as which
use Rattle.pc_members.specs.{MemberLists.{is_among, trait_names}, Members.{built_in_names, texts_of, entity_names, IsTransitiveClosure}, Founded.IsFounded}
use Rattle.pc_members.proofs.Differences.{differ_push, among_has}
use Rattle.pc_names.proofs.CycleFirsts.{no_cycle}

-- ---- no faults

abbrev IsNone : {T : Type 0} → List T → Type 0
IsNone [] = Unit {0}
IsNone (x ∷ xs) = ⊥

pub where_none : (b : Bool) (f : NameFault) → where_ b f ≡ [] → b ≡ false
where_none true f h = absurd (subst IsNone (sym h) tt)
where_none false f h = refl

pub either_none : (b : Bool) (f : NameFault) (c : Bool) (g : NameFault) → either_fault b f c g ≡ [] → (b ≡ false) × (c ≡ false)
either_none true f c g h = absurd (subst IsNone (sym h) tt)
either_none false f c g h = (refl, where_none c g h)

-- ---- texts that differ

-- None of these texts is one of those before it.
abbrev pub Adds : List Text → List Text → Type 0
Adds base [] = Unit {0}
Adds base (x ∷ xs) = (is_among x base ≡ false) × Adds (base ++ x ∷ []) xs

pub adds_differ : (base xs : List Text) → Differ base → Adds base xs → Differ (base ++ xs)
adds_differ base [] d a = subst Differ (sym (append-nil base)) d
adds_differ base (x ∷ xs) d a = subst Differ (append_assoc base (x ∷ []) xs) (adds_differ (base ++ x ∷ []) xs (differ_push x base d a.0) a.1)

-- ---- the names of entities

pub names_add : (known : List Text) (es : List t.Entity) → length known ≤ known_limit → entity_name_faults known es ≡ [] → Adds known (texts_of es) × (length known + length es ≤ known_limit)
names_add known [] few h = (tt, omega (arith, few))
names_add known (e ∷ es) few h =
    let e0 = either_none (is_among e.name.text known) (fault.Double e.name.span) (not (nat_lt (length known) known_limit)) (fault.TooMany which.Entities e.name.span) (nil_left _ _ h) in
    let low : length known < known_limit = ltb-true (length known) known_limit (not-false (nat_lt (length known) known_limit) e0.1) in
    let count : length (known ++ e.name.text ∷ []) ≡ length known + 1 = length_push known e.name.text in
    let more : length (known ++ e.name.text ∷ []) ≤ known_limit = omega (arith, low, count) in
    let rest = names_add (known ++ e.name.text ∷ []) es more (nil_right (either_fault (is_among e.name.text known) (fault.Double e.name.span) (not (nat_lt (length known) known_limit)) (fault.TooMany which.Entities e.name.span)) _ h) in
    let total : length (known ++ e.name.text ∷ []) + length es ≤ known_limit = rest.1 in
    ((e0.0, rest.0), omega (arith, total, count))

built_in_adds : Adds [] built_in_names
built_in_adds = (refl, (refl, (refl, (refl, (refl, (refl, tt))))))

pub all_differ : (file : t.File) → entity_name_faults built_in_names file.entities ≡ [] → Differ (entity_names file) × (first_own + length file.entities ≤ known_limit)
all_differ file h =
    let r = names_add built_in_names file.entities (omega arith) h in
    let few = r.1 in
    (adds_differ built_in_names (texts_of file.entities) (adds_differ [] built_in_names differ_none built_in_adds) r.0, omega (arith, few))

-- ---- the names after `is`

pub provided_are : (traits known : List Text) (ns : List Name) → provided_faults traits known ns ≡ [] → (n : Name) → Has ns n → Has traits n.text
provided_are traits known [] h n g = absurd (none-some n g.1)
provided_are traits known (x ∷ ns) h n g =
    let e0 = either_none (not (is_among x.text traits)) (fault.Unknown x.span) (is_among x.text known) (fault.Double x.span) (nil_left _ _ h) in
    first (among_has x.text traits (not-false (is_among x.text traits) e0.0)) (provided_are traits (known ++ x.text ∷ []) ns (nil_right (either_fault (not (is_among x.text traits)) (fault.Unknown x.span) (is_among x.text known) (fault.Double x.span)) _ h)) n g
  where
    first : Has traits x.text → ((n : Name) → Has ns n → Has traits n.text) → (n : Name) → Has (x ∷ ns) n → Has traits n.text
    first a b n (zero, g) = subst (λ (y : Name). Has traits y.text) (same_Some x n g) a
    first a b n (suc i, g) = b n (i, g)

all_provided : (entities traits : List Text) (es : List t.Entity) → entities_faults entities traits es ≡ [] → (e : t.Entity) → Has es e → (n : Name) → Has e.provides n → Has traits n.text
all_provided entities traits [] h e g = absurd (none-some e g.1)
all_provided entities traits (x ∷ es) h e g =
    first (provided_are traits [] x.provides (nil_left (provided_faults traits [] x.provides) _ (nil_right (added_faults x) _ (nil_left (entity_faults entities traits x) _ h))))
    (all_provided entities traits es (nil_right (entity_faults entities traits x) _ h)) e g
  where
    first : ((n : Name) → Has x.provides n → Has traits n.text) → ((e : t.Entity) → Has es e → (n : Name) → Has e.provides n → Has traits n.text) → (e : t.Entity) → Has (x ∷ es) e → (n : Name) → Has e.provides n → Has traits n.text
    first a b e (zero, g) = subst (λ (y : t.Entity). (n : Name) → Has y.provides n → Has traits n.text) (same_Some x e g) a
    first a b e (suc i, g) = b e (i, g)

-- ---- the whole file

pub founded : (file : t.File) (above : List (List ℕ)) → IsTransitiveClosure file above → entity_name_faults built_in_names file.entities ≡ [] → declaration_faults file ≡ [] → cycle_faults first_own file.entities (drop first_own above) ≡ [] → IsFounded file
founded file above closed names declared cycles = record {
  names = (all_differ file names).0;
  provides = λ e n he hn. all_provided (entity_names file) (trait_names file.entities) file.entities declared e he n hn;
  straight = no_cycle file above closed cycles;
}

-- The same for a file whose names were collected.
pub collected_founded : (file : t.File) (names : NamesData) → Collected file names → IsFounded file
collected_founded file names c =
    let es = file.entities in
    let a = drop first_own names.above in
    let h1 = nil_right (entity_name_faults built_in_names es) _ c.faults in
    let h2 = nil_right (declaration_faults file) _ h1 in
    founded file names.above c.above (nil_left (entity_name_faults built_in_names es) _ c.faults) (nil_left (declaration_faults file) _ h1) (nil_left (cycle_faults first_own es a) _ h2)
