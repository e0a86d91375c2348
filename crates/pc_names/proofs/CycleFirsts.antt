-- The fault of a cycle is at the first trait from which a chain of `is` leads back to it.
use Rattle.std.proofs.{Common.{◌≡◌, ℕ, zero, suc, ◌+◌, ◌<◌, Bool, true, false, ◌&&◌, List, [], ◌∷◌, ◌++◌, map, drop, Some, refl, sym, ap, ◌∙◌, subst, arith}, lemmas.Option.{same_Some, none-some, slice_get_within}, lemmas.Bool.and_parts}
use Rattle.std.specs.Prelude.{slice_get}
use Rattle.pc_base.proofs.{Gets.{get_drop, get_within}, Bools.no_both}
use Rattle.pc_tree.specs.Tree as t
use Rattle.pc_names.specs.{declared.fault.NameFault.NameFault, Faults.cycle_faults, Parts.where_, Laws.{CycleIsFirst, NoCycle}}
use Rattle.pc_names.specs.declared.fault.NameFault.TheVariants as fault
use Rattle.pc_tree.specs.Kinds.{is_abstract, first_own}
use Rattle.pc_members.specs.{Edges.has_number, Members.{IsTransitiveClosure, InCycle, LeadsInFile, entity_at}}
use Rattle.pc_members.proofs.{Reaches.{has_in, in_get, get_in}, Reached.in_has, Closings.no_entity}
use Rattle.pc_names.proofs.Ones.{first_is}

-- Entity number a is a trait that is above itself.
abbrev pub bad : ℕ → t.Entity → List ℕ → Bool
bad a e l = is_abstract e.kind && has_number l a

-- None of the first entities is.
abbrev pub Clear : ℕ → List t.Entity → List (List ℕ) → ℕ → Type 0
Clear n es ls i = (j : ℕ) (d : t.Entity) (m : List ℕ) → j < i → slice_get es j ≡ Some d → slice_get ls j ≡ Some m → bad (n + j) d m ≡ false

record FirstBad (n : ℕ) (es : List t.Entity) (ls : List (List ℕ)) (f : NameFault) : Type 0 where
  at : ℕ
  entity : t.Entity
  above : List ℕ
  has_entity : slice_get es at ≡ Some entity
  has_above : slice_get ls at ≡ Some above
  is_bad : bad (n + at) entity above ≡ true
  is : f ≡ fault.Cycle entity.name.span
  clear : Clear n es ls at

nothing_before : (n : ℕ) (es : List t.Entity) (ls : List (List ℕ)) → Clear n es ls 0
nothing_before n es ls j d m l ed em = absurd (omega (arith, l))

clear_on : (n i : ℕ) (e : t.Entity) (l : List ℕ) (es : List t.Entity) (ls : List (List ℕ)) → bad n e l ≡ false → Clear (n + 1) es ls i → Clear n (e ∷ es) (l ∷ ls) (suc i)
clear_on n i e l es ls b c zero d m lt ed em =
    ap (λ k. bad k d m) (let z : n + zero ≡ n = omega arith in z) ∙ ap (λ (x : t.Entity). bad n x m) (sym (same_Some _ _ ed)) ∙ ap (λ y. bad n e y) (sym (same_Some _ _ em)) ∙ b
clear_on n i e l es ls b c (suc j) d m lt ed em = ap (λ k. bad k d m) (let z : n + suc j ≡ n + 1 + j = omega arith in z) ∙ c j d m (omega (arith, lt)) ed em

bad_on : (n : ℕ) (e : t.Entity) (l : List ℕ) (es : List t.Entity) (ls : List (List ℕ)) (f : NameFault) → bad n e l ≡ false → FirstBad (n + 1) es ls f → FirstBad n (e ∷ es) (l ∷ ls) f
bad_on n e l es ls f b r = record {
  at = suc r.at;
  entity = r.entity;
  above = r.above;
  has_entity = r.has_entity;
  has_above = r.has_above;
  is_bad = ap (λ k. bad k r.entity r.above) (let z : n + suc r.at ≡ n + 1 + r.at = omega arith in z) ∙ r.is_bad;
  is = r.is;
  clear = clear_on n r.at e l es ls b r.clear;
}

bad_here : (n : ℕ) (e : t.Entity) (l : List ℕ) (es : List t.Entity) (ls : List (List ℕ)) (f : NameFault) → bad n e l ≡ true → f ≡ fault.Cycle e.name.span → FirstBad n (e ∷ es) (l ∷ ls) f
bad_here n e l es ls f b is = record {
  at = 0;
  entity = e;
  above = l;
  has_entity = refl;
  has_above = refl;
  is_bad = ap (λ k. bad k e l) (let z : n + 0 ≡ n = omega arith in z) ∙ b;
  is = is;
  clear = nothing_before n (e ∷ es) (l ∷ ls);
}

first_bad : (n : ℕ) (es : List t.Entity) (ls : List (List ℕ)) (f : NameFault) → slice_get (cycle_faults n es ls) 0 ≡ Some f → FirstBad n es ls f
first_bad n [] ls f h = absurd (none-some f h)
first_bad n (e ∷ es) [] f h = absurd (none-some f h)
first_bad n (e ∷ es) (l ∷ ls) f h = by (bad n e l) refl (λ g. first_bad (n + 1) es ls f g) h
  where
    by : (b : Bool) → bad n e l ≡ b → (slice_get (cycle_faults (n + 1) es ls) 0 ≡ Some f → FirstBad (n + 1) es ls f) → slice_get (where_ b (fault.Cycle e.name.span) ++ cycle_faults (n + 1) es ls) 0 ≡ Some f → FirstBad n (e ∷ es) (l ∷ ls) f
    by true is rec g = bad_here n e l es ls f is (sym (same_Some _ _ g))
    by false is rec g = bad_on n e l es ls f is (rec g)

-- If there is no fault, no entity is.
all_clear : (n i : ℕ) (es : List t.Entity) (ls : List (List ℕ)) → cycle_faults n es ls ≡ [] → Clear n es ls i
all_clear n i [] ls h j d m l ed em = absurd (none-some d ed)
all_clear n i (e ∷ es) [] h j d m l ed em = absurd (none-some m em)
all_clear n i (e ∷ es) (x ∷ ls) h j d m l ed em = by (bad n e x) refl (λ g. all_clear (n + 1) i es ls g) h j d m (omega (arith, l)) ed em
  where
    by : (b : Bool) → bad n e x ≡ b → (cycle_faults (n + 1) es ls ≡ [] → Clear (n + 1) es ls i) → where_ b (fault.Cycle e.name.span) ++ cycle_faults (n + 1) es ls ≡ [] → Clear n (e ∷ es) (x ∷ ls) (suc i)
    by true is rec g = absurd (let no : ⊥ = cc in no)
    by false is rec g = clear_on n i e x es ls is (rec g)

-- ---- the entities of a file

abbrev pub own : ℕ → ℕ
own i = suc (suc (suc (suc (suc (suc i)))))

is_own : (i : ℕ) → first_own + i ≡ own i
is_own i = omega arith

get_some : (es : List t.Entity) (i : ℕ) (e : t.Entity) → slice_get es i ≡ Some e → slice_get (map Some es) i ≡ Some (Some e)
get_some [] i e h = absurd (none-some e h)
get_some (x ∷ es) zero e h = ap (λ o. Some o) h
get_some (x ∷ es) (suc i) e h = get_some es i e h

some_get : (es : List t.Entity) (i : ℕ) (e : t.Entity) → slice_get (map Some es) i ≡ Some (Some e) → slice_get es i ≡ Some e
some_get [] i e h = absurd (none-some (Some e) h)
some_get (x ∷ es) zero e h = same_Some _ _ h
some_get (x ∷ es) (suc i) e h = some_get es i e h

entity_own : (file : t.File) (a : ℕ) (e : t.Entity) → entity_at file a e → (i : ℕ) × (a ≡ own i) × (slice_get file.entities i ≡ Some e)
entity_own file zero e h = no_entity e h
entity_own file (suc zero) e h = no_entity e h
entity_own file (suc (suc zero)) e h = no_entity e h
entity_own file (suc (suc (suc zero))) e h = no_entity e h
entity_own file (suc (suc (suc (suc zero)))) e h = no_entity e h
entity_own file (suc (suc (suc (suc (suc zero))))) e h = no_entity e h
entity_own file (suc (suc (suc (suc (suc (suc i)))))) e h = (i, refl, some_get file.entities i e h)

own_list : (above : List (List ℕ)) (i : ℕ) → slice_get (drop first_own above) i ≡ slice_get above (own i)
own_list above i = get_drop above first_own i ∙ ap (slice_get above) (is_own i)

-- ---- cycles

bad_cycle : (file : t.File) (above : List (List ℕ)) (i : ℕ) (e : t.Entity) (l : List ℕ) → IsTransitiveClosure file above → slice_get file.entities i ≡ Some e → slice_get (drop first_own above) i ≡ Some l
    → bad (first_own + i) e l ≡ true → InCycle file (own i)
bad_cycle file above i e l c he hl b =
    let p = and_parts (is_abstract e.kind) (has_number l (first_own + i)) b in
    let h : has_number l (own i) ≡ true = ap (has_number l) (sym (is_own i)) ∙ p.1 in
    let a = c.1 (own i) l (sym (own_list above i) ∙ hl) in
    (e, get_some file.entities i e he, p.0, (a.1 (own i)).0 (in_get l (own i) (has_in l (own i) h)))

cycle_bad : (file : t.File) (above : List (List ℕ)) (a : ℕ) → IsTransitiveClosure file above → InCycle file a
    → (j : ℕ) × (d : t.Entity) × (m : List ℕ) × (a ≡ own j) × (slice_get file.entities j ≡ Some d) × (slice_get (drop first_own above) j ≡ Some m) × (bad (first_own + j) d m ≡ true)
cycle_bad file above a c x =
    let o = entity_own file a x.0 x.1 in
    let w = slice_get_within file.entities o.0 x.0 o.2 in
    let g = get_within above (own o.0) (let n = c.0 in omega (arith, w, n)) in
    let above_it = c.1 (own o.0) g.0 g.1 in
    let h = (above_it.1 (own o.0)).1 (subst (λ k. LeadsInFile file k k) o.1 x.3) in
    let b : has_number g.0 (first_own + o.0) ≡ true = ap (has_number g.0) (is_own o.0) ∙ in_has g.0 (own o.0) (get_in g.0 h.0 (own o.0) h.1) in
    (o.0, x.0, g.0, o.1, o.2, own_list above o.0 ∙ g.1, ap (λ k. k && has_number g.0 (first_own + o.0)) x.2 ∙ b)

pub no_cycle : NoCycle
no_cycle file above c none a x =
    let y = cycle_bad file above a c x in
    no_both (bad (first_own + y.0) y.1 y.2) y.6 (all_clear first_own (suc y.0) file.entities (drop first_own above) none y.0 y.1 y.2 (omega arith) y.4 y.5)

pub cycle_is_first : CycleIsFirst
cycle_is_first file above f c o h =
    let r = first_bad first_own file.entities (drop first_own above) f (first_is f (cycle_faults first_own file.entities (drop first_own above)) o h) in
    let none : (b : ℕ) → b < own r.at → InCycle file b → ⊥ = λ b l x.
    let y = cycle_bad file above b c x in
    let e = y.3 in
    no_both (bad (first_own + y.0) y.1 y.2) y.6 (r.clear y.0 y.1 y.2 (omega (arith, l, e)) y.4 y.5) in
    (own r.at, r.entity, (bad_cycle file above r.at r.entity r.above c r.has_entity r.has_above r.is_bad, none), get_some file.entities r.at r.entity r.has_entity, r.is)
