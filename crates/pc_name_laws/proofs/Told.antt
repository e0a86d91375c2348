-- The fault that is reported is the least of all.
use Rattle.std.proofs.{Common.{◌≡◌, ℕ, zero, suc, ◌+◌, ◌<◌, ◌≤◌, List, [], ◌∷◌, map, drop, Some, refl, sym, ap, ◌∙◌, subst, inl, inr, ⊎_elim, arith}, lemmas.Option.{same_Some, none-some}, lemmas.Bool.cases_order}
use Rattle.std.specs.Prelude.{◌⊎◌, slice_get}
use Rattle.pc_base.specs.Lists.{Has, Ascends, Text}
use Rattle.pc_base.proofs.{Elements.{has_front, has_behind}, Gets.{get_map, map_get}}
use Rattle.pc_tree.specs.Tree as t
use Rattle.pc_names.specs.{declared.fault.NameFault.NameFault, Faults.{entity_faults, entity_name_faults, declaration_faults, cycle_faults, count_faults, main_faults, IsNotMemory}, Parts.entities_faults, Laws.{fault_start, declared_places}}
use Rattle.pc_names.specs.declared.fault.NameFault.TheVariants as fault
use Rattle.pc_members.specs.{Members.{built_in_names, entity_names, IsTransitiveClosure}, MemberLists.trait_names}
use Rattle.pc_members.specs.Members as chains
use Rattle.pc_tree.specs.Kinds.{first_own}
use Rattle.pc_names.proofs.CycleFirsts.{cycle_is_first, no_cycle}
use Rattle.pc_members.proofs.Closings.{no_entity}
use Rattle.pc_text_order.proofs.Declarations.{declarations_ascend}
use Rattle.pc_elab.specs.Cores.{IsSpelledFile}
use Rattle.pc_name_laws.specs.{Declared.IsDeclarationFault, Turns.{Turn, entity_names as all_names, declarations, cycles, method_counts, main, body, slots, nodes, pass, part, Earlier, IsFaultInTurn}}
use Rattle.pc_name_laws.proofs.{Declarations.{entities_list, entity_lists}, Orders.{entity_start, names_ascend}, Places.{places_ascend, earlier_entity, fault_at}, Starts.{names_at, entity_at}, Firsts.{Least, Heads, heads_either, heads_first, has_head, none_has, least_of}, Counting.{counts_at, file_counts, file_mains, one_main}}

abbrev pub Nothing : t.File → Turn → Type 0
Nothing file u = (g : NameFault) → IsFaultInTurn file u g → ⊥

-- The fault is one of a turn before which there is none, and has the smallest start in it.
pub record Told (file : t.File) (f : NameFault) : Type 0 where
  pub turn : Turn
  pub at : IsFaultInTurn file turn f
  pub before : (u : Turn) → Earlier u turn → Nothing file u
  pub within : IsSpelledFile file → (g : NameFault) → IsFaultInTurn file turn g → Least fault_start f g

-- ---- turns before another

-- No fault in the passes before pass n.
pub record Clear (file : t.File) (n : ℕ) : Type 0 where
  pub names : 0 < n → Nothing file all_names
  pub declared : 1 < n → Nothing file declarations
  pub cycles : 2 < n → Nothing file cycles
  pub counts : 3 < n → Nothing file method_counts
  pub main : 4 < n → Nothing file main

pub clear_before : (file : t.File) (n : ℕ) → n ≤ 5 → Clear file n → (u : Turn) → pass u < n → Nothing file u
clear_before file n few c all_names l = c.names l
clear_before file n few c declarations l = c.declared l
clear_before file n few c cycles l = c.cycles l
clear_before file n few c method_counts l = c.counts l
clear_before file n few c main l = c.main l
clear_before file n few c (body k) l = absurd (omega (arith, l, few))
clear_before file n few c (slots k) l = absurd (omega (arith, l, few))
clear_before file n few c (nodes k) l = absurd (omega (arith, l, few))

-- Before a pass that has one part.
before_pass : (file : t.File) (t : Turn) → pass t ≤ 5 → part t ≡ 0 → Clear file (pass t) → (u : Turn) → Earlier u t → Nothing file u
before_pass file t few one c u early = ⊎_elim (λ l. clear_before file (pass t) few c u l) (λ r. let l = r.1 in absurd (omega (arith, l, one))) early

-- ---- the names of entities

pub no_names : (file : t.File) → entity_name_faults built_in_names file.entities ≡ [] → Nothing file all_names
no_names file e g at = none_has (entity_name_faults built_in_names file.entities) g e ((entities_list file g).1 at)

abbrev cleared : (file : t.File) → Clear file 0
cleared file = record {
  names = λ l. absurd (omega (arith, l));
  declared = λ l. absurd (omega (arith, l));
  cycles = λ l. absurd (omega (arith, l));
  counts = λ l. absurd (omega (arith, l));
  main = λ l. absurd (omega (arith, l));
}

pub told_name : (file : t.File) (f : NameFault) → Heads (entity_name_faults built_in_names file.entities) f → Told file f
told_name file f h = record {
  turn = all_names;
  at = (entities_list file f).0 (has_head (entity_name_faults built_in_names file.entities) f h);
  before = before_pass file all_names (omega arith) refl (cleared file);
  within = λ s g a. least_of fault_start (entity_name_faults built_in_names file.entities) (map entity_start file.entities) (names_at built_in_names file.entities) (names_ascend file s.0 s.1 s.2) f g h ((entities_list file g).1 a);
}

-- ---- declarations

-- The first of them is that of an entity, and those before it have none.
record FirstOf (entities traits : List Text) (es : List t.Entity) (f : NameFault) : Type 0 where
  place : ℕ
  entity : t.Entity
  is_entity : slice_get es place ≡ Some entity
  heads : Heads (entity_faults entities traits entity) f
  clear : (j : ℕ) (d : t.Entity) → j < place → slice_get es j ≡ Some d → entity_faults entities traits d ≡ []

first_of : (entities traits : List Text) (es : List t.Entity) (f : NameFault) → Heads (entities_faults entities traits es) f → FirstOf entities traits es f
first_of entities traits [] f h = absurd (none-some f h)
first_of entities traits (e ∷ es) f h = by (λ g. first_of entities traits es f g) (heads_either (entity_faults entities traits e) (entities_faults entities traits es) f h)
  where
    by : (Heads (entities_faults entities traits es) f → FirstOf entities traits es f) → Heads (entity_faults entities traits e) f ⊎ ((entity_faults entities traits e ≡ []) × Heads (entities_faults entities traits es) f) → FirstOf entities traits (e ∷ es) f
    by rest (inl g) = record { place = 0; entity = e; is_entity = refl; heads = g; clear = λ j d l at. absurd (omega (arith, l)) }
    by rest (inr g) =
        let r = rest g.1 in
        record { place = suc r.place; entity = r.entity; is_entity = r.is_entity; heads = r.heads; clear = before r }
      where
        before : (r : FirstOf entities traits es f) (j : ℕ) (d : t.Entity) → j < suc r.place → slice_get (e ∷ es) j ≡ Some d → entity_faults entities traits d ≡ []
        before r zero d l at = subst (λ (x : t.Entity). entity_faults entities traits x ≡ []) (same_Some e d at) g.0
        before r (suc j) d l at = r.clear j d (omega (arith, l)) at

pub declared_by : (file : t.File) (f : NameFault) → Heads (declaration_faults file) f → (e : t.Entity) × IsDeclarationFault file e f
declared_by file f h =
    let r = first_of (entity_names file) (trait_names file.entities) file.entities f h in
    (r.entity, (entity_lists file r.entity f).0 (has_head (entity_faults (entity_names file) (trait_names file.entities) r.entity) f r.heads))

has_entity : (entities traits : List Text) (es : List t.Entity) (i : ℕ) (e : t.Entity) (f : NameFault) → slice_get es i ≡ Some e → Has (entity_faults entities traits e) f → Has (entities_faults entities traits es) f
has_entity entities traits [] i e f at h = absurd (none-some e at)
has_entity entities traits (x ∷ es) zero e f at h =
    has_front (entity_faults entities traits x) (entities_faults entities traits es) f (subst (λ (y : t.Entity). Has (entity_faults entities traits y) f) (sym (same_Some x e at)) h)
has_entity entities traits (x ∷ es) (suc i) e f at h = has_behind (entity_faults entities traits x) (entities_faults entities traits es) f (has_entity entities traits es i e f at h)

pub no_declared : (file : t.File) → declaration_faults file ≡ [] → Nothing file declarations
no_declared file none g at =
    none_has (declaration_faults file) g none (has_entity (entity_names file) (trait_names file.entities) file.entities at.1.0 at.0 g at.1.1 ((entity_lists file at.0 g).1 at.2))

-- In its entity the fault has the smallest start, and later entities come after it.
within_declared : (file : t.File) (f : NameFault) → FirstOf (entity_names file) (trait_names file.entities) file.entities f → IsSpelledFile file → (g : NameFault) (j : ℕ) (d : t.Entity) → slice_get file.entities j ≡ Some d → IsDeclarationFault file d g → Least fault_start f g
within_declared file f r s g j d at bad = elim (cases_order j r.place) [
  | inl e ↦
      let same : d ≡ r.entity = same_Some d r.entity (sym at ∙ ap (slice_get file.entities) e ∙ r.is_entity) in
      least_of fault_start (entity_faults (entity_names file) (trait_names file.entities) r.entity) (declared_places r.entity) (entity_at (entity_names file) (trait_names file.entities) r.entity) (declarations_ascend file s.0 s.1 s.2 r.place r.entity r.is_entity) f g r.heads
      ((entity_lists file r.entity g).1 (subst (λ (x : t.Entity). IsDeclarationFault file x g) same bad))
  | inr o ↦ elim o [
    | inl l ↦ absurd (none_has (entity_faults (entity_names file) (trait_names file.entities) d) g (r.clear j d l at) ((entity_lists file d g).1 bad))
    | inr l ↦
        let own = (entity_lists file r.entity f).0 (has_head (entity_faults (entity_names file) (trait_names file.entities) r.entity) f r.heads) in
        inr (earlier_entity file.entities r.place j r.entity d (fault_start f) (fault_start g) (places_ascend file s.0 s.1 s.2) l r.is_entity at (fault_at r.entity file f own) (fault_at d file g bad))
  ]
]

pub told_declaration : (file : t.File) (f : NameFault) → entity_name_faults built_in_names file.entities ≡ [] → Heads (declaration_faults file) f → Told file f
told_declaration file f names h =
    let r : FirstOf (entity_names file) (trait_names file.entities) file.entities f = first_of (entity_names file) (trait_names file.entities) file.entities f h in
    let c : Clear file 1 = record {
      names = λ l. no_names file names;
      declared = λ l. absurd (omega (arith, l));
      cycles = λ l. absurd (omega (arith, l));
      counts = λ l. absurd (omega (arith, l));
      main = λ l. absurd (omega (arith, l));
    } in
    record {
      turn = declarations;
      at = (r.entity, (r.place, r.is_entity), (entity_lists file r.entity f).0 (has_head (entity_faults (entity_names file) (trait_names file.entities) r.entity) f r.heads));
      before = before_pass file declarations (omega arith) refl c;
      within = λ s g at. within_declared file f r s g at.1.0 at.0 at.1.1 at.2;
    }

-- ---- cycles

own : (file : t.File) (a : ℕ) (e : t.Entity) → chains.entity_at file a e → (i : ℕ) × (a ≡ first_own + i) × (slice_get file.entities i ≡ Some e)
own file zero e h = no_entity e h
own file (suc zero) e h = no_entity e h
own file (suc (suc zero)) e h = no_entity e h
own file (suc (suc (suc zero))) e h = no_entity e h
own file (suc (suc (suc (suc zero)))) e h = no_entity e h
own file (suc (suc (suc (suc (suc zero))))) e h = no_entity e h
own file (suc (suc (suc (suc (suc (suc i)))))) e h =
    let r = map_get Some file.entities i (Some e) h in
    (i, omega arith, r.1 ∙ r.2)

-- Of two entities, the second of which is not before the first: the second is the first, or its name starts later.
start_order : (es : List t.Entity) (i j : ℕ) (d e : t.Entity) → Ascends (map entity_start es) → slice_get es i ≡ Some d → slice_get es j ≡ Some e → (j < i → ⊥) → Least entity_start d e
start_order es i j d e a hd he l = elim (cases_order i j) [
  | inl same ↦ inl (same_Some d e (sym hd ∙ ap (slice_get es) same ∙ he))
  | inr o ↦ elim o [
    | inl less ↦ inr (a i j (entity_start d) (entity_start e) less (get_map entity_start es i d hd) (get_map entity_start es j e he))
    | inr more ↦ absurd (l more)
  ]
]

pub no_cycles : (file : t.File) (above : List (List ℕ)) → IsTransitiveClosure file above → cycle_faults first_own file.entities (drop first_own above) ≡ [] → Nothing file cycles
no_cycles file above c none g at = no_cycle file above c none at.0 at.2

pub told_cycle : (file : t.File) (above : List (List ℕ)) (f : NameFault) → IsNotMemory f → IsTransitiveClosure file above → Clear file 2 → Heads (cycle_faults first_own file.entities (drop first_own above)) f → Told file f
told_cycle file above f real c clear h =
    let r = cycle_is_first file above f c real (heads_first f (cycle_faults first_own file.entities (drop first_own above)) h) in
    record {
      turn = cycles;
      at = (r.0, r.1, r.2.0, r.3, r.4);
      before = before_pass file cycles (omega arith) refl clear;
      within = λ s g at.
          let a = own file r.0 r.1 r.3 in
          let b = own file at.0 at.1 at.3 in
          let x = a.1 in
          let y = b.1 in
          let here : fault_start f ≡ entity_start r.1 = ap fault_start r.4 in
          let there : fault_start g ≡ entity_start at.1 = ap fault_start at.4 in
          elim (start_order file.entities a.0 b.0 r.1 at.1 (names_ascend file s.0 s.1 s.2) a.2 b.2 (λ l. r.2.1 at.0 (omega (arith, l, x, y)) at.2)) [
            | inl same ↦ inl (r.4 ∙ ap (λ (e : t.Entity). fault.Cycle e.name.span) same ∙ sym at.4)
            | inr less ↦ inr (omega (arith, less, here, there))
          ];
    }

-- ---- numbers of methods, and Main

pub no_counts : (file : t.File) → count_faults file.entities 0 file.entities ≡ [] → Nothing file method_counts
no_counts file none g at = none_has (count_faults file.entities 0 file.entities) g none ((file_counts file g).1 at)

pub told_count : (file : t.File) (f : NameFault) → Clear file 3 → Heads (count_faults file.entities 0 file.entities) f → Told file f
told_count file f clear h =
    let faults = count_faults file.entities 0 file.entities in
    record {
      turn = method_counts;
      at = (file_counts file f).0 (has_head faults f h);
      before = before_pass file method_counts (omega arith) refl clear;
      within = λ s g at. least_of fault_start faults (map entity_start file.entities) (counts_at file.entities 0 file.entities) (names_ascend file s.0 s.1 s.2) f g h ((file_counts file g).1 at);
    }

pub no_main : (file : t.File) → main_faults file.entities ≡ [] → Nothing file main
no_main file none g at = none_has (main_faults file.entities) g none ((file_mains file g).1 at)

pub told_main : (file : t.File) (f : NameFault) → Clear file 4 → Heads (main_faults file.entities) f → Told file f
told_main file f clear h = record {
  turn = main;
  at = (file_mains file f).0 (has_head (main_faults file.entities) f h);
  before = before_pass file main (omega arith) refl clear;
  within = λ s g at. inl (one_main file.entities f g h ((file_mains file g).1 at));
}
