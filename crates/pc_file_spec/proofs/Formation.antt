-- The core of a file is formed, and small.
use Rattle.std.proofs.Common.{◌≡◌, ℕ, ◌+◌, ◌<◌, ◌≤◌, ◌^◌, List, [], ◌∷◌, ◌++◌, length, map, refl, sym, ap, subst, arith}
use Rattle.std.specs.Prelude.{codes, Result, Ok, Err}
use Rattle.pc_tree.specs.Tree as t
use Rattle.pc_core.specs.{declared.declarations.EntityDef.EntityDef, CoreData.CoreData, Entities.HasBuiltIn, Formed.Formed}
use Rattle.pc_base.specs.Lists.{Follow, Differ}
use Rattle.pc_names.specs.declared.fault.NameFault.{NameFault}
use Rattle.pc_members.specs.Members.{built_in_names, texts_of}
use Rattle.pc_tree.specs.Kinds.{first_own}
use Rattle.pc_file_spec.specs.{Cores.{Parts, if_ok, parts_of, built_in_parts, core_with, core_of, entities_from}, Laws.{StandsIsFormed, CoresAreSmall, MembersDiffer}}
use Rattle.pc_file_spec.proofs.{Origins.members_differ, Tables.{language_kept, texts_differ}, Steps.{IsOk, same_ok}, Owners.{methods_run, members_follow}, Collects.collects, Parts.{Good, AllAt, first_good, all_at}, Settings.{Setting, all_members, entities_length, print_get, methods_length}, Entities.entities_fit, Methods.methods_fit, Nodes.nodes_fit, Mains.has_main, Counts.members_limited}

pub names_given : (file : t.File) (above : List (List ℕ)) (es : List t.Entity) (n at : ℕ) → map (λ (x : EntityDef). x.name) (entities_from file above n at es) ≡ texts_of es
names_given file above [] n at = refl
names_given file above (e ∷ es) n at = ap (λ xs. e.name.text ∷ xs) (names_given file above es _ _)

module _ (file : t.File) (above : List (List ℕ)) (q : Parts) (s : Setting file above q) where
  abbrev core : CoreData
  core = core_with file above q

  built_in : HasBuiltIn core
  built_in = record {
    none = refl;
    numbers = refl;
    truths = refl;
    texts = refl;
    out = 0;
    out_name = language_kept file 0 (codes "out") refl;
    env = refl;
    stream = refl;
    print = 1;
    print_name = language_kept file 1 (codes "print") refl;
    method = print_get file above q s;
  }

  entity_names_differ : Differ (map (λ (x : EntityDef). x.name) core.entities)
  entity_names_differ = subst Differ (sym (ap (λ xs. built_in_names ++ xs) (names_given file above file.entities first_own 1))) s.collects.names

  methods_follow : Follow 0 (map methods_run core.entities) (length core.methods)
  methods_follow =
      let own : Follow 1 (map methods_run (entities_from file above first_own 1 file.entities)) (1 + length (all_members file)) = members_follow file above file.entities first_own 1 in
      let count = methods_length file above q s in
      (refl, (refl, (refl, (refl, (refl, (refl, subst (λ k. Follow 1 (map methods_run (entities_from file above first_own 1 file.entities)) k) (sym count) own))))))

  pub formed : length core.names < 2 ^ 32 → Formed core
  formed few_names =
      let good : Good q = s.parts.good in
      let entities = entities_length file above q in
      let few = s.collects.few in
      let members = members_limited file above s.collects in
      let methods = methods_length file above q s in
      let slots = good.slots in
      let nodes = good.nodes in
      record {
        few_entities = omega (arith, entities, few);
        few_methods = omega (arith, members, methods);
        few_slots = omega (arith, members, methods, slots);
        few_nodes = omega (arith, nodes);
        few_names = few_names;
        built_in = built_in;
        main = has_main file above q s;
        names = texts_differ file;
        entity_names = entity_names_differ;
        methods_follow = methods_follow;
        slots_follow = good.slots_follow;
        nodes_follow = good.nodes_follow;
        entities = entities_fit file above q s;
        methods = methods_fit file above q s;
        nodes = nodes_fit file above q s;
      }

-- The parts of the core of a file.
pub stands_with : (file : t.File) (above : List (List ℕ)) (core : CoreData) → core_of above file ≡ Ok core → (q : Parts) × (parts_of file ≡ Ok q) × (core_with file above q ≡ core)
stands_with file above core h = by (parts_of file) refl h
  where
    by : (r : Result Parts NameFault) → parts_of file ≡ r → if_ok r (λ p. Ok (core_with file above p)) ≡ Ok core → (q : Parts) × (parts_of file ≡ Ok q) × (core_with file above q ≡ core)
    by (Ok q) e g = (q, e, same_ok (core_with file above q) core (Ok (core_with file above q)) refl g)
    by (Err f) e g = absurd (subst IsOk (sym g) tt)

pub parts_are : (file : t.File) (q : Parts) → parts_of file ≡ Ok q → AllAt file built_in_parts (all_members file) q
parts_are file q h = all_at file (all_members file) built_in_parts q first_good h

pub stands_is_formed : StandsIsFormed
stands_is_formed file core ordered placed stands =
    let above = stands.0.above in
    let w = stands_with file above core stands.2 in
    let s : Setting file above w.0 = record {
      collects = collects file stands.0 stands.1;
      closes = stands.1.above;
      placed = placed;
      ordered = ordered;
      parts = parts_are file w.0 w.1;
    } in
    subst Formed w.2 (formed file above w.0 s stands.3)

-- ---- how large it is

pub cores_small : CoresAreSmall
cores_small file core stands =
    let above = stands.0.above in
    let w = stands_with file above core stands.2 in
    let parts = parts_are file w.0 w.1 in
    let members = members_limited file above (collects file stands.0 stands.1) in
    let methods = parts.count in
    let slots = parts.good.slots in
    let few_slots : length w.0.slots ≤ 640000 = omega (arith, members, methods, slots) in
    subst (λ (x : CoreData). (length x.slots ≤ 640000) × (length x.nodes ≤ 200000)) w.2 (few_slots, parts.good.nodes)

pub differ_in_entities : MembersDiffer
differ_in_entities file names collected placed e h = members_differ file names.above e (collects file names collected) placed h
