-- The fault at which the making of a core stops is the first of the faults of the file's members.
use Rattle.std.proofs.{Common.{◌≡◌, ℕ, suc, ◌+◌, ◌<◌, ◌≤◌, List, [], ◌∷◌, ◌++◌, length, map, drop, Option, Some, None, refl, sym, ap, ap₂, ◌∙◌, subst, arith}, lemmas.Bool.{lt-ltb, le-ltb}, lemmas.Option.{same_Some, none-some}, lemmas.List.{length-map, map-append}}
use Rattle.std.specs.{Prelude.{flat_map, slice_get, nat_lt, Result, Ok, Err}, Option.option_map_or}
use Rattle.pc_base.specs.{declared.span.Span.Span, Limits.{method_limit, node_limit}, Lists.{Has, one_if}}
use Rattle.pc_base.proofs.{Elements.{has_on, differ_none}, Gets.{get_front, get_drop, get_map, map_get}}
use Rattle.pc_tree.specs.{declared.written_names.Name.Name, Kinds.first_own}
use Rattle.pc_tree.specs.Tree as t
use Rattle.pc_core.specs.{declared.nodes.Node.Node, CoreData.CoreData}
use Rattle.pc_members.specs.{Members.{Member, written, added, entity_names}, MemberLists.{members, member_span}, Edges.{above_all, edges_of}}
use Rattle.pc_members.proofs.Closings.{closes}
use Rattle.pc_names.specs.{Faults.{NamesData, Collected}, declared.fault.NameFault.NameFault}
use Rattle.pc_names.specs.declared.fault.NameFault.TheVariants as fault
use Rattle.pc_names.specs.declared.fault.Which.TheVariants as which
use Rattle.pc_names.proofs.Founded.{collected_founded}
use Rattle.pc_body_spec.specs.{Bodies.{Rose, Context}, Fold.{Numbered, put}, Faults.{BodyNameFault, unknown, double, long_text, body_faults}, Methods.{unless_fault, unless_name, unless_full, numbered_or_full, put_body}}
use Rattle.pc_file_spec.specs.Cores.{Owned, owned, members_from, context_of, Parts, body_fault, built_in_parts, outcome, with_outcome, and_member, and_members, if_ok, parts_of, core_with, core_of, IsElabFault}
use Rattle.pc_file_spec.proofs.{Collects.collects, Counts.members_limited, Steps.{member_faults, member_names, member_rose}}
use Rattle.pc_core_relation.specs.{Files.HasMembers, Laws.MemberFaultsAreFirst, MemberFaults.{Owner, Bodied, bodies_of, known_in, in_full, node_count, nodes_in, fault_of_body, names_of_slots, faults_of_member, faults_after, IsMemberFault}}
use Rattle.pc_core_relation.proofs.{Inherited.{members_have, members_one}, Knowing.{own, owners, bodied, faults_known, nodes_known, slots_known, place_known}, NodeCounts.{Counts, put_counts, put_few}, NoFaults.{few_counts, names_founded, no_faults}, Sound.names_are_right}

-- ---- one member

-- A fault is the first of these, and without a fault there are none, and there are so many nodes.
abbrev Tells : ℕ → Result Parts NameFault → List NameFault → Type 0
Tells n (Ok q) fs = (fs ≡ []) × (length q.nodes ≡ n) × (n ≤ node_limit)
Tells n (Err f) fs = slice_get fs 0 ≡ Some f

abbrev of_slot : Name → NameFault
of_slot n = fault.TooMany which.Slots n.span

abbrev of_nodes : Span → ℕ → List NameFault
of_nodes s n = one_if (nat_lt node_limit n) (fault.TooMany which.Nodes s)

abbrev all_faults : List BodyNameFault → List Name → Span → ℕ → List NameFault
all_faults fs names s n = map fault_of_body fs ++ (map of_slot (drop 63 names) ++ of_nodes s n)

same_fault : (g : BodyNameFault) → fault_of_body g ≡ body_fault g
same_fault (unknown s) = refl
same_fault (double s) = refl
same_fault (long_text s) = refl

room : (s : Span) (n : ℕ) → n ≤ node_limit → of_nodes s n ≡ []
room s n l = ap (λ b. one_if b (fault.TooMany which.Nodes s)) (le-ltb node_limit n l)

no_room : (s : Span) (n : ℕ) → node_limit < n → slice_get (of_nodes s n) 0 ≡ Some (fault.TooMany which.Nodes s)
no_room s n l = ap (λ b. slice_get (one_if b (fault.TooMany which.Nodes s)) 0) (lt-ltb node_limit n l)

module _ (c : Context) (p : Parts) (o : Owned) (m : ℕ) (s : Span) (before : List Node) (few : length before ≤ node_limit) where
  tells_nodes : (r : Option Rose) → Tells (length before + option_map_or node_count r 0) (with_outcome c p o (put_body m s r before)) (of_nodes s (length before + option_map_or node_count r 0))
  tells_nodes None =
      let same : length before ≡ length before + 0 = omega arith in
      let low : length before + 0 ≤ node_limit = omega (arith, few) in
      (room s (length before + 0) low, same, low)
  tells_nodes (Some r) = by (put m r before) refl (put_counts m r before)
    where
      by : (x : Numbered ℕ) → put m r before ≡ x → Counts x (length before + node_count r) → Tells (length before + node_count r) (with_outcome c p o (numbered_or_full s x)) (of_nodes s (length before + node_count r))
      by None e h = no_room s (length before + node_count r) h
      by (Some q) e h =
          let low : length q.1 ≤ node_limit = put_few m r q.0 before q.1 e in
          let few : length before + node_count r ≤ node_limit = omega (arith, low, h) in
          (room s (length before + node_count r) few, h, few)

  tells_slots : (names : List Name) (r : Option Rose)
      → Tells (length before + option_map_or node_count r 0) (with_outcome c p o (unless_full names (put_body m s r before))) (map of_slot (drop 63 names) ++ of_nodes s (length before + option_map_or node_count r 0))
  tells_slots names r =
      subst (λ x. Tells (length before + option_map_or node_count r 0) (with_outcome c p o (unless_name x (put_body m s r before))) (map of_slot (drop 63 names) ++ of_nodes s (length before + option_map_or node_count r 0)))
      (get_drop names 63 0) (by (drop 63 names))
    where
      by : (ns : List Name) → Tells (length before + option_map_or node_count r 0) (with_outcome c p o (unless_name (slice_get ns 0) (put_body m s r before))) (map of_slot ns ++ of_nodes s (length before + option_map_or node_count r 0))
      by [] = tells_nodes r
      by (n ∷ ns) = refl

  tells_all : (fs : List BodyNameFault) (names : List Name) (r : Option Rose)
      → Tells (length before + option_map_or node_count r 0) (with_outcome c p o (unless_fault fs (unless_full names (put_body m s r before)))) (all_faults fs names s (length before + option_map_or node_count r 0))
  tells_all [] names r = tells_slots names r
  tells_all (g ∷ gs) names r = ap Some (same_fault g)

outcome_is : (c : Context) (m : ℕ) (e : t.Entity) (x : Member) (before : List Node)
    → outcome c m e x before ≡ unless_fault (member_faults c e x) (unless_full (member_names e x) (put_body m (member_span e.name.span x) (member_rose c e x) before))
outcome_is c m e (written x) before = refl
outcome_is c m e added before = refl

-- ---- all members

abbrev AllTell : Result Parts NameFault → List NameFault → Type 0
AllTell (Ok q) fs = fs ≡ []
AllTell (Err f) fs = slice_get fs 0 ≡ Some f

module _ (file : t.File) where
  tells_member : (p : Parts) (o : Owned) → length p.nodes ≤ node_limit
      → Tells (length p.nodes + nodes_in (bodied file o)) (and_member (context_of file o) p o) (faults_of_member (bodied file o) (length p.nodes + nodes_in (bodied file o)))
  tells_member p o few =
      let c = context_of file o in
      let s : Span = member_span o.owner.name.span o.member in
      let b : Bodied = bodied file o in
      let r : Option Rose = member_rose c o.owner o.member in
      let n : ℕ = length p.nodes + nodes_in b in
      let nodes : length p.nodes + option_map_or node_count r 0 ≡ n = ap (λ k. length p.nodes + k) (sym (nodes_known file o)) in
      let fs : all_faults (member_faults c o.owner o.member) (member_names o.owner o.member) s n ≡ faults_of_member b n =
      ap₂ (λ x y. all_faults x y s n) (sym (faults_known file o)) (sym (slots_known file o)) ∙ ap (λ z. map fault_of_body (body_faults b.context b.fields b.method) ++ (map of_slot (drop 63 (names_of_slots b)) ++ of_nodes z n)) (sym (place_known file o)) in
      let made : Tells n (with_outcome c p o (unless_fault (member_faults c o.owner o.member) (unless_full (member_names o.owner o.member) (put_body (length p.methods) s r p.nodes)))) (all_faults (member_faults c o.owner o.member) (member_names o.owner o.member) s n) =
      subst (λ k. Tells k (with_outcome c p o (unless_fault (member_faults c o.owner o.member) (unless_full (member_names o.owner o.member) (put_body (length p.methods) s r p.nodes)))) (all_faults (member_faults c o.owner o.member) (member_names o.owner o.member) s k)) nodes
      (tells_all c p o (length p.methods) s p.nodes few (member_faults c o.owner o.member) (member_names o.owner o.member) r) in
      subst (λ x. Tells n (with_outcome c p o x) (faults_of_member b n)) (sym (outcome_is c (length p.methods) o.owner o.member p.nodes))
      (subst (λ xs. Tells n (with_outcome c p o (unless_fault (member_faults c o.owner o.member) (unless_full (member_names o.owner o.member) (put_body (length p.methods) s r p.nodes)))) xs) fs made)

  tells_members : (os : List Owned) (p : Parts) → length p.nodes ≤ node_limit → AllTell (and_members file p os) (faults_after (length p.nodes) (map (bodied file) os))
  tells_members [] p few = refl
  tells_members (o ∷ os) p few = by (and_member (context_of file o) p o) (tells_member p o few) (λ q. tells_members os q)
    where
      by : (r : Result Parts NameFault) → Tells (length p.nodes + nodes_in (bodied file o)) r (faults_of_member (bodied file o) (length p.nodes + nodes_in (bodied file o)))
          → ((q : Parts) → length q.nodes ≤ node_limit → AllTell (and_members file q os) (faults_after (length q.nodes) (map (bodied file) os)))
          → AllTell (if_ok r (λ q. and_members file q os)) (faults_of_member (bodied file o) (length p.nodes + nodes_in (bodied file o)) ++ faults_after (length p.nodes + nodes_in (bodied file o)) (map (bodied file) os))
      by (Ok q) h rest =
          let count = h.1 in
          let low = h.2 in
          let later = rest q (omega (arith, count, low)) in
          subst (λ fs. AllTell (and_members file q os) (fs ++ faults_after (length p.nodes + nodes_in (bodied file o)) (map (bodied file) os))) (sym h.0)
          (subst (λ k. AllTell (and_members file q os) (faults_after k (map (bodied file) os))) h.1 later)
      by (Err f) h rest = get_front (faults_of_member (bodied file o) (length p.nodes + nodes_in (bodied file o))) (faults_after (length p.nodes + nodes_in (bodied file o)) (map (bodied file) os)) 0 f h

  -- ---- the members of the file, in order

  abbrev all : List Owned
  all = members_from file.entities first_own file.entities

  abbrev full : Owner → Member → Bodied
  full o m = record { method = in_full o.entity.name m; fields = o.entity.fields; context = known_in (owners file) o }

  map_twice : (n : ℕ) (e : t.Entity) (ms : List Member) → map (bodied file) (map (owned n e) ms) ≡ map (full (own file.entities e)) ms
  map_twice n e [] = refl
  map_twice n e (m ∷ ms) = ap (λ bs. full (own file.entities e) m ∷ bs) (map_twice n e ms)

  bodies_from : (es : List t.Entity) (n : ℕ) → flat_map (λ (o : Owner). map (full o) o.members) (map (own file.entities) es) ≡ map (bodied file) (members_from file.entities n es)
  bodies_from [] n = refl
  bodies_from (e ∷ es) n =
      ap₂ (λ xs ys. xs ++ ys) (sym (map_twice n e (members file.entities e))) (bodies_from es (suc n))
      ∙ sym (map-append (bodied file) (map (owned n e) (members file.entities e)) (members_from file.entities (suc n) es))

  bodies_same : bodies_of (owners file) ≡ map (bodied file) all
  bodies_same = bodies_from file.entities first_own

  bodies_count : length (bodies_of (owners file)) ≡ length all
  bodies_count = ap length bodies_same ∙ length-map all (bodied file)

  tells_file : AllTell (parts_of file) (faults_after 0 (bodies_of (owners file)))
  tells_file = subst (λ bs. AllTell (parts_of file) (faults_after 0 bs)) (sym bodies_same) (tells_members all built_in_parts (omega arith))

  -- ---- the fault at which the making stops is the first

  abbrev fault_in : Result CoreData NameFault → Option NameFault
  fault_in (Ok core) = None
  fault_in (Err f) = Some f

  stopped : (above : List (List ℕ)) (f : NameFault) → core_of above file ≡ Err f → slice_get (faults_after 0 (bodies_of (owners file))) 0 ≡ Some f
  stopped above f h = by (parts_of file) tells_file h
    where
      by : (r : Result Parts NameFault) → AllTell r (faults_after 0 (bodies_of (owners file))) → if_ok r (λ p. Ok (core_with file above p)) ≡ Err f → slice_get (faults_after 0 (bodies_of (owners file))) 0 ≡ Some f
      by (Ok p) a e = absurd (none-some f (ap fault_in e))
      by (Err g) a e = a ∙ ap fault_in e

  entities_back : (es : List t.Entity) → map (λ (o : Owner). o.entity) (map (own file.entities) es) ≡ es
  entities_back [] = refl
  entities_back (e ∷ es) = ap (λ xs. e ∷ xs) (entities_back es)

  pub is_first : (f : NameFault) → IsElabFault file f → IsMemberFault file f
  is_first f (names, collected, h) =
      let count = bodies_count in
      let few = members_limited file names.above (collects file names collected) in
      record {
        names_are_right = names_are_right file names collected;
        owners = owners file;
        are_entities = entities_back file.entities;
        are_members = λ o g.
            let r = map_get (own file.entities) file.entities g.0 o g.1 in
            subst (λ (x : Owner). HasMembers file x.entity x.members) r.2 (members_have file names.above (collected_founded file names collected) collected.above r.0 (g.0, r.1));
        few_members = omega (arith, count, few);
        is_first = stopped names.above f h;
      }

  -- ---- the first is the fault at which it stops

  stops : (above : List (List ℕ)) (f : NameFault) → slice_get (faults_after 0 (bodies_of (owners file))) 0 ≡ Some f → core_of above file ≡ Err f
  stops above f h = by (parts_of file) tells_file
    where
      by : (r : Result Parts NameFault) → AllTell r (faults_after 0 (bodies_of (owners file))) → if_ok r (λ p. Ok (core_with file above p)) ≡ Err f
      by (Ok p) a = absurd (none-some f (sym (ap (λ fs. slice_get fs 0) a) ∙ h))
      by (Err g) a = ap (λ (x : NameFault). Err x) (same_Some g f (sym a ∙ h))

  owned_all : (os : List Owner) → ((o : Owner) → Has os o → own file.entities o.entity ≡ o) → os ≡ map (own file.entities) (map (λ (o : Owner). o.entity) os)
  owned_all [] h = refl
  owned_all (o ∷ os) h = ap₂ (λ x xs. x ∷ xs) (sym (h o (0, refl))) (owned_all os (λ x g. h x (has_on o os x g)))

  abbrev owner : t.Entity → List Member → Owner
  owner e ms = record { entity = e; members = ms }

  owners_one : (f : NameFault) (s : IsMemberFault file f) → s.owners ≡ owners file
  owners_one f s =
      owned_all s.owners (λ o g.
      let there : Has file.entities o.entity = subst (λ es. Has es o.entity) s.are_entities (g.0, get_map (λ (x : Owner). x.entity) s.owners g.0 o g.1) in
      ap (owner o.entity) (sym (members_one file (above_all (edges_of file)) (names_founded file s.names_are_right) (closes file) o.entity o.members there (s.are_members o g))))
      ∙ ap (map (own file.entities)) s.are_entities

  pub is_stop : (f : NameFault) → IsMemberFault file f → IsElabFault file f
  is_stop f s =
      let above : List (List ℕ) = above_all (edges_of file) in
      let same : s.owners ≡ owners file = owners_one f s in
      let few : length (bodies_of (owners file)) ≤ method_limit = subst (λ os. length (bodies_of os) ≤ method_limit) same s.few_members in
      let count = bodies_count in
      let names : NamesData = record { entities = entity_names file; texts = []; above = above } in
      let none = few_counts file.entities file.entities 0 first_own (omega (arith, few, count)) in
      let collected : Collected file names = record { faults = no_faults file above (closes file) s.names_are_right none; entities = refl; above = closes file; texts = differ_none } in
      (names, collected, stops above f (subst (λ os. slice_get (faults_after 0 (bodies_of os)) 0 ≡ Some f) same s.is_first))

pub member_faults_are_first : MemberFaultsAreFirst
member_faults_are_first file f = (is_first file f, is_stop file f)
