-- Names and members together: which fault of a file is reported.
use Rattle.std.proofs.{Common.{◌≡◌, ℕ, suc, ◌+◌, ◌*◌, ◌<◌, ◌≤◌, ◌&&◌, Bool, true, false, List, [], ◌∷◌, ◌++◌, take, drop, length, Option, Some, None, refl, sym, ap, ◌∙◌, subst, inl, inr, ⊎_elim, arith}, lemmas.Option.{same_Some, none-some}, lemmas.Bool.cases_lt, lemmas.List.take_all}
use Rattle.std.specs.Prelude.{slice_get, Result, Ok, Err}
use Rattle.pc_base.specs.{Lists.Has, Limits.node_limit}
use Rattle.pc_base.proofs.Gets.{get_below, take_get}
use Rattle.pc_tree.specs.{declared.written_names.Name.Name, Kinds.{is_abstract, first_own}}
use Rattle.pc_tree.specs.Tree as t
use Rattle.pc_core.specs.{declared.nodes.Node.Node, CoreData.CoreData}
use Rattle.pc_names.specs.{declared.fault.NameFault.NameFault, Faults.{entity_name_faults, declaration_faults, cycle_faults, count_faults, main_faults, NamesData, Collected, name_faults, IsNotMemory}, Parts.{where_, built_in_and_member_texts, above_faults}, Laws.fault_start}
use Rattle.pc_names.specs.declared.fault.NameFault.TheVariants as fault
use Rattle.pc_names.specs.declared.fault.Which.TheVariants as which
use Rattle.pc_members.specs.{Members.{built_in_names, entity_names, IsTransitiveClosure, Member, written, added}, Edges.{above_all, has_number, edges_of}, MemberLists.member_span}
use Rattle.pc_names.proofs.{Ones.first_is, OtherTexts.other_texts_differ}
use Rattle.pc_members.proofs.Closings.{closes}
use Rattle.pc_body_spec.specs.Faults.{BodyNameFault, unknown, double, long_text}
use Rattle.pc_body_spec.specs.Places as body_places
use Rattle.pc_file_spec.specs.Cores.{Owned, context_of, Parts, body_fault, built_in_parts, and_members, parts_of, if_ok, core_of, core_with}
use Rattle.pc_file_spec.proofs.{Collects.{Collects, collects}, Origins.sort_of, Declared.member_order, Owners.owner_of, Steps.{member_faults, member_names}, Parts.{all_at, first_good}}
use Rattle.pc_core_relation.proofs.MemberFaults.{is_first, is_stop}
use Rattle.pc_text_order.proofs.Bodies.{bodies_ascend}
use Rattle.pc_elab.specs.Cores.{IsSpelledFile}
use Rattle.pc_elab.proofs.Wholes.{in_order, in_place}
use Rattle.pc_name_laws.specs.{Missing.IsBodyFault, Declared.{IsEntityFault, IsDeclarationFault}, Turns.{Turn, entity_names as all_names, declarations, cycles, method_counts, main, body, slots, nodes, pass, part, Earlier, IsFaultInTurn, all_members, slots_named, nodes_of, owned_size}, Laws.{IsTold, FaultIsTold}}
use Rattle.pc_name_laws.specs.Declared as law
use Rattle.pc_name_laws.proofs.{Declarations.entities_list, Counting.{file_counts, file_mains}, Walks.member_tells, Firsts.{Least, Heads, heads_either, heads_first, none_has, has_head}, Sizes.{nodes_next, nodes_grow}, Members.{Stop, stop, StopsAt, at_body, at_slot, at_nodes, stops_at, all_nodes, failed}, Orderings.member_least, Told.{Nothing, Told, Clear, clear_before, no_names, no_declared, no_cycles, no_counts, no_main, told_name, told_declaration, told_cycle, told_count, told_main, declared_by}}

-- ---- the passes over names

none_left : {T : Type 0} (xs ys : List T) → xs ++ ys ≡ [] → xs ≡ []
none_left [] ys e = refl
none_left (x ∷ xs) ys e = absurd (none-some x (sym (ap (λ l. slice_get l 0) e)))

none_right : {T : Type 0} (xs ys : List T) → xs ++ ys ≡ [] → ys ≡ []
none_right [] ys e = e
none_right (x ∷ xs) ys e = absurd (none-some x (sym (ap (λ l. slice_get l 0) e)))

module _ (file : t.File) (above : List (List ℕ)) (c : IsTransitiveClosure file above) where
  abbrev lists : List (List ℕ)
  lists = drop first_own above

  abbrev First : List NameFault
  First = entity_name_faults built_in_names file.entities

  abbrev Third : List NameFault
  Third = cycle_faults first_own file.entities lists

  abbrev Fourth : List NameFault
  Fourth = count_faults file.entities 0 file.entities

  abbrev Fifth : List NameFault
  Fifth = main_faults file.entities

  clear_two : First ≡ [] → declaration_faults file ≡ [] → Clear file 2
  clear_two a b = record {
    names = λ l. no_names file a;
    declared = λ l. no_declared file b;
    cycles = λ l. absurd (omega (arith, l));
    counts = λ l. absurd (omega (arith, l));
    main = λ l. absurd (omega (arith, l));
  }

  clear_three : First ≡ [] → declaration_faults file ≡ [] → Third ≡ [] → Clear file 3
  clear_three a b d = record {
    names = λ l. no_names file a;
    declared = λ l. no_declared file b;
    cycles = λ l. no_cycles file above c d;
    counts = λ l. absurd (omega (arith, l));
    main = λ l. absurd (omega (arith, l));
  }

  clear_four : First ≡ [] → declaration_faults file ≡ [] → Third ≡ [] → Fourth ≡ [] → Clear file 4
  clear_four a b d e = record {
    names = λ l. no_names file a;
    declared = λ l. no_declared file b;
    cycles = λ l. no_cycles file above c d;
    counts = λ l. no_counts file e;
    main = λ l. absurd (omega (arith, l));
  }

  pub clear_five : name_faults file above ≡ [] → Clear file 5
  clear_five h =
      let h1 = none_right First (declaration_faults file ++ above_faults file.entities lists) h in
      let h2 = none_right (declaration_faults file) (above_faults file.entities lists) h1 in
      let h3 = none_right Third (Fourth ++ Fifth) h2 in
      record {
        names = λ l. no_names file (none_left First (declaration_faults file ++ above_faults file.entities lists) h);
        declared = λ l. no_declared file (none_left (declaration_faults file) (above_faults file.entities lists) h1);
        cycles = λ l. no_cycles file above c (none_left Third (Fourth ++ Fifth) h2);
        counts = λ l. no_counts file (none_left Fourth Fifth h3);
        main = λ l. no_main file (none_right Fourth Fifth h3);
      }

  pub told_names : (f : NameFault) → IsNotMemory f → Heads (name_faults file above) f → Told file f
  told_names f real h = elim (heads_either First (declaration_faults file ++ above_faults file.entities lists) f h) [
    | inl a ↦ told_name file f a
    | inr a ↦ elim (heads_either (declaration_faults file) (above_faults file.entities lists) f a.1) [
      | inl b ↦ told_declaration file f a.0 b
      | inr b ↦ elim (heads_either Third (Fourth ++ Fifth) f b.1) [
        | inl d ↦ told_cycle file above f real c (clear_two a.0 b.0) d
        | inr d ↦ elim (heads_either Fourth Fifth f d.1) [
          | inl e ↦ told_count file f (clear_three a.0 b.0 d.0) e
          | inr e ↦ told_main file f (clear_four a.0 b.0 d.0 e.0) e.1
        ]
      ]
    ]
  ]

-- ---- members before one with a fault

names_are : (e : t.Entity) (m : Member) → slots_named e m ≡ member_names e m
names_are e (written m) = refl
names_are e added = refl

-- The first k members have no fault.
pub record Passed (file : t.File) (k : ℕ) : Type 0 where
  pub no_fault : (j : ℕ) (o : Owned) → j < k → slice_get (all_members file) j ≡ Some o → member_faults (context_of file o) o.owner o.member ≡ []
  pub few : (j : ℕ) (o : Owned) → j < k → slice_get (all_members file) j ≡ Some o → 1 + length (member_names o.owner o.member) ≤ 64
  pub nodes : nodes_of file (take k (all_members file)) ≤ node_limit

pub passed : (file : t.File) (k : ℕ) (q : Parts) → and_members file built_in_parts (take k (all_members file)) ≡ Ok q → Passed file k
passed file k q h =
    let all = all_at file (take k (all_members file)) built_in_parts q first_good h in
    let total = all_nodes file (take k (all_members file)) built_in_parts q h in
    let most = all.good.nodes in
    record {
      no_fault = λ j o l at. (all.at j o (take_get (all_members file) k j o l at)).made.no_fault;
      few = λ j o l at. (all.at j o (take_get (all_members file) k j o l at)).made.few;
      nodes = omega (arith, total, most);
    }

no_fault_in : (file : t.File) (o : Owned) (g : BodyNameFault) → member_faults (context_of file o) o.owner o.member ≡ [] → IsBodyFault (context_of file o) o.owner o.member g → ⊥
no_fault_in file o g e b = none_has (member_faults (context_of file o) o.owner o.member) g e (((member_tells (context_of file o) o.owner o.member).just g).1 b)

no_slot_in : (o : Owned) (n : Name) → 1 + length (member_names o.owner o.member) ≤ 64 → slice_get (slots_named o.owner o.member) 63 ≡ Some n → ⊥
no_slot_in o n few at =
    let l = get_below (member_names o.owner o.member) 63 n (ap (λ ns. slice_get ns 63) (sym (names_are o.owner o.member)) ∙ at) in
    absurd (omega (arith, l, few))

pub no_body : (file : t.File) (k : ℕ) → Passed file k → (j : ℕ) → j < k → Nothing file (body j)
no_body file k p j l g at = no_fault_in file at.0 at.1 (p.no_fault j at.0 l at.2) at.3

pub no_slots : (file : t.File) (k : ℕ) → Passed file k → (j : ℕ) → j < k → Nothing file (slots j)
no_slots file k p j l g at = no_slot_in at.0 at.1 (p.few j at.0 l at.2) at.3

pub no_nodes : (file : t.File) (k : ℕ) → Passed file k → (j : ℕ) → j < k → Nothing file (nodes j)
no_nodes file k p j l g at =
    let grow = nodes_grow file (all_members file) (suc j) k (omega (arith, l)) in
    let most = p.nodes in
    let more = at.2 in
    absurd (omega (arith, grow, most, more))

-- Turns of members below this number.
record ClearBelow (file : t.File) (n : ℕ) : Type 0 where
  bodies : (j : ℕ) → 3 * j < n → Nothing file (body j)
  slots_clear : (j : ℕ) → 3 * j + 1 < n → Nothing file (slots j)
  nodes_clear : (j : ℕ) → 3 * j + 2 < n → Nothing file (nodes j)

among_members : (file : t.File) (n : ℕ) → ClearBelow file n → (u : Turn) → pass u ≡ 5 → part u < n → Nothing file u
among_members file n c all_names e l = absurd (omega (arith, e))
among_members file n c declarations e l = absurd (omega (arith, e))
among_members file n c cycles e l = absurd (omega (arith, e))
among_members file n c method_counts e l = absurd (omega (arith, e))
among_members file n c main e l = absurd (omega (arith, e))
among_members file n c (body k) e l = c.bodies k l
among_members file n c (slots k) e l = c.slots_clear k l
among_members file n c (nodes k) e l = c.nodes_clear k l

before_member : (file : t.File) (t : Turn) → pass t ≡ 5 → Clear file 5 → ClearBelow file (part t) → (u : Turn) → Earlier u t → Nothing file u
before_member file t five c below u early =
    ⊎_elim (λ l. clear_before file 5 (omega arith) c u (omega (arith, l, five))) (λ r. let same = r.0 in among_members file (part t) below u (omega (arith, same, five)) r.1) early

-- ---- the member with a fault

same_place : (file : t.File) (k : ℕ) (o x : Owned) → slice_get (all_members file) k ≡ Some o → slice_get (all_members file) k ≡ Some x → x ≡ o
same_place file k o x a b = same_Some x o (sym b ∙ a)

body_start : (g : BodyNameFault) → fault_start (body_fault g) ≡ body_places.fault_start g
body_start (unknown s) = refl
body_start (double s) = refl
body_start (long_text s) = refl

-- If a member has no fault of its body, or few enough slots, the same holds up to it.
body_up_to : (file : t.File) (k : ℕ) (o : Owned) → slice_get (all_members file) k ≡ Some o → Passed file k → member_faults (context_of file o) o.owner o.member ≡ [] → (j : ℕ) → j ≤ k → Nothing file (body j)
body_up_to file k o is p e j l = elim (cases_lt j k) [
  | inl less ↦ no_body file k p j less
  | inr more ↦
      let same : j ≡ k = omega (arith, l, more) in
      λ g at.
      let one : at.0 ≡ o = same_Some at.0 o (sym at.2 ∙ ap (slice_get (all_members file)) same ∙ is) in
      no_fault_in file o at.1 e (subst (λ (x : Owned). IsBodyFault (context_of file x) x.owner x.member at.1) one at.3)
]

slots_up_to : (file : t.File) (k : ℕ) (o : Owned) → slice_get (all_members file) k ≡ Some o → Passed file k → slice_get (member_names o.owner o.member) 63 ≡ None → (j : ℕ) → j ≤ k → Nothing file (slots j)
slots_up_to file k o is p few j l = elim (cases_lt j k) [
  | inl less ↦ no_slots file k p j less
  | inr more ↦
      let same : j ≡ k = omega (arith, l, more) in
      λ g at.
      let one : at.0 ≡ o = same_Some at.0 o (sym at.2 ∙ ap (slice_get (all_members file)) same ∙ is) in
      none-some at.1 (sym few ∙ ap (λ ns. slice_get ns 63) (sym (names_are o.owner o.member)) ∙ ap (λ (x : Owned). slice_get (slots_named x.owner x.member) 63) (sym one) ∙ at.3)
]

module _ (file : t.File) (clear : Clear file 5) (collected : (above : List (List ℕ)) × Collects file above) (k : ℕ) (o : Owned) (is : slice_get (all_members file) k ≡ Some o) (p : Passed file k) (f : NameFault) where
  told_body : (g : BodyNameFault) (gs : List BodyNameFault) → member_faults (context_of file o) o.owner o.member ≡ g ∷ gs → f ≡ body_fault g
      → Told file f
  told_body g gs e same = record {
    turn = body k;
    at = (o, g, is, ((member_tells (context_of file o) o.owner o.member).just g).0 (0, ap (λ l. slice_get l 0) e), same);
    before = before_member file (body k) refl clear (record {
      bodies = λ j l. no_body file k p j (omega (arith, l));
      slots_clear = λ j l. no_slots file k p j (omega (arith, l));
      nodes_clear = λ j l. no_nodes file k p j (omega (arith, l));
    });
    within = within;
  }
    where
      within : IsSpelledFile file → (h : NameFault) → IsFaultInTurn file (body k) h → Least fault_start f h
      within s h at =
          let owner = owner_of file.entities file.entities first_own k o is in
          let entity : Has file.entities o.owner = (owner.entity, owner.is_owner) in
          let order = member_order file o.owner o.member (in_order file bodies_ascend s) (in_place file s) entity (sort_of file collected.0 o.owner o.member collected.1 entity (owner.place, owner.is_member)) in
          let there = ((member_tells (context_of file o) o.owner o.member).just at.1).1 (subst (λ (x : Owned). IsBodyFault (context_of file x) x.owner x.member at.1) (same_place file k o at.0 is at.2) at.3) in
          let first : fault_start f ≡ body_places.fault_start g = ap fault_start same ∙ body_start g in
          let other : fault_start h ≡ body_places.fault_start at.1 = ap fault_start at.4 ∙ body_start at.1 in
          elim (member_least (context_of file o) o.owner o.member g gs order e at.1 there) [
            | inl one ↦ inl (same ∙ ap body_fault one ∙ sym at.4)
            | inr less ↦ inr (omega (arith, less, first, other))
          ]

  told_slot : (n : Name) → member_faults (context_of file o) o.owner o.member ≡ [] → slice_get (member_names o.owner o.member) 63 ≡ Some n → f ≡ fault.TooMany which.Slots n.span → Told file f
  told_slot n e at same = record {
    turn = slots k;
    at = (o, n, is, here, same);
    before = before_member file (slots k) refl clear (record {
      bodies = λ j l. up_to j (omega (arith, l));
      slots_clear = λ j l. no_slots file k p j (omega (arith, l));
      nodes_clear = λ j l. no_nodes file k p j (omega (arith, l));
    });
    within = λ s h other.
        let one : other.1 ≡ n = same_Some other.1 n (sym other.3 ∙ ap (λ (x : Owned). slice_get (slots_named x.owner x.member) 63) (same_place file k o other.0 is other.2) ∙ here) in
        inl (same ∙ ap (λ (x : Name). fault.TooMany which.Slots x.span) (sym one) ∙ sym other.4);
  }
    where
      here : slice_get (slots_named o.owner o.member) 63 ≡ Some n
      here = ap (λ ns. slice_get ns 63) (names_are o.owner o.member) ∙ at

      up_to : (j : ℕ) → j ≤ k → Nothing file (body j)
      up_to j l = body_up_to file k o is p e j l

  told_nodes : member_faults (context_of file o) o.owner o.member ≡ [] → slice_get (member_names o.owner o.member) 63 ≡ None → node_limit < nodes_of file (take k (all_members file)) + owned_size file o → f ≡ fault.TooMany which.Nodes (member_span o.owner.name.span o.member) → Told file f
  told_nodes e few many same = record {
    turn = nodes k;
    at = (o, is, (let next = nodes_next file (all_members file) k o is in omega (arith, next, many)), same);
    before = before_member file (nodes k) refl clear (record {
      bodies = λ j l. body_up_to file k o is p e j (omega (arith, l));
      slots_clear = λ j l. slots_up_to file k o is p few j (omega (arith, l));
      nodes_clear = λ j l. no_nodes file k p j (omega (arith, l));
    });
    within = λ s h other. inl (same ∙ ap (λ (x : Owned). fault.TooMany which.Nodes (member_span x.owner.name.span x.member)) (sym (same_place file k o other.0 is other.1)) ∙ sym other.3);
  }

-- ---- the fault that is reported

with_names : (file : t.File) → name_faults file (above_all (edges_of file)) ≡ [] → Collected file (record { entities = entity_names file; texts = built_in_and_member_texts file.entities; above = above_all (edges_of file) })
with_names file e = record { faults = e; entities = refl; above = closes file; texts = other_texts_differ file.entities }

told_at : (file : t.File) → Clear file 5 → (above : List (List ℕ)) × Collects file above → (k : ℕ) (o : Owned) → slice_get (all_members file) k ≡ Some o → Passed file k → (f : NameFault) (before : List Node)
    → length before ≡ nodes_of file (take k (all_members file)) → StopsAt file o before f → Told file f
told_at file clear sound k o is p f before n (at_body g gs e same) = told_body file clear sound k o is p f g gs e same
told_at file clear sound k o is p f before n (at_slot x e at same) = told_slot file clear sound k o is p f x e at same
told_at file clear sound k o is p f before n (at_nodes e few many same) = told_nodes file clear sound k o is p f e few (omega (arith, n, many)) same

pub told_members : (file : t.File) (names : NamesData) (f : NameFault) → Collected file names → parts_of file ≡ Err f → Told file f
told_members file names f c h =
    let s : Stop file built_in_parts (all_members file) f = stop file (all_members file) built_in_parts f h in
    let clear = clear_five file names.above c.above c.faults in
    let nodes : length s.parts.nodes ≡ nodes_of file (take s.place (all_members file)) = (let all = all_nodes file (take s.place (all_members file)) built_in_parts s.parts s.before in omega (arith, all)) in
    told_at file clear (names.above, collects file names c) s.place s.owned s.is_member (passed file s.place s.parts s.before) f s.parts.nodes nodes (stops_at file s.parts s.owned f s.here)

abbrev elab_fault_in : Result CoreData NameFault → Option NameFault
elab_fault_in (Ok core) = None
elab_fault_in (Err f) = Some f

parts_fail : (file : t.File) (above : List (List ℕ)) (f : NameFault) → core_of above file ≡ Err f → parts_of file ≡ Err f
parts_fail file above f h = by (parts_of file) h
  where
    by : (r : Result Parts NameFault) → if_ok r (λ p. Ok (core_with file above p)) ≡ Err f → r ≡ Err f
    by (Ok p) g = absurd (none-some f (ap elab_fault_in g))
    by (Err x) g = ap failed (same_Some x f (ap elab_fault_in g))

pub told : (file : t.File) (f : NameFault) → IsTold file f → Told file f
told file f (real, inl h) = told_names file h.0 h.1 f real (first_is f (name_faults file h.0) real h.2)
told file f (real, inr h) = let made = is_stop file f h in told_members file made.0 f made.1 (parts_fail file made.0.above f made.2)

-- ---- no fault is that memory ran out

abbrev IsReal : NameFault → Type 0
IsReal (fault.Double s) = Unit {0}
IsReal (fault.Unknown s) = Unit {0}
IsReal fault.NoMain = Unit {0}
IsReal (fault.BadMain s) = Unit {0}
IsReal (fault.Cycle s) = Unit {0}
IsReal (fault.TooMany w s) = Unit {0}
IsReal fault.Memory = ⊥

real_of : (f : NameFault) → IsReal f → IsNotMemory f
real_of f r e = subst IsReal e r

real_body : (g : BodyNameFault) → IsReal (body_fault g)
real_body (unknown s) = tt
real_body (double s) = tt
real_body (long_text s) = tt

real_entity : (file : t.File) (f : NameFault) → IsEntityFault file f → IsReal f
real_entity file f (law.twice i e at r) = tt
real_entity file f (law.too_many i e at r l) = tt

real_declaration : (file : t.File) (e : t.Entity) (f : NameFault) → IsDeclarationFault file e f → IsReal f
real_declaration file e f (law.unknown n m) = tt
real_declaration file e f (law.twice n m) = tt
real_declaration file e f (law.too_many i x at fresh l) = tt

real_main : (file : t.File) (f : NameFault) → IsFaultInTurn file main f → IsReal f
real_main file f (inl a) = subst IsReal (sym a.0) tt
real_main file f (inr a) = subst IsReal (sym a.2) tt

pub real_at : (file : t.File) (u : Turn) (f : NameFault) → IsFaultInTurn file u f → IsReal f
real_at file all_names f at = real_entity file f at
real_at file declarations f at = real_declaration file at.0 f at.2
real_at file cycles f at = subst IsReal (sym at.4) tt
real_at file method_counts f at = subst IsReal (sym at.4) tt
real_at file main f at = real_main file f at
real_at file (body k) f at = subst IsReal (sym at.4) (real_body at.1)
real_at file (slots k) f at = subst IsReal (sym at.4) tt
real_at file (nodes k) f at = subst IsReal (sym at.3) tt

-- The first cycle is not a lack of memory.
real_cycles : (a : ℕ) (es : List t.Entity) (ls : List (List ℕ)) (f : NameFault) → Heads (cycle_faults a es ls) f → IsReal f
real_cycles a [] ls f h = absurd (none-some f h)
real_cycles a (e ∷ es) [] f h = absurd (none-some f h)
real_cycles a (e ∷ es) (l ∷ ls) f h = by (is_abstract e.kind && has_number l a) (real_cycles (a + 1) es ls f) h
  where
    by : (b : Bool) → (Heads (cycle_faults (a + 1) es ls) f → IsReal f) → Heads (where_ b (fault.Cycle e.name.span) ++ cycle_faults (a + 1) es ls) f → IsReal f
    by true rest g = subst IsReal (same_Some (fault.Cycle e.name.span) f g) tt
    by false rest g = rest g

real_declared : (file : t.File) (f : NameFault) → Heads (declaration_faults file) f → IsReal f
real_declared file f h =
    let r = declared_by file f h in
    real_declaration file r.0 f r.1

real_heads : (file : t.File) (above : List (List ℕ)) (f : NameFault) → Heads (name_faults file above) f → IsReal f
real_heads file above f h =
    let own = drop first_own above in
    let es = file.entities in
    elim (heads_either (entity_name_faults built_in_names es) (declaration_faults file ++ above_faults es own) f h) [
      | inl a ↦ real_entity file f ((entities_list file f).0 (has_head (entity_name_faults built_in_names es) f a))
      | inr a ↦ elim (heads_either (declaration_faults file) (above_faults es own) f a.1) [
        | inl b ↦ real_declared file f b
        | inr b ↦ elim (heads_either (cycle_faults first_own es own) (count_faults es 0 es ++ main_faults es) f b.1) [
          | inl d ↦ real_cycles first_own es own f d
          | inr d ↦ elim (heads_either (count_faults es 0 es) (main_faults es) f d.1) [
            | inl e ↦ real_at file method_counts f ((file_counts file f).0 (has_head (count_faults es 0 es) f e))
            | inr e ↦ real_main file f ((file_mains file f).0 (has_head (main_faults es) f e.1))
          ]
        ]
      ]
    ]

-- ---- if there is a fault, one is reported

no_fault_at_all : (file : t.File) → Clear file 5 → (q : Parts) → parts_of file ≡ Ok q → (u : Turn) → Nothing file u
no_fault_at_all file c q h u = by u
  where
    count : ℕ
    count = length (all_members file)

    p : Passed file count
    p = passed file count q (ap (and_members file built_in_parts) (take_all count (all_members file) (omega arith)) ∙ h)

    by : (u : Turn) → Nothing file u
    by all_names = clear_before file 5 (omega arith) c all_names (omega arith)
    by declarations = clear_before file 5 (omega arith) c declarations (omega arith)
    by cycles = clear_before file 5 (omega arith) c cycles (omega arith)
    by method_counts = clear_before file 5 (omega arith) c method_counts (omega arith)
    by main = clear_before file 5 (omega arith) c main (omega arith)
    by (body k) = λ g at. no_body file count p k (get_below (all_members file) k at.0 at.2) g at
    by (slots k) = λ g at. no_slots file count p k (get_below (all_members file) k at.0 at.2) g at
    by (nodes k) = λ g at. no_nodes file count p k (get_below (all_members file) k at.0 at.1) g at

pub fault_is_told : FaultIsTold
fault_is_told file u g at = by (name_faults file (above_all (edges_of file))) refl
  where
    names : NamesData
    names = record { entities = entity_names file; texts = built_in_and_member_texts file.entities; above = above_all (edges_of file) }

    elab : name_faults file (above_all (edges_of file)) ≡ [] → (r : Result Parts NameFault) → parts_of file ≡ r → (f : NameFault) × IsTold file f
    elab e (Ok q) h = absurd (no_fault_at_all file (clear_five file (above_all (edges_of file)) (closes file) e) q h u g at)
    elab e (Err f) h =
        let t = told_members file names f (with_names file e) h in
        (f, (real_of f (real_at file t.turn f t.at), inr (is_first file f (names, with_names file e, ap (λ r. if_ok r (λ p. Ok (core_with file (above_all (edges_of file)) p))) h))))

    by : (fs : List NameFault) → name_faults file (above_all (edges_of file)) ≡ fs → (f : NameFault) × IsTold file f
    by [] e = elab e (parts_of file) refl
    by (f ∷ fs) e =
        let h : Heads (name_faults file (above_all (edges_of file))) f = ap (λ l. slice_get l 0) e in
        (f, (real_of f (real_heads file (above_all (edges_of file)) f h), inl (above_all (edges_of file), closes file, heads_first f (name_faults file (above_all (edges_of file))) h)))
