-- The parts of a program, as they grow member by member.
use Rattle.std.proofs.{Common.{◌≡◌, ℕ, zero, suc, ◌+◌, ◌-◌, ◌*◌, ◌<◌, ◌≤◌, List, [], ◌∷◌, ◌++◌, length, map, Option, Some, refl, sym, ap, ◌∙◌, subst, inl, inr, arith, append-nil}, lemmas.Bool.cases_lt, lemmas.Option.{same_Some, none-some}, lemmas.List.{length-append, length_push, map-append, append_assoc}}
use Rattle.std.specs.Prelude.{slice_get, Result, Ok, Err}
use Rattle.pc_base.proofs.{Gets.{get_below, append_get}, Ranges.follow_append}
use Rattle.pc_tree.specs.Tree as t
use Rattle.pc_core.specs.{declared.declarations.Method.Method, declared.nodes.Slot.Slot, declared.nodes.Node.Node, CoreData.node_end}
use Rattle.pc_base.specs.{Lists.{Follow, Each}, Limits.node_limit}
use Rattle.pc_names.specs.declared.fault.NameFault.{NameFault}
use Rattle.pc_body_spec.specs.{Bodies.Context, Methods.MethodOutcome}
use Rattle.pc_file_spec.specs.Cores.{Owned, texts_of_file, context_of, slots_from, declared, Parts, outcome, joined_parts, with_outcome, and_member, and_members, if_ok, built_in_parts}
use Rattle.pc_file_spec.proofs.{Tables.language_kept, Steps.{IsOk, same_ok, Made, made, Behind, behind, slots_count, member_names}}

-- ---- extended parts

-- The second has the first as a prefix, and all its other nodes belong to later methods.
pub record Extends (p q : Parts) : Type 0 where
  pub methods : List Method
  pub slots : List Slot
  pub nodes : List Node
  pub is_methods : q.methods ≡ p.methods ++ methods
  pub is_slots : q.slots ≡ p.slots ++ slots
  pub is_nodes : q.nodes ≡ p.nodes ++ nodes
  pub later : Each (λ i y. length p.methods ≤ y.method) nodes

no_more : (p : Parts) → Extends p p
no_more p = record { methods = []; slots = []; nodes = []; is_methods = sym (append-nil p.methods); is_slots = sym (append-nil p.slots); is_nodes = sym (append-nil p.nodes); later = λ i y h. absurd (none-some y h) }

pub extends_on : (p q r : Parts) → Extends p q → Extends q r → Extends p r
extends_on p q r a b =
    let count : length q.methods ≡ length p.methods + length a.methods = ap length a.is_methods ∙ length-append p.methods a.methods in
    record {
      methods = a.methods ++ b.methods;
      slots = a.slots ++ b.slots;
      nodes = a.nodes ++ b.nodes;
      is_methods = b.is_methods ∙ ap (λ xs. xs ++ b.methods) a.is_methods ∙ append_assoc p.methods a.methods b.methods;
      is_slots = b.is_slots ∙ ap (λ xs. xs ++ b.slots) a.is_slots ∙ append_assoc p.slots a.slots b.slots;
      is_nodes = b.is_nodes ∙ ap (λ xs. xs ++ b.nodes) a.is_nodes ∙ append_assoc p.nodes a.nodes b.nodes;
      later = λ i y h. elim (append_get a.nodes b.nodes i y h) [
        | inl old ↦ a.later i y old
        | inr new ↦ let l = b.later (i - length a.nodes) y new.1 in omega (arith, l, count)
      ];
    }

-- ---- invariants of the parts after each member

abbrev pub slots_run : Method → ℕ × ℕ
slots_run x = (x.first_slot, x.slots)

abbrev pub nodes_run : Method → ℕ × ℕ
nodes_run x = (x.first_node, node_end x.first_node x.body - x.first_node)

pub record Good (p : Parts) : Type 0 where
  -- each method has at most 64, and method 0 has none
  pub slots : 64 + length p.slots ≤ 64 * length p.methods
  pub nodes : length p.nodes ≤ node_limit
  pub earlier : Each (λ i y. y.method < length p.methods) p.nodes
  pub slots_follow : Follow 0 (map slots_run p.methods) (length p.slots)
  pub nodes_follow : Follow 0 (map nodes_run p.methods) (length p.nodes)

pub first_good : Good built_in_parts
first_good = record { slots = omega arith; nodes = omega arith; earlier = λ i y h. absurd (none-some y h); slots_follow = (refl, refl); nodes_follow = (refl, refl) }

-- ---- one more member

module _ (file : t.File) where
  some_text : 0 < length (texts_of_file file)
  some_text = get_below (texts_of_file file) 0 _ (language_kept file 0 _ refl)

  -- A member and its outcome.
  pub record Turn (p : Parts) (o : Owned) (q : Parts) : Type 0 where
    pub result : Option ℕ × List Node
    pub step : outcome (context_of file o) (length p.methods) o.owner o.member p.nodes ≡ Ok result
    pub is_joined : q ≡ joined_parts (context_of file o) p o result

  turned : (p : Parts) (o : Owned) (q : Parts) → and_member (context_of file o) p o ≡ Ok q → Turn p o q
  turned p o q h = by (outcome (context_of file o) (length p.methods) o.owner o.member p.nodes) refl h
    where
      by : (r : MethodOutcome) → outcome (context_of file o) (length p.methods) o.owner o.member p.nodes ≡ r → with_outcome (context_of file o) p o r ≡ Ok q → Turn p o q
      by (Ok r) e g = record { result = r; step = e; is_joined = sym (same_ok (joined_parts (context_of file o) p o r) q (Ok (joined_parts (context_of file o) p o r)) refl g) }
      by (Err f) e g = absurd (subst IsOk (sym g) tt)

  pub made_of : (p : Parts) (o : Owned) (r : Option ℕ × List Node) → outcome (context_of file o) (length p.methods) o.owner o.member p.nodes ≡ Ok r → Made (context_of file o) (length p.methods) o.owner o.member p.nodes r
  made_of p o r h = made (context_of file o) (length p.methods) o.owner o.member p.nodes r some_text h

-- Its parts, after those before it.
module _ (c : Context) (p : Parts) (o : Owned) (r : Option ℕ × List Node) (m : Made c (length p.methods) o.owner o.member p.nodes r) where
  abbrev new_slots : List Slot
  new_slots = slots_from c (length p.methods) o

  abbrev new_method : Method
  new_method = declared c o (length p.slots) (length new_slots) (length p.nodes) r.0

  own : Behind (length p.methods) p.nodes r.1
  own = behind c (length p.methods) o.owner o.member p.nodes r m.ends

  pub joined_extends : Extends p (joined_parts c p o r)
  joined_extends = record {
    methods = new_method ∷ [];
    slots = new_slots;
    nodes = own.own;
    is_methods = refl;
    is_slots = refl;
    is_nodes = own.is_behind;
    later = λ i y h. let e = own.method i y h in omega (arith, e);
  }

  nodes_few : length p.nodes ≤ node_limit → length r.1 ≤ node_limit
  nodes_few l = elim m.ends [
    | inl a ↦ let e : r.1 ≡ p.nodes = ap (λ (x : Option ℕ × List Node). x.1) a.0 in subst (λ xs. length xs ≤ node_limit) (sym e) l
    | inr b ↦ let e : r.1 ≡ b.1 = ap (λ (x : Option ℕ × List Node). x.1) b.2 in subst (λ xs. length xs ≤ node_limit) (sym e) b.3.stands.stands.few
  ]

  nodes_last : Follow (length p.nodes) (nodes_run new_method ∷ []) (length r.1)
  nodes_last = elim m.ends [
    | inl a ↦
        let e : length r.1 ≡ length p.nodes = ap (λ (x : Option ℕ × List Node). length x.1) a.0 in
        let f : node_end (length p.nodes) r.0 ≡ length p.nodes = ap (λ (x : Option ℕ × List Node). node_end (length p.nodes) x.0) a.0 in
        (refl, omega (arith, e, f))
    | inr b ↦
        let e : length r.1 ≡ length b.1 = ap (λ (x : Option ℕ × List Node). length x.1) b.2 in
        let f : node_end (length p.nodes) r.0 ≡ b.0 + 1 = ap (λ (x : Option ℕ × List Node). node_end (length p.nodes) x.0) b.2 in
        let last = b.3.stands.stands.last in
        let more : length b.1 ≡ length p.nodes + length b.3.stands.stands.own = ap length b.3.stands.stands.behind ∙ length-append p.nodes b.3.stands.stands.own in
        (refl, omega (arith, e, f, last, more))
  ]

  pub joined_good : Good p → Good (joined_parts c p o r)
  joined_good g =
      let count : length (p.methods ++ new_method ∷ []) ≡ length p.methods + 1 = length_push p.methods new_method in
      let slots_sum : length (p.slots ++ new_slots) ≡ length p.slots + length new_slots = length-append p.slots new_slots in
      let slots_new : length new_slots ≡ 1 + length (member_names o.owner o.member) = slots_count c (length p.methods) o in
      let few = m.few in
      let old = g.slots in
      record {
        slots = omega (arith, count, slots_sum, slots_new, few, old);
        nodes = nodes_few g.nodes;
        earlier = λ i y h. elim (append_get p.nodes own.own i y (ap (λ xs. slice_get xs i) (sym own.is_behind) ∙ h)) [
          | inl a ↦ let l = g.earlier i y a in omega (arith, l, count)
          | inr b ↦ let e = own.method (i - length p.nodes) y b.1 in omega (arith, e, count)
        ];
        slots_follow = subst (λ xs. Follow 0 xs (length (p.slots ++ new_slots))) (sym (map-append slots_run p.methods (new_method ∷ []))) (follow_append 0 (map slots_run p.methods) (slots_run new_method ∷ []) (length p.slots) (length (p.slots ++ new_slots)) g.slots_follow (refl, sym slots_sum));
        nodes_follow = subst (λ xs. Follow 0 xs (length r.1)) (sym (map-append nodes_run p.methods (new_method ∷ []))) (follow_append 0 (map nodes_run p.methods) (nodes_run new_method ∷ []) (length p.nodes) (length r.1) g.nodes_follow nodes_last);
      }

-- ---- all members

-- A member that is method m, with the parts before it and its outcome.
pub record At (file : t.File) (q : Parts) (m : ℕ) (o : Owned) : Type 0 where
  pub before : Parts
  pub number : length before.methods ≡ m
  pub good : Good before
  pub result : Option ℕ × List Node
  pub made : Made (context_of file o) (length before.methods) o.owner o.member before.nodes result
  pub extends : Extends (joined_parts (context_of file o) before o result) q

-- All of these members, after some parts.
pub record AllAt (file : t.File) (p : Parts) (os : List Owned) (q : Parts) : Type 0 where
  pub good : Good q
  pub extends : Extends p q
  pub count : length q.methods ≡ length p.methods + length os
  pub at : (i : ℕ) (o : Owned) → slice_get os i ≡ Some o → At file q (length p.methods + i) o
  pub node : (n : ℕ) → length p.nodes ≤ n → n < length q.nodes → (i : ℕ) × (o : Owned) × (slice_get os i ≡ Some o) × ((a : At file q (length p.methods + i) o) × (length a.before.nodes ≤ n) × (n < length a.result.1))

if_both : {A B : Type 0} (r : Result A NameFault) (f : A → Result B NameFault) (b : B) → if_ok r f ≡ Ok b → (a : A) × (r ≡ Ok a) × (f a ≡ Ok b)
if_both (Ok a) f b h = (a, refl, h)
if_both (Err e) f b h = absurd (subst IsOk (sym h) tt)

pub all_at : (file : t.File) (os : List Owned) (p q : Parts) → Good p → and_members file p os ≡ Ok q → AllAt file p os q
all_at file [] p q g h =
    let same : p ≡ q = same_ok p q (Ok p) refl h in
    subst (λ x. AllAt file p [] x) same (record {
      good = g;
      extends = no_more p;
      count = omega arith;
      at = λ i o e. absurd (none-some o e);
      node = λ n a b. absurd (omega (arith, a, b));
    })
all_at file (o ∷ os) p q g h =
    let c = context_of file o in
    let both = if_both (and_member c p o) (λ x. and_members file x os) q h in
    let turn : Turn file p o both.0 = turned file p o both.0 both.1 in
    let m : Made c (length p.methods) o.owner o.member p.nodes turn.result = made_of file p o turn.result turn.step in
    let next : Parts = joined_parts c p o turn.result in
    let rest : AllAt file next os q = all_at file os next q (joined_good c p o turn.result m g) (subst (λ x. and_members file x os ≡ Ok q) turn.is_joined both.2) in
    let count : length next.methods ≡ length p.methods + 1 = length_push p.methods _ in
    let total = rest.count in
    let here : At file q (length p.methods + 0) o = record { before = p; number = omega arith; good = g; result = turn.result; made = m; extends = rest.extends } in
    let later : (i : ℕ) → length next.methods + i ≡ length p.methods + suc i = λ i. omega (arith, count) in
    record {
      good = rest.good;
      extends = extends_on p next q (joined_extends c p o turn.result m) rest.extends;
      count = omega (arith, total, count);
      at = at_first p o os q here (λ i x e. subst (λ k. At file q k x) (later i) (rest.at i x e));
      node = λ n low high. elim (cases_lt n (length next.nodes)) [
        | inl l ↦ (0, o, refl, (here, low, l))
        | inr l ↦
            let r = rest.node n l high in
            (suc r.0, r.1, r.2, moved r.1 q n (length next.methods + r.0) (length p.methods + suc r.0) (later r.0) r.3)
      ];
    }
  where
    at_first : (p : Parts) (o : Owned) (os : List Owned) (q : Parts) → At file q (length p.methods + 0) o → ((i : ℕ) (x : Owned) → slice_get os i ≡ Some x → At file q (length p.methods + suc i) x) → (i : ℕ) (x : Owned) → slice_get (o ∷ os) i ≡ Some x → At file q (length p.methods + i) x
    at_first p o os q a f zero x e = subst (λ y. At file q (length p.methods + 0) y) (same_Some o x e) a
    at_first p o os q a f (suc i) x e = f i x e

    moved : (x : Owned) (q : Parts) (n k j : ℕ) → k ≡ j → ((a : At file q k x) × (length a.before.nodes ≤ n) × (n < length a.result.1)) → (a : At file q j x) × (length a.before.nodes ≤ n) × (n < length a.result.1)
    moved x q n k j e h = subst (λ i. (a : At file q i x) × (length a.before.nodes ≤ n) × (n < length a.result.1)) e h
