-- The outcomes of the members of a file, one after the other, up to the first with a fault.
use Rattle.std.proofs.{Common.{◌≡◌, ℕ, suc, ◌+◌, ◌<◌, List, [], ◌∷◌, take, length, Option, Some, None, refl, sym, ap, ◌∙◌, subst, inl, inr, arith}, lemmas.Option.same_Some}
use Rattle.std.specs.Prelude.{slice_get, Result, Ok, Err}
use Rattle.pc_base.specs.{declared.span.Span.Span, Limits.node_limit}
use Rattle.pc_tree.specs.declared.written_names.Name.{Name}
use Rattle.pc_tree.specs.Tree as t
use Rattle.pc_core.specs.declared.nodes.Node.{Node}
use Rattle.pc_names.specs.declared.fault.NameFault.{NameFault}
use Rattle.pc_names.specs.declared.fault.NameFault.TheVariants as fault
use Rattle.pc_names.specs.declared.fault.Which.TheVariants as which
use Rattle.pc_body_spec.specs.{Bodies.{Rose, Context}, Fold.{Numbered, put}, Faults.BodyNameFault, Methods.{MethodOutcome, unless_fault, unless_name, unless_full, numbered_or_full, put_body}}
use Rattle.pc_members.specs.{Members.{Member, written, added}, MemberLists.member_span}
use Rattle.pc_file_spec.specs.Cores.{Owned, context_of, Parts, body_fault, outcome, joined_parts, with_outcome, and_member, and_members, if_ok}
use Rattle.pc_file_spec.proofs.{Steps.{member_faults, member_names, member_rose, Made, Ends}, Parts.made_of}
use Rattle.pc_name_laws.specs.Turns.{size_if, member_size, owned_size, nodes_of}
use Rattle.pc_core_relation.specs.MemberFaults.{node_count}
use Rattle.pc_core_relation.proofs.NodeCounts.{Counts, put_counts}

abbrev IsOk : {A B : Type 0} → Result A B → Type 0
IsOk (Ok a) = Unit {0}
IsOk (Err e) = ⊥

abbrev fault_in : {A : Type 0} → Result A NameFault → Option NameFault
fault_in (Ok a) = None
fault_in (Err f) = Some f

abbrev value_in : {A : Type 0} → Result A NameFault → Option A
value_in (Ok a) = Some a
value_in (Err f) = None

abbrev pub failed : NameFault → Result Parts NameFault
failed f = Err f

same_fault : (f g : NameFault) → failed f ≡ failed g → f ≡ g
same_fault f g e = same_Some f g (ap fault_in e)

-- ---- the nodes of a member

size_is : (c : Context) (e : t.Entity) (x : Member) → member_size c e x ≡ size_if (member_rose c e x)
size_is c e (written m) = refl
size_is c e added = refl

made_nodes : (c : Context) (m : ℕ) (e : t.Entity) (x : Member) (before : List Node) (r : Option ℕ × List Node) → Made c m e x before r → length r.1 ≡ length before + member_size c e x
made_nodes c m e x before r made = by made.ends
  where
    by : Ends c m e x before r → length r.1 ≡ length before + member_size c e x
    by (inl a) =
        let same : length r.1 ≡ length before = ap (λ (p : Option ℕ × List Node). length p.1) a.0 in
        let none : member_size c e x ≡ 0 = size_is c e x ∙ ap size_if a.1 in
        omega (arith, same, none)
    by (inr b) =
        let same : length r.1 ≡ length b.1 = ap (λ (p : Option ℕ × List Node). length p.1) b.2 in
        let put : length b.1 ≡ length before + node_count b.3.rose = subst (λ (o : Numbered ℕ). Counts o (length before + node_count b.3.rose)) b.3.put_is (put_counts m b.3.rose before) in
        let whole : member_size c e x ≡ node_count b.3.rose = size_is c e x ∙ ap size_if b.3.is_rose in
        omega (arith, same, put, whole)

pub all_nodes : (file : t.File) (os : List Owned) (p q : Parts) → and_members file p os ≡ Ok q → length q.nodes ≡ length p.nodes + nodes_of file os
all_nodes file [] p q h = let same : length p.nodes ≡ length q.nodes = ap (λ (x : Parts). length x.nodes) (same_Some p q (ap value_in h)) in omega (arith, same)
all_nodes file (o ∷ os) p q h = by (outcome (context_of file o) (length p.methods) o.owner o.member p.nodes) refl (λ r. all_nodes file os r q) h
  where
    by : (x : MethodOutcome) → outcome (context_of file o) (length p.methods) o.owner o.member p.nodes ≡ x → ((r : Parts) → and_members file r os ≡ Ok q → length q.nodes ≡ length r.nodes + nodes_of file os)
        → if_ok (with_outcome (context_of file o) p o x) (λ r. and_members file r os) ≡ Ok q → length q.nodes ≡ length p.nodes + nodes_of file (o ∷ os)
    by (Ok r) e rest g =
        let later = rest (joined_parts (context_of file o) p o r) g in
        let here = made_nodes (context_of file o) (length p.methods) o.owner o.member p.nodes r (made_of file p o r e) in
        omega (arith, later, here)
    by (Err f) e rest g = absurd (subst IsOk (sym g) tt)

-- ---- the first member with a fault

pub record Stop (file : t.File) (p : Parts) (os : List Owned) (f : NameFault) : Type 0 where
  pub place : ℕ
  pub owned : Owned
  pub parts : Parts
  pub is_member : slice_get os place ≡ Some owned
  pub before : and_members file p (take place os) ≡ Ok parts
  pub here : and_member (context_of file owned) parts owned ≡ Err f

pub stop : (file : t.File) (os : List Owned) (p : Parts) (f : NameFault) → and_members file p os ≡ Err f → Stop file p os f
stop file [] p f h = absurd (subst IsOk h tt)
stop file (o ∷ os) p f h = by (and_member (context_of file o) p o) refl (λ q. stop file os q f) h
  where
    by : (r : Result Parts NameFault) → and_member (context_of file o) p o ≡ r → ((q : Parts) → and_members file q os ≡ Err f → Stop file q os f) → if_ok r (λ q. and_members file q os) ≡ Err f → Stop file p (o ∷ os) f
    by (Ok q) e rest g =
        let s = rest q g in
        record {
          place = suc s.place;
          owned = s.owned;
          parts = s.parts;
          is_member = s.is_member;
          before = ap (λ r. if_ok r (λ x. and_members file x (take s.place os))) e ∙ s.before;
          here = s.here;
        }
    by (Err x) e rest g = record { place = 0; owned = o; parts = p; is_member = refl; before = refl; here = e ∙ g }

-- ---- why it stops

-- A fault of its body; or else its 65th slot; or else that there are too many nodes.
pub data StopsAt (file : t.File) (o : Owned) (before : List Node) (f : NameFault) : Type 0 where
  at_body : (g : BodyNameFault) (gs : List BodyNameFault) → member_faults (context_of file o) o.owner o.member ≡ g ∷ gs → f ≡ body_fault g
      → StopsAt file o before f
  at_slot : (n : Name) → member_faults (context_of file o) o.owner o.member ≡ [] → slice_get (member_names o.owner o.member) 63 ≡ Some n → f ≡ fault.TooMany which.Slots n.span → StopsAt file o before f
  at_nodes : member_faults (context_of file o) o.owner o.member ≡ [] → slice_get (member_names o.owner o.member) 63 ≡ None → node_limit < length before + owned_size file o → f ≡ fault.TooMany which.Nodes (member_span o.owner.name.span o.member) → StopsAt file o before f

outcome_is : (c : Context) (m : ℕ) (e : t.Entity) (x : Member) (before : List Node)
    → outcome c m e x before ≡ unless_fault (member_faults c e x) (unless_full (member_names e x) (put_body m (member_span e.name.span x) (member_rose c e x) before))
outcome_is c m e (written x) before = refl
outcome_is c m e added before = refl

full : (c : Context) (p : Parts) (o : Owned) (m : ℕ) (s : Span) (r : Option Rose) (before : List Node) (f : NameFault) → with_outcome c p o (put_body m s r before) ≡ Err f → (node_limit < length before + size_if r) × (f ≡ fault.TooMany which.Nodes s)
full c p o m s None before f h = absurd (subst IsOk h tt)
full c p o m s (Some r) before f h = by (put m r before) (put_counts m r before) h
  where
    by : (x : Numbered ℕ) → Counts x (length before + node_count r) → with_outcome c p o (numbered_or_full s x) ≡ Err f → (node_limit < length before + node_count r) × (f ≡ fault.TooMany which.Nodes s)
    by None n g = (n, sym (same_fault (fault.TooMany which.Nodes s) f g))
    by (Some x) n g = absurd (subst IsOk g tt)

pub stops_at : (file : t.File) (p : Parts) (o : Owned) (f : NameFault) → and_member (context_of file o) p o ≡ Err f → StopsAt file o p.nodes f
stops_at file p o f h =
    by (member_faults c o.owner o.member) refl (slice_get (member_names o.owner o.member) 63) refl (sym (ap (with_outcome c p o) (outcome_is c (length p.methods) o.owner o.member p.nodes)) ∙ h)
  where
    c : Context
    c = context_of file o

    rest : MethodOutcome
    rest = put_body (length p.methods) (member_span o.owner.name.span o.member) (member_rose c o.owner o.member) p.nodes

    by : (fs : List BodyNameFault) → member_faults (context_of file o) o.owner o.member ≡ fs → (x : Option Name) → slice_get (member_names o.owner o.member) 63 ≡ x
        → with_outcome (context_of file o) p o (unless_fault fs (unless_name x rest)) ≡ Err f → StopsAt file o p.nodes f
    by (g ∷ gs) e x k s = at_body g gs e (sym (same_fault (body_fault g) f s))
    by [] e (Some n) k s = at_slot n e k (sym (same_fault (fault.TooMany which.Slots n.span) f s))
    by [] e None k s =
        let r = full (context_of file o) p o (length p.methods) (member_span o.owner.name.span o.member) (member_rose (context_of file o) o.owner o.member) p.nodes f s in
        let is : owned_size file o ≡ size_if (member_rose (context_of file o) o.owner o.member) = size_is (context_of file o) o.owner o.member in
        let l = r.0 in
        at_nodes e k (omega (arith, l, is)) r.1
