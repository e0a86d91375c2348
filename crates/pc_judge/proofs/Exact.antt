-- There is exactly one first fault iff the annotation is not valid.
use Rattle.std.specs.Prelude.{◌≡◌, ◌⊎◌, ◌↔◌, ℕ, ◌+◌, ◌<◌, ◌≤◌, true, false, List, length, Result, Ok, Err, IsOk, MatchResult, Some, refl}
use Rattle.std.proofs.{Common.{inl, inr, ap, sym, subst, ◌∙◌, arith}, lemmas.Bool.cases_lt}
use Rattle.pc_core.specs.{declared.nodes.Node.Node, CoreData.CoreData, Formed.Formed}
use Rattle.pc_ann.specs.declared.annotation.Ann.{Ann}
use Rattle.pc_sub.proofs.{FirstFaults.{faulted, one_fault}, Firsts.first_once}
use Rattle.pc_valid.specs.Valid.{MeetsRule, Valid, KeepsWritten}
use Rattle.pc_judge.specs.declared.faults.JudgeFault.{JudgeFault}
use Rattle.pc_judge.specs.declared.faults.JudgeFault.TheVariants as fault
use Rattle.pc_judge.specs.Faults as spec
use Rattle.pc_judge.specs.AtNodes as atnodes
use Rattle.pc_judge.specs.Laws as law
use Rattle.pc_judge.proofs.Bodies.{body_within, one_body}

-- ---- from node to node

pub before_next : (core : CoreData) (ann : Ann) (n : ℕ) → spec.NothingWrongBefore core ann n → atnodes.NodePasses core ann n
    → spec.NothingWrongBefore core ann (n + 1)
before_next core ann n b p =
    record {
      declarations = b.declarations;
      shape = b.shape;
      written = b.written;
      rules = λ k l. elim (cases_lt k n) [ inl m ↦ b.rules k m | inr m ↦ let at : n ≡ k = omega (arith, l, m) in subst (MeetsRule core ann) at p.0 ];
      sets = λ k l. elim (cases_lt k n) [ inl m ↦ b.sets k m | inr m ↦ let at : n ≡ k = omega (arith, l, m) in subst (spec.SetsAfter core ann) at p.1 ];
    }

pub before_all : (core : CoreData) (ann : Ann) (n : ℕ) → Formed core → n ≡ length core.nodes → spec.NothingWrongBefore core ann n → Valid core ann
before_all core ann n f e b =
    record {
      declarations = b.declarations;
      slots = b.shape.0;
      notes = b.shape.1;
      written = b.written;
      rules = λ k l. b.rules k (omega (arith, l, e));
      sets = λ m x g c k t body there. let l = body_within core m k x f g body in b.sets k (omega (arith, l, e)) m x g body c k t body there;
    }

-- The same for a list that was looked at to its end.
pub before_seen : (core : CoreData) (ann : Ann) (ys : List Node) (n i : ℕ) → Formed core → ys ≡ core.nodes → length ys ≤ i → n ≡ i → i ≤ length ys → spec.NothingWrongBefore core ann n → Valid core ann
before_seen core ann ys n i f same l at m b =
    let count : length ys ≡ length core.nodes = ap (λ (zs : List Node). length zs) same in
    before_all core ann n f (omega (arith, count, l, at, m)) b

-- ---- valid or faulted

slot_clash : (core : CoreData) (ann : Ann) (k : ℕ) → spec.FirstWrong core ann k → KeepsWritten core ann → ⊥
slot_clash core ann k h w = h.1.1 (w k h.0 h.1.0)

pub not_valid : law.NotValid
not_valid core ann (fault.Decl d) f h v = faulted core d f h v.declarations
not_valid core ann fault.Shape f h v = h.1 (v.slots, v.notes)
not_valid core ann (fault.Slot k) f h v = slot_clash core ann k h.2 v.written
not_valid core ann (fault.Node n) f h v = h.2 (v.rules n h.0)
not_valid core ann (fault.Unset m) f h v = h.6 (v.sets m h.0 h.2)

-- ---- two first faults

-- The places of two nodes.
places : (n k : ℕ) → (n < k) ⊎ (k < n) ⊎ (n ≡ k)
places n k = elim (cases_lt n k) [ inl l ↦ inl l | inr l ↦ elim (cases_lt k n) [ inl m ↦ inr (inl m) | inr m ↦ inr (inr (omega (arith, l, m))) ] ]

-- A constructor that leaves a field unset contradicts what comes after its body.
unset_clash : (core : CoreData) (ann : Ann) (m n : ℕ) (h : spec.LeavesUnset core ann m) → h.1 < n → spec.NothingWrongBefore core ann n → ⊥
unset_clash core ann m n h l b = h.6 (b.sets h.1 l m h.0 h.2 h.3)

two_slots : (core : CoreData) (ann : Ann) (k j : ℕ) → spec.FirstWrong core ann k → spec.FirstWrong core ann j → k ≡ j
two_slots core ann k j h i = first_once (λ n y. spec.KeepsType ann n y) core.slots k j h.0 i.0 h.1 i.1

two_nodes : (core : CoreData) (ann : Ann) (n k : ℕ) → spec.FailsRule core ann n → spec.FailsRule core ann k → n ≡ k
two_nodes core ann n k h i =
    elim (places n k) [
      | inl l ↦ absurd (h.2 (i.1.rules n l))
      | inr r ↦ elim r [ inl l ↦ absurd (i.2 (h.1.rules k l)) | inr e ↦ e ]
    ]

node_unset : (core : CoreData) (ann : Ann) (n m : ℕ) → spec.FailsRule core ann n → spec.LeavesUnset core ann m → ⊥
node_unset core ann n m h i =
    elim (places n i.1) [
      | inl l ↦ h.2 (i.4.rules n l)
      | inr r ↦ elim r [ inl l ↦ unset_clash core ann m n i l h.1 | inr e ↦ h.2 (subst (MeetsRule core ann) (sym e) i.5) ]
    ]

two_unset : (core : CoreData) (ann : Ann) (m k : ℕ) → Formed core → spec.LeavesUnset core ann m → spec.LeavesUnset core ann k → m ≡ k
two_unset core ann m k f h i =
    elim (places h.1 i.1) [
      | inl l ↦ absurd (unset_clash core ann m i.1 h l i.4)
      | inr r ↦ elim r [
        | inl l ↦ absurd (unset_clash core ann k h.1 i l h.4)
        | inr e ↦ one_body core m k h.1 h.0 i.0 f h.2 h.3 i.2 (i.3 ∙ ap Some (sym e))
      ]
    ]

pub one_first : law.OneFirst
one_first core ann (fault.Decl d) (fault.Decl e) f h i = ap fault.Decl (one_fault core d e f h i)
one_first core ann (fault.Decl d) fault.Shape f h i = absurd (faulted core d f h i.0)
one_first core ann (fault.Decl d) (fault.Slot k) f h i = absurd (faulted core d f h i.0)
one_first core ann (fault.Decl d) (fault.Node n) f h i = absurd (faulted core d f h i.1.declarations)
one_first core ann (fault.Decl d) (fault.Unset m) f h i = absurd (faulted core d f h i.4.declarations)
one_first core ann fault.Shape (fault.Decl d) f h i = absurd (faulted core d f i h.0)
one_first core ann fault.Shape fault.Shape f h i = refl
one_first core ann fault.Shape (fault.Slot k) f h i = absurd (h.1 i.1)
one_first core ann fault.Shape (fault.Node n) f h i = absurd (h.1 i.1.shape)
one_first core ann fault.Shape (fault.Unset m) f h i = absurd (h.1 i.4.shape)
one_first core ann (fault.Slot k) (fault.Decl d) f h i = absurd (faulted core d f i h.0)
one_first core ann (fault.Slot k) fault.Shape f h i = absurd (i.1 h.1)
one_first core ann (fault.Slot k) (fault.Slot j) f h i = ap fault.Slot (two_slots core ann k j h.2 i.2)
one_first core ann (fault.Slot k) (fault.Node n) f h i = absurd (slot_clash core ann k h.2 i.1.written)
one_first core ann (fault.Slot k) (fault.Unset m) f h i = absurd (slot_clash core ann k h.2 i.4.written)
one_first core ann (fault.Node n) (fault.Decl d) f h i = absurd (faulted core d f i h.1.declarations)
one_first core ann (fault.Node n) fault.Shape f h i = absurd (i.1 h.1.shape)
one_first core ann (fault.Node n) (fault.Slot k) f h i = absurd (slot_clash core ann k i.2 h.1.written)
one_first core ann (fault.Node n) (fault.Node k) f h i = ap fault.Node (two_nodes core ann n k h i)
one_first core ann (fault.Node n) (fault.Unset m) f h i = absurd (node_unset core ann n m h i)
one_first core ann (fault.Unset m) (fault.Decl d) f h i = absurd (faulted core d f i h.4.declarations)
one_first core ann (fault.Unset m) fault.Shape f h i = absurd (i.1 h.4.shape)
one_first core ann (fault.Unset m) (fault.Slot k) f h i = absurd (slot_clash core ann k i.2 h.4.written)
one_first core ann (fault.Unset m) (fault.Node n) f h i = absurd (node_unset core ann n m i h)
one_first core ann (fault.Unset m) (fault.Unset k) f h i = ap fault.Unset (two_unset core ann m k f h i)

-- ---- what a result means

abbrev pub Answer : Type 0
Answer = Result (Unit {0}) JudgeFault

not_err : (f : JudgeFault) (v : Unit {0}) → ◌≡◌ {A = Answer} (Ok v) (Err f) → ⊥
not_err f v e = cc e

same_err : (f g : JudgeFault) → ◌≡◌ {A = Answer} (Err f) (Err g) → f ≡ g
same_err f g e = cc e

pub exact_ok : (core : CoreData) (ann : Ann) (r : Answer) → Formed core → MatchResult r (λ v. Valid core ann) (λ f. spec.FirstAnnotationFault core ann f) → IsOk r ↔ Valid core ann
exact_ok core ann (Ok v) f h = (λ o. h, λ o. refl)
exact_ok core ann (Err g) f h = (λ o. absurd (let bad : false ≡ true = o in cc), λ o. absurd (not_valid core ann g f h o))

pub exact_fault : (core : CoreData) (ann : Ann) (r : Answer) → Formed core → MatchResult r (λ v. Valid core ann) (λ f. spec.FirstAnnotationFault core ann f) → (f : JudgeFault) → (r ≡ Err f) ↔ spec.FirstAnnotationFault core ann f
exact_fault core ann (Ok v) f h g = (λ e. absurd (not_err g v e), λ i. absurd (not_valid core ann g f i h))
exact_fault core ann (Err j) f h g = (λ e. subst (spec.FirstAnnotationFault core ann) (same_err j g e) h, λ i. ap Err (one_first core ann j g f h i))
