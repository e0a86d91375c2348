-- A valid annotation agrees with a partial one up to a node.
use Rattle.std.specs.Prelude.{◌≡◌, ◌⊎◌, ℕ, zero, suc, ◌+◌, ◌<◌, ◌≤◌, false, List, [], ◌∷◌, length, Option, Some, None, slice_get, slice_set, refl, Result, IfOk, IfErr}
use Rattle.std.proofs.{Common.{Ok, Err, inl, inr, ap, sym, subst, ◌∙◌, arith}, lemmas.List.length-set, lemmas.Option.{same_Some, none-some}, lemmas.Bool.Decides.eqb_tells}
use Rattle.pc_base.proofs.{Gets.{get_below, get_within, get_set_same, get_set_other}, Bools.false_true}
use Rattle.pc_caps.specs.declared.capability.Cap.{Cap}
use Rattle.pc_core.specs.{declared.declarations.Method.Method, declared.nodes.Slot.Slot, declared.nodes.Node.Node, declared.nodes.NodeKind.NodeKind, CoreData.CoreData, Nodes.{HasArity, NamesFit}, Formed.Formed}
use Rattle.pc_core.specs.declared.nodes.NodeKind.TheVariants as node
use Rattle.pc_ann.specs.{declared.annotation.Note.Note, declared.annotation.Ann.Ann}
use Rattle.pc_valid.specs.{Words.{Masks, before, masks_after}, Valid.{KeepsWritten, Valid}, NoRule.DifferAt}
use Rattle.pc_rules.specs.{Rules.{says, said_by, IsSaid}, Checks.{Checks, StartsFrom, GoesWell, SaysNothing, StaysUnset, is_else}, Checks.StartsFrom.{body, first_child, else_branch, next_child}, Trees.{Tree, Forest, tree, empty, more, tree_le}, Statements.OneValid}
use Rattle.pc_rules.proofs.{Homes.{own_tree, children_of, children_before}, Bridge.{meets_threads, meets_if_threads}, Threads.{then_way, else_way, is_branch, first_starts, next_starts}, Alike.{looked_at, LooksAlike, slot_same, says_same}, Agreeing.{Agree, body_says_at, body_starts, node_step, this_alike, use_alike}, Derivations.{to_valid, to_no_rule, to_unset}}
use Rattle.pc_sub.proofs.FirstFaults.{faulted}
use Rattle.pc_check.specs.{declared.fault.CheckFault.CheckFault, Faults.{RefusesCore, AnswersAnnotation}, Laws.{NoneWithoutRule, NoneWithUnset, NoneWithFault}}
use Rattle.pc_check.specs.declared.fault.CheckFault.TheVariants as fault_of
use Rattle.pc_check.proofs.Filling.{low_at, tree_at, low_next, low_behind}

-- ---- a tree begins at one place

first_tree : (core : CoreData) (low high c : ℕ) (cs : List ℕ) → Forest core low high (c ∷ cs) → Tree core low c
first_tree core low high c cs (more t f) = t

row_end : (core : CoreData) (low high : ℕ) → Forest core low high [] → low ≡ high
row_end core low high empty = refl

mutual
  pub tree_one : (core : CoreData) (low from n : ℕ) → Tree core low n → Tree core from n → low ≡ from
  tree_one core low from n (tree x g f) t = forest_one core low from n x.children f (children_of core from n x g t)

  forest_one : (core : CoreData) (low from high : ℕ) (cs : List ℕ) → Forest core low high cs → Forest core from high cs → low ≡ from
  forest_one core low from high [] empty f = sym (row_end core from low f)
  forest_one core low from high (c ∷ cs) (more t f) h = tree_one core low from c t (first_tree core from high c cs h)

-- ---- the masks that reach a node depend on the notes before its tree

pub reaches_same : (core : CoreData) (a b : Ann) (n : ℕ) (m : Masks) (low : ℕ) → Formed core → Tree core low n → ((c : ℕ) → c < low → slice_get a.notes c ≡ slice_get b.notes c) → StartsFrom core a n m → StartsFrom core b n m
reaches_same core a b n m low formed t h (body x f g k e) = body x f g k e
reaches_same core a b n m low formed t h (first_child p x g e r) =
    let tp = own_tree core p formed (get_below core.nodes p x g) in
    let eq = tree_one core tp.0 low n (tree_at core tp.0 p 0 n x.children (children_of core tp.0 p x g tp.1) e) t in
    first_child p x g e (reaches_same core a b p m low formed (subst (λ k. Tree core k p) eq tp.1) h r)
reaches_same core a b n m low formed t h (else_branch p c x u g k e f i) =
    let tp = own_tree core p formed (get_below core.nodes p x g) in
    let row = children_of core tp.0 p x g tp.1 in
    let eq = tree_one core (low_at tp.0 x.children 2) low n (tree_at core tp.0 p 2 n x.children row e) t in
    let l = low_behind core tp.0 p 1 n c x.children row f e in
    else_branch p c x u g k e f (sym (h c (subst (λ k. c < k) eq l)) ∙ i)
reaches_same core a b n m low formed t h (next_child p c i x u g k e f j) =
    let tp = own_tree core p formed (get_below core.nodes p x g) in
    let row = children_of core tp.0 p x g tp.1 in
    let eq = tree_one core (low_at tp.0 x.children (suc i)) low n (tree_at core tp.0 p (suc i) n x.children row e) t in
    let at = low_next tp.0 i c x.children f in
    next_child p c i x u g k e f (sym (h c (omega (arith, eq, at))) ∙ j)

pub nothing_yet : (core : CoreData) (a b : Ann) → Agree core a b 0
nothing_yet core a b = record { notes = λ k l. absurd (omega (arith, l)); slots = λ d y s f l g e m. absurd (omega (arith, l)) }

-- ---- in a valid annotation each node starts from the masks that reach it

valid_meets : (core : CoreData) (b : Ann) (n : ℕ) (x : Node) (t : Note) → Checks core b → slice_get core.nodes n ≡ Some x → slice_get b.notes n ≡ Some t → IsSaid core b x t
valid_meets core b n x t v g h =
    let r = v.rules n (get_below core.nodes n x g) in
    subst (λ (y : Node). IsSaid core b y t) (same_Some r.0 x (sym r.2 ∙ g)) (subst (λ (s : Note). IsSaid core b r.0 s) (same_Some r.1 t (sym r.3 ∙ h)) r.4)

branches : (k : NodeKind) → (is_branch k ≡ false) ⊎ (k ≡ node.If)
branches node.If = inr refl
branches k = inl refl

then_first : (cs : List ℕ) (c : ℕ) → length cs ≡ 3 → slice_get cs 0 ≡ Some c → slice_get (then_way cs) 0 ≡ Some c
then_first [] c n e = absurd (omega (arith, n))
then_first (a ∷ []) c n e = absurd (omega (arith, n))
then_first (a ∷ b ∷ []) c n e = absurd (omega (arith, n))
then_first (a ∷ b ∷ d ∷ []) c n e = e
then_first (a ∷ b ∷ d ∷ f ∷ cs) c n e = absurd (omega (arith, n))

else_both : (cs : List ℕ) (c d : ℕ) → length cs ≡ 3 → slice_get cs 0 ≡ Some c → slice_get cs 2 ≡ Some d → (slice_get (else_way cs) 0 ≡ Some c) × (slice_get (else_way cs) 1 ≡ Some d)
else_both [] c d n e f = absurd (omega (arith, n))
else_both (a ∷ []) c d n e f = absurd (omega (arith, n))
else_both (a ∷ b ∷ []) c d n e f = absurd (omega (arith, n))
else_both (a ∷ b ∷ g ∷ []) c d n e f = (e, f)
else_both (a ∷ b ∷ g ∷ h ∷ cs) c d n e f = absurd (omega (arith, n))

then_list : (cs : List ℕ) (c d : ℕ) → length cs ≡ 3 → slice_get cs 0 ≡ Some c → slice_get cs 1 ≡ Some d → (slice_get (then_way cs) 0 ≡ Some c) × (slice_get (then_way cs) 1 ≡ Some d)
then_list [] c d n e f = absurd (omega (arith, n))
then_list (a ∷ []) c d n e f = absurd (omega (arith, n))
then_list (a ∷ b ∷ []) c d n e f = absurd (omega (arith, n))
then_list (a ∷ b ∷ g ∷ []) c d n e f = (e, f)
then_list (a ∷ b ∷ g ∷ h ∷ cs) c d n e f = absurd (omega (arith, n))

then_both : (cs : List ℕ) (i c d : ℕ) → length cs ≡ 3 → is_else node.If (suc i) ≡ false → slice_get cs i ≡ Some c → slice_get cs (suc i) ≡ Some d → (slice_get (then_way cs) 0 ≡ Some c) × (slice_get (then_way cs) 1 ≡ Some d)
then_both cs zero c d n k e f = then_list cs c d n e f
then_both cs (suc zero) c d n k e f = absurd (false_true (sym k))
then_both cs (suc (suc i)) c d n k e f = let l = get_below cs (suc (suc (suc i))) d f in absurd (omega (arith, l, n))

module _ (core : CoreData) (b : Ann) (formed : Formed core) (v : Checks core b) where
  note_at : (n : ℕ) (x : Node) → slice_get core.nodes n ≡ Some x → (t : Note) × (slice_get b.notes n ≡ Some t)
  note_at n x g = let l = get_below core.nodes n x g in let count = v.notes in get_within b.notes n (omega (arith, l, count))

  arity : (p : ℕ) (x : Node) → slice_get core.nodes p ≡ Some x → x.kind ≡ node.If → length x.children ≡ 3
  arity p x g k = subst (λ j. HasArity j (length x.children)) k (formed.nodes p x g).arity

  first_of : (p n : ℕ) (x : Node) (s t : Note) → slice_get core.nodes p ≡ Some x → slice_get b.notes p ≡ Some s → slice_get x.children 0 ≡ Some n → slice_get b.notes n ≡ Some t → before t ≡ before s
  first_of p n x s t g hs e ht =
      let m = valid_meets core b p x s v g hs in
      elim (branches x.kind) [
        | inl plain ↦ first_starts b x.children (before s) n t (meets_threads core b x s plain (formed.nodes p x g).arity m) e ht
        | inr if ↦ first_starts b (then_way x.children) (before s) n t (meets_if_threads core b x s if m).0 (then_first x.children n (arity p x g if) e) ht
      ]

  else_of : (p c n : ℕ) (x : Node) (t u : Note) → slice_get core.nodes p ≡ Some x → x.kind ≡ node.If → slice_get x.children 2 ≡ Some n → slice_get x.children 0 ≡ Some c → slice_get b.notes c ≡ Some t → slice_get b.notes n ≡ Some u → before u ≡ masks_after t
  else_of p c n x t u g k e f ht hu =
      let s = note_at p x g in
      let m = valid_meets core b p x s.0 v g s.1 in
      let way = else_both x.children c n (arity p x g k) f e in
      next_starts b (else_way x.children) (before s.0) 0 c n t u (meets_if_threads core b x s.0 k m).1 way.0 way.1 ht hu

  next_of : (p c n i : ℕ) (x : Node) (t u : Note) → slice_get core.nodes p ≡ Some x → is_else x.kind (suc i) ≡ false → slice_get x.children (suc i) ≡ Some n → slice_get x.children i ≡ Some c → slice_get b.notes c ≡ Some t → slice_get b.notes n ≡ Some u → before u ≡ masks_after t
  next_of p c n i x t u g k e f ht hu =
      let s = note_at p x g in
      let m = valid_meets core b p x s.0 v g s.1 in
      elim (branches x.kind) [
        | inl plain ↦ next_starts b x.children (before s.0) i c n t u (meets_threads core b x s.0 plain (formed.nodes p x g).arity m) f e ht hu
        | inr if ↦ let way = then_both x.children i c n (arity p x g if) (subst (λ j. is_else j (suc i) ≡ false) if k) f e in
            next_starts b (then_way x.children) (before s.0) 0 c n t u (meets_if_threads core b x s.0 if m).0 way.0 way.1 ht hu
      ]

  valid_reached : (n : ℕ) (m : Masks) (t : Note) → slice_get b.notes n ≡ Some t → StartsFrom core b n m → before t ≡ m
  valid_reached n m t h (body x f g k e) = body_starts core b x (before t) (said_by t) f (body_says_at core b x t k (valid_meets core b n x t v g h)) e
  valid_reached n m t h (first_child p x g e r) = let s = note_at p x g in first_of p n x s.0 t g s.1 e h ∙ valid_reached p m s.0 s.1 r
  valid_reached n m t h (else_branch p c x u g k e f i) = else_of p c n x u t g k e f i h
  valid_reached n m t h (next_child p c i x u g k e f j) = next_of p c n i x u t g k e f j h

  -- ---- up to a node

  module _ (a : Ann) (wa : KeepsWritten core a) where
    -- The masks that reach node n in one reach it in the other.
    starts_there : (n : ℕ) (x : Node) (m : Masks) (t : Note) → Agree core a b n → slice_get core.nodes n ≡ Some x → StartsFrom core a n m → slice_get b.notes n ≡ Some t → before t ≡ m
    starts_there n x m t same g r h =
        let own = own_tree core n formed (get_below core.nodes n x g) in
        let low = tree_le core own.0 n own.1 in
        valid_reached n m t h (reaches_same core a b n m own.0 formed own.1 (λ c l. same.notes c (omega (arith, l, low))) r)

    agree_up : (n : ℕ) → n ≤ length core.nodes → ((k : ℕ) → k < n → GoesWell core a k) → Agree core a b n
    agree_up zero l h = nothing_yet core a b
    agree_up (suc n) l h =
        let same = agree_up n (omega (arith, l)) (λ k m. h k (omega (arith, m))) in
        let r = h n (omega arith) in
        let t = note_at n r.0 r.2 in
        let e : n + 1 ≡ suc n = omega arith in
        subst (Agree core a b) e
        (node_step core a b formed wa v.written n r.0 r.1 t.0 r.2 (children_before core n r.0 formed r.2) same r.3 t.1 r.4 (valid_meets core b n r.0 t.0 v r.2 t.1) (sym (starts_there n r.0 (before r.1) t.0 same r.2 r.5 t.1)))

-- ---- at a node without a rule

module _ (core : CoreData) (b : Ann) (formed : Formed core) (wb : KeepsWritten core b) (sb : length b.slots ≡ length core.slots) (a : Ann) (wa : KeepsWritten core a) where
  -- Types of the slots, which differ at most in what follows from node x, so that x depends on the same.
  abbrev pub Chosen : Node → Type 0
  Chosen x = (slots : List (ℕ × Cap)) × DifferAt core x a.slots slots × ((s : ℕ) (f : Method) → looked_at x.kind ≡ Some s → slice_get core.methods x.method ≡ Some f → slice_get slots (f.first_slot + s) ≡ slice_get b.slots (f.first_slot + s))

  unchanged : (x : Node) → DifferAt core x a.slots a.slots
  unchanged x = (refl, λ k h. refl)

  chosen_define : (n : ℕ) (x : Node) (s : ℕ) (f : Method) (y : Slot) (w : Option (ℕ × Cap)) → length a.slots ≡ length core.slots → x.kind ≡ node.Define s → slice_get core.methods x.method ≡ Some f → slice_get core.slots (f.first_slot + s) ≡ Some y → y.written ≡ w → (slots : List (ℕ × Cap)) × DifferAt core x a.slots slots × (slice_get slots (f.first_slot + s) ≡ slice_get b.slots (f.first_slot + s))
  chosen_define n x s f y (Some ty) count k gf gy w = (a.slots, unchanged x, wa (f.first_slot + s) y gy ty w ∙ sym (wb (f.first_slot + s) y gy ty w))
  chosen_define n x s f y None count k gf gy w =
      let l = get_below core.slots (f.first_slot + s) y gy in
      let other = sb in
      let ty = get_within b.slots (f.first_slot + s) (omega (arith, l, other)) in (
        slice_set a.slots (f.first_slot + s) ty.0,
        (
          length-set a.slots (f.first_slot + s) ty.0,
          λ j h. elim (eqb_tells j (f.first_slot + s)) [
            | inl same ↦ absurd (h (s, f, y, k, gf, same.1, ap (slice_get core.slots) same.1 ∙ gy, w))
            | inr apart ↦ get_set_other a.slots (f.first_slot + s) ty.0 j apart.1
          ],
        ),
        get_set_same a.slots (f.first_slot + s) ty.0 (omega (arith, l, count)) ∙ sym ty.1,
      )

  pub chosen : (n : ℕ) (x : Node) (k : NodeKind) → length a.slots ≡ length core.slots → Agree core a b n → slice_get core.nodes n ≡ Some x → x.kind ≡ k → Chosen x
  chosen n x (node.Define s) count same g e =
      let names = subst (NamesFit core x.method) e (formed.nodes n x g).names in
      let c = chosen_define n x s names.0 names.1 names.1.written count e names.2 names.4 refl in (
        c.0,
        c.1,
        λ i f look gf. let is : i ≡ s = same_Some i s (sym look ∙ ap looked_at e) in
            let own : names.0 ≡ f = same_Some names.0 f (sym names.2 ∙ gf) in
            subst (λ (z : Method). slice_get c.0 (z.first_slot + i) ≡ slice_get b.slots (z.first_slot + i)) own (subst (λ j. slice_get c.0 (names.0.first_slot + j) ≡ slice_get b.slots (names.0.first_slot + j)) (sym is) c.2),
      )
  chosen n x node.This count same g e = (a.slots, unchanged x, λ i f look gf. let is : 0 ≡ i = same_Some 0 i (sym (ap looked_at e) ∙ look) in subst (λ j. slice_get a.slots (f.first_slot + j) ≡ slice_get b.slots (f.first_slot + j)) is (this_alike core a b formed wa wb n x g f gf))
  chosen n x (node.Local s) count same g e = (a.slots, unchanged x, λ i f look gf. let is : s ≡ i = same_Some s i (sym (ap looked_at e) ∙ look) in subst (λ j. slice_get a.slots (f.first_slot + j) ≡ slice_get b.slots (f.first_slot + j)) is (use_alike core a b formed wa wb n x (node.Local s) s same g e refl (subst (NamesFit core x.method) e (formed.nodes n x g).names) f gf))
  chosen n x (node.Consume s) count same g e = (a.slots, unchanged x, λ i f look gf. let is : s ≡ i = same_Some s i (sym (ap looked_at e) ∙ look) in subst (λ j. slice_get a.slots (f.first_slot + j) ≡ slice_get b.slots (f.first_slot + j)) is (use_alike core a b formed wa wb n x (node.Consume s) s same g e refl (subst (NamesFit core x.method) e (formed.nodes n x g).names) f gf))
  chosen n x (node.Assign s) count same g e = (a.slots, unchanged x, λ i f look gf. let is : s ≡ i = same_Some s i (sym (ap looked_at e) ∙ look) in subst (λ j. slice_get a.slots (f.first_slot + j) ≡ slice_get b.slots (f.first_slot + j)) is (use_alike core a b formed wa wb n x (node.Assign s) s same g e refl (subst (NamesFit core x.method) e (formed.nodes n x g).names) f gf))
  chosen n x k count same g e = (a.slots, unchanged x, λ i f look gf. absurd (none-some i (sym (ap looked_at e) ∙ look)))

  -- The other's note satisfies its rule with them.
  pub says_there : (n : ℕ) (x : Node) (m : Masks) (t : Note) → Agree core a b n → slice_get core.nodes n ≡ Some x → IsSaid core b x t → before t ≡ m → (c : Chosen x) → says core (record { slots = c.0; notes = a.notes }) x m t.rule x.kind ≡ Some (said_by t)
  says_there n x m t same g meets start c =
      let looks : LooksAlike core (record { slots = c.0; notes = a.notes }) b x.method x.kind = λ s look. slot_same (record { slots = c.0; notes = a.notes }) b core x.method s (λ f gf. c.2 s f look gf) in
      says_same core (record { slots = c.0; notes = a.notes }) b x (λ i d h. same.notes d (children_before core n x formed g i d h)) t.rule x.kind m looks ∙ subst (λ k. says core b x k t.rule x.kind ≡ Some (said_by t)) start meets

-- ---- no annotation is valid

nothing_said : (core : CoreData) (a : Ann) (n : ℕ) → Formed core → SaysNothing core a n → (d : (b : Ann) × Checks core b) → ⊥
nothing_said core a n formed w d =
    let l = get_below core.nodes n w.at w.is_at in
    let same = agree_up core d.0 formed d.1 a w.written n (omega (arith, l)) w.before in
    let t = note_at core d.0 formed d.1 n w.at w.is_at in
    let start = starts_there core d.0 formed d.1 a w.written n w.at w.masks t.0 same w.is_at w.reaches t.1 in
    let c = chosen core d.0 formed d.1.written d.1.slots a w.written n w.at w.at.kind w.slots same w.is_at refl in
    none-some _ (sym (w.none t.0.rule c.0 c.1) ∙ says_there core d.0 formed d.1.written d.1.slots a w.written n w.at w.masks t.0 same w.is_at (valid_meets core d.0 n w.at t.0 d.1 w.is_at t.1) start c)

pub none_without_rule : NoneWithoutRule
none_without_rule core a n formed w d = nothing_said core a n formed (to_no_rule core formed a n w) (d.0, to_valid core formed d.0 d.1)

nothing_left : (core : CoreData) (a : Ann) (m : ℕ) → Formed core → StaysUnset core a m → (d : (b : Ann) × Checks core b) → ⊥
nothing_left core a m formed w d =
    let fit = (formed.methods m w.method w.is_method).body w.body w.is_body in
    let l = get_below core.nodes w.body fit.root fit.is_root in
    let same = agree_up core d.0 formed d.1 a w.written (w.body + 1) (omega (arith, l)) (λ k h. w.before k (omega (arith, h))) in
    let there : slice_get d.0.notes w.body ≡ Some w.note = sym (same.notes w.body (omega arith)) ∙ w.is_note in
    false_true (sym w.lacks ∙ d.1.sets m w.method w.is_method w.constructor w.body w.note w.is_body there)

pub none_with_unset : NoneWithUnset
none_with_unset core a m formed w d = nothing_left core a m formed (to_unset core formed a m w) (d.0, to_valid core formed d.0 d.1)

pub none_with_fault : NoneWithFault
none_with_fault core fault formed e d = faulted core fault formed e d.1.declarations

-- What is answered if an annotation is valid.
pub one_answer : (core : CoreData) (fault : CheckFault) (ann : Ann) → Formed core → Valid core ann → RefusesCore core fault → fault ≡ fault_of.Memory
one_answer core (fault_of.Decl f) ann formed v h = absurd (none_with_fault core f formed h (ann, v))
one_answer core (fault_of.NoRule n l s so_far) ann formed v h = absurd (none_without_rule core so_far n formed h.0 (ann, v))
one_answer core (fault_of.Unset m so_far) ann formed v h = absurd (none_with_unset core so_far m formed h.0 (ann, v))
one_answer core fault_of.Memory ann formed v h = refl

pub exact : (core : CoreData) (result : Result Ann CheckFault) (ann : Ann) → Formed core → OneValid → IfOk result (Valid core) → IfErr result (RefusesCore core) → Valid core ann → AnswersAnnotation result (Ok ann)
exact core (Ok answer) ann formed one ok err v = inl (ap Ok (one core answer ann formed ok v))
exact core (Err fault) ann formed one ok err v = inr (ap Err (one_answer core fault ann formed v err))
