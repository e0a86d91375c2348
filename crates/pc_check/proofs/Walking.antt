-- One more node.
use Rattle.std.specs.Prelude.{◌≡◌, ◌⊎◌, ℕ, ◌+◌, ◌<◌, ◌≤◌, true, false, not, ◌&&◌, List, [], ◌∷◌, ◌++◌, length, Option, Some, None, slice_get, slice_set, refl}
use Rattle.std.proofs.{Common.{inl, inr, ap, sym, subst, ◌∙◌, arith}, lemmas.List.{length-set, length-append}, lemmas.Option.{same_Some, none-some}, lemmas.Bool.{cases_lt, not-false}, lemmas.Bool.Decides.eqb_tells}
use Rattle.pc_base.proofs.Gets.{get_below, get_within, get_front, get_behind, get_set_other}
use Rattle.pc_caps.specs.declared.capability.Cap.{Cap}
use Rattle.pc_core.specs.{declared.declarations.Method.Method, declared.nodes.Slot.Slot, declared.nodes.Node.Node, declared.nodes.NodeKind.NodeKind, CoreData.CoreData, Formed.Formed}
use Rattle.pc_core.specs.declared.nodes.NodeKind.TheVariants as node
use Rattle.pc_base.specs.Lists.{Each}
use Rattle.pc_ann.specs.{declared.annotation.Note.Note, declared.annotation.Ann.Ann, declared.annotation.Rule.Rule}
use Rattle.pc_sub.specs.Declarations.{DeclOk}
use Rattle.pc_rules.specs.{declared.said.Said.Said, Parts.{constructs, full}, Rules.{says, IsSaid}, Checks.{FillsFields, StartsFrom, GoesWell}, Checks.StartsFrom.{body, first_child, else_branch, next_child}, Trees.tree_le}
use Rattle.pc_valid.specs.{Words.{Masks, before}, Valid.Valid}
use Rattle.pc_rules.proofs.{Derivations.valid_to, Alike.{LooksAlike, SameNotes, slot_same, says_same}, Agreeing.body_method, Homes.children_before}
use Rattle.pc_check.specs.{declared.sources.Source.Source, Sources.{Comes, IsPlacedSource}, Inference.{inferred_slot, with_inferred_slot, with_inferred, note_of, note_or_else, first_note, is_body, lacks_field, leaves_unset}, SourceMasks.{masks_in, masks_behind, masks_from}, Walked.Walked}
use Rattle.pc_check.specs.declared.sources.Source.TheVariants as source
use Rattle.pc_check.proofs.Definitions.{inferred_inv, other_place}

-- ---- an extension keeps what was there

-- The second annotation has the notes of the first.
abbrev pub Extends : Ann → Ann → Type 0
Extends a b = (c : ℕ) (t : Note) → slice_get a.notes c ≡ Some t → slice_get b.notes c ≡ Some t

pub reaches_more : (core : CoreData) (a b : Ann) (n : ℕ) (m : Masks) → Extends a b → StartsFrom core a n m → StartsFrom core b n m
reaches_more core a b n m h (body x f g k e) = body x f g k e
reaches_more core a b n m h (first_child p x g e r) = first_child p x g e (reaches_more core a b p m h r)
reaches_more core a b n m h (else_branch p c x t g k e f i) = else_branch p c x t g k e f (h c t i)
reaches_more core a b n m h (next_child p c i x t g k e f j) = next_child p c i x t g k e f (h c t j)

-- What a node satisfies it still satisfies if its children's notes and its slot's type are the same.
pub meets_more : (core : CoreData) (a b : Ann) (k n : ℕ) → Formed core → k < n → length a.notes ≡ n → Extends a b → ((x : Node) → slice_get core.nodes k ≡ Some x → LooksAlike core a b x.method x.kind) → GoesWell core a k → GoesWell core b k
meets_more core a b k n formed l count h looks r =
    let x = r.0 in
    let t = r.1 in
    let same : SameNotes a b x.children = λ i c e. let s = children_before core k x formed r.2 i c e in let w = get_within a.notes c (omega (arith, s, l, count)) in w.1 ∙ sym (h c w.0 w.1) in
    (x, t, r.2, h k t r.3, sym (says_same core a b x same t.rule x.kind (before t) (looks x r.2)) ∙ r.4, reaches_more core a b k (before t) h r.5)

pub with_notes : (ann : Ann) (o : Option (ℕ × (ℕ × Cap))) → (with_inferred_slot ann o).notes ≡ ann.notes
with_notes ann None = refl
with_notes ann (Some i) = refl

-- ---- the slot's type

walked_slot : (core : CoreData) (ann : Ann) (n : ℕ) (x : Node) (o : Option (ℕ × (ℕ × Cap))) → Formed core → slice_get core.nodes n ≡ Some x → inferred_slot core ann x x.kind ≡ o → Walked core ann n → Walked core (with_inferred_slot ann o) n
walked_slot core ann n x None formed g e w = w
walked_slot core ann n x (Some i) formed g e w =
    let def = inferred_inv core ann x i e in
    record {
      slots = length-set ann.slots i.0 i.1 ∙ w.slots;
      written = λ k y h ty t. elim (eqb_tells k i.0) [
        | inl at ↦ let is : y ≡ def.declared = same_Some y def.declared (sym h ∙ ap (slice_get core.slots) at.1 ∙ def.is_declared) in
            absurd (none-some ty (sym def.none ∙ ap (λ (z : Slot). z.written) (sym is) ∙ t))
        | inr other ↦ get_set_other ann.slots i.0 i.1 k other.1 ∙ w.written k y h ty t
      ];
      notes = w.notes;
      before = λ k l. meets_more core ann (record { slots = slice_set ann.slots i.0 i.1; notes = ann.notes }) k n formed l w.notes (λ c t f. f)
          (λ z h s look. slot_same ann (record { slots = slice_set ann.slots i.0 i.1; notes = ann.notes }) core z.method s (λ f gf.
          sym (get_set_other ann.slots i.0 i.1 (f.first_slot + s) (other_place core ann n k x z i s f formed g def l h look gf))))
          (w.before k l);
      sets = λ m f h c b t be te. w.sets m f h c b t be te;
    }

pub walked_infer : (core : CoreData) (ann : Ann) (n : ℕ) (x : Node) → Formed core → slice_get core.nodes n ≡ Some x → Walked core ann n → Walked core (with_inferred core ann x) n
walked_infer core ann n x formed g w = walked_slot core ann n x (inferred_slot core ann x x.kind) formed g refl w

-- ---- the masks

reach_from : (core : CoreData) (ann : Ann) (low n : ℕ) (s : Source) → low ≤ n → length ann.notes ≡ n → Comes core low n s → StartsFrom core ann n (masks_from core ann s)
reach_from core ann low n (source.Start m) l count h = subst (λ o. StartsFrom core ann n (masks_in core o)) (sym h.1) (h.2 ann)
reach_from core ann low n (source.Behind d) l count h =
    let before_low = h.0 in
    let t = get_within ann.notes d (omega (arith, before_low, l, count)) in
    subst (λ o. StartsFrom core ann n (masks_behind o)) (sym t.1) (h.1 ann t.0 t.1)

pub reached : (core : CoreData) (ann : Ann) (n : ℕ) (s : Source) → length ann.notes ≡ n → IsPlacedSource core n s → StartsFrom core ann n (masks_from core ann s)
reached core ann n s count h = reach_from core ann h.0 n s (tree_le core h.0 n h.1) count h.2

reaches_slot : (core : CoreData) (ann : Ann) (n : ℕ) (m : Masks) (o : Option (ℕ × (ℕ × Cap))) → StartsFrom core ann n m → StartsFrom core (with_inferred_slot ann o) n m
reaches_slot core ann n m None r = r
reaches_slot core ann n m (Some i) r = reaches_more core ann (record { slots = slice_set ann.slots i.0 i.1; notes = ann.notes }) n m (λ c t e. e) r

pub reaches_infer : (core : CoreData) (ann : Ann) (n : ℕ) (x : Node) (m : Masks) → StartsFrom core ann n m → StartsFrom core (with_inferred core ann x) n m
reaches_infer core ann n x m r = reaches_slot core ann n m (inferred_slot core ann x x.kind) r

-- ---- the note

found_by : (r : Rule) (m : Masks) (o : Option Said) (rest : Option Note) (t : Note) → note_or_else r m o rest ≡ Some t → ((q : Said) × (o ≡ Some q) × (note_of r m q ≡ t)) ⊎ (rest ≡ Some t)
found_by r m None rest t e = inr e
found_by r m (Some q) rest t e = inl (q, refl, same_Some (note_of r m q) t e)

-- The note that is found starts from the masks and satisfies its rule.
pub note_meets : (core : CoreData) (ann : Ann) (x : Node) (m : Masks) (rs : List Rule) (t : Note) → first_note core ann x m rs ≡ Some t → (before t ≡ m) × IsSaid core ann x t
note_meets core ann x m [] t e = absurd (none-some t e)
note_meets core ann x m (r ∷ rs) t e =
    elim (found_by r m (says core ann x m r x.kind) (first_note core ann x m rs) t e) [
      | inl here ↦ subst (λ (k : Note). (before k ≡ m) × IsSaid core ann x k) here.2 (refl, here.1)
      | inr later ↦ note_meets core ann x m rs t later
    ]

-- ---- one more note

abbrev pub noted : Ann → Note → Ann
noted ann t = record { slots = ann.slots; notes = ann.notes ++ t ∷ [] }

noted_extends : (ann : Ann) (t : Note) → Extends ann (noted ann t)
noted_extends ann t c s e = get_front ann.notes (t ∷ []) c s e

pub note_here : (ann : Ann) (t : Note) (n : ℕ) → length ann.notes ≡ n → slice_get (ann.notes ++ t ∷ []) n ≡ Some t
note_here ann t n e = ap (slice_get (ann.notes ++ t ∷ [])) (sym e) ∙ get_behind ann.notes t []

-- Each node up to n satisfies its rule.
pub meets_noted : (core : CoreData) (ann : Ann) (n : ℕ) (x : Node) (t : Note) → Formed core → slice_get core.nodes n ≡ Some x → Walked core ann n → IsSaid core ann x t → StartsFrom core ann n (before t) → (k : ℕ) → k ≤ n → GoesWell core (noted ann t) k
meets_noted core ann n x t formed g w m r k l =
    elim (cases_lt k n) [
      | inl below ↦ meets_more core ann (noted ann t) k n formed below w.notes (noted_extends ann t) (λ z h s look. refl) (w.before k below)
      | inr at ↦ let is : n ≡ k = omega (arith, l, at) in
          let same : SameNotes ann (noted ann t) x.children = λ i c e. let s = children_before core n x formed g i c e in let count = w.notes in let u = get_within ann.notes c (omega (arith, s, count)) in u.1 ∙ sym (noted_extends ann t c u.0 u.1) in
          subst (GoesWell core (noted ann t)) is
          (x, t, g, note_here ann t n w.notes, sym (says_same core ann (noted ann t) x same t.rule x.kind (before t) (λ s look. refl)) ∙ m, reaches_more core ann (noted ann t) n (before t) (noted_extends ann t) r)
    ]

-- The notes before n are as before.
note_before : (ann : Ann) (t u : Note) (b n : ℕ) → length ann.notes ≡ n → b < n → slice_get (ann.notes ++ t ∷ []) b ≡ Some u → slice_get ann.notes b ≡ Some u
note_before ann t u b n count l e = let v = get_within ann.notes b (omega (arith, count, l)) in v.1 ∙ sym (noted_extends ann t b v.0 v.1) ∙ e

-- Constructors whose bodies come before n set all fields.
pub sets_noted : (core : CoreData) (ann : Ann) (n : ℕ) (t : Note) → Walked core ann n → Each (λ m f. ((b : ℕ) → f.body ≡ Some b → b < n) → FillsFields core (noted ann t) f) core.methods
sets_noted core ann n t w m f g h c b u be ue = w.sets m f g h c b u be (note_before ann t u b n w.notes (h b be) ue)

-- A body that leaves no field unset.
sets_all : (core : CoreData) (x : Node) (f : Method) (t : Note) → x.kind ≡ node.Body → slice_get core.methods x.method ≡ Some f → constructs f.kind ≡ true → leaves_unset core x t ≡ false → full core f.entity t.set_after ≡ true
sets_all core x f t k g c e =
    let a : lacks_field core (slice_get core.methods x.method) t.set_after ≡ false = sym (ap (λ (j : NodeKind). is_body j && lacks_field core (slice_get core.methods x.method) t.set_after) k) ∙ e in
    let b : constructs f.kind && not (full core f.entity t.set_after) ≡ false = sym (ap (λ o. lacks_field core o t.set_after) g) ∙ a in
    not-false (full core f.entity t.set_after) (sym (ap (λ d. d && not (full core f.entity t.set_after)) c) ∙ b)

pub walked_noted : (core : CoreData) (ann : Ann) (n : ℕ) (x : Node) (t : Note) → Formed core → slice_get core.nodes n ≡ Some x → Walked core ann n → IsSaid core ann x t → StartsFrom core ann n (before t) → leaves_unset core x t ≡ false → Walked core (noted ann t) (n + 1)
walked_noted core ann n x t formed g w m r e = record {
  slots = w.slots;
  written = w.written;
  notes = let count = w.notes in omega (arith, count, length-append ann.notes (t ∷ []));
  before = λ k l. meets_noted core ann n x t formed g w m r k (omega (arith, l));
  sets = λ i f h within c b u be ue. elim (cases_lt b n) [
    | inl below ↦ sets_noted core ann n t w i f h (λ d de. let same = same_Some b d (sym be ∙ de) in omega (arith, same, below)) c b u be ue
    | inr at ↦ let l = within b be in
        let is : b ≡ n = omega (arith, l, at) in
        let fit = (formed.methods i f h).body b be in
        let root : fit.root ≡ x = same_Some fit.root x (sym fit.is_root ∙ ap (slice_get core.nodes) is ∙ g) in
        let own : x.method ≡ i = ap (λ (z : Node). z.method) (sym root) ∙ body_method core i f b be fit in
        let note : t ≡ u = same_Some t u (sym (note_here ann t n w.notes) ∙ ap (slice_get (ann.notes ++ t ∷ [])) (sym is) ∙ ue) in
        subst (λ (z : Note). full core f.entity z.set_after ≡ true) note (sets_all core x f t (ap (λ (z : Node). z.kind) (sym root) ∙ fit.is_body) (ap (slice_get core.methods) own ∙ h) c e)
  ];
}

-- ---- after the last node

pub walked_whole : (core : CoreData) (ann : Ann) (n : ℕ) → Formed core → DeclOk core → n ≡ length core.nodes → Walked core ann n → Valid core ann
walked_whole core ann n formed ok e w = valid_to core formed ann (record {
  declarations = ok;
  slots = w.slots;
  notes = w.notes ∙ e;
  written = w.written;
  rules = λ k l. let r = w.before k (omega (arith, l, e)) in (r.0, r.1, r.2, r.3, r.4);
  sets = λ m f g. w.sets m f g (λ b be. let fit = (formed.methods m f g).body b be in let l = get_below core.nodes b fit.root fit.is_root in omega (arith, l, e));
})
