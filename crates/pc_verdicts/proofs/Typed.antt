-- A core has a valid annotation, or one of the faults that show that it has none.
use Rattle.std.proofs.{Common.{◌≡◌, ◌<◌, ◌≤◌, ◌+◌, ℕ, zero, suc, [], Bool, true, false, length, Option, Some, None, Ok, Err, inl, inr, refl, sym, ap, ◌∙◌, subst, arith}, lemmas.Bool.false≢true, lemmas.List.length-map, lemmas.Option.none-some}
use Rattle.std.specs.Prelude.{codes, slice_get}
use Rattle.pc_ann.specs.{declared.annotation.Ann.Ann, declared.annotation.Note.Note}
use Rattle.pc_check.proofs.{Filling.{low_at, low_behind, low_next, tree_at}, Parents.known, Stopping.{leaves, stops}, Walking.{note_meets, noted, reaches_infer, walked_infer, walked_noted, walked_whole, with_notes}}
use Rattle.pc_check.specs.{Faults.{InferenceLeavesUnset, StopsAt}, Inference.{first_note, first_types, inferred_slot, leaves_unset, rules_for, with_inferred, written_type}, Walked.Walked}
use Rattle.pc_core.specs.{CoreData.CoreData, Formed.Formed, declared.declarations.Method.Method, declared.nodes.Node.Node, declared.nodes.NodeKind.NodeKind, declared.nodes.Slot.Slot}
use Rattle.pc_core.specs.declared.nodes.NodeKind.TheVariants as node
use Rattle.pc_deriv.proofs.Reached.{all_app}
use Rattle.pc_deriv.specs.Text.{NoteFits}
use Rattle.pc_base.proofs.Gets.{get_below, get_map, get_within}
use Rattle.pc_base.specs.Lists.{Text}
use Rattle.pc_masks.specs.Masks.{first}
use Rattle.pc_rules.proofs.{Agreeing.body_method, Homes.children_of}
use Rattle.pc_rules.specs.{Control.start_set, Rules.IsSaid, Trees.{Forest, Tree, body_tree, tree_le}, Checks.{StartsFrom, is_else}, Checks.StartsFrom.{body, else_branch, first_child, next_child}}
use Rattle.pc_valid.specs.{Words.{Masks, masks_after, before}, Valid.Valid}
use Rattle.pc_sub.specs.{Declarations.DeclOk, DeclarationFaults.first_fault, Faults.none_iff_fits, FirstFault.IsFirstDeclarationFault, declared.faults.DeclFault.DeclFault}
use Rattle.pc_sub.proofs.FirstFaults.{first_is}
use Rattle.pc_refusals.specs.{Source.Typing, Source.Typing.{declared, no_rule, typed, unset}, FaultLines.{decl_offset, decl_text}, Verdict.refused, declared.source.Source.Source}
use Rattle.pc_refusal_lines.specs.Lines.{offset_line}
use Rattle.pc_verdicts.proofs.{Fitting.{BothFit, NotesFit, SlotsAreSmall, first_slots, inferred_slots, noted_fits, reaches_fit}, Stages.HasEnd}

-- What the checker finds.
pub data Checked (core : CoreData) : Type 0 where
  is_valid : (ann : Ann) → Valid core ann → SlotsAreSmall ann.slots → NotesFit ann.notes → Checked core
  fails : (f : DeclFault) → IsFirstDeclarationFault core f → Checked core
  stopped : (ann : Ann) (n : ℕ) (m : Masks) → StopsAt core n m ann → Checked core
  left : (ann : Ann) (m : ℕ) → InferenceLeavesUnset core m ann → Checked core

-- ---- the masks that reach a node

-- Whatever notes there are before the first number, some masks reach the node.
abbrev Comes : CoreData → (low node : ℕ) → Type 0
Comes core low n = (ann : Ann) → low ≤ length ann.notes → (m : Masks) × StartsFrom core ann n m

-- What is in the node begins at such a number.
abbrev Placed : CoreData → ℕ → Type 0
Placed core n = (low : ℕ) × Tree core low n × Comes core low n

else_is : (k : NodeKind) (i : ℕ) → is_else k i ≡ true → (k ≡ node.If) × (i ≡ 2)
else_is node.If (suc (suc zero)) e = (refl, refl)
else_is k i e = absurd (false≢true e)

module _ (core : CoreData) (p c : ℕ) (x : Node) (g : slice_get core.nodes p ≡ Some x) (own : Placed core p) where
  trees : Forest core own.0 p x.children
  trees = children_of core own.0 p x g own.1

  first_placed : slice_get x.children 0 ≡ Some c → Placed core c
  first_placed e = (own.0, tree_at core own.0 p 0 c x.children trees e, λ ann l. let r = own.2 ann l in (r.0, first_child p x g e r.1))

  later_placed : (i : ℕ) → slice_get x.children (suc i) ≡ Some c → (b : Bool) → is_else x.kind (suc i) ≡ b → Placed core c
  later_placed i e true b =
      let within = get_below x.children (suc i) c e in
      let d = get_within x.children 0 (omega (arith, within)) in
      let k = else_is x.kind (suc i) b in
      let low = low_behind core own.0 p i c d.0 x.children trees d.1 e in (
        low_at own.0 x.children (suc i),
        tree_at core own.0 p (suc i) c x.children trees e,
        λ ann l.
            let t = get_within ann.notes d.0 (omega (arith, low, l)) in
            (masks_after t.0, else_branch p d.0 x t.0 g k.0 (ap (slice_get x.children) (sym k.1) ∙ e) d.1 t.1),
      )
  later_placed i e false b =
      let within = get_below x.children (suc i) c e in
      let d = get_within x.children i (omega (arith, within)) in
      let low = low_next own.0 i d.0 x.children d.1 in (
        low_at own.0 x.children (suc i),
        tree_at core own.0 p (suc i) c x.children trees e,
        λ ann l. let t = get_within ann.notes d.0 (omega (arith, low, l)) in (masks_after t.0, next_child p d.0 i x t.0 g b e d.1 t.1),
      )

  child_placed : (i : ℕ) → slice_get x.children i ≡ Some c → Placed core c
  child_placed zero e = first_placed e
  child_placed (suc i) e = later_placed i e (is_else x.kind (suc i)) refl

module _ (core : CoreData) (formed : Formed core) where
  body_placed : (n m : ℕ) (f : Method) → slice_get core.methods m ≡ Some f → f.body ≡ Some n → Placed core n
  body_placed n m f is b =
      let fit = (formed.methods m f is).body n b in
      let at : slice_get core.methods fit.root.method ≡ Some f = ap (slice_get core.methods) (body_method core m f n b fit) ∙ is in
      (f.first_node, body_tree core m f n fit, λ ann l. ((first (1 + length f.params), start_set core f), body fit.root f fit.is_root fit.is_body at))

  placed : (rest n : ℕ) → length core.nodes ≤ n + rest → n < length core.nodes → Placed core n
  placed zero n far l = absurd (omega (arith, far, l))
  placed (suc rest) n far l = elim (known core n formed l) [
    | inl b ↦ body_placed n b.0 b.1 b.2 b.3
    | inr p ↦ let up = p.1 in
        let own = placed rest p.0 (omega (arith, far, up)) (get_below core.nodes p.0 p.2.0 p.2.1) in
        child_placed core p.0 n p.2.0 p.2.1 own p.2.2.0 p.2.2.1
  ]

  reaching : (ann : Ann) (n : ℕ) → length ann.notes ≡ n → n < length core.nodes → (m : Masks) × StartsFrom core ann n m
  reaching ann n count l =
      let p = placed (length core.nodes) n (omega arith) l in
      let low = tree_le core p.0 n p.1 in
      p.2 ann (omega (arith, low, count))

  -- ---- from node to node

  module _ (ok : DeclOk core) where
    module _ (n : ℕ) (a b : Ann) (x : Node) (m : Masks) (g : slice_get core.nodes n ≡ Some x) (w : Walked core a n) (is : b ≡ with_inferred core a x)
        (h : Walked core b n × StartsFrom core b n m) (small : SlotsAreSmall b.slots) (fit : NotesFit b.notes) (masks : BothFit m)
        (on : (c : Ann) → Walked core c (n + 1) → SlotsAreSmall c.slots → NotesFit c.notes → Checked core) where
      by_fields : (t : Note) → IsSaid core b x t → StartsFrom core b n (before t) → NoteFits t → (c : Bool) → leaves_unset core x t ≡ c → Checked core
      by_fields t meets r own true e = left (noted b t) x.method (leaves core b n x t formed ok g h.0 meets r e)
      by_fields t meets r own false e = on (noted b t) (walked_noted core b n x t formed g h.0 meets r e) small (all_app NoteFits b.notes t fit own)

      by_note : (o : Option Note) → first_note core b x m (rules_for x.kind) ≡ o → Checked core
      by_note None e = stopped b n m (stops core a b n x m formed ok w g is h e)
      by_note (Some t) e =
          let k = note_meets core b x m (rules_for x.kind) t e in
          by_fields t k.1 (subst (StartsFrom core b n) (sym k.0) h.1) (noted_fits core formed b n x m g small fit masks (rules_for x.kind) t e) (leaves_unset core x t) refl

    walk : (rest n : ℕ) (a : Ann) → n + rest ≡ length core.nodes → Walked core a n → SlotsAreSmall a.slots → NotesFit a.notes → Checked core
    walk zero n a count w small fit = is_valid a (walked_whole core a n formed ok (omega (arith, count)) w) small fit
    walk (suc rest) n a count w small fit =
        let x = get_within core.nodes n (omega (arith, count)) in
        let b = with_inferred core a x.0 in
        let r = reaching a n w.notes (omega (arith, count)) in
        let h : Walked core b n × StartsFrom core b n r.0 = (walked_infer core a n x.0 formed x.1 w, reaches_infer core a n x.0 r.0 r.1) in
        let kept : NotesFit b.notes = subst NotesFit (sym (with_notes a (inferred_slot core a x.0 x.0.kind))) fit in
        by_note n a b x.0 r.0 x.1 w refl h (inferred_slots core formed a x.0 small fit) kept (reaches_fit core formed b n r.0 kept h.1) (λ c. walk rest (n + 1) c (omega (arith, count)))
        (first_note core b x.0 r.0 (rules_for x.0.kind)) refl

  -- ---- before the first node

  first_walked : Walked core (record { slots = first_types core; notes = [] }) 0
  first_walked = record {
    slots = length-map core.slots (λ (y : Slot). written_type y.written);
    written = λ k y e ty is. get_map (λ (z : Slot). written_type z.written) core.slots k y e ∙ ap (λ o. Some (written_type o)) is;
    notes = refl;
    before = λ k l. absurd (omega (arith, l));
    sets = λ m f g within c b u be ue. absurd (none-some u ue);
  }

  by_declarations : (o : Option DeclFault) → first_fault core ≡ o → Checked core
  by_declarations (Some f) e = fails f (first_is core formed f e)
  by_declarations None e =
      walk ((none_iff_fits core formed).0 e) (length core.nodes) 0 (record { slots = first_types core; notes = [] }) (omega arith) first_walked (first_slots core formed) tt

  pub checked : Checked core
  checked = by_declarations (first_fault core) refl

-- ---- the stage

pub typing_ends : (name : Text) (source : Source) → Checked source.core → HasEnd (Typing name source)
typing_ends name source (is_valid ann v small fit) = (Ok (record { source = source; ann = ann }), typed ann v)
typing_ends name source (fails f e) = (Err (refused 1 (offset_line name source.bytes (decl_offset source.core f) (decl_text f))), declared f e)
typing_ends name source (stopped ann n m h) = (Err (refused 1 (offset_line name source.bytes h.0.at.span.start (codes "no rule"))), no_rule ann n h.0)
typing_ends name source (left ann m h) = (Err (refused 1 (offset_line name source.bytes h.0.method.span.start (codes "field not set"))), unset ann m h.0)
