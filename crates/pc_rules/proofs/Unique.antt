-- At most one annotation of a core is valid.
use Rattle.std.specs.Prelude.{◌≡◌, ◌⊎◌, ℕ, zero, suc, ◌+◌, ◌-◌, ◌<◌, ◌≤◌, false, List, [], ◌∷◌, map, length, Option, Some, None, slice_get, refl}
use Rattle.std.proofs.{Common.{inl, inr, ap, sym, subst, ◌∙◌, arith}, lemmas.Option.{same_Some, none-some}}
use Rattle.pc_base.proofs.{Gets.{get_below, get_within, map_get}, Ranges.run_around, Options.{bind_some, kept}}
use Rattle.pc_core.specs.{declared.declarations.Method.Method, declared.nodes.Node.Node, declared.nodes.NodeKind.NodeKind, CoreData.{CoreData, node_end}, Methods.BodyFits, Nodes.HasArity, Formed.Formed}
use Rattle.pc_core.specs.declared.nodes.NodeKind.TheVariants as node
use Rattle.pc_base.specs.Lists.{Follow, Each}
use Rattle.pc_ann.specs.{declared.annotation.Note.Note, declared.annotation.Ann.Ann}
use Rattle.pc_masks.specs.Masks.{same}
use Rattle.pc_rules.specs.{Parts.{starts, through}, Rules.{said_by, IsSaid}, Checks.Checks, Trees.{Tree, Forest, tree, empty, more, body_tree, forest_below}, Statements.OneValid}
use Rattle.pc_valid.specs.Words.{Masks, before, masks_after}
use Rattle.pc_rules.proofs.{Derivations.to_valid, Bridge.{meets_threads, meets_if_threads}, Threads.{Threaded, then_way, else_way, is_branch, starts_so, first_starts, next_starts}, Agreeing.{body_starts, body_method, body_says_at, Agree, known_alike, node_step}}

lists_equal : {T : Type 0} → (xs ys : List T) → length xs ≡ length ys → ((k : ℕ) → k < length xs → slice_get xs k ≡ slice_get ys k) → xs ≡ ys
lists_equal [] [] e h = refl
lists_equal [] (y ∷ ys) e h = absurd (omega (arith, e))
lists_equal (x ∷ xs) [] e h = absurd (omega (arith, e))
lists_equal (x ∷ xs) (y ∷ ys) e h =
    let l : 0 < length (x ∷ xs) = omega arith in
    let n : length xs ≡ length ys = omega (arith, e) in
    ap (λ z. z ∷ xs) (same_Some x y (h 0 l)) ∙ ap (λ zs. y ∷ zs) (lists_equal xs ys n (λ k m. h (suc k) (omega (arith, m))))

-- ---- two valid annotations

meets_at : (core : CoreData) (ann : Ann) (n : ℕ) (x : Node) (t : Note) → Checks core ann → slice_get core.nodes n ≡ Some x → slice_get ann.notes n ≡ Some t → IsSaid core ann x t
meets_at core ann n x t v g h =
    let r = v.rules n (get_below core.nodes n x g) in
    subst (λ (y : Node). IsSaid core ann y t) (same_Some r.0 x (sym r.2 ∙ g)) (subst (λ (s : Note). IsSaid core ann r.0 s) (same_Some r.1 t (sym r.3 ∙ h)) r.4)

branches : (k : NodeKind) → (is_branch k ≡ false) ⊎ (k ≡ node.If)
branches node.If = inr refl
branches k = inl refl

row_end : (core : CoreData) (low high : ℕ) → Forest core low high [] → low ≡ high
row_end core low high empty = refl

-- A child that is evaluated has a note.
note_of_child : (ann : Ann) (cs : List ℕ) (m : Masks) (i c : ℕ) → Threaded ann cs m → slice_get cs i ≡ Some c → (t : Note) × (slice_get ann.notes c ≡ Some t)
note_of_child ann [] m i c h e = absurd (none-some c e)
note_of_child ann (d ∷ cs) m zero c h e = let a = bind_some (slice_get ann.notes d) _ h.0 h.1 in (a.0, ap (slice_get ann.notes) (sym (same_Some d c e)) ∙ a.1)
note_of_child ann (d ∷ cs) m (suc i) c h e =
    let a = bind_some (slice_get ann.notes d) _ h.0 h.1 in
    let k = kept (starts a.0 m) (through ann cs (masks_after a.0)) h.0 a.2 in
    note_of_child ann cs (masks_after a.0) i c (h.0, k.1) e

module _ (core : CoreData) (a b : Ann) (formed : Formed core) (va : Checks core a) (vb : Checks core b) where
  -- If a node starts from the same masks in both, the annotations agree inside it and at it.
  mutual
    same_tree : (low n : ℕ) (s t : Note) → Tree core low n → Agree core a b low → slice_get a.notes n ≡ Some s → slice_get b.notes n ≡ Some t → before s ≡ before t → Agree core a b (n + 1)
    same_tree low n s t (tree x g f) same ga gb m =
        let ma = meets_at core a n x s va g ga in
        let mb = meets_at core b n x t vb g gb in
        let inside : Agree core a b n = elim (branches x.kind) [
          | inl plain ↦ let arity = (formed.nodes n x g).arity in
              let ta = meets_threads core a x s plain arity ma in
              let tb = meets_threads core b x t plain arity mb in
              same_forest low n x.children (before s) ta.0 tb.0 f same ta.1 (subst (λ k. through b x.children k ≡ Some tb.0) (sym m) tb.1)
          | inr if ↦ let wa = meets_if_threads core a x s if ma in
              let wb = meets_if_threads core b x t if mb in
              same_branches low n x.children (before s) f (subst (λ k. HasArity k (length x.children)) if (formed.nodes n x g).arity) same wa.0 wa.1 (subst (Threaded b (then_way x.children)) (sym m) wb.0) (subst (Threaded b (else_way x.children)) (sym m) wb.1)
        ] in
        node_step core a b formed va.written vb.written n x s t g (forest_below core low n x.children f) inside ga gb ma mb m

    -- Both branches of an `if` follow the condition.
    same_branches : (low high : ℕ) (cs : List ℕ) (m : Masks) → Forest core low high cs → length cs ≡ 3 → Agree core a b low → Threaded a (then_way cs) m → Threaded a (else_way cs) m → Threaded b (then_way cs) m → Threaded b (else_way cs) m → Agree core a b high
    same_branches low high [] m f count same ta ea tb eb = absurd (omega (arith, count))
    same_branches low high (c ∷ []) m f count same ta ea tb eb = absurd (omega (arith, count))
    same_branches low high (c ∷ d ∷ []) m f count same ta ea tb eb = absurd (omega (arith, count))
    same_branches low high (c ∷ d ∷ e ∷ []) m (more t f) count same ta ea tb eb =
        let ca = note_of_child a (c ∷ d ∷ []) m 0 c ta refl in
        let cb = note_of_child b (c ∷ d ∷ []) m 0 c tb refl in
        let one = same_tree low c ca.0 cb.0 t same ca.1 cb.1 (first_starts a (c ∷ d ∷ []) m c ca.0 ta refl ca.1 ∙ sym (first_starts b (c ∷ d ∷ []) m c cb.0 tb refl cb.1)) in
        let eq : ca.0 ≡ cb.0 = same_Some ca.0 cb.0 (sym ca.1 ∙ one.notes c (omega arith) ∙ cb.1) in
        let da = note_of_child a (c ∷ d ∷ []) m 1 d ta refl in
        let db = note_of_child b (c ∷ d ∷ []) m 1 d tb refl in
        let fa = note_of_child a (c ∷ e ∷ []) m 1 e ea refl in
        let fb = note_of_child b (c ∷ e ∷ []) m 1 e eb refl in
        same_two (c + 1) high d e da.0 db.0 fa.0 fb.0 f one da.1 db.1 fa.1 fb.1
        (next_starts a (c ∷ d ∷ []) m 0 c d ca.0 da.0 ta refl refl ca.1 da.1 ∙ ap masks_after eq ∙ sym (next_starts b (c ∷ d ∷ []) m 0 c d cb.0 db.0 tb refl refl cb.1 db.1))
        (next_starts a (c ∷ e ∷ []) m 0 c e ca.0 fa.0 ea refl refl ca.1 fa.1 ∙ ap masks_after eq ∙ sym (next_starts b (c ∷ e ∷ []) m 0 c e cb.0 fb.0 eb refl refl cb.1 fb.1))
    same_branches low high (c ∷ d ∷ e ∷ g ∷ cs) m f count same ta ea tb eb = absurd (omega (arith, count))

    same_two : (low high d e : ℕ) (da db fa fb : Note) → Forest core low high (d ∷ e ∷ []) → Agree core a b low → slice_get a.notes d ≡ Some da → slice_get b.notes d ≡ Some db → slice_get a.notes e ≡ Some fa → slice_get b.notes e ≡ Some fb → before da ≡ before db → before fa ≡ before fb → Agree core a b high
    same_two low high d e da db fa fb (more t f) same gda gdb gfa gfb second third = same_last (d + 1) high e fa fb f (same_tree low d da db t same gda gdb second) gfa gfb third

    same_last : (low high e : ℕ) (fa fb : Note) → Forest core low high (e ∷ []) → Agree core a b low → slice_get a.notes e ≡ Some fa → slice_get b.notes e ≡ Some fb → before fa ≡ before fb → Agree core a b high
    same_last low high e fa fb (more t f) same gfa gfb third = subst (Agree core a b) (row_end core (e + 1) high f) (same_tree low e fa fb t same gfa gfb third)

    same_forest : (low high : ℕ) (cs : List ℕ) (m ma mb : Masks) → Forest core low high cs → Agree core a b low → through a cs m ≡ Some ma → through b cs m ≡ Some mb → Agree core a b high
    same_forest low high [] m ma mb empty same ea eb = same
    same_forest low high (c ∷ cs) m ma mb (more t f) same ea eb =
        let pa = bind_some (slice_get a.notes c) _ ma ea in
        let pb = bind_some (slice_get b.notes c) _ mb eb in
        let ka = kept (starts pa.0 m) (through a cs (masks_after pa.0)) ma pa.2 in
        let kb = kept (starts pb.0 m) (through b cs (masks_after pb.0)) mb pb.2 in
        let first_one = same_tree low c pa.0 pb.0 t same pa.1 pb.1 (starts_so pa.0 m ka.0 ∙ sym (starts_so pb.0 m kb.0)) in
        let eq : pa.0 ≡ pb.0 = same_Some pa.0 pb.0 (sym pa.1 ∙ first_one.notes c (omega arith) ∙ pb.1) in
        same_forest (c + 1) high cs (masks_after pa.0) ma mb f first_one ka.1 (subst (λ (z : Note). through b cs (masks_after z) ≡ Some mb) (sym eq) kb.1)

  -- A method's body starts from the same masks in both.
  body_alike : (m : ℕ) (x : Method) (body : ℕ) → slice_get core.methods m ≡ Some x → x.body ≡ Some body → BodyFits core m x body → Agree core a b x.first_node → Agree core a b (body + 1)
  body_alike m x body g is fit same =
      let l = get_below core.nodes body fit.root fit.is_root in
      let na = va.notes in
      let nb = vb.notes in
      let s = get_within a.notes body (omega (arith, l, na)) in
      let t = get_within b.notes body (omega (arith, l, nb)) in
      let ma = meets_at core a body fit.root s.0 va fit.is_root s.1 in
      let mb = meets_at core b body fit.root t.0 vb fit.is_root t.1 in
      let own : fit.root.method ≡ m = body_method core m x body is fit in
      let at : slice_get core.methods fit.root.method ≡ Some x = ap (slice_get core.methods) own ∙ g in
      let ea = body_says_at core a fit.root s.0 fit.is_body ma in
      let eb = body_says_at core b fit.root t.0 fit.is_body mb in
      same_tree x.first_node body s.0 t.0 (body_tree core m x body fit) same s.1 t.1 (body_starts core a fit.root (before s.0) (said_by s.0) x ea at ∙ sym (body_starts core b fit.root (before t.0) (said_by t.0) x eb at))

  method_alike : (m : ℕ) (x : Method) (o : Option ℕ) → slice_get core.methods m ≡ Some x → x.body ≡ o → Agree core a b x.first_node → Agree core a b (x.first_node + (node_end x.first_node o - x.first_node))
  method_alike m x None g e same = let k : x.first_node ≡ x.first_node + (x.first_node - x.first_node) = omega arith in subst (Agree core a b) k same
  method_alike m x (Some body) g e same =
      let fit = (formed.methods m x g).body body e in
      let from = fit.from in
      let k : body + 1 ≡ x.first_node + (body + 1 - x.first_node) = omega (arith, from) in
      subst (Agree core a b) k (body_alike m x body g e fit same)

  methods_alike : (j at last : ℕ) (ms : List Method) → Follow at (map (λ x. (x.first_node, node_end x.first_node x.body - x.first_node)) ms) last → Each (λ i x. slice_get core.methods (j + i) ≡ Some x) ms → Agree core a b at → Agree core a b last
  methods_alike j at last [] p h same = subst (Agree core a b) p same
  methods_alike j at last (x ∷ xs) p h same =
      let z : j + 0 ≡ j = omega arith in
      let here = ap (slice_get core.methods) (sym z) ∙ h 0 x refl in
      let there : Agree core a b (at + (node_end x.first_node x.body - x.first_node)) = subst (λ k. Agree core a b (k + (node_end x.first_node x.body - x.first_node))) p.0 (method_alike j x x.body here refl (subst (Agree core a b) (sym p.0) same)) in
      methods_alike (j + 1) (at + (node_end x.first_node x.body - x.first_node)) last xs p.1 (λ i y g. let k : j + 1 + i ≡ j + suc i = omega arith in ap (slice_get core.methods) k ∙ h (suc i) y g) there

  nothing_yet : Agree core a b 0
  nothing_yet = record { notes = λ k l. absurd (omega (arith, l)); slots = λ d y s f l g e m. absurd (omega (arith, l)) }

  all_alike : Agree core a b (length core.nodes)
  all_alike = methods_alike 0 0 (length core.nodes) core.methods formed.nodes_follow (λ i x g. let z : 0 + i ≡ i = omega arith in ap (slice_get core.methods) z ∙ g) nothing_yet

  slot_alike : (k : ℕ) → k < length core.slots → slice_get a.slots k ≡ slice_get b.slots k
  slot_alike k l =
      let r = run_around 0 _ (length core.slots) k formed.slots_follow (omega arith) l in
      let q = map_get (λ (x : Method). (x.first_slot, x.slots)) core.methods r.0 r.1 r.2 in
      let f = q.0 in
      let low : f.first_slot ≤ k = subst (λ (z : ℕ × ℕ). z.0 ≤ k) (sym q.2) r.3 in
      let high : k < f.first_slot + f.slots = subst (λ (z : ℕ × ℕ). k < z.0 + z.1) (sym q.2) r.4 in
      let at : f.first_slot + (k - f.first_slot) ≡ k = omega (arith, low) in
      let y = get_within core.slots k l in
      let known = known_alike core a b formed va.written vb.written (length core.nodes) r.0 (k - f.first_slot) f y.0 all_alike q.1 (ap (slice_get core.slots) at ∙ y.1) (omega (arith, low, high)) (λ fit. get_below core.nodes fit.define fit.definition fit.is_definition) in
      subst (λ z. slice_get a.slots z ≡ slice_get b.slots z) at known

  annotations_equal : a ≡ b
  annotations_equal =
      let slots = lists_equal a.slots b.slots (va.slots ∙ sym vb.slots) (λ k l. let n = va.slots in slot_alike k (omega (arith, l, n))) in
      let notes = lists_equal a.notes b.notes (va.notes ∙ sym vb.notes) (λ k l. let n = va.notes in all_alike.notes k (omega (arith, l, n))) in
      ap (λ z. record { slots = z; notes = a.notes }) slots ∙ ap (λ z. record { slots = b.slots; notes = z }) notes

pub one_valid : OneValid
one_valid core a b f va vb = annotations_equal core a b f (to_valid core f a va) (to_valid core f b vb)
