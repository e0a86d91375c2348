-- Whole bodies.
use Rattle.std.proofs.{Common.{◌≡◌, ℕ, ◌<◌, List, [], ◌∷◌, length, Option, Some, None, Bool, true, false, refl, ap, ◌∙◌, sym, arith, inl, inr}, lemmas.Option.{same_Some, none-some}}
use Rattle.std.specs.Prelude.{slice_get}
use Rattle.pc_base.specs.declared.span.Span.{Span}
use Rattle.pc_base.proofs.Gets.{get_push, get_behind}
use Rattle.pc_tree.specs.declared.written_names.Name.{Name}
use Rattle.pc_tree.specs.Tree as t
use Rattle.pc_core.specs.declared.nodes.Node.{Node}
use Rattle.pc_core.specs.declared.nodes.NodeKind.TheVariants as node
use Rattle.pc_body_spec.specs.{Bodies.{Rose, Roses, one, node_of, sequence, roses_of_items, added_none, initials_then, initial_fields, gives_none, none_last, body_around, body_with, Context, params_scope}, Parts.{initial_of, maybe_body, value_faults, written_body_faults}, Fold.{put, puts, push}, Faults.initial_faults, Shapes.AllShaped, Meanings.{EveryOf, NamesWhatIsThere}, Laws.{BodyStands, BodiesStand, AddedBodiesStand}}
use Rattle.pc_body_spec.proofs.{PostOrders.{Parts, parts, Pushed, pushed, post}, Meanings.{left_none, right_none}, Nodes.{nodes_have_children, NewAre, all_kept}}
use Rattle.pc_body_spec.proofs.Shapes as shape
use Rattle.pc_body_spec.proofs.Meanings as meaning

-- ---- the items of a body

initial_shaped : (c : Context) (n : Name) (v : Option t.Expr) (rest : Roses) → AllShaped 0 rest → AllShaped 0 (initial_of c n v rest)
initial_shaped c n None rest h = h
initial_shaped c n (Some e) rest h = ((refl, refl, (shape.expr_ok c [] 0 e, ((refl, refl, tt), tt))), h)

initials_shaped : (c : Context) (fs : List t.Field) (rest : Roses) → AllShaped 0 rest → AllShaped 0 (initials_then c fs rest)
initials_shaped c [] rest h = h
initials_shaped c (f ∷ fs) rest h = initial_shaped c f.name f.value (initials_then c fs rest) (initials_shaped c fs rest h)

none_shaped : (b : Bool) (s : Span) (rs : Roses) → AllShaped 0 rs → AllShaped 0 (none_last b s rs)
none_shaped true s rs h = shape.last_ok 0 rs (added_none s 0) h (refl, refl, tt)
none_shaped false s rs h = h

module _ (c : Context) (some_text : 0 < length c.texts) where
  initial_fine : (n : Name) (v : Option t.Expr) (rest : Roses) → value_faults c v ≡ [] → EveryOf (NamesWhatIsThere c) rest → EveryOf (NamesWhatIsThere c) (initial_of c n v rest)
  initial_fine n None rest f h = h
  initial_fine n (Some e) rest f h = ((meaning.text_ok c some_text n.text, (meaning.expr_ok c some_text [] 0 e f, ((tt, tt), tt))), h)

  initials_fine : (fs : List t.Field) (rest : Roses) → initial_faults c fs ≡ [] → EveryOf (NamesWhatIsThere c) rest
      → EveryOf (NamesWhatIsThere c) (initials_then c fs rest)
  initials_fine [] rest f h = h
  initials_fine (x ∷ fs) rest f h = initial_fine x.name x.value (initials_then c fs rest) (left_none (value_faults c x.value) (initial_faults c fs) f) (initials_fine fs rest (right_none (value_faults c x.value) (initial_faults c fs) f) h)

  none_fine : (b : Bool) (s : Span) (rs : Roses) → EveryOf (NamesWhatIsThere c) rs → EveryOf (NamesWhatIsThere c) (none_last b s rs)
  none_fine true s rs h = meaning.last_ok c some_text rs (added_none s 0) h (inl refl, tt)
  none_fine false s rs h = h

  -- ---- a body around its items

  around : (name s : Span) (items : Roses) (m n : ℕ) (before after : List Node) → AllShaped 0 items → EveryOf (NamesWhatIsThere c) items → put m (body_around name s items) before ≡ Some (n, after) → BodyStands c m n before after
  around name s items m n before after shaped fine h =
      let inside : Roses = one (sequence s 0 items) in
      let p : Parts (puts m inside before) (push m node.Body name 0) (n, after) = parts (puts m inside before) (push m node.Body name 0) (n, after) h in
      let q : Pushed m node.Body name 0 p.fst p.mid n after = pushed m node.Body name 0 p.fst p.mid n after p.second in
      let x : Node = node_of m node.Body name 0 p.fst in
      let number = q.number in
      let kept : NewAre (NamesWhatIsThere c) before p.mid =
      all_kept (NamesWhatIsThere c) m inside p.fst before p.mid (meaning.sequence_ok c some_text s 0 items fine, tt) p.first in
      record {
        stands = post m (body_around name s items) n before after h;
        root = x;
        is_root = ap (slice_get after) q.number ∙ ap (λ ns. slice_get ns (length p.mid)) q.nodes ∙ get_behind p.mid x [];
        is_body = refl;
        depth = refl;
        children = nodes_have_children m (body_around name s items) n before after (refl, refl, (shape.sequence_ok s 0 items shaped, tt)) h;
        names = λ i y from below e.
            elim (get_push p.mid x i y (ap (λ ns. slice_get ns i) (sym q.nodes) ∙ e)) [
              | inl old ↦ kept i y from old
              | inr new ↦ let at = new.0 in absurd (omega (arith, at, below, number))
            ];
      }

  body_stands : (fs : List t.Field) (x : t.Method) (b : t.Seq) (m n : ℕ) (before after : List Node) → initial_faults c (initial_fields x.word fs) ≡ [] → written_body_faults c (params_scope x.params) (Some b) ≡ [] → put m (body_with c fs x b) before ≡ Some (n, after) → BodyStands c m n before after
  body_stands fs x (t.seq is s) m n before after f g h =
      let sc = params_scope x.params in
      let last = none_last (gives_none x.word x.result) x.name.span (roses_of_items c sc 0 is) in
      around x.name.span s (initials_then c (initial_fields x.word fs) last) m n before after
      (initials_shaped c (initial_fields x.word fs) last
      (none_shaped (gives_none x.word x.result) x.name.span (roses_of_items c sc 0 is) (shape.items_ok c sc 0 is)))
      (initials_fine (initial_fields x.word fs) last f (none_fine (gives_none x.word x.result) x.name.span (roses_of_items c sc 0 is) (meaning.items_ok c some_text sc 0 is g)))
      h

  maybe_stands : (fs : List t.Field) (x : t.Method) (o : Option t.Seq) (r : Rose) (m n : ℕ) (before after : List Node) → initial_faults c (initial_fields x.word fs) ≡ [] → written_body_faults c (params_scope x.params) o ≡ [] → maybe_body c fs x o ≡ Some r → put m r before ≡ Some (n, after) → BodyStands c m n before after
  maybe_stands fs x None r m n before after f g e h = absurd (none-some r e)
  maybe_stands fs x (Some b) r m n before after f g e h = body_stands fs x b m n before after f g (ap (λ z. put m z before) (same_Some _ _ e) ∙ h)

pub bodies_stand : BodiesStand
bodies_stand c fs x r m n before after some_text f e h =
    let own = left_none (initial_faults c (initial_fields x.word fs)) (written_body_faults c (params_scope x.params) x.body) f in
    let rest = right_none (initial_faults c (initial_fields x.word fs)) (written_body_faults c (params_scope x.params) x.body) f in
    maybe_stands c some_text fs x x.body r m n before after own rest e h

pub added_bodies_stand : AddedBodiesStand
added_bodies_stand c fs name m n before after some_text f h = around c some_text name name (initials_then c fs (one (added_none name 0))) m n before after (initials_shaped c fs (one (added_none name 0)) ((refl, refl, tt), tt)) (initials_fine c some_text fs (one (added_none name 0)) f ((inl refl, tt), tt)) h
