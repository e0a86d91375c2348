-- Eval at nodes that look at what they evaluate, and at nodes whose children are all evaluated first, in regions.
use Rattle.std.specs.Prelude.{◌≡◌, ◌⊎◌, ℕ, ◌<◌, Bool, true, false, cond, List, [], ◌∷◌, ◌++◌, length, Option, Some, None, slice_get, refl}
use Rattle.std.proofs.{Common.{inl, inr, ap, sym, subst, ◌∙◌, append_assoc, arith}, lemmas.Option.{same_Some, none-some}, lemmas.Bool.and_parts}
use Rattle.pc_base.proofs.{Gets.get_below, Bools.false_true}
use Rattle.pc_caps.specs.{Computed.is_below, declared.capability.Form.Form}
use Rattle.pc_caps.specs.declared.capability.Form.TheVariants as form
use Rattle.pc_core.specs.{declared.declarations.Method.Method, declared.declarations.MethodKind.MethodKind, declared.nodes.Node.Node, declared.nodes.NodeKind.NodeKind, CoreData.CoreData, Nodes.inner_depth}
use Rattle.pc_core.specs.declared.declarations.MethodKind.TheVariants as method
use Rattle.pc_core.specs.declared.nodes.NodeKind.TheVariants as nodes
use Rattle.pc_base.specs.Lists.{Each}
use Rattle.pc_masks.specs.{declared.mask.Mask.Mask, Masks.meet, MaskLaws.{meet_bits, within_bits}}
use Rattle.pc_ann.specs.{declared.annotation.Note.Note, declared.annotation.Ann.Ann}
use Rattle.pc_sub.specs.Computed.{is_sub}
use Rattle.pc_semantics.specs.{declared.frames.Frame.Frame, declared.frames.Task.Task, Configurations.{Around, Goes, doing}, Children.evaluations, Evaluation.{AllThen, by_way, first_then, item_tasks}}
use Rattle.pc_semantics.specs.declared.frames.Task.TheVariants as task
use Rattle.pc_rules.specs.{Parts.{lower, through, type_of, last_child}, Control.{joined, gives_result, result_ok}}
use Rattle.pc_valid.specs.Words.{Ty, Masks, before, masks_after}
use Rattle.pc_core.proofs.Homes.{home, home_method}
use Rattle.pc_rules.proofs.Homes.{home_body, children_before}
use Rattle.pc_types.proofs.{Tasks.{Within, is_lazy}, Needs.Needs, Places.is_under, Basic.{within_same, within_trans}, Begin.BodyRule, EvalChildren.{within_is, items_less, First, first_of_them, type_is}, Inverse.{LazyRule, IfRule, WhileRule, SeqRule, read_is}}
use Rattle.pc_regions.proofs.{World.World, StackForms.{Entry, Shallow, Below, Ascent, Joins, Decides, ascend, MayAscend, top_of, Climbs, SlotsShallow, entry_of, piled, uses_top, EvalRises, BodyRises, FinishRises, TasksRise, LiveShallow}, MoveFits.{RegionMoveOk, Situated}, Rising.evaluates, ChildForms.{IsAt, at_depth, child_rises, whole_rises, evaluations_rise, items_rise}}

-- ---- types

pub same_below : (f : Form) → is_below f f ≡ true
same_below form.IsoE = refl
same_below form.TrnE = refl
same_below form.Iso = refl
same_below form.Trn = refl
same_below form.Ref = refl
same_below form.Val = refl
same_below form.Box = refl
same_below form.Tag = refl

pub below_same : (core : CoreData) (t : Ty) → Below core t t
below_same core t = (inl refl, same_below t.1)

module _ (core : CoreData) (ann : Ann) (needs : Needs core ann) where
  pub below_is : (a b : Ty) → lower core a b ≡ true → Below core a b
  below_is a b e =
      let p = and_parts (is_sub core a.0 b.0) (is_below a.1 b.1) e in
      (is_under core ann needs a.0 b.0 p.0, p.1)

  -- Each branch's value may become that of both.
  left_joins : (d : ℕ) (a b : Ty) (p q : Bool) → lower core a b ≡ p → MayAscend core (Joins (cond p (Some b) (cond q (Some a) None))) (at_depth d (Some a))
  left_joins d a b true q e = (a, refl, below_is a b e)
  left_joins d a b false true e = (a, refl, below_same core a)
  left_joins d a b false false e = tt

  right_joins : (d : ℕ) (a b : Ty) (p q : Bool) → lower core b a ≡ q → MayAscend core (Joins (cond p (Some b) (cond q (Some a) None))) (at_depth d (Some b))
  right_joins d a b true q e = (b, refl, below_same core b)
  right_joins d a b false true e = (b, refl, below_is b a e)
  right_joins d a b false false e = tt

  one_joins : (d : ℕ) (a b : Option Ty) → MayAscend core (Joins (joined core a b)) (at_depth d a)
  one_joins d (Some a) (Some b) = left_joins d a b (lower core a b) (lower core b a) refl
  one_joins d None b = tt
  one_joins d (Some a) None = tt

  other_joins : (d : ℕ) (a b : Option Ty) → MayAscend core (Joins (joined core a b)) (at_depth d b)
  other_joins d (Some a) (Some b) = right_joins d a b (lower core a b) (lower core b a) refl
  other_joins d None b = tt
  other_joins d (Some a) None = tt

  -- What a function's body gives is below its result.
  gives_below : (t : Ty) (o : Option Ty) → gives_result core t o ≡ true → (v : Ty) × (o ≡ Some v) × Below core v t
  gives_below t None e = absurd (false_true e)
  gives_below t (Some v) e = (v, refl, below_is v t e)

  pub result_below : (k : MethodKind) (t : Ty) (o : Option Ty) → k ≡ method.Fun → result_ok core k t o ≡ true → (v : Ty) × (o ≡ Some v) × Below core v t
  result_below k t o is e = gives_below t o (subst (λ (j : MethodKind). result_ok core j t o ≡ true) is e)

-- ---- Eval

calm : (cs : List ℕ) (us : List Task) → (0 < length cs) ⊎ (uses_top us ≡ false) → uses_top (evaluations cs ++ us) ≡ false
calm [] us (inl l) = absurd (omega (arith, l))
calm [] us (inr e) = e
calm (c ∷ cs) us k = refl

-- A child is not a body: the body of a method is its last node.
no_body : (core : CoreData) (ann : Ann) (needs : Needs core ann) (n c : ℕ) (x y : Node) (i : ℕ) → slice_get core.nodes n ≡ Some x → slice_get core.nodes c ≡ Some y → y.method ≡ x.method → slice_get x.children i ≡ Some c → y.kind ≡ nodes.Body → ⊥
no_body core ann needs n c x y i at child own h is =
    let a = home core c needs.formed (get_below core.nodes c y child) in
    let b = home core n needs.formed (get_below core.nodes n x at) in
    let last : c ≡ a.body = home_body core c y a child is in
    let number : a.number ≡ b.number = sym (home_method core c y a child) ∙ own ∙ home_method core n x b at in
    let method : a.method ≡ b.method = same_Some a.method b.method (sym a.is_method ∙ ap (slice_get core.methods) number ∙ b.is_method) in
    let body : a.body ≡ b.body = same_Some a.body b.body (sym a.is_body ∙ ap (λ (z : Method). z.body) method ∙ b.is_body) in
    let to = b.to in
    let before = children_before core n x needs.formed at i c h in
    omega (arith, last, body, to, before)

module _ (core : CoreData) (ann : Ann) (needs : Needs core ann) (flat : LiveShallow core ann) (around : Around) (f : Frame) (fs : List Frame) (w : World) (n : ℕ) (s : Situated core ann w around f (task.Eval n ∷ f.tasks) fs) where
  abbrev d : ℕ
  d = s.active.depth

  abbrev g : List Entry
  g = s.active.holds.entries

  -- The children of a node of this kind and depth.
  pub children_of : (x : Node) (k : NodeKind) → slice_get core.nodes n ≡ Some x → x.method ≡ f.method → x.depth ≡ d → x.kind ≡ k → Each (λ i c. IsAt core f.method (inner_depth k d) c) x.children
  children_of x k at own deep is i c h =
      let y = needs.children n x at i c h in
      (y.0, y.1, y.2 ∙ own, (needs.formed.nodes n x at).depths i c h y.0 y.1 ∙ ap (λ (j : NodeKind). inner_depth j x.depth) is ∙ ap (inner_depth k) deep, no_body core ann needs n c x y.0 i at y.1 y.2 h)

  pub child_of : (m e : ℕ) (cs ds : List ℕ) (i c : ℕ) → cs ≡ ds → slice_get ds i ≡ Some c → Each (λ i c. IsAt core m e c) cs → IsAt core m e c
  child_of m e cs ds i c is at each = each i c (ap (λ (es : List ℕ). slice_get es i) is ∙ at)

  first_goes : (x : Node) (c : ℕ) (cs : List ℕ) (ts : List Task) → x.children ≡ c ∷ cs → EvalRises core ann f.method d s.active.holds.live g c (λ d l g. TasksRise core ann f.method (ts ++ f.tasks) d l g) → RegionMoveOk core ann w around fs (first_then f x.children ts)
  first_goes x c cs ts is k = subst (λ (ds : List ℕ). RegionMoveOk core ann w around fs (first_then f ds ts)) (sym is) (evaluates core ann around f (task.Eval n ∷ f.tasks) fs w s (task.Eval c ∷ ts ++ f.tasks) (inl k) refl)

  module _ (e : EvalRises core ann f.method d s.active.holds.live g n (λ d l g. TasksRise core ann f.method f.tasks d l g)) where
    here : (k : NodeKind) → e.node.kind ≡ k → Each (λ i c. IsAt core f.method (inner_depth k d) c) e.node.children
    here k is = children_of e.node k e.is_node e.own e.depth is

    -- The entry of the node.
    pub entry_at : (ty : Option Ty) → e.note.ty ≡ ty → at_depth d ty ≡ entry_of e.node e.note
    entry_at ty is = ap (at_depth d) (sym is) ∙ ap (λ (k : ℕ). at_depth k e.note.ty) (sym e.depth)

    -- All children, and then the task that takes their values.
    pub strict_goes : (k : NodeKind) → e.node.kind ≡ k → inner_depth k d ≡ d → (t : Task) (behind : Masks) → through ann e.node.children (before e.note) ≡ Some behind → (0 < length e.node.children) ⊎ (uses_top (t ∷ f.tasks) ≡ false)
        → ((more : Mask) → Within behind.0 more → TasksRise core ann f.method (t ∷ f.tasks) d more (piled ann d e.node.children g)) → RegionMoveOk core ann w around fs (by_way f e.node.children (AllThen t))
    strict_goes k is level t behind masks many next =
        let each : Each (λ i c. IsAt core f.method d c) e.node.children = subst (λ (j : ℕ). Each (λ i c. IsAt core f.method j c) e.node.children) level (here k is) in
        let all = evaluations_rise core ann flat f.method d e.node.children (t ∷ f.tasks) (before e.note) behind s.active.holds.live g each masks e.live s.active.shallow next in
        let ts : evaluations e.node.children ++ (t ∷ f.tasks) ≡ (evaluations e.node.children ++ t ∷ []) ++ f.tasks = sym (append_assoc (evaluations e.node.children) (t ∷ []) f.tasks) in
        evaluates core ann around f (task.Eval n ∷ f.tasks) fs w s ((evaluations e.node.children ++ t ∷ []) ++ f.tasks)
        (subst (λ (us : List Task). TasksRise core ann f.method us d s.active.holds.live g) ts all)
        (subst (λ (us : List Task). uses_top us ≡ false) ts (calm e.node.children (t ∷ f.tasks) many))

    -- What the task after the children needs.
    pub finish_rises : (does : NodeKind → Bool) (k : NodeKind) → e.node.kind ≡ k → does k ≡ true → (behind : Masks) → through ann e.node.children (before e.note) ≡ Some behind → (more : Mask) → Within behind.0 more
        → FinishRises core ann f.method d more (piled ann d e.node.children g) does n (λ d l g. TasksRise core ann f.method f.tasks d l g)
    finish_rises does k is h behind masks more w = record {
      node = e.node;
      is_node = e.is_node;
      note = e.note;
      is_note = e.is_note;
      own = e.own;
      kind = ap does is ∙ h;
      depth = e.depth;
      behind = behind;
      is_behind = masks;
      live = w;
      below = g;
      stack = refl;
      follows = e.follows;
    }

    -- A first child from the masks of the note.
    head_rises : (c : ℕ) (behind : Masks) (ts : List Task) → IsAt core f.method d c → (u : First ann c [] (before e.note) behind) → TasksRise core ann f.method ts d behind.0 (at_depth d (type_of ann c) ∷ g) → EvalRises core ann f.method d s.active.holds.live g c (λ d l g. TasksRise core ann f.method ts d l g)
    head_rises c behind ts child u next =
        let end : behind ≡ masks_after u.note = sym (same_Some (masks_after u.note) behind u.rest) in
        whole_rises core ann flat f.method d c u.note s.active.holds.live g (λ d l g. TasksRise core ann f.method ts d l g) child u.is_note
        (within_trans u.note.live_before e.note.live_before s.active.holds.live (within_is u.note.live_before e.note.live_before (ap (λ (m : Masks). m.0) u.starts)) e.live) s.active.shallow
        (subst (λ (m : Masks). TasksRise core ann f.method ts d m.0 (at_depth d (type_of ann c) ∷ g)) end next)

    -- A child of this depth from these masks, whose value becomes that of the node.
    pub tail_rises : (c : ℕ) (from behind : Masks) (l : Mask) (j : ℕ) (a : Ascent) → IsAt core f.method j c → (u : First ann c [] from behind) → Within from.0 l → Within e.follows.live behind.0 → MayAscend core a (at_depth j u.note.ty) → ascend a (at_depth j u.note.ty) ≡ entry_of e.node e.note
        → EvalRises core ann f.method j l g c (λ d l g. TasksRise core ann f.method f.tasks d l g)
    tail_rises c from behind l j a child u wl left may is =
        let o = e.follows in
        let end : behind ≡ masks_after u.note = sym (same_Some (masks_after u.note) behind u.rest) in
        child_rises core ann flat f.method j c u.note l g (λ d l g. TasksRise core ann f.method f.tasks d l g) child u.is_note
        (within_trans u.note.live_before from.0 l (within_is u.note.live_before from.0 (ap (λ (m : Masks). m.0) u.starts)) wl)
        o.live (a ∷ o.way) (within_trans o.live behind.0 u.note.live_after left (within_is behind.0 u.note.live_after (ap (λ (m : Masks). m.0) end)))
        (may, subst (Climbs core o.way) (sym is) o.climbs) (subst (λ (x : Entry). Shallow g (top_of o.way x).depth) (sym is) o.shallow)
        (subst (λ (x : Entry). SlotsShallow core f.method o.live (top_of o.way x).depth) (sym is) o.slots)
        (subst (λ (x : Entry). TasksRise core ann f.method f.tasks (top_of o.way x).depth o.live (top_of o.way x ∷ g)) (sym is) o.next)

    -- ---- `and`, `or`

    pub lazy_goes : (k : NodeKind) → e.node.kind ≡ k → inner_depth k d ≡ d → LazyRule core ann e.node e.note → is_lazy e.node.kind ≡ true → RegionMoveOk core ann w around fs (first_then f e.node.children (task.Test n ∷ []))
    lazy_goes k is level q lazy =
        let each : Each (λ i c. IsAt core f.method d c) e.node.children = subst (λ (j : ℕ). Each (λ i c. IsAt core f.method j c) e.node.children) level (here k is) in
        let a = first_of_them ann q.left [] (before e.note) q.behind_left q.is_behind_left in
        let b = first_of_them ann q.right [] q.behind_left q.behind q.is_behind in
        let right_is : b.note.ty ≡ Some q.right_type = sym (type_is ann q.right b.note b.is_note) ∙ q.is_right in
        let live : Within e.note.live_after (meet q.behind_left.0 q.behind.0) = within_is e.note.live_after (meet q.behind_left.0 q.behind.0) q.says.live in
        let test : TasksRise core ann f.method (task.Test n ∷ f.tasks) d q.behind_left.0 (at_depth d (type_of ann q.left) ∷ g) = record {
          node = e.node;
          is_node = e.is_node;
          kind = lazy;
          note = e.note;
          is_note = e.is_note;
          ty = q.says.ty;
          depth = e.depth;
          left = q.left;
          right = q.right;
          children = q.children;
          top = at_depth d (type_of ann q.left);
          below = g;
          stack = refl;
          live = λ i h. ((meet_bits q.behind_left.0 q.behind.0 i).0 (live i h)).0;
          decided = e.follows;
          undecided = tail_rises q.right q.behind_left q.behind q.behind_left.0 d Decides (child_of f.method d e.node.children (q.left ∷ q.right ∷ []) 1 q.right q.children refl each) b (within_same q.behind_left.0)
              (λ i h. ((meet_bits q.behind_left.0 q.behind.0 i).0 (live i (e.follows.left i h))).1)
              (q.right_type, right_is, (read_is 2 q.right_type q.right_reads).0) (entry_at (Some (2, form.Val)) q.says.ty);
        } in
        first_goes e.node q.left (q.right ∷ []) (task.Test n ∷ []) q.children
        (head_rises q.left q.behind_left (task.Test n ∷ f.tasks) (child_of f.method d e.node.children (q.left ∷ q.right ∷ []) 0 q.left q.children refl each) a test)

    -- ---- `if`

    pub if_goes : e.node.kind ≡ nodes.If → IfRule core ann e.node e.note → RegionMoveOk core ann w around fs (first_then f e.node.children (task.Branch n ∷ []))
    if_goes is q =
        let u = first_of_them ann q.condition [] (before e.note) q.behind q.is_behind in
        let a = first_of_them ann q.then_branch [] q.behind q.behind_then q.is_then in
        let b = first_of_them ann q.else_branch [] q.behind q.behind_else q.is_else in
        let a_is : q.then_note.ty ≡ a.note.ty = ap (λ (t : Note). t.ty) (same_Some q.then_note a.note (sym q.is_then_note ∙ a.is_note)) in
        let b_is : q.else_note.ty ≡ b.note.ty = ap (λ (t : Note). t.ty) (same_Some q.else_note b.note (sym q.is_else_note ∙ b.is_note)) in
        let live : Within e.note.live_after (meet q.behind_then.0 q.behind_else.0) = within_is e.note.live_after (meet q.behind_then.0 q.behind_else.0) q.says.live in
        let are : List ℕ = q.condition ∷ q.then_branch ∷ q.else_branch ∷ [] in
        let both : Option Ty = joined core q.then_note.ty q.else_note.ty in
        let branch : TasksRise core ann f.method (task.Branch n ∷ f.tasks) d q.behind.0 (at_depth d (type_of ann q.condition) ∷ g) = record {
          node = e.node;
          is_node = e.is_node;
          condition = q.condition;
          then_branch = q.then_branch;
          else_branch = q.else_branch;
          children = q.children;
          top = at_depth d (type_of ann q.condition);
          below = g;
          stack = refl;
          one = tail_rises q.then_branch q.behind q.behind_then q.behind.0 d (Joins both) (child_of f.method d e.node.children are 1 q.then_branch q.children refl (here nodes.If is)) a (within_same q.behind.0)
              (λ i h. ((meet_bits q.behind_then.0 q.behind_else.0 i).0 (live i (e.follows.left i h))).0)
              (subst (λ (o : Option Ty). MayAscend core (Joins both) (at_depth d o)) a_is (one_joins core ann needs d q.then_note.ty q.else_note.ty)) (entry_at both q.says.ty);
          other = tail_rises q.else_branch q.behind q.behind_else q.behind.0 d (Joins both) (child_of f.method d e.node.children are 2 q.else_branch q.children refl (here nodes.If is)) b (within_same q.behind.0)
              (λ i h. ((meet_bits q.behind_then.0 q.behind_else.0 i).0 (live i (e.follows.left i h))).1)
              (subst (λ (o : Option Ty). MayAscend core (Joins both) (at_depth d o)) b_is (other_joins core ann needs d q.then_note.ty q.else_note.ty)) (entry_at both q.says.ty);
        } in
        first_goes e.node q.condition (q.then_branch ∷ q.else_branch ∷ []) (task.Branch n ∷ []) q.children
        (head_rises q.condition q.behind (task.Branch n ∷ f.tasks) (child_of f.method d e.node.children are 0 q.condition q.children refl (here nodes.If is)) u branch)

    -- ---- `while`

    pub while_goes : e.node.kind ≡ nodes.While → WhileRule core ann e.node e.note → RegionMoveOk core ann w around fs (first_then f e.node.children (task.Loop n ∷ []))
    while_goes is q =
        let u = first_of_them ann q.condition [] (before e.note) q.behind q.is_behind in
        let b = first_of_them ann q.body [] q.behind q.behind_body q.is_body in
        let end : q.behind_body ≡ masks_after b.note = sym (same_Some (masks_after b.note) q.behind_body b.rest) in
        let live : Within e.note.live_before b.note.live_after = within_trans e.note.live_before q.behind_body.0 b.note.live_after ((within_bits e.note.live_before q.behind_body.0).0 q.keeps_live) (within_is q.behind_body.0 b.note.live_after (ap (λ (m : Masks). m.0) end)) in
        let again : EvalRises core ann f.method d b.note.live_after g n (λ d l g. TasksRise core ann f.method f.tasks d l g) = record {
          node = e.node;
          is_node = e.is_node;
          note = e.note;
          is_note = e.is_note;
          own = e.own;
          inner = e.inner;
          depth = e.depth;
          live = live;
          follows = e.follows;
        } in
        let loop : TasksRise core ann f.method (task.Loop n ∷ f.tasks) d q.behind.0 (at_depth d (type_of ann q.condition) ∷ g) = record {
          node = e.node;
          is_node = e.is_node;
          note = e.note;
          is_note = e.is_note;
          ty = q.says.ty;
          depth = e.depth;
          condition = q.condition;
          body = q.body;
          children = q.children;
          top = at_depth d (type_of ann q.condition);
          below = g;
          stack = refl;
          live = within_is e.note.live_after q.behind.0 q.says.live;
          ended = e.follows;
          turn = whole_rises core ann flat f.method d q.body b.note q.behind.0 g (λ d l g. TasksRise core ann f.method (task.Discard ∷ task.Eval n ∷ f.tasks) d l g) (child_of f.method d e.node.children (q.condition ∷ q.body ∷ []) 1 q.body q.children refl (here nodes.While is)) b.is_note
              (within_is b.note.live_before q.behind.0 (ap (λ (m : Masks). m.0) b.starts)) s.active.shallow
              (record { calm = refl; top = at_depth d (type_of ann q.body); below = g; stack = refl; next = inl again });
        } in
        first_goes e.node q.condition (q.body ∷ []) (task.Loop n ∷ []) q.children
        (head_rises q.condition q.behind (task.Loop n ∷ f.tasks) (child_of f.method d e.node.children (q.condition ∷ q.body ∷ []) 0 q.condition q.children refl (here nodes.While is)) u loop)

    -- ---- sequences

    pub seq_goes : e.node.kind ≡ nodes.Seq → SeqRule core ann e.node e.note
        → RegionMoveOk core ann w around fs (Goes (doing f (item_tasks e.node.children)))
    seq_goes is q =
        let o = e.follows in
        let at : at_depth d q.note.ty ≡ entry_of e.node e.note = entry_at q.note.ty q.says.ty in
        let all = items_rise core ann flat f.method d e.node.children f.tasks (before e.note) q.behind s.active.holds.live g q.last q.note o.live o.way (here nodes.Seq is) q.is_behind q.is_last q.is_note e.live s.active.shallow
        (λ i h. items_less core e.node.children q.behind.0 i (within_is e.note.live_after _ q.says.live i (o.left i h)))
        (subst (Climbs core o.way) (sym at) o.climbs) (subst (λ (x : Entry). Shallow g (top_of o.way x).depth) (sym at) o.shallow)
        (subst (λ (x : Entry). SlotsShallow core f.method o.live (top_of o.way x).depth) (sym at) o.slots)
        (subst (λ (x : Entry). TasksRise core ann f.method f.tasks (top_of o.way x).depth o.live (top_of o.way x ∷ g)) (sym at) o.next)
        in
        evaluates core ann around f (task.Eval n ∷ f.tasks) fs w s (item_tasks e.node.children ++ f.tasks) all
        (calm_sequence e.node.children q.last q.is_last)
      where
        calm_sequence : (cs : List ℕ) (last : ℕ) → last_child cs ≡ Some last → uses_top (item_tasks cs ++ f.tasks) ≡ false
        calm_sequence [] last il = absurd (none-some last il)
        calm_sequence (c ∷ []) last il = refl
        calm_sequence (c ∷ x ∷ cs) last il = refl

  -- ---- bodies

  pub body_goes : (b : BodyRises core ann f.method d s.active.holds.live g n) → BodyRule core ann b.node b.note → RegionMoveOk core ann w around fs (first_then f b.node.children (task.Return ∷ []))
  body_goes b q =
      let u = first_of_them ann q.child [] (before b.note) q.behind (ap (λ (cs : List ℕ). through ann cs (before b.note)) (sym q.children) ∙ q.is_behind) in
      let root : b.node.depth ≡ d = body_depth b ∙ sym b.outer in
      let child : IsAt core f.method d q.child = child_of f.method d b.node.children (q.child ∷ []) 0 q.child q.children refl (children_of b.node nodes.Body b.is_node b.own root b.is_body) in
      let returns : TasksRise core ann f.method (task.Return ∷ f.tasks) d u.note.live_after (at_depth d (type_of ann q.child) ∷ g) = record {
        own = q.own;
        is_own = ap (slice_get core.methods) (sym b.own) ∙ q.is_own;
        outer = b.outer;
        result = λ fun.
            let r = result_below core ann needs q.own.kind q.own.result q.note.ty fun q.result in
            let ty : type_of ann q.child ≡ Some r.0 = type_is ann q.child q.note q.is_note ∙ r.1 in
            (r.0, g, ap (λ (k : ℕ). at_depth k (type_of ann q.child) ∷ g) b.outer ∙ ap (λ (o : Option Ty). at_depth 0 o ∷ g) ty, r.2);
      } in
      first_goes b.node q.child [] (task.Return ∷ []) q.children
      (whole_rises core ann flat f.method d q.child u.note s.active.holds.live g (λ d l g. TasksRise core ann f.method (task.Return ∷ f.tasks) d l g) child u.is_note
      (within_trans u.note.live_before b.note.live_before s.active.holds.live (within_is u.note.live_before b.note.live_before (ap (λ (m : Masks). m.0) u.starts)) b.live) s.active.shallow returns)
    where
      -- A body is at depth 0.
      body_depth : (b : BodyRises core ann f.method d s.active.holds.live g n) → b.node.depth ≡ 0
      body_depth b =
          let h = home core n needs.formed (get_below core.nodes n b.node b.is_node) in
          let is : n ≡ h.body = home_body core n b.node h b.is_node b.is_body in
          let at : b.node ≡ h.fits.root = same_Some b.node h.fits.root (sym b.is_node ∙ ap (slice_get core.nodes) is ∙ h.fits.is_root) in
          ap (λ (x : Node). x.depth) at ∙ h.fits.depth
