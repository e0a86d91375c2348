-- The body of a member and its locals fit.
use Rattle.std.proofs.{Common.{◌≡◌, ℕ, suc, ◌+◌, ◌-◌, ◌<◌, ◌≤◌, List, [], ◌∷◌, ◌++◌, length, Option, Some, None, Bool, true, false, refl, sym, ap, ◌∙◌, subst, arith, inl, inr}, lemmas.Bool.cases_lt, lemmas.Option.{same_Some, none-some}, lemmas.List.{length-append, length-map, length_push, append_assoc}}
use Rattle.std.specs.Prelude.{slice_get, slice_range, ◌⊎◌}
use Rattle.pc_caps.specs.declared.capability.Cap.{Cap}
use Rattle.pc_base.proofs.Gets.{get_front, get_below, append_get, get_append}
use Rattle.pc_tree.specs.{declared.written_names.TypeRef.TypeRef, declared.file.ParamDef.ParamDef}
use Rattle.pc_tree.specs.Tree as t
use Rattle.pc_core.specs.{declared.declarations.Method.Method, declared.nodes.Node.Node, CoreData.{CoreData, node_end}, Further.own_nodes, Methods.{PostOrder, BodyFits, LocalFits, UsesSlot, is_local}}
use Rattle.pc_core.specs.declared.nodes.NodeKind.TheVariants as node
use Rattle.pc_base.specs.Lists.{Each, Has, Differ, IsIn}
use Rattle.pc_body_spec.specs.{Bodies.{Rose, Context, params_scope, params_from}, Fold.{put, local_slot, written_of}, Slots.{Local, local_kind}, Visibility.{Scoped, slots}, Meanings.NamesWhatIsThere, Laws.{WasPut, IsItem, IsDefined, IsDefinedOnce}}
use Rattle.pc_body_spec.proofs.{BodyScopes.{bodies_are_scoped, added_bodies_are_scoped}, Locals.locals_are_defined, Nodes.beyond, Once.{locals_are_defined_once, added_locals_are_defined_once}}
use Rattle.pc_members.specs.Members.{Member, written, added}
use Rattle.pc_file_spec.specs.Cores.{Owned, context_of, placed_of, member_locals, params_of, param_of, Parts, core_with}
use Rattle.pc_file_spec.proofs.{Steps.{member_faults, member_rose, Built}, Parts.At, Settings.method_at, Types.written_below, Definitions.{MemberOrder, param_count}, Orders.{one_parent, children_above}, Ranges.range_middle}

-- ---- what a member's body may refer to

abbrev pub visible_of : Member → List ℕ
visible_of (written x) = slots (params_scope x.params)
visible_of added = []

pub member_scoped : (c : Context) (e : t.Entity) (m : Member) (r : Rose) → member_rose c e m ≡ Some r → Scoped (visible_of m) r
member_scoped c e (written x) r is = bodies_are_scoped c e.fields x r is
member_scoped c e added r is = subst (Scoped []) (same_Some _ r is) (added_bodies_are_scoped c e.fields e.name.span)

params_within : (at : ℕ) (ps : List ParamDef) (s : ℕ) → IsIn s (slots (params_from at ps)) → (at ≤ s) × (s < at + length ps)
params_within at [] s h = absurd h
params_within at (p ∷ ps) s (inl e) = (omega (arith, e), omega (arith, e))
params_within at (p ∷ ps) s (inr h) = let r = params_within (suc at) ps s h in let l = r.0 in let g = r.1 in (omega (arith, l), omega (arith, g))

pub visible_within : (m : Member) (s : ℕ) → IsIn s (visible_of m) → (1 ≤ s) × (s < 1 + param_count m)
visible_within (written x) s h = params_within 1 x.params s h
visible_within added s h = absurd h

pub params_count : (c : Context) (m : Member) → length (params_of c.entities m) ≡ param_count m
params_count c (written x) = length-map x.params (param_of c.entities)
params_count c added = refl

member_once : (c : Context) (e : t.Entity) (x : Member) (r : Rose) (m n : ℕ) (before after : List Node) → c.slots ≡ placed_of e x → MemberOrder e x → member_faults c e x ≡ [] → member_rose c e x ≡ Some r → put m r before ≡ Some (n, after)
    → (i : ℕ) (l : Local) → slice_get (member_locals e x) i ≡ Some l → IsDefinedOnce (1 + param_count x + i) l.depth before after
member_once c e (written x) r m n before after same a f is h i l g = locals_are_defined_once c e.fields x r m n before after same a f is h i l g
member_once c e added r m n before after same a f is h i l g =
    let k : 1 + i ≡ 1 + 0 + i = omega arith in
    subst (λ z. IsDefinedOnce z l.depth before after) k (added_locals_are_defined_once c e.fields e.name.span m n before after same a f (subst (λ y. put m y before ≡ Some (n, after)) (sym (same_Some _ r is)) h) i l g)

-- ---- the nodes of a member

-- A member that has a body.
pub record Bodied (file : t.File) (q : Parts) (m : ℕ) (o : Owned) (a : At file q m o) : Type 0 where
  pub last : ℕ
  pub after : List Node
  pub is : a.result ≡ (Some last, after)
  pub built : Built (context_of file o) (length a.before.methods) o.owner o.member a.before.nodes last after

module _ (file : t.File) (above : List (List ℕ)) (q : Parts) (m : ℕ) (o : Owned) (a : At file q m o) (b : Bodied file q m o a) where
  abbrev core : CoreData
  core = core_with file above q

  abbrev number : ℕ
  number = length a.before.methods

  abbrev before : List Node
  before = a.before.nodes

  abbrev stands : WasPut number b.last before b.after
  stands = b.built.stands.stands

  pub all_nodes : q.nodes ≡ b.after ++ a.extends.nodes
  all_nodes = a.extends.is_nodes ∙ ap (λ (r : Option ℕ × List Node). r.1 ++ a.extends.nodes) b.is

  pub node_in : (i : ℕ) (y : Node) → slice_get b.after i ≡ Some y → slice_get q.nodes i ≡ Some y
  node_in i y h = ap (λ xs. slice_get xs i) all_nodes ∙ get_front b.after a.extends.nodes i y h

  pub own_at : (i : ℕ) (y : Node) → length before ≤ i → slice_get b.after i ≡ Some y → slice_get stands.own (i - length before) ≡ Some y
  own_at i y low h = elim (append_get before stands.own i y (ap (λ xs. slice_get xs i) (sym stands.behind) ∙ h)) [
    | inl c ↦ absurd (beyond before i y low c)
    | inr c ↦ c.1
  ]

  pub own_method : (i : ℕ) (y : Node) → length before ≤ i → slice_get b.after i ≡ Some y → y.method ≡ number
  own_method i y low h = stands.method (i - length before) y (own_at i y low h)

  -- A node of this method is one of its own.
  pub mine : (i : ℕ) (y : Node) → slice_get q.nodes i ≡ Some y → y.method ≡ number → (length before ≤ i) × (slice_get b.after i ≡ Some y)
  mine i y h e = elim (append_get b.after a.extends.nodes i y (ap (λ xs. slice_get xs i) (sym all_nodes) ∙ h)) [
    | inl c ↦ elim (append_get before stands.own i y (ap (λ xs. slice_get xs i) (sym stands.behind) ∙ c)) [
      | inl d ↦ let l = a.good.earlier i y d in absurd (omega (arith, l, e))
      | inr d ↦ (d.0, c)
    ]
    | inr c ↦
        let l = a.extends.later (i - length b.after) y c.1 in
        let more : length (a.before.methods ++ method_at file q m o a ∷ []) ≡ number + 1 = length_push a.before.methods (method_at file q m o a) in
        absurd (omega (arith, l, more, e))
  ]

  order : PostOrder (length before) stands.own [] (b.last ∷ [])
  order = stands.order []

  some_own : length before ≤ b.last
  some_own =
      let last = stands.last in
      let sum : length b.after ≡ length before + length stands.own = ap length stands.behind ∙ length-append before stands.own in
      elim (cases_lt 0 (length stands.own)) [
        | inl l ↦ omega (arith, l, last, sum)
        | inr l ↦ absurd (empty stands.own l order)
      ]
    where
      empty : (xs : List Node) → length xs ≤ 0 → PostOrder (length before) xs [] (b.last ∷ []) → ⊥
      empty [] l p = let e : 0 ≡ 1 = ap length p in absurd (omega (arith, e))
      empty (x ∷ xs) l p = absurd (omega (arith, l))

  abbrev this_method : Method
  this_method = method_at file q m o a

  pub own_nodes_are : own_nodes core this_method ≡ stands.own
  own_nodes_are =
      let first : ℕ = length before in
      let last = stands.last in
      let sum : length b.after ≡ length before + length stands.own = ap length stands.behind ∙ length-append before stands.own in
      let whole : q.nodes ≡ before ++ (stands.own ++ a.extends.nodes) = all_nodes ∙ ap (λ xs. xs ++ a.extends.nodes) stands.behind ∙ append_assoc before stands.own a.extends.nodes in
      let end : b.last + 1 ≡ length before + length stands.own = omega (arith, last, sum) in
      ap (λ (r : Option ℕ × List Node). slice_range q.nodes first (node_end first r.0)) b.is ∙ ap (λ xs. slice_range xs first (b.last + 1)) whole ∙ range_middle before stands.own a.extends.nodes (b.last + 1) end

  pub body_fits : BodyFits core number this_method b.last
  body_fits = record {
    from = some_own;
    own = subst (λ ys. Each (λ i y. y.method ≡ number) ys) (sym own_nodes_are) stands.method;
    post_order = subst (λ ys. PostOrder (length before) ys [] (b.last ∷ [])) (sym own_nodes_are) order;
    root = b.built.stands.root;
    is_root = node_in b.last b.built.stands.root b.built.stands.is_root;
    is_body = b.built.stands.is_body;
    depth = b.built.stands.depth;
    one = subst (λ ys. Each (λ i y. y.kind ≡ node.Body → length before + i ≡ b.last) ys) (sym own_nodes_are) only_body;
  }
    where
      only_body : Each (λ i y. y.kind ≡ node.Body → length before + i ≡ b.last) stands.own
      only_body i y h k =
          let at : slice_get b.after (length before + i) ≡ Some y = ap (λ xs. slice_get xs (length before + i)) stands.behind ∙ get_append before stands.own i ∙ h in
          let low : length before ≤ length before + i = omega arith in
          let high = get_below b.after (length before + i) y at in
          let last = stands.last in
          elim (cases_lt (length before + i) b.last) [
            | inl l ↦ absurd (subst (NamesWhatIsThere (context_of file o)) k (b.built.stands.names (length before + i) y low l at))
            | inr l ↦ omega (arith, l, high, last)
          ]

  -- ---- locals

  abbrev Used : ℕ → Node → Type 0
  Used i x = ((s : ℕ) → UsesSlot s x.kind → IsIn s (visible_of o.member) ⊎ IsDefined b.after i s) × ((s : ℕ) → x.kind ≡ node.Define s → IsItem b.after i)

  pub used : (i : ℕ) (x : Node) → length before ≤ i → slice_get b.after i ≡ Some x → Used i x
  used = locals_are_defined (visible_of o.member) number b.built.rose b.last before b.after (member_scoped (context_of file o) o.owner o.member b.built.rose b.built.is_rose) b.built.put_is

  -- A child of one of these nodes is one of them.
  pub child_own : (i c : ℕ) (y : Node) → length before ≤ i → slice_get b.after i ≡ Some y → Has y.children c → length before ≤ c
  child_own i c y low h g = children_above (length before) (length before) stands.own [] (b.last ∷ []) order (omega arith) (λ k v e. absurd (none-some v e)) (i - length before) y c (own_at i y low h) g

  no_numbers : Differ {T = ℕ} []
  no_numbers i j x g h = absurd (none-some x g)

  same_parent : (i j c : ℕ) (y z : Node) → length before ≤ i → length before ≤ j → slice_get b.after i ≡ Some y → slice_get b.after j ≡ Some z → Has y.children c → Has z.children c → i ≡ j
  same_parent i j c y z low high e f g h =
      let same : i - length before ≡ j - length before = one_parent (length before) stands.own [] (b.last ∷ []) order no_numbers (λ k v r. absurd (none-some v r)) (i - length before) (j - length before) y z c (own_at i y low e) (own_at j z high f) g h in
      omega (arith, same, low, high)

  abbrev entity_count : ℕ
  entity_count = length core.entities

  kind_local : (f : Bool) → is_local (local_kind f) ≡ true
  kind_local true = refl
  kind_local false = refl

  written_within : (all : ℕ) (o_ : Option TypeRef) (ty : ℕ × Cap) → length (context_of file o).entities ≤ all → written_of (context_of file o) o_ ≡ Some ty → ty.0 < all
  written_within all None ty l h = absurd (none-some ty h)
  written_within all (Some x) ty l h = let g = written_below 0 (context_of file o).entities x ty h in omega (arith, g, l)

  pub local_fits : (i : ℕ) (l : Local) → MemberOrder o.owner o.member → member_faults (context_of file o) o.owner o.member ≡ [] → length (context_of file o).entities ≤ entity_count → slice_get (member_locals o.owner o.member) i ≡ Some l
      → LocalFits core number (1 + param_count o.member + i) (local_slot (context_of file o) number l)
  local_fits i l ordered no_fault size h =
      let s : ℕ = 1 + param_count o.member + i in
      let once : IsDefinedOnce s l.depth before b.after = member_once (context_of file o) o.owner o.member b.built.rose number b.last before b.after refl ordered no_fault b.built.is_rose b.built.put_is i l h in
      let item : IsItem b.after once.define = (used once.define once.definition once.behind once.is_definition).1 s once.defines in
      record {
        kind = kind_local l.fixed;
        method = refl;
        written = λ ty e. written_within entity_count l.ty ty size e;
        define = once.define;
        definition = once.definition;
        is_definition = node_in once.define once.definition once.is_definition;
        defines = once.defines;
        own = own_method once.define once.definition once.behind once.is_definition;
        depth = once.deep;
        sequence = item.sequence;
        around = item.around;
        is_around = node_in item.sequence item.around item.is_around;
        is_sequence = item.is_sequence;
        item = item.item;
        only = λ k y g e d. let r = mine k y g e in once.only k y r.0 r.1 d;
        later = λ k y g e u. let r = mine k y g e in later s (omega arith) once item k y r.0 r.1 u;
      }
    where
      later : (s : ℕ) → 1 + param_count o.member ≤ s → (once : IsDefinedOnce s l.depth before b.after) (item : IsItem b.after once.define) (k : ℕ) (y : Node) → length before ≤ k → slice_get b.after k ≡ Some y → UsesSlot s y.kind → (once.define < k) × (k < item.sequence)
      later s big once item k y low g u = elim ((used k y low g).0 s u) [
        | inl v ↦ let w = visible_within o.member s v in let x = w.1 in absurd (omega (arith, x, big))
        | inr d ↦
            let behind = d.behind in
            let far : length before ≤ d.sequence = omega (arith, low, behind) in
            let own = child_own d.sequence d.define d.around far d.is_around d.item in
            let same : d.define ≡ once.define = once.only d.define d.definition own d.is_definition d.defines in
            let front = once.behind in
            let back = item.behind in
            let near : length before ≤ item.sequence = omega (arith, front, back) in
            let parent : d.sequence ≡ item.sequence = same_parent d.sequence item.sequence once.define d.around item.around far near d.is_around item.is_around (subst (Has d.around.children) same d.item) item.item in
            let before_ = d.before in
            (omega (arith, before_, same), omega (arith, behind, parent))
      ]
