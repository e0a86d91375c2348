-- The faults of a body are those of its uses.
use Rattle.std.proofs.{Common.{◌≡◌, ℕ, zero, suc, List, [], ◌∷◌, ◌++◌, Option, Some, None, refl, sym, ap, subst, inl, inr, ⊎_elim}, lemmas.List.map-append, lemmas.Option.{same_Some, none-some}}
use Rattle.std.specs.Prelude.{◌⊎◌}
use Rattle.pc_base.specs.Lists.{Has}
use Rattle.pc_base.proofs.Elements.{has_on}
use Rattle.pc_tree.specs.{declared.written_names.Name.Name, declared.file.ParamDef.ParamDef, declared.kinds.MethodWord.MethodWord}
use Rattle.pc_tree.specs.declared.kinds.MethodWord.TheVariants as word
use Rattle.pc_tree.specs.Tree as t
use Rattle.pc_body_spec.specs.{Bodies.{Context, Scope, Visible, defined_local, resolve, primitive, created, no_value, scope_after, params_from, params_scope, initial_fields, Start, with_method, with_type, with_value, chain_start}, Faults.{BodyNameFault, double, is_name_taken, Next, end, next_of, start_faults, faults_of, exprs_faults, suffixes_faults, arms_faults, arm_faults, other_faults, seq_faults, items_faults, item_faults, initial_faults}, Parts.{fault_if, written_faults, value_faults, written_body_faults}, Places.{written_places, places, exprs_places, suffixes_places, arm_places, arms_places, other_places, seq_places, items_places, item_places, value_places, initial_places, written_body_places, body_places}}
use Rattle.pc_members.specs.Members.{Member, written, added}
use Rattle.pc_file_spec.proofs.Steps.{member_faults}
use Rattle.pc_name_laws.specs.Uses as u
use Rattle.pc_name_laws.specs.Uses.{Spot, Here, TypeIn, type_name_of, visible_after, In, InExprs, InSuffixes, InArm, InArms, InOther, InSeq, InItems, InItem, InValue, InInitials, InBody, InMember, param_texts}
use Rattle.pc_name_laws.proofs.{Telling.{Tells, no_spot, either, turned}, Meanings.names, Uses.{bare_tells, consumed_tells, type_tells, Begins, dot_tells, name_begins, local_tells, written_tells, literal_tells}}

begins : (c : Context) (sc : Scope) (h : t.Expr) → Begins c (chain_start c sc h) (type_name_of h)
begins c sc (t.number n s) = refl
begins c sc (t.truth b s) = refl
begins c sc (t.text b s) = refl
begins c sc (t.name n) = name_begins c n (resolve c sc n.text)
begins c sc (t.type_name n) = (n, refl, refl)
begins c sc (t.this s) = refl
begins c sc (t.consume n s) = refl
begins c sc (t.not_ e s) = refl
begins c sc (t.infix_ o es s) = refl
begins c sc (t.chain e ss s) = refl
begins c sc (t.group b s) = refl
begins c sc (t.if_ as' o s) = refl
begins c sc (t.while_ cond b s) = refl
begins c sc (t.recover k b s) = refl
begins c sc (t.assign l r s) = refl

-- One more local is visible.
names_after : (c : Context) (sc : Scope) (i : t.Item) → names (scope_after c sc i) ≡ visible_after (names sc) i
names_after c sc (t.local fixed n ty e s) = map-append (λ (v : Visible). v.name) sc (defined_local c n ∷ [])
names_after c sc (t.plain e) = refl

-- After the end of an expression nothing follows.
at_end : {c : Context} {P : Spot → Type 0} {ns : List ℕ} (st : Start) (fs : List BodyNameFault) → Tells c (start_faults st end fs) P ns
    → Tells c fs P ns
at_end (with_method n) fs h = h
at_end (with_type (primitive e)) fs h = h
at_end (with_type (created actor cs)) fs h = h
at_end (with_type no_value) fs h = h
at_end with_value fs h = h

-- A local, with its type and its value.
local_item : (c : Context) (sc : Scope) (n : Name) (ws fs : List BodyNameFault) (P Q : Spot → Type 0) (ns ms : List ℕ) → Tells c ws P ns
    → Tells c fs Q ms
    → Tells c (fault_if (is_name_taken (resolve c sc n.text)) (double n.span) ++ ws ++ fs) (λ x. Here (names sc) (u.local n) x ⊎ P x ⊎ Q x) (n.span.start ∷ (ns ++ ms))
local_item c sc n ws fs P Q ns ms p q =
    turned (λ x. Here (names sc) (u.local n) x ⊎ P x ⊎ Q x)
    (λ x h. ⊎_elim (λ a. ⊎_elim (λ b. inl b) (λ b. inr (inl b)) a) (λ a. inr (inr a)) h)
    (λ x h. ⊎_elim (λ a. inl (inl a)) (λ a. ⊎_elim (λ b. inl (inr b)) (λ b. inr b) a) h)
    (either (either (local_tells c sc n) p) q)

mutual
  expr_tells : (c : Context) (sc : Scope) (next : Next) (e : t.Expr) → Tells c (start_faults (chain_start c sc e) next (faults_of c sc e)) (In (names sc) next e) (places e)
  expr_tells c sc next (t.number n s) = no_spot c []
  expr_tells c sc next (t.truth b s) = no_spot c []
  expr_tells c sc next (t.text b s) = literal_tells c (names sc) b s
  expr_tells c sc next (t.name n) = bare_tells c sc n next
  expr_tells c sc next (t.type_name n) = type_tells c (names sc) n next
  expr_tells c sc next (t.this s) = no_spot c []
  expr_tells c sc next (t.consume n s) = consumed_tells c sc n
  expr_tells c sc next (t.not_ e s) = at_end (chain_start c sc e) (faults_of c sc e) (expr_tells c sc end e)
  expr_tells c sc next (t.infix_ o es s) = exprs_tell c sc es
  expr_tells c sc next (t.chain h ss s) = either (expr_tells c sc (next_of ss) h) (suffixes_tell c sc (chain_start c sc h) (type_name_of h) ss (begins c sc h))
  expr_tells c sc next (t.group b s) = seq_tells c sc b
  expr_tells c sc next (t.if_ as' o s) = either (arms_tell c sc as') (other_tells c sc o)
  expr_tells c sc next (t.while_ cond b s) = either (seq_tells c sc cond) (seq_tells c sc b)
  expr_tells c sc next (t.recover k b s) = seq_tells c sc b
  expr_tells c sc next (t.assign l r s) = either (at_end (chain_start c sc l) (faults_of c sc l) (expr_tells c sc end l)) (at_end (chain_start c sc r) (faults_of c sc r) (expr_tells c sc end r))

  exprs_tell : (c : Context) (sc : Scope) (es : t.Exprs) → Tells c (exprs_faults c sc es) (InExprs (names sc) es) (exprs_places es)
  exprs_tell c sc t.no_exprs = no_spot c []
  exprs_tell c sc (t.expr e es) = either (at_end (chain_start c sc e) (faults_of c sc e) (expr_tells c sc end e)) (exprs_tell c sc es)

  suffixes_tell : (c : Context) (sc : Scope) (st : Start) (of : Option Name) (ss : t.Suffixes) → Begins c st of → Tells c (suffixes_faults c sc st ss) (InSuffixes (names sc) of ss) (suffixes_places ss)
  suffixes_tell c sc st of t.no_suffixes h = no_spot c []
  suffixes_tell c sc st of (t.suffix (t.dot n) ss) h = either (dot_tells c (names sc) st of n (next_of ss) h) (suffixes_tell c sc with_value None ss refl)
  suffixes_tell c sc st of (t.suffix (t.args es s) ss) h = either (exprs_tell c sc es) (suffixes_tell c sc with_value None ss refl)

  arm_tells : (c : Context) (sc : Scope) (a : t.Arm) → Tells c (arm_faults c sc a) (InArm (names sc) a) (arm_places a)
  arm_tells c sc (t.arm_of cond b s) = either (seq_tells c sc cond) (seq_tells c sc b)

  arms_tell : (c : Context) (sc : Scope) (as' : t.Arms) → Tells c (arms_faults c sc as') (InArms (names sc) as') (arms_places as')
  arms_tell c sc t.no_arms = no_spot c []
  arms_tell c sc (t.arm a as') = either (arm_tells c sc a) (arms_tell c sc as')

  other_tells : (c : Context) (sc : Scope) (o : t.Other) → Tells c (other_faults c sc o) (InOther (names sc) o) (other_places o)
  other_tells c sc t.no_other = no_spot c []
  other_tells c sc (t.other b) = seq_tells c sc b

  seq_tells : (c : Context) (sc : Scope) (b : t.Seq) → Tells c (seq_faults c sc b) (InSeq (names sc) b) (seq_places b)
  seq_tells c sc (t.seq is s) = items_tell c sc is

  items_tell : (c : Context) (sc : Scope) (is : t.Items) → Tells c (items_faults c sc is) (InItems (names sc) is) (items_places is)
  items_tell c sc t.no_items = no_spot c []
  items_tell c sc (t.item i is) =
      either (item_tells c sc i) (subst (λ vs. Tells c (items_faults c (scope_after c sc i) is) (InItems vs is) (items_places is)) (names_after c sc i) (items_tell c (scope_after c sc i) is))

  item_tells : (c : Context) (sc : Scope) (i : t.Item) → Tells c (item_faults c sc i) (InItem (names sc) i) (item_places i)
  item_tells c sc (t.local fixed n ty e s) =
      local_item c sc n (written_faults c ty) (faults_of c sc e) (TypeIn (names sc) ty) (In (names sc) end e) (written_places ty) (places e)
      (written_tells c (names sc) ty) (at_end (chain_start c sc e) (faults_of c sc e) (expr_tells c sc end e))
  item_tells c sc (t.plain e) = at_end (chain_start c sc e) (faults_of c sc e) (expr_tells c sc end e)

-- ---- initial values and bodies

value_tells : (c : Context) (v : Option t.Expr) → Tells c (value_faults c v) (InValue v) (value_places v)
value_tells c None = no_spot c []
value_tells c (Some e) = at_end (chain_start c [] e) (faults_of c [] e) (expr_tells c [] end e)

pub initials_tell : (c : Context) (fs : List t.Field) → Tells c (initial_faults c fs) (InInitials fs) (initial_places fs)
initials_tell c [] = turned (InInitials []) (λ x h. absurd h) (λ x h. none-some h.0 h.1.1) (no_spot c [])
initials_tell c (x ∷ fs) = turned (InInitials (x ∷ fs)) there back (either (value_tells c x.value) (initials_tell c fs))
  where
    there : (s : Spot) → InValue x.value s ⊎ InInitials fs s → InInitials (x ∷ fs) s
    there s (inl a) = (x, (0, refl), a)
    there s (inr r) = (r.0, has_on x fs r.0 r.1, r.2)

    at : (s : Spot) (g : t.Field) → Has (x ∷ fs) g → InValue g.value s → InValue x.value s ⊎ InInitials fs s
    at s g (zero, e) a = inl (subst (λ (z : t.Field). InValue z.value s) (sym (same_Some x g e)) a)
    at s g (suc i, e) a = inr (g, (i, e), a)

    back : (s : Spot) → InInitials (x ∷ fs) s → InValue x.value s ⊎ InInitials fs s
    back s r = at s r.0 r.1 r.2

-- A method that is not a constructor has none.
abbrev IsNew : MethodWord → Type 0
IsNew word.Fun = ⊥
IsNew word.Be = ⊥
IsNew word.New = Unit {0}

initials_of : (c : Context) (fs : List t.Field) (w : MethodWord) → Tells c (initial_faults c (initial_fields w fs)) (λ x. (w ≡ word.New) × InInitials fs x) (initial_places (initial_fields w fs))
initials_of c fs word.Fun = turned (λ x. (word.Fun ≡ word.New) × InInitials fs x) (λ x h. absurd h) (λ x h. subst IsNew (sym h.0) tt) (no_spot c [])
initials_of c fs word.Be = turned (λ x. (word.Be ≡ word.New) × InInitials fs x) (λ x h. absurd h) (λ x h. subst IsNew (sym h.0) tt) (no_spot c [])
initials_of c fs word.New = turned (λ x. (word.New ≡ word.New) × InInitials fs x) (λ x h. (refl, h)) (λ x h. h.1) (initials_tell c fs)

body_tells : (c : Context) (sc : Scope) (b : Option t.Seq) → Tells c (written_body_faults c sc b) (InBody (names sc) b) (written_body_places b)
body_tells c sc None = no_spot c []
body_tells c sc (Some b) = seq_tells c sc b

param_names : (at : ℕ) (ps : List ParamDef) → names (params_from at ps) ≡ param_texts ps
param_names at [] = refl
param_names at (p ∷ ps) = ap (λ xs. p.name.text ∷ xs) (param_names (suc at) ps)

-- The places of a member.
abbrev pub member_places : t.Entity → Member → List ℕ
member_places e (written m) = body_places e.fields m
member_places e added = initial_places e.fields

pub member_tells : (c : Context) (e : t.Entity) (m : Member) → Tells c (member_faults c e m) (InMember e m) (member_places e m)
member_tells c e (written m) =
    either (initials_of c e.fields m.word)
    (subst (λ vs. Tells c (written_body_faults c (params_scope m.params) m.body) (InBody vs m.body) (written_body_places m.body)) (param_names 1 m.params) (body_tells c (params_scope m.params) m.body))
member_tells c e added = initials_tell c e.fields
