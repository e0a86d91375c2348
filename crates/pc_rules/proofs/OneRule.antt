-- Which rule of calls and of operators applies to a node: at most one, by its children and the method that it calls.
use Rattle.std.specs.Prelude.{◌≡◌, ℕ, ◌+◌, Bool, true, false, cond, ◌&&◌, not, List, [], ◌∷◌, take, drop, Option, Some, None, nat_eq, slice_get, slice_range, codes, if◌then◌else◌, refl}
use Rattle.std.proofs.{Common.{inl, inr, ap, sym, ◌∙◌}, lemmas.Option.none-some, lemmas.Bool.{and_parts, eqb-true, not-true, or_cases}}
use Rattle.pc_caps.specs.Computed.{fits}
use Rattle.pc_tree.specs.declared.kinds.Op.{Op}
use Rattle.pc_tree.specs.declared.kinds.Op.TheVariants as op
use Rattle.pc_core.specs.{declared.declarations.EntityDef.EntityDef, declared.declarations.Method.Method, declared.declarations.MethodKind.MethodKind, declared.nodes.Node.Node, CoreData.{CoreData, own_methods, method_named}, Parts.method_name, Formed.Formed}
use Rattle.pc_core.specs.declared.declarations.MethodKind.TheVariants as method
use Rattle.pc_core.specs.declared.nodes.NodeKind.TheVariants as node
use Rattle.pc_base.specs.Lists.{◌>>=◌, place_of}
use Rattle.pc_base.proofs.{Options.{bind_some, kept, bind_is}, Bools.false_true}
use Rattle.pc_ann.specs.{declared.annotation.Ann.Ann, declared.annotation.Rule.Rule}
use Rattle.pc_ann.specs.declared.annotation.Rule.TheVariants as rule
use Rattle.pc_rules.specs.{declared.said.Said.Said, Parts.{reads_as, readable, through, type_of, one_child, last_child}, Calls.{is_function, is_behaviour, is_isolated, is_lent, lends, same_text, has_text, has_string}, Operators.{is_arithmetic, is_comparison, is_equality, is_add, is_xor, both_read_as}}
use Rattle.pc_valid.specs.Words.{Ty, Masks}
use Rattle.pc_rules.proofs.ByNumber.{two_types, define_says, body_says, arguments, arguments_go, arguments_sendable, called, calls, call_says, recovers, callrecover_says, sends, send_says, builtin_says, value_says, says}

-- ---- which one

abbrev pub method_rule : Ty → Option Method → Rule
method_rule o None = rule.Builtin
method_rule o (Some f) = if is_behaviour f.kind then rule.Send else (if fits o.1 f.receiver then rule.Call else rule.CallRecover)

abbrev pub call_rule : CoreData → Option (Ty × ℕ) → Rule
call_rule core None = rule.Builtin
call_rule core (Some i) = method_rule i.0 (slice_get core.methods i.1)

abbrev pub add_rule : Option (Ty × Ty) → Rule
add_rule None = rule.Arith
add_rule (Some vs) = if both_read_as 3 vs then rule.Join else rule.Arith

abbrev pub operator_rule : Op → Option (Ty × Ty) → Rule
operator_rule op.Add vs = add_rule vs
operator_rule op.Lt vs = rule.Compare
operator_rule op.Le vs = rule.Compare
operator_rule op.Gt vs = rule.Compare
operator_rule op.Ge vs = rule.Compare
operator_rule op.Eq vs = rule.Equal
operator_rule op.Ne vs = rule.Equal
operator_rule op.Xor vs = rule.Logic
operator_rule o vs = rule.Arith

-- ---- calls

no_behaviour : (k : MethodKind) → is_function k ≡ true → is_behaviour k ≡ false
no_behaviour method.Fun e = refl
no_behaviour k e = absurd (false_true e)

is_called : (core : CoreData) (o : Option (Ty × ℕ)) (i : Ty × ℕ) (f : Method) (b c : Bool) → o ≡ Some i → slice_get core.methods i.1 ≡ Some f → is_behaviour f.kind ≡ b → fits i.0.1 f.receiver ≡ c → call_rule core o ≡ cond b rule.Send (cond c rule.Call rule.CallRecover)
is_called core o i f b c e g h k =
    ap (call_rule core) e ∙ ap (method_rule i.0) g
    ∙ ap (λ t. cond t rule.Send (cond (fits i.0.1 f.receiver) rule.Call rule.CallRecover)) h
    ∙ ap (λ t. cond b rule.Send (cond t rule.Call rule.CallRecover)) k

module _ (core : CoreData) (ann : Ann) (x : Node) (m : Masks) (q : Said) where
  pub is_call : (name : ℕ) → call_says core ann x name m ≡ Some q → rule.Call ≡ call_rule core (called core ann x name)
  is_call name e =
      let a = bind_some (called core ann x name) _ q e in
      let b = bind_some (slice_get core.methods a.0.1) _ q a.2 in
      let c = bind_some (through ann x.children m) _ q b.2 in
      let k = kept (calls core ann x a.0.0 b.0) _ q c.2 in
      let p = and_parts (is_function b.0.kind) (arguments_go core ann (arguments x.children) b.0.params && fits a.0.0.1 b.0.receiver) k.0 in
      let r = and_parts (arguments_go core ann (arguments x.children) b.0.params) (fits a.0.0.1 b.0.receiver) p.1 in
      sym (is_called core (called core ann x name) a.0 b.0 false true a.1 b.1 (no_behaviour b.0.kind p.0) r.1)

  pub is_callrecover : (name : ℕ) → callrecover_says core ann x name m ≡ Some q → rule.CallRecover ≡ call_rule core (called core ann x name)
  is_callrecover name e =
      let a = bind_some (called core ann x name) _ q e in
      let b = bind_some (slice_get core.methods a.0.1) _ q a.2 in
      let c = bind_some (through ann x.children m) _ q b.2 in
      let k = kept (recovers core ann x a.0.0 b.0) _ q c.2 in
      let p = and_parts (is_function b.0.kind && arguments_go core ann (arguments x.children) b.0.params) (lends a.0.0.1 b.0.receiver && arguments_sendable ann (arguments x.children) b.0.params) k.0 in
      let f = and_parts (is_function b.0.kind) (arguments_go core ann (arguments x.children) b.0.params) p.0 in
      let l = and_parts (lends a.0.0.1 b.0.receiver) (arguments_sendable ann (arguments x.children) b.0.params) p.1 in
      let n = and_parts (not (fits a.0.0.1 b.0.receiver)) (is_isolated a.0.0.1 && is_lent b.0.receiver) l.0 in
      sym (is_called core (called core ann x name) a.0 b.0 false false a.1 b.1 (no_behaviour b.0.kind f.0) (not-true (fits a.0.0.1 b.0.receiver) n.0))

  pub is_send : (name : ℕ) → send_says core ann x name m ≡ Some q → rule.Send ≡ call_rule core (called core ann x name)
  is_send name e =
      let a = bind_some (called core ann x name) _ q e in
      let b = bind_some (slice_get core.methods a.0.1) _ q a.2 in
      let c = bind_some (through ann x.children m) _ q b.2 in
      let k = kept (sends core ann x b.0) _ q c.2 in
      let p = and_parts (is_behaviour b.0.kind) (arguments_go core ann (arguments x.children) b.0.params) k.0 in
      sym (is_called core (called core ann x name) a.0 b.0 true (fits a.0.0.1 b.0.receiver) a.1 b.1 p.0 refl)

-- ---- the text of a value: its entity has no methods

take_none : {T : Type 0} → (xs : List T) → take 0 xs ≡ []
take_none [] = refl
take_none (x ∷ xs) = refl

none_of : (core : CoreData) (e name : ℕ) (x : EntityDef) → slice_get core.entities e ≡ Some x → x.first_method ≡ 0 → x.methods ≡ 0 → method_named core e name ≡ None
none_of core e name x g f c =
    bind_is (slice_get core.entities e) (λ (z : EntityDef). place_of method_name name (own_methods core z) z.first_method) x g
    ∙ ap (λ k. place_of method_name name (slice_range core.methods k (k + x.methods)) k) f
    ∙ ap (λ k. place_of method_name name (slice_range core.methods 0 (0 + k)) 0) c
    ∙ ap (λ ys. place_of method_name name ys 0) (take_none (drop 0 core.methods))

no_method : (core : CoreData) (name : ℕ) (v : Ty) → Formed core → has_text v ≡ true → method_named core v.0 name ≡ None
no_method core name v formed e =
    elim (or_cases (reads_as 1 v) (reads_as 2 v) e) [
      | inl one ↦ let is : v.0 ≡ 1 = eqb-true v.0 1 (and_parts (nat_eq v.0 1) (readable v.1) one).0 in
          ap (λ k. method_named core k name) is ∙ none_of core 1 name _ formed.built_in.numbers refl refl
      | inr two ↦ let is : v.0 ≡ 2 = eqb-true v.0 2 (and_parts (nat_eq v.0 2) (readable v.1) two).0 in
          ap (λ k. method_named core k name) is ∙ none_of core 2 name _ formed.built_in.truths refl refl
    ]

only_child : (cs : List ℕ) (c : ℕ) → one_child cs ≡ Some c → last_child cs ≡ Some c
only_child [] c e = absurd (none-some c e)
only_child (a ∷ []) c e = e
only_child (a ∷ b ∷ cs) c e = absurd (none-some c e)

abbrev called_as : Ty → ℕ → Option (Ty × ℕ)
called_as v k = Some (v, k)

pub is_builtin : (core : CoreData) (ann : Ann) (x : Node) (m : Masks) (q : Said) (name : ℕ) → Formed core → builtin_says core ann x name m ≡ Some q → rule.Builtin ≡ call_rule core (called core ann x name)
is_builtin core ann x m q name formed e =
    let a = bind_some (one_child x.children) _ q e in
    let b = bind_some (type_of ann a.0) _ q a.2 in
    let c = bind_some (slice_get core.names name) _ q b.2 in
    let d = bind_some (through ann x.children m) _ q c.2 in
    let k = kept (has_string c.0 b.0) _ q d.2 in
    let p = and_parts (same_text c.0 (codes "string")) (has_text b.0) k.0 in
    let none : called core ann x name ≡ None =
    bind_is (last_child x.children) _ a.0 (only_child x.children a.0 a.1)
    ∙ bind_is (type_of ann a.0) _ b.0 b.1
    ∙ ap (λ o. o >>= called_as b.0) (no_method core name b.0 formed p.1)
    in
    sym (ap (call_rule core) none)

-- ---- operators

not_text : (vs : Ty × Ty) → both_read_as 1 vs ≡ true → both_read_as 3 vs ≡ false
not_text vs e =
    let p = and_parts (reads_as 1 vs.0) (reads_as 1 vs.1) e in
    let n = and_parts (nat_eq vs.0.0 1) (readable vs.0.1) p.0 in
    ap (λ k. (nat_eq k 3 && readable vs.0.1) && reads_as 3 vs.1) (eqb-true vs.0.0 1 n.0)

pub is_arith : (o : Op) (ts : Option (Ty × Ty)) (vs : Ty × Ty) → ts ≡ Some vs → is_arithmetic o ≡ true → both_read_as 1 vs ≡ true → rule.Arith ≡ operator_rule o ts
is_arith op.Add ts vs e a b = sym (ap add_rule e ∙ ap (λ t. cond t rule.Join rule.Arith) (not_text vs b))
is_arith op.Sub ts vs e a b = refl
is_arith op.Mul ts vs e a b = refl
is_arith op.Div ts vs e a b = refl
is_arith op.Rem ts vs e a b = refl
is_arith o ts vs e a b = absurd (false_true a)

pub is_join : (o : Op) (ts : Option (Ty × Ty)) (vs : Ty × Ty) → ts ≡ Some vs → is_add o ≡ true → both_read_as 3 vs ≡ true → rule.Join ≡ operator_rule o ts
is_join op.Add ts vs e a b = sym (ap add_rule e ∙ ap (λ t. cond t rule.Join rule.Arith) b)
is_join o ts vs e a b = absurd (false_true a)

pub is_compare : (o : Op) (ts : Option (Ty × Ty)) → is_comparison o ≡ true → rule.Compare ≡ operator_rule o ts
is_compare op.Lt ts a = refl
is_compare op.Le ts a = refl
is_compare op.Gt ts a = refl
is_compare op.Ge ts a = refl
is_compare o ts a = absurd (false_true a)

pub is_equal : (o : Op) (ts : Option (Ty × Ty)) → is_equality o ≡ true → rule.Equal ≡ operator_rule o ts
is_equal op.Eq ts a = refl
is_equal op.Ne ts a = refl
is_equal o ts a = absurd (false_true a)

pub is_logic : (o : Op) (ts : Option (Ty × Ty)) → is_xor o ≡ true → rule.Logic ≡ operator_rule o ts
is_logic op.Xor ts a = refl
is_logic o ts a = absurd (false_true a)

-- What an operator's rule requires of the operator, and of the types of both sides.
pub asked : (ann : Ann) (x : Node) (m : Masks) (q : Said) (e : ℕ) (a : Bool) (t : Ty × Ty → Bool) → (two_types ann x.children >>= λ v. cond (a && t v) (value_says e ann x m) None) ≡ Some q → (vs : Ty × Ty) × (two_types ann x.children ≡ Some vs) × (a ≡ true) × (t vs ≡ true)
asked ann x m q e a t h =
    let v = bind_some (two_types ann x.children) _ q h in
    let k = kept (a && t v.0) (value_says e ann x m) q v.2 in
    let p = and_parts a (t v.0) k.0 in
    (v.0, v.1, p.0, p.1)

-- ---- the rule of a definition and of a body

pub define_rule : (core : CoreData) (ann : Ann) (x : Node) (m : Masks) (r : Rule) (s : ℕ) (q : Said) → says core ann x m r (node.Define s) ≡ Some q → define_says core ann x s m ≡ Some q
define_rule core ann x m rule.Define s q e = e
define_rule core ann x m r s q e = absurd (none-some q e)

pub body_rule : (core : CoreData) (ann : Ann) (x : Node) (m : Masks) (r : Rule) (q : Said) → says core ann x m r node.Body ≡ Some q → body_says core ann x m ≡ Some q
body_rule core ann x m rule.Body q e = e
body_rule core ann x m r q e = absurd (none-some q e)
