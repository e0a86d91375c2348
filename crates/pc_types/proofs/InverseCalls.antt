-- What the rules of constructors, calls and messages state, part by part.
use Rattle.std.specs.Prelude.{◌≡◌, ◌⊎◌, ℕ, Bool, true, false, cond, ◌&&◌, not, List, [], ◌∷◌, Option, Some, None, nat_eq, slice_get, codes, refl}
use Rattle.std.proofs.{Common.{inl, inr, ap, sym, subst, ◌∙◌}, lemmas.Option.{same_Some, none-some}, lemmas.Bool.{and_parts, eqb-true, or_cases}}
use Rattle.pc_caps.specs.{Tables.{plain, sendable_form}, Computed.fits, declared.capability.Form.Form}
use Rattle.pc_caps.specs.declared.capability.Form.TheVariants as form
use Rattle.pc_core.specs.{declared.declarations.Method.Method, declared.declarations.MethodKind.MethodKind, declared.nodes.Node.Node, declared.nodes.NodeKind.NodeKind, CoreData.{CoreData, method_named}}
use Rattle.pc_core.specs.declared.declarations.MethodKind.TheVariants as method
use Rattle.pc_core.specs.declared.nodes.NodeKind.TheVariants as nodes
use Rattle.pc_base.proofs.{Options.{bind_some, kept}, Bools.false_true}
use Rattle.pc_ann.specs.{declared.annotation.Note.Note, declared.annotation.Ann.Ann, declared.annotation.Rule.Rule}
use Rattle.pc_ann.specs.declared.annotation.Rule.TheVariants as rule
use Rattle.pc_rules.specs.{declared.said.Said.Said, Parts.{says_of, through, type_of, one_child, last_child, readable, reads_as}, Calls.{is_function, is_behaviour, is_isolated, is_lent, lends, recovered_result, same_text, has_text, has_string}, Rules.said_by}
use Rattle.pc_valid.specs.Words.{Ty, Masks, before}
use Rattle.pc_rules.proofs.ByNumber.{arguments, arguments_go, arguments_sendable, called, calls, recovers, sends, new_says, spawn_says, call_says, callrecover_says, send_says, builtin_says, says, IsSaid}
use Rattle.pc_types.proofs.{Types.{sees, Lower}, Basic.lower_same, Begin.only_one, Inverse.says_is, Tables.fits_sees}

-- ---- the rule of a constructor, and those of a call

new_rule : (core : CoreData) (ann : Ann) (x : Node) (m : Masks) (r : Rule) (k : ℕ) (q : Said) → says core ann x m r (nodes.New k) ≡ Some q → new_says core ann x k m ≡ Some q
new_rule core ann x m rule.New k q e = e
new_rule core ann x m r k q e = absurd (none-some q e)

spawn_rule : (core : CoreData) (ann : Ann) (x : Node) (m : Masks) (r : Rule) (k : ℕ) (q : Said) → says core ann x m r (nodes.Spawn k) ≡ Some q → spawn_says core ann x k m ≡ Some q
spawn_rule core ann x m rule.Spawn k q e = e
spawn_rule core ann x m r k q e = absurd (none-some q e)

-- One of the four rules states this.
abbrev pub CallSays : CoreData → Ann → Node → ℕ → Masks → Said → Type 0
CallSays core ann x name m q =
    (call_says core ann x name m ≡ Some q) ⊎ ((callrecover_says core ann x name m ≡ Some q) ⊎ ((send_says core ann x name m ≡ Some q) ⊎ (builtin_says core ann x name m ≡ Some q)))

pub call_rules : (core : CoreData) (ann : Ann) (x : Node) (m : Masks) (r : Rule) (name : ℕ) (q : Said) → says core ann x m r (nodes.Call name) ≡ Some q → CallSays core ann x name m q
call_rules core ann x m rule.Call name q e = inl e
call_rules core ann x m rule.CallRecover name q e = inr (inl e)
call_rules core ann x m rule.Send name q e = inr (inr (inl e))
call_rules core ann x m rule.Builtin name q e = inr (inr (inr e))
call_rules core ann x m r name q e = absurd (none-some q e)

-- ---- constructors

-- Method k with as many arguments as it takes; the value is of this type.
pub record MakesRule (core : CoreData) (ann : Ann) (x : Node) (k : ℕ) (t : Note) (ty : Method → Ty) : Type 0 where
  pub own : Method
  pub is_own : slice_get core.methods k ≡ Some own
  pub behind : Masks
  pub is_behind : through ann x.children (before t) ≡ Some behind
  pub goes : arguments_go core ann x.children own.params ≡ true
  pub ty_is : t.ty ≡ Some (ty own)
  pub live : t.live_after ≡ behind.0
  pub set : t.set_after ≡ behind.1

-- The parts of what is said.
pub said_ty : (t : Note) (ty : Option Ty) (n : Masks) → Some (says_of ty n) ≡ Some (said_by t) → t.ty ≡ ty
said_ty t ty n e = (says_is t ty n e).ty

pub said_live : (t : Note) (ty : Option Ty) (n : Masks) → Some (says_of ty n) ≡ Some (said_by t) → t.live_after ≡ n.0
said_live t ty n e = (says_is t ty n e).live

pub said_set : (t : Note) (ty : Option Ty) (n : Masks) → Some (says_of ty n) ≡ Some (said_by t) → t.set_after ≡ n.1
said_set t ty n e = (says_is t ty n e).set

abbrev pub result_of : Method → Ty
result_of f = f.result

abbrev pub actor_of : Method → Ty
actor_of f = (f.entity, form.Tag)

new_inverse : (core : CoreData) (ann : Ann) (x : Node) (k : ℕ) (t : Note) → new_says core ann x k (before t) ≡ Some (said_by t) → MakesRule core ann x k t result_of
new_inverse core ann x k t e =
    let f = bind_some (slice_get core.methods k) _ (said_by t) e in
    let n = bind_some (through ann x.children (before t)) _ (said_by t) f.2 in
    let p = kept (arguments_go core ann x.children f.0.params) (Some (says_of (Some f.0.result) n.0)) (said_by t) n.2 in
    record { own = f.0; is_own = f.1; behind = n.0; is_behind = n.1; goes = p.0; ty_is = said_ty t (Some f.0.result) n.0 p.1; live = said_live t (Some f.0.result) n.0 p.1; set = said_set t (Some f.0.result) n.0 p.1 }

spawn_inverse : (core : CoreData) (ann : Ann) (x : Node) (k : ℕ) (t : Note) → spawn_says core ann x k (before t) ≡ Some (said_by t) → MakesRule core ann x k t actor_of
spawn_inverse core ann x k t e =
    let f = bind_some (slice_get core.methods k) _ (said_by t) e in
    let n = bind_some (through ann x.children (before t)) _ (said_by t) f.2 in
    let p = kept (arguments_go core ann x.children f.0.params) (Some (says_of (Some (actor_of f.0)) n.0)) (said_by t) n.2 in
    record { own = f.0; is_own = f.1; behind = n.0; is_behind = n.1; goes = p.0; ty_is = said_ty t (Some (actor_of f.0)) n.0 p.1; live = said_live t (Some (actor_of f.0)) n.0 p.1; set = said_set t (Some (actor_of f.0)) n.0 p.1 }

-- ---- calls

-- A call by the method that the receiver's entity has of the name.
pub record CalledRule (core : CoreData) (ann : Ann) (x : Node) (name : ℕ) (t : Note) : Type 0 where
  pub last : ℕ
  pub is_last : last_child x.children ≡ Some last
  pub receiver : Ty
  pub is_receiver : type_of ann last ≡ Some receiver
  pub number : ℕ
  pub is_number : method_named core receiver.0 name ≡ Some number
  pub own : Method
  pub is_own : slice_get core.methods number ≡ Some own
  pub behind : Masks
  pub is_behind : through ann x.children (before t) ≡ Some behind
  pub goes : arguments_go core ann (arguments x.children) own.params ≡ true
  pub live : t.live_after ≡ behind.0
  pub set : t.set_after ≡ behind.1

-- It is a function: the receiver sees from where the method does, and the value is its result, or there is none.
pub record FunctionRule (core : CoreData) (ann : Ann) (x : Node) (name : ℕ) (t : Note) : Type 0 where
  pub by : CalledRule core ann x name t
  pub kind : by.own.kind ≡ method.Fun
  pub receiver : sees (plain by.own.receiver) ≡ true → sees by.receiver.1 ≡ true
  pub result : Lower core (Some by.own.result) t.ty

-- It is a behaviour.
pub record SendRule (core : CoreData) (ann : Ann) (x : Node) (name : ℕ) (t : Note) : Type 0 where
  pub by : CalledRule core ann x name t
  pub kind : by.own.kind ≡ method.Be
  pub ty : t.ty ≡ Some (0, form.Val)

-- The text of a number or a truth value.
pub record TextRule (core : CoreData) (ann : Ann) (x : Node) (name : ℕ) (t : Note) : Type 0 where
  pub child : ℕ
  pub children : x.children ≡ child ∷ []
  pub value : Ty
  pub is_value : type_of ann child ≡ Some value
  pub named : slice_get core.names name ≡ Some (codes "string")
  pub shown : (value.0 ≡ 1) ⊎ (value.0 ≡ 2)
  pub behind : Masks
  pub is_behind : through ann x.children (before t) ≡ Some behind
  pub ty : t.ty ≡ Some (3, form.Val)
  pub live : t.live_after ≡ behind.0
  pub set : t.set_after ≡ behind.1

pub function_is : (k : MethodKind) → is_function k ≡ true → k ≡ method.Fun
function_is method.Fun e = refl
function_is k e = absurd (false_true e)

behaviour_is : (k : MethodKind) → is_behaviour k ≡ true → k ≡ method.Be
behaviour_is method.Be e = refl
behaviour_is k e = absurd (false_true e)

isolated_sees : (f : Form) → is_isolated f ≡ true → sees f ≡ true
isolated_sees form.Iso e = refl
isolated_sees form.Trn e = refl
isolated_sees f e = absurd (false_true e)

recovered_lower : (core : CoreData) (r : Ty) → Lower core (Some r) (recovered_result r)
recovered_lower core r = go (sendable_form r.1)
  where
    go : (b : Bool) → Lower core (Some r) (cond b (Some r) None)
    go true = lower_same core r
    go false = tt

pub text_is : (a b : List ℕ) → same_text a b ≡ true → a ≡ b
text_is [] [] e = refl
text_is [] (b ∷ bs) e = absurd (false_true e)
text_is (a ∷ xs) [] e = absurd (false_true e)
text_is (a ∷ xs) (b ∷ bs) e =
    let p = and_parts (nat_eq a b) (same_text xs bs) e in
    ap (λ (n : ℕ). n ∷ xs) (eqb-true a b p.0) ∙ ap (λ (ys : List ℕ). b ∷ ys) (text_is xs bs p.1)

shows : (v : Ty) → has_text v ≡ true → (v.0 ≡ 1) ⊎ (v.0 ≡ 2)
shows v e =
    elim (or_cases (reads_as 1 v) (reads_as 2 v) e) [
      | inl p ↦ inl (eqb-true v.0 1 (and_parts (nat_eq v.0 1) (readable v.1) p).0)
      | inr p ↦ inr (eqb-true v.0 2 (and_parts (nat_eq v.0 2) (readable v.1) p).0)
    ]

module _ (core : CoreData) (ann : Ann) (x : Node) (name : ℕ) (t : Note) where
  -- What all three rules have.
  abbrev pub called_of : (i : Ty × ℕ) (f : Method) (n : Masks) (ty : Option Ty) → called core ann x name ≡ Some i → slice_get core.methods i.1 ≡ Some f → through ann x.children (before t) ≡ Some n → arguments_go core ann (arguments x.children) f.params ≡ true → Some (says_of ty n) ≡ Some (said_by t) → CalledRule core ann x name t
  called_of i f n ty is at behind goes said =
      let r = bind_some (last_child x.children) _ i is in
      let o = bind_some (type_of ann r.0) _ i r.2 in
      let k = bind_some (method_named core o.0.0 name) _ i o.2 in
      let same : (o.0, k.0) ≡ i = same_Some (o.0, k.0) i k.2 in
      let ty_is : o.0 ≡ i.0 = ap (λ (p : Ty × ℕ). p.0) same in
      let number : k.0 ≡ i.1 = ap (λ (p : Ty × ℕ). p.1) same in
      record {
        last = r.0;
        is_last = r.1;
        receiver = i.0;
        is_receiver = o.1 ∙ ap Some ty_is;
        number = i.1;
        is_number = ap (λ (p : Ty). method_named core p.0 name) (sym ty_is) ∙ k.1 ∙ ap Some number;
        own = f;
        is_own = at;
        behind = n;
        is_behind = behind;
        goes = goes;
        live = said_live t ty n said;
        set = said_set t ty n said;
      }

  call_inverse : call_says core ann x name (before t) ≡ Some (said_by t) → FunctionRule core ann x name t
  call_inverse e =
      let i = bind_some (called core ann x name) _ (said_by t) e in
      let f = bind_some (slice_get core.methods i.0.1) _ (said_by t) i.2 in
      let n = bind_some (through ann x.children (before t)) _ (said_by t) f.2 in
      let p = kept (calls core ann x i.0.0 f.0) (Some (says_of (Some f.0.result) n.0)) (said_by t) n.2 in
      let a = and_parts (is_function f.0.kind) (arguments_go core ann (arguments x.children) f.0.params && fits i.0.0.1 f.0.receiver) p.0 in
      let b = and_parts (arguments_go core ann (arguments x.children) f.0.params) (fits i.0.0.1 f.0.receiver) a.1 in
      record {
        by = called_of i.0 f.0 n.0 (Some f.0.result) i.1 f.1 n.1 b.0 p.1;
        kind = function_is f.0.kind a.0;
        receiver = fits_sees i.0.0.1 f.0.receiver b.1;
        result = subst (Lower core (Some f.0.result)) (sym (said_ty t (Some f.0.result) n.0 p.1)) (lower_same core f.0.result);
      }

  callrecover_inverse : callrecover_says core ann x name (before t) ≡ Some (said_by t) → FunctionRule core ann x name t
  callrecover_inverse e =
      let i = bind_some (called core ann x name) _ (said_by t) e in
      let f = bind_some (slice_get core.methods i.0.1) _ (said_by t) i.2 in
      let n = bind_some (through ann x.children (before t)) _ (said_by t) f.2 in
      let p = kept (recovers core ann x i.0.0 f.0) (Some (says_of (recovered_result f.0.result) n.0)) (said_by t) n.2 in
      let a = and_parts (is_function f.0.kind && arguments_go core ann (arguments x.children) f.0.params) (lends i.0.0.1 f.0.receiver && arguments_sendable ann (arguments x.children) f.0.params) p.0 in
      let b = and_parts (is_function f.0.kind) (arguments_go core ann (arguments x.children) f.0.params) a.0 in
      let l = and_parts (lends i.0.0.1 f.0.receiver) (arguments_sendable ann (arguments x.children) f.0.params) a.1 in
      let d = and_parts (not (fits i.0.0.1 f.0.receiver)) (is_isolated i.0.0.1 && is_lent f.0.receiver) l.0 in
      let g = and_parts (is_isolated i.0.0.1) (is_lent f.0.receiver) d.1 in
      record {
        by = called_of i.0 f.0 n.0 (recovered_result f.0.result) i.1 f.1 n.1 b.1 p.1;
        kind = function_is f.0.kind b.0;
        receiver = λ h. isolated_sees i.0.0.1 g.0;
        result = subst (Lower core (Some f.0.result)) (sym (said_ty t (recovered_result f.0.result) n.0 p.1)) (recovered_lower core f.0.result);
      }

  pub send_inverse : send_says core ann x name (before t) ≡ Some (said_by t) → SendRule core ann x name t
  send_inverse e =
      let i = bind_some (called core ann x name) _ (said_by t) e in
      let f = bind_some (slice_get core.methods i.0.1) _ (said_by t) i.2 in
      let n = bind_some (through ann x.children (before t)) _ (said_by t) f.2 in
      let p = kept (sends core ann x f.0) (Some (says_of (Some (0, form.Val)) n.0)) (said_by t) n.2 in
      let a = and_parts (is_behaviour f.0.kind) (arguments_go core ann (arguments x.children) f.0.params) p.0 in
      record { by = called_of i.0 f.0 n.0 (Some (0, form.Val)) i.1 f.1 n.1 a.1 p.1; kind = behaviour_is f.0.kind a.0; ty = said_ty t (Some (0, form.Val)) n.0 p.1 }

  pub builtin_inverse : builtin_says core ann x name (before t) ≡ Some (said_by t) → TextRule core ann x name t
  builtin_inverse e =
      let c = bind_some (one_child x.children) _ (said_by t) e in
      let v = bind_some (type_of ann c.0) _ (said_by t) c.2 in
      let s = bind_some (slice_get core.names name) _ (said_by t) v.2 in
      let n = bind_some (through ann x.children (before t)) _ (said_by t) s.2 in
      let p = kept (has_string s.0 v.0) (Some (says_of (Some (3, form.Val)) n.0)) (said_by t) n.2 in
      let a = and_parts (same_text s.0 (codes "string")) (has_text v.0) p.0 in
      record {
        child = c.0;
        children = only_one x.children c.0 c.1;
        value = v.0;
        is_value = v.1;
        named = s.1 ∙ ap Some (text_is s.0 (codes "string") a.0);
        shown = shows v.0 a.1;
        behind = n.0;
        is_behind = n.1;
        ty = said_ty t (Some (3, form.Val)) n.0 p.1;
        live = said_live t (Some (3, form.Val)) n.0 p.1;
        set = said_set t (Some (3, form.Val)) n.0 p.1;
      }

-- ---- from the note

module _ (core : CoreData) (ann : Ann) (x : Node) (t : Note) (meets : IsSaid core ann x t) where
  pub at_kind : (k : NodeKind) → x.kind ≡ k → says core ann x (before t) t.rule k ≡ Some (said_by t)
  at_kind k is = subst (λ (j : NodeKind). says core ann x (before t) t.rule j ≡ Some (said_by t)) is meets

  pub new_of : (k : ℕ) → x.kind ≡ nodes.New k → MakesRule core ann x k t result_of
  new_of k is = new_inverse core ann x k t (new_rule core ann x (before t) t.rule k (said_by t) (at_kind (nodes.New k) is))

  pub spawn_of : (k : ℕ) → x.kind ≡ nodes.Spawn k → MakesRule core ann x k t actor_of
  spawn_of k is = spawn_inverse core ann x k t (spawn_rule core ann x (before t) t.rule k (said_by t) (at_kind (nodes.Spawn k) is))

  pub call_of : (name : ℕ) → x.kind ≡ nodes.Call name → FunctionRule core ann x name t ⊎ (SendRule core ann x name t ⊎ TextRule core ann x name t)
  call_of name is =
      elim (call_rules core ann x (before t) t.rule name (said_by t) (at_kind (nodes.Call name) is)) [
        | inl e ↦ inl (call_inverse core ann x name t e)
        | inr r ↦ elim r [
          | inl e ↦ inl (callrecover_inverse core ann x name t e)
          | inr s ↦ elim s [
            | inl e ↦ inr (inl (send_inverse core ann x name t e))
            | inr e ↦ inr (inr (builtin_inverse core ann x name t e))
          ]
        ]
      ]
