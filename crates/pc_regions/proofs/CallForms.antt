-- What the rules of calls state about forms.
use Rattle.std.specs.Prelude.{◌≡◌, ◌⊎◌, ℕ, true, ◌&&◌, not, Some, slice_get}
use Rattle.std.proofs.{Common.{inl, inr}, lemmas.Bool.and_parts}
use Rattle.pc_caps.specs.{Computed.{fits, is_below}, Tables.unalias}
use Rattle.pc_core.specs.declared.declarations.MethodKind.TheVariants as method
use Rattle.pc_core.specs.{declared.nodes.Node.Node, CoreData.CoreData}
use Rattle.pc_core.specs.declared.nodes.NodeKind.TheVariants as nodes
use Rattle.pc_base.proofs.Options.{bind_some, kept}
use Rattle.pc_ann.specs.{declared.annotation.Note.Note, declared.annotation.Ann.Ann}
use Rattle.pc_rules.specs.{Parts.{says_of, through}, Calls.{is_function, is_isolated, is_lent, lends, recovered_result}, Rules.said_by}
use Rattle.pc_valid.specs.Words.{before}
use Rattle.pc_rules.proofs.ByNumber.{arguments, arguments_go, arguments_sendable, called, calls, recovers, call_says, callrecover_says, IsSaid}
use Rattle.pc_types.proofs.InverseCalls.{CalledRule, SendRule, TextRule, said_ty, function_is, call_rules, called_of, send_inverse, builtin_inverse, at_kind}

-- A function is called on a receiver that may be stored where the method has it.
pub record CallRule (core : CoreData) (ann : Ann) (x : Node) (name : ℕ) (t : Note) : Type 0 where
  pub by : CalledRule core ann x name t
  pub kind : by.own.kind ≡ method.Fun
  pub receiver : is_below by.receiver.1 (unalias by.own.receiver) ≡ true
  pub ty : t.ty ≡ Some by.own.result

-- A function is called on an alias of an isolated object, which is lent to it, with arguments that may be sent.
pub record LendRule (core : CoreData) (ann : Ann) (x : Node) (name : ℕ) (t : Note) : Type 0 where
  pub by : CalledRule core ann x name t
  pub kind : by.own.kind ≡ method.Fun
  pub isolated : is_isolated by.receiver.1 ≡ true
  pub lent : is_lent by.own.receiver ≡ true
  pub sendable : arguments_sendable ann (arguments x.children) by.own.params ≡ true
  pub ty : t.ty ≡ recovered_result by.own.result

module _ (core : CoreData) (ann : Ann) (x : Node) (name : ℕ) (t : Note) where
  call_rule : call_says core ann x name (before t) ≡ Some (said_by t) → CallRule core ann x name t
  call_rule e =
      let i = bind_some (called core ann x name) _ (said_by t) e in
      let f = bind_some (slice_get core.methods i.0.1) _ (said_by t) i.2 in
      let n = bind_some (through ann x.children (before t)) _ (said_by t) f.2 in
      let p = kept (calls core ann x i.0.0 f.0) (Some (says_of (Some f.0.result) n.0)) (said_by t) n.2 in
      let a = and_parts (is_function f.0.kind) (arguments_go core ann (arguments x.children) f.0.params && fits i.0.0.1 f.0.receiver) p.0 in
      let b = and_parts (arguments_go core ann (arguments x.children) f.0.params) (fits i.0.0.1 f.0.receiver) a.1 in
      record {
        by = called_of core ann x name t i.0 f.0 n.0 (Some f.0.result) i.1 f.1 n.1 b.0 p.1;
        kind = function_is f.0.kind a.0;
        receiver = b.1;
        ty = said_ty t (Some f.0.result) n.0 p.1;
      }

  lend_rule : callrecover_says core ann x name (before t) ≡ Some (said_by t) → LendRule core ann x name t
  lend_rule e =
      let i = bind_some (called core ann x name) _ (said_by t) e in
      let f = bind_some (slice_get core.methods i.0.1) _ (said_by t) i.2 in
      let n = bind_some (through ann x.children (before t)) _ (said_by t) f.2 in
      let p = kept (recovers core ann x i.0.0 f.0) (Some (says_of (recovered_result f.0.result) n.0)) (said_by t) n.2 in
      let a = and_parts (is_function f.0.kind && arguments_go core ann (arguments x.children) f.0.params) (lends i.0.0.1 f.0.receiver && arguments_sendable ann (arguments x.children) f.0.params) p.0 in
      let b = and_parts (is_function f.0.kind) (arguments_go core ann (arguments x.children) f.0.params) a.0 in
      let l = and_parts (lends i.0.0.1 f.0.receiver) (arguments_sendable ann (arguments x.children) f.0.params) a.1 in
      let d = and_parts (not (fits i.0.0.1 f.0.receiver)) (is_isolated i.0.0.1 && is_lent f.0.receiver) l.0 in
      let g = and_parts (is_isolated i.0.0.1) (is_lent f.0.receiver) d.1 in
      record {
        by = called_of core ann x name t i.0 f.0 n.0 (recovered_result f.0.result) i.1 f.1 n.1 b.1 p.1;
        kind = function_is f.0.kind b.0;
        isolated = g.0;
        lent = g.1;
        sendable = l.1;
        ty = said_ty t (recovered_result f.0.result) n.0 p.1;
      }

  -- One of four rules.
  pub call_forms : IsSaid core ann x t → x.kind ≡ nodes.Call name → CallRule core ann x name t ⊎ (LendRule core ann x name t ⊎ (SendRule core ann x name t ⊎ TextRule core ann x name t))
  call_forms meets is =
      elim (call_rules core ann x (before t) t.rule name (said_by t) (at_kind core ann x t meets (nodes.Call name) is)) [
        | inl e ↦ inl (call_rule e)
        | inr r ↦ elim r [
          | inl e ↦ inr (inl (lend_rule e))
          | inr s ↦ elim s [
            | inl e ↦ inr (inr (inl (send_inverse core ann x name t e)))
            | inr e ↦ inr (inr (inr (builtin_inverse core ann x name t e)))
          ]
        ]
      ]
