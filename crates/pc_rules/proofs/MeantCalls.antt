-- The computed rules conclude what the records of the rules require, in both directions: calls and control.
use Rattle.std.specs.Prelude.{◌≡◌, ◌⊎◌, ℕ, suc, ◌+◌, ◌-◌, Bool, true, cond, ◌&&◌, ◌||◌, not, nat_eq, List, [], ◌∷◌, ◌++◌, length, take, codes, Option, Some, None, slice_get, refl}
use Rattle.std.proofs.{Common.{inl, inr, ap, sym, subst, ◌∙◌, arith}, lemmas.Option.{same_Some, none-some}, lemmas.Bool.{and_parts, eqb-true, eq-eqb, and_from, or_cases, or_left, or_right}}
use Rattle.pc_caps.specs.{Computed.fits, Tables.{sendable, sendable_form}, declared.capability.Cap.Cap, declared.capability.Form.Form}
use Rattle.pc_caps.specs.declared.capability.Cap.TheVariants as cap
use Rattle.pc_caps.specs.declared.capability.Form.TheVariants as form
use Rattle.pc_tree.specs.declared.kinds.Op.{Op}
use Rattle.pc_core.specs.{declared.declarations.Method.Method, declared.declarations.MethodKind.MethodKind, declared.declarations.ParamInfo.ParamInfo, declared.nodes.Node.Node, CoreData.{CoreData, method_named}}
use Rattle.pc_core.specs.declared.declarations.MethodKind.TheVariants as method
use Rattle.pc_base.proofs.{Options.{bind_some, kept, bind_is}, Bools.false_true}
use Rattle.pc_base.specs.Lists.{◌>>=◌}
use Rattle.pc_ann.specs.declared.annotation.Note.{Note}
use Rattle.pc_masks.specs.Masks.{same, within, first}
use Rattle.pc_rules.specs.{Parts.{says_of, starts, lower, reads_as, goes_to, through_notes, one_note, two_notes, three_notes, last_note, one_type, two_types}, Calls.{argument_goes, arguments_go, arguments, called, is_function, is_behaviour, calls, call_says, new_says, spawn_says, is_isolated, is_lent, argument_sendable, arguments_sendable, lends, recovers, recovered_result, callrecover_says, sends, send_says, same_text, has_text, has_string, builtin_says}, Operators.{is_arithmetic, is_comparison, is_equality, is_add, is_xor, both_read_as, comparable, value_says, arith_says, compare_says, equal_says, join_says, xor_says, meet_masks}, Control.{without_items, seq_says, joined, is_condition, branch_masks, if_says, loop_masks, while_says, recovered, recover_says, start_set, starts_method, gives_result, result_ok, body_says}, Rules.said_by}
use Rattle.pc_valid.specs.Words.{Ty, before, masks_after}
use Rattle.pc_rules.proofs.{Meaning.{OneAfterOther, Reads, BothRead, Go, Sendable, Called, New, Spawn, Call, CallRecover, Send, Builtin, Arith, Compare, Equal, Join, Xor, Seq, If, While, Recover, Body}, Threads.starts_so, Agreeing.same_mask, Meant.{said_parts, parts_said, is_false, is_starts, mask_same, one_is, two_are, three_are, one_typed, typed_one, reads_so, so_reads, ends, ended, ends_if, ended_if, ends_at, ended_at, tested_means, means_tested, both_read, read_both}}

-- ---- arguments

go_means : (core : CoreData) (ts : List Note) (ps : List ParamInfo) → arguments_go core ts ps ≡ true → Go core ts ps
go_means core [] [] e = tt
go_means core [] (p ∷ ps) e = absurd (false_true e)
go_means core (t ∷ ts) [] e = absurd (false_true e)
go_means core (t ∷ ts) (p ∷ ps) e = let k = and_parts (argument_goes core p t.ty) (arguments_go core ts ps) e in (one t.ty k.0, go_means core ts ps k.1)
  where
    one : (o : Option Ty) → argument_goes core p o ≡ true → (v : Ty) × (o ≡ Some v) × (goes_to core v (p.entity, p.cap) ≡ true)
    one None f = absurd (false_true f)
    one (Some v) f = (v, refl, f)

means_go : (core : CoreData) (ts : List Note) (ps : List ParamInfo) → Go core ts ps → arguments_go core ts ps ≡ true
means_go core [] [] g = refl
means_go core [] (p ∷ ps) g = absurd g
means_go core (t ∷ ts) [] g = absurd g
means_go core (t ∷ ts) (p ∷ ps) g = and_from (argument_goes core p t.ty) (arguments_go core ts ps) (ap (argument_goes core p) g.0.1 ∙ g.0.2) (means_go core ts ps g.1)

sendable_means : (ts : List Note) (ps : List ParamInfo) → arguments_sendable ts ps ≡ true → Sendable ts ps
sendable_means [] [] e = tt
sendable_means [] (p ∷ ps) e = absurd (false_true e)
sendable_means (t ∷ ts) [] e = absurd (false_true e)
sendable_means (t ∷ ts) (p ∷ ps) e = let k = and_parts (argument_sendable p t.ty) (arguments_sendable ts ps) e in (one t.ty k.0, sendable_means ts ps k.1)
  where
    one : (o : Option Ty) → argument_sendable p o ≡ true → (v : Ty) × (o ≡ Some v) × ((sendable_form v.1 ≡ true) ⊎ (sendable p.cap ≡ true))
    one None f = absurd (false_true f)
    one (Some v) f = (v, refl, or_cases (sendable_form v.1) (sendable p.cap) f)

means_sendable : (ts : List Note) (ps : List ParamInfo) → Sendable ts ps → arguments_sendable ts ps ≡ true
means_sendable [] [] g = refl
means_sendable [] (p ∷ ps) g = absurd g
means_sendable (t ∷ ts) [] g = absurd g
means_sendable (t ∷ ts) (p ∷ ps) g =
    let v = g.0.0 in
    let may : (sendable_form v.1 || sendable p.cap) ≡ true = elim g.0.2 [ inl e ↦ or_left (sendable_form v.1) (sendable p.cap) e | inr e ↦ or_right (sendable_form v.1) (sendable p.cap) e ] in
    and_from (argument_sendable p t.ty) (arguments_sendable ts ps) (ap (argument_sendable p) g.0.1 ∙ may) (means_sendable ts ps g.1)

-- The last element of a list, and those before it.
one_less : (n : ℕ) → suc (suc n) - 1 ≡ suc (suc n - 1)
one_less n = omega arith

last_step : (s r : Note) (ns : List Note) → last_note (s ∷ r ∷ ns) ≡ last_note (r ∷ ns)
last_step s r ns = ap (slice_get (s ∷ r ∷ ns)) (one_less (length ns))

front_step : (s r : Note) (ns : List Note) → arguments (s ∷ r ∷ ns) ≡ s ∷ arguments (r ∷ ns)
front_step s r ns = ap (λ k. take k (s ∷ r ∷ ns)) (one_less (length ns))

last_is : (ns : List Note) (t : Note) → last_note ns ≡ Some t → ns ≡ arguments ns ++ t ∷ []
last_is [] t e = absurd (none-some t e)
last_is (s ∷ []) t e = ap (λ q. q ∷ []) (same_Some s t e)
last_is (s ∷ r ∷ ns) t e = ap (λ q. s ∷ q) (last_is (r ∷ ns) t (sym (last_step s r ns) ∙ e)) ∙ ap (λ q. q ++ t ∷ []) (sym (front_step s r ns))

is_last : (front : List Note) (t : Note) → (last_note (front ++ t ∷ []) ≡ Some t) × (arguments (front ++ t ∷ []) ≡ front)
is_last [] t = (refl, refl)
is_last (s ∷ []) t = (refl, refl)
is_last (s ∷ r ∷ ns) t =
    let k = is_last (r ∷ ns) t in
    (last_step s r (ns ++ t ∷ []) ∙ k.0, front_step s r (ns ++ t ∷ []) ∙ ap (λ q. s ∷ q) k.1)

is_fun : (k : MethodKind) → is_function k ≡ true → k ≡ method.Fun
is_fun method.Fun e = refl
is_fun k e = absurd (false_true e)

is_be : (k : MethodKind) → is_behaviour k ≡ true → k ≡ method.Be
is_be method.Be e = refl
is_be k e = absurd (false_true e)

isolated_is : (f : Form) → is_isolated f ≡ true → (f ≡ form.Iso) ⊎ (f ≡ form.Trn)
isolated_is form.Iso e = inl refl
isolated_is form.Trn e = inr refl
isolated_is f e = absurd (false_true e)

is_isolated_so : (f : Form) → (f ≡ form.Iso) ⊎ (f ≡ form.Trn) → is_isolated f ≡ true
is_isolated_so f h = elim h [ inl e ↦ ap is_isolated e | inr e ↦ ap is_isolated e ]

lent_is : (k : Cap) → is_lent k ≡ true → (k ≡ cap.Ref) ⊎ (k ≡ cap.Box)
lent_is cap.Ref e = inl refl
lent_is cap.Box e = inr refl
lent_is k e = absurd (false_true e)

is_lent_so : (k : Cap) → (k ≡ cap.Ref) ⊎ (k ≡ cap.Box) → is_lent k ≡ true
is_lent_so k h = elim h [ inl e ↦ ap is_lent e | inr e ↦ ap is_lent e ]

text_is : (a b : List ℕ) → same_text a b ≡ true → a ≡ b
text_is [] [] e = refl
text_is [] (b ∷ bs) e = absurd (false_true e)
text_is (a ∷ as') [] e = absurd (false_true e)
text_is (a ∷ as') (b ∷ bs) e = let p = and_parts (nat_eq a b) (same_text as' bs) e in ap (λ c. c ∷ as') (eqb-true a b p.0) ∙ ap (λ cs. b ∷ cs) (text_is as' bs p.1)

text_self : (a : List ℕ) → same_text a a ≡ true
text_self [] = refl
text_self (a ∷ as') = and_from (nat_eq a a) (same_text as' as') (eq-eqb a a refl) (text_self as')

-- ---- calls

module _ (core : CoreData) (own : Note) (ns : List Note) where
  pub new_means : (k : ℕ) → new_says core ns k (before own) ≡ Some (said_by own) → New core own ns k
  new_means k h =
      let f = bind_some (slice_get core.methods k) _ (said_by own) h in
      let p = ends_if own ns (arguments_go core ns f.0.params) (Some f.0.result) f.2 in
      record { called = f.0; is_called = f.1; go = go_means core ns f.0.params p.0; type = p.1; masks = p.2 }

  pub means_new : (k : ℕ) → New core own ns k → new_says core ns k (before own) ≡ Some (said_by own)
  means_new k r =
      bind_is (slice_get core.methods k) _ r.called r.is_called
      ∙ ended_if own ns (arguments_go core ns r.called.params) (Some r.called.result) (means_go core ns r.called.params r.go) r.type r.masks

  pub spawn_means : (k : ℕ) → spawn_says core ns k (before own) ≡ Some (said_by own) → Spawn core own ns k
  spawn_means k h =
      let f = bind_some (slice_get core.methods k) _ (said_by own) h in
      let p = ends_if own ns (arguments_go core ns f.0.params) (Some (f.0.entity, form.Tag)) f.2 in
      record { called = f.0; is_called = f.1; go = go_means core ns f.0.params p.0; type = p.1; masks = p.2 }

  pub means_spawn : (k : ℕ) → Spawn core own ns k → spawn_says core ns k (before own) ≡ Some (said_by own)
  means_spawn k r =
      bind_is (slice_get core.methods k) _ r.called r.is_called
      ∙ ended_if own ns (arguments_go core ns r.called.params) (Some (r.called.entity, form.Tag)) (means_go core ns r.called.params r.go) r.type r.masks

  -- The receiver and the method of a call.
  called_means : (name : ℕ) (i : Ty × ℕ) (f : Method) → called core ns name ≡ Some i → slice_get core.methods i.1 ≡ Some f → (c : Called core ns name) × (c.called ≡ f) × (c.arguments ≡ arguments ns) × (c.to ≡ i.0)
  called_means name i f h g =
      let l = bind_some (last_note ns) _ i h in
      let o = bind_some l.0.ty _ i l.2 in
      let k = bind_some (method_named core o.0.0 name) _ i o.2 in
      let is = same_Some (o.0, k.0) i k.2 in (
        record {
          arguments = arguments ns;
          receiver = l.0;
          children = last_is ns l.0 l.1;
          to = o.0;
          is_to = o.1;
          number = k.0;
          is_number = k.1;
          called = f;
          is_called = ap (λ (q : Ty × ℕ). slice_get core.methods q.1) is ∙ g;
        },
        refl,
        refl,
        ap (λ (q : Ty × ℕ). q.0) is,
      )

  means_called : (name : ℕ) (c : Called core ns name) → (called core ns name ≡ Some (c.to, c.number)) × (arguments ns ≡ c.arguments)
  means_called name c = (
    bind_is (last_note ns) _ c.receiver (ap last_note c.children ∙ (is_last c.arguments c.receiver).0) ∙ bind_is c.receiver.ty _ c.to c.is_to ∙ bind_is (method_named core c.to.0 name) _ c.number c.is_number,
    ap arguments c.children ∙ (is_last c.arguments c.receiver).1,
  )

  go_of : (name : ℕ) (f : Method) (c : Called core ns name) → c.called ≡ f → c.arguments ≡ arguments ns → arguments_go core (arguments ns) f.params ≡ true → Go core c.arguments c.called.params
  go_of name f c is args e = subst (λ (z : Method). Go core c.arguments z.params) (sym is) (subst (λ ts. Go core ts f.params) (sym args) (go_means core (arguments ns) f.params e))

  of_go : (name : ℕ) (c : Called core ns name) → Go core c.arguments c.called.params → arguments_go core (arguments ns) c.called.params ≡ true
  of_go name c g = ap (λ ts. arguments_go core ts c.called.params) (means_called name c).1 ∙ means_go core c.arguments c.called.params g

  pub call_means : (name : ℕ) → call_says core ns name (before own) ≡ Some (said_by own) → Call core own ns name
  call_means name h =
      let i = bind_some (called core ns name) _ (said_by own) h in
      let f = bind_some (slice_get core.methods i.0.1) _ (said_by own) i.2 in
      let p = ends_if own ns (calls core ns i.0.0 f.0) (Some f.0.result) f.2 in
      let c = called_means name i.0 f.0 i.1 f.1 in
      let a = and_parts (is_function f.0.kind) (arguments_go core (arguments ns) f.0.params && fits i.0.0.1 f.0.receiver) p.0 in
      let b = and_parts (arguments_go core (arguments ns) f.0.params) (fits i.0.0.1 f.0.receiver) a.1 in
      record {
        call = c.0;
        function = ap (λ (z : Method). z.kind) c.1 ∙ is_fun f.0.kind a.0;
        go = go_of name f.0 c.0 c.1 c.2 b.0;
        fit = ap (λ (t : Ty). fits t.1 c.0.called.receiver) c.3 ∙ ap (λ (z : Method). fits i.0.0.1 z.receiver) c.1 ∙ b.1;
        type = p.1 ∙ ap (λ (z : Method). Some z.result) (sym c.1);
        masks = p.2;
      }

  pub means_call : (name : ℕ) → Call core own ns name → call_says core ns name (before own) ≡ Some (said_by own)
  means_call name r =
      let f = r.call.called in
      let test : calls core ns r.call.to f ≡ true =
      and_from (is_function f.kind) (arguments_go core (arguments ns) f.params && fits r.call.to.1 f.receiver) (ap is_function r.function)
      (and_from (arguments_go core (arguments ns) f.params) (fits r.call.to.1 f.receiver) (of_go name r.call r.go) r.fit) in
      bind_is (called core ns name) _ (r.call.to, r.call.number) (means_called name r.call).0
      ∙ bind_is (slice_get core.methods r.call.number) _ f r.call.is_called
      ∙ ended_if own ns (calls core ns r.call.to f) (Some f.result) test r.type r.masks

  pub callrecover_means : (name : ℕ) → callrecover_says core ns name (before own) ≡ Some (said_by own) → CallRecover core own ns name
  callrecover_means name h =
      let i = bind_some (called core ns name) _ (said_by own) h in
      let f = bind_some (slice_get core.methods i.0.1) _ (said_by own) i.2 in
      let p = ends_if own ns (recovers core ns i.0.0 f.0) (recovered_result f.0.result) f.2 in
      let c = called_means name i.0 f.0 i.1 f.1 in
      let a = and_parts (is_function f.0.kind && arguments_go core (arguments ns) f.0.params) (lends i.0.0.1 f.0.receiver && arguments_sendable (arguments ns) f.0.params) p.0 in
      let b = and_parts (is_function f.0.kind) (arguments_go core (arguments ns) f.0.params) a.0 in
      let d = and_parts (lends i.0.0.1 f.0.receiver) (arguments_sendable (arguments ns) f.0.params) a.1 in
      let e = and_parts (not (fits i.0.0.1 f.0.receiver)) (is_isolated i.0.0.1 && is_lent f.0.receiver) d.0 in
      let g = and_parts (is_isolated i.0.0.1) (is_lent f.0.receiver) e.1 in
      record {
        call = c.0;
        function = ap (λ (z : Method). z.kind) c.1 ∙ is_fun f.0.kind b.0;
        go = go_of name f.0 c.0 c.1 c.2 b.1;
        no_fit = ap (λ (t : Ty). fits t.1 c.0.called.receiver) c.3 ∙ ap (λ (z : Method). fits i.0.0.1 z.receiver) c.1 ∙ is_false (fits i.0.0.1 f.0.receiver) e.0;
        isolated = isolated_is c.0.to.1 (ap (λ (t : Ty). is_isolated t.1) c.3 ∙ g.0);
        lent = lent_is c.0.called.receiver (ap (λ (z : Method). is_lent z.receiver) c.1 ∙ g.1);
        may_go = subst (λ (z : Method). Sendable c.0.arguments z.params) (sym c.1) (subst (λ ts. Sendable ts f.0.params) (sym c.2) (sendable_means (arguments ns) f.0.params d.1));
        type = p.1 ∙ ap (λ (z : Method). recovered_result z.result) (sym c.1);
        masks = p.2;
      }

  pub means_callrecover : (name : ℕ) → CallRecover core own ns name → callrecover_says core ns name (before own) ≡ Some (said_by own)
  means_callrecover name r =
      let f = r.call.called in
      let o = r.call.to in
      let may : arguments_sendable (arguments ns) f.params ≡ true = ap (λ ts. arguments_sendable ts f.params) (means_called name r.call).1 ∙ means_sendable r.call.arguments f.params r.may_go in
      let lent : lends o.1 f.receiver ≡ true =
      and_from (not (fits o.1 f.receiver)) (is_isolated o.1 && is_lent f.receiver) (ap not r.no_fit)
      (and_from (is_isolated o.1) (is_lent f.receiver) (is_isolated_so o.1 r.isolated) (is_lent_so f.receiver r.lent)) in
      let test : recovers core ns o f ≡ true =
      and_from (is_function f.kind && arguments_go core (arguments ns) f.params) (lends o.1 f.receiver && arguments_sendable (arguments ns) f.params)
      (and_from (is_function f.kind) (arguments_go core (arguments ns) f.params) (ap is_function r.function) (of_go name r.call r.go))
      (and_from (lends o.1 f.receiver) (arguments_sendable (arguments ns) f.params) lent may) in
      bind_is (called core ns name) _ (o, r.call.number) (means_called name r.call).0
      ∙ bind_is (slice_get core.methods r.call.number) _ f r.call.is_called
      ∙ ended_if own ns (recovers core ns o f) (recovered_result f.result) test r.type r.masks

  pub send_means : (name : ℕ) → send_says core ns name (before own) ≡ Some (said_by own) → Send core own ns name
  send_means name h =
      let i = bind_some (called core ns name) _ (said_by own) h in
      let f = bind_some (slice_get core.methods i.0.1) _ (said_by own) i.2 in
      let p = ends_if own ns (sends core ns f.0) (Some (0, form.Val)) f.2 in
      let c = called_means name i.0 f.0 i.1 f.1 in
      let a = and_parts (is_behaviour f.0.kind) (arguments_go core (arguments ns) f.0.params) p.0 in
      record { call = c.0; behaviour = ap (λ (z : Method). z.kind) c.1 ∙ is_be f.0.kind a.0; go = go_of name f.0 c.0 c.1 c.2 a.1; type = p.1; masks = p.2 }

  pub means_send : (name : ℕ) → Send core own ns name → send_says core ns name (before own) ≡ Some (said_by own)
  means_send name r =
      let f = r.call.called in
      let test : sends core ns f ≡ true = and_from (is_behaviour f.kind) (arguments_go core (arguments ns) f.params) (ap is_behaviour r.behaviour) (of_go name r.call r.go) in
      bind_is (called core ns name) _ (r.call.to, r.call.number) (means_called name r.call).0
      ∙ bind_is (slice_get core.methods r.call.number) _ f r.call.is_called
      ∙ ended_if own ns (sends core ns f) (Some (0, form.Val)) test r.type r.masks

  pub builtin_means : (name : ℕ) → builtin_says core ns name (before own) ≡ Some (said_by own) → Builtin core own ns name
  builtin_means name h =
      let v = bind_some (one_type ns) _ (said_by own) h in
      let t = one_typed ns v.0 v.1 in
      let x = bind_some (slice_get core.names name) _ (said_by own) v.2 in
      let p = ends_if own ns (has_string x.0 v.0) (Some (3, form.Val)) x.2 in
      let a = and_parts (same_text x.0 (codes "string")) (has_text v.0) p.0 in
      record {
        child = t.0;
        children = t.1;
        is_string = x.1 ∙ ap Some (text_is x.0 (codes "string") a.0);
        reads = elim (or_cases (reads_as 1 v.0) (reads_as 2 v.0) a.1) [ inl e ↦ inl (reads_so 1 t.0.ty v.0 t.2 e) | inr e ↦ inr (reads_so 2 t.0.ty v.0 t.2 e) ];
        type = p.1;
        masks = p.2;
      }

  reads_any : (o : Option Ty) → Reads 1 o ⊎ Reads 2 o → (v : Ty) × (o ≡ Some v) × (has_text v ≡ true)
  reads_any o h = elim h [
    | inl r ↦ (r.0, r.1, or_left (reads_as 1 r.0) (reads_as 2 r.0) (so_reads 1 o r))
    | inr r ↦ (r.0, r.1, or_right (reads_as 1 r.0) (reads_as 2 r.0) (so_reads 2 o r))
  ]

  pub means_builtin : (name : ℕ) → Builtin core own ns name → builtin_says core ns name (before own) ≡ Some (said_by own)
  means_builtin name r =
      let v = reads_any r.child.ty r.reads in
      let test : has_string (codes "string") v.0 ≡ true = and_from (same_text (codes "string") (codes "string")) (has_text v.0) (text_self (codes "string")) v.2 in
      bind_is (one_type ns) _ v.0 (typed_one ns r.child v.0 r.children v.1)
      ∙ bind_is (slice_get core.names name) _ (codes "string") r.is_string
      ∙ ended_if own ns (has_string (codes "string") v.0) (Some (3, form.Val)) test r.type r.masks

  -- ---- control

  pub seq_means : (x : Node) → seq_says core ns x (before own) ≡ Some (said_by own) → Seq core own ns x
  seq_means x h =
      let l = bind_some (last_note ns) _ (said_by own) h in
      let p = ends_at own ns (λ n. l.0.ty) (λ n. (without_items core x.children n.0, n.1)) l.2 in
      record { front = arguments ns; last = l.0; children = last_is ns l.0 l.1; type = p.2; after_children = p.0; in_order = p.1; masks = p.3 }

  pub means_seq : (x : Node) → Seq core own ns x → seq_says core ns x (before own) ≡ Some (said_by own)
  means_seq x r =
      bind_is (last_note ns) _ r.last (ap last_note r.children ∙ (is_last r.front r.last).0)
      ∙ ended_at own ns (λ n. r.last.ty) (λ n. (without_items core x.children n.0, n.1)) r.after_children r.in_order r.type r.masks

  condition_is : (o : Option Ty) → is_condition o ≡ true → Reads 2 o
  condition_is None e = absurd (false_true e)
  condition_is (Some v) e = reads_so 2 (Some v) v refl e

  is_condition_so : (o : Option Ty) → Reads 2 o → is_condition o ≡ true
  is_condition_so o r = ap is_condition r.1 ∙ so_reads 2 o r

  pub if_means : if_says core ns (before own) ≡ Some (said_by own) → If core own ns
  if_means h =
      let c = bind_some (three_notes ns) _ (said_by own) h in
      let n = bind_some (branch_masks c.0 (before own)) _ (said_by own) c.2 in
      let k = kept (is_condition c.0.0.ty) (Some (says_of (joined core c.0.1.ty c.0.2.ty) n.0)) (said_by own) n.2 in
      let b = kept (starts c.0.0 (before own) && (starts c.0.1 (masks_after c.0.0) && starts c.0.2 (masks_after c.0.0))) (Some (meet_masks (masks_after c.0.1) (masks_after c.0.2))) n.0 n.1 in
      let s = and_parts (starts c.0.0 (before own)) (starts c.0.1 (masks_after c.0.0) && starts c.0.2 (masks_after c.0.0)) b.0 in
      let t = and_parts (starts c.0.1 (masks_after c.0.0)) (starts c.0.2 (masks_after c.0.0)) s.1 in
      let p = said_parts own (joined core c.0.1.ty c.0.2.ty) n.0 k.1 in
      record {
        condition = c.0.0;
        yes = c.0.1;
        no = c.0.2;
        children = three_are ns c.0 c.1;
        reads = condition_is c.0.0.ty k.0;
        type = p.0;
        starts = starts_so c.0.0 (before own) s.0;
        yes_starts = starts_so c.0.1 (masks_after c.0.0) t.0;
        no_starts = starts_so c.0.2 (masks_after c.0.0) t.1;
        masks = p.1 ∙ sym (same_Some (meet_masks (masks_after c.0.1) (masks_after c.0.2)) n.0 b.1);
      }

  pub means_if : If core own ns → if_says core ns (before own) ≡ Some (said_by own)
  means_if r =
      let c : Note × Note × Note = (r.condition, r.yes, r.no) in
      let start = and_from (starts r.condition (before own)) (starts r.yes (masks_after r.condition) && starts r.no (masks_after r.condition)) (is_starts r.condition (before own) r.starts)
      (and_from (starts r.yes (masks_after r.condition)) (starts r.no (masks_after r.condition)) (is_starts r.yes (masks_after r.condition) r.yes_starts) (is_starts r.no (masks_after r.condition) r.no_starts)) in
      let masks : branch_masks c (before own) ≡ Some (meet_masks (masks_after r.yes) (masks_after r.no)) = ap (λ b. cond b (Some (meet_masks (masks_after r.yes) (masks_after r.no))) None) start in
      bind_is (three_notes ns) _ c (ap three_notes r.children)
      ∙ bind_is (branch_masks c (before own)) _ (meet_masks (masks_after r.yes) (masks_after r.no)) masks
      ∙ ap (λ b. cond b (Some (says_of (joined core r.yes.ty r.no.ty) (meet_masks (masks_after r.yes) (masks_after r.no)))) None) (is_condition_so r.condition.ty r.reads)
      ∙ parts_said own (joined core r.yes.ty r.no.ty) (meet_masks (masks_after r.yes) (masks_after r.no)) r.type r.masks

  pub while_means : while_says ns (before own) ≡ Some (said_by own) → While own ns
  while_means h =
      let c = bind_some (two_notes ns) _ (said_by own) h in
      let n = bind_some (loop_masks c.0 (before own)) _ (said_by own) c.2 in
      let k = kept (is_condition c.0.0.ty) (Some (says_of (Some (0, form.Val)) n.0)) (said_by own) n.2 in
      let first_test = starts c.0.0 (before own) && starts c.0.1 (masks_after c.0.0) in
      let second_test = within own.live_before c.0.1.live_after && same c.0.1.set_after own.set_before in
      let b = kept (first_test && second_test) (Some (masks_after c.0.0)) n.0 n.1 in
      let s = and_parts first_test second_test b.0 in
      let t = and_parts (starts c.0.0 (before own)) (starts c.0.1 (masks_after c.0.0)) s.0 in
      let u = and_parts (within own.live_before c.0.1.live_after) (same c.0.1.set_after own.set_before) s.1 in
      let p = said_parts own (Some (0, form.Val)) n.0 k.1 in
      record {
        condition = c.0.0;
        body = c.0.1;
        children = two_are ns c.0 c.1;
        reads = condition_is c.0.0.ty k.0;
        type = p.0;
        starts = starts_so c.0.0 (before own) t.0;
        body_starts = starts_so c.0.1 (masks_after c.0.0) t.1;
        keeps = u.0;
        same_set = same_mask c.0.1.set_after own.set_before u.1;
        masks = p.1 ∙ sym (same_Some (masks_after c.0.0) n.0 b.1);
      }

  pub means_while : While own ns → while_says ns (before own) ≡ Some (said_by own)
  means_while r =
      let c : Note × Note = (r.condition, r.body) in
      let first_test = and_from (starts r.condition (before own)) (starts r.body (masks_after r.condition)) (is_starts r.condition (before own) r.starts) (is_starts r.body (masks_after r.condition) r.body_starts) in
      let second_test = and_from (within own.live_before r.body.live_after) (same r.body.set_after own.set_before) r.keeps (mask_same r.body.set_after own.set_before r.same_set) in
      let test = and_from (starts r.condition (before own) && starts r.body (masks_after r.condition)) (within own.live_before r.body.live_after && same r.body.set_after own.set_before) first_test second_test in
      let masks : loop_masks c (before own) ≡ Some (masks_after r.condition) = ap (λ b. cond b (Some (masks_after r.condition)) None) test in
      bind_is (two_notes ns) _ c (ap two_notes r.children)
      ∙ bind_is (loop_masks c (before own)) _ (masks_after r.condition) masks
      ∙ ap (λ b. cond b (Some (says_of (Some (0, form.Val)) (masks_after r.condition))) None) (is_condition_so r.condition.ty r.reads)
      ∙ parts_said own (Some (0, form.Val)) (masks_after r.condition) r.type r.masks

  pub recover_means : (k : Option Cap) → recover_says ns k (before own) ≡ Some (said_by own) → Recover own ns k
  recover_means k h =
      let v = bind_some (one_type ns) _ (said_by own) h in
      let t = one_typed ns v.0 v.1 in
      let f = bind_some (recovered k v.0.1) (λ g. through_notes ns (before own) >>= λ n. Some (says_of (Some (v.0.0, g)) n)) (said_by own) v.2 in
      let p = ends own ns (Some (v.0.0, f.0)) f.2 in
      record { child = t.0; children = t.1; value = v.0; is_value = t.2; lifted = f.0; is_lifted = f.1; type = p.0; masks = p.1 }

  pub means_recover : (k : Option Cap) → Recover own ns k → recover_says ns k (before own) ≡ Some (said_by own)
  means_recover k r =
      bind_is (one_type ns) _ r.value (typed_one ns r.child r.value r.children r.is_value)
      ∙ bind_is (recovered k r.value.1) (λ g. through_notes ns (before own) >>= λ n. Some (says_of (Some (r.value.0, g)) n)) r.lifted r.is_lifted
      ∙ ended own ns (Some (r.value.0, r.lifted)) r.type r.masks

  result_is : (k : MethodKind) (r : Ty) (o : Option Ty) → result_ok core k r o ≡ true → k ≡ method.Fun → (v : Ty) × (o ≡ Some v) × (lower core v r ≡ true)
  result_is method.Fun r None e h = absurd (false_true e)
  result_is method.Fun r (Some v) e h = (v, refl, e)
  result_is k r o e h = absurd (cc h)

  is_result : (k : MethodKind) (r : Ty) (o : Option Ty) → (k ≡ method.Fun → (v : Ty) × (o ≡ Some v) × (lower core v r ≡ true)) → result_ok core k r o ≡ true
  is_result method.Fun r o h = let g = h refl in ap (gives_result core r) g.1 ∙ g.2
  is_result k r o h = refl

  pub body_means : (x : Node) → body_says core ns x (before own) ≡ Some (said_by own) → Body core own ns x
  body_means x h =
      let f = bind_some (slice_get core.methods x.method) _ (said_by own) h in
      let t = bind_some (one_note ns) _ (said_by own) f.2 in
      let p = ends_if own ns (starts_method core f.0 (before own) && result_ok core f.0.kind f.0.result t.0.ty) None t.2 in
      let a = and_parts (starts_method core f.0 (before own)) (result_ok core f.0.kind f.0.result t.0.ty) p.0 in
      let b = and_parts (same own.live_before (first (1 + length f.0.params))) (same own.set_before (start_set core f.0)) a.0 in
      record {
        home = f.0;
        is_home = f.1;
        child = t.0;
        children = one_is ns t.0 t.1;
        live = same_mask own.live_before (first (1 + length f.0.params)) b.0;
        set = same_mask own.set_before (start_set core f.0) b.1;
        result = result_is f.0.kind f.0.result t.0.ty a.1;
        type = p.1;
        masks = p.2;
      }

  pub means_body : (x : Node) → Body core own ns x → body_says core ns x (before own) ≡ Some (said_by own)
  means_body x r =
      let test = and_from (starts_method core r.home (before own)) (result_ok core r.home.kind r.home.result r.child.ty)
      (and_from (same own.live_before (first (1 + length r.home.params))) (same own.set_before (start_set core r.home)) (mask_same own.live_before (first (1 + length r.home.params)) r.live) (mask_same own.set_before (start_set core r.home) r.set))
      (is_result r.home.kind r.home.result r.child.ty r.result) in
      bind_is (slice_get core.methods x.method) _ r.home r.is_home
      ∙ bind_is (one_note ns) _ r.child (ap one_note r.children)
      ∙ ended_if own ns (starts_method core r.home (before own) && result_ok core r.home.kind r.home.result r.child.ty) None test r.type r.masks

-- ---- operators on two values

module _ (own : Note) (ns : List Note) (o : Op) where
  -- The operator's test, and the values' test.
  asked_means : (a : Bool) (t : Ty × Ty → Bool) (e : ℕ) → (two_types ns >>= λ v. cond (a && t v) (value_says e ns (before own)) None) ≡ Some (said_by own) → (vs : Ty × Ty) × (two_types ns ≡ Some vs) × (a ≡ true) × (t vs ≡ true) × (own.ty ≡ Some (e, form.Val)) × OneAfterOther ns (before own) (masks_after own)
  asked_means a t e h =
      let p = tested_means own ns (λ v. a && t v) e h in
      let q = and_parts a (t p.0) p.2 in
      (p.0, p.1, q.0, q.1, p.3, p.4)

  means_asked : (a : Bool) (t : Ty × Ty → Bool) (e : ℕ) (vs : Ty × Ty) → two_types ns ≡ Some vs → a ≡ true → t vs ≡ true → own.ty ≡ Some (e, form.Val) → OneAfterOther ns (before own) (masks_after own) → (two_types ns >>= λ v. cond (a && t v) (value_says e ns (before own)) None) ≡ Some (said_by own)
  means_asked a t e vs h f g ty m = means_tested own ns (λ v. a && t v) e vs h (and_from a (t vs) f g) ty m

  pub arith_means : arith_says ns o (before own) ≡ Some (said_by own) → Arith own ns o
  arith_means h = let p = asked_means (is_arithmetic o) (both_read_as 1) 1 h in record { operator = p.2; both = both_read own ns 1 p.0 p.1 p.3; type = p.4; masks = p.5 }

  pub means_arith : Arith own ns o → arith_says ns o (before own) ≡ Some (said_by own)
  means_arith r = let b = read_both own ns 1 r.both in means_asked (is_arithmetic o) (both_read_as 1) 1 b.0 b.1 r.operator b.2 r.type r.masks

  pub compare_means : compare_says ns o (before own) ≡ Some (said_by own) → Compare own ns o
  compare_means h = let p = asked_means (is_comparison o) (both_read_as 1) 2 h in record { operator = p.2; both = both_read own ns 1 p.0 p.1 p.3; type = p.4; masks = p.5 }

  pub means_compare : Compare own ns o → compare_says ns o (before own) ≡ Some (said_by own)
  means_compare r = let b = read_both own ns 1 r.both in means_asked (is_comparison o) (both_read_as 1) 2 b.0 b.1 r.operator b.2 r.type r.masks

  pub join_means : join_says ns o (before own) ≡ Some (said_by own) → Join own ns o
  join_means h = let p = asked_means (is_add o) (both_read_as 3) 3 h in record { operator = p.2; both = both_read own ns 3 p.0 p.1 p.3; type = p.4; masks = p.5 }

  pub means_join : Join own ns o → join_says ns o (before own) ≡ Some (said_by own)
  means_join r = let b = read_both own ns 3 r.both in means_asked (is_add o) (both_read_as 3) 3 b.0 b.1 r.operator b.2 r.type r.masks

  pub xor_means : xor_says ns o (before own) ≡ Some (said_by own) → Xor own ns o
  xor_means h = let p = asked_means (is_xor o) (both_read_as 2) 2 h in record { operator = p.2; both = both_read own ns 2 p.0 p.1 p.3; type = p.4; masks = p.5 }

  pub means_xor : Xor own ns o → xor_says ns o (before own) ≡ Some (said_by own)
  means_xor r = let b = read_both own ns 2 r.both in means_asked (is_xor o) (both_read_as 2) 2 b.0 b.1 r.operator b.2 r.type r.masks

  comparable_is : (vs : Ty × Ty) → two_types ns ≡ Some vs → comparable vs ≡ true → BothRead 1 ns ⊎ (BothRead 2 ns ⊎ BothRead 3 ns)
  comparable_is vs h e = elim (or_cases (both_read_as 1 vs) (both_read_as 2 vs || both_read_as 3 vs) e) [
    | inl p ↦ inl (both_read own ns 1 vs h p)
    | inr q ↦ elim (or_cases (both_read_as 2 vs) (both_read_as 3 vs) q) [ inl p ↦ inr (inl (both_read own ns 2 vs h p)) | inr p ↦ inr (inr (both_read own ns 3 vs h p)) ]
  ]

  is_comparable : BothRead 1 ns ⊎ (BothRead 2 ns ⊎ BothRead 3 ns) → (vs : Ty × Ty) × (two_types ns ≡ Some vs) × (comparable vs ≡ true)
  is_comparable r = elim r [
    | inl a ↦ let b = read_both own ns 1 a in (b.0, b.1, or_left (both_read_as 1 b.0) (both_read_as 2 b.0 || both_read_as 3 b.0) b.2)
    | inr q ↦ elim q [
      | inl a ↦ let b = read_both own ns 2 a in (b.0, b.1, or_right (both_read_as 1 b.0) (both_read_as 2 b.0 || both_read_as 3 b.0) (or_left (both_read_as 2 b.0) (both_read_as 3 b.0) b.2))
      | inr a ↦ let b = read_both own ns 3 a in (b.0, b.1, or_right (both_read_as 1 b.0) (both_read_as 2 b.0 || both_read_as 3 b.0) (or_right (both_read_as 2 b.0) (both_read_as 3 b.0) b.2))
    ]
  ]

  pub equal_means : equal_says ns o (before own) ≡ Some (said_by own) → Equal own ns o
  equal_means h = let p = asked_means (is_equality o) comparable 2 h in record { operator = p.2; both = comparable_is p.0 p.1 p.3; type = p.4; masks = p.5 }

  pub means_equal : Equal own ns o → equal_says ns o (before own) ≡ Some (said_by own)
  means_equal r = let b = is_comparable r.both in means_asked (is_equality o) comparable 2 b.0 b.1 r.operator b.2 r.type r.masks
