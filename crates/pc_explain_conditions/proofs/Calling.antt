-- Rules for constructors, calls and messages, and for equality: each against its conditions.
use Rattle.std.specs.Prelude.{◌≡◌, ℕ, zero, suc, ◌+◌, ◌-◌, ◌<◌, ◌≤◌, Bool, true, false, ◌&&◌, ◌||◌, not, List, [], ◌∷◌, length, take, Option, Some, None, nat_eq, slice_get, codes, if◌then◌else◌, refl}
use Rattle.std.proofs.{Common.{inl, inr, ap, sym, subst, ◌∙◌, arith}, lemmas.Bool.{eqb-true, eq-eqb}, lemmas.Bool.Decides.eqb_tells, lemmas.Option.{same_Some, none-some}}
use Rattle.pc_base.specs.Lists.{◌>>=◌}
use Rattle.pc_base.proofs.Bools.{false_true, second_true}
use Rattle.pc_ann.specs.declared.annotation.Note.{Note}
use Rattle.pc_ann.specs.declared.annotation.Rule.TheVariants as rule
use Rattle.pc_caps.specs.{Computed.fits, Tables.{sendable, sendable_form}, declared.capability.Cap.Cap, declared.capability.Form.Form}
use Rattle.pc_caps.specs.declared.capability.Form.TheVariants as form
use Rattle.pc_core.specs.{CoreData.{CoreData, method_named}, declared.declarations.Method.Method, declared.declarations.ParamInfo.ParamInfo, declared.nodes.Node.Node}
use Rattle.pc_core.specs.declared.nodes.NodeKind.TheVariants as node
use Rattle.pc_sub.specs.Computed.{is_sub}
use Rattle.pc_rules.specs.{declared.said.Said.Said, Parts.{says_of, readable, reads_as, through_notes}, Calls.{argument_goes, arguments_go, argument_sendable, arguments_sendable, arguments, called, calls, recovers, sends, is_function, is_behaviour, is_isolated, is_lent, recovered_result, same_text, has_string}, Children.type_at, Operators.comparable}
use Rattle.pc_valid.specs.Words.{Ty, Masks, Slots}
use Rattle.pc_rules.proofs.Arguments.{counts_differ, count_taken}
use Rattle.pc_explain_conditions.specs.{Chosen.names_string, Failing.{first_false, holds_of, on, is_found, is_comparable}, declared.condition.Condition.Condition}
use Rattle.pc_explain_conditions.specs.Conditions as asked
use Rattle.pc_explain_conditions.specs.declared.condition.Condition.TheVariants as asks
use Rattle.pc_explain_conditions.proofs.{Opposed.{Opposed, Agrees, typed, is_some, asks_all, asks_false}, Plain.AtNode}

-- ---- several tests

one_fails : (a : Bool) (c d : Condition) → Opposed {A = Said} None (if a then Some d else Some c)
one_fails true c d = tt
one_fails false c d = tt

-- A test that agrees with what is required.
agreed : {A : Type 0} → (b : Bool) (f : Option Condition) (s : Option A) → Agrees b f → Opposed s None → Opposed (if b then s else None) f
agreed true None s a h = h
agreed true (Some c) s a h = absurd a
agreed false (Some c) s a h = tt
agreed false None s a h = absurd a

-- A test before another.
and_then : {A : Type 0} → (a c : Bool) (s : Option A) (f : Option Condition) (d : Condition) → Opposed (if c then s else None) f → Opposed (if a && c then s else None) (if a then f else Some d)
and_then true c s f d h = h
and_then false c s f d h = tt

none_when : {A : Type 0} → (b c : Bool) (s : Option A) → b ≡ false → (if b && c then s else None) ≡ None
none_when false c s e = refl
none_when true c s e = absurd (false_true (sym e))

last_test : {A : Type 0} → (b c t : Bool) (s : Option A) (d : Condition) → b ≡ true → t ≡ c → Opposed s None → Opposed (if b && c then s else None) (if t then None else Some d)
last_test false c t s d e f h = absurd (false_true e)
last_test true true true s d e f h = h
last_test true false false s d e f h = tt
last_test true true false s d e f h = absurd (false_true f)
last_test true false true s d e f h = absurd (false_true (sym f))

-- ---- arguments

go_tests : (s k b : Bool) (f : Option Condition) (cu ck : Condition) → Agrees b f → Agrees ((s && k) && b) (if s then (if k then f else Some ck) else Some cu)
go_tests false k b f cu ck a = tt
go_tests true false b f cu ck a = tt
go_tests true true b f cu ck a = a

sent_tests : (s b : Bool) (f : Option Condition) (c : Condition) → Agrees b f → Agrees (s && b) (if s then f else Some c)
sent_tests false b f c a = tt
sent_tests true b f c a = a

module _ (core : CoreData) (slots : Slots) (ns : List Note) (x : Node) (m : Masks) where
  go_row : (p : ParamInfo) (i : ℕ) (o : Option Ty) (b : Bool) (f : Option Condition) → Agrees b f
      → Agrees (argument_goes core p o && b) (if is_found o then (if on o (λ v. is_sub core v.0 p.entity) then (if on o (λ v. fits v.1 p.cap) then f else Some (asks.Fits i p.cap)) else Some (asks.Under i p.entity)) else Some (asks.Typed i))
  go_row p i None b f a = tt
  go_row p i (Some v) b f a = go_tests (is_sub core v.0 p.entity) (fits v.1 p.cap) b f (asks.Under i p.entity) (asks.Fits i p.cap) a

  -- These notes are those of the children from this index on.
  abbrev StandsFrom : ℕ → List Note → Type 0
  StandsFrom i ts = (j : ℕ) → j < length ts → type_at ns (i + j) ≡ type_at ts j

  first_stands : (i : ℕ) (t : Note) (ts : List Note) → StandsFrom i (t ∷ ts) → type_at ns i ≡ t.ty
  first_stands i t ts h = let e : i ≡ i + 0 = omega arith in ap (type_at ns) e ∙ h 0 (omega arith)

  rest_stands : (i : ℕ) (t : Note) (ts : List Note) → StandsFrom i (t ∷ ts) → StandsFrom (i + 1) ts
  rest_stands i t ts h j l = let e : i + 1 + j ≡ i + suc j = omega arith in ap (type_at ns) e ∙ h (suc j) (omega (arith, l))

  go_agrees : (ts : List Note) (ps : List ParamInfo) (i : ℕ) → length ts ≡ length ps → StandsFrom i ts → Agrees (arguments_go core ts ps) (first_false (holds_of core slots ns x m) (asked.argument_conditions i ps))
  go_agrees [] [] i l h = tt
  go_agrees [] (p ∷ ps) i l h = absurd (omega (arith, l))
  go_agrees (t ∷ ts) [] i l h = absurd (omega (arith, l))
  go_agrees (t ∷ ts) (p ∷ ps) i l h =
      let more = go_agrees ts ps (i + 1) (omega (arith, l)) (rest_stands i t ts h) in
      subst
      (λ o. Agrees (argument_goes core p t.ty && arguments_go core ts ps) (if is_found o then (if on o (λ v. is_sub core v.0 p.entity) then (if on o (λ v. fits v.1 p.cap) then first_false (holds_of core slots ns x m) (asked.argument_conditions (i + 1) ps) else Some (asks.Fits i p.cap)) else Some (asks.Under i p.entity)) else Some (asks.Typed i)))
      (sym (first_stands i t ts h))
      (go_row p i t.ty (arguments_go core ts ps) (first_false (holds_of core slots ns x m) (asked.argument_conditions (i + 1) ps)) more)

  sent_row : (p : ParamInfo) (i : ℕ) (o : Option Ty) (b : Bool) (f : Option Condition) → Agrees b f → Agrees (argument_sendable p o && b) (if on o (λ v. sendable_form v.1 || sendable p.cap) then f else Some (asks.Sent i p.cap))
  sent_row p i None b f a = tt
  sent_row p i (Some v) b f a = sent_tests (sendable_form v.1 || sendable p.cap) b f (asks.Sent i p.cap) a

  sent_agrees : (ts : List Note) (ps : List ParamInfo) (i : ℕ) → length ts ≡ length ps → StandsFrom i ts → Agrees (arguments_sendable ts ps) (first_false (holds_of core slots ns x m) (asked.arguments_sent i ps))
  sent_agrees [] [] i l h = tt
  sent_agrees [] (p ∷ ps) i l h = absurd (omega (arith, l))
  sent_agrees (t ∷ ts) [] i l h = absurd (omega (arith, l))
  sent_agrees (t ∷ ts) (p ∷ ps) i l h =
      let more = sent_agrees ts ps (i + 1) (omega (arith, l)) (rest_stands i t ts h) in
      subst
      (λ o. Agrees (argument_sendable p t.ty && arguments_sendable ts ps) (if on o (λ v. sendable_form v.1 || sendable p.cap) then first_false (holds_of core slots ns x m) (asked.arguments_sent (i + 1) ps) else Some (asks.Sent i p.cap)))
      (sym (first_stands i t ts h))
      (sent_row p i t.ty (arguments_sendable ts ps) (first_false (holds_of core slots ns x m) (asked.arguments_sent (i + 1) ps)) more)

  no_count : (ts : List Note) (ps : List ParamInfo) (k : ℕ) → length ts ≡ k → nat_eq k (length ps) ≡ false → arguments_go core ts ps ≡ false
  no_count ts ps k l e = counts_differ core ts ps (λ same. false_true (sym e ∙ eq-eqb k (length ps) (sym l ∙ sym same)))

  all_by : (ts : List Note) (ps : List ParamInfo) (k : ℕ) (b : Bool) → length ts ≡ k → nat_eq k (length ps) ≡ b → StandsFrom 0 ts → Agrees (arguments_go core ts ps) (if b then first_false (holds_of core slots ns x m) (asked.argument_conditions 0 ps) else Some (asks.Counted k (length ps)))
  all_by ts ps k true l e h = go_agrees ts ps 0 (l ∙ eqb-true k (length ps) e) h
  all_by ts ps k false l e h = subst (λ b. Agrees b (Some (asks.Counted k (length ps)))) (sym (no_count ts ps k l e)) tt

  all_agree : (ts : List Note) (ps : List ParamInfo) (k : ℕ) → length ts ≡ k → StandsFrom 0 ts → Agrees (arguments_go core ts ps) (first_false (holds_of core slots ns x m) (asked.all_go k ps))
  all_agree ts ps k l h = all_by ts ps k (nat_eq k (length ps)) l refl h

  -- ---- constructors

  whole : StandsFrom 0 ns
  whole j l = let e : 0 + j ≡ j = omega arith in ap (type_at ns) e

  made : (k : ℕ) (f : Method) (g : Method → Masks → Said) (n : Masks) → slice_get core.methods k ≡ Some f → through_notes ns m ≡ Some n
      → Opposed (slice_get core.methods k >>= λ f. through_notes ns m >>= λ i. if arguments_go core ns f.params then Some (g f i) else None) (first_false (holds_of core slots ns x m) (asked.of_found (slice_get core.methods k) (λ f. asked.all_go (length ns) f.params)))
  made k f g n e t =
      is_some (slice_get core.methods k) f e
      (λ w. Opposed (w >>= λ f. through_notes ns m >>= λ i. if arguments_go core ns f.params then Some (g f i) else None) (first_false (holds_of core slots ns x m) (asked.of_found w (λ f. asked.all_go (length ns) f.params))))
      (is_some (through_notes ns m) n t
      (λ w. Opposed (w >>= λ i. if arguments_go core ns f.params then Some (g f i) else None) (first_false (holds_of core slots ns x m) (asked.all_go (length ns) f.params)))
      (agreed (arguments_go core ns f.params) _ (Some (g f n)) (all_agree ns f.params (length ns) refl whole) tt))

  pub new_at : (k : ℕ) (f : Method) (n : Masks) → slice_get core.methods k ≡ Some f → through_notes ns m ≡ Some n → AtNode core slots ns x m rule.New (node.New k)
  new_at k f n e t = made k f _ n e t

  pub spawn_at : (k : ℕ) (f : Method) (n : Masks) → slice_get core.methods k ≡ Some f → through_notes ns m ≡ Some n → AtNode core slots ns x m rule.Spawn (node.Spawn k)
  spawn_at k f n e t = made k f _ n e t

  -- ---- calls

  abbrev receiver : ℕ
  receiver = asked.receiver_index ns

  taken_at : (k j : ℕ) (ts : List Note) → j < k → slice_get ts j ≡ slice_get (take k ts) j
  taken_at zero j ts l = absurd (omega (arith, l))
  taken_at (suc k) j [] l = refl
  taken_at (suc k) zero (t ∷ ts) l = refl
  taken_at (suc k) (suc j) (t ∷ ts) l = taken_at k j ts (omega (arith, l))

  count : length (arguments ns) ≡ receiver
  count = let l : receiver ≤ length ns = omega arith in count_taken receiver ns l

  given : StandsFrom 0 (arguments ns)
  given j l =
      let e : 0 + j ≡ j = omega arith in
      let c = count in
      ap (type_at ns) e ∙ ap (λ (o : Option Note). o >>= λ t. t.ty) (taken_at receiver j ns (omega (arith, l, c)))

  named_of : (o : Ty) (w : Option ℕ) (i : Ty × ℕ) → (w >>= λ k. Some (o, k)) ≡ Some i → Some o ≡ Some i.0
  named_of o None i e = absurd (none-some i e)
  named_of o (Some k) i e = ap (λ (j : Ty × ℕ). Some j.0) (same_Some (o, k) i e)

  typed_of : (o : Option Ty) (name : ℕ) (i : Ty × ℕ) → (o >>= λ o. method_named core o.0 name >>= λ k. Some (o, k)) ≡ Some i → o ≡ Some i.0
  typed_of None name i e = absurd (none-some i e)
  typed_of (Some o) name i e = named_of o (method_named core o.0 name) i e

  noted_of : (w : Option Note) (name : ℕ) (i : Ty × ℕ) → (w >>= λ r. r.ty >>= λ o. method_named core o.0 name >>= λ k. Some (o, k)) ≡ Some i → (w >>= λ t. t.ty) ≡ Some i.0
  noted_of None name i e = absurd (none-some i e)
  noted_of (Some t) name i e = typed_of t.ty name i e

  receiver_type : (name : ℕ) (i : Ty × ℕ) → called core ns name ≡ Some i → type_at ns receiver ≡ Some i.0
  receiver_type name i e = noted_of (slice_get ns receiver) name i e

  -- The conclusion of a rule for a method of the receiver, against what it requires of it.
  module _ (name : ℕ) (says : Ty → Method → Option Said) (ask : Method → List Condition) (each : (o : Ty) (f : Method) → type_at ns receiver ≡ Some o → Opposed (says o f) (first_false (holds_of core slots ns x m) (ask f))) where
    abbrev Row : Option (Ty × ℕ) → Bool → Type 0
    Row c t =
        Opposed (c >>= λ i. slice_get core.methods i.1 >>= λ f. says i.0 f)
        (if t then (if is_found (c >>= λ i. slice_get core.methods i.1) then first_false (holds_of core slots ns x m) (asked.of_found (c >>= λ i. slice_get core.methods i.1) ask) else Some (asks.HasMethod name)) else Some (asks.Typed receiver))

    found : (o : Ty) (w : Option Method) → type_at ns receiver ≡ Some o → Opposed (w >>= λ f. says o f) (if is_found w then first_false (holds_of core slots ns x m) (asked.of_found w ask) else Some (asks.HasMethod name))
    found o None e = tt
    found o (Some f) e = each o f e

    by_called : (c : Option (Ty × ℕ)) → called core ns name ≡ c → Row (called core ns name) (is_found (type_at ns receiver))
    by_called None e = subst (λ c. Row c (is_found (type_at ns receiver))) (sym e) (one_fails (is_found (type_at ns receiver)) (asks.Typed receiver) (asks.HasMethod name))
    by_called (Some i) e =
        let t = receiver_type name i e in
        subst (λ c. Row c (is_found (type_at ns receiver))) (sym e) (subst (λ o. Row (Some i) (is_found o)) (sym t) (found i.0 (slice_get core.methods i.1) t))

    called_at : Row (called core ns name) (is_found (type_at ns receiver))
    called_at = by_called (called core ns name) refl

  of_receiver : (k : Cap) (o : Ty) (t : Ty → Bool) → type_at ns receiver ≡ Some o → on (type_at ns receiver) t ≡ t o
  of_receiver k o t e = ap (λ w. on w t) e

  call_of : (o : Ty) (f : Method) (n : Masks) → type_at ns receiver ≡ Some o → Opposed (if calls core ns o f then Some (says_of (Some f.result) n) else None) (first_false (holds_of core slots ns x m) (asked.call_conditions receiver f))
  call_of o f n e =
      and_then (is_function f.kind) (arguments_go core (arguments ns) f.params && fits o.1 f.receiver) _ _ (asks.Function f.kind)
      (asks_all (holds_of core slots ns x m) (asked.all_go receiver f.params) (asks.Fits receiver f.receiver ∷ []) (arguments_go core (arguments ns) f.params) _
      (all_agree (arguments ns) f.params receiver count given)
      (none_when (arguments_go core (arguments ns) f.params) (fits o.1 f.receiver) _)
      (λ b. last_test (arguments_go core (arguments ns) f.params) (fits o.1 f.receiver) (on (type_at ns receiver) (λ v. fits v.1 f.receiver)) _ (asks.Fits receiver f.receiver) b (of_receiver f.receiver o (λ v. fits v.1 f.receiver) e) tt))

  pub call_at : (name : ℕ) (n : Masks) → through_notes ns m ≡ Some n → AtNode core slots ns x m rule.Call (node.Call name)
  call_at name n t =
      called_at name (λ o f. through_notes ns m >>= λ i. if calls core ns o f then Some (says_of (Some f.result) i) else None)
      (asked.call_conditions receiver)
      (λ o f e. is_some (through_notes ns m) n t (λ w. Opposed (w >>= λ i. if calls core ns o f then Some (says_of (Some f.result) i) else None) (first_false (holds_of core slots ns x m) (asked.call_conditions receiver f))) (call_of o f n e))

  send_of : (f : Method) (n : Masks) → Opposed (if sends core ns f then Some (says_of (Some (0, form.Val)) n) else None) (first_false (holds_of core slots ns x m) (asked.send_conditions receiver f))
  send_of f n = and_then (is_behaviour f.kind) (arguments_go core (arguments ns) f.params) _ _ (asks.Behaviour f.kind) (agreed (arguments_go core (arguments ns) f.params) _ _ (all_agree (arguments ns) f.params receiver count given) tt)

  pub send_at : (name : ℕ) (n : Masks) → through_notes ns m ≡ Some n → AtNode core slots ns x m rule.Send (node.Call name)
  send_at name n t =
      called_at name (λ o f. through_notes ns m >>= λ i. if sends core ns f then Some (says_of (Some (0, form.Val)) i) else None)
      (asked.send_conditions receiver)
      (λ o f e. is_some (through_notes ns m) n t (λ w. Opposed (w >>= λ i. if sends core ns f then Some (says_of (Some (0, form.Val)) i) else None) (first_false (holds_of core slots ns x m) (asked.send_conditions receiver f))) (send_of f n))

  -- ---- a receiver that is lent

  lent_tests : {A : Type 0} → (u i l s : Bool) (q : A) (f : Option Condition) (cu ci cl : Condition) → Agrees s f → Opposed (if (u && (i && l)) && s then Some q else None) (if u then (if i then (if l then f else Some cl) else Some ci) else Some cu)
  lent_tests false i l s q f cu ci cl a = tt
  lent_tests true false l s q f cu ci cl a = tt
  lent_tests true true false s q f cu ci cl a = tt
  lent_tests true true true s q f cu ci cl a = agreed s f (Some q) a tt

  counted_by : (ts : List Note) (ps : List ParamInfo) → arguments_go core ts ps ≡ true → length ts ≡ length ps
  counted_by [] [] e = refl
  counted_by [] (p ∷ ps) e = absurd (false_true e)
  counted_by (t ∷ ts) [] e = absurd (false_true e)
  counted_by (t ∷ ts) (p ∷ ps) e = ap suc (counted_by ts ps (second_true (argument_goes core p t.ty) (arguments_go core ts ps) e))

  drop_true : {A : Type 0} → (b c : Bool) (s : Option A) (f : Option Condition) → b ≡ true → Opposed (if c then s else None) f → Opposed (if b && c then s else None) f
  drop_true true c s f e h = h
  drop_true false c s f e h = absurd (false_true e)

  and_move : {A : Type 0} → (a b c : Bool) (s : Option A) (f : Option Condition) → Opposed (if a && (b && c) then s else None) f → Opposed (if (a && b) && c then s else None) f
  and_move true b c s f h = h
  and_move false b c s f h = h

  lent_of : (o : Ty) (f : Method) (n : Masks) → type_at ns receiver ≡ Some o → arguments_go core (arguments ns) f.params ≡ true
      → Opposed (if (not (fits o.1 f.receiver) && (is_isolated o.1 && is_lent f.receiver)) && arguments_sendable (arguments ns) f.params then Some (says_of (recovered_result f.result) n) else None)
      (first_false (holds_of core slots ns x m) (asks.Unfit receiver f.receiver ∷ asks.Isolated receiver ∷ asks.Lent f.receiver ∷ asked.arguments_sent 0 f.params))
  lent_of o f n e go =
      subst
      (λ w. Opposed (if (not (fits o.1 f.receiver) && (is_isolated o.1 && is_lent f.receiver)) && arguments_sendable (arguments ns) f.params then Some (says_of (recovered_result f.result) n) else None)
      (if on w (λ v. not (fits v.1 f.receiver)) then (if on w (λ v. is_isolated v.1) then (if is_lent f.receiver then first_false (holds_of core slots ns x m) (asked.arguments_sent 0 f.params) else Some (asks.Lent f.receiver)) else Some (asks.Isolated receiver)) else Some (asks.Unfit receiver f.receiver)))
      (sym e)
      (lent_tests (not (fits o.1 f.receiver)) (is_isolated o.1) (is_lent f.receiver) (arguments_sendable (arguments ns) f.params) _ _ (asks.Unfit receiver f.receiver) (asks.Isolated receiver) (asks.Lent f.receiver)
      (sent_agrees (arguments ns) f.params 0 (counted_by (arguments ns) f.params go) given))

  recover_of : (o : Ty) (f : Method) (n : Masks) → type_at ns receiver ≡ Some o → Opposed (if recovers core ns o f then Some (says_of (recovered_result f.result) n) else None) (first_false (holds_of core slots ns x m) (asked.call_recover_conditions receiver f))
  recover_of o f n e =
      let go = arguments_go core (arguments ns) f.params in
      let lent = (not (fits o.1 f.receiver) && (is_isolated o.1 && is_lent f.receiver)) && arguments_sendable (arguments ns) f.params in
      and_move (is_function f.kind) go lent _ _
      (and_then (is_function f.kind) (go && lent) _ _ (asks.Function f.kind)
      (asks_all (holds_of core slots ns x m) (asked.all_go receiver f.params) (asks.Unfit receiver f.receiver ∷ asks.Isolated receiver ∷ asks.Lent f.receiver ∷ asked.arguments_sent 0 f.params) go _
      (all_agree (arguments ns) f.params receiver count given)
      (none_when go lent _)
      (λ b. drop_true go lent _ _ b (lent_of o f n e b))))

  pub call_recover_at : (name : ℕ) (n : Masks) → through_notes ns m ≡ Some n → AtNode core slots ns x m rule.CallRecover (node.Call name)
  call_recover_at name n t =
      called_at name (λ o f. through_notes ns m >>= λ i. if recovers core ns o f then Some (says_of (recovered_result f.result) i) else None) (asked.call_recover_conditions receiver)
      (λ o f e. is_some (through_notes ns m) n t (λ w. Opposed (w >>= λ i. if recovers core ns o f then Some (says_of (recovered_result f.result) i) else None) (first_false (holds_of core slots ns x m) (asked.call_recover_conditions receiver f))) (recover_of o f n e))

-- ---- the text of a value

text_tests : {A : Type 0} → (c p q r : Bool) (s : Option A) (cp cr : Condition) → c ≡ true → Opposed s None → Opposed (if c && ((p && r) || (q && r)) then s else None) (if p || q then (if r then None else Some cr) else Some cp)
text_tests false p q r s cp cr e h = absurd (false_true e)
text_tests true true q true s cp cr e h = h
text_tests true true true false s cp cr e h = tt
text_tests true true false false s cp cr e h = tt
text_tests true false true true s cp cr e h = h
text_tests true false true false s cp cr e h = tt
text_tests true false false r s cp cr e h = tt

module _ (core : CoreData) (slots : Slots) (x : Node) (m : Masks) where
  text_by : (t : Note) (v : Ty) (name : ℕ) (n : Masks) (w : Option (List ℕ)) → names_string w ≡ true → through_notes (typed t (Some v) ∷ []) m ≡ Some n
      → Opposed (w >>= λ text. through_notes (typed t (Some v) ∷ []) m >>= λ i. if has_string text v then Some (says_of (Some (3, form.Val)) i) else None)
      (if nat_eq v.0 1 || nat_eq v.0 2 then (if readable v.1 then None else Some (asks.Readable 0)) else Some (asks.Printable 0))
  text_by t v name n None c e = absurd (false_true c)
  text_by t v name n (Some text) c e =
      is_some (through_notes (typed t (Some v) ∷ []) m) n e
      (λ w. Opposed (w >>= λ i. if has_string text v then Some (says_of (Some (3, form.Val)) i) else None) (if nat_eq v.0 1 || nat_eq v.0 2 then (if readable v.1 then None else Some (asks.Readable 0)) else Some (asks.Printable 0)))
      (text_tests (same_text text (codes "string")) (nat_eq v.0 1) (nat_eq v.0 2) (readable v.1) _ (asks.Printable 0) (asks.Readable 0) c tt)

  text_one : (t : Note) (o : Option Ty) (name : ℕ) (n : Masks) → names_string (slice_get core.names name) ≡ true → through_notes (typed t o ∷ []) m ≡ Some n → AtNode core slots (typed t o ∷ []) x m rule.Builtin (node.Call name)
  text_one t None name n c e = tt
  text_one t (Some v) name n c e = text_by t v name n (slice_get core.names name) c e

  more_given : (t u : Note) (us : List Note) → nat_eq (length (t ∷ u ∷ us) - 1) 0 ≡ false
  more_given t u us = elim (eqb_tells (length (t ∷ u ∷ us) - 1) 0) [ inl same ↦ let e = same.1 in absurd (omega (arith, e)) | inr apart ↦ apart.0 ]

  pub text_at : (ns : List Note) (name : ℕ) (n : Masks) → 1 ≤ length ns → names_string (slice_get core.names name) ≡ true → through_notes ns m ≡ Some n → AtNode core slots ns x m rule.Builtin (node.Call name)
  text_at [] name n l c e = absurd (omega (arith, l))
  text_at (t ∷ []) name n l c e = text_one t t.ty name n c e
  text_at (t ∷ u ∷ us) name n l c e = asks_false {A = Said} (holds_of core slots (t ∷ u ∷ us) x m) (asks.Counted (asked.receiver_index (t ∷ u ∷ us)) 0) (asks.Typed 0 ∷ asks.Printable 0 ∷ asks.Readable 0 ∷ []) None (more_given t u us) refl

-- ---- equality

same_tests : {A : Type 0} → (g r b t : Bool) (s : Option A) (cr cb ct : Condition) → g ≡ true → Opposed s None → Opposed (if g && ((r && (b && t)) || (false || false)) then s else None) (if r then (if b then (if t then None else Some ct) else Some cb) else Some cr)
same_tests false r b t s cr cb ct e h = absurd (false_true e)
same_tests true false b t s cr cb ct e h = tt
same_tests true true false t s cr cb ct e h = tt
same_tests true true true false s cr cb ct e h = tt
same_tests true true true true s cr cb ct e h = h

bool_tests : {A : Type 0} → (g r b t : Bool) (s : Option A) (cr cb ct : Condition) → g ≡ true → Opposed s None → Opposed (if g && (false || ((r && (b && t)) || false)) then s else None) (if r then (if b then (if t then None else Some ct) else Some cb) else Some cr)
bool_tests false r b t s cr cb ct e h = absurd (false_true e)
bool_tests true false b t s cr cb ct e h = tt
bool_tests true true false t s cr cb ct e h = tt
bool_tests true true true false s cr cb ct e h = tt
bool_tests true true true true s cr cb ct e h = h

string_tests : {A : Type 0} → (g r b t : Bool) (s : Option A) (cr cb ct : Condition) → g ≡ true → Opposed s None → Opposed (if g && (false || (false || (r && (b && t)))) then s else None) (if r then (if b then (if t then None else Some ct) else Some cb) else Some cr)
string_tests false r b t s cr cb ct e h = absurd (false_true e)
string_tests true false b t s cr cb ct e h = tt
string_tests true true false t s cr cb ct e h = tt
string_tests true true true false s cr cb ct e h = tt
string_tests true true true true s cr cb ct e h = h

no_right : (c r : Bool) (co cr ct : Condition) → Opposed {A = Said} None (if c then (if r then Some ct else Some cr) else Some co)
no_right false r co cr ct = tt
no_right true false co cr ct = tt
no_right true true co cr ct = tt

if_both : {A : Type 0} → (g : Bool) (c : Condition) (s : Option A) → Opposed (if g && false then s else None) (Some c)
if_both true c s = tt
if_both false c s = tt

module _ (g : Bool) (s : Option Said) (is : g ≡ true) (h : Opposed s None) where
  abbrev EqualRow : (e : ℕ) (f : Form) (w : Ty) → Type 0
  EqualRow e f w =
      Opposed (if g && comparable ((e, f), w) then s else None)
      (if is_comparable (e, f) then (if readable f then (if nat_eq w.0 e then (if readable w.1 then None else Some (asks.Readable 1)) else Some (asks.IsA 1 e)) else Some (asks.Readable 0)) else Some (asks.Comparable 0))

  abbrev NoneRow : Bool → Bool → Bool → (e : ℕ) (f : Form) (w : Ty) → Type 0
  NoneRow a b c e f w =
      Opposed (if g && (((a && readable f) && reads_as 1 w) || (((b && readable f) && reads_as 2 w) || ((c && readable f) && reads_as 3 w))) then s else None)
      (if a || (b || c) then (if readable f then (if nat_eq w.0 e then (if readable w.1 then None else Some (asks.Readable 1)) else Some (asks.IsA 1 e)) else Some (asks.Readable 0)) else Some (asks.Comparable 0))

  equal_one : (f : Form) (w : Ty) → EqualRow 1 f w
  equal_one f w = same_tests g (readable f) (nat_eq w.0 1) (readable w.1) s (asks.Readable 0) (asks.IsA 1 1) (asks.Readable 1) is h

  equal_two : (f : Form) (w : Ty) → EqualRow 2 f w
  equal_two f w = bool_tests g (readable f) (nat_eq w.0 2) (readable w.1) s (asks.Readable 0) (asks.IsA 1 2) (asks.Readable 1) is h

  equal_three : (f : Form) (w : Ty) → EqualRow 3 f w
  equal_three f w = string_tests g (readable f) (nat_eq w.0 3) (readable w.1) s (asks.Readable 0) (asks.IsA 1 3) (asks.Readable 1) is h

  equal_by : (e : ℕ) (f : Form) (w : Ty) (a b c : Bool) → nat_eq e 1 ≡ a → nat_eq e 2 ≡ b → nat_eq e 3 ≡ c → EqualRow e f w
  equal_by e f w true b c i j k = subst (λ z. EqualRow z f w) (sym (eqb-true e 1 i)) (equal_one f w)
  equal_by e f w false true c i j k = subst (λ z. EqualRow z f w) (sym (eqb-true e 2 j)) (equal_two f w)
  equal_by e f w false false true i j k = subst (λ z. EqualRow z f w) (sym (eqb-true e 3 k)) (equal_three f w)
  equal_by e f w false false false i j k =
      subst (λ z. NoneRow z (nat_eq e 2) (nat_eq e 3) e f w) (sym i)
      (subst (λ z. NoneRow false z (nat_eq e 3) e f w) (sym j)
      (subst (λ z. NoneRow false false z e f w) (sym k) (if_both g (asks.Comparable 0) s)))

  pub equal_at : (core : CoreData) (slots : Slots) (x : Node) (m : Masks) (a b : Note) (v w : Option Ty)
      → Opposed ((v >>= λ p. w >>= λ q. Some (p, q)) >>= λ vs. if g && comparable vs then s else None)
      (first_false (holds_of core slots (typed a v ∷ typed b w ∷ []) x m) (asks.Typed 0 ∷ asks.Comparable 0 ∷ asks.Readable 0 ∷ asked.of_found v asked.same_read))
  equal_at core slots x m a b None w = tt
  equal_at core slots x m a b (Some v) None = no_right (is_comparable v) (readable v.1) (asks.Comparable 0) (asks.Readable 0) (asks.Typed 1)
  equal_at core slots x m a b (Some v) (Some w) = equal_by v.0 v.1 w (nat_eq v.0 1) (nat_eq v.0 2) (nat_eq v.0 3) refl refl refl
