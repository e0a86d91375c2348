-- A core has at most one explanation, and one that has a derivation has none.
use Rattle.std.specs.Prelude.{◌≡◌, ℕ, ◌+◌, ◌<◌, List, [], length, Some, slice_get}
use Rattle.std.proofs.{Common.{ap, sym, ◌∙◌, arith}, lemmas.Option.same_Some}
use Rattle.pc_ann.specs.{declared.annotation.Ann.Ann, declared.annotation.Note.Note}
use Rattle.pc_check.specs.Faults.{StopsAt, InferenceLeavesUnset}
use Rattle.pc_check.specs.Laws as faults
use Rattle.pc_explain_conditions.specs.{Laws.OneExplanation, declared.reason.Reason.Reason}
use Rattle.pc_core.specs.{CoreData.CoreData, Formed.Formed, declared.declarations.Method.Method, declared.nodes.Node.Node}
use Rattle.pc_base.specs.Lists.{Text}
use Rattle.pc_valid.specs.{Words.Masks, Valid.KeepsWritten, NoRule.MeetsReached}
use Rattle.pc_sub.specs.{Declarations.DeclOk, DeclarationLaws.{NoFaultWhereFit, OneFirstFault}, FirstFault.IsFirstDeclarationFault, declared.faults.DeclFault.DeclFault}
use Rattle.pc_token.specs.declared.kinds.Token.{Token}
use Rattle.pc_explain.specs.{Explanation.{all_of, declaration_text, node_explanation, reasons_of, scene_of, stop_at, unset_text}, Explanation.IsExplanation.{declared, no_rule, unset}, Laws.{AcceptedHasNone, ExplanationsAreOne}}
use Rattle.pc_explain.proofs.SameLists.{same_lists}

-- ---- the notes that an explanation looks at

same_notes : (core : CoreData) (a b : Ann) (n : ℕ) → faults.PrefixesAgree → Formed core → KeepsWritten core a → KeepsWritten core b → ((i : ℕ) → i < n → MeetsReached core a i)
    → ((i : ℕ) → i < n → MeetsReached core b i) → length a.notes ≡ n → length b.notes ≡ n → a.notes ≡ b.notes
same_notes core a b n agree f wa wb h i la lb =
    same_lists a.notes b.notes (la ∙ sym lb) (λ k l. agree core a b n k f wa wb h i (omega (arith, l, la)))

-- ---- no declaration fails if a node has no rule

no_fault : (core : CoreData) (x : DeclFault) → NoFaultWhereFit → Formed core → IsFirstDeclarationFault core x → DeclOk core → ⊥
no_fault core x fits f e d = (fits core f).0 d x e

-- ---- one node

node_same : (name bytes : Text) (tokens : List Token) (core : CoreData) (ns ms : List Note) (n k : ℕ) (x y : Node) (m l : Masks) (rs ts : List Reason)
    → ns ≡ ms → n ≡ k → x ≡ y → m ≡ l → rs ≡ ts
    → node_explanation name (stop_at (scene_of bytes tokens core ns) n x m) rs ≡ node_explanation name (stop_at (scene_of bytes tokens core ms) k y l) ts
node_same name bytes tokens core ns ms n k x y m l rs ts a b c d e =
    ap (λ q. node_explanation name (stop_at (scene_of bytes tokens core q) n x m) rs) a
    ∙ ap (λ q. node_explanation name (stop_at (scene_of bytes tokens core ms) q x m) rs) b
    ∙ ap (λ q. node_explanation name (stop_at (scene_of bytes tokens core ms) k q m) rs) c
    ∙ ap (λ q. node_explanation name (stop_at (scene_of bytes tokens core ms) k y q) rs) d
    ∙ ap (λ q. node_explanation name (stop_at (scene_of bytes tokens core ms) k y l) q) e

-- The reasons, said of the node and the masks by their other names.
reasons_named : (core : CoreData) (a : Ann) (x y : Node) (m l : Masks) → x ≡ y → m ≡ l → reasons_of core a x m ≡ reasons_of core a y l
reasons_named core a x y m l e g = ap (λ q. reasons_of core a q m) e ∙ ap (λ q. reasons_of core a y q) g

node_one : (name bytes : Text) (tokens : List Token) (core : CoreData) (a b : Ann) (n k : ℕ) (m l : Masks) (x y : Node)
    → OneExplanation → faults.PrefixesAgree → Formed core → (s : StopsAt core n m a) → (t : StopsAt core k l b)
    → slice_get core.nodes n ≡ Some x → slice_get core.nodes k ≡ Some y
    → node_explanation name (stop_at (scene_of bytes tokens core a.notes) n x m) (reasons_of core a x m)
    ≡ node_explanation name (stop_at (scene_of bytes tokens core b.notes) k y l) (reasons_of core b y l)
unfolding reasons_of
node_one name bytes tokens core a b n k m l x y one agree f s t g h =
    let o = one core a b n k f s.0 t.0 in
    let is : x ≡ s.0.at = same_Some x s.0.at (sym g ∙ s.0.is_at) in
    let it : y ≡ t.0.at = same_Some y t.0.at (sym h ∙ t.0.is_at) in
    let number = o.0 in
    let before : (i : ℕ) → i < n → MeetsReached core b i = λ i j. t.0.nodes_before i (omega (arith, j, number)) in
    let long : length b.notes ≡ n = t.2 ∙ sym o.0 in
    let notes = same_notes core a b n agree f s.0.written t.0.written s.0.nodes_before before s.2 long in
    node_same name bytes tokens core a.notes b.notes n k x y m l (reasons_of core a x m) (reasons_of core b y l)
    notes o.0 (is ∙ o.1 ∙ sym it) (sym s.1 ∙ o.2 ∙ t.1)
    (reasons_named core a x s.0.at m s.0.masks is (sym s.1) ∙ ap all_of o.3 ∙ sym (reasons_named core b y t.0.at l t.0.masks it (sym t.1)))

-- ---- one constructor

unset_same : (name bytes : Text) (tokens : List Token) (core : CoreData) (ns ms : List Note) (x y : Method) (t u : Note)
    → ns ≡ ms → x ≡ y → t ≡ u → unset_text name (scene_of bytes tokens core ns) x t ≡ unset_text name (scene_of bytes tokens core ms) y u
unset_same name bytes tokens core ns ms x y t u a b c =
    ap (λ q. unset_text name (scene_of bytes tokens core q) x t) a
    ∙ ap (λ q. unset_text name (scene_of bytes tokens core ms) q t) b
    ∙ ap (λ q. unset_text name (scene_of bytes tokens core ms) y q) c

unset_one : (name bytes : Text) (tokens : List Token) (core : CoreData) (a b : Ann) (m k : ℕ) → faults.OneConstructor → faults.PrefixesAgree → Formed core
    → (left : InferenceLeavesUnset core m a) → (other : InferenceLeavesUnset core k b)
    → unset_text name (scene_of bytes tokens core a.notes) left.0.method left.0.note ≡ unset_text name (scene_of bytes tokens core b.notes) other.0.method other.0.note
unset_one name bytes tokens core a b m k one agree f left other =
    let p = left.0 in
    let q = other.0 in
    let number : m ≡ k = one core a b m k f p q in
    let method : p.method ≡ q.method = same_Some p.method q.method (sym p.is_method ∙ ap (slice_get core.methods) number ∙ q.is_method) in
    let body : p.body ≡ q.body = same_Some p.body q.body (sym p.is_body ∙ ap (λ (x : Method). x.body) method ∙ q.is_body) in
    let before : (i : ℕ) → i < p.body + 1 → MeetsReached core a i = λ i j. p.nodes_before i (omega (arith, j)) in
    let behind : (i : ℕ) → i < p.body + 1 → MeetsReached core b i = λ i j. q.nodes_before i (omega (arith, j, body)) in
    let long : length b.notes ≡ p.body + 1 = other.1 ∙ ap (λ n. n + 1) (sym body) in
    let notes = same_notes core a b (p.body + 1) agree f p.written q.written before behind left.1 long in
    let note : p.note ≡ q.note = same_Some p.note q.note (sym p.is_note ∙ ap (λ (ns : List Note). slice_get ns p.body) notes ∙ ap (slice_get b.notes) body ∙ q.is_note) in
    unset_same name bytes tokens core a.notes b.notes p.method q.method p.note q.note notes method note

-- ---- one explanation

pub one_text : faults.OneNode → faults.OneConstructor → faults.OneKindOfFault → OneExplanation → faults.PrefixesAgree → NoFaultWhereFit → OneFirstFault → ExplanationsAreOne
one_text node constructor kind one agree fits first name bytes tokens core text other f (declared d e) (declared c g) =
    ap (λ q. declaration_text name (scene_of bytes tokens core []) q) (first core d c f e g)
one_text node constructor kind one agree fits first name bytes tokens core text other f (declared d e) (no_rule a n m x s g) = absurd (no_fault core d fits f e s.0.declarations)
one_text node constructor kind one agree fits first name bytes tokens core text other f (declared d e) (unset a k l) = absurd (no_fault core d fits f e l.0.declarations)
one_text node constructor kind one agree fits first name bytes tokens core text other f (no_rule a n m x s g) (declared d e) = absurd (no_fault core d fits f e s.0.declarations)
one_text node constructor kind one agree fits first name bytes tokens core text other f (no_rule a n m x s g) (no_rule b k l y t h) =
    node_one name bytes tokens core a b n k m l x y one agree f s t g h
one_text node constructor kind one agree fits first name bytes tokens core text other f (no_rule a n m x s g) (unset b k l) = absurd (kind core a b n k f s.0 l.0)
one_text node constructor kind one agree fits first name bytes tokens core text other f (unset a k l) (declared d e) = absurd (no_fault core d fits f e l.0.declarations)
one_text node constructor kind one agree fits first name bytes tokens core text other f (unset a k l) (no_rule b n m x s g) = absurd (kind core b a n k f s.0 l.0)
one_text node constructor kind one agree fits first name bytes tokens core text other f (unset a m l) (unset b k r) = unset_one name bytes tokens core a b m k constructor agree f l r

pub none_accepted : faults.NoneWithFault → faults.NoneWithoutRule → faults.NoneWithUnset → AcceptedHasNone
none_accepted fault rule left name bytes tokens core text f d (declared x e) = fault core x f e d
none_accepted fault rule left name bytes tokens core text f d (no_rule a n m x s g) = rule core a n f s.0 d
none_accepted fault rule left name bytes tokens core text f d (unset a k l) = left core a k f l.0 d
