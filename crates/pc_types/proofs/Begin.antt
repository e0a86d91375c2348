-- The frame of a method that begins can go on.
use Rattle.std.specs.Prelude.{◌≡◌, ◌≢◌, ℕ, zero, suc, ◌+◌, ◌-◌, ◌<◌, ◌≤◌, true, ◌&&◌, List, [], ◌∷◌, ◌++◌, map, length, replicate, Option, Some, None, slice_get, refl}
use Rattle.std.proofs.{Common.{inr, ap, sym, subst, ◌∙◌, arith, length-append}, lemmas.Option.{same_Some, none-some}, lemmas.Bool.and_parts, lemmas.List.{length-map, length-replicate}}
use Rattle.pc_heap.specs.{Objects.ObjectMap, declared.value.Value.Value}
use Rattle.pc_core.specs.{declared.declarations.Method.Method, declared.declarations.ParamInfo.ParamInfo, declared.nodes.Node.Node, declared.nodes.NodeKind.NodeKind, CoreData.CoreData}
use Rattle.pc_core.specs.declared.nodes.NodeKind.TheVariants as nodes
use Rattle.pc_base.proofs.Options.{bind_some, kept}
use Rattle.pc_ann.specs.{declared.annotation.Note.Note, declared.annotation.Ann.Ann}
use Rattle.pc_masks.specs.{Masks.{first, same}, MaskLaws.first_bits}
use Rattle.pc_semantics.specs.{Parts.first_slots, Configurations.first_frame}
use Rattle.pc_rules.specs.{declared.said.Said.Said, Parts.{through, one_child}, Control.{start_set, starts_method, result_ok}, Rules.said_by}
use Rattle.pc_valid.specs.Words.{Masks, before}
use Rattle.pc_rules.proofs.{ByNumber.{body_says, says}, OneRule.body_rule}
use Rattle.pc_types.proofs.{Types.{OfType, ArgumentsOk, param_type}, Tasks.BodyOk, Frames.{ThisOk, SlotsOk, Held, FrameOk}, Needs.Needs, Notes.{note_at, same_within}}

-- ---- arguments

pub arguments_length : (core : CoreData) (objects : ObjectMap) (vs : List Value) (ps : List ParamInfo) → ArgumentsOk core objects vs ps → length vs ≡ length ps
arguments_length core objects [] [] k = refl
arguments_length core objects [] (p ∷ ps) k = absurd k
arguments_length core objects (v ∷ vs) [] k = absurd k
arguments_length core objects (v ∷ vs) (p ∷ ps) k = ap suc (arguments_length core objects vs ps k.1)

argument_at : (core : CoreData) (objects : ObjectMap) (vs : List Value) (ps : List ParamInfo) (rest : List (Option Value)) (i : ℕ) → ArgumentsOk core objects vs ps → i < length ps → (v : Value) × (p : ParamInfo) × (slice_get (map Some vs ++ rest) i ≡ Some (Some v)) × (slice_get ps i ≡ Some p) × OfType core objects (param_type p) v
argument_at core objects [] [] rest i k l = absurd (omega arith)
argument_at core objects [] (p ∷ ps) rest i k l = absurd k
argument_at core objects (v ∷ vs) [] rest i k l = absurd k
argument_at core objects (v ∷ vs) (p ∷ ps) rest zero k l = (v, p, refl, refl, k.0)
argument_at core objects (v ∷ vs) (p ∷ ps) rest (suc i) k l = let m : i < length ps = omega (arith, l) in argument_at core objects vs ps rest i k.1 m

-- ---- bodies

pub only_one : (cs : List ℕ) (c : ℕ) → one_child cs ≡ Some c → cs ≡ c ∷ []
only_one [] c e = absurd (none-some c e)
only_one (a ∷ []) c e = ap (λ (n : ℕ). n ∷ []) (same_Some a c e)
only_one (a ∷ b ∷ cs) c e = absurd (none-some c e)

-- What the rule of a body states.
pub record BodyRule (core : CoreData) (ann : Ann) (x : Node) (t : Note) : Type 0 where
  pub own : Method
  pub is_own : slice_get core.methods x.method ≡ Some own
  pub child : ℕ
  pub children : x.children ≡ child ∷ []
  pub note : Note
  pub is_note : slice_get ann.notes child ≡ Some note
  pub behind : Masks
  pub is_behind : through ann x.children (before t) ≡ Some behind
  pub starts : starts_method core own (before t) ≡ true
  pub result : result_ok core own.kind own.result note.ty ≡ true
  pub set : behind.1 ≡ t.set_after

pub body_inverse : (core : CoreData) (ann : Ann) (x : Node) (t : Note) → body_says core ann x (before t) ≡ Some (said_by t) → BodyRule core ann x t
body_inverse core ann x t e =
    let f = bind_some (slice_get core.methods x.method) _ (said_by t) e in
    let c = bind_some (one_child x.children) _ (said_by t) f.2 in
    let u = bind_some (slice_get ann.notes c.0) _ (said_by t) c.2 in
    let n = bind_some (through ann x.children (before t)) _ (said_by t) u.2 in
    let k = kept (starts_method core f.0 (before t) && result_ok core f.0.kind f.0.result u.0.ty) _ (said_by t) n.2 in
    let p = and_parts (starts_method core f.0 (before t)) (result_ok core f.0.kind f.0.result u.0.ty) k.0 in
    record {
      own = f.0;
      is_own = f.1;
      child = c.0;
      children = only_one x.children c.0 c.1;
      note = u.0;
      is_note = u.1;
      behind = n.0;
      is_behind = n.1;
      starts = p.0;
      result = p.1;
      set = ap (λ (q : Said). q.set) (same_Some _ (said_by t) k.1);
    }

module _ (core : CoreData) (ann : Ann) (needs : Needs core ann) where
  pub body_of : (x : Node) (t : Note) → says core ann x (before t) t.rule x.kind ≡ Some (said_by t) → x.kind ≡ nodes.Body → BodyRule core ann x t
  body_of x t meets is = body_inverse core ann x t (body_rule core ann x (before t) t.rule (said_by t) (subst (λ (k : NodeKind). says core ann x (before t) t.rule k ≡ Some (said_by t)) is meets))

  -- A method's body starts from its start masks.
  pub begin_ok : (m b : ℕ) (f : Method) → slice_get core.methods m ≡ Some f → f.body ≡ Some b → BodyOk core ann m (first (1 + length f.params)) (start_set core f) b
  begin_ok m b f at has =
      let y = needs.body m b f at has in
      let t = note_at core ann needs b y.0 y.1 in
      let r = body_of y.0 t.0 t.2 y.3 in
      let is : r.own ≡ f = same_Some r.own f (sym r.is_own ∙ ap (slice_get core.methods) y.2 ∙ at) in
      let starts : starts_method core f (before t.0) ≡ true = subst (λ (g : Method). starts_method core g (before t.0) ≡ true) is r.starts in
      let p = and_parts (same t.0.live_before (first (1 + length f.params))) (same t.0.set_before (start_set core f)) starts in
      record { node = y.0; is_node = y.1; note = t.0; is_note = t.1; own = y.2; is_body = y.3; live = same_within t.0.live_before (first (1 + length f.params)) p.0; set = same_within t.0.set_before (start_set core f) p.1 }

  module _ (objects : ObjectMap) (m b : ℕ) (f : Method) (this : Value) (arguments : List Value) (at : slice_get core.methods m ≡ Some f) (has : f.body ≡ Some b) (other : m ≢ 0) (this_ok : ThisOk core objects f (start_set core f) this) (fits : ArgumentsOk core objects arguments f.params) where
    total : (a p n k : ℕ) → a ≡ p → suc p ≤ n → k ≡ n - suc a → suc (a + k) ≡ n
    total a p n k e l g = omega (arith, e, l, g)

    pub room_ok : length (first_slots f this arguments) ≡ f.slots
    room_ok =
        let e = arguments_length core objects arguments f.params fits in
        let k : length (replicate {A = Option Value} (f.slots - suc (length arguments)) None) ≡ f.slots - suc (length arguments) = length-replicate _ _ in
        let l : length (map Some arguments ++ replicate (f.slots - suc (length arguments)) None) ≡ length arguments + length (replicate {A = Option Value} (f.slots - suc (length arguments)) None) =
        length-append (map Some arguments) (replicate (f.slots - suc (length arguments)) None) ∙ ap (λ (n : ℕ). n + length (replicate {A = Option Value} (f.slots - suc (length arguments)) None)) (length-map arguments Some)
        in
        ap suc l ∙ total (length arguments) (length f.params) f.slots _ e (needs.room m f at other) k

    pub slots_at : SlotsOk core ann objects f (first (1 + length f.params)) (first_slots f this arguments)
    slots_at zero l bit = absurd (omega (arith, l))
    slots_at (suc i) l bit =
        let p = (first_bits (1 + length f.params) (suc i)).0 bit in
        let below = p.0 in
        let within : i < length f.params = omega (arith, below) in
        let a = argument_at core objects arguments f.params (replicate (f.slots - suc (length arguments)) None) i fits within in
        (a.0, (a.1.entity, a.1.cap), a.2, needs.param_slots m f at other i a.1 a.3, a.4)

    abbrev pub first_held : Held core ann objects m (first_slots f this arguments) []
    first_held = record {
      own = f;
      is_own = at;
      room = room_ok;
      this = this;
      is_this = refl;
      live = first (1 + length f.params);
      set = start_set core f;
      this_ok = this_ok;
      slots_ok = slots_at;
      wants = [];
      stack_ok = tt;
    }

    abbrev pub first_ok : FrameOk core ann objects [] (first_frame m f this arguments b)
    first_ok = (first_held, inr (begin_ok m b f at has))
