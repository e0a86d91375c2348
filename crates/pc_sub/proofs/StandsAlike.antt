-- If two methods are alike, what holds for one holds for the other.
use Rattle.std.specs.Prelude.{◌≡◌, ℕ, List, map, length, Some, slice_get}
use Rattle.std.proofs.{Common.{sym, ap, subst, ◌∙◌}, lemmas.List.length-map}
use Rattle.pc_caps.specs.{Tables.{IsBelow, unalias}, declared.capability.Cap.Cap, declared.capability.Form.Form}
use Rattle.pc_core.specs.{declared.declarations.Method.Method, declared.declarations.ParamInfo.ParamInfo, CoreData.CoreData, Entities.{Chain, StandsFor, HasFor}}
use Rattle.pc_base.proofs.Gets.{get_map, map_get}
use Rattle.pc_sub.specs.Alike.{Alike, param_type}

pub alike_back : (t y : Method) → Alike t y → Alike y t
alike_back t y a = record { head = (sym a.head.0, sym a.head.1, sym a.head.2); result = (sym a.result.0, sym a.result.1); params = sym a.params }

as_many : (ps qs : List ParamInfo) → map param_type ps ≡ map param_type qs → length ps ≡ length qs
as_many ps qs same = sym (length-map ps param_type) ∙ ap length same ∙ length-map qs param_type

-- A parameter of one list has one of the same type in the other.
param_there : (ps qs : List ParamInfo) (i : ℕ) (p : ParamInfo) → map param_type ps ≡ map param_type qs → slice_get ps i ≡ Some p → (q : ParamInfo) × (slice_get qs i ≡ Some q) × (param_type q ≡ param_type p)
param_there ps qs i p same g = map_get param_type qs i (param_type p) (ap (λ xs. slice_get xs i) (sym same) ∙ get_map param_type ps i p g)

-- What may replace a method.
pub alike_stands : (core : CoreData) (t y s : Method) → Alike y s → StandsFor core t y → StandsFor core t s
alike_stands core t y s a f = record {
  count = as_many s.params y.params a.params ∙ f.count;
  receiver = subst (λ (c : Cap). IsBelow (unalias t.receiver) (unalias c)) (sym a.head.2) f.receiver;
  params = λ i p g q h.
      let r = param_there s.params y.params i q a.params h in
      subst (λ (k : ℕ × Cap). Chain core p.entity k.0 × IsBelow (unalias p.cap) (unalias k.1)) r.2 (f.params i p g r.0 r.1);
  entity = subst (λ e. Chain core e t.result.0) (sym a.result.0) f.entity;
  form = subst (λ (x : Form). IsBelow x t.result.1) (sym a.result.1) f.form;
}

-- What a method may replace.
pub stands_alike : (core : CoreData) (t s y : Method) → Alike t s → StandsFor core t y → StandsFor core s y
stands_alike core t s y a f = record {
  count = f.count ∙ sym (as_many s.params t.params a.params);
  receiver = subst (λ (c : Cap). IsBelow (unalias c) (unalias y.receiver)) (sym a.head.2) f.receiver;
  params = λ i p g q h.
      let r = param_there s.params t.params i p a.params g in
      subst (λ (k : ℕ × Cap). Chain core k.0 q.entity × IsBelow (unalias k.1) (unalias q.cap)) r.2 (f.params i r.0 r.1 q h);
  entity = subst (λ e. Chain core y.result.0 e) (sym a.result.0) f.entity;
  form = subst (λ (x : Form). IsBelow y.result.1 x) (sym a.result.1) f.form;
}

-- What has a method for one has it for the other.
pub has_alike : (core : CoreData) (e : ℕ) (t s : Method) → Alike t s → HasFor core e t → HasFor core e s
has_alike core e t s a h = (h.0, h.1, (h.2.0, h.2.1, h.2.2, h.2.3 ∙ sym a.head.0), h.3, h.4 ∙ sym a.head.1, stands_alike core t s h.1 a h.5)
