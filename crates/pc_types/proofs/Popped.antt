-- The arguments of a call are taken off the stack: each is a value of its parameter's type.
use Rattle.std.specs.Prelude.{◌≡◌, ℕ, zero, suc, ◌-◌, true, List, [], ◌∷◌, ◌++◌, take, length, Option, Some, None, slice_get, refl}
use Rattle.std.proofs.{Common.{inl, ap, sym, subst, ◌∙◌, arith}, lemmas.Option.{same_Some, none-some, some_pair_parts}, lemmas.Bool.and_parts, lemmas.List.append-nil}
use Rattle.pc_heap.specs.{Objects.ObjectMap, declared.value.Value.Value}
use Rattle.pc_core.specs.{declared.declarations.ParamInfo.ParamInfo, CoreData.CoreData, Entities.ParamFits}
use Rattle.pc_base.specs.Lists.{Each}
use Rattle.pc_ann.specs.declared.annotation.Ann.{Ann}
use Rattle.pc_semantics.specs.Configurations.{popped}
use Rattle.pc_rules.specs.{Parts.{type_of, last_child}, Calls.argument_goes}
use Rattle.pc_valid.specs.Words.{Ty}
use Rattle.pc_rules.proofs.ByNumber.{arguments, arguments_go}
use Rattle.pc_base.proofs.Bools.{false_true}
use Rattle.pc_types.proofs.{Types.{OfSome, LowerType, param_type, ArgumentsOk, Want, StackOk}, Tasks.{want_of, stacked}, Places.goes_lower, Needs.Needs, Basic.of_lower, Tables.{unalias_sees, order_sees}, Values.top_is}

-- ---- the last child

-- A list is its front and its last element.
front_last : (cs : List ℕ) (n r : ℕ) → slice_get cs n ≡ Some r → length cs ≡ suc n → cs ≡ take n cs ++ r ∷ []
front_last [] n r e l = absurd (none-some r e)
front_last (c ∷ []) zero r e l = ap (λ (k : ℕ). k ∷ []) (same_Some c r e)
front_last (c ∷ d ∷ cs) zero r e l = absurd (omega (arith, l))
front_last (c ∷ cs) (suc n) r e l = let k : length cs ≡ suc n = omega (arith, l) in ap (λ (ds : List ℕ). c ∷ ds) (front_last cs n r e k)

some_last : (cs : List ℕ) (r : ℕ) → last_child cs ≡ Some r → length cs ≡ suc (length cs - 1)
some_last [] r e = absurd (none-some r e)
some_last (c ∷ cs) r e = omega arith

-- The children of a call are its arguments and then its receiver.
pub receiver_last : (cs : List ℕ) (r : ℕ) → last_child cs ≡ Some r → cs ≡ arguments cs ++ r ∷ []
receiver_last cs r e = front_last cs (length cs - 1) r e (some_last cs r e)

front_length : (cs : List ℕ) (n : ℕ) → length cs ≡ suc n → length (take n cs) ≡ n
front_length [] n l = absurd (omega (arith, l))
front_length (c ∷ cs) zero l = refl
front_length (c ∷ cs) (suc n) l = let k : length cs ≡ suc n = omega (arith, l) in ap suc (front_length cs n k)

pub arguments_count : (cs : List ℕ) (r : ℕ) → last_child cs ≡ Some r → length (arguments cs) ≡ length cs - 1
arguments_count cs r e = front_length cs (length cs - 1) (some_last cs r e)

-- ---- the stack after the children

pub stacked_last : (core : CoreData) (ann : Ann) (cs : List ℕ) (r : ℕ) (below : List Want) → stacked core ann (cs ++ r ∷ []) below ≡ want_of core ann r ∷ stacked core ann cs below
stacked_last core ann [] r below = refl
stacked_last core ann (c ∷ cs) r below = stacked_last core ann cs r (want_of core ann c ∷ below)

-- One more value is popped.
pub popped_more : (k : ℕ) (vs more a b : List Value) (v : Value) → popped k vs more ≡ Some (a, v ∷ b) → popped (suc k) vs more ≡ Some (v ∷ a, b)
popped_more zero vs more a b v e = let p = some_pair_parts more a vs (v ∷ b) e in rw (p.1, p.0)
popped_more (suc k) [] more a b v e = absurd (none-some (a, v ∷ b) e)
popped_more (suc k) (x ∷ vs) more a b v e = popped_more k vs (x ∷ more) a b v e

-- The arguments, this many, and what is below them.
pub record Popped (core : CoreData) (objects : ObjectMap) (this : Value) (below : List Want) (vs : List Value) (k : ℕ) (ps : List ParamInfo) : Type 0 where
  pub values : List Value
  pub rest : List Value
  pub is : (more : List Value) → popped k vs more ≡ Some (values ++ more, rest)
  pub fit : ArgumentsOk core objects values ps
  pub ok : StackOk core objects this below rest

-- They are what is popped.
pub popped_is : (core : CoreData) (objects : ObjectMap) (this : Value) (below : List Want) (vs : List Value) (k : ℕ) (ps : List ParamInfo) (p : Popped core objects this below vs k ps) → popped k vs [] ≡ Some (p.values, p.rest)
popped_is core objects this below vs k ps p = p.is [] ∙ ap (λ (values : List Value). Some (values, p.rest)) (append-nil p.values)

module _ (core : CoreData) (ann : Ann) (needs : Needs core ann) (objects : ObjectMap) where
  argument_typed : (p : ParamInfo) (o : Option Ty) → argument_goes core p o ≡ true → (v : Ty) × (o ≡ Some v) × LowerType core v (param_type p)
  argument_typed p None e = absurd (false_true e)
  argument_typed p (Some v) e = (v, refl, goes_lower core ann needs v (p.entity, p.cap) e)

  pub take_arguments : (this : Value) (cs : List ℕ) (ps : List ParamInfo) (below : List Want) (vs : List Value) → arguments_go core ann cs ps ≡ true → StackOk core objects this (stacked core ann cs below) vs → Popped core objects this below vs (length cs) ps
  take_arguments this [] [] below vs goes ok = record { values = []; rest = vs; is = λ more. refl; fit = tt; ok = ok }
  take_arguments this [] (p ∷ ps) below vs goes ok = absurd (false_true goes)
  take_arguments this (c ∷ cs) [] below vs goes ok = absurd (false_true goes)
  take_arguments this (c ∷ cs) (p ∷ ps) below vs goes ok =
      let a = and_parts (argument_goes core p (type_of ann c)) (arguments_go core ann cs ps) goes in
      let r = take_arguments this cs ps (want_of core ann c ∷ below) vs a.1 ok in
      let top = top_is core objects this (want_of core ann c) below r.rest r.ok in
      let ty = argument_typed p (type_of ann c) a.0 in
      record {
        values = top.top ∷ r.values;
        rest = top.below;
        is = λ more. popped_more (length cs) vs more (r.values ++ more) top.below top.top (r.is more ∙ ap (λ (rest : List Value). Some (r.values ++ more, rest)) top.is);
        fit = (of_lower core ann needs objects ty.0 (param_type p) top.top ty.2 (subst (λ (o : Option Ty). OfSome core objects o top.top) ty.1 top.answers.0), r.fit);
        ok = top.ok;
      }

  -- What fits one method's parameters fits those of a method that may stand for it.
  fits_lower : (p q : ParamInfo) → ParamFits core p q → LowerType core (param_type p) (param_type q)
  fits_lower p q f = (needs.under p.entity q.entity (inl f.0), λ h. sym (unalias_sees p.cap) ∙ order_sees _ _ f.1 (unalias_sees q.cap ∙ h))

  pub arguments_lower : (vs : List Value) (ps qs : List ParamInfo) → length qs ≡ length ps → Each (λ i p. (q : ParamInfo) → slice_get qs i ≡ Some q → ParamFits core p q) ps → ArgumentsOk core objects vs ps → ArgumentsOk core objects vs qs
  arguments_lower [] [] [] l each k = tt
  arguments_lower [] [] (q ∷ qs) l each k = absurd (omega (arith, l))
  arguments_lower [] (p ∷ ps) qs l each k = absurd k
  arguments_lower (v ∷ vs) [] qs l each k = absurd k
  arguments_lower (v ∷ vs) (p ∷ ps) [] l each k = absurd (omega (arith, l))
  arguments_lower (v ∷ vs) (p ∷ ps) (q ∷ qs) l each k =
      let rest : length qs ≡ length ps = omega (arith, l) in
      (of_lower core ann needs objects (param_type p) (param_type q) v (fits_lower p q (each 0 p refl q refl)) k.0, arguments_lower vs ps qs rest (λ i r e s f. each (suc i) r e s f) k.1)
