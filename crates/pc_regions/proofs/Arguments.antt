-- The arguments of a call on a stack that fits by regions: where each is, and which form it has.
use Rattle.std.specs.Prelude.{◌≡◌, ◌⊎◌, ℕ, suc, ◌+◌, true, ◌||◌, List, [], ◌∷◌, ◌++◌, length, Option, Some, None, slice_get, refl}
use Rattle.std.proofs.{Common.{ap, sym, subst, ◌∙◌, arith}, lemmas.Option.{same_Some, some_pair_parts}, lemmas.Bool.{and_parts, or_cases}, lemmas.List.append-nil}
use Rattle.pc_heap.specs.declared.value.Value.{Value}
use Rattle.pc_caps.specs.{Computed.{is_below, fits}, Closure.below_iff, Tables.{unalias, sendable, sendable_form}}
use Rattle.pc_core.specs.{declared.declarations.ParamInfo.ParamInfo, CoreData.CoreData, Entities.ParamFits}
use Rattle.pc_base.specs.Lists.{Each}
use Rattle.pc_ann.specs.declared.annotation.Ann.{Ann}
use Rattle.pc_semantics.specs.Configurations.{popped}
use Rattle.pc_sub.specs.Computed.{is_sub}
use Rattle.pc_rules.specs.{Parts.type_of, Calls.{argument_goes, argument_sendable}}
use Rattle.pc_valid.specs.Words.{Ty}
use Rattle.pc_rules.proofs.ByNumber.{arguments_go, arguments_sendable}
use Rattle.pc_base.proofs.Bools.{false_true}
use Rattle.pc_regions.proofs.{World.{World, OnStack, FitsSome}, StackForms.{Entry, piled}, Fitting.StackFits, ControlKeeps.below_same}
use Rattle.pc_types.proofs.Popped.{popped_more}

-- ---- the top of a stack

pub record TopFits (w : World) (i h base : ℕ) (e : Entry) (es : List Entry) (vs : List Value) : Type 0 where
  pub top : Value
  pub below : List Value
  pub is : vs ≡ top ∷ below
  pub fits : FitsSome w (OnStack i h (length below) (base + e.depth)) e.ty top
  pub rest : StackFits w i h base es below

pub top_fits : (w : World) (i h base : ℕ) (e : Entry) (es : List Entry) (vs : List Value) → StackFits w i h base (e ∷ es) vs → TopFits w i h base e es vs
top_fits w i h base e es [] k = absurd k
top_fits w i h base e es (v ∷ vs) k = record { top = v; below = vs; is = refl; fits = k.0; rest = k.1 }

-- ---- the arguments

-- The values of these nodes, from this depth of the stack on, each of its node's type.
abbrev pub ArgumentsStand : Ann → World → ℕ → ℕ → ℕ → ℕ → List ℕ → List Value → Type 0
ArgumentsStand ann w i h l n [] [] = Unit {0}
ArgumentsStand ann w i h l n (c ∷ cs) (v ∷ vs) = FitsSome w (OnStack i h n l) (type_of ann c) v × ArgumentsStand ann w i h l (suc n) cs vs
ArgumentsStand ann w i h l n cs vs = ⊥

-- This many are taken from the stack, and the rest fits.
pub record Pulled (ann : Ann) (w : World) (i h base d : ℕ) (cs : List ℕ) (below : List Entry) (vs : List Value) : Type 0 where
  pub values : List Value
  pub rest : List Value
  pub is : (more : List Value) → popped (length cs) vs more ≡ Some (values ++ more, rest)
  pub stand : ArgumentsStand ann w i h (base + d) (length rest) cs values
  pub fits : StackFits w i h base below rest
  pub total : length vs ≡ length rest + length values

none_more : (n : ℕ) → n ≡ n + 0
none_more n = omega arith

one_total : (n r v b : ℕ) → n ≡ r + v → r ≡ suc b → n ≡ b + suc v
one_total n r v b e g = omega (arith, e, g)

pub pull : (ann : Ann) (w : World) (i h base d : ℕ) (cs : List ℕ) (below : List Entry) (vs : List Value) → StackFits w i h base (piled ann d cs below) vs → Pulled ann w i h base d cs below vs
pull ann w i h base d [] below vs k = record { values = []; rest = vs; is = λ more. refl; stand = tt; fits = k; total = none_more (length vs) }
pull ann w i h base d (c ∷ cs) below vs k =
    let e : Entry = record { ty = type_of ann c; depth = d } in
    let r = pull ann w i h base d cs (e ∷ below) vs k in
    let t = top_fits w i h base e below r.rest r.fits in
    record {
      values = t.top ∷ r.values;
      rest = t.below;
      is = λ more. popped_more (length cs) vs more (r.values ++ more) t.below t.top (r.is more ∙ ap (λ (rest : List Value). Some (r.values ++ more, rest)) t.is);
      stand = (t.fits, subst (λ (n : ℕ). ArgumentsStand ann w i h (base + d) n cs r.values) (ap length t.is) r.stand);
      fits = t.rest;
      total = one_total (length vs) (length r.rest) (length r.values) (length t.below) r.total (ap length t.is);
    }

-- They are what is popped.
pub pulled_is : (ann : Ann) (w : World) (i h base d : ℕ) (cs : List ℕ) (below : List Entry) (vs : List Value) (p : Pulled ann w i h base d cs below vs) (values rest : List Value) → popped (length cs) vs [] ≡ Some (values, rest) → (p.values ≡ values) × (p.rest ≡ rest)
pulled_is ann w i h base d cs below vs p values rest e =
    some_pair_parts p.values values p.rest rest (sym (p.is [] ∙ ap (λ (xs : List Value). Some (xs, p.rest)) (append-nil p.values)) ∙ e)

-- The pile of nodes with one more after them.
pub piled_last : (ann : Ann) (d : ℕ) (cs : List ℕ) (r : ℕ) (below : List Entry) → piled ann d (cs ++ r ∷ []) below ≡ record { ty = type_of ann r; depth = d } ∷ piled ann d cs below
piled_last ann d [] r below = refl
piled_last ann d (c ∷ cs) r below = piled_last ann d cs r (record { ty = type_of ann c; depth = d } ∷ below)

-- ---- the forms of the arguments

-- The value of node c has a type whose form may be stored at the parameter.
pub record GoesIn (ann : Ann) (c : ℕ) (p : ParamInfo) : Type 0 where
  pub ty : Ty
  pub is_ty : type_of ann c ≡ Some ty
  pub below : is_below ty.1 (unalias p.cap) ≡ true

goes_in : (core : CoreData) (ann : Ann) (c : ℕ) (p : ParamInfo) (o : Option Ty) → type_of ann c ≡ o → argument_goes core p o ≡ true → GoesIn ann c p
goes_in core ann c p None is e = absurd (false_true e)
goes_in core ann c p (Some v) is e = record { ty = v; is_ty = is; below = (and_parts (is_sub core v.0 p.entity) (fits v.1 p.cap) e).1 }

pub first_goes : (core : CoreData) (ann : Ann) (c : ℕ) (cs : List ℕ) (p : ParamInfo) (ps : List ParamInfo) → arguments_go core ann (c ∷ cs) (p ∷ ps) ≡ true → GoesIn ann c p × (arguments_go core ann cs ps ≡ true)
first_goes core ann c cs p ps e =
    let a = and_parts (argument_goes core p (type_of ann c)) (arguments_go core ann cs ps) e in
    (goes_in core ann c p (type_of ann c) refl a.0, a.1)

one_sendable : (ann : Ann) (c : ℕ) (p : ParamInfo) (g : GoesIn ann c p) (o : Option Ty) → type_of ann c ≡ o → argument_sendable p o ≡ true → (sendable_form g.ty.1 ≡ true) ⊎ (sendable p.cap ≡ true)
one_sendable ann c p g None is e = absurd (false_true e)
one_sendable ann c p g (Some v) is e = or_cases (sendable_form g.ty.1) (sendable p.cap) (subst (λ (t : Ty). (sendable_form t.1 || sendable p.cap) ≡ true) (same_Some v g.ty (sym is ∙ g.is_ty)) e)

pub first_sendable : (ann : Ann) (c : ℕ) (cs : List ℕ) (p : ParamInfo) (ps : List ParamInfo) (g : GoesIn ann c p) → arguments_sendable ann (c ∷ cs) (p ∷ ps) ≡ true → ((sendable_form g.ty.1 ≡ true) ⊎ (sendable p.cap ≡ true)) × (arguments_sendable ann cs ps ≡ true)
first_sendable ann c cs p ps g e =
    let a = and_parts (argument_sendable p (type_of ann c)) (arguments_sendable ann cs ps) e in
    (one_sendable ann c p g (type_of ann c) refl a.0, a.1)

-- What goes to the parameter of one method goes to that of a method that may stand for it.
pub stands_below : (core : CoreData) (p q : ParamInfo) → ParamFits core p q → is_below (unalias p.cap) (unalias q.cap) ≡ true
stands_below core p q f = (below_iff (unalias p.cap) (unalias q.cap)).1 f.1

-- ---- the arguments of a constructor are all that the node's children left

-- Each of these values is at its place, and the rest is below them.
pub record ChildrenStand (ann : Ann) (w : World) (i h base d : ℕ) (cs : List ℕ) (below : List Entry) (values rest : List Value) : Type 0 where
  pub stand : ArgumentsStand ann w i h (base + d) (length rest) cs values
  pub fits : StackFits w i h base below rest

pub children_stand : (ann : Ann) (w : World) (i h base d : ℕ) (cs : List ℕ) (below : List Entry) (vs : List Value) → Pulled ann w i h base d cs below vs → (values rest : List Value) → popped (length cs) vs [] ≡ Some (values, rest)
    → ChildrenStand ann w i h base d cs below values rest
children_stand ann w i h base d cs below vs p values rest is =
    let q = pulled_is ann w i h base d cs below vs p values rest is in
    record {
      stand = subst (λ (us : List Value). ArgumentsStand ann w i h (base + d) (length us) cs values) q.1 (subst (λ (us : List Value). ArgumentsStand ann w i h (base + d) (length p.rest) cs us) q.0 p.stand);
      fits = subst (λ (us : List Value). StackFits w i h base below us) q.1 p.fits;
    }

-- The method by which the node was read is the one that begins.
pub same_params : (core : CoreData) (ps : List ParamInfo) → Each (λ k p. (q : ParamInfo) → slice_get ps k ≡ Some q → is_below (unalias p.cap) (unalias q.cap) ≡ true) ps
same_params core ps k p at q is = subst (λ (x : ParamInfo). is_below (unalias p.cap) (unalias x.cap) ≡ true) (same_Some p q (sym at ∙ is)) (below_same core (0, unalias p.cap)).1
