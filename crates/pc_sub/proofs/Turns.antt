-- One iteration of a loop that looks for the first fault: the faults from an element on are its own, followed by those
-- of the rest.
use Rattle.std.specs.Prelude.{◌≡◌, ℕ, ◌+◌, ◌<◌, false, List, [], ◌∷◌, length, drop, Some, None, get_or, slice_get, refl}
use Rattle.std.proofs.{Common.{ap, sym, subst, ◌∙◌, arith}, lemmas.Option.slice_get-get_or}
use Rattle.pc_core.specs.{declared.declarations.EntityDef.EntityDef, declared.declarations.Method.Method, declared.declarations.ParamInfo.ParamInfo, CoreData.CoreData}
use Rattle.pc_sub.specs.{declared.faults.DeclFault.DeclFault, Faults.{passed, stopped}}
use Rattle.pc_sub.specs.DeclarationFaults as spec
use Rattle.pc_base.proofs.Cuts.{drop_item, item_first}

-- The same for a list that was looked at.
from_seen : {A : Type 0} → (xs ys : List A) (i : ℕ) (x : A) → ys ≡ xs → i < length ys → x ≡ get_or ys i x → drop i xs ≡ x ∷ drop (i + 1) xs
from_seen xs ys i x same l e = subst (λ zs. drop i zs ≡ x ∷ drop (i + 1) zs) same (item_first ys i x l e)

-- ---- parameters, method by method

pub parameters_stop : (xs ys : List Method) (n i : ℕ) (x : Method) (f : DeclFault) → ys ≡ xs → i < length ys → x ≡ get_or ys i x → slice_get (spec.own_faults n x) 0 ≡ Some f → slice_get (spec.parameter_faults n (drop i xs)) 0 ≡ Some f
parameters_stop xs ys n i x f same l e h = ap (λ zs. slice_get (spec.parameter_faults n zs) 0) (from_seen xs ys i x same l e) ∙ stopped (spec.own_faults n x) _ f h

pub parameters_pass : (xs ys : List Method) (n i : ℕ) (x : Method) → ys ≡ xs → i < length ys → x ≡ get_or ys i x → slice_get (spec.own_faults n x) 0 ≡ None → slice_get (spec.parameter_faults (n + 1) (drop (i + 1) xs)) 0 ≡ slice_get (spec.parameter_faults n (drop i xs)) 0
parameters_pass xs ys n i x same l e h = sym (ap (λ zs. slice_get (spec.parameter_faults n zs) 0) (from_seen xs ys i x same l e) ∙ passed (spec.own_faults n x) _ h)

-- ---- the methods of a trait or an interface

abbrev pub method_faults : CoreData → ℕ → ℕ → Method → List DeclFault
method_faults core e n t = spec.conformance_faults core e n t (spec.method_like core e t)

pub methods_stop : (core : CoreData) (e : ℕ) (xs : List Method) (n i : ℕ) (x : Method) (f : DeclFault) → i < length xs → x ≡ get_or xs i x → slice_get (method_faults core e n x) 0 ≡ Some f → slice_get (spec.trait_faults core e n (drop i xs)) 0 ≡ Some f
methods_stop core e xs n i x f l g h = ap (λ ys. slice_get (spec.trait_faults core e n ys) 0) (item_first xs i x l g) ∙ stopped (method_faults core e n x) _ f h

pub methods_pass : (core : CoreData) (e : ℕ) (xs : List Method) (n i : ℕ) (x : Method) → i < length xs → x ≡ get_or xs i x → slice_get (method_faults core e n x) 0 ≡ None → slice_get (spec.trait_faults core e (n + 1) (drop (i + 1) xs)) 0 ≡ slice_get (spec.trait_faults core e n (drop i xs)) 0
methods_pass core e xs n i x l g h = sym (ap (λ ys. slice_get (spec.trait_faults core e n ys) 0) (item_first xs i x l g) ∙ passed (method_faults core e n x) _ h)

-- ---- the traits and interfaces of an `is` list

-- The item of a list of numbers.
number_item : (xs : List ℕ) (i b : ℕ) → i < length xs → b ≡ get_or xs i 0 → slice_get xs i ≡ Some b
number_item xs i b l g = slice_get-get_or xs i 0 l ∙ ap Some (sym g)

abbrev pub trait_faults : CoreData → ℕ → ℕ → List DeclFault
trait_faults core e b = spec.conform_faults core e (slice_get core.entities b)

pub traits_stop : (core : CoreData) (e : ℕ) (xs : List ℕ) (i b : ℕ) (f : DeclFault) → i < length xs → b ≡ get_or xs i 0 → slice_get (trait_faults core e b) 0 ≡ Some f → slice_get (spec.list_faults core e (drop i xs)) 0 ≡ Some f
traits_stop core e xs i b f l g h = ap (λ ys. slice_get (spec.list_faults core e ys) 0) (drop_item xs i b (number_item xs i b l g)) ∙ stopped (trait_faults core e b) _ f h

pub traits_pass : (core : CoreData) (e : ℕ) (xs : List ℕ) (i b : ℕ) → i < length xs → b ≡ get_or xs i 0 → slice_get (trait_faults core e b) 0 ≡ None → slice_get (spec.list_faults core e (drop (i + 1) xs)) 0 ≡ slice_get (spec.list_faults core e (drop i xs)) 0
traits_pass core e xs i b l g h = sym (ap (λ ys. slice_get (spec.list_faults core e ys) 0) (drop_item xs i b (number_item xs i b l g)) ∙ passed (trait_faults core e b) _ h)

-- ---- the entities

pub entities_stop : (core : CoreData) (xs ys : List EntityDef) (n i : ℕ) (x : EntityDef) (f : DeclFault) (bs : List ℕ) → ys ≡ xs → i < length ys → x ≡ get_or ys i x → bs ≡ x.provides → slice_get (spec.list_faults core n bs) 0 ≡ Some f → slice_get (spec.core_entity_faults core n (drop i xs)) 0 ≡ Some f
entities_stop core xs ys n i x f bs same l g own h =
    ap (λ zs. slice_get (spec.core_entity_faults core n zs) 0) (from_seen xs ys i x same l g)
    ∙ stopped (spec.list_faults core n x.provides) _ f (subst (λ cs. slice_get (spec.list_faults core n cs) 0 ≡ Some f) own h)

pub entities_pass : (core : CoreData) (xs ys : List EntityDef) (n i : ℕ) (x : EntityDef) (bs : List ℕ) → ys ≡ xs → i < length ys → x ≡ get_or ys i x → bs ≡ x.provides → slice_get (spec.list_faults core n bs) 0 ≡ None → slice_get (spec.core_entity_faults core (n + 1) (drop (i + 1) xs)) 0 ≡ slice_get (spec.core_entity_faults core n (drop i xs)) 0
entities_pass core xs ys n i x bs same l g own h =
    sym (ap (λ zs. slice_get (spec.core_entity_faults core n zs) 0) (from_seen xs ys i x same l g)
    ∙ passed (spec.list_faults core n x.provides) _ (subst (λ cs. slice_get (spec.list_faults core n cs) 0 ≡ None) own h))

-- ---- fewer parameters than the declared method

pub too_few : (core : CoreData) (ps qs : List ParamInfo) → 0 < length ps → length qs < 1 → spec.params_fit core ps qs ≡ false
too_few core [] qs l m = absurd (omega (arith, l))
too_few core (p ∷ ps) [] l m = refl
too_few core (p ∷ ps) (q ∷ qs) l m = absurd (omega (arith, m))
