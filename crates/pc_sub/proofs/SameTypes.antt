-- Parameters that are compared one by one, by their types.
use Rattle.std.specs.Prelude.{◌≡◌, ◌↔◌, ℕ, ◌<◌, true, false, List, [], ◌∷◌, length, map, IsTrue, nat_eq, refl}
use Rattle.std.proofs.{Common.{ap, sym, ◌∙◌, arith}, lemmas.Bool.{and_from, and_parts, eqb-true, eq-eqb}}
use Rattle.pc_caps.specs.declared.capability.Cap.{Cap}
use Rattle.pc_caps.specs.declared.capability.Cap.TheVariants as cap
use Rattle.pc_core.specs.declared.declarations.ParamInfo.{ParamInfo}
use Rattle.pc_base.proofs.Bools.{false_true}
use Rattle.pc_sub.specs.Alike.{param_type, same_cap, same_type, same_types}

caps_equal : (a b : Cap) → same_cap a b ≡ true → a ≡ b
caps_equal cap.Iso cap.Iso e = refl
caps_equal cap.Trn cap.Trn e = refl
caps_equal cap.Ref cap.Ref e = refl
caps_equal cap.Val cap.Val e = refl
caps_equal cap.Box cap.Box e = refl
caps_equal cap.Tag cap.Tag e = refl
caps_equal a b e = absurd (let bad : false ≡ true = e in cc)

same_caps : (a : Cap) → same_cap a a ≡ true
same_caps cap.Iso = refl
same_caps cap.Trn = refl
same_caps cap.Ref = refl
same_caps cap.Val = refl
same_caps cap.Box = refl
same_caps cap.Tag = refl

type_is : (p q : ParamInfo) → same_type p q ≡ true → param_type q ≡ param_type p
type_is p q e =
    let k = and_parts (nat_eq p.entity q.entity) (same_cap p.cap q.cap) e in
    ap (λ (n : ℕ). (n, q.cap)) (sym (eqb-true p.entity q.entity k.0)) ∙ ap (λ (c : Cap). (p.entity, c)) (sym (caps_equal p.cap q.cap k.1))

is_type : (p q : ParamInfo) → param_type q ≡ param_type p → same_type p q ≡ true
is_type p q e =
    let entity : p.entity ≡ q.entity = sym (ap (λ (k : ℕ × Cap). k.0) e) in
    let own : p.cap ≡ q.cap = sym (ap (λ (k : ℕ × Cap). k.1) e) in
    and_from (nat_eq p.entity q.entity) (same_cap p.cap q.cap) (eq-eqb p.entity q.entity entity) (ap (same_cap p.cap) (sym own) ∙ same_caps p.cap)

types_are : (ps qs : List ParamInfo) → same_types ps qs ≡ true → map param_type qs ≡ map param_type ps
types_are [] [] e = refl
types_are (p ∷ ps) (q ∷ qs) e =
    let k = and_parts (same_type p q) (same_types ps qs) e in
    ap (λ (x : ℕ × Cap). x ∷ map param_type qs) (type_is p q k.0) ∙ ap (λ (xs : List (ℕ × Cap)). param_type p ∷ xs) (types_are ps qs k.1)
types_are [] (q ∷ qs) e = absurd (false_true e)
types_are (p ∷ ps) [] e = absurd (false_true e)

are_types : (ps qs : List ParamInfo) → map param_type qs ≡ map param_type ps → same_types ps qs ≡ true
are_types [] [] e = refl
are_types (p ∷ ps) (q ∷ qs) e =
    let first : param_type q ≡ param_type p = cc in
    let rest : map param_type qs ≡ map param_type ps = cc in
    and_from (same_type p q) (same_types ps qs) (is_type p q first) (are_types ps qs rest)
are_types [] (q ∷ qs) e = absurd (cc)
are_types (p ∷ ps) [] e = absurd (cc)

-- What is computed is so.
pub same_types_iff : (ps qs : List ParamInfo) → (IsTrue (same_types ps qs)) ↔ (map param_type qs ≡ map param_type ps)
same_types_iff ps qs = (types_are ps qs, are_types ps qs)

-- Fewer parameters than the first has.
pub too_few : (ps qs : List ParamInfo) → 0 < length ps → length qs < 1 → same_types ps qs ≡ false
too_few [] qs l m = absurd (omega (arith, l))
too_few (p ∷ ps) [] l m = refl
too_few (p ∷ ps) (q ∷ qs) l m = absurd (omega (arith, m))
