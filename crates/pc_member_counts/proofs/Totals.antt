-- The members of an entity are those written in it, and one for each name that it gets.
use Rattle.std.proofs.{Common.{◌≡◌, ℕ, zero, suc, ◌+◌, ◌<◌, List, [], ◌∷◌, ◌++◌, length, get_or, map, Bool, true, false, ◌&&◌, not, All, count_by, refl, sym, ap, ◌∙◌, arith, if◌then◌else◌}, lemmas.List.{length-map, length-append}, lemmas.List.Sums.count_by-le-length}
use Rattle.std.specs.Prelude.{replicate}
use Rattle.pc_base.specs.{Counts.one_if, Lists.{Has, Text}}
use Rattle.pc_base.proofs.Elements.{has_on}
use Rattle.pc_tree.specs.Kinds.{is_abstract}
use Rattle.pc_tree.specs.Tree as t
use Rattle.pc_members.specs.{MemberLists.{is_among, firsts, taken_over, of_each, trait_methods, abstract_methods, members, abstract_members, concrete_members}, Members.{method_texts, has_added, written, without_body, own_texts}, Parts.added_if}
use Rattle.pc_member_counts.specs.{Numbers.method_names, Totals.{takes, gets, got, own_count, totals}}
use Rattle.pc_member_counts.proofs.{Sights.{absent_is, sight_firsts}, Picks.{same_count, count_none, count_taken_over, count_firsts}, Covers.{method_names_differ, each_covered, trait_covered, whole_covered}}

-- ---- a trait or an interface

same_not : (a b : Bool) → not a ≡ not b → a ≡ b
same_not true true e = refl
same_not true false e = sym e
same_not false true e = sym e
same_not false false e = refl

-- The first methods with each name have the names of all.
firsts_named : (x : Text) (ms : List t.Method) → is_among x (method_texts (firsts [] ms)) ≡ is_among x (method_texts ms)
firsts_named x ms = same_not (is_among x (method_texts (firsts [] ms))) (is_among x (method_texts ms)) (sym (absent_is x (firsts [] ms)) ∙ ap (λ s. s.absent) (sight_firsts x [] ms) ∙ absent_is x ms)

trait_count : (es : List t.Entity) (k : ℕ) (e : t.Entity) → Has es e → count_by (λ x. is_among x (method_texts (trait_methods k es e))) (method_names [] es) ≡ length (trait_methods k es e)
trait_count es zero e h = count_none (λ x. is_among x []) (method_names [] es) (λ x. refl)
trait_count es (suc k) e h =
    let ms : List t.Method = e.methods ++ of_each (trait_methods k es) es e.provides in
    same_count (λ x. is_among x (method_texts (firsts [] ms))) (λ x. is_among x (method_texts ms)) (method_names [] es) (λ x g. firsts_named x ms)
    ∙ sym (count_firsts (method_names [] es) ms (method_names_differ es) (whole_covered es k e h))

-- ---- a class, an actor or a primitive

added_length : (b : Bool) → length (added_if b) ≡ one_if b
added_length true = refl
added_length false = refl

concrete_count : (es : List t.Entity) (e : t.Entity) → count_by (λ x. takes e.kind x (of_each (abstract_methods es) es e.provides) && not (is_among x (own_texts e))) (method_names [] es) ≡ length (taken_over es e)
concrete_count es e = sym (count_taken_over e.kind (own_texts e) (method_names [] es) (of_each (abstract_methods es) es e.provides) (method_names_differ es) (each_covered es (abstract_methods es) (method_names [] es) (λ f q. trait_covered es (length es) f q) e.provides))

concrete_length : (es : List t.Entity) (e : t.Entity) → length (concrete_members es e) ≡ (length e.methods + one_if (has_added e)) + length (taken_over es e)
concrete_length es e =
    let a = length-append (map written e.methods) (added_if (has_added e) ++ map written (taken_over es e)) in
    let b = length-append (added_if (has_added e)) (map written (taken_over es e)) in
    let c = length-map e.methods written in
    let d = length-map (taken_over es e) written in
    let f = added_length (has_added e) in
    omega (arith, a, b, c, d, f)

-- ---- all entities

member_count : (es : List t.Entity) (e : t.Entity) → Has es e → own_count e + got es (method_names [] es) e ≡ length (members es e)
member_count es e h = by (is_abstract e.kind)
  where
    by : (b : Bool)
        → (if b then 0 else length e.methods + one_if (has_added e)) + count_by (λ x. if b then is_among x (method_texts (abstract_methods es e)) else (takes e.kind x (of_each (abstract_methods es) es e.provides) && not (is_among x (own_texts e)))) (method_names [] es)
        ≡ length (if b then abstract_members es e else concrete_members es e)
    by true =
        let a = trait_count es (length es) e h in
        let b = length-map (abstract_methods es e) (λ m. written (without_body m)) in
        omega (arith, a, b)
    by false = ap (λ n. (length e.methods + one_if (has_added e)) + n) (concrete_count es e) ∙ sym (concrete_length es e)

total_each : (all : List t.Entity) (names : List Text) (es : List t.Entity) → ((e : t.Entity) → Has es e → own_count e + got all names e ≡ length (members all e)) → totals es (map (got all names) es) ≡ map (λ e. length (members all e)) es
total_each all names [] h = refl
total_each all names (e ∷ es) h = ap (λ n. n ∷ totals es (map (got all names) es)) (h e (0, refl)) ∙ ap (λ ns. length (members all e) ∷ ns) (total_each all names es (λ f g. h f (has_on e es f g)))

pub all_counted : (es : List t.Entity) → totals es (map (got es (method_names [] es)) es) ≡ map (λ e. length (members es e)) es
all_counted es = total_each es (method_names [] es) es (λ e h. member_count es e h)

-- ---- small counts

pub got_few : (all : List t.Entity) (names : List Text) (es : List t.Entity) (n : ℕ) → length names < n → All (λ c. c < n) (map (got all names) es)
got_few all names es n l k d w = at es k w
  where
    at : (fs : List t.Entity) (j : ℕ) → j < length (map (got all names) fs) → get_or (map (got all names) fs) j d < n
    at [] j v = absurd (omega (arith, v))
    at (f ∷ fs) zero v = let m = count_by-le-length (gets all f) names in omega (arith, m, l)
    at (f ∷ fs) (suc j) v = at fs j (omega (arith, v))

-- Of no names, none is got.
pub got_none : (all es : List t.Entity) → map (got all []) es ≡ replicate (length es) 0
got_none all [] = refl
got_none all (e ∷ es) = ap (λ ns. 0 ∷ ns) (got_none all es)
