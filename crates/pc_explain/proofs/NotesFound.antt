-- The notes of nodes, looked up one after another.
use Rattle.std.specs.Prelude.{◌≡◌, ℕ, ◌+◌, ◌<◌, List, [], ◌∷◌, ◌++◌, length, Option, Some, None, drop, get_or, option_map, slice_get, refl}
use Rattle.std.proofs.{Common.{ap, sym, ◌∙◌, append_assoc}, lemmas.List.drop_more}
use Rattle.pc_ann.specs.declared.annotation.Note.{Note}
use Rattle.pc_base.specs.Lists.{◌>>=◌}
use Rattle.pc_rules.specs.Parts.{notes_of}

-- Of one node that has no note there are none.
without : (found notes : List Note) (o : Option Note) (rest : Option (List Note)) → o ≡ None
    → option_map (λ (ns : List Note). found ++ ns) (o >>= λ t. rest >>= λ ts. Some (t ∷ ts)) ≡ None
without found notes o rest e = ap (λ (p : Option Note). option_map (λ (ns : List Note). found ++ ns) (p >>= λ t. rest >>= λ ts. Some (t ∷ ts))) e

with_rest : (found : List Note) (t : Note) (rest : Option (List Note))
    → option_map (λ (ns : List Note). (found ++ t ∷ []) ++ ns) rest ≡ option_map (λ (ns : List Note). found ++ ns) (rest >>= λ ts. Some (t ∷ ts))
with_rest found t None = refl
with_rest found t (Some ts) = ap Some (append_assoc found (t ∷ []) ts)

pub none_more : (found notes : List Note) (children : List ℕ) (i d : ℕ) → i < length children → slice_get notes (get_or children i d) ≡ None
    → option_map (λ (ns : List Note). found ++ ns) (notes_of notes (drop i children)) ≡ None
none_more found notes children i d l e =
    ap (λ (cs : List ℕ). option_map (λ (ns : List Note). found ++ ns) (notes_of notes cs)) (drop_more children i d l)
    ∙ without found notes (slice_get notes (get_or children i d)) (notes_of notes (drop (i + 1) children)) e

pub one_more : (found notes : List Note) (children : List ℕ) (i d : ℕ) (t : Note) → i < length children → slice_get notes (get_or children i d) ≡ Some t
    → option_map (λ (ns : List Note). (found ++ t ∷ []) ++ ns) (notes_of notes (drop (i + 1) children))
    ≡ option_map (λ (ns : List Note). found ++ ns) (notes_of notes (drop i children))
one_more found notes children i d t l e =
    let rest = notes_of notes (drop (i + 1) children) in
    with_rest found t rest
    ∙ ap (λ (p : Option Note). option_map (λ (ns : List Note). found ++ ns) (p >>= λ u. rest >>= λ ts. Some (u ∷ ts))) (sym e)
    ∙ ap (λ (cs : List ℕ). option_map (λ (ns : List Note). found ++ ns) (notes_of notes cs)) (sym (drop_more children i d l))
