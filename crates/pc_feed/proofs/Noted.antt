-- The notes of the nodes without a parent so far.
use Rattle.std.specs.Prelude.{◌≡◌, ◌↔◌, ℕ, zero, suc, List, [], ◌∷◌, ◌++◌, length, Option, Some, slice_get, refl}
use Rattle.std.proofs.{Common.{ap, sym, subst, ◌∙◌}, lemmas.Option.{same_Some, none-some}}
use Rattle.pc_ann.specs.declared.annotation.Note.{Note}
use Rattle.pc_base.specs.Lists.{◌>>=◌}
use Rattle.pc_base.proofs.Options.{bind_some, bind_is}
use Rattle.pc_rules.specs.Parts.{notes_of}
use Rattle.pc_valid.specs.{Words.Slots, Valid.MeetsRule, NoRule.Holds}
use Rattle.pc_rules.proofs.Derivations.{holds_meets}
use Rattle.pc_feed.specs.WaitingLaws.{WaitingTells}
use Rattle.pc_feed.proofs.PostOrder.{children_wait_last}

abbrev put_on : Note → Option (List Note) → Option (List Note)
put_on t rest = rest >>= λ ts. Some (t ∷ ts)

abbrev all_on : List Note → List ℕ → Note → Option (List Note)
all_on notes cs t = put_on t (notes_of notes cs)

-- the note of the first, and those of the others
first_of : (notes : List Note) (c : ℕ) (cs : List ℕ) (ts : List Note) → notes_of notes (c ∷ cs) ≡ Some ts
    → (t : Note) × (us : List Note) × (slice_get notes c ≡ Some t) × (notes_of notes cs ≡ Some us) × (ts ≡ t ∷ us)
first_of notes c cs ts e =
    let h = bind_some (slice_get notes c) (all_on notes cs) ts e in
    let k = bind_some (notes_of notes cs) (λ us. Some (h.0 ∷ us)) ts h.2 in
    (h.0, k.0, h.1, k.1, sym (same_Some (h.0 ∷ k.0) ts k.2))

first_on : (notes : List Note) (c : ℕ) (cs : List ℕ) (t : Note) (us : List Note) → slice_get notes c ≡ Some t → notes_of notes cs ≡ Some us → notes_of notes (c ∷ cs) ≡ Some (t ∷ us)
first_on notes c cs t us e h = bind_is (slice_get notes c) (all_on notes cs) t e ∙ bind_is (notes_of notes cs) (λ vs. Some (t ∷ vs)) us h

front_get : (xs ys : List Note) (i : ℕ) (t : Note) → slice_get xs i ≡ Some t → slice_get (xs ++ ys) i ≡ Some t
front_get [] ys i t e = absurd (none-some t e)
front_get (x ∷ xs) ys zero t e = e
front_get (x ∷ xs) ys (suc i) t e = front_get xs ys i t e

-- later notes change none
pub noted_more : (notes more : List Note) (cs : List ℕ) (ts : List Note) → notes_of notes cs ≡ Some ts → notes_of (notes ++ more) cs ≡ Some ts
noted_more notes more [] ts e = e
noted_more notes more (c ∷ cs) ts e =
    let h = first_of notes c cs ts e in
    first_on (notes ++ more) c cs h.0 h.1 (front_get notes more c h.0 h.2) (noted_more notes more cs h.1 h.3) ∙ ap Some (sym h.4)

-- these nodes, cut at the same place as their notes
pub noted_cut : (notes : List Note) (rest cs : List ℕ) (ts : List Note) → notes_of notes (rest ++ cs) ≡ Some ts
    → (front : List Note) × (children : List Note) × (ts ≡ front ++ children) × (notes_of notes rest ≡ Some front) × (notes_of notes cs ≡ Some children)
noted_cut notes [] cs ts e = ([], ts, refl, refl, e)
noted_cut notes (r ∷ rest) cs ts e =
    let h = first_of notes r (rest ++ cs) ts e in
    let c = noted_cut notes rest cs h.1 h.3 in
    (h.0 ∷ c.0, c.1, h.4 ∙ ap (λ us. h.0 ∷ us) c.2, first_on notes r rest h.0 c.0 h.2 c.3, c.4)

-- there is one note for each
noted_count : (notes : List Note) (cs : List ℕ) (ts : List Note) → notes_of notes cs ≡ Some ts → length ts ≡ length cs
noted_count notes [] ts e = ap length (sym (same_Some [] ts e))
noted_count notes (c ∷ cs) ts e = let h = first_of notes c cs ts e in ap length h.4 ∙ ap suc (noted_count notes cs h.1 h.3)

get_next : (notes more : List Note) (t : Note) → slice_get (notes ++ t ∷ more) (length notes) ≡ Some t
get_next [] more t = refl
get_next (s ∷ notes) more t = get_next notes more t

append_on : (notes more : List Note) (t : Note) → (notes ++ t ∷ []) ++ more ≡ notes ++ t ∷ more
append_on [] more t = refl
append_on (s ∷ notes) more t = ap (λ q. s ∷ q) (append_on notes more t)

pub waiting_tells : WaitingTells
waiting_tells core slots notes waiting numbers own x formed w kept g =
    let s = children_wait_last core (length notes) numbers x formed w g in
    let c = noted_cut notes s.0 x.children waiting (sym (ap (notes_of notes) s.1) ∙ kept) in (
      c.0,
      c.1,
      c.2,
      noted_count notes x.children c.1 c.4,
      λ ann b.
          let whole : ann.notes ≡ notes ++ own ∷ b.0 = b.2 ∙ append_on notes b.0 own in
          let own_at : slice_get ann.notes (length notes) ≡ Some own = ap (λ ns. slice_get ns (length notes)) whole ∙ get_next notes b.0 own in
          let of_them : notes_of ann.notes x.children ≡ Some c.1 = ap (λ ns. notes_of ns x.children) whole ∙ noted_more notes (own ∷ b.0) x.children c.1 c.4 in
          subst (λ (ty : Slots). Holds core ty own c.1 (length notes) ↔ MeetsRule core ann (length notes)) b.1
          (holds_meets core ann (length notes) x own c.1 g own_at of_them),
    )
