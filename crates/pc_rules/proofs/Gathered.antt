-- The notes that are gathered by their numbers.
use Rattle.std.specs.Prelude.{◌≡◌, ℕ, Bool, true, false, zero, suc, ◌<◌, ◌&&◌, List, [], ◌∷◌, length, Option, Some, None, slice_get, refl}
use Rattle.std.proofs.{Common.{ap, sym, subst, ◌∙◌, arith}, lemmas.Option.{same_Some, none-some}, lemmas.Bool.and_parts}
use Rattle.pc_core.specs.{declared.nodes.Node.Node, declared.nodes.NodeKind.NodeKind, CoreData.CoreData}
use Rattle.pc_base.specs.Lists.{◌>>=◌}
use Rattle.pc_base.proofs.{Gets.get_below, Bools.false_true}
use Rattle.pc_ann.specs.{declared.annotation.Note.Note, declared.annotation.Ann.Ann, declared.annotation.Rule.Rule}
use Rattle.pc_rules.specs.{Parts.notes_of, Rules.{rule_says, says}, Children.{HaveNotes, is_there, each_has, put_before, gather, all_or_gathered, MayGather, picked_note}}
use Rattle.pc_valid.specs.Words.{Masks}

pub note_within : {A : Type 0} → (notes : List A) (c : ℕ) → c < length notes → (t : A) × (slice_get notes c ≡ Some t)
note_within [] c l = absurd (omega (arith, l))
note_within (t ∷ ts) zero l = (t, refl)
note_within (t ∷ ts) (suc c) l = note_within ts c (omega (arith, l))

-- ---- by index

gather_length : (notes : List Note) (cs : List ℕ) → HaveNotes notes cs → length (gather notes cs) ≡ length cs
gather_length notes [] h = refl
gather_length notes (c ∷ cs) h =
    let at = note_within notes c (h 0 c refl) in
    ap (λ (o : Option Note). length (put_before o (gather notes cs))) at.1 ∙ ap suc (gather_length notes cs (λ i d e. h (suc i) d e))

gather_get : (notes : List Note) (cs : List ℕ) (i : ℕ) → HaveNotes notes cs → slice_get (gather notes cs) i ≡ picked_note notes cs i
gather_get notes [] i h = refl
gather_get notes (c ∷ cs) zero h =
    let at = note_within notes c (h 0 c refl) in
    ap (λ (o : Option Note). slice_get (put_before o (gather notes cs)) 0) at.1 ∙ sym at.1
gather_get notes (c ∷ cs) (suc i) h =
    let at = note_within notes c (h 0 c refl) in
    ap (λ (o : Option Note). slice_get (put_before o (gather notes cs)) (suc i)) at.1 ∙ gather_get notes cs i (λ j d e. h (suc j) d e)

pub either_get : (held : Bool) (notes : List Note) (cs : List ℕ) (i : ℕ) → held ≡ false → MayGather held notes cs → slice_get (all_or_gathered held notes cs) i ≡ picked_note notes cs i
either_get true notes cs i e h = absurd (false_true (sym e))
either_get false notes cs i e h = gather_get notes cs i h

pub either_length : (held : Bool) (notes : List Note) (cs : List ℕ) → held ≡ false → MayGather held notes cs → length (all_or_gathered held notes cs) ≡ length cs
either_length true notes cs e h = absurd (false_true (sym e))
either_length false notes cs e h = gather_length notes cs h

-- ---- all of them, or none

there : (o : Option Note) → is_there o ≡ true → (t : Note) × (o ≡ Some t)
there None e = absurd (false_true e)
there (Some t) e = (t, refl)

pub have_each : (notes : List Note) (cs : List ℕ) → each_has notes cs ≡ true → HaveNotes notes cs
have_each notes [] e i d g = absurd (none-some d g)
have_each notes (c ∷ cs) e zero d g =
    let p = and_parts (is_there (slice_get notes c)) (each_has notes cs) e in
    let t = there (slice_get notes c) p.0 in
    subst (λ k. k < length notes) (same_Some c d g) (get_below notes c t.0 t.1)
have_each notes (c ∷ cs) e (suc i) d g = have_each notes cs (and_parts (is_there (slice_get notes c)) (each_has notes cs) e).1 i d g

abbrev put_on : Option Note → Option (List Note) → Option (List Note)
put_on o rest = do
  t ← o
  ts ← rest
  Some (t ∷ ts)

pub all_there : (notes : List Note) (cs : List ℕ) → each_has notes cs ≡ true → notes_of notes cs ≡ Some (gather notes cs)
all_there notes [] e = refl
all_there notes (c ∷ cs) e =
    let p = and_parts (is_there (slice_get notes c)) (each_has notes cs) e in
    let t = there (slice_get notes c) p.0 in
    ap (λ o. put_on o (notes_of notes cs)) t.1 ∙ ap (put_on (Some t.0)) (all_there notes cs p.1)
    ∙ ap (λ (o : Option Note). Some (put_before o (gather notes cs))) (sym t.1)

missing : (o : Option Note) (b : Bool) (rest : Option (List Note)) → (is_there o && b) ≡ false → (b ≡ false → rest ≡ None) → put_on o rest ≡ None
missing None b rest e h = refl
missing (Some t) b rest e h = ap (put_on (Some t)) (h e)

pub one_lacks : (notes : List Note) (cs : List ℕ) → each_has notes cs ≡ false → notes_of notes cs ≡ None
one_lacks notes [] e = absurd (false_true (sym e))
one_lacks notes (c ∷ cs) e = missing (slice_get notes c) (each_has notes cs) (notes_of notes cs) e (one_lacks notes cs)

-- The conclusion of a rule for a node whose children all have notes, and for one with a child that has none.
pub says_then : (core : CoreData) (ann : Ann) (x : Node) (m : Masks) (r : Rule) (k : NodeKind) → each_has ann.notes x.children ≡ true → says core ann x m r k ≡ rule_says core ann.slots (all_or_gathered false ann.notes x.children) x m r k
says_then core ann x m r k e = ap (λ (o : Option (List Note)). o >>= λ ns. rule_says core ann.slots ns x m r k) (all_there ann.notes x.children e)

pub says_else : (core : CoreData) (ann : Ann) (x : Node) (m : Masks) (r : Rule) (k : NodeKind) → each_has ann.notes x.children ≡ false → says core ann x m r k ≡ None
says_else core ann x m r k e = ap (λ (o : Option (List Note)). o >>= λ ns. rule_says core ann.slots ns x m r k) (one_lacks ann.notes x.children e)
