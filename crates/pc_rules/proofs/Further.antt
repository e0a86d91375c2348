-- One more child, of the children from a place on.
use Rattle.std.specs.Prelude.{◌≡◌, ℕ, zero, suc, ◌+◌, ◌<◌, ◌≤◌, length, take, Bool, true, false, cond, ◌&&◌, List, [], ◌∷◌, drop, Option, Some, None, slice_get, get_or}
use Rattle.std.proofs.{Common.{ap, sym, subst, ◌∙◌, arith}, lemmas.List.{drop_all, length-take-le}, lemmas.Option.{same_Some, none-some, slice_get-get_or}}
use Rattle.pc_base.proofs.{Cuts.take_whole, Gets.take_get}
use Rattle.pc_core.specs.{declared.declarations.ParamInfo.ParamInfo, CoreData.CoreData}
use Rattle.pc_base.specs.Lists.{◌>>=◌}
use Rattle.pc_masks.specs.declared.mask.Mask.{Mask}
use Rattle.pc_ann.specs.declared.annotation.Note.{Note}
use Rattle.pc_rules.specs.{Parts.{starts, through_notes}, Calls.{argument_goes, argument_sendable, arguments_go, arguments_sendable}, Children.{is_there, each_has, goes_at, goes_to_param, sendable_at, sendable_to_param}, Control.{without_item, without_items}}
use Rattle.pc_valid.specs.Words.{Masks, masks_after}
use Rattle.pc_rules.proofs.Gathered.{note_within}

drop_suc : {A : Type 0} → (ts : List A) (i : ℕ) (t : A) → slice_get ts i ≡ Some t → drop i ts ≡ t ∷ drop (suc i) ts
drop_suc [] i t e = absurd (none-some t e)
drop_suc (s ∷ ts) zero t e = ap (λ r. r ∷ ts) (same_Some s t e)
drop_suc (s ∷ ts) (suc i) t e = drop_suc ts i t e

drop_step : {A : Type 0} → (ts : List A) (i : ℕ) (t : A) → slice_get ts i ≡ Some t → drop i ts ≡ t ∷ drop (i + 1) ts
drop_step ts i t e = let k : suc i ≡ i + 1 = omega arith in drop_suc ts i t e ∙ ap (λ n. t ∷ drop n ts) k

pub through_stops : (ns : List Note) (i : ℕ) (t : Note) (m : Masks) → slice_get ns i ≡ Some t → starts t m ≡ false → through_notes (drop i ns) m ≡ None
through_stops ns i t m e f = ap (λ ts. through_notes ts m) (drop_step ns i t e) ∙ ap (λ b. cond b (through_notes (drop (i + 1) ns) (masks_after t)) None) f

pub through_goes : (ns : List Note) (i : ℕ) (t : Note) (m : Masks) → slice_get ns i ≡ Some t → starts t m ≡ true → through_notes (drop i ns) m ≡ through_notes (drop (i + 1) ns) (masks_after t)
through_goes ns i t m e f = ap (λ ts. through_notes ts m) (drop_step ns i t e) ∙ ap (λ b. cond b (through_notes (drop (i + 1) ns) (masks_after t)) None) f

pub go_at : (core : CoreData) (ns : List Note) (ps : List ParamInfo) (k i : ℕ) → length ps ≡ k → k ≤ length ns → i < k
    → arguments_go core (drop i (take k ns)) (drop i ps) ≡ (goes_at core ns ps i && arguments_go core (drop (i + 1) (take k ns)) (drop (i + 1) ps))
go_at core ns ps k i e l b =
    let p = note_within ps i (omega (arith, e, b)) in
    let t = note_within ns i (omega (arith, l, b)) in
    let same : goes_at core ns ps i ≡ argument_goes core p.0 t.0.ty = ap (goes_to_param core ns i) p.1 ∙ ap (λ (o : Option Note). argument_goes core p.0 (o >>= λ s. s.ty)) t.1 in
    ap (λ ts. arguments_go core ts (drop i ps)) (drop_step (take k ns) i t.0 (take_get ns k i t.0 b t.1))
    ∙ ap (λ qs. arguments_go core (t.0 ∷ drop (i + 1) (take k ns)) qs) (drop_step ps i p.0 p.1)
    ∙ ap (λ g. g && arguments_go core (drop (i + 1) (take k ns)) (drop (i + 1) ps)) (sym same)

pub sendable_step : (ns : List Note) (ps : List ParamInfo) (k i : ℕ) → length ps ≡ k → k ≤ length ns → i < k
    → arguments_sendable (drop i (take k ns)) (drop i ps) ≡ (sendable_at ns ps i && arguments_sendable (drop (i + 1) (take k ns)) (drop (i + 1) ps))
sendable_step ns ps k i e l b =
    let p = note_within ps i (omega (arith, e, b)) in
    let t = note_within ns i (omega (arith, l, b)) in
    let same : sendable_at ns ps i ≡ argument_sendable p.0 t.0.ty = ap (sendable_to_param ns i) p.1 ∙ ap (λ (o : Option Note). argument_sendable p.0 (o >>= λ s. s.ty)) t.1 in
    ap (λ ts. arguments_sendable ts (drop i ps)) (drop_step (take k ns) i t.0 (take_get ns k i t.0 b t.1))
    ∙ ap (λ qs. arguments_sendable (t.0 ∷ drop (i + 1) (take k ns)) qs) (drop_step ps i p.0 p.1)
    ∙ ap (λ g. g && arguments_sendable (drop (i + 1) (take k ns)) (drop (i + 1) ps)) (sym same)

here : (notes : List Note) (cs : List ℕ) (i : ℕ) (b c : Bool) → i < length cs → b ≡ is_there (slice_get notes (get_or cs i 0)) → b ≡ c → each_has notes (drop i cs) ≡ (c && each_has notes (drop (i + 1) cs))
here notes cs i b c l e f = ap (each_has notes) (drop_step cs i (get_or cs i 0) (slice_get-get_or cs i 0 l)) ∙ ap (λ g. g && each_has notes (drop (i + 1) cs)) (sym e ∙ f)

pub one_more_has : (notes : List Note) (cs : List ℕ) (i : ℕ) (b : Bool) → i < length cs → b ≡ is_there (slice_get notes (get_or cs i 0)) → b ≡ true → each_has notes (drop (i + 1) cs) ≡ each_has notes (drop i cs)
one_more_has notes cs i b l e f = sym (here notes cs i b true l e f)

pub this_lacks : (notes : List Note) (cs : List ℕ) (i : ℕ) (b : Bool) → i < length cs → b ≡ is_there (slice_get notes (get_or cs i 0)) → b ≡ false → false ≡ each_has notes (drop i cs)
this_lacks notes cs i b l e f = sym (here notes cs i b false l e f)

pub one_more_without : (core : CoreData) (cs : List ℕ) (i : ℕ) (l m : Mask) → i < length cs → m ≡ without_item (slice_get core.nodes (get_or cs i 0)) l → without_items core (drop (i + 1) cs) m ≡ without_items core (drop i cs) l
one_more_without core cs i l m b e = ap (without_items core (drop (i + 1) cs)) e ∙ sym (ap (λ ds. without_items core ds l) (drop_step cs i (get_or cs i 0) (slice_get-get_or cs i 0 b)))

-- ---- after the last child

pub all_through : (ns : List Note) (i : ℕ) (m : Masks) → length ns ≤ i → Some m ≡ through_notes (drop i ns) m
all_through ns i m l = sym (ap (λ ts. through_notes ts m) (drop_all i ns l))

pub all_have : (notes : List Note) (cs : List ℕ) (i : ℕ) → length cs ≤ i → true ≡ each_has notes (drop i cs)
all_have notes cs i l = sym (ap (each_has notes) (drop_all i cs l))

none_taken : (ns : List Note) (k i : ℕ) → k ≤ length ns → k ≤ i → drop i (take k ns) ≡ []
none_taken ns k i l b = drop_all i (take k ns) (subst (λ n. n ≤ i) (sym (length-take-le k ns l)) b)

none_asked : (ps : List ParamInfo) (k i : ℕ) → length ps ≡ k → k ≤ i → drop i ps ≡ []
none_asked ps k i e b = drop_all i ps (subst (λ n. n ≤ i) (sym e) b)

pub all_went : (core : CoreData) (ns : List Note) (ps : List ParamInfo) (k i : ℕ) → length ps ≡ k → k ≤ length ns → k ≤ i → true ≡ arguments_go core (drop i (take k ns)) (drop i ps)
all_went core ns ps k i e l b = sym (ap (λ ts. arguments_go core ts (drop i ps)) (none_taken ns k i l b) ∙ ap (arguments_go core []) (none_asked ps k i e b))

pub all_sendable : (ns : List Note) (ps : List ParamInfo) (k i : ℕ) → length ps ≡ k → k ≤ length ns → k ≤ i → true ≡ arguments_sendable (drop i (take k ns)) (drop i ps)
all_sendable ns ps k i e l b = sym (ap (λ ts. arguments_sendable ts (drop i ps)) (none_taken ns k i l b) ∙ ap (arguments_sendable []) (none_asked ps k i e b))

pub each_goes : (core : CoreData) (ns : List Note) (ps : List ParamInfo) (k : ℕ) → k ≡ length ns → arguments_go core (take k ns) ps ≡ arguments_go core ns ps
each_goes core ns ps k e = ap (λ n. arguments_go core (take n ns) ps) e ∙ ap (λ ts. arguments_go core ts ps) (take_whole ns)
