-- The counts of a window by the plan for a file.
use Rattle.std.proofs.{Common.{◌≡◌, ℕ, ◌+◌, ◌-◌, ◌<◌, ◌^◌, min, List, [], length, get_or, take, map, All, true, nat_lt, sym, ap, ◌∙◌, subst, arith}, lemmas.Bool.ltb-true, lemmas.Option.slice_get-get_or, lemmas.List.length-take}
use Rattle.std.specs.Prelude.{slice_get, slice_set, replicate, Some}
use Rattle.pc_tree.specs.Tree as t
use Rattle.pc_base.specs.Lists.{Text}
use Rattle.pc_member_counts.specs.{declared.block.Block.Block, declared.listing.Listing.Listing, declared.plan.Plan.Plan, Blocks.nothing, Plans.Plans, Windows.{trait_block, placed, filled_at, filled}, Fresh.with_fresh, Totals.got, Numbers.method_names}
use Rattle.pc_member_counts.proofs.{Covers.method_names_differ, Windows.window_counted, Totals.got_few}

-- ---- one place

-- What indexing found.
pub got_at : {T : Type 0} → (xs : List T) (i : ℕ) (x : T) → true ≡ nat_lt i (length xs) → x ≡ get_or xs i x → slice_get xs i ≡ Some x
got_at xs i x l e = slice_get-get_or xs i x (ltb-true i (length xs) (sym l)) ∙ ap (λ y. Some y) (sym e)

pub placed_is : (start : ℕ) (es : List t.Entity) (ls : List Listing) (i : ℕ) (e : t.Entity) (l : Listing) (table now new : List Block) (b : Block) → slice_get es i ≡ Some e → slice_get ls i ≡ Some l → now ≡ table → b ≡ trait_block start now e l → new ≡ slice_set table i b → new ≡ filled_at start es ls table i
placed_is start es ls i e l table now new b he hl same is set =
    set ∙ ap (slice_set table i) (is ∙ ap (λ t. trait_block start t e l) same) ∙ sym (ap (λ o. placed start table i o (slice_get ls i)) he ∙ ap (placed start table i (Some e)) hl)

-- ---- one window

abbrev CountsWindow : t.File → ℕ → Plan → Type 0
CountsWindow file start plan =
    with_fresh start (min (length plan.names - start) 64) (filled start file.entities plan.listings plan.order (replicate (length file.entities) nothing)) 0 file.entities plan.listings (map (got file.entities (take start plan.names)) file.entities)
    ≡ map (got file.entities (take (start + 64) plan.names)) file.entities

plan_counts : (file : t.File) (plan : Plan) (start : ℕ) → Plans file plan → CountsWindow file start plan
plan_counts file plan start p = subst (CountsWindow file start) (sym p.3) (window_counted file p.0 p.1 p.2 (method_names [] file.entities) (method_names_differ file.entities) start)

pub window_is : (file : t.File) (plan : Plan) → Plans file plan → (start len n count : ℕ) (ls : List Listing) (order : List ℕ) (now table : List Block) (counts : List ℕ)
    → ls ≡ plan.listings → order ≡ plan.order → count ≡ length file.entities → len ≡ length plan.names → n ≡ min (len - start) 64 → now ≡ table → table ≡ filled start file.entities ls order (replicate count nothing)
    → counts ≡ map (got file.entities (take start plan.names)) file.entities
    → with_fresh start n now 0 file.entities ls counts ≡ map (got file.entities (take (start + 64) plan.names)) file.entities
window_is file plan p start len n count ls order now table counts els eo ec el en enow et ecs =
    let whole : n ≡ min (length plan.names - start) 64 = en ∙ ap (λ k. min (k - start) 64) el in
    let blocks : now ≡ filled start file.entities plan.listings plan.order (replicate (length file.entities) nothing) =
    enow ∙ et ∙ ap (λ xs. filled start file.entities xs order (replicate count nothing)) els ∙ ap (λ xs. filled start file.entities plan.listings xs (replicate count nothing)) eo ∙ ap (λ k. filled start file.entities plan.listings plan.order (replicate k nothing)) ec in
    ap (λ k. with_fresh start k now 0 file.entities ls counts) whole
    ∙ ap (λ t. with_fresh start (min (length plan.names - start) 64) t 0 file.entities ls counts) blocks
    ∙ ap (λ xs. with_fresh start (min (length plan.names - start) 64) (filled start file.entities plan.listings plan.order (replicate (length file.entities) nothing)) 0 file.entities xs counts) els
    ∙ ap (with_fresh start (min (length plan.names - start) 64) (filled start file.entities plan.listings plan.order (replicate (length file.entities) nothing)) 0 file.entities plan.listings) ecs
    ∙ plan_counts file plan start p

-- ---- small counts

pub counts_few : (es : List t.Entity) (names : List Text) (start len : ℕ) (counts : List ℕ) → counts ≡ map (got es (take start names)) es → len ≡ length names → len < 2 ^ 32 → All (λ c. c < 2 ^ 32) counts
counts_few es names start len counts e el l =
    let n = length-take start names in
    subst (λ cs. All (λ c. c < 2 ^ 32) cs) (sym e) (got_few es (take start names) es (2 ^ 32) (omega (arith, n, el, l)))
