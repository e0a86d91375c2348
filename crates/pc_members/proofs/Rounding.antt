-- What a table of the methods of traits and interfaces has, entity by entity.
use Rattle.std.proofs.{Common.{◌≡◌, ◌≢◌, ℕ, ◌+◌, ◌<◌, List, length, drop, Some, Bool, true, false, nat_eq, refl, sym, ap, ◌∙◌, subst, arith, inl, inr}, lemmas.Option.same_Some, lemmas.List.length-set}
use Rattle.std.specs.Prelude.{slice_get, slice_set}
use Rattle.pc_base.proofs.Gets.{get_below, get_drop, get_set_same, get_set_other}
use Rattle.pc_tree.specs.Kinds.{is_abstract, first_own}
use Rattle.pc_tree.specs.Tree as t
use Rattle.pc_base.specs.Lists.{Text}
use Rattle.pc_members.specs.{Members.{entity_names, Member}, Parts.or_nil, Founded.IsFounded, Rounds.{gathered, methods_written, rank, ClosesOwn, Knows, IsReached}}
use Rattle.pc_members.proofs.Ranks.{gathers, rank_few, rank_at}

no_less : {T : Type 0} → (a : ℕ) → a < 0 → T
no_less a l = absurd (omega (arith, l))

-- ---- places

pub knows_none : (file : t.File) (own : List (List ℕ)) (table : List (List Member)) → length table ≡ length file.entities → Knows file own 0 0 table
knows_none file own table same = record { count = same; known = λ j e h is r. none j r }
  where
    none : {T : Type 0} → (j : ℕ) → IsReached own 0 0 j → T
    none j (inl l) = no_less _ l
    none j (inr p) = no_less _ p.1

-- One place further: what is required is required already, or it is this place.
pub one_place : {T : Type 0} → (above : List (List ℕ)) (r i j : ℕ) → IsReached above r (i + 1) j → (j ≡ i → rank above j ≡ r → T) → (IsReached above r i j → T) → T
one_place above r i j (inl l) f g = g (inl l)
one_place {T} above r i j (inr p) f g = by (nat_eq j i) refl
  where
    by : (b : Bool) → nat_eq j i ≡ b → T
    by true e = let same : j ≡ i = search (arith, e) in f same p.0
    by false e = g (inr (p.0, let n : j ≢ i = search (arith, e) in let l = p.1 in omega (arith, n, l)))

-- There is no trait at this place with this number of entities above it.
abbrev pub NotHere : t.File → List (List ℕ) → ℕ → ℕ → Type 0
NotHere file above r i = (e : t.Entity) → slice_get file.entities i ≡ Some e → is_abstract e.kind ≡ true → rank above i ≡ r → ⊥

pub reach_kept : (file : t.File) (own : List (List ℕ)) (r i : ℕ) (table : List (List Member)) → NotHere file own r i → Knows file own r i table → Knows file own r (i + 1) table
reach_kept file own r i table other k =
    record { count = k.count; known = λ j f h is q. k.known j f h is (one_place own r i j q (λ e g. absurd (other f (ap (slice_get file.entities) (sym e) ∙ h) is (ap (rank own) (sym e) ∙ g))) (λ x. x)) }

-- The rank among the lists of the file's own entities is that among the lists of all.
pub same_rank : (own above : List (List ℕ)) → own ≡ drop first_own above → (i : ℕ) → rank own i ≡ rank_at above i
same_rank own above e i = ap (λ o. length (or_nil o)) (ap (λ l. slice_get l i) e ∙ get_drop above first_own i)

pub reach_new : (file : t.File) (entities : List Text) (own : List (List ℕ)) (r i : ℕ) (e : t.Entity) (ms : List Member) (table next : List (List Member)) → entities ≡ entity_names file → ClosesOwn file own → IsFounded file
    → slice_get file.entities i ≡ Some e → is_abstract e.kind ≡ true → rank own i ≡ r
    → Knows file own r i table → ms ≡ gathered entities table e → next ≡ slice_set table i ms → Knows file own r (i + 1) next
reach_new file entities own r i e ms table next names c founded h is g k same new =
    let all : ms ≡ methods_written file e =
    same ∙ ap (λ ns. gathered ns table e) names ∙ gathers file c.0 founded c.1 table i e h is
    (λ j f hf isf l. k.known j f hf isf (inl (let a = same_rank own c.0 c.2 i in let b = same_rank own c.0 c.2 j in omega (arith, l, g, a, b)))) in
    let within : i < length table = let l = get_below file.entities i e h in let n = k.count in omega (arith, l, n) in
    record { count = ap length new ∙ length-set table i ms ∙ k.count; known = λ j f hf isf q. ap (λ t. slice_get t j) new ∙ by all within j f hf isf q (nat_eq j i) refl }
  where
    by : ms ≡ methods_written file e → i < length table → (j : ℕ) (f : t.Entity) → slice_get file.entities j ≡ Some f → is_abstract f.kind ≡ true → IsReached own r (i + 1) j → (b : Bool) → nat_eq j i ≡ b → slice_get (slice_set table i ms) j ≡ Some (methods_written file f)
    by all within j f hf isf q true d =
        let here : j ≡ i = search (arith, d) in
        let one : e ≡ f = same_Some e f (sym h ∙ ap (slice_get file.entities) (sym here) ∙ hf) in
        ap (slice_get (slice_set table i ms)) here ∙ get_set_same table i ms within ∙ ap (λ x. Some x) (all ∙ ap (methods_written file) one)
    by all within j f hf isf q false d =
        let other : j ≢ i = search (arith, d) in
        get_set_other table i ms j other ∙ k.known j f hf isf (one_place own r i j q (λ here m. absurd (other here)) (λ x. x))

-- ---- ranks

-- When all places are done, so is the rank.
pub next_rank : (file : t.File) (own : List (List ℕ)) (r n : ℕ) (table : List (List Member)) → n ≡ length file.entities → Knows file own r n table → Knows file own (r + 1) 0 table
next_rank file own r n table same k = record { count = k.count; known = λ j e h is q. k.known j e h is (by j e h q) }
  where
    by : (j : ℕ) (e : t.Entity) → slice_get file.entities j ≡ Some e → IsReached own (r + 1) 0 j → IsReached own r n j
    by j e h (inr p) = no_less _ p.1
    by j e h (inl l) = equal (nat_eq (rank own j) r) refl
      where
        equal : (b : Bool) → nat_eq (rank own j) r ≡ b → IsReached own r n j
        equal true d = inr (search (arith, d), let m = get_below file.entities j e h in omega (arith, m, same))
        equal false d = let o : rank own j ≢ r = search (arith, d) in inl (omega (arith, l, o))

-- When all ranks are done, so are all traits and interfaces.
pub knows_all : (file : t.File) (own : List (List ℕ)) (table : List (List Member)) → ClosesOwn file own → IsFounded file → Knows file own (length file.entities) 0 table
    → (j : ℕ) (e : t.Entity) → slice_get file.entities j ≡ Some e → is_abstract e.kind ≡ true → slice_get table j ≡ Some (methods_written file e)
knows_all file own table c founded k j e h is =
    k.known j e h is (inl (let l = rank_few file c.0 founded c.1 j e h is in let a = same_rank own c.0 c.2 j in omega (arith, l, a)))

pub last_rank : (file : t.File) (own : List (List ℕ)) (n m : ℕ) (table : List (List Member)) → n ≡ m → Knows file own n 0 table → Knows file own m 0 table
last_rank file own n m table same k = subst (λ r. Knows file own r 0 table) same k
