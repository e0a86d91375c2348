-- What is inside a waiting argument stays inside over all steps until its message is taken.
use Rattle.std.specs.Prelude.{◌≡◌, ◌≢◌, ◌⊎◌, ℕ, ◌+◌, List, [], ◌∷◌, Some, refl}
use Rattle.std.proofs.Common.{inl, inr, ap, sym, subst, ◌∙◌, arith}
use Rattle.pc_heap.specs.declared.value.Address.{Address}
use Rattle.pc_caps.specs.declared.capability.Cap.{Cap}
use Rattle.pc_caps.specs.declared.capability.Cap.TheVariants as cap
use Rattle.pc_core.specs.CoreData.{CoreData}
use Rattle.pc_semantics.specs.{declared.mailbox.Message.Message, declared.outcome.Lack.Lack, declared.outcome.Outcome.Outcome, declared.outcome.Outcome.TheVariants.{Moved, Skipped, Lacks, TooLong}, Configurations.Configuration, Step.{step, followed, run_from, after}, Laws.OnlyMovesChange}
use Rattle.pc_events.specs.{Before.{takes_one, takes_from}, Accesses.OnlyAccessed}
use Rattle.pc_events.proofs.{OnlyAccesses.step_accessed, Changes.applied, Plans.{plans, step_is}, Reach.{run_placed, after_placed}}
use Rattle.pc_isolation.specs.{Isolated.{keeps, shows, FieldsReach, waiting_at, Waits, Inside, SeenFrom, Isolated}, Passed.Whole, ValidLaws.ValidIsPassedWhole}
use Rattle.pc_isolation.proofs.{Reaching.{Unwritten, values_kept, reach_on, reach_back, shown}, Steps.{message_kept, nothing_taken}, Takes.taken_whole, Isolation.isolated_from}

-- ---- one step

-- The same message, which waits elsewhere.
waits_too : (core : CoreData) (c d : Configuration) (j k l n : ℕ) (m : Message) → waiting_at c j k ≡ Some m → waiting_at d j l ≡ Some m → (q : Cap) (a : Address) → Waits core c j k n q a → Waits core d j l n q a
waits_too core c d j k l n m here there q a w = record { message = w.message; waits = there ∙ sym here ∙ w.waits; declared = w.declared; argument = w.argument }

module _ (core : CoreData) (c d : Configuration) (i : ℕ) (iso : Isolated core c) (only : OnlyAccessed core c d i) (j k l : ℕ) (m : Message) (here : waiting_at c j k ≡ Some m) (there : waiting_at d j l ≡ Some m) where
  abbrev Argument : (b : Configuration) (g n : ℕ) → Address → Type 0
  Argument b g n a = Waits core b j g n cap.Iso a ⊎ Waits core b j g n cap.Val a

  argument_on : (n : ℕ) (a : Address) → Argument c k n a → Argument d l n a
  argument_on n a (inl w) = inl (waits_too core c d j k l n m here there cap.Iso a w)
  argument_on n a (inr w) = inr (waits_too core c d j k l n m here there cap.Val a w)

  argument_back : (n : ℕ) (a : Address) → Argument d l n a → Argument c k n a
  argument_back n a (inl w) = inl (waits_too core d c j l k n m there here cap.Iso a w)
  argument_back n a (inr w) = inr (waits_too core d c j l k n m there here cap.Val a w)

  seen_free : (n : ℕ) (a : Address) → Argument c k n a → (o : Address) → FieldsReach core c.objects shows a o → Unwritten core c i o
  seen_free n a w o r x e writes = iso.unwritten j k n o (a, w, r) i x e writes

  kept_free : (n : ℕ) (a : Address) → Argument c k n a → (o : Address) → FieldsReach core c.objects keeps a o → Unwritten core c i o
  kept_free n a w o r = seen_free n a w o (shown core c a o r)

  inside_on : (n : ℕ) (b : Address) → Inside core c j k n b → Inside core d j l n b
  inside_on n b x = (x.0, waits_too core c d j k l n m here there cap.Iso x.0 x.1, reach_on core c d i only keeps x.0 (kept_free n x.0 (inl x.1)) b x.2)

  inside_back : (n : ℕ) (b : Address) → Inside core d j l n b → Inside core c j k n b
  inside_back n b x =
      let w : Waits core c j k n cap.Iso x.0 = waits_too core d c j l k n m there here cap.Iso x.0 x.1 in
      (x.0, w, reach_back core c d i only keeps x.0 (kept_free n x.0 (inl w)) b x.2)

  seen_on : (n : ℕ) (b : Address) → SeenFrom core c j k n b → SeenFrom core d j l n b
  seen_on n b x = (x.0, argument_on n x.0 x.1, reach_on core c d i only shows x.0 (seen_free n x.0 x.1) b x.2)

  seen_back : (n : ℕ) (b : Address) → SeenFrom core d j l n b → SeenFrom core c j k n b
  seen_back n b x = let w : Argument c k n x.0 = argument_back n x.0 x.1 in (x.0, w, reach_back core c d i only shows x.0 (seen_free n x.0 w) b x.2)

  whole_after : Whole core c d j k l m
  whole_after = record {
    waits = there;
    inside = λ n b. (inside_on n b, inside_back n b);
    seen = λ n b. (seen_on n b, seen_back n b);
    values = λ n b x place. values_kept core c d i only b (seen_free n x.0 x.1 b x.2) place;
  }

-- ---- several steps

whole_still : (core : CoreData) (c : Configuration) (j k : ℕ) (m : Message) → waiting_at c j k ≡ Some m → Whole core c c j k k m
whole_still core c j k m w = record { waits = w; inside = λ n b. (λ x. x, λ x. x); seen = λ n b. (λ x. x, λ x. x); values = λ n b x place. refl }

whole_then : (core : CoreData) (c d e : Configuration) (j k g l : ℕ) (m : Message) → Whole core c d j k g m → Whole core d e j g l m → Whole core c e j k l m
whole_then core c d e j k g l m x y = record {
  waits = y.waits;
  inside = λ n b. (λ z. (y.inside n b).0 ((x.inside n b).0 z), λ z. (x.inside n b).1 ((y.inside n b).1 z));
  seen = λ n b. (λ z. (y.seen n b).0 ((x.seen n b).0 z), λ z. (x.seen n b).1 ((y.seen n b).1 z));
  values = λ n b z place. y.values n b ((x.seen n b).0 z) place ∙ x.values n b z place;
}

-- Isolated, and with steps that touch fields by accesses alone.
abbrev Good : CoreData → Configuration → Type 0
Good core c = Isolated core c × ((i : ℕ) → OnlyAccessed core c (step core c i).1 i)

-- So after every list from here on.
abbrev AlwaysGood : CoreData → Configuration → Type 0
AlwaysGood core c = (more : List ℕ) → Good core (run_from core c more)

add_first : (k l one rest : ℕ) → k ≡ l + (one + rest) → k ≡ l + rest + one
add_first k l one rest e = omega (arith, e)

no_first : (k l one rest : ℕ) → one ≡ 0 → k ≡ l + (one + rest) → k ≡ l + rest
no_first k l one rest z e = omega (arith, z, e)

none_at_all : (k l one : ℕ) → one ≡ 0 → k ≡ l + (one + 0) → k ≡ l
none_at_all k l one z e = omega (arith, z, e)

nothing_more : (k l : ℕ) → k ≡ l + 0 → k ≡ l
nothing_more k l e = omega (arith, e)

skipped_moved : Skipped ≡ Moved → ⊥
skipped_moved e = cc

lacks_moved : (l : Lack) → Lacks l ≡ Moved → ⊥
lacks_moved l e = cc

long_moved : TooLong ≡ Moved → ⊥
long_moved e = cc

module _ (core : CoreData) (j : ℕ) (m : Message) where
  module _ (c : Configuration) (good : AlwaysGood core c) (i k l : ℕ) (here : waiting_at c j k ≡ Some m) where
    moved_whole : (next : Configuration) → step core c i ≡ (Moved, next) → k ≡ l + takes_one core c i j → Whole core c next j k l m
    moved_whole next s e =
        let x = plans core c i (ap (λ (r : Outcome × Configuration). r.0) s) in
        let is : applied c i x.0 ≡ next = ap (λ (r : Outcome × Configuration). r.1) (sym (step_is core c i x.0 x.1) ∙ s) in
        let there : waiting_at next j l ≡ Some m = subst (λ (d : Configuration). waiting_at d j l ≡ Some m) is (message_kept core c i x.0 x.1 j k l m e here) in
        let now : Good core c = good [] in
        whole_after core c next i now.0 (subst (λ (r : Outcome × Configuration). OnlyAccessed core c r.1 i) s (now.1 i)) j k l m here there

  good_next : (c : Configuration) → AlwaysGood core c → (i : ℕ) (next : Configuration) → step core c i ≡ (Moved, next) → AlwaysGood core next
  good_next c good i next s more = subst (Good core) (ap (followed (λ n. run_from core n more) c c) s) (good (i ∷ more))

  stays_whole : (more : List ℕ) (c : Configuration) → AlwaysGood core c → (k l : ℕ) → waiting_at c j k ≡ Some m → k ≡ l + takes_from core c j more → Whole core c (run_from core c more) j k l m
  stays_whole [] c good k l here e = subst (λ (n : ℕ). Whole core c c j k n m) (nothing_more k l e) (whole_still core c j k m here)
  stays_whole (i ∷ is) c good k l here e = go (λ d. stays_whole is d) (step core c i) refl e
    where
      ended : (step core c i).0 ≢ Moved → k ≡ l + (takes_one core c i j + 0) → Whole core c c j k l m
      ended n f = subst (λ (g : ℕ). Whole core c c j k g m) (none_at_all k l (takes_one core c i j) (nothing_taken core c i j n) f) (whole_still core c j k m here)

      go : ((d : Configuration) → AlwaysGood core d → (k l : ℕ) → waiting_at d j k ≡ Some m → k ≡ l + takes_from core d j is → Whole core d (run_from core d is) j k l m) → (r : Outcome × Configuration) → step core c i ≡ r
          → k ≡ l + (takes_one core c i j + followed (λ n. takes_from core n j is) 0 c r) → Whole core c (followed (λ n. run_from core n is) c c r) j k l m
      go further (Moved, next) s f =
          let g : ℕ = l + takes_from core next j is in
          let one : Whole core c next j k g m = moved_whole c good i k g here next s (add_first k l (takes_one core c i j) (takes_from core next j is) f) in
          whole_then core c next (run_from core next is) j k g l m one (further next (good_next c good i next s) g l one.waits refl)
      go further (Skipped, next) s f =
          further c good k l here (no_first k l (takes_one core c i j) (takes_from core c j is) (nothing_taken core c i j (λ e. skipped_moved (sym (ap (λ (r : Outcome × Configuration). r.0) s) ∙ e))) f)
      go further (Lacks o, next) s f = ended (λ e. lacks_moved o (sym (ap (λ (r : Outcome × Configuration). r.0) s) ∙ e)) f
      go further (TooLong, next) s f = ended (λ e. long_moved (sym (ap (λ (r : Outcome × Configuration). r.0) s) ∙ e)) f

-- ---- every schedule

pub valid_is_passed_whole : OnlyMovesChange → ValidIsPassedWhole
valid_is_passed_whole never core ann formed valid list =
    let good : AlwaysGood core (after core list) = λ more. (isolated_from core ann formed valid list more, λ i. step_accessed core _ i never (run_placed core more (after core list) (after_placed core list))) in
    (λ more j k l m here e. stays_whole core j m more (after core list) good k l here e, taken_whole core (after core list))
