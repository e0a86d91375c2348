-- A seed has only one play.
use Rattle.std.proofs.Common.{◌≡◌, ◌≤◌, ℕ, List, ◌++◌, length, sym, ap, ◌∙◌, arith}
use Rattle.pc_core.specs.CoreData.{CoreData}
use Rattle.pc_semantics.specs.{Step.{after, outcomes}, Text.{lines, end_of}}
use Rattle.pc_choose.specs.{Able.able_actors, Laws.ListsAreOne, Lists.Chosen}
use Rattle.pc_outcomes.specs.{declared.entry.Ending.Ending, declared.entry.Play.Play, Plays.{ArePlays, IsPlayOfSeed, ending_after}}
use Rattle.pc_outcome_laws.proofs.Lists.{front}

pub same_play : (text other : List ℕ) (ending also : Ending) (steps more : ℕ) → text ≡ other → ending ≡ also → steps ≡ more
    → ◌≡◌ {A = Play} (record { text = text; ending = ending; steps = steps }) (record { text = other; ending = also; steps = more })
same_play text other ending also steps more t e s =
    ap (λ (x : List ℕ). record { text = x; ending = ending; steps = steps }) t ∙ ap (λ (x : Ending). record { text = other; ending = x; steps = steps }) e
    ∙ ap (λ (x : ℕ). record { text = other; ending = also; steps = x }) s

module _ (one : ListsAreOne) (core : CoreData) where
  same_list : (seed : ℕ) (xs ys : List ℕ) → Chosen core seed xs → Chosen core seed ys → xs ≡ ys
  same_list seed xs ys a b = let o = one core seed in o.one xs a ∙ sym (o.one ys b)

  pub one_play : (seed : ℕ) (p q : Play) → IsPlayOfSeed core seed p → IsPlayOfSeed core seed q → p ≡ q
  one_play seed p q a b =
      let e = same_list seed a.list b.list a.chosen b.chosen in
      same_play p.text q.text p.ending q.ending p.steps q.steps (a.text ∙ ap (λ (l : List ℕ). lines (after core l).printed) e ∙ sym b.text)
      (a.ending ∙ ap (λ (l : List ℕ). ending_after (length (able_actors (after core l))) (end_of (outcomes core l))) e ∙ sym b.ending)
      (a.steps ∙ ap (λ (l : List ℕ). length l) e ∙ sym b.steps)

  -- Plays of the seeds below a count begin with those below a smaller one.
  pub front_plays : (few count : ℕ) (ps qs : List Play) → few ≤ count → ArePlays core few ps → ArePlays core count qs → (rest : List Play) × (qs ≡ ps ++ rest)
  front_plays few count ps qs l a b = let m = a.all in let n = b.all in front (IsPlayOfSeed core) one_play ps qs (omega (arith, l, m, n)) a.are b.are
