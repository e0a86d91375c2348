use Rattle.std.proofs.{Common.{◌≡◌, ◌∙◌, ◌+◌, ◌<◌, ℕ, List, [], ◌∷◌, ◌++◌, ◌||◌, Bool, ap, ap₂, get_or, length, map, sym, take}, lemmas.List.{map_more, map_push, take_all}}
use Rattle.std.specs.Borrow.{Bor}
use Rattle.clap.specs.{Simple.{Shape, new_shape}, Words.{App, Rule, Text, app_of, rule_of, with_rule}}
use Rattle.pc_args.specs.{Asked.texts, Line.positional}
use Rattle.pc_args.proofs.words.make_leaf.Goals as goal

abbrev leaf : Text → List (Bor Text) → Shape
leaf name ids = record (new_shape name) { rules = map positional (texts ids) }

-- One argument more is one name more.
one_more : (name : Text) (ids : List (Bor Text)) (i : ℕ) (d : Bor Text) (old new : App) (r : Rule) → i < length ids → old.top ≡ leaf name (take i ids)
    → r ≡ positional (get_or ids i d).now → new ≡ with_rule old r → new.top ≡ leaf name (take (i + 1) ids)
one_more name ids i d old new r below before rule adds =
    let rules = sym (ap (map positional) (map_more (λ (w : Bor Text). w.now) ids i d below) ∙ map_push positional (texts (take i ids)) (get_or ids i d).now) in
    ap (λ (a : App). a.top) adds ∙ ap₂ (λ (s : Shape) (x : Rule). record s { rules = s.rules ++ x ∷ [] }) before rule
    ∙ ap (λ (rs : List Rule). record (new_shape name) { rules = rs }) rules

pub loop-id-init : goal.loop-id-init
loop-id-init c = record { shape = ap (λ (a : App). a.top) c.new-leaf.ensures.app; local = c.new-leaf.ensures.local }

pub loop-id-preserved : goal.loop-id-preserved
loop-id-preserved c = record {
  shape = one_more c.args.name.now c.args.ids.now c.loop-id.id-index _ (app_of c.loop-id.leaf) (app_of c.in_ok-leaf.leaf) (rule_of c.make_positional.result)
      c.loop-id-test.true c.loop-id.invariant.shape c.make_positional.ensures.rule (c.in_ok-leaf.ensures.shape c.make_positional.ensures.local);
  local = c.in_ok-leaf.ensures.globals ∙ ap₂ (λ (a b : Bool). a || b) c.loop-id.invariant.local c.make_positional.ensures.local;
}

pub returns : goal.returns
returns c = record {
  shape = c.loop-id.invariant.shape ∙ ap (leaf c.args.name.now) (take_all c.loop-id.id-index c.args.ids.now c.loop-id-test.false);
  local = c.loop-id.invariant.local;
}
