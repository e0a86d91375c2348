use Rattle.std.proofs.Common.{◌+◌, ◌-◌, ◌*◌, ◌≤◌, [], ◌∷◌, length, drop, map}
use Rattle.pc_tree.specs.View.{expr_view, item_view, suffix_view, arm_view}
use Rattle.pc_token.specs.declared.words.Word.TheVariants as w
use Rattle.pc_token.specs.declared.signs.Sign.TheVariants as s
use Rattle.pc_token.specs.Words.{is_sign, is_word}
use Rattle.pc_grammar.specs.Reading as r
use Rattle.pc_expr.specs.Gives.{StandsAtToken}
use Rattle.pc_expr.specs.Onto as onto
use Rattle.pc_expr.proofs.Loops.{Loop, Turn}
use Rattle.pc_expr.proofs.rules.+rules.Given as goal

abbrev pub decreases-arg_list : goal.decreases-arg_list
decreases-arg_list l = 16 * (length l.tokens.now - l.at) + 13

abbrev pub decreases-arguments : goal.decreases-arguments
decreases-arguments l = 16 * (length l.tokens.now - l.at) + 1

abbrev pub decreases-arm : goal.decreases-arm
decreases-arm l = 16 * (length l.tokens.now - l.at) + 1

abbrev pub decreases-arms : goal.decreases-arms
decreases-arms l = 16 * (length l.tokens.now - l.at) + 2

abbrev pub decreases-atom : goal.decreases-atom
decreases-atom l = 16 * (length l.tokens.now - l.at) + 4

abbrev pub decreases-becomes : goal.decreases-becomes
decreases-becomes l = 16 * (length l.tokens.now - l.at) + 1

abbrev pub decreases-choice : goal.decreases-choice
decreases-choice l = 16 * (length l.tokens.now - l.at) + 3

abbrev pub decreases-closed : goal.decreases-closed
decreases-closed l = 16 * (length l.tokens.now - l.at) + 14

abbrev pub decreases-expr : goal.decreases-expr
decreases-expr l = 16 * (length l.tokens.now - l.at) + 10

abbrev pub decreases-group : goal.decreases-group
decreases-group l = 16 * (length l.tokens.now - l.at) + 2

abbrev pub decreases-infix : goal.decreases-infix
decreases-infix l = 16 * (length l.tokens.now - l.at) + 9

abbrev pub decreases-item : goal.decreases-item
decreases-item l = 16 * (length l.tokens.now - l.at) + 11

abbrev pub decreases-local : goal.decreases-local
decreases-local l = 16 * (length l.tokens.now - l.at) + 1

abbrev pub decreases-more_arms : goal.decreases-more_arms
decreases-more_arms l = 16 * (length l.tokens.now - l.at) + 2

abbrev pub decreases-items : goal.decreases-items
decreases-items l = 16 * (length l.tokens.now - l.at) + 12

abbrev pub decreases-more_suffixes : goal.decreases-more_suffixes
decreases-more_suffixes l = 16 * (length l.tokens.now - l.at) + 3

abbrev pub decreases-more_terms : goal.decreases-more_terms
decreases-more_terms l = 16 * (length l.tokens.now - l.at) + 7

abbrev pub decreases-negation : goal.decreases-negation
decreases-negation l = 16 * (length l.tokens.now - l.at) + 1

abbrev pub decreases-operators : goal.decreases-operators
decreases-operators l = 16 * (length l.tokens.now - l.at) + 8

abbrev pub decreases-otherwise : goal.decreases-otherwise
decreases-otherwise l = 16 * (length l.tokens.now - l.at) + 1

abbrev pub decreases-postfix : goal.decreases-postfix
decreases-postfix l = 16 * (length l.tokens.now - l.at) + 5

abbrev pub decreases-recovery : goal.decreases-recovery
decreases-recovery l = 16 * (length l.tokens.now - l.at) + 2

abbrev pub decreases-repetition : goal.decreases-repetition
decreases-repetition l = 16 * (length l.tokens.now - l.at) + 2

abbrev pub decreases-seq : goal.decreases-seq
decreases-seq l = 16 * (length l.tokens.now - l.at) + 13

abbrev pub decreases-some_args : goal.decreases-some_args
decreases-some_args l = 16 * (length l.tokens.now - l.at) + 12

abbrev pub decreases-suffix : goal.decreases-suffix
decreases-suffix l = 16 * (length l.tokens.now - l.at) + 2

abbrev pub decreases-term : goal.decreases-term
decreases-term l = 16 * (length l.tokens.now - l.at) + 6

abbrev pub invariant-some_args-more : goal.invariant-some_args-more
invariant-some_args-more l = record {
  past : l.at ≤ l.to;
  there : StandsAtToken l.tokens l.to;
  reads : Turn (r.after (is_sign s.Comma)) (r.expr_in l.left (r.inner l.left)) (onto.some_args (r.expr_in l.left (r.inner l.left)) (drop l.at l.tokens)) (drop l.to l.tokens) (map expr_view l.args);
}

abbrev pub decreases-some_args-more : goal.decreases-some_args-more
decreases-some_args-more l = length l.tokens - l.to

abbrev pub invariant-more_arms-more : goal.invariant-more_arms-more
invariant-more_arms-more l = record {
  past : l.at ≤ l.to;
  there : StandsAtToken l.tokens l.to;
  reads : Loop (r.at (is_word w.ElseifWord)) (r.arm w.ElseifWord (r.seq_in l.left (r.inner l.left))) (onto.more_arms (r.seq_in l.left (r.inner l.left)) (map arm_view l.fn.so_far) (drop l.at l.tokens)) (drop l.to l.tokens) (map arm_view l.arms);
}

abbrev pub decreases-more_arms-more : goal.decreases-more_arms-more
decreases-more_arms-more l = length l.tokens - l.to

abbrev pub invariant-items-more : goal.invariant-items-more
invariant-items-more l = record {
  past : l.at ≤ l.to;
  there : StandsAtToken l.tokens l.to;
  reads : Turn r.next_item (r.item (r.expr_in l.left (r.inner l.left))) (r.and_then (r.item (r.expr_in l.left (r.inner l.left)) (drop l.at l.tokens)) (λ x. onto.more_items l.left (r.inner l.left) (x ∷ []))) (drop l.to l.tokens) (map item_view l.items);
}

abbrev pub decreases-items-more : goal.decreases-items-more
decreases-items-more l = length l.tokens - l.to

abbrev pub invariant-more_suffixes-more : goal.invariant-more_suffixes-more
invariant-more_suffixes-more l = record {
  past : l.at ≤ l.to;
  there : StandsAtToken l.tokens l.to;
  reads : Loop (r.at r.begins_suffix) (r.suffix l.left (r.inner l.left).expr) (onto.more_suffixes l.left (r.inner l.left) (map suffix_view l.fn.so_far) (drop l.at l.tokens)) (drop l.to l.tokens) (map suffix_view l.suffixes);
}

abbrev pub decreases-more_suffixes-more : goal.decreases-more_suffixes-more
decreases-more_suffixes-more l = length l.tokens - l.to

abbrev pub invariant-more_terms-more : goal.invariant-more_terms-more
invariant-more_terms-more l = record {
  past : l.at ≤ l.to;
  there : StandsAtToken l.tokens l.to;
  reads : Loop (r.after (r.is_op l.op)) (r.term l.left (r.inner l.left)) (onto.more_terms l.left (r.inner l.left) l.op (map expr_view l.fn.so_far) (drop l.at l.tokens)) (drop l.to l.tokens) (map expr_view l.terms);
}

abbrev pub decreases-more_terms-more : goal.decreases-more_terms-more
decreases-more_terms-more l = length l.tokens - l.to
