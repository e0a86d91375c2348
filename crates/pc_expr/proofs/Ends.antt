-- A token that is taken is not the end.
use Rattle.std.proofs.Common.{◌≡◌, ◌≢◌, Some, true, subst}
use Rattle.pc_token.specs.{declared.kinds.Token.Token, declared.words.Word.Word, declared.signs.Sign.Sign, Words.{is_sign, is_word, kind_is_sign, kind_is_word}}
use Rattle.pc_token.specs.declared.kinds.TokenKind.TheVariants as k
use Rattle.pc_caps.specs.declared.capability.Cap.{Cap}
use Rattle.pc_tree.specs.declared.kinds.Op.{Op}
use Rattle.pc_grammar.specs.{Spells.{op_of, kind_op, cap_of, kind_cap}, Reading.{is_op, is_this}}

pub is_sign_not_end : (s : Sign) (x : Token) → is_sign s x ≡ true → x.kind ≢ k.End
unfolding is_sign
is_sign_not_end s x h e = let f : kind_is_sign s k.End ≡ true = subst (λ y. kind_is_sign s y ≡ true) e h in cc

pub is_word_not_end : (w : Word) (x : Token) → is_word w x ≡ true → x.kind ≢ k.End
unfolding is_word
is_word_not_end w x h e = let f : kind_is_word w k.End ≡ true = subst (λ y. kind_is_word w y ≡ true) e h in cc

pub is_op_not_end : (o : Op) (x : Token) → is_op o x ≡ true → x.kind ≢ k.End
unfolding is_op op_of
is_op_not_end o x h e = let f : is_this o (kind_op x.first k.End) ≡ true = subst (λ y. is_this o (kind_op x.first y) ≡ true) e h in cc

pub is_cap_not_end : (c : Cap) (x : Token) → cap_of x ≡ Some c → x.kind ≢ k.End
unfolding cap_of
is_cap_not_end c x h e = let f : kind_cap k.End ≡ Some c = subst (λ y. kind_cap y ≡ Some c) e h in cc
