-- A doc is not the end.
use Rattle.std.proofs.Common.{◌≡◌, ◌≢◌, true, subst}
use Rattle.pc_token.specs.declared.kinds.Token.{Token}
use Rattle.pc_token.specs.declared.kinds.TokenKind.TheVariants as k
use Rattle.pc_grammar.specs.ReadingFile.{is_doc, kind_is_doc}

pub is_doc_not_end : (x : Token) → is_doc x ≡ true → x.kind ≢ k.End
unfolding is_doc
is_doc_not_end x h e = let f : kind_is_doc k.End ≡ true = subst (λ y. kind_is_doc y ≡ true) e h in cc
