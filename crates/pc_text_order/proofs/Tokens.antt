-- The tokens of a text ascend, and end with `End`.
use Rattle.std.proofs.{Common.{◌≡◌, ℕ, zero, suc, ◌+◌, ◌<◌, ◌≤◌, Bool, true, false, ◌||◌, List, [], ◌∷◌, length, refl, sym, subst, arith}, lemmas.Option.{same_Some, none-some}}
use Rattle.pc_base.specs.Lists.{Each, Ascends}
use Rattle.pc_token.specs.declared.kinds.Token.{Token}
use Rattle.pc_lex.specs.{Pieces.{Piece, gap, token, Pieces, tokens_of}, Parts.has_line_end}
use Rattle.pc_lex.proofs.OneCut.{piece_some}
use Rattle.pc_expr.specs.Gives.{EndsWithEnd}
use Rattle.pc_text_order.specs.Laws.{starts, TokensAscend, TokensEnd}

-- ---- the last is `End`

one_more : (x : Token) (ts : List Token) → EndsWithEnd ts → EndsWithEnd (x ∷ ts)
one_more x [] h = absurd h
one_more x (y ∷ ts) h = h

pieces_end : (ps : List Piece) (at : ℕ) (first : Bool) → EndsWithEnd (tokens_of at first ps)
pieces_end [] at first = refl
pieces_end (gap b ∷ ps) at first = pieces_end ps (at + length b) (first || has_line_end b)
pieces_end (token kind b ∷ ps) at first =
    let x : Token = record { kind = kind; first = first; span = record { start = at; end = at + length b } } in
    one_more x (tokens_of (at + length b) false ps) (pieces_end ps (at + length b) false)

pub tokens_end : TokensEnd
tokens_end text ts h = subst EndsWithEnd (sym h.2) (pieces_end h.0 0 true)

-- ---- they ascend

-- No number is less than this one.
abbrev From : ℕ → List ℕ → Type 0
From at ns = Each (λ i n. at ≤ n) ns

from_less : (at to : ℕ) (ns : List ℕ) → at ≤ to → From to ns → From at ns
from_less at to ns l h i n e = let m = h i n e in omega (arith, l, m)

from_first : (at : ℕ) (ns : List ℕ) → From at ns → From at (at ∷ ns)
from_first at ns h zero n e = let same : at ≡ n = same_Some at n e in omega (arith, same)
from_first at ns h (suc i) n e = h i n e

pieces_from : (ps : List Piece) (at : ℕ) (first : Bool) → From at (starts (tokens_of at first ps))
pieces_from [] at first = from_first at [] (λ i n e. absurd (none-some n e))
pieces_from (gap b ∷ ps) at first =
    let first2 = first || has_line_end b in
    from_less at (at + length b) (starts (tokens_of (at + length b) first2 ps)) (omega arith) (pieces_from ps (at + length b) first2)
pieces_from (token kind b ∷ ps) at first =
    let ns = starts (tokens_of (at + length b) false ps) in
    from_first at ns (from_less at (at + length b) ns (omega arith) (pieces_from ps (at + length b) false))

ascend_more : (at to : ℕ) (ns : List ℕ) → at < to → From to ns → Ascends ns → Ascends (at ∷ ns)
ascend_more at to ns l f h zero zero a b m e k = absurd (omega (arith, m))
ascend_more at to ns l f h zero (suc j) a b m e k = let s : at ≡ a = same_Some at a e in let p = f j b k in omega (arith, l, s, p)
ascend_more at to ns l f h (suc i) zero a b m e k = absurd (omega (arith, m))
ascend_more at to ns l f h (suc i) (suc j) a b m e k = h i j a b (omega (arith, m)) e k

pieces_ascend : (ps : List Piece) (text : List ℕ) (at : ℕ) (first : Bool) → Pieces text ps [] → Ascends (starts (tokens_of at first ps))
pieces_ascend [] text at first h = ascend_more at (suc at) [] (omega arith) (λ i n e. absurd (none-some n e)) (λ i j a b l e k. absurd (none-some a e))
pieces_ascend (gap b ∷ ps) text at first h = pieces_ascend ps h.0 (at + length b) (first || has_line_end b) h.3
pieces_ascend (token kind b ∷ ps) text at first h =
    let some = piece_some (token kind b) h.0 h.2 in
    ascend_more at (at + length b) (starts (tokens_of (at + length b) false ps)) (omega (arith, some)) (pieces_from ps (at + length b) false) (pieces_ascend ps h.0 (at + length b) false h.3)

pub tokens_ascend : TokensAscend
tokens_ascend text ts h = subst (λ l. Ascends (starts l)) (sym h.2) (pieces_ascend h.0 text 0 true h.1)
