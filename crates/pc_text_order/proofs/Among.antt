-- Numbers at which some of the tokens of a list start, in order.
use Rattle.std.proofs.{Common.{◌≡◌, ℕ, zero, suc, ◌<◌, List, [], ◌∷◌, ◌++◌, sym, subst, arith, append-nil}, lemmas.List.map-append, lemmas.Option.{same_Some, none-some}}
use Rattle.pc_base.specs.{declared.span.Span.Span, Lists.Ascends}
use Rattle.pc_token.specs.declared.kinds.Token.{Token}
use Rattle.pc_body_spec.proofs.Places.{Sub, skip, take, sub_join, nothing_at, Rising, rising}
use Rattle.pc_text_order.specs.Laws.{starts}

abbrev itself : ℕ → ℕ
itself n = n

pub record Among (ns : List ℕ) (ts : List Token) : Type 0 where
  pub sub : Sub itself ns (starts ts)

pub nothing : {ts : List Token} → Among [] ts
nothing {ts} = record { sub = nothing_at itself (starts ts) }

-- The number is the start of the next token.
pub put : {x : Token} {s : Span} {ns : List ℕ} {ts : List Token} → x.span ≡ s → Among ns ts → Among (s.start ∷ ns) (x ∷ ts)
put {x} {s} {ns} {ts} e a = subst (λ (z : Span). Among (z.start ∷ ns) (x ∷ ts)) e (record { sub = take x.span.start ns (starts ts) a.sub })

-- With one more token.
pub after : {x : Token} {ns : List ℕ} {ts : List Token} → Among ns ts → Among ns (x ∷ ts)
after {x} {ns} {ts} a = record { sub = skip ns x.span.start (starts ts) a.sub }

pub both : {ns ms : List ℕ} {ts us : List Token} → Among ns ts → Among ms us → Among (ns ++ ms) (ts ++ us)
both {ns} {ms} {ts} {us} a b = record { sub = subst (Sub itself (ns ++ ms)) (sym (map-append (λ (x : Token). x.span.start) ts us)) (sub_join itself ns ms (starts ts) (starts us) a.sub b.sub) }

-- With more tokens before, or after.
pub past : (ts : List Token) {ns : List ℕ} {us : List Token} → Among ns us → Among ns (ts ++ us)
past ts {ns} {us} a = both {ns = []} {ms = ns} {ts = ts} {us = us} nothing a

pub before : {ns : List ℕ} {ts : List Token} (us : List Token) → Among ns ts → Among ns (ts ++ us)
before {ns} {ts} us a = subst (λ l. Among l (ts ++ us)) (append-nil ns) (both {ns = ns} {ms = []} {ts = ts} {us = us} a nothing)

pub moved : {ns : List ℕ} {ts us : List Token} → ts ≡ us → Among ns us → Among ns ts
moved {ns} e a = subst (Among ns) (sym e) a

-- ---- if the tokens ascend, so do the numbers

rising_ascends : (ns : List ℕ) → Rising itself ns → Ascends ns
rising_ascends [] r i j a b l e k = absurd (none-some a e)
rising_ascends (n ∷ ns) r zero zero a b l e k = absurd (omega (arith, l))
rising_ascends (n ∷ ns) r zero (suc j) a b l e k = subst (λ z. z < b) (same_Some n a e) (r.0 j b k)
rising_ascends (n ∷ ns) r (suc i) zero a b l e k = absurd (omega (arith, l))
rising_ascends (n ∷ ns) r (suc i) (suc j) a b l e k = rising_ascends ns r.1 i j a b (omega (arith, l)) e k

pub among_ascends : {ns : List ℕ} {ts : List Token} → Among ns ts → Ascends (starts ts) → Ascends ns
among_ascends {ns} {ts} a h = rising_ascends ns (rising itself ns (starts ts) a.sub h)
