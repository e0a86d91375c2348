-- A file that is fed part by part.
use Rattle.std.specs.Prelude.{◌≡◌, ℕ, zero, suc, ◌+◌, ◌-◌, ◌*◌, ◌<◌, ◌≤◌, Bool, true, false, nat_eq, min, List, [], ◌∷◌, ◌++◌, length, take, drop, Option, Some, None, IfSome, Result, Ok, Err, refl}
use Rattle.std.proofs.{Common.{inl, inr, ap, sym, subst, ◌∙◌, arith, append_assoc, append-nil, length-append, length-drop}, lemmas.Bool.{eqb-true, eq-eqb, cases_lt, true≢false, both_ways}, lemmas.List.length-take, Math.Seq.take-add}
use Rattle.pc_core.specs.CoreData.{CoreData}
use Rattle.pc_deriv.specs.{Text.derivation_limit, declared.line.LineFault.LineFault}
use Rattle.pc_judge.specs.declared.faults.JudgeFault.{JudgeFault}
use Rattle.pc_referee.specs.Asked.{Pairs}
use Rattle.pc_feed.specs.{declared.fault.StreamFault.StreamFault, declared.parts.DerivationFault.DerivationFault, Lines.lines_in, Asked.{IsAsked, Grew}, Laws.OneIsAsked, Feeding.{Feeds, EndsSo}, Streams.{StreamData, IsFed}, Parts.{part_size, AsksNodes, FileJudged, PartsRead, AllRead, PartFed, IsPartAt, Size, PartTaken, PartsEnd}}
use Rattle.pc_feed.specs.declared.fault.StreamFault.TheVariants as stream
use Rattle.pc_feed.specs.declared.parts.DerivationFault.TheVariants as fault

-- ---- what the referee is asked about

asks_on_told : OneIsAsked → (core : CoreData) (bytes part : List ℕ) (p more : Pairs) (after : Option Pairs) → IsAsked core (lines_in bytes) more → Grew core (lines_in bytes) (lines_in (bytes ++ part)) (Some (p ++ more)) after
    → AsksNodes core (bytes ++ part) (Some p) after
asks_on_told law core bytes part p more after is g =
    let same : g.0 ≡ more = law core (lines_in bytes) g.0 more g.2 is in
    (more ++ g.1, subst (λ (k : Pairs). IsAsked core (lines_in (bytes ++ part)) (k ++ g.1)) same g.3, g.4 ∙ ap Some (append_assoc p more g.1))

pub asks_on : OneIsAsked → (core : CoreData) (bytes part : List ℕ) (old after : Option Pairs) → Grew core (lines_in bytes) (lines_in (bytes ++ part)) old after → (before : Option Pairs) → AsksNodes core bytes before old → AsksNodes core (bytes ++ part) before after
asks_on law core bytes part old after g None h = subst (λ (o : Option Pairs). Grew core (lines_in bytes) (lines_in (bytes ++ part)) o after) h g
asks_on law core bytes part old after g (Some p) h = asks_on_told law core bytes part p h.0 after h.1 (subst (λ (o : Option Pairs). Grew core (lines_in bytes) (lines_in (bytes ++ part)) o after) h.2 g)

-- a part whose text has a fault was fed too
pub text_fed : OneIsAsked → (core : CoreData) (bytes part : List ℕ) (new : StreamData) (old after : Option Pairs) (e : StreamFault) (f : LineFault) → e ≡ stream.Text f → Feeds core bytes part new old after (Err e) → PartFed core bytes part new old after (Ok tt)
text_fed law core bytes part new old after e f is h =
    let k : Feeds core bytes part new old after (Err (stream.Text f)) = subst (λ (x : StreamFault). Feeds core bytes part new old after (Err x)) is h in
    (k.0, asks_on law core bytes part old after k.2)

-- ---- a part

pub part_stopped : (core : CoreData) (known : Option (List ℕ)) (from : ℕ) (bytes part : List ℕ) (before now taken : ℕ) (new : StreamData) (a b : Option Pairs) (f : DerivationFault)
    → PartFed core bytes part new a b (Err f) → PartTaken core known from bytes before now taken new a b (Err f)
part_stopped core known from bytes part before now taken new a b fault.Failed h = absurd h
part_stopped core known from bytes part before now taken new a b fault.TooLong h = absurd h
part_stopped core known from bytes part before now taken new a b (fault.Text f) h = absurd h
part_stopped core known from bytes part before now taken new a b (fault.Invalid f) h = absurd h
part_stopped core known from bytes part before now taken new a b fault.Memory h = tt

-- how many bytes of the file there are if a part has this many
part_length : (from : ℕ) (t part : List ℕ) → part ≡ take part_size (drop from t) → length part ≡ min part_size (length t - from)
part_length from t part e = ap (λ (x : List ℕ). length x) e ∙ length-take part_size (drop from t) ∙ ap (λ n. min part_size n) (length-drop from t)

longer_by : (known : Option (List ℕ)) (part : List ℕ) → 0 < length part → IfSome known (λ t. part ≡ take part_size (drop derivation_limit t)) → IfSome known (λ t. derivation_limit < length t)
longer_by None part l h = tt
longer_by (Some t) part l h = let e = part_length derivation_limit t part h in omega (arith, e, l)

pub too_long : (known : Option (List ℕ)) (from taken : ℕ) (part : List ℕ) → from ≡ derivation_limit → 0 < length part → IsPartAt known from part → taken ≡ length part
    → (0 < taken) × IfSome known (λ t. derivation_limit < length t)
too_long known from taken part e l h s = (omega (arith, s, l), longer_by known part l (subst (λ n. IfSome known (λ t. part ≡ take part_size (drop n t))) e h.1))

pub not_past : (from : ℕ) (part : List ℕ) (past : Bool) → past ≡ false → ((from ≡ derivation_limit) × (0 < length part) → past ≡ true) → from ≡ derivation_limit → length part ≡ 0
not_past from part past e f at = elim (cases_lt 0 (length part)) [ inl l ↦ absurd (both_ways past e (f (at, l))) | inr l ↦ omega (arith, l) ]

-- whether it is full
size_by : (from n : ℕ) (part : List ℕ) (full : Bool) → nat_eq n part_size ≡ full → n ≡ length part → length part ≤ part_size → (from ≡ derivation_limit → length part ≡ 0) → from ≤ derivation_limit → Size from part full
size_by from n part true e s l none m =
    let all : n ≡ part_size = eqb-true n part_size e in
    let size : length part ≡ part_size = sym s ∙ all in
    (size, below size)
  where
    below : length part ≡ part_size → from < derivation_limit
    below size = elim (cases_lt from derivation_limit) [ inl k ↦ k | inr k ↦ let at : from ≡ derivation_limit = omega (arith, k, m) in let empty = none at in absurd (omega (arith, empty, size)) ]
size_by from n part false e s l none m = elim (cases_lt (length part) part_size) [
  | inl k ↦ (k, none)
  | inr k ↦ let all : n ≡ part_size = omega (arith, s, l, k) in absurd (true≢false (sym (eq-eqb n part_size all) ∙ e))
]

pub size_of : (from n : ℕ) (part : List ℕ) → n ≡ length part → length part ≤ part_size → (from ≡ derivation_limit → length part ≡ 0) → from ≤ derivation_limit → Size from part (nat_eq n part_size)
size_of from n part s l none m = size_by from n part (nat_eq n part_size) refl s l none m

-- ---- all parts

front_on : (known : Option (List ℕ)) (from : ℕ) (bytes part : List ℕ) → IfSome known (λ t. bytes ≡ take from t) → IfSome known (λ t. part ≡ take part_size (drop from t)) → IfSome known (λ t. bytes ++ part ≡ take (from + part_size) t)
front_on None from bytes part h k = tt
front_on (Some t) from bytes part h k = ap (λ (x : List ℕ). x ++ part) h ∙ ap (λ (x : List ℕ). take from t ++ x) k ∙ sym (take-add from part_size t)

take_all : (xs : List ℕ) (n : ℕ) → length xs ≤ n → take n xs ≡ xs
take_all [] zero l = refl
take_all [] (suc n) l = refl
take_all (x ∷ xs) zero l = absurd (omega (arith, l))
take_all (x ∷ xs) (suc n) l = let k : length xs ≤ n = omega (arith, l) in ap (λ ys. x ∷ ys) (take_all xs n k)

whole_by : (known : Option (List ℕ)) (from : ℕ) (bytes part : List ℕ) → length part < part_size → IfSome known (λ t. part ≡ take part_size (drop from t)) → IfSome known (λ t. bytes ++ part ≡ take (from + part_size) t) → IfSome known (λ t. bytes ++ part ≡ t)
whole_by None from bytes part l k h = tt
whole_by (Some t) from bytes part l k h = let e = part_length from t part k in h ∙ take_all t (from + part_size) (omega (arith, e, l))

-- The first parts, which are full.
pub record Fulls (core : CoreData) (known : Option (List ℕ)) (from : ℕ) (stream : StreamData) (a b : Option Pairs) : Type 0 where
  pub count : ℕ
  pub place : from ≡ count * part_size
  pub within : from ≤ derivation_limit
  pub read : PartsRead core known from stream a b

front_none : (known : Option (List ℕ)) → IfSome known (λ t. [] ≡ take 0 t)
front_none None = tt
front_none (Some []) = refl
front_none (Some (x ∷ t)) = refl

asks_none : (core : CoreData) (a : Option Pairs) → IsAsked core [] [] → AsksNodes core [] a a
asks_none core None is = refl
asks_none core (Some p) is = ([], is, ap Some (sym (append-nil p)))

none_asked : (core : CoreData) → IsAsked core [] []
none_asked core = record { count = 0; within = omega arith; exact = λ k l. absurd (omega (arith, l)); are = refl }

pub no_parts : (core : CoreData) (known : Option (List ℕ)) (s : StreamData) (a : Option Pairs) → IsFed core [] s → Fulls core known 0 s a a
no_parts core known s a fed = record {
  count = 0;
  place = omega arith;
  within = omega arith;
  read = record { bytes = []; size = refl; front = front_none known; fed = fed; asks = asks_none core a (none_asked core) };
}

module _ (core : CoreData) (known : Option (List ℕ)) (from : ℕ) (s : StreamData) (a b : Option Pairs) (so : Fulls core known from s a b)
    (before now taken : ℕ) (new : StreamData) (c : Option Pairs) where
  pub next_part : (full : Bool) → full ≡ true → PartTaken core known from so.read.bytes before now taken new b c (Ok full) → Fulls core known (from + part_size) new a c
  next_part full e k =
      let h : PartTaken core known from so.read.bytes before now taken new b c (Ok true) = subst (λ x. PartTaken core known from so.read.bytes before now taken new b c (Ok x)) e k in
      let both = length-append so.read.bytes h.0 in
      let size = so.read.size in
      let part = h.2.0 in
      let less = h.2.1 in
      let place = so.place in
      record {
        count = so.count + 1;
        place = omega (arith, place);
        within = omega (arith, place, less);
        read = record {
          bytes = so.read.bytes ++ h.0;
          size = omega (arith, both, size, part);
          front = front_on known from so.read.bytes h.0 so.read.front h.1.1;
          fed = h.3.0;
          asks = h.3.1 a so.read.asks;
        };
      }

  pub last_part : (full : Bool) → full ≡ false → PartTaken core known from so.read.bytes before now taken new b c (Ok full) → AllRead core known new a c
  last_part full e k =
      let h : PartTaken core known from so.read.bytes before now taken new b c (Ok false) = subst (λ x. PartTaken core known from so.read.bytes before now taken new b c (Ok x)) e k in
      let both = length-append so.read.bytes h.0 in
      let size = so.read.size in
      let part = h.2.0 in
      let place = so.place in
      let within = so.within in
      let few : length (so.read.bytes ++ h.0) ≤ derivation_limit = elim (cases_lt from derivation_limit) [
        | inl m ↦ omega (arith, both, size, part, place, m)
        | inr m ↦ let at : from ≡ derivation_limit = omega (arith, within, m) in let empty = h.2.1 at in omega (arith, both, size, at, empty)
      ] in
      record {
        bytes = so.read.bytes ++ h.0;
        read = record { within = few; all = whole_by known from so.read.bytes h.0 h.2.0 h.1.1 (front_on known from so.read.bytes h.0 so.read.front h.1.1) };
        fed = h.3.0;
        asks = h.3.1 a so.read.asks;
      }

  pub parts_stopped : (f : DerivationFault) (earlier : ℕ) → earlier ≤ before → PartTaken core known from so.read.bytes before now taken new b c (Err f) → PartsEnd core known earlier now taken new a c (Err f)
  parts_stopped fault.Failed earlier l h = omega (arith, l, h)
  parts_stopped fault.TooLong earlier l h = h
  parts_stopped (fault.Text f) earlier l h = h
  parts_stopped (fault.Invalid f) earlier l h = h
  parts_stopped fault.Memory earlier l h = tt

-- the same for what is known of the file at first
pub part_of_same : (core : CoreData) (known later : Option (List ℕ)) (from : ℕ) (bytes : List ℕ) (before now taken : ℕ) (new : StreamData) (a b : Option Pairs) (r : Result Bool DerivationFault) → later ≡ known
    → PartTaken core later from bytes before now taken new a b r → PartTaken core known from bytes before now taken new a b r
part_of_same core known later from bytes before now taken new a b r e h = subst (λ (o : Option (List ℕ)). PartTaken core o from bytes before now taken new a b r) e h

-- ---- the end

pub text_judged : (core : CoreData) (known : Option (List ℕ)) (before now taken : ℕ) (s : StreamData) (a b : Option Pairs) (f : LineFault) (x : StreamFault) → x ≡ stream.Text f → AllRead core known s a b → ((bytes : List ℕ) → IsFed core bytes s → EndsSo core bytes (Err x))
    → FileJudged core known before now taken a b (Err (fault.Text f))
text_judged core known before now taken s a b f x is h e =
    let ends : EndsSo core h.bytes (Err (stream.Text f)) = subst (λ (y : StreamFault). EndsSo core h.bytes (Err y)) is (e h.bytes h.fed) in
    (h.bytes, h.read, ends, h.asks)

pub invalid_judged : (core : CoreData) (known : Option (List ℕ)) (before now taken : ℕ) (s : StreamData) (a b : Option Pairs) (f : JudgeFault) (x : StreamFault) → x ≡ stream.Invalid f → AllRead core known s a b → ((bytes : List ℕ) → IsFed core bytes s → EndsSo core bytes (Err x))
    → FileJudged core known before now taken a b (Err (fault.Invalid f))
invalid_judged core known before now taken s a b f x is h e =
    let ends : EndsSo core h.bytes (Err (stream.Invalid f)) = subst (λ (y : StreamFault). EndsSo core h.bytes (Err y)) is (e h.bytes h.fed) in
    (h.bytes, h.read, ends, h.asks)

pub read_of : (core k : CoreData) (known : Option (List ℕ)) (s : StreamData) (a b : Option Pairs) → k ≡ core → AllRead k known s a b → AllRead core known s a b
read_of core k known s a b e h = subst (λ q. AllRead q known s a b) e h
