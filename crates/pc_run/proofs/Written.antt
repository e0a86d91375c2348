-- Writing one text after another.
use Rattle.std.proofs.{Common.{◌≡◌, ℕ, ◌+◌, ◌<◌, ◌≤◌, List, ◌∷◌, ◌++◌, length, get_or, take, drop, Option, Result, Ok, Err, sym, ap, ◌∙◌, subst, append_assoc}, Math.Seq.take-append_seam, lemmas.List.{take-append-drop, drop_more}, lemmas.List.Concat.flat_map-append, KnownBytes.Appends-trans}
use Rattle.std.specs.{Prelude.IsErrAnd, Io.KnownBytes.Appends}
use Rattle.pc_io.specs.Sink.{GrowsByPrefix, Change, change}
use Rattle.pc_io.proofs.Prefixes.{grows_more, grows_on, rose_before}
use Rattle.pc_base.specs.Lists.{line_end}
use Rattle.pc_semantics.specs.Text.{lines}
use Rattle.pc_run.specs.{declared.report.RunFault.RunFault, declared.report.RunFault.TheVariants.{Sink, TooLong, Memory}, Writing.{WriteStops, Wrote}}

-- ---- prefixes

-- All of a is a prefix of what begins with a.
pub grows_whole : (w x : Option (List ℕ)) (a b : List ℕ) → Appends w x a → GrowsByPrefix w x (a ++ b)
grows_whole w x a b h = (length a, subst (Appends w x) (sym (take-append_seam a b)) h)

-- ---- writings

-- A writing that stopped would have stopped so with more to write.
pub stops_more : (a b : List ℕ) (out : Change) (e : RunFault) → WriteStops a out e → WriteStops (a ++ b) out e
stops_more a b out Sink h = (h.0, grows_more out.before out.now a b h.1)
stops_more a b out (TooLong n) h = absurd h
stops_more a b out Memory h = grows_more out.before out.now a b h

module _ (w x y : Option (List ℕ)) (f g h : ℕ) (a b : List ℕ) (front : Appends w x a) (later : f ≤ g) where
  -- It stopped after a.
  pub stops_on : (e : RunFault) → WriteStops b (change x y g h) e → WriteStops (a ++ b) (change w y f h) e
  stops_on Sink s = (rose_before f g h later s.0, grows_on w x y a b front s.1)
  stops_on (TooLong n) s = absurd s
  stops_on Memory s = grows_on w x y a b front s

  pub wrote_on : (r : Result (Unit {0}) RunFault) → Wrote b (change x y g h) r → Wrote (a ++ b) (change w y f h) r
  wrote_on (Ok u) s = Appends-trans w x y a b front s
  wrote_on (Err e) s = stops_on e s

-- ---- an end by `?`

pub ended_by : (text : List ℕ) (out : Change) (e : RunFault) (r : Result (Unit {0}) RunFault) → IsErrAnd r (λ x. x ≡ e) → WriteStops text out e → Wrote text out r
ended_by text out e (Ok u) is s = absurd is
ended_by text out e (Err x) is s = subst (WriteStops text out) (sym is) s

-- ---- texts

-- the lines up to a place, and those after it
pub lines_parts : (texts : List (List ℕ)) (i : ℕ) → lines (take i texts) ++ lines (drop i texts) ≡ lines texts
lines_parts texts i = sym (flat_map-append (λ t. t ++ line_end) (take i texts) (drop i texts)) ∙ ap lines (take-append-drop i texts)

-- the same, with the line at that place
pub lines_next : (texts : List (List ℕ)) (i : ℕ) (line : List ℕ) → i < length texts → line ≡ get_or texts i line → lines (take i texts) ++ (line ++ line_end) ++ lines (drop (i + 1) texts) ≡ lines texts
lines_next texts i line l is =
    let next : drop i texts ≡ line ∷ drop (i + 1) texts = drop_more texts i line l ∙ ap (λ x. x ∷ drop (i + 1) texts) (sym is) in
    append_assoc (lines (take i texts)) (line ++ line_end) (lines (drop (i + 1) texts))
    ∙ ap (λ rest. lines (take i texts) ++ lines rest) (sym next) ∙ lines_parts texts i
