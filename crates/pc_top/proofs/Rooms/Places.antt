-- The room of `places`, whose source need not have a derivation.
use Rattle.std.proofs.Common.{◌≡◌, ◌≤◌, ℕ, List, length, Ok, refl, sym, ap, subst, ◌∙◌}
use Rattle.std.specs.{Prelude.IfSome, Io.KnownBytes.Appends}
use Rattle.pc_base.specs.Lists.{Text}
use Rattle.pc_args.specs.Asked.{make, places}
use Rattle.pc_io.specs.Sink.{Change}
use Rattle.pc_lex.specs.{Laws.OneList, Pieces.bytes_limit}
use Rattle.pc_places.specs.Text.{HasTokens, IsPlacesText, places_text}
use Rattle.pc_token.specs.declared.kinds.Token.{Token}
use Rattle.pc_refusals.specs.{Verdict.{Files, Named, Reading, named, Verdict, IsAccepting, done}, Source.{SourceStage, source_limit}, declared.source.Source.Source}
use Rattle.pc_refusals.proofs.{LastStages.{from_status, passed}, OneSource.{one_from, one_source}, Statuses.{IsOther, IsOwn, other_not_one, other_own, other_refuses, source_other}}
use Rattle.pc_top.specs.Commands.Places.{IsPlaces, Placed, WritesPlaces}
use Rattle.pc_top.proofs.{Accepted.of_source, Deriving.source_says, Room.{NotOne, Room, looks_for_none, zero_not_one, zero_own}}

-- ---- the source that was read

pub source_is_short : {name : Text} {r : Reading} (s : Source) (bytes : Text) → bytes ≡ s.bytes → SourceStage name r (Ok s) → length bytes ≤ bytes_limit
source_is_short s bytes e h = subst (λ (t : Text). length t ≤ bytes_limit) (sym e) (source_says h).1.short

pub source_has_tokens : {name : Text} {r : Reading} (s : Source) (bytes : Text) → bytes ≡ s.bytes → SourceStage name r (Ok s) → HasTokens bytes
source_has_tokens s bytes e h = let of = (source_says h).1 in subst HasTokens (sym e) (of.tokens, of.lexed)

pub source_placed : (s : Source) (bytes text : Text) → bytes ≡ s.bytes → IsPlacesText bytes s.core text → IsPlacesText s.bytes s.core text
source_placed s bytes text e is = subst (λ (t : Text). IsPlacesText t s.core text) e is

-- ---- one verdict

one_placed : OneList → (s : Source) (v w : Verdict) → Placed s v → Placed s w → v ≡ w
one_placed law s v w (text, (tokens, l, e), is) (other, (others, m, f), it) =
    let same : tokens ≡ others = law s.bytes tokens others l.0 m.0 in
    let texts : text ≡ other = e ∙ ap (λ (ts : List Token). places_text s.bytes ts s.core) same ∙ sym f in
    is ∙ ap done texts ∙ sym it

-- Which statuses its verdicts have.
statuses : (P : ℕ → Type 0) → ((status : ℕ) → IsOther status → P status) → P 0 → (file : Named) (v : Verdict) → IsPlaces file v → P v.status
statuses P other zero file =
    from_status file source_limit (SourceStage file.name) Placed P (λ r w h. other w.status (source_other h)) (λ s w p. subst P (sym (ap (λ (x : Verdict). x.status) p.2)) zero)

-- ---- what is on out

places_on_out : (file : Named) (v : Verdict) (out : Change) → IsPlaces file v → IsAccepting v.status → Appends out.before out.now v.out → IfSome file.known (WritesPlaces out)
places_on_out file v out is e o =
    let p = passed file source_limit (SourceStage file.name) Placed v (λ r h. other_refuses v.status (source_other h) e) is in
    let s = p.1 in
    let grew : Appends out.before out.now p.4.0 = subst (λ (w : Verdict). Appends out.before out.now w.out) p.4.2 o in
    of_source (WritesPlaces out) file p.0 s p.2 p.3 (s.core, (source_says p.3).1, p.4.0, p.4.1, grew)

no_make : (source seed size : Text) → places source ≡ make seed size → ⊥
no_make source seed size e = cc

pub places_room : (files : Files) (source : Text) → Room files (places source)
places_room files source =
    let file = named files source in
    record {
      one = λ laws unfailed known v w. one_from file source_limit (SourceStage source) Placed known.0 unfailed.0 (one_source laws.source source) (λ r s h. one_placed laws.source.list s) v w;
      own = λ v is. statuses IsOwn other_own zero_own file v is;
      accepts = λ v is e. (tt, λ seed size same. absurd (no_make source seed size same));
      refuses = λ laws v is e. absurd (statuses NotOne other_not_one zero_not_one file v is e);
      exact = λ sources laws other bytes of known unfailed has i v is u. absurd (looks_for_none (places source) refl i);
      writes = λ tells v out is e o. places_on_out file v out is e o;
    }
