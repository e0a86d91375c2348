-- The laws of the fault that is reported, and of unknown names.
use Rattle.std.proofs.{Common.{◌≡◌, refl, sym, ap, ◌∙◌, subst, inl, inr, arith}, lemmas.Option.{same_Some, none-some}}
use Rattle.std.specs.Prelude.{Option, Some, None}
use Rattle.pc_base.specs.declared.span.Span.{Span}
use Rattle.pc_tree.specs.declared.written_names.Name.{Name}
use Rattle.pc_tree.specs.Tree as t
use Rattle.pc_text_order.proofs.Tokens.{tokens_ascend}
use Rattle.pc_names.specs.{declared.fault.NameFault.NameFault, Laws.fault_start}
use Rattle.pc_names.specs.declared.fault.NameFault.TheVariants as fault
use Rattle.pc_body_spec.specs.{Bodies.Context, Faults.{BodyNameFault, unknown, double, long_text}}
use Rattle.pc_file_spec.specs.Cores.{context_of, body_fault}
use Rattle.pc_elab.specs.Cores.{IsSpelledFile}
use Rattle.pc_name_laws.specs.{Uses.Spot, Missing.{IsMissing, IsAtFault, place}, Declared.{IsEntityFault, IsMissingName, IsDeclarationFault}, Turns.{Turn, entity_names, declarations, cycles, method_counts, main, body, slots, nodes, IsFaultInTurn, IsBefore, NotBehind}, Laws.{ToldIsLeast, ToldOfTextIsLeast, IsMissingAt, UnknownIsMissing, MissingIsTold}}
use Rattle.pc_name_laws.specs.Declared as law
use Rattle.pc_name_laws.proofs.{Told.Told, Joined.{told, fault_is_told}}

-- ---- the least

is_before : (file : t.File) (f : NameFault) (x : Told file f) → IsSpelledFile file → (u : Turn) (g : NameFault) → IsFaultInTurn file u g
    → IsBefore x.turn f u g
is_before file f x s u g at = ((λ early. x.before u early g at), (λ same. x.within s g (subst (λ v. IsFaultInTurn file v g) (sym same) at)))

-- What comes before a fault is not after its start.
not_behind : (t u : Turn) (f g : NameFault) → IsBefore t f u g → NotBehind t f u (fault_start g)
not_behind t u f g b = (
  b.0,
  λ same. elim (b.1 same) [
    | inl one ↦ let start = ap fault_start one in omega (arith, start)
    | inr less ↦ omega (arith, less)
  ],
)

pub told_is_least : ToldIsLeast
told_is_least file ts f spells order is =
    let x = told file f is in
    (x.turn, (x.at, λ u g at. is_before file f x (ts, spells, order) u g at))

pub told_of_text_is_least : ToldOfTextIsLeast
told_of_text_is_least text file ts f tokens spells is = told_is_least file ts f spells (tokens_ascend text ts tokens) is

-- ---- a fault that is not an unknown name

abbrev unknown_at : NameFault → Option Span
unknown_at (fault.Double s) = None
unknown_at (fault.Unknown s) = Some s
unknown_at fault.NoMain = None
unknown_at (fault.BadMain s) = None
unknown_at (fault.Cycle s) = None
unknown_at (fault.TooMany w s) = None
unknown_at fault.Memory = None

-- A fault that is reported as unknown is none of the others.
other_fault : (f : NameFault) (s : Span) → unknown_at f ≡ None → fault.Unknown s ≡ f → ⊥
other_fault f s none e = none-some s (sym none ∙ sym (ap unknown_at e))

entity_known : (file : t.File) (f : NameFault) → IsEntityFault file f → unknown_at f ≡ None
entity_known file f (law.twice i e at r) = refl
entity_known file f (law.too_many i e at r l) = refl

main_known : (file : t.File) (f : NameFault) → IsFaultInTurn file main f → unknown_at f ≡ None
main_known file f (inl a) = ap unknown_at a.0
main_known file f (inr a) = ap unknown_at a.2

declared_missing : (file : t.File) (e : t.Entity) (f : NameFault) (s : Span) → IsDeclarationFault file e f → unknown_at f ≡ Some s → (n : Name) × IsMissingName file e n × (s ≡ n.span)
declared_missing file e f s (law.unknown n m) is = (n, m, sym (same_Some n.span s is))
declared_missing file e f s (law.twice n m) is = absurd (none-some s is)
declared_missing file e f s (law.too_many i x at fresh l) is = absurd (none-some s is)

abbrev lost_at : BodyNameFault → Option Span
lost_at (unknown s) = Some s
lost_at (double s) = None
lost_at (long_text s) = None

lost_is : (g : BodyNameFault) → unknown_at (body_fault g) ≡ lost_at g
lost_is (unknown s) = refl
lost_is (double s) = refl
lost_is (long_text s) = refl

at_missing : (c : Context) (x : Spot) (g : BodyNameFault) (s : Span) → lost_at g ≡ Some s → IsAtFault c x g → IsMissing c x × (s ≡ place x.what)
at_missing c x g s is (inl a) = (a.1, same_Some s (place x.what) (sym is ∙ ap lost_at a.0))
at_missing c x g s is (inr (inl a)) = absurd (none-some s (sym (ap lost_at a.0) ∙ is))
at_missing c x g s is (inr (inr a)) = absurd (none-some s (sym (ap lost_at a.0) ∙ is))

missing_at : (file : t.File) (u : Turn) (s : Span) → IsFaultInTurn file u (fault.Unknown s) → IsMissingAt file u s
missing_at file entity_names s at = other_fault (fault.Unknown s) s (entity_known file (fault.Unknown s) at) refl
missing_at file declarations s at = let r = declared_missing file at.0 (fault.Unknown s) s at.2 refl in (at.0, r.0, at.1, r.1, r.2)
missing_at file cycles s at = other_fault (fault.Cycle at.1.name.span) s refl at.4
missing_at file method_counts s at = none-some s (sym (ap unknown_at at.4))
missing_at file main s at = other_fault (fault.Unknown s) s (main_known file (fault.Unknown s) at) refl
missing_at file (body k) s at =
    let is : lost_at at.1 ≡ Some s = sym (lost_is at.1) ∙ sym (ap unknown_at at.4) in
    let r = at_missing (context_of file at.0) at.3.0 at.1 s is at.3.2 in
    (at.0, at.3.0, at.2, at.3.1, r.0, r.1)
missing_at file (slots k) s at = none-some s (sym (ap unknown_at at.4))
missing_at file (nodes k) s at = none-some s (sym (ap unknown_at at.3))

pub unknown_is_missing : UnknownIsMissing
unknown_is_missing file s is = let x = told file (fault.Unknown s) is in (x.turn, missing_at file x.turn s x.at)

-- ---- a name without a meaning

at_missing_name : (file : t.File) (u : Turn) (s : Span) → IsMissingAt file u s → IsFaultInTurn file u (fault.Unknown s)
at_missing_name file entity_names s m = absurd m
at_missing_name file declarations s m = (m.0, m.2, subst (λ (p : Span). IsDeclarationFault file m.0 (fault.Unknown p)) (sym m.4) (law.unknown m.1 m.3))
at_missing_name file cycles s m = absurd m
at_missing_name file method_counts s m = absurd m
at_missing_name file main s m = absurd m
at_missing_name file (body k) s m = (m.0, unknown s, m.2, (m.1, m.3, inl (ap unknown m.5, m.4)), refl)
at_missing_name file (slots k) s m = absurd m
at_missing_name file (nodes k) s m = absurd m

pub missing_is_told : MissingIsTold
missing_is_told file ts u s spells order m =
    let at = at_missing_name file u s m in
    let f = fault_is_told file u (fault.Unknown s) at in
    let x = told file f.0 f.1 in
    (f.0, x.turn, f.1, x.at, not_behind x.turn u f.0 (fault.Unknown s) (is_before file f.0 x (ts, spells, order) u (fault.Unknown s) at))
