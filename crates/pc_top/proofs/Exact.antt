-- What the statuses 0 and 1 mean for a source, exactly.
use Rattle.std.proofs.Common.{◌≡◌, Option, Some, inl, refl, ap, subst}
use Rattle.std.specs.Prelude.{◌↔◌, IfSome, IsTrue}
use Rattle.pc_base.specs.Lists.{Text}
use Rattle.pc_args.specs.Asked.{Asked, check}
use Rattle.pc_refusals.specs.Verdict.{Files, named, Verdict}
use Rattle.pc_refusals.proofs.OneSource.{SourceLaws}
use Rattle.pc_top.specs.{Asked.OfFile, Commands.{IsVerdictOf, infers, source_of}, Words.HasNumber, Commands.Check.Derived, CoreOf.{IsDerivable, IsUnderivable}, Exact.StatusesAreExact}
use Rattle.pc_top.proofs.{Begins.went_on, Premises.Refusing, Rooms.room_of, Rooms.Make.{make_exact, make_underived}}

module _ (sources : SourceLaws) (laws : Refusing) where
  -- what holds of the command's file, holds of the bytes that it tells
  of_bytes : (Holds : Text → Type 0) (files : Files) (asked : Asked) (source bytes : Text) → source_of asked ≡ Some source → files.known source ≡ Some bytes → OfFile Holds files.known (source_of asked) → Holds bytes
  of_bytes Holds files asked source bytes its tells h =
      let of : IfSome (files.known source) Holds = subst (λ (o : Option Text). OfFile Holds files.known o) its h in
      subst (λ (o : Option Text). IfSome o Holds) tells of

  exact_zero : (files : Files) (source bytes : Text) (v : Verdict) → files.known source ≡ Some bytes → files.now source ≡ files.before source → IsVerdictOf files (Some (check source)) v → (v.status ≡ 0) ↔ IsDerivable bytes
  exact_zero files source bytes v tells unfailed is =
      let there : v.status ≡ 0 → IsDerivable bytes = λ e. of_bytes IsDerivable files (check source) source bytes refl tells ((room_of files (check source)).accepts v is (inl e)).0 in
      let back : IsDerivable bytes → v.status ≡ 0 = λ d. let w = went_on sources laws (named files source) bytes tells unfailed d.0 d.1 Derived v d.2 is in ap (λ (x : Verdict). x.status) w.1.3 in
      (there, back)

  exact_one : (files : Files) (asked : Asked) (source bytes : Text) (v : Verdict) → source_of asked ≡ Some source → files.known source ≡ Some bytes → files.now source ≡ files.before source
      → HasNumber asked → IsVerdictOf files (Some asked) v → IsTrue (infers asked) → (v.status ≡ 1) ↔ IsUnderivable bytes
  exact_one files asked source bytes v its tells unfailed has is i =
      let there : v.status ≡ 1 → IsUnderivable bytes = λ e. of_bytes IsUnderivable files asked source bytes its tells ((room_of files asked).refuses laws v is e).1.0 in
      let back : IsUnderivable bytes → v.status ≡ 1 = λ u. (room_of files asked).exact sources laws source bytes its tells unfailed has i v is u in
      (there, back)

  pub statuses_exact : StatusesAreExact
  statuses_exact = record {
    accepted = λ files words source bytes v h. exact_zero files source bytes v h.tells h.unfailed (subst (λ (o : Option Asked). IsVerdictOf files o v) h.asks h.verdict);
    refused = λ files words asked source bytes v h i.
        exact_one files asked source bytes v h.is_source h.tells h.unfailed h.has_number (subst (λ (o : Option Asked). IsVerdictOf files o v) h.asks h.verdict) i;
    made = λ files words seed size a b v asks s t is.
        let of = subst (λ (o : Option Asked). IsVerdictOf files o v) asks is in
        (λ e. make_underived laws seed size a b v s t of e, λ u. make_exact sources laws seed size a b v s t of u);
  }
