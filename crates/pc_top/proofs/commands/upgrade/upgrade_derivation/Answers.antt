use Rattle.std.proofs.{Common.{inl, inr}, lemmas.Result.err_from_is_err_and}
use Rattle.pc_ann.specs.declared.annotation.Ann.{Ann}
use Rattle.pc_deriv.specs.Text.{derivation_limit, deriv_text}
use Rattle.pc_deriv.specs.declared.version.Version.TheVariants as version
use Rattle.pc_refusals.specs.{Derivation.{DerivationStage, Judging}, Verdict.{files_change, named, EndsAs}, Source.{SourceStage, source_limit}, declared.source.Source.Source}
use Rattle.pc_refusals.proofs.{Derivations.few, Ending.{both_answer, both_stop, part_stops}, TwoFiles.{both_later, both_same, second_gives, second_stops}}
use Rattle.pc_top.specs.Shapes.{OfJudged, UnreadDerivation}
use Rattle.pc_top.proofs.Deriving.{never_longer}
use Rattle.pc_top.proofs.commands.upgrade.upgrade_derivation.Goals as goal

pub returns-in_err-read-clause-answers : goal.returns-in_err-read-clause-answers
returns-in_err-read-clause-answers g c =
    let p = err_from_is_err_and c.from_residual.result c.from_residual.ensures.1 in
    let s = c.args.source.now in
    let d = c.args.derivation.now in
    let files = files_change (g.F.Files.bytes c.args.files.now) (g.F.Files.faults c.args.files.now) (g.F.Files.faults c.read_source.new.files) (g.F.Files.taken c.read_source.new.files) in
    rw (p.1, p.2) (part_stops source_limit (SourceStage s) (OfJudged (deriv_text version.Two) (named files s) (named files d)) (UnreadDerivation (named files s) (named files d)) (named files s) _ (λ n f. inl f) c.in_err-read.ensures.stage)

pub returns-in_err-ann-clause-answers : goal.returns-in_err-ann-clause-answers
returns-in_err-ann-clause-answers g c =
    let p = err_from_is_err_and c.from_residual-in_err-ann.result c.from_residual-in_err-ann.ensures.1 in
    let s = c.args.source.now in
    let d = c.args.derivation.now in
    let files = files_change (g.F.Files.bytes c.args.files.now) (g.F.Files.faults c.args.files.now) (g.F.Files.faults c.read_derivation.new.files) (g.F.Files.taken c.read_derivation.new.files) in
    rw (p.1, p.2)
    (both_stop source_limit derivation_limit (SourceStage s) (DerivationStage d) (λ (x : Source) (note : Ann). EndsAs (λ _. deriv_text version.Two note) (Judging s d x note)) (UnreadDerivation (named files s) (named files d)) (named files s) (named files d) _ (λ n f. inl f) (λ n p f. inr (p, f))
    (second_stops source_limit derivation_limit (SourceStage s) (DerivationStage d) s d (g.F.Files.bytes c.args.files.now) (g.F.Files.bytes c.read_source.new.files)
    (g.F.Files.faults c.args.files.now) (g.F.Files.faults c.read_source.new.files) (g.F.Files.faults c.read_derivation.new.files) (g.F.Files.taken c.read_source.new.files) (g.F.Files.taken c.read_derivation.new.files) (g.F.Files.taken c.read_derivation.new.files)
    c.in_ok-read.read (never_longer s c.in_ok-read.read) c.in_ok-read.ensures.stage (c.in_ok-read.ensures.same d) (c.in_ok-read.ensures.later d) (c.in_err-ann.ensures.later d) _ c.in_err-ann.ensures.stage))

pub upgrade_annotation-requires : goal.upgrade_annotation-requires
upgrade_annotation-requires g c = few c.in_ok-ann.ensures.stage.2

pub returns-clause-answers : goal.returns-clause-answers
returns-clause-answers g c =
    let s = c.args.source.now in
    let d = c.args.derivation.now in
    let files = files_change (g.F.Files.bytes c.args.files.now) (g.F.Files.faults c.args.files.now) (g.F.Files.faults c.read_derivation.new.files) (g.F.Files.taken c.read_derivation.new.files) in
    let read = c.in_ok-read.read in
    let ann = c.in_ok-ann.ann in
    both_answer source_limit derivation_limit (SourceStage s) (DerivationStage d) (λ (x : Source) (note : Ann). EndsAs (λ _. deriv_text version.Two note) (Judging s d x note)) (UnreadDerivation (named files s) (named files d)) (named files s) (named files d) read ann
    (second_gives source_limit derivation_limit (SourceStage s) (DerivationStage d) s d (g.F.Files.bytes c.args.files.now) (g.F.Files.bytes c.read_source.new.files)
    (g.F.Files.faults c.args.files.now) (g.F.Files.faults c.read_source.new.files) (g.F.Files.faults c.read_derivation.new.files) (g.F.Files.taken c.read_source.new.files) (g.F.Files.taken c.read_derivation.new.files) (g.F.Files.taken c.read_derivation.new.files)
    c.in_ok-read.read (never_longer s c.in_ok-read.read) c.in_ok-read.ensures.stage (c.in_ok-read.ensures.same d) (c.in_ok-read.ensures.later d) (c.in_ok-ann.ensures.later d) ann c.in_ok-ann.ensures.stage) c.upgrade_annotation.result c.upgrade_annotation.ensures

pub returns-in_err-ann-clause-later : goal.returns-in_err-ann-clause-later
returns-in_err-ann-clause-later g c = both_later _ _ _ c.in_ok-read.ensures.later c.in_err-ann.ensures.later

pub returns-in_err-ann-clause-same : goal.returns-in_err-ann-clause-same
returns-in_err-ann-clause-same g c = both_same _ _ _ c.in_ok-read.ensures.same c.in_err-ann.ensures.same

pub returns-clause-later : goal.returns-clause-later
returns-clause-later g c = both_later _ _ _ c.in_ok-read.ensures.later c.in_ok-ann.ensures.later

pub returns-clause-same : goal.returns-clause-same
returns-clause-same g c = both_same _ _ _ c.in_ok-read.ensures.same c.in_ok-ann.ensures.same
