use Rattle.pc_deriv.specs.declared.version.Version.TheVariants as version
use Rattle.pc_deriv.proofs.Fitting.{is_text}
use Rattle.pc_deriv.proofs.writing.write.Goals as goal

pub returns-clause-read_back : goal.returns-clause-read_back
returns-clause-read_back c = is_text version.One c.write_lines.result c.args.ann.now c.requires c.write_lines.ensures.text c.write_lines.ensures.fits
