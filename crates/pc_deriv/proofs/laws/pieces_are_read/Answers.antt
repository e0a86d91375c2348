use Rattle.pc_deriv.proofs.{Feeding.fed_both, Whole.{read_whole, texts_are_taken, faults_are_found, faults_stay}}
use Rattle.pc_deriv.proofs.laws.pieces_are_read.Goals as goal

pub returns-clause-cuts : goal.returns-clause-cuts
returns-clause-cuts c = fed_both

pub returns-clause-whole : goal.returns-clause-whole
returns-clause-whole c = read_whole

pub returns-clause-texts : goal.returns-clause-texts
returns-clause-texts c = texts_are_taken

pub returns-clause-faults : goal.returns-clause-faults
returns-clause-faults c = faults_are_found

pub returns-clause-stays : goal.returns-clause-stays
returns-clause-stays c = faults_stay
