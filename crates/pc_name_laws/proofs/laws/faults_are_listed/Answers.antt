use Rattle.pc_members.specs.Members.{written, added}
use Rattle.pc_name_laws.proofs.{Counting.{file_counts, file_mains}, Declarations.{entities_list, entity_lists}, Walks.member_tells}
use Rattle.pc_name_laws.proofs.laws.faults_are_listed.Goals as goal

pub returns : goal.returns
returns c = record {
  entities = entities_list;
  declarations = entity_lists;
  counts = file_counts;
  mains = file_mains;
  bodies = λ context e m f. (member_tells context e (written m)).just f;
  added = λ context e f. (member_tells context e added).just f;
}
