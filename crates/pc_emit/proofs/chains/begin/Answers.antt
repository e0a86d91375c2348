use Rattle.pc_tree.proofs.Views.{view_name, view_type_name}
use Rattle.pc_emit.proofs.chains.begin.Goals as goal

pub returns-in-Name-clause-begins : goal.returns-in-Name-clause-begins
returns-in-Name-clause-begins c = rw (c.in-Name.is, view_name c.in-Name.name) c.begin_with_name.ensures.begins

pub returns-in-TypeName-clause-begins : goal.returns-in-TypeName-clause-begins
returns-in-TypeName-clause-begins c = rw (c.in-TypeName.is, view_type_name c.in-TypeName.name) c.begin_with_type.ensures.begins

pub returns-in-Name-clause-reads : goal.returns-in-Name-clause-reads
returns-in-Name-clause-reads c = rw (c.in-Name.is, view_name c.in-Name.name) c.begin_with_name.ensures.reads

pub returns-in-TypeName-clause-reads : goal.returns-in-TypeName-clause-reads
returns-in-TypeName-clause-reads c = rw (c.in-TypeName.is, view_type_name c.in-TypeName.name) (c.begin_with_type.ensures.reads c.args.scope.now)
