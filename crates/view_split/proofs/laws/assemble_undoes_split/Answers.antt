use Rattle.view_split.proofs.Assembled.{assembled_split, root_put_back}
use Rattle.view_split.proofs.laws.assemble_undoes_split.Goals as goal

pub returns-clause-whole : goal.returns-clause-whole
returns-clause-whole c = assembled_split

pub returns-clause-roots : goal.returns-clause-roots
returns-clause-roots c = root_put_back
