use Rattle.view_split.specs.Split.{assembled}
use Rattle.whole_request.proofs.PutBack.{PutsBack}
use Rattle.whole_request.proofs.reading.actions_of.Given as goal

abbrev pub invariant-views : goal.invariant-views
invariant-views l = PutsBack l.view-iterator.rest.items l.actions (assembled l.fn.views)
