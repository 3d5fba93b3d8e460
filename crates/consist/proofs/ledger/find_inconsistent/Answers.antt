use Rattle.std.proofs.Common.{◌≡◌, ◌↔◌, List, [], Option, None}
use Rattle.std.proofs.lemmas.Result.{IfOk-weaker}
use Rattle.ledger_model.specs.Consistency.{Consistent}
use Rattle.ledger_model.specs.declared.commit.Commit.{Commit as CommitRoots}
use Rattle.consist.specs.declared.ledger_place.LedgerPlace.{LedgerPlace}
use Rattle.consist.specs.Breaks.{breaks, Breaks}
use Rattle.consist.specs.First.{first_found, acts_in}
use Rattle.consist.specs.Placed.{placed_in, acts_of_parts}
use Rattle.consist.proofs.Breaking.{breaks_decides, none_breaks, consistent_from}
use Rattle.consist.proofs.Firsts.{some_first, none_first, none_of_acts, none_of_placed}
use Rattle.consist.proofs.Places.{acts_of_placed_in}
use Rattle.consist.proofs.ledger.find_inconsistent.Goals as goal

none_is : (parts : List CommitRoots) (found : Option LedgerPlace) → first_found breaks [] (placed_in parts) ≡ found → (found ≡ None) ↔ Consistent (acts_of_parts parts)
none_is parts found h =
    let all = acts_of_placed_in parts in
    let none = none_first breaks Breaks breaks_decides (placed_in parts) found h in (
      λ e. rw (← all) (consistent_from (acts_in (placed_in parts)) (none_of_acts Breaks (placed_in parts) (none.0 e))),
      λ c. none.1 (none_of_placed Breaks (placed_in parts) (none_breaks (acts_in (placed_in parts)) (rw all c))),
    )

pub returns : goal.returns
returns c =
    record {
      first = IfOk-weaker c.first_breaking.result _ _ (λ found h. some_first breaks Breaks breaks_decides (placed_in c.args.ledger.now) found h) c.first_breaking.ensures;
      none = IfOk-weaker c.first_breaking.result _ _ (λ found h. none_is c.args.ledger.now found h) c.first_breaking.ensures;
    }
