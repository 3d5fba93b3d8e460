use Rattle.std.proofs.Common.{◌≡◌, ◌↔◌, List, ℕ, [], Option, None}
use Rattle.std.proofs.lemmas.Result.{IfOk-weaker}
use Rattle.ledger_terms.specs.Trees.{Actions}
use Rattle.ledger_terms.specs.Forest.{preorder}
use Rattle.ledger_model.specs.Status.{shows_unordered}
use Rattle.consist.specs.First.{first_found, NoneShows}
use Rattle.consist.specs.Placed.{placed}
use Rattle.consist.specs.Rules.{IsUnordered}
use Rattle.consist.proofs.Firsts.{some_first, none_first, none_of_acts, none_of_placed}
use Rattle.consist.proofs.Places.{acts_of_placed}
use Rattle.consist.proofs.order.find_unordered.Goals as goal

none_is : (roots : Actions) (found : Option (List ℕ)) → first_found shows_unordered [] (placed roots) ≡ found → (found ≡ None) ↔ NoneShows IsUnordered (preorder roots)
none_is roots found h =
    let all = acts_of_placed roots in
    let none = none_first shows_unordered IsUnordered (λ earlier a. (λ e. e, λ e. e)) (placed roots) found h in
    (λ e. rw (← all) (none_of_acts IsUnordered (placed roots) (none.0 e)), λ n. none.1 (none_of_placed IsUnordered (placed roots) (rw all n)))

pub returns : goal.returns
returns c =
    record {
      first = IfOk-weaker c.first_unordered.result _ _ (λ found h. some_first shows_unordered IsUnordered (λ earlier a. (λ e. e, λ e. e)) (placed c.args.roots.now) found h) c.first_unordered.ensures;
      none = IfOk-weaker c.first_unordered.result _ _ (λ found h. none_is c.args.roots.now found h) c.first_unordered.ensures;
    }
