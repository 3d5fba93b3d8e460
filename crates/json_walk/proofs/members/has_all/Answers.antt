use Rattle.std.proofs.Common.{rules, sym, ◌∙◌, is_some}
use borrow.Author.Tests.{tests}
use Rattle.std.proofs.lemmas.Iterator.{YieldsList-from_slice}
use Rattle.std.proofs.lemmas.Iterator.Search.{all_from_yields_List}
use Rattle.std.proofs.lemmas.List.Folds.{list_all-map}
use Rattle.serde_json.specs.View.{view}
use Rattle.serde_json.specs.Find.{get}
use Rattle.json_walk.proofs.members.has_all.Goals as goal

pub returns : goal.returns
returns c =
    all_from_yields_List (λ k. is_some (get k.now (view c.args.value.now))) _ _ c.all.result c.all.ensures.ran (YieldsList-from_slice c.args.required.now cc) (λ x b q k. search (rules, tests))
    ∙ sym (list_all-map (λ n. is_some (get n (view c.args.value.now))) (λ k. k.now) c.args.required.now)
