use Rattle.std.proofs.Common.{rules, sym, ◌∙◌}
use borrow.Author.Tests.{tests}
use Rattle.std.specs.Str.{bytes_eq}
use Rattle.std.proofs.lemmas.Iterator.{YieldsList-from_slice}
use Rattle.std.proofs.lemmas.Iterator.Search.{any_from_yields_List}
use Rattle.json_walk.proofs.Keys.{list_any-map}
use Rattle.json_walk.proofs.members.is_listed.Goals as goal

pub returns : goal.returns
returns c =
    any_from_yields_List (λ k. bytes_eq k.now c.args.key.now) _ _ c.any.result c.any.ensures.ran (YieldsList-from_slice c.args.names.now cc) (λ x b q k. search (rules, tests))
    ∙ sym (list_any-map (λ n. bytes_eq n c.args.key.now) (λ k. k.now) c.args.names.now)
