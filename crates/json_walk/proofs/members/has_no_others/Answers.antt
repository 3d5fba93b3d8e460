use Rattle.std.proofs.Common.{rules, sym, ◌∙◌, map, ◌||◌, string_bytes}
use borrow.Author.Tests.{tests}
use Rattle.std.proofs.lemmas.Iterator.Consumers.{YieldsList-from_rest}
use Rattle.std.proofs.lemmas.Iterator.Search.{all_from_yields_List}
use Rattle.std.specs.Map.{keys_of}
use Rattle.json_walk.specs.Listed.{is_among}
use Rattle.json_walk.proofs.Keys.{members_among-keys}
use Rattle.json_walk.proofs.members.has_no_others.Goals as goal

pub returns : goal.returns
returns c =
    all_from_yields_List (λ k. is_among (string_bytes k) (map (λ k. k.now) c.args.required.now) || is_among (string_bytes k) (map (λ k. k.now) c.args.optional.now)) _ _ c.all.result c.all.ensures.ran (YieldsList-from_rest (keys_of c.args.members.now.entries) c.keys.ensures.rest) (λ x b q k. search (rules, tests))
    ∙ sym (members_among-keys _ _ c.args.members.now.entries)
