use Rattle.std.proofs.Common.{arith, ◌≤◌, ◌<◌, length}
use Rattle.std.specs.Prelude.{IsSome}
use Rattle.std.specs.Str.{bytes_eq}
use Rattle.std.proofs.lemmas.Grind.{common_steps}
use Rattle.ledger_terms.specs.declared.known.Known.{Known}
use Rattle.indexmap.specs.IndexMap.{get}
use Rattle.contract_store.proofs.Growing.{grows_more, all_more, all_done}
use Rattle.contract_store.proofs.ready.add_known.Goals as goal

pub known-preserved : goal.known-preserved
known-preserved c =
    let within : c.known.k-index < length c.args.known.now = grind (arith, common_steps) in
    record {
      grows = grows_more (λ q. get bytes_eq c.args.ids.now q) (λ q. get bytes_eq c.known.ids q) (λ q. get bytes_eq c.add_key.new.ids q)
          c.known.invariant.grows c.in_ok-add_key.ensures.grows;
      added = all_more (λ (k : Known). IsSome (get bytes_eq c.known.ids k.id)) (λ (k : Known). IsSome (get bytes_eq c.add_key.new.ids k.id))
          c.args.known.now c.known.k-index c.k-item.result (λ k there. c.in_ok-add_key.ensures.grows.kept k.id there) within
          (rw c.as_slice-k-items.ensures at c.k-item.is) c.known.invariant.added c.in_ok-add_key.ensures.added;
    }

pub returns-clause-added : goal.returns-clause-added
returns-clause-added c =
    let past : length c.args.known.now ≤ c.known.k-index = grind (arith, common_steps) in
    all_done (λ (k : Known). IsSome (get bytes_eq c.known.ids k.id)) c.args.known.now c.known.k-index past c.known.invariant.added
