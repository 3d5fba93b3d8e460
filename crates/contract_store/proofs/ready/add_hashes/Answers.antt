use Rattle.std.proofs.Common.{arith, ◌≤◌, ◌<◌, length}
use Rattle.std.specs.Prelude.{IsSome}
use Rattle.std.specs.Str.{bytes_eq}
use Rattle.std.proofs.lemmas.Grind.{common_steps}
use Rattle.ledger_model.specs.Terms.{Hash}
use Rattle.indexmap.specs.IndexMap.{get}
use Rattle.contract_store.proofs.Growing.{grows_more, all_more, all_done}
use Rattle.contract_store.proofs.ready.add_hashes.Goals as goal

pub hashes-preserved : goal.hashes-preserved
hashes-preserved c =
    let within : c.hashes.hash-index < length c.args.hashes.now = grind (arith, common_steps) in
    record {
      grows = grows_more (λ q. get bytes_eq c.args.ids.now q) (λ q. get bytes_eq c.hashes.ids q) (λ q. get bytes_eq c.add_key.new.ids q)
          c.hashes.invariant.grows c.in_ok-add_key.ensures.grows;
      added = all_more (λ (h : Hash). IsSome (get bytes_eq c.hashes.ids h)) (λ (h : Hash). IsSome (get bytes_eq c.add_key.new.ids h))
          c.args.hashes.now c.hashes.hash-index c.hash-item.result (λ h there. c.in_ok-add_key.ensures.grows.kept h there) within
          (rw c.as_slice-hash-items.ensures at c.hash-item.is) c.hashes.invariant.added c.in_ok-add_key.ensures.added;
    }

pub returns-clause-added : goal.returns-clause-added
returns-clause-added c =
    let past : length c.args.hashes.now ≤ c.hashes.hash-index = grind (arith, common_steps) in
    all_done (λ (h : Hash). IsSome (get bytes_eq c.hashes.ids h)) c.args.hashes.now c.hashes.hash-index past c.hashes.invariant.added
