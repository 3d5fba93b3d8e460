use Rattle.std.proofs.Common.{◌∙◌, sym}
use Rattle.contract_store.specs.Active.{active_rows, knowns}
use Rattle.prepare_request.proofs.Offered.{found_if_hosted, none_if_not}
use Rattle.prepare_request.proofs.hosted_contracts.HostedContractsKnownContracts.find.Goals as goal

pub returns-then-contains : goal.returns-then-contains
returns-then-contains c =
    c.find.ensures
    ∙ found_if_hosted c.args.self.now.hosted.now.ids c.args.id.now (knowns (active_rows c.args.self.now.store.now.rows)) (sym c.if-contains.ensures)

pub returns-else-contains : goal.returns-else-contains
returns-else-contains c =
    none_if_not c.args.self.now.hosted.now.ids c.args.id.now (knowns (active_rows c.args.self.now.store.now.rows)) (sym c.if-contains.ensures)
