use Rattle.std.proofs.Common.{◌∙◌}
use Rattle.std.specs.Str.{bytes_eq}
use Rattle.ledger_terms.specs.declared.known.Known.{Known}
use Rattle.contract_store.specs.Active.{active_rows, knowns}
use Rattle.prepare_request.specs.Hosted.{has_hosted_id}
use Rattle.prepare_request.proofs.Offered.{find_among}
use Rattle.prepare_request.proofs.hosted_contracts.HostedContractsKnownContracts.find_salt.Goals as goal

pub returns : goal.returns
returns c =
    c.find_salt_where.ensures
    ∙ find_among (has_hosted_id c.args.self.now.hosted.now.ids) (λ (k : Known). bytes_eq k.salt c.args.salt.now)
    (knowns (active_rows c.args.self.now.store.now.rows))
