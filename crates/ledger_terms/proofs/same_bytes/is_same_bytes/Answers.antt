use Rattle.ledger_terms.proofs.SameBytes.{told_by_mask}
use Rattle.ledger_terms.proofs.same_bytes.is_same_bytes.Goals as goal

-- src/same_bytes.rt:8:1
pub returns : goal.returns
returns c = told_by_mask c.args.one.now c.args.other.now c.told-one c.told-other
