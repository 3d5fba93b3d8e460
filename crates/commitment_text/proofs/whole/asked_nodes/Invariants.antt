use Rattle.std.proofs.Common.{◌≡◌, ◌++◌, drop, map}
use Rattle.commitment_text.specs.Asked.{counterparty_of}
use Rattle.commitment_text.specs.Counterparties.{counterparties_from}
use Rattle.commitment_text.specs.Knowledge.{knowledge_of}
use Rattle.commitment_text.proofs.whole.asked_nodes.Given as goal

-- the participants so far and those that are left are all
abbrev pub invariant-hosts : goal.invariant-hosts
invariant-hosts l =
    map counterparty_of l.asked.items ++ counterparties_from l.at (drop l.at l.hosts) (map knowledge_of (drop l.at l.nodes))
    ≡ counterparties_from 0 l.hosts (map knowledge_of l.nodes)
