-- The parties that known contracts and transactions name. The lists may have a party more than once.
use Rattle.std.specs.Prelude.{List}
use Rattle.std.specs.List.{flat_map}
use Rattle.ledger_terms.specs.declared.known.Known.{Known}
use Rattle.ledger_terms.specs.Forest.{preorder}
use Rattle.ledger_terms.specs.declared.act.Act.{Act}
use Rattle.ledger_terms.specs.Trees.{Actions}
use Rattle.lang_eval.specs.Parts.{PartyNames}
use Rattle.lang_eval.specs.Named.{parties_in_action, parties_in_instance}

-- the parties that the fields of a known contract name
abbrev pub parties_in_known : Known → PartyNames
parties_in_known k = parties_in_instance k.instance

-- the parties that the fields of any of the known contracts name
abbrev pub parties_in_contracts : List Known → PartyNames
parties_in_contracts known = flat_map parties_in_known known

-- the parties that an action of a transaction names, without its consequences
abbrev pub parties_in_act : Act → PartyNames
parties_in_act a = parties_in_action a.action

-- the parties that any action of these trees names
abbrev pub parties_in_forest : Actions → PartyNames
parties_in_forest forest = flat_map parties_in_act (preorder forest)
