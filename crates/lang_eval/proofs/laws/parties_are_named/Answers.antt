use Rattle.lang_eval.specs.Parts.{parties_of_contract, parties_of_created, parties_of_choice, observers_of_choice}
use Rattle.lang_eval.specs.Named.{stakeholder_names, choice_party_names}
use Rattle.lang_eval.proofs.NamedValues.{gives_of}
use Rattle.lang_eval.proofs.NamedRoles.{its, contract_parties_known, created_parties_known, choice_parties_known, choice_observers_known}
use Rattle.lang_eval.proofs.laws.parties_are_named.Goals as goal

pub returns-clause-contract : goal.returns-clause-contract
returns-clause-contract c known packages i parties h k is =
    gives_of known stakeholder_names (parties_of_contract packages i) parties (contract_parties_known known packages i h k) is

pub returns-clause-created : goal.returns-clause-created
returns-clause-created c known packages i parties h k is =
    gives_of known stakeholder_names (parties_of_created packages i) parties (created_parties_known known packages i h k) is

pub returns-clause-choice : goal.returns-clause-choice
returns-clause-choice c known packages call parties h k is =
    gives_of known choice_party_names (parties_of_choice packages call) parties (choice_parties_known known packages call h k) is

pub returns-clause-observers : goal.returns-clause-observers
returns-clause-observers c known packages call observers h k is =
    gives_of known its (observers_of_choice packages call) observers (choice_observers_known known packages call h k) is
