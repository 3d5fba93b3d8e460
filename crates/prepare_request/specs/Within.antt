-- Submissions within a topology.
use Rattle.std.specs.Prelude.{ℕ, ◌<◌, List, length}
use Rattle.ledger_terms.specs.declared.known.Known.{Known}
use Rattle.ledger_terms.specs.declared.submission.Submission.{Submission}
use Rattle.ledger_terms.specs.declared.topology.Topology.{Topology}
use Rattle.ledger_terms.specs.declared.what.What.{What}
use Rattle.ledger_terms.specs.declared.what.What.TheVariants.{Commands, Prepared}
use Rattle.lang_eval.specs.Found.{Packages}
use Rattle.lang_eval.specs.HandedIn.{parties_in_commands, parties_in_drafts}
use Rattle.lang_eval.specs.Named.{AreKnown, parties_in_packages}
use Rattle.lang_eval.specs.Parts.{PartyNames}
use Rattle.interpret.specs.NamedParties.{parties_in_contracts}
use Rattle.sealed_form.specs.Within.{is_hosted}

-- the parties that a submission's commands or its prepared tree name
abbrev pub parties_in_what : What → PartyNames
parties_in_what (Commands commands) = parties_in_commands commands
parties_in_what (Prepared borrowed roots) = parties_in_drafts roots

-- The participant is one of the topology, and packages, known contracts and the submission name only parties of it. Whether the participant confirms
-- for the requesters is not asked.
pub record IsWithin (topology : Topology) (packages : Packages) (me : ℕ) (known : List Known) (what : Submission) : Type 0 where
  pub is_host : me < length topology.hosts
  pub named_by_packages : AreKnown (is_hosted topology) (parties_in_packages packages)
  pub named_by_known : AreKnown (is_hosted topology) (parties_in_contracts known)
  pub named_by_input : AreKnown (is_hosted topology) (parties_in_what what.what)
