-- What a participant submits within a topology.
use Rattle.std.specs.Prelude.{◌≡◌, ℕ, true, List, Contains}
use Rattle.sha2.specs.Sha256.{sha256}
use Rattle.ledger_terms.specs.Hosting.{confirms_at}
use Rattle.ledger_terms.specs.declared.known.Known.{Known}
use Rattle.ledger_terms.specs.declared.topology.Topology.{Topology}
use Rattle.ledger_terms.specs.declared.tx.Tx.{Tx}
use Rattle.lang_eval.specs.Found.{Packages}
use Rattle.lang_eval.specs.Named.{AreKnown, parties_in_packages}
use Rattle.lang_eval.specs.Parts.{PartyNames}
use Rattle.interpret.specs.NamedParties.{parties_in_contracts}
use Rattle.blind_tree.specs.Blind.{is_host_named, salts_of}
use Rattle.sealed_form.specs.SealedForm.{Whole}
use Rattle.sealed_form.specs.Within.{is_hosted}

-- What a participant submits names only parties of the topology: in its commands or drafts, whose parties are `handed_in`, in the packages and in the
-- known contracts. Participant `sender` has this name and confirms for the requesters, `act_as`.
pub record IsSubmittedWithin (topology : Topology) (packages : Packages) (known : List Known) (sender : ℕ) (name : List ℕ) (act_as handed_in : PartyNames)
    : Type 0 where
  pub sender_is : is_host_named topology.hosts sender name ≡ true
  pub confirms_requesters : (party : List ℕ) → Contains act_as party → confirms_at topology.hosts sender party ≡ true
  pub named_by_packages : AreKnown (is_hosted topology) (parties_in_packages packages)
  pub named_by_known : AreKnown (is_hosted topology) (parties_in_contracts known)
  pub named_by_input : AreKnown (is_hosted topology) handed_in

-- a transaction of a sender of this name, with the salts that its seed gives
abbrev pub whole_with_seed : (name : List ℕ) → Tx → Whole
whole_with_seed name tx =
    record {
      sender = name;
      salts = salts_of sha256 tx.seed;
      transaction = record { requesters = tx.act_as; ledger_time = tx.ledger_time; roots = tx.roots };
    }
