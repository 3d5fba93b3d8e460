-- When a topology is one that a synchroniser can be made for.
use Rattle.std.specs.Prelude.{◌≡◌, ◌≢◌, ℕ, ◌≤◌, true, false, List, length, sum_by, All}
use Rattle.std.specs.List.{AllPairs, list_any}
use Rattle.ledger_terms.specs.Names.{IsName}
use Rattle.ledger_terms.specs.Parties.{meets_set, IsRising}
use Rattle.ledger_terms.specs.Hosting.{lists_party}
use Rattle.ledger_terms.specs.declared.limits.TheConstants.{MOST_PARTICIPANTS, MOST_PARTIES, LEAST_WAIT, MOST_WAIT}
use Rattle.ledger_terms.specs.declared.host.Host.{Host}
use Rattle.ledger_terms.specs.declared.topology.Topology.{Topology}

-- Two participants have different names, and there is no party for which both confirm.
pub record AreApart (a b : Host) : Type 0 where
  pub names : a.name ≢ b.name
  pub parties : meets_set a.parties b.parties ≡ false

-- A timeout or a skew, in microseconds, is in its range: from a tenth of a second to some eleven days.
pub record IsWait (time : ℕ) : Type 0 where
  pub least : LEAST_WAIT ≤ time
  pub most : time ≤ MOST_WAIT

-- A host's name and the parties that it confirms for have the form of names, and these parties rise strictly by their bytes.
pub record HasNames (host : Host) : Type 0 where
  pub own : IsName host.name
  pub parties : All IsName host.parties
  pub rising : IsRising host.parties

-- The parties that a host of a topology only observes are names that rise strictly, it confirms for none of them, and for each of them some host of
-- the list confirms.
pub record IsObserving (hosts : List Host) (host : Host) : Type 0 where
  pub names : All IsName host.observing
  pub rising : IsRising host.observing
  pub apart : meets_set host.parties host.observing ≡ false
  pub confirmed : All (λ (party : List ℕ). list_any (lists_party party) hosts ≡ true) host.observing

-- A synchroniser can be made for this topology: it has 1 to 8 participants with different names, which confirm for at most 128 parties, each party at
-- one participant, and may observe parties for which others confirm; all names have the form of names, and each list of parties rises strictly; and its
-- times are in their ranges.
pub record IsValid (topology : Topology) : Type 0 where
  pub some_host : 1 ≤ length topology.hosts
  pub few_hosts : length topology.hosts ≤ MOST_PARTICIPANTS
  pub few_parties : sum_by (λ (host : Host). length host.parties) topology.hosts ≤ MOST_PARTIES
  pub named : All HasNames topology.hosts
  pub apart : AllPairs AreApart topology.hosts
  pub observing : All (IsObserving topology.hosts) topology.hosts
  pub response_timeout : IsWait (topology.params).response_timeout
  pub reaction_timeout : IsWait (topology.params).reaction_timeout
  pub skew : IsWait (topology.params).skew
