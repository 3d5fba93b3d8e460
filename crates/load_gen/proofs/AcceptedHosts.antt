-- The participants of a generated script are those of a topology that a synchroniser can be made for.
use Rattle.std.proofs.Common.{◌≡◌, ℕ, zero, suc, ◌+◌, ◌<◌, true, false, List, [], ◌∷◌, ◌++◌, refl, sym, ap, ◌∙◌, subst, arith}
use Rattle.std.specs.Prelude.{codes}
use Rattle.std.specs.List.{AllPairs}
use Rattle.std.specs.Fmt.{decimal}
use Rattle.std.proofs.lemmas.Fmt.{decimal_digit}
use Rattle.std.proofs.lemmas.Bool.{false≢true}
use Rattle.std.proofs.lemmas.List.Elements.{All-nil}
use Rattle.std.proofs.lemmas.List.Kept.{AllPairs-cons}
use Rattle.ledger_terms.specs.Names.{IsName}
use Rattle.ledger_terms.specs.Parties.{same_name, meets_set}
use Rattle.ledger_terms.specs.Topologies.{AreApart, HasNames, IsObserving, IsValid}
use Rattle.ledger_terms.specs.declared.host.Host.{Host}
use Rattle.lang_read.specs.Parties.{is_hosted}
use Rattle.script_read.specs.Accepted.{IsParticipant}
use Rattle.script_read.specs.Hosts.{is_participant}
use Rattle.script_read.proofs.Lists.{all_of}
use Rattle.load_gen.specs.Numbers.{numbered, participant_at, party_at}
use Rattle.load_gen.specs.Scripts.{vetted_packages, host_at, hosts, params}

-- ---- names whose digit is spelled out

abbrev spelled : List ℕ → ℕ → List ℕ
spelled letter k = letter ++ (49 + k) ∷ []

abbrev spelled_host : ℕ → Host
spelled_host k = record { name = spelled (codes "G") k; parties = spelled (codes "A") k ∷ []; observing = []; vetted = vetted_packages }

abbrev spelled_hosts : List Host
spelled_hosts = spelled_host 0 ∷ spelled_host 1 ∷ spelled_host 2 ∷ spelled_host 3 ∷ []

digit_is : (k : ℕ) → k < 4 → decimal (k + 1) ≡ (49 + k) ∷ []
digit_is k below = decimal_digit (k + 1) (omega (arith, below)) ∙ ap (λ (d : ℕ). d ∷ []) (omega arith)

numbered_is : (letter : List ℕ) (k : ℕ) → k < 4 → numbered letter (k + 1) ≡ spelled letter k
numbered_is letter k below = ap (λ (ds : List ℕ). letter ++ ds) (digit_is k below)

host_is : (k : ℕ) → k < 4 → host_at k ≡ spelled_host k
host_is k below = ap (λ (ds : List ℕ). record { name = codes "G" ++ ds; parties = (codes "A" ++ ds) ∷ []; observing = []; vetted = vetted_packages }) (digit_is k below)

hosts_are : hosts ≡ spelled_hosts
hosts_are =
    ap (λ (h : Host). h ∷ host_at 1 ∷ host_at 2 ∷ host_at 3 ∷ []) (host_is 0 (omega arith))
    ∙ ap (λ (h : Host). spelled_host 0 ∷ h ∷ host_at 2 ∷ host_at 3 ∷ []) (host_is 1 (omega arith))
    ∙ ap (λ (h : Host). spelled_host 0 ∷ spelled_host 1 ∷ h ∷ host_at 3 ∷ []) (host_is 2 (omega arith))
    ∙ ap (λ (h : Host). spelled_host 0 ∷ spelled_host 1 ∷ spelled_host 2 ∷ h ∷ []) (host_is 3 (omega arith))

-- ---- whom a submission names

spelled_party : (k : ℕ) → k < 4 → is_hosted spelled_hosts (spelled (codes "A") k) ≡ true
spelled_party zero below = refl
spelled_party (suc zero) below = refl
spelled_party (suc (suc zero)) below = refl
spelled_party (suc (suc (suc zero))) below = refl
spelled_party (suc (suc (suc (suc k)))) below = absurd (omega (arith, below))

pub party_is_hosted : (k : ℕ) → k < 4 → is_hosted hosts (party_at k) ≡ true
party_is_hosted k below =
    ap (λ (hs : List Host). is_hosted hs (party_at k)) hosts_are ∙ ap (is_hosted spelled_hosts) (numbered_is (codes "A") k below) ∙ spelled_party k below

spelled_participant : (k : ℕ) → k < 4 → IsParticipant spelled_hosts (spelled (codes "G") k)
spelled_participant zero below = refl
spelled_participant (suc zero) below = refl
spelled_participant (suc (suc zero)) below = refl
spelled_participant (suc (suc (suc zero))) below = refl
spelled_participant (suc (suc (suc (suc k)))) below = absurd (omega (arith, below))

pub participant_is_there : (k : ℕ) → k < 4 → IsParticipant hosts (participant_at k)
participant_is_there k below =
    ap (λ (hs : List Host). is_participant hs (participant_at k)) hosts_are ∙ ap (is_participant spelled_hosts) (numbered_is (codes "G") k below) ∙ spelled_participant k below

-- ---- the topology

apart : (a b : Host) → same_name a.name b.name ≡ false → same_name b.name b.name ≡ true → meets_set a.parties b.parties ≡ false → AreApart a b
apart a b differ same free = record { names = λ e. false≢true (sym differ ∙ ap (λ (n : List ℕ). same_name n b.name) e ∙ same); parties = free }

alone : AllPairs AreApart []
alone i j d before below = absurd (omega (arith, below))

are_apart : AllPairs AreApart spelled_hosts
are_apart =
    let a = spelled_host 0 in
    let b = spelled_host 1 in
    let c = spelled_host 2 in
    let d = spelled_host 3 in
    AllPairs-cons AreApart a (b ∷ c ∷ d ∷ []) (all_of (AreApart a) (b ∷ c ∷ d ∷ []) (apart a b refl refl refl, (apart a c refl refl refl, (apart a d refl refl refl, tt))))
    (AllPairs-cons AreApart b (c ∷ d ∷ []) (all_of (AreApart b) (c ∷ d ∷ []) (apart b c refl refl refl, (apart b d refl refl refl, tt)))
    (AllPairs-cons AreApart c (d ∷ []) (all_of (AreApart c) (d ∷ []) (apart c d refl refl refl, tt))
    (AllPairs-cons AreApart d [] (All-nil (AreApart d)) alone)))

named_at : (k : ℕ) → IsName (spelled (codes "G") k) → IsName (spelled (codes "A") k) → HasNames (spelled_host k)
named_at k own party = record { own = own; parties = all_of IsName (spelled (codes "A") k ∷ []) (party, tt); rising = (tt, tt) }

observing_at : (k : ℕ) → IsObserving spelled_hosts (spelled_host k)
observing_at k =
    record {
      names = All-nil IsName;
      rising = tt;
      apart = refl;
      confirmed = All-nil (λ (party : List ℕ). is_hosted spelled_hosts party ≡ true);
    }

spelled_is_valid : IsValid (record { hosts = spelled_hosts; params = params })
spelled_is_valid =
    record {
      some_host = omega arith;
      few_hosts = omega arith;
      few_parties = omega arith;
      named = all_of HasNames spelled_hosts (named_at 0 refl refl, (named_at 1 refl refl, (named_at 2 refl refl, (named_at 3 refl refl, tt))));
      apart = are_apart;
      observing = all_of (IsObserving spelled_hosts) spelled_hosts (observing_at 0, (observing_at 1, (observing_at 2, (observing_at 3, tt))));
      response_timeout = record { least = omega arith; most = omega arith };
      reaction_timeout = record { least = omega arith; most = omega arith };
      skew = record { least = omega arith; most = omega arith };
    }

pub topology_is_valid : IsValid (record { hosts = hosts; params = params })
topology_is_valid = subst (λ (hs : List Host). IsValid (record { hosts = hs; params = params })) (sym hosts_are) spelled_is_valid
