-- Who hosts a party of a topology, and who confirms for it.
use Rattle.std.proofs.Common.{◌≡◌, ℕ, zero, suc, ◌<◌, true, List, [], ◌∷◌, length, Option, Some, None, refl, inl, inr, arith}
use Rattle.std.specs.Prelude.{is_some, option_map}
use Rattle.std.proofs.lemmas.Bool.{cases_Bool, or_left}
use Rattle.ledger_terms.specs.Hosting.{confirms_at, host_of, hosts_at, lists_party}
use Rattle.ledger_terms.specs.Parties.{has_party}
use Rattle.ledger_terms.specs.declared.host.Host.{Host}
use Rattle.blind_tree.specs.Blind.{is_host_named}

some_later : (o : Option ℕ) → is_some (option_map suc o) ≡ true → is_some o ≡ true
some_later None h = cc
some_later (Some k) h = refl

-- somebody confirms for a party of the topology
pub confirmer_found : (hosts : List Host) (party : List ℕ) → is_some (host_of hosts party) ≡ true → (p : ℕ) × (confirms_at hosts p party ≡ true)
confirmer_found [] party h = absurd cc
confirmer_found (host ∷ hosts) party h =
    elim (cases_Bool (lists_party party host)) [
      | inl here ↦ (0, here)
      | inr later ↦ let r = confirmer_found hosts party (some_later (host_of hosts party) (rw later at h)) in (suc r.0, r.1)
    ]

-- who confirms for a party hosts it
pub confirmer_hosts : (hosts : List Host) (p : ℕ) (party : List ℕ) → confirms_at hosts p party ≡ true → hosts_at hosts p party ≡ true
confirmer_hosts [] p party h = absurd cc
confirmer_hosts (host ∷ hosts) zero party h = or_left (lists_party party host) (has_party host.observing party) h
confirmer_hosts (host ∷ hosts) (suc p) party h = confirmer_hosts hosts p party h

-- so it has a host
pub host_found : (hosts : List Host) (party : List ℕ) → is_some (host_of hosts party) ≡ true → (p : ℕ) × (hosts_at hosts p party ≡ true)
host_found hosts party h = let c = confirmer_found hosts party h in (c.0, confirmer_hosts hosts c.0 party c.1)

-- who confirms for a party is a participant
pub confirmer_below : (hosts : List Host) (p : ℕ) (party : List ℕ) → confirms_at hosts p party ≡ true → p < length hosts
confirmer_below [] p party h = absurd cc
confirmer_below (host ∷ hosts) zero party h = omega arith
confirmer_below (host ∷ hosts) (suc p) party h = let r = confirmer_below hosts p party h in omega (arith, r)

-- and so is who has a participant's name
pub named_below : (hosts : List Host) (p : ℕ) (name : List ℕ) → is_host_named hosts p name ≡ true → p < length hosts
named_below [] p name h = absurd cc
named_below (host ∷ hosts) zero name h = omega arith
named_below (host ∷ hosts) (suc p) name h = let r = named_below hosts p name h in omega (arith, r)
