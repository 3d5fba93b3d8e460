-- What is vetted changes nothing else of a participant.
use Rattle.std.proofs.Common.{◌≡◌, ℕ, zero, suc, ◌+◌, List, [], ◌∷◌, ◌++◌, map, Option, Some, None, Ok, refl, sym, ap, ◌∙◌, add-one}
use Rattle.std.specs.Prelude.{slice_get, MatchOption}
use Rattle.std.specs.List.{AllByRecursion}
use Rattle.std.proofs.lemmas.List.{map-append, append-nil}
use Rattle.serde_json.specs.Data.{Data}
use Rattle.ledger_terms.specs.Packages.{PackageForm}
use Rattle.ledger_terms.specs.Pointers.{at_item}
use Rattle.ledger_terms.specs.Topologies.{IsObserving}
use Rattle.ledger_terms.specs.declared.host.Host.{Host}
use Rattle.json_walk.specs.Walk.{Place}
use Rattle.script_read.specs.Hosts.{vetted_in, with_vetted, vetting_step}
use Rattle.json_walk.proofs.Kept.{after, given, all_push}
use Rattle.script_read.proofs.HostKeys.{key, found_key, take_next, AreKept}

keys_vetted : (done : List Host) (o : Option Host) (vetted : List (List ℕ)) → map key (with_vetted done o vetted) ≡ map key done ++ found_key o
keys_vetted done None vetted = sym (append-nil (map key done))
keys_vetted done (Some h) vetted = map-append key done (record { name = h.name; parties = h.parties; observing = h.observing; vetted = vetted } ∷ [])

each_vetted : (hosts done : List Host) (o : Option Host) (vetted : List (List ℕ)) → MatchOption o Unit (IsObserving hosts) → AllByRecursion (IsObserving hosts) done
    → AllByRecursion (IsObserving hosts) (with_vetted done o vetted)
each_vetted hosts done None vetted is p = p
each_vetted hosts done (Some h) vetted is p =
    all_push (IsObserving hosts) done (record { name = h.name; parties = h.parties; observing = h.observing; vetted = vetted }) p
    (record { names = is.names; rising = is.rising; apart = is.apart; confirmed = is.confirmed })

each_there : {X : Type 0} (P : X → Type 0) (xs : List X) (i : ℕ) → AllByRecursion P xs → MatchOption (slice_get xs i) Unit P
each_there P [] i p = tt
each_there P (x ∷ xs) zero p = p.0
each_there P (x ∷ xs) (suc i) p = each_there P xs i p.1

pub vetting_kept : (packages : List PackageForm) (hosts : List Host) → AllByRecursion (IsObserving hosts) hosts → (at : Place) (i : ℕ) (a b : List Host) (d : Data) → AreKept hosts i a
    → vetting_step packages hosts at i a d ≡ Ok b → AreKept hosts (i + 1) b
unfolding vetting_step
vetting_kept packages hosts all at i a b d p h =
    let s = after (vetted_in packages (at_item at i) d) _ b h in
    rw (given (with_vetted a (slice_get hosts i) s.0) b s.2, add-one i) (record {
      keys = keys_vetted a (slice_get hosts i) s.0 ∙ (ap (λ l. l ++ found_key (slice_get hosts i)) p.keys ∙ sym (take_next hosts i));
      each = each_vetted hosts a (slice_get hosts i) s.0 (each_there (IsObserving hosts) hosts i all) p.each;
    })
