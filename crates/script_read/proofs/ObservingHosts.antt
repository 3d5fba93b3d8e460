-- What participants observe is confirmed by others, and changes neither names nor parties.
use Rattle.std.proofs.Common.{◌≡◌, ℕ, ◌+◌, Bool, true, List, [], ◌∷◌, ◌++◌, map, take, Option, Some, None, Ok, refl, sym, ap, ◌∙◌, add-one}
use Rattle.std.specs.Prelude.{◌||◌, not, slice_get, codes}
use Rattle.std.specs.List.{list_all}
use Rattle.std.proofs.lemmas.List.{map-append, append-nil}
use Rattle.serde_json.specs.Data.{Data}
use Rattle.serde_json.specs.Find.{get}
use Rattle.ledger_terms.specs.Answers.{check}
use Rattle.ledger_terms.specs.Names.{is_name, IsName}
use Rattle.ledger_terms.specs.Parties.{has_party, set_of}
use Rattle.ledger_terms.specs.Pointers.{at_item, at_member}
use Rattle.ledger_terms.specs.Topologies.{IsObserving}
use Rattle.ledger_terms.specs.declared.host.Host.{Host}
use Rattle.ledger_terms.proofs.SetsOf.{all_set_of, IsRising-set_of}
use Rattle.json_walk.specs.Walk.{Place, name_of, items_of}
use Rattle.json_walk.specs.declared.walk_fault.WalkFault.TheVariants.{Repeated, Unknown}
use Rattle.json_walk.proofs.Kept.{after, passed, given, walk_keeps, all_push as push_each}
use Rattle.lang_read.specs.Parties.{is_hosted}
use Rattle.script_read.specs.Observing.{observed_party, observed_step, observed_of, observed_if, observed_in, observing_host, with_observing, observing_step}
use Rattle.script_read.proofs.HostKeys.{key, found_key, take_next, AreKept}
use Rattle.script_read.proofs.HostWalks.{all_push}
use Rattle.script_read.proofs.Lists.{all_of, tests_each}
use Rattle.script_read.proofs.NewHosts.{either_false, none_meet, each_in}
use Rattle.script_read.proofs.References.{name_read}

-- names of parties that participants confirm for, none of them one of a participant's own
record AreObserved (hosts : List Host) (own names : List (List ℕ)) : Type 0 where
  hosted : list_all (is_hosted hosts) names ≡ true
  apart : list_all (λ p. not (has_party own p)) names ≡ true
  named : list_all is_name names ≡ true

module _ (hosts : List Host) where
  party_kept : (own : List (List ℕ)) (at : Place) (i : ℕ) (a b : List (List ℕ)) (d : Data) → AreObserved hosts own a → observed_step hosts own at i a d ≡ Ok b → AreObserved hosts own b
  unfolding observed_party
  party_kept own at i a b d p h =
      let s = after (name_of (at_item at i) d) _ b h in
      let u = after (check (is_hosted hosts s.0) (Unknown (at_item at i) s.0)) _ b s.2 in
      let t = after (check (not (has_party own s.0 || has_party a s.0)) (Repeated (at_item at i))) _ b u.2 in
      let free = either_false (has_party own s.0) (has_party a s.0) (passed (not (has_party own s.0 || has_party a s.0)) _ t.0 t.1) in
      let open_ : not (has_party own s.0) ≡ true = rw free.0 refl in
      rw (given (a ++ s.0 ∷ []) b t.2) (record {
        hosted = all_push (is_hosted hosts) a s.0 p.hosted (passed (is_hosted hosts s.0) _ u.0 u.1);
        apart = all_push (λ p. not (has_party own p)) a s.0 p.apart open_;
        named = all_push is_name a s.0 p.named (name_read (at_item at i) d s.0 s.1);
      })

  observed_read : (own : List (List ℕ)) (at : Place) (o : Option Data) (names : List (List ℕ)) → observed_if hosts own at o ≡ Ok names → AreObserved hosts own names
  unfolding observed_of
  observed_read own at None names h = rw (given [] names h) (record { hosted = refl; apart = refl; named = refl })
  observed_read own at (Some d) names h =
      let i = after (items_of at d) _ names h in
      walk_keeps (observed_step hosts own at) (λ (i : ℕ) (a : List (List ℕ)). AreObserved hosts own a) (party_kept own at) 0 [] names i.0 (record { hosted = refl; apart = refl; named = refl }) i.2

  observing_read : (host one : Host) (at : Place) (d : Data) → observing_host hosts host at d ≡ Ok one → IsObserving hosts one × (key one ≡ key host)
  unfolding observing_host observed_in
  observing_read host one at d h =
      let o = after (observed_in hosts host.parties at d) _ one h in
      let are = observed_read host.parties (at_member at (codes "observing")) (get (codes "observing") d) o.0 o.1 in
      let set = set_of o.0 in
      rw (given (record { name = host.name; parties = host.parties; observing = set; vetted = [] }) one o.2) (
        record {
          names = all_of IsName set (tests_each is_name set (all_set_of is_name o.0 are.named));
          rising = IsRising-set_of o.0;
          apart = none_meet (has_party host.parties) o.0 host.parties (each_in host.parties) are.apart;
          confirmed = all_of (λ (p : List ℕ). is_hosted hosts p ≡ true) set (tests_each (is_hosted hosts) set (all_set_of (is_hosted hosts) o.0 are.hosted));
        },
        refl,
      )

  one_more : (at : Place) (i : ℕ) (o : Option Host) (a b : List Host) (d : Data) → take (i + 1) (map key hosts) ≡ take i (map key hosts) ++ found_key o → AreKept hosts i a → with_observing hosts at a o d ≡ Ok b
      → AreKept hosts (i + 1) b
  one_more at i None a b d next p h =
      rw (given a b h) (record { keys = p.keys ∙ (sym (append-nil (take i (map key hosts))) ∙ sym next); each = p.each })
  one_more at i (Some host) a b d next p h =
      let s = after (observing_host hosts host at d) _ b h in
      let is = observing_read host s.0 at d s.1 in
      rw (given (a ++ s.0 ∷ []) b s.2) (record {
        keys = map-append key a (s.0 ∷ []) ∙ (ap (λ k. map key a ++ k ∷ []) is.1 ∙ (ap (λ l. l ++ key host ∷ []) p.keys ∙ sym next));
        each = push_each (IsObserving hosts) a s.0 p.each is.0;
      })

  pub observing_kept : (at : Place) (i : ℕ) (a b : List Host) (d : Data) → AreKept hosts i a → observing_step hosts at i a d ≡ Ok b → AreKept hosts (i + 1) b
  observing_kept at i a b d p h =
      let next : take (i + 1) (map key hosts) ≡ take i (map key hosts) ++ found_key (slice_get hosts i) = rw (add-one i) (take_next hosts i) in
      one_more (at_item at i) i (slice_get hosts i) a b d next p h
