-- The walk of the participants keeps them apart and few.
use Rattle.std.proofs.Common.{◌≡◌, ℕ, ◌+◌, ◌≤◌, Bool, true, false, List, [], ◌∷◌, ◌++◌, length, map, Ok, refl, ap, subst, arith}
use Rattle.std.specs.Prelude.{◌||◌, ◌&&◌, not, All, sum_by, codes}
use Rattle.std.specs.List.{list_all, AllByRecursion, AllPairs}
use Rattle.std.proofs.lemmas.List.{length_push}
use Rattle.std.proofs.lemmas.List.Sums.{sum_by-append}
use Rattle.std.proofs.lemmas.List.Quantifiers.{all_pairs_push}
use Rattle.serde_json.specs.Data.{Data, Items}
use Rattle.ledger_terms.specs.Names.{is_name, IsName}
use Rattle.ledger_terms.specs.Parties.{has_party, set_of}
use Rattle.ledger_terms.specs.Pointers.{at_item, at_member}
use Rattle.ledger_terms.specs.Topologies.{AreApart, HasNames}
use Rattle.ledger_terms.specs.declared.host.Host.{Host}
use Rattle.json_walk.specs.declared.limits.TheConstants.{PARTIES, PARTICIPANTS}
use Rattle.json_walk.specs.Walk.{within_limit, few_items_of, Place, name_of, name_in, items_of, walk_items, item_count, member_of}
use Rattle.ledger_terms.specs.Answers.{check}
use Rattle.lang_read.specs.Parties.{is_hosted}
use Rattle.json_walk.specs.declared.walk_fault.WalkFault.TheVariants.{Shape, Repeated}
use Rattle.script_read.specs.Hosts.{is_participant, new_party_step, party_items_in, new_name_in, has_host_members, host_of, host_step, hosts_of}
use Rattle.script_read.specs.Observing.{observing_names_in}
use Rattle.json_walk.proofs.Kept.{after, passed, given, walk_keeps, limit_kept, all_push as push_each}
use Rattle.ledger_terms.proofs.SetsOf.{all_set_of, IsRising-set_of}
use Rattle.script_read.proofs.HostKeys.{key, keys_length, keys_apart, keys_names, keys_sum}
use Rattle.script_read.proofs.Lists.{all_of, tests_each}
use Rattle.script_read.proofs.References.{name_read}
use Rattle.script_read.proofs.NewHosts.{either_false, not_false, set_length, new_apart}

-- ---- parties

-- names of parties, none of which a participant hosts
pub record AreNew (hosts : List Host) (i : ℕ) (names : List (List ℕ)) : Type 0 where
  pub many : length names ≡ i
  pub free : list_all (λ p. not (is_hosted hosts p)) names ≡ true
  pub named : list_all is_name names ≡ true

pub all_push : (p : List ℕ → Bool) (xs : List (List ℕ)) (x : List ℕ) → list_all p xs ≡ true → p x ≡ true → list_all p (xs ++ x ∷ []) ≡ true
all_push p [] x h k = rw k refl
all_push p (y ∷ ys) x h k = both (p y) _ (first (p y) _ h) (all_push p ys x (second (p y) _ h) k)
  where
    first : (a b : Bool) → (a && b) ≡ true → a ≡ true
    first true b e = refl
    first false b e = absurd (cc)

    second : (a b : Bool) → (a && b) ≡ true → b ≡ true
    second true b e = e
    second false b e = absurd (cc)

    both : (a b : Bool) → a ≡ true → b ≡ true → (a && b) ≡ true
    both a b e f = rw (e, f) refl

new_step : (hosts : List Host) (at : Place) (i : ℕ) (a b : List (List ℕ)) (d : Data) → AreNew hosts i a → new_party_step hosts at i a d ≡ Ok b → AreNew hosts (i + 1) b
unfolding new_party_step
new_step hosts at i a b d p h =
    let s = after (name_of (at_item at i) d) _ b h in
    let t = after (check (not (is_hosted hosts s.0 || has_party a s.0)) (Repeated (at_item at i))) _ b s.2 in
    let free = either_false (is_hosted hosts s.0) (has_party a s.0) (passed (not (is_hosted hosts s.0 || has_party a s.0)) _ t.0 t.1) in
    let open_ : not (is_hosted hosts s.0) ≡ true = rw free.0 refl in
    let name = name_read (at_item at i) d s.0 s.1 in
    let grown = length_push a s.0 in
    rw (given (a ++ s.0 ∷ []) b t.2) (record {
      many = omega (arith, grown, p.many);
      free = all_push (λ p. not (is_hosted hosts p)) a s.0 p.free open_;
      named = all_push is_name a s.0 p.named name;
    })

-- ---- participants

-- the participants of a walk so far, and how many parties they may have
pub record AreHosts (i : ℕ) (s : List Host × ℕ) : Type 0 where
  pub many : length s.0 ≡ i
  pub counted : sum_by (λ (host : Host). length host.parties) s.0 ≤ s.1
  pub few : s.1 ≤ 128
  pub apart : AllPairs AreApart s.0
  pub named : AllByRecursion HasNames s.0

name_free : (hosts : List Host) (at : Place) (d : Data) (name : List ℕ) → new_name_in hosts at d ≡ Ok name → is_participant hosts name ≡ false
unfolding new_name_in
name_free hosts at d name h =
    let s = after (name_in at (codes "name") d) _ name h in
    let t = after (check (not (is_participant hosts s.0)) (Repeated (at_member at (codes "name")))) _ name s.2 in
    rw (given s.0 name t.2) (not_false (is_participant hosts s.0) (passed _ _ t.0 t.1))

name_named : (hosts : List Host) (at : Place) (d : Data) (name : List ℕ) → new_name_in hosts at d ≡ Ok name → IsName name
unfolding new_name_in name_in
name_named hosts at d name h =
    let s = after (name_in at (codes "name") d) _ name h in
    let t = after (check (not (is_participant hosts s.0)) (Repeated (at_member at (codes "name")))) _ name s.2 in
    let m = after (member_of at (codes "name") d) _ s.0 s.1 in
    rw (given s.0 name t.2) (name_read (at_member at (codes "name")) m.0 s.0 m.2)

few_items : (count : ℕ) (at : Place) (d : Data) (items : Items) → party_items_in count at d ≡ Ok items → count + item_count items ≤ 128
unfolding party_items_in
few_items count at d items h =
    let s = after (member_of at (codes "parties") d) _ items h in
    let t = after (items_of (at_member at (codes "parties")) s.0) _ items s.2 in
    let u = after (within_limit (at_member at (codes "parties")) PARTIES (count + item_count t.0)) _ items t.2 in
    let kept = limit_kept (at_member at (codes "parties")) PARTIES (count + item_count t.0) u.0 u.1 in
    rw (given t.0 items u.2) kept.1

host_kept : (at : Place) (i : ℕ) (s t : List Host × ℕ) (d : Data) → AreHosts i s → host_step at i s d ≡ Ok t → AreHosts (i + 1) t
unfolding host_of
host_kept at i s t d p h =
    let a = after (check (has_host_members d) (Shape (at_item at i))) _ t h in
    let b = after (new_name_in s.0 (at_item at i) d) _ t a.2 in
    let c = after (party_items_in s.1 (at_item at i) d) _ t b.2 in
    let e = after (walk_items (new_party_step s.0 (at_member (at_item at i) (codes "parties"))) 0 [] c.0) _ t c.2 in
    let o = after (observing_names_in (at_item at i) d) _ t e.2 in
    let free = name_free s.0 (at_item at i) d b.0 b.1 in
    let few : s.1 + item_count c.0 ≤ 128 = few_items s.1 (at_item at i) d c.0 c.1 in
    let new = walk_keeps (new_party_step s.0 (at_member (at_item at i) (codes "parties"))) (AreNew s.0) (new_step s.0 (at_member (at_item at i) (codes "parties"))) 0 [] e.0 c.0 (record { many = refl; free = refl; named = refl }) e.1 in
    let host : Host = record { name = b.0; parties = set_of e.0; observing = []; vetted = [] } in
    let grown = length_push s.0 host in
    let sum = sum_by-append (λ (host : Host). length host.parties) s.0 (host ∷ []) in
    let shorter = set_length e.0 in
    let names : All IsName (set_of e.0) = all_of IsName (set_of e.0) (tests_each is_name (set_of e.0) (all_set_of is_name e.0 new.named)) in
    rw (given (s.0 ++ host ∷ [], s.1 + item_count c.0) t o.2) (record {
      many = omega (arith, grown, p.many);
      counted = omega (arith, sum, shorter, p.counted, new.many);
      few = few;
      apart = all_pairs_push AreApart s.0 host p.apart (λ k d w. new_apart s.0 b.0 e.0 [] k d w free new.free);
      named = push_each HasNames s.0 host p.named (record { own = name_named s.0 (at_item at i) d b.0 b.1; parties = names; rising = IsRising-set_of e.0 });
    })

-- participants with the names and parties of others
pub hosts_same : (i count : ℕ) (a b : List Host) → map key a ≡ map key b → AreHosts i (b, count) → AreHosts i (a, count)
hosts_same i count a b same are =
    let many = keys_length a b same in
    let sum = keys_sum a b same in
    record {
      many = omega (arith, many, are.many);
      counted = omega (arith, sum, are.counted);
      few = are.few;
      apart = keys_apart a b same are.apart;
      named = keys_names a b same are.named;
    }

-- the participants of a list
pub hosts_kept : (at : Place) (d : Data) (s : List Host × ℕ) → hosts_of at d ≡ Ok s → (items : Items) × (items_of at d ≡ Ok items) × (1 ≤ item_count items) × (item_count items ≤ 8) × AreHosts (item_count items) s
unfolding hosts_of few_items_of
hosts_kept at d s h =
    let a = after (few_items_of at PARTICIPANTS d) _ s h in
    let b = after (items_of at d) _ a.0 a.1 in
    let c = after (within_limit at PARTICIPANTS (item_count b.0)) _ a.0 b.2 in
    let same = given b.0 a.0 c.2 in
    let within = limit_kept at PARTICIPANTS (item_count b.0) c.0 c.1 in
    let kept = walk_keeps (host_step at) AreHosts (host_kept at) 0 ([], 0) s a.0 (record { many = refl; counted = omega arith; few = omega arith; apart = λ i j d p q. absurd (omega arith); named = tt }) a.2 in
    let count : item_count a.0 ≡ item_count b.0 = ap item_count same in
    let whole : 0 + item_count a.0 ≡ item_count b.0 = omega (arith, count) in
    (b.0, b.1, within.0, within.1, subst (λ n. AreHosts n s) whole kept)
