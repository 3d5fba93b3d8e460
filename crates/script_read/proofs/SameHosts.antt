-- Participants that host the same parties under the same names.
use Rattle.std.proofs.Common.{◌≡◌, ℕ, true, List, [], ◌∷◌, length, get_or, map, refl, ap, ◌∙◌}
use Rattle.ledger_terms.specs.Topologies.{IsObserving}
use Rattle.ledger_terms.specs.declared.host.Host.{Host}
use Rattle.lang_read.specs.Parties.{is_hosted}
use Rattle.script_read.specs.Accepted.{IsParticipant}
use Rattle.script_read.specs.Hosts.{is_participant}
use Rattle.script_read.proofs.HostKeys.{key, keys_length}

-- what is there of those that were read is there of those that were kept
pub record AreSame (read kept : List Host) : Type 0 where
  pub hosted : (p : List ℕ) → is_hosted read p ≡ true → is_hosted kept p ≡ true
  pub named : (n : List ℕ) → IsParticipant read n → IsParticipant kept n
  pub many : length kept ≡ length read

hosted_keys : (a b : List Host) (p : List ℕ) → map key a ≡ map key b → is_hosted a p ≡ is_hosted b p
hosted_keys [] [] p h = refl
hosted_keys [] (y ∷ ys) p h = absurd (cc)
hosted_keys (x ∷ xs) [] p h = absurd (cc)
hosted_keys (x ∷ xs) (y ∷ ys) p h =
    let first : key x ≡ key y = cc in
    let here : x.parties ≡ y.parties = ap (λ (k : List ℕ × List (List ℕ)). k.1) first in
    rw (here, hosted_keys xs ys p (cc)) refl

named_keys : (a b : List Host) (n : List ℕ) → map key a ≡ map key b → is_participant a n ≡ is_participant b n
named_keys [] [] n h = refl
named_keys [] (y ∷ ys) n h = absurd (cc)
named_keys (x ∷ xs) [] n h = absurd (cc)
named_keys (x ∷ xs) (y ∷ ys) n h =
    let first : key x ≡ key y = cc in
    let here : x.name ≡ y.name = ap (λ (k : List ℕ × List (List ℕ)). k.0) first in
    rw (here, named_keys xs ys n (cc)) refl

pub same_keys : (read kept : List Host) → map key kept ≡ map key read → AreSame read kept
same_keys read kept h = record {
  hosted = λ p k. hosted_keys kept read p h ∙ k;
  named = λ n k. named_keys kept read n h ∙ k;
  many = keys_length kept read h;
}

-- what is observed is confirmed there too
pub observing_same : (read kept : List Host) → AreSame read kept → (host : Host) → IsObserving read host → IsObserving kept host
observing_same read kept same host is =
    record {
      names = is.names;
      rising = is.rising;
      apart = is.apart;
      confirmed = λ k d w. same.hosted (get_or host.observing k d) (is.confirmed k d w);
    }
