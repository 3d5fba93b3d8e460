-- Participants by their names and parties.
use Rattle.std.proofs.Common.{◌≡◌, ℕ, zero, suc, ◌+◌, List, [], ◌∷◌, ◌++◌, length, get_or, map, take, Option, Some, None, refl, sym, ap, ◌∙◌}
use Rattle.std.specs.Prelude.{fold, sum_by, slice_get}
use Rattle.std.specs.List.{AllByRecursion, AllPairs}
use Rattle.std.proofs.Math.ListN.{get_or-map}
use Rattle.ledger_terms.specs.Topologies.{AreApart, HasNames, IsObserving}
use Rattle.ledger_terms.specs.declared.host.Host.{Host}

-- a participant but for what it observes and has vetted
abbrev pub key : Host → List ℕ × List (List ℕ)
key h = (h.name, h.parties)

abbrev pub found_key : Option Host → List (List ℕ × List (List ℕ))
found_key None = []
found_key (Some h) = key h ∷ []

pub take_next : (hosts : List Host) (i : ℕ) → take (suc i) (map key hosts) ≡ take i (map key hosts) ++ found_key (slice_get hosts i)
take_next [] zero = refl
take_next [] (suc i) = refl
take_next (h ∷ hs) zero = refl
take_next (h ∷ hs) (suc i) = ap (λ l. key h ∷ l) (take_next hs i)

-- the first of the participants that were read, with parties that others of them confirm for
pub record AreKept (hosts : List Host) (i : ℕ) (done : List Host) : Type 0 where
  pub keys : map key done ≡ take i (map key hosts)
  pub each : AllByRecursion (IsObserving hosts) done

-- ---- what goes by names and parties

key_at : (a b : List Host) (k : ℕ) (d : Host) → map key a ≡ map key b → key (get_or a k d) ≡ key (get_or b k d)
key_at a b k d h = sym (get_or-map key a k d) ∙ (ap (λ l. get_or l k (key d)) h ∙ get_or-map key b k d)

apart_at : (a b c d : Host) → key a ≡ key c → key b ≡ key d → AreApart c d → AreApart a b
apart_at a b c d h k p = record {
  names = λ e. p.names (sym (ap (λ (x : List ℕ × List (List ℕ)). x.0) h) ∙ (e ∙ ap (λ (x : List ℕ × List (List ℕ)). x.0) k));
  parties = rw (ap (λ (x : List ℕ × List (List ℕ)). x.1) h, ap (λ (x : List ℕ × List (List ℕ)). x.1) k) p.parties;
}

pub keys_length : (a b : List Host) → map key a ≡ map key b → length a ≡ length b
keys_length [] [] h = refl
keys_length [] (y ∷ ys) h = absurd (cc)
keys_length (x ∷ xs) [] h = absurd (cc)
keys_length (x ∷ xs) (y ∷ ys) h = ap suc (keys_length xs ys (cc))

pub keys_apart : (a b : List Host) → map key a ≡ map key b → AllPairs AreApart b → AllPairs AreApart a
keys_apart a b h p = λ i j d below within.
    apart_at _ _ _ _ (key_at a b i d h) (key_at a b j d h) (p i j d below (rw (keys_length a b h) at within))

pub keys_names : (a b : List Host) → map key a ≡ map key b → AllByRecursion HasNames b → AllByRecursion HasNames a
keys_names [] b h p = tt
keys_names (x ∷ xs) [] h p = absurd (cc)
keys_names (x ∷ xs) (y ∷ ys) h p =
    let first : key x ≡ key y = cc in
    let here : x.parties ≡ y.parties = ap (λ (k : List ℕ × List (List ℕ)). k.1) first in
    let own : x.name ≡ y.name = ap (λ (k : List ℕ × List (List ℕ)). k.0) first in
    (record { own = rw own p.0.own; parties = rw here p.0.parties; rising = rw here p.0.rising }, keys_names xs ys (cc) p.1)

sums : (n : ℕ) (a : List Host) → fold (λ n (host : Host). n + length host.parties) n a ≡ fold (λ n (x : List ℕ × List (List ℕ)). n + length x.1) n (map key a)
sums n [] = refl
sums n (x ∷ xs) = sums (n + length x.parties) xs

sum_keys : (a : List Host) → sum_by (λ (host : Host). length host.parties) a ≡ sum_by (λ (x : List ℕ × List (List ℕ)). length x.1) (map key a)
sum_keys a = sums 0 a

pub keys_sum : (a b : List Host) → map key a ≡ map key b → sum_by (λ (host : Host). length host.parties) a ≡ sum_by (λ (host : Host). length host.parties) b
keys_sum a b h = sum_keys a ∙ (ap (λ l. sum_by (λ (x : List ℕ × List (List ℕ)). length x.1) l) h ∙ sym (sum_keys b))
