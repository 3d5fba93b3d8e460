-- The participants that were read have names of their own and share no party.
use Rattle.std.proofs.Common.{◌≡◌, ◌≢◌, ℕ, zero, suc, ◌+◌, ◌<◌, ◌≤◌, Bool, true, false, cond, List, [], ◌∷◌, length, get_or, refl, sym, ◌∙◌, arith}
use Rattle.std.specs.Prelude.{◌||◌, ◌&&◌, not}
use Rattle.std.specs.List.{list_all}
use Rattle.std.specs.Cmp.Lexicographic.{same_text, nat_list_eq_equiv}
use Rattle.ledger_terms.specs.Parties.{name_below, same_name, has_party, with_party, with_parties, set_of, meets_set}
use Rattle.ledger_terms.specs.Topologies.{AreApart}
use Rattle.ledger_terms.specs.declared.host.Host.{Host}
use Rattle.ledger_terms.proofs.Members.{has_party-set_of}
use Rattle.lang_read.specs.Parties.{is_hosted}
use Rattle.script_read.specs.Hosts.{is_participant}

-- ---- tests

pub either_false : (a b : Bool) → not (a || b) ≡ true → (a ≡ false) × (b ≡ false)
either_false true b h = absurd (cc)
either_false false true h = absurd (cc)
either_false false false h = (refl, refl)

pub not_false : (a : Bool) → not a ≡ true → a ≡ false
not_false true h = absurd (cc)
not_false false h = refl

-- ---- how many there are

cond_length : (b : Bool) (x y : List (List ℕ)) (n : ℕ) → length x ≤ n → length y ≤ n → length (cond b x y) ≤ n
cond_length true x y n p q = p
cond_length false x y n p q = q

with_party_length : (a : List ℕ) (s : List (List ℕ)) → length (with_party a s) ≤ length s + 1
with_party_length a [] = omega arith
with_party_length a (b ∷ bs) =
    cond_length (name_below b a) (b ∷ with_party a bs) _ _ (omega (arith, with_party_length a bs)) (cond_length (same_name b a) (b ∷ bs) (a ∷ b ∷ bs) _ (omega arith) (omega arith))

with_parties_length : (names s : List (List ℕ)) → length (with_parties names s) ≤ length names + length s
with_parties_length [] s = omega arith
with_parties_length (a ∷ names) s = omega (arith, with_parties_length names (with_party a s), with_party_length a s)

pub set_length : (names : List (List ℕ)) → length (set_of names) ≤ length names
set_length names = omega (arith, with_parties_length names [])

-- ---- names

pub own_name : (hosts : List Host) (name : List ℕ) (k : ℕ) (d : Host) → is_participant hosts name ≡ false → k < length hosts → (get_or hosts k d).name ≢ name
own_name [] name k d h w = absurd (omega arith)
own_name (x ∷ xs) name zero d h w = λ e. first (same_name x.name name) _ h (rw e (nat_list_eq_equiv.refl name))
  where
    first : (a b : Bool) → (a || b) ≡ false → a ≡ true → ⊥
    first true b h e = cc
    first false b h e = cc
own_name (x ∷ xs) name (suc k) d h w = own_name xs name k d (second (same_name x.name name) _ h) (omega arith)
  where
    second : (a b : Bool) → (a || b) ≡ false → b ≡ false
    second true b h = absurd (cc)
    second false b h = h

-- ---- parties

-- a party of a participant is hosted
hosted_there : (hosts : List Host) (a : List ℕ) (k : ℕ) (d : Host) → k < length hosts → has_party (get_or hosts k d).parties a ≡ true → is_hosted hosts a ≡ true
hosted_there [] a k d w h = absurd (omega arith)
hosted_there (x ∷ xs) a zero d w h = rw h refl
hosted_there (x ∷ xs) a (suc k) d w h = rw (hosted_there xs a k d (omega arith) h) (any_true (has_party x.parties a))
  where
    any_true : (b : Bool) → (b || true) ≡ true
    any_true true = refl
    any_true false = refl

-- a name of which a test holds is none of those of which it doesn't hold
not_among : (test : List ℕ → Bool) (names : List (List ℕ)) (a : List ℕ) → test a ≡ true → list_all (λ p. not (test p)) names ≡ true → has_party names a ≡ false
not_among test [] a p q = refl
not_among test (n ∷ ns) a p q = both (same_name n a) _ other (not_among test ns a p (second (not (test n)) _ q))
  where
    first : (x y : Bool) → (x && y) ≡ true → x ≡ true
    first true y h = refl
    first false y h = absurd (cc)

    second : (x y : Bool) → (x && y) ≡ true → y ≡ true
    second true y h = h
    second false y h = absurd (cc)

    both : (x y : Bool) → (x ≡ true → ⊥) → y ≡ false → (x || y) ≡ false
    both true y h e = absurd (h refl)
    both false y h e = e

    other : same_name n a ≡ true → ⊥
    other same =
        let one : n ≡ a = same_text n a (sym same) in
        let free : test n ≡ false = not_false (test n) (first (not (test n)) _ q) in
        let free_a : test a ≡ false = rw one at free in
        cc

-- none of a list is in a set of names, where a test tells them apart
pub none_meet : (test : List ℕ → Bool) (names s : List (List ℕ)) → ((k : ℕ) (d : List ℕ) → k < length s → test (get_or s k d) ≡ true) → list_all (λ p. not (test p)) names ≡ true → meets_set s (set_of names) ≡ false
none_meet test names [] h q = refl
none_meet test names (a ∷ s) h q =
    let here : has_party (set_of names) a ≡ false = has_party-set_of names a ∙ not_among test names a (h 0 a (omega arith)) q in
    rw here (none_meet test names s (λ k d w. h (suc k) d (omega arith)) q)

-- each of a set is in it
pub each_in : (s : List (List ℕ)) (k : ℕ) (d : List ℕ) → k < length s → has_party s (get_or s k d) ≡ true
each_in [] k d w = absurd (omega arith)
each_in (a ∷ s) zero d w = rw (nat_list_eq_equiv.refl a) refl
each_in (a ∷ s) (suc k) d w = rw (each_in s k d (omega arith)) (any_true (same_name a (get_or s k d)))
  where
    any_true : (b : Bool) → (b || true) ≡ true
    any_true true = refl
    any_true false = refl

-- a participant with a name of its own and parties that are hosted nowhere is apart from each other
pub new_apart : (hosts : List Host) (name : List ℕ) (names : List (List ℕ)) (vetted : List (List ℕ)) (k : ℕ) (d : Host) → k < length hosts → is_participant hosts name ≡ false → list_all (λ p. not (is_hosted hosts p)) names ≡ true → AreApart (get_or hosts k d) (record { name = name; parties = set_of names; observing = []; vetted = vetted })
new_apart hosts name names vetted k d w other free = record {
  names = own_name hosts name k d other w;
  parties = none_meet (is_hosted hosts) names (get_or hosts k d).parties (λ j e v. hosted_there hosts (get_or (get_or hosts k d).parties j e) k d w (each_in (get_or hosts k d).parties j e v)) free;
}
