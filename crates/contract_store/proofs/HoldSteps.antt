-- What one more hold, and one that is released, do to the chains of holds.
use Rattle.std.proofs.Common.{◌≡◌, ℕ, suc, ◌<◌, ◌≤◌, Bool, true, false, cond, not, zero, List, [], ◌∷◌, ◌++◌, length, map, filter, set, Option, Some}
use Rattle.std.proofs.Common.{None, refl, sym, ap, ◌∙◌, subst, arith, nat_eq}
use Rattle.std.specs.Prelude.{slice_get, if◌then◌else◌, option_map, ◌&&◌}
use Rattle.std.specs.Str.{bytes_eq}
use Rattle.std.proofs.lemmas.List.{map-append, map-set, length-map}
use Rattle.std.proofs.lemmas.Option.{slice_get-map}
use Rattle.std.proofs.lemmas.Bool.{eqb-true, eq-eqb, and_parts}
use Rattle.contract_store.specs.declared.hold.Hold.{Hold}
use Rattle.contract_store.specs.declared.hold.KeptHold.{KeptHold}
use Rattle.contract_store.specs.Chains.{Link, above, NoneFrom, IsLast, IsLinked, Reaches, Chains}
use Rattle.contract_store.specs.Holds.{link_on, link_at, holds_of, is_elsewhere, released, LeadsToHolds, Releasing}
use Rattle.contract_store.proofs.Maps.{same_bytes, equal_bytes}
use Rattle.contract_store.proofs.Places.{get_within}
use Rattle.contract_store.proofs.ChainSteps.{chains_push, chains_as, killed, key_of, linked_killed, last_elsewhere, reaches_before, reaches_on}
use Rattle.contract_store.proofs.ChainSteps.{last_found, last_none}

pub same_places : (a b : ℕ) → nat_eq a b ≡ true → a ≡ b
same_places a b e = eqb-true a b e

pub equal_places : (a : ℕ) → nat_eq a a ≡ true
equal_places a = eq-eqb a a refl

module _ {K : Type 0} (eq : K → K → Bool) (same : (a b : K) → eq a b ≡ true → a ≡ b) (equal : (a : K) → eq a a ≡ true) (link : KeptHold → Link K) where
  -- one more hold
  pushed : (slots : List KeptHold) (h : KeptHold) (f g : K → Option ℕ) → Chains eq (map link slots) f
      → (link h).live ≡ true → (link h).before ≡ f (link h).key → ((q : K) → g q ≡ (if eq (link h).key q then Some (length slots) else f q))
      → Chains eq (map link (slots ++ h ∷ [])) g
  pushed slots h f g chains live before put =
      subst (λ links. Chains eq links g) (sym (map-append link slots (h ∷ [])))
      (chains_as eq same equal _ _ g (chains_push eq same equal (map link slots) f chains (link h) live before) (λ q. rw (length-map slots link) (put q)))

pub hold_pushed : (slots : List KeptHold) (h : KeptHold) (ids ids' : List ℕ → Option ℕ) (places places' : ℕ → Option ℕ) → LeadsToHolds slots ids places
    → h.live ≡ true → h.before_on ≡ ids h.hold.id → h.before_at ≡ places h.hold.place
    → ((q : List ℕ) → ids' q ≡ (if bytes_eq h.hold.id q then Some (length slots) else ids q))
    → ((q : ℕ) → places' q ≡ (if nat_eq h.hold.place q then Some (length slots) else places q))
    → LeadsToHolds (slots ++ h ∷ []) ids' places'
hold_pushed slots h ids ids' places places' leads live on at put_id put_place = record {
  on = pushed bytes_eq same_bytes equal_bytes link_on slots h ids ids' leads.on live on put_id;
  at = pushed nat_eq same_places equal_places link_at slots h places places' leads.at live at put_place;
}

module _ (links : List (Link (List ℕ))) (i : ℕ) (l : Link (List ℕ)) (at : slice_get links i ≡ Some l) (f : List ℕ → Option ℕ)
    (chains : Chains bytes_eq links f) where
  own : (q : List ℕ) → f q ≡ Some i → l.key ≡ q
  own q e =
      let found = (chains.last q).here i e in
      let p : Some l ≡ Some found.0 = sym at ∙ found.1 in
      let s : l ≡ found.0 = cc in
      ap (λ (m : Link (List ℕ)). m.key) s ∙ key_of bytes_eq same_bytes equal_bytes q found.0 found.2

  -- where the map doesn't lead to it
  pub killed_passed : (f l.key ≡ Some i → ⊥) → Chains bytes_eq (killed bytes_eq same_bytes equal_bytes links i l at) f
  killed_passed apart = record {
    last = λ q. last_elsewhere bytes_eq same_bytes equal_bytes links i l at q (f q) (λ e. apart (ap f (own q e) ∙ e)) (chains.last q);
    linked = linked_killed bytes_eq same_bytes equal_bytes links i l at chains.linked;
  }

  -- where it does
  pub killed_last : (g : List ℕ → Option ℕ) (o : Option ℕ) → f l.key ≡ Some i → IsLast bytes_eq (killed bytes_eq same_bytes equal_bytes links i l at) l.key o
      → ((q : List ℕ) → g q ≡ (if bytes_eq l.key q then o else f q)) → Chains bytes_eq (killed bytes_eq same_bytes equal_bytes links i l at) g
  killed_last g o here last put = record {
    last = λ q. rw (put q) (by q (bytes_eq l.key q) refl);
    linked = linked_killed bytes_eq same_bytes equal_bytes links i l at chains.linked;
  }
    where
      by : (q : List ℕ) (b : Bool) → bytes_eq l.key q ≡ b → IsLast bytes_eq (killed bytes_eq same_bytes equal_bytes links i l at) q (if b then o else f q)
      by q true e = subst (λ k. IsLast bytes_eq (killed bytes_eq same_bytes equal_bytes links i l at) k o) (same_bytes l.key q e) last
      by q false e =
          last_elsewhere bytes_eq same_bytes equal_bytes links i l at q (f q)
          (λ w. absurd (let u : true ≡ false = sym (equal_bytes q) ∙ ap (λ k. bytes_eq k q) (sym (own q w)) ∙ e in cc)) (chains.last q)

pub link_there : {K : Type 0} (link : KeptHold → Link K) (slots : List KeptHold) (i : ℕ) (h : KeptHold) → slice_get slots i ≡ Some h
    → slice_get (map link slots) i ≡ Some (link h)
link_there link slots i h at = slice_get-map link slots i ∙ ap (option_map link) at

module _ {K : Type 0} (eq : K → K → Bool) (same : (a b : K) → eq a b ≡ true → a ≡ b) (equal : (a : K) → eq a a ≡ true) (link : KeptHold → Link K) where
  -- the key of what a cursor leads to
  pub own_key : (slots : List KeptHold) (k : K) (i : ℕ) → Reaches eq (map link slots) k (Some i) → (h : KeptHold) → slice_get slots i ≡ Some h
      → eq (link h).key k ≡ true
  own_key slots k i reaches h at =
      let found = reaches.alike i refl in
      let p : Some (link h) ≡ Some found.0 = sym (link_there link slots i h at) ∙ found.1 in
      let s : link h ≡ found.0 = cc in
      ap (λ (m : Link K). eq m.key k) s ∙ found.2

pub passed_dead : (slots : List KeptHold) (k : List ℕ) (i : ℕ) → IsLinked bytes_eq (map link_on slots) → Reaches bytes_eq (map link_on slots) k (Some i)
    → (h : KeptHold) → slice_get slots i ≡ Some h → h.live ≡ false → Reaches bytes_eq (map link_on slots) k h.before_on
passed_dead slots k i linked reaches h at dead =
    reaches_on bytes_eq same_bytes equal_bytes (map link_on slots) k linked i reaches (link_on h) (link_there link_on slots i h at) dead
    (own_key bytes_eq same_bytes equal_bytes link_on slots k i reaches h at)

pub found_live : (slots : List KeptHold) (k : List ℕ) (i : ℕ) → Reaches bytes_eq (map link_on slots) k (Some i)
    → (h : KeptHold) → slice_get slots i ≡ Some h → h.live ≡ true → IsLast bytes_eq (map link_on slots) k (Some i)
found_live slots k i reaches h at live =
    last_found bytes_eq same_bytes equal_bytes (map link_on slots) k i reaches (link_on h) (link_there link_on slots i h at) live

pub found_none : (slots : List KeptHold) (k : List ℕ) → Reaches bytes_eq (map link_on slots) k None → IsLast bytes_eq (map link_on slots) k None
found_none slots k reaches = last_none bytes_eq same_bytes equal_bytes (map link_on slots) k reaches

-- a cursor leads to a place in the vector
pub reaches_within : {K : Type 0} (eq : K → K → Bool) (link : KeptHold → Link K) (slots : List KeptHold) (k : K) (i : ℕ)
    → Reaches eq (map link slots) k (Some i) → i < length slots
reaches_within eq link slots k i reaches =
    let found = reaches.alike i refl in
    let w = get_within (map link slots) i found.0 found.1 in
    let n = length-map slots link in
    omega arith

-- the chain leads towards the start
pub before_below : {K : Type 0} (eq : K → K → Bool) (link : KeptHold → Link K) (slots : List KeptHold) (i : ℕ) (h : KeptHold)
    → IsLinked eq (map link slots) → slice_get slots i ≡ Some h → above (link h).before ≤ i
before_below eq link slots i h linked at = linked.below i (link h) (link_there link slots i h at)

-- the hold released at a place in the vector
abbrev pub release_at : List KeptHold → ℕ → KeptHold → List KeptHold
release_at slots i h = set slots i (record h { live = false })

module _ (slots : List KeptHold) (i : ℕ) (h : KeptHold) (at : slice_get slots i ≡ Some h) where
  released_on : map link_on (release_at slots i h) ≡ killed bytes_eq same_bytes equal_bytes (map link_on slots) i (link_on h) (link_there link_on slots i h at)
  released_on = map-set link_on slots i (record h { live = false })

  pub on_linked : IsLinked bytes_eq (map link_on slots) → IsLinked bytes_eq (map link_on (release_at slots i h))
  on_linked linked = rw released_on (linked_killed bytes_eq same_bytes equal_bytes (map link_on slots) i (link_on h) (link_there link_on slots i h at) linked)

  module _ (f : List ℕ → Option ℕ) (chains : Chains bytes_eq (map link_on slots) f) where
    pub on_before : f h.hold.id ≡ Some i → Reaches bytes_eq (map link_on (release_at slots i h)) h.hold.id h.before_on
    on_before e =
        rw released_on
        (reaches_before bytes_eq same_bytes equal_bytes (map link_on slots) i (link_on h) (link_there link_on slots i h at) h.hold.id
        (equal_bytes h.hold.id) chains.linked (rw e at (chains.last h.hold.id).none))

    pub on_passed : (f h.hold.id ≡ Some i → ⊥) → Chains bytes_eq (map link_on (release_at slots i h)) f
    on_passed apart = rw released_on (killed_passed (map link_on slots) i (link_on h) (link_there link_on slots i h at) f chains apart)

    pub on_last : (g : List ℕ → Option ℕ) (o : Option ℕ) → f h.hold.id ≡ Some i → IsLast bytes_eq (map link_on (release_at slots i h)) h.hold.id o
        → ((q : List ℕ) → g q ≡ (if bytes_eq h.hold.id q then o else f q)) → Chains bytes_eq (map link_on (release_at slots i h)) g
    on_last g o e last put =
        rw released_on (killed_last (map link_on slots) i (link_on h) (link_there link_on slots i h at) f chains g o e (rw released_on at last) put)

one_same : (place : ℕ) (live there : Bool) (h : Hold) (xs ys : List Hold) → is_elsewhere place h ≡ there → released place xs ≡ released place ys
    → released place (cond live (h ∷ xs) xs) ≡ released place (cond live (h ∷ ys) ys)
one_same place true true h xs ys e r = rw e (ap (λ zs. h ∷ zs) r)
one_same place true false h xs ys e r = rw e r
one_same place false there h xs ys e r = r

one_less : (place : ℕ) (live : Bool) (h : Hold) (xs : List Hold) → is_elsewhere place h ≡ false → released place xs ≡ released place (cond live (h ∷ xs) xs)
one_less place true h xs e = rw e refl
one_less place false h xs e = refl

pub holds_cons : (s : KeptHold) (rest : List KeptHold) → holds_of (s ∷ rest) ≡ cond s.live (s.hold ∷ holds_of rest) (holds_of rest)
holds_cons s rest = by s.live
  where
    by : (b : Bool)
        → map (λ (h : KeptHold). h.hold) (cond b (s ∷ filter (λ (h : KeptHold). h.live) rest) (filter (λ (h : KeptHold). h.live) rest)) ≡ cond b
        (s.hold ∷ holds_of rest) (holds_of rest)
    by true = refl
    by false = refl

rest_same : (place : ℕ) (slots : List KeptHold) (i : ℕ) (h : KeptHold) → slice_get slots i ≡ Some h → is_elsewhere place h.hold ≡ false
    → released place (holds_of (release_at slots i h)) ≡ released place (holds_of slots)
rest_same place [] i h at e = absurd (cc)
rest_same place (s ∷ slots) zero h at e = let w : s ≡ h =
    cc in one_less place s.live s.hold (holds_of slots) (ap (λ (m : KeptHold). is_elsewhere place m.hold) w ∙ e)
    ∙ sym (ap (released place) (holds_cons s slots))
rest_same place (s ∷ slots) (suc i) h at e =
    ap (released place) (holds_cons s (release_at slots i h)) ∙ one_same place s.live (is_elsewhere place s.hold) s.hold _ _ refl
    (rest_same place slots i h at e) ∙ sym (ap (released place) (holds_cons s slots))

module _ (slots : List KeptHold) (i : ℕ) (h : KeptHold) (at : slice_get slots i ≡ Some h) where
  released_at : map link_at (release_at slots i h) ≡ killed nat_eq same_places equal_places (map link_at slots) i (link_at h) (link_there link_at slots i h at)
  released_at = map-set link_at slots i (record h { live = false })

  pub release_step : (place : ℕ) (left : List Hold) (places : ℕ → Option ℕ) (ids ids' : List ℕ → Option ℕ) → Releasing place left slots ids places (Some i)
      → Chains bytes_eq (map link_on (release_at slots i h)) ids' → Releasing place left (release_at slots i h) ids' places h.before_at
  release_step place left places ids ids' r on =
      let own = own_key nat_eq same_places equal_places link_at slots place i r.reaches h at in
      let same : h.hold.place ≡ place = same_places h.hold.place place own in
      record {
        on = on;
        linked = rw released_at (linked_killed nat_eq same_places equal_places (map link_at slots) i (link_at h) (link_there link_at slots i h at) r.linked);
        others = λ q e. rw released_at
            (last_elsewhere nat_eq same_places equal_places (map link_at slots) i (link_at h) (link_there link_at slots i h at) q (places q)
            (λ w. (let found = (r.others q e).here i w in
            let p : Some (link_at h) ≡ Some found.0 = sym (link_there link_at slots i h at) ∙ found.1 in
            let s : link_at h ≡ found.0 = cc in
            let k : h.hold.place ≡ q = ap (λ (m : Link ℕ). m.key) s ∙ key_of nat_eq same_places equal_places q found.0 found.2 in
            let u : true ≡ false = sym (eq-eqb place q (sym same ∙ k)) ∙ e in
            absurd (cc))) (r.others q e));
        reaches =
            rw released_at
            (reaches_before nat_eq same_places equal_places (map link_at slots) i (link_at h)
            (link_there link_at slots i h at) place own r.linked r.reaches.none);
        rest = rest_same place slots i h at (ap not (eq-eqb h.hold.place place same)) ∙ r.rest;
      }

-- where the last one is known, the chain begins
pub last_reaches : {K : Type 0} (eq : K → K → Bool) (links : List (Link K)) (k : K) (o : Option ℕ) → IsLast eq links k o → Reaches eq links k o
last_reaches eq links k o last = record {
  none = last.none;
  alike = λ i h. (let found = last.here i h in (found.0, found.1, (and_parts found.0.live (eq found.0.key k) found.2).1));
}

all_elsewhere : (place : ℕ) (slots : List KeptHold) → NoneFrom nat_eq (map link_at slots) place 0 → released place (holds_of slots) ≡ holds_of slots
all_elsewhere place [] none = refl
all_elsewhere place (s ∷ slots) none =
    by s.live (none 0 (link_at s) (omega arith) refl) (all_elsewhere place slots (λ j m h at. none (suc j) m (omega arith) at))
  where
    by : (b : Bool) → (b && nat_eq s.hold.place place) ≡ false → released place (holds_of slots) ≡ holds_of slots
        → released place
        (map (λ (h : KeptHold). h.hold) (cond b (s ∷ filter (λ (h : KeptHold). h.live) slots) (filter (λ (h : KeptHold). h.live) slots))) ≡ map
        (λ (h : KeptHold). h.hold) (cond b (s ∷ filter (λ (h : KeptHold). h.live) slots) (filter (λ (h : KeptHold). h.live) slots))
    by true e rest = rw e (ap (λ hs. s.hold ∷ hs) rest)
    by false e rest = rest

module _ (place : ℕ) (slots : List KeptHold) (ids : List ℕ → Option ℕ) (places places' : ℕ → Option ℕ) where
  -- before the first is released
  pub release_begins : LeadsToHolds slots ids places → ((q : ℕ) → nat_eq place q ≡ false → places' q ≡ places q)
      → Releasing place (released place (holds_of slots)) slots ids places' (places place)
  release_begins leads keep = record {
    on = leads.on;
    linked = leads.at.linked;
    others = λ q e. rw (keep q e) (leads.at.last q);
    reaches = last_reaches nat_eq (map link_at slots) place (places place) (leads.at.last place);
    rest = refl;
  }

  -- after the last
  pub release_ends : (left : List Hold) → Releasing place left slots ids places' None → ((q : ℕ) → nat_eq place q ≡ true → places' q ≡ None)
      → LeadsToHolds slots ids places' × (holds_of slots ≡ left)
  release_ends left r gone = (
    record {
      on = r.on;
      at = record { last = λ q. by q (nat_eq place q) refl; linked = r.linked };
    },
    sym (all_elsewhere place slots r.reaches.none) ∙ r.rest,
  )
    where
      by : (q : ℕ) (b : Bool) → nat_eq place q ≡ b → IsLast nat_eq (map link_at slots) q (places' q)
      by q true e =
          rw (gone q e)
          (subst (λ k. IsLast nat_eq (map link_at slots) k None) (same_places place q e)
          (last_none nat_eq same_places equal_places (map link_at slots) place r.reaches))
      by q false e = r.others q e
