-- Holds that move towards the start of the vector, and what one released takes from their number.
use Rattle.std.proofs.Common.{◌≡◌, ℕ, zero, suc, ◌+◌, ◌<◌, ◌≤◌, Bool, true, false, cond, List, [], ◌∷◌, ◌++◌, length, map, set, take, drop}
use Rattle.std.proofs.Common.{Option, Some, None, is_some, refl, sym, ap, ◌∙◌, subst, arith, nat_eq}
use Rattle.std.specs.Prelude.{IsSome, slice_get, if◌then◌else◌}
use Rattle.std.specs.Str.{bytes_eq}
use Rattle.std.proofs.Math.Seq.{take-suc-set}
use Rattle.std.proofs.Math.ListN.{drop_of_length-le}
use Rattle.std.proofs.lemmas.List.{map-append, length-map, length-take-le, length-set, length-append, append_assoc, append-nil}
use Rattle.contract_store.specs.declared.hold.Hold.{Hold}
use Rattle.contract_store.specs.declared.hold.KeptHold.{KeptHold}
use Rattle.contract_store.specs.declared.contract_places.ContractPlaces.{ContractPlaces}
use Rattle.contract_store.specs.Leads.{hold_behind}
use Rattle.contract_store.specs.Chains.{Link}
use Rattle.contract_store.specs.Holds.{link_on, link_at, holds_of, LeadsToHolds}
use Rattle.contract_store.specs.Moved.{among, HalfMoved, Moving}
use Rattle.contract_store.proofs.Maps.{same_bytes, equal_bytes}
use Rattle.contract_store.proofs.Places.{get_within}
use Rattle.contract_store.proofs.HoldSteps.{same_places, equal_places, link_there, holds_cons, release_at}
use Rattle.contract_store.proofs.ChainMoves.{chains_begin, chains_passed, chains_moved, chains_end}

get_apart : {X : Type 0} (xs : List X) (i : ℕ) (x : X) (j : ℕ) → i < j → slice_get (set xs i x) j ≡ slice_get xs j
get_apart [] i x j h = refl
get_apart (z ∷ xs) zero x zero h = absurd (omega arith)
get_apart (z ∷ xs) zero x (suc j) h = refl
get_apart (z ∷ xs) (suc i) x zero h = absurd (omega arith)
get_apart (z ∷ xs) (suc i) x (suc j) h = get_apart xs i x j (omega arith)

drop_here : {X : Type 0} (xs : List X) (i : ℕ) (x : X) → slice_get xs i ≡ Some x → drop i xs ≡ x ∷ drop (suc i) xs
drop_here [] i x at = absurd (cc)
drop_here (z ∷ xs) zero x at = let w : z ≡ x = cc in ap (λ y. y ∷ xs) w
drop_here (z ∷ xs) (suc i) x at = drop_here xs i x at

holds_more : (slots : List KeptHold) (x : KeptHold) → x.live ≡ true → holds_of (slots ++ x ∷ []) ≡ holds_of slots ++ x.hold ∷ []
holds_more [] x live = holds_cons x [] ∙ ap (λ b. cond b (x.hold ∷ []) []) live
holds_more (s ∷ slots) x live =
    holds_cons s (slots ++ x ∷ []) ∙ by s.live (holds_more slots x live) ∙ sym (ap (λ hs. hs ++ x.hold ∷ []) (holds_cons s slots))
  where
    by : (b : Bool) → holds_of (slots ++ x ∷ []) ≡ holds_of slots ++ x.hold ∷ []
        → cond b (s.hold ∷ holds_of (slots ++ x ∷ [])) (holds_of (slots ++ x ∷ [])) ≡ cond b (s.hold ∷ holds_of slots) (holds_of slots) ++ x.hold ∷ []
    by true e = ap (λ hs. s.hold ∷ hs) e
    by false e = e

pub moving_begins : (held : List KeptHold) (ids : List ℕ → Option ℕ) (places : ℕ → Option ℕ) → LeadsToHolds held ids places → Moving held 0 0 held ids places
moving_begins held ids places leads = record {
  on = chains_begin bytes_eq same_bytes equal_bytes (map link_on held) ids leads.on;
  at = chains_begin nat_eq same_places equal_places (map link_at held) places leads.at;
  rest = λ i past. refl;
  holds = refl;
  count = refl;
  order = omega arith;
  fits = omega arith;
  long = refl;
}

module _ (held slots : List KeptHold) (next to : ℕ) (ids : List ℕ → Option ℕ) (places : ℕ → Option ℕ) (moving : Moving held next to slots ids places) where
  -- after the last
  pub moving_ends : length held ≤ next
      → LeadsToHolds (take to slots) ids places × (holds_of (take to slots) ≡ holds_of held) × (length (take to slots) ≡ length (holds_of (take to slots)))
  moving_ends past = (
    record {
      on = chains_end bytes_eq same_bytes equal_bytes (map link_on held) _ next ids moving.on (let n = length-map held link_on in omega arith);
      at = chains_end nat_eq same_places equal_places (map link_at held) _ next places moving.at (let n = length-map held link_at in omega arith);
    },
    sym (append-nil (holds_of (take to slots))) ∙ sym (ap (λ hs. holds_of (take to slots) ++ holds_of hs) (drop_of_length-le held past)) ∙ moving.holds,
    length-take-le to slots moving.fits ∙ sym moving.count,
  )

  module _ (h : KeptHold) (at : slice_get slots next ≡ Some h) where
    own : slice_get held next ≡ Some h
    own = sym (moving.rest next (omega arith)) ∙ at

    rest_holds : holds_of (drop next held) ≡ cond h.live (h.hold ∷ holds_of (drop (suc next) held)) (holds_of (drop (suc next) held))
    rest_holds = ap holds_of (drop_here held next h own) ∙ holds_cons h (drop (suc next) held)

    -- what the map of ids, and that of places, has for a hold that was not released
    pub id_there : h.live ≡ true → is_some (ids h.hold.id) ≡ true
    id_there live = moving.on.there next (link_on h) (link_there link_on held next h own) live

    pub place_there : h.live ≡ true → is_some (places h.hold.place) ≡ true
    place_there live = moving.at.there next (link_at h) (link_there link_at held next h own) live

    -- one that was released is passed
    pub moving_passed : h.live ≡ false → Moving held (suc next) to slots ids places
    moving_passed dead = record {
      on = chains_passed bytes_eq same_bytes equal_bytes (map link_on held) next (link_on h) (link_there link_on held next h own) _ ids moving.on dead;
      at = chains_passed nat_eq same_places equal_places (map link_at held) next (link_at h) (link_there link_at held next h own) _ places moving.at dead;
      rest = λ i past. moving.rest i (omega arith);
      holds = sym (ap (λ hs. holds_of (take to slots) ++ hs)
          (rest_holds ∙ ap (λ b. cond b (h.hold ∷ holds_of (drop (suc next) held)) (holds_of (drop (suc next) held))) dead)) ∙ moving.holds;
      count = moving.count;
      order = let o = moving.order in omega arith;
      fits = moving.fits;
      long = moving.long;
    }

module _ {K : Type 0} (eq : K → K → Bool) (same : (a b : K) → eq a b ≡ true → a ≡ b) (equal : (a : K) → eq a a ≡ true) (link : KeptHold → Link K) where
  carried : (held slots : List KeptHold) (next to : ℕ) (h x : KeptHold) (f g : K → Option ℕ) → HalfMoved eq (map link held) next (map link (take to slots)) f
      → to ≤ next → to < length slots → slice_get held next ≡ Some h → (link x).key ≡ (link h).key → (link x).live ≡ true
      → (link x).before ≡ among to (f (link x).key) → ((q : K) → g q ≡ (if eq (link x).key q then Some to else f q))
      → HalfMoved eq (map link held) (suc next) (map link (take (suc to) (set slots to x))) g
  carried held slots next to h x f g half order within own key live before put =
      subst (λ moved. HalfMoved eq (map link held) (suc next) moved g) (sym (ap (map link) (take-suc-set slots to x within) ∙ map-append link (take to slots) (x ∷ [])))
      (chains_moved eq same equal (map link held) next (link h) (link_there link held next h own) (map link (take to slots)) f half
      (let n = many in omega arith) (link x) key live (before ∙ ap (λ n. among n (f (link x).key)) (sym many)) g
      (λ q. put q ∙ ap (λ n. cond (eq (link x).key q) (Some n) (f q)) (sym many)))
    where
      many : length (map link (take to slots)) ≡ to
      many = length-map (take to slots) link ∙ length-take-le to slots (omega arith)

-- one that was not released is moved
pub moving_moved : (held slots : List KeptHold) (next to : ℕ) (ids ids' : List ℕ → Option ℕ) (places places' : ℕ → Option ℕ) → Moving held next to slots ids places
    → (h x : KeptHold) → slice_get slots next ≡ Some h → x.hold ≡ h.hold → x.live ≡ true → x.before_on ≡ among to (ids x.hold.id)
    → x.before_at ≡ among to (places x.hold.place) → ((q : List ℕ) → ids' q ≡ (if bytes_eq x.hold.id q then Some to else ids q))
    → ((q : ℕ) → places' q ≡ (if nat_eq x.hold.place q then Some to else places q)) → h.live ≡ true → Moving held (suc next) (suc to) (set slots to x) ids' places'
moving_moved held slots next to ids ids' places places' moving h x at hold live on before put_id put_place was = record {
  on = carried bytes_eq same_bytes equal_bytes link_on held slots next to h x ids ids' moving.on moving.order within there (ap (λ (y : Hold). y.id) hold) live on put_id;
  at = carried nat_eq same_places equal_places link_at held slots next to h x places places' moving.at moving.order within there
      (ap (λ (y : Hold). y.place) hold) live before put_place;
  rest = λ i past. get_apart slots to x i (let o = moving.order in omega arith) ∙ moving.rest i (omega arith);
  holds =
      ap (λ hs. hs ++ holds_of (drop (suc next) held)) grown ∙ append_assoc (holds_of (take to slots)) (x.hold ∷ []) (holds_of (drop (suc next) held))
      ∙ ap (λ hs. holds_of (take to slots) ++ hs) (sym left) ∙ moving.holds;
  count = (let n : length (holds_of (take to slots) ++ x.hold ∷ []) ≡ length (holds_of (take to slots)) + 1 = length-append (holds_of (take to slots)) (x.hold ∷ []) in
      let m = moving.count in ap length grown ∙ (omega arith));
  order = let o = moving.order in omega arith;
  fits = (let n = length-set slots to x in let w = within in omega arith);
  long = length-set slots to x ∙ moving.long;
}
  where
    within : to < length slots
    within = let o = moving.order in let w = get_within slots next h at in omega arith

    there : slice_get held next ≡ Some h
    there = own held slots next to ids places moving h at

    grown : holds_of (take (suc to) (set slots to x)) ≡ holds_of (take to slots) ++ x.hold ∷ []
    grown = ap holds_of (take-suc-set slots to x within) ∙ holds_more (take to slots) x live

    left : holds_of (drop next held) ≡ x.hold ∷ holds_of (drop (suc next) held)
    left = rest_holds held slots next to ids places moving h at
        ∙ ap (λ b. cond b (h.hold ∷ holds_of (drop (suc next) held)) (holds_of (drop (suc next) held))) was
        ∙ ap (λ y. y ∷ holds_of (drop (suc next) held)) (sym hold)

one_up : (n : ℕ) → suc n ≡ n + 1
one_up n = omega arith

pub moving_passed_on : (held slots : List KeptHold) (next to : ℕ) (ids : List ℕ → Option ℕ) (places : ℕ → Option ℕ) → Moving held next to slots ids places
    → (h : KeptHold) → slice_get slots next ≡ Some h → h.live ≡ false → Moving held (next + 1) to slots ids places
moving_passed_on held slots next to ids places moving h at dead =
    subst (λ n. Moving held n to slots ids places) (one_up next) (moving_passed held slots next to ids places moving h at dead)

pub moving_moved_on : (held slots : List KeptHold) (next to : ℕ) (ids ids' : List ℕ → Option ℕ) (places places' : ℕ → Option ℕ)
    → Moving held next to slots ids places → (h x : KeptHold) → slice_get slots next ≡ Some h → x.hold ≡ h.hold → x.live ≡ true
    → x.before_on ≡ among to (ids x.hold.id) → x.before_at ≡ among to (places x.hold.place)
    → ((q : List ℕ) → ids' q ≡ (if bytes_eq x.hold.id q then Some to else ids q))
    → ((q : ℕ) → places' q ≡ (if nat_eq x.hold.place q then Some to else places q)) → h.live ≡ true
    → Moving held (next + 1) (to + 1) (set slots to x) ids' places'
moving_moved_on held slots next to ids ids' places places' moving h x at hold live on before put_id put_place was =
    subst (λ n. Moving held n (to + 1) (set slots to x) ids' places') (one_up next)
    (subst (λ n. Moving held (suc next) n (set slots to x) ids' places') (one_up to)
    (moving_moved held slots next to ids ids' places places' moving h x at hold live on before put_id put_place was))

-- an id that leads to a hold is a key
pub key_there : (o : Option ContractPlaces) → is_some (hold_behind o) ≡ true → IsSome o
key_there None there = absurd (cc)
key_there (Some b) there = refl

-- one more hold
pub one_more_held : (dead n : ℕ) (hs hs' : List Hold) (h : Hold) → hs' ≡ hs ++ h ∷ [] → dead + length hs ≡ n → dead + length hs' ≡ n + 1
one_more_held dead n hs hs' h more count = let m : length hs' ≡ length hs + 1 = ap length more ∙ length-append hs (h ∷ []) in omega arith

one_held : (b : Bool) (h : Hold) (xs : List Hold) → cond b 1 0 + length xs ≡ length (cond b (h ∷ xs) xs)
one_held true h xs = omega arith
one_held false h xs = omega arith

one_kept : (k : ℕ) (b : Bool) (h : Hold) (xs ys : List Hold) → k + length xs ≡ length ys → k + length (cond b (h ∷ xs) xs) ≡ length (cond b (h ∷ ys) ys)
one_kept k true h xs ys e = omega arith
one_kept k false h xs ys e = e

-- a hold that is released is one less, where it was live
pub fewer_held : (slots : List KeptHold) (i : ℕ) (h : KeptHold) → slice_get slots i ≡ Some h
    → cond h.live 1 0 + length (holds_of (release_at slots i h)) ≡ length (holds_of slots)
fewer_held [] i h at = absurd (cc)
fewer_held (s ∷ slots) zero h at = let w : s ≡ h = cc in
    ap (λ (m : KeptHold). cond m.live 1 0 + length (holds_of slots)) (sym w) ∙ one_held s.live s.hold (holds_of slots) ∙ sym (ap length (holds_cons s slots))
fewer_held (s ∷ slots) (suc i) h at =
    ap (λ hs. cond h.live 1 0 + length hs) (holds_cons s (release_at slots i h))
    ∙ one_kept (cond h.live 1 0) s.live s.hold (holds_of (release_at slots i h)) (holds_of slots) (fewer_held slots i h at)
    ∙ sym (ap length (holds_cons s slots))
