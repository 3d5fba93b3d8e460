-- The greatest place below which all requests are decided at it, as it is found from place to place.
use Rattle.std.proofs.Common.{◌≡◌, ◌+◌, ◌<◌, ◌≤◌, ℕ, zero, suc, max, Bool, true, false, not, ◌&&◌, ◌||◌, if◌then◌else◌, List, length, Option, Some, None, refl, sym, ap, ◌∙◌, subst, inl, inr, arith, add-one}
use Rattle.std.specs.Prelude.{is_some, nat_le, option_map, slice_get, unwrap_or}
use Rattle.std.proofs.lemmas.Option.{none-some}
use Rattle.std.proofs.lemmas.Bool.{both_ways, cases_Bool, cases_lt, le-leb, lt-leb}
use Rattle.canton_model.specs.Inbox.{Content, Item, Received, Told, Nothing, is_decided_in, notice_at, notice_in}
use Rattle.canton_model.specs.Log.{Params}
use Rattle.world_model.specs.Places.{first_from}
use Rattle.world_model.proofs.NodeFacts.{first_from_is, first_from_none}
use Rattle.pruned_inbox.specs.Base.{all_below, base, greatest, is_settled_at}
use Rattle.pruned_inbox.specs.Received.{is_received_at, is_received_in}
use Rattle.pruned_inbox.proofs.Decisions.{decided_later}
use Rattle.node_inbox.specs.InboxState.{decided_since}

-- ---- what was received shows in what is noticed

pub received_is : (o : Option Item) → is_received_in o ≡ is_some (notice_in o)
received_is None = refl
received_is (Some item) = by item.time item.content
  where
    by : (time : ℕ) (content : Content) → is_received_in (Some (record { time = time; content = content })) ≡ is_some (notice_in (Some (record { time = time; content = content })))
    by time (Received notice) = refl
    by time (Told v) = refl
    by time Nothing = refl

-- ---- numbers

below_both : (a b n : ℕ) → (nat_le a n && nat_le b n) ≡ nat_le (max a b) n
below_both a b n =
    elim (cases_lt n a) [
      | inl over ↦ let far : n < max a b = omega (arith, over) in rw (lt-leb a n over, lt-leb (max a b) n far) refl
      | inr within ↦ elim (cases_lt n b) [
        | inl over ↦ let far : n < max a b = omega (arith, over) in rw (le-leb a n within, lt-leb b n over, lt-leb (max a b) n far) refl
        | inr also ↦ let near : max a b ≤ n = omega (arith, within, also) in rw (le-leb a n within, le-leb b n also, le-leb (max a b) n near) refl
      ]
    ]

module _ (params : Params) (items : List Item) where
  abbrev settled : ℕ → ℕ → Bool
  settled n m = is_settled_at params items n m

  abbrev test : ℕ → Bool
  test n = all_below (settled n) n

  abbrev end : ℕ
  end = length items

  -- ---- one request

  decided_from : (m at n : ℕ) → at ≤ n → is_decided_in params items m at ≡ true → is_decided_in params items m n ≡ true
  decided_from m at n le d = decided_later params items m at n le d

  since_is : (m n : ℕ) → is_decided_in params items m end ≡ true → n ≤ end → is_decided_in params items m n ≡ nat_le (decided_since params items m) n
  since_is m n done within = by (first_from (is_decided_in params items m) 0 end) refl
    where
      by : (o : Option ℕ) → first_from (is_decided_in params items m) 0 end ≡ o → is_decided_in params items m n ≡ nat_le (unwrap_or o end) n
      by None e = elim (cases_lt n end) [
        | inl lt ↦ first_from_none (is_decided_in params items m) 0 end e n (omega arith) (omega (arith, lt)) ∙ sym (lt-leb end n lt)
        | inr ge ↦ decided_from m end n ge done ∙ sym (le-leb end n ge)
      ]
      by (Some at) e =
          let first = first_from_is (is_decided_in params items m) 0 end at e in
          elim (cases_lt n at) [
            | inl lt ↦ first.none n (omega arith) lt ∙ sym (lt-leb at n lt)
            | inr ge ↦ decided_from m at n ge first.passes ∙ sym (le-leb at n ge)
          ]

  pub since_within : (m : ℕ) → decided_since params items m ≤ end
  since_within m = by (first_from (is_decided_in params items m) 0 end) refl
    where
      by : (o : Option ℕ) → first_from (is_decided_in params items m) 0 end ≡ o → unwrap_or o end ≤ end
      by None e = omega arith
      by (Some at) e = let below = (first_from_is (is_decided_in params items m) 0 end at e).below in omega (arith, below)

  unreceived_settled : (m n : ℕ) → is_some (notice_at items m) ≡ false → settled n m ≡ true
  unreceived_settled m n none = rw (received_is (slice_get items m) ∙ none) refl

  -- nothing was received there
  pub since_same : (m since : ℕ) → is_some (notice_at items m) ≡ false → (n : ℕ) → n ≤ end → (nat_le since n && settled n m) ≡ nat_le since n
  since_same m since none n le = ap (λ (b : Bool). nat_le since n && b) (unreceived_settled m n none) ∙ and_true (nat_le since n)
    where
      and_true : (b : Bool) → (b && true) ≡ b
      and_true true = refl
      and_true false = refl

  -- the request there is decided
  pub since_more : (m since : ℕ) → is_some (notice_at items m) ≡ true → is_decided_in params items m end ≡ true → (n : ℕ) → n ≤ end
      → (nat_le since n && settled n m) ≡ nat_le (max since (decided_since params items m)) n
  since_more m since there done n le =
      ap (λ (b : Bool). nat_le since n && (not b || is_decided_in params items m n)) (received_is (slice_get items m) ∙ there)
      ∙ (ap (λ (b : Bool). nat_le since n && b) (since_is m n done le) ∙ below_both since (decided_since params items m) n)

  -- it isn't
  pub unsettled : (m : ℕ) → is_some (notice_at items m) ≡ true → is_decided_in params items m end ≡ false → settled end m ≡ false
  unsettled m there undecided = rw (received_is (slice_get items m) ∙ there, undecided) refl

  -- ---- from place to place

  -- since when all requests below a place are decided
  abbrev pub Since : (place since : ℕ) → Type 0
  Since place since = (n : ℕ) → place ≤ n → n ≤ end → all_below (settled n) place ≡ nat_le since n

  -- the greatest up to a place, by since when
  abbrev pub Best : (place since best : ℕ) → Type 0
  Best place since best = (if nat_le since place then place else best) ≡ greatest test place

  all_first : (f : ℕ → Bool) (n : ℕ) → ((m : ℕ) → m < n → f m ≡ true) → all_below f n ≡ true
  all_first f zero h = refl
  all_first f (suc n) h = rw (all_first f n (λ m lt. h m (omega (arith, lt))), h n (omega arith)) refl

  greatest_is : (n : ℕ) → test n ≡ true → greatest test n ≡ n
  greatest_is zero e = refl
  greatest_is (suc n) e = rw e refl

  module _ (first : ℕ) (none : (m : ℕ) → m < first → is_received_at items m ≡ false) where
    silent_settled : (n m : ℕ) → m < first → settled n m ≡ true
    silent_settled n m lt = rw (none m lt) refl

    pub since_first : Since first first
    since_first n le within = all_first (settled n) first (λ m lt. silent_settled n m lt) ∙ sym (le-leb first n le)

    pub best_first : (best : ℕ) → Best first first best
    best_first best =
        ap (λ (b : Bool). if b then first else best) (le-leb first first (omega arith))
        ∙ sym (greatest_is first (all_first (settled first) first (λ m lt. silent_settled first m lt)))

  module _ (place since later : ℕ) (inside : place < end) (so_far : Since place since)
      (next : (n : ℕ) → n ≤ end → (nat_le since n && settled n place) ≡ nat_le later n) where
    pub since_next : Since (place + 1) later
    since_next n le within =
        ap (all_below (settled n)) (add-one place)
        ∙ (ap (λ (b : Bool). b && settled n place) (so_far n (omega (arith, le)) within) ∙ next n within)

    pub best_next : (best chosen : ℕ) → Best place since best → chosen ≡ (if nat_le since place then place else best) → Best (place + 1) later chosen
    best_next best chosen before is =
        let here : test (place + 1) ≡ nat_le later (place + 1) = since_next (place + 1) (omega arith) (omega (arith, inside)) in
        let all : test (suc place) ≡ nat_le later (suc place) = ap test (sym (add-one place)) ∙ (here ∙ ap (nat_le later) (add-one place)) in
        subst (λ (n : ℕ). Best n later chosen) (sym (add-one place))
        ((λ i. if sym all i then suc place else (is ∙ before) i))

  -- at the end all are decided
  pub best_end : (place since best : ℕ) → place ≡ end → since ≤ end → Best place since best → end ≡ base params items
  best_end place since best is le found =
      let here : Best end since best = subst (λ (n : ℕ). Best n since best) is found in
      sym (ap (λ (b : Bool). if b then end else best) (le-leb since end le)) ∙ here

  none_from : (f : ℕ → Bool) (m n : ℕ) → m < n → f m ≡ false → all_below f n ≡ false
  none_from f m zero lt e = absurd (omega (arith, lt))
  none_from f m (suc n) lt e = elim (cases_lt m n) [
    | inl below ↦ rw (none_from f m n below e) refl
    | inr ge ↦
        let same : n ≡ m = omega (arith, lt, ge) in
        ap (λ (b : Bool). all_below f n && b) (ap f same ∙ e) ∙ and_false (all_below f n)
  ]
    where
      and_false : (b : Bool) → (b && false) ≡ false
      and_false true = refl
      and_false false = refl

  none_above : (m n : ℕ) → m ≤ n → ((k : ℕ) → m < k → k ≤ n → test k ≡ false) → greatest test n ≡ greatest test m
  none_above zero zero le none = refl
  none_above (suc m) zero le none = absurd (omega (arith, le))
  none_above m (suc n) le none = elim (cases_lt m (suc n)) [
    | inl lt ↦ rw (none (suc n) lt (omega arith)) (none_above m n (omega (arith, lt)) (λ k lt le. none k lt (omega (arith, le))))
    | inr ge ↦ let same : suc n ≡ m = omega (arith, le, ge) in ap (greatest test) same
  ]

  -- where a request isn't decided, no place behind it is one
  pub best_stops : (place since best chosen : ℕ) → place < end → settled end place ≡ false → Best place since best
      → chosen ≡ (if nat_le since place then place else best) → chosen ≡ base params items
  best_stops place since best chosen inside undone found is =
      is ∙ (found ∙ sym (none_above place end (omega (arith, inside)) (λ k lt le. none_from (settled k) place k lt (still k le))))
    where
      still : (k : ℕ) → k ≤ end → settled k place ≡ false
      still k le = elim (cases_Bool (settled k place)) [
        | inr open_yet ↦ open_yet
        | inl done ↦ absurd (both_ways (settled end place) undone (more (is_received_at items place) done))
      ]
        where
          more : (b : Bool) → (not b || is_decided_in params items place k) ≡ true → (not b || is_decided_in params items place end) ≡ true
          more true d = decided_from place k end le d
          more false d = refl

-- where a loop from place to place stands
pub record IsFound (params : Params) (items : List Item) (place since best : ℕ) : Type 0 where
  pub within : since ≤ length items
  pub since_is : Since params items place since
  pub best_is : Best params items place since best

module _ (params : Params) (items : List Item) where
  -- from where on the requests below a place and the one there are decided, where those below are since another place
  abbrev pub SinceWith : (place since later : ℕ) → Type 0
  SinceWith place since later = (later ≤ length items) × ((n : ℕ) → n ≤ length items → (nat_le since n && is_settled_at params items n place) ≡ nat_le later n)

  pub since_found : (place since later : ℕ) → since ≤ length items → is_some (notice_at items place) ≡ true
      → is_decided_in params items place (length items) ≡ true → later ≡ max since (decided_since params items place) → SinceWith place since later
  since_found place since later le there done is =
      let also = since_within params items place in (
        omega (arith, le, also, is),
        λ n within. since_more params items place since there done n within ∙ ap (λ (k : ℕ). nat_le k n) (sym is),
      )

  pub found_first : (first : ℕ) → ((m : ℕ) → m < first → is_received_at items m ≡ false) → first ≤ length items → IsFound params items first first first
  found_first first none le = record { within = le; since_is = since_first params items first none; best_is = best_first params items first none first }

  pub found_next : (place since best later chosen : ℕ) → IsFound params items place since best → place < length items → SinceWith place since later
      → chosen ≡ (if nat_le since place then place else best) → IsFound params items (place + 1) later chosen
  found_next place since best later chosen found inside next is =
      record {
        within = next.0;
        since_is = since_next params items place since later inside found.since_is next.1;
        best_is = best_next params items place since later inside found.since_is next.1 best chosen found.best_is is;
      }

-- ---- by outcomes

pub none_received : {X Y : Type 0} (f : X → Y) (o : Option X) → option_map f o ≡ None → is_some o ≡ false
none_received f None e = refl
none_received f (Some x) e = absurd (none-some (f x) (sym e))

pub some_received : {X Y : Type 0} (f : X → Y) (o : Option X) (y : Y) → option_map f o ≡ Some y → is_some o ≡ true
some_received f None y e = absurd (none-some y e)
some_received f (Some x) y e = refl
