-- Actions of the requests below a place.
use Rattle.std.proofs.Common.{◌≡◌, ℕ, zero, suc, ◌<◌, Bool, true, false, List, [], ◌∷◌, ◌++◌, map, refl, ap, ◌∙◌, inl, inr, arith}
use Rattle.std.specs.Prelude.{if◌then◌else◌, nat_eq, ◌&&◌, ◌||◌, not}
use Rattle.std.proofs.lemmas.Bool.{eq-eqb, ne_eqb, cases_eq}
use Rattle.std.proofs.lemmas.List.{map-append}
use Rattle.std.proofs.lemmas.List.Elements.{filter-append}
use Rattle.ledger_terms.specs.declared.act.Act.{Act}
use Rattle.contract_store.specs.Below.{at_place}
use Rattle.canton_model.specs.Evidence.{gather}
use Rattle.contract_store.specs.Written.{Placed, acts_of, without}
use Rattle.request_track.specs.CleanLaw.{is_open_at}
use Rattle.request_track.specs.Pairs.{Pair, is_open}
use Rattle.request_track.specs.declared.tracked.Tracked.{Tracked}
use Rattle.inbox_registry.specs.Changes.{placed_below}

-- places at which they agree
pub placed_same : (keeps keeps' : ℕ → Bool) (f f' : ℕ → List Act) (k : ℕ)
    → ((m : ℕ) → m < k → (if keeps m then map (at_place m) (f m) else []) ≡ (if keeps' m then map (at_place m) (f' m) else []))
    → placed_below keeps f k ≡ placed_below keeps' f' k
placed_same keeps keeps' f f' zero h = refl
placed_same keeps keeps' f f' (suc k) h =
    let rest = placed_same keeps keeps' f f' k (λ m lt. h m (omega arith)) in
    let here = h k (omega arith) in
    ap (λ (ps : List Placed). ps ++ (if keeps k then map (at_place k) (f k) else [])) rest ∙ ap (λ (ps : List Placed). placed_below keeps' f' k ++ ps) here

all_gone : (j : ℕ) (acts : List Act) → without j (map (at_place j) acts) ≡ []
all_gone j [] = refl
all_gone j (a ∷ acts) = rw (eq-eqb j j refl) (all_gone j acts)

all_stay : (m j : ℕ) (acts : List Act) → (m ≡ j → ⊥) → without j (map (at_place m) acts) ≡ map (at_place m) acts
all_stay m j [] n = refl
all_stay m j (a ∷ acts) n = rw (ne_eqb m j n) (ap (λ (ps : List Placed). at_place m a ∷ ps) (all_stay m j acts n))

here_without : (j m : ℕ) (b : Bool) (acts : List Act)
    → without j (if b then map (at_place m) acts else []) ≡ (if (b && not (nat_eq m j)) then map (at_place m) acts else [])
here_without j m false acts = refl
here_without j m true acts = elim (cases_eq m j) [
  | inl same ↦ rw (eq-eqb m j same) (ap (λ (n : ℕ). without j (map (at_place n) acts)) same ∙ all_gone j acts)
  | inr other ↦ rw (ne_eqb m j other) (all_stay m j acts other)
]

-- without those of a request
pub placed_without : (j : ℕ) (keeps : ℕ → Bool) (f : ℕ → List Act) (k : ℕ)
    → without j (placed_below keeps f k) ≡ placed_below (λ m. keeps m && not (nat_eq m j)) f k
placed_without j keeps f zero = refl
placed_without j keeps f (suc k) =
    filter-append (λ (p : Placed). not (nat_eq p.place j)) (placed_below keeps f k) (if keeps k then map (at_place k) (f k) else [])
    ∙ ap (λ (ps : List Placed). ps ++ without j (if keeps k then map (at_place k) (f k) else [])) (placed_without j keeps f k)
    ∙ ap (λ (ps : List Placed). placed_below (λ m. keeps m && not (nat_eq m j)) f k ++ ps) (here_without j k (keeps k) (f k))

-- the same test
pub placed_kept : (keeps keeps' : ℕ → Bool) (f : ℕ → List Act) (k : ℕ) → ((m : ℕ) → keeps m ≡ keeps' m) → placed_below keeps f k ≡ placed_below keeps' f k
placed_kept keeps keeps' f k h = placed_same keeps keeps' f f k (λ m lt. ap (λ (b : Bool). if b then map (at_place m) (f m) else []) (h m))

pub placed_kept_below : (keeps keeps' : ℕ → Bool) (f : ℕ → List Act) (k : ℕ) → ((m : ℕ) → m < k → keeps m ≡ keeps' m) → placed_below keeps f k ≡ placed_below keeps' f k
placed_kept_below keeps keeps' f k h = placed_same keeps keeps' f f k (λ m lt. ap (λ (b : Bool). if b then map (at_place m) (f m) else []) (h m lt))

-- a request that comes at a later place
pub open_pushed : (ps : List Pair) (n : ℕ) (t : Tracked) (m : ℕ) → m < n → is_open_at (ps ++ (n, t) ∷ []) m ≡ is_open_at ps m
open_pushed [] n t m lt = rw (ne_eqb n m (λ e. omega (arith, e, lt))) refl
open_pushed (p ∷ ps) n t m lt = ap (λ (b : Bool). (nat_eq p.0 m && is_open p) || b) (open_pushed ps n t m lt)

pub acts_placed : (k : ℕ) (as' : List Act) → acts_of (map (at_place k) as') ≡ as'
acts_placed k [] = refl
acts_placed k (a ∷ as') = ap (λ (bs : List Act). a ∷ bs) (acts_placed k as')

pub acts_below : (keeps : ℕ → Bool) (f : ℕ → List Act) (k : ℕ) → acts_of (placed_below keeps f k) ≡ gather keeps f k
acts_below keeps f zero = refl
acts_below keeps f (suc k) =
    map-append (λ (p : Placed). p.act) (placed_below keeps f k) (if keeps k then map (at_place k) (f k) else [])
    ∙ ap (λ (bs : List Act). bs ++ acts_of (if keeps k then map (at_place k) (f k) else [])) (acts_below keeps f k)
    ∙ ap (λ (bs : List Act). gather keeps f k ++ bs) (by (keeps k))
  where
    by : (b : Bool) → acts_of (if b then map (at_place k) (f k) else []) ≡ (if b then f k else [])
    by true = acts_placed k (f k)
    by false = refl
