-- Maps that get more keys.
use Rattle.std.proofs.Common.{◌≡◌, ℕ, ◌+◌, ◌<◌, ◌≤◌, length, get_or, take, subst, List, Option, Some, None, refl, ap, ◌∙◌}
use Rattle.std.specs.Prelude.{if◌then◌else◌, unwrap_or}
use Rattle.std.specs.List.{All}
use Rattle.std.proofs.lemmas.List.{take_all}
use Rattle.std.proofs.lemmas.List.Elements.{All-more, All-weaker}
use Rattle.std.specs.Str.{bytes_eq}
use Rattle.contract_store.specs.declared.contract_places.ContractPlaces.{ContractPlaces}
use Rattle.contract_store.specs.Leads.{row_behind, hold_behind}
use Rattle.contract_store.specs.Stored.{Grows}
use Rattle.contract_store.proofs.Maps.{part_kept, keys_kept}

pub grows_none : (ids : List ℕ → Option ContractPlaces) → Grows ids ids
grows_none ids = record { by_row = λ c. refl; by_hold = λ c. refl; kept = λ c h. h }

pub grows_more : (ids1 ids2 ids3 : List ℕ → Option ContractPlaces) → Grows ids1 ids2 → Grows ids2 ids3 → Grows ids1 ids3
grows_more ids1 ids2 ids3 g h = record {
  by_row = λ c. h.by_row c ∙ g.by_row c;
  by_hold = λ c. h.by_hold c ∙ g.by_hold c;
  kept = λ c e. h.kept c (g.kept c e);
}

-- nothing behind a key
abbrev pub nothing : ContractPlaces
nothing = record { row = None; hold = None }

same_row : (o : Option ContractPlaces) → row_behind (Some (unwrap_or o nothing)) ≡ row_behind o
same_row None = refl
same_row (Some b) = refl

same_hold : (o : Option ContractPlaces) → hold_behind (Some (unwrap_or o nothing)) ≡ hold_behind o
same_hold None = refl
same_hold (Some b) = refl

-- a key with what was behind it, or with nothing where it is new
pub grows_key : (key : List ℕ) (v : ContractPlaces) (ids ids' : List ℕ → Option ContractPlaces) → v ≡ unwrap_or (ids key) nothing
    → ((c : List ℕ) → ids' c ≡ (if bytes_eq key c then Some v else ids c)) → Grows ids ids'
grows_key key v ids ids' is put = record {
  by_row = part_kept ids ids' key v put row_behind (ap (λ b. row_behind (Some b)) is ∙ same_row (ids key));
  by_hold = part_kept ids ids' key v put hold_behind (ap (λ b. hold_behind (Some b)) is ∙ same_hold (ids key));
  kept = keys_kept ids ids' key v put;
}

-- one more item, where what holds of the others stays
pub all_more : {X : Type 0} (P Q : X → Type 0) (xs : List X) (i : ℕ) (x : X) → ((y : X) → P y → Q y) → i < length xs → x ≡ get_or xs i x
    → All P (take i xs) → Q x → All Q (take (i + 1) xs)
all_more P Q xs i x stays within is before here = All-more Q xs i x within (All-weaker P Q stays (take i xs) before) (subst Q is here)

-- all of them
pub all_done : {X : Type 0} (P : X → Type 0) (xs : List X) (n : ℕ) → length xs ≤ n → All P (take n xs) → All P xs
all_done P xs n h all = subst (All P) (take_all n xs h) all
