-- A copy of a log, entry after entry.
use Rattle.std.proofs.Common.{◌≡◌, ℕ, zero, suc, ◌+◌, ◌<◌, List, [], ◌∷◌, ◌++◌, length, take, Some, refl, sym, ap, ◌∙◌, arith}
use Rattle.std.specs.Prelude.{slice_get}
use Rattle.std.proofs.lemmas.List.{length-append, length-take-le}
use Rattle.canton_model.specs.declared.entry.Entry.{Entry}
use Rattle.log_row.specs.LogPrefix.{LogPrefix}
use Rattle.seq_log.specs.Sequenced.{Sequenced, prefix_of}
use Rattle.seq_log.specs.Slips.{prefix_to}
use Rattle.world_model.proofs.Steps.{take_next}

last_of : (xs : List Entry) (n : ℕ) → slice_get (take (suc n) xs) n ≡ slice_get xs n
last_of [] n = refl
last_of (x ∷ xs) zero = refl
last_of (x ∷ xs) (suc n) = last_of xs n

-- one more entry, which the slip of its place has
next_entry : (list log slip : List Entry) (e : Entry) → log ≡ take (length log) list → length log < length list → slip ≡ take (length log + 1) list
    → ((k : ℕ) → length slip ≡ k + 1 → slice_get slip k ≡ Some e) → (log' : List Entry) → log' ≡ log ++ e ∷ [] → log' ≡ take (length log') list
next_entry list log slip e same lt begins entry log' more =
    let n = length log in
    let one : n + 1 ≡ suc n = omega arith in
    let many : length slip ≡ n + 1 = ap length begins ∙ length-take-le (n + 1) list (omega (arith, lt)) in
    let at : slice_get list n ≡ Some e =
    sym (last_of list n) ∙ (ap (λ (xs : List Entry). slice_get xs n) (sym (begins ∙ ap (λ (k : ℕ). take k list) one)) ∙ entry n many) in
    let longer : length log' ≡ suc n = ap length more ∙ (length-append log (e ∷ []) ∙ one) in
    more ∙ (ap (λ (xs : List Entry). xs ++ e ∷ []) same ∙ (sym (take_next n list e at) ∙ ap (λ (k : ℕ). take k list) (sym longer)))

module _ (s q : Sequenced) (same : q ≡ s) (log : List Entry) (begins : log ≡ take (length log) s.list) (place : ℕ) (at : place ≡ length log) where
  within : place < length q.list → length log < length s.list
  within lt = let many : length q.list ≡ length s.list = ap (λ (x : Sequenced). length x.list) same in omega (arith, lt, many, at)

  pub copied_on : place < length q.list → (slip : LogPrefix) → slip ≡ prefix_to (prefix_of q) (place + 1) → (e copy : Entry)
      → ((k : ℕ) → length slip.list ≡ k + 1 → slice_get slip.list k ≡ Some e) → copy ≡ e → (log' : List Entry) → log' ≡ log ++ copy ∷ []
      → log' ≡ take (length log') s.list
  copied_on lt slip is e copy entry exact log' more =
      let list : slip.list ≡ take (length log + 1) s.list =
      ap (λ (x : LogPrefix). x.list) is
      ∙ (ap (λ (x : Sequenced). take (place + 1) x.list) same ∙ ap (λ (k : ℕ). take (k + 1) s.list) at) in
      next_entry s.list log slip.list e begins (within lt) list entry log' (more ∙ ap (λ (x : Entry). log ++ x ∷ []) exact)
