-- A rule is asked about one row more.
use Rattle.std.proofs.Common.{◌≡◌, ◌⊎◌, ℕ, zero, suc, ◌+◌, ◌<◌, ◌≤◌, true, false, List, [], ◌∷◌, ◌++◌, Some, Ok, None, take, length, map, Contains, refl, sym, ap, ◌∙◌, subst, inl, inr, arith, append_assoc, append-nil}
use Rattle.std.specs.Prelude.{slice_get}
use Rattle.std.proofs.Math.ListN.{get_or}
use Rattle.std.specs.List.{list_any}
use Rattle.std.specs.Str.{bytes_eq}
use Rattle.std.proofs.lemmas.Bool.{both_ways, or_cases}
use Rattle.std.proofs.lemmas.List.{take_more, length-append, length-map, map-append, take-append-le}
use Rattle.std.proofs.lemmas.List.Elements.{Contains-append_left, Contains-push, Contains-push_cases}
use Rattle.std.proofs.lemmas.List.Folds.{list_any-append}
use Rattle.std.proofs.lemmas.Option.{same_Some, none-some, slice_get_within}
use Rattle.std.proofs.Math.Seq.{take-append_seam}
use Rattle.std.proofs.lemmas.Slice.Eq.{bytes_eq-Decides}
use Rattle.ledger_model.proofs.Lists.{In, in_from_Contains, contains_from_In, from_any}
use Rattle.ledger_terms.specs.declared.active_row.ActiveRow.{ActiveRow}
use Rattle.trigger_rules.specs.declared.caused.Caused.{Caused}
use Rattle.trigger_rules.specs.declared.rule.Rule.{Rule}
use Rattle.trigger_rules.specs.Answers.{Answers}
use Rattle.trigger_rules.specs.Kept.{or_none}
use Rattle.trigger_rules.specs.Firing.{AsksOne, Fires, FiresOn, Rise, contracts_of, has_fired}

-- one row more of a list that is walked by places
pub take_item : (items xs : List ActiveRow) (i : ℕ) (x : ActiveRow) → items ≡ xs → i < length items → x ≡ get_or items i x
    → take (i + 1) xs ≡ take i xs ++ x ∷ []
take_item items xs i x same within is = rw (← same) (take_more items i x within ∙ ap (λ (z : ActiveRow). take i items ++ z ∷ []) (sym is))

module _ {X : Type 0} where
  get_push_cases : (xs : List X) (y : X) (k : ℕ) (x : X) → slice_get (xs ++ y ∷ []) k ≡ Some x → (slice_get xs k ≡ Some x) ⊎ ((k ≡ length xs) × (y ≡ x))
  get_push_cases [] y zero x e = inr (refl, same_Some y x e)
  get_push_cases [] y (suc k) x e = absurd (none-some x e)
  get_push_cases (z ∷ xs) y zero x e = inl e
  get_push_cases (z ∷ xs) y (suc k) x e = elim (get_push_cases xs y k x e) [ inl l ↦ inl l | inr r ↦ inr (ap suc r.0, r.1) ]

  get_more : (xs ys : List X) (k : ℕ) (x : X) → slice_get xs k ≡ Some x → slice_get (xs ++ ys) k ≡ Some x
  get_more [] ys k x e = absurd (none-some x e)
  get_more (z ∷ xs) ys zero x e = e
  get_more (z ∷ xs) ys (suc k) x e = get_more xs ys k x e

  some_at : (xs : List X) (k : ℕ) → k < length xs → (x : X) × (slice_get xs k ≡ Some x)
  some_at [] k lt = absurd (omega (arith, lt))
  some_at (z ∷ xs) zero lt = (z, refl)
  some_at (z ∷ xs) (suc k) lt = some_at xs k (omega (arith, lt))

  get_last : (xs : List X) (y : X) → slice_get (xs ++ y ∷ []) (length xs) ≡ Some y
  get_last [] y = refl
  get_last (z ∷ xs) y = get_last xs y

module _ (may : Answers) (rule : Rule) (round now : ℕ) (fired : List (List ℕ)) where
  pub asked_none : Fires may rule round now fired [] []
  asked_none =
      record {
        places = [];
        in_order = λ i j a b lt x y. absurd (none-some a x);
        each_place = refl;
        each = λ k at one x y. absurd (none-some at x);
        asked = λ row c. absurd (omega (arith, c.1));
      }

  -- what was caused stays so over one row more, of which something is said
  stays : (rows : List ActiveRow) (caused : List Caused) (row : ActiveRow) → Fires may rule round now fired rows caused
      → (has_fired fired (row.known).id ≡ false → ((one : Caused) × Contains caused one × (one.contract ≡ (row.known).id)) ⊎ may rule.name row.known (Ok None))
      → Fires may rule round now fired (rows ++ row ∷ []) caused
  stays rows caused row f said =
      record {
        places = f.places;
        in_order = f.in_order;
        each_place = f.each_place;
        each = λ k at one x y. let e = f.each k at one x y in (e.0, get_more rows (row ∷ []) at e.0 e.1, e.2);
        asked = λ other c fresh. elim (Contains-push_cases rows row other c) [
          | inl there ↦ f.asked other there fresh
          | inr same ↦ subst (λ (x : ActiveRow). ((one : Caused) × Contains caused one × (one.contract ≡ (x.known).id)) ⊎ may rule.name x.known (Ok None))
              same (said (ap (λ (x : ActiveRow). has_fired fired (x.known).id) same ∙ fresh))
        ];
      }

  in_contracts : (caused : List Caused) (id : List ℕ) → In id (contracts_of caused) → (one : Caused) × In one caused × (one.contract ≡ id)
  in_contracts [] id i = absurd i
  in_contracts (x ∷ caused) id (inl same) = (x, inl refl, same)
  in_contracts (x ∷ caused) id (inr there) = let r = in_contracts caused id there in (r.0, inr r.1, r.2)

  -- a contract on which it fired now
  caused_on : (caused : List Caused) (id : List ℕ) → has_fired (contracts_of caused) id ≡ true
      → (one : Caused) × Contains caused one × (one.contract ≡ id)
  caused_on caused id h =
      let found = from_any (bytes_eq id) (contracts_of caused) h in
      let one = in_contracts caused found.0 found.1 in
      (one.0, contains_from_In caused one.0 one.1, one.2 ∙ sym ((bytes_eq-Decides id found.0).0 found.2))

  pub asked_fired : (rows : List ActiveRow) (caused : List Caused) (row : ActiveRow) → Fires may rule round now fired rows caused
      → has_fired (fired ++ contracts_of caused) (row.known).id ≡ true → Fires may rule round now fired (rows ++ row ∷ []) caused
  asked_fired rows caused row f h =
      let p = bytes_eq (row.known).id in
      stays rows caused row f (λ fresh. elim (or_cases (list_any p fired) (list_any p (contracts_of caused)) (sym (list_any-append p fired (contracts_of caused)) ∙ h)) [
        | inl old ↦ absurd (both_ways _ fresh old)
        | inr new ↦ inl (caused_on caused (row.known).id new)
      ])

  pub answered_none : (rows : List ActiveRow) (caused : List Caused) (row : ActiveRow) → Fires may rule round now fired rows caused
      → may rule.name row.known (Ok None) → Fires may rule round now fired (rows ++ row ∷ []) caused
  answered_none rows caused row f answer = stays rows caused row f (λ fresh. inr answer)

  module _ (rows : List ActiveRow) (caused : List Caused) (row : ActiveRow) (one : Caused) (f : Fires may rule round now fired rows caused)
      (on : FiresOn may rule round now (fired ++ contracts_of caused) row.known one) where
    place_below : (i a : ℕ) → slice_get f.places i ≡ Some a → a < length rows
    place_below i a x =
        let within = slice_get_within f.places i a x in
        let there = some_at caused i (omega (arith, within, f.each_place)) in
        let e = f.each i a there.0 x there.1 in
        slice_get_within rows a e.0 e.1

    rises : Rise (f.places ++ length rows ∷ [])
    rises i j a b lt x y =
        elim (get_push_cases f.places (length rows) i a x) [
          | inl here ↦ elim (get_push_cases f.places (length rows) j b y) [
            | inl there ↦ f.in_order i j a b lt here there
            | inr last ↦ let below = place_below i a here in omega (arith, below, last.1)
          ]
          | inr last ↦ elim (get_push_cases f.places (length rows) j b y) [
            | inl there ↦ let within = slice_get_within f.places j b there in absurd (omega (arith, lt, within, last.0))
            | inr same ↦ absurd (omega (arith, lt, last.0, same.0))
          ]
        ]

    abbrev OnRow : ℕ → ℕ → Caused → Type 0
    OnRow k at x = (r : ActiveRow) × (slice_get (rows ++ row ∷ []) at ≡ Some r)
        × FiresOn may rule round now (fired ++ contracts_of (take k (caused ++ one ∷ []))) r.known x

    earlier : (k at : ℕ) (x : Caused) → slice_get f.places k ≡ Some at → slice_get caused k ≡ Some x → OnRow k at x
    earlier k at x p c =
        let e = f.each k at x p c in
        let within = slice_get_within caused k x c in
        let same : take k (caused ++ one ∷ []) ≡ take k caused = take-append-le k caused (one ∷ []) (omega (arith, within)) in (
          e.0,
          get_more rows (row ∷ []) at e.0 e.1,
          subst (λ (xs : List Caused). FiresOn may rule round now (fired ++ contracts_of xs) (e.0).known x) (sym same) e.2,
        )

    newest : OnRow (length caused) (length rows) one
    newest = (
      row,
      get_last rows row,
      subst (λ (xs : List Caused). FiresOn may rule round now (fired ++ contracts_of xs) row.known one) (sym (take-append_seam caused (one ∷ []))) on,
    )

    pub fires_once_more : Fires may rule round now fired (rows ++ row ∷ []) (caused ++ one ∷ [])
    fires_once_more =
        record {
          places = f.places ++ length rows ∷ [];
          in_order = rises;
          each_place = length-append f.places (length rows ∷ []) ∙ (ap (λ (n : ℕ). n + 1) f.each_place ∙ sym (length-append caused (one ∷ [])));
          each = λ k at x p c. elim (get_push_cases f.places (length rows) k at p) [
            | inl here ↦ elim (get_push_cases caused one k x c) [
              | inl there ↦ earlier k at x here there
              | inr last ↦ let within = slice_get_within f.places k at here in absurd (omega (arith, within, last.0, f.each_place))
            ]
            | inr last ↦ elim (get_push_cases caused one k x c) [
              | inl there ↦ let within = slice_get_within caused k x there in absurd (omega (arith, within, last.0, f.each_place))
              | inr same ↦ subst (λ (y : Caused). OnRow k at y) same.1 (subst (λ (n : ℕ). OnRow k n one) last.1 (subst (λ (n : ℕ). OnRow n (length rows) one) (sym same.0) newest))
            ]
          ];
          asked = λ other c fresh. elim (Contains-push_cases rows row other c) [
            | inl there ↦ elim (f.asked other there fresh) [
              | inl fires ↦ inl (fires.0, Contains-append_left caused (one ∷ []) fires.0 fires.1, fires.2)
              | inr answer ↦ inr answer
            ]
            | inr same ↦ inl (one, Contains-push caused one, ap (λ (x : Caused). x.contract) on.is ∙ ap (λ (x : ActiveRow). (x.known).id) same)
          ];
        }

  -- so many rows were asked about, and what holds then
  pub record AskedSo (rows : List ActiveRow) (fired' : List (List ℕ)) (caused : List Caused) : Type 0 where
    pub so_far : fired' ≡ fired ++ contracts_of caused
    pub few : length caused ≤ length rows
    pub fires : Fires may rule round now fired rows caused

  pub nothing_asked : AskedSo [] fired []
  nothing_asked = record { so_far = sym (append-nil fired); few = omega arith; fires = asked_none }

  pub one_asked : (rows : List ActiveRow) (row : ActiveRow) (caused caused' : List Caused) (fired' fired'' : List (List ℕ)) → AskedSo rows fired' caused
      → AsksOne may rule round now fired' row caused fired'' caused' → AskedSo (rows ++ row ∷ []) fired'' caused'
  one_asked rows row caused caused' fired' fired'' a (inl h) =
      rw (h.1, h.2) (record {
        so_far = a.so_far;
        few = let l = length-append rows (row ∷ []) in let f = a.few in omega arith;
        fires = asked_fired rows caused row a.fires (ap (λ (ids : List (List ℕ)). has_fired ids (row.known).id) (sym a.so_far) ∙ h.0);
      })
  one_asked rows row caused caused' fired' fired'' a (inr (inl h)) =
      rw (h.1, h.2) (record {
        so_far = a.so_far;
        few = let l = length-append rows (row ∷ []) in let f = a.few in omega arith;
        fires = answered_none rows caused row a.fires h.0;
      })
  one_asked rows row caused caused' fired' fired'' a (inr (inr h)) =
      let on : FiresOn may rule round now (fired ++ contracts_of caused) row.known h.0 =
      subst (λ (ids : List (List ℕ)). FiresOn may rule round now ids row.known h.0) a.so_far h.1 in
      let its : (h.0).contract ≡ (row.known).id = ap (λ (x : Caused). x.contract) (h.1).is in
      rw (h.2, h.3) (record {
        so_far = ap (λ (ids : List (List ℕ)). ids ++ (row.known).id ∷ []) a.so_far
            ∙ (append_assoc fired (contracts_of caused) ((row.known).id ∷ [])
            ∙ ap (λ (ids : List (List ℕ)). fired ++ ids)
            (ap (λ (id : List ℕ). contracts_of caused ++ id ∷ []) (sym its) ∙ sym (map-append (λ (x : Caused). x.contract) caused (h.0 ∷ []))));
        few = let l = length-append rows (row ∷ []) in let k = length-append caused (h.0 ∷ []) in let f = a.few in omega arith;
        fires = fires_once_more rows caused row h.0 a.fires on;
      })

  -- how often it has fired then
  pub count_so : (rows : List ActiveRow) (fired' : List (List ℕ)) (caused : List Caused) → AskedSo rows fired' caused
      → length fired' ≤ length fired + length rows
  count_so rows fired' caused a =
      let l = length-append fired (contracts_of caused) in
      let c : length (contracts_of caused) ≡ length caused = length-map caused (λ (x : Caused). x.contract) in
      let e = ap length a.so_far in
      let f = a.few in
      omega (arith, l, c, e, f)

  pub first_so : (rows : List ActiveRow) (fired' : List (List ℕ)) (caused : List Caused) → AskedSo rows fired' caused
      → take (length fired) fired' ≡ fired
  first_so rows fired' caused a = ap (take (length fired)) a.so_far ∙ take-append_seam fired (contracts_of caused)

-- an empty list behind others changes nothing
pub none_more : (lists : List (List (List ℕ))) (k : ℕ) → or_none (slice_get (lists ++ [] ∷ []) k) ≡ or_none (slice_get lists k)
none_more [] zero = refl
none_more [] (suc k) = refl
none_more (ids ∷ lists) zero = refl
none_more (ids ∷ lists) (suc k) = none_more lists k
