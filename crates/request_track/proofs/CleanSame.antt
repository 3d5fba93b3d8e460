-- The least undecided place, by pairs and by items.
use Rattle.std.proofs.Common.{◌≡◌, ℕ, zero, suc, ◌+◌, ◌<◌, ◌≤◌, Bool, true, false, List, [], ◌∷◌, length, Some, refl, sym, ap, ◌∙◌, subst, inl, inr, arith}
use Rattle.std.specs.Prelude.{slice_get, if◌then◌else◌, ◌⊎◌, ◌&&◌, not, min, nat_eq}
use Rattle.std.proofs.lemmas.Bool.{cases_lt, cases_order, eq-eqb, ne_eqb, or_left, or_right}
use Rattle.canton_model.specs.Log.{Params}
use Rattle.canton_model.specs.Inbox.{Item, clean, clean_from, is_received, is_decided_in}
use Rattle.request_track.specs.Pairs.{Pair, is_open, clean_of}
use Rattle.request_track.specs.CleanLaw.{is_open_at, is_open_item, Tracks}

-- n is the first place at which the test holds, or the end
record IsFirst (test : ℕ → Bool) (end n : ℕ) : Type 0 where
  within : n ≤ end
  none : (m : ℕ) → m < n → test m ≡ false
  here : (n ≡ end) ⊎ (test n ≡ true)

same_first : (test : ℕ → Bool) (end m n : ℕ) → IsFirst test end m → IsFirst test end n → m ≡ n
same_first test end m n x y = elim (cases_order m n) [
  | inl e ↦ e
  | inr w ↦ elim w [
    | inl lt ↦ absurd (elim x.here [ inl e ↦ (let h = y.within in omega arith) | inr t ↦ (let f = y.none m lt in let u : true ≡ false = sym t ∙ f in cc) ])
    | inr gt ↦ absurd (elim y.here [ inl e ↦ (let h = x.within in omega arith) | inr t ↦ (let f = x.none n gt in let u : true ≡ false = sym t ∙ f in cc) ])
  ]
]

abbrev at_it : ℕ → Pair → Bool
at_it m p = nat_eq p.0 m && is_open p

first_pair : (ps : List Pair) (c : ℕ) → IsFirst (is_open_at ps) c (clean_of ps c)
first_pair [] c = record { within = omega arith; none = λ m h. refl; here = inl refl }
first_pair (p ∷ ps) c = by (is_open p) refl (first_pair ps c)
  where
    shut : (m : ℕ) → is_open p ≡ false → at_it m p ≡ false
    shut m e = rw e (no (nat_eq p.0 m))
      where
        no : (b : Bool) → (b && false) ≡ false
        no true = refl
        no false = refl

    by : (b : Bool) → is_open p ≡ b → IsFirst (is_open_at ps) c (clean_of ps c)
        → IsFirst (is_open_at (p ∷ ps)) c (if b then min p.0 (clean_of ps c) else clean_of ps c)
    by false e x = record {
      within = x.within;
      none = λ m h. rw (shut m e) (x.none m h);
      here = elim x.here [ inl h ↦ inl h | inr t ↦ inr (or_right (at_it (clean_of ps c) p) (is_open_at ps (clean_of ps c)) t) ];
    }
    by true e x = record {
      within = (let h = x.within in omega arith);
      none = λ m h. (let off : at_it m p ≡ false = rw (ne_eqb p.0 m (λ w. omega arith)) refl in rw off (x.none m (omega arith)));
      here = elim (cases_lt p.0 (clean_of ps c)) [
        | inl l ↦ (let w : min p.0 (clean_of ps c) ≡ p.0 = omega arith in
            subst (λ n. (n ≡ c) ⊎ (is_open_at (p ∷ ps) n ≡ true)) (sym w) (inr (or_left (at_it p.0 p) (is_open_at ps p.0) (rw (eq-eqb p.0 p.0 refl, e) refl))))
        | inr g ↦ (let w : min p.0 (clean_of ps c) ≡ clean_of ps c = omega arith in
            subst (λ n. (n ≡ c) ⊎ (is_open_at (p ∷ ps) n ≡ true)) (sym w)
            (elim x.here [ inl h ↦ inl h | inr t ↦ inr (or_right (at_it (clean_of ps c) p) (is_open_at ps (clean_of ps c)) t) ]))
      ];
    }

module _ (params : Params) (items : List Item) where
  abbrev open_from : ℕ → List Item → ℕ → Bool
  open_from k rest j = is_open_item params items (k + j) (slice_get rest j)

  first_item : (k : ℕ) (rest : List Item) → IsFirst (open_from k rest) (length rest) (clean_from params items k rest)
  first_item k [] = record { within = omega arith; none = λ m h. absurd (omega arith); here = inl refl }
  first_item k (item ∷ rest) = by (is_received item.content && not (is_decided_in params items k (length items))) refl (first_item (suc k) rest)
    where
      begin : is_open_item params items (k + 0) (Some item) ≡ (is_received item.content && not (is_decided_in params items k (length items)))
      begin = ap (λ n. is_open_item params items n (Some item)) (omega arith)

      next : (j : ℕ) → open_from (suc k) rest j ≡ open_from k (item ∷ rest) (suc j)
      next j = ap (λ n. is_open_item params items n (slice_get rest j)) (omega arith)

      by : (b : Bool) → (is_received item.content && not (is_decided_in params items k (length items))) ≡ b
          → IsFirst (open_from (suc k) rest) (length rest) (clean_from params items (suc k) rest)
          → IsFirst (open_from k (item ∷ rest)) (suc (length rest)) (if b then 0 else suc (clean_from params items (suc k) rest))
      by true e x = record { within = omega arith; none = λ m h. absurd (omega arith); here = inr (begin ∙ e) }
      by false e x = record {
        within = (let h = x.within in omega arith);
        none = none e x;
        here = elim x.here [ inl h ↦ inl (ap suc h) | inr t ↦ inr (sym (next (clean_from params items (suc k) rest)) ∙ t) ];
      }
        where
          none : (is_received item.content && not (is_decided_in params items k (length items))) ≡ false
              → IsFirst (open_from (suc k) rest) (length rest) (clean_from params items (suc k) rest)
              → (m : ℕ) → m < suc (clean_from params items (suc k) rest) → open_from k (item ∷ rest) m ≡ false
          none e x zero h = begin ∙ e
          none e x (suc m) h = sym (next m) ∙ x.none m (omega arith)

  moved : (test test' : ℕ → Bool) (end n : ℕ) → ((m : ℕ) → test' m ≡ test m) → IsFirst test end n → IsFirst test' end n
  moved test test' end n e x = record {
    within = x.within;
    none = λ m h. e m ∙ x.none m h;
    here = elim x.here [ inl h ↦ inl h | inr t ↦ inr (e n ∙ t) ];
  }

  first_open : (pairs : List Pair) → Tracks params items pairs → IsFirst (is_open_at pairs) (length items) (clean params items)
  first_open pairs tracks = moved (open_from 0 items) (is_open_at pairs) (length items) (clean params items)
      (λ m. tracks m ∙ ap (λ n. is_open_item params items n (slice_get items m)) (omega arith)) (first_item 0 items)

pub clean_same : (params : Params) (items : List Item) (pairs : List Pair) → Tracks params items pairs → clean_of pairs (length items) ≡ clean params items
clean_same params items pairs tracks =
    same_first (is_open_at pairs) (length items) (clean_of pairs (length items)) (clean params items) (first_pair pairs (length items))
    (first_open params items pairs tracks)
