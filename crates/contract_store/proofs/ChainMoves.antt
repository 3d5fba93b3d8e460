-- What it does to chains that the live items move towards the start.
use Rattle.std.proofs.Common.{◌≡◌, ℕ, suc, ◌+◌, ◌<◌, ◌≤◌, Bool, true, false, cond, List, [], ◌∷◌, ◌++◌, length, Option, Some, None, is_some, refl}
use Rattle.std.proofs.Common.{sym, ap, ◌∙◌, inl, inr, arith}
use Rattle.std.specs.Prelude.{◌&&◌, ◌⊎◌, slice_get, if◌then◌else◌}
use Rattle.std.proofs.lemmas.Bool.{cases_order, and_from, lt-ltb, le-ltb}
use Rattle.std.proofs.lemmas.List.{length-append}
use Rattle.contract_store.specs.Chains.{Link, is_live_at, IsLast, Chains}
use Rattle.contract_store.specs.Moved.{among, HalfMoved}
use Rattle.contract_store.proofs.Places.{get_within}
use Rattle.contract_store.proofs.ChainSteps.{chains_push, chains_as}
use Rattle.contract_store.proofs.StoreSteps.{empty_chains}

among_in : (n i : ℕ) → i < n → among n (Some i) ≡ Some i
among_in n i h = ap (λ b. cond b (Some i) None) (lt-ltb i n h)

among_out : (n i : ℕ) → n ≤ i → among n (Some i) ≡ None
among_out n i h = ap (λ b. cond b (Some i) None) (le-ltb i n h)

among_none : (o : Option ℕ) → among 0 o ≡ None
among_none None = refl
among_none (Some i) = among_out 0 i (omega arith)

false_right : (a b : Bool) → b ≡ false → (a && b) ≡ false
false_right true b e = e
false_right false b e = refl

module _ {K : Type 0} (eq : K → K → Bool) (same : (a b : K) → eq a b ≡ true → a ≡ b) (equal : (a : K) → eq a a ≡ true) where
  leads_there : (links : List (Link K)) (l : Link K) (i : ℕ) → slice_get links i ≡ Some l → l.live ≡ true → (o : Option ℕ) → IsLast eq links l.key o
      → is_some o ≡ true
  leads_there links l i at live None last =
      absurd (let u : true ≡ false = sym (and_from l.live (eq l.key l.key) live (equal l.key)) ∙ last.none i l (omega arith) at in cc)
  leads_there links l i at live (Some j) last = refl

  -- before the first is looked at
  pub chains_begin : (links : List (Link K)) (f : K → Option ℕ) → Chains eq links f → HalfMoved eq links 0 [] f
  chains_begin links f chains = record {
    chains = empty_chains eq _ (λ k. among_none (f k));
    places = λ k i e. inr (omega arith);
    ahead = λ k i e past. (chains.last k).here i e;
    there = λ i l at live. leads_there links l i at live (f l.key) (chains.last l.key);
  }

  module _ (links : List (Link K)) (next : ℕ) (l : Link K) (at : slice_get links next ≡ Some l) where
    -- an item with another key, or that isn't live, is not what a key leads to
    after : (k : K) (i : ℕ) → is_live_at eq k l ≡ false → next ≤ i → (m : Link K) → slice_get links i ≡ Some m → is_live_at eq k m ≡ true → suc next ≤ i
    after k i dead past m there live = elim (cases_order i next) [
      | inl w ↦ absurd (let p : Some l ≡ Some m = sym at ∙ ap (slice_get links) (sym w) ∙ there in
          let s : l ≡ m = cc in
          let u : true ≡ false = sym live ∙ ap (is_live_at eq k) (sym s) ∙ dead in cc)
      | inr w ↦ elim w [
        | inl under ↦ absurd (omega arith)
        | inr over ↦ (omega arith)
      ]
    ]

    module _ (moved : List (Link K)) (f : K → Option ℕ) (half : HalfMoved eq links next moved f) where
      further : (k : K) (i : ℕ) → is_live_at eq k l ≡ false → f k ≡ Some i → next ≤ i → suc next ≤ i
      further k i dead e past = let found = half.ahead k i e past in after k i dead past found.0 found.1 found.2

      places_on : (k : K) (i : ℕ) → is_live_at eq k l ≡ false → f k ≡ Some i → (i < length moved) ⊎ (suc next ≤ i)
      places_on k i dead e = elim (half.places k i e) [ inl w ↦ inl w | inr w ↦ inr (further k i dead e w) ]

      -- one that isn't live is passed
      pub chains_passed : l.live ≡ false → HalfMoved eq links (suc next) moved f
      chains_passed dead = record {
        chains = half.chains;
        places = λ k i e. places_on k i (ap (λ b. b && eq l.key k) dead) e;
        ahead = λ k i e past. half.ahead k i e (omega arith);
        there = half.there;
      }

      -- a live one is moved
      module _ (order : length moved ≤ next) (x : Link K) (key : x.key ≡ l.key) (live : x.live ≡ true) (before : x.before ≡ among (length moved) (f x.key))
          (g : K → Option ℕ) (put : (q : K) → g q ≡ (if eq x.key q then Some (length moved) else f q)) where
        apart : (q : K) → eq x.key q ≡ false → is_live_at eq q l ≡ false
        apart q e = false_right l.live (eq l.key q) (ap (λ k. eq k q) (sym key) ∙ e)

        longer : length (moved ++ x ∷ []) ≡ suc (length moved)
        longer = let h : length (moved ++ x ∷ []) ≡ length moved + 1 = length-append moved (x ∷ []) in omega arith

        here : (q : K) → eq x.key q ≡ true → g q ≡ Some (length moved)
        here q e = put q ∙ ap (λ b. cond b (Some (length moved)) (f q)) e

        elsewhere : (q : K) → eq x.key q ≡ false → g q ≡ f q
        elsewhere q e = put q ∙ ap (λ b. cond b (Some (length moved)) (f q)) e

        stays : (q : K) → eq x.key q ≡ false → (o : Option ℕ) → f q ≡ o → among (suc (length moved)) o ≡ among (length moved) o
        stays q e None w = refl
        stays q e (Some i) w = elim (places_on q i (apart q e) w) [
          | inl h ↦ among_in (suc (length moved)) i (omega arith) ∙ sym (among_in (length moved) i h)
          | inr h ↦ among_out (suc (length moved)) i (let o = order in omega arith) ∙ sym (among_out (length moved) i (let o = order in omega arith))
        ]

        leads : (q : K) (b : Bool) → eq x.key q ≡ b → among (suc (length moved)) (g q) ≡ cond b (Some (length moved)) (among (length moved) (f q))
        leads q true e = ap (among (suc (length moved))) (here q e) ∙ among_in (suc (length moved)) (length moved) (omega arith)
        leads q false e = ap (among (suc (length moved))) (elsewhere q e) ∙ stays q e (f q) refl

        leads_all : (q : K) → among (length (moved ++ x ∷ [])) (g q) ≡ (if eq x.key q then Some (length moved) else among (length moved) (f q))
        leads_all q = ap (λ n. among n (g q)) longer ∙ leads q (eq x.key q) refl

        places_now : (q : K) (b : Bool) → eq x.key q ≡ b → (i : ℕ) → g q ≡ Some i → (i < length (moved ++ x ∷ [])) ⊎ (suc next ≤ i)
        places_now q true e i w = let p : Some (length moved) ≡ Some i = sym (here q e) ∙ w in let s : length moved ≡ i = cc in let n = longer in inl (omega arith)
        places_now q false e i w = elim (places_on q i (apart q e) (sym (elsewhere q e) ∙ w)) [
          | inl h ↦ (let n = longer in inl (omega arith))
          | inr h ↦ inr h
        ]

        ahead_now : (q : K) (b : Bool) → eq x.key q ≡ b → (i : ℕ) → g q ≡ Some i → suc next ≤ i
            → (m : Link K) × (slice_get links i ≡ Some m) × (is_live_at eq q m ≡ true)
        ahead_now q true e i w past =
            absurd (let p : Some (length moved) ≡ Some i = sym (here q e) ∙ w in let s : length moved ≡ i = cc in let o = order in omega arith)
        ahead_now q false e i w past = half.ahead q i (sym (elsewhere q e) ∙ w) (omega arith)

        there_now : (q : K) (b : Bool) → eq x.key q ≡ b → is_some (f q) ≡ true → is_some (g q) ≡ true
        there_now q true e h = ap is_some (here q e)
        there_now q false e h = ap is_some (elsewhere q e) ∙ h

        pub chains_moved : HalfMoved eq links (suc next) (moved ++ x ∷ []) g
        chains_moved = record {
          chains = chains_as eq same equal (moved ++ x ∷ []) (λ q. if eq x.key q then Some (length moved) else among (length moved) (f q))
              (λ q. among (length (moved ++ x ∷ [])) (g q))
              (chains_push eq same equal moved (λ q. among (length moved) (f q)) half.chains x live before) leads_all;
          places = λ q i w. places_now q (eq x.key q) refl i w;
          ahead = λ q i w past. ahead_now q (eq x.key q) refl i w past;
          there = λ i m to on. there_now m.key (eq x.key m.key) refl (half.there i m to on);
        }

  -- after the last
  pub chains_end : (links moved : List (Link K)) (next : ℕ) (f : K → Option ℕ) → HalfMoved eq links next moved f → length links ≤ next → Chains eq moved f
  chains_end links moved next f half past =
      chains_as eq same equal moved (λ k. among (length moved) (f k)) f half.chains (λ k. by k (f k) refl)
    where
      by : (k : K) (o : Option ℕ) → f k ≡ o → o ≡ among (length moved) o
      by k None w = refl
      by k (Some i) w = elim (half.places k i w) [
        | inl h ↦ sym (among_in (length moved) i h)
        | inr h ↦ absurd (let found = half.ahead k i w h in let b = get_within links i found.0 found.1 in omega arith)
      ]
