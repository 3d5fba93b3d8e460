-- Formats compose: one after another, seen through a function, behind a tag, and a count with so many items.
use Rattle.std.proofs.Common.{◌≡◌, ℕ, zero, suc, Bool, true, List, [], ◌∷◌, ◌++◌, length, Result, Ok, Err, refl, sym, ap, subst, ◌∙◌, append_assoc, append-nil, cond}
use Rattle.std.specs.List.{flat_map, AllByRecursion}
use Rattle.wire_form.specs.Formats.{◌>>=◌, Reading, both_at, seen_at, one_more, items_at, counted_at, any_item}
use Rattle.wire_form.proofs.FormatLaws.{IsBytes, Takes, Takes-then, Reads, bind_ok, ok_is, test_ok}

-- ---- one after another

pub both_reads : {A B : Type 0} (s : A → List ℕ) (F : A → Type 0) (f : Reading A) (t : B → List ℕ) (G : B → Type 0) (g : Reading B) → Reads s F f → Reads t G g
    → Reads (λ (p : A × B). s p.0 ++ t p.1) (λ p. F p.0 × G p.1) (both_at f g)
both_reads {A} {B} s F f t G g first second = record {
  takes = λ bytes x fits e.
      let b = bind_ok (f bytes) (λ x. g x.1 >>= λ y. Ok ((x.0, y.0), y.1)) x e in
      let d = bind_ok (g b.0.1) (λ y. Ok ((b.0.0, y.0), y.1)) x b.2 in
      let p = first.takes bytes b.0 fits b.1 in
      let q = second.takes b.0.1 d.0 p.0.rest_fits d.1 in
      subst (λ (y : (A × B) × List ℕ). Takes bytes (s y.0.0 ++ t y.0.1) y.1 × (F y.0.0 × G y.0.1)) (ok_is ((b.0.0, d.0.0), d.0.1) x d.2)
      (Takes-then bytes (s b.0.0) b.0.1 (t d.0.0) d.0.1 p.0 q.0, (p.1, q.1));
  again = λ p rest h.
      ap (both_at f g) (append_assoc (s p.0) (t p.1) rest)
      ∙ ap (λ (r : Result (A × List ℕ) ℕ). r >>= λ x. g x.1 >>= λ y. Ok ((x.0, y.0), y.1)) (first.again p.0 (t p.1 ++ rest) h.0)
      ∙ ap (λ (r : Result (B × List ℕ) ℕ). r >>= λ y. Ok ((p.0, y.0), y.1)) (second.again p.1 rest h.1);
}

-- ---- seen through two functions that undo each other, as the parts of a record

pub seen_reads : {A B : Type 0} (to : A → B) (from : B → A) → ((a : A) → from (to a) ≡ a) → ((b : B) → to (from b) ≡ b) → (s : A → List ℕ) (F : A → Type 0) (f : Reading A) → Reads s F f
    → Reads (λ b. s (from b)) (λ b. F (from b)) (seen_at to f)
seen_reads {A} {B} to from back forth s F f r = record {
  takes = λ bytes x fits e.
      let b = bind_ok (f bytes) (λ x. Ok (to x.0, x.1)) x e in
      let p = r.takes bytes b.0 fits b.1 in
      subst (λ (y : B × List ℕ). Takes bytes (s (from y.0)) y.1 × F (from y.0)) (ok_is (to b.0.0, b.0.1) x b.2) (rw (back b.0.0) p);
  again = λ b rest h.
      ap (λ (q : Result (A × List ℕ) ℕ). q >>= λ x. Ok (to x.0, x.1)) (r.again (from b) rest h) ∙ ap (λ (v : B). Ok (v, rest)) (forth b);
}

-- the same format, with what is in range said otherwise
pub ranged_reads : {A : Type 0} (s : A → List ℕ) (F G : A → Type 0) (f : Reading A) → ((a : A) → F a → G a) → ((a : A) → G a → F a) → Reads s F f → Reads s G f
ranged_reads s F G f to from r = record {
  takes = λ bytes x fits e. let t = r.takes bytes x fits e in (t.0, to x.0 t.1);
  again = λ a rest h. r.again a rest (from a h);
}

-- ---- behind a tag, under a constructor

pub tag_takes : (tag : ℕ) (rest text after : List ℕ) → Takes rest text after → Takes (tag ∷ rest) (tag ∷ text) after
tag_takes tag rest text after t = record { parts = ap (λ (k : List ℕ). tag ∷ k) t.parts; rest_fits = t.rest_fits }

-- what was read under a constructor
pub under : {A B : Type 0} (make : A → B) (s : A → List ℕ) (F : A → Type 0) (read : Reading A) → Reads s F read → (bytes : List ℕ) (y : B × List ℕ) → IsBytes bytes → seen_at make read bytes ≡ Ok y
    → (a : A) × (make a ≡ y.0) × Takes bytes (s a) y.1 × F a
under {A} {B} make s F read r bytes y fits e =
    let b = bind_ok (read bytes) (λ x. Ok (make x.0, x.1)) y e in
    let t = r.takes bytes b.0 fits b.1 in
    let same : (make b.0.0, b.0.1) ≡ y = ok_is (make b.0.0, b.0.1) y b.2 in
    (b.0.0, ap (λ (p : B × List ℕ). p.0) same, subst (λ (k : List ℕ). Takes bytes (s b.0.0) k) (ap (λ (p : B × List ℕ). p.1) same) t.0, t.1)

-- ---- a count and so many items

-- each is admitted behind those before it
abbrev pub Admits : {A : Type 0} → (List A → A → Bool) → List A → List A → Type 0
Admits admits so_far [] = Unit {0}
Admits admits so_far (x ∷ xs) = (admits so_far x ≡ true) × Admits admits (so_far ++ x ∷ []) xs

-- any item is admitted
pub any_admitted : {A : Type 0} (so_far xs : List A) → Admits any_item so_far xs
any_admitted so_far [] = tt
any_admitted so_far (x ∷ xs) = (refl, any_admitted (so_far ++ x ∷ []) xs)

module _ {A : Type 0} (s : A → List ℕ) (F : A → Type 0) (item : Reading A) (admits : List A → A → Bool) (r : Reads s F item) where
  -- what one more item took
  one_more_takes : (so_far : List A) (bytes : List ℕ) (y : List A × List ℕ) → IsBytes bytes → one_more admits item so_far bytes ≡ Ok y
      → (x : A) × (y.0 ≡ so_far ++ x ∷ []) × Takes bytes (s x) y.1 × F x × (admits so_far x ≡ true)
  one_more_takes so_far bytes y fits e =
      let b = bind_ok (item bytes) (λ x. cond (admits so_far x.0) (Ok (so_far ++ x.0 ∷ [], x.1)) (Err (length bytes))) y e in
      let t = r.takes bytes b.0 fits b.1 in
      let g = test_ok (admits so_far b.0.0) (length bytes) (Ok (so_far ++ b.0.0 ∷ [], b.0.1)) y b.2 in
      let same : (so_far ++ b.0.0 ∷ [], b.0.1) ≡ y = ok_is (so_far ++ b.0.0 ∷ [], b.0.1) y g.1 in
      (b.0.0, ap (λ (p : List A × List ℕ). p.0) (sym same), subst (λ (k : List ℕ). Takes bytes (s b.0.0) k) (ap (λ (p : List A × List ℕ). p.1) same) t.0, t.1, g.0)

  -- what a reading of so many more items took
  record Took (n : ℕ) (so_far : List A) (bytes : List ℕ) (x : List A × List ℕ) : Type 0 where
    new : List A
    all : x.0 ≡ so_far ++ new
    count : length new ≡ n
    taken : Takes bytes (flat_map s new) x.1
    fit : AllByRecursion F new
    admitted : Admits admits so_far new

  items_take : (n : ℕ) (so_far : List A) (bytes : List ℕ) (x : List A × List ℕ) → IsBytes bytes → items_at admits item n so_far bytes ≡ Ok x → Took n so_far bytes x
  unfolding items_at
  items_take zero so_far bytes x fits e =
      let same : (so_far, bytes) ≡ x = ok_is (so_far, bytes) x e in
      record {
        new = [];
        all = ap (λ (p : List A × List ℕ). p.0) (sym same) ∙ sym (append-nil so_far);
        count = refl;
        taken = subst (λ (p : List A × List ℕ). Takes bytes [] p.1) same (record { parts = refl; rest_fits = fits });
        fit = tt;
        admitted = tt;
      }
  items_take (suc n) so_far bytes x fits e =
      let b = bind_ok (one_more admits item so_far bytes) (λ y. items_at admits item n y.0 y.1) x e in
      let one = one_more_takes so_far bytes b.0 fits b.1 in
      let others = items_take n b.0.0 b.0.1 x one.2.rest_fits b.2 in
      record {
        new = one.0 ∷ others.new;
        all = others.all ∙ ap (λ (k : List A). k ++ others.new) one.1 ∙ append_assoc so_far (one.0 ∷ []) others.new;
        count = ap suc others.count;
        taken = Takes-then bytes (s one.0) b.0.1 (flat_map s others.new) x.1 one.2 others.taken;
        fit = (one.3, others.fit);
        admitted = (one.4, subst (λ (k : List A). Admits admits k others.new) one.1 others.admitted);
      }

  items_again : (xs so_far : List A) (rest : List ℕ) → AllByRecursion F xs → Admits admits so_far xs → items_at admits item (length xs) so_far (flat_map s xs ++ rest) ≡ Ok (so_far ++ xs, rest)
  unfolding items_at
  items_again [] so_far rest fit ok = ap (λ (k : List A). Ok (k, rest)) (sym (append-nil so_far))
  items_again (x ∷ xs) so_far rest fit ok =
      let first : item ((s x ++ flat_map s xs) ++ rest) ≡ Ok (x, flat_map s xs ++ rest) =
      ap item (append_assoc (s x) (flat_map s xs) rest) ∙ r.again x (flat_map s xs ++ rest) fit.0 in
      let one : one_more admits item so_far ((s x ++ flat_map s xs) ++ rest) ≡ Ok (so_far ++ x ∷ [], flat_map s xs ++ rest) = rw (first, ok.0) refl in
      ap (λ (q : Result (List A × List ℕ) ℕ). q >>= λ y. items_at admits item (length xs) y.0 y.1) one
      ∙ items_again xs (so_far ++ x ∷ []) rest fit.1 ok.1
      ∙ ap (λ (k : List A). Ok (k, rest)) (append_assoc so_far (x ∷ []) xs)

-- A count and so many items that are admitted one behind another.
pub counted_reads : {A : Type 0} (sc : ℕ → List ℕ) (FC : ℕ → Type 0) (count : Reading ℕ) (s : A → List ℕ) (F : A → Type 0) (item : Reading A) (admits : List A → A → Bool) → Reads sc FC count → Reads s F item
    → Reads (λ xs. sc (length xs) ++ flat_map s xs) (λ xs. FC (length xs) × AllByRecursion F xs × Admits admits [] xs) (counted_at count admits item)
counted_reads {A} sc FC count s F item admits counted r = record {
  takes = λ bytes x fits e.
      let b = bind_ok (count bytes) (λ n. items_at admits item n.0 [] n.1) x e in
      let t = counted.takes bytes b.0 fits b.1 in
      let k = items_take s F item admits r b.0.0 [] b.0.1 x t.0.rest_fits b.2 in
      let both : Takes bytes (sc b.0.0 ++ flat_map s k.new) x.1 = Takes-then bytes (sc b.0.0) b.0.1 (flat_map s k.new) x.1 t.0 k.taken in
      subst (λ (xs : List A). Takes bytes (sc (length xs) ++ flat_map s xs) x.1 × (FC (length xs) × AllByRecursion F xs × Admits admits [] xs)) (sym k.all)
      (subst (λ (n : ℕ). Takes bytes (sc n ++ flat_map s k.new) x.1) (sym k.count) both, (subst FC (sym k.count) t.1, k.fit, k.admitted));
  again = λ xs rest h.
      ap (counted_at count admits item) (append_assoc (sc (length xs)) (flat_map s xs) rest)
      ∙ ap (λ (q : Result (ℕ × List ℕ) ℕ). q >>= λ n. items_at admits item n.0 [] n.1) (counted.again (length xs) (flat_map s xs ++ rest) h.0)
      ∙ items_again s F item admits r xs [] rest h.1 h.2;
}
