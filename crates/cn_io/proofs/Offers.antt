-- Puts that are offered all that remains.
use Rattle.std.proofs.Common.{◌≡◌, ◌∙◌, ℕ, ◌+◌, ◌<◌, List, [], ◌∷◌, ◌++◌, length, drop, sum, Result, Ok, Err, sym, refl, ap, subst, arith, length-drop}
use Rattle.std.proofs.lemmas.List.{drop-drop}
use Rattle.std.proofs.lemmas.List.Sums.{sum_by-cons, sum_by_push}
use Rattle.cn_io.specs.Sink.{Offered, OffersAll}

sum-cons : (n : ℕ) (ns : List ℕ) → sum (n ∷ ns) ≡ n + sum ns
sum-cons n ns = sum_by-cons (λ x. x) n ns

sum-snoc : (ns : List ℕ) (n : ℕ) → sum (ns ++ n ∷ []) ≡ sum ns + n
sum-snoc ns n = sum_by_push (λ x. x) ns n

module _ {S E : Type 0} (may_put : S → List ℕ → Result ℕ E → S → Type 0) where
  -- one more put
  offered_more : (sink next last : S) (bytes taken : List ℕ) (n : ℕ) → Offered may_put sink next bytes taken → sum taken < length bytes
      → may_put next (drop (sum taken) bytes) (Ok n) last → Offered may_put sink last bytes (taken ++ n ∷ [])
  offered_more sink next last bytes [] n same more put =
      (last, more, subst (λ (s : S). may_put s bytes (Ok n) last) (sym same) put, refl)
  offered_more sink next last bytes (m ∷ ms) n before more put =
      let here = sum-cons m ms in
      let rest : drop (sum ms) (drop m bytes) ≡ drop (sum (m ∷ ms)) bytes = drop-drop (sum ms) m bytes ∙ ap (λ (k : ℕ). drop k bytes) (sym here) in (
        before.0,
        before.1,
        before.2,
        offered_more before.0 next last (drop m bytes) ms n before.3 (omega (arith, length-drop m bytes, here, more))
            (subst (λ (left : List ℕ). may_put next left (Ok n) last) (sym rest) put),
      )

  -- one more put, after so many bytes
  pub offered_next : (sink next last : S) (bytes : List ℕ) (at n : ℕ) → ((taken : List ℕ) × (sum taken ≡ at) × Offered may_put sink next bytes taken)
      → at < length bytes → may_put next (drop at bytes) (Ok n) last → (taken : List ℕ) × (sum taken ≡ at + n) × Offered may_put sink last bytes taken
  offered_next sink next last bytes at n before more put = (
    before.0 ++ n ∷ [],
    sum-snoc before.0 n ∙ ap (λ (k : ℕ). k + n) before.1,
    offered_more sink next last bytes before.0 n before.2 (omega (arith, before.1, more))
        (subst (λ (k : ℕ). may_put next (drop k bytes) (Ok n) last) (sym before.1) put),
  )

  -- a put that took none
  pub offered_refused : {R : Type 0} (sink last left : S) (bytes : List ℕ) (at : ℕ) (e : E) (result : Result R E) → result ≡ Err e
      → ((taken : List ℕ) × (sum taken ≡ at) × Offered may_put sink last bytes taken) → at < length bytes → may_put last (drop at bytes) (Err e) left
      → OffersAll may_put sink left bytes result
  offered_refused {R} sink last left bytes at e result is before more put =
      subst (λ (r : Result R E). OffersAll may_put sink left bytes r) (sym is) (
        before.0,
        last,
        omega (arith, before.1, more),
        before.2,
        subst (λ (k : ℕ). may_put last (drop k bytes) (Err e) left) (sym before.1) put,
      )

  -- where each put takes all that it is offered, there is one
  pub one_put : ((before after : S) (from : List ℕ) (n : ℕ) → may_put before from (Ok n) after → n ≡ length from) → (sink last : S) (bytes taken : List ℕ)
      → 0 < length bytes → sum taken ≡ length bytes → Offered may_put sink last bytes taken → may_put sink bytes (Ok (length bytes)) last
  one_put whole sink last bytes [] some all puts = absurd (omega (arith, some, all))
  one_put whole sink last bytes (n ∷ []) some all puts =
      let same = whole sink puts.0 bytes n puts.2 in
      subst (λ (s : S). may_put sink bytes (Ok (length bytes)) s) puts.3 (subst (λ (k : ℕ). may_put sink bytes (Ok k) puts.0) same puts.2)
  one_put whole sink last bytes (n ∷ m ∷ ms) some all puts =
      let same = whole sink puts.0 bytes n puts.2 in
      absurd (omega (arith, length-drop n bytes, puts.3.1, same))
