-- A log is proper exactly where no entry shows a case; each log is judged in one way.
use Rattle.std.proofs.Common.{◌≡◌, ◌⊎◌, ℕ, zero, suc, ◌<◌, ◌≤◌, false, List, [], ◌∷◌, ◌++◌, Some, take, drop, length, refl, sym, ap, ◌∙◌, subst, inl, inr, arith, le_refl}
use Rattle.std.specs.Prelude.{slice_get}
use Rattle.std.proofs.lemmas.Bool.{cases_lt}
use Rattle.std.proofs.lemmas.Option.{none-some, same_Some, slice_get_within}
use Rattle.std.proofs.lemmas.List.{take_all}
use Rattle.canton_model.specs.Log.{Params, FollowsTime, TimesFrom, time_at_end}
use Rattle.world_model.specs.Messages.{Entry, Message, RequestMessage, ResponseMessage, VerdictMessage, Tick}
use Rattle.canton_model.specs.Reading.{Reading}
use Rattle.canton_model.specs.Ledger.{FitsIfVerdict}
use Rattle.canton_model.specs.Genuine.{Genuine, EntryFits, FitsIfRequest, FitsIfResponse}
use Rattle.canton_model.proofs.LongerLogs.{genuine_push}
use Rattle.world_model.proofs.Grown.{slice_get_left, snoc_cases, request_grown, decision_time_grown, take_grown, owed_grown, scan_within}
use Rattle.audit_model.specs.Standard.{Standard}
use Rattle.audit_model.specs.Rules.{is_wrong_trigger}
use Rattle.audit_model.specs.Cases.{ShowsNone, ShowsFirst, number_of}
use Rattle.audit_model.specs.Judged.{IsProper, IsClear, FailsAt}
use Rattle.audit_model.specs.declared.why.Why.{Why}
use Rattle.audit_model.specs.declared.why.Why.TheVariants.{WrongTrigger}
use Rattle.audit_model.proofs.Deciding.{false_from}
use Rattle.audit_model.proofs.Shown.{first_case, same_case}
use Rattle.audit_model.proofs.Fitting.{fits_from_none, none_from_fits}

-- places
there_is : {X : Type 0} (xs : List X) (n : ℕ) → n < length xs → (x : X) × (slice_get xs n ≡ Some x)
there_is [] n lt = absurd (omega (arith, lt))
there_is (x ∷ xs) zero lt = (x, refl)
there_is (x ∷ xs) (suc n) lt = there_is xs n (omega (arith, lt))

split_at : {X : Type 0} (xs : List X) (k : ℕ) (x : X) → slice_get xs k ≡ Some x → take k xs ++ x ∷ drop (suc k) xs ≡ xs
split_at [] k x e = absurd (none-some x e)
split_at (y ∷ xs) zero x e = ap (λ z. z ∷ xs) (sym (same_Some y x e))
split_at (y ∷ xs) (suc k) x e = ap (λ zs. y ∷ zs) (split_at xs k x e)

take_next : {X : Type 0} (xs : List X) (k : ℕ) (x : X) → slice_get xs k ≡ Some x → take (suc k) xs ≡ take k xs ++ x ∷ []
take_next [] k x e = absurd (none-some x e)
take_next (y ∷ xs) zero x e = ap (λ z. z ∷ []) (same_Some y x e)
take_next (y ∷ xs) (suc k) x e = ap (λ zs. y ∷ zs) (take_next xs k x e)

middle : {X : Type 0} (xs : List X) (x : X) (more : List X) → slice_get (xs ++ x ∷ more) (length xs) ≡ Some x
middle [] x more = refl
middle (y ∷ xs) x more = middle xs x more

-- an entry of a genuine log fits what stands before it
times_there : (before : ℕ) (x : Entry) (xs : List Entry) (e : Entry) (more : List Entry) → TimesFrom before ((x ∷ xs) ++ e ∷ more)
    → FollowsTime e.message (time_at_end (x ∷ xs)) e.time
times_there before x [] e more h = h.1.0
times_there before x (y ∷ ys) e more h = times_there x.time y ys e more h.1

time_there : (xs : List Entry) (e : Entry) (more : List Entry) → TimesFrom 0 (xs ++ e ∷ more) → FollowsTime e.message (time_at_end xs) e.time
time_there [] e more h = h.0
time_there (x ∷ xs) e more h = times_there 0 x xs e more h

module _ (reading : Reading) (params : Params) (xs more : List Entry) where
  same : take (length xs) (xs ++ more) ≡ take (length xs) xs
  same = take_grown xs more (length xs) (le_refl (length xs))

  whole : take (length xs) (xs ++ more) ≡ xs
  whole = same ∙ take_all (length xs) xs (le_refl (length xs))

  request_there : (m : Message) → FitsIfRequest reading (xs ++ more) (length xs) m → FitsIfRequest reading xs (length xs) m
  request_there (ResponseMessage r) f = tt
  request_there (VerdictMessage v) f = tt
  request_there Tick f = tt
  request_there (RequestMessage q) f = record { is_framed = f.is_framed; first = rw same at f.first }

  verdict_there : (t : ℕ) (m : Message) → FitsIfVerdict params (xs ++ more) (length xs) t m → FitsIfVerdict params xs (length xs) t m
  verdict_there t (RequestMessage q) f = tt
  verdict_there t (ResponseMessage r) f = tt
  verdict_there t Tick f = tt
  verdict_there t (VerdictMessage v) f =
      let short : v.request < length xs = scan_within params xs v.request v.decision (rw whole at f.decided) in
      record {
        decided = rw same at f.decided;
        first = rw same at f.first;
        in_time = rw (decision_time_grown xs more params v.request short) at f.in_time;
      }

  response_there : (t : ℕ) (m : Message) → FitsIfResponse reading params (xs ++ more) (length xs) t m → FitsIfResponse reading params xs (length xs) t m
  response_there t (RequestMessage q) f = tt
  response_there t (VerdictMessage v) f = tt
  response_there t Tick f = tt
  response_there t (ResponseMessage r) f =
      let short : r.request < length xs = f.earlier in
      record {
        request = f.request;
        earlier = f.earlier;
        there = sym (request_grown xs more r.request short) ∙ f.there;
        confirming = f.confirming;
        first = rw same at f.first;
        owed = f.owed ∙ owed_grown xs more reading params r.from r.request short;
        in_time = rw (decision_time_grown xs more params r.request short) at f.in_time;
      }

pub fits_there : (reading : Reading) (params : Params) (xs : List Entry) (e : Entry) (more : List Entry)
    → Genuine reading params (xs ++ e ∷ more) → EntryFits reading params xs e
fits_there reading params xs e more g =
    let at = middle xs e more in
    record {
      time = time_there xs e more (g.timely).times;
      verdict = verdict_there reading params xs (e ∷ more) e.time e.message ((g.timely).verdicts (length xs) e at);
      request = request_there reading params xs (e ∷ more) e.message (g.requests (length xs) e at);
      response = response_there reading params xs (e ∷ more) e.time e.message (g.responses (length xs) e at);
    }

genuine_none : (reading : Reading) (params : Params) → Genuine reading params []
genuine_none reading params =
    record {
      timely = record { times = tt; verdicts = λ k e at. absurd (none-some e at) };
      requests = λ k e at. absurd (none-some e at);
      responses = λ k e at. absurd (none-some e at);
    }

module _ (s : Standard) where
  pub clear_from_proper : (log : List Entry) → IsProper s log → IsClear s log
  clear_from_proper log p k e at =
      let g = subst (Genuine s.reading s.params) (sym (split_at log k e at)) p.genuine in
      none_from_fits s (take k log) e (fits_there s.reading s.params (take k log) e (drop (suc k) log) g) (p.caused k e at)

  genuine_to : (log : List Entry) → IsClear s log → (n : ℕ) → n ≤ length log → Genuine s.reading s.params (take n log)
  genuine_to log clear zero le = genuine_none s.reading s.params
  genuine_to log clear (suc n) le =
      let there = there_is log n (omega (arith, le)) in
      let e = there.0 in
      let fits = fits_from_none s (take n log) e (clear n e there.1) in
      subst (Genuine s.reading s.params) (sym (take_next log n e there.1))
      (genuine_push s.reading s.params (take n log) e (genuine_to log clear n (omega (arith, le))) fits)

  pub proper_from_clear : (log : List Entry) → IsClear s log → IsProper s log
  proper_from_clear log clear =
      record {
        genuine = subst (Genuine s.reading s.params) (take_all (length log) log (le_refl (length log))) (genuine_to log clear (length log) (le_refl (length log)));
        caused = λ k e at. false_from (is_wrong_trigger s (take k log) e.message) (clear k e at WrongTrigger);
      }

  -- how a log is judged
  abbrev ClearBelow : List Entry → ℕ → Type 0
  ClearBelow log n = (k : ℕ) (e : Entry) → k < n → slice_get log k ≡ Some e → ShowsNone s (take k log) e

  judged_to : (log : List Entry) (n : ℕ) → n ≤ length log → ((place : ℕ) × (why : Why) × FailsAt s log place why) ⊎ ClearBelow log n
  judged_to log zero le = inr (λ k e lt. absurd (omega (arith, lt)))
  judged_to log (suc n) le =
      let there = there_is log n (omega (arith, le)) in
      let x = there.0 in
      elim (judged_to log n (omega (arith, le))) [
        | inl fails ↦ inl fails
        | inr clear ↦ elim (first_case s (take n log) x) [
          | inl shown ↦ inl (n, shown.0, record { entry = x; there = there.1; shows = shown.1; before = clear })
          | inr none ↦ inr (λ k e lt at. elim (cases_lt k n) [
            | inl below ↦ clear k e below at
            | inr above ↦
                let same : n ≡ k = omega (arith, lt, above) in
                let here : slice_get log n ≡ Some e = rw same at in
                subst (λ (i : ℕ). ShowsNone s (take i log) e) same (subst (ShowsNone s (take n log)) (same_Some x e (sym there.1 ∙ here)) none)
          ])
        ]
      ]

  pub judged : (log : List Entry) → ((place : ℕ) × (why : Why) × FailsAt s log place why) ⊎ IsProper s log
  judged log =
      elim (judged_to log (length log) (le_refl (length log))) [
        | inl fails ↦ inl fails
        | inr clear ↦ inr (proper_from_clear log (λ k e at. clear k e (slice_get_within log k e at) at))
      ]

  pub not_both : (log : List Entry) (place : ℕ) (why : Why) → FailsAt s log place why → ¬ IsProper s log
  not_both log place why f p = clear_from_proper log p place f.entry f.there why (f.shows).shows

  same_why : (log : List Entry) (place : ℕ) (why because : Why) → FailsAt s log place why → FailsAt s log place because → why ≡ because
  same_why log place why because f g =
      let same : g.entry ≡ f.entry = same_Some g.entry f.entry (sym g.there ∙ f.there) in
      let other : ShowsFirst s (take place log) f.entry because = subst (λ (x : Entry). ShowsFirst s (take place log) x because) same g.shows in
      elim (cases_lt (number_of why) (number_of because)) [
        | inl lt ↦ absurd (other.first why lt (f.shows).shows)
        | inr ge ↦ elim (cases_lt (number_of because) (number_of why)) [
          | inl lt ↦ absurd ((f.shows).first because lt other.shows)
          | inr le ↦ same_case why because (omega (arith, ge, le))
        ]
      ]

  pub judged_once : (log : List Entry) (place other : ℕ) (why because : Why) → FailsAt s log place why → FailsAt s log other because
      → (place ≡ other) × (why ≡ because)
  judged_once log place other why because f g =
      elim (cases_lt place other) [
        | inl lt ↦ absurd (g.before place f.entry lt f.there why (f.shows).shows)
        | inr ge ↦ elim (cases_lt other place) [
          | inl lt ↦ absurd (f.before other g.entry lt g.there because (g.shows).shows)
          | inr le ↦
              let same : place ≡ other = omega (arith, ge, le) in
              (same, same_why log other why because (subst (λ (k : ℕ). FailsAt s log k why) same f) g)
        ]
      ]

  -- one entry more
  pub proper_none : IsProper s []
  proper_none = record { genuine = genuine_none s.reading s.params; caused = λ k e at. absurd (none-some e at) }

  pub proper_next : (log : List Entry) (entry : Entry) → IsProper s log → ShowsNone s log entry → IsProper s (log ++ entry ∷ [])
  proper_next log entry p none =
      record {
        genuine = genuine_push s.reading s.params log entry p.genuine (fits_from_none s log entry none);
        caused = λ k e at. elim (snoc_cases log entry k e at) [
          | inl old ↦
              let le : k ≤ length log = omega (arith, old.0) in
              subst (λ (t : List Entry). is_wrong_trigger s t e.message ≡ false) (sym (take_grown log (entry ∷ []) k le)) (p.caused k e old.1)
          | inr new ↦
              let here : is_wrong_trigger s log e.message ≡ false =
              subst (λ (x : Entry). is_wrong_trigger s log x.message ≡ false) new.1 (false_from (is_wrong_trigger s log entry.message) (none WrongTrigger)) in
              subst (λ (t : List Entry). is_wrong_trigger s t e.message ≡ false)
              (sym (ap (λ (n : ℕ). take n (log ++ entry ∷ [])) new.0 ∙ whole s.reading s.params log (entry ∷ []))) here
        ];
      }

  pub fails_next : (log rest : List Entry) (entry : Entry) (why : Why) → IsProper s log → ShowsFirst s log entry why
      → FailsAt s (log ++ entry ∷ rest) (length log) why
  fails_next log rest entry why p shown =
      record {
        entry = entry;
        there = middle log entry rest;
        shows = subst (λ (t : List Entry). ShowsFirst s t entry why) (sym (whole s.reading s.params log (entry ∷ rest))) shown;
        before = λ k e lt at.
            let le : k ≤ length log = omega (arith, lt) in
            subst (λ (t : List Entry). ShowsNone s t e) (sym (take_grown log (entry ∷ rest) k le))
            (clear_from_proper log p k e (sym (slice_get_left log (entry ∷ rest) k lt) ∙ at));
      }
