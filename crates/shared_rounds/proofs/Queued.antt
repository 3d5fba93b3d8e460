-- Results taken from the queues of their participants, in the order of the submissions.
use Rattle.std.proofs.Common.{◌≡◌, ◌≢◌, ℕ, zero, suc, ◌+◌, ◌<◌, ◌≤◌, true, false, List, [], ◌∷◌, ◌++◌, length, take, drop, Some, refl, sym, ap, ◌∙◌, subst, inl, inr, arith}
use Rattle.std.specs.Prelude.{All, nat_eq, slice_get}
use Rattle.std.proofs.lemmas.Bool.{cases_Bool, cases_lt, eq-eqb, eqb-true, both_ways}
use Rattle.std.proofs.lemmas.List.{length-append, take_all, drop_all}
use Rattle.std.proofs.lemmas.List.Elements.{All-append}
use Rattle.ledger_terms.specs.declared.submission.Submission.{Submission}
use Rattle.ledger_model.specs.Terms.{ParticipantId}
use Rattle.node_core.specs.declared.submit_result.SubmitResult.{SubmitResult}
use Rattle.prepare_request.specs.declared.submit_fault.SubmitFault.{SubmitFault}
use Rattle.threads_model.specs.Inputs.{submissions_in, submissions_of}
use Rattle.threads_model.specs.Merging.{Merging}
use Rattle.threads_model.proofs.Merges.{merge_begins, merge_step}
use Rattle.world_model.proofs.Steps.{take_next}
use Rattle.world_model.specs.Rounds as r
use Rattle.world_play.specs.Results.{IsPlainResult, result_of, results_of}
use Rattle.shared_rounds.specs.Queues.{AreQueuesOf, queue_at, queued}
use Rattle.client_threads.proofs.OwnResults.{results_more}

-- So many of the submissions have their results, and the queues have those of the others.
pub record AreInOrder (submits : List Submission) (first queues : List (List SubmitResult)) (count : ℕ) (results : List SubmitResult) : Type 0 where
  pub hosts : length queues ≡ length first
  pub many : length results ≡ length (take count submits)
  pub plain : All IsPlainResult results
  pub queues_of : AreQueuesOf (drop count submits) queues
  pub merging : Merging submits (queued submits first) (queued (drop count submits) queues) (results_of (take count submits) results) (drop count submits)

-- lists
drop_next : {X : Type 0} (xs : List X) (k : ℕ) (x : X) → slice_get xs k ≡ Some x → drop k xs ≡ x ∷ drop (suc k) xs
drop_next [] k x e = cc
drop_next (y ∷ xs) zero x e = let same : y ≡ x = cc in ap (λ (z : _). z ∷ xs) same
drop_next (y ∷ xs) (suc k) x e = drop_next xs k x e

none_beyond : (p n : ℕ) (submits : List Submission) → n ≤ p → All (λ (what : Submission). what.participant < n) submits → submissions_of p submits ≡ []
none_beyond p n [] le there = refl
none_beyond p n (what ∷ submits) le there =
    let lt : what.participant < n = there 0 what (omega arith) in
    let more = none_beyond p n submits le (λ k d in_rest. there (suc k) d (omega (arith, in_rest))) in
    elim (cases_Bool (nat_eq what.participant p)) [
      | inl b ↦ let same = eqb-true what.participant p b in absurd (omega (arith, lt, le, same))
      | inr b ↦ rw b more
    ]

own_first : (p : ℕ) (what : Submission) (rest : List Submission) → nat_eq what.participant p ≡ true
    → submissions_of p (what ∷ rest) ≡ what ∷ submissions_of p rest
own_first p what rest b = rw b refl

other_first : (p : ℕ) (what : Submission) (rest : List Submission) → nat_eq what.participant p ≡ false
    → submissions_of p (what ∷ rest) ≡ submissions_of p rest
other_first p what rest b = rw b refl

submitted : (submits : List Submission) (results : List SubmitResult) → length results ≡ length submits
    → submissions_in (results_of submits results) ≡ submits
submitted [] results e = refl
submitted (what ∷ submits) [] e = absurd (omega (arith, e))
submitted (what ∷ submits) (x ∷ results) e = ap (λ (ws : List Submission). what ∷ ws) (submitted submits results (omega (arith, e)))

-- no queue beyond the last
empty_beyond : (queues : List (List SubmitResult)) (p : ℕ) → length queues ≤ p → queue_at queues p ≡ []
empty_beyond [] p le = refl
empty_beyond (q ∷ queues) zero le = absurd (omega (arith, le))
empty_beyond (q ∷ queues) (suc p) le = empty_beyond queues p (omega (arith, le))

module _ (submits : List Submission) (first : List (List SubmitResult)) where
  pub none_in_order : AreQueuesOf submits first → All (λ (what : Submission). what.participant < length first) submits
      → AreInOrder submits first first 0 []
  none_in_order queues there =
      record {
        hosts = refl;
        many = refl;
        plain = λ k d lt. absurd (omega (arith, lt));
        queues_of = queues;
        merging =
            merge_begins submits (queued submits first)
            (λ p. submitted (submissions_of p submits) (queue_at first p)
            (elim (cases_lt p (length first)) [
              | inl lt ↦ queues.many p lt
              | inr le ↦ ap length (empty_beyond first p le) ∙ ap length (sym (none_beyond p (length first) submits le there))
            ]));
      }

  module _ (queues : List (List SubmitResult)) (k : ℕ) (results : List SubmitResult) (o : AreInOrder submits first queues k results)
      (what : Submission) (at : slice_get submits k ≡ Some what) (inside : what.participant < length queues) where
    abbrev p : ℕ
    p = what.participant

    abbrev rest : List Submission
    rest = drop (suc k) submits

    splits : drop k submits ≡ what ∷ rest
    splits = drop_next submits k what at

    of_rest : AreQueuesOf (what ∷ rest) queues
    of_rest = subst (λ (ws : List Submission). AreQueuesOf ws queues) splits o.queues_of

    own : nat_eq p p ≡ true
    own = eq-eqb p p refl

    pub has_next : queue_at queues p ≡ [] → ⊥
    has_next none =
        let n = of_rest.many p inside in
        let a : length (queue_at queues p) ≡ 0 = ap length none in
        let b = ap length (own_first p what rest own) in
        let c : length (what ∷ submissions_of p rest) ≡ suc (length (submissions_of p rest)) = refl in omega (arith, n, a, b, c)

    module _ (x : SubmitResult) (after : List (List SubmitResult)) (took : queue_at queues p ≡ x ∷ queue_at after p)
        (others : (i : ℕ) → p ≢ i → queue_at after i ≡ queue_at queues i) (same : length after ≡ length queues) where
      at_other : (i : ℕ) → nat_eq p i ≡ false → queue_at after i ≡ queue_at queues i
      at_other i b = others i (λ e. both_ways _ b (eq-eqb p i e))

      many_left : (i : ℕ) → i < length after → length (queue_at after i) ≡ length (submissions_of i rest)
      many_left i lt =
          let n = of_rest.many i (omega (arith, lt, same)) in
          elim (cases_Bool (nat_eq p i)) [
            | inl b ↦
                let e = eqb-true p i b in
                let took_there : queue_at queues i ≡ x ∷ queue_at after i = subst (λ (j : ℕ). queue_at queues j ≡ x ∷ queue_at after j) e took in
                let a = ap length took_there in
                let c : length (x ∷ queue_at after i) ≡ suc (length (queue_at after i)) = refl in
                let d = ap length (own_first i what rest b) in
                let f : length (what ∷ submissions_of i rest) ≡ suc (length (submissions_of i rest)) = refl in omega (arith, n, a, c, d, f)
            | inr b ↦
                ap length (at_other i b) ∙ (n ∙ ap length (other_first i what rest b))
          ]

      plain_left : (i : ℕ) → i < length after → All IsPlainResult (queue_at after i)
      plain_left i lt =
          let h = of_rest.plain i (omega (arith, lt, same)) in
          elim (cases_Bool (nat_eq p i)) [
            | inl b ↦
                let e = eqb-true p i b in
                let took_there : queue_at queues i ≡ x ∷ queue_at after i = subst (λ (j : ℕ). queue_at queues j ≡ x ∷ queue_at after j) e took in
                let all = subst (All IsPlainResult) took_there h in λ j d in_it. all (suc j) d (omega (arith, in_it))
            | inr b ↦ subst (All IsPlainResult) (sym (at_other i b)) h
          ]

      plain_first : IsPlainResult x
      plain_first = (subst (All IsPlainResult) took (of_rest.plain p inside)) 0 x (omega arith)

      pub next_in_order : (new : List SubmitResult) → new ≡ results ++ x ∷ [] → AreInOrder submits first after (k + 1) new
      next_in_order new is =
          let one : k + 1 ≡ suc k = omega arith in
          let taken : take (k + 1) submits ≡ take k submits ++ what ∷ [] = ap (λ (n : ℕ). take n submits) one ∙ take_next k submits what at in
          let left : drop (k + 1) submits ≡ rest = ap (λ (n : ℕ). drop n submits) one in
          let grown : results_of (take (k + 1) submits) new ≡ results_of (take k submits) results ++ (what, result_of x) ∷ [] =
          ap (λ (ws : List Submission). results_of ws new) taken
          ∙ (ap (λ (rs : List SubmitResult). results_of (take k submits ++ what ∷ []) rs) is
          ∙ results_more (take k submits) results what x o.many) in
          let before : Merging submits (queued submits first) (queued (what ∷ rest) queues) (results_of (take k submits) results) (what ∷ rest) =
          subst (λ (ws : List Submission). Merging submits (queued submits first) (queued ws queues) (results_of (take k submits) results) ws)
          splits o.merging in
          let here : queued (what ∷ rest) queues p ≡ (what, result_of x) ∷ queued rest after p =
          ap (λ (ws : List Submission). results_of ws (queue_at queues p)) (own_first p what rest own)
          ∙ ap (λ (rs : List SubmitResult). results_of (what ∷ submissions_of p rest) rs) took in
          let elsewhere : (i : ℕ) → nat_eq p i ≡ false → queued rest after i ≡ queued (what ∷ rest) queues i =
          λ i b. ap (λ (rs : List SubmitResult). results_of (submissions_of i rest) rs) (at_other i b)
          ∙ ap (λ (ws : List Submission). results_of ws (queue_at queues i)) (sym (other_first i what rest b)) in
          let merged =
          merge_step submits (queued submits first) (queued (what ∷ rest) queues) (queued rest after) (results_of (take k submits) results) what
          (result_of x) rest before here elsewhere in
          record {
            hosts = same ∙ o.hosts;
            many =
                let a = ap length is in
                let b = length-append results (x ∷ []) in
                let c = ap length taken in
                let d = length-append (take k submits) (what ∷ []) in
                let e : length (x ∷ []) ≡ 1 = refl in
                let f : length (what ∷ []) ≡ 1 = refl in
                let g = o.many in omega (arith, a, b, c, d, e, f, g);
            plain = subst (All IsPlainResult) (sym is)
                (All-append IsPlainResult results (x ∷ []) o.plain (λ j d lt. let z : j ≡ 0 = omega (arith, lt) in rw z plain_first));
            queues_of = subst (λ (ws : List Submission). AreQueuesOf ws after) (sym left) (record { many = many_left; plain = plain_left });
            merging =
                subst (λ (ws : List Submission). Merging submits (queued submits first) (queued ws after) (results_of (take (k + 1) submits) new) ws)
                (sym left)
                (subst (λ (rs : r.Results SubmitFault). Merging submits (queued submits first) (queued rest after) rs rest) (sym grown) merged);
          }

  -- all are in order
  pub all_in_order : (queues : List (List SubmitResult)) (k : ℕ) (results : List SubmitResult) → AreInOrder submits first queues k results
      → length submits ≤ k
      → (length results ≡ length submits) × All IsPlainResult results
      × ((left : ParticipantId → r.Results SubmitFault) × Merging submits (queued submits first) left (results_of submits results) [])
  all_in_order queues k results o end =
      let all : take k submits ≡ submits = take_all k submits end in
      let none : drop k submits ≡ [] = drop_all k submits end in (
        o.many ∙ ap length all,
        o.plain,
        (
          queued (drop k submits) queues,
          subst (λ (ws : List Submission). Merging submits (queued submits first) (queued (drop k submits) queues) (results_of ws results) []) all
              (subst (λ (ws : List Submission). Merging submits (queued submits first) (queued (drop k submits) queues)
              (results_of (take k submits) results) ws) none o.merging),
        ),
      )
