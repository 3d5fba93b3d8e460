-- Two participants know the same contracts in which both have a part.
use Rattle.std.proofs.Common.{◌≡◌, ℕ, zero, suc, ◌<◌, ◌≤◌, Bool, true, false, List, [], ◌∷◌, ◌++◌, take, length, filter, refl, sym, ap, ◌∙◌, inl, inr, not, arith}
use Rattle.std.specs.Prelude.{◌&&◌, if◌then◌else◌}
use Rattle.std.specs.List.{list_any}
use Rattle.std.proofs.lemmas.Bool.{cases_Bool}
use Rattle.ledger_model.specs.Terms.{ActiveRow, ParticipantId, consumes}
use Rattle.ledger_model.specs.Forest.{ledger_acts}
use Rattle.canton_model.specs.Evidence.{commit_if, ledger_below}
use Rattle.canton_model.specs.Log.{Params, Entry}
use Rattle.canton_model.specs.Reading.{Reading}
use Rattle.canton_model.specs.Genuine.{Genuine, IsReading, NoCollision}
use Rattle.canton_model.specs.Timeline.{timeline_of, is_approved_in}
use Rattle.canton_model.specs.Ledger.{commits_below, is_withheld, whole_at}
use Rattle.canton_model.specs.Inbox.{inbox, clean, node_active, active_of, created_by, first_of_each, is_active_row, is_stakeholder_hosted, without_places}
use Rattle.canton_model.specs.Shared.{shared_with}
use Rattle.canton_model.proofs.ActiveSets.{active_sets_up_to, kept_below_place}

-- one test after another is both at once
two_tests : (f g : ActiveRow → Bool) (rows : List ActiveRow) → filter g (filter f rows) ≡ filter (λ r. f r && g r) rows
two_tests f g [] = refl
two_tests f g (x ∷ xs) =
    let rest = two_tests f g xs in
    elim (cases_Bool (f x)) [
      | inl yes' ↦ elim (cases_Bool (g x)) [ inl also ↦ rw (yes', also) (ap (λ (l : List ActiveRow). x ∷ l) rest) | inr out ↦ rw (yes', out) rest ]
      | inr no' ↦ rw no' rest
    ]

same_tests : (f g : ActiveRow → Bool) (rows : List ActiveRow) → ((r : ActiveRow) → f r ≡ g r) → filter f rows ≡ filter g rows
same_tests f g [] h = refl
same_tests f g (x ∷ xs) h = let rest = same_tests f g xs h in let here = h x in λ i. if here i then x ∷ rest i else rest i

turned : (a b c : Bool) → ((a && c) && b) ≡ ((b && c) && a)
turned true true true = refl
turned true true false = refl
turned true false true = refl
turned true false false = refl
turned false true true = refl
turned false true false = refl
turned false false true = refl
turned false false false = refl

free : (b h : Bool) → h ≡ false → (b && not h) ≡ b
free true h e = ap not e
free false h e = refl

module _ (reading : Reading) (params : Params) (log : List Entry) (lawful : IsReading reading) (distinct : NoCollision reading log) (genuine : Genuine reading params log) where
  -- where nothing below a place is withheld, the commits below it are all kept
  all_kept : (p : ParticipantId) (m : ℕ) → ((k : ℕ) → k < m → is_withheld reading log p k ≡ false) → without_places (is_withheld reading log p) (commits_below reading log m) ≡ commits_below reading log m
  all_kept p m shown = kept_below_place reading log (is_withheld reading log p) m ∙ same m shown
    where
      same : (m : ℕ) → ((k : ℕ) → k < m → is_withheld reading log p k ≡ false)
          → ledger_below (λ k. is_approved_in k (timeline_of log) && not (is_withheld reading log p k)) (whole_at reading log) m ≡ commits_below reading log m
      same zero shown = refl
      same (suc m) shown =
          let rest = same m (λ k lt. shown k (omega (arith, lt))) in
          let here = free (is_approved_in m (timeline_of log)) (is_withheld reading log p m) (shown m (omega arith)) in
          λ i. rest i ++ commit_if (here i) (whole_at reading log m)

  exact_up_to : (p : ParticipantId) (n m : ℕ) → n ≤ length log → m ≤ clean params (inbox reading p (take n log)) → ((k : ℕ) → k < m → is_withheld reading log p k ≡ false)
      → node_active reading p (inbox reading p (take n log)) m ≡ active_of reading p (commits_below reading log m)
  exact_up_to p n m within le shown = active_sets_up_to reading params log lawful genuine distinct p n within m le ∙ ap (active_of reading p) (all_kept p m shown)

  pub shared_agree : (p q : ParticipantId) (n o m : ℕ) → n ≤ length log → o ≤ length log
      → m ≤ clean params (inbox reading p (take n log)) → m ≤ clean params (inbox reading q (take o log))
      → ((k : ℕ) → k < m → is_withheld reading log p k ≡ false) → ((k : ℕ) → k < m → is_withheld reading log q k ≡ false)
      → shared_with reading q (node_active reading p (inbox reading p (take n log)) m)
      ≡ shared_with reading p (node_active reading q (inbox reading q (take o log)) m)
  shared_agree p q n o m within_p within_q le_p le_q shown_p shown_q =
      let commits = commits_below reading log m in
      let all = ledger_acts commits in
      let rows = first_of_each (created_by commits) in
      let on : ParticipantId → ActiveRow → Bool = λ r row. is_stakeholder_hosted reading r row.known.instance in
      ap (shared_with reading q) (exact_up_to p n m within_p le_p shown_p)
      ∙ (two_tests (is_active_row reading p all) (on q) rows
      ∙ (same_tests _ _ rows (λ row. turned (on p row) (on q row) (not (list_any (consumes row.known.id) all)))
      ∙ (sym (two_tests (is_active_row reading q all) (on p) rows)
      ∙ ap (shared_with reading p) (sym (exact_up_to q o m within_q le_q shown_q)))))
