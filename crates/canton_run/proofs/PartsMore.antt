-- One round more with its two parts.
use Rattle.std.proofs.Common.{◌≡◌, ◌≢◌, ℕ, suc, ◌+◌, ◌*◌, ◌<◌, ◌≤◌, List, [], ◌∷◌, ◌++◌, length, take, drop, nat_eq, refl, sym, ap, ◌∙◌, subst, inl, inr, arith}
use Rattle.std.proofs.Common.{append-nil}
use Rattle.std.proofs.Math.Seq.{take-append_seam, drop-append_seam}
use Rattle.std.proofs.lemmas.Bool.{cases_Bool}
use Rattle.std.proofs.lemmas.Bool.Decides.{Decides-eqb}
use Rattle.std.proofs.lemmas.List.{drop-append-le, length-drop, take-append-le}
use Rattle.std.proofs.lemmas.List.Elements.{filter-append}
use Rattle.std.proofs.lemmas.List.Sums.{sum_by-cons}
use Rattle.ledger_model.proofs.Lists.{In}
use Rattle.ledger_terms.specs.declared.submission.Submission.{Submission}
use Rattle.node_core.specs.declared.submit_result.SubmitResult.{SubmitResult}
use Rattle.prepare_request.specs.declared.submit_fault.SubmitFault.{SubmitFault}
use Rattle.report_text.specs.Results.{of_round}
use Rattle.script_read.specs.declared.round.Round.{Round}
use Rattle.trigger_model.specs.CausedRequests as requests
use Rattle.trigger_model.specs.TwoParts.{RoundParts}
use Rattle.trigger_rules.specs.declared.caused.Caused.{Caused}
use Rattle.world_play.specs.Results.{results_of}
use Rattle.canton_run.specs.Answered.{round_of}
use Rattle.canton_run.specs.Between.{time_in}
use Rattle.canton_run.specs.Parts.{caused_submits, parts_in, round_parts, second_of}
use Rattle.canton_run.specs.Run.{submissions_in}

-- ---- what was caused in a round of a number

none_of : (number : ℕ) (caused : List Caused) → ((one : Caused) → In one caused → one.round ≢ number) → of_round number caused ≡ []
none_of number [] h = refl
none_of number (x ∷ caused) h =
    elim (cases_Bool (nat_eq x.round number)) [
      | inl is ↦ absurd (h x (inl refl) ((Decides-eqb x.round number).0 is))
      | inr out ↦ rw out (none_of number caused (λ one i. h one (inr i)))
    ]

all_of : (number : ℕ) (caused : List Caused) → ((one : Caused) → In one caused → one.round ≡ number) → of_round number caused ≡ caused
all_of number [] h = refl
all_of number (x ∷ caused) h =
    rw ((Decides-eqb x.round number).1 (h x (inl refl))) (ap (λ (xs : List Caused). x ∷ xs) (all_of number caused (λ one i. h one (inr i))))

of_both : (number : ℕ) (caused more : List Caused) → of_round number (caused ++ more) ≡ of_round number caused ++ of_round number more
of_both number caused more = filter-append (λ (one : Caused). nat_eq one.round number) caused more

-- ---- the parts of rounds, and their times and lengths

pub time_in_parts : (number : ℕ) (rounds : List Round) (caused : List Caused) → time_in (parts_in number rounds caused) ≡ time_in rounds
time_in_parts number [] caused = refl
time_in_parts number (x ∷ rounds) caused =
    let second = second_of x (caused_submits number caused) in
    let rest = parts_in (number + 1) rounds caused in
    let a = sum_by-cons (λ (r : Round). r.advance) x (second ∷ rest) in
    let b = sum_by-cons (λ (r : Round). r.advance) second rest in
    let c = sum_by-cons (λ (r : Round). r.advance) x rounds in
    let d = time_in_parts (number + 1) rounds caused in omega (arith, a, b, c, d)

pub length_parts : (number : ℕ) (rounds : List Round) (caused : List Caused) → length (parts_in number rounds caused) ≡ 2 * length rounds
length_parts number [] caused = refl
length_parts number (x ∷ rounds) caused = let d = length_parts (number + 1) rounds caused in omega (arith, d)

pub length_round_parts : (number : ℕ) (rounds : List Round) (caused : List Caused) (results : List SubmitResult) (ends : List ℕ)
    → length ends ≡ 2 * length rounds → length (round_parts number rounds caused results ends) ≡ length rounds
length_round_parts number [] caused results ends many = refl
length_round_parts number (x ∷ rounds) caused results [] many = absurd (omega (arith, many))
length_round_parts number (x ∷ rounds) caused results (e ∷ []) many = absurd (omega (arith, many))
length_round_parts number (x ∷ rounds) caused results (e ∷ f ∷ ends) many =
    ap suc (length_round_parts (number + 1) rounds caused (drop (length (caused_submits number caused)) (drop (length x.submits) results)) ends (omega (arith, many)))

abbrev pub time_from : {F : Type 0} → (now : ℕ) → List (RoundParts F) → ℕ
time_from now [] = now
time_from now (x ∷ rest) = time_from (now + x.round.advance) rest

pub time_of_parts : (number now : ℕ) (rounds : List Round) (caused : List Caused) (results : List SubmitResult) (ends : List ℕ)
    → length ends ≡ 2 * length rounds → time_from now (round_parts number rounds caused results ends) ≡ now + time_in rounds
time_of_parts number now [] caused results ends many = omega arith
time_of_parts number now (x ∷ rounds) caused results [] many = absurd (omega (arith, many))
time_of_parts number now (x ∷ rounds) caused results (e ∷ []) many = absurd (omega (arith, many))
time_of_parts number now (x ∷ rounds) caused results (e ∷ f ∷ ends) many =
    let c = sum_by-cons (λ (r : Round). r.advance) x rounds in
    let rest = drop (length (caused_submits number caused)) (drop (length x.submits) results) in
    let d = time_of_parts (number + 1) (now + x.advance) rounds caused rest ends (omega (arith, many)) in omega (arith, c, d)

-- ---- one round more

front : {X : Type 0} (n : ℕ) (xs ys : List X) → length xs ≡ n → take n (xs ++ ys) ≡ xs
front n xs ys many = subst (λ (k : ℕ). take k (xs ++ ys) ≡ xs) many (take-append_seam xs ys)

back : {X : Type 0} (n : ℕ) (xs ys : List X) → length xs ≡ n → drop n (xs ++ ys) ≡ ys
back n xs ys many = subst (λ (k : ℕ). drop k (xs ++ ys) ≡ ys) many (drop-append_seam xs ys)

whole : {X : Type 0} (n : ℕ) (xs : List X) → length xs ≡ n → take n xs ≡ xs
whole n xs many = ap (take n) (sym (append-nil xs)) ∙ front n xs [] many

-- a round with its own results and end, and with what was caused in it and the results and the end of that
abbrev pub parts_with : Round → List SubmitResult → (end : ℕ) → List Submission → List SubmitResult → (second_end : ℕ) → RoundParts SubmitFault
parts_with round results end caused others second_end =
    record {
      round = round_of round;
      results = results_of round.submits results;
      end = end;
      caused = caused;
      caused_results = results_of caused others;
      caused_end = second_end;
    }

module _ (round : Round) (caused more : List Caused) where
  -- what was caused is of earlier rounds, and what comes more is of this one
  abbrev AreBefore : (number : ℕ) → List Round → Type 0
  AreBefore number rounds = (one : Caused) → In one caused → one.round < number + length rounds

  abbrev AreOfThis : (number : ℕ) → List Round → Type 0
  AreOfThis number rounds = (one : Caused) → In one more → one.round ≡ number + length rounds

  module _ (number : ℕ) where
    last_of : AreBefore number [] → AreOfThis number [] → caused_submits number (caused ++ more) ≡ requests.submissions_in more
    last_of before this =
        let none = none_of number caused (λ one i same. let lt = before one i in omega (arith, lt, same)) in
        let all = all_of number more (λ one i. let is = this one i in omega (arith, is)) in
        ap requests.submissions_in (of_both number caused more ∙ (ap (λ (xs : List Caused). xs ++ of_round number more) none ∙ all))

    earlier_of : (x : Round) (rounds : List Round) → AreOfThis number (x ∷ rounds)
        → caused_submits number (caused ++ more) ≡ caused_submits number caused
    earlier_of x rounds this =
        let none = none_of number more (λ one i same. let is = this one i in omega (arith, is, same)) in
        ap requests.submissions_in (of_both number caused more ∙ (ap (λ (xs : List Caused). of_round number caused ++ xs) none ∙ append-nil (of_round number caused)))

    before_next : (x : Round) (rounds : List Round) → AreBefore number (x ∷ rounds) → AreBefore (number + 1) rounds
    before_next x rounds before one i = let lt = before one i in omega (arith, lt)

    this_next : (x : Round) (rounds : List Round) → AreOfThis number (x ∷ rounds) → AreOfThis (number + 1) rounds
    this_next x rounds this one i = let is = this one i in omega (arith, is)

  pub parts_more : (number : ℕ) (rounds : List Round) → AreBefore number rounds → AreOfThis number rounds
      → parts_in number (rounds ++ round ∷ []) (caused ++ more) ≡ parts_in number rounds caused ++ round ∷ second_of round (requests.submissions_in more) ∷ []
  parts_more number [] before this =
      ap (λ (xs : List Submission). round ∷ second_of round xs ∷ []) (last_of number before this)
  parts_more number (x ∷ rounds) before this =
      ap (λ (xs : List Submission). x ∷ second_of x xs ∷ parts_in (number + 1) (rounds ++ round ∷ []) (caused ++ more)) (earlier_of number x rounds this)
      ∙ ap (λ (rest : List Round). x ∷ second_of x (caused_submits number caused) ∷ rest)
      (parts_more (number + 1) rounds (before_next number x rounds before) (this_next number x rounds this))

  module _ (own others : List SubmitResult) (end second_end : ℕ) (each : length own ≡ length round.submits)
      (each_other : length others ≡ length (requests.submissions_in more)) where
    abbrev one : RoundParts SubmitFault
    one = parts_with round own end (requests.submissions_in more) others second_end

    first_more : (number : ℕ) → AreBefore number [] → AreOfThis number []
        → round_parts number (round ∷ []) (caused ++ more) (own ++ others) (end ∷ second_end ∷ []) ≡ one ∷ []
    first_more number before this =
        let n = length round.submits in
        let cs = caused_submits number (caused ++ more) in
        let ms = requests.submissions_in more in
        ap (λ (xs : List Submission).
        parts_with round (take n (own ++ others)) end xs (take (length xs) (drop n (own ++ others))) second_end ∷ []) (last_of number before this)
        ∙ (ap (λ (xs : List SubmitResult). parts_with round xs end ms (take (length ms) (drop n (own ++ others))) second_end ∷ []) (front n own others each)
        ∙ (ap (λ (xs : List SubmitResult). parts_with round own end ms (take (length ms) xs) second_end ∷ []) (back n own others each)
        ∙ ap (λ (xs : List SubmitResult). parts_with round own end ms xs second_end ∷ []) (whole (length ms) others each_other)))

    pub round_parts_more : (number : ℕ) (rounds : List Round) (results : List SubmitResult) (ends : List ℕ) → AreBefore number rounds
        → AreOfThis number rounds → length results ≡ submissions_in (parts_in number rounds caused) → length ends ≡ 2 * length rounds
        → round_parts number (rounds ++ round ∷ []) (caused ++ more) (results ++ (own ++ others)) (ends ++ end ∷ second_end ∷ [])
        ≡ round_parts number rounds caused results ends ++ one ∷ []
    round_parts_more number [] [] [] before this many each_end = first_more number before this
    round_parts_more number [] (r ∷ results) ends before this many each_end = absurd (omega (arith, many))
    round_parts_more number [] [] (e ∷ ends) before this many each_end = absurd (omega (arith, each_end))
    round_parts_more number (x ∷ rounds) results [] before this many each_end = absurd (omega (arith, each_end))
    round_parts_more number (x ∷ rounds) results (e ∷ []) before this many each_end = absurd (omega (arith, each_end))
    round_parts_more number (x ∷ rounds) results (e ∷ f ∷ ends) before this many each_end =
        let tail = own ++ others in
        let n = length x.submits in
        let cs = caused_submits number caused in
        let k = length cs in
        let second = second_of x cs in
        let rest_parts = parts_in (number + 1) rounds caused in
        let a : submissions_in (x ∷ second ∷ rest_parts) ≡ n + submissions_in (second ∷ rest_parts) =
        sum_by-cons (λ (r : Round). length r.submits) x (second ∷ rest_parts) in
        let b : submissions_in (second ∷ rest_parts) ≡ k + submissions_in rest_parts = sum_by-cons (λ (r : Round). length r.submits) second rest_parts in
        let few : n ≤ length results = omega (arith, many, a) in
        let left = drop n results in
        let long : length left ≡ k + submissions_in rest_parts = length-drop n results ∙ omega (arith, many, a, b) in
        let few_left : k ≤ length left = omega (arith, long) in
        let long_rest : length (drop k left) ≡ submissions_in rest_parts = length-drop k left ∙ omega (arith, long) in
        let next : List SubmitResult → List (RoundParts SubmitFault) =
        λ rs. round_parts (number + 1) (rounds ++ round ∷ []) (caused ++ more) rs (ends ++ end ∷ second_end ∷ []) in
        ap (λ (xs : List Submission).
        parts_with x (take n (results ++ tail)) e xs (take (length xs) (drop n (results ++ tail))) f ∷ next (drop (length xs) (drop n (results ++ tail))))
        (earlier_of number x rounds this)
        ∙ (ap (λ (xs : List SubmitResult).
        parts_with x xs e cs (take k (drop n (results ++ tail))) f ∷ next (drop k (drop n (results ++ tail)))) (take-append-le n results tail few)
        ∙ (ap (λ (xs : List SubmitResult). parts_with x (take n results) e cs (take k xs) f ∷ next (drop k xs)) (drop-append-le n results tail few)
        ∙ (ap (λ (xs : List SubmitResult). parts_with x (take n results) e cs xs f ∷ next (drop k (left ++ tail))) (take-append-le k left tail few_left)
        ∙ (ap (λ (xs : List SubmitResult). parts_with x (take n results) e cs (take k left) f ∷ next xs) (drop-append-le k left tail few_left)
        ∙ ap (λ (xs : List (RoundParts SubmitFault)). parts_with x (take n results) e cs (take k left) f ∷ xs)
        (round_parts_more (number + 1) rounds (drop k left) ends (before_next number x rounds before) (this_next number x rounds this) long_rest
        (omega (arith, each_end)))))))
