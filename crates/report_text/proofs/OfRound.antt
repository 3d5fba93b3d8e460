-- What rules caused in a round: that of the first, and that of the others.
use Rattle.std.proofs.Common.{◌≡◌, ℕ, ◌+◌, List, [], ◌∷◌, ◌++◌, drop, length, map, nat_eq, ap, sym, subst, ◌∙◌}
use Rattle.std.proofs.lemmas.List.{drop-drop, length-append, length-map, map-append}
use Rattle.std.proofs.lemmas.List.Elements.{filter-append}
use Rattle.std.specs.List.{flat_map, zip}
use Rattle.ledger_terms.specs.declared.submission.Submission.{Submission}
use Rattle.node_core.specs.declared.submit_result.SubmitResult.{SubmitResult}
use Rattle.trigger_rules.specs.declared.caused.Caused.{Caused}
use Rattle.report_text.specs.Results.{Submitted, caused_in, of_round}
use Rattle.report_text.proofs.Zipped.{next_list}

of_round-cons : (round : ℕ) (x : Caused) (xs : List Caused) → of_round round (x ∷ xs) ≡ of_round round (x ∷ []) ++ of_round round xs
of_round-cons round x xs = filter-append (λ (one : Caused). nat_eq one.round round) (x ∷ []) xs

caused_in-cons : (round : ℕ) (x : Caused) (xs : List Caused) → caused_in round (x ∷ xs) ≡ caused_in round (x ∷ []) ++ caused_in round xs
caused_in-cons round x xs =
    let what : Caused → Submission = λ one. one.submission in
    let submitted : Submission → Submitted = λ s. record { round = round; submission = s } in
    ap (λ (l : List Caused). map submitted (map what l)) (of_round-cons round x xs)
    ∙ ap (map submitted) (map-append what (of_round round (x ∷ [])) (of_round round xs))
    ∙ map-append submitted (map what (of_round round (x ∷ []))) (map what (of_round round xs))

pub length-caused_in : (round : ℕ) (xs : List Caused) → length (caused_in round xs) ≡ length (of_round round xs)
length-caused_in round xs = length-map (map (λ (one : Caused). one.submission) (of_round round xs)) _ ∙ length-map (of_round round xs) _

-- the first of what was caused goes from what is left to what is done
pub next_caused : (f : Submitted × SubmitResult → List ℕ) (round : ℕ) (x : Caused) (xs : List Caused) (ys : List SubmitResult) (done whole : List ℕ)
    → done ++ flat_map f (zip (caused_in round (x ∷ xs)) ys) ≡ whole
    → (done ++ flat_map f (zip (caused_in round (x ∷ [])) ys)) ++ flat_map f (zip (caused_in round xs) (drop (length (of_round round (x ∷ []))) ys)) ≡ whole
next_caused f round x xs ys done whole sofar =
    subst (λ (n : ℕ). (done ++ flat_map f (zip (caused_in round (x ∷ [])) ys)) ++ flat_map f (zip (caused_in round xs) (drop n ys)) ≡ whole)
    (length-caused_in round (x ∷ []))
    (next_list f (caused_in round (x ∷ [])) (caused_in round xs) ys done whole
    (subst (λ (l : List Submitted). done ++ flat_map f (zip l ys) ≡ whole) (caused_in-cons round x xs) sofar))

-- the answers behind those of all are the answers behind those of the first and then of the others
pub after_first : (round : ℕ) (x : Caused) (xs : List Caused) (ys : List SubmitResult)
    → drop (length (of_round round xs)) (drop (length (of_round round (x ∷ []))) ys) ≡ drop (length (of_round round (x ∷ xs))) ys
after_first round x xs ys =
    drop-drop (length (of_round round xs)) (length (of_round round (x ∷ []))) ys
    ∙ ap (λ (n : ℕ). drop n ys) (sym (ap length (of_round-cons round x xs) ∙ length-append (of_round round (x ∷ [])) (of_round round xs)))
