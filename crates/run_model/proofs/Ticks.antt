-- Each part of a run has one Tick at most.
use Rattle.std.proofs.Common.{◌≡◌, ℕ, ◌+◌, ◌≤◌, Bool, false, List, [], ◌∷◌, ◌++◌, length, take, cond, Option, Some, None, refl, ap, ◌∙◌, inl, inr}
use Rattle.std.proofs.Common.{arith, take_all}
use Rattle.std.specs.Prelude.{nat_eq}
use Rattle.std.proofs.lemmas.Bool.{cases_Bool}
use Rattle.std.proofs.lemmas.List.Sums.{sum_by-cons, sum_by-append}
use Rattle.ledger_model.proofs.Lists.{In, contains_from_In}
use Rattle.world_model.specs.Messages.{Entry, Request, RequestMessage, Tick}
use Rattle.world_model.specs.Machine.{Machine}
use Rattle.world_model.specs.Sequencing.{AppendFault, append_fault, entry_after, unless_refused, sequenced}
use Rattle.world_model.specs.Rounds.{Round, Results, Why, RoundAnswers, PartHolds, RoundsHold, RunHolds, begun, ticked, handed_in, is_tick}
use Rattle.run_model.specs.Ticks.{ticks_in}

abbrev one_if_tick : Entry → ℕ
one_if_tick e = cond (is_tick e.message) 1 0

ticks_more : (xs ys : List Entry) → ticks_in (xs ++ ys) ≡ ticks_in xs + ticks_in ys
ticks_more = sum_by-append one_if_tick

no_ticks : (xs : List Entry) → ((e : Entry) → In e xs → is_tick e.message ≡ false) → ticks_in xs ≡ 0
no_ticks [] h = refl
no_ticks (x ∷ xs) h =
    let first : one_if_tick x ≡ 0 = ap (λ (b : Bool). cond b 1 0) (h x (inl refl)) in
    let rest = no_ticks xs (λ e i. h e (inr i)) in
    let sum = sum_by-cons one_if_tick x xs in sum ∙ omega (arith, first, rest)

request_ticks : (m : Machine) (now : ℕ) (log : List Entry) (q : Request) → ticks_in (sequenced m now log (RequestMessage q)) ≡ ticks_in log
request_ticks m now log q = by_fault (append_fault m log (RequestMessage q))
  where
    by_fault : (o : Option AppendFault) → ticks_in (unless_refused o log (log ++ entry_after now log (RequestMessage q) ∷ [])) ≡ ticks_in log
    by_fault (Some f) = refl
    by_fault None =
        let sum = ticks_more log (entry_after now log (RequestMessage q) ∷ []) in
        let one : ticks_in (entry_after now log (RequestMessage q) ∷ []) ≡ 0 = refl in omega (arith, sum, one)

handed_ticks : (m : Machine) (now : ℕ) (log : List Entry) (qs : List Request) → ticks_in (handed_in m now log qs) ≡ ticks_in log
handed_ticks m now log [] = refl
handed_ticks m now log (q ∷ qs) = handed_ticks m now (sequenced m now log (RequestMessage q)) qs ∙ request_ticks m now log q

ticked_ticks : (m : Machine) (now : ℕ) (round : Round) (log : List Entry) → ticks_in (ticked m now round log) ≤ ticks_in log + 1
ticked_ticks m now round log =
    elim (cases_Bool (nat_eq round.advance 0)) [ inl b ↦ rw b (omega arith) | inr b ↦ rw b (by_fault (append_fault m log Tick)) ]
  where
    by_fault : (o : Option AppendFault) → ticks_in (unless_refused o log (log ++ entry_after now log Tick ∷ [])) ≤ ticks_in log + 1
    by_fault (Some f) = omega arith
    by_fault None =
        let sum = ticks_more log (entry_after now log Tick ∷ []) in
        let one : ticks_in (entry_after now log Tick ∷ []) ≡ 1 = refl in omega (arith, sum, one)

begun_ticks : (m : Machine) (now : ℕ) (round : Round) (log : List Entry) → ticks_in (begun m now round log) ≤ ticks_in log + 1
begun_ticks m now round log =
    let raws = handed_ticks m now (ticked m now round log) round.raws in
    let first = ticked_ticks m now round log in omega (arith, raws, first)

module _ {F : Type 0} (m : Machine) (why : Why F) where
  part_ticks : (now : ℕ) (round : Round) (results : Results F) (before after : List Entry) → PartHolds m now round results before after
      → ticks_in after ≤ ticks_in before + 1
  part_ticks now round results before after part =
      let sum = ap ticks_in part.is_begun ∙ ticks_more (begun m now round before) part.rest in
      let none = no_ticks part.rest (λ e i. part.no_tick e (contains_from_In part.rest e i)) in
      let first = begun_ticks m now round before in omega (arith, sum, none, first)

  rounds_ticks : (log : List Entry) (now start : ℕ) (raws : List Request) (earlier : Results F) (rounds : List (RoundAnswers F))
      → RoundsHold m why now log start raws earlier rounds → ticks_in log ≤ ticks_in (take start log) + length rounds
  rounds_ticks log now start raws earlier [] h =
      let all : ticks_in (take start log) ≡ ticks_in log = ap ticks_in (take_all start log (omega (arith, h))) in omega (arith, all)
  rounds_ticks log now start raws earlier (x ∷ rest) h =
      let later = rounds_ticks log (now + x.round.advance) x.end (raws ++ x.round.raws) (earlier ++ x.results) rest h.2 in
      let here = part_ticks (now + x.round.advance) x.round x.results (take start log) (take x.end log) (h.1).part in omega (arith, later, here)

  pub few_ticks : (log : List Entry) (rounds : List (RoundAnswers F)) → RunHolds m why log rounds → ticks_in log ≤ length rounds
  few_ticks log rounds h =
      let all = rounds_ticks log 0 0 [] [] rounds h.cut in let none : ticks_in (take 0 log) ≡ 0 = refl in omega (arith, all, none)
