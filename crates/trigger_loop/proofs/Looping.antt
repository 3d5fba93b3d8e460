-- The loop over the rules of a round.
use Rattle.std.proofs.Common.{◌≡◌, ◌≢◌, ℕ, ◌+◌, ◌≤◌, List, [], ◌++◌, Some, refl, sym, ◌∙◌, subst, arith}
use Rattle.std.specs.Prelude.{slice_get}
use Rattle.ledger_terms.specs.declared.active_row.ActiveRow.{ActiveRow}
use Rattle.canton_model.specs.Log.{Params}
use Rattle.canton_model.specs.Reading.{Reading}
use Rattle.world_model.specs.Messages.{Entry}
use Rattle.trigger_rules.specs.declared.caused.Caused.{Caused}
use Rattle.trigger_rules.specs.declared.rule.Rule.{Rule}
use Rattle.trigger_rules.specs.Kept.{AreNamed}
use Rattle.trigger_rules.specs.Answers.{Answers}
use Rattle.trigger_rules.specs.Firing.{Fires, contracts_of}
use Rattle.trigger_model.specs.CausedRun.{AreAskedSo, FiredRound}
use Rattle.trigger_model.proofs.CausedSteps.{asked_in_order}
use Rattle.trigger_loop.specs.Seeing.{SeesActive}

-- so many rules were asked, and those behind them have fired on what they had
pub record AreAskedTo (may : Answers) (rows : ℕ → List ActiveRow) (round now : ℕ) (rules : List Rule) (first fired : ℕ → List (List ℕ)) (count : ℕ)
    (caused : List Caused) : Type 0 where
  pub asked : (reading : Reading) (params : Params) (log : List Entry) (r : FiredRound) (earlier : List Caused) → r.number ≡ round → r.now ≡ now → AreNamed rules
      → SeesActive rows rules reading params log r
      → AreAskedSo may reading params log r earlier rules first 0 [] → AreAskedSo may reading params log r earlier rules fired count caused
  pub behind : (k : ℕ) → count ≤ k → fired k ≡ first k

pub not_yet : (may : Answers) (rows : ℕ → List ActiveRow) (round now : ℕ) (rules : List Rule) (first : ℕ → List (List ℕ))
    → AreAskedTo may rows round now rules first first 0 []
not_yet may rows round now rules first = record { asked = λ reading params log r earlier number time named sees so. so; behind = λ k le. refl }

pub next_asked : (may : Answers) (rows : ℕ → List ActiveRow) (round now : ℕ) (rules : List Rule) (first fired fired' : ℕ → List (List ℕ)) (count : ℕ)
    (caused own : List Caused) (rule : Rule) → AreAskedTo may rows round now rules first fired count caused → slice_get rules count ≡ Some rule
    → Fires may rule round now (fired count) (rows rule.participant) own → fired' count ≡ fired count ++ contracts_of own
    → ((other : ℕ) → other ≢ count → fired' other ≡ fired other)
    → AreAskedTo may rows round now rules first fired' (count + 1) (caused ++ own)
next_asked may rows round now rules first fired fired' count caused own rule a there f its others =
    record {
      asked = λ reading params log r earlier number time named sees so.
          let read = sees count rule there in
          let f' = subst (λ (n : ℕ). Fires may rule n now (fired count) (rows rule.participant) own) (sym number) f in
          let f'' = subst (λ (t : ℕ). Fires may rule r.number t (fired count) (rows rule.participant) own) (sym time) f' in
          let f''' = subst (λ (rs : List ActiveRow). Fires may rule r.number r.now (fired count) rs own) read.2 f'' in
          asked_in_order may reading params log r earlier rules named fired fired' count read.0 caused own rule
          (a.asked reading params log r earlier number time named sees so) there read.1 f''' its others;
      behind = λ k le.
          let apart : k ≢ count = λ e. omega (arith, le, e) in
          others k apart ∙ a.behind k (omega (arith, le));
    }
