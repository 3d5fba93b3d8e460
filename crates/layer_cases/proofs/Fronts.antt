-- The front of a list where something holds of each.
use Rattle.std.proofs.Common.{◌≡◌, ◌<◌, List, [], ◌∷◌, ◌++◌, length, sym, subst}
use Rattle.std.specs.Prelude.{All, slice_index_or}
use Rattle.std.specs.List.{remove}
use Rattle.std.proofs.lemmas.List.Elements.{All-drop, All-nil, All-push}
use Rattle.ledger_terms.specs.declared.host.Host.{Host}
use Rattle.script_read.specs.Kept.{IsRound, IsSubmission}
use Rattle.script_read.specs.declared.round.Round.{Round}
use Rattle.trigger_rules.specs.declared.rule.Rule.{Rule}

module _ {X : Type 0} (P : X → Type 0) where
  pub front_holds : (xs : List X) (x : X) → 0 < length xs → x ≡ slice_index_or xs 0 x → All P xs → P x
  front_holds xs x some is each = subst P (sym is) (each 0 x some)

  pub others_hold : (xs ys : List X) → ys ≡ remove xs 0 → All P xs → All P ys
  others_hold xs ys is each = subst (All P) (sym is) (All-drop P 1 xs each)

  pub one_more : (xs ys : List X) (x : X) → ys ≡ xs ++ x ∷ [] → All P xs → P x → All P ys
  one_more xs ys x is each holds = subst (All P) (sym is) (All-push P xs x each holds)

  pub nothing : (xs : List X) → xs ≡ [] → All P xs
  nothing xs is = subst (All P) (sym is) (All-nil P)

pub submissions_hold : (hosts : List Host) (rules : List Rule) (rounds : List Round) (round : Round) → 0 < length rounds
    → round ≡ slice_index_or rounds 0 round → All (IsRound hosts rules) rounds → All (IsSubmission hosts rules) round.submits
submissions_hold hosts rules rounds round some is each = (front_holds (IsRound hosts rules) rounds round some is each).submits
