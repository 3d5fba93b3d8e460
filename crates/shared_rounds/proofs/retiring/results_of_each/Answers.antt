use Rattle.std.proofs.Common.{rules, ◌≡◌, ◌++◌, ◌∷◌, [], List, append_assoc, map, refl, sym, ap, ◌∙◌, subst}
use Rattle.std.specs.Prelude.{All}
use Rattle.std.proofs.lemmas.List.Elements.{All-cons, All-tail}
use mathlib.Core.List.{IsPrefix}
use Rattle.world_model.specs.Messages.{Entry}
use Rattle.node_core.specs.declared.submit_result.SubmitResult.{SubmitResult}
use Rattle.seq_log.specs.Sequenced.{Sequenced}
use Rattle.shared_rounds.specs.declared.retired.Retired.{Retired}
use Rattle.shared_rounds.specs.Retired.{results_left, list_left, IsLeftIn}
use Rattle.shared_rounds.proofs.retiring.results_of_each.Goals as goal

pub retired-init : goal.retired-init
retired-init c =
    let log = c.args.sequencer.now.list in
    let all : c.into_iter-one-iterator.result.rest.items ≡ c.args.retired.items = search rules in (
      refl,
      search rules,
      subst (All (IsLeftIn c.args.sequencer.now.row)) (sym all) c.requires,
      λ h. subst (λ (xs : List Retired). All (λ (list : List Entry). IsPrefix list log) (map list_left xs)) all h,
    )

pub retired-preserved : goal.retired-preserved
retired-preserved c =
    let log = c.args.sequencer.now.list in
    let inv = c.retired.invariant in
    let one = c.in-Some.one in
    let rest = c.next.new.self.rest.items in
    let steps : c.retired.one-iterator.rest.items ≡ one ∷ rest = c.in-Some.ensures.steps.0 in
    let before = c.retired.queues.items in
    let pushed : c.push.new.self.items ≡ before ++ results_left one ∷ [] = search rules in
    let left = subst (All (IsLeftIn c.args.sequencer.now.row)) steps inv.2 in
    let begins : IsPrefix (list_left one) log = subst (λ (s : Sequenced). IsPrefix (list_left one) s.list) inv.0 c.reaches.ensures.begins in (
      c.reaches.ensures.same ∙ inv.0,
      ap (λ (xs : List (List SubmitResult)). xs ++ map results_left rest) pushed
          ∙ (append_assoc before (results_left one ∷ []) (map results_left rest)
          ∙ (ap (λ (xs : List Retired). before ++ map results_left xs) (sym steps) ∙ inv.1)),
      All-tail (IsLeftIn c.args.sequencer.now.row) one rest left,
      λ h. inv.3
          (subst (λ (xs : List Retired). All (λ (list : List Entry). IsPrefix list log) (map list_left xs)) (sym steps)
          (All-cons (λ (list : List Entry). IsPrefix list log) (list_left one) (map list_left rest) begins h)),
    )
