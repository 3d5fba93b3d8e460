-- What is wanted over authentic contracts is authentic.
use Rattle.std.proofs.Common.{◌≡◌, ℕ, ◌+◌, true, List, [], ◌∷◌, ◌++◌, refl, sym, subst, ◌∙◌}
use Rattle.std.specs.List.{list_all}
use Rattle.std.proofs.lemmas.List.Folds.{list_all-append}
use Rattle.std.proofs.lemmas.Slice.Eq.{bytes_eq-Decides}
use Rattle.ledger_terms.proofs.Deciding.{both, both_true}
use Rattle.ledger_terms.specs.declared.value.Value.{Value}
use Rattle.ledger_terms.specs.declared.known.Known.{Known}
use Rattle.ledger_terms.specs.declared.command.Command.{Command}
use Rattle.ledger_terms.specs.declared.action.Action.{Action}
use Rattle.ledger_terms.specs.declared.action.Action.TheVariants.{Create, Exercise, Fetch}
use Rattle.ledger_terms.specs.Forest.{NoRoots, Root, preorder}
use Rattle.ledger_terms.specs.Trees.{Actions}
use Rattle.ledger_model.specs.Language.{roles_of}
use Rattle.ledger_model.specs.Authority.{authorisers_below}
use Rattle.ledger_model.specs.declared.step.ChildResult.{ChildResult}
use Rattle.lang_eval.specs.Found.{Packages}
use Rattle.lang_eval.specs.Parts.{PartyNames}
use Rattle.interpret.specs.declared.progress.Progress.{Progress}
use Rattle.interpret.specs.Ids.{Hash, contract_id, is_authentic, is_authentic_contract}
use Rattle.interpret.specs.Language.{the_language}
use Rattle.interpret.specs.Act.{Source}
use Rattle.interpret.specs.Commands.{commands_source}
use Rattle.interpret.specs.Interpreted.{nothing_done}
use Rattle.interpret.specs.Wanted.{Wanted, IsWanted, IsInput, after, after_action, after_all, one_less, source_of, result_of}
use Rattle.interpret.proofs.Law.{after_all-append}
use Rattle.interpret.proofs.Used.{AllOf, all_push, used}

abbrev IsOne : Known → Type 0
IsOne k = is_authentic_contract k ≡ true

each_one : (ks : List Known) → list_all is_authentic_contract ks ≡ true → AllOf IsOne ks
each_one [] h = tt
each_one (k ∷ ks) h = let p = both (is_authentic_contract k) (list_all is_authentic_contract ks) h in (p.0, each_one ks p.1)

module _ (packages : Packages) (known : List Known) (all : AllOf IsOne known) where
  input_authentic : (p : Progress) (seed : Hash) (a : Action)
      → AllOf IsOne p.created → IsInput packages known p seed a → is_authentic (record { seed = seed; action = a }) ≡ true
  input_authentic p seed (Create id i) made h = (bytes_eq-Decides id (contract_id seed i)).1 h
  input_authentic p seed (Exercise id salt i choice args actors consuming result) made h =
      used IsOne packages known p id i.template (record { id = id; salt = salt; instance = i }) all made h
  input_authentic p seed (Fetch id salt i actors) made h =
      used IsOne packages known p id i.template (record { id = id; salt = salt; instance = i }) all made h

  after_authentic : (p : Progress) (seed : Hash) (a : Action)
      → AllOf IsOne p.created → is_authentic (record { seed = seed; action = a }) ≡ true → AllOf IsOne (after_action p seed a).created
  after_authentic p seed (Create id i) made one = all_push IsOne p.created (record { id = id; salt = seed; instance = i }) made one
  after_authentic p seed (Exercise id salt i choice args actors consuming result) made one = made
  after_authentic p seed (Fetch id salt i actors) made one = made

  forest_authentic : (left : ℕ) (source : Source) (result : Value) (by : PartyNames) (seen : List ChildResult) (seed : Hash) (path : List ℕ) (index : ℕ)
      (progress : Progress) (forest : Actions)
      → AllOf IsOne progress.created → Wanted packages known left source result by seen seed path index progress forest
      → (list_all is_authentic (preorder forest) ≡ true) × AllOf IsOne (after_all progress (preorder forest)).created
  forest_authentic left source result by seen seed path index progress NoRoots made w = (refl, made)
  forest_authentic left source result by seen seed path index progress (Root a consequences others) made w =
      let one = input_authentic progress a.seed a.action made w.4.input in
      let down =
      forest_authentic (one_less left) (source_of packages (path ++ index ∷ []) a.action) (result_of a.action)
      (authorisers_below (roles_of (the_language packages)) a.action) [] a.seed (path ++ index ∷ []) 0 (after progress a) consequences
      (after_authentic progress a.seed a.action made one) w.5 in
      let along =
      forest_authentic left source result by (source.learn seen a.action) seed path (index + 1)
      (after_all (after progress a) (preorder consequences)) others down.1 w.6 in (
        both_true _ _ one (list_all-append is_authentic (preorder consequences) (preorder others) ∙ both_true _ _ down.0 along.0),
        subst (λ (p : Progress). AllOf IsOne p.created) (sym (after_all-append (after progress a) (preorder consequences) (preorder others))) along.1,
      )

-- each action of the wanted transaction
pub wanted_authentic : (packages : Packages) (known : List Known) (seed : Hash) (by : PartyNames) (commands : List Command) (forest : Actions)
    → list_all is_authentic_contract known ≡ true → IsWanted packages known seed by commands forest → list_all is_authentic (preorder forest) ≡ true
wanted_authentic packages known seed by commands forest all h =
    (forest_authentic packages known (each_one known all) 16 (commands_source packages known commands) _ by [] seed [] 0 nothing_done forest tt h.roots).0
