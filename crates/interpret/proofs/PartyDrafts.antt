-- A filled transaction names no party beyond those that drafts and known contracts name.
use Rattle.std.proofs.Common.{ℕ, suc, Bool, List, [], ◌∷◌, ◌++◌, refl, sym, subst}
use Rattle.std.specs.List.{flat_map}
use Rattle.std.proofs.lemmas.Grind.{flat_map-append}
use Rattle.ledger_terms.specs.declared.value.Value.{Value}
use Rattle.ledger_terms.specs.declared.instance.Instance.{Instance}
use Rattle.ledger_terms.specs.declared.known.Known.{Known}
use Rattle.ledger_terms.specs.declared.contract_ref.ContractRef.{ContractRef}
use Rattle.ledger_terms.specs.declared.contract_ref.ContractRef.TheVariants.{Id, Label}
use Rattle.ledger_terms.specs.declared.arg.Arg.{Arg}
use Rattle.ledger_terms.specs.declared.arg.Arg.TheVariants.{Plain, Contract}
use Rattle.ledger_terms.specs.declared.input.Input.{Input}
use Rattle.ledger_terms.specs.declared.input.Input.TheVariants.{Known as KnownInput, Forged}
use Rattle.ledger_terms.specs.declared.action.Action.{Action}
use Rattle.ledger_terms.specs.declared.action.Action.TheVariants.{Create, Exercise, Fetch}
use Rattle.ledger_terms.specs.Drafts.{Drafts}
use Rattle.ledger_terms.specs.declared.draft_action.DraftAction.{DraftAction}
use Rattle.ledger_terms.specs.declared.draft_action.DraftAction.TheVariants.{Create as DraftCreate, Exercise as DraftExercise, Fetch as DraftFetch}
use Rattle.ledger_terms.specs.Forest.{NoRoots, Root, preorder}
use Rattle.ledger_terms.specs.Trees.{Actions}
use Rattle.lang_eval.specs.Parts.{PartyNames}
use Rattle.lang_eval.specs.Named.{AreKnown, parties_in_action, parties_in_instance, parties_in_value, parties_in_values}
use Rattle.lang_eval.proofs.Known.{known_append, known_front, known_back}
use Rattle.interpret.specs.Ids.{Hash}
use Rattle.interpret.specs.FilledTree.{IsValueOf, AreValuesOf, IsKnownAs, IsInputOf, IsActionOf, AreFilled, IsFilled}
use Rattle.lang_eval.specs.HandedIn.{parties_in_arg, parties_in_args, parties_in_draft, parties_in_drafts, parties_in_input}
use Rattle.interpret.specs.NamedParties.{parties_in_act, parties_in_contracts, parties_in_forest, parties_in_known}
use Rattle.interpret.proofs.PartyLaw.{IsKnownContract, each_known}
use Rattle.interpret.proofs.Used.{AllOf, found}

module _ (is_party : List ℕ → Bool) (known : List Known) (contracts : AllOf (IsKnownContract is_party) known) where
  abbrev Fine : PartyNames → Type 0
  Fine parties = AreKnown is_party parties

  value_fine : (a : Arg) (v : Value) → Fine (parties_in_arg a) → IsValueOf known a v → Fine (parties_in_value v)
  value_fine (Plain w) v p h = subst (λ (v : Value). Fine (parties_in_value v)) (sym h) p
  value_fine (Contract r) v p h = subst (λ (v : Value). Fine (parties_in_value v)) (sym h.2) refl

  values_fine : (args : List Arg) (vs : List Value) → Fine (parties_in_args args) → AreValuesOf known args vs → Fine (parties_in_values vs)
  values_fine [] [] p h = refl
  values_fine (a ∷ args) (v ∷ vs) p h =
      known_append is_party (parties_in_value v) (parties_in_values vs)
      (value_fine a v (known_front is_party (parties_in_arg a) (parties_in_args args) p) h.0)
      (values_fine args vs (known_back is_party (parties_in_arg a) (parties_in_args args) p) h.1)
  values_fine [] (v ∷ vs) p h = absurd h
  values_fine (a ∷ args) [] p h = absurd h

  known_fine : (r : ContractRef) (k : Known) → IsKnownAs known r k → Fine (parties_in_known k)
  known_fine (Id id) k h = found (IsKnownContract is_party) _ k known contracts h
  known_fine (Label l) k h = found (IsKnownContract is_party) _ k known contracts h

  input_fine : (input : Input) (id salt : Hash) (i : Instance) → Fine (parties_in_input input) → IsInputOf known input id salt i → Fine (parties_in_instance i)
  input_fine (KnownInput r) id salt i p h = known_fine r (record { id = id; salt = salt; instance = i }) h
  input_fine (Forged given salt' template fields) id salt i p h = values_fine fields i.fields p h.2

  action_fine : (seed : Hash) (d : DraftAction) (a : Action) → Fine (parties_in_draft d) → IsActionOf known seed d a → Fine (parties_in_action a)
  action_fine seed (DraftCreate template fields) (Create id i) p h = values_fine fields i.fields p h.1
  action_fine seed (DraftExercise input choice args actors consuming result) (Exercise id salt i choice' args' actors' consuming' result') p h =
      let rest = parties_in_args args ++ (actors ++ parties_in_arg result) in
      let q = known_back is_party (parties_in_input input) rest p in
      let r = known_back is_party (parties_in_args args) (actors ++ parties_in_arg result) q in
      known_append is_party (parties_in_instance i) (parties_in_values args' ++ (actors' ++ parties_in_value result'))
      (input_fine input id salt i (known_front is_party (parties_in_input input) rest p) h.0)
      (known_append is_party (parties_in_values args') (actors' ++ parties_in_value result')
      (values_fine args args' (known_front is_party (parties_in_args args) (actors ++ parties_in_arg result) q) h.2)
      (known_append is_party actors' (parties_in_value result')
      (subst Fine (sym h.3) (known_front is_party actors (parties_in_arg result) r))
      (value_fine result result' (known_back is_party actors (parties_in_arg result) r) h.5)))
  action_fine seed (DraftFetch input actors) (Fetch id salt i actors') p h =
      known_append is_party (parties_in_instance i) actors' (input_fine input id salt i (known_front is_party (parties_in_input input) actors p) h.0)
      (subst Fine (sym h.1) (known_back is_party (parties_in_input input) actors p))
  action_fine seed (DraftCreate template fields) (Exercise id salt i choice' args' actors' consuming' result') p h = absurd h
  action_fine seed (DraftCreate template fields) (Fetch id salt i actors') p h = absurd h
  action_fine seed (DraftExercise input choice args actors consuming result) (Create id i) p h = absurd h
  action_fine seed (DraftExercise input choice args actors consuming result) (Fetch id salt i actors') p h = absurd h
  action_fine seed (DraftFetch input actors) (Create id i) p h = absurd h
  action_fine seed (DraftFetch input actors) (Exercise id salt i choice' args' actors' consuming' result') p h = absurd h

  forest_fine : (seed : Hash) (index : ℕ) (drafts : Drafts) (forest : Actions)
      → Fine (parties_in_drafts drafts) → AreFilled known seed index drafts forest → Fine (parties_in_forest forest)
  forest_fine seed index NoRoots NoRoots p h = refl
  forest_fine seed index (Root d drafts others) (Root act consequences more) p h =
      let rest = subst Fine (flat_map-append parties_in_draft (preorder drafts) (preorder others))
      (known_back is_party (parties_in_draft d) (flat_map parties_in_draft (preorder drafts ++ preorder others)) p) in
      known_append is_party (parties_in_act act) (flat_map parties_in_act (preorder consequences ++ preorder more))
      (action_fine act.seed d act.action (known_front is_party (parties_in_draft d) (flat_map parties_in_draft (preorder drafts ++ preorder others)) p) h.1)
      (subst Fine (sym (flat_map-append parties_in_act (preorder consequences) (preorder more)))
      (known_append is_party (parties_in_forest consequences) (parties_in_forest more)
      (forest_fine act.seed 0 drafts consequences (known_front is_party (parties_in_drafts drafts) (parties_in_drafts others) rest) h.2)
      (forest_fine seed (suc index) others more (known_back is_party (parties_in_drafts drafts) (parties_in_drafts others) rest) h.3)))
  forest_fine seed index NoRoots (Root act consequences more) p h = absurd h
  forest_fine seed index (Root d drafts others) NoRoots p h = absurd h

-- each action of the filled transaction
pub filled_parties : (is_party : List ℕ → Bool) (known : List Known) (seed : Hash) (drafts : Drafts) (forest : Actions)
    → AreKnown is_party (parties_in_contracts known) → AreKnown is_party (parties_in_drafts drafts) → IsFilled known seed drafts forest
    → AreKnown is_party (parties_in_forest forest)
filled_parties is_party known seed drafts forest contracts p h =
    forest_fine is_party known (each_known is_party known contracts) seed 0 drafts forest p h.trees
