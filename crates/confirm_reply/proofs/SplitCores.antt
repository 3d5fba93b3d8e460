-- A core with roles is split as the model asks where the roles of its actions are.
use Rattle.std.proofs.Common.{◌≡◌, ℕ, Bool, true, false, List, [], ◌∷◌, ◌++◌, map, Option, Some, None, refl, sym, ap, ◌∙◌, inl, inr}
use Rattle.std.specs.Prelude.{All, Contains, flat_map, not, ◌&&◌, option_map}
use Rattle.std.specs.List.{list_all}
use Rattle.std.proofs.lemmas.Bool.{cases_Bool, and_parts, both_ways}
use Rattle.std.proofs.lemmas.List.Elements.{All-cons, All-nil}
use Rattle.std.proofs.lemmas.List.Folds.{flat_map-map, list_all-append, list_all-map}
use Rattle.std.proofs.lemmas.Option.{none-some, same_Some}
use Rattle.ledger_terms.specs.Parties.{is_subset, set_of}
use Rattle.ledger_terms.specs.declared.act.Act.{Act}
use Rattle.ledger_model.specs.Language.{Language, roles_of}
use Rattle.ledger_model.specs.Terms.{Action, PartySet}
use Rattle.ledger_model.specs.Views.{confirmers_of, its_informees, starts}
use Rattle.ledger_model.specs.declared.roles.Roles.{Roles}
use Rattle.canton_model.specs.Checks.{is_split_core, same_names}
use Rattle.lang_eval.specs.Found.{Packages}
use Rattle.lang_eval.specs.Language.{has_roles, roles_in}
use Rattle.lang_eval.proofs.Informed.{no_size}
use Rattle.interpret.specs.Language.{is_creatable, is_exercisable, the_language}
use Rattle.confirm_reply.specs.Opened.{AllHaveRoles, acts_of_core}
use Rattle.confirm_reply.specs.WellSplit.{confirmers_by, is_split_by, is_split_where_there, role_where_there, roles_where_there, stays_in, with_first}

abbrev Numbered : Type 0
Numbered = ℕ × Act

abbrev pub actions_of : List Act → List Action
actions_of acts = map (λ (act : Act). act.action) acts

module _ (packages : Packages) where
  abbrev have : List Act → Bool
  have acts = list_all (λ (act : Act). has_roles packages act.action) acts

  abbrev roles_by : List Act → List Roles
  roles_by acts = map (λ (act : Act). roles_in packages act.action) acts

  all_there : (acts : List Act) → have acts ≡ true → roles_where_there packages (actions_of acts) ≡ Some (roles_by acts)
  all_there [] h = refl
  all_there (act ∷ acts) h =
      let parts = and_parts (has_roles packages act.action) (have acts) h in
      let here = parts.0 in
      rw (here, all_there acts parts.1) refl

  none_there : (acts : List Act) → have acts ≡ false → roles_where_there packages (actions_of acts) ≡ None
  none_there [] h = absurd (both_ways true h refl)
  none_there (act ∷ acts) h =
      elim (cases_Bool (has_roles packages act.action)) [
        | inl here ↦ rw (here, none_there acts (rw here at h)) refl
        | inr lacks ↦ rw lacks refl
      ]

  same_roles : roles_of (the_language packages) ≡ roles_in packages
  same_roles = λ i action. no_size packages (is_creatable packages) (is_exercisable packages) action i

  not_not : (b : Bool) → not (not b) ≡ b
  not_not true = refl
  not_not false = refl

  -- the model's test over roles
  abbrev by_roles : (Action → Roles) → (informees confirmers : PartySet) → Act → (rest : List Act) → (below : List Act) → Bool
  by_roles roles informees confirmers first rest below =
      same_names informees (roles first.action).informees
      && (same_names confirmers (set_of (flat_map (λ (act : Act). (roles act.action).confirmers) (first ∷ rest)))
      && (list_all (λ (act : Act). not (starts roles (its_informees roles first) act)) rest
      && list_all (starts roles (its_informees roles first)) below))

  inside : (informees : PartySet) (acts : List Act)
      → list_all (λ (act : Act). not (starts (roles_in packages) informees act)) acts ≡ list_all (stays_in informees) (roles_by acts)
  inside informees [] = refl
  inside informees (act ∷ acts) =
      λ i. not_not (is_subset (roles_in packages act.action).informees informees) i && inside informees acts i

  apart : (informees : PartySet) (acts : List Act)
      → list_all (starts (roles_in packages) informees) acts ≡ list_all (λ (r : Roles). not (stays_in informees r)) (roles_by acts)
  apart informees [] = refl
  apart informees (act ∷ acts) = ap (λ (b : Bool). not (is_subset (roles_in packages act.action).informees informees) && b) (apart informees acts)

  confirmed : (acts : List Act)
      → flat_map (λ (act : Act). (roles_in packages act.action).confirmers) acts ≡ flat_map (λ (r : Roles). r.confirmers) (roles_by acts)
  confirmed [] = refl
  confirmed (act ∷ acts) = ap (λ (names : PartySet). (roles_in packages act.action).confirmers ++ names) (confirmed acts)

  by_roles_is : (informees confirmers : PartySet) (first : Act) (rest below : List Act)
      → by_roles (roles_in packages) informees confirmers first rest below ≡ is_split_by informees confirmers (roles_by (first ∷ rest)) (roles_by below)
  by_roles_is informees confirmers first rest below =
      let own = (roles_in packages first.action).informees in
      λ i. same_names informees own && (same_names confirmers (set_of (confirmed (first ∷ rest) i)) && (inside own rest i && apart own below i))

  -- ---- cores with numbers

  numbered_confirmers : (roles : Action → Roles) (core : List Numbered)
      → flat_map (λ (a : Numbered). (roles (a.1).action).confirmers) core ≡ flat_map (λ (act : Act). (roles act.action).confirmers) (acts_of_core core)
  numbered_confirmers roles [] = refl
  numbered_confirmers roles (a ∷ core) = ap (λ (names : PartySet). (roles (a.1).action).confirmers ++ names) (numbered_confirmers roles core)

  numbered_inside : (roles : Action → Roles) (informees : PartySet) (core : List Numbered)
      → list_all (λ (a : Numbered). not (starts roles informees a.1)) core ≡ list_all (λ (act : Act). not (starts roles informees act)) (acts_of_core core)
  numbered_inside roles informees [] = refl
  numbered_inside roles informees (a ∷ core) = ap (λ (b : Bool). not (starts roles informees a.1) && b) (numbered_inside roles informees core)

  abbrev language : Language
  language = the_language packages

  parts_are : (informees confirmers : PartySet) (first : Numbered) (rest : List Numbered) (below : List Act)
      → is_split_core language informees confirmers (first ∷ rest) below
      ≡ (have (acts_of_core (first ∷ rest) ++ below) && is_split_by informees confirmers (roles_by (acts_of_core (first ∷ rest))) (roles_by below))
  parts_are informees confirmers first rest below =
      let R = roles_of language in
      let own = its_informees R first.1 in
      (λ i. have (acts_of_core (first ∷ rest) ++ below)
      && (same_names informees own
      && (same_names confirmers (set_of (numbered_confirmers R (first ∷ rest) i))
      && (numbered_inside R own rest i && list_all (starts R own) below))))
      ∙ ((λ i. have (acts_of_core (first ∷ rest) ++ below) && by_roles (same_roles i) informees confirmers first.1 (acts_of_core rest) below)
      ∙ ap (λ (b : Bool). have (acts_of_core (first ∷ rest) ++ below) && b) (by_roles_is informees confirmers first.1 (acts_of_core rest) below))

  either_there : (informees confirmers : PartySet) (core : List Act) (below : List Act)
      → (have (core ++ below) && is_split_by informees confirmers (roles_by core) (roles_by below))
      ≡ is_split_where_there informees confirmers (roles_where_there packages (actions_of core)) (roles_where_there packages (actions_of below))
  either_there informees confirmers core below =
      let both = list_all-append (λ (act : Act). has_roles packages act.action) core below in
      elim (cases_Bool (have core)) [
        | inr lacks ↦ let none = none_there core lacks in rw (both, lacks, none) refl
        | inl here ↦
            let some = all_there core here in
            elim (cases_Bool (have below)) [
              | inr lacks ↦ let none = none_there below lacks in rw (both, here, lacks, some, none) refl
              | inl more ↦ let others = all_there below more in rw (both, here, more, some, others) refl
            ]
      ]

  empty_there : (informees confirmers : PartySet) (below : Option (List Roles)) → false ≡ is_split_where_there informees confirmers (Some []) below
  empty_there informees confirmers None = refl
  empty_there informees confirmers (Some below) = refl

  pub split_core_is : (informees confirmers : PartySet) (core : List Numbered) (below : List Act)
      → is_split_core language informees confirmers core below
      ≡ is_split_where_there informees confirmers (roles_where_there packages (actions_of (acts_of_core core))) (roles_where_there packages (actions_of below))
  split_core_is informees confirmers [] below = empty_there informees confirmers (roles_where_there packages (actions_of below))
  split_core_is informees confirmers (first ∷ rest) below =
      parts_are informees confirmers first rest below ∙ either_there informees confirmers (acts_of_core (first ∷ rest)) below

  -- ---- a core that is split well has roles

  all_have : (acts : List Act) → have acts ≡ true → AllHaveRoles packages acts
  all_have [] h = All-nil (λ (act : Act). has_roles packages act.action ≡ true)
  all_have (act ∷ acts) h =
      let parts = and_parts (has_roles packages act.action) (have acts) h in
      All-cons (λ (a : Act). has_roles packages a.action ≡ true) act acts parts.0 (all_have acts parts.1)

  pub roles_in_split : (informees confirmers : PartySet) (core : List Numbered) (below : List Act)
      → is_split_core language informees confirmers core below ≡ true → AllHaveRoles packages (acts_of_core core ++ below)
  roles_in_split informees confirmers [] below h = absurd (both_ways false refl h)
  roles_in_split informees confirmers (first ∷ rest) below h =
      let parts = and_parts (have (acts_of_core (first ∷ rest) ++ below)) _ h in
      all_have (acts_of_core (first ∷ rest) ++ below) parts.0
