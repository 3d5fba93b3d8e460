-- Actions at numbers and their roles, one at a time.
use Rattle.std.proofs.Common.{◌≡◌, ℕ, ◌+◌, ◌<◌, ◌≤◌, Bool, true, false, List, [], ◌∷◌, ◌++◌, Option, Some, None, Ok, Err, length, get_or, drop, map, refl, sym, ◌∙◌, ap, append_assoc, append-nil, if◌then◌else◌}
use Rattle.std.specs.Prelude.{flat_map, option_map, slice_get}
use Rattle.std.specs.Borrow.{Bor}
use Rattle.std.proofs.lemmas.List.{drop_more, map-append}
use Rattle.std.proofs.lemmas.Option.{slice_get-map}
use Rattle.std.proofs.Math.ListN.{drop_of_length-le}
use Rattle.ledger_terms.specs.Parties.{with_parties}
use Rattle.ledger_terms.specs.declared.act.Act.{Act}
use Rattle.ledger_terms.specs.Trees.{ActionNode, Actions}
use Rattle.ledger_model.specs.Terms.{Action, PartySet}
use Rattle.ledger_model.specs.declared.roles.Roles.{Roles}
use Rattle.lang_eval.specs.Found.{Packages}
use Rattle.lang_eval.specs.Language.{has_roles, roles, roles_in}
use Rattle.lang_eval.specs.declared.role_fault.RoleFault.TheVariants.{NoRoles}
use Rattle.lang_eval.proofs.RoleLaws.{with_parties-append}
use Rattle.confirm_reply.specs.Nodes.{actions_in, trees_in}
use Rattle.confirm_reply.specs.Opened.{acts_of_core}
use Rattle.confirm_reply.specs.WellSplit.{action_taken, actions_taken, role_where_there, roles_where_there, taken, taken_at, with_first}

-- ---- the actions at numbers

abbrev tree_in : Bor ActionNode → Act × Actions
tree_in node = (node.now.root, node.now.below)

actions_append : (xs ys : List (Bor Action)) → actions_in (xs ++ ys) ≡ actions_in xs ++ actions_in ys
actions_append xs ys = map-append (λ (action : Bor Action). action.now) xs ys

pub pushed : (nodes : List (Bor ActionNode)) (n : ℕ) (node : Bor ActionNode) (old new : List (Bor Action)) (action : Bor Action) → Some node ≡ slice_get nodes n
    → new ≡ old ++ action ∷ [] → action.now ≡ node.now.root.action
    → actions_in new ≡ actions_in old ++ action_taken n (slice_get (trees_in nodes) n)
pushed nodes n node old new action at grown same =
    ap actions_in grown
    ∙ (actions_append old (action ∷ [])
    ∙ (ap (λ (a : Action). actions_in old ++ a ∷ []) same
    ∙ ap (λ (tree : Option (Act × Actions)). actions_in old ++ action_taken n tree)
    (sym (slice_get-map tree_in nodes n ∙ ap (option_map tree_in) (sym at)))))

pub not_pushed : (nodes : List (Bor ActionNode)) (n : ℕ) (old : List (Bor Action)) → None ≡ slice_get nodes n
    → actions_in old ≡ actions_in old ++ action_taken n (slice_get (trees_in nodes) n)
not_pushed nodes n old at =
    sym (append-nil (actions_in old))
    ∙ ap (λ (tree : Option (Act × Actions)). actions_in old ++ action_taken n tree) (sym (slice_get-map tree_in nodes n ∙ ap (option_map tree_in) (sym at)))

-- the first of these and the rest
taken_append : (xs ys : List (ℕ × Act))
    → map (λ (act : Act). act.action) (acts_of_core (xs ++ ys)) ≡ map (λ (act : Act). act.action) (acts_of_core xs) ++ map (λ (act : Act). act.action) (acts_of_core ys)
taken_append [] ys = refl
taken_append (x ∷ xs) ys = ap (λ (actions : List Action). (x.1).action ∷ actions) (taken_append xs ys)

pub next_action : (trees : List (Act × Actions)) (ns : List ℕ) (i n : ℕ) (old new all : List Action) → i < length ns → n ≡ get_or ns i n
    → new ≡ old ++ action_taken n (slice_get trees n) → old ++ actions_taken trees (drop i ns) ≡ all
    → new ++ actions_taken trees (drop (i + 1) ns) ≡ all
next_action trees ns i n old new all h at grown before =
    let number : drop i ns ≡ n ∷ drop (i + 1) ns = rw (drop_more ns i n h, ← at) refl in
    let rest = drop (i + 1) ns in
    ap (λ (xs : List Action). xs ++ actions_taken trees rest) grown
    ∙ (append_assoc old (action_taken n (slice_get trees n)) (actions_taken trees rest)
    ∙ (ap (λ (xs : List Action). old ++ xs) (sym (taken_append (taken_at n (slice_get trees n)) (taken trees rest)))
    ∙ ((λ j. old ++ actions_taken trees (sym number j)) ∙ before)))

pub last_action : (trees : List (Act × Actions)) (ns : List ℕ) (i : ℕ) (old all : List Action) → length ns ≤ i
    → old ++ actions_taken trees (drop i ns) ≡ all → old ≡ all
last_action trees ns i old all past before =
    let over : drop i ns ≡ [] = drop_of_length-le ns past in
    sym (append-nil old) ∙ ((λ j. old ++ actions_taken trees (sym over j)) ∙ before)

-- ---- their roles

given : (has : Bool) (found : Roles) (rs : Roles) → Ok rs ≡ (if has then Ok found else Err NoRoles) → Some rs ≡ (if has then Some found else None)
given true found rs e = let same : rs ≡ found = cc in ap Some same
given false found rs e = absurd (cc)

lacking : (has : Bool) (found : Roles) → Err NoRoles ≡ (if has then Ok found else Err NoRoles) → None ≡ (if has then Some found else None)
lacking true found e = absurd (cc)
lacking false found e = refl

pub role_given : (packages : Packages) (action : Action) (rs : Roles) → Ok rs ≡ roles packages action → Some rs ≡ role_where_there packages action
role_given packages action rs e = given (has_roles packages action) (roles_in packages action) rs e

pub role_lacking : (packages : Packages) (action : Action) → Err NoRoles ≡ roles packages action → None ≡ role_where_there packages action
role_lacking packages action e = lacking (has_roles packages action) (roles_in packages action) e

-- what was found, before the rest
abbrev pub behind : List Roles → Option (List Roles) → Option (List Roles)
behind found rest = option_map (λ (more : List Roles). found ++ more) rest

module _ (packages : Packages) (actions : List (Bor Action)) (i : ℕ) (found : List Roles) (all : Option (List Roles))
    (before : behind found (roles_where_there packages (actions_in (drop i actions))) ≡ all) where
  split_here : (action : Bor Action) → i < length actions → action ≡ get_or actions i action
      → behind found (with_first (role_where_there packages action.now) (roles_where_there packages (actions_in (drop (i + 1) actions)))) ≡ all
  split_here action h at =
      let next : drop i actions ≡ action ∷ drop (i + 1) actions = rw (drop_more actions i action h, ← at) refl in
      (λ j. behind found (roles_where_there packages (actions_in (sym next j)))) ∙ before

  pub no_role : (action : Bor Action) → i < length actions → action ≡ get_or actions i action → None ≡ role_where_there packages action.now → None ≡ all
  no_role action h at none =
      ap (λ (r : Option Roles). behind found (with_first r (roles_where_there packages (actions_in (drop (i + 1) actions))))) none ∙ split_here action h at

  put_behind : (rs : Roles) (rest : Option (List Roles)) → behind (found ++ rs ∷ []) rest ≡ behind found (with_first (Some rs) rest)
  put_behind rs None = refl
  put_behind rs (Some more) = ap Some (append_assoc found (rs ∷ []) more)

  pub next_role : (action : Bor Action) (rs : Roles) (new : List Roles) → i < length actions → action ≡ get_or actions i action
      → Some rs ≡ role_where_there packages action.now → new ≡ found ++ rs ∷ []
      → behind new (roles_where_there packages (actions_in (drop (i + 1) actions))) ≡ all
  next_role action rs new h at some grown =
      let rest = roles_where_there packages (actions_in (drop (i + 1) actions)) in
      ap (λ (f : List Roles). behind f rest) grown
      ∙ (put_behind rs rest ∙ (ap (λ (r : Option Roles). behind found (with_first r rest)) some ∙ split_here action h at))

  pub last_role : length actions ≤ i → Some found ≡ all
  last_role past =
      let over : drop i actions ≡ [] = drop_of_length-le actions past in
      ap Some (sym (append-nil found)) ∙ ((λ j. behind found (roles_where_there packages (actions_in (sym over j)))) ∙ before)

-- ---- their confirmers

module _ (core : List Roles) (i : ℕ) (set all : PartySet) where
  abbrev pub Adds : Type 0
  Adds = with_parties (flat_map (λ (r : Roles). r.confirmers) (drop i core)) set ≡ all

  pub next_confirmers : Adds → (rs : Roles) (new : PartySet) → i < length core → rs ≡ get_or core i rs → new ≡ with_parties rs.confirmers set
      → with_parties (flat_map (λ (r : Roles). r.confirmers) (drop (i + 1) core)) new ≡ all
  next_confirmers before rs new h at grown =
      let next : drop i core ≡ rs ∷ drop (i + 1) core = rw (drop_more core i rs h, ← at) refl in
      let rest = flat_map (λ (r : Roles). r.confirmers) (drop (i + 1) core) in
      ap (with_parties rest) grown
      ∙ (sym (with_parties-append rs.confirmers rest set)
      ∙ ((λ j. with_parties (flat_map (λ (r : Roles). r.confirmers) (sym next j)) set) ∙ before))

  pub last_confirmers : Adds → length core ≤ i → set ≡ all
  last_confirmers before past =
      let over : drop i core ≡ [] = drop_of_length-le core past in
      (λ j. with_parties (flat_map (λ (r : Roles). r.confirmers) (sym over j)) set) ∙ before
