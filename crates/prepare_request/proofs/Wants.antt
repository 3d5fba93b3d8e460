-- What is prepared, and why nothing is.
use Rattle.std.proofs.Common.{◌≡◌, ℕ, Bool, true, not, List, [], ◌∷◌, map, find, Option, Some, None, Result, Ok, Err, Contains, refl, sym, ap, ◌∙◌, subst, inl, inr}
use Rattle.std.specs.Prelude.{◌≢◌, option_map}
use Rattle.std.proofs.lemmas.Bool.{cases_Bool}
use Rattle.std.proofs.lemmas.Option.{none-some}
use Rattle.ledger_terms.specs.Answers.{◌>>=◌}
use Rattle.ledger_terms.specs.Forest.{Forest, NoRoots, paths_from, preorder}
use Rattle.ledger_terms.specs.Hosting.{confirms_at}
use Rattle.ledger_terms.specs.Trees.{Actions}
use Rattle.ledger_terms.specs.declared.act.Act.{Act}
use Rattle.ledger_terms.specs.declared.known.Known.{Known}
use Rattle.ledger_terms.specs.declared.submission.Submission.{Submission}
use Rattle.ledger_terms.specs.declared.topology.Topology.{Topology}
use Rattle.ledger_terms.specs.declared.tx.Tx.{Tx}
use Rattle.ledger_terms.specs.declared.what.What.{What}
use Rattle.ledger_terms.specs.declared.what.What.TheVariants.{Commands, Prepared}
use Rattle.ledger_model.specs.Forest.{acts}
use Rattle.ledger_model.proofs.Lists.{In, contains_from_In, in_from_Contains, in_map}
use Rattle.canton_model.specs.declared.request.Request.{Request}
use Rattle.lang_eval.specs.Found.{Packages}
use Rattle.lang_eval.specs.Language.{has_roles, roles_in}
use Rattle.lang_eval.specs.Parts.{PartyNames}
use Rattle.interpret.specs.Ids.{Hash}
use Rattle.interpret.specs.declared.command_fault.CommandFault.{CommandFault}
use Rattle.interpret.proofs.Wholes.{given_is_wanted, wanted_is_given}
use Rattle.interpret.proofs.DraftLaw as drafts
use Rattle.interpret.proofs.Ends as commands
use Rattle.view_split.specs.Faults.{first_roleless, is_roleless, kept_path, unless_fault, views_of_tx}
use Rattle.view_split.specs.Split.{split}
use Rattle.view_split.specs.declared.split_fault.SplitFault.{SplitFault}
use Rattle.view_split.specs.declared.views.Views.{Views}
use Rattle.view_split.proofs.Fitting.{preorder-map}
use Rattle.view_split.proofs.Sight.{without_paths}
use Rattle.sealed_form.proofs.Given.{each_has_roles}
use Rattle.prepare_request.specs.Causes.{AreWantedBy, ConfirmsRequesters, HasCause, IsRequestOf, StopsBy}
use Rattle.prepare_request.specs.Prepared.{actions_for, actions_of, first_unconfirmed, prepared, request_for, seed_for, sealed_if_split, time_or}
use Rattle.prepare_request.specs.Prepared.{tx_for, tx_where_wanted, unless_unconfirmed, views_for, where_split}
use Rattle.prepare_request.specs.declared.submit_fault.SubmitFault.{SubmitFault}
use Rattle.prepare_request.specs.declared.submit_fault.SubmitFault.TheVariants.{NotHosted, Command, Split, Paused, Duplicate, LogFull, Memory}
use Rattle.prepare_request.proofs.Roots.{root_of_split, split_with_root}

-- ---- the actions

pub given_wanted : (packages : Packages) (known : List Known) (seed : Hash) (act_as : PartyNames) (w : What) (roots : Actions)
    → actions_of packages known seed act_as w ≡ Ok roots → AreWantedBy packages known seed act_as w roots
given_wanted packages known seed act_as (Commands cs) roots e = given_is_wanted packages known seed act_as cs roots e
given_wanted packages known seed act_as (Prepared borrowed ds) roots e = drafts.given_is_filled known seed ds roots e

pub wanted_given : (packages : Packages) (known : List Known) (seed : Hash) (act_as : PartyNames) (w : What) (roots : Actions)
    → AreWantedBy packages known seed act_as w roots → actions_of packages known seed act_as w ≡ Ok roots
wanted_given packages known seed act_as (Commands cs) roots h = wanted_is_given packages known seed act_as cs roots h
wanted_given packages known seed act_as (Prepared borrowed ds) roots h = drafts.filled_is_given known seed ds roots h

given_stops : (packages : Packages) (known : List Known) (seed : Hash) (act_as : PartyNames) (w : What) (fault : CommandFault)
    → actions_of packages known seed act_as w ≡ Err fault → StopsBy packages known seed act_as w fault
given_stops packages known seed act_as (Commands cs) fault e = commands.given_stops packages known seed act_as cs fault e
given_stops packages known seed act_as (Prepared borrowed ds) fault e = drafts.given_stops known seed ds fault e

stops_given : (packages : Packages) (known : List Known) (seed : Hash) (act_as : PartyNames) (w : What) (fault : CommandFault)
    → StopsBy packages known seed act_as w fault → actions_of packages known seed act_as w ≡ Err fault
stops_given packages known seed act_as (Commands cs) fault h = commands.stop_is_given packages known seed act_as cs fault h
stops_given packages known seed act_as (Prepared borrowed ds) fault h = drafts.stop_is_given known seed ds fault h

-- ---- the requesters

module _ {X : Type 0} (p : X → Bool) where
  none_fails : (xs : List X) → find (λ x. not (p x)) xs ≡ None → (x : X) → In x xs → p x ≡ true
  none_fails [] e x i = absurd i
  none_fails (y ∷ ys) e x i =
      elim (cases_Bool (p y)) [
        | inl passes ↦ elim i [ inl same ↦ ap p (sym same) ∙ passes | inr later ↦ none_fails ys (rw passes at e) x later ]
        | inr fails ↦ absurd (none-some y (sym (rw fails at e)))
      ]

  nothing_found : (xs : List X) → ((x : X) → In x xs → p x ≡ true) → find (λ x. not (p x)) xs ≡ None
  nothing_found [] h = refl
  nothing_found (y ∷ ys) h = rw (h y (inl refl)) (nothing_found ys (λ x i. h x (inr i)))

pub all_confirmed : (topology : Topology) (me : ℕ) (what : Submission) → first_unconfirmed topology me what.act_as ≡ None → ConfirmsRequesters topology me what
all_confirmed topology me what e party there =
    none_fails (confirms_at topology.hosts me) what.act_as e party (in_from_Contains what.act_as party there)

none_unconfirmed : (topology : Topology) (me : ℕ) (what : Submission) → ConfirmsRequesters topology me what → first_unconfirmed topology me what.act_as ≡ None
none_unconfirmed topology me what h =
    nothing_found (confirms_at topology.hosts me) what.act_as (λ party i. h party (contains_from_In what.act_as party i))

-- ---- the roles

abbrev Placed : Type 0
Placed = List ℕ × Act

-- where each action has roles the transaction is split
split_given : (packages : Packages) (tx : Tx) → ((a : Act) → Contains (acts tx.roots) a → has_roles packages a.action ≡ true)
    → first_roleless packages tx.roots ≡ None
split_given packages tx h = ap (option_map (λ (p : Placed). kept_path p.0)) none
  where
    placed : Forest Placed
    placed = paths_from [] 0 tx.roots

    listed : map (λ (v : Placed). v.1) (preorder placed) ≡ acts tx.roots
    listed = sym (preorder-map (λ (v : Placed). v.1) placed) ∙ ap (λ (f : Forest Act). preorder f) (without_paths [] 0 tx.roots)

    has : (v : Placed) → In v (preorder placed) → has_roles packages (v.1).action ≡ true
    has v i = h v.1 (contains_from_In (acts tx.roots) v.1 (subst (λ (xs : List Act). In v.1 xs) listed (in_map (λ (w : Placed). w.1) (preorder placed) v i)))

    none : find (is_roleless packages) (preorder placed) ≡ None
    none = nothing_found (λ (v : Placed). has_roles packages (v.1).action) (preorder placed) has

-- ---- the request

abbrev pub sent : Request → Result Request SubmitFault
sent request = Ok request

module _ (topology : Topology) (packages : Packages) (me : ℕ) (known : List Known) (what : Submission) (now : ℕ) where
  abbrev seed : Hash
  seed = seed_for topology me what

  abbrev tx : Actions → Tx
  tx roots = tx_for topology me what now roots

  abbrev answer : Option (List ℕ) → Result Actions CommandFault → Result Request SubmitFault
  answer first actions = unless_unconfirmed first (tx_where_wanted topology me what now actions >>= sealed_if_split topology packages me what.command)

  abbrev views_made : Actions → Views
  views_made roots =
      record { act_as = what.act_as; ledger_time = time_or what.ledger_time now; seed = seed; roots = split (roles_in packages) roots }

  -- what there is before a request
  pub record Steps (request : Request) : Type 0 where
    pub none : first_unconfirmed topology me what.act_as ≡ None
    pub roots : Actions
    pub actions : actions_for topology packages me known what ≡ Ok roots
    pub views : Views
    pub some_root : roots ≢ NoRoots
    pub is_split : views_of_tx packages (tx roots) ≡ Ok views
    pub request_is : request ≡ request_for topology packages me what.command (tx roots)

  pub steps : (request : Request) → prepared topology packages me known what now ≡ Ok request → Steps request
  steps request e =
      by_host (first_unconfirmed topology me what.act_as) refl e
    where
      by_views : (roots : Actions) (v : Result Views SplitFault) → first_unconfirmed topology me what.act_as ≡ None
          → actions_for topology packages me known what ≡ Ok roots → views_for packages (tx roots) ≡ v
          → where_split v (request_for topology packages me what.command (tx roots)) ≡ Ok request → Steps request
      by_views roots (Ok views) u a s h =
          let both = root_of_split roots (views_of_tx packages (tx roots)) views s in
          record { none = u; roots = roots; actions = a; views = views; some_root = both.0; is_split = both.1; request_is = cc }
      by_views roots (Err fault) u a s h = absurd cc

      by_actions : (r : Result Actions CommandFault) → first_unconfirmed topology me what.act_as ≡ None → actions_for topology packages me known what ≡ r
          → answer None r ≡ Ok request → Steps request
      by_actions (Ok roots) u a h = by_views roots (views_for packages (tx roots)) u a refl h
      by_actions (Err fault) u a h = absurd cc

      by_host : (o : Option (List ℕ)) → first_unconfirmed topology me what.act_as ≡ o
          → answer o (actions_for topology packages me known what) ≡ Ok request → Steps request
      by_host None u h = by_actions (actions_for topology packages me known what) u refl h
      by_host (Some party) u h = absurd cc

  pub given : (request : Request) → prepared topology packages me known what now ≡ Ok request → IsRequestOf topology packages me known what now request
  given request e =
      let s = steps request e in
      record {
        roots = s.roots;
        confirmed = all_confirmed topology me what s.none;
        wanted = given_wanted packages known seed what.act_as what.what s.roots s.actions;
        some_root = s.some_root;
        has_roles = each_has_roles packages (tx s.roots) s.views s.is_split;
        request_is = s.request_is;
      }

  pub wanted : (request : Request) → IsRequestOf topology packages me known what now request → prepared topology packages me known what now ≡ Ok request
  wanted request h =
      ap (λ o. answer o (actions_for topology packages me known what)) (none_unconfirmed topology me what h.confirmed)
      ∙ (ap (answer None) (wanted_given packages known seed what.act_as what.what h.roots h.wanted)
      ∙ (ap (λ (v : Result Views SplitFault). where_split v (request_for topology packages me what.command (tx h.roots)))
      (split_with_root h.roots (views_of_tx packages (tx h.roots)) h.some_root)
      ∙ (ap (λ (o : Option (List ℕ)). where_split (unless_fault o (views_made h.roots)) (request_for topology packages me what.command (tx h.roots)))
      (split_given packages (tx h.roots) h.has_roles)
      ∙ ap sent (sym h.request_is))))

  pub caused : (fault : SubmitFault) → prepared topology packages me known what now ≡ Err fault → HasCause topology packages me known what now fault
  caused fault e =
      by_host (first_unconfirmed topology me what.act_as) refl e
    where
      Cause : SubmitFault → Type 0
      Cause = HasCause topology packages me known what now

      by_views : (roots : Actions) (v : Result Views SplitFault) → first_unconfirmed topology me what.act_as ≡ None
          → actions_for topology packages me known what ≡ Ok roots → views_for packages (tx roots) ≡ v
          → where_split v (request_for topology packages me what.command (tx roots)) ≡ Err fault → Cause fault
      by_views roots (Ok views) u a s h = absurd cc
      by_views roots (Err f) u a s h =
          let is : Split f ≡ fault = cc in
          subst Cause is (
            all_confirmed topology me what u,
            record { roots = roots; wanted = given_wanted packages known seed what.act_as what.what roots a; no_roles = s },
          )

      by_actions : (r : Result Actions CommandFault) → first_unconfirmed topology me what.act_as ≡ None → actions_for topology packages me known what ≡ r
          → answer None r ≡ Err fault → Cause fault
      by_actions (Ok roots) u a h = by_views roots (views_for packages (tx roots)) u a refl h
      by_actions (Err f) u a h =
          let is : Command f ≡ fault = cc in
          subst Cause is (all_confirmed topology me what u, given_stops packages known seed what.act_as what.what f a)

      by_host : (o : Option (List ℕ)) → first_unconfirmed topology me what.act_as ≡ o
          → answer o (actions_for topology packages me known what) ≡ Err fault → Cause fault
      by_host None u h = by_actions (actions_for topology packages me known what) u refl h
      by_host (Some party) u h = let is : NotHosted party ≡ fault = cc in subst Cause is u

  unconfirmed_answer : (o : Option (List ℕ)) → first_unconfirmed topology me what.act_as ≡ o
      → prepared topology packages me known what now ≡ answer o (actions_for topology packages me known what)
  unconfirmed_answer o e = ap (λ (o : Option (List ℕ)). answer o (actions_for topology packages me known what)) e

  confirmed_answer : (r : Result Actions CommandFault) → ConfirmsRequesters topology me what → actions_for topology packages me known what ≡ r
      → prepared topology packages me known what now ≡ answer None r
  confirmed_answer r confirms e = unconfirmed_answer None (none_unconfirmed topology me what confirms) ∙ ap (answer None) e

  pub refused : (fault : SubmitFault) → HasCause topology packages me known what now fault → prepared topology packages me known what now ≡ Err fault
  refused (NotHosted party) h = unconfirmed_answer (Some party) h
  refused (Command f) h = confirmed_answer (Err f) h.0 (stops_given packages known seed what.act_as what.what f h.1)
  refused (Split f) h =
      let u = h.1 in
      confirmed_answer (Ok u.roots) h.0 (wanted_given packages known seed what.act_as what.what u.roots u.wanted)
      ∙ ap (λ (v : Result Views SplitFault). where_split v (request_for topology packages me what.command (tx u.roots))) u.no_roles
  refused Paused h = absurd h
  refused (Duplicate place) h = absurd h
  refused (LogFull reserved need) h = absurd h
  refused Memory h = absurd h
