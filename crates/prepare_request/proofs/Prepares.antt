-- From the steps of the call to what it gives.
use Rattle.std.proofs.Common.{◌≡◌, ℕ, Bool, List, Option, None, Result, Ok, Err, refl, sym, ap, ◌∙◌, subst}
use Rattle.std.specs.Prelude.{◌≢◌, IsTrue}
use Rattle.ledger_terms.specs.Answers.{◌>>=◌}
use Rattle.ledger_terms.specs.Drafts.{Drafts}
use Rattle.ledger_terms.specs.Forest.{NoRoots}
use Rattle.ledger_terms.specs.Topologies.{IsValid}
use Rattle.ledger_terms.specs.Trees.{Actions}
use Rattle.ledger_terms.specs.declared.command.Command.{Command}
use Rattle.ledger_terms.specs.declared.known.Known.{Known}
use Rattle.ledger_terms.specs.declared.submission.Submission.{Submission}
use Rattle.ledger_terms.specs.declared.topology.Topology.{Topology}
use Rattle.ledger_terms.specs.declared.tx.Tx.{Tx}
use Rattle.canton_model.specs.declared.request.Request.{Request}
use Rattle.lang_eval.specs.Found.{Packages}
use Rattle.lang_eval.specs.HandedIn.{parties_in_commands, parties_in_drafts}
use Rattle.interpret.specs.FilledTree.{IsFilled}
use Rattle.interpret.specs.Wanted.{IsWanted}
use Rattle.interpret.specs.declared.command_fault.CommandFault.{CommandFault}
use Rattle.view_split.specs.Faults.{views_of_tx}
use Rattle.view_split.specs.declared.split_fault.SplitFault.{SplitFault}
use Rattle.view_split.specs.declared.split_fault.SplitFault.TheVariants.{NoRoles, Memory as SplitMemory}
use Rattle.view_split.specs.declared.views.Views.{Views}
use Rattle.blind_tree.specs.Limits.{KeepLimits}
use Rattle.sealed_form.specs.SealedForm.{CanBeSealed, IsSealedForm}
use Rattle.sealed_form.specs.Submission.{IsSubmittedWithin, whole_with_seed}
use Rattle.prepare_request.specs.Prepared.{actions_for, first_unconfirmed, name_at, of_split, prepared, request_for, seed_for, sealed_if_split}
use Rattle.prepare_request.specs.Prepared.{tx_for, tx_where_wanted, unless_unconfirmed, views_for, wanted_tx, where_split, whole_for}
use Rattle.prepare_request.specs.Within.{IsWithin}
use Rattle.prepare_request.specs.declared.submit_fault.SubmitFault.{SubmitFault}
use Rattle.prepare_request.specs.declared.submit_fault.SubmitFault.TheVariants.{Memory}
use Rattle.prepare_request.proofs.Roots.{root_of_split}
use Rattle.prepare_request.proofs.Sealing.{by_what, limits, made_is_sealed, submitted}
use Rattle.prepare_request.proofs.Wants.{all_confirmed, given_wanted, sent}

-- what the test of what can be sealed says of views
abbrev pub SaysWanted : Bool → Views → Type 0
SaysWanted answer views =
    (topology : Topology) (packages : Packages) (known : List Known) (commands : List Command) (tx : Tx) (sender : ℕ) (name : List ℕ)
    → IsValid topology
    → IsSubmittedWithin topology packages known sender name tx.act_as (parties_in_commands commands)
    → views_of_tx packages tx ≡ Ok views
    → IsWanted packages known tx.seed tx.act_as commands tx.roots
    → IsTrue answer × CanBeSealed topology packages sender (whole_with_seed name tx)

abbrev pub SaysFilled : Bool → Views → Type 0
SaysFilled answer views =
    (topology : Topology) (packages : Packages) (known : List Known) (drafts : Drafts) (tx : Tx) (sender : ℕ) (name : List ℕ)
    → IsValid topology
    → IsSubmittedWithin topology packages known sender name tx.act_as (parties_in_drafts drafts)
    → views_of_tx packages tx ≡ Ok views
    → IsFilled known tx.seed drafts tx.roots
    → IsTrue answer × CanBeSealed topology packages sender (whole_with_seed name tx)

abbrev made : Tx → Result Tx SubmitFault
made tx = Ok tx

abbrev refused : SubmitFault → Result Request SubmitFault
refused fault = Err fault

module _ (topology : Topology) (packages : Packages) (me : ℕ) (known : List Known) (what : Submission) (now : ℕ) where
  -- the actions of a transaction that is wanted
  record Wants (tx : Tx) : Type 0 where
    roots : Actions
    actions : actions_for topology packages me known what ≡ Ok roots
    is : tx_for topology me what now roots ≡ tx

  wants : (tx : Tx) → wanted_tx topology packages me known what now ≡ made tx → Wants tx
  wants tx e = by (actions_for topology packages me known what) refl e
    where
      by : (r : Result Actions CommandFault) → actions_for topology packages me known what ≡ r → tx_where_wanted topology me what now r ≡ made tx → Wants tx
      by (Ok roots) a h = record { roots = roots; actions = a; is = cc }
      by (Err fault) a h = absurd cc

  -- where the wanted transaction has no views, or memory failed
  pub unsplit : (tx : Tx) (fault : SubmitFault) (e : SplitFault) → first_unconfirmed topology me what.act_as ≡ None
      → wanted_tx topology packages me known what now ≡ made tx → fault ≡ of_split e → (e ≢ SplitMemory → views_for packages tx ≡ Err e)
      → fault ≢ Memory → prepared topology packages me known what now ≡ Err fault
  unsplit tx fault SplitMemory confirms is_tx is none some = absurd (some is)
  unsplit tx fault (NoRoles path) confirms is_tx is none some =
      ap (λ (o : Option (List ℕ)). unless_unconfirmed o (wanted_tx topology packages me known what now >>= sealed_if_split topology packages me what.command)) confirms
      ∙ (ap (λ (r : Result Tx SubmitFault). r >>= sealed_if_split topology packages me what.command) is_tx
      ∙ (ap (λ (v : Result Views SplitFault). where_split v (request_for topology packages me what.command tx)) (none (λ memory. absurd cc)) ∙ ap refused (sym is)))

  module _ (valid : IsValid topology) (within : IsWithin topology packages me known what) (tx : Tx) (views : Views)
      (confirms : first_unconfirmed topology me what.act_as ≡ None) (is_tx : wanted_tx topology packages me known what now ≡ made tx)
      (has_views : views_for packages tx ≡ Ok views) where
    rooted : (tx.roots ≢ NoRoots) × (views_of_tx packages tx ≡ Ok views)
    rooted = root_of_split tx.roots (views_of_tx packages tx) views has_views

    pub some_root : tx.roots ≢ NoRoots
    some_root = rooted.0

    pub is_split : views_of_tx packages tx ≡ Ok views
    is_split = rooted.1

    pub keeps_limits : KeepLimits tx.roots
    keeps_limits =
        let w = wants tx is_tx in
        subst (λ (t : Tx). KeepLimits t.roots) w.is
        (limits packages known (seed_for topology me what) what.act_as what.what w.roots
        (given_wanted packages known (seed_for topology me what) what.act_as what.what w.roots w.actions))

    module _ (answer : Bool) (says_wanted : SaysWanted answer views) (says_filled : SaysFilled answer views) where
      abbrev Sealable : Tx → Type 0
      Sealable t = IsTrue answer × CanBeSealed topology packages me (whole_for topology me t)

      pub sealable : Sealable tx
      sealable =
          let w = wants tx is_tx in
          subst (λ t. views_of_tx packages t ≡ Ok views → Sealable t) w.is
          (λ s.
          by_what (Sealable (tx_for topology me what now w.roots)) topology packages me known (seed_for topology me what) what.act_as w.roots
          (λ commands submits wanted.
          says_wanted topology packages known commands (tx_for topology me what now w.roots) me (name_at topology me) valid submits s wanted)
          (λ drafts submits filled.
          says_filled topology packages known drafts (tx_for topology me what now w.roots) me (name_at topology me) valid submits s filled)
          what.what (submitted topology packages me known what within (all_confirmed topology me what confirms))
          (given_wanted packages known (seed_for topology me what) what.act_as what.what w.roots w.actions))
          is_split

      module _ (request : Request) (request_is : request ≡ request_for topology packages me what.command tx) where
        pub sealed : IsSealedForm topology packages request
        sealed =
            subst (IsSealedForm topology packages) (sym request_is)
            (let w = wants tx is_tx in
            subst (λ t. Sealable t → IsSealedForm topology packages (request_for topology packages me what.command t)) w.is
            (λ s.
            made_is_sealed topology packages me what now w.roots known
            (given_wanted packages known (seed_for topology me what) what.act_as what.what w.roots w.actions) s.1)
            sealable)

    pub exact : (request : Request) → request ≡ request_for topology packages me what.command tx
        → prepared topology packages me known what now ≡ Ok request
    exact request request_is =
        ap (λ (o : Option (List ℕ)). unless_unconfirmed o (wanted_tx topology packages me known what now >>= sealed_if_split topology packages me what.command))
        confirms
        ∙ (ap (λ (r : Result Tx SubmitFault). r >>= sealed_if_split topology packages me what.command) is_tx
        ∙ (ap (λ v. where_split v (request_for topology packages me what.command tx)) has_views ∙ ap sent (sym request_is)))
