-- The trees of a request are those that blinding gives its recipients.
use Rattle.std.proofs.Common.{◌≡◌, ℕ, true, List, nat_eq, sym, ap, ◌∙◌}
use Rattle.sha2.specs.Sha256.{sha256}
use Rattle.ledger_terms.specs.Forest.{Forest}
use Rattle.ledger_terms.specs.Hosting.{hosts_at}
use Rattle.ledger_terms.specs.Topologies.{IsValid}
use Rattle.ledger_terms.specs.declared.action.Action.{Action}
use Rattle.ledger_terms.specs.declared.topology.Topology.{Topology}
use Rattle.ledger_model.specs.Opening.{Transaction}
use Rattle.ledger_model.specs.declared.roles.Roles.{Roles}
use Rattle.lang_eval.specs.Found.{Packages}
use Rattle.lang_eval.specs.Language.{roles_in}
use Rattle.lang_eval.proofs.Informed.{no_size}
use Rattle.interpret.specs.Language.{the_language}
use Rattle.view_split.specs.declared.split_view.SplitView.{SplitView}
use Rattle.view_split.specs.Split.{split}
use Rattle.view_split.specs.declared.views.Views.{Views}
use Rattle.blind_tree.specs.Blind.{blind_for, is_host_named, salts_of, tree_to, tree_to_mediator}
use Rattle.blind_tree.specs.declared.recipient.Recipient.TheVariants.{Participant, Mediator}
use Rattle.blind_tree.proofs.Recipients.{named_alike}
use Rattle.sealed_form.specs.SealedForm.{roles_by, tree_for, views_by}

module _ (topology : Topology) (packages : Packages) (valid : IsValid topology) (sender : ℕ) (name : List ℕ)
    (sends : is_host_named topology.hosts sender name ≡ true) (t : Transaction) (seed : List ℕ) where
  -- a transaction as it is split
  abbrev pub as_split : Views
  as_split = record { act_as = t.requesters; ledger_time = t.ledger_time; seed = seed; roots = split (roles_in packages) t.roots }

  same_roles : roles_in packages ≡ roles_by packages
  same_roles = λ i a. sym (no_size packages (the_language packages).is_creatable (the_language packages).is_exercisable a) i

  same_views : as_split.roots ≡ views_by packages t
  same_views = ap (λ (r : Action → Roles). split r t.roots) same_roles

  pub blinded_for : (p : ℕ) → blind_for sha256 as_split name topology.hosts (Participant p) ≡ tree_for topology packages sender name (salts_of sha256 seed) t p
  blinded_for p =
      (λ i. tree_to sha256 (salts_of sha256 seed) name t as_split.roots (hosts_at topology.hosts p)
      (named_alike topology.hosts p sender name valid.apart sends i))
      ∙ ap (λ (views : Forest SplitView). tree_to sha256 (salts_of sha256 seed) name t views (hosts_at topology.hosts p) (nat_eq p sender)) same_views

  pub blinded_for_mediator : blind_for sha256 as_split name topology.hosts Mediator ≡ tree_to_mediator sha256 (salts_of sha256 seed) name t
      (views_by packages t)
  blinded_for_mediator = ap (tree_to_mediator sha256 (salts_of sha256 seed) name t) same_views
