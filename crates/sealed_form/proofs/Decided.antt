-- The test of what can be sealed decides it.
use Rattle.std.proofs.Common.{◌≡◌, ℕ, true, List, Contains}
use Rattle.std.specs.Bool.{Decides}
use Rattle.std.specs.List.{list_all}
use Rattle.ledger_terms.specs.Hosting.{confirms_at}
use Rattle.ledger_terms.specs.declared.act.Act.{Act}
use Rattle.ledger_terms.specs.declared.topology.Topology.{Topology}
use Rattle.ledger_model.specs.Forest.{acts}
use Rattle.lang_eval.specs.Found.{Packages}
use Rattle.interpret.specs.Language.{the_language}
use Rattle.interpret.specs.NamedParties.{parties_in_forest}
use Rattle.view_split.specs.declared.views.Views.{Views}
use Rattle.blind_tree.specs.Blind.{is_host_named}
use Rattle.sealed_form.specs.SealedForm.{CanBeSealed, Whole, roles_by, split_as, views_by}
use Rattle.sealed_form.specs.SealedTest.{are_informees_hosted, can_be_sealed}
use Rattle.sealed_form.specs.Within.{is_hosted}
use Rattle.sealed_form.proofs.Deciding.{all_decide, both_decide, five_decide, four_decide, itself}
use Rattle.sealed_form.proofs.RangeDecided.{hash_decides, range_decides, small_decides}

module _ (topology : Topology) (packages : Packages) where
  informees_decide : (actions : List Act)
      → Decides (are_informees_hosted topology packages actions)
      ((a : Act) (party : List ℕ) → Contains actions a → Contains (roles_by packages a.action).informees party → is_hosted topology party ≡ true)
  informees_decide actions =
      let all = all_decide (λ (a : Act). list_all (is_hosted topology) (roles_by packages a.action).informees) actions in (
        λ h a party there told. (all_decide (is_hosted topology) (roles_by packages a.action).informees).0 (all.0 h a there) party told,
        λ f. all.1 (λ a there. (all_decide (is_hosted topology) (roles_by packages a.action).informees).1 (λ party told. f a party there told)),
      )

  module _ (sender : ℕ) (whole : Whole) where
    abbrev views : Views
    views = split_as whole.transaction (views_by packages whole.transaction)

    abbrev actions : List Act
    actions = acts whole.transaction.roots

    pub can_decides : Decides (can_be_sealed topology packages sender whole) (CanBeSealed topology packages sender whole)
    can_decides =
        let parties =
        five_decide (itself (is_host_named topology.hosts sender whole.sender))
        (all_decide (λ (a : Act). (the_language packages).has_roles a.action) actions) (informees_decide actions)
        (itself (list_all (is_hosted topology) (parties_in_forest whole.transaction.roots)))
        (all_decide (confirms_at topology.hosts sender) whole.transaction.requesters) in
        let spelled =
        four_decide (hash_decides (whole.salts).common) (hash_decides (whole.salts).requesters) (range_decides whole.sender views)
        (small_decides whole.sender views) in
        let d = both_decide parties spelled in (
          λ h.
              let p = (d.0 h).0 in
              let s = (d.0 h).1 in
              record {
                sender_is = p.0;
                has_roles = p.1;
                informees = p.2;
                named = p.3;
                requesters = p.4;
                common_salt = s.0;
                requesters_salt = s.1;
                in_range = s.2;
                small = s.3;
              },
          λ c.
              d.1 (
                (c.sender_is, c.has_roles, c.informees, c.named, c.requesters),
                (c.common_salt, c.requesters_salt, c.in_range, c.small),
              ),
        )
