-- A submitted transaction within the limits can be sealed, within a valid topology.
use Rattle.std.proofs.Common.{◌≡◌, ℕ, ◌^◌, ◌<◌, true, List, Ok, Contains, refl, sym, ap, ◌∙◌, subst}
use Rattle.sha2.proofs.Facts256.{length-sha256}
use Rattle.hash_id.specs.Strings.{leaf_salt_string}
use Rattle.ledger_terms.specs.Names.{IsName}
use Rattle.ledger_terms.specs.Parties.{IsRising}
use Rattle.ledger_terms.specs.Topologies.{IsValid}
use Rattle.ledger_terms.specs.declared.act.Act.{Act}
use Rattle.ledger_terms.specs.declared.action.Action.{Action}
use Rattle.ledger_terms.specs.Drafts.{Drafts}
use Rattle.ledger_terms.specs.declared.command.Command.{Command}
use Rattle.ledger_terms.specs.declared.known.Known.{Known}
use Rattle.ledger_terms.specs.declared.topology.Topology.{Topology}
use Rattle.ledger_terms.specs.declared.tx.Tx.{Tx}
use Rattle.ledger_model.specs.Forest.{acts}
use Rattle.ledger_model.specs.declared.roles.Roles.{Roles}
use Rattle.ledger_model.proofs.Lists.{in_from_Contains}
use Rattle.lang_eval.specs.Found.{Packages}
use Rattle.lang_eval.specs.HandedIn.{parties_in_commands, parties_in_drafts}
use Rattle.lang_eval.specs.Language.{roles_in}
use Rattle.lang_eval.specs.Named.{AreKnown}
use Rattle.lang_eval.specs.Parts.{PartyNames}
use Rattle.lang_eval.proofs.Informed.{no_size}
use Rattle.wire_form.specs.InRange.{IsPartySet}
use Rattle.interpret.specs.FilledTree.{IsFilled}
use Rattle.interpret.specs.Language.{the_language}
use Rattle.interpret.specs.NamedParties.{parties_in_forest}
use Rattle.interpret.specs.Wanted.{IsWanted}
use Rattle.interpret.proofs.PartyDrafts.{filled_parties}
use Rattle.interpret.proofs.PartyLaw.{wanted_parties}
use Rattle.interpret.proofs.Rules.{keeps_rules}
use Rattle.view_split.specs.Faults.{views_of_tx}
use Rattle.view_split.specs.Split.{split}
use Rattle.view_split.specs.declared.views.Views.{Views}
use Rattle.blind_tree.specs.LeafBytes.{AreSpellable}
use Rattle.blind_tree.specs.Limits.{HaveSets, KeepLimits}
use Rattle.blind_tree.specs.ShownViews.{AreInRange, AreViews}
use Rattle.blind_tree.proofs.LimitLaws.{split_is_small, split_is_spellable}
use Rattle.blind_tree.proofs.SetLimits.{set_fits, split_sets, subset_within}
use Rattle.sealed_form.specs.SealedForm.{CanBeSealed, roles_by, split_as}
use Rattle.sealed_form.specs.Submission.{IsSubmittedWithin, whole_with_seed}
use Rattle.sealed_form.specs.Within.{is_hosted}
use Rattle.sealed_form.proofs.Deciding.{all_decide}
use Rattle.sealed_form.proofs.FromDrafts.{filled_keeps_limits}
use Rattle.sealed_form.proofs.FromRules.{keeps_limits, wanted_is_seeded}
use Rattle.sealed_form.proofs.Given.{each_has_roles, made_of, roots_are}
use Rattle.sealed_form.proofs.Parties.{all_among, are_few, informees_known, own_known, parties_of, requesters_among, sender_named}

module _ (topology : Topology) (valid : IsValid topology) (packages : Packages) (known : List Known) (sender : ℕ) (name : List ℕ) (named : PartyNames)
    (tx : Tx) (views : Views) (rising : IsRising views.act_as)
    (keeps_range : (sender : List ℕ) → IsName sender → AreSpellable views → AreInRange sender views)
    (submits : IsSubmittedWithin topology packages known sender name tx.act_as named)
    (is_split : views_of_tx packages tx ≡ Ok views) (limits : KeepLimits tx.roots) (parties : AreKnown (is_hosted topology) (parties_in_forest tx.roots)) where
  same_roles : roles_in packages ≡ roles_by packages
  same_roles = λ i a. sym (no_size packages (the_language packages).is_creatable (the_language packages).is_exercisable a) i

  roots_is : views.roots ≡ split (roles_by packages) tx.roots
  roots_is = roots_are packages tx views is_split ∙ ap (λ (r : Action → Roles). split r tx.roots) same_roles

  act_as_is : views.act_as ≡ tx.act_as
  act_as_is = sym (ap (λ (v : Views). v.act_as) (made_of packages tx views is_split))

  time_is : views.ledger_time ≡ tx.ledger_time
  time_is = sym (ap (λ (v : Views). v.ledger_time) (made_of packages tx views is_split))

  name_is : IsName name
  name_is = sender_named topology valid sender name submits.sender_is

  requesters_are : IsPartySet tx.act_as
  requesters_are =
      set_fits tx.act_as (parties_of topology.hosts) (are_few topology valid) (subst IsRising act_as_is rising)
      (subset_within tx.act_as (parties_of topology.hosts) (requesters_among topology sender tx.act_as submits.confirms_requesters))

  sets : HaveSets (split (roles_by packages) tx.roots)
  sets =
      split_sets (roles_by packages) (parties_of topology.hosts) (are_few topology valid) tx.roots
      (all_among topology packages submits.named_by_packages tx.roots parties)

  pub has_room : AreSpellable views
  has_room =
      split_is_spellable (roles_by packages) views tx.roots roots_is (subst IsPartySet (sym act_as_is) requesters_are) limits
      (subst HaveSets (sym roots_is) sets)

  informees : (a : Act) (party : List ℕ) → Contains (acts tx.roots) a → Contains (roles_by packages a.action).informees party → is_hosted topology party ≡ true
  informees a party there told =
      let own = own_known topology (acts tx.roots) a parties (in_from_Contains (acts tx.roots) a there) in
      (all_decide (is_hosted topology) (roles_by packages a.action).informees).0 (informees_known topology packages submits.named_by_packages a.action own) party told

  pub can_be_sealed : CanBeSealed topology packages sender (whole_with_seed name tx)
  can_be_sealed =
      let range = keeps_range name name_is has_room in
      record {
        sender_is = submits.sender_is;
        has_roles = each_has_roles packages tx views is_split;
        informees = informees;
        named = parties;
        requesters = submits.confirms_requesters;
        common_salt = length-sha256 (leaf_salt_string 1 tx.seed);
        requesters_salt = length-sha256 (leaf_salt_string 2 tx.seed);
        in_range = record {
          sender_is = name_is;
          time_fits = subst (λ (n : ℕ). n < 2 ^ 64) time_is range.time_fits;
          requesters_are = requesters_are;
          each = subst AreViews roots_is range.each;
        };
        small = split_is_small (roles_by packages) (split_as (whole_with_seed name tx).transaction (split (roles_by packages) tx.roots)) name tx.roots refl
            name_is requesters_are limits sets;
      }

-- ---- what is wanted, and what is filled

module _ (topology : Topology) (valid : IsValid topology) (packages : Packages) (known : List Known) (sender : ℕ) (name : List ℕ)
    (tx : Tx) (views : Views) (rising : IsRising views.act_as)
    (keeps_range : (sender : List ℕ) → IsName sender → AreSpellable views → AreInRange sender views)
    (is_split : views_of_tx packages tx ≡ Ok views) where
  abbrev IsSealable : Type 0
  IsSealable = AreSpellable views × CanBeSealed topology packages sender (whole_with_seed name tx)

  pub wanted_is_sealable : (commands : List Command) → IsSubmittedWithin topology packages known sender name tx.act_as (parties_in_commands commands)
      → IsWanted packages known tx.seed tx.act_as commands tx.roots → IsSealable
  wanted_is_sealable commands submits wanted =
      let limits =
      keeps_limits packages tx.act_as tx.roots (keeps_rules packages known tx.seed tx.act_as commands tx.roots wanted)
      (wanted_is_seeded packages known tx.seed tx.act_as commands tx.roots wanted) in
      let parties =
      wanted_parties (is_hosted topology) packages known tx.seed tx.act_as commands tx.roots submits.named_by_packages submits.named_by_known
      submits.named_by_input wanted in (
        has_room topology valid packages known sender name (parties_in_commands commands) tx views rising keeps_range submits is_split limits parties,
        can_be_sealed topology valid packages known sender name (parties_in_commands commands) tx views rising keeps_range submits is_split limits parties,
      )

  pub filled_is_sealable : (drafts : Drafts) → IsSubmittedWithin topology packages known sender name tx.act_as (parties_in_drafts drafts)
      → IsFilled known tx.seed drafts tx.roots → IsSealable
  filled_is_sealable drafts submits filled =
      let limits = filled_keeps_limits known tx.seed drafts tx.roots filled in
      let parties =
      filled_parties (is_hosted topology) known tx.seed drafts tx.roots submits.named_by_known submits.named_by_input filled in (
        has_room topology valid packages known sender name (parties_in_drafts drafts) tx views rising keeps_range submits is_split limits parties,
        can_be_sealed topology valid packages known sender name (parties_in_drafts drafts) tx views rising keeps_range submits is_split limits parties,
      )
