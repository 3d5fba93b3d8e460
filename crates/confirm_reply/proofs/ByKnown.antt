-- Facts of what is known give the verdict by what is known.
use Rattle.std.proofs.Common.{◌≡◌, ℕ, Bool, true, false, List, [], ◌∷◌, ◌++◌, map, take, Option, Some, None, refl, sym, ap, ◌∙◌, subst, inl, inr}
use Rattle.std.specs.Prelude.{◌&&◌, not, if◌then◌else◌}
use Rattle.std.specs.List.{list_all, list_any}
use Rattle.std.proofs.lemmas.Bool.{and_parts}
use Rattle.std.proofs.lemmas.Option.{none-some, same_Some}
use Rattle.ledger_terms.specs.declared.act.Act.{Act}
use Rattle.ledger_terms.specs.declared.params.Params.{Params}
use Rattle.ledger_model.specs.Forest.{acts}
use Rattle.ledger_model.specs.Language.{Language}
use Rattle.ledger_model.specs.Opening.{OpenedView}
use Rattle.ledger_model.specs.Opening as opening
use Rattle.ledger_model.specs.Status.{is_active, is_unknown, shows_inactive, shows_locked, shows_not_fresh}
use Rattle.ledger_model.specs.declared.status.Status.{Status}
use Rattle.ledger_model.specs.Terms.{Hash, ParticipantId, PartySet, Path, id_of, is_create, creates}
use Rattle.ledger_model.proofs.Lists.{In, contains_from_In}
use Rattle.canton_model.specs.Checks.{checks, first_shown, is_from, is_split_core, is_well_split, subview_starts, verdict_by}
use Rattle.canton_model.specs.Inbox.{has_hosted_stakeholder}
use Rattle.canton_model.specs.Reading.{Offer, Mismatch, Missing, Reading}
use Rattle.canton_model.specs.Reading as model_reading
use Rattle.canton_model.specs.declared.local_verdict.LocalVerdict.{LocalVerdict}
use Rattle.canton_model.specs.declared.local_verdict.LocalVerdict.TheVariants.{Reject}
use Rattle.canton_model.specs.declared.reason.Reason.{Reason}
use Rattle.canton_model.specs.declared.reason.Reason.TheVariants.{RootMismatch, ViewMissing, WrongSender, WrongCommon}
use Rattle.pruned_inbox.specs.Start.{verdict_if_found}
use Rattle.view_split.specs.Placed.{shown_by}
use Rattle.view_split.specs.declared.opened_tree.OpenedTree.{OpenedTree}
use Rattle.confirm_reply.specs.Facts.{AreKnown, is_known_locked, known_status}
use Rattle.confirm_reply.specs.Offered.{IsGivenBy, reason_of}
use Rattle.confirm_reply.specs.Opened.{view_at}
use Rattle.confirm_reply.specs.Verdict.{IsGivenKnown, reading_of, verdict_by_known, verdict_of, verdict_on_found, verdict_on_shown}
use Rattle.confirm_reply.specs.declared.check_input.CheckInput.{CheckInput}
use Rattle.confirm_reply.specs.declared.id_facts.IdFacts.{IdFacts}
use Rattle.confirm_reply.specs.declared.shown.Shown.{Shown}
use Rattle.confirm_reply.specs.declared.shown.Shown.TheVariants.{Fixed, Open}
use Rattle.confirm_reply.proofs.Placed.{EachIn}
use Rattle.confirm_reply.proofs.Trying.{same_shown}

abbrev Numbered : Type 0
Numbered = ℕ × Act

each_in : (P : Numbered → Type 0) (core : List Numbered) → ((a : Numbered) → In a core → P a) → EachIn P core
each_in P [] all = tt
each_in P (a ∷ core) all = (all a (inl refl), each_in P core (λ b i. all b (inr i)))

under : (b x y : Bool) → (b ≡ true → x ≡ y) → (b && x) ≡ (b && y)
under true x y same = same refl
under false x y same = refl

-- whose it is, how it is split, and the rest, which counts where both are right
abbrev after_two : (sent split : Bool) → LocalVerdict → LocalVerdict
after_two sent split rest = if not sent then Reject WrongSender 0 else if not split then Reject WrongCommon 0 else rest

where_split : (sent split : Bool) (rest others : LocalVerdict) → (split ≡ true → rest ≡ others) → after_two sent split rest ≡ after_two sent split others
where_split false split rest others same = refl
where_split true false rest others same = refl
where_split true true rest others same = same refl

has_each : (language : Language) (core : List Numbered) (below : List Act)
    → list_all (λ (act : Act). language.has_roles act.action) (map (λ (a : Numbered). a.1) core ++ below) ≡ true
    → (a : Numbered) → In a core → language.has_roles (a.1).action ≡ true
has_each language [] below all a i = absurd i
has_each language (x ∷ core) below all a (inl same) =
    ap (λ (b : Numbered). language.has_roles (b.1).action) (sym same) ∙ (and_parts (language.has_roles (x.1).action) _ all).0
has_each language (x ∷ core) below all a (inr i) = has_each language core below (and_parts (language.has_roles (x.1).action) _ all).1 a i

-- the actions of a core that is split well have roles
core_roles : (language : Language) (informees confirmers : PartySet) (core : List Numbered) (below : List Act)
    → is_split_core language informees confirmers core below ≡ true → (a : Numbered) → In a core → language.has_roles (a.1).action ≡ true
core_roles language informees confirmers [] below split a i = absurd i
core_roles language informees confirmers (first ∷ rest) below split a i =
    has_each language (first ∷ rest) below (and_parts _ _ split).0 a i

module _ (reading : Reading) (params : Params) (p sender : ParticipantId) (known : Hash → Status) (held : Hash → Bool) (time : ℕ) (shown : opening.Shown) (view : OpenedView)
    (facts : List IdFacts) (are : AreKnown reading p known held facts view.core) where
  abbrev hosted : Numbered → Bool
  hosted a = has_hosted_stakeholder reading p a.1

  abbrev earlier : Numbered → List Act
  earlier a = take a.0 (acts shown.roots)

  abbrev locks : (Hash → Bool) → Numbered → Bool
  locks locked a = hosted a && shows_locked locked a.1

  abbrev is_inactive : (Hash → Status) → Numbered → Bool
  is_inactive status a = hosted a && shows_inactive status (earlier a) a.1

  abbrev is_used : (Hash → Status) → Numbered → Bool
  is_used status a = hosted a && shows_not_fresh status a.1

  abbrev Same : Type 0
  Same = first_shown (checks reading params p time shown view (known_status facts) (is_known_locked facts)) view.core
      ≡ first_shown (checks reading params p time shown view known held) view.core

  module _ (roles : (a : Numbered) → In a view.core → (reading.language).has_roles (a.1).action ≡ true) where
    status : (a : Numbered) → In a view.core → hosted a ≡ true → known_status facts (id_of (a.1).action) ≡ known (id_of (a.1).action)
    status a i h = are.status a (contains_from_In view.core a i) (roles a i) h

    same_locks : EachIn (λ (a : Numbered). locks (is_known_locked facts) a ≡ locks held a) view.core
    same_locks =
        each_in (λ (a : Numbered). locks (is_known_locked facts) a ≡ locks held a) view.core (λ a i.
        under (hosted a) (shows_locked (is_known_locked facts) a.1) (shows_locked held a.1) (λ h.
        are.locked a (contains_from_In view.core a i) (roles a i) h))

    same_inactive : EachIn (λ (a : Numbered). is_inactive (known_status facts) a ≡ is_inactive known a) view.core
    same_inactive =
        each_in (λ (a : Numbered). is_inactive (known_status facts) a ≡ is_inactive known a) view.core (λ a i.
        under (hosted a) (shows_inactive (known_status facts) (earlier a) a.1) (shows_inactive known (earlier a) a.1) (λ h.
        ap (λ (s : Status). not (is_create (a.1).action) && (not (is_active s) && not (list_any (creates (id_of (a.1).action)) (earlier a)))) (status a i h)))

    same_used : EachIn (λ (a : Numbered). is_used (known_status facts) a ≡ is_used known a) view.core
    same_used =
        each_in (λ (a : Numbered). is_used (known_status facts) a ≡ is_used known a) view.core (λ a i.
        under (hosted a) (shows_not_fresh (known_status facts) a.1) (shows_not_fresh known a.1) (λ h.
        ap (λ (s : Status). is_create (a.1).action && not (is_unknown s)) (status a i h)))

    same_nine : Same
    same_nine =
        same_shown (checks reading params p time shown view (known_status facts) (is_known_locked facts))
        (checks reading params p time shown view known held) view.core (
          (refl, each_in _ view.core (λ a i. refl)),
          (
            (refl, each_in _ view.core (λ a i. refl)),
            (
              (refl, each_in _ view.core (λ a i. refl)),
              (
                (refl, same_locks),
                (
                  (refl, same_inactive),
                  (
                    (refl, same_used),
                    (
                      (refl, each_in _ view.core (λ a i. refl)),
                      (
                        (refl, each_in _ view.core (λ a i. refl)),
                        ((refl, each_in _ view.core (λ a i. refl)), tt),
                      ),
                    ),
                  ),
                ),
              ),
            ),
          ),
        )

  -- only where the core is split well do facts count, and then all of it has roles
  same_facts : verdict_by reading params p sender time shown view (known_status facts) (is_known_locked facts)
      ≡ verdict_by reading params p sender time shown view known held
  same_facts =
      where_split (is_from reading sender shown) (is_well_split reading shown view)
      (first_shown (checks reading params p time shown view (known_status facts) (is_known_locked facts)) view.core)
      (first_shown (checks reading params p time shown view known held) view.core)
      (λ split. same_nine (λ a i. core_roles reading.language view.informees view.confirmers view.core (subview_starts shown view) split a i))

module _ (input : CheckInput) (known : Hash → Status) (held : Hash → Bool) (path : Path) where
  abbrev params : Params
  params = input.setup.now.topology.params

  abbrev reading : Reading
  reading = reading_of input

  found_by_known : (tree : OpenedTree) (found : Option OpenedView)
      → ((view : OpenedView) → found ≡ Some view → AreKnown reading input.me known held input.facts view.core)
      → verdict_on_found reading params input.me input.sender input.time input.facts (shown_by tree) found
      ≡ verdict_if_found reading params input.me input.sender input.time known held (shown_by tree) found
  found_by_known tree None facts = refl
  found_by_known tree (Some view) facts =
      same_facts reading params input.me input.sender known held input.time (shown_by tree) view input.facts (facts view refl)

  fixed_by_known : (reason : Reason) (offer : Offer) → reason_of offer ≡ Some reason → Reject reason 0 ≡ verdict_by_known input known held path offer
  fixed_by_known reason Mismatch given = ap (λ (r : Reason). Reject r 0) (sym (same_Some RootMismatch reason given))
  fixed_by_known reason Missing given = ap (λ (r : Reason). Reject r 0) (sym (same_Some ViewMissing reason given))
  fixed_by_known reason (model_reading.Open opened) given = absurd (none-some reason given)

  shown_by_known : (offer : Offer) (shown : Shown) → input.shown ≡ shown → IsGivenKnown input known held path offer
      → verdict_on_shown input path shown ≡ verdict_by_known input known held path offer
  shown_by_known offer (Fixed reason) is place = fixed_by_known reason offer (subst (IsGivenBy offer) is place.given)
  shown_by_known offer (Open tree) is place =
      let given : offer ≡ model_reading.Open (shown_by tree) = subst (IsGivenBy offer) is place.given in
      found_by_known tree (view_at path tree) (λ view found. place.facts tree view is found)
      ∙ ap (verdict_by_known input known held path) (sym given)

pub by_known : (input : CheckInput) (path : Path) (known : Hash → Status) (held : Hash → Bool) (offer : Offer) → IsGivenKnown input known held path offer
    → verdict_of input path ≡ verdict_by_known input known held path offer
by_known input path known held offer place = shown_by_known input known held path offer input.shown refl place
