-- The verdict of a trial is the model's.
use Rattle.std.proofs.Common.{◌≡◌, ℕ, Bool, true, false, List, [], ◌∷◌, take, refl, sym, ap, ◌∙◌}
use Rattle.std.specs.Prelude.{not, ◌&&◌, ◌||◌, slice_get, if◌then◌else◌}
use Rattle.std.proofs.Math.Bool.{and_comm}
use Rattle.ledger_terms.specs.declared.act.Act.{Act}
use Rattle.ledger_terms.specs.Forest.{below_at}
use Rattle.ledger_model.specs.Forest.{acts, trees_of}
use Rattle.ledger_model.specs.Language.{roles_of}
use Rattle.ledger_model.specs.Opening.{OpenedView, Shown}
use Rattle.ledger_model.specs.Status.{shows_inactive, shows_locked, shows_not_fresh, shows_unordered}
use Rattle.canton_model.specs.declared.reason.Reason.{Reason}
use Rattle.canton_model.specs.declared.reason.Reason.TheVariants.{IdMismatch, NotVetted, TimeSkew, Locked, Inactive, NotFresh, Unordered, NotConformant, NotAuthorised}
use Rattle.canton_model.specs.declared.reason.Reason.TheVariants.{RootMismatch, ViewMissing, WrongSender, WrongCommon}
use Rattle.canton_model.specs.declared.local_verdict.LocalVerdict.{LocalVerdict}
use Rattle.canton_model.specs.declared.local_verdict.LocalVerdict.TheVariants.{Reject}
use Rattle.canton_model.specs.Checks.{Check, checks, first_shown, first_tree, is_authorised_by_known, is_from, is_root_view, is_well_split, is_within, verdict_by}
use Rattle.canton_model.specs.Checks.{is_first as is_first_of}
use Rattle.lang_eval.specs.Language.{roles_in}
use Rattle.lang_eval.specs.Found.{Packages}
use Rattle.lang_eval.proofs.Informed.{no_size}
use Rattle.ledger_terms.specs.Vetting.{vets}
use Rattle.ledger_model.specs.Terms.{instance_of}
use Rattle.interpret.specs.Conforming.{conforms}
use Rattle.interpret.specs.Ids.{is_authentic}
use Rattle.interpret.specs.Language.{is_creatable, is_exercisable, the_language}
use Rattle.interpret.specs.Tries.{is_tree_possible}
use Rattle.authorise.specs.Below.{are_authorised_below}
use Rattle.view_split.specs.Placed.{shown_by}
use Rattle.confirm_reply.specs.Facts.{is_known_locked, known_status}
use Rattle.confirm_reply.specs.Numbers.{numbers_of}
use Rattle.confirm_reply.specs.Tried.{Matter, all_reasons, is_first, is_hosted, place_of, place_shown, shows, shows_at, tree_shows, verdict_after}
use Rattle.confirm_reply.specs.Verdict.{reading_by}
use Rattle.confirm_reply.specs.declared.opened_input.OpenedInput.{OpenedInput}
use Rattle.confirm_reply.proofs.Placed.{EachIn, StandsIn, acts_stand, below_stands}
use Rattle.confirm_reply.proofs.Trying.{FirstIs, alone_is, place_in, place_is, tried}

abbrev Numbered : Type 0
Numbered = ℕ × Act

same_roles : (packages : Packages) → roles_of (the_language packages) ≡ roles_in packages
same_roles packages = λ i action. no_size packages (is_creatable packages) (is_exercisable packages) action i

same_first : (core : List Numbered) (n : ℕ) → is_first (numbers_of core) n ≡ is_first_of core n
same_first [] n = refl
same_first (a ∷ core) n = refl

and_true : (b : Bool) → (b && true) ≡ b
and_true true = refl
and_true false = refl

-- whose it is, how it is split, and the rest
abbrev after_two : (sent split : Bool) → LocalVerdict → LocalVerdict
after_two sent split rest = if not sent then Reject WrongSender 0 else if not split then Reject WrongCommon 0 else rest

both_pass : (sent split : Bool) (rest : LocalVerdict) → sent ≡ true → split ≡ true → rest ≡ after_two sent split rest
both_pass sent split rest s t = rw (s, t) refl

first_fails : (sent split : Bool) (rest : LocalVerdict) → sent ≡ false → Reject WrongSender 0 ≡ after_two sent split rest
first_fails sent split rest s = rw s refl

second_fails : (sent split : Bool) (rest : LocalVerdict) → sent ≡ true → split ≡ false → Reject WrongCommon 0 ≡ after_two sent split rest
second_fails sent split rest s t = rw (s, t) refl

each_map : (P Q : Numbered → Type 0) → ((a : Numbered) → P a → Q a) → (core : List Numbered) → EachIn P core → EachIn Q core
each_map P Q f [] e = tt
each_map P Q f (a ∷ core) e = (f a e.0, each_map P Q f core e.1)

module _ (input : OpenedInput) (view : OpenedView) where
  abbrev shown : Shown
  shown = shown_by input.tree.now

  abbrev packages : Packages
  packages = input.setup.now.checked

  abbrev matter : Matter
  matter = record { trees = trees_of shown.roots; core = numbers_of view.core; is_root = is_root_view view }

  abbrev Stands : Numbered → Type 0
  Stands = StandsIn (trees_of shown.roots)

  abbrev asks : Numbered → Bool
  asks a = is_root_view view && is_first_of view.core a.0

  -- what is tried of an action is what it shows
  at_number : (reason : Reason) (a : Numbered) (s : Stands a) → shows_at input matter reason a.0 ≡ shows input reason a.1 s.0 (take a.0 (acts shown.roots)) (asks a)
  at_number reason a s =
      ap (tree_shows input matter reason a.0) s.1
      ∙ (λ i. shows input reason a.1 s.0 (take a.0 (acts_stand shown.roots i)) (is_root_view view && same_first view.core a.0 i))

  below_is : (a : Numbered) (s : Stands a) → s.0 ≡ below_at a.0 shown.roots
  below_is a s = sym (below_stands shown.roots a.0 (a.1, s.0) s.1)

  authority : (a : Numbered) (s : Stands a) → shows input NotAuthorised a.1 s.0 (take a.0 (acts shown.roots)) (asks a)
      ≡ not (are_authorised_below (roles_of (the_language packages)) (a.1).action (below_at a.0 shown.roots)
      && (not (asks a) || is_authorised_by_known (roles_of (the_language packages)) shown.requesters (a.1).action))
  authority a s =
      λ i. not (are_authorised_below (sym (same_roles packages) i) (a.1).action (below_is a s i)
      && (not (asks a) || is_authorised_by_known (sym (same_roles packages) i) shown.requesters (a.1).action))

  abbrev nine : List Check
  nine =
      checks (reading_by input) input.setup.now.topology.params input.me input.time shown view (known_status input.facts.now)
      (is_known_locked input.facts.now)

  abbrev sent : Bool
  sent = is_from (reading_by input) input.sender shown

  abbrev split : Bool
  split = is_well_split (reading_by input) shown view

  abbrev verdict : LocalVerdict
  verdict =
      verdict_by (reading_by input) input.setup.now.topology.params input.me input.sender input.time shown view (known_status input.facts.now)
      (is_known_locked input.facts.now)

  -- the model's tests
  abbrev model : Reason → Numbered → Bool
  model IdMismatch a = not (is_authentic a.1)
  model NotVetted a = not (vets (slice_get input.setup.now.topology.hosts input.me) (instance_of (a.1).action).template.«package»)
  model TimeSkew a = not (is_within input.setup.now.topology.params.skew shown.ledger_time input.time)
  model Locked a = is_hosted input a.1 && shows_locked (is_known_locked input.facts.now) a.1
  model Inactive a = is_hosted input a.1 && shows_inactive (known_status input.facts.now) (take a.0 (acts shown.roots)) a.1
  model NotFresh a = is_hosted input a.1 && shows_not_fresh (known_status input.facts.now) a.1
  model Unordered a = is_hosted input a.1 && shows_unordered (take a.0 (acts shown.roots)) a.1
  model NotConformant a = not (conforms packages (first_tree shown view.core))
  model NotAuthorised a =
      not (are_authorised_below (roles_of (the_language packages)) (a.1).action (below_at a.0 shown.roots)
      && (not (asks a) || is_authorised_by_known (roles_of (the_language packages)) shown.requesters (a.1).action))
  model RootMismatch a = false
  model ViewMissing a = false
  model WrongSender a = false
  model WrongCommon a = false

  abbrev checks_of : List Reason → List Check
  checks_of [] = []
  checks_of (reason ∷ reasons) = record { reason = reason; is_shown_by = model reason } ∷ checks_of reasons

  abbrev Same : Reason → Numbered → Type 0
  Same reason a = shows_at input matter reason a.0 ≡ model reason a

  conforming : (core : List Numbered) → EachIn Stands core → FirstIs (shows_at input matter NotConformant) (not (conforms packages (first_tree shown core))) core
  conforming [] e = tt
  conforming (a ∷ core) e =
      at_number NotConformant a e.0
      ∙ ap not (ap (is_tree_possible packages (a.1).action) (below_is a e.0) ∙ sym (and_true (is_tree_possible packages (a.1).action (below_at a.0 shown.roots))))

  timed : (core : List Numbered) → EachIn Stands core → FirstIs (shows_at input matter TimeSkew) (not (is_within input.setup.now.topology.params.skew shown.ledger_time input.time)) core
  timed [] e = tt
  timed (a ∷ core) e = at_number TimeSkew a e.0

  module _ (e : EachIn Stands view.core) where
    among : (reason : Reason) → ((a : Numbered) → Stands a → Same reason a) → place_shown (shows_at input matter reason) (numbers_of view.core) ≡ place_in (model reason) view.core
    among reason same = place_is (shows_at input matter reason) (model reason) view.core (each_map Stands (Same reason) same view.core e)

    place : (reason : Reason) → place_of input matter reason ≡ place_in (model reason) view.core
    place IdMismatch = among IdMismatch (λ a s. at_number IdMismatch a s)
    place NotVetted = among NotVetted (λ a s. at_number NotVetted a s)
    place TimeSkew = alone_is (shows_at input matter TimeSkew) (not (is_within input.setup.now.topology.params.skew shown.ledger_time input.time)) view.core (timed view.core e)
    place Locked = among Locked (λ a s. at_number Locked a s ∙ and_comm (shows_locked (is_known_locked input.facts.now) a.1) (is_hosted input a.1))
    place Inactive = among Inactive (λ a s. at_number Inactive a s ∙ and_comm (shows_inactive (known_status input.facts.now) (take a.0 (acts shown.roots)) a.1) (is_hosted input a.1))
    place NotFresh = among NotFresh (λ a s. at_number NotFresh a s ∙ and_comm (shows_not_fresh (known_status input.facts.now) a.1) (is_hosted input a.1))
    place Unordered = among Unordered (λ a s. at_number Unordered a s ∙ and_comm (shows_unordered (take a.0 (acts shown.roots)) a.1) (is_hosted input a.1))
    place NotConformant = alone_is (shows_at input matter NotConformant) (not (conforms packages (first_tree shown view.core))) view.core (conforming view.core e)
    place NotAuthorised = among NotAuthorised (λ a s. at_number NotAuthorised a s ∙ authority a s)
    place RootMismatch = among RootMismatch (λ a s. at_number RootMismatch a s)
    place ViewMissing = among ViewMissing (λ a s. at_number ViewMissing a s)
    place WrongSender = among WrongSender (λ a s. at_number WrongSender a s)
    place WrongCommon = among WrongCommon (λ a s. at_number WrongCommon a s)

    each_tried : (reasons : List Reason) → verdict_after input matter reasons ≡ first_shown (checks_of reasons) view.core
    each_tried [] = refl
    each_tried (reason ∷ reasons) =
        tried reason (model reason) (checks_of reasons) view.core (place_of input matter reason) (verdict_after input matter reasons) (place reason) (each_tried reasons)

    nine_are : verdict_after input matter all_reasons ≡ first_shown nine view.core
    nine_are = each_tried all_reasons

    pub verdict_is : sent ≡ true → split ≡ true → verdict_after input matter all_reasons ≡ verdict
    verdict_is s t = nine_are ∙ both_pass sent split (first_shown nine view.core) s t

  pub not_sent : sent ≡ false → Reject WrongSender 0 ≡ verdict
  not_sent s = first_fails sent split (first_shown nine view.core) s

  pub not_split : sent ≡ true → split ≡ false → Reject WrongCommon 0 ≡ verdict
  not_split s t = second_fails sent split (first_shown nine view.core) s t
