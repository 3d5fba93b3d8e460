-- Of the views of a transaction, those with a hosted informee are put back to its projection, and are its views.
use Rattle.std.proofs.Common.{◌≡◌, Bool, true, false, List, [], ◌∷◌, refl, sym, ap, ◌∙◌, subst, inl, inr}
use Rattle.std.specs.Prelude.{ℕ, suc, ◌++◌}
use Rattle.std.specs.List.{list_any, list_all}
use Rattle.std.specs.Cmp.Lexicographic.{same_text}
use Rattle.std.proofs.lemmas.Bool.{cases_Bool, not-false, and_parts, both_ways}
use Rattle.ledger_terms.specs.declared.act.Act.{Act}
use Rattle.ledger_terms.specs.Forest.{Forest, NoRoots, Root, join, project, paths_from}
use Rattle.ledger_terms.specs.Parties.{same_name, has_party, is_subset}
use Rattle.ledger_terms.specs.declared.action.Action.{Action}
use Rattle.ledger_terms.proofs.Grow.{join-assoc}
use Rattle.ledger_model.specs.Terms.{Name, PartySet}
use Rattle.ledger_model.specs.declared.roles.Roles.{Roles}
use Rattle.ledger_model.specs.Views.{its_informees, starts}
use Rattle.ledger_model.proofs.Lists.{In, in_any, from_any}
use Rattle.view_split.specs.declared.split_view.SplitView.{SplitView}
use Rattle.view_split.specs.Split.{view_at, split_below, split, assembled}
use Rattle.view_split.specs.Numbered.{map_forest}
use Rattle.view_split.specs.SeenViews.{is_sight, seen_views, put_back}
use Rattle.view_split.proofs.Assembled.{assembled-join, refilled}
use Rattle.view_split.proofs.Joins.{split-join}

pub from_all : {X : Type 0} (p : X → Bool) (xs : List X) (x : X) → list_all p xs ≡ true → In x xs → p x ≡ true
from_all p [] x h i = absurd i
from_all p (y ∷ ys) x h (inl same) = ap p (sym same) ∙ (and_parts (p y) (list_all p ys) h).0
from_all p (y ∷ ys) x h (inr t) = from_all p ys x (and_parts (p y) (list_all p ys) h).1 t

pub in_subset : (some all : PartySet) (x : Name) → is_subset some all ≡ true → In x some → In x all
in_subset some all x h i =
    let y = from_any (λ (b : Name). same_name b x) all (from_all (has_party all) some x h i) in
    subst (λ (z : Name). In z all) (same_text y.0 x (sym y.2)) y.1

-- who has one of some has one of all
pub any_subset : (test : Name → Bool) (some all : PartySet) → is_subset some all ≡ true → list_any test some ≡ true → list_any test all ≡ true
any_subset test some all h t =
    let x = from_any test some t in in_any test all x.0 (in_subset some all x.0 h x.1) x.2

module _ {A : Type 0} where
  pub project_join : (t : A → Bool) (f g : Forest A) → project t (join f g) ≡ join (project t f) (project t g)
  project_join t NoRoots g = refl
  project_join t (Root root below others) g =
      elim (cases_Bool (t root)) [
        | inl kept ↦ rw kept (ap (Root root below) (project_join t others g))
        | inr dropped ↦ rw dropped
            (ap (join (project t below)) (project_join t others g) ∙ sym (join-assoc (project t below) (project t others) (project t g)))
      ]

module _ {A B : Type 0} (g : A → B) where
  pub map_join : (f h : Forest A) → map_forest g (join f h) ≡ join (map_forest g f) (map_forest g h)
  map_join NoRoots h = refl
  map_join (Root root below others) h = ap (Root (g root) (map_forest g below)) (map_join others h)

  pub map_project : (t : B → Bool) (f : Forest A) → map_forest g (project (λ a. t (g a)) f) ≡ project t (map_forest g f)
  map_project t NoRoots = refl
  map_project t (Root root below others) =
      elim (cases_Bool (t (g root))) [
        | inl kept ↦ rw kept (ap (Root (g root) (map_forest g below)) (map_project t others))
        | inr dropped ↦ rw dropped
            (map_join (project (λ a. t (g a)) below) (project (λ a. t (g a)) others)
            ∙ (ap (λ (x : Forest B). join x (map_forest g (project (λ a. t (g a)) others))) (map_project t below) ∙ ap (join (project t (map_forest g below))) (map_project t others)))
      ]

pub without_paths : {A : Type 0} (above : List ℕ) (k : ℕ) (f : Forest A) → map_forest (λ (v : List ℕ × A). v.1) (paths_from above k f) ≡ f
without_paths above k NoRoots = refl
without_paths above k (Root root below others) =
    ap (λ (x : Forest _). Root root x (map_forest (λ (v : List ℕ × _). v.1) (paths_from above (suc k) others))) (without_paths (above ++ k ∷ []) 0 below)
    ∙ ap (Root root below) (without_paths above (suc k) others)

-- an informee of it is hosted
abbrev pub is_told : (Action → Roles) → (Name → Bool) → Act → Bool
is_told roles hosts act = list_any hosts (its_informees roles act)

module _ (roles : Action → Roles) (hosts : Name → Bool) where
  -- below a view without hosted informees
  sight_below : (e : PartySet) (f : Forest Act) → list_any hosts e ≡ false → assembled (project (is_sight hosts) (split_below roles e f)) ≡ project (is_told roles hosts) f
  sight_below e NoRoots blind = refl
  sight_below e (Root act below others) blind =
      let sub = split_below roles (its_informees roles act) below in
      let rest = split_below roles e others in
      let after = sight_below e others blind in
      elim (cases_Bool (starts roles e act)) [
        | inl new ↦ rw new (elim (cases_Bool (list_any hosts (its_informees roles act))) [
          | inl told ↦ rw told
              (ap (λ (t : Forest Act). Root act t (assembled (project (is_sight hosts) rest))) (refilled roles act below) ∙ ap (Root act below) after)
          | inr out ↦ rw out
              (assembled-join (project (is_sight hosts) sub) (project (is_sight hosts) rest)
              ∙ (ap (λ (t : Forest Act). join t (assembled (project (is_sight hosts) rest))) (sight_below (its_informees roles act) below out)
              ∙ ap (join (project (is_told roles hosts) below)) after))
        ])
        | inr old ↦
            let within : is_subset (its_informees roles act) e ≡ true = not-false _ old in
            let out : list_any hosts (its_informees roles act) ≡ false =
            elim (cases_Bool (list_any hosts (its_informees roles act))) [ inl told ↦ absurd (both_ways _ blind (any_subset hosts (its_informees roles act) e within told)) | inr out ↦ out ] in
            rw (old, out)
            (ap assembled (project_join (is_sight hosts) (split_below roles e below) rest)
            ∙ (assembled-join (project (is_sight hosts) (split_below roles e below)) (project (is_sight hosts) rest)
            ∙ (ap (λ (t : Forest Act). join t (assembled (project (is_sight hosts) rest))) (sight_below e below blind)
            ∙ ap (join (project (is_told roles hosts) below)) after)))
      ]

  pub sight : (f : Forest Act) → assembled (project (is_sight hosts) (split roles f)) ≡ project (is_told roles hosts) f
  sight NoRoots = refl
  sight (Root act below others) =
      elim (cases_Bool (list_any hosts (its_informees roles act))) [
        | inl told ↦ rw told
            (ap (λ (t : Forest Act). Root act t (assembled (project (is_sight hosts) (split roles others)))) (refilled roles act below) ∙ ap (Root act below) (sight others))
        | inr out ↦ rw out
            (assembled-join (project (is_sight hosts) (split_below roles (its_informees roles act) below)) (project (is_sight hosts) (split roles others))
            ∙ (ap (λ (t : Forest Act). join t (assembled (project (is_sight hosts) (split roles others)))) (sight_below (its_informees roles act) below out)
            ∙ ap (join (project (is_told roles hosts) below)) (sight others)))
      ]

  -- they are the views of the projection
  pub same_below : (e : PartySet) (f : Forest Act) → list_any hosts e ≡ false → project (is_sight hosts) (split_below roles e f) ≡ split roles (project (is_told roles hosts) f)
  same_below e NoRoots blind = refl
  same_below e (Root act below others) blind =
      let sub = split_below roles (its_informees roles act) below in
      let rest = split_below roles e others in
      let after = same_below e others blind in
      elim (cases_Bool (starts roles e act)) [
        | inl new ↦ rw new (elim (cases_Bool (list_any hosts (its_informees roles act))) [
          | inl told ↦ rw told (ap (λ (v : Forest SplitView). Root (view_at roles act below) sub v) after)
          | inr out ↦ rw out
              (ap (λ (v : Forest SplitView). join v (project (is_sight hosts) rest)) (same_below (its_informees roles act) below out)
              ∙ (ap (λ (v : Forest SplitView). join (split roles (project (is_told roles hosts) below)) v) after
              ∙ sym (split-join roles (project (is_told roles hosts) below) (project (is_told roles hosts) others))))
        ])
        | inr old ↦
            let within : is_subset (its_informees roles act) e ≡ true = not-false _ old in
            let out : list_any hosts (its_informees roles act) ≡ false =
            elim (cases_Bool (list_any hosts (its_informees roles act))) [ inl told ↦ absurd (both_ways _ blind (any_subset hosts (its_informees roles act) e within told)) | inr out ↦ out ] in
            rw (old, out)
            (project_join (is_sight hosts) (split_below roles e below) rest
            ∙ (ap (λ (v : Forest SplitView). join v (project (is_sight hosts) rest)) (same_below e below blind)
            ∙ (ap (λ (v : Forest SplitView). join (split roles (project (is_told roles hosts) below)) v) after
            ∙ sym (split-join roles (project (is_told roles hosts) below) (project (is_told roles hosts) others)))))
      ]

  pub same_views : (f : Forest Act) → project (is_sight hosts) (split roles f) ≡ split roles (project (is_told roles hosts) f)
  same_views NoRoots = refl
  same_views (Root act below others) =
      elim (cases_Bool (list_any hosts (its_informees roles act))) [
        | inl told ↦ rw told (ap (λ (v : Forest SplitView). Root (view_at roles act below) (split_below roles (its_informees roles act) below) v) (same_views others))
        | inr out ↦ rw out
            (ap (λ (v : Forest SplitView). join v (project (is_sight hosts) (split roles others))) (same_below (its_informees roles act) below out)
            ∙ (ap (λ (v : Forest SplitView). join (split roles (project (is_told roles hosts) below)) v) (same_views others)
            ∙ sym (split-join roles (project (is_told roles hosts) below) (project (is_told roles hosts) others))))
      ]

  -- the same with paths
  seen_without : (f : Forest Act) → map_forest (λ (v : List ℕ × SplitView). v.1) (seen_views hosts (split roles f)) ≡ project (is_sight hosts) (split roles f)
  seen_without f =
      map_project (λ (v : List ℕ × SplitView). v.1) (is_sight hosts) (paths_from [] 0 (split roles f))
      ∙ ap (project (is_sight hosts)) (without_paths [] 0 (split roles f))

  pub seen_put_back : (f : Forest Act) → put_back (seen_views hosts (split roles f)) ≡ project (is_told roles hosts) f
  seen_put_back f = ap assembled (seen_without f) ∙ sight f

  pub seen_are_views : (f : Forest Act) → map_forest (λ (v : List ℕ × SplitView). v.1) (seen_views hosts (split roles f)) ≡ split roles (project (is_told roles hosts) f)
  seen_are_views f = seen_without f ∙ same_views f
