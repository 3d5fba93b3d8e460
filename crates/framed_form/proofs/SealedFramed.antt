-- A sealed request with a root is framed.
use Rattle.std.proofs.Common.{◌≡◌, ◌≢◌, ℕ, zero, suc, ◌+◌, ◌≤◌, Bool, true, false, List, [], ◌∷◌, ◌++◌, length, map, filter, Contains, refl, sym, ap, subst, ◌∙◌, arith, inl, inr}
use Rattle.std.specs.Prelude.{◌||◌, ◌⊎◌, not, if◌then◌else◌}
use Rattle.std.specs.List.{list_any, range_with_len}
use Rattle.std.proofs.lemmas.Bool.{and_from, and_parts, cases_Bool, both_ways}
use Rattle.std.proofs.lemmas.List.Folds.{list_any-append}
use Rattle.sha2.specs.Sha256.{sha256}
use Rattle.ledger_terms.proofs.Deciding.{bytes_decide}
use Rattle.ledger_terms.specs.Forest.{Forest, NoRoots, Root, join, paths_from, preorder}
use Rattle.ledger_terms.specs.Hosting.{confirms_at}
use Rattle.ledger_terms.specs.Parties.{has_party, is_subset, same_name, set_of}
use Rattle.ledger_terms.specs.declared.act.Act.{Act}
use Rattle.ledger_terms.specs.declared.action.Action.{Action}
use Rattle.ledger_terms.specs.declared.action.Action.TheVariants.{Create, Exercise, Fetch}
use Rattle.ledger_terms.specs.declared.topology.Topology.{Topology}
use Rattle.ledger_model.specs.Forest.{acts}
use Rattle.ledger_model.specs.Language.{Language, informees_of, roles_of, stakeholders}
use Rattle.ledger_model.specs.Opening.{Transaction}
use Rattle.ledger_model.specs.Views.{its_informees, starts}
use Rattle.ledger_model.specs.declared.roles.Roles.{Roles}
use Rattle.ledger_model.proofs.Lists.{In, contains_from_In, from_any, in_any, in_append_cases, in_append_left, in_append_right, in_from_Contains}
use Rattle.ledger_model.proofs.Projected.{preorder_join}
use Rattle.ledger_model.proofs.Sets.{from_set_of, in_set_of}
use Rattle.canton_model.specs.declared.envelope.Envelope.{Envelope}
use Rattle.canton_model.specs.declared.request.Request.{Request}
use Rattle.lang_eval.specs.Found.{Packages}
use Rattle.interpret.specs.Language.{the_language}
use Rattle.view_split.specs.Holed.{inner}
use Rattle.view_split.specs.Split.{confirmers_in, core_of, split, split_below, view_at}
use Rattle.view_split.specs.declared.split_view.SplitView.{SplitView}
use Rattle.view_split.proofs.Fitting.{map-append}
use Rattle.view_split.proofs.Signed.{has_signatory}
use Rattle.blind_tree.specs.Blind.{tree_to_mediator}
use Rattle.blind_tree.specs.Opening.{view_roles}
use Rattle.blind_tree.specs.Recipients.{is_recipient, recipients_of}
use Rattle.blind_tree.specs.ShownViews.{roles_of_all}
use Rattle.blind_tree.specs.declared.roles_tree.RolesTree.{RolesTree}
use Rattle.blind_tree.specs.declared.tree.Tree.{Tree}
use Rattle.blind_tree.specs.declared.view_roles.ViewRoles.{ViewRoles}
use Rattle.blind_tree.proofs.Blinded.{mediator_sees_none}
use Rattle.blind_tree.proofs.OpensLaws.{tree_tells}
use Rattle.sealed_form.specs.SealedForm.{IsSealedForm, envelope_for, found, request_of, roles_by, split_as, tree_in, views_by}
use Rattle.sealed_form.specs.Within.{is_hosted, participants_of}
use Rattle.sealed_form.proofs.Asked.{asked_by_views}
use Rattle.sealed_form.proofs.Hosts.{named_below}
use Rattle.sealed_form.proofs.Trees.{mediators_is_tree, tree_again}
use Rattle.framed_form.specs.Framed.{AreBytes, IsConfirmed, IsFramed, RisesBetween, recipient_of}

-- ---- parties of sets

among : (s : List (List ℕ)) (a : List ℕ) → In a s → has_party s a ≡ true
among s a h = in_any (λ b. same_name b a) s a h ((bytes_decide a a).1 refl)

from_among : (s : List (List ℕ)) (a : List ℕ) → has_party s a ≡ true → In a s
from_among s a h =
    let w = from_any (λ b. same_name b a) s h in
    subst (λ x. In x s) ((bytes_decide w.0 a).0 w.2) w.1

subset_from : (s t : List (List ℕ)) → ((a : List ℕ) → In a s → In a t) → is_subset s t ≡ true
subset_from [] t f = refl
subset_from (a ∷ s) t f = and_from (has_party t a) (is_subset s t) (among t a (f a (inl refl))) (subset_from s t (λ b h. f b (inr h)))

pub from_subset : (s t : List (List ℕ)) (a : List ℕ) → is_subset s t ≡ true → In a s → In a t
from_subset [] t a e h = absurd h
from_subset (b ∷ s) t a e (inl same) = subst (λ x. In x t) same (from_among t b (parts b s t e).0)
  where
    parts : (b : List ℕ) (s t : List (List ℕ)) → is_subset (b ∷ s) t ≡ true → (has_party t b ≡ true) × (is_subset s t ≡ true)
    parts b s t e = and_parts (has_party t b) (is_subset s t) e
from_subset (b ∷ s) t a e (inr later) = from_subset s t a (and_parts (has_party t b) (is_subset s t) e).1 later

-- an action's confirmers are among its informees
confirmer_informed : (language : Language) (a : Action) (party : List ℕ) → In party (roles_of language a).confirmers → In party (roles_of language a).informees
confirmer_informed language (Create id i) party h =
    elim (in_append_cases (language.signatories i) [] party (from_set_of (language.signatories i ++ []) party h)) [
      | inl s ↦ in_set_of _ party (in_append_left (language.signatories i) (language.observers i) party s)
      | inr none ↦ absurd none
    ]
confirmer_informed language (Exercise id salt i choice args actors consuming result) party h =
    elim (in_append_cases (language.signatories i) actors party (from_set_of (language.signatories i ++ actors) party h)) [
      | inl s ↦ signs consuming s
      | inr acts_it ↦ acting consuming acts_it
    ]
  where
    signs : (c : Bool) → In party (language.signatories i) → In party (informees_of language (Exercise id salt i choice args actors c result))
    signs true s = in_set_of _ party (in_append_left (stakeholders language i) (actors ++ language.choice_observers (record { id = id; instance = i; choice = choice; args = args })) party
        (in_set_of _ party (in_append_left (language.signatories i) (language.observers i) party s)))
    signs false s = in_set_of _ party (in_append_left (language.signatories i) (actors ++ language.choice_observers (record { id = id; instance = i; choice = choice; args = args })) party s)

    acting : (c : Bool) → In party actors → In party (informees_of language (Exercise id salt i choice args actors c result))
    acting true s = in_set_of _ party (in_append_right (stakeholders language i) (actors ++ language.choice_observers (record { id = id; instance = i; choice = choice; args = args })) party
        (in_append_left actors (language.choice_observers (record { id = id; instance = i; choice = choice; args = args })) party s))
    acting false s = in_set_of _ party (in_append_right (language.signatories i) (actors ++ language.choice_observers (record { id = id; instance = i; choice = choice; args = args })) party
        (in_append_left actors (language.choice_observers (record { id = id; instance = i; choice = choice; args = args })) party s))
confirmer_informed language (Fetch id salt i actors) party h = in_set_of _ party (from_set_of (language.signatories i ++ actors) party h)

module _ (topology : Topology) (packages : Packages) where
  abbrev roles : Action → Roles
  roles = roles_by packages

  -- what is asked of each action
  pub record IsFine (act : Act) : Type 0 where
    pub has_roles : (the_language packages).has_roles act.action ≡ true
    pub known : (party : List ℕ) → In party (its_informees roles act) → is_hosted topology party ≡ true

  abbrev AllFine : Forest Act → Type 0
  AllFine f = (act : Act) → In act (preorder f) → IsFine act

  -- the confirmers of the actions of a core are among the informees of its view
  core_among : (e : List (List ℕ)) (f : Forest Act) (party : List ℕ) → In party (confirmers_in roles (inner (core_of roles e f))) → In party e
  core_among e NoRoots party h = absurd h
  core_among e (Root act below others) party h =
      elim (cases_Bool (starts roles e act)) [
        | inl new ↦
            (let rest : In party (confirmers_in roles (inner (core_of roles e others))) = rw new at h in
            core_among e others party rest)
        | inr old ↦
            (let rest : In party ((roles act.action).confirmers ++ confirmers_in roles (inner (core_of roles e below) ++ inner (core_of roles e others))) = rw old at h in
            elim (in_append_cases (roles act.action).confirmers (confirmers_in roles (inner (core_of roles e below) ++ inner (core_of roles e others))) party rest) [
              | inl here ↦ from_subset (its_informees roles act) e party (not_false (is_subset (its_informees roles act) e) old) (confirmer_informed (the_language packages) act.action party here)
              | inr more ↦ elim (in_flat (inner (core_of roles e below)) (inner (core_of roles e others)) party more) [
                | inl b ↦ core_among e below party b
                | inr o ↦ core_among e others party o
              ]
            ])
      ]
    where
      not_false : (b : Bool) → not b ≡ false → b ≡ true
      not_false true h = refl
      not_false false h = absurd (both_ways true h refl)

      in_flat : (xs ys : List Act) (party : List ℕ) → In party (confirmers_in roles (xs ++ ys)) → In party (confirmers_in roles xs) ⊎ In party (confirmers_in roles ys)
      in_flat [] ys party h = inr h
      in_flat (x ∷ xs) ys party h =
          elim (in_append_cases (roles x.action).confirmers (confirmers_in roles (xs ++ ys)) party h) [
            | inl a ↦ inl (in_append_left (roles x.action).confirmers (confirmers_in roles xs) party a)
            | inr b ↦ elim (in_flat xs ys party b) [ inl c ↦ inl (in_append_right (roles x.action).confirmers (confirmers_in roles xs) party c) | inr d ↦ inr d ]
          ]

  -- of a view
  pub record IsRight (view : SplitView) : Type 0 where
    pub some : view.confirmers ≢ []
    pub among_them : is_subset view.confirmers view.informees ≡ true
    pub known : (party : List ℕ) → In party view.informees → is_hosted topology party ≡ true

  right_at : (act : Act) (below : Forest Act) → IsFine act → IsRight (view_at roles act below)
  right_at act below fine =
      let core = confirmers_in roles (inner (core_of roles (its_informees roles act) below)) in
      let all = (roles act.action).confirmers ++ core in
      let signs = has_signatory packages act.action fine.has_roles in
      record {
        some = λ none. subst (λ s. In signs.0 s) none (in_set_of all signs.0 (in_append_left (roles act.action).confirmers core signs.0
            (in_set_of _ signs.0 (in_append_left (roles act.action).signatories (roles act.action).actors signs.0 signs.1))));
        among_them = subset_from (set_of all) (its_informees roles act) (λ party h. elim (in_append_cases (roles act.action).confirmers core party (from_set_of all party h)) [
          | inl a ↦ confirmer_informed (the_language packages) act.action party a
          | inr b ↦ core_among (its_informees roles act) below party b
        ]);
        known = fine.known;
      }

  abbrev AllRight : Forest SplitView → Type 0
  AllRight f = (view : SplitView) → In view (preorder f) → IsRight view

  right_join : (f g : Forest SplitView) → AllRight f → AllRight g → AllRight (join f g)
  right_join f g a b view h = elim (in_append_cases (preorder f) (preorder g) view (subst (In view) (preorder_join f g) h)) [ inl x ↦ a view x | inr y ↦ b view y ]

  right_root : (view : SplitView) (f g : Forest SplitView) → IsRight view → AllRight f → AllRight g → AllRight (Root view f g)
  right_root view f g here a b v (inl same) = subst IsRight same here
  right_root view f g here a b v (inr more) = elim (in_append_cases (preorder f) (preorder g) v more) [ inl x ↦ a v x | inr y ↦ b v y ]

  below_right : (e : List (List ℕ)) (f : Forest Act) → AllFine f → AllRight (split_below roles e f)
  below_right e NoRoots fine = λ view h. absurd h
  below_right e (Root act below others) fine =
      let b : AllFine below = λ a h. fine a (inr (in_append_left (preorder below) (preorder others) a h)) in
      let o : AllFine others = λ a h. fine a (inr (in_append_right (preorder below) (preorder others) a h)) in
      elim (cases_Bool (starts roles e act)) [
        | inl new ↦ rw new (right_root (view_at roles act below) (split_below roles (its_informees roles act) below) (split_below roles e others) (right_at act below (fine act (inl refl))) (below_right (its_informees roles act) below b) (below_right e others o))
        | inr old ↦ rw old (right_join (split_below roles e below) (split_below roles e others) (below_right e below b) (below_right e others o))
      ]

  all_right : (f : Forest Act) → AllFine f → AllRight (split roles f)
  all_right NoRoots fine = λ view h. absurd h
  all_right (Root act below others) fine =
      right_root (view_at roles act below) (split_below roles (its_informees roles act) below) (split roles others) (right_at act below (fine act (inl refl)))
      (below_right (its_informees roles act) below (λ a h. fine a (inr (in_append_left (preorder below) (preorder others) a h))))
      (all_right others (λ a h. fine a (inr (in_append_right (preorder below) (preorder others) a h))))

-- ---- what is told of views

module _ (topology : Topology) where
  told_right : (packages : Packages) (above : List ℕ) (k : ℕ) (f : Forest SplitView) → ((view : SplitView) → In view (preorder f) → IsRight topology packages view)
      → (v : ViewRoles) → In v (roles_of_all above k f) → IsConfirmed topology v
  told_right packages above k f right v h = each (preorder (paths_from above k f)) (λ x i. right x.1 (bare above k f x i)) v h
    where
      confirmed : (path : List ℕ) (view : SplitView) → IsRight topology packages view → IsConfirmed topology (view_roles path (view.informees, view.confirmers))
      confirmed path view r = record { some = r.some; among = r.among_them; known = λ party there. r.known party (in_from_Contains view.informees party there) }

      each : (xs : List (List ℕ × SplitView)) → ((x : List ℕ × SplitView) → In x xs → IsRight topology packages x.1) → (v : ViewRoles)
          → In v (map (λ (x : List ℕ × SplitView). view_roles x.0 ((x.1).informees, (x.1).confirmers)) xs) → IsConfirmed topology v
      each [] fine v i = absurd i
      each (x ∷ xs) fine v (inl same) = subst (IsConfirmed topology) same (confirmed x.0 x.1 (fine x (inl refl)))
      each (x ∷ xs) fine v (inr later) = each xs (λ y j. fine y (inr j)) v later

      bare : (above : List ℕ) (k : ℕ) (f : Forest SplitView) (x : List ℕ × SplitView) → In x (preorder (paths_from above k f)) → In x.1 (preorder f)
      bare above k NoRoots x i = absurd i
      bare above k (Root view below others) x (inl same) = inl (ap (λ (y : List ℕ × SplitView). y.1) same)
      bare above k (Root view below others) x (inr more) =
          elim (in_append_cases (preorder (paths_from (above ++ k ∷ []) 0 below)) (preorder (paths_from above (suc k) others)) x more) [
            | inl b ↦ inr (in_append_left (preorder below) (preorder others) x.1 (bare (above ++ k ∷ []) 0 below x b))
            | inr o ↦ inr (in_append_right (preorder below) (preorder others) x.1 (bare above (suc k) others x o))
          ]

  -- who confirms one of the views, told or split
  told_any : (p : ℕ) (above : List ℕ) (k : ℕ) (f : Forest SplitView)
      → list_any (λ (view : SplitView). list_any (confirms_at topology.hosts p) view.confirmers) (preorder f)
      ≡ list_any (λ (view : ViewRoles). list_any (confirms_at topology.hosts p) view.confirmers) (roles_of_all above k f)
  told_any p above k NoRoots = refl
  told_any p above k (Root view below others) =
      let path = above ++ k ∷ [] in
      let test : SplitView → Bool = λ v. list_any (confirms_at topology.hosts p) v.confirmers in
      let tested : ViewRoles → Bool = λ v. list_any (confirms_at topology.hosts p) v.confirmers in
      ap (λ (b : Bool). test view || b)
      (list_any-append test (preorder below) (preorder others)
      ∙ ((λ i. told_any p path 0 below i || told_any p above (suc k) others i)
      ∙ (sym (list_any-append tested (roles_of_all path 0 below) (roles_of_all above (suc k) others))
      ∙ ap (list_any tested) (sym (map-append (λ (v : List ℕ × SplitView). view_roles v.0 ((v.1).informees, (v.1).confirmers)) (preorder (paths_from path 0 below)) (preorder (paths_from above (suc k) others)))))))

  same_asked : (f : Forest SplitView) (ps : List ℕ)
      → filter (λ p. list_any (λ (view : SplitView). list_any (confirms_at topology.hosts p) view.confirmers) (preorder f)) ps
      ≡ filter (λ p. list_any (λ (view : ViewRoles). list_any (confirms_at topology.hosts p) view.confirmers) (roles_of_all [] 0 f)) ps
  same_asked f [] = refl
  same_asked f (p ∷ ps) = λ i. if told_any p [] 0 f i then p ∷ same_asked f ps i else same_asked f ps i

-- ---- envelopes

rises_filter : (test : ℕ → Bool) (low n : ℕ) → RisesBetween low (filter test (range_with_len low n)) (low + n)
rises_filter test low zero = omega arith
rises_filter test low (suc n) =
    let next : suc low ≡ low + 1 = omega arith in
    let high : (low + 1) + n ≡ low + suc n = omega arith in
    let rest : RisesBetween (low + 1) (filter test (range_with_len (low + 1) n)) (low + suc n) =
    subst (RisesBetween (low + 1) (filter test (range_with_len (low + 1) n))) high (rises_filter test (low + 1) n) in
    elim (cases_Bool (test low)) [
      | inl is ↦ rw is (omega arith, subst (λ (l : ℕ). RisesBetween l (filter test (range_with_len (low + 1) n)) (low + suc n)) (sym next) rest)
      | inr out ↦ rw out (lower low (low + 1) (filter test (range_with_len (low + 1) n)) (low + suc n) (omega arith) rest)
    ]
  where
    lower : (low next : ℕ) (ns : List ℕ) (high : ℕ) → low ≤ next → RisesBetween next ns high → RisesBetween low ns high
    lower low next [] high l r = omega (arith, l, r)
    lower low next (n ∷ ns) high l r = let m = r.0 in (omega (arith, l, m), r.1)

recipients_again : (g : ℕ → Envelope) → ((p : ℕ) → (g p).to ≡ p) → (ps : List ℕ) → map recipient_of (map g ps) ≡ ps
recipients_again g is [] = refl
recipients_again g is (p ∷ ps) = λ i. is p i ∷ recipients_again g is ps i

-- ---- sealed requests

module _ (topology : Topology) (packages : Packages) (request : Request) (sealed : IsSealedForm topology packages request) where
  abbrev t : Transaction
  t = (sealed.whole).transaction

  abbrev views : Forest SplitView
  views = views_by packages t

  abbrev tree : Tree
  tree = tree_to_mediator sha256 (sealed.whole).salts (sealed.whole).sender t views

  abbrev told : RolesTree
  told = record { sender = (sealed.whole).sender; views = roles_of_all [] 0 views }

  abbrev made : Request
  made = request_of topology packages request.sender (sealed.whole).sender request.command (sealed.whole).salts t

  fine : (act : Act) → In act (preorder t.roots) → IsFine topology packages act
  fine act h =
      let there = contains_from_In (acts t.roots) act h in
      record {
        has_roles = (sealed.can_be).has_roles act there;
        known = λ party i. (sealed.can_be).informees act party there (contains_from_In (its_informees (roles_by packages) act) party i);
      }

  some_told : (f : Forest Act) → f ≢ NoRoots → roles_of_all [] 0 (split (roles_by packages) f) ≢ []
  some_told NoRoots some e = some refl
  some_told (Root act below others) some e = no_end e
    where
      no_end : {A : Type 0} {x : A} {xs : List A} → x ∷ xs ≡ [] → ⊥
      no_end h = cc

  pub sealed_framed : t.roots ≢ NoRoots → AreBytes request.mediator → ((e : Envelope) → Contains request.envelopes e → AreBytes e.bytes) → IsFramed topology request
  sealed_framed some mediators each =
      record {
        tree = tree;
        spells = ap (λ (r : Request). tree_in r.mediator) sealed.made ∙ tree_again tree (mediators_is_tree topology packages request.sender sealed.whole sealed.can_be);
        roles = told;
        tells = ap found (tree_tells sha256 (split_as t views) (sealed.whole).sender (sealed.can_be).in_range);
        requesters_hidden = refl;
        contents_hidden = mediator_sees_none sha256 [] 0 views;
        some_view = some_told t.roots some;
        views = λ v there. told_right topology packages [] 0 views (all_right topology packages t.roots fine) v (in_from_Contains (roles_of_all [] 0 views) v there);
        confirming = ap (λ (r : Request). r.confirming) sealed.made
            ∙ (sym (asked_by_views (the_language packages) (confirms_at topology.hosts) (participants_of topology) t.roots) ∙ same_asked topology views (participants_of topology));
        sender = named_below topology.hosts request.sender (sealed.whole).sender (sealed.can_be).sender_is;
        envelopes = let high : 0 + length topology.hosts ≡ length topology.hosts = omega arith in
            subst (λ (ns : List ℕ). RisesBetween 0 ns (length topology.hosts))
            (sym (ap (λ (r : Request). map recipient_of r.envelopes) sealed.made
            ∙ recipients_again (envelope_for topology packages request.sender (sealed.whole).sender (sealed.whole).salts t) (λ p. refl) (recipients_of topology.hosts views request.sender)))
            (subst (RisesBetween 0 (recipients_of topology.hosts views request.sender)) high (rises_filter (is_recipient topology.hosts views request.sender) 0 (length topology.hosts)));
        mediator_bytes = mediators;
        bytes = each;
        short_mediator = sealed.short_mediator;
        short = sealed.short;
      }
