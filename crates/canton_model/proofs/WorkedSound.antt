-- The worked requests are framed, and sound.
use Rattle.std.proofs.Common.{◌≡◌, ℕ, zero, suc, Bool, true, false, List, [], ◌∷◌, map, Option, Some, None, not, refl, sym, ap, ◌∙◌, subst, inl, inr, arith}
use Rattle.std.specs.Prelude.{nat_eq, slice_get, Contains, if◌then◌else◌}
use Rattle.std.specs.List.{list_any}
use Rattle.std.specs.List.Sorted.{IsStrictlyIncreasing}
use Rattle.std.proofs.lemmas.Bool.{cases_Bool, and_parts, or_cases, eqb-true}
use Rattle.std.proofs.lemmas.Option.{same_Some, none-some}
use Rattle.std.proofs.lemmas.Slice.Eq.{bytes_eq-Decides}
use Rattle.ledger_model.specs.Terms.{Act, PartySet, Path, instance_of}
use Rattle.ledger_model.specs.Forest.{Forest, NoRoots, Root, acts, project, trees_of, root_trees}
use Rattle.ledger_model.specs.Opening.{Transaction, OpenedView, Shown, roots_in, views_in, shown_of}
use Rattle.canton_model.specs.Log.{Request}
use Rattle.canton_model.specs.Reading.{Missing, is_recipient, shown_in_offer, shown_to, view_paths, paths_seen, paths_confirmed, sees_some_view}
use Rattle.canton_model.specs.Inbox.{is_informed, confirms_signatory}
use Rattle.canton_model.specs.Genuine.{TellsOf, IsPlaced, IsCovered, IsRootCovered, FramedFacts, IsSound}
use Rattle.canton_model.specs.Worked.{alice, bank, carol, contract, create, first_field, hosts, is_empty, is_framed, is_misstated, is_that, issue, language, name_of, of_alice, opening, reading, request_for, transfer, transfer_act}
use Rattle.ledger_model.proofs.Lists.{In, in_from_Contains, contains_from_In, at_in}
use Rattle.ledger_model.proofs.Projected.{in_project}
use Rattle.ledger_model.proofs.Openings.{opens_projection, numbered_shown}
use Rattle.ledger_model.proofs.PathOrder.{told_of}
use Rattle.canton_model.proofs.Approved.{root_in_tree, root_tree_in}
use Rattle.canton_model.proofs.RejectionChecks.{from_map}

-- Bank is hosted by the first participant alone
bank_is_first : (p : ℕ) → list_any (hosts p) (bank ∷ []) ≡ true → 0 ≡ p
bank_is_first zero h = refl
bank_is_first (suc zero) h = cc
bank_is_first (suc (suc zero)) h = cc
bank_is_first (suc (suc (suc p))) h = cc

opened_again : (n : ℕ) → is_misstated n ≡ false → (o : Option Shown) → shown_in_offer (opening n o) ≡ o
opened_again n e None = refl
opened_again n e (Some s) = rw e refl

by_opening : (n : ℕ) → is_misstated n ≡ false → (o : Option Shown) (s : Shown) → shown_in_offer (opening n o) ≡ Some s → o ≡ Some s
by_opening n honest o s e = sym (opened_again n honest o) ∙ e

-- what shows views with all these paths has one with each
shows_all : (o : Option Shown) (seen : List Path) → map (λ (view : OpenedView). view.path) (views_in o) ≡ seen → (s : Shown) → o ≡ Some s
    → (path : Path) → Contains seen path → (view : OpenedView) × Contains s.views view × (view.path ≡ path)
shows_all o seen same s is path h =
    let paths : map (λ (view : OpenedView). view.path) s.views ≡ seen = ap (λ (x : Option Shown). map (λ (view : OpenedView). view.path) (views_in x)) (sym is) ∙ same in
    let there : In path (map (λ (view : OpenedView). view.path) s.views) = subst (λ (ps : List Path). In path ps) (sym paths) (in_from_Contains seen path h) in
    let w = from_map (λ (view : OpenedView). view.path) s.views path there in (w.0, contains_from_In s.views w.0 w.1, w.2)

-- a request whose sender keeps the rules
module _ (q : Request) (t : Transaction) (sender : ℕ)
    (whole : reading.whole q ≡ Some t)
    (offers : (p : ℕ) (s : Shown) → shown_in_offer (reading.offered p q) ≡ Some s → shown_of language (hosts p) (nat_eq p sender) (name_of sender) t ≡ Some s)
  where
    by_rules : (p : ℕ) (s : Shown) → shown_to reading p q ≡ Some s → shown_of language (hosts p) (nat_eq p sender) (name_of sender) t ≡ Some s
    by_rules p s is =
        elim (cases_Bool (is_recipient reading p q)) [
          | inl here ↦ let open' : shown_in_offer (reading.offered p q) ≡ Some s = rw here at is in offers p s open'
          | inr away ↦ let no : None ≡ Some s = rw away at is in absurd (none-some s no)
        ]

    placed : ((p : ℕ) (s : Shown) → shown_to reading p q ≡ Some s → (path : Path) → Contains (paths_seen reading p q) path
        → (view : OpenedView) × Contains s.views view × (view.path ≡ path)) → (p : ℕ) (s : Shown) → shown_to reading p q ≡ Some s
        → IsPlaced (paths_seen reading p q) s
    placed all_seen p s is =
        record {
          all_seen = all_seen p s is;
          numbered = λ view i a h c. numbered_shown language (hosts p) (nat_eq p sender) (name_of sender) t s view i a (by_rules p s is) h c;
          path_order = (told_of language (hosts p) (nat_eq p sender) (name_of sender) t s (by_rules p s is)).2;
        }

    tells : (p : ℕ) (s : Shown) → shown_to reading p q ≡ Some s → TellsOf t s
    tells p s is =
        let told = told_of language (hosts p) (nat_eq p sender) (name_of sender) t s (by_rules p s is) in
        record { ledger_time = told.0; requesters = told.1 }

    opens : (p : ℕ) (s : Shown) → shown_to reading p q ≡ Some s → s.roots ≡ project (is_informed reading p) t.roots
    opens p s is = sym (ap roots_in (by_rules p s is)) ∙ opens_projection language (hosts p) (nat_eq p sender) (name_of sender) t

    module _ (to_bank : Shown)
        (is_to_bank : shown_to reading 0 q ≡ Some to_bank)
        (of_bank : (a : Act) → In a (acts t.roots) → first_field (instance_of a.action).fields ≡ bank ∷ [])
        (hidden : (p : ℕ) → sees_some_view reading p q ≡ false → project (is_informed reading p) t.roots ≡ NoRoots)
        (first_path : Contains (paths_confirmed reading 0 q) (0 ∷ []))
        (viewed : (i : ℕ) (a : Act) → slice_get (acts to_bank.roots) i ≡ Some a → (view : OpenedView) × Contains to_bank.views view × Contains view.core (i, a) × Contains (paths_confirmed reading 0 q) view.path)
        (covers : (tree : Act × Forest Act) → In tree (trees_of t.roots) → IsCovered reading q 0 to_bank tree)
        (root_covers : (tree : Act × Forest Act) → In tree (root_trees t.roots) → IsRootCovered reading q 0 to_bank t.requesters tree)
      where
        -- who confirms a signatory is Bank's participant
        first_signs : (p : ℕ) (a : Act) → In a (acts t.roots) → confirms_signatory reading p a ≡ true → 0 ≡ p
        first_signs p a h signs = bank_is_first p (sym (ap (list_any (hosts p)) (of_bank a h)) ∙ signs)

        -- what is shown to it
        at_bank : (P : ℕ → Shown → Type 0) → P 0 to_bank → (p : ℕ) → 0 ≡ p → (s : Shown) → shown_to reading p q ≡ Some s → P p s
        at_bank P h p e = subst (λ (n : ℕ). (s : Shown) → shown_to reading n q ≡ Some s → P n s) e (λ s is. subst (P 0) (same_Some to_bank s (sym is_to_bank ∙ is)) h)

        facts : IsSound reading q
        facts =
            record {
              transaction = t;
              is_whole = whole;
              has_roles = λ a h. ap (λ (names : PartySet). not (is_empty names)) (of_bank a (in_from_Contains (acts t.roots) a h));
              opens = opens;
              hidden = hidden;
              confirmed = λ a h. (0, ap (list_any (hosts 0)) (of_bank a (in_from_Contains (acts t.roots) a h)));
              guarded = λ a p h signs.
                  let e = first_signs p a (in_from_Contains (acts t.roots) a h) signs in
                  (0 ∷ [], subst (λ (n : ℕ). Contains (paths_confirmed reading n q) (0 ∷ [])) e first_path);
              viewed = λ p s i a is e signs.
                  let inside : In a (acts t.roots) =
                  in_project (is_informed reading p) t.roots a (subst (λ (f : Forest Act). In a (acts f)) (opens p s is) (at_in (acts s.roots) i a e)) in
                  at_bank (λ n x. slice_get (acts x.roots) i ≡ Some a → (view : OpenedView) × Contains x.views view × Contains view.core (i, a) × Contains (paths_confirmed reading n q) view.path)
                  (λ e'. viewed i a e') p (first_signs p a inside signs) s is e;
              tells = tells;
              covers = λ p s tree is h signs.
                  let there = in_from_Contains (trees_of t.roots) tree h in
                  at_bank (λ n x. IsCovered reading q n x tree) (covers tree there) p (first_signs p tree.0 (root_in_tree t.roots tree there) signs) s is;
              roots = λ p s tree is h signs.
                  let there = in_from_Contains (root_trees t.roots) tree h in
                  at_bank (λ n x. IsRootCovered reading q n x t.requesters tree) (root_covers tree there) p (first_signs p tree.0 (root_in_tree t.roots tree (root_tree_in t.roots tree there)) signs) s is;
            }

-- the issue
abbrev issued : Act
issued = create 1 (contract bank alice)

abbrev issued_view : OpenedView
issued_view = record { path = 0 ∷ []; informees = alice ∷ bank ∷ []; confirmers = bank ∷ []; core = (0, issued) ∷ [] }

abbrev issued_shown : Shown
issued_shown = record { sender = name_of 0; ledger_time = 0; requesters = Some (bank ∷ []); roots = issue.roots; views = issued_view ∷ [] }

abbrev issue_request : Request
issue_request = request_for 0 1

abbrev issue_covered : IsCovered reading issue_request 0 issued_shown (issued, NoRoots)
issue_covered = record { view = issued_view; is_opened = (0, omega arith, refl); is_confirmed = (0, omega arith, refl); number = 0; in_core = (0, omega arith, refl); below = refl }

issue_offers : (p : ℕ) (s : Shown) → shown_in_offer (reading.offered p issue_request) ≡ Some s
    → shown_of language (hosts p) (nat_eq p 0) (name_of 0) issue ≡ Some s
issue_offers p s e = by_opening 1 refl (shown_of language (hosts p) (nat_eq p 0) (name_of 0) issue) s e

issue_sound : IsSound reading issue_request
issue_sound =
    facts issue_request issue 0 refl issue_offers issued_shown refl of_bank hidden (0, omega arith, refl) viewed covers root_covers
  where
    of_bank : (a : Act) → In a (acts issue.roots) → first_field (instance_of a.action).fields ≡ bank ∷ []
    of_bank a (inl same) = subst (λ (x : Act). first_field (instance_of x.action).fields ≡ bank ∷ []) same refl
    of_bank a (inr none) = absurd none

    hidden : (p : ℕ) → sees_some_view reading p issue_request ≡ false → project (is_informed reading p) issue.roots ≡ NoRoots
    hidden zero h = cc
    hidden (suc zero) h = cc
    hidden (suc (suc zero)) h = refl
    hidden (suc (suc (suc p))) h = refl

    viewed : (i : ℕ) (a : Act) → slice_get (issued ∷ []) i ≡ Some a → (view : OpenedView) × Contains (issued_view ∷ []) view × Contains view.core (i, a) × Contains (paths_confirmed reading 0 issue_request) view.path
    viewed zero a e = (issued_view, (0, omega arith, refl), (0, omega arith, ap (λ (x : Act). (0, x)) (same_Some _ a e)), (0, omega arith, refl))
    viewed (suc i) a e = absurd (none-some a e)

    covers : (tree : Act × Forest Act) → In tree (trees_of issue.roots) → IsCovered reading issue_request 0 issued_shown tree
    covers tree (inl same) = subst (IsCovered reading issue_request 0 issued_shown) same issue_covered
    covers tree (inr none) = absurd none

    root_covers : (tree : Act × Forest Act) → In tree (root_trees issue.roots) → IsRootCovered reading issue_request 0 issued_shown (bank ∷ []) tree
    root_covers tree (inl same) =
        subst (IsRootCovered reading issue_request 0 issued_shown (bank ∷ [])) same (record { covered = issue_covered; is_first = refl; first = refl; is_root = refl; known = refl })
    root_covers tree (inr none) = absurd none

issue_framed : FramedFacts reading issue_request
issue_framed =
    record {
      some_view = (0 ∷ [], (0, omega arith, refl));
      confirmed = λ path h. (0, h);
      sees = sees;
      confirming_order = λ k lt. absurd (omega (arith, lt));
      asked = asked;
      answers = λ p h. answers p (in_from_Contains (0 ∷ []) p h);
      placed = placed issue_request issue 0 refl issue_offers shows;
    }
  where
    shows : (p : ℕ) (s : Shown) → shown_to reading p issue_request ≡ Some s → (path : Path) → Contains (paths_seen reading p issue_request) path
        → (view : OpenedView) × Contains s.views view × (view.path ≡ path)
    shows zero s is path h = shows_all (shown_to reading 0 issue_request) (paths_seen reading 0 issue_request) refl s is path h
    shows (suc zero) s is path h = shows_all (shown_to reading 1 issue_request) (paths_seen reading 1 issue_request) refl s is path h
    shows (suc (suc zero)) s is path h = absurd (in_from_Contains [] path h)
    shows (suc (suc (suc p))) s is path h = absurd (in_from_Contains [] path h)

    sees : (p : ℕ) (path : Path) → Contains (paths_confirmed reading p issue_request) path → Contains (paths_seen reading p issue_request) path
    sees zero path h = h
    sees (suc zero) path h = absurd (in_from_Contains [] path h)
    sees (suc (suc zero)) path h = absurd (in_from_Contains [] path h)
    sees (suc (suc (suc p))) path h = absurd (in_from_Contains [] path h)

    asked : (p : ℕ) (path : Path) → Contains (paths_confirmed reading p issue_request) path → Contains (0 ∷ []) p
    asked zero path h = (0, omega arith, refl)
    asked (suc zero) path h = absurd (in_from_Contains [] path h)
    asked (suc (suc zero)) path h = absurd (in_from_Contains [] path h)
    asked (suc (suc (suc p))) path h = absurd (in_from_Contains [] path h)

    answers : (p : ℕ) → In p (0 ∷ []) → (path : Path) × Contains (paths_confirmed reading p issue_request) path
    answers p (inl same) = subst (λ (n : ℕ). (path : Path) × Contains (paths_confirmed reading n issue_request) path) same (0 ∷ [], (0, omega arith, refl))
    answers p (inr none) = absurd none

-- the transfers
abbrev confirmed_by : ℕ → List Path
confirmed_by zero = (0 ∷ []) ∷ (0 ∷ 0 ∷ []) ∷ []
confirmed_by (suc zero) = (0 ∷ []) ∷ []
confirmed_by (suc (suc p)) = []

abbrev seen_by : ℕ → List Path
seen_by zero = (0 ∷ []) ∷ (0 ∷ 0 ∷ []) ∷ []
seen_by (suc zero) = (0 ∷ []) ∷ (0 ∷ 0 ∷ []) ∷ []
seen_by (suc (suc zero)) = (0 ∷ 0 ∷ []) ∷ []
seen_by (suc (suc (suc p))) = []

module _ (q : Request) (seed : ℕ) where
  abbrev moved : Transaction
  moved = of_alice (transfer seed NoRoots)

  abbrev made : Act
  made = create seed (contract bank carol)

  abbrev root_view : OpenedView
  root_view = record { path = 0 ∷ []; informees = alice ∷ bank ∷ []; confirmers = alice ∷ bank ∷ []; core = (0, transfer_act seed) ∷ [] }

  abbrev made_view : OpenedView
  made_view = record { path = 0 ∷ 0 ∷ []; informees = bank ∷ carol ∷ []; confirmers = bank ∷ []; core = (1, made) ∷ [] }

  abbrev all_shown : Shown
  all_shown = record { sender = name_of 1; ledger_time = 0; requesters = Some (alice ∷ []); roots = moved.roots; views = root_view ∷ made_view ∷ [] }

  module _ (whole : reading.whole q ≡ Some moved)
      (offers : (p : ℕ) (s : Shown) → shown_in_offer (reading.offered p q) ≡ Some s → shown_of language (hosts p) (nat_eq p 1) (name_of 1) moved ≡ Some s)
      (to_bank : shown_to reading 0 q ≡ Some all_shown)
      (all_paths : view_paths reading q ≡ confirmed_by 0)
      (confirms : (p : ℕ) → paths_confirmed reading p q ≡ confirmed_by p)
      (sees_them : (p : ℕ) → paths_seen reading p q ≡ seen_by p)
      (shows : (p : ℕ) (s : Shown) → shown_to reading p q ≡ Some s → (path : Path) → Contains (paths_seen reading p q) path
      → (view : OpenedView) × Contains s.views view × (view.path ≡ path))
      (asks : q.confirming ≡ 0 ∷ 1 ∷ [])
    where
      confirms_first : Contains (paths_confirmed reading 0 q) (0 ∷ [])
      confirms_first = rw (confirms 0) (0, omega arith, refl)

      confirms_second : Contains (paths_confirmed reading 0 q) (0 ∷ 0 ∷ [])
      confirms_second = rw (confirms 0) (1, omega arith, refl)

      abbrev root_covered : IsCovered reading q 0 all_shown (transfer_act seed, Root made NoRoots NoRoots)
      root_covered = record { view = root_view; is_opened = (0, omega arith, refl); is_confirmed = confirms_first; number = 0; in_core = (0, omega arith, refl); below = refl }

      abbrev made_covered : IsCovered reading q 0 all_shown (made, NoRoots)
      made_covered = record { view = made_view; is_opened = (1, omega arith, refl); is_confirmed = confirms_second; number = 1; in_core = (0, omega arith, refl); below = refl }

      pub transfer_sound : IsSound reading q
      transfer_sound = facts q moved 1 whole offers all_shown to_bank of_bank hidden confirms_first viewed covers root_covers
        where
          of_bank : (a : Act) → In a (acts moved.roots) → first_field (instance_of a.action).fields ≡ bank ∷ []
          of_bank a (inl same) = subst (λ (x : Act). first_field (instance_of x.action).fields ≡ bank ∷ []) same refl
          of_bank a (inr (inl same)) = subst (λ (x : Act). first_field (instance_of x.action).fields ≡ bank ∷ []) same refl
          of_bank a (inr (inr none)) = absurd none

          blind : (paths : List Path) (path : Path) (more : List Path) → paths ≡ path ∷ more → list_any (λ (x : Path). true) paths ≡ false → ⊥
          blind [] path more e h = cc
          blind (x ∷ xs) path more e h = cc

          hidden : (p : ℕ) → sees_some_view reading p q ≡ false → project (is_informed reading p) moved.roots ≡ NoRoots
          hidden zero h = absurd (blind _ _ _ (sees_them 0) h)
          hidden (suc zero) h = absurd (blind _ _ _ (sees_them 1) h)
          hidden (suc (suc zero)) h = absurd (blind _ _ _ (sees_them 2) h)
          hidden (suc (suc (suc p))) h = refl

          viewed : (i : ℕ) (a : Act) → slice_get (transfer_act seed ∷ made ∷ []) i ≡ Some a → (view : OpenedView) × Contains (root_view ∷ made_view ∷ []) view × Contains view.core (i, a) × Contains (paths_confirmed reading 0 q) view.path
          viewed zero a e = (root_view, (0, omega arith, refl), (0, omega arith, ap (λ (x : Act). (0, x)) (same_Some _ a e)), confirms_first)
          viewed (suc zero) a e = (made_view, (1, omega arith, refl), (0, omega arith, ap (λ (x : Act). (1, x)) (same_Some _ a e)), confirms_second)
          viewed (suc (suc i)) a e = absurd (none-some a e)

          covers : (tree : Act × Forest Act) → In tree (trees_of moved.roots) → IsCovered reading q 0 all_shown tree
          covers tree (inl same) = subst (IsCovered reading q 0 all_shown) same root_covered
          covers tree (inr (inl same)) = subst (IsCovered reading q 0 all_shown) same made_covered
          covers tree (inr (inr none)) = absurd none

          root_covers : (tree : Act × Forest Act) → In tree (root_trees moved.roots) → IsRootCovered reading q 0 all_shown (alice ∷ []) tree
          root_covers tree (inl same) =
              subst (IsRootCovered reading q 0 all_shown (alice ∷ [])) same (record { covered = root_covered; is_first = refl; first = refl; is_root = refl; known = refl })
          root_covers tree (inr none) = absurd none

      pub transfer_framed : FramedFacts reading q
      transfer_framed =
          record {
            some_view = (0 ∷ [], rw all_paths (0, omega arith, refl));
            confirmed = λ path h. (0, rw (confirms 0) (subst (λ (ps : List Path). Contains ps path) all_paths h));
            sees = λ p path h. subst (λ (ps : List Path). Contains ps path) (sym (sees_them p)) (seen p path (subst (λ (ps : List Path). Contains ps path) (confirms p) h));
            confirming_order = rw asks two_rise;
            asked = λ p path h. rw asks (asked p path (subst (λ (ps : List Path). Contains ps path) (confirms p) h));
            answers = λ p h. answers p (in_from_Contains (0 ∷ 1 ∷ []) p (rw asks at h));
            placed = placed q moved 1 whole offers shows;
          }
        where
          two_rise : IsStrictlyIncreasing (0 ∷ 1 ∷ [])
          two_rise zero lt = omega arith
          two_rise (suc k) lt = absurd (omega (arith, lt))

          seen : (p : ℕ) (path : Path) → Contains (confirmed_by p) path → Contains (seen_by p) path
          seen zero path h = h
          seen (suc zero) path h = contains_from_In ((0 ∷ []) ∷ (0 ∷ 0 ∷ []) ∷ []) path (inl_of path (in_from_Contains ((0 ∷ []) ∷ []) path h))
            where
              inl_of : (path : Path) → In path ((0 ∷ []) ∷ []) → In path ((0 ∷ []) ∷ (0 ∷ 0 ∷ []) ∷ [])
              inl_of path (inl same) = inl same
              inl_of path (inr none) = absurd none
          seen (suc (suc p)) path h = absurd (in_from_Contains [] path h)

          asked : (p : ℕ) (path : Path) → Contains (confirmed_by p) path → Contains (0 ∷ 1 ∷ []) p
          asked zero path h = (0, omega arith, refl)
          asked (suc zero) path h = (1, omega arith, refl)
          asked (suc (suc p)) path h = absurd (in_from_Contains [] path h)

          answers : (p : ℕ) → In p (0 ∷ 1 ∷ []) → (path : Path) × Contains (paths_confirmed reading p q) path
          answers p (inl same) = subst (λ (n : ℕ). (path : Path) × Contains (paths_confirmed reading n q) path) same (0 ∷ [], confirms_first)
          answers p (inr (inl same)) = subst (λ (n : ℕ). (path : Path) × Contains (paths_confirmed reading n q) path) same (0 ∷ [], rw (confirms 1) (0, omega arith, refl))
          answers p (inr (inr none)) = absurd none

-- the two transfers
confirmed_2 : (p : ℕ) → paths_confirmed reading p (request_for 1 2) ≡ confirmed_by p
confirmed_2 zero = refl
confirmed_2 (suc zero) = refl
confirmed_2 (suc (suc zero)) = refl
confirmed_2 (suc (suc (suc p))) = refl

seen_2 : (p : ℕ) → paths_seen reading p (request_for 1 2) ≡ seen_by p
seen_2 zero = refl
seen_2 (suc zero) = refl
seen_2 (suc (suc zero)) = refl
seen_2 (suc (suc (suc p))) = refl

shows_2 : (p : ℕ) (s : Shown) → shown_to reading p (request_for 1 2) ≡ Some s → (path : Path) → Contains (paths_seen reading p (request_for 1 2)) path
    → (view : OpenedView) × Contains s.views view × (view.path ≡ path)
shows_2 zero s is path h = shows_all (shown_to reading 0 (request_for 1 2)) (paths_seen reading 0 (request_for 1 2)) refl s is path h
shows_2 (suc zero) s is path h = shows_all (shown_to reading 1 (request_for 1 2)) (paths_seen reading 1 (request_for 1 2)) refl s is path h
shows_2 (suc (suc zero)) s is path h = shows_all (shown_to reading 2 (request_for 1 2)) (paths_seen reading 2 (request_for 1 2)) refl s is path h
shows_2 (suc (suc (suc p))) s is path h = absurd (in_from_Contains [] path h)

offers_2 : (p : ℕ) (s : Shown) → shown_in_offer (reading.offered p (request_for 1 2)) ≡ Some s
    → shown_of language (hosts p) (nat_eq p 1) (name_of 1) (of_alice (transfer 2 NoRoots)) ≡ Some s
offers_2 p s e = by_opening 2 refl (shown_of language (hosts p) (nat_eq p 1) (name_of 1) (of_alice (transfer 2 NoRoots))) s e

confirmed_3 : (p : ℕ) → paths_confirmed reading p (request_for 1 3) ≡ confirmed_by p
confirmed_3 zero = refl
confirmed_3 (suc zero) = refl
confirmed_3 (suc (suc zero)) = refl
confirmed_3 (suc (suc (suc p))) = refl

seen_3 : (p : ℕ) → paths_seen reading p (request_for 1 3) ≡ seen_by p
seen_3 zero = refl
seen_3 (suc zero) = refl
seen_3 (suc (suc zero)) = refl
seen_3 (suc (suc (suc p))) = refl

shows_3 : (p : ℕ) (s : Shown) → shown_to reading p (request_for 1 3) ≡ Some s → (path : Path) → Contains (paths_seen reading p (request_for 1 3)) path
    → (view : OpenedView) × Contains s.views view × (view.path ≡ path)
shows_3 zero s is path h = shows_all (shown_to reading 0 (request_for 1 3)) (paths_seen reading 0 (request_for 1 3)) refl s is path h
shows_3 (suc zero) s is path h = shows_all (shown_to reading 1 (request_for 1 3)) (paths_seen reading 1 (request_for 1 3)) refl s is path h
shows_3 (suc (suc zero)) s is path h = shows_all (shown_to reading 2 (request_for 1 3)) (paths_seen reading 2 (request_for 1 3)) refl s is path h
shows_3 (suc (suc (suc p))) s is path h = absurd (in_from_Contains [] path h)

offers_3 : (p : ℕ) (s : Shown) → shown_in_offer (reading.offered p (request_for 1 3)) ≡ Some s
    → shown_of language (hosts p) (nat_eq p 1) (name_of 1) (of_alice (transfer 3 NoRoots)) ≡ Some s
offers_3 p s e = by_opening 3 refl (shown_of language (hosts p) (nat_eq p 1) (name_of 1) (of_alice (transfer 3 NoRoots))) s e

-- the one that is kept from Carol's participant
kept_or_open : (kept : Bool) (o : Option Shown) (s : Shown) → shown_in_offer (if kept then Missing else opening 24 o) ≡ Some s → o ≡ Some s
kept_or_open true o s e = absurd (none-some s e)
kept_or_open false o s e = by_opening 24 refl o s e

confirmed_24 : (p : ℕ) → paths_confirmed reading p (request_for 1 24) ≡ confirmed_by p
confirmed_24 zero = refl
confirmed_24 (suc zero) = refl
confirmed_24 (suc (suc zero)) = refl
confirmed_24 (suc (suc (suc p))) = refl

seen_24 : (p : ℕ) → paths_seen reading p (request_for 1 24) ≡ seen_by p
seen_24 zero = refl
seen_24 (suc zero) = refl
seen_24 (suc (suc zero)) = refl
seen_24 (suc (suc (suc p))) = refl

shows_24 : (p : ℕ) (s : Shown) → shown_to reading p (request_for 1 24) ≡ Some s → (path : Path) → Contains (paths_seen reading p (request_for 1 24)) path
    → (view : OpenedView) × Contains s.views view × (view.path ≡ path)
shows_24 zero s is path h = shows_all (shown_to reading 0 (request_for 1 24)) (paths_seen reading 0 (request_for 1 24)) refl s is path h
shows_24 (suc zero) s is path h = shows_all (shown_to reading 1 (request_for 1 24)) (paths_seen reading 1 (request_for 1 24)) refl s is path h
shows_24 (suc (suc zero)) s is path h = absurd (none-some s is)
shows_24 (suc (suc (suc p))) s is path h = absurd (in_from_Contains [] path h)

offers_24 : (p : ℕ) (s : Shown) → shown_in_offer (reading.offered p (request_for 1 24)) ≡ Some s
    → shown_of language (hosts p) (nat_eq p 1) (name_of 1) (of_alice (transfer 24 NoRoots)) ≡ Some s
offers_24 p s e = kept_or_open (nat_eq p 2) (shown_of language (hosts p) (nat_eq p 1) (name_of 1) (of_alice (transfer 24 NoRoots))) s e

-- only these are framed
empty_is : {X : Type 0} (xs : List X) → is_empty xs ≡ true → [] ≡ xs
empty_is [] h = refl
empty_is (x ∷ xs) h = cc

that_is : (sender n : ℕ) (q : Request) → is_that (request_for sender n) q ≡ true → request_for sender n ≡ q
that_is sender n q h =
    let a = and_parts _ _ h in
    let b = and_parts _ _ a.1 in
    let c = and_parts _ _ b.1 in
    let d = and_parts _ _ c.1 in
    let sender_is : sender ≡ q.sender = sym (eqb-true q.sender sender a.0) in
    let command_is : n ∷ [] ≡ q.command = sym ((bytes_eq-Decides q.command (n ∷ [])).0 b.0) in
    let confirming_is = sym ((bytes_eq-Decides q.confirming (request_for sender n).confirming).0 c.0) in
    let mediator_is = empty_is q.mediator d.0 in
    let envelopes_is = empty_is q.envelopes d.1 in
    λ i. record { sender = sender_is i; command = command_is i; confirming = confirming_is i; mediator = mediator_is i; envelopes = envelopes_is i }

-- a fact of each
pub each_of : (P : Request → Type 0) → P (request_for 0 1) → P (request_for 1 2) → P (request_for 1 3) → P (request_for 1 24) → (q : Request)
    → is_framed q ≡ true → P q
each_of P a b c d q h =
    elim (or_cases _ _ h) [
      | inl first ↦ subst P (that_is 0 1 q first) a
      | inr more ↦ elim (or_cases _ _ more) [
        | inl second ↦ subst P (that_is 1 2 q second) b
        | inr rest ↦ elim (or_cases _ _ rest) [
          | inl third ↦ subst P (that_is 1 3 q third) c
          | inr fourth ↦ subst P (that_is 1 24 q fourth) d
        ]
      ]
    ]

pub worked_framed : (q : Request) → is_framed q ≡ true → FramedFacts reading q
worked_framed =
    each_of (FramedFacts reading) issue_framed
    (transfer_framed (request_for 1 2) 2 refl offers_2 refl refl confirmed_2 seen_2 shows_2 refl)
    (transfer_framed (request_for 1 3) 3 refl offers_3 refl refl confirmed_3 seen_3 shows_3 refl)
    (transfer_framed (request_for 1 24) 24 refl offers_24 refl refl confirmed_24 seen_24 shows_24 refl)

pub worked_sound : (q : Request) → is_framed q ≡ true → IsSound reading q
worked_sound =
    each_of (IsSound reading) issue_sound
    (transfer_sound (request_for 1 2) 2 refl offers_2 refl refl confirmed_2 seen_2 shows_2 refl)
    (transfer_sound (request_for 1 3) 3 refl offers_3 refl refl confirmed_3 seen_3 shows_3 refl)
    (transfer_sound (request_for 1 24) 24 refl offers_24 refl refl confirmed_24 seen_24 shows_24 refl)
