-- The example's reading is one.
use Rattle.std.proofs.Common.{◌≡◌, ℕ, zero, suc, List, true, false, nat_eq, ne_eqb, Contains, [], ◌∷◌, Option, Some, None, inl, inr, refl, sym, ap, ◌∙◌, subst, arith}
use Rattle.std.specs.Prelude.{slice_get}
use Rattle.std.proofs.lemmas.Bool.{cases_Bool, and_parts, and_from, not-true, not_from_false, eqb-true}
use Rattle.std.proofs.lemmas.Option.{same_Some, none-some}
use Rattle.ledger_model.specs.Terms.{Act, Action, Create, Exercise, Fetch, Path, instance_of}
use Rattle.ledger_model.specs.Forest.{Forest, NoRoots, Root, acts, project, trees_of, root_trees}
use Rattle.canton_model.specs.Example
use Rattle.canton_model.specs.Log.{Request}
use Rattle.ledger_model.specs.Opening.{OpenedView, Shown, roots_in}
use Rattle.canton_model.specs.Reading.{shown_to, paths_seen, paths_confirmed, sees_some_view}
use Rattle.canton_model.specs.Inbox.{is_informed, confirms_signatory}
use Rattle.ledger_model.specs.Conformance.{body_of, Possible, Continues, AreRest, Conforms}
use Rattle.canton_model.specs.Genuine.{TellsOf, IsPlaced, IsCovered, IsRootCovered, IsReading, FramedFacts, IsSound}
use Rattle.ledger_model.proofs.Lists.{In, in_from_Contains}

away : (p : ℕ) → nat_eq (suc p) 0 ≡ false
away p = ne_eqb (suc p) 0 (λ e. omega arith)

one_tree : (tree : Act × Forest Act) → In tree ((Example.note, NoRoots) ∷ []) → (Example.note, NoRoots) ≡ tree
one_tree tree (inl same) = same
one_tree tree (inr none) = absurd none

one_path : (path : Path) → In path ((0 ∷ []) ∷ []) → (0 ∷ []) ≡ path
one_path path (inl same) = same
one_path path (inr none) = absurd none

module _ (q : Request) (alone : q.confirming ≡ 0 ∷ []) where
  is_shown : shown_to Example.reading 0 q ≡ Some Example.all_shown
  is_shown = elim (cases_Bool (nat_eq 0 q.sender)) [ inl b ↦ rw b refl | inr b ↦ rw b refl ]

  hidden_away : (p : ℕ) → shown_to Example.reading (suc p) q ≡ None
  hidden_away p = elim (cases_Bool (nat_eq (suc p) q.sender)) [ inl b ↦ rw (b, away p) refl | inr b ↦ rw (b, away p) refl ]

  unconfirmed : (p : ℕ) (path : Path) → Contains (paths_confirmed Example.reading (suc p) q) path → ⊥
  unconfirmed p path h = none_in path (rw (away p) at h)
    where
      none_in : (path : Path) → Contains [] path → ⊥
      none_in path h = in_from_Contains [] path h

  -- what is shown to anybody is that
  only : (P : ℕ → Shown → Type 0) → P 0 Example.all_shown → (p : ℕ) (shown : Shown) → shown_to Example.reading p q ≡ Some shown → P p shown
  only P h zero shown is = subst (P 0) (same_Some _ shown (sym is_shown ∙ is)) h
  only P h (suc p) shown is = absurd (none-some shown (sym (hidden_away p) ∙ is))

  by_core : (i : ℕ) (a : Act) → In {X = ℕ × Act} (i, a) ((0, Example.note) ∷ []) → slice_get (Example.note ∷ []) i ≡ Some a
  by_core i a (inl same) = subst (λ (x : ℕ × Act). slice_get (Example.note ∷ []) x.0 ≡ Some x.1) same refl
  by_core i a (inr none) = absurd none

  by_view : (view : OpenedView) (i : ℕ) (a : Act) → In view (Example.the_view ∷ []) → In {X = ℕ × Act} (i, a) view.core → slice_get (Example.note ∷ []) i ≡ Some a
  by_view view i a (inl same) k = by_core i a (subst (λ (v : OpenedView). In {X = ℕ × Act} (i, a) v.core) (sym same) k)
  by_view view i a (inr none) k = absurd none

  placed_here : IsPlaced (paths_seen Example.reading 0 q) Example.all_shown
  placed_here =
      record {
        all_seen = λ path h. (Example.the_view, (0, omega arith, refl), one_path path (in_from_Contains ((0 ∷ []) ∷ []) path h));
        numbered = λ view i a h c. by_view view i a (in_from_Contains (Example.the_view ∷ []) view h) (in_from_Contains view.core (i, a) c);
        path_order = (tt, tt);
      }

  viewed_here : (i : ℕ) (a : Act) → slice_get (Example.note ∷ []) i ≡ Some a → (view : OpenedView) × Contains (Example.the_view ∷ []) view × Contains view.core (i, a) × Contains (paths_confirmed Example.reading 0 q) view.path
  viewed_here zero a e = (Example.the_view, (0, omega arith, refl), (0, omega arith, ap (λ (x : Act). (0, x)) (same_Some _ a e)), (0, omega arith, refl))
  viewed_here (suc i) a e = absurd (none-some a e)

  abbrev covered : IsCovered Example.reading q 0 Example.all_shown (Example.note, NoRoots)
  covered =
      record {
        view = Example.the_view;
        is_opened = (0, omega arith, refl);
        is_confirmed = (0, omega arith, refl);
        number = 0;
        in_core = (0, omega arith, refl);
        below = refl;
      }

  root_covered : IsRootCovered Example.reading q 0 Example.all_shown (Example.alice ∷ []) (Example.note, NoRoots)
  root_covered = record { covered = covered; is_first = refl; first = refl; is_root = refl; known = refl }

  blind : (p : ℕ) → sees_some_view Example.reading p q ≡ false → project (is_informed Example.reading p) Example.note_alone ≡ NoRoots
  blind zero h = cc
  blind (suc p) h = rw (away p) refl

  guarded : (a : Act) (p : ℕ) → confirms_signatory Example.reading p a ≡ true → (path : Path) × Contains (paths_confirmed Example.reading p q) path
  guarded a zero h = (0 ∷ [], (0, omega arith, refl))
  guarded a (suc p) h = let no : false ≡ true = rw (away p) at h in cc

  pub example_sound : IsSound Example.reading q
  example_sound =
      record {
        transaction = record { requesters = Example.alice ∷ []; ledger_time = 0; roots = Example.note_alone };
        is_whole = refl;
        has_roles = λ a h. refl;
        opens = λ p shown is. only (λ n s. s.roots ≡ project (is_informed Example.reading n) Example.note_alone) refl p shown is;
        hidden = blind;
        confirmed = λ a h. (0, refl);
        guarded = λ a p h signs. guarded a p signs;
        viewed = λ p shown i a is e signs.
            only (λ n s. slice_get (acts s.roots) i ≡ Some a → (view : OpenedView) × Contains s.views view × Contains view.core (i, a) × Contains (paths_confirmed Example.reading n q) view.path)
            (λ e'. viewed_here i a e') p shown is e;
        tells = λ p shown is.
            only (λ n s. TellsOf (record { requesters = Example.alice ∷ []; ledger_time = 0; roots = Example.note_alone }) s)
            (record { ledger_time = refl; requesters = λ names e. sym (same_Some _ names e) }) p shown is;
        covers = λ p shown tree is h signs.
            only (λ n s. IsCovered Example.reading q n s tree)
            (subst (IsCovered Example.reading q 0 Example.all_shown) (one_tree tree (in_from_Contains (trees_of Example.note_alone) tree h)) covered) p shown is;
        roots = λ p shown tree is h signs.
            only (λ n s. IsRootCovered Example.reading q n s (Example.alice ∷ []) tree)
            (subst (IsRootCovered Example.reading q 0 Example.all_shown (Example.alice ∷ [])) (one_tree tree (in_from_Contains (root_trees Example.note_alone) tree h)) root_covered) p shown is;
      }

  -- only the note is opened
  pub opened_note : (p : ℕ) (a : Act) (o : Option Shown) → shown_to Example.reading p q ≡ o → In a (acts (roots_in o)) → instance_of a.action ≡ instance_of Example.note.action
  opened_note p a None e h = absurd h
  opened_note p a (Some s) e h = only (λ n x. In a (acts x.roots) → instance_of a.action ≡ instance_of Example.note.action) one_note p s e h
    where
      one_note : In a (Example.note ∷ []) → instance_of a.action ≡ instance_of Example.note.action
      one_note (inl same) = ap (λ (x : Act). instance_of x.action) (sym same)
      one_note (inr none) = absurd none

  asks : (p : ℕ) → In p (0 ∷ []) → (path : Path) × Contains (paths_confirmed Example.reading p q) path
  asks p (inl same) = subst (λ (n : ℕ). (path : Path) × Contains (paths_confirmed Example.reading n q) path) same (0 ∷ [], (0, omega arith, refl))
  asks p (inr none) = absurd none

  asked : (p : ℕ) (path : Path) → Contains (paths_confirmed Example.reading p q) path → Contains q.confirming p
  asked zero path h = rw alone (0, omega arith, refl)
  asked (suc p) path h = absurd (unconfirmed p path h)

  sees : (p : ℕ) (path : Path) → Contains (paths_confirmed Example.reading p q) path → Contains (paths_seen Example.reading p q) path
  sees zero path h = h
  sees (suc p) path h = absurd (unconfirmed p path h)

  pub example_framed : FramedFacts Example.reading q
  example_framed =
      record {
        some_view = (0 ∷ [], (0, omega arith, refl));
        confirmed = λ path h. (0, h);
        sees = sees;
        confirming_order = rw alone (λ k lt. absurd (omega (arith, lt)));
        asked = asked;
        answers = λ p h. asks p (in_from_Contains (0 ∷ []) p (rw alone at h));
        placed = λ p shown is. only (λ n s. IsPlaced (paths_seen Example.reading n q) s) placed_here p shown is;
      }

pub asks_first : (ps : List ℕ) → Example.is_first_alone ps ≡ true → ps ≡ 0 ∷ []
asks_first [] h = cc
asks_first (p ∷ []) h = ap (λ (x : ℕ). x ∷ []) (eqb-true p 0 h)
asks_first (p ∷ q ∷ rest) h = cc

-- what conforms
plain_possible : (a : Action) → Example.is_exercise a ≡ false → Possible Example.language a × AreRest Example.language (body_of a) [] NoRoots
plain_possible (Create id instance) h = ((refl, refl), tt)
plain_possible (Exercise id salt instance choice args actors consuming result) h = cc
plain_possible (Fetch id salt instance actors) h = (refl, tt)

possible_plain : (a : Action) → Possible Example.language a → Example.is_exercise a ≡ false
possible_plain (Create id instance) h = refl
possible_plain (Exercise id salt instance choice args actors consuming result) h = let no' = h.1 in cc
possible_plain (Fetch id salt instance actors) h = refl

no_children : (a child : Action) → Possible Example.language a → Continues Example.language (body_of a) [] child → ⊥
no_children (Create id instance) child h c = c
no_children (Exercise id salt instance choice args actors consuming result) child h c = let no' = h.1 in cc
no_children (Fetch id salt instance actors) child h c = c

conforms : (roots : Forest Act) → Example.is_listed roots ≡ true → Conforms Example.language roots
conforms NoRoots h = tt
conforms (Root act NoRoots others) h =
    let parts = and_parts _ _ h in
    let here = plain_possible act.action (not-true _ parts.0) in
    (here.0, here.1, conforms others parts.1)
conforms (Root act (Root child below next) others) h = cc

listed : (roots : Forest Act) → Conforms Example.language roots → Example.is_listed roots ≡ true
listed NoRoots h = refl
listed (Root act NoRoots others) h = and_from _ _ (not_from_false _ (possible_plain act.action h.0)) (listed others h.2)
listed (Root act (Root child below next) others) h = absurd (no_children act.action child.action h.0 h.1.0)

pub example_is_reading : IsReading Example.reading
example_is_reading = record { confirms_hosted = λ p name h. h; conforms_is = λ roots. (conforms roots, listed roots); framed_facts = λ q h. example_framed q (asks_first q.confirming h) }
