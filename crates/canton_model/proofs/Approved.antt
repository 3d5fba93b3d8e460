-- Approved requests conform and are authorised.
use Rattle.std.proofs.Common.{◌≡◌, ℕ, suc, ◌<◌, ◌≤◌, true, false, List, [], ◌∷◌, take, drop, length, Option, Some, None, refl, sym, ap, ◌∙◌, subst, inl, inr, arith, length-take}
use Rattle.std.specs.Prelude.{slice_get, Contains, Bool, not, is_some, ◌&&◌}
use Rattle.std.specs.List.{list_any, list_all}
use Rattle.std.proofs.lemmas.Bool.{cases_Bool, cases_lt, and_from, and_parts, or_right, both_ways, not-false}
use Rattle.std.proofs.lemmas.Option.{same_Some, none-some, slice_get_past}
use Rattle.ledger_model.specs.Terms.{Act, ParticipantId, PartySet, Path}
use Rattle.canton_model.specs.Log.{Params, Entry, Message, ResponseMessage, Request, Response, ViewVerdict, Approve, Reject, WrongSender, WrongCommon, Decision, Approved, Rejected, TimedOut, request_in, request_at, verdict_of, deadline_of}
use Rattle.canton_model.specs.Timeline.{Moment, timeline_of, is_approval, is_approved_in}
use Rattle.canton_model.specs.Mediation.{scan, scan_request}
use Rattle.ledger_model.specs.Opening.{Transaction, OpenedView, Shown, roots_in}
use Rattle.canton_model.specs.Reading.{Reading, Offer, Mismatch, Missing, Open, shown_to, is_recipient, sees_some_view, paths_seen, paths_confirmed, view_paths}
use Rattle.canton_model.specs.Ledger.{VerdictFits, FitsIfVerdict, commit_of, read_by, whole_at, is_withheld, is_unopened}
use Rattle.canton_model.specs.Inbox.{Item, notice_of, item_time, inbox, status_in_inbox, is_locked_in_inbox, confirms_signatory, is_informed, project_whole}
use Rattle.canton_model.specs.Checks.{Check, first_shown, checks, view_at, is_from, is_well_split, verdict_on_found, verdict_on_offer, verdicts_on, verdicts_owed, is_requested}
use Rattle.canton_model.specs.Genuine.{ResponseFits, FitsIfResponse, Genuine, IsSound, IsVouched, IsCovered, IsRootCovered, IsReading, NoCollision}
use Rattle.ledger_model.proofs.Lists.{In, in_append_left, in_append_right, in_append_cases, in_from_Contains, contains_from_In, in_any, in_at, in_map, in_drop_in, in_take_in}
use Rattle.canton_model.proofs.Decided.{verdict_place, entry_at, verdict_message}
use Rattle.canton_model.proofs.InboxFacts.{slice_get_take, notice_received, OpensApproved}
use Rattle.canton_model.proofs.InboxGrows.{notice_here}
use Rattle.canton_model.proofs.Mediated.{approvals}
use Rattle.canton_model.proofs.Fits.{is_framed_at, framed_of}
use Rattle.canton_model.proofs.FoundViews.{view_at_in, view_at_its_path}
use Rattle.ledger_model.specs.Forest.{Forest, NoRoots, Root, Commit, acts, project, roots_of, trees_of, root_trees}
use Rattle.ledger_model.specs.Language.{roles_of}
use Rattle.ledger_model.specs.Authority.{is_authorised, authorisers_below, is_forest_authorised, is_commit_authorised}
use Rattle.ledger_model.specs.Conformance.{Conforms}

-- a view that is approved shows no reason
none_shown : (cs : List Check) (core : List (ℕ × Act)) → first_shown cs core ≡ Approve → (c : Check) → In c cs → (a : ℕ × Act) → In a core → c.is_shown_by a ≡ false
none_shown [] core h c i a j = absurd i
none_shown (first ∷ rest) core h c i a j =
    elim (cases_Bool (list_any first.is_shown_by core)) [
      | inl shown ↦ let wrong : Reject first.reason _ ≡ Approve = rw shown at h in cc
      | inr none ↦ elim i [
        | inl same ↦ elim (cases_Bool (c.is_shown_by a)) [
          | inl yes' ↦ absurd (both_ways _ none (in_any first.is_shown_by core a j (ap (λ (x : Check). x.is_shown_by a) same ∙ yes')))
          | inr none' ↦ none'
        ]
        | inr t ↦ none_shown rest core (rw none at h) c t a j
      ]
    ]

approval_is : (o : Option Decision) → is_approval o ≡ true → o ≡ Some Approved
approval_is None h = cc
approval_is (Some Approved) h = refl
approval_is (Some (Rejected from view reason)) h = cc
approval_is (Some (TimedOut missing)) h = cc

pub response_message : (params : Params) (reading : Reading) (log : List Entry) (k time : ℕ) (m : Message) (r : Response) → m ≡ ResponseMessage r → FitsIfResponse reading params log k time m → ResponseFits reading params log k time r
response_message params reading log k time m r e h = subst (FitsIfResponse reading params log k time) e h

pub no_request : (params : Params) (log : List Entry) (j : ℕ) (d : Decision) → request_at log j ≡ None → scan params log j ≡ Some d → ⊥
no_request params log j d e h = none-some d (ap (λ (o : Option Request). scan_request j (deadline_of params log j) o (drop (suc j) log)) (sym e) ∙ h)

-- a tree's root is an action of the forest
pub root_in_tree : (f : Forest Act) (tree : Act × Forest Act) → In tree (trees_of f) → In tree.0 (acts f)
root_in_tree NoRoots tree h = absurd h
root_in_tree (Root root below others) tree (inl same) = inl (ap (λ (t : Act × Forest Act). t.0) same)
root_in_tree (Root root below others) tree (inr h) =
    inr (elim (in_append_cases (trees_of below) (trees_of others) tree h) [
      | inl l ↦ in_append_left (acts below) (acts others) tree.0 (root_in_tree below tree l)
      | inr t ↦ in_append_right (acts below) (acts others) tree.0 (root_in_tree others tree t)
    ])

pub root_tree_in : (f : Forest Act) (tree : Act × Forest Act) → In tree (root_trees f) → In tree (trees_of f)
root_tree_in NoRoots tree h = absurd h
root_tree_in (Root root below others) tree (inl same) = inl same
root_tree_in (Root root below others) tree (inr h) = inr (in_append_right (trees_of below) (trees_of others) tree (root_tree_in others tree h))

module _ (reading : Reading) (params : Params) (log : List Entry) (lawful : IsReading reading) (genuine : Genuine reading params log) where
  -- an approved request's verdict is the mediator's
  approved_scan : (k : ℕ) (q : Request) → is_approved_in k (timeline_of log) ≡ true → request_at log k ≡ Some q → (w : ℕ) × (k < w) × (scan params (take w log) k ≡ Some Approved)
  approved_scan k q ok at =
      let place = verdict_place k (timeline_of log) Approved (approval_is _ ok) in
      let entry = entry_at log place.0 place.1 place.3 in
      let brings : verdict_of (entry.0).message ≡ Some place.2 = ap (λ (x : Moment). x.verdict) entry.2 ∙ place.4 in
      let fit : VerdictFits params log place.0 (entry.0).time place.2 =
      subst (FitsIfVerdict params log place.0 (entry.0).time) (verdict_message (entry.0).message place.2 brings) ((genuine.timely).verdicts place.0 entry.0 entry.1) in
      let scanned : scan params (take place.0 log) k ≡ Some Approved =
      ap (scan params (take place.0 log)) (sym place.5) ∙ (fit.decided ∙ ap Some place.6) in
      elim (cases_lt k place.0) [
        | inl lt ↦ (place.0, lt, scanned)
        | inr past ↦
            let out : request_at (take place.0 log) k ≡ None = ap request_in (slice_get_past (take place.0 log) k (short place.0 k past)) in
            absurd (no_request params (take place.0 log) k Approved out scanned)
      ]
    where
      short : (w k : ℕ) → w ≤ k → length (take w log) ≤ k
      short w k le = omega (arith, length-take w log)

  abbrev pub items_of : ℕ → ParticipantId → List Item
  items_of k p = inbox reading p (take (suc k) log)

  -- who confirms a view is a recipient
  pub confirmer_receives : (k : ℕ) (q : Request) (p : ParticipantId) (path : Path) → request_at log k ≡ Some q → In path (paths_confirmed reading p q) → is_recipient reading p q ≡ true
  confirmer_receives k q p path at mine =
      let seen = (framed_of reading params log genuine lawful k q at).sees p path (contains_from_In _ path mine) in
      or_right _ _ (in_any (λ (x : Path). true) (paths_seen reading p q) path (in_from_Contains _ path seen) refl)

  -- each participant that confirms a view of an approved request approved it
  approved_offer : (k : ℕ) (q : Request) (p : ParticipantId) (path : Path) → is_approved_in k (timeline_of log) ≡ true → request_at log k ≡ Some q → In path (paths_confirmed reading p q) → verdict_on_offer reading params p (items_of k p) k q.sender path (reading.offered p q) ≡ Approve
  approved_offer k q p path ok at mine =
      let scanned = approved_scan k q ok at in
      let asked = in_from_Contains q.confirming p ((framed_of reading params log genuine lawful k q at).asked p path (contains_from_In _ path mine)) in
      let at' : request_at (take scanned.0 log) k ≡ Some q = ap request_in (slice_get_take scanned.0 log k scanned.1) ∙ at in
      let approval = approvals params (take scanned.0 log) k q p at' scanned.2 asked in
      let in_log = in_take_in log scanned.0 approval.0 (in_drop_in (suc k) (take scanned.0 log) approval.0 approval.2) in
      let place = in_at log approval.0 in_log in
      let fit = response_message params reading log place.0 (approval.0).time (approval.0).message approval.1 approval.3 (genuine.responses place.0 approval.0 place.1) in
      let says = approval.4 in
      let owed : (approval.1).verdicts ≡ verdicts_on reading params p (items_of k p) k (Some (notice_of reading p q)) =
      fit.owed ∙ (ap (λ (x : ParticipantId). verdicts_owed reading params x (items_of (approval.1).request x) (approval.1).request) says.from
      ∙ (ap (λ (x : ℕ). verdicts_owed reading params p (items_of x p) x) says.to
      ∙ ap (verdicts_on reading params p (items_of k p) k) (notice_here reading params log p genuine.timely k q at ∙ notice_received reading p q (confirmer_receives k q p path at mine)))) in
      let verdict_of_path : Path → ViewVerdict = λ v. record { view = v; verdict = verdict_on_offer reading params p (items_of k p) k q.sender v (reading.offered p q) } in
      let listed : In (verdict_of_path path) (verdicts_on reading params p (items_of k p) k (Some (notice_of reading p q))) = in_map verdict_of_path (paths_confirmed reading p q) path mine in
      says.all (verdict_of_path path) (rw owed listed)

  -- the checks of p on a view of what it is shown at place k
  abbrev pub its_checks : ℕ → ParticipantId → Shown → OpenedView → List Check
  its_checks k p s view =
      checks reading params p (item_time (slice_get (items_of k p) k)) s view (status_in_inbox reading (items_of k p) k) (is_locked_in_inbox reading params (items_of k p) k)

  -- So it was shown that view, and found nothing against it.
  pub record Found (k : ℕ) (q : Request) (p : ParticipantId) (path : Path) : Type 0 where
    pub shown : Shown
    pub is_open : reading.offered p q ≡ Open shown
    pub is_shown : shown_to reading p q ≡ Some shown
    pub view : OpenedView
    pub is_found : view_at path shown.views ≡ Some view
    pub is_in : In view shown.views
    pub has_path : view.path ≡ path
    pub from_sender : is_from reading q.sender shown ≡ true
    pub split_well : is_well_split reading shown view ≡ true
    pub fails : (c : Check) → In c (its_checks k p shown view) → (a : ℕ × Act) → In a view.core → c.is_shown_by a ≡ false

  pub found : (k : ℕ) (q : Request) (p : ParticipantId) (path : Path) → is_approved_in k (timeline_of log) ≡ true → request_at log k ≡ Some q → In path (paths_confirmed reading p q) → Found k q p path
  found k q p path ok at mine = by_offer (reading.offered p q) refl (approved_offer k q p path ok at mine)
    where
      receives : is_recipient reading p q ≡ true
      receives = confirmer_receives k q p path at mine

      by_view : (s : Shown) → reading.offered p q ≡ Open s → (o : Option OpenedView) → view_at path s.views ≡ o → verdict_on_found reading params p (items_of k p) k q.sender s o ≡ Approve → Found k q p path
      by_view s e None is h = cc
      by_view s e (Some view) is h =
          elim (cases_Bool (is_from reading q.sender s)) [
            | inr wrong ↦ let no : Reject WrongSender 0 ≡ Approve = rw wrong at h in cc
            | inl from ↦ elim (cases_Bool (is_well_split reading s view)) [
              | inr wrong ↦ let no : Reject WrongCommon 0 ≡ Approve = rw (from, wrong) at h in cc
              | inl split ↦
                  let nine : first_shown (its_checks k p s view) view.core ≡ Approve = rw (from, split) at h in
                  let there = view_at_in path s.views view is in
                  record {
                    shown = s;
                    is_open = e;
                    is_shown = rw (receives, e) refl;
                    view = view;
                    is_found = is;
                    is_in = there.0;
                    has_path = there.1;
                    from_sender = from;
                    split_well = split;
                    fails = λ c listed a core. none_shown (its_checks k p s view) view.core nine c listed a core;
                  }
            ]
          ]

      by_offer : (o : Offer) → reading.offered p q ≡ o → verdict_on_offer reading params p (items_of k p) k q.sender path o ≡ Approve → Found k q p path
      by_offer Mismatch e h = cc
      by_offer Missing e h = cc
      by_offer (Open s) e h = by_view s e (view_at path s.views) refl h

  -- each view of an approved request is vouched for
  pub vouched : (k : ℕ) (q : Request) → is_approved_in k (timeline_of log) ≡ true → request_at log k ≡ Some q → (path : Path) → Contains (view_paths reading q) path → IsVouched reading q path
  vouched k q ok at path h =
      let p = (framed_of reading params log genuine lawful k q at).confirmed path h in
      let f = found k q p.0 path ok at (in_from_Contains _ path p.1) in
      record {
        participant = p.0;
        is_confirmed = p.1;
        shown = f.shown;
        is_shown = f.is_shown;
        view = f.view;
        is_opened = contains_from_In _ f.view f.is_in;
        has_path = f.has_path;
        from_sender = f.from_sender;
        split_well = f.split_well;
      }

  -- each reason fails of an action of the core of a view that is confirmed
  pub unshown : (k i : ℕ) (q : Request) (p : ParticipantId) (s : Shown) (view : OpenedView) (a : Act) (c : Check) → is_approved_in k (timeline_of log) ≡ true → request_at log k ≡ Some q → shown_to reading p q ≡ Some s → In view s.views → In view.path (paths_confirmed reading p q) → In (i, a) view.core → In c (its_checks k p s view) → c.is_shown_by (i, a) ≡ false
  unshown k i q p s view a c ok at is there mine core listed =
      let f = found k q p view.path ok at mine in
      let same_shown : f.shown ≡ s = same_Some _ _ (sym f.is_shown ∙ is) in
      let order = ((framed_of reading params log genuine lawful k q at).placed p s is).path_order in
      let same_view : f.view ≡ view = same_Some _ _ (sym (subst (λ (x : Shown). view_at view.path x.views ≡ Some f.view) same_shown f.is_found) ∙ view_at_its_path s.views view order there) in
      subst (λ (x : Shown × OpenedView). (c' : Check) → In c' (its_checks k p x.0 x.1) → (b : ℕ × Act) → In b (x.1).core → c'.is_shown_by b ≡ false) (both_same same_shown same_view) f.fails c listed (i, a) core
    where
      both_same : {s s' : Shown} {v v' : OpenedView} → s ≡ s' → v ≡ v' → ◌≡◌ {A = Shown × OpenedView} (s, v) (s', v')
      both_same e f = cc

  module _ (distinct : NoCollision reading log) where
    pub sound_of : (k : ℕ) (q : Request) → is_approved_in k (timeline_of log) ≡ true → request_at log k ≡ Some q → IsSound reading q
    sound_of k q ok at = distinct.sound k q at (is_framed_at reading params log genuine k q at) (vouched k q ok at)

    -- who confirms a signatory of an action of an approved request is shown it
    pub guard_shown : (k : ℕ) (q : Request) (p : ParticipantId) (a : Act) (ok : is_approved_in k (timeline_of log) ≡ true) (at : request_at log k ≡ Some q) → In a (acts ((sound_of k q ok at).transaction).roots) → confirms_signatory reading p a ≡ true → (s : Shown) × (shown_to reading p q ≡ Some s)
    guard_shown k q p a ok at h signs =
        let path = (sound_of k q ok at).guarded a p (contains_from_In _ a h) signs in
        let f = found k q p path.0 ok at (in_from_Contains _ path.0 path.1) in
        (f.shown, f.is_shown)

    -- the checks on a view that covers an action
    passed : (k : ℕ) (q : Request) (p : ParticipantId) (s : Shown) (tree : Act × Forest Act) (c : IsCovered reading q p s tree) → is_approved_in k (timeline_of log) ≡ true → request_at log k ≡ Some q → shown_to reading p q ≡ Some s → (check : Check) → In check (its_checks k p s c.view) → check.is_shown_by (c.number, tree.0) ≡ false
    passed k q p s tree c ok at is check listed =
        unshown k c.number q p s c.view tree.0 check ok at is (in_from_Contains s.views c.view c.is_opened) (in_from_Contains _ (c.view).path c.is_confirmed) (in_from_Contains (c.view).core (c.number, tree.0) c.in_core) listed

    authorised_tree : (k : ℕ) (q : Request) (p : ParticipantId) (s : Shown) (tree : Act × Forest Act) (c : IsCovered reading q p s tree) → is_approved_in k (timeline_of log) ≡ true → request_at log k ≡ Some q → shown_to reading p q ≡ Some s → (list_all (λ (child : Act). is_authorised (roles_of reading.language) (authorisers_below (roles_of reading.language) (tree.0).action) child.action) (roots_of tree.1) ≡ true) × (is_requested (roles_of reading.language) s c.view (c.number, tree.0) ≡ true)
    authorised_tree k q p s tree c ok at is =
        let both = and_parts _ _ (not-false _ (passed k q p s tree c ok at is _ (inr (inr (inr (inr (inr (inr (inr (inr (inl refl))))))))))) in
        (subst (λ (f : Forest Act). list_all (λ (child : Act). is_authorised (roles_of reading.language) (authorisers_below (roles_of reading.language) (tree.0).action) child.action) (roots_of f) ≡ true) c.below both.0, both.1)

    root_requested : (k : ℕ) (q : Request) (p : ParticipantId) (s : Shown) (requesters : PartySet) (tree : Act × Forest Act) → IsRootCovered reading q p s requesters tree → is_approved_in k (timeline_of log) ≡ true → request_at log k ≡ Some q → shown_to reading p q ≡ Some s → is_authorised (roles_of reading.language) requesters (tree.0).action ≡ true
    root_requested k q p s requesters tree c ok at is =
        let asked : is_requested (roles_of reading.language) s (c.covered).view ((c.covered).number, tree.0) ≡ true = (authorised_tree k q p s tree c.covered ok at is).1 in
        rw (c.is_root, c.is_first, c.known) at asked

    root_conforms : (k : ℕ) (q : Request) (p : ParticipantId) (s : Shown) (requesters : PartySet) (tree : Act × Forest Act) → IsRootCovered reading q p s requesters tree → is_approved_in k (timeline_of log) ≡ true → request_at log k ≡ Some q → shown_to reading p q ≡ Some s → reading.conforms (Root tree.0 tree.1 NoRoots) ≡ true
    root_conforms k q p s requesters tree c ok at is =
        subst (λ (f : Forest Act). reading.conforms f ≡ true) c.first (not-false _ (passed k q p s tree c.covered ok at is _ (inr (inr (inr (inr (inr (inr (inr (inl refl))))))))))

    -- somebody that confirms a signatory of the action is shown it
    record Guard (q : Request) (a : Act) : Type 0 where
      participant : ParticipantId
      shown : Shown
      is_shown : shown_to reading participant q ≡ Some shown
      signs : confirms_signatory reading participant a ≡ true

    guard_of : (k : ℕ) (q : Request) (a : Act) (ok : is_approved_in k (timeline_of log) ≡ true) (at : request_at log k ≡ Some q) → In a (acts ((sound_of k q ok at).transaction).roots) → Guard q a
    guard_of k q a ok at h =
        let g = (sound_of k q ok at).confirmed a (contains_from_In _ a h) in
        let s = guard_shown k q g.0 a ok at h g.1 in
        record { participant = g.0; shown = s.0; is_shown = s.1; signs = g.1 }

    -- from each root to the forest
    conforms_each : (roots : Forest Act) → ((tree : Act × Forest Act) → In tree (root_trees roots) → reading.conforms (Root tree.0 tree.1 NoRoots) ≡ true) → Conforms reading.language roots
    conforms_each NoRoots h = tt
    conforms_each (Root root below others) h =
        let here : Conforms reading.language (Root root below NoRoots) = (lawful.conforms_is (Root root below NoRoots)).0 (h (root, below) (inl refl)) in
        (here.0, here.1, conforms_each others (λ tree i. h tree (inr i)))

    -- from each action to the forest
    authorised_each : (by : PartySet) (roots : Forest Act) → ((tree : Act × Forest Act) → In tree (root_trees roots) → is_authorised (roles_of reading.language) by (tree.0).action ≡ true) → ((tree : Act × Forest Act) → In tree (trees_of roots) → list_all (λ (child : Act). is_authorised (roles_of reading.language) (authorisers_below (roles_of reading.language) (tree.0).action) child.action) (roots_of tree.1) ≡ true) → is_forest_authorised (roles_of reading.language) by roots ≡ true
    authorised_each by NoRoots h g = refl
    authorised_each by (Root root below others) h g =
        let children = g (root, below) (inl refl) in
        and_from _ _ (h (root, below) (inl refl)) (
        and_from _ _
        (authorised_each (authorisers_below (roles_of reading.language) root.action) below
        (λ tree i. of_root below tree i children)
        (λ tree i. g tree (inr (in_append_left (trees_of below) (trees_of others) tree i))))
        (authorised_each by others (λ tree i. h tree (inr i)) (λ tree i. g tree (inr (in_append_right (trees_of below) (trees_of others) tree i))))
        )
      where
        of_root : (f : Forest Act) (tree : Act × Forest Act) → In tree (root_trees f) → list_all (λ (child : Act). is_authorised (roles_of reading.language) (authorisers_below (roles_of reading.language) root.action) child.action) (roots_of f) ≡ true → is_authorised (roles_of reading.language) (authorisers_below (roles_of reading.language) root.action) (tree.0).action ≡ true
        of_root NoRoots tree i e = absurd i
        of_root (Root first below' rest) tree (inl same) e = subst (λ (t : Act × Forest Act). is_authorised (roles_of reading.language) (authorisers_below (roles_of reading.language) root.action) (t.0).action ≡ true) same (and_parts _ _ e).0
        of_root (Root first below' rest) tree (inr t) e = of_root rest tree t (and_parts _ _ e).1

    sound_whole : (k : ℕ) (q : Request) (t : Transaction) → is_approved_in k (timeline_of log) ≡ true → request_at log k ≡ Some q → reading.whole q ≡ Some t → Conforms reading.language t.roots × (is_forest_authorised (roles_of reading.language) t.requesters t.roots ≡ true)
    sound_whole k q t ok at is =
        let s = sound_of k q ok at in
        let same : s.transaction ≡ t = same_Some _ _ (sym s.is_whole ∙ is) in
        let here : Conforms reading.language (s.transaction).roots × (is_forest_authorised (roles_of reading.language) (s.transaction).requesters (s.transaction).roots ≡ true) = (
          conforms_each (s.transaction).roots (λ tree i.
              let g = guard_of k q tree.0 ok at (root_in_tree (s.transaction).roots tree (root_tree_in (s.transaction).roots tree i)) in
              root_conforms k q g.participant g.shown (s.transaction).requesters tree (s.roots g.participant g.shown tree g.is_shown (contains_from_In _ tree i) g.signs) ok at g.is_shown),
          authorised_each (s.transaction).requesters (s.transaction).roots
              (λ tree i.
              let g = guard_of k q tree.0 ok at (root_in_tree (s.transaction).roots tree (root_tree_in (s.transaction).roots tree i)) in
              root_requested k q g.participant g.shown (s.transaction).requesters tree (s.roots g.participant g.shown tree g.is_shown (contains_from_In _ tree i) g.signs) ok at g.is_shown)
              (λ tree i.
              let g = guard_of k q tree.0 ok at (root_in_tree (s.transaction).roots tree i) in
              (authorised_tree k q g.participant g.shown tree (s.covers g.participant g.shown tree g.is_shown (contains_from_In _ tree i) g.signs) ok at g.is_shown).0),
        ) in
        subst (λ (x : Transaction). Conforms reading.language x.roots × (is_forest_authorised (roles_of reading.language) x.requesters x.roots ≡ true)) same here

    by_whole : (k : ℕ) (q : Request) (w : Option Transaction) (commit : Commit) → is_approved_in k (timeline_of log) ≡ true → request_at log k ≡ Some q → reading.whole q ≡ w → commit_of k w ≡ Some commit → Conforms reading.language commit.roots × (is_commit_authorised (roles_of reading.language) commit ≡ true)
    by_whole k q None commit ok at is e = absurd (none-some commit e)
    by_whole k q (Some t) commit ok at is e =
        subst (λ (c : Commit). Conforms reading.language c.roots × (is_commit_authorised (roles_of reading.language) c ≡ true)) (same_Some _ commit e) (sound_whole k q t ok at is)

    by_request : (k : ℕ) (o : Option Request) (commit : Commit) → is_approved_in k (timeline_of log) ≡ true → request_at log k ≡ o → commit_of k (read_by reading.whole o) ≡ Some commit → Conforms reading.language commit.roots × (is_commit_authorised (roles_of reading.language) commit ≡ true)
    by_request k None commit ok at e = absurd (none-some commit e)
    by_request k (Some q) commit ok at e = by_whole k q (reading.whole q) commit ok at refl e

    pub conforms_and_authorised : (k : ℕ) (commit : Commit) → is_approved_in k (timeline_of log) ≡ true → whole_at reading log k ≡ Some commit → Conforms reading.language commit.roots × (is_commit_authorised (roles_of reading.language) commit ≡ true)
    conforms_and_authorised k commit ok e = by_request k (request_at log k) commit ok refl e

    -- what is opened of an approved request that isn't withheld is the projection of its whole
    pub opens_of : (p : ParticipantId) → OpensApproved reading p log
    opens_of p = record {
      projected = λ k q at ok free.
          let s = sound_of k q ok at in
          by_shown k q s at ok free (shown_to reading p q) refl ∙ ap (project_whole reading p) (sym s.is_whole);
    }
      where
        unseen : (b : Bool) (o : Option Shown) → o ≡ None → (b && not (is_some o)) ≡ false → b ≡ false
        unseen b (Some x) e h = absurd (none-some x (sym e))
        unseen true None e h = cc
        unseen false None e h = refl

        by_shown : (k : ℕ) (q : Request) (s : IsSound reading q) → request_at log k ≡ Some q → is_approved_in k (timeline_of log) ≡ true → is_withheld reading log p k ≡ false → (o : Option Shown) → shown_to reading p q ≡ o → roots_in o ≡ project (is_informed reading p) (s.transaction).roots
        by_shown k q s at ok free (Some x) e = s.opens p x e
        by_shown k q s at ok free None e =
            let blind : sees_some_view reading p q ≡ false = unseen (sees_some_view reading p q) (shown_to reading p q) e (sym (ap (is_unopened reading p) at) ∙ (rw ok at free)) in
            sym (s.hidden p blind)
