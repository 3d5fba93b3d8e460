-- A participant's active contracts are those that the ledger's commits create and don't consume.
use Rattle.std.proofs.Common.{◌≡◌, ◌⊎◌, ℕ, zero, suc, ◌<◌, ◌≤◌, Bool, true, false, List, [], ◌∷◌, ◌++◌, take, map, length, Option, Some, None, filter, refl, sym, ap, ◌∙◌, subst, inl, inr, arith, not, append_assoc, append-nil, le_refl}
use Rattle.std.specs.Prelude.{if◌then◌else◌, ◌&&◌}
use Rattle.std.specs.List.{list_any}
use Rattle.std.proofs.lemmas.Bool.{cases_Bool, and_parts, both_ways}
use Rattle.ledger_model.specs.Terms.{Act, ActiveRow, Instance, id_of, instance_of, is_create, consumes, ParticipantId}
use Rattle.ledger_model.specs.Forest.{Forest, NoRoots, Commit, acts, ledger_acts}
use Rattle.canton_model.specs.Evidence.{acts_of, commit_if, gather, ledger_below}
use Rattle.canton_model.specs.Log.{Params, Entry, Request, request_at}
use Rattle.canton_model.specs.Timeline.{timeline_of, is_approved_in}
use Rattle.ledger_model.specs.Opening.{Transaction, roots_in}
use Rattle.canton_model.specs.Reading.{Reading, is_recipient}
use Rattle.canton_model.specs.Ledger.{commit_of, read_by, whole_at, commits_below, is_withheld}
use Rattle.canton_model.specs.Inbox.{Item, inbox, moments, opened_at, clean, is_informed, project_whole, without_places, active_row, has_hosted_stakeholder, is_active_row, node_active, authentic_below, created_below, created_by, first_of_each, active_of}
use Rattle.canton_model.proofs.FirstRows.{is_active_create, kept_at_place, kept_below, kept_of, IsOfContracts, first_filtered, active_below, active_by, create_below, create_by}
use Rattle.canton_model.specs.Genuine.{Genuine, IsReading, NoCollision}
use Rattle.canton_model.proofs.Lawful.{Informs, informs}
use Rattle.canton_model.proofs.Approved.{opens_of}
use Rattle.ledger_model.proofs.Lists.{In, in_append_left, in_append_right, in_filter, from_filter, filter_append, in_any, from_any, from_on}
use Rattle.canton_model.proofs.Gathered.{in_gather, gather_in, ledger_gathered}
use Rattle.canton_model.proofs.HostStatus.{same_bools}
use Rattle.ledger_model.proofs.Projected.{filter_project, in_project}
use Rattle.canton_model.proofs.InboxFacts.{silent, mapped, below_read, opened_of, opened_none, known_approval, withheld_shut, gather_same, OpensApproved}
use Rattle.canton_model.proofs.InboxGrows.{inbox_is_mapped}
use Rattle.canton_model.proofs.FromGenuine.{authentic, one_instance}

filter_all : (test : Act → Bool) (xs : List Act) → ((a : Act) → In a xs → test a ≡ true) → filter test xs ≡ xs
filter_all test [] h = refl
filter_all test (x ∷ xs) h = let first = h x (inl refl) in rw first (ap (λ (ys : List Act). x ∷ ys) (filter_all test xs (λ a i. h a (inr i))))

filter_agree_in : (test test' : Act → Bool) (xs : List Act) → ((a : Act) → In a xs → test a ≡ test' a) → filter test xs ≡ filter test' xs
filter_agree_in test test' [] h = refl
filter_agree_in test test' (x ∷ xs) h =
    let first = h x (inl refl) in
    let rest = filter_agree_in test test' xs (λ a i. h a (inr i)) in
    rw (first, rest) refl

active_append : (reading : Reading) (p : ParticipantId) (all : List Act) (xs ys : List Commit) → kept_of reading p all (xs ++ ys) ≡ kept_of reading p all xs ++ kept_of reading p all ys
active_append reading p all [] ys = refl
active_append reading p all (x ∷ xs) ys =
    ap (λ (zs : List ActiveRow). kept_at_place reading p all x.place (acts x.roots) ++ zs) (active_append reading p all xs ys)
    ∙ sym (append_assoc (kept_at_place reading p all x.place (acts x.roots)) (kept_of reading p all xs) (kept_of reading p all ys))

-- the commit of a place, as actions
active_of_place : (reading : Reading) (p : ParticipantId) (all : List Act) (b : Bool) (k : ℕ) (w : Option Transaction) → kept_of reading p all (commit_if b (commit_of k w)) ≡ kept_at_place reading p all k (if b then acts_of (commit_of k w) else [])
active_of_place reading p all true k None = refl
active_of_place reading p all true k (Some t) = append-nil _
active_of_place reading p all false k None = refl
active_of_place reading p all false k (Some t) = refl

-- the commits of places that a second test keeps too
pub kept_below_place : (reading : Reading) (log : List Entry) (held : ℕ → Bool) (k : ℕ) → without_places held (commits_below reading log k) ≡ ledger_below (λ m. is_approved_in m (timeline_of log) && not (held m)) (whole_at reading log) k
kept_below_place reading log held zero = refl
kept_below_place reading log held (suc k) =
    filter_append (λ (commit : Commit). not (held commit.place)) (commits_below reading log k) (commit_if (is_approved_in k (timeline_of log)) (whole_at reading log k))
    ∙ (ap (λ (xs : List Commit). xs ++ without_places held (commit_if (is_approved_in k (timeline_of log)) (whole_at reading log k))) (kept_below_place reading log held k)
    ∙ ap (λ (xs : List Commit). ledger_below (λ m. is_approved_in m (timeline_of log) && not (held m)) (whole_at reading log) k ++ xs) (one_commit (is_approved_in k (timeline_of log)) (read_by reading.whole (request_at log k))))
  where
    one_commit : (b : Bool) (w : Option Transaction) → without_places held (commit_if b (commit_of k w)) ≡ commit_if (b && not (held k)) (commit_of k w)
    one_commit false w = refl
    one_commit true None = elim (cases_Bool (held k)) [ inl h ↦ rw h refl | inr h ↦ rw h refl ]
    one_commit true (Some t) = elim (cases_Bool (held k)) [ inl h ↦ rw h refl | inr h ↦ rw h refl ]

if_nothing : (b : Bool) → ◌≡◌ {A = List Act} (if b then [] else []) []
if_nothing true = refl
if_nothing false = refl

module _ (reading : Reading) (params : Params) (log : List Entry) (lawful : IsReading reading) (genuine : Genuine reading params log) (distinct : NoCollision reading log) (p : ParticipantId) (n : ℕ) (within : n ≤ length log) where
  abbrev its : List Item
  its = mapped reading p (take n log)

  abbrev held : ℕ → Bool
  held = is_withheld reading log p

  abbrev approved : ℕ → Bool
  approved k = is_approved_in k (timeline_of log)

  -- approved, and not withheld
  abbrev kept : ℕ → Bool
  kept k = approved k && not (held k)

  abbrev approved_here : ℕ → Bool
  approved_here k = is_approved_in k (moments its)

  abbrev whole_acts : ℕ → List Act
  whole_acts k = acts_of (whole_at reading log k)

  abbrev informed : Informs reading
  informed = informs reading lawful

  opens : OpensApproved reading p log
  opens = opens_of reading params log lawful genuine distinct p

  below : (k : ℕ) → k < clean params its → k < n
  below k lt = below_read reading params log p n genuine.timely within k lt

  -- the projection of a whole, as actions
  abbrev shown_acts : ℕ → List Act
  shown_acts k = acts (project_whole reading p (read_by reading.whole (request_at log k)))

  -- At a place below the clean one nothing is opened, and nothing of what is kept is for the participant, or its approval is known
  -- and what is kept is opened.
  abbrev AtPlace : ℕ → Type 0
  AtPlace k =
      ((opened_at its k ≡ NoRoots) × (kept k ≡ true → shown_acts k ≡ []))
      ⊎ ((approved_here k ≡ kept k) × (kept k ≡ true → acts (opened_at its k) ≡ shown_acts k))

  at_request : (k : ℕ) (o : Option Request) → k < clean params its → request_at log k ≡ o → AtPlace k
  at_request k None lt e =
      inl (
        opened_none reading params log p n genuine.timely within k (below k lt) e,
        (λ ok. ap (λ (o : Option Request). acts (project_whole reading p (read_by reading.whole o))) e),
      )
  at_request k (Some q) lt e =
      let opened = opened_of reading params log p n genuine.timely within k q (below k lt) e in
      let whole : shown_acts k ≡ acts (project_whole reading p (reading.whole q)) = ap (λ (o : Option Request). acts (project_whole reading p (read_by reading.whole o))) e in
      elim (cases_Bool (held k)) [
        | inl h ↦ inl (
          opened ∙ ap roots_in (withheld_shut reading log p k q e h),
          (λ ok. absurd (both_ways (not (held k)) (ap not h) (and_parts _ _ ok).1)),
        )
        | inr free ↦ elim (cases_Bool (is_recipient reading p q)) [
          | inl here ↦ inr (
            known_approval reading params log p n genuine.timely within k q lt e here ∙ sym (only (approved k) free),
            (λ ok. ap (λ (f : Forest Act). acts f) (opened ∙ opens.projected k q e (and_parts _ _ ok).0 free) ∙ sym whole),
          )
          | inr away ↦
              let none = silent reading p q away in
              inl (
                opened ∙ ap roots_in none,
                (λ ok. whole ∙ ap (λ (f : Forest Act). acts f) (sym (opens.projected k q e (and_parts _ _ ok).0 free) ∙ ap roots_in none)),
              )
        ]
      ]
    where
      only : (b : Bool) → held k ≡ false → (b && not (held k)) ≡ b
      only true free = rw free refl
      only false free = refl

  at_place : (k : ℕ) → k < clean params its → AtPlace k
  at_place k lt = at_request k (request_at log k) lt refl

  shown_whole : (k : ℕ) (a : Act) → In a (shown_acts k) → In a (whole_acts k)
  shown_whole k a h = by_whole (read_by reading.whole (request_at log k)) h
    where
      by_whole : (w : Option Transaction) → In a (acts (project_whole reading p w)) → In a (acts_of (commit_of k w))
      by_whole None i = i
      by_whole (Some t) i = in_project (is_informed reading p) t.roots a i

  same_kind : (k : ℕ) (test : Act → Bool) → ((a : Act) → In a (whole_acts k) → test a ≡ true → is_informed reading p a ≡ true) → filter test (shown_acts k) ≡ filter test (whole_acts k)
  same_kind k test told = by_whole (read_by reading.whole (request_at log k)) told
    where
      by_whole : (w : Option Transaction) → ((a : Act) → In a (acts_of (commit_of k w)) → test a ≡ true → is_informed reading p a ≡ true) → filter test (acts (project_whole reading p w)) ≡ filter test (acts_of (commit_of k w))
      by_whole None h = refl
      by_whole (Some t) h = filter_project (is_informed reading p) test t.roots h

  real : (k : ℕ) (a : Act) → kept k ≡ true → In a (whole_acts k) → reading.is_authentic a ≡ true
  real k a ok h = authentic reading params log lawful genuine distinct k a (and_parts _ _ ok).0 h

  -- what counts here of a place
  counted : (k : ℕ) → k < clean params its → (if approved_here k then filter reading.is_authentic (acts (opened_at its k)) else []) ≡ (if kept k then shown_acts k else [])
  counted k lt =
      elim (at_place k lt) [
        | inl shut ↦ rw shut.0 (if_nothing (approved_here k) ∙ elim (cases_Bool (kept k)) [ inl ok ↦ rw ok (sym (shut.1 ok)) | inr out ↦ rw out refl ])
        | inr known ↦ elim (cases_Bool (kept k)) [
          | inl ok ↦
              rw (known.0, ok) (ap (filter reading.is_authentic) (known.1 ok) ∙ filter_all reading.is_authentic (shown_acts k) (λ a i. real k a ok (shown_whole k a i)))
          | inr out ↦ rw (known.0, out) refl
        ]
      ]

  -- an action that is opened, and counts, is one of the ledger
  counts : (k : ℕ) (a : Act) → k < clean params its → approved_here k ≡ true → In a (acts (opened_at its k)) → (kept k ≡ true) × In a (whole_acts k)
  counts k a lt here h =
      elim (at_place k lt) [
        | inl shut ↦ absurd (subst (λ (f : Forest Act). In a (acts f)) shut.0 h)
        | inr known ↦
            let ok : kept k ≡ true = sym known.0 ∙ here in
            (ok, shown_whole k a (subst (λ (xs : List Act). In a xs) (known.1 ok) h))
      ]

  -- all that the approved requests below m have in the ledger, but for what is withheld
  abbrev ledger_part : ℕ → List Act
  ledger_part m = gather kept whole_acts m

  authentic_is : (m : ℕ) → m ≤ clean params its → authentic_below reading its m ≡ gather kept shown_acts m
  authentic_is m le =
      gather_same approved_here kept (λ j. filter reading.is_authentic (acts (opened_at its j))) shown_acts m (λ j lt. counted j (omega (arith, lt)))

  -- a consuming action on a contract with a hosted stakeholder is seen here
  same_consumed : (m k : ℕ) (a : Act) → m ≤ clean params its → k < m → kept k ≡ true → In a (whole_acts k) → has_hosted_stakeholder reading p a ≡ true → list_any (consumes (id_of a.action)) (authentic_below reading its m) ≡ list_any (consumes (id_of a.action)) (ledger_part m)
  same_consumed m k a le lt ok ha hosted =
      let test = consumes (id_of a.action) in
      ap (λ (xs : List Act). list_any test xs) (authentic_is m le)
      ∙ same_bools _ _
      (λ h.
      let w = from_any test (gather kept shown_acts m) h in
      let j = in_gather kept shown_acts m w.0 w.1 in
      in_any test (ledger_part m) w.0 (gather_in kept whole_acts m j.0 w.0 j.1 j.2 (shown_whole j.0 w.0 j.3)) w.2)
      (λ h.
      let w = from_any test (ledger_part m) h in
      let j = in_gather kept whole_acts m w.0 w.1 in
      let parts = and_parts _ _ w.2 in
      let one : instance_of w.0.action ≡ instance_of a.action =
      one_instance reading params log lawful genuine distinct j.0 k w.0 a (and_parts _ _ j.2).0 (and_parts _ _ ok).0 j.3 ha (from_on (id_of a.action) w.0 parts.0) in
      let hosts_it : has_hosted_stakeholder reading p w.0 ≡ true = ap (λ (i : Instance). list_any (reading.hosts p) ((reading.language).signatories i ++ (reading.language).observers i)) one ∙ hosted in
      let told = informed.stakeholders_informed p w.0 (inr parts.1) hosts_it in
      let there : In w.0 (filter (is_informed reading p) (shown_acts j.0)) = rw (same_kind j.0 (is_informed reading p) (λ b i e. e)) (in_filter (is_informed reading p) (whole_acts j.0) w.0 j.3 told) in
      in_any test (gather kept shown_acts m) w.0 (gather_in kept shown_acts m j.0 w.0 j.1 j.2 (from_filter (is_informed reading p) (shown_acts j.0) w.0 there).0) w.2)

  -- one place
  place_active : (m k : ℕ) → m ≤ clean params its → k < m → filter (is_active_create reading p (authentic_below reading its m)) (if approved_here k then filter reading.is_authentic (acts (opened_at its k)) else []) ≡ filter (is_active_create reading p (ledger_part m)) (if kept k then whole_acts k else [])
  place_active m k le lt =
      let mine = is_active_create reading p (authentic_below reading its m) in
      let theirs = is_active_create reading p (ledger_part m) in
      ap (filter mine) (counted k (omega (arith, lt, le)))
      ∙ elim (cases_Bool (kept k)) [
        | inl ok ↦
            let same : filter mine (shown_acts k) ≡ filter mine (whole_acts k) =
            same_kind k mine (λ a i t. let parts = and_parts _ _ t in informed.stakeholders_informed p a (inl parts.0) (and_parts _ _ parts.1).0) in
            rw ok (same ∙ filter_agree_in mine theirs (whole_acts k) (λ a i. same_test m k a le lt ok i))
        | inr out ↦ rw out refl
      ]
    where
      same_test : (m k : ℕ) (a : Act) → m ≤ clean params its → k < m → kept k ≡ true → In a (whole_acts k) → is_active_create reading p (authentic_below reading its m) a ≡ is_active_create reading p (ledger_part m) a
      same_test m k a le lt ok i =
          elim (cases_Bool (has_hosted_stakeholder reading p a)) [
            | inl hosted ↦ ap (λ (b : Bool). is_create a.action && (has_hosted_stakeholder reading p a && not b)) (same_consumed m k a le lt ok i hosted)
            | inr away ↦ rw away refl
          ]

  -- the commits below a place that aren't withheld
  abbrev kept_commits : ℕ → List Commit
  kept_commits k = ledger_below kept (whole_at reading log) k

  active_upto : (m k : ℕ) → m ≤ clean params its → k ≤ m → kept_below reading p its (authentic_below reading its m) k ≡ kept_of reading p (ledger_part m) (kept_commits k)
  active_upto m zero le up = refl
  active_upto m (suc k) le up =
      let mine = kept_at_place reading p (authentic_below reading its m) k (if approved_here k then filter reading.is_authentic (acts (opened_at its k)) else []) in
      let theirs = kept_at_place reading p (ledger_part m) k (if kept k then whole_acts k else []) in
      let before = kept_of reading p (ledger_part m) (kept_commits k) in
      let rest : kept_below reading p its (authentic_below reading its m) k ≡ before = active_upto m k le (omega arith) in
      let here : mine ≡ theirs = ap (map (active_row k)) (place_active m k le (omega arith)) in
      let place = active_of_place reading p (ledger_part m) (kept k) k (read_by reading.whole (request_at log k)) in
      let commits = active_append reading p (ledger_part m) (kept_commits k) (commit_if (kept k) (whole_at reading log k)) in
      ap (λ (xs : List ActiveRow). xs ++ mine) rest ∙ (ap (λ (xs : List ActiveRow). before ++ xs) (here ∙ sym place) ∙ sym commits)

  kept_sets : (m : ℕ) → m ≤ clean params its → kept_below reading p its (authentic_below reading its m) m ≡ kept_of reading p (ledger_acts (kept_commits m)) (kept_commits m)
  kept_sets m le =
      let same = ledger_gathered kept (whole_at reading log) m in
      active_upto m m le (le_refl _) ∙ ap (λ (all : List Act). kept_of reading p all (kept_commits m)) (sym same)

  -- a row is of an action of the ledger
  record OfLedger (r : ActiveRow) : Type 0 where
    place : ℕ
    act : Act
    ok : approved place ≡ true
    there : In act (whole_acts place)
    same_id : r.known.id ≡ id_of act.action
    same_instance : r.known.instance ≡ instance_of act.action

  one_contract : (all : List Act) (rows : List ActiveRow) → ((r : ActiveRow) → In r rows → OfLedger r) → IsOfContracts (is_active_row reading p all) rows
  one_contract all rows known a b i j same =
      let x = known a i in
      let y = known b j in
      let on : id_of (x.act).action ≡ id_of (y.act).action = sym x.same_id ∙ (same ∙ y.same_id) in
      let one : instance_of (x.act).action ≡ instance_of (y.act).action = one_instance reading params log lawful genuine distinct x.place y.place x.act y.act x.ok y.ok x.there y.there on in
      let instances : a.known.instance ≡ b.known.instance = x.same_instance ∙ (one ∙ sym y.same_instance) in
      rw (same, instances) refl

  rows_here : (m : ℕ) → m ≤ clean params its → (r : ActiveRow) → In r (created_below reading its m) → OfLedger r
  rows_here m le r h =
      let w = create_below reading its m r h in
      let there = counts w.0 w.3 (let low = w.1 in omega (arith, low, le)) w.2 w.4 in
      record {
        place = w.0;
        act = w.3;
        ok = (and_parts _ _ there.0).0;
        there = there.1;
        same_id = ap (λ (x : ActiveRow). x.known.id) (sym w.5);
        same_instance = ap (λ (x : ActiveRow). x.known.instance) (sym w.5);
      }

  rows_there : (m : ℕ) → (r : ActiveRow) → In r (created_by (kept_commits m)) → OfLedger r
  rows_there m r h =
      let w = create_by (kept_commits m) r h in
      let inside : In w.2 (ledger_acts (kept_commits m)) = in_ledger_acts (kept_commits m) w.0 w.2 w.1 w.3 in
      let gathered : In w.2 (ledger_part m) = subst (λ (xs : List Act). In w.2 xs) (ledger_gathered kept (whole_at reading log) m) inside in
      let k = in_gather kept whole_acts m w.2 gathered in
      record {
        place = k.0;
        act = w.2;
        ok = (and_parts _ _ k.2).0;
        there = k.3;
        same_id = ap (λ (x : ActiveRow). x.known.id) (sym w.4);
        same_instance = ap (λ (x : ActiveRow). x.known.instance) (sym w.4);
      }
    where
      in_ledger_acts : (commits : List Commit) (c : Commit) (a : Act) → In c commits → In a (acts c.roots) → In a (ledger_acts commits)
      in_ledger_acts [] c a i j = absurd i
      in_ledger_acts (x ∷ xs) c a (inl same) j = in_append_left (acts x.roots) (ledger_acts xs) a (subst (λ (y : Commit). In a (acts y.roots)) (sym same) j)
      in_ledger_acts (x ∷ xs) c a (inr t) j = in_append_right (acts x.roots) (ledger_acts xs) a (in_ledger_acts xs c a t j)

  mapped_sets : (m : ℕ) → m ≤ clean params its → node_active reading p its m ≡ active_of reading p (without_places held (commits_below reading log m))
  mapped_sets m le =
      let mine = authentic_below reading its m in
      let commits = kept_commits m in
      let theirs = ledger_acts commits in
      first_filtered (is_active_row reading p mine) (created_below reading its m) (one_contract mine _ (rows_here m le))
      ∙ (ap first_of_each (active_below reading p mine its m ∙ (kept_sets m le ∙ sym (active_by reading p theirs commits)))
      ∙ (sym (first_filtered (is_active_row reading p theirs) (created_by commits) (one_contract theirs _ (rows_there m)))
      ∙ ap (active_of reading p) (sym (kept_below_place reading log held m))))

  -- at each place up to the clean one
  pub active_sets_up_to : (m : ℕ) → m ≤ clean params (inbox reading p (take n log))
      → node_active reading p (inbox reading p (take n log)) m ≡ active_of reading p (without_places (is_withheld reading log p) (commits_below reading log m))
  active_sets_up_to m le =
      subst (λ (all : List Item). m ≤ clean params all → node_active reading p all m ≡ active_of reading p (without_places held (commits_below reading log m)))
      (sym (inbox_is_mapped reading params log p n genuine.timely)) (mapped_sets m) le

  pub active_sets : node_active reading p (inbox reading p (take n log)) (clean params (inbox reading p (take n log))) ≡ active_of reading p (without_places (is_withheld reading log p) (commits_below reading log (clean params (inbox reading p (take n log)))))
  active_sets = active_sets_up_to (clean params (inbox reading p (take n log))) (le_refl _)
