-- What a log of framed requests opens to a participant is within bounds.
use Rattle.std.proofs.Common.{◌≡◌, ℕ, zero, suc, ◌*◌, ◌≤◌, ◌<◌, true, List, [], ◌∷◌, ◌++◌, length, map, filter, take, Contains, refl, sym, ap, subst, ◌∙◌, inl, inr, arith}
use Rattle.std.specs.Prelude.{Option, Some, None, All, if◌then◌else◌, not}
use Rattle.std.specs.List.{IsDistinct}
use Rattle.std.specs.Str.{bytes_eq}
use Rattle.std.specs.Cmp.Lexicographic.{nat_list_eq_equiv}
use Rattle.std.proofs.lemmas.Bool.{cases_Bool, cases_lt}
use Rattle.std.proofs.lemmas.List.{length-append, length-map}
use Rattle.std.proofs.lemmas.Slice.Eq.{bytes_eq-Decides}
use Rattle.std.proofs.lemmas.Map.Made.{length-le_from_is_member}
use Rattle.ledger_terms.specs.declared.act.Act.{Act}
use Rattle.ledger_terms.specs.declared.active_row.ActiveRow.{ActiveRow}
use Rattle.ledger_terms.specs.declared.topology.Topology.{Topology}
use Rattle.ledger_model.specs.Forest.{Forest, acts}
use Rattle.ledger_model.specs.Opening.{Shown, roots_in}
use Rattle.ledger_model.specs.Terms.{Action, Hash, ParticipantId, id_of, instance_of, is_create}
use Rattle.ledger_model.specs.Terms as terms
use Rattle.ledger_model.proofs.Lists.{In, contains_from_In, from_any, from_filter, in_any, in_append_cases, in_append_left, in_append_right, in_at, in_from_Contains}
use Rattle.canton_model.specs.Inbox.{Content, Item, Nothing, active_row, authentic_below, content_of, created_at_place, created_below, first_of_each, inbox, is_active_row, items_after, moments, node_active, notice_by, opened_at, shown_in_notice, verdict_content}
use Rattle.canton_model.specs.Log.{request_at, request_in, request_of}
use Rattle.canton_model.specs.declared.entry.Entry.{Entry}
use Rattle.canton_model.specs.declared.message.Message.{Message}
use Rattle.canton_model.specs.declared.message.Message.TheVariants.{Request as RequestMessage, Response as ResponseMessage, Tick, Verdict as VerdictMessage}
use Rattle.canton_model.specs.declared.request.Request.{Request}
use Rattle.canton_model.specs.Reading.{Offer, Reading, is_recipient, shown_in_offer}
use Rattle.canton_model.specs.Reading as reading
use Rattle.canton_model.specs.Timeline.{is_approved_in}
use Rattle.canton_model.proofs.FirstRows.{create_below}
use Rattle.lang_eval.specs.Found.{Packages}
use Rattle.lang_eval.specs.Named.{AreKnown, parties_in_action, parties_in_instance}
use Rattle.interpret.specs.Ids.{contract_id, is_authentic, salt_in, salt_of}
use Rattle.snapshot_store.specs.Spellable.{IsSpellableRow}
use Rattle.sealed_form.specs.Within.{is_hosted}
use Rattle.framed_form.specs.Collisions.{AreFramed}
use Rattle.framed_form.specs.Framed.{IsFramed}
use Rattle.framed_form.specs.FramedReading.{framed_reading}
use Rattle.log_bounds.specs.Bounds.{WasActive}
use Rattle.log_bounds.proofs.Requests.{all_in, few_shown, filter_length, in_map, instance_known, known_shown, spelled_shown}
use Rattle.log_bounds.proofs.Spelled.{HasSpelling}

-- ---- rows of any inbox

first_of_rows : (rows : List ActiveRow) (row : ActiveRow) → In row (first_of_each rows) → In row rows
first_of_rows [] row i = absurd i
first_of_rows (x ∷ xs) row (inl same) = inl same
first_of_rows (x ∷ xs) row (inr i) = inr (first_of_rows xs row (from_filter (λ (later : ActiveRow). not (bytes_eq later.known.id x.known.id)) (first_of_each xs) row i).0)

active_created : (reading : Reading) (p : ParticipantId) (items : List Item) (n : ℕ) (row : ActiveRow) → In row (node_active reading p items n) → In row (created_below reading items n)
active_created reading p items n row i =
    first_of_rows (created_below reading items n) row
    (from_filter (is_active_row reading p (authentic_below reading items n)) (first_of_each (created_below reading items n)) row i).0

-- the salt of a Create is its seed
salt_of_create : (seed : Hash) (action : Action) → is_create action ≡ true → salt_in seed action ≡ seed
salt_of_create seed (terms.Create id instance) is = refl
salt_of_create seed (terms.Exercise id salt instance choice args actors consuming result) is = absurd cc
salt_of_create seed (terms.Fetch id salt instance actors) is = absurd cc

-- what the first entries open is opened at the same place by all of them
read_on : (reading : Reading) (p : ParticipantId) (before rest : List Entry) (n k : ℕ) (act : Act) → In act (acts (opened_at (items_after reading p before (take n rest)) k))
    → (k < length rest) × In act (acts (opened_at (items_after reading p before rest) k))
read_on reading p before rest zero k act i = absurd i
read_on reading p before [] (suc n) k act i = absurd i
read_on reading p before (entry ∷ rest) (suc n) zero act i = (omega arith, i)
read_on reading p before (entry ∷ rest) (suc n) (suc k) act i =
    let r = read_on reading p (before ++ entry ∷ []) rest n k act i in
    (omega (arith, r.0), r.1)

in_mapped : {X Y : Type 0} (f : X → Y) (xs : List X) (x : X) (y : Y) → In x xs → f x ≡ y → In y (map f xs)
in_mapped f [] x y i is = absurd i
in_mapped f (z ∷ zs) x y (inl same) is = inl (ap f same ∙ is)
in_mapped f (z ∷ zs) x y (inr i) is = inr (in_mapped f zs x y i is)

-- ---- what is opened at each place

module _ (topology : Topology) (packages : Packages) (p : ParticipantId) where
  abbrev its_reading : Reading
  its_reading = framed_reading topology packages

  -- few actions, which can be spelled, and name parties of the topology
  pub record IsBounded (roots : Forest Act) : Type 0 where
    pub few : length (acts roots) ≤ 131072
    pub spelled : (act : Act) → In act (acts roots) → HasSpelling act
    pub known : (act : Act) → In act (acts roots) → AreKnown (is_hosted topology) (parties_in_action act.action)

  nothing_bounded : (shown : Option Shown) → shown ≡ None → IsBounded (roots_in shown)
  nothing_bounded shown none = subst (λ (s : Option Shown). IsBounded (roots_in s)) (sym none) (record { few = omega arith; spelled = λ act i. absurd i; known = λ act i. absurd i })

  offer_bounded : (request : Request) → IsFramed topology request → (offer : Offer) → its_reading.offered p request ≡ offer → IsBounded (roots_in (shown_in_offer offer))
  offer_bounded request framed reading.Mismatch is = nothing_bounded None refl
  offer_bounded request framed reading.Missing is = nothing_bounded None refl
  offer_bounded request framed (reading.Open shown) is =
      record {
        few = few_shown topology packages request p shown is framed;
        spelled = λ act i. spelled_shown topology packages request p shown is act i;
        known = λ act i. known_shown topology packages request p shown is act i;
      }

  abbrev opened_by_content : Content → Forest Act
  opened_by_content content = roots_in (shown_in_notice (notice_by content))

  nothing_told : IsBounded (opened_by_content Nothing)
  nothing_told = nothing_bounded None refl

  content_bounded : (before : List Entry) (message : Message) → ((request : Request) → request_of message ≡ Some request → IsFramed topology request)
      → IsBounded (opened_by_content (content_of its_reading p before message))
  content_bounded before (RequestMessage request) framed =
      elim (cases_Bool (is_recipient its_reading p request)) [
        | inl is ↦ rw is (offer_bounded request (framed request refl) (its_reading.offered p request) refl)
        | inr out ↦ rw out nothing_told
      ]
  content_bounded before (VerdictMessage verdict) framed = told (request_at before verdict.request)
    where
      told : (o : Option Request) → IsBounded (opened_by_content (verdict_content its_reading p verdict o))
      told None = nothing_told
      told (Some request) = elim (cases_Bool (is_recipient its_reading p request)) [ inl is ↦ rw is (nothing_bounded None refl) | inr out ↦ rw out nothing_told ]
  content_bounded before (ResponseMessage response) framed = nothing_told
  content_bounded before Tick framed = nothing_told

  items_bounded : (before rest : List Entry) → ((entry : Entry) → In entry rest → (request : Request) → request_of entry.message ≡ Some request → IsFramed topology request)
      → (k : ℕ) → IsBounded (opened_at (items_after its_reading p before rest) k)
  items_bounded before [] framed k = nothing_bounded None refl
  items_bounded before (entry ∷ rest) framed zero = content_bounded before entry.message (framed entry (inl refl))
  items_bounded before (entry ∷ rest) framed (suc k) = items_bounded (before ++ entry ∷ []) rest (λ e i. framed e (inr i)) k

  pub framed_entries : (log : List Entry) → AreFramed topology log → (entry : Entry) → In entry log → (request : Request) → request_of entry.message ≡ Some request → IsFramed topology request
  framed_entries log framed entry i request is =
      let at = in_at log entry i in
      framed at.0 request (ap request_in at.1 ∙ is)

  module _ (log : List Entry) (framed : AreFramed topology log) where
    abbrev its_items : List Item
    its_items = inbox its_reading p log

    pub opened_bounded : (k : ℕ) → IsBounded (opened_at its_items k)
    opened_bounded k = items_bounded [] log (framed_entries log framed) k

    -- ---- actions and rows below a place

    pub few_authentic : (n : ℕ) → length (authentic_below its_reading its_items n) ≤ 131072 * n
    few_authentic zero = omega arith
    few_authentic (suc k) =
        let r = few_authentic k in
        let o = (opened_bounded k).few in
        let f = filter_length its_reading.is_authentic (acts (opened_at its_items k)) in
        let front = authentic_below its_reading its_items k in
        elim (cases_Bool (is_approved_in k (moments its_items))) [
          | inl ok ↦ rw ok (let l = length-append front (filter its_reading.is_authentic (acts (opened_at its_items k))) in omega (arith, r, o, f, l))
          | inr out ↦ rw out (let l = length-append front [] in omega (arith, r, l))
        ]

    few_at_place : (place : ℕ) (xs : List Act) → length (created_at_place place xs) ≤ length xs
    few_at_place place xs =
        let creates = λ (act : Act). is_create act.action in
        let f = filter_length creates xs in
        let m : length (created_at_place place xs) ≡ length (filter creates xs) = length-map (filter creates xs) (active_row place) in
        omega (arith, f, m)

    pub few_created : (n : ℕ) → length (created_below its_reading its_items n) ≤ 131072 * n
    few_created zero = omega arith
    few_created (suc k) =
        let r = few_created k in
        let o = (opened_bounded k).few in
        let front = created_below its_reading its_items k in
        let now = filter its_reading.is_authentic (acts (opened_at its_items k)) in
        let f = filter_length its_reading.is_authentic (acts (opened_at its_items k)) in
        elim (cases_Bool (is_approved_in k (moments its_items))) [
          | inl ok ↦ rw ok (let l = length-append front (created_at_place k now) in let c = few_at_place k now in omega (arith, r, o, f, l, c))
          | inr out ↦ rw out (let l = length-append front [] in omega (arith, r, l))
        ]

    row_spelled : (place : ℕ) (xs : List Act) → ((act : Act) → In act xs → HasSpelling act × (is_authentic act ≡ true)) → (row : ActiveRow)
        → In row (created_at_place place xs) → IsSpellableRow row
    row_spelled place xs each row i =
        let made = in_map (active_row place) (filter (λ (act : Act). is_create act.action) xs) row i in
        let kept = from_filter (λ (act : Act). is_create act.action) xs made.0 made.1 in
        let fits = each made.0 kept.0 in
        let id = (bytes_eq-Decides (id_of (made.0).action) (contract_id (salt_of made.0) (instance_of (made.0).action))).0 fits.1 in
        let salt : salt_of made.0 ≡ (made.0).seed = salt_of_create (made.0).seed (made.0).action kept.1 in
        subst IsSpellableRow made.2
        (record { instance = fits.0; id = id ∙ ap (λ (s : Hash). contract_id s (instance_of (made.0).action)) salt })

    pub rows_spelled : (n : ℕ) (row : ActiveRow) → In row (created_below its_reading its_items n) → IsSpellableRow row
    rows_spelled zero row i = absurd i
    rows_spelled (suc k) row i =
        let now = if is_approved_in k (moments its_items) then filter its_reading.is_authentic (acts (opened_at its_items k)) else [] in
        elim (in_append_cases (created_below its_reading its_items k) (created_at_place k now) row i) [
          | inl before ↦ rows_spelled k row before
          | inr here ↦ row_spelled k now each row here
        ]
      where
        each : (act : Act) → In act (if is_approved_in k (moments its_items) then filter its_reading.is_authentic (acts (opened_at its_items k)) else [])
            → HasSpelling act × (is_authentic act ≡ true)
        each act j =
            elim (cases_Bool (is_approved_in k (moments its_items))) [
              | inl ok ↦
                  (let kept = from_filter its_reading.is_authentic (acts (opened_at its_items k)) act (rw ok at j) in
                  ((opened_bounded k).spelled act kept.0, kept.1))
              | inr out ↦ (let none : In act [] = rw out at j in absurd none)
            ]

    pub active_spelled : (n : ℕ) → All IsSpellableRow (node_active its_reading p its_items n)
    active_spelled n =
        all_in IsSpellableRow (node_active its_reading p its_items n) (λ row i. rows_spelled n row (active_created its_reading p its_items n row i))

    pub created_spelled : (n : ℕ) → All IsSpellableRow (created_below its_reading its_items n)
    created_spelled n = all_in IsSpellableRow (created_below its_reading its_items n) (rows_spelled n)

    pub row_known : (n : ℕ) (row : ActiveRow) → In row (created_below its_reading its_items n) → AreKnown (is_hosted topology) (parties_in_instance row.known.instance)
    row_known n row i =
        let c = create_below its_reading its_items n row i in
        let act = c.3 in
        let known = (opened_bounded c.0).known act c.4 in
        subst (λ (r : ActiveRow). AreKnown (is_hosted topology) (parties_in_instance r.known.instance)) c.5
        (instance_known (is_hosted topology) act.action known)

    first_length : (rows : List ActiveRow) → length (first_of_each rows) ≤ length rows
    first_length [] = omega arith
    first_length (x ∷ xs) =
        let r = first_length xs in
        let f = filter_length (λ (later : ActiveRow). not (bytes_eq later.known.id x.known.id)) (first_of_each xs) in
        omega (arith, r, f)

    pub few_active : (n : ℕ) → length (node_active its_reading p its_items n) ≤ 131072 * n
    few_active n =
        let c = few_created n in
        let f = first_length (created_below its_reading its_items n) in
        let a = filter_length (is_active_row its_reading p (authentic_below its_reading its_items n)) (first_of_each (created_below its_reading its_items n)) in
        omega (arith, c, f, a)

    pub active_known : (n : ℕ) → All (λ (row : ActiveRow). AreKnown (is_hosted topology) (parties_in_instance row.known.instance)) (node_active its_reading p its_items n)
    active_known n =
        all_in (λ (row : ActiveRow). AreKnown (is_hosted topology) (parties_in_instance row.known.instance)) (node_active its_reading p its_items n)
        (λ row i. row_known n row (active_created its_reading p its_items n row i))

    -- ---- all contracts that are ever active

    abbrev all_opened : ℕ → List Act
    all_opened zero = []
    all_opened (suc k) = all_opened k ++ acts (opened_at its_items k)

    few_opened : (n : ℕ) → length (all_opened n) ≤ 131072 * n
    few_opened zero = omega arith
    few_opened (suc k) =
        let r = few_opened k in
        let o = (opened_bounded k).few in
        let l = length-append (all_opened k) (acts (opened_at its_items k)) in
        omega (arith, r, o, l)

    in_opened : (n k : ℕ) (act : Act) → k < n → In act (acts (opened_at its_items k)) → In act (all_opened n)
    in_opened zero k act lt i = absurd (omega (arith, lt))
    in_opened (suc n) k act lt i =
        elim (cases_lt k n) [
          | inl less ↦ in_append_left (all_opened n) (acts (opened_at its_items n)) act (in_opened n k act less i)
          | inr more ↦
              (let same : k ≡ n = omega (arith, lt, more) in
              in_append_right (all_opened n) (acts (opened_at its_items n)) act (subst (λ (m : ℕ). In act (acts (opened_at its_items m))) same i))
        ]

    abbrev opened_ids : List Hash
    opened_ids = map (λ (act : Act). id_of act.action) (all_opened (length log))

    is_opened : (id : Hash) → WasActive its_reading p log id → In id opened_ids
    is_opened id was =
        let read = take was.read log in
        let created = active_created its_reading p (inbox its_reading p read) was.below was.row (in_from_Contains _ was.row was.active) in
        let create = create_below its_reading (inbox its_reading p read) was.below was.row created in
        let act = create.3 in
        let there = read_on its_reading p [] log was.read create.0 act create.4 in
        let its : id_of act.action ≡ id = ap (λ (row : ActiveRow). row.known.id) create.5 ∙ was.is in
        in_mapped (λ (a : Act). id_of a.action) (all_opened (length log)) act id (in_opened (length log) create.0 act there.0 there.1) its

    pub few_contracts : (ids : List Hash) → IsDistinct bytes_eq ids → ((id : Hash) → Contains ids id → WasActive its_reading p log id)
        → length ids ≤ 131072 * length log
    few_contracts ids distinct each =
        let o = few_opened (length log) in
        let m : length opened_ids ≡ length (all_opened (length log)) = length-map (all_opened (length log)) (λ (act : Act). id_of act.action) in
        let l = length-le_from_is_member nat_list_eq_equiv ids opened_ids distinct (λ q has.
        let found = from_any (bytes_eq q) ids has in
        in_any (bytes_eq q) opened_ids found.0 (is_opened found.0 (each found.0 (contains_from_In ids found.0 found.1))) found.2) in
        omega (arith, o, m, l)
