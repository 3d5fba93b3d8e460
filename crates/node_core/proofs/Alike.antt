-- What is said of participants in general.
use Rattle.std.proofs.Common.{◌≡◌, ◌<◌, ◌≤◌, ℕ, zero, suc, ◌+◌, Bool, true, false, not, List, [], ◌∷◌, ◌++◌, drop, length, take, Option, Some, refl, sym, ap, ◌∙◌, subst, inl, inr, arith}
use Rattle.std.specs.Prelude.{◌&&◌, if◌then◌else◌, slice_get}
use Rattle.std.proofs.lemmas.Bool.{cases_lt}
use Rattle.std.proofs.lemmas.List.{length-append, take-append-le}
use Rattle.ledger_terms.specs.declared.known.Known.{Known}
use Rattle.ledger_terms.specs.declared.topology.Topology.{Topology}
use Rattle.ledger_model.specs.Terms.{ParticipantId}
use Rattle.canton_model.specs.Genuine.{Genuine}
use Rattle.canton_model.specs.Log.{Params}
use Rattle.canton_model.specs.Reading.{Reading}
use Rattle.canton_model.specs.Inbox.{Item, inbox, item_after, last_time}
use Rattle.canton_model.proofs.InboxFacts.{clean_is_clean}
use Rattle.canton_model.proofs.InboxGrows.{items_push}
use Rattle.canton_model.proofs.InboxOutcomes.{owed_front}
use Rattle.lang_eval.specs.Found.{Packages}
use Rattle.world_model.specs.Machine.{GenuineLog, Machine, confirms_some_view}
use Rattle.world_model.specs.Messages.{Entry, Response, ViewVerdict}
use Rattle.world_model.specs.Lawful.{NodeHas}
use Rattle.world_model.specs.Node.{NodeState, claim, finish, is_claimable, is_decided_now, outbox_head, owed_at, owes_at, put_back, read_entry, response_at, sent, with_flag}
use Rattle.world_model.specs.Places.{first_from, has_place}
use Rattle.world_model.proofs.NodeFacts.{first_from_is, inbox_length}
use Rattle.world_model.proofs.Steps.{has_claim, has_finish, has_flag, has_put_back, has_read, has_sent}
use Rattle.lang_eval.specs.Named.{AreKnown}
use Rattle.interpret.specs.NamedParties.{parties_in_contracts}
use Rattle.contract_store.specs.Active.{knowns}
use Rattle.framed_form.specs.FramedReading.{framed_reading}
use Rattle.sealed_form.specs.Within.{is_hosted}
use Rattle.pruned_inbox.specs.Alike.{AnswersAlike}
use Rattle.pruned_inbox.specs.Base.{IsBase}
use Rattle.pruned_inbox.specs.Forgotten.{silent_front}
use Rattle.pruned_inbox.specs.Start.{IsStart, Start, active_kept, verdicts_kept}
use Rattle.node_core.specs.Preparing.{offered, offered_by}
use Rattle.node_core.specs.Answers.{Answers, AreAlike, IsOf, answers_of}
use Rattle.node_core.specs.Participant.{CanRead, HasRead, IsPrunedTo, Participant, items_of, next_place, next_response, owed_there, owes_there, params_of}
use Rattle.node_core.specs.Participant.{reading_of, response_there, whole_state, with_state}
use Rattle.node_core.proofs.Fronts.{kept_front}
use Rattle.node_core.proofs.Growth.{owes_within}
use Rattle.node_core.proofs.LogEnds.{front_of}
use Rattle.node_core.proofs.OfferedNames.{offers_named}
use Rattle.node_core.proofs.Pruned.{end_of, item_is, kept_grown, pruned_alike, stays_pruned, time_stays}

-- the answers, by the parts that they rest on
abbrev answers_by : Topology → Packages → ParticipantId → Start → List Item → (claimed : List ℕ) → Bool → Answers
answers_by topology packages me start items claimed is_paused =
    answers_of (record {
      topology = topology;
      packages = packages;
      me = me;
      base = 0;
      base_time = 0;
      start = start;
      state = record { items = items; is_paused = is_paused; claimed = claimed; unfinished = []; outbox = [] };
    })

-- the first that passes, by tests that answer alike
first_same : (f g : ℕ → Bool) → ((k : ℕ) → f k ≡ g k) → (start count : ℕ) → first_from f start count ≡ first_from g start count
first_same f g same start zero = refl
first_same f g same start (suc count) =
    ap (λ (b : Bool). if b then Some start else first_from f (suc start) count) (same start)
    ∙ ap (λ (o : Option ℕ). if g start then Some start else o) (first_same f g same (suc start) count)

abbrev with_next : Answers → Option ℕ → Answers
with_next answers next = record answers { next_place = next }

-- with other claims, of which those of what is owed are the same
claims_alike : (topology : Topology) (packages : Packages) (me : ParticipantId) (start : Start) (items : List Item) (ks ls : List ℕ) (is_paused : Bool)
    → ((k : ℕ) → owes_at (framed_reading topology packages) me items k ≡ true → has_place ks k ≡ has_place ls k)
    → answers_by topology packages me start items ks is_paused ≡ answers_by topology packages me start items ls is_paused
claims_alike topology packages me start items ks ls is_paused same =
    ap (with_next (answers_by topology packages me start items ls is_paused))
    (first_same (λ k. (owes k && not (is_decided_now topology.params items k)) && not (has_place ks k))
    (λ k. (owes k && not (is_decided_now topology.params items k)) && not (has_place ls k)) (λ k. by k (owes k) refl) 0 (length items))
  where
    owes : ℕ → Bool
    owes = owes_at (framed_reading topology packages) me items

    by : (k : ℕ) (b : Bool) → owes k ≡ b
        → ((owes k && not (is_decided_now topology.params items k)) && not (has_place ks k))
        ≡ ((owes k && not (is_decided_now topology.params items k)) && not (has_place ls k))
    by k true e = ap (λ (c : Bool). (owes k && not (is_decided_now topology.params items k)) && not c) (same k e)
    by k false e = rw e refl

pub alike : (a b : Participant) → AreAlike a b → answers_of a ≡ answers_of b
alike a b is =
    claims_alike a.topology a.packages a.me a.start (items_of a) a.state.claimed b.state.claimed a.state.is_paused is.claimed
    ∙ (ap (λ (t : Topology). answers_by t a.packages a.me a.start (items_of a) b.state.claimed a.state.is_paused) is.topology
    ∙ (ap (λ (ps : Packages). answers_by b.topology ps a.me a.start (items_of a) b.state.claimed a.state.is_paused) is.packages
    ∙ (ap (λ (me : ParticipantId). answers_by b.topology b.packages me a.start (items_of a) b.state.claimed a.state.is_paused) is.me
    ∙ (ap (λ (start : Start). answers_by b.topology b.packages b.me start (items_of a) b.state.claimed a.state.is_paused) is.start
    ∙ (ap (λ (items : List Item). answers_by b.topology b.packages b.me b.start items b.state.claimed a.state.is_paused) is.items
    ∙ ap (answers_by b.topology b.packages b.me b.start (items_of b) b.state.claimed) is.is_paused)))))

-- the next response, by the parts that it rests on
abbrev sends_by : Params → List Item → List Response → Option Response
sends_by params items outbox =
    outbox_head params (record { items = items; is_paused = false; claimed = []; unfinished = []; outbox = outbox })

pub alike_next : (a b : Participant) → AreAlike a b → a.state.outbox ≡ b.state.outbox → next_response a ≡ next_response b
alike_next a b is outbox =
    ap (λ (t : Topology). sends_by t.params (items_of a) a.state.outbox) is.topology
    ∙ (ap (λ (items : List Item). sends_by (params_of b) items a.state.outbox) is.items
    ∙ ap (sends_by (params_of b) (items_of b)) outbox)

-- ---- what it has over what it has read

module _ (m : Machine) (p : Participant) (read : List Entry) (has : HasRead m read p) where
  abbrev whole : List Item
  whole = inbox (reading_of p) p.me read

  as_long : length (items_of p) ≡ length read
  as_long = (pruned_alike whole p has.pruned).cursor ∙ inbox_length (reading_of p) p.me [] read

  -- in another state with the same items
  pub same_pruned : (state : NodeState) → state.items ≡ items_of p → IsPrunedTo whole (with_state p state)
  same_pruned state same =
      let was = has.pruned in
      record { orderly = was.orderly; is_base = was.is_base; starts = was.starts; time = was.time; kept = same ∙ was.kept }

  pub keeps : (state : NodeState) → state.items ≡ items_of p → NodeHas m p.me read (whole_state (with_state p state) whole) → HasRead m read (with_state p state)
  keeps state same node = record { node = node; pruned = same_pruned state same }

  -- it reads as the machine does
  module _ (is : IsOf m p) where
    genuine_here : (log : List Entry) → GenuineLog m log → Genuine (reading_of p) (params_of p) log
    genuine_here log genuine =
        subst (λ (ps : Params). Genuine (reading_of p) ps log) is.params (subst (λ (r : Reading). Genuine r m.params log) is.reading genuine)

    pub can_read : (entry : Entry) → GenuineLog m (read ++ entry ∷ []) → CanRead p (read ++ entry ∷ [])
    can_read entry genuine =
        let cursor : length (read ++ entry ∷ []) ≡ length (items_of p) + 1 = omega (arith, length-append read (entry ∷ []), as_long) in
        record {
          cursor = cursor;
          genuine = genuine_here (read ++ entry ∷ []) genuine;
          before =
              subst (λ (xs : List Entry). IsPrunedTo (inbox (reading_of p) p.me xs) p) (sym (front_of read entry (length (items_of p)) cursor)) has.pruned;
        }

    pub keeps_read : (entry : Entry) → GenuineLog m (read ++ entry ∷ [])
        → HasRead m (read ++ entry ∷ []) (with_state p (read_entry (reading_of p) p.me p.state read entry))
    keeps_read entry genuine =
        let n = length read in
        let list = read ++ entry ∷ [] in
        let was = has.pruned in
        let mine = genuine_here list genuine in
        let cursor : length list ≡ n + 1 = length-append read (entry ∷ []) in
        let front = front_of read entry n cursor in
        let is_base = subst (λ (xs : List Entry). IsBase (params_of p) (inbox (reading_of p) p.me xs) p.base) (sym front) was.is_base in
        let starts = subst (λ (xs : List Entry). IsStart (reading_of p) (inbox (reading_of p) p.me xs) p.base p.start) (sym front) was.starts in
        let there : slice_get list n ≡ Some entry = end_of read entry in
        let same = subst (λ (xs : List Entry). AnswersAlike (reading_of p) (params_of p) p.me (inbox (reading_of p) p.me xs) (items_of p) p.base p.start) (sym front) (pruned_alike whole p was) in
        let stays = stays_pruned (reading_of p) (params_of p) p.me p.base p.start list n entry mine cursor there is_base starts in
        record {
          node = subst (λ (xs : List Item). NodeHas m p.me list (whole_state p xs))
              (ap (λ (r : Reading). whole ++ item_after r p.me read entry ∷ []) is.reading ∙ sym (items_push (reading_of p) p.me [] read entry))
              (has_read m p.me read (whole_state p whole) entry has.node);
          pruned = record {
            orderly = stays.orderly;
            is_base = stays.based;
            starts = stays.started;
            time = was.time ∙ (ap (λ (xs : List Entry). last_time (take p.base (inbox (reading_of p) p.me xs))) (sym front)
                ∙ sym (time_stays (reading_of p) (params_of p) p.me p.base p.start list n entry mine cursor there is_base starts (items_of p) same));
            kept = ap (λ (x : Item). items_of p ++ x ∷ [])
                (sym (item_is (reading_of p) (params_of p) p.me p.base p.start list n entry mine cursor there is_base starts (items_of p) same read entry refl))
                ∙ kept_grown (reading_of p) (params_of p) p.me p.base p.start list n entry mine cursor there is_base starts (items_of p) same p.base_time
                (was.kept ∙ ap (λ (xs : List Entry). silent_front p.base p.base_time ++ drop p.base (inbox (reading_of p) p.me xs)) (sym front));
          };
        }

    -- it owes nothing below its base
    from_base : (k : ℕ) → owes_there p k ≡ true → p.base ≤ k
    from_base k owes =
        elim (cases_lt k p.base) [
          | inl below ↦
              let none : owes_there p k ≡ false = ap confirms_some_view ((pruned_alike whole p has.pruned).unnoticed k below) in
              let wrong : true ≡ false = sym owes ∙ none in absurd (cc)
          | inr far ↦ far
        ]

    -- what it owes is what it would owe with the whole inbox
    owed_alike : (k : ℕ) → owes_there p k ≡ true → owed_there p k ≡ owed_at (reading_of p) (params_of p) p.me whole k
    owed_alike k owes =
        let alike = pruned_alike whole p has.pruned in
        kept_front (reading_of p) (params_of p) (items_of p) k p.me p.start
        ∙ (sym (alike.owed k (from_base k owes)) ∙ sym (owed_front whole k (reading_of p) (params_of p) p.me))

    pub keeps_finish : (k : ℕ) → owes_there p k ≡ true → HasRead m read (with_state p (finish p.state (response_there p k)))
    keeps_finish k owes =
        let alike = pruned_alike whole p has.pruned in
        let there : owes_at (reading_of p) p.me whole k ≡ true = ap confirms_some_view (sym (alike.noticed k (from_base k owes))) ∙ owes in
        let here = subst (λ (r : Reading). owes_at r p.me whole k ≡ true) (sym is.reading) there in
        let response : response_at m.reading m.params p.me whole k ≡ response_there p k =
        ap (λ (r : Reading). response_at r m.params p.me whole k) is.reading
        ∙ (ap (λ (ps : Params). response_at (reading_of p) ps p.me whole k) is.params
        ∙ ap (λ (verdicts : List ViewVerdict). record { from = p.me; request = k; verdicts = verdicts }) (sym (owed_alike k owes))) in
        keeps (finish p.state (response_there p k)) refl
        (subst (λ (r : Response). NodeHas m p.me read (finish (whole_state p whole) r)) response
        (has_finish m p.me read (whole_state p whole) k has.node (owes_within whole (reading_of p) p.me k there) here))

    pub offers_known : GenuineLog m read → AreKnown (is_hosted p.topology) (parties_in_contracts (offered_by p))
    offers_known genuine =
        let alike = pruned_alike whole p has.pruned in
        let base = alike.base_is_clean in
        let clean = (clean_is_clean (params_of p) whole).within in
        let same : offered (reading_of p) p.me whole ≡ offered_by p =
        ap knowns (alike.active (length whole) (omega (arith, base, clean)))
        ∙ ap (λ (n : ℕ). knowns (active_kept (reading_of p) p.me p.start (items_of p) n)) (sym alike.cursor) in
        subst (λ (known : List Known). AreKnown (is_hosted p.topology) (parties_in_contracts known)) same
        (offers_named p.topology p.packages read p.me (genuine_here read genuine))

  pub keeps_claim : (k : ℕ) → next_place p ≡ Some k → HasRead m read (with_state p (claim p.state k))
  keeps_claim k next =
      let below = (first_from_is (is_claimable (reading_of p) (params_of p) p.me p.state) 0 (length (items_of p)) k next).below in
      let long = inbox_length (reading_of p) p.me [] read in
      keeps (claim p.state k) refl (has_claim m p.me read (whole_state p whole) k has.node (omega (arith, below, long, as_long)))

  pub keeps_sent : (k : ℕ) → HasRead m read (with_state p (sent p.state k))
  keeps_sent k = keeps (sent p.state k) refl (has_sent m p.me read (whole_state p whole) k has.node)

  pub keeps_put_back : (k : ℕ) → HasRead m read (with_state p (put_back p.state k))
  keeps_put_back k = keeps (put_back p.state k) refl (has_put_back m p.me read (whole_state p whole) k has.node)

  pub keeps_flag : (paused : Bool) → HasRead m read (with_state p (with_flag p.state paused))
  keeps_flag paused = keeps (with_flag p.state paused) refl (has_flag m p.me read (whole_state p whole) paused has.node)

pub owed_stays : (p : Participant) (before : List Entry) (entry : Entry) (k : ℕ) → k < length (items_of p)
    → owed_there (with_state p (read_entry (reading_of p) p.me p.state before entry)) k ≡ owed_there p k
owed_stays p before entry k lt =
    ap (λ (xs : List Item). verdicts_kept (reading_of p) (params_of p) p.me p.start xs k)
    (take-append-le (suc k) (items_of p) (item_after (reading_of p) p.me before entry ∷ []) lt)
