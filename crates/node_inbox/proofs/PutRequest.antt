-- A request is put behind the items that were read.
use Rattle.std.proofs.Common.{◌≡◌, ℕ, ◌+◌, ◌-◌, ◌^◌, ◌<◌, ◌≤◌, Bool, true, List, [], ◌∷◌, ◌++◌, length, map, None, refl, sym, ap, ◌∙◌, subst, arith}
use Rattle.std.specs.Prelude.{All, if◌then◌else◌}
use Rattle.std.proofs.lemmas.List.Elements.{All-cons, All-nil}
use Rattle.ledger_terms.specs.declared.act.Act.{Act}
use Rattle.ledger_terms.specs.declared.topology.Topology.{Topology}
use Rattle.ledger_model.specs.Forest.{acts}
use Rattle.ledger_model.specs.Terms.{Hash, ParticipantId, id_of}
use Rattle.canton_model.specs.declared.outcome.Outcome.TheVariants as kind
use Rattle.canton_model.specs.Inbox.{Item, Received, is_locked_in_inbox, is_received, last_time, moments, verdict_in}
use Rattle.canton_model.specs.Reading.{Reading}
use Rattle.lang_eval.specs.Found.{Packages}
use Rattle.request_track.specs.Pairs.{Pair, expired, tracked_at}
use Rattle.request_track.specs.declared.tracked.Tracked.{Tracked}
use Rattle.framed_form.specs.FramedReading.{framed_reading}
use Rattle.pruned_inbox.specs.Start.{Start, status_kept}
use Rattle.confirm_reply.specs.Facts.{IsFactOf}
use Rattle.confirm_reply.specs.declared.id_facts.IdFacts.{IdFacts}
use Rattle.inbox_registry.specs.ChangeLists.{hold_on, id_in}
use Rattle.inbox_registry.specs.Order.{IsBelow}
use Rattle.inbox_registry.specs.Requests.{decision_after, pairs_from, pairs_in, told_time, tracked_of}
use Rattle.inbox_registry.specs.Registry.{Registered, known_status}
use Rattle.inbox_registry.specs.Steps.{AllAfter, HoldsFollow, InStep}
use Rattle.inbox_registry.proofs.Followed.{Comes, follows_request, request_comes}
use Rattle.inbox_registry.proofs.Order.{in_order_push}
use Rattle.inbox_registry.proofs.Told.{locked_told, status_told}
use Rattle.inbox_registry.proofs.Tracked.{in_step_from, none_at_end, pairs_push}
use Rattle.node_inbox.specs.Acts.{blank_fact, fact_in}
use Rattle.node_inbox.specs.Coming.{IsComing}
use Rattle.node_inbox.specs.Items.{model_content, model_items, notice_of}
use Rattle.node_inbox.specs.Kept.{IsInbox, IsKept}
use Rattle.node_inbox.specs.Offers.{opened_changes, roots_offered}
use Rattle.node_inbox.specs.Reads.{HasRead, item_with, kept_with}
use Rattle.node_inbox.specs.declared.coming.ComingRequest.{ComingRequest}
use Rattle.node_inbox.specs.declared.kept_item.KeptContent.TheVariants as kept
use Rattle.node_inbox.specs.declared.kept_item.KeptItem.{KeptItem}
use Rattle.node_inbox.proofs.Put.{as_many, has_read}

all_mapped : {X Y : Type 0} (P : Y → Type 0) (f : X → Y) (xs : List X) → ((x : X) → P (f x)) → All P (map f xs)
all_mapped P f [] h = All-nil P
all_mapped P f (x ∷ xs) h = All-cons P (f x) (map f xs) (h x) (all_mapped P f xs h)

same_ids : (stands : Registered) (facts : List IdFacts) → map (λ (fact : IdFacts). fact.id) (map (fact_in stands) facts) ≡ map (λ (fact : IdFacts). fact.id) facts
same_ids stands [] = refl
same_ids stands (x ∷ xs) = ap (λ (ids : List Hash). x.id ∷ ids) (same_ids stands xs)

blank_ids : (xs : List Act) → map (λ (fact : IdFacts). fact.id) (map blank_fact xs) ≡ map (λ (act : Act). id_of act.action) xs
blank_ids [] = refl
blank_ids (x ∷ xs) = ap (λ (ids : List Hash). id_of x.action ∷ ids) (blank_ids xs)

-- the last has the same decision time
after_other : (p : Pair) (ps : List Pair) (n : ℕ) (t u : Tracked) → t.decision ≡ u.decision → AllAfter p (ps ++ (n, t) ∷ []) → AllAfter p (ps ++ (n, u) ∷ [])
after_other p [] n t u e a = let d = a.0.1 in ((a.0.0, omega (arith, d, e)), tt)
after_other p (q ∷ ps) n t u e a = (a.0, after_other p ps n t u e a.1)

last_other : (ps : List Pair) (n : ℕ) (t u : Tracked) → t.decision ≡ u.decision → InStep (ps ++ (n, t) ∷ []) → InStep (ps ++ (n, u) ∷ [])
last_other [] n t u e s = (tt, tt)
last_other (p ∷ ps) n t u e s = (after_other p ps n t u e s.0, last_other ps n t u e s.1)

module _ (topology : Topology) (packages : Packages) (me : ParticipantId) (old : List KeptItem) (coming : ComingRequest) (time : ℕ)
    (comes : IsComing topology packages me coming) where
  abbrev reading : Reading
  reading = framed_reading topology packages

  abbrev x : Item
  x = item_with time (Received (notice_of coming.kept))

  got : is_received x.content ≡ true
  got = refl

  quiet : verdict_in x.content ≡ None
  quiet = refl

  below : IsBelow (length (model_items old)) (verdict_in x.content)
  below = tt

  module _ (stands mid : Registered) (i : IsInbox topology packages me old stands) (start : mid.start ≡ stands.start)
      (c : Comes reading topology.params stands.start (model_items old) x mid) where
    abbrev Fact : Start → ℕ → IdFacts → Type 0
    Fact from n fact =
        IsFactOf (status_kept reading from (model_items old ++ x ∷ []) n) (is_locked_in_inbox reading topology.params (model_items old ++ x ∷ []) n) fact

    fact_is : (fact : IdFacts) → Fact stands.start (length old) (fact_in mid fact)
    fact_is fact =
        subst (λ (n : ℕ). Fact stands.start n (fact_in mid fact)) (as_many old) (record {
          status = ap (λ (from : Start). known_status from (mid.store).rows fact.id) start
              ∙ status_told reading (model_items old) x stands.start (mid.store).rows fact.id i.order c.rows;
          locked = locked_told reading (model_items old) x topology.params (mid.tracking).pairs (mid.store).holds fact.id quiet c.pairs c.holds;
        })

    kept_is : IsKept topology packages me stands.start (model_items old ++ x ∷ []) (length old) (kept_with coming.kept mid)
    kept_is = record {
      came = record {
        request = comes.came.request;
        is_framed = comes.came.is_framed;
        is_to = comes.came.is_to;
        sender_is = comes.came.sender_is;
        command_is = comes.came.command_is;
        root_is = comes.came.root_is;
        seen_is = comes.came.seen_is;
        confirmed_is = comes.came.confirmed_is;
        envelope_is = comes.came.envelope_is;
        offer_is = comes.came.offer_is;
      };
      changes = comes.parts.changes_are;
      facts = all_mapped (Fact stands.start (length old)) (fact_in mid) (coming.kept).facts fact_is;
      all_ids = same_ids mid (coming.kept).facts ∙ ap (map (λ (fact : IdFacts). fact.id)) comes.parts.facts_are ∙ blank_ids (acts (roots_offered (coming.kept).offer));
    }

  pub read_request : (new : List KeptItem) (place : ℕ) (stands begun mid stands' : Registered) → IsInbox topology packages me old stands
      → last_time (model_items old) < time → time ≤ 2 ^ 64 - 1
      → (begun.store).rows ≡ (stands.store).rows → (begun.store).holds ≡ (stands.store).holds
      → (begun.tracking).pairs ≡ (stands.tracking).pairs
      ++ ((stands.tracking).cursor, record { decision = told_time (decision_after topology.params time); outcome = kind.Undecided }) ∷ []
      → (begun.tracking).cursor ≡ (stands.tracking).cursor → place ≡ (begun.tracking).cursor
      → (mid.store).rows ≡ (begun.store).rows → (mid.tracking).pairs ≡ expired time (begun.tracking).pairs
      → HoldsFollow (begun.tracking).pairs (mid.tracking).pairs (begun.store).holds (mid.store).holds
      → (mid.tracking).cursor ≡ (begun.tracking).cursor
      → (stands'.store).rows ≡ (mid.store).rows → (stands'.store).holds ≡ (mid.store).holds ++ map (hold_on place) coming.ids
      → (stands'.tracking).pairs ≡ (mid.tracking).pairs → (stands'.tracking).cursor ≡ (mid.tracking).cursor + 1
      → new ≡ old ++ record { time = time; content = kept.Received (kept_with coming.kept mid) } ∷ []
      → mid.start ≡ stands.start → stands'.start ≡ stands.start
      → HasRead topology packages me old new stands.start stands' (item_with time (model_content (kept.Received coming.kept)))
  read_request new place stands begun mid stands' i later fits rows holds pairs cursor at rows2 pairs2 holds2 cursor2 rows3 holds3 pairs3 cursor3 put start start' =
      let c = request_comes reading topology.params stands.start (model_items old) x stands begun mid got quiet fits later i.order i.follows rows holds pairs cursor rows2 pairs2 holds2 cursor2 in
      let here : place ≡ length (model_items old) = at ∙ cursor ∙ i.follows.cursor in
      let ids : coming.ids ≡ map id_in (opened_changes (coming.kept).offer) =
      comes.ids ∙ ap (map id_in) comes.parts.changes_are in
      has_read topology packages me old new (record { time = time; content = kept.Received (kept_with coming.kept mid) }) stands stands' i later below
      (kept_is stands mid i start c)
      (follows_request reading topology.params stands.start (model_items old) x mid stands' got quiet later i.order c rows3
      (holds3 ∙ ap (λ (n : ℕ). (mid.store).holds ++ map (hold_on n) coming.ids) here
      ∙ ap (λ (hs : List Hash). (mid.store).holds ++ map (hold_on (length (model_items old))) hs) ids)
      pairs3 cursor3) put start'

  -- with the request that comes, what is tracked is in step
  pub begun_steps : (stands begun : Registered) → IsInbox topology packages me old stands → last_time (model_items old) < time
      → (begun.tracking).pairs ≡ (stands.tracking).pairs
      ++ ((stands.tracking).cursor, record { decision = told_time (decision_after topology.params time); outcome = kind.Undecided }) ∷ []
      → InStep (begun.tracking).pairs
  begun_steps stands begun i later pairs =
      let params = topology.params in
      let items = model_items old in
      let n : 0 + length items ≡ length items = omega arith in
      let o = in_order_push items x i.order later below in
      let more : InStep (pairs_from params (moments items) 0 items ++ (length items, tracked_of params (moments items) (length items) time) ∷ []) =
      subst (λ (k : ℕ). InStep (pairs_from params (moments items) 0 items ++ (k, tracked_of params (moments items) k time) ∷ [])) n
      (subst (λ (b : Bool). InStep (pairs_from params (moments items) 0 items
      ++ (if b then (0 + length items, tracked_of params (moments items) (0 + length items) time) ∷ [] else []))) got
      (subst InStep (pairs_push params (moments items) 0 items x) (in_step_from params (moments items) 0 (items ++ x ∷ []) o.rise))) in
      let other : InStep (pairs_in params items ++ (length items, record { decision = told_time (decision_after params time); outcome = kind.Undecided }) ∷ []) =
      last_other (pairs_in params items) (length items) (tracked_of params (moments items) (length items) time)
      (record { decision = told_time (decision_after params time); outcome = kind.Undecided }) refl more in
      let is : (begun.tracking).pairs ≡ pairs_in params items ++ (length items, record { decision = told_time (decision_after params time); outcome = kind.Undecided }) ∷ [] =
      pairs ∙ ap (λ (ps : List Pair). ps ++ ((stands.tracking).cursor, record { decision = told_time (decision_after params time); outcome = kind.Undecided }) ∷ []) i.follows.pairs
      ∙ ap (λ (k : ℕ). pairs_in params items ++ (k, record { decision = told_time (decision_after params time); outcome = kind.Undecided }) ∷ []) i.follows.cursor in
      subst InStep (sym is) other

-- nothing is tracked at the end
pub none_yet : (topology : Topology) (packages : Packages) (me : ParticipantId) (old : List KeptItem) (stands : Registered) → IsInbox topology packages me old stands
    → tracked_at (stands.tracking).pairs (stands.tracking).cursor ≡ None
none_yet topology packages me old stands i =
    ap (λ (ps : List Pair). tracked_at ps (stands.tracking).cursor) i.follows.pairs
    ∙ ap (tracked_at (pairs_in topology.params (model_items old))) i.follows.cursor ∙ none_at_end topology.params (model_items old)
