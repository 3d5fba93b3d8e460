-- The state of a participant that has read a short log of framed requests has a spelling.
use Rattle.std.proofs.Common.{◌≡◌, ℕ, zero, suc, ◌+◌, ◌*◌, ◌<◌, ◌≤◌, ◌^◌, Bool, true, false, List, [], ◌∷◌, ◌++◌, drop, filter, length, map, take, refl, sym, ap, subst, ◌∙◌, inl, inr, arith, lit<}
use Rattle.std.specs.Prelude.{Option, Some, None, ◌&&◌, if◌then◌else◌, nat_eq, nat_le, not, slice_index}
use Rattle.std.specs.List.{AllByRecursion, IsDistinct, list_any}
use Rattle.std.specs.List.Sorted.{IsStrictlyIncreasing}
use Rattle.std.specs.Str.{bytes_eq}
use Rattle.std.specs.Cmp.Lexicographic.{nat_list_eq_equiv, slice_cmp, texts_ties}
use Rattle.std.specs.Ordering.{is_lt, is_eq, nat_cmp}
use Rattle.std.specs.declared.cmp.Ordering.{Ordering}
use Rattle.std.specs.declared.cmp.Ordering.TheVariants.{Less, Equal, Greater}
use Rattle.std.proofs.lemmas.Bool.{and_parts, both_ways, cases_Bool, eq-eqb, eqb-true, or_cases}
use Rattle.std.proofs.lemmas.List.{length-drop, length-map}
use Rattle.std.proofs.lemmas.List.Elements.{All-contains}
use Rattle.std.proofs.lemmas.Map.Made.{length-le_from_is_member}
use Rattle.std.proofs.lemmas.Map.Steps.{length-le_from_distinct_below}
use Rattle.std.proofs.lemmas.Slice.Eq.{bytes_eq-Decides}
use Rattle.ledger_terms.specs.Parties.{AllAbove, IsRising}
use Rattle.ledger_terms.specs.declared.act.Act.{Act}
use Rattle.ledger_terms.specs.declared.active_row.ActiveRow.{ActiveRow}
use Rattle.ledger_terms.specs.declared.topology.Topology.{Topology}
use Rattle.ledger_model.specs.Terms.{Hash, ParticipantId, consumes, creates, id_of, is_on}
use Rattle.ledger_model.proofs.Lists.{In, contains_from_In, from_any, from_filter, in_any, in_at, in_drop_in, in_map}
use Rattle.canton_model.specs.Checks.{verdicts_owed}
use Rattle.canton_model.specs.Inbox.{Item, Nothing, Received, Told, authentic_below, content_of, created_below, first_of_each, inbox, item_after, items_after, notice_of, verdict_content}
use Rattle.canton_model.specs.Log.{request_at}
use Rattle.canton_model.specs.Reading.{Reading, is_recipient}
use Rattle.canton_model.specs.declared.envelope.Envelope.{Envelope}
use Rattle.canton_model.specs.declared.request.Request.{Request}
use Rattle.canton_model.specs.declared.response.Response.{Response}
use Rattle.canton_model.specs.declared.verdict.Verdict.{Verdict}
use Rattle.canton_model.proofs.LongerLogs.{genuine_take}
use Rattle.message_bytes.specs.Spellable.{AreSpellable, IsSpellableResponse, IsSpellableVerdict}
use Rattle.sealed_form.specs.SealedForm.{envelope_to}
use Rattle.framed_form.specs.Collisions.{AreFramed}
use Rattle.framed_form.specs.Framed.{IsFramed}
use Rattle.framed_form.proofs.Decided.{framed_decides}
use Rattle.framed_form.proofs.Lawful.{are_framed}
use Rattle.world_model.specs.Messages.{Entry, Message, RequestMessage, ResponseMessage, Tick, VerdictMessage}
use Rattle.world_model.specs.Node.{owed_at}
use Rattle.world_model.specs.Places.{has_place}
use Rattle.world_model.proofs.NodeFacts.{inbox_length}
use Rattle.pruned_inbox.specs.Forgotten.{silent_front}
use Rattle.pruned_inbox.specs.Start.{Start, has_row, is_gone, is_left_by, touches}
use Rattle.node_state.specs.declared.item.Item.{Item as StateItem}
use Rattle.node_state.specs.declared.item_what.ItemWhat.{ItemWhat}
use Rattle.node_state.specs.declared.item_what.ItemWhat.TheVariants as raw
use Rattle.node_state.specs.declared.node_state.NodeState.{NodeState as State}
use Rattle.log_bounds.proofs.Logs.{few_authentic, few_created, rows_spelled}
use Rattle.log_bounds.proofs.Owed.{owed_fit}
use Rattle.log_bounds.proofs.Requests.{all_in, confirmed_fit, filter_length, seen_fit}
use Rattle.log_dump.specs.Spellable.{IsSpellableEntry, IsSpellableLog, IsSpellableMessage}
use Rattle.log_bounds.proofs.Room.{can_be_dumped}
use Rattle.snapshot_store.specs.InRange.{AreCounted}
use Rattle.snapshot_store.specs.Spellable.{AreSpellableIds, AreSpellablePaths, AreSpellablePlaces, IsSpellableEnvelope, IsSpellableItem, IsSpellableRow, IsSpellableState, IsSpellableWhat}
use Rattle.node_inbox.specs.Raw.{IsCame, content_by, item_by}
use Rattle.node_core.specs.Duties.{AreToDistinct}
use Rattle.node_core.specs.Participant.{Participant, items_of, params_of, reading_of}
use Rattle.node_restart.specs.Short.{HasReadShort}

-- ---- ids that rise are few among few

not_equal : (o : Ordering) → is_lt o ≡ true → is_eq o ≡ false
not_equal Less h = refl
not_equal Equal h = cc
not_equal Greater h = cc

above_apart : (a : List ℕ) (ids : List (List ℕ)) → AllAbove a ids → AllByRecursion (λ (b : List ℕ). bytes_eq a b ≡ false) ids
above_apart a [] h = tt
above_apart a (b ∷ ids) h = (texts_ties a b ∙ not_equal (slice_cmp nat_cmp a b) h.0, above_apart a ids h.1)

rising_distinct : (ids : List (List ℕ)) → IsRising ids → IsDistinct bytes_eq ids
unfolding IsDistinct
rising_distinct [] h = tt
rising_distinct (a ∷ ids) h = (above_apart a ids h.0, rising_distinct ids h.1)

same_id : (a b : List ℕ) → bytes_eq a b ≡ true → a ≡ b
same_id a b h = (bytes_eq-Decides a b).0 h

is_same : (a : List ℕ) → bytes_eq a a ≡ true
is_same a = (bytes_eq-Decides a a).1 refl

few_among : (ids others : List (List ℕ)) → IsRising ids → ((id : List ℕ) → In id ids → In id others) → length ids ≤ length others
few_among ids others rising within =
    length-le_from_is_member nat_list_eq_equiv ids others (rising_distinct ids rising)
    (λ q has.
    let found = from_any (bytes_eq q) ids has in
    in_any (bytes_eq q) others found.0 (within found.0 found.1) found.2)

-- ---- the requests of responses

requests_in : (n : ℕ) (responses : List Response) → ((response : Response) → In response responses → response.request < n) → (k : ℕ)
    → has_place (map (λ (response : Response). response.request) responses) k ≡ true → k < n
requests_in n [] below k h = absurd (both_ways false refl h)
requests_in n (response ∷ rest) below k h =
    elim (or_cases (nat_eq k response.request) (has_place (map (λ (r : Response). r.request) rest) k) h) [
      | inl here ↦ let same = eqb-true k response.request here in let lt = below response (inl refl) in omega (arith, same, lt)
      | inr there ↦ requests_in n rest (λ r i. below r (inr i)) k there
    ]

-- ---- rows, one of each

first_length : (rows : List ActiveRow) → length (first_of_each rows) ≤ length rows
first_length [] = omega arith
first_length (x ∷ xs) =
    let r = first_length xs in
    let f = filter_length (λ (later : ActiveRow). not (bytes_eq later.known.id x.known.id)) (first_of_each xs) in
    omega (arith, r, f)

first_of_rows : (rows : List ActiveRow) (row : ActiveRow) → In row (first_of_each rows) → In row rows
first_of_rows [] row i = absurd i
first_of_rows (x ∷ xs) row (inl same) = inl same
first_of_rows (x ∷ xs) row (inr i) =
    inr (first_of_rows xs row (from_filter (λ (later : ActiveRow). not (bytes_eq later.known.id x.known.id)) (first_of_each xs) row i).0)

-- ---- places that rise below a number are few

-- each of them is at least as great as its index
index_below : (xs : List ℕ) → IsStrictlyIncreasing xs → (n k : ℕ) → k < length xs → ((j : ℕ) → j < length xs → slice_index xs j < n) → k < n
index_below xs rises n k lt below = let at = far k lt in let b = below k lt in omega (arith, at, b)
  where
    far : (k : ℕ) → k < length xs → k ≤ slice_index xs k
    far zero lt = omega arith
    far (suc k) lt =
        let before = far k (omega (arith, lt)) in
        let next : k + 1 ≡ suc k = omega arith in
        let step = subst (λ (n : ℕ). slice_index xs k < slice_index xs n) next (rises k (omega (arith, lt))) in
        omega (arith, before, step)

few_places : (xs : List ℕ) (n : ℕ) → IsStrictlyIncreasing xs → ((x : ℕ) → In x xs → x < n) → length xs ≤ n
few_places [] n rises below = omega arith
few_places (x ∷ xs) n rises below =
    let last = index_below (x ∷ xs) rises n (length xs) (omega arith) (λ j lt. below (slice_index (x ∷ xs) j) (index_in (x ∷ xs) j lt)) in
    omega (arith, last)
  where
    index_in : (ys : List ℕ) (j : ℕ) → j < length ys → In (slice_index ys j) ys
    index_in [] j lt = absurd (omega (arith, lt))
    index_in (y ∷ ys) zero lt = inl refl
    index_in (y ∷ ys) (suc j) lt = inr (index_in ys j (omega (arith, lt)))

in_has : (places : List ℕ) (k : ℕ) → In k places → has_place places k ≡ true
in_has places k i = in_any (nat_eq k) places k i (eq-eqb k k refl)

-- ---- verdicts that an inbox is told stand in its log

module _ (reading : Reading) (p : ParticipantId) where
  told_by : (before : List Entry) (message : Message) (v : Verdict) → content_of reading p before message ≡ Told v → message ≡ VerdictMessage v
  told_by before (RequestMessage request) v is = by (is_recipient reading p request) is
    where
      by : (to : Bool) → (if to then Received (notice_of reading p request) else Nothing) ≡ Told v → RequestMessage request ≡ VerdictMessage v
      by true h = absurd cc
      by false h = absurd cc
  told_by before (ResponseMessage response) v is = absurd cc
  told_by before Tick v is = absurd cc
  told_by before (VerdictMessage w) v is = by (request_at before w.request) is
    where
      if_told : (to : Bool) → (if to then Told w else Nothing) ≡ Told v → VerdictMessage w ≡ VerdictMessage v
      if_told true h = let same : w ≡ v = cc in ap VerdictMessage same
      if_told false h = absurd cc

      by : (o : Option Request) → verdict_content reading p w o ≡ Told v → VerdictMessage w ≡ VerdictMessage v
      by None h = absurd cc
      by (Some request) h = if_told (is_recipient reading p request) h

  pub told_in : (before rest : List Entry) (item : Item) (v : Verdict) → In item (items_after reading p before rest) → item.content ≡ Told v
      → (entry : Entry) × In entry rest × (entry.message ≡ VerdictMessage v)
  told_in before [] item v i is = absurd i
  told_in before (entry ∷ rest) item v (inl same) is =
      (entry, inl refl, told_by before entry.message v (ap (λ (x : Item). x.content) same ∙ is))
  told_in before (entry ∷ rest) item v (inr i) is = let r = told_in (before ++ entry ∷ []) rest item v i is in (r.0, inr r.1, r.2)

-- the items of the first entries are the first items
items_front : (reading : Reading) (p : ParticipantId) (before log : List Entry) (n : ℕ)
    → items_after reading p before (take n log) ≡ take n (items_after reading p before log)
items_front reading p before log zero = refl
items_front reading p before [] (suc n) = refl
items_front reading p before (entry ∷ log) (suc n) =
    ap (λ (items : List Item). item_after reading p before entry ∷ items) (items_front reading p (before ++ entry ∷ []) log n)

-- ---- envelopes

envelope_in : (p : ParticipantId) (envelopes : List Envelope) (bytes : List ℕ) → envelope_to p envelopes ≡ Some bytes
    → (envelope : Envelope) × In envelope envelopes × (envelope.bytes ≡ bytes)
envelope_in p [] bytes h = absurd cc
envelope_in p (e ∷ envelopes) bytes h =
    elim (cases_Bool (nat_eq e.to p)) [
      | inl is ↦ (e, inl refl, let same : e.bytes ≡ bytes = by_true h is in same)
      | inr not ↦ (let r = envelope_in p envelopes bytes (by_false h not) in (r.0, inr r.1, r.2))
    ]
  where
    by_true : envelope_to p (e ∷ envelopes) ≡ Some bytes → nat_eq e.to p ≡ true → e.bytes ≡ bytes
    by_true h is = let found : Some e.bytes ≡ Some bytes = sym (ap (λ (t : Bool). if t then Some e.bytes else envelope_to p envelopes) is) ∙ h in cc

    by_false : envelope_to p (e ∷ envelopes) ≡ Some bytes → nat_eq e.to p ≡ false → envelope_to p envelopes ≡ Some bytes
    by_false h not = sym (ap (λ (t : Bool). if t then Some e.bytes else envelope_to p envelopes) not) ∙ h

short_envelope : (p : ParticipantId) (topology : Topology) (request : Request) → IsFramed topology request → (o : Option (List ℕ))
    → o ≡ envelope_to p request.envelopes → IsSpellableEnvelope o
short_envelope p topology request framed None is = tt
short_envelope p topology request framed (Some bytes) is =
    let found = envelope_in p request.envelopes bytes (sym is) in
    let few = framed.short found.0 (contains_from_In request.envelopes found.0 found.1) in
    let same : length (found.0).bytes ≡ length bytes = ap length found.2 in
    let most : 4194304 < 2 ^ 32 = lit< tt in omega (arith, few, same, most)

-- ---- a silent front

front_left : (b t : ℕ) (ys : List Item) → drop b (silent_front b t ++ ys) ≡ ys
front_left zero t ys = refl
front_left (suc b) t ys = front_left b t ys

-- ---- a participant, its log and its state

module _ (p : Participant) (log : List Entry) (state : State) (has : HasReadShort p log state) where
  abbrev reading : Reading
  reading = reading_of p

  abbrev whole : List Item
  whole = inbox reading p.me log

  long : length whole ≡ length log
  long = inbox_length reading p.me [] log

  within : p.base ≤ length log
  within = let w = ((has.pruned).is_base).within in omega (arith, w, long)

  framed : AreFramed p.topology log
  framed = are_framed p.topology p.packages log has.genuine

  spelled_log : IsSpellableLog log
  spelled_log =
      let short = has.short in
      let most : 2 ^ 15 < 2 ^ 32 = lit< tt in
      can_be_dumped p.topology p.packages log has.hosts has.genuine (omega (arith, short, most))

  -- ---- what is left at the base

  acts_few : length (authentic_below reading whole p.base) < 2 ^ 32
  acts_few =
      let few = few_authentic p.topology p.packages p.me log framed p.base in
      let short = has.short in
      let room : 131072 * 32767 < 2 ^ 32 = lit< tt in omega (arith, few, within, short, room)

  active_is : state.active ≡ filter (is_left_by (authentic_below reading whole p.base)) (first_of_each (created_below reading whole p.base))
  active_is = ap (λ (start : Start). start.active) (has.state_is).start ∙ ((has.pruned).starts).active

  active_spelled : AreCounted IsSpellableRow state.active
  active_spelled =
      let rows = first_of_each (created_below reading whole p.base) in
      let left = is_left_by (authentic_below reading whole p.base) in
      let kept = filter_length left rows in
      let first = first_length (created_below reading whole p.base) in
      let few = few_created p.topology p.packages p.me log framed p.base in
      let short = has.short in
      let room : 131072 * 32767 < 2 ^ 32 = lit< tt in
      subst (AreCounted IsSpellableRow) (sym active_is)
      (record {
        few = omega (arith, kept, first, few, within, short, room);
        each = all_in IsSpellableRow (filter left rows)
            (λ row i.
            rows_spelled p.topology p.packages p.me log framed p.base row
            (first_of_rows (created_below reading whole p.base) row (from_filter left rows row i).0));
      })

  abbrev touched : List Hash
  touched = map (λ (act : Act). id_of act.action) (authentic_below reading whole p.base)

  gone_is : state.gone ≡ (p.start).gone
  gone_is = ap (λ (start : Start). start.gone) (has.state_is).start

  gone_touched : (id : Hash) → In id (p.start).gone → In id touched
  gone_touched id i =
      let gone : is_gone p.start id ≡ true = in_any (λ (one : Hash). bytes_eq one id) (p.start).gone id i (is_same id) in
      let both = and_parts (list_any (touches id) (authentic_below reading whole p.base)) (not (has_row (p.start).active id)) (sym (((has.pruned).starts).gone id) ∙ gone) in
      let act = from_any (touches id) (authentic_below reading whole p.base) both.0 in
      let on : is_on id act.0 ≡ true =
      elim (or_cases (creates id act.0) (consumes id act.0) act.2) [
        | inl made ↦ (and_parts (is_on id act.0) _ made).0
        | inr used ↦ (and_parts (is_on id act.0) _ used).0
      ] in
      subst (λ (c : Hash). In c touched) (same_id (id_of (act.0).action) id on) (in_map (λ (a : Act). id_of a.action) (authentic_below reading whole p.base) act.0 act.1)

  gone_spelled : AreSpellableIds state.gone
  gone_spelled =
      let rising = ((has.pruned).starts).ascend in
      let few = few_among (p.start).gone touched rising gone_touched in
      let many : length touched ≡ length (authentic_below reading whole p.base) = length-map (authentic_below reading whole p.base) (λ (act : Act). id_of act.action) in
      subst AreSpellableIds (sym gone_is) (record { few = omega (arith, few, many, acts_few); ascend = rising })

  -- ---- the inbox

  kept_is : map (item_by p.topology) state.items ≡ drop p.base whole
  kept_is =
      (has.state_is).items
      ∙ (ap (drop p.base) (has.pruned).kept ∙ front_left p.base p.base_time (drop p.base whole))

  what_spelled : (items : List Item) (what : ItemWhat) → IsCame p.topology p.packages p.me items what
      → ((v : Verdict) → what ≡ raw.Verdict v → IsSpellableVerdict v) → IsSpellableWhat what
  what_spelled items raw.Nothing came told = tt
  what_spelled items (raw.Verdict v) came told = told v refl
  what_spelled items (raw.Request sender command root seen confirmed envelope) came told =
      let framed = (framed_decides p.topology came.request).0 came.is_framed in (
        subst AreSpellablePaths (sym came.seen_is) (seen_fit p.topology p.packages came.request framed.short_mediator p.me),
        subst AreSpellablePaths (sym came.confirmed_is) (confirmed_fit p.topology p.packages came.request framed.short_mediator p.me),
        short_envelope p.me p.topology came.request framed envelope came.envelope_is,
      )

  verdict_spelled : (item : StateItem) → In item state.items → (v : Verdict) → item.what ≡ raw.Verdict v → IsSpellableVerdict v
  verdict_spelled item i v is =
      let seen = subst (λ (items : List Item). In (item_by p.topology item) items) kept_is (in_map (item_by p.topology) state.items item i) in
      let there = in_drop_in p.base whole (item_by p.topology item) seen in
      let told : (item_by p.topology item).content ≡ Told v = ap (λ (what : ItemWhat). content_by p.topology what) is in
      let entry = told_in reading p.me [] log (item_by p.topology item) v there told in
      let spelled = All-contains IsSpellableEntry log entry.0 spelled_log.each (contains_from_In log entry.0 entry.1) in
      subst (λ (message : Message). IsSpellableMessage message) entry.2 spelled

  items_spelled : AreCounted IsSpellableItem state.items
  items_spelled =
      let many : length state.items ≡ length (drop p.base whole) = sym (length-map state.items (item_by p.topology)) ∙ ap length kept_is in
      let left = length-drop p.base whole in
      let short = has.short in
      let most : 2 ^ 15 < 2 ^ 32 = lit< tt in
      record {
        few = omega (arith, many, left, long, short, most);
        each = all_in IsSpellableItem state.items
            (λ item i.
            let at = in_at state.items item i in
            what_spelled (take (p.base + at.0) (items_of p)) item.what ((has.state_is).came at.0 item at.1) (λ v is. verdict_spelled item i v is));
      }

  -- ---- what waits and what is done

  -- what is owed to a request is said of the items up to it, which are the inbox of the entries up to it
  owed_spelled : (k : ℕ) → AreSpellable (owed_at reading (params_of p) p.me whole k)
  owed_spelled k =
      subst (λ (items : List Item). AreSpellable (verdicts_owed reading (params_of p) p.me items k)) (items_front reading p.me [] log (suc k))
      (owed_fit p.topology p.packages (params_of p) (take (suc k) log) p.me k (are_framed p.topology p.packages (take (suc k) log) (genuine_take reading (params_of p) log (suc k) has.genuine)))

  outbox_few : length (p.state).outbox < 2 ^ 32
  outbox_few =
      let outbox = (p.state).outbox in
      let requests = map (λ (response : Response). response.request) outbox in
      let few = length-le_from_distinct_below requests (length log) (subst AreToDistinct (has.state_is).outbox (has.state_is).once)
      (requests_in (length log) outbox (λ response i. has.answers response (contains_from_In outbox response i))) in
      let many = length-map outbox (λ (response : Response). response.request) in
      let short = has.short in
      let most : 2 ^ 15 < 2 ^ 32 = lit< tt in omega (arith, few, many, short, most)

  outbox_spelled : AreCounted IsSpellableResponse state.outbox
  outbox_spelled =
      let outbox = (p.state).outbox in
      subst (AreCounted IsSpellableResponse) (sym (has.state_is).outbox)
      (record {
        few = outbox_few;
        each = all_in IsSpellableResponse outbox
            (λ response i. subst AreSpellable (sym (has.owed response (contains_from_In outbox response i))) (owed_spelled response.request));
      })

  done_spelled : AreSpellablePlaces state.done
  done_spelled =
      let few = few_places state.done (length log) (has.state_is).ascend
      (λ k i.
      let done = sym ((has.state_is).done k) ∙ in_has state.done k i in
      let parts = and_parts (nat_le p.base k && has_place (p.state).claimed k) _ done in
      has.claims k (and_parts (nat_le p.base k) (has_place (p.state).claimed k) parts.0).1) in
      let short = has.short in
      let most : 2 ^ 15 < 2 ^ 32 = lit< tt in
      record { few = omega (arith, few, short, most); ascend = (has.state_is).ascend }

  pub state_spelled : IsSpellableState state
  state_spelled = record { active = active_spelled; gone = gone_spelled; items = items_spelled; outbox = outbox_spelled; done = done_spelled }
