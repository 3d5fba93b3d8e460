-- A genuine log of framed requests is in range: its participants are some of the topology's, and what is owed and decided has small numbers.
use Rattle.std.proofs.Common.{◌≡◌, ℕ, zero, suc, ◌+◌, ◌-◌, ◌<◌, ◌≤◌, ◌^◌, Bool, true, List, [], ◌∷◌, ◌++◌, filter, map, take, length, Option, Some, None, All, refl, sym, ap, ◌∙◌, subst, inl, inr, arith}
use Rattle.std.specs.Prelude.{find, option_map, slice_get}
use Rattle.std.specs.List.{list_any, range_with_len}
use Rattle.std.specs.Str.{bytes_eq}
use Rattle.std.proofs.lemmas.Bool.{cases_Bool, cases_lt}
use Rattle.std.proofs.lemmas.List.{length-map}
use Rattle.std.proofs.lemmas.List.Elements.{All-append, All-cons, All-nil}
use Rattle.std.proofs.lemmas.Option.{none-some, same_Some, slice_get_past}
use Rattle.ledger_terms.specs.Forest.{Forest, NoRoots, Root, paths_from, preorder, size}
use Rattle.ledger_terms.specs.Hosting.{confirms_at}
use Rattle.ledger_terms.specs.declared.act.Act.{Act}
use Rattle.ledger_terms.specs.declared.topology.Topology.{Topology}
use Rattle.ledger_model.specs.Opening.{OpenedView, Shown}
use Rattle.ledger_model.specs.Terms.{ParticipantId, Path}
use Rattle.ledger_model.proofs.Lists.{In, at_in, contains_from_In, from_filter, in_append_cases, in_at, in_drop_in, in_from_Contains, in_take_in}
use Rattle.lang_eval.specs.Found.{Packages}
use Rattle.canton_model.specs.Checks.{Check, checks, first_place, first_shown, is_from, is_well_split, verdict_on_found, verdict_on_offer, verdict_on_view, verdicts_on, verdicts_owed, view_at}
use Rattle.canton_model.specs.Genuine.{FitsIfResponse, Genuine, ResponseFits}
use Rattle.canton_model.specs.Inbox.{Item, Notice, content_of, inbox, is_locked_in_inbox, item_after, item_time, notice_at, notice_by, notice_in, received, status_in_inbox}
use Rattle.canton_model.specs.Ledger.{FitsIfVerdict, VerdictFits}
use Rattle.canton_model.specs.Log.{Params, request_at, request_in, request_of}
use Rattle.canton_model.specs.Mediation.{scan}
use Rattle.canton_model.specs.Reading.{Outlined, Reading, is_recipient, paths_confirmed, placed_outline, view_paths}
use Rattle.canton_model.proofs.Mediated.{rejection, timeout}
use Rattle.world_model.specs.Messages.{Entry, Message, RequestMessage, ResponseMessage, VerdictMessage, Tick, Request, Response, Verdict, ViewVerdict, Decision, Approved, Rejected, TimedOut}
use Rattle.world_model.proofs.Grown.{request_within, scan_request_there}
use Rattle.world_model.proofs.NodeFacts.{item_at}
use Rattle.world_model.proofs.Steps.{entry_of_request}
use Rattle.blind_tree.specs.declared.shown_for.OpenedFor.{OpenedFor}
use Rattle.blind_tree.specs.declared.shown_for.OpenedFor.TheVariants.{Mismatch, Missing, Open}
use Rattle.blind_tree.specs.declared.view_roles.ViewRoles.{ViewRoles}
use Rattle.view_split.specs.Placed.{shown_by}
use Rattle.view_split.specs.declared.opened_tree.OpenedTree.{OpenedTree}
use Rattle.sealed_form.specs.Within.{participants_of}
use Rattle.framed_form.specs.Framed.{IsFramed, RisesBetween, recipient_of}
use Rattle.framed_form.specs.FramedForm.{offered}
use Rattle.framed_form.specs.FramedReading.{framed_reading, offer_of}
use Rattle.framed_form.proofs.Lawful.{are_framed}
use Rattle.canton_model.specs.declared.envelope.Envelope.{Envelope}
use Rattle.message_bytes.specs.InRange.{IsDecision, IsLocalVerdict, IsParticipant, IsResponse, IsStep, IsVerdict, IsViewVerdict}
use Rattle.message_bytes.specs.Spellable.{AreSpellable, IsSpellableDecision, IsSpellableViewVerdict}
use Rattle.log_bounds.proofs.Requests.{all_in, few_asked, few_envelopes, in_map, one_in, views_fit}
use Rattle.log_bounds.proofs.Told.{placed_size}
use Rattle.log_dump.specs.InRange.{IsEntry, IsEnvelope, IsLog, IsMessage, IsRequest, IsTyped, NamesCommand}
use Rattle.log_dump.specs.Spellable.{IsSpellableEntry, IsSpellableLog, IsSpellableMessage}
use Rattle.node_inbox.proofs.Checkable.{can_be_checked}
use Rattle.log_bounds.proofs.Room.{can_be_dumped, short}

-- ---- participants

below_all : (a n k : ℕ) → In k (range_with_len a n) → k < a + n
below_all a zero k i = absurd i
below_all a (suc n) k (inl same) = let e : a ≡ k = same in omega (arith, e)
below_all a (suc n) k (inr i) = let r = below_all (a + 1) n k i in omega (arith, r)

pub asked_below : (topology : Topology) (request : Request) (p : ℕ) → IsFramed topology request → In p request.confirming → p < length topology.hosts
asked_below topology request p framed i =
    let test = λ (q : ParticipantId). list_any (λ (view : ViewRoles). list_any (confirms_at topology.hosts q) view.confirmers) (framed.roles).views in
    let there : In p (filter test (participants_of topology)) = subst (In p) framed.confirming i in
    let below = below_all 0 (length topology.hosts) p (from_filter test (participants_of topology) p there).0 in omega (arith, below)

rises_below : (low : ℕ) (envelopes : List Envelope) (high : ℕ) → RisesBetween low (map recipient_of envelopes) high
    → ((envelope : Envelope) → In envelope envelopes → envelope.to < high) × (low ≤ high)
rises_below low [] high r = (λ e i. absurd i, r)
rises_below low (x ∷ rest) high r =
    let more = rises_below (suc x.to) rest high r.1 in
    let top = more.1 in (
      λ e i.
          elim i [
            | inl same ↦ subst (λ (y : Envelope). y.to < high) same (omega (arith, top))
            | inr later ↦ more.0 e later
          ],
      omega (arith, top, r.0),
    )

-- ---- paths and numbers

module _ {A : Type 0} where
  steps_below : (bound : ℕ) (above : Path) (k : ℕ) (f : Forest A) → All (λ s. s < bound) above → k + size f ≤ bound → (v : Path × A)
      → In v (preorder (paths_from above k f)) → All (λ s. s < bound) v.0
  steps_below bound above k NoRoots fits few v i = absurd i
  steps_below bound above k (Root root below others) fits few v (inl same) =
      subst (λ (w : Path × A). All (λ s. s < bound) w.0) same
      (All-append (λ s. s < bound) above (k ∷ []) fits (All-cons (λ s. s < bound) k [] (omega (arith, few)) (All-nil (λ s. s < bound))))
  steps_below bound above k (Root root below others) fits few v (inr i) =
      let here : All (λ s. s < bound) (above ++ k ∷ []) =
      All-append (λ s. s < bound) above (k ∷ []) fits (All-cons (λ s. s < bound) k [] (omega (arith, few)) (All-nil (λ s. s < bound))) in
      elim (in_append_cases (preorder (paths_from (above ++ k ∷ []) 0 below)) (preorder (paths_from above (suc k) others)) v i) [
        | inl inside ↦ steps_below bound (above ++ k ∷ []) 0 below here (omega (arith, few)) v inside
        | inr after ↦ steps_below bound above (suc k) others fits (omega (arith, few)) v after
      ]

-- a number below 65,536
small : (n : ℕ) → n < 65536 → n < 2 ^ 16
small n lt = let same : 65536 ≤ 2 ^ 16 = omega arith in omega (arith, lt, same)

first_below : {X : Type 0} (test : X → Bool) (xs : List X) → list_any test xs ≡ true → first_place test xs < length xs
first_below test [] e = cc
first_below test (x ∷ xs) e =
    elim (cases_Bool (test x)) [
      | inl b ↦ rw b (omega arith)
      | inr b ↦ let later : list_any test xs ≡ true = rw b at e in let r = first_below test xs later in rw b (omega (arith, r))
    ]

zero_small : 0 < 2 ^ 16
zero_small = small 0 (omega arith)

shown_small : (cs : List Check) (core : List (ℕ × Act)) → length core ≤ 65536 → IsLocalVerdict (first_shown cs core)
shown_small [] core few = tt
shown_small (check ∷ rest) core few =
    elim (cases_Bool (list_any check.is_shown_by core)) [
      | inl b ↦ rw b (let r = first_below check.is_shown_by core b in small (first_place check.is_shown_by core) (omega (arith, r, few)))
      | inr b ↦ rw b (shown_small rest core few)
    ]

found_in : {X : Type 0} (test : X → Bool) (xs : List X) (x : X) → find test xs ≡ Some x → In x xs
found_in test [] x e = absurd (none-some x e)
found_in test (y ∷ xs) x e =
    elim (cases_Bool (test y)) [
      | inl b ↦ (let here : Some y ≡ Some x = rw b at e in inl (same_Some y x here))
      | inr b ↦ (let later : find test xs ≡ Some x = rw b at e in inr (found_in test xs x later))
    ]

module _ (topology : Topology) (packages : Packages) (params : Params) (p : ParticipantId) (items : List Item) (k : ℕ) (request : Request)
    (framed : IsFramed topology request) where
  abbrev its_reading : Reading
  its_reading = framed_reading topology packages

  view_small : (shown : Shown) (view : OpenedView) → length view.core ≤ 65536
      → IsLocalVerdict (verdict_on_view its_reading params p items k request.sender shown view)
  view_small shown view few =
      elim (cases_Bool (is_from its_reading request.sender shown)) [
        | inr b ↦ rw b zero_small
        | inl b ↦
            rw b
            (elim (cases_Bool (is_well_split its_reading shown view)) [
              | inr c ↦ rw c zero_small
              | inl c ↦
                  rw c
                  (shown_small
                  (checks its_reading params p (item_time (slice_get items k)) shown view (status_in_inbox its_reading items k) (is_locked_in_inbox its_reading params items k))
                  view.core few)
            ])
      ]

  found_small : (tree : OpenedTree) → offered topology p request ≡ Open tree → (path : Path) (o : Option OpenedView) → view_at path (shown_by tree).views ≡ o
      → IsLocalVerdict (verdict_on_found its_reading params p items k request.sender (shown_by tree) o)
  found_small tree is path None e = zero_small
  found_small tree is path (Some view) e =
      let there : In view (shown_by tree).views = found_in (λ (v : OpenedView). bytes_eq path v.path) (shown_by tree).views view e in
      let fits = can_be_checked topology request p framed tree is packages view (contains_from_In (shown_by tree).views view there) in
      view_small (shown_by tree) view fits.few

  offer_small : (path : Path) (o : OpenedFor) → offered topology p request ≡ o
      → IsLocalVerdict (verdict_on_offer its_reading params p items k request.sender path (offer_of o))
  offer_small path Mismatch is = zero_small
  offer_small path Missing is = zero_small
  offer_small path (Open tree) is = found_small tree is path (view_at path (shown_by tree).views) refl

  verdict_small : (path : Path) → IsLocalVerdict (verdict_on_offer its_reading params p items k request.sender path (its_reading.offered p request))
  verdict_small path = offer_small path (offered topology p request) refl

  path_small : (path : Path) → In path (paths_confirmed its_reading p request) → All IsStep path
  path_small path i =
      let keeps = λ (view : Path × Outlined). list_any (its_reading.confirms p) (view.1).confirmers in
      let placed = preorder (placed_outline its_reading request) in
      let v = in_map (λ (view : Path × Outlined). view.0) (filter keeps placed) path i in
      let there : In v.0 placed = (from_filter keeps placed v.0 v.1).0 in
      let most = (views_fit topology packages request framed.short_mediator).few in
      let l : length (view_paths its_reading request) ≡ length placed = length-map placed (λ (view : Path × Outlined). view.0) in
      let s : length placed ≡ size (its_reading.outline request) = placed_size [] 0 (its_reading.outline request) in
      let few : 0 + size (its_reading.outline request) ≤ 2 ^ 16 = let wide : 65536 ≤ 2 ^ 16 = omega arith in omega (arith, most, l, s, wide) in
      subst (All IsStep) v.2 (steps_below (2 ^ 16) [] 0 (its_reading.outline request) (All-nil (λ s. s < 2 ^ 16)) few v.0 there)

  -- what is owed to it
  abbrev OnPath : ViewVerdict → Type 0
  OnPath v = All IsStep v.view × IsLocalVerdict v.verdict

  owed_on : (v : ViewVerdict) → In v (verdicts_on its_reading params p items k (notice_by (received its_reading p request))) → OnPath v
  owed_on v =
      let verdict : Path → ViewVerdict = λ path.
      record { view = path; verdict = verdict_on_offer its_reading params p items k request.sender path (its_reading.offered p request) } in
      elim (cases_Bool (is_recipient its_reading p request)) [
        | inl here ↦
            rw here
            (λ i.
            let path = in_map verdict (paths_confirmed its_reading p request) v i in
            subst OnPath path.2 (path_small path.0 path.1, verdict_small path.0))
        | inr away ↦ rw away (λ i. absurd i)
      ]

module _ (topology : Topology) (packages : Packages) (log : List Entry) (some : 0 < length topology.hosts) (few : length topology.hosts ≤ 255)
    (genuine : Genuine (framed_reading topology packages) topology.params log) (counted : length log < 2 ^ 32) where
  abbrev reads : Reading
  reads = framed_reading topology packages

  abbrev most : ℕ
  most = length topology.hosts - 1

  framed_at : (k : ℕ) (request : Request) → request_at log k ≡ Some request → IsFramed topology request
  framed_at k request at = are_framed topology packages log genuine k request at

  participant : (p : ℕ) → p < length topology.hosts → IsParticipant most p
  participant p lt = omega (arith, lt)

  place : (k : ℕ) → k < length log → k < 2 ^ 64
  place k lt = let wide : 2 ^ 32 ≤ 2 ^ 64 = omega arith in omega (arith, lt, counted, wide)

  within : (k : ℕ) (entry : Entry) → slice_get log k ≡ Some entry → k < length log
  within k entry at =
      elim (cases_lt k (length log)) [ inl lt ↦ lt | inr past ↦ absurd (none-some entry (sym (slice_get_past log k past) ∙ at)) ]

  -- ---- a request

  request_ranged : (request : Request) → IsFramed topology request → NamesCommand (RequestMessage request) → IsRequest most request
  request_ranged request framed named =
      let asked = few_asked topology request framed in
      let sent = few_envelopes topology request framed in
      let rises = (rises_below 0 request.envelopes (length topology.hosts) framed.envelopes).0 in
      record {
        sender_is = participant request.sender framed.sender;
        command_is = named;
        confirming_are = record {
          few = omega (arith, asked, few);
          each = all_in (IsParticipant most) request.confirming (λ p i. participant p (asked_below topology request p framed i));
        };
        mediator_is = record { few = short (length request.mediator) framed.short_mediator; each = framed.mediator_bytes };
        envelopes_are = record {
          few = omega (arith, sent, few);
          each = all_in (IsEnvelope most) request.envelopes (λ e i.
              let c = contains_from_In request.envelopes e i in
              record {
                to_is = participant e.to (rises e i);
                bytes_are = record { few = short (length e.bytes) (framed.short e c); each = framed.bytes e c };
              });
        };
      }

  -- ---- a response

  request_kept : (xs : List Entry) (j : ℕ) (q : Request) → request_at xs j ≡ Some q → request_at (take (suc j) xs) j ≡ Some q
  request_kept [] j q e = e
  request_kept (x ∷ xs) zero q e = e
  request_kept (x ∷ xs) (suc j) q e = request_kept xs j q e

  owed_small : (p : ParticipantId) (xs : List Entry) (j : ℕ) (q : Request) → request_at xs j ≡ Some q → IsFramed topology q → (v : ViewVerdict)
      → In v (verdicts_owed reads topology.params p (inbox reads p xs) j) → All IsStep v.view × IsLocalVerdict v.verdict
  owed_small p xs j q at framed v i =
      let there = entry_of_request (slice_get xs j) q at in
      let told : notice_at (inbox reads p xs) j ≡ notice_by (received reads p q) =
      ap notice_in (item_at reads p j [] xs)
      ∙ (ap (λ (o : Option Entry). notice_in (option_map (item_after reads p (take j xs)) o)) there.1
      ∙ ap (λ (m : Message). notice_by (content_of reads p (take j xs) m)) there.2) in
      owed_on topology packages topology.params p (inbox reads p xs) j q framed v
      (subst (λ (o : Option Notice). In v (verdicts_on reads topology.params p (inbox reads p xs) j o)) told i)

  response_ranged : (k time : ℕ) (r : Response) → k < length log → ResponseFits reads topology.params log k time r → AreSpellable r.verdicts → IsResponse most r
  response_ranged k time r lt fit spelled =
      let framed = framed_at r.request fit.request fit.there in
      let earlier = fit.earlier in
      record {
        from_is = participant r.from
            (asked_below topology fit.request r.from framed (in_from_Contains (fit.request).confirming r.from fit.confirming));
        request_is = place r.request (omega (arith, earlier, lt));
        few = spelled.few;
        each = all_in IsViewVerdict r.verdicts (λ v i.
            let owed = subst (In v) fit.owed i in
            let ranged = owed_small r.from (take (suc r.request) log) r.request fit.request (request_kept log r.request fit.request fit.there) framed v owed in
            record {
              view_is = record { few = one_in IsSpellableViewVerdict r.verdicts spelled.each v i; steps = ranged.0 };
              verdict_is = ranged.1;
            });
      }

  spellable : IsSpellableLog log
  spellable = can_be_dumped topology packages log few genuine counted

  spelled_at : (k : ℕ) (entry : Entry) → slice_get log k ≡ Some entry → IsSpellableMessage entry.message
  spelled_at k entry at = one_in IsSpellableEntry log spellable.each entry (at_in log k entry at)

  response_there : (entry : Entry) (r : Response) → In entry log → entry.message ≡ ResponseMessage r → IsResponse most r
  response_there entry r i is =
      let at = in_at log entry i in
      let fit : ResponseFits reads topology.params log at.0 entry.time r =
      subst (FitsIfResponse reads topology.params log at.0 entry.time) is (genuine.responses at.0 entry at.1) in
      response_ranged at.0 entry.time r (within at.0 entry at.1) fit (subst IsSpellableMessage is (spelled_at at.0 entry at.1))

  -- ---- a verdict

  request_front : (n : ℕ) (xs : List Entry) (j : ℕ) (q : Request) → request_at (take n xs) j ≡ Some q → request_at xs j ≡ Some q
  request_front zero xs j q e = absurd (none-some q e)
  request_front (suc n) [] j q e = e
  request_front (suc n) (x ∷ xs) zero q e = e
  request_front (suc n) (x ∷ xs) (suc j) q e = request_front n xs j q e

  decision_ranged : (k j : ℕ) (d : Decision) → scan topology.params (take k log) j ≡ Some d → IsSpellableDecision d → IsDecision most d
  decision_ranged k j Approved e spelled = tt
  decision_ranged k j (Rejected from view reason) e spelled =
      let there = scan_request_there topology.params (take k log) j (Rejected from view reason) e in
      let h = rejection topology.params (take k log) j there.0 from view reason there.1 e in
      let rejects = h.4 in
      let inside = in_take_in log k h.0 (in_drop_in (suc j) (take k log) h.0 h.2) in
      let ranged = response_there h.0 h.1 inside h.3 in
      let listed = one_in IsViewVerdict (h.1).verdicts ranged.each _ rejects.listed in
      (subst (IsParticipant most) rejects.from ranged.from_is, listed.view_is)
  decision_ranged k j (TimedOut missing) e spelled =
      let there = scan_request_there topology.params (take k log) j (TimedOut missing) e in
      let late = timeout topology.params (take k log) j there.0 missing there.1 e in
      let q = there.0 in
      let framed = framed_at j q (request_front k log j q there.1) in
      record {
        few = spelled.few;
        each = all_in (IsParticipant most) missing (λ p i.
            let left = subst (In p) late.exact i in
            participant p (asked_below topology q p framed (from_filter _ q.confirming p left).0));
        ascend = spelled.ascend;
      }

  verdict_ranged : (k time : ℕ) (v : Verdict) → VerdictFits topology.params log k time v → IsSpellableDecision v.decision → IsVerdict most v
  verdict_ranged k time v fit spelled =
      let there = scan_request_there topology.params (take k log) v.request v.decision fit.decided in
      record {
        request_is = place v.request (request_within log v.request there.0 (request_front k log v.request there.0 there.1));
        decision_is = decision_ranged k v.request v.decision fit.decided spelled;
      }

  -- ---- the log

  message_ranged : (k : ℕ) (entry : Entry) (m : Message) → slice_get log k ≡ Some entry → entry.message ≡ m → NamesCommand m → IsSpellableMessage m → IsMessage most m
  message_ranged k entry Tick at is named spelled = tt
  message_ranged k entry (RequestMessage q) at is named spelled =
      request_ranged q (framed_at k q (ap request_in at ∙ ap request_of is)) named
  message_ranged k entry (ResponseMessage r) at is named spelled = response_there entry r (at_in log k entry at) is
  message_ranged k entry (VerdictMessage v) at is named spelled =
      let fit : VerdictFits topology.params log k entry.time v =
      subst (FitsIfVerdict topology.params log k entry.time) is ((genuine.timely).verdicts k entry at) in
      verdict_ranged k entry.time v fit spelled

  pub in_range : All IsTyped log → IsLog most log
  in_range typed =
      record {
        few = counted;
        each = all_in (IsEntry most) log (λ entry i.
            let at = in_at log entry i in
            let its = one_in IsTyped log typed entry i in
            record { time_is = its.time_is; message_is = message_ranged at.0 entry entry.message at.1 refl its.command_is (spelled_at at.0 entry at.1) });
      }
