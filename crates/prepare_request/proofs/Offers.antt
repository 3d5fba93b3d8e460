-- The active contracts of a genuine log's inbox name only parties of the topology.
use Rattle.std.proofs.Common.{◌≡◌, ℕ, zero, suc, Bool, true, false, if◌then◌else◌, List, [], ◌∷◌, ◌++◌, Option, Some, None, refl, ap, subst, inl, inr}
use Rattle.ledger_terms.specs.declared.act.Act.{Act}
use Rattle.ledger_terms.specs.declared.action.Action.{Action}
use Rattle.ledger_terms.specs.declared.action.Action.TheVariants.{Create, Exercise, Fetch}
use Rattle.ledger_terms.specs.declared.active_row.ActiveRow.{ActiveRow}
use Rattle.ledger_terms.specs.declared.topology.Topology.{Topology}
use Rattle.ledger_model.specs.Forest.{acts}
use Rattle.ledger_model.specs.Opening.{Shown, roots_in}
use Rattle.ledger_model.specs.Terms.{ParticipantId, instance_of}
use Rattle.ledger_model.proofs.Lists.{In, contains_from_In, from_filter}
use Rattle.canton_model.specs.Genuine.{Genuine}
use Rattle.canton_model.specs.Inbox.{created_below, first_of_each, inbox, items_after, node_active, opened_at}
use Rattle.canton_model.specs.Inbox.{Notice, Nothing, Told, content_of, notice_by, shown_in_notice, verdict_content}
use Rattle.canton_model.specs.Log.{request_at, request_of}
use Rattle.canton_model.specs.Reading.{Reading, is_recipient, shown_to}
use Rattle.canton_model.specs.declared.entry.Entry.{Entry}
use Rattle.canton_model.specs.declared.message.Message.{Message}
use Rattle.canton_model.specs.declared.message.Message.TheVariants.{Request as RequestMessage, Response as ResponseMessage, Verdict as VerdictMessage, Tick}
use Rattle.canton_model.specs.declared.request.Request.{Request}
use Rattle.canton_model.specs.declared.verdict.Verdict.{Verdict}
use Rattle.canton_model.proofs.FirstRows.{create_below}
use Rattle.canton_model.proofs.InboxFacts.{shown_received}
use Rattle.lang_eval.specs.Found.{Packages}
use Rattle.lang_eval.specs.Named.{AreKnown, parties_in_action, parties_in_instance}
use Rattle.lang_eval.proofs.Known.{known_append, known_front}
use Rattle.interpret.specs.NamedParties.{parties_in_contracts}
use Rattle.view_split.specs.Placed.{placed_forest}
use Rattle.view_split.specs.SeenViews.{put_back}
use Rattle.contract_store.specs.Active.{knowns}
use Rattle.sealed_form.specs.Within.{is_hosted}
use Rattle.sealed_form.proofs.Parties.{own_known}
use Rattle.framed_form.specs.FramedReading.{framed_reading}
use Rattle.framed_form.proofs.Lawful.{are_framed}
use Rattle.framed_form.proofs.NoCollision.{opened_of}
use Rattle.framed_form.proofs.Sound.{given_by}
use Rattle.framed_form.proofs.Wholes.{complete_from}

-- a row that is the first of its contract is a row
among_first : (rows : List ActiveRow) (r : ActiveRow) → In r (first_of_each rows) → In r rows
among_first [] r h = h
among_first (x ∷ xs) r (inl same) = inl same
among_first (x ∷ xs) r (inr t) = inr (among_first xs r (from_filter _ (first_of_each xs) r t).0)

-- what is opened at a place of an inbox is opened of the request that stands there
pub record Opens (reading : Reading) (p : ParticipantId) (log : List Entry) (k : ℕ) (a : Act) : Type 0 where
  pub request : Request
  pub there : request_at log k ≡ Some request
  pub opened : In a (acts (roots_in (shown_to reading p request)))

module _ (reading : Reading) (p : ParticipantId) where
  told_nothing : (verdict : Verdict) (o : Option Request) → notice_by (verdict_content reading p verdict o) ≡ None
  told_nothing verdict None = refl
  told_nothing verdict (Some q) = by (is_recipient reading p q)
    where
      by : (b : Bool) → notice_by (if b then Told verdict else Nothing) ≡ None
      by true = refl
      by false = refl

  pub opens : (before log : List Entry) (k : ℕ) (a : Act) → In a (acts (opened_at (items_after reading p before log) k)) → Opens reading p log k a
  opens before [] zero a h = absurd h
  opens before [] (suc k) a h = absurd h
  opens before (entry ∷ rest) zero a h = by entry.message refl h
    where
      by : (m : Message) → entry.message ≡ m → In a (acts (roots_in (shown_in_notice (notice_by (content_of reading p before m)))))
          → Opens reading p (entry ∷ rest) zero a
      by (RequestMessage q) e i =
          record {
            request = q;
            there = ap request_of e;
            opened = subst (λ (o : Option Shown). In a (acts (roots_in o))) (shown_received reading p q) i;
          }
      by (ResponseMessage r) e i = absurd i
      by (VerdictMessage v) e i =
          absurd (subst (λ (o : Option Notice). In a (acts (roots_in (shown_in_notice o)))) (told_nothing v (request_at before v.request)) i)
      by Tick e i = absurd i
  opens before (entry ∷ rest) (suc k) a h =
      let found = opens (before ++ entry ∷ []) rest k a h in
      record { request = found.request; there = found.there; opened = found.opened }

-- the instance of an action names what the action names
instance_known : (known : List ℕ → Bool) (a : Action) → AreKnown known (parties_in_action a) → AreKnown known (parties_in_instance (instance_of a))
instance_known known (Create id i) h = h
instance_known known (Exercise id salt i choice args actors consuming result) h = known_front known (parties_in_instance i) _ h
instance_known known (Fetch id salt i actors) h = known_front known (parties_in_instance i) _ h

each_known : (known : List ℕ → Bool) (rows : List ActiveRow) → ((r : ActiveRow) → In r rows → AreKnown known (parties_in_instance r.known.instance))
    → AreKnown known (parties_in_contracts (knowns rows))
each_known known [] h = refl
each_known known (r ∷ rows) h =
    known_append known (parties_in_instance r.known.instance) (parties_in_contracts (knowns rows)) (h r (inl refl))
    (each_known known rows (λ x i. h x (inr i)))

module _ (topology : Topology) (packages : Packages) (log : List Entry) (genuine : Genuine (framed_reading topology packages) topology.params log)
    (p : ParticipantId) where
  abbrev reading : Reading
  reading = framed_reading topology packages

  -- what a complete envelope opens names parties of the topology
  pub of_request : (k : ℕ) (a : Act) → Opens reading p log k a → AreKnown (is_hosted topology) (parties_in_instance (instance_of a.action))
  of_request k a o =
      let framed = are_framed topology packages log genuine in
      let there = contains_from_In (acts (roots_in (shown_to reading p o.request))) a o.opened in
      let s = opened_of topology packages log framed k o.request o.there p a (shown_to reading p o.request) refl there in
      let given = given_by topology s.request s.participant s.opened s.is_opened in
      let complete = complete_from topology s.participant s.request given.0 s.opened given.2 in
      instance_known (is_hosted topology) a.action
      (own_known topology (acts (put_back (placed_forest (s.opened).views))) a complete.known s.in_opened)

  pub offers_name_parties : (n : ℕ) → AreKnown (is_hosted topology) (parties_in_contracts (knowns (node_active reading p (inbox reading p log) n)))
  offers_name_parties n =
      each_known (is_hosted topology) (node_active reading p (inbox reading p log) n)
      (λ r i.
      (let created = among_first (created_below reading (inbox reading p log) n) r (from_filter _ (first_of_each (created_below reading (inbox reading p log) n)) r i).0 in
      let w = create_below reading (inbox reading p log) n r created in
      subst (λ (x : ActiveRow). AreKnown (is_hosted topology) (parties_in_instance x.known.instance)) w.5
      (of_request w.0 w.3 (opens reading p [] log w.0 w.3 w.4))))
