-- A participant that begins from its state, pruned to the base of its inbox, has restarted.
use Rattle.std.proofs.Common.{◌≡◌, ℕ, ◌<◌, ◌≤◌, ◌^◌, Contains, Err, IfOk, List, [], Ok, Result, ap, length, refl, subst, sym, ◌∙◌, arith, lit<}
use Rattle.lang_eval.specs.Found.{Packages}
use Rattle.ledger_terms.specs.declared.topology.Topology.{Topology}
use Rattle.canton_model.specs.Genuine.{Genuine}
use Rattle.canton_model.specs.Inbox.{Item, inbox}
use Rattle.canton_model.specs.Log.{Params}
use Rattle.canton_model.specs.Reading.{Reading}
use Rattle.canton_model.specs.declared.response.Response.{Response}
use Rattle.world_model.specs.Machine.{Machine}
use Rattle.world_model.specs.Messages.{Entry}
use Rattle.world_model.specs.Node.{owed_at}
use Rattle.world_model.proofs.NodeFacts.{inbox_length}
use Rattle.pruned_inbox.specs.Base as base_specs
use Rattle.pruned_inbox.specs.Base.{IsBase}
use Rattle.pruned_inbox.specs.Start.{GoesOn}
use Rattle.pruned_inbox.proofs.Restarted.{front_base}
use Rattle.node_state.specs.declared.node_state.NodeState.{NodeState as State}
use Rattle.snapshot_store.specs.Spellable.{IsSpellableState}
use Rattle.node_core.specs.Participant.{HasRead, IsPrunedTo, Participant, items_of, params_of, pruned_at, reading_of}
use Rattle.node_core.specs.States.{IsLawful, IsStateOf, MayBegin, begun_again, responses_from, start_in}
use Rattle.node_core.proofs.Again.{pruned_again}
use Rattle.node_core.proofs.LawfulStates.{lawful, may_begin}
use Rattle.node_core.proofs.Pruned.{kept_is}
use Rattle.node_core.proofs.PrunedStates.{next_is_base, next_is_later}
use Rattle.node_core.proofs.Restarted.{has_inbox, read_again}
use Rattle.node_restart.specs.Restarted.{CanRestart, HasRestarted}
use Rattle.node_restart.proofs.Spelled.{state_spelled}

-- the state of a participant, pruned to the base of its inbox
module _ (p : Participant) (state : State) (at : state.base ≡ base_specs.base (params_of p) (items_of p))
    (on : GoesOn (reading_of p) (items_of p) state.base p.start (start_in state))
    (states : (whole : List Item) → IsPrunedTo whole p → IsStateOf (pruned_at state.base (start_in state) p) state) where
  abbrev later : Participant
  later = pruned_at state.base (start_in state) p

  module _ (m : Machine) (log : List Entry) where
    abbrev whole : List Item
    whole = inbox (reading_of p) p.me log

    -- ---- it begins from that, and has restarted

    module _ (had : HasRead m log p) where
      abbrev pruned : IsPrunedTo whole p
      pruned = had.pruned

      abbrev of : IsStateOf later state
      of = states whole pruned

      -- it is pruned to there
      based : IsBase (params_of p) (items_of p) state.base
      based = subst (IsBase (params_of p) (items_of p)) (sym at) (next_is_base whole p pruned)

      pub onward : p.base ≤ state.base
      onward = subst (λ (n : ℕ). p.base ≤ n) (sym at) (next_is_later whole p pruned)

      pruned_later : IsPrunedTo whole later
      pruned_later = pruned_again whole p pruned state.base onward based (start_in state) on

      read_later : HasRead m log later
      read_later = record { node = had.node; pruned = pruned_later }

      -- the base of what it kept is that of all that it has received
      base_is : state.base ≡ base_specs.base (params_of p) whole
      base_is = at ∙ (ap (base_specs.base (params_of p)) (kept_is whole p pruned) ∙ front_base (params_of p) p.base whole pruned.orderly pruned.is_base)

      pub has_restarted : HasRestarted m log p (begun_again p.topology p.packages state)
      has_restarted =
          record {
            topology = refl;
            packages = refl;
            me = of.me;
            base = base_is;
            paused = of.paused;
            claimed = of.done;
            unfinished = refl;
            outbox = ap (responses_from state.base) of.outbox;
            read = read_again m log later read_later state of;
            inbox = has_inbox whole later pruned_later state of;
          }

    -- ---- over a short log

    module _ (can : CanRestart m log p) where
      genuine : Genuine (reading_of p) (params_of p) log
      genuine =
          subst (λ (ps : Params). Genuine (reading_of p) ps log) (can.is_of).params
          (subst (λ (r : Reading). Genuine r m.params log) (can.is_of).reading can.genuine)

      long : length whole ≡ length log
      long = inbox_length (reading_of p) p.me [] log

      owed_to : (response : Response) → Contains (p.state).outbox response → response.verdicts ≡ owed_at (reading_of p) (params_of p) p.me whole response.request
      owed_to response waits =
          let own = ((can.read).node).outbox response waits in
          ap (λ (r : Response). r.verdicts) own.is
          ∙ (ap (λ (r : Reading). owed_at r m.params p.me whole response.request) (can.is_of).reading
          ∙ ap (λ (ps : Params). owed_at (reading_of p) ps p.me whole response.request) (can.is_of).params)

      -- it has a spelling
      pub spelled_later : IsSpellableState state
      spelled_later =
          state_spelled later log state
          (record {
            hosts = can.hosts;
            genuine = genuine;
            short = can.short;
            pruned = pruned_later can.read;
            claims = λ k claimed. (let lt = ((can.read).node).claims k claimed in omega (arith, lt, long));
            answers = λ response waits. (let lt = (((can.read).node).outbox response waits).is_read in omega (arith, lt, long));
            owed = owed_to;
            state_is = states whole (can.read).pruned;
          })

      pub lawful_later : IsLawful p.topology p.packages state
      lawful_later =
          let short = can.short in
          let most : 2 ^ 15 < 2 ^ 63 = lit< tt in
          lawful later log (omega (arith, short, most)) genuine (pruned_later can.read) state (states whole (can.read).pruned)

      -- a participant may begin from it
      pub begins_later : MayBegin p.topology p.packages state
      begins_later = may_begin p.topology p.packages state lawful_later

  -- ---- over a setup with the same participants and packages

  module _ (topology : Topology) (packages : Packages) (same_topology : p.topology ≡ topology) (same_packages : p.packages ≡ packages) (kept : State)
      (same : kept ≡ state) where
    pub begins_over : (m : Machine) (log : List Entry) → CanRestart m log p → MayBegin topology packages kept
    begins_over m log can =
        subst (MayBegin topology packages) (sym same)
        (subst (λ (ps : Packages). MayBegin topology ps state) same_packages
        (subst (λ (t : Topology). MayBegin t p.packages state) same_topology (begins_later m log can)))

    begun_over : begun_again topology packages kept ≡ begun_again p.topology p.packages state
    begun_over =
        ap (begun_again topology packages) same
        ∙ (ap (λ (t : Topology). begun_again t packages state) (sym same_topology)
        ∙ ap (λ (ps : Packages). begun_again p.topology ps state) (sym same_packages))

    pub restarts : {E : Type 0} (result : Result Participant E) → IfOk result (λ node. node ≡ begun_again topology packages kept)
        → IfOk result (λ after. (m : Machine) (log : List Entry) → CanRestart m log p → HasRestarted m log p after)
    restarts (Ok after) is = λ m log can. subst (HasRestarted m log p) (sym (is ∙ begun_over)) (has_restarted m log can.read)
    restarts (Err e) is = is
