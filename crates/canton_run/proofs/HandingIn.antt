-- The raw requests of a round are handed in, one after another.
use Rattle.std.proofs.Common.{◌≡◌, ℕ, ◌+◌, ◌≤◌, List, ◌∷◌, drop, length, refl, sym, ap, ◌∙◌}
use Rattle.std.proofs.Math.ListN.{drop_of_length-le}
use Rattle.ledger_terms.specs.declared.raw_request.RawRequest.{RawRequest}
use Rattle.world_model.specs.Machine.{Machine}
use Rattle.world_model.specs.Mediator.{MediatorState}
use Rattle.world_model.specs.Messages.{Entry, RequestMessage}
use Rattle.world_model.specs.Lawful.{Lawful}
use Rattle.world_model.specs.Rounds.{handed_in}
use Rattle.world_model.specs.Sequencing.{sequenced}
use Rattle.seq_log.specs.Sequenced.{IsFor}
use Rattle.world_play.specs.Parts.{GoesOn}
use Rattle.world_play.specs.WorldOf.{IsWorldOf, world_of}
use Rattle.world_play.specs.declared.world.World.{World}
use Rattle.world_play.proofs.Sends.{goes_further, stays, still_for}
use Rattle.canton_run.specs.Answered.{request_of, requests_of}

module _ (first : World) (raws : List RawRequest) where
  -- the first k were handed in
  pub record AreHandedIn (k : ℕ) (world : World) : Type 0 where
    pub now : world.now ≡ first.now
    pub nodes : world.nodes ≡ first.nodes
    pub on : GoesOn first.sequencer world.sequencer
    pub lawful : (m : Machine) (state : MediatorState) → IsWorldOf m state first → Lawful m (world_of state first)
        → IsWorldOf m state world × Lawful m (world_of state world)
    pub log : (m : Machine) (now : ℕ) → IsFor m first.sequencer
        → handed_in m now (world.sequencer).list (requests_of (drop k raws)) ≡ handed_in m now (first.sequencer).list (requests_of raws)

  pub none_handed_in : AreHandedIn 0 first
  none_handed_in = record { now = refl; nodes = refl; on = stays first.sequencer; lawful = λ m state is l. (is, l); log = λ m now f. refl }

  pub one_handed_in : (k : ℕ) (raw : RawRequest) → drop k raws ≡ raw ∷ drop (k + 1) raws → (world : World) → AreHandedIn k world → (after : World)
      → after.now ≡ world.now → after.nodes ≡ world.nodes → GoesOn world.sequencer after.sequencer
      → ((m : Machine) (state : MediatorState) → IsWorldOf m state world → Lawful m (world_of state world)
      → IsWorldOf m state after × Lawful m (world_of state after))
      → ((m : Machine) (now : ℕ) → IsFor m world.sequencer
      → (after.sequencer).list ≡ sequenced m now (world.sequencer).list (RequestMessage (request_of raw)))
      → AreHandedIn (k + 1) after
  one_handed_in k raw next world h after now nodes on lawful log =
      record {
        now = now ∙ h.now;
        nodes = nodes ∙ h.nodes;
        on = goes_further first.sequencer world.sequencer after.sequencer h.on on;
        lawful = λ m state is l. let w = h.lawful m state is l in lawful m state w.0 w.1;
        log = λ m time f.
            ap (λ (xs : List Entry). handed_in m time xs (requests_of (drop (k + 1) raws)))
            (log m time (still_for m first.sequencer world.sequencer h.on f))
            ∙ (ap (λ (rs : List RawRequest). handed_in m time (world.sequencer).list (requests_of rs)) (sym next) ∙ h.log m time f);
      }

  pub all_handed_in : (k : ℕ) (world : World) → AreHandedIn k world → length raws ≤ k → (m : Machine) (now : ℕ) → IsFor m first.sequencer
      → (world.sequencer).list ≡ handed_in m now (first.sequencer).list (requests_of raws)
  all_handed_in k world h end m now f =
      ap (λ (rs : List RawRequest). handed_in m now (world.sequencer).list (requests_of rs)) (sym (drop_of_length-le raws end)) ∙ h.log m now f
