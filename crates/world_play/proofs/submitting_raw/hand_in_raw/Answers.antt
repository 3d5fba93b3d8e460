use Rattle.std.proofs.Common.{◌∷◌, [], ◌++◌, Option, sym, ap, ◌∙◌}
use Rattle.world_model.specs.Messages.{RequestMessage}
use Rattle.world_model.specs.Sequencing.{AppendFault, entry_after, unless_refused}
use Rattle.world_play.specs.declared.world.World.{World}
use Rattle.world_play.proofs.Refused.{has_cause, stays}
use Rattle.world_play.proofs.submitting_raw.hand_in_raw.Goals as goal

pub returns-in-Ok-clause-ok : goal.returns-in-Ok-clause-ok
returns-in-Ok-clause-ok c = λ m now f.
    let log = (c.args.world.now.sequencer).list in
    c.in-Ok.ensures.entry
    ∙ sym (ap (λ (o : Option AppendFault). unless_refused o log (log ++ entry_after now log (RequestMessage c.args.request) ∷ [])) (c.in-Ok.ensures.ok m f))

pub returns : goal.returns
returns c =
    let e = c.in-Err.ensures in
    record {
      on = e.on;
      now = e.now;
      nodes = e.nodes;
      lawful = e.lawful;
      ok = λ m now f. stays m now _ _ (RequestMessage c.args.request) (ap (λ (w : World). w.sequencer) e.err) (has_cause _ _ c.in_default.not-Memory (e.cause m f));
      err = tt;
    }
