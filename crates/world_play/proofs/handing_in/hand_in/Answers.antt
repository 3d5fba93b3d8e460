use Rattle.world_play.proofs.Refused.{goes_nowhere, has_cause, stays}
use Rattle.world_play.proofs.handing_in.hand_in.Goals as goal

pub returns : goal.returns
returns c =
    record {
      on = goes_nowhere _ _ c.in-Err.ensures.err;
      ok = λ m f. stays m 0 _ _ _ c.in-Err.ensures.err (has_cause _ _ c.in_default.not-Memory (c.in-Err.ensures.cause m f));
      err = tt;
      behind = c.in-Err.ensures.behind;
    }
