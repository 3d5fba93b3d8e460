use Rattle.world_play.proofs.handing_in.hand_in_request.Goals as goal

pub returns-clause-behind : goal.returns-clause-behind
returns-clause-behind c = λ m f b. c.hand_in.ensures.behind m f b tt
