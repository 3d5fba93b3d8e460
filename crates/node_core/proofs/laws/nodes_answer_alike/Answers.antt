use Rattle.std.proofs.Common.{ap}
use Rattle.std.specs.Prelude.{ℕ, List}
use Rattle.world_model.specs.Places.{has_place}
use Rattle.node_core.proofs.Alike.{alike, alike_next}
use Rattle.node_core.proofs.laws.nodes_answer_alike.Goals as goal

pub returns : goal.returns
returns c = record { answers = alike; sends = alike_next; unfinished = λ a b k same. ap (λ (ks : List ℕ). has_place ks k) same }
