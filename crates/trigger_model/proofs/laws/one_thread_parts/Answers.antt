use Rattle.trigger_model.proofs.PartsFacts.{run_in_parts}
use Rattle.trigger_model.proofs.laws.one_thread_parts.Goals as goal

pub returns : goal.returns
returns g c m why rounds log machine h = run_in_parts m why machine rounds log h
