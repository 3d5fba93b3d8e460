use Rattle.std.proofs.Common.{◌≢◌, Result, Ok, Err, refl, ap}
use Rattle.interpret.specs.Act.{on, BodyRun}
use Rattle.interpret.specs.declared.asking.Asking.TheVariants.{Commands}
use Rattle.interpret.specs.declared.command_fault.CommandFault.{CommandFault}
use Rattle.interpret.specs.declared.command_fault.CommandFault.TheVariants.{Memory}
use Rattle.interpret.proofs.Roots.{roots_run}
use Rattle.interpret.proofs.interpreter.Interpreter.run_commands.Goals as goal

pub returns-in-Err : goal.returns-in-Err
returns-in-Err g c =
    λ h. let fresh : c.in-Err.fault ≢ Memory = λ m. h (ap Err m) in
    ap (λ (r : Result BodyRun CommandFault). on r (λ f. Ok f.children))
    (roots_run _ _ _ _ _ c.args.commands.now (Commands c.args.commands) _ _ _ _ _ refl c.top-place.ensures.path c.top-place.ensures.seed
    c.top-place.ensures.left c.nothing_done-progress.ensures c.new-roots.ensures (c.in-Err.ensures (λ m. fresh cc)))

pub returns : goal.returns
returns g c =
    λ h. ap (λ (r : Result BodyRun CommandFault). on r (λ f. Ok f.children))
    (roots_run _ _ _ _ _ c.args.commands.now (Commands c.args.commands) _ _ _ _ _ refl c.top-place.ensures.path c.top-place.ensures.seed
    c.top-place.ensures.left c.nothing_done-progress.ensures c.new-roots.ensures (c.in-Ok.ensures (λ m. cc)))
