use Rattle.std.proofs.Common.{refl}
use Rattle.layer_cases.proofs.Surely.{surely}
use Rattle.layer_cases.proofs.run.surely.run_surely.Goals as goal

pub returns : goal.returns
returns g c =
    record {
      ready = λ is.
          surely _ c.args.words.now c.args.source.now c.run.new.source c.args.sink.now.room c.run.result is c.run.ensures.status
          c.run.ensures.words c.run.ensures.script c.run.ensures.read c.run.ensures.taken
          (λ five. let x = c.run.ensures.cut five in (x.0, x.1, x.2)) (λ asks whole. c.run.ensures.faulty _ refl asks whole);
    }
