use Rattle.load_gen.proofs.Typed.{iou_packages_are_typed}
use Rattle.load_gen.proofs.packages.generated_packages.Goals as goal

pub of-requires : goal.of-requires
of-requires c = rw (c.in_ok-push.ensures.ok, c.new-given.ensures, c.in_ok-iou_package.ensures) iou_packages_are_typed
