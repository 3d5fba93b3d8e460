use Rattle.std.proofs.Common.{◌∙◌, sym, take}
use Rattle.blind_tree.proofs.Rises.{not_in_parts, not_in_passed, parts_rise}
use Rattle.blind_tree.proofs.listed.is_between.Goals as goal

pub returns-then-is_above : goal.returns-then-is_above
returns-then-is_above c below rising =
    let paths = c.args.paths.now in
    let path = c.args.path.now in
    let parts = parts_rise c.args.at paths rising in
    not_in_parts c.args.at path paths
    (not_in_passed path (take c.args.at paths) parts.0 (rw (← c.split_at.ensures.front) (sym c.is_above.ensures ∙ c.if-is_above.true)))
    (rw (← c.split_at.ensures.back) (c.is_below_all.ensures below (rw c.split_at.ensures.back parts.1)))
