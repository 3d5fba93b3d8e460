use Rattle.std.proofs.Common.{◌∙◌, sym, arith}
use Rattle.blind_tree.proofs.Rises.{not_in_coming}
use Rattle.blind_tree.proofs.listed.is_below_all.Goals as goal

pub returns-in-len1-up : goal.returns-in-len1-up
returns-in-len1-up c below rising =
    not_in_coming c.args.path.now c.first-item.result c.args.coming.now (omega (arith, c.in-len1-up.len_at_least)) c.first-item.is rising
    (rw (c.as_slice.ensures, c.as_slice-in-len1-up.ensures) at (sym c.is_below.ensures ∙ below))
