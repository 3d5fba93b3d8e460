use Rattle.std.proofs.Common.{sym, subst}
use Rattle.blind_tree.specs.Limits.{HaveSets}
use Rattle.blind_tree.proofs.LimitLaws.{split_is_spellable, split_is_small}
use Rattle.blind_tree.proofs.SetLimits.{split_sets}
use Rattle.blind_tree.proofs.laws.split_views_are_within.Goals as goal

pub returns : goal.returns
returns c = record {
  blinded = λ roles parties views roots same requesters limits few among.
      split_is_spellable roles views roots same requesters limits (subst HaveSets (sym same) (split_sets roles parties few roots among));
  small = λ roles parties views sender roots same name requesters limits few among.
      split_is_small roles views sender roots same name requesters limits (subst HaveSets (sym same) (split_sets roles parties few roots among));
}
