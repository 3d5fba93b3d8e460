use Rattle.view_split.proofs.Confirming.{confirms_view}
use Rattle.view_split.proofs.laws.who_confirms_sees_the_view.Goals as goal

pub returns : goal.returns
returns c language confirms hosts roots i a hosted e signs = confirms_view language confirms hosts roots hosted i a e signs
