-- The item at an index of a list that is another.
use Rattle.std.proofs.Common.{◌≡◌, ℕ, ◌<◌, List, Some, length, sym, ap, ◌∙◌, subst}
use Rattle.std.specs.Prelude.{slice_get, slice_index_or}
use Rattle.world_play.proofs.Passing.{item_at}

pub at_index : {X : Type 0} (items xs : List X) (k : ℕ) (x : X) → items ≡ xs → k < length xs → x ≡ slice_index_or items k x → slice_get xs k ≡ Some x
at_index items xs k x same within is =
    let within' : k < length items = subst (λ (ys : List _). k < length ys) (sym same) within in
    subst (λ (ys : List _). slice_get ys k ≡ Some x) same (item_at items k x within' ∙ ap Some (sym is))
