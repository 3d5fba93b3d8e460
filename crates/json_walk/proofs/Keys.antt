-- Tests over lists and over the members of an object.
use Rattle.std.proofs.Common.{◌≡◌, ℕ, Bool, ◌||◌, ◌&&◌, List, [], ◌∷◌, map, refl, ap, String, Global, string_bytes}
use Rattle.std.specs.List.{list_any, list_all}
use Rattle.std.specs.Map.{keys_of}
use Rattle.serde_json.specs.View.{members_view}
use Rattle.serde_json.specs.declared.value.Value.{Value}
use Rattle.json_walk.specs.Listed.{is_among}
use Rattle.json_walk.specs.Walk.{members_among}

pub list_any-map : {X Y : Type 0} (p : X → Bool) (h : Y → X) (ys : List Y) → list_any p (map h ys) ≡ list_any (λ y. p (h y)) ys
list_any-map p h [] = refl
list_any-map p h (y ∷ ys) = ap (λ b. p (h y) || b) (list_any-map p h ys)

-- the keys of a map, tested one by one
pub members_among-keys : (a b : List (List ℕ)) (es : List (String Global × Value))
    → members_among a b (members_view es) ≡ list_all (λ k. is_among (string_bytes k) a || is_among (string_bytes k) b) (keys_of es)
members_among-keys a b [] = refl
members_among-keys a b (e ∷ es) =
    ap (λ r. (is_among (string_bytes e.0) a || is_among (string_bytes e.0) b) && r) (members_among-keys a b es)
