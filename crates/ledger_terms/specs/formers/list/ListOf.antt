-- Where a list keeps its items, so that a type may hold itself through a list.
--     the_former, the_weighed, the_empty      the values are lists, measured by their largest item, and there is one without items
--     the_items, the_items_listed      the items that a list holds are the list
--     the_places      the list owns and lends what its vector does, item by item
--     the_codes_placed      its code is the list of the codes of its items
use mathlib.Core.Path.{◌≡◌, refl, sym}
use mathlib.Core.List.{List, []}
use mathlib.Core.Former.{Former, this, list, via, children}
use base.Stored.{code_map}
use denote.RattleType.{RattleType}
use denote.HoleLaws.{Alike}
use denote.HolePlaces.{Recodes, struct_places, laid}
use denote.Hole.Carrier.{listed, list-listed}
use denote.Hole.Fix.{over}
use denote.Param.Weighed.{Weighed, w_list}
use denote.Model.Placed.{view_places}
use Rattle.std.specs.formers.vec.Vec as vector
use Rattle.std.specs.declared.alloc.Global.{Global}
use Rattle.std.specs.declared.vec.Vec.{Vec}
use Rattle.std.specs.contracts.alloc.Global as global
use Rattle.std.specs.contracts.impls.GlobalAllocator.TheImpl.{ghosts}
use Rattle.ledger_terms.specs.declared.list.ListOf.TheInside.{Inside}
use Rattle.ledger_terms.specs.declared.list.ListOf.TheView.{view, invariant}
use Rattle.ledger_terms.specs.contracts.list.ListOf as Seen
use Rattle.ledger_terms.specs.contracts.list.ListOf.TheInside as Kept

-- A former is the kit's word for a type over another one, as a list over its items. This is what contracts see of a list of items that are of such a
-- type themselves: a list of what they see of these.
abbrev pub the_former : Former {0} → Former {0}
the_former item = list item

-- how large such a list counts where a type holds itself through it, so that what recurs over it is seen to end: as its largest item
abbrev pub the_weighed : {item : Former {0}} → Weighed item → Weighed (the_former item)
the_weighed = w_list

-- the list without items, which is a value of the type even where nothing is of the items' type
abbrev pub the_empty : List ⊥
the_empty = []

-- the items that a value of the type holds, which are the list itself
abbrev pub the_items : (Item : Type 0) → List Item → List Item
the_items Item items = items

pub the_items_listed : (Item : Type 0) (items : List Item) → listed _ (children (the_former this) Item items) ≡ the_items Item items
the_items_listed = list-listed

-- the vector in the one field of a `ListOf`
abbrev vector_in : (Item : Type 0) → Inside Item → Vec Item Global
vector_in Item kept = kept.items

-- a `ListOf` with this vector in its one field
abbrev kept_in : (Item : Type 0) → Vec Item Global → Inside Item
kept_in Item items = record { items = items }

-- the former of the one field of a `ListOf`, its vector: what contracts see of a `ListOf` by its fields
abbrev the_fields : Former {0}
the_fields = via (vector.the_former this Global) Inside vector_in kept_in (λ Item kept. refl) (λ Item items. refl)

pub the_places : (R S : RattleType) (change : R.Denot → S.Denot) → Alike R S change
    → Alike (Seen.the_row R) (Seen.the_row S) ((the_former this).map R.Denot S.Denot change)
the_places R S change alike =
    let vectors = vector.the_places global.the_row ghosts R S change alike in
    let fields = struct_places (Kept.the_type R) (Kept.the_type S) (vector.mapped change, tt) _ (λ kept. refl) refl (laid _ _ _ vectors, tt) in
    view_places the_fields (the_former this) view (λ X Y along kept. refl) (λ X kept. refl)
    R.Denot S.Denot change (Seen.the_row R).coded (Seen.the_row S).coded (invariant R.Denot) (invariant S.Denot)
    (λ kept p q. refl) (λ kept p q. refl) (λ kept holds. tt) (λ kept holds. tt) (over (Kept.the_row R)) (over (Kept.the_row S)) fields

pub the_codes_placed : (R S : RattleType) (change : R.Denot → S.Denot) → Recodes R S change
    → Recodes (Seen.the_row R) (Seen.the_row S) ((the_former this).map R.Denot S.Denot change)
the_codes_placed R S change recodes items = sym (code_map R.coded.code S.coded.code change (λ item. sym (recodes item)) items)
