-- What stands in a value is less deep.
use Rattle.std.proofs.Common.{◌≡◌, ℕ, zero, suc, ◌<◌, ◌≤◌, List, [], ◌∷◌, length, get_or, max, Option, Some, None, Ok, ok_or, refl, sym, arith}
use Rattle.std.proofs.Common.{Ordering, Less, Equal, Greater}
use Rattle.std.specs.Ordering.{nat_cmp, match_ordering}
use Rattle.std.specs.Cmp.Lexicographic.{slice_cmp}
use Rattle.serde_json.specs.Data.{Data, null, boolean, number, string, array, object, Members, no_members, member, depth, items_depth, members_depth}
use Rattle.serde_json.specs.Find.{get, get_member}
use Rattle.serde_json.specs.View.{view, items_view}
use Rattle.serde_json.specs.declared.value.Value.{Value}
use Rattle.json_walk.specs.Walk.{Place, member_of}
use Rattle.json_walk.specs.declared.walk_fault.WalkFault.TheVariants.{Shape}

-- a value that was found is at most so deep
abbrev Below : ℕ → Option Data → Type 0
Below n None = Unit {0}
Below n (Some d) = depth d ≤ n

weaker : (m n : ℕ) (o : Option Data) → m ≤ n → Below m o → Below n o
weaker m n None h b = tt
weaker m n (Some d) h b = omega arith

by_order : (o : Ordering) (a b : Option Data) (n : ℕ) → Below n a → Below n b → Below n (match_ordering o a b a)
by_order Less a b n p q = p
by_order Equal a b n p q = q
by_order Greater a b n p q = p

member_within : (k : List ℕ) (ms : Members) → Below (members_depth ms) (get_member k ms)
member_within k no_members = tt
member_within k (member l d ms) =
    by_order (slice_cmp nat_cmp k l) (get_member k ms) (Some d) (max (depth d) (members_depth ms)) (weaker _ _ (get_member k ms) (omega arith) (member_within k ms)) (omega arith)

found : (o : Option Data) (d : Data) (n : ℕ) → o ≡ Some d → Below n o → depth d ≤ n
found None d n e b = absurd (cc)
found (Some x) d n e b = let same : x ≡ d = cc in rw (sym same) b

pub get_below : (k : List ℕ) (d e : Data) → get k d ≡ Some e → depth e < depth d
get_below k null e h = absurd (cc)
get_below k (boolean b) e h = absurd (cc)
get_below k (number n) e h = absurd (cc)
get_below k (string s) e h = absurd (cc)
get_below k (array ds) e h = absurd (cc)
get_below k (object ms) e h = omega (arith, found (get_member k ms) e (members_depth ms) h (member_within k ms))

read_some : (o : Option Data) (at : Place) (e : Data) → ok_or o (Shape at) ≡ Ok e → o ≡ Some e
read_some None at e h = absurd (cc)
read_some (Some d) at e h = let same : d ≡ e = cc in rw same refl

pub member_below : (at : Place) (k : List ℕ) (d e : Data) → member_of at k d ≡ Ok e → depth e < depth d
unfolding member_of
member_below at k d e h = get_below k d e (read_some (get k d) at e h)

pub item_below : (vs : List Value) (i : ℕ) (v : Value) → i < length vs → depth (view (get_or vs i v)) ≤ items_depth (items_view vs)
item_below [] i v h = absurd (omega arith)
item_below (x ∷ vs) zero v h = omega arith
item_below (x ∷ vs) (suc i) v h = omega (arith, item_below vs i v (omega arith))
