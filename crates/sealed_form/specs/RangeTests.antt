-- Tests of what is in range and has room.
use Rattle.std.specs.Prelude.{ℕ, ◌^◌, Bool, true, ◌&&◌, List, [], ◌∷◌, length, nat_eq, nat_le, nat_lt}
use Rattle.std.specs.List.{list_all}
use Rattle.std.specs.Str.{is_utf8}
use Rattle.ledger_terms.specs.Depth.{depth}
use Rattle.ledger_terms.specs.Forest.{Forest, NoRoots, Root}
use Rattle.ledger_terms.specs.Names.{is_name}
use Rattle.ledger_terms.specs.Parties.{name_below}
use Rattle.ledger_terms.specs.Roots.{trees_count}
use Rattle.ledger_terms.specs.declared.act.Act.{Act}
use Rattle.ledger_terms.specs.declared.limits.TheConstants.{MOST_ACTIONS, MOST_ACTION_DEPTH, MOST_FIELDS, MOST_PARTIES, MOST_TEXT_BYTES}
use Rattle.ledger_terms.specs.declared.value.Value.{Value}
use Rattle.ledger_terms.specs.declared.value.Value.TheVariants.{Unit as UnitValue, Int, Bool as BoolValue, Text, Party, Contract, Parties}
use Rattle.ledger_terms.specs.declared.instance.Instance.{Instance}
use Rattle.ledger_terms.specs.declared.action.Action.{Action}
use Rattle.ledger_terms.specs.declared.action.Action.TheVariants.{Create, Exercise, Fetch}
use Rattle.lang_eval.specs.Value.{fits_i64}
use Rattle.wire_form.specs.Spelling.{spell_parties}
use Rattle.view_split.specs.Holed.{Holed, NoMore, Inner, Hole, width}
use Rattle.view_split.specs.declared.split_view.SplitView.{SplitView}
use Rattle.view_split.specs.declared.views.Views.{Views}
use Rattle.blind_tree.specs.Cores.{levels}
use Rattle.blind_tree.specs.LeafBytes.{common_bytes, core_bytes, roles_bytes}

-- ---- what the formats spell

-- it has the length of a hash, 32 bytes
abbrev pub is_hash : List ℕ → Bool
is_hash hash = nat_eq (length hash) 32

-- a text is UTF-8 of at most 256 bytes
abbrev pub is_short_text : List ℕ → Bool
is_short_text text = nat_le (length text) MOST_TEXT_BYTES && is_utf8 text

-- each name is less than all that follow it, by their bytes
abbrev pub is_rising : List (List ℕ) → Bool
is_rising [] = true
is_rising (a ∷ more) = list_all (name_below a) more && is_rising more

-- a set of at most 128 names of parties, in ascending order
abbrev pub is_party_set : List (List ℕ) → Bool
is_party_set parties = nat_le (length parties) MOST_PARTIES && (list_all is_name parties && is_rising parties)

-- the formats can hold this value
abbrev pub is_in_range : Value → Bool
is_in_range UnitValue = true
is_in_range (Int n) = fits_i64 n
is_in_range (BoolValue b) = true
is_in_range (Text t) = is_short_text t
is_in_range (Party p) = is_name p
is_in_range (Contract h) = is_hash h
is_in_range (Parties s) = is_party_set s

-- the formats can hold this list of a contract's fields or a choice's arguments: at most 12 values, each of which they can hold
abbrev pub are_values : List Value → Bool
are_values values = nat_le (length values) MOST_FIELDS && list_all is_in_range values

-- the formats can hold this instance
abbrev pub is_instance : Instance → Bool
is_instance i = is_name i.template.package && (is_name i.template.name && are_values i.fields)

-- the formats can hold the id, salt and instance of the contract that an action uses
abbrev pub is_input : (id salt : List ℕ) → Instance → Bool
is_input id salt i = is_hash id && (is_hash salt && is_instance i)

-- the formats can hold this action
abbrev pub is_action : Action → Bool
is_action (Create id i) = is_hash id && is_instance i
is_action (Exercise id salt i choice args actors consuming result) =
    is_input id salt i && (is_name choice && (are_values args && (is_party_set actors && is_in_range result)))
is_action (Fetch id salt i actors) = is_input id salt i && is_party_set actors

-- ---- what can be read again of a transaction

-- the test of `AreChildren`: what stands below an action of a core can be read again
abbrev pub are_children : Holed Act → Bool
are_children NoMore = true
are_children (Inner act below others) =
    is_hash act.seed && (is_action act.action && (nat_le (width below) 63 && (are_children below && are_children others)))
are_children (Hole others) = are_children others

-- the test of `IsCore`: the core with this first action can be read again
abbrev pub is_core : Act → Holed Act → Bool
is_core first below =
    is_hash first.seed && (is_action first.action && (nat_le (width below) 63 && (nat_le (levels below) 15 && are_children below)))

-- the test of `IsView`: the view can be read again
abbrev pub is_view : SplitView → Bool
is_view view = is_party_set view.informees && (is_party_set view.confirmers && is_core view.first view.below)

-- the test of `AreViews`: each of these views and of those below them can be read again
abbrev pub are_views : Forest SplitView → Bool
are_views NoRoots = true
are_views (Root view subviews others) = is_view view && (are_views subviews && are_views others)

-- the test of `AreInRange`: trees of the transaction of this sender can be read again
abbrev pub are_in_range : (sender : List ℕ) → Views → Bool
are_in_range sender views = is_name sender && (nat_lt views.ledger_time (2 ^ 64) && (is_party_set views.act_as && are_views views.roots))

-- ---- what has room in a tree

-- the test of `AreSmall`: the leaves and the lists of these views have room in a tree
abbrev pub are_small : Forest SplitView → Bool
are_small NoRoots = true
are_small (Root view subviews others) =
    nat_lt (length (roles_bytes view)) (2 ^ 32)
    && (nat_lt (length (core_bytes view)) (2 ^ 32) && (nat_le (trees_count subviews) MOST_ACTIONS && (are_small subviews && are_small others)))

-- the test of `IsSmall`: trees of the transaction of this sender have room in a spelling
abbrev pub is_small : (sender : List ℕ) → Views → Bool
is_small sender views =
    nat_lt (length (common_bytes sender views.ledger_time)) (2 ^ 32)
    && (nat_lt (length (spell_parties views.act_as)) (2 ^ 32)
    && (nat_le (trees_count views.roots) MOST_ACTIONS && (nat_le (depth views.roots) MOST_ACTION_DEPTH && are_small views.roots)))
