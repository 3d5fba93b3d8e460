-- The tests of what is in range and has room decide it.
use Rattle.std.proofs.Common.{ℕ, ◌^◌, ℤ, pos, negsuc, List, [], ◌∷◌, length, refl}
use Rattle.std.specs.Prelude.{All, FitsSigned}
use Rattle.std.specs.Bool.{Decides}
use Rattle.std.specs.Int.{w64}
use Rattle.std.specs.List.{list_all}
use Rattle.std.specs.Str.{is_utf8}
use Rattle.std.proofs.lemmas.Bool.{ltb-true, lt-ltb}
use Rattle.std.proofs.lemmas.Bool.Decides.{Decides-by_and}
use Rattle.ledger_terms.specs.Depth.{depth}
use Rattle.ledger_terms.specs.Forest.{Forest, NoRoots, Root}
use Rattle.ledger_terms.specs.Names.{IsName, is_name}
use Rattle.ledger_terms.specs.Parties.{AllAbove, IsRising, name_below}
use Rattle.ledger_terms.specs.Roots.{trees_count}
use Rattle.ledger_terms.specs.declared.act.Act.{Act}
use Rattle.ledger_terms.specs.declared.limits.TheConstants.{MOST_ACTIONS, MOST_ACTION_DEPTH, MOST_FIELDS, MOST_PARTIES, MOST_TEXT_BYTES}
use Rattle.ledger_terms.specs.declared.value.Value.{Value}
use Rattle.ledger_terms.specs.declared.value.Value.TheVariants.{Unit as UnitValue, Int, Bool as BoolValue, Text, Party, Contract, Parties}
use Rattle.ledger_terms.specs.declared.instance.Instance.{Instance}
use Rattle.ledger_terms.specs.declared.action.Action.{Action}
use Rattle.ledger_terms.specs.declared.action.Action.TheVariants.{Create, Exercise, Fetch}
use Rattle.lang_eval.specs.Value.{fits_i64}
use Rattle.wire_form.specs.InRange as ranges
use Rattle.wire_form.specs.Spelling.{spell_parties}
use Rattle.view_split.specs.Holed.{Holed, NoMore, Inner, Hole, width}
use Rattle.view_split.specs.declared.split_view.SplitView.{SplitView}
use Rattle.view_split.specs.declared.views.Views.{Views}
use Rattle.blind_tree.specs.Cores.{levels}
use Rattle.blind_tree.specs.LeafBytes.{common_bytes, core_bytes, roles_bytes}
use Rattle.blind_tree.specs.ShownViews.{AreChildren, AreInRange, AreSmall, AreViews, IsCore, IsSmall, IsView}
use Rattle.sealed_form.specs.RangeTests.{are_children, are_in_range, are_small, are_values, are_views, is_action, is_core, is_hash, is_in_range, is_input, is_instance, is_party_set, is_rising, is_short_text, is_small, is_view}
use Rattle.sealed_form.proofs.Deciding.{at_most, below, both_decide, equal, five_decide, four_decide, itself, three_decide}

-- ---- what the formats spell

pub hash_decides : (hash : List ℕ) → Decides (is_hash hash) (ranges.IsHash hash)
hash_decides hash = equal (length hash) 32

text_decides : (text : List ℕ) → Decides (is_short_text text) (ranges.IsShortText text)
text_decides text =
    let d = both_decide (at_most (length text) MOST_TEXT_BYTES) (itself (is_utf8 text)) in
    (λ h. let p = d.0 h in record { few = p.0; utf8 = p.1 }, λ s. d.1 (s.few, s.utf8))

above_decides : (a : List ℕ) (s : List (List ℕ)) → Decides (list_all (name_below a) s) (AllAbove a s)
above_decides a [] = (λ h. tt, λ h. refl)
above_decides a (b ∷ s) = both_decide (itself (name_below a b)) (above_decides a s)

rising_decides : (s : List (List ℕ)) → Decides (is_rising s) (IsRising s)
rising_decides [] = (λ h. tt, λ h. refl)
rising_decides (a ∷ s) = both_decide (above_decides a s) (rising_decides s)

names_decide : (s : List (List ℕ)) → Decides (list_all is_name s) (All IsName s)
names_decide s = Decides-by_and is_name IsName (λ (names : List (List ℕ)). list_all is_name names) (λ name. itself (is_name name)) refl (λ _ _. refl) s

pub set_decides : (s : List (List ℕ)) → Decides (is_party_set s) (ranges.IsPartySet s)
set_decides s =
    let d = three_decide (at_most (length s) MOST_PARTIES) (names_decide s) (rising_decides s) in
    (λ h. let p = d.0 h in record { few = p.0; names = p.1; ascend = p.2 }, λ r. d.1 (r.few, r.names, r.ascend))

number_decides : (n : ℤ) → Decides (fits_i64 n) (FitsSigned w64 n)
number_decides (pos n) = (λ h. record { sfits = ltb-true n (2 ^ 63) h }, λ f. lt-ltb n (2 ^ 63) f.sfits)
number_decides (negsuc n) = (λ h. record { sfits = ltb-true n (2 ^ 63) h }, λ f. lt-ltb n (2 ^ 63) f.sfits)

value_decides : (v : Value) → Decides (is_in_range v) (ranges.IsInRange v)
value_decides UnitValue = (λ h. tt, λ h. refl)
value_decides (Int n) = number_decides n
value_decides (BoolValue b) = (λ h. tt, λ h. refl)
value_decides (Text t) = text_decides t
value_decides (Party p) = itself (is_name p)
value_decides (Contract h) = hash_decides h
value_decides (Parties s) = set_decides s

each_decides : (vs : List Value) → Decides (list_all is_in_range vs) (All ranges.IsInRange vs)
each_decides vs =
    Decides-by_and is_in_range ranges.IsInRange (λ (values : List Value). list_all is_in_range values) value_decides refl (λ _ _. refl) vs

values_decide : (vs : List Value) → Decides (are_values vs) (ranges.AreInRange vs)
values_decide vs =
    let d = both_decide (at_most (length vs) MOST_FIELDS) (each_decides vs) in
    (λ h. let p = d.0 h in record { few = p.0; each = p.1 }, λ r. d.1 (r.few, r.each))

instance_decides : (i : Instance) → Decides (is_instance i) (ranges.IsInstance i)
instance_decides i =
    let d = three_decide (itself (is_name i.template.package)) (itself (is_name i.template.name)) (values_decide i.fields) in
    (λ h. let p = d.0 h in record { «package» = p.0; template = p.1; fields = p.2 }, λ r. d.1 (r.package, r.template, r.fields))

input_decides : (id salt : List ℕ) (i : Instance) → Decides (is_input id salt i) (ranges.IsInput id salt i)
input_decides id salt i =
    let d = three_decide (hash_decides id) (hash_decides salt) (instance_decides i) in
    (λ h. let p = d.0 h in record { id_is = p.0; salt_is = p.1; instance_is = p.2 }, λ r. d.1 (r.id_is, r.salt_is, r.instance_is))

action_decides : (a : Action) → Decides (is_action a) (ranges.IsAction a)
action_decides (Create id i) = both_decide (hash_decides id) (instance_decides i)
action_decides (Exercise id salt i choice args actors consuming result) =
    five_decide (input_decides id salt i) (itself (is_name choice)) (values_decide args) (set_decides actors) (value_decides result)
action_decides (Fetch id salt i actors) = both_decide (input_decides id salt i) (set_decides actors)

-- ---- what can be read again of a transaction

children_decide : (below : Holed Act) → Decides (are_children below) (AreChildren below)
children_decide NoMore = (λ h. tt, λ h. refl)
children_decide (Inner act below others) =
    five_decide (hash_decides act.seed) (action_decides act.action) (at_most (width below) 63) (children_decide below) (children_decide others)
children_decide (Hole others) = children_decide others

core_decides : (first : Act) (below : Holed Act) → Decides (is_core first below) (IsCore first below)
core_decides first below =
    let d =
    five_decide (hash_decides first.seed) (action_decides first.action) (at_most (width below) 63) (at_most (levels below) 15) (children_decide below) in (
      λ h. let p = d.0 h in record { seed_is = p.0; action_is = p.1; few = p.2; nested = p.3; children = p.4 },
      λ r. d.1 (r.seed_is, r.action_is, r.few, r.nested, r.children),
    )

view_decides : (view : SplitView) → Decides (is_view view) (IsView view)
view_decides view =
    let d = three_decide (set_decides view.informees) (set_decides view.confirmers) (core_decides view.first view.below) in
    (λ h. let p = d.0 h in record { informees_are = p.0; confirmers_are = p.1; core = p.2 }, λ r. d.1 (r.informees_are, r.confirmers_are, r.core))

views_decide : (views : Forest SplitView) → Decides (are_views views) (AreViews views)
views_decide NoRoots = (λ h. tt, λ h. refl)
views_decide (Root view subviews others) = three_decide (view_decides view) (views_decide subviews) (views_decide others)

pub range_decides : (sender : List ℕ) (views : Views) → Decides (are_in_range sender views) (AreInRange sender views)
range_decides sender views =
    let d = four_decide (itself (is_name sender)) (below views.ledger_time (2 ^ 64)) (set_decides views.act_as) (views_decide views.roots) in (
      λ h. let p = d.0 h in record { sender_is = p.0; time_fits = p.1; requesters_are = p.2; each = p.3 },
      λ r. d.1 (r.sender_is, r.time_fits, r.requesters_are, r.each),
    )

-- ---- what has room in a tree

each_small : (views : Forest SplitView) → Decides (are_small views) (AreSmall views)
each_small NoRoots = (λ h. tt, λ h. refl)
each_small (Root view subviews others) =
    five_decide (below (length (roles_bytes view)) (2 ^ 32)) (below (length (core_bytes view)) (2 ^ 32)) (at_most (trees_count subviews) MOST_ACTIONS)
    (each_small subviews) (each_small others)

pub small_decides : (sender : List ℕ) (views : Views) → Decides (is_small sender views) (IsSmall sender views)
small_decides sender views =
    let d =
    five_decide (below (length (common_bytes sender views.ledger_time)) (2 ^ 32)) (below (length (spell_parties views.act_as)) (2 ^ 32))
    (at_most (trees_count views.roots) MOST_ACTIONS) (at_most (depth views.roots) MOST_ACTION_DEPTH) (each_small views.roots) in (
      λ h. let p = d.0 h in record { common = p.0; requesters = p.1; few = p.2; nested = p.3; each = p.4 },
      λ r. d.1 (r.common, r.requesters, r.few, r.nested, r.each),
    )
