-- The command as `clap` builds it, and a walk over words that ends with the first fault.
use Rattle.std.proofs.Common.{◌≡◌, ℕ, true, false, List, [], ◌∷◌, Option, Some, None, refl, sym, subst}
use Rattle.std.specs.Prelude.{codes, is_some}
use Rattle.std.specs.List.{fold}
use Rattle.clap.specs.Walk.{Held, Row, Rule, Walk, nothing_held, walk_from, walked, finished, settled}
use Rattle.clap.specs.Simple.{App, Shape, new_shape, built, entered}
use Rattle.clap.specs.Faults.{settle_fault, defaults_fault, check_fault, turn_fault, walk_fault, entered_fault, level_fault}
use Rattle.clap.specs.Kinds.{Kinds, or_else}
use Rattle.clap.specs.declared.builder.value_parser.ValueParser.TheVariants as vp
use Rattle.cli_words.specs.Arguments.{Text}
use Rattle.cli_words.specs.Command.{option_rule, positional_rule, words_app, words_fault, words_rows}

abbrev pub option_built : Text → Rule
option_built name = record (option_rule name) { range = Some (record { start_inclusive = 1; end_inclusive = 1 }); parser = Some vp.String }

abbrev pub positional_built : ℕ → Text → Rule
positional_built place name =
    record (positional_rule name) { index = Some place; range = Some (record { start_inclusive = 1; end_inclusive = 1 }); parser = Some vp.String }

abbrev pub rules : List Rule
rules = option_built (codes "workers") ∷ option_built (codes "log") ∷ positional_built 1 (codes "count") ∷ positional_built 2 (codes "seed") ∷ []

abbrev pub shape : Shape
shape =
    record (new_shape (codes "words")) {
      no_binary_name = true;
      disable_help_flag = true;
      disable_help_subcommand = true;
      is_built = true;
      rules = rules;
    }

pub built_is : built words_app ≡ record { top = shape; subs = [] }
built_is = refl

-- ---- the walk, ended by its first fault

abbrev pub unless : {A : Type 0} → Kinds → Option A → Option A
unless [] x = x
unless (k ∷ ks) x = None

abbrev pub end_fault : Held → Kinds
end_fault h =
    or_else (settle_fault rules false h) (or_else (defaults_fault (settled rules h).rows rules) (check_fault shape (finished rules h) false))

abbrev pub reads : Walk → List Text → Option (List Row)
reads w [] = unless (end_fault w.held) (Some (finished rules w.held))
reads w (word ∷ words) = unless (turn_fault shape [] w word) (reads (walked rules [] w word) words)

-- the walk ends without a fault and with these rows, or `clap` finds one
abbrev pub Agrees : Option (List Row) → Kinds → List Row → Type 0
Agrees (Some found) kinds rows = (kinds ≡ []) × (rows ≡ found)
Agrees None kinds rows = kinds ≡ [] → ⊥

agrees_at_end : (kinds : Kinds) (rows : List Row) → Agrees (unless kinds (Some rows)) kinds rows
agrees_at_end [] rows = (refl, refl)
agrees_at_end (k ∷ ks) rows = λ e. (cc)

agrees_after : (kinds more : Kinds) (found : Option (List Row)) (rows : List Row) → Agrees found more rows → Agrees (unless kinds found) (or_else kinds more) rows
agrees_after [] more found rows h = h
agrees_after (k ∷ ks) more found rows h = λ e. (cc)

abbrev all_faults : Walk → List Text → Kinds
all_faults w words = or_else (walk_fault shape [] w words) (end_fault (fold (walked rules []) w words).held)

or_else_assoc : (a b c : Kinds) → or_else (or_else a b) c ≡ or_else a (or_else b c)
or_else_assoc [] b c = refl
or_else_assoc (k ∷ ks) b c = refl

agrees : (words : List Text) (w : Walk) → Agrees (reads w words) (all_faults w words) (finished rules (fold (walked rules []) w words).held)
unfolding walk_fault
agrees [] w = agrees_at_end (end_fault w.held) (finished rules w.held)
agrees (word ∷ words) w =
    let more = agrees words (walked rules [] w word) in
    let kinds = turn_fault shape [] w word in
    let rest = walk_fault shape [] (walked rules [] w word) words in
    rw (or_else_assoc kinds rest (end_fault (fold (walked rules []) w (word ∷ words)).held))
    (agrees_after kinds (all_faults (walked rules [] w word) words) _ _ more)

abbrev app : App
app = record { top = shape; subs = [] }

-- no word leads to a subcommand
level : (words : List Text) (stop : Option (Text × List Text))
    → level_fault shape [] nothing_held words (is_some (entered app stop)) (entered_fault app stop) ≡ all_faults (walk_from nothing_held) words
level words None = refl
level words (Some p) = refl

-- `clap` takes the words exactly where the walk ends without a fault, and gives its rows
pub words_agree : (words : List Text) → Agrees (reads (walk_from nothing_held) words) (words_fault words) (words_rows words)
unfolding words_fault words_rows
words_agree words =
    let start = walk_from nothing_held in
    subst (λ (kinds : Kinds). Agrees (reads start words) kinds (words_rows words)) (sym (level words (fold (walked rules []) start words).stopped)) (agrees words start)
