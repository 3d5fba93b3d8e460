-- The words after a command, as `clap` has them.
use Rattle.std.specs.Prelude.{true, List, [], ◌∷◌, Some, codes}
use Rattle.clap.specs.Walk.{Rule, Row}
use Rattle.clap.specs.Matches.{found_of, first_value}
use Rattle.clap.specs.declared.parser.matches.ArgMatches.{ArgMatches}
use Rattle.clap.specs.Simple.{App, new_rule, new_shape, matches_of}
use Rattle.clap.specs.Faults.{fault_of}
use Rattle.clap.specs.Kinds.{Kinds}
use Rattle.clap.specs.declared.builder.action.ArgAction.TheVariants.{Set}
use Rattle.cli_words.specs.Arguments.{Text}
use Rattle.cli_words.specs.Jobs.{Given}

-- the rule by which `clap` reads the option of this name, which is given one text
abbrev pub option_rule : Text → Rule
option_rule name = record (new_rule name) { long = Some name; action = Some Set }

-- the rule by which `clap` reads the positional of this name
abbrev pub positional_rule : Text → Rule
positional_rule name = record (new_rule name) { action = Some Set }

-- `clap`'s command with these rules of arguments; it has no help, and its words don't begin with the program's name
abbrev app_with : List Rule → App
app_with rules =
    record {
      top = record (new_shape (codes "words")) { no_binary_name = true; disable_help_flag = true; rules = rules };
      subs = [];
    }

-- the command with the options alone, to which `words_app` adds the positionals
abbrev pub options_app : App
options_app = app_with (option_rule (codes "workers") ∷ option_rule (codes "log") ∷ [])

-- the command by which `clap` reads the words after every command of the program: both options and both positionals
abbrev pub words_app : App
words_app =
    app_with (option_rule (codes "workers") ∷ option_rule (codes "log") ∷ positional_rule (codes "count") ∷ positional_rule (codes "seed") ∷ [])

-- the kinds of error that `clap` may give at the words; none, an empty list, where it takes them. A proof compares it with `arguments_of`.
unfoldable pub words_fault : List Text → Kinds
words_fault words = fault_of words_app words

-- What `clap` reads the words as, where it takes them, that is where `words_fault` is empty: a row for each argument that they give, with its text.
-- Where it finds an error, the rows stand for nothing. A proof compares them with `arguments_of`.
unfoldable pub words_rows : List Text → List Row
words_rows words = matches_of words_app words

-- the texts of the arguments in `clap`'s answer to the words, None for one that isn't given
abbrev pub matches_given : ArgMatches → Given
matches_given m =
    record {
      workers = first_value (found_of m) (codes "workers");
      log = first_value (found_of m) (codes "log");
      count = first_value (found_of m) (codes "count");
      seed = first_value (found_of m) (codes "seed");
    }
