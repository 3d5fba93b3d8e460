-- What the words after a command say: which argument is given which text.
use Rattle.std.specs.Prelude.{◌≡◌, ℕ, Bool, true, ◌&&◌, ◌||◌, not, List, [], ◌∷◌, ◌++◌, Option, Some, None, if◌then◌else◌, codes}
use Rattle.std.specs.List.{list_any}
use Rattle.std.specs.Str.{bytes_eq, is_utf8}
use Rattle.clap.specs.Lexer.{long_of, short_of}

-- a word as its bytes
abbrev pub Text : Type 0
Text = List ℕ

-- an argument by its name, with the text that it is given
abbrev pub Argument : Type 0
Argument = Text × Text

-- each of these words is UTF-8
abbrev pub AreUtf8 : List Text → Type 0
AreUtf8 [] = Unit {0}
AreUtf8 (word ∷ words) = (is_utf8 word ≡ true) × AreUtf8 words

-- ---- one word

-- What a word looks like: `ending` is `--`; `option` is `--name` or `--name=text`, with the name, and with the text or None; `flag` is a word with one
-- hyphen before something; and `plain` is any other word, a lone hyphen among them.
pub data Form : Type 0 where
  ending : Form
  option : Text → Option Text → Form
  flag : Form
  plain : Form

-- The form of a word other than `--`, by what `clap` finds behind two hyphens, a name with a text or without one, and by what it finds behind one
-- hyphen. Each is None where it finds nothing.
abbrev pub form_behind : Option (Text × Option Text) → Option Text → Form
form_behind (Some named) short = option named.0 named.1
form_behind None (Some letters) = flag
form_behind None None = plain

-- the form of a word: `ending` of `--`, and of any other what `clap` finds behind its hyphens
abbrev pub form_of : Text → Form
form_of word = if bytes_eq word (codes "--") then ending else form_behind (long_of word) (short_of word)

-- ---- arguments

-- whether a name is that of an option, `workers` or `log`
abbrev pub is_option : Text → Bool
is_option name = bytes_eq (codes "workers") name || bytes_eq (codes "log") name

-- the names of the positionals, in their order
abbrev pub positionals : List Text
positionals = codes "count" ∷ codes "seed" ∷ []

-- whether an argument of this name is among those that are given
abbrev pub is_given : Text → List Argument → Bool
is_given name given = list_any (λ (a : Argument). bytes_eq a.0 name) given

-- the text that the argument of this name is given, None where it isn't given
abbrev pub text_of : Text → List Argument → Option Text
text_of name [] = None
text_of name (a ∷ given) = if bytes_eq a.0 name then Some a.1 else text_of name given

-- What `after` makes of the arguments `given` with the option `name` and its text behind them; None where the name isn't an option's or is given
-- already.
abbrev pub with_option : List Argument → Text → Text → (List Argument → Option (List Argument)) → Option (List Argument)
with_option given name text after =
    if is_option name && not (is_given name given) then after (given ++ (name, text) ∷ []) else None

-- What `after` makes of the arguments `given` with this text as that of the first positional to come, and of the names of those to come after it; the
-- second argument lists the names of all to come. None where no positional is to come.
abbrev pub with_positional : List Argument → List Text → Text → (List Argument → List Text → Option (List Argument))
    → Option (List Argument)
with_positional given [] text after = None
with_positional given (name ∷ left) text after = after (given ++ (name, text) ∷ []) left

-- ---- all words

-- The arguments `given` with those of the words behind a `--`, each of which is the text of the next positional; `left` names the positionals to come.
-- None where there are more words than positionals to come.
abbrev pub positionals_from : List Argument → List Text → List Text → Option (List Argument)
positionals_from given left [] = Some given
positionals_from given left (word ∷ words) =
    with_positional given left word (λ given' left'. positionals_from given' left' words)

-- How to go on behind a word, by its form: `last` behind `--`, `joined` with an option and its text, `apart` with an option whose text is to come,
-- `other` with a plain word. A flag is at fault, which None says.
abbrev pub by_form : Form → (Unit {0} → Option (List Argument)) → (Text → Text → Option (List Argument))
    → (Text → Option (List Argument)) → (Unit {0} → Option (List Argument)) → Option (List Argument)
by_form ending last joined apart other = last tt
by_form (option name (Some text)) last joined apart other = joined name text
by_form (option name None) last joined apart other = apart name
by_form flag last joined apart other = None
by_form plain last joined apart other = other tt

-- what `other` gives for a plain word; None of a word of another form, which can't be the text of an option
abbrev pub if_plain : Form → (Unit {0} → Option (List Argument)) → Option (List Argument)
if_plain plain other = other tt
if_plain _ other = None

abbrev mutual
  -- The arguments `given` with those of the words; `left` names the positionals to come. An option's text is joined to it by `=`, or is the next
  -- word. None where the words are at fault.
  pub arguments_from : List Argument → List Text → List Text → Option (List Argument)
  arguments_from given left [] = Some given
  arguments_from given left (word ∷ words) =
      by_form (form_of word)
      (λ _. positionals_from given left words)
      (λ name text. with_option given name text (λ given'. arguments_from given' left words))
      (λ name. text_from given left name words)
      (λ _. with_positional given left word (λ given' left'. arguments_from given' left' words))

  -- The arguments `given` with those of the words, the first of which has to be a plain one, the text of the option `name`; `left` names the
  -- positionals to come. None where there is no word or the words are at fault.
  pub text_from : List Argument → List Text → Text → List Text → Option (List Argument)
  text_from given left name [] = None
  text_from given left name (word ∷ words) =
      if_plain (form_of word) (λ _. with_option given name word (λ given'. arguments_from given' left words))

-- The arguments that the words say, in the order of the words; None where the words are at fault. It is proved that `clap` reads words in UTF-8 so.
abbrev pub arguments_of : List Text → Option (List Argument)
arguments_of words = arguments_from [] positionals words
