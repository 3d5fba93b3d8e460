-- The states of the walk, and what a turn leaves of them.
use Rattle.std.proofs.Common.{◌≡◌, ℕ, suc, Bool, true, false, ◌&&◌, ◌||◌, List, [], ◌∷◌, ◌++◌, Option, Some, None, length, refl, ◌∙◌, ap}
use Rattle.std.specs.Prelude.{codes, if◌then◌else◌, slice_get}
use Rattle.std.specs.List.{fold}
use Rattle.std.specs.Option.{option_map_or}
use Rattle.std.specs.Str.{bytes_eq, chars}
use Rattle.clap.specs.Walk.{Held, Row, Rule, Waiting, Walk, idle, has_row, with_values, without, used_by_id, settled, settled_rows, pushed, is_pending, with_default, arg_by_id}
use Rattle.clap.specs.Faults.{use_fault, settle_fault, default_fault, defaults_fault, check_fault, flags_fault, bundle_fault, bundle_step_fault}
use Rattle.clap.specs.Kinds.{Kinds, or_else}
use Rattle.clap.specs.declared.error.kind.ErrorKind.{ErrorKind}
use Rattle.clap.specs.declared.error.kind.ErrorKind.TheVariants.{ArgumentConflict, InvalidValue, UnknownArgument}
use Rattle.clap.specs.declared.builder.value_parser.Reading.TheVariants as reading
use Rattle.clap.specs.declared.parser.matches.ValueSource.TheVariants.{CommandLine}
use Rattle.cli_words.specs.Arguments.{Text, Argument, is_given}
use Rattle.cli_words.proofs.Built.{positional_built, rules, shape, unless, reads}
use Rattle.cli_words.proofs.Given.{rows_of_given, has_row-given, used-absent, absent-more}

-- which positionals are still to come
pub data Left : Type 0 where
  both_left : Left
  seed_left : Left
  none_left : Left

abbrev pub names_left : Left → List Text
names_left both_left = codes "count" ∷ codes "seed" ∷ []
names_left seed_left = codes "seed" ∷ []
names_left none_left = []

abbrev pub place : Left → ℕ
place both_left = 1
place seed_left = 2
place none_left = 3

-- none of them is given yet
abbrev pub Fresh : Left → List Argument → Type 0
Fresh both_left given = (is_given (codes "count") given ≡ false) × (is_given (codes "seed") given ≡ false)
Fresh seed_left given = is_given (codes "seed") given ≡ false
Fresh none_left given = Unit {0}

pub fresh-more : (k : Left) (name text : Text) (given : List Argument) → bytes_eq name (codes "count") ≡ false → bytes_eq name (codes "seed") ≡ false
    → Fresh k given → Fresh k (given ++ (name, text) ∷ [])
fresh-more both_left name text given c s f = (absent-more (codes "count") name text given c f.0, absent-more (codes "seed") name text given s f.1)
fresh-more seed_left name text given c s f = absent-more (codes "seed") name text given s f
fresh-more none_left name text given c s f = tt

-- between two words, and where an option's text is next
abbrev pub at : Bool → Waiting → Held → Left → Walk
at is_last waiting h k = record { held = h; waiting = waiting; position = place k; is_trailing = is_last; stopped = None }

abbrev pub pending_held : List Row → Text → List Text → ℕ → Held
pending_held rows name texts skip = record { rows = rows; pending = Some (name, texts); skip = skip }

-- what is held says just what is given
pub record Holds (given : List Argument) (h : Held) : Type 0 where
  pub settles : settle_fault rules false h ≡ []
  pub rows : settled_rows rules h.pending h.rows ≡ rows_of_given given
  pub skip : h.skip ≡ 0

-- what is held is at fault, which shows later
pub record Doomed (h : Held) : Type 0 where
  pub kind : ErrorKind
  pub settles : settle_fault rules false h ≡ kind ∷ []
  pub skip : h.skip ≡ 0

abbrev pub repeat_kinds : Bool → Kinds
repeat_kinds again = or_else (if again && true then ArgumentConflict ∷ [] else []) []

-- a use of the argument: it is at fault where the argument was used before, and its row comes behind the others
pub record IsKnown (name : Text) : Type 0 where
  pub settles : (text : Text) (rs : List Row) → option_map_or (λ a. use_fault false a (text ∷ []) rs) (arg_by_id rules name) [] ≡ repeat_kinds (has_row name rs)
  pub rows : (text : Text) (rs : List Row)
      → used_by_id (arg_by_id rules name) (text ∷ []) rs ≡ with_values name reading.AsWritten CommandLine (text ∷ []) (without name rs)
  pub unfilled : (rs : List Row) → option_map_or (λ a. use_fault false a [] rs) (arg_by_id rules name) [] ≡ InvalidValue ∷ []

pub known_workers : IsKnown (codes "workers")
known_workers = record { settles = λ t rs. refl; rows = λ t rs. refl; unfilled = λ rs. refl }

pub known_log : IsKnown (codes "log")
known_log = record { settles = λ t rs. refl; rows = λ t rs. refl; unfilled = λ rs. refl }

pub known_count : IsKnown (codes "count")
known_count = record { settles = λ t rs. refl; rows = λ t rs. refl; unfilled = λ rs. refl }

pub known_seed : IsKnown (codes "seed")
known_seed = record { settles = λ t rs. refl; rows = λ t rs. refl; unfilled = λ rs. refl }

pub has_row-rows : (name : Text) (given : List Argument) (rs : List Row) (b : Bool) → rs ≡ rows_of_given given → is_given name given ≡ b → has_row name rs ≡ b
has_row-rows name given rs b e g = ap (has_row name) e ∙ has_row-given name given ∙ g

pub used-rows : (name text : Text) (given : List Argument) (rs : List Row) → rs ≡ rows_of_given given → is_given name given ≡ false
    → with_values name reading.AsWritten CommandLine (text ∷ []) (without name rs) ≡ rows_of_given (given ++ (name, text) ∷ [])
used-rows name text given rs e g =
    ap (λ (rows : List Row). with_values name reading.AsWritten CommandLine (text ∷ []) (without name rows)) e ∙ used-absent name text given g

pub holds_pending : (name text : Text) (given : List Argument) (rs : List Row) (skip : ℕ) → IsKnown name → rs ≡ rows_of_given given → skip ≡ 0
    → is_given name given ≡ false → Holds (given ++ (name, text) ∷ []) (pending_held rs name (text ∷ []) skip)
holds_pending name text given rs skip known e s g =
    record {
      settles = known.settles text rs ∙ ap repeat_kinds (has_row-rows name given rs false e g);
      rows = known.rows text rs ∙ used-rows name text given rs e g;
      skip = s;
    }

pub doomed_pending : (name text : Text) (given : List Argument) (rs : List Row) (skip : ℕ) → IsKnown name → rs ≡ rows_of_given given → skip ≡ 0
    → is_given name given ≡ true → Doomed (pending_held rs name (text ∷ []) skip)
doomed_pending name text given rs skip known e s g =
    record {
      kind = ArgumentConflict;
      settles = known.settles text rs ∙ ap repeat_kinds (has_row-rows name given rs true e g);
      skip = s;
    }

pub doomed_unfilled : (name : Text) (rs : List Row) (skip : ℕ) → IsKnown name → skip ≡ 0 → Doomed (pending_held rs name [] skip)
doomed_unfilled name rs skip known s = record { kind = InvalidValue; settles = known.unfilled rs; skip = s }

-- ---- the end

abbrev NoDefaults : List Rule → Type 0
NoDefaults [] = Unit {0}
NoDefaults (a ∷ c) = (a.defaults ≡ []) × NoDefaults c

or_true : {A : Type 0} (b : Bool) (x y : A) → (if b || true then x else y) ≡ x
or_true true x y = refl
or_true false x y = refl

same_either : {A : Type 0} (b : Bool) (x : A) → (if b then x else x) ≡ x
same_either true x = refl
same_either false x = refl

no_default_fault : (rs : List Row) (a : Rule) → a.defaults ≡ [] → default_fault rs a ≡ []
no_default_fault rs a e = rw e (or_true (has_row a.id rs) [] _)

no_default : (rs : List Row) (a : Rule) → a.defaults ≡ [] → with_default rs a ≡ rs
no_default rs a e = rw e (same_either (has_row a.id rs) rs)

no_defaults_fault : (c : List Rule) (rs : List Row) → NoDefaults c → defaults_fault rs c ≡ []
unfolding defaults_fault
no_defaults_fault [] rs n = refl
no_defaults_fault (a ∷ c) rs n = rw (no_default_fault rs a n.0, no_default rs a n.0) (no_defaults_fault c rs n.1)

no_defaults : (c : List Rule) (rs : List Row) → NoDefaults c → fold with_default rs c ≡ rs
no_defaults [] rs n = refl
no_defaults (a ∷ c) rs n = rw (no_default rs a n.0) (no_defaults c rs n.1)

rules_have_none : NoDefaults rules
rules_have_none = (refl, (refl, (refl, (refl, tt))))

ends : (kinds : Kinds) (rs : List Row) → kinds ≡ []
    → unless (or_else kinds (or_else (defaults_fault rs rules) (check_fault shape (fold with_default rs rules) false))) (Some (fold with_default rs rules)) ≡ Some rs
ends kinds rs e = rw (e, no_defaults_fault rules rs rules_have_none, no_defaults rules rs rules_have_none) refl

pub holds_at_end : (is_last : Bool) (given : List Argument) (h : Held) (k : Left) → Holds given h → reads (at is_last idle h k) [] ≡ Some (rows_of_given given)
holds_at_end is_last given h k hold =
    ends (settle_fault rules false h) (settled_rows rules h.pending h.rows) hold.settles ∙ ap (λ (rs : List Row). Some rs) hold.rows

pub faulted : {A : Type 0} (kinds more : Kinds) (k : ErrorKind) (x : Option A) → kinds ≡ k ∷ [] → unless (or_else kinds more) x ≡ None
faulted kinds more k x e = rw e refl

-- ---- turns

-- a positional takes the word
pub placed : (is_last : Bool) (i : ℕ) (name word : Text) (given : List Argument) (h : Held) (k : Left) (words : List Text) (found : Option (List Row))
    → IsKnown name → Holds given h → is_given name given ≡ false
    → ((h' : Held) → Holds (given ++ (name, word) ∷ []) h' → reads (at is_last idle h' k) words ≡ found)
    → unless (if is_pending (positional_built i name) h.pending && false then [] else settle_fault rules false h)
    (reads (at is_last idle (pushed name word (if is_pending (positional_built i name) h.pending && false then h else settled rules h)) k) words) ≡ found
placed is_last i name word given h k words found known hold g after = go (is_pending (positional_built i name) h.pending)
  where
    body : unless (settle_fault rules false h) (reads (at is_last idle (pushed name word (settled rules h)) k) words) ≡ found
    body = rw hold.settles (after (pushed name word (settled rules h)) (holds_pending name word given (settled_rows rules h.pending h.rows) h.skip known hold.rows hold.skip g))

    go : (b : Bool)
        → unless (if b && false then [] else settle_fault rules false h)
        (reads (at is_last idle (pushed name word (if b && false then h else settled rules h)) k) words) ≡ found
    go true = body
    go false = body

pub doomed_placed : {A : Type 0} (i : ℕ) (name : Text) (h : Held) (x : Option A) → Doomed h
    → unless (if is_pending (positional_built i name) h.pending && false then [] else settle_fault rules false h) x ≡ None
doomed_placed i name h x doom = go (is_pending (positional_built i name) h.pending)
  where
    go : (b : Bool) → unless (if b && false then [] else settle_fault rules false h) x ≡ None
    go true = rw doom.settles refl
    go false = rw doom.settles refl

-- a word of letters: it has a first one
pub record AreLetters (flags : Text) : Type 0 where
  pub others : ℕ
  pub count : length flags ≡ suc others
  pub letter : ℕ
  pub first : slice_get (chars flags) 0 ≡ Some letter

-- no option has a letter
pub flag_fault : (flags : Text) (h : Held) → AreLetters flags → h.skip ≡ 0 → bundle_fault rules false flags h ≡ UnknownArgument ∷ []
unfolding flags_fault
flag_fault flags h letters s = steps (length flags) h.skip (record h { skip = 0 }) letters.count s
  where
    step : (first : Option ℕ) (skip : ℕ) (held : Held) (more : Text → ℕ → Held → Kinds) → first ≡ Some letters.letter → skip ≡ 0
        → bundle_step_fault rules false first flags skip held more ≡ UnknownArgument ∷ []
    step first skip held more e s' = rw (e, s') refl

    steps : (n skip : ℕ) (held : Held) → n ≡ suc letters.others → skip ≡ 0 → flags_fault rules false n flags skip held ≡ UnknownArgument ∷ []
    steps n skip held e s' = rw e (step (slice_get (chars flags) 0) skip held (flags_fault rules false letters.others) letters.first s')
