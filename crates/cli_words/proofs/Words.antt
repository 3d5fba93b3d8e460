-- What `clap` makes of the words is what they say.
use Rattle.std.proofs.Common.{◌≡◌, ℕ, Bool, true, false, ◌&&◌, List, [], ◌∷◌, ◌++◌, Option, Some, None, ◌⊎◌, inl, inr, length, refl, ◌∙◌, ap₂, subst}
use Rattle.std.specs.Prelude.{codes, if◌then◌else◌, slice_get, option_and_then, ◌==◌}
use Rattle.std.specs.Option.{option_map, option_map_or}
use Rattle.std.specs.Char.{encode_utf8}
use Rattle.std.specs.Str.{bytes_eq, chars, is_utf8, all_scalars, encode_utf8_all}
use Rattle.std.proofs.lemmas.Bool.{cases_Bool, and_parts, eqb-true, false≢true}
use Rattle.std.proofs.lemmas.Slice.Eq.{bytes_eq-Decides}
use Rattle.clap.specs.Lexer.{long_of, short_of, short_of_rest}
use Rattle.clap.specs.Walk.{Held, Row, Rule, Step, Waiting, Walk, idle, option as waits_for, trailing, after_flag, after_step, arg_by_id, arg_by_long, has_row, long_met, long_word, nothing_held, walk_from, long_or_other, subcommand_or_other, settled_rows, short_or_plain, walked, with_values, without}
use Rattle.clap.specs.Faults.{bundle_fault, flag_word_fault, long_fault, other_fault, settle_fault, step_fault}
use Rattle.clap.specs.Kinds.{Kinds, or_else}
use Rattle.clap.specs.declared.builder.value_parser.Reading.TheVariants as reading
use Rattle.clap.specs.declared.parser.matches.ValueSource.TheVariants.{CommandLine}
use Rattle.cli_words.specs.Arguments.{Text, AreUtf8, Argument, Form, ending, option, flag, plain, form_of, form_behind, is_option, is_given, with_option, with_positional, positionals_from, by_form, if_plain, arguments_from, text_from, arguments_of}
use Rattle.cli_words.specs.Command.{words_fault, words_rows}
use Rattle.cli_words.proofs.Built.{option_built, rules, shape, unless, reads, Agrees, words_agree}
use Rattle.cli_words.proofs.Given.{rows_of_given, absent-more}
use Rattle.cli_words.proofs.Walked.{Left, both_left, seed_left, none_left, names_left, place, Fresh, fresh-more, at, pending_held, Holds, Doomed, repeat_kinds, IsKnown, known_workers, known_log, known_count, known_seed, has_row-rows, used-rows, holds_pending, doomed_pending, doomed_unfilled, holds_at_end, faulted, placed, doomed_placed, AreLetters, flag_fault}

abbrev said : Option (List Argument) → Option (List Row)
said = option_map rows_of_given

-- ---- a turn, by the look of its word

abbrev turned : Kinds → Held × Step → Walk → Text → List Text → Option (List Row)
turned kinds met w word words =
    unless (or_else kinds (step_fault shape w.position met.0 met.1)) (reads (after_step rules word w met.0 met.1) words)

abbrev look_fault : Bool → Option (Text × Option Text) → Option Text → Held → Kinds
look_fault true named short h = []
look_fault false (Some p) short h = long_fault rules false (arg_by_long rules p.0) p.1 h
look_fault false None short h = option_map_or (λ flags. bundle_fault rules false flags h) short []

abbrev look_met : Bool → Option (Text × Option Text) → Option Text → Waiting → ℕ → Text → Held → Held × Step
look_met true named short waiting position word h = (h, trailing position)
look_met false (Some p) short waiting position word h = long_word rules waiting word p.0 p.1 h
look_met false None short waiting position word h = short_or_plain rules waiting word short h

abbrev looks : Bool → Option (Text × Option Text) → Option Text → Waiting → Held → Left → Text → List Text → Option (List Row)
looks is_end named short waiting h k word words =
    turned (look_fault is_end named short h) (look_met is_end named short waiting (place k) word h) (at false waiting h k) word words

fault_is : (word : Text) (h : Held) → other_fault shape None word h ≡ look_fault (bytes_eq word (codes "--")) (long_of word) (short_of word) h
fault_is word h = go (bytes_eq word (codes "--")) (long_of word)
  where
    go : (is_end : Bool) (named : Option (Text × Option Text))
        → (if is_end then [] else flag_word_fault rules false named word h) ≡ look_fault is_end named (short_of word) h
    go true named = refl
    go false None = refl
    go false (Some p) = refl

met_is : (waiting : Waiting) (position : ℕ) (word : Text) (h : Held)
    → subcommand_or_other rules None waiting position word h
    ≡ look_met (bytes_eq word (codes "--")) (long_of word) (short_of word) waiting position word h
met_is waiting position word h = go (bytes_eq word (codes "--")) (long_of word)
  where
    go : (is_end : Bool) (named : Option (Text × Option Text))
        → (if is_end then (h, trailing position) else long_or_other rules waiting word named h)
        ≡ look_met is_end named (short_of word) waiting position word h
    go true named = refl
    go false None = refl
    go false (Some p) = refl

idle_turn : (h : Held) (k : Left) (word : Text) (words : List Text)
    → reads (at false idle h k) (word ∷ words) ≡ looks (bytes_eq word (codes "--")) (long_of word) (short_of word) idle h k word words
unfolding walked
idle_turn h k word words =
    ap₂ (λ (kinds : Kinds) (met : Held × Step). turned kinds met (at false idle h k) word words) (fault_is word h) (met_is idle (place k) word h)

option_turn : (name : Text) (h : Held) (k : Left) (word : Text) (words : List Text)
    → reads (at false (waits_for name) h k) (word ∷ words) ≡ looks (bytes_eq word (codes "--")) (long_of word) (short_of word) (waits_for name) h k word words
unfolding walked
option_turn name h k word words =
    let w = at false (waits_for name) h k in
    ap₂ (λ (kinds : Kinds) (met : Held × Step). turned kinds met w word words) (fault_is word h) (met_is (waits_for name) (place k) word h)

-- the letters of a word are some
abbrev HasLetters : Option Text → Type 0
HasLetters short = (flags : Text) → short ≡ Some flags → AreLetters flags

-- behind a hyphen a text has a first character
first_letter : (x : ℕ) (xs : List ℕ) → is_utf8 (45 ∷ x ∷ xs) ≡ true → (c : ℕ) × (slice_get (chars (x ∷ xs)) 0 ≡ Some c)
unfolding chars encode_utf8 is_utf8
first_letter x xs utf8 = go (chars (x ∷ xs)) utf8
  where
    go : (cs : List ℕ) → (all_scalars (45 ∷ cs) && bytes_eq (encode_utf8_all (45 ∷ cs)) (45 ∷ x ∷ xs)) ≡ true → (c : ℕ) × (slice_get cs 0 ≡ Some c)
    go [] e = absurd (false≢true (and_parts (all_scalars (45 ∷ [])) (bytes_eq (encode_utf8_all (45 ∷ [])) (45 ∷ x ∷ xs)) e).1)
    go (c ∷ cs) e = (c, refl)

letters_behind : (xs flags : Text) → is_utf8 (45 ∷ xs) ≡ true → short_of_rest xs ≡ Some flags → AreLetters flags
letters_behind [] flags utf8 e = absurd (cc)
letters_behind (x ∷ xs) flags utf8 e =
    subst AreLetters (same (x == 45) e) (record { others = length xs; count = refl; letter = (first_letter x xs utf8).0; first = (first_letter x xs utf8).1 })
  where
    same : (b : Bool) → (if b then None else Some (x ∷ xs)) ≡ Some flags → x ∷ xs ≡ flags
    same true bad = absurd (cc)
    same false good = cc

letters_of : (word : Text) → is_utf8 word ≡ true → HasLetters (short_of word)
letters_of [] utf8 flags e = absurd (cc)
letters_of (x ∷ xs) utf8 flags e = go (x == 45) (eqb-true x 45) e
  where
    go : (b : Bool) → (b ≡ true → x ≡ 45) → option_and_then short_of_rest (if b then Some xs else None) ≡ Some flags → AreLetters flags
    go true is found = letters_behind xs flags (subst (λ (y : ℕ). is_utf8 (y ∷ xs) ≡ true) (is refl) utf8) found
    go false is found = absurd (cc)

-- ---- options

record IsKnownOption (name : Text) : Type 0 where
  by_long : arg_by_long rules name ≡ Some (option_built name)
  by_id : arg_by_id rules name ≡ Some (option_built name)
  listed : is_option name ≡ true
  same : bytes_eq name name ≡ true
  count : bytes_eq name (codes "count") ≡ false
  seed : bytes_eq name (codes "seed") ≡ false
  known : IsKnown name

workers_option : IsKnownOption (codes "workers")
workers_option = record { by_long = refl; by_id = refl; listed = refl; same = refl; count = refl; seed = refl; known = known_workers }

log_option : IsKnownOption (codes "log")
log_option = record { by_long = refl; by_id = refl; listed = refl; same = refl; count = refl; seed = refl; known = known_log }

abbrev IsNoOption : Text → Type 0
IsNoOption name = (arg_by_long rules name ≡ None) × (is_option name ≡ false)

no_option : (name : Text) → bytes_eq (codes "workers") name ≡ false → bytes_eq (codes "log") name ≡ false → IsNoOption name
no_option name w l = (rw (w, l) refl, rw (w, l) refl)

option_cases : (name : Text) → IsKnownOption name ⊎ IsNoOption name
option_cases name = elim (cases_Bool (bytes_eq (codes "workers") name)) [
  | inl w ↦ inl (subst IsKnownOption ((bytes_eq-Decides (codes "workers") name).0 w) workers_option)
  | inr w ↦ elim (cases_Bool (bytes_eq (codes "log") name)) [
    | inl l ↦ inl (subst IsKnownOption ((bytes_eq-Decides (codes "log") name).0 l) log_option)
    | inr l ↦ inr (no_option name w l)
  ]
]

-- ---- what is at fault stays so

doomed_last : (waiting : Waiting) (h : Held) (k : Left) (words : List Text) → Doomed h → reads (at true waiting h k) words ≡ None
unfolding walked
doomed_last waiting h k [] doom = faulted (settle_fault rules false h) _ doom.kind _ doom.settles
doomed_last waiting h both_left (word ∷ words) doom = doomed_placed 1 (codes "count") h _ doom
doomed_last waiting h seed_left (word ∷ words) doom = doomed_placed 2 (codes "seed") h _ doom
doomed_last waiting h none_left (word ∷ words) doom = refl

doomed_long : {A : Type 0} (name : Text) (text : Option Text) (h : Held) (more : Kinds) (x : Option A) → Doomed h
    → unless (or_else (long_fault rules false (arg_by_long rules name) text h) more) x ≡ None
doomed_long name text h more x doom = elim (option_cases name) [
  | inl known ↦ go (arg_by_long rules name) known.by_long text
  | inr none ↦ unknown (arg_by_long rules name) none.0
]
  where
    go : (found : Option Rule) → found ≡ Some (option_built name) → (t : Option Text) → unless (or_else (long_fault rules false found t h) more) x ≡ None
    go found e None = rw (e, doom.settles) refl
    go found e (Some t) = rw (e, doom.settles) refl

    unknown : (found : Option Rule) → found ≡ None → unless (or_else (long_fault rules false found text h) more) x ≡ None
    unknown found e = rw e refl

doomed_idle_looks : (is_end : Bool) (named : Option (Text × Option Text)) (short : Option Text) (h : Held) (k : Left) (word : Text) (words : List Text)
    → HasLetters short → Doomed h → looks is_end named short idle h k word words ≡ None
doomed_idle_looks true named short h k word words letters doom = doomed_last idle h k words doom
doomed_idle_looks false (Some p) short h k word words letters doom = doomed_long p.0 p.1 h _ _ doom
doomed_idle_looks false None (Some flags) h k word words letters doom = rw (flag_fault flags h (letters flags refl) doom.skip) refl
doomed_idle_looks false None None h both_left word words letters doom = doomed_placed 1 (codes "count") h _ doom
doomed_idle_looks false None None h seed_left word words letters doom = doomed_placed 2 (codes "seed") h _ doom
doomed_idle_looks false None None h none_left word words letters doom = refl

doomed_idle : (h : Held) (k : Left) (words : List Text) → AreUtf8 words → Doomed h → reads (at false idle h k) words ≡ None
doomed_idle h k [] utf8 doom = faulted (settle_fault rules false h) _ doom.kind _ doom.settles
doomed_idle h k (word ∷ words) utf8 doom =
    idle_turn h k word words ∙ doomed_idle_looks (bytes_eq word (codes "--")) (long_of word) (short_of word) h k word words (letters_of word utf8.0) doom

-- no option of another name is given a text
unlisted_text : (given : List Argument) (left : List Text) (name : Text) (words : List Text) → is_option name ≡ false → text_from given left name words ≡ None
unlisted_text given left name [] e = refl
unlisted_text given left name (word ∷ words) e = go (form_of word)
  where
    go : (f : Form) → if_plain f (λ _. with_option given name word (λ given'. arguments_from given' left words)) ≡ None
    go ending = refl
    go (option n t) = refl
    go flag = refl
    go plain = rw e refl

-- ---- where nothing is at fault

-- after `--`
last_said : (words : List Text) (given : List Argument) (k : Left) (h : Held) → Fresh k given → Holds given h
    → reads (at true idle h k) words ≡ said (positionals_from given (names_left k) words)
unfolding walked
last_said [] given k h fresh hold = holds_at_end true given h k hold
last_said (word ∷ words) given both_left h fresh hold =
    placed true 1 (codes "count") word given h seed_left words _ known_count hold fresh.0
    (λ h' hold'. last_said words (given ++ (codes "count", word) ∷ []) seed_left h' (absent-more (codes "seed") (codes "count") word given refl fresh.1) hold')
last_said (word ∷ words) given seed_left h fresh hold =
    placed true 2 (codes "seed") word given h none_left words _ known_seed hold fresh
    (λ h' hold'. last_said words (given ++ (codes "seed", word) ∷ []) none_left h' tt hold')
last_said (word ∷ words) given none_left h fresh hold = refl

-- what is to be shown of the words after this one
abbrev AreSaid : List Text → Type 0
AreSaid words = (given : List Argument) (k : Left) (h : Held) → Fresh k given → Holds given h
    → reads (at false idle h k) words ≡ said (arguments_from given (names_left k) words)

abbrev AreSaidOf : List Text → Type 0
AreSaidOf words = (given : List Argument) (k : Left) (name : Text) → IsKnownOption name → Fresh k given
    → reads (at false (waits_for name) (pending_held (rows_of_given given) name [] 0) k) words ≡ said (text_from given (names_left k) name words)

-- an option's text joined to it
joined_said : (name text : Text) (given : List Argument) (k : Left) (words : List Text) (kinds : Kinds) (rs : List Row) (skip : ℕ)
    → IsKnownOption name → Fresh k given → AreSaid words → kinds ≡ [] → rs ≡ rows_of_given given → skip ≡ 0
    → unless (or_else (or_else kinds (repeat_kinds (has_row name rs))) [])
    (reads (at false idle (record { rows = with_values name reading.AsWritten CommandLine (text ∷ []) (without name rs); pending = None; skip = skip }) k) words)
    ≡ said (with_option given name text (λ given'. arguments_from given' (names_left k) words))
joined_said name text given k words kinds rs skip known fresh after none e s = elim (cases_Bool (is_given name given)) [
  | inl again ↦ rw (none, has_row-rows name given rs true e again, known.listed, again) refl
  | inr new ↦ rw (none, has_row-rows name given rs false e new, known.listed, new)
      (after (given ++ (name, text) ∷ []) k _ (fresh-more k name text given known.count known.seed fresh)
      (record { settles = refl; rows = used-rows name text given rs e new; skip = s }))
]

-- an option with its text, or with its text to come
long_said : (name : Text) (text : Option Text) (given : List Argument) (k : Left) (h : Held) (word : Text) (words : List Text)
    → Fresh k given → Holds given h → AreSaid words → AreSaidOf words
    → turned (long_fault rules false (arg_by_long rules name) text h) (long_word rules idle word name text h) (at false idle h k) word words
    ≡ said (by_form (option name text) (λ _. positionals_from given (names_left k) words)
    (λ name text. with_option given name text (λ given'. arguments_from given' (names_left k) words))
    (λ name. text_from given (names_left k) name words)
    (λ _. with_positional given (names_left k) word (λ given' left'. arguments_from given' left' words)))
long_said name text given k h word words fresh hold after after_option = elim (option_cases name) [
  | inl known ↦ go known (arg_by_long rules name) known.by_long text
  | inr none ↦ unknown none.1 (arg_by_long rules name) none.0 text
]
  where
    turn : Option Rule → Option Text → Option (List Row)
    turn found t =
        let met = long_met rules found t h in
        turned (long_fault rules false found t h) (after_flag rules idle word met.0 met.1) (at false idle h k) word words

    go : (known : IsKnownOption name) (found : Option Rule) → found ≡ Some (option_built name) → (t : Option Text) → turn found t
        ≡ said (by_form (option name t) (λ _. positionals_from given (names_left k) words)
        (λ name text. with_option given name text (λ given'. arguments_from given' (names_left k) words))
        (λ name. text_from given (names_left k) name words)
        (λ _. with_positional given (names_left k) word (λ given' left'. arguments_from given' left' words)))
    go known found e (Some t) =
        rw e (joined_said name t given k words (settle_fault rules false h) (settled_rows rules h.pending h.rows) h.skip known fresh after hold.settles hold.rows hold.skip)
    go known found e None = rw (e, hold.settles, hold.rows, hold.skip) (after_option given k name known fresh)

    unknown : is_option name ≡ false → (found : Option Rule) → found ≡ None → (t : Option Text) → turn found t
        ≡ said (by_form (option name t) (λ _. positionals_from given (names_left k) words)
        (λ name text. with_option given name text (λ given'. arguments_from given' (names_left k) words))
        (λ name. text_from given (names_left k) name words)
        (λ _. with_positional given (names_left k) word (λ given' left'. arguments_from given' left' words)))
    unknown not_listed found e (Some t) = rw (e, not_listed) refl
    unknown not_listed found e None = rw (e, unlisted_text given (names_left k) name words not_listed) refl

-- one turn between two words
looks_said : (is_end : Bool) (named : Option (Text × Option Text)) (short : Option Text) (given : List Argument) (k : Left) (h : Held) (word : Text) (words : List Text)
    → HasLetters short → Fresh k given → Holds given h → AreSaid words → AreSaidOf words
    → looks is_end named short idle h k word words
    ≡ said (by_form (if is_end then ending else form_behind named short) (λ _. positionals_from given (names_left k) words)
    (λ name text. with_option given name text (λ given'. arguments_from given' (names_left k) words))
    (λ name. text_from given (names_left k) name words)
    (λ _. with_positional given (names_left k) word (λ given' left'. arguments_from given' left' words)))
looks_said true named short given k h word words letters fresh hold after after_option = last_said words given k h fresh hold
looks_said false (Some p) short given k h word words letters fresh hold after after_option =
    long_said p.0 p.1 given k h word words fresh hold after after_option
looks_said false None (Some flags) given k h word words letters fresh hold after after_option =
    rw (flag_fault flags h (letters flags refl) hold.skip) refl
looks_said false None None given both_left h word words letters fresh hold after after_option =
    placed false 1 (codes "count") word given h seed_left words _ known_count hold fresh.0
    (λ h' hold'. after (given ++ (codes "count", word) ∷ []) seed_left h' (absent-more (codes "seed") (codes "count") word given refl fresh.1) hold')
looks_said false None None given seed_left h word words letters fresh hold after after_option =
    placed false 2 (codes "seed") word given h none_left words _ known_seed hold fresh
    (λ h' hold'. after (given ++ (codes "seed", word) ∷ []) none_left h' tt hold')
looks_said false None None given none_left h word words letters fresh hold after after_option = refl

-- one turn where an option's text is next
looks_said_of : (is_end : Bool) (named : Option (Text × Option Text)) (short : Option Text) (given : List Argument) (k : Left) (name : Text) (word : Text) (words : List Text)
    → HasLetters short → IsKnownOption name → Fresh k given → AreUtf8 words → AreSaid words
    → looks is_end named short (waits_for name) (pending_held (rows_of_given given) name [] 0) k word words
    ≡ said (if_plain (if is_end then ending else form_behind named short)
    (λ _. with_option given name word (λ given'. arguments_from given' (names_left k) words)))
looks_said_of true named short given k name word words letters known fresh utf8 after =
    doomed_last (waits_for name) _ k words (doomed_unfilled name (rows_of_given given) 0 known.known refl)
looks_said_of false (Some p) short given k name word words letters known fresh utf8 after =
    doomed_long p.0 p.1 _ _ _ (doomed_unfilled name (rows_of_given given) 0 known.known refl)
looks_said_of false None (Some flags) given k name word words letters known fresh utf8 after =
    rw (flag_fault flags (pending_held (rows_of_given given) name [] 0) (letters flags refl) refl) refl
looks_said_of false None None given k name word words letters known fresh utf8 after =
    rw (known.by_id, known.same) (elim (cases_Bool (is_given name given)) [
      | inl again ↦ rw (known.listed, again) (doomed_idle (pending_held (rows_of_given given) name (word ∷ []) 0) k words utf8
          (doomed_pending name word given (rows_of_given given) 0 known.known refl refl again))
      | inr new ↦ rw (known.listed, new) (after (given ++ (name, word) ∷ []) k (pending_held (rows_of_given given) name (word ∷ []) 0)
          (fresh-more k name word given known.count known.seed fresh) (holds_pending name word given (rows_of_given given) 0 known.known refl refl new))
    ])

mutual
  words_said : (words : List Text) → AreUtf8 words → AreSaid words
  words_said [] utf8 given k h fresh hold = holds_at_end false given h k hold
  words_said (word ∷ words) utf8 given k h fresh hold =
      idle_turn h k word words
      ∙ looks_said (bytes_eq word (codes "--")) (long_of word) (short_of word) given k h word words (letters_of word utf8.0) fresh hold
      (words_said words utf8.1) (texts_said words utf8.1)

  texts_said : (words : List Text) → AreUtf8 words → AreSaidOf words
  texts_said [] utf8 given k name known fresh =
      let doom = doomed_unfilled name (rows_of_given given) 0 known.known refl in
      faulted (settle_fault rules false (pending_held (rows_of_given given) name [] 0)) _ doom.kind _ doom.settles
  texts_said (word ∷ words) utf8 given k name known fresh =
      option_turn name (pending_held (rows_of_given given) name [] 0) k word words
      ∙ looks_said_of (bytes_eq word (codes "--")) (long_of word) (short_of word) given k name word words (letters_of word utf8.0) known fresh utf8.1
      (words_said words utf8.1)

-- the walk over all words gives what they say
pub reads_said : (words : List Text) → AreUtf8 words → reads (walk_from nothing_held) words ≡ said (arguments_of words)
reads_said words utf8 = words_said words utf8 [] both_left nothing_held (refl, refl) (record { settles = refl; rows = refl; skip = refl })

-- `clap` refuses the words exactly where they are at fault, and finds the arguments that they say
pub clap_reads : (words : List Text) → AreUtf8 words → Agrees (said (arguments_of words)) (words_fault words) (words_rows words)
clap_reads words utf8 = subst (λ (found : Option (List Row)). Agrees found (words_fault words) (words_rows words)) (reads_said words utf8) (words_agree words)
