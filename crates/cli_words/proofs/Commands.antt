-- What the clauses of `clap` say at the command, in plain variables: a rewrite inside an answer opens the command.
use Rattle.std.proofs.Common.{◌≡◌, true, List, [], Option, Some, None, ◌⊎◌, inl, inr, refl, ◌∙◌, ap, subst}
use Rattle.std.specs.Prelude.{codes}
use Rattle.std.specs.Option.{option_map}
use Rattle.clap.specs.Walk.{Row, first_of, rows_of}
use Rattle.clap.specs.Simple.{App, is_simple, matches_of}
use Rattle.clap.specs.Faults.{fault_of, is_simple_and_free}
use Rattle.clap.specs.Kinds.{Kinds, IsAmong}
use Rattle.clap.specs.Matches.{found_of, first_value}
use Rattle.clap.specs.declared.error.kind.ErrorKind.{ErrorKind}
use Rattle.clap.specs.declared.parser.matches.ArgMatches.{ArgMatches}
use Rattle.clap.proofs.WalkLemmas.{first_value-rows}
use Rattle.cli_words.specs.Arguments.{Text, AreUtf8, Argument, arguments_of, text_of}
use Rattle.cli_words.specs.Command.{words_app, words_fault, words_rows, matches_given}
use Rattle.cli_words.specs.Jobs.{Given, given_in, given_of}
use Rattle.cli_words.proofs.Built.{Agrees}
use Rattle.cli_words.proofs.Given.{rows_of_given, first_of-given}
use Rattle.cli_words.proofs.Words.{clap_reads}

pub fault_at : (P : Kinds → Type 0) (a : App) (words : List Text) → a ≡ words_app → (is_simple_and_free a ≡ true → P (fault_of a words)) → P (words_fault words)
unfolding words_fault
fault_at P a words e k = subst (λ (b : App). is_simple_and_free b ≡ true → P (fault_of b words)) e k refl

pub rows_at : (P : List Row → Type 0) (a : App) (words : List Text) → a ≡ words_app → (is_simple a ≡ true → P (matches_of a words)) → P (words_rows words)
unfolding words_rows
rows_at P a words e k = subst (λ (b : App). is_simple b ≡ true → P (matches_of b words)) e k refl

-- where nothing is wrong, only memory is left
pub none_among : (k memory : ErrorKind) (kinds : Kinds) → kinds ≡ [] → (k ≡ memory) ⊎ IsAmong k kinds → k ≡ memory
none_among k memory kinds e (inl m) = m
none_among k memory kinds e (inr h) = absurd (subst (λ (ks : Kinds). IsAmong k ks) e h)

-- the text of one argument
text_found : (name : Text) (m : ArgMatches) (given : List Argument) → rows_of (found_of m) ≡ rows_of_given given → first_value (found_of m) name ≡ text_of name given
text_found name m given e = first_value-rows (found_of m) name ∙ ap (first_of name) e ∙ first_of-given name given

texts_found : (m : ArgMatches) (given : List Argument) → rows_of (found_of m) ≡ rows_of_given given → given_in given ≡ matches_given m
texts_found m given e =
    rw (text_found (codes "workers") m given e, text_found (codes "log") m given e, text_found (codes "count") m given e, text_found (codes "seed") m given e) refl

pub given_where_taken : (words : List Text) (m : ArgMatches) → AreUtf8 words → words_fault words ≡ [] → rows_of (found_of m) ≡ words_rows words
    → given_of words ≡ Some (matches_given m)
unfolding given_of
given_where_taken words m utf8 none rows = go (arguments_of words) (clap_reads words utf8)
  where
    go : (said : Option (List Argument)) → Agrees (option_map rows_of_given said) (words_fault words) (words_rows words) → option_map given_in said ≡ Some (matches_given m)
    go None faulty = absurd (faulty none)
    go (Some given) same = ap (λ (g : Given). Some g) (texts_found m given (rows ∙ same.1))

pub none_where_refused : (words : List Text) → AreUtf8 words → (words_fault words ≡ [] → ⊥) → given_of words ≡ None
unfolding given_of
none_where_refused words utf8 faulty = go (arguments_of words) (clap_reads words utf8)
  where
    go : (said : Option (List Argument)) → Agrees (option_map rows_of_given said) (words_fault words) (words_rows words) → option_map given_in said ≡ None
    go None refused = refl
    go (Some given) same = absurd (faulty same.0)
