use Rattle.std.proofs.Common.{◌≡◌, []}
use Rattle.std.proofs.lemmas.Bool.{false≢true}
use Rattle.clap.specs.Walk.{rows_of}
use Rattle.clap.specs.Matches.{found_of}
use Rattle.clap.specs.Kinds.{HasKind}
use Rattle.clap.specs.declared.error.kind.ErrorKind.TheVariants.{OutOfMemory}
use Rattle.cli_words.proofs.Commands.{fault_at, rows_at, none_among, given_where_taken, none_where_refused}
use Rattle.cli_words.proofs.arguments.read_arguments.Goals as goal

pub returns-in-Ok-try_get_matches_from-clause-given : goal.returns-in-Ok-try_get_matches_from-clause-given
returns-in-Ok-try_get_matches_from-clause-given c =
    let found = found_of c.in-Ok-try_get_matches_from.matches in
    let none = fault_at (λ kinds. kinds ≡ []) _ _ c.in-Ok.ensures c.in-Ok-try_get_matches_from.ensures.kinds in
    let rows = rows_at (λ rows. rows_of found ≡ rows) _ _ c.in-Ok.ensures (λ simple. (c.in-Ok-try_get_matches_from.ensures.matches simple).0) in
    given_where_taken _ c.in-Ok-try_get_matches_from.matches c.requires none rows

pub returns-clause-usage : goal.returns-clause-usage
returns-clause-usage c = λ _. none_where_refused _ c.requires (λ none.
    let kinds = fault_at (λ kinds. HasKind kinds c.in-Err.fault) _ _ c.in-Ok.ensures c.in-Err.ensures.kinds in
    let memory = none_among c.in-Err.fault.kind OutOfMemory _ none kinds in
    false≢true (rw (c.kind.ensures, memory) at c.if-eq.ensures))
