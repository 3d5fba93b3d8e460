use Rattle.std.proofs.Common.{rules}
use Rattle.cli_words.proofs.Digits.{too_large}
use Rattle.cli_words.proofs.numbers.number_in.Goals as goal

pub returns-in-Err-clause-number : goal.returns-in-Err-clause-number
returns-in-Err-clause-number c =
    too_large c.args.low c.args.high c.args.text.now c.in-Err.field-0 (search rules) c.in-Err.ensures.value.0 (search rules)
