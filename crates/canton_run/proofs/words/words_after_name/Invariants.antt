use Rattle.std.proofs.Common.{◌≡◌, ◌++◌, drop, map, string_bytes}
use Rattle.canton_run.proofs.words.words_after_name.Given as goal

-- the words so far and those that are left are all
abbrev pub invariant-words : goal.invariant-words
invariant-words l = l.words ++ map string_bytes (drop l.word-index l.after) ≡ map string_bytes l.after
