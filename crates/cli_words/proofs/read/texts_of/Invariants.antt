use Rattle.std.proofs.Common.{take}
use Rattle.cli_words.proofs.Texts.{AreSo}
use Rattle.cli_words.proofs.read.texts_of.Given as goal

abbrev pub invariant-words : goal.invariant-words
invariant-words l = AreSo l.texts.items (take l.word-index l.words)
