use Rattle.std.proofs.lemmas.Str.{is_utf8-from_IsUtf8}
use Rattle.cli_words.proofs.Texts.{one_more}
use Rattle.cli_words.proofs.read.texts_of.Goals as goal

pub words-preserved : goal.words-preserved
words-preserved c =
    rw c.in_ok-push.ensures.items
    (one_more c.args.words.now c.words.texts.items c.as_str.result c.words.word-index c.word-item.result c.words-test.true c.word-item.is
    c.as_str.ensures.bytes (is_utf8-from_IsUtf8 c.word-item.result c.as_str.ensures.utf8) c.words.invariant)
