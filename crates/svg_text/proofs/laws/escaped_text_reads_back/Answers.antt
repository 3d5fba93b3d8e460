use Rattle.svg_text.proofs.EscapeLaws.{reads_back}
use Rattle.svg_text.proofs.laws.escaped_text_reads_back.Goals as goal

pub returns : goal.returns
returns c = reads_back c.args._text.now
