use Rattle.svg_text.proofs.EscapeLaws.{plain}
use Rattle.svg_text.proofs.laws.escaped_text_is_plain.Goals as goal

pub returns : goal.returns
returns c = plain c.args._text.now
