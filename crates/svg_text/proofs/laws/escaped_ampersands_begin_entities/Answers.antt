use Rattle.svg_text.proofs.EscapeLaws.{entities}
use Rattle.svg_text.proofs.laws.escaped_ampersands_begin_entities.Goals as goal

pub returns : goal.returns
returns c = entities c.args._text.now
