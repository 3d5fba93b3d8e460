use Rattle.std.proofs.lemmas.Bool.{false≢true}
use Rattle.json_walk.proofs.JsonLaws.{json_of-read, json_of-refused}
use Rattle.json_walk.proofs.json.read_json.Goals as goal

pub returns-in-Ok : goal.returns-in-Ok
returns-in-Ok c = json_of-read c.args.bytes.now _ c.in-Ok.ensures.ok.0 c.in-Ok.ensures.ok.1

pub returns-else-is_memory : goal.returns-else-is_memory
returns-else-is_memory c = λ _. json_of-refused c.args.bytes.now (c.in-Err.ensures.err (λ m. false≢true (c.if-is_memory.ensures.1 m)))
