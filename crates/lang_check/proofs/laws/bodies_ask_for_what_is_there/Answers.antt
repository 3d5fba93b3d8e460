use Rattle.lang_check.proofs.Calls.{call_asks}
use Rattle.lang_check.proofs.laws.bodies_ask_for_what_is_there.Goals as goal

pub returns : goal.returns
returns c packages call choice seen step checked chosen kinds args answers h =
    call_asks packages call choice seen step checked chosen kinds args answers h
