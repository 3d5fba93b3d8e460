use denote.Param.Send.{sendable}
use denote.Param.Sent.{Sends, Syncs}
use Rattle.std.proofs.Crossing.{crosses}
use Rattle.native_choice.proofs.NativeCrossings.{flash_native_send, flash_native_sync}
use Rattle.layer_cases.proofs.run.natives.program_run.OwnLists.{part-1-1}

pub sends-part-1-1 : Sends part-1-1
sends-part-1-1 i = search (sendable, crosses, flash_native_send) depth 40 fits 10000

pub syncs-part-1-1 : Syncs part-1-1
syncs-part-1-1 i = search (sendable, crosses, flash_native_sync) depth 40 fits 10000
