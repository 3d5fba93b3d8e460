-- What a closure captures, where it may go to another thread.
use mir.Syntax.{Lifetime}
use base.Fml.{Lft}
use denote.Hole.{as_row}
use denote.RattleType.{RattleType}
use denote.Ref.{ShrRef}
use denote.Slice.{ShrSlice}
use denote.Struct.Field.{row_field}
use denote.Param.Send.{IsSend, IsSync, shr_send, shr_sync, shr_slice_sync}
use denote.Param.SendFields.{as_row_send, as_row_sync}

pub ref_sync : (ℓ : Lifetime) (κ : Lft) (R : RattleType) → IsSync R → IsSync (as_row (row_field (ShrRef ℓ κ R)))
ref_sync ℓ κ R s = as_row_sync (row_field (ShrRef ℓ κ R)) (shr_sync ℓ κ R s)

pub slice_sync : (ℓ : Lifetime) (κ : Lft) (R : RattleType) → IsSync R → IsSync (as_row (row_field (ShrSlice ℓ κ R)))
slice_sync ℓ κ R s = as_row_sync (row_field (ShrSlice ℓ κ R)) (shr_slice_sync ℓ κ R s)

pub ref_send : (ℓ : Lifetime) (κ : Lft) (R : RattleType) → IsSync R → IsSend (as_row (row_field (ShrRef ℓ κ R)))
ref_send ℓ κ R s = as_row_send (row_field (ShrRef ℓ κ R)) (shr_send ℓ κ R s)
