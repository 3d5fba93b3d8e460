use Rattle.sync_shared.proofs.shared.Shared.begin.Goals as goal
