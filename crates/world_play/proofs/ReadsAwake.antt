-- Every participant that isn't paused reads to the end.
use Rattle.std.proofs.Common.{◌≡◌, ℕ, List, length, false, sym, ◌∙◌, arith}
use Rattle.std.proofs.lemmas.Option.{slice_get_within}
use Rattle.seq_log.specs.Sequenced.{Sequenced}
use Rattle.node_core.specs.Participant.{Participant as NodeValue}
use Rattle.world_play.specs.Flags.{HaveAwakeRead}
use Rattle.world_play.proofs.Each.{AreDone, item_of}

-- it has read some more, and all unless it was paused
abbrev pub HasReadAwake : Sequenced → ℕ → NodeValue → NodeValue → Type 0
HasReadAwake s i x y = ((y.state).is_paused ≡ (x.state).is_paused) × ((x.state).is_paused ≡ false → length (y.state).items ≡ length s.list)

pub awake_read : (first : List NodeValue) (s : Sequenced) (nodes : List NodeValue) (k : ℕ) → AreDone (HasReadAwake s) first nodes k → k ≡ length nodes
    → HaveAwakeRead s.list nodes
awake_read first s nodes k r end p node there awake =
    let within = slice_get_within nodes p node there in
    let long = r.long in
    let x = item_of first p (omega (arith, within, long)) in
    let was = r.before p x.0 node (omega (arith, within, end)) x.1 there in
    was.1 (sym was.0 ∙ awake)
