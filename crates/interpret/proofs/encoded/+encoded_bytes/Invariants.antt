use Rattle.std.proofs.Common.{◌≡◌, ◌+◌, ◌<◌, ◌^◌, drop}
use Rattle.ledger_terms.specs.Grown.{forest_of, node_count}
use Rattle.wire_form.specs.Lengths.{capped}
use Rattle.wire_form.specs.Encoded.{encoded_bytes}
use Rattle.interpret.proofs.encoded.+encoded_bytes.Given as goal

abbrev pub invariant-loop-node : goal.invariant-loop-node
invariant-loop-node l =
    (l.bytes < 2 ^ 64) × (capped (l.bytes + encoded_bytes (forest_of (drop l.node-index l.node-items))) ≡ capped (encoded_bytes l.forest))

abbrev pub decreases-encoded_bytes : goal.decreases-encoded_bytes
decreases-encoded_bytes l = node_count l.forest.now
