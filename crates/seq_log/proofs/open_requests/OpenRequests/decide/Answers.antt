use Rattle.std.proofs.Common.{◌≡◌, ◌<◌, ℕ, Some, rules, slice_get, sym, ap, ◌∙◌, arith}
use Rattle.std.specs.Prelude.{nat_lt}
use Rattle.std.specs.VecDeque.{deque_len}
use Rattle.std.proofs.lemmas.Bool.{ltb-true, ltb-false}
use Rattle.std.proofs.lemmas.List.Sorted.{IsPartitionPoint-from_clause, IsPartitionedBy-ltb}
use Rattle.seq_log.proofs.Queues.{in_order, item_at, none_gone, one_gone, other_there}
use Rattle.seq_log.proofs.open_requests.OpenRequests.decide.Goals as goal
use Rattle.seq_log.proofs.open_requests.OpenRequests.decide.Goals.{else-at-len-via-then-at-len+else-index-request, else-at-len-via-else-at-len}

pub returns-then-index-request : goal.returns-then-index-request
returns-then-index-request c =
    record {
      places = λ low high rises.
          let places = c.args.self.now.places.items in
          let at = c.partition_point-at.result in
          let inside = c.if-at-len.true in
          let end = c.len.ensures in
          let within : at < deque_len c.args.self.now.places = omega (arith, inside, end) in
          let fits = c.args.self.now.places.ok.0 in
          let found : slice_get places at ≡ Some c.args.request =
          item_at places at c.index.result.now (omega (arith, within, fits)) ∙ ap Some (sym c.index.ensures ∙ c.if-index-request.true) in
          let some = c.remove.ensures.succeeds 0 within in
          let gone = rw some at c.remove.ensures.items in
          gone ∙ one_gone c.args.request low places high at rises found;
    }

pub returns-else-at-len : goal.returns-else-at-len
returns-else-at-len c =
    record {
      places = λ low high rises.
          let places = c.args.self.now.places.items in
          let at = c.partition_point-at.result in
          let end = c.len.ensures in
          let fits = c.args.self.now.places.ok.0 in
          let point =
          IsPartitionPoint-from_clause (λ (k : ℕ). nat_lt k c.args.request) places at c.partition_point-at.ensures.partitioned
          (IsPartitionedBy-ltb (λ (k : ℕ). k) places c.args.request (in_order low high places rises)) (λ a r f' k. search rules) in
          none_gone c.args.request low places high at rises (λ k d from to. ltb-true _ _ (point.0 k d from to))
          (λ k d from to. ltb-false _ _ (point.1 k d from to)) (elim c.else-at-len.branch [
            | else-at-len-via-then-at-len+else-index-request w ↦
                λ lt. other_there places at w.index.result.now c.args.request lt w.index.ensures w.if-index-request.false
            | else-at-len-via-else-at-len w ↦ let out = w.if-at-len.false in λ lt. absurd (omega (arith, lt, out, end, fits))
          ]);
    }
