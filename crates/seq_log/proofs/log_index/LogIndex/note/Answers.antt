use Rattle.std.proofs.Common.{ℕ, List, [], ◌∷◌, ◌++◌, length, not, sym, ap, ◌∙◌, subst, arith}
use Rattle.std.specs.Prelude.{◌&&◌, is_some, nat_lt, filter}
use Rattle.std.specs.List.{list_any}
use Rattle.canton_model.specs.Log.{FollowsTime, decision_time_of, request_of}
use Rattle.world_model.specs.Messages.{Entry}
use Rattle.world_model.specs.Sequencing.{is_verdict_on}
use Rattle.seq_log.specs.OpenRequests.{RisesBetween, after_front, place_if}
use Rattle.seq_log.proofs.Opened.{left_open, opened_more, times_more}
use Rattle.seq_log.proofs.Queues.{places_rise}
use Rattle.seq_log.proofs.Sums.{last_more, spent_more}
use Rattle.seq_log.proofs.log_index.LogIndex.note.Goals as goal

pub returns-clause-kept : goal.returns-clause-kept
returns-clause-kept c = λ t list e holds is kept long key need time follows none.
    let params = c.args.self.now.params in
    let before = c.args.self.now.open_requests.places.items in
    let left = c.expire.new.self.places.items in
    let gone =
    c.expire.ensures.places t holds
    ∙ (ap (λ (l : List Entry). after_front (λ (k : ℕ). nat_lt (decision_time_of params l k) c.args.time) before) is
    ∙ ap (λ (n : ℕ). after_front (λ (k : ℕ). nat_lt (decision_time_of params (list ++ e ∷ []) k) n) before) time) in
    let later = subst (λ (n : ℕ). FollowsTime e.message n e.time) kept.last follows in
    let rises =
    subst (λ (xs : List ℕ). RisesBetween 0 xs (length list)) (sym (left_open params list e kept.times later before left kept.open_places gone))
    (places_rise _ (length list)) in
    let decided = c.has_verdict-is_decided.result in
    let is_decided =
    c.has_verdict-is_decided.ensures list kept ∙ ap (λ (n : ℕ). list_any (λ (x : Entry). is_verdict_on n x.message) list) (sym long) in
    record {
      leads = c.put_place.ensures list e kept.leads long key none;
      reserved = let more = spent_more list e in omega (arith, kept.reserved, need, more);
      last = time ∙ sym (last_more list e);
      open_places =
          c.follow.ensures e.message 0 (length list) key rises
          ∙ (ap (λ (n : ℕ). filter (λ (k : ℕ). not (is_verdict_on k e.message)) left ++ place_if (is_some (request_of e.message) && not decided) n) (sym long)
          ∙ opened_more params list e kept.times later decided is_decided before left kept.open_places gone);
      times = times_more list e kept.times later;
    }
