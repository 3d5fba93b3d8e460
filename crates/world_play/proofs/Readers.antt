-- A participant that reads entry after entry.
use Rattle.std.proofs.Common.{◌≡◌, ℕ, zero, suc, ◌+◌, ◌-◌, ◌<◌, ◌≤◌, List, [], ◌∷◌, ◌++◌, take, length, Some, refl, sym, ap, ◌∙◌, subst, arith, le_refl}
use Rattle.std.specs.Prelude.{slice_get}
use Rattle.std.proofs.lemmas.List.{take_all}
use Rattle.canton_model.specs.Genuine.{Genuine}
use Rattle.canton_model.specs.Inbox.{Item, inbox}
use Rattle.canton_model.proofs.LongerLogs.{genuine_take}
use Rattle.world_model.specs.Messages.{Entry}
use Rattle.world_model.specs.Node.{read_entry, with_items}
use Rattle.world_model.proofs.NodeFacts.{inbox_length}
use Rattle.world_model.proofs.Steps.{length_take}
use Rattle.log_row.specs.LogPrefix.{LogPrefix}
use Rattle.seq_log.specs.Sequenced.{Sequenced, prefix_of}
use Rattle.seq_log.specs.Slips.{prefix_to}
use Rattle.node_core.specs.OverLog.{HasInbox, kept_of}
use Rattle.node_core.specs.Participant.{CanRead, IsPrunedTo, Participant as NodeValue, items_of, reading_of, with_state}
use Rattle.node_core.proofs.LogEnds.{before_last}
use Rattle.node_core.proofs.OverLog.{cursor_is as inbox_cursor, reads_on as reads_later, within_log}
use Rattle.world_play.specs.Reading.{Reads, IsReader, has_read}

module _ {X : Type 0} where
  -- the same beginning of a longer beginning
  pub take_take : (n k : ℕ) (xs : List X) → n ≤ k → take n (take k xs) ≡ take n xs
  take_take zero k xs le = refl
  take_take (suc n) zero xs le = absurd (omega (arith, le))
  take_take (suc n) (suc k) [] le = refl
  take_take (suc n) (suc k) (x ∷ xs) le = ap (λ (ys : List X). x ∷ ys) (take_take n k xs (omega (arith, le)))

  -- what stands at a place of it
  pub stands : (k : ℕ) (xs : List X) → k < length xs → (x : X) × (slice_get xs k ≡ Some x) × (slice_get (take (k + 1) xs) k ≡ Some x)
  stands k [] lt = absurd (omega (arith, lt))
  stands zero (x ∷ xs) lt = (x, refl, refl)
  stands (suc k) (x ∷ xs) lt =
      let w = stands k xs (omega (arith, lt)) in
      let one : suc k + 1 ≡ suc (k + 1) = omega arith in
      (w.0, w.1, ap (λ (n : ℕ). slice_get (take n (x ∷ xs)) (suc k)) one ∙ w.2)

module _ (first : NodeValue) (log : List Entry) where
  pub begins : Reads first log → IsReader first log first
  begins r =
      record {
        read = length (first.state).items;
        from = le_refl (length (first.state).items);
        within = within_log log first r.inbox;
        is = ap (λ (items : List Item). with_state first (with_items first.state items)) ((r.inbox).pruned).kept;
      }

  module _ (reads : Reads first log) where
    short : length (first.state).items ≤ length log
    short = within_log log first reads.inbox

    -- with its inbox
    pub inbox_then : (n : ℕ) → length (first.state).items ≤ n → n ≤ length log
        → HasInbox (inbox (reading_of first) first.me (take n log)) (has_read first (take n log))
    inbox_then n from within = reads_later first log reads.genuine (length (first.state).items) n from within reads.inbox

    pub long_then : (n : ℕ) → length (first.state).items ≤ n → n ≤ length log → length ((has_read first (take n log)).state).items ≡ n
    long_then n from within =
        inbox_cursor (inbox (reading_of first) first.me (take n log)) (has_read first (take n log)) (inbox_then n from within)
        ∙ (inbox_length (reading_of first) first.me [] (take n log) ∙ length_take n log within)

    pub inbox_of : (node : NodeValue) (r : IsReader first log node) → HasInbox (inbox (reading_of first) first.me (take r.read log)) node
    inbox_of node r = subst (HasInbox (inbox (reading_of first) first.me (take r.read log))) (sym r.is) (inbox_then r.read r.from r.within)

    pub cursor_is : (node : NodeValue) (r : IsReader first log node) → length (node.state).items ≡ r.read
    cursor_is node r = ap (λ (x : NodeValue). length (x.state).items) r.is ∙ long_then r.read r.from r.within

    module _ (node : NodeValue) (r : IsReader first log node) (k : ℕ) (at : k ≡ length (node.state).items) where
      is_read : k ≡ r.read
      is_read = at ∙ cursor_is node r

      module _ (list : List Entry) (lt : k < length log) (is : list ≡ take (k + 1) log) where
        next_long : length list ≡ length (node.state).items + 1
        next_long =
            let long = length_take (k + 1) log (omega (arith, lt)) in
            let same = ap length is in omega (arith, at, long, same)

        next_genuine : Genuine (reading_of node) (node.topology).params list
        next_genuine =
            subst (λ (x : NodeValue). Genuine (reading_of x) (x.topology).params list) (sym r.is)
            (subst (Genuine (reading_of first) (first.topology).params) (sym is)
            (genuine_take (reading_of first) (first.topology).params log (k + 1) reads.genuine))

        before : take (length (node.state).items) list ≡ take r.read log
        before =
            ap (λ (n : ℕ). take n list) (cursor_is node r)
            ∙ (ap (take r.read) is ∙ take_take r.read (k + 1) log (let e = is_read in omega (arith, e)))

        next_read : IsPrunedTo (inbox (reading_of node) node.me (take (length (node.state).items) list)) node
        next_read =
            subst (λ (xs : List Entry). IsPrunedTo (inbox (reading_of node) node.me xs) node) (sym before)
            (subst (λ (x : NodeValue). IsPrunedTo (inbox (reading_of x) x.me (take r.read log)) x) (sym r.is) (inbox_then r.read r.from r.within).pruned)

        pub can_read : CanRead node list
        can_read = record { cursor = next_long; genuine = next_genuine; before = next_read }

        -- it has read the next entry
        module _ (after : NodeValue)
            (step : (front : List Entry) (e : Entry) → list ≡ front ++ e ∷ []
            → after ≡ with_state node (read_entry (reading_of node) node.me node.state front e))
            (pruned : IsPrunedTo (inbox (reading_of node) node.me list) after) where
          next : (e : Entry) × (slice_get log k ≡ Some e) × (slice_get (take (k + 1) log) k ≡ Some e)
          next = stands k log lt

          stepped : after ≡ with_state node (read_entry (reading_of node) node.me node.state (take (length (node.state).items) list) next.0)
          stepped =
              step (take (length (node.state).items) list) next.0
              (before_last list (length (node.state).items) next.0 next_long
              (ap (slice_get list) (sym at) ∙ (ap (λ (xs : List Entry). slice_get xs k) is ∙ next.2)))

          -- its items alone are others
          after_first : after ≡ with_state first (with_items first.state (items_of after))
          after_first =
              stepped
              ∙ (ap (λ (items : List Item). with_state node (with_items node.state items)) (sym (ap items_of stepped))
              ∙ ap (λ (x : NodeValue). with_state x (with_items x.state (items_of after))) r.is)

          kept_after : items_of after ≡ kept_of first (inbox (reading_of first) first.me (take (k + 1) log))
          kept_after =
              pruned.kept
              ∙ (ap (λ (x : NodeValue). kept_of x (inbox (reading_of node) node.me list)) after_first
              ∙ (ap (λ (x : NodeValue). kept_of first (inbox (reading_of x) x.me list)) r.is
              ∙ ap (λ (xs : List Entry). kept_of first (inbox (reading_of first) first.me xs)) is))

          pub reads_on : IsReader first log after
          reads_on =
              record {
                read = k + 1;
                from = let f = r.from in let s = is_read in omega (arith, f, s);
                within = omega (arith, lt);
                is = after_first ∙ ap (λ (items : List Item). with_state first (with_items first.state items)) kept_after;
              }

          pub after_long : length (after.state).items ≡ k + 1
          unfolding reads_on
          after_long = cursor_is after reads_on

          pub smaller : length log - length (after.state).items < length log - length (node.state).items
          smaller = let a = after_long in omega (arith, lt, at, a)

    pub ends : (node : NodeValue) (r : IsReader first log node) → length log ≤ length (node.state).items → node ≡ has_read first log
    ends node r le =
        let c = cursor_is node r in r.is ∙ ap (has_read first) (take_all r.read log (omega (arith, le, c)))

-- a slip that was handed out
pub slip_list : (s began : Sequenced) (slip : LogPrefix) (k : ℕ) → s ≡ began → slip ≡ prefix_to (prefix_of s) (k + 1) → slip.list ≡ take (k + 1) began.list
slip_list s began slip k same is = ap (λ (t : LogPrefix). t.list) is ∙ ap (λ (q : Sequenced). take (k + 1) q.list) same

pub place_within : (s began : Sequenced) (k : ℕ) → s ≡ began → k < length s.list → k < length began.list
place_within s began k same lt = subst (λ (q : Sequenced). k < length q.list) same lt

pub past_end : (s began : Sequenced) (k n : ℕ) → s ≡ began → k ≡ n → length s.list ≤ k → length began.list ≤ n
past_end s began k n same at le = subst (λ (q : Sequenced). length q.list ≤ n) same (subst (λ (i : ℕ). length s.list ≤ i) at le)
