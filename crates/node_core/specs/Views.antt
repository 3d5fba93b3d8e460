-- What participants know at their clean places.
use Rattle.std.specs.Prelude.{ℕ, suc, zero, Bool, List, [], ◌∷◌, Option, None, Some, filter, map, nat_le, if◌then◌else◌}
use Rattle.ledger_terms.specs.declared.active_row.ActiveRow.{ActiveRow}
use Rattle.ledger_model.specs.Terms.{ParticipantId}
use Rattle.ledger_model.specs.declared.commit.Commit.{Commit}
use Rattle.canton_model.specs.Inbox.{Item, clean, clean_time, inbox, node_active, node_log, withheld}
use Rattle.canton_model.specs.Log.{Params}
use Rattle.canton_model.specs.Reading.{Reading}
use Rattle.world_model.specs.Messages.{Entry}
use Rattle.pruned_inbox.specs.Start.{Start, active_kept}
use Rattle.node_core.specs.Participant.{Participant, items_of, params_of, reading_of}
use Rattle.node_core.specs.declared.node_view.NodeView.{NodeView}

-- What is reported of participant p over its whole inbox.
abbrev pub view_over : Reading → Params → ParticipantId → List Item → NodeView
view_over reading params p items =
    record {
      clean = clean params items;
      clean_time = clean_time params items;
      pruned = None;
      withheld = withheld params items;
      commits = node_log params items;
      active = node_active reading p items (clean params items);
    }

-- What is reported of a participant, by what is known of it over its whole inbox (`view`): without the withheld places and the commits below its
-- base, and with that base.
abbrev pub view_since : (base : ℕ) → NodeView → NodeView
view_since base view =
    record {
      clean = view.clean;
      clean_time = view.clean_time;
      pruned = Some base;
      withheld = filter (nat_le base) view.withheld;
      commits = filter (λ (part : Commit). nat_le base part.place) view.commits;
      active = view.active;
    }

-- What is reported of a participant, by what is known of it over its whole inbox (`view`): all of that where no base is reported (None), and else that
-- without the withheld places and the commits below the base, and with the base.
abbrev pub view_from : (pruned : Option ℕ) → NodeView → NodeView
view_from None view = view
view_from (Some base) view = view_since base view

-- The base as it is reported: only of a participant that restarted, and None of any other.
abbrev pub base_if : (restarted : Bool) → (base : ℕ) → Option ℕ
base_if restarted base = if restarted then Some base else None

-- What is reported of participant p over the items that it keeps, where its inbox left the start at its base. `pruned` is the base, where one is reported.
abbrev pub view_kept : Reading → Params → ParticipantId → (pruned : Option ℕ) → Start → List Item → NodeView
view_kept reading params p pruned start items =
    record {
      clean = clean params items;
      clean_time = clean_time params items;
      pruned = pruned;
      withheld = withheld params items;
      commits = node_log params items;
      active = active_kept reading p start items (clean params items);
    }

-- What is reported of a participant, with its base told where it `restarted`.
abbrev pub view_of : (restarted : Bool) → Participant → NodeView
view_of restarted p = view_kept (reading_of p) (params_of p) p.me (base_if restarted p.base) p.start (items_of p)

-- What is reported of `count` participants from participant p on over a whole log, in order: each without the withheld places and the commits below the
-- base that `pruned` gives it, if it gives one.
abbrev pub views_from : Reading → Params → List Entry → (pruned : ParticipantId → Option ℕ) → ParticipantId → (count : ℕ) → List NodeView
views_from reading params log pruned p zero = []
views_from reading params log pruned p (suc count) =
    view_from (pruned p) (view_over reading params p (inbox reading p log)) ∷ views_from reading params log pruned (suc p) count

-- What is reported of all `hosts` participants over a whole log, in order of the topology: each without the withheld places and the commits below the
-- base that `pruned` gives it, if it gives one.
abbrev pub views_over : Reading → Params → List Entry → (pruned : ParticipantId → Option ℕ) → (hosts : ℕ) → List NodeView
views_over reading params log pruned hosts = views_from reading params log pruned 0 hosts

-- The active contracts of each participant, by what is reported of them, in the same order.
abbrev pub actives_in : List NodeView → List (List ActiveRow)
actives_in views = map (λ (view : NodeView). view.active) views
