use Rattle.std.proofs.Common.{arith, ◌∙◌, nat_eq, refl, None}
use Rattle.std.specs.Str.{bytes_eq}
use Rattle.std.proofs.lemmas.Grind.{common_steps}
use Rattle.std.proofs.lemmas.Bool.{cond-true}
use Rattle.indexmap.specs.IndexMap.{get}
use Rattle.contract_store.specs.Leads.{hold_behind}
use Rattle.contract_store.specs.Holds.{link_at, holds_of, released}
use Rattle.contract_store.proofs.HoldSteps.{release_begins, release_ends, reaches_within}
use Rattle.contract_store.proofs.holds.release_place.Goals as goal

pub back-init : goal.back-init
back-init c =
    let up = c.swap_remove-cursor.ensures.updates in
    record {
      step = rw c.swap_remove-cursor.ensures.value
          (release_begins c.args.place c.args.slots.now.items (λ k. hold_behind (get bytes_eq c.args.ids.now k)) (λ q. get nat_eq c.args.places.now q)
          (λ q. get nat_eq c.swap_remove-cursor.new.self q) c.requires.leads up.2);
      gone = λ q e. up.0 q ∙ cond-true (nat_eq c.args.place q) None (get nat_eq c.args.places.now q) e;
      spare = c.swap_remove-cursor.ensures.room.0;
      rows = λ k. refl;
      keys = refl;
      len = refl;
      capacity = refl;
      count = c.requires.count;
    }

pub release_next-cursor-requires-clause-within : goal.release_next-cursor-requires-clause-within
release_next-cursor-requires-clause-within c =
    let w = reaches_within nat_eq link_at c.back.slots.items c.args.place c.in-Some.at (rw c.in-Some.is at c.back.invariant.step.reaches) in
    grind (arith, common_steps)

pub back-preserved : goal.back-preserved
back-preserved c =
    let inv = c.back.invariant in
    let e = c.release_next-cursor.ensures in
    record {
      step = e.step c.args.place (released c.args.place (holds_of c.args.slots.now.items)) (λ q. get nat_eq c.swap_remove-cursor.new.self q)
          (rw c.in-Some.is at inv.step);
      gone = inv.gone;
      spare = inv.spare;
      rows = λ k. e.rows k ∙ inv.rows k;
      keys = e.keys ∙ inv.keys;
      len = e.len ∙ inv.len;
      capacity = e.capacity ∙ inv.capacity;
      count = e.count;
    }

pub returns-clause-leads : goal.returns-clause-leads
returns-clause-leads c =
    (release_ends c.args.place c.back.slots.items (λ k. hold_behind (get bytes_eq c.back.ids k)) (λ q. get nat_eq c.args.places.now q)
    (λ q. get nat_eq c.swap_remove-cursor.new.self q)
    (released c.args.place (holds_of c.args.slots.now.items)) (rw c.in_default.is at c.back.invariant.step) c.back.invariant.gone).0

pub returns-clause-holds : goal.returns-clause-holds
returns-clause-holds c =
    (release_ends c.args.place c.back.slots.items (λ k. hold_behind (get bytes_eq c.back.ids k)) (λ q. get nat_eq c.args.places.now q)
    (λ q. get nat_eq c.swap_remove-cursor.new.self q)
    (released c.args.place (holds_of c.args.slots.now.items)) (rw c.in_default.is at c.back.invariant.step) c.back.invariant.gone).1
