-- The state of a participant, pruned to a later base.
use Rattle.std.proofs.Common.{◌≡◌, ◌+◌, ◌<◌, ◌≤◌, ℕ, zero, suc, Bool, true, false, ◌&&◌, List, [], ◌∷◌, ◌++◌, drop, map, take, Option, None, Some, refl, sym, ap, ◌∙◌, subst, arith}
use Rattle.std.specs.Prelude.{is_some, slice_get}
use Rattle.std.proofs.lemmas.Bool.{le-leb}
use Rattle.std.proofs.lemmas.Option.{none-some, same_Some}
use Rattle.ledger_terms.specs.declared.topology.Topology.{Topology}
use Rattle.lang_eval.specs.Found.{Packages}
use Rattle.canton_model.specs.Inbox.{Item, inbox, last_time, notice_at, notice_in}
use Rattle.world_model.specs.Machine.{confirms_some_view}
use Rattle.world_model.specs.Node.{owes_at}
use Rattle.world_model.specs.Places.{has_place}
use Rattle.pruned_inbox.specs.Base as base_specs
use Rattle.pruned_inbox.specs.Base.{IsBase}
use Rattle.pruned_inbox.specs.Forgotten.{silent_front}
use Rattle.pruned_inbox.specs.Start.{GoesOn}
use Rattle.pruned_inbox.proofs.Cleaned.{base_is_base, base_is_most}
use Rattle.pruned_inbox.proofs.Later.{later_verdict}
use Rattle.node_state.specs.declared.item.Item.{Item as StateItem}
use Rattle.node_state.specs.declared.item_what.ItemWhat.{ItemWhat}
use Rattle.node_state.specs.declared.item_what.ItemWhat.TheVariants as raw
use Rattle.node_state.specs.declared.node_state.NodeState.{NodeState as State}
use Rattle.node_inbox.specs.Raw.{AreCame, IsCame, item_by}
use Rattle.node_core.specs.Participant.{IsPrunedTo, Participant, items_of, owes_there, params_of, pruned_at, reading_of}
use Rattle.node_core.specs.States.{IsLawful, IsStateOf, begun_again, items_in, owner_of, start_in}
use Rattle.node_core.proofs.Again.{pruned_again, whole_based}
use Rattle.node_core.proofs.LawfulStates.{behind_drop, dropped, lawful}
use Rattle.node_core.proofs.Pruned.{kept_is, pruned_alike}

-- ---- items behind silent ones

silent_there : (b t n : ℕ) (xs : List Item) → b ≤ n → slice_get (silent_front b t ++ drop b xs) n ≡ slice_get xs n
silent_there zero t n xs le = refl
silent_there (suc b) t zero xs le = absurd (omega (arith, le))
silent_there (suc b) t (suc n) [] le = silent_none b t n (omega (arith, le))
  where
    silent_none : (b t n : ℕ) → b ≤ n → slice_get (silent_front b t ++ []) n ≡ None
    silent_none zero t n le = refl
    silent_none (suc b) t zero le = absurd (omega (arith, le))
    silent_none (suc b) t (suc n) le = silent_none b t n (omega (arith, le))
silent_there (suc b) t (suc n) (x ∷ xs) le = silent_there b t n xs (omega (arith, le))

front_get : (n m : ℕ) (xs : List Item) → n < m → slice_get (take m xs) n ≡ slice_get xs n
front_get n zero xs lt = absurd (omega (arith, lt))
front_get n (suc m) [] lt = refl
front_get zero (suc m) (x ∷ xs) lt = refl
front_get (suc n) (suc m) (x ∷ xs) lt = front_get n m xs (omega (arith, lt))

taken_within : (n m : ℕ) (xs : List Item) → is_some (notice_in (slice_get (take m xs) n)) ≡ true → n < m
taken_within n zero [] h = absurd cc
taken_within n zero (x ∷ xs) h = absurd cc
taken_within n (suc m) [] h = absurd cc
taken_within zero (suc m) (x ∷ xs) h = omega arith
taken_within (suc n) (suc m) (x ∷ xs) h = let lt = taken_within n m xs h in omega (arith, lt)

mapped_there : (f : StateItem → Item) (xs : List StateItem) (k : ℕ) (x : StateItem) → slice_get xs k ≡ Some x → slice_get (map f xs) k ≡ Some (f x)
mapped_there f [] k x e = absurd (none-some x e)
mapped_there f (y ∷ ys) zero x e = ap (λ (z : StateItem). Some (f z)) (same_Some y x e)
mapped_there f (y ∷ ys) (suc k) x e = mapped_there f ys k x e

-- ---- at a base

module _ (whole : List Item) (p : Participant) (is : IsPrunedTo whole p) (b : ℕ) (le : p.base ≤ b) (based : IsBase (params_of p) (items_of p) b) where
  abbrev last : ℕ
  last = last_time (take b (items_of p))

  abbrev later_items : List Item
  later_items = silent_front b last ++ drop b (items_of p)

  whole_there : (n : ℕ) → b ≤ n → slice_get (items_of p) n ≡ slice_get whole n
  whole_there n far =
      ap (λ (xs : List Item). slice_get xs n) (kept_is whole p is)
      ∙ silent_there p.base (last_time (take p.base whole)) n whole (omega (arith, le, far))

  pub notice_later : (n : ℕ) → b ≤ n → notice_at later_items n ≡ notice_at (items_of p) n
  notice_later n far = ap notice_in (silent_there b last n (items_of p) far)

  module _ (items : List StateItem) (are : map (item_by p.topology) items ≡ drop b (items_of p))
      (came : AreCame p.topology p.packages p.me b (items_of p) items) where
    placed : (k : ℕ) (item : StateItem) → slice_get items k ≡ Some item → slice_get whole (b + k) ≡ Some (item_by p.topology item)
    placed k item at =
        sym (whole_there (b + k) (omega arith))
        ∙ (sym (behind_drop b k (items_of p))
        ∙ (ap (λ (xs : List Item). slice_get xs k) (sym are) ∙ mapped_there (item_by p.topology) items k item at))

    still_came : (k : ℕ) (time : ℕ) (what : ItemWhat) → slice_get items k ≡ Some (record { time = time; what = what })
        → IsCame p.topology p.packages p.me (take (b + k) (items_of p)) what → IsCame p.topology p.packages p.me (take (b + k) later_items) what
    still_came k time (raw.Request sender command root seen confirmed envelope) at h = h
    still_came k time raw.Nothing at h = h
    still_came k time (raw.Verdict verdict) at h =
        let n = verdict.request in
        let far : b ≤ n =
        later_verdict (params_of p) whole b (b + k) (item_by p.topology (record { time = time; what = raw.Verdict verdict })) verdict is.orderly (whole_based whole p is b le based)
        (omega arith) (placed k (record { time = time; what = raw.Verdict verdict }) at) refl in
        let near = taken_within n (b + k) (items_of p) h in
        ap (λ (o : Option Item). is_some (notice_in o))
        (front_get n (b + k) later_items near ∙ (silent_there b last n (items_of p) far ∙ sym (front_get n (b + k) (items_of p) near)))
        ∙ h

    pub came_later : AreCame p.topology p.packages p.me b later_items items
    came_later k item at = still_came k item.time item.what at (came k item at)

    pub items_later : map (item_by p.topology) items ≡ drop b later_items
    items_later = are ∙ sym (dropped b last (drop b (items_of p)))

  pub owes_later : (k : ℕ) → b ≤ k → owes_there p k ≡ true → owes_at (reading_of p) p.me later_items k ≡ true
  owes_later k far owes = ap confirms_some_view (notice_later k far) ∙ owes

-- ---- the greatest base

module _ (whole : List Item) (p : Participant) (is : IsPrunedTo whole p) where
  abbrev next_base : ℕ
  next_base = base_specs.base (params_of p) (items_of p)

  pub next_is_base : IsBase (params_of p) (items_of p) next_base
  next_is_base = base_is_base (params_of p) (items_of p)

  own_base : IsBase (params_of p) (items_of p) p.base
  own_base =
      let alike = pruned_alike whole p is in
      let within = (is.is_base).within in
      let long = alike.cursor in
      record {
        within = omega (arith, within, long);
        decided = λ m lt received. let wrong : true ≡ false = sym received ∙ alike.unreceived m lt in absurd (cc);
      }

  pub next_is_later : p.base ≤ next_base
  next_is_later = base_is_most (params_of p) (items_of p) p.base own_base

-- ---- a lawful state, pruned

module _ (topology : Topology) (packages : Packages) (state : State) (is : IsLawful topology packages state) (pruned : State)
    (at : pruned.base ≡ base_specs.base topology.params (items_in topology state)) where
  abbrev owner : Participant
  owner = owner_of topology packages state

  abbrev all : List Item
  all = inbox (reading_of owner) owner.me is.log

  le : state.base ≤ pruned.base
  le = subst (λ (n : ℕ). state.base ≤ n) (sym at) (next_is_later all owner is.pruned)

  based : IsBase topology.params (items_in topology state) pruned.base
  based = subst (λ (n : ℕ). IsBase topology.params (items_in topology state) n) (sym at) (next_is_base all owner is.pruned)

  pub stays_lawful : GoesOn (reading_of owner) (items_of owner) pruned.base owner.start (start_in pruned)
      → IsStateOf (pruned_at pruned.base (start_in pruned) owner) pruned → IsLawful topology packages pruned
  stays_lawful on of =
      lawful (pruned_at pruned.base (start_in pruned) owner) is.log is.few is.genuine (pruned_again all owner is.pruned pruned.base le based (start_in pruned) on)
      pruned of

  -- the responses stay as they are
  pub of_owner : IsStateOf (pruned_at pruned.base (start_in pruned) (begun_again topology packages state)) pruned
      → IsStateOf (pruned_at pruned.base (start_in pruned) owner) (record pruned { outbox = state.outbox })
  of_owner of =
      record {
        me = of.me;
        base = of.base;
        base_time = of.base_time;
        paused = of.paused;
        start = of.start;
        items = of.items;
        came = of.came;
        outbox = refl;
        done = of.done;
        ascend = of.ascend;
        owes_done = of.owes_done;
        waiting = λ k far waits.
            of.done k
            ∙ (ap (λ (x : Bool). (x && has_place state.done k) && true) (le-leb pruned.base k far)
            ∙ ap (λ (x : Bool). x && true) (is.waiting k (omega (arith, le, far)) waits));
        once = is.once;
      }
