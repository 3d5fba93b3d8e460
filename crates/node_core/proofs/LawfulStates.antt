-- From a lawful state a participant may begin again.
use Rattle.std.proofs.Common.{◌≡◌, ◌+◌, ◌-◌, ◌<◌, ◌≤◌, ◌^◌, ℕ, zero, suc, true, List, [], ◌∷◌, ◌++◌, drop, length, map, take, Some, refl, sym, ap, ◌∙◌, subst, arith, take-append-drop, take-take}
use Rattle.std.specs.Prelude.{slice_get}
use Rattle.std.proofs.lemmas.List.{drop-take, length-drop, length-map, take-append-le, take-map}
use Rattle.std.proofs.lemmas.Option.{none-some, same_Some, slice_get_within}
use Rattle.ledger_terms.specs.declared.topology.Topology.{Topology}
use Rattle.lang_eval.specs.Found.{Packages}
use Rattle.ledger_model.specs.Terms.{ParticipantId}
use Rattle.canton_model.specs.Genuine.{Genuine}
use Rattle.canton_model.specs.Inbox.{Item, Nothing, inbox, item_after, items_after, last_time}
use Rattle.canton_model.specs.Log.{Params}
use Rattle.canton_model.specs.Reading.{Reading}
use Rattle.canton_model.proofs.InboxGrows.{items_push}
use Rattle.canton_model.proofs.LongerLogs.{genuine_take}
use Rattle.framed_form.specs.FramedReading.{framed_reading}
use Rattle.world_model.specs.Messages.{Entry}
use Rattle.world_model.specs.Node.{owes_at}
use Rattle.world_model.proofs.NodeFacts.{inbox_append, inbox_length}
use Rattle.world_model.proofs.Steps.{length_take, take_next}
use Rattle.pruned_inbox.specs.Forgotten.{silent_front}
use Rattle.node_state.specs.declared.item.Item.{Item as StateItem}
use Rattle.node_state.specs.declared.node_state.NodeState.{NodeState as State}
use Rattle.node_inbox.specs.Beginnings.{IsBeginning}
use Rattle.node_inbox.specs.Raw.{AreCame, IsCame, item_by}
use Rattle.node_core.specs.Participant.{IsPrunedTo, Participant, items_of, owes_there, params_of, reading_of}
use Rattle.node_core.specs.States.{AreToCome, IsLawful, IsStateOf, MayBegin, begun_again, items_in, owner_of, start_in}
use Rattle.node_core.proofs.LogEnds.{rises}
use Rattle.node_core.proofs.Pruned.{last_behind, same_last}
use Rattle.node_core.proofs.Restarted.{same_items, pruned_still}
use Rattle.node_core.proofs.StartRows.{start_below, start_none_gone, start_once, start_ordered}

-- ---- times rise

taken_all : {X : Type 0} (n : ℕ) (xs : List X) → length xs ≤ n → take n xs ≡ xs
taken_all zero [] le = refl
taken_all (suc n) [] le = refl
taken_all zero (x ∷ xs) le = absurd (omega (arith, le))
taken_all (suc n) (x ∷ xs) le = ap (λ (ys : List _). x ∷ ys) (taken_all n xs (omega (arith, le)))

some_there : {X : Type 0} (n : ℕ) (xs : List X) → n < length xs → (x : X) × (slice_get xs n ≡ Some x)
some_there n [] lt = absurd (omega (arith, lt))
some_there zero (x ∷ xs) lt = (x, refl)
some_there (suc n) (x ∷ xs) lt = some_there n xs (omega (arith, lt))

end_there : {X : Type 0} (xs : List X) (y : X) (n : ℕ) → length xs ≡ n → slice_get (xs ++ y ∷ []) n ≡ Some y
end_there [] y zero e = refl
end_there [] y (suc n) e = absurd (omega (arith, e))
end_there (x ∷ xs) y zero e = absurd (omega (arith, e))
end_there (x ∷ xs) y (suc n) e = end_there xs y n (omega (arith, e))

front_there : {X : Type 0} (n m : ℕ) (xs : List X) → n < m → slice_get (take m xs) n ≡ slice_get xs n
front_there n zero xs lt = absurd (omega (arith, lt))
front_there n (suc m) [] lt = refl
front_there zero (suc m) (x ∷ xs) lt = refl
front_there (suc n) (suc m) (x ∷ xs) lt = front_there n m xs (omega (arith, lt))

module _ (reading : Reading) (params : Params) (me : ParticipantId) (log : List Entry) (genuine : Genuine reading params log) where
  abbrev whole : List Item
  whole = inbox reading me log

  long : length whole ≡ length log
  long = inbox_length reading me [] log

  -- what stands below a place is the inbox of the entries below it
  front_is : (n : ℕ) → n ≤ length log → take n whole ≡ inbox reading me (take n log)
  front_is n le =
      let first = take n log in
      let rest = drop n log in
      let parts : whole ≡ inbox reading me first ++ items_after reading me first rest =
      ap (inbox reading me) (sym (take-append-drop n log)) ∙ inbox_append reading me [] first rest in
      let many : length (inbox reading me first) ≡ n = inbox_length reading me [] first ∙ length_take n log le in
      ap (take n) parts ∙ (take-append-le n (inbox reading me first) (items_after reading me first rest) (omega (arith, many))
      ∙ taken_all n (inbox reading me first) (omega (arith, many)))

  -- each is later than those before it
  pub later_than_before : (n : ℕ) (item : Item) → slice_get whole n ≡ Some item → last_time (take n whole) < item.time
  later_than_before n item there =
      let lt = slice_get_within whole n item there in
      let within : n < length log = omega (arith, lt, long) in
      let found = some_there n log within in
      let entry = found.0 in
      let front = take n log in
      let next : take (suc n) log ≡ front ++ entry ∷ [] = take_next n log entry found.1 in
      let early : last_time (inbox reading me front) < entry.time =
      rises reading me params (take (suc n) log) front entry (genuine_take reading params log (suc n) genuine) next in
      let here : take (suc n) whole ≡ inbox reading me front ++ item_after reading me front entry ∷ [] =
      front_is (suc n) (omega (arith, within)) ∙ (ap (inbox reading me) next ∙ items_push reading me [] front entry) in
      let many : length (inbox reading me front) ≡ n = inbox_length reading me [] front ∙ length_take n log (omega (arith, within)) in
      let same : item_after reading me front entry ≡ item =
      same_Some (item_after reading me front entry) item
      (sym (end_there (inbox reading me front) (item_after reading me front entry) n many)
      ∙ (ap (λ (xs : List Item). slice_get xs n) (sym here) ∙ (front_there n (suc n) whole (omega arith) ∙ there))) in
      subst (λ (t : ℕ). last_time (take n whole) < t) (ap (λ (x : Item). x.time) same)
      (subst (λ (xs : List Item). last_time xs < entry.time) (sym (front_is n (omega (arith, within)))) early)

  -- so there is time for as many as stand below a place
  pub early_enough : (b : ℕ) → b ≤ length whole → b ≤ last_time (take b whole)
  early_enough zero le = omega arith
  early_enough (suc b) le =
      let found = some_there b whole (omega (arith, le)) in
      let before = early_enough b (omega (arith, le)) in
      let later = later_than_before b found.0 found.1 in
      subst (λ (xs : List Item). suc b ≤ last_time xs) (sym (take_next b whole found.0 found.1))
      (subst (λ (t : ℕ). suc b ≤ t) (sym (last_behind (take b whole) found.0 [])) (omega (arith, before, later)))

-- ---- behind as many silent items

silent_length : (b t : ℕ) → length (silent_front b t) ≡ b
silent_length zero t = refl
silent_length (suc b) t = ap suc (silent_length b t)

pub dropped : (b t : ℕ) (xs : List Item) → drop b (silent_front b t ++ xs) ≡ xs
dropped zero t xs = refl
dropped (suc b) t xs = dropped b t xs

taken : (b t k : ℕ) (xs : List Item) → take (b + k) (silent_front b t ++ xs) ≡ silent_front b t ++ take k xs
taken zero t k xs = let none : 0 + k ≡ k = omega arith in ap (λ (n : ℕ). take n xs) none
taken (suc b) t k xs =
    let next : suc b + k ≡ suc (b + k) = omega arith in
    ap (λ (n : ℕ). take n (silent_front (suc b) t ++ xs)) next
    ∙ ap (λ (ys : List Item). record { time = t - b; content = Nothing } ∷ ys) (taken b t k xs)

pub behind_drop : (b k : ℕ) (xs : List Item) → slice_get (drop b xs) k ≡ slice_get xs (b + k)
behind_drop zero k xs = let none : k ≡ 0 + k = omega arith in ap (slice_get xs) none
behind_drop (suc b) k [] = refl
behind_drop (suc b) k (x ∷ xs) = let next : suc (b + k) ≡ suc b + k = omega arith in behind_drop b k xs ∙ ap (slice_get (x ∷ xs)) next

mapped : (f : StateItem → Item) (xs : List StateItem) (k : ℕ) (x : StateItem) → slice_get xs k ≡ Some x → slice_get (map f xs) k ≡ Some (f x)
mapped f [] k x e = absurd (none-some x e)
mapped f (y ∷ ys) zero x e = ap (λ (z : StateItem). Some (f z)) (same_Some y x e)
mapped f (y ∷ ys) (suc k) x e = mapped f ys k x e

module _ (topology : Topology) (packages : Packages) (state : State) (is : IsLawful topology packages state) where
  abbrev reading : Reading
  reading = framed_reading topology packages

  abbrev all : List Item
  all = inbox reading state.me is.log

  abbrev b : ℕ
  b = state.base

  many : length all ≡ length is.log
  many = inbox_length reading state.me [] is.log

  inside : b ≤ length all
  inside = ((is.pruned).is_base).within

  abbrev seen : List Item
  seen = map (item_by topology) state.items

  seen_is : seen ≡ drop b all
  seen_is = sym (dropped b state.base_time seen) ∙ (ap (drop b) (is.pruned).kept ∙ dropped b state.base_time (drop b all))

  seen_long : length state.items + b ≡ length all
  seen_long =
      let here : length state.items ≡ length (drop b all) = sym (length-map state.items (item_by topology)) ∙ ap length seen_is in
      let rest = length-drop b all in omega (arith, here, rest, inside)

  -- what stands before an item that comes again
  front : (k : ℕ) → silent_front b state.base_time ++ map (item_by topology) (take k state.items) ≡ silent_front b (last_time (take b all)) ++ take k (drop b all)
  front k =
      ap (λ (xs : List Item). silent_front b state.base_time ++ xs) (sym (take-map (item_by topology) k state.items) ∙ ap (take k) seen_is)
      ∙ ap (λ (t : ℕ). silent_front b t ++ take k (drop b all)) (is.pruned).time

  time_before : (k : ℕ) → b + k ≤ length all → last_time (silent_front b state.base_time ++ map (item_by topology) (take k state.items)) ≡ last_time (take (b + k) all)
  time_before k le =
      let upto = take (b + k) all in
      let low : take b upto ≡ take b all = take-take b (b + k) all (omega arith) in
      let rest : drop b upto ≡ take k (drop b all) = drop-take b k all in
      let enough : length upto ≡ b + k = length_take (b + k) all le in
      ap last_time (front k ∙ ((λ i. silent_front b (last_time (sym low i)) ++ sym rest i)))
      ∙ same_last b upto (omega (arith, enough))

  there : (k : ℕ) (item : StateItem) → slice_get state.items k ≡ Some item → slice_get all (b + k) ≡ Some (item_by topology item)
  there k item at =
      sym (behind_drop b k all) ∙ (ap (λ (xs : List Item). slice_get xs k) (sym seen_is) ∙ mapped (item_by topology) state.items k item at)

  to_come : AreToCome topology packages state.me (silent_front b state.base_time) state.items
  to_come =
      record {
        few = (let l = silent_length b state.base_time in let few = is.few in omega (arith, l, few, seen_long, many));
        rises = λ k item at.
            let here = there k item at in
            let within = slice_get_within all (b + k) (item_by topology item) here in
            subst (λ (t : ℕ). t < item.time) (sym (time_before k (omega (arith, within))))
            (later_than_before reading topology.params state.me is.log is.genuine (b + k) (item_by topology item) here);
        came = λ k item at.
            subst (λ (before : List Item). IsCame topology packages state.me before item.what)
            (taken b state.base_time k seen ∙ ap (λ (xs : List Item). silent_front b state.base_time ++ xs) (take-map (item_by topology) k state.items))
            (is.came k item at);
      }

  begins : IsBeginning b state.base_time (start_in state)
  begins =
      let starts = (is.pruned).starts in
      record {
        few = (let few = is.few in omega (arith, few, inside, many));
        early = (let enough = early_enough reading topology.params state.me is.log is.genuine b inside in let time = (is.pruned).time in omega (arith, enough, time));
        order = start_ordered reading all b (start_in state) starts;
        below = start_below reading all b (start_in state) starts;
        once = start_once reading all b (start_in state) starts;
        none_gone = start_none_gone reading all b (start_in state) starts;
        ascend = starts.ascend;
      }

  pub may_begin : MayBegin topology packages state
  may_begin = record { begins = begins; items = to_come; done = is.done; ascend = is.ascend; waiting = is.waiting; once = is.once }

-- ---- with other responses it is pruned as well

pub owner_pruned : (full : List Item) (topology : Topology) (packages : Packages) (state : State) → IsPrunedTo full (begun_again topology packages state)
    → IsPrunedTo full (owner_of topology packages state)
owner_pruned full topology packages state is =
    record { orderly = is.orderly; is_base = is.is_base; starts = is.starts; time = is.time; kept = is.kept }

pub again_pruned : (full : List Item) (topology : Topology) (packages : Packages) (state : State) → IsPrunedTo full (owner_of topology packages state)
    → IsPrunedTo full (begun_again topology packages state)
again_pruned full topology packages state is =
    record { orderly = is.orderly; is_base = is.is_base; starts = is.starts; time = is.time; kept = is.kept }

-- ---- the state of a participant that has read a genuine log

module _ (p : Participant) (log : List Entry) (few : length log < 2 ^ 63) (genuine : Genuine (reading_of p) (params_of p) log)
    (pruned : IsPrunedTo (inbox (reading_of p) p.me log) p) (state : State) (of : IsStateOf p state) where
  abbrev mine : ParticipantId → List Item
  mine me = inbox (reading_of p) me log

  same : items_in p.topology state ≡ items_of p
  same = same_items (mine p.me) p pruned state of

  owes_too : (k : ℕ) → owes_there p k ≡ true → owes_at (reading_of p) state.me (items_in p.topology state) k ≡ true
  owes_too k owes =
      subst (λ (me : ParticipantId). owes_at (reading_of p) me (items_in p.topology state) k ≡ true) (sym of.me)
      (subst (λ (items : List Item). owes_at (reading_of p) p.me items k ≡ true) (sym same) owes)

  pub lawful : IsLawful p.topology p.packages state
  lawful =
      record {
        log = log;
        few = few;
        genuine = genuine;
        pruned =
            subst (λ (me : ParticipantId). IsPrunedTo (mine me) (owner_of p.topology p.packages state)) (sym of.me)
            (owner_pruned (mine p.me) p.topology p.packages state (pruned_still (mine p.me) p pruned state of));
        came =
            subst (λ (me : ParticipantId). AreCame p.topology p.packages me state.base (items_in p.topology state) state.items) (sym of.me)
            (subst (λ (n : ℕ). AreCame p.topology p.packages p.me n (items_in p.topology state) state.items) (sym of.base)
            (subst (λ (items : List Item). AreCame p.topology p.packages p.me p.base items state.items) (sym same) of.came));
        done = λ k h. owes_too k (of.owes_done k h);
        ascend = of.ascend;
        waiting = λ k le h. of.waiting k (subst (λ (n : ℕ). n ≤ k) of.base le) h;
        once = of.once;
      }
