use Rattle.std.proofs.Common.{◌≡◌, ◌+◌, ◌++◌, ◌∷◌, [], ◌∙◌, ap, sym, true, length, arith, length-append}
use Rattle.std.proofs.lemmas.Grind.{common_steps}
use Rattle.canton_model.specs.declared.outcome.Outcome.TheVariants.{Undecided}
use Rattle.request_track.specs.Pairs.{Pair, undecided_of, put_if, first_or}
use Rattle.request_track.proofs.Undecided.{rising_undecided, undecided_pushed, few_undecided, clean_first, apart_pushed}
use Rattle.request_track.proofs.tracker.Tracker.begin.Goals as goal

pub room_for_one-requires : goal.room_for_one-requires
room_for_one-requires c = rw c.self.invariant.0 (few_undecided c.self.inside.pairs.entries)

pub insert_if-requires-clause-room : goal.insert_if-requires-clause-room
insert_if-requires-clause-room c =
    let few = few_undecided c.self.inside.pairs.entries in
    let items = ap length (c.room_for_one.ensures.undecided ∙ c.self.invariant.0) in
    let many = ap length c.room_for_one.ensures.pairs in
    let room = c.in_ok-room_for_one.ensures.room in
    grind (arith, common_steps)

pub insert_if-requires-clause-rising : goal.insert_if-requires-clause-rising
insert_if-requires-clause-rising c =
    rw (c.room_for_one.ensures.undecided, c.self.invariant.0) (rising_undecided c.self.inside.pairs.entries)

pub invariant_of-self-2 : goal.invariant_of-self-2
invariant_of-self-2 c =
    let x : Pair = (c.args.place, record { decision = c.args.decision; outcome = Undecided }) in
    let e : c.push_pair.new.pairs.entries ≡ c.self.inside.pairs.entries ++ x ∷ [] =
    c.push_pair.ensures ∙ ap (λ ps. ps ++ x ∷ []) c.room_for_one.ensures.pairs in
    let u : c.insert_if.new.places.items ≡ undecided_of c.push_pair.new.pairs.entries =
    c.insert_if.ensures.places ∙ ap (put_if true c.args.place) (c.room_for_one.ensures.undecided ∙ c.self.invariant.0)
    ∙ sym (undecided_pushed c.self.inside.pairs.entries x) ∙ ap undecided_of (sym e) in
    let many = ap length c.room_for_one.ensures.pairs in
    let more : length c.push_pair.new.pairs.entries ≡ length c.self.inside.pairs.entries + 1 =
    ap length e ∙ length-append c.self.inside.pairs.entries (x ∷ []) in
    let room = c.in_ok-room_for_one.ensures.room in (
      u,
      c.first_or-self-inside.ensures ∙ ap (λ xs. first_or xs c.self.inside.cursor) u ∙ sym (clean_first c.push_pair.new.pairs.entries c.self.inside.cursor),
      rw e (apart_pushed c.self.inside.pairs.entries x (rw (← c.self.view_is) at c.requires) c.self.invariant.2),
      (λ h. grind (arith, common_steps)),
    )
