use Rattle.std.proofs.Common.{arith, sym, ap, ◌∙◌, inr}
use Rattle.log_row.proofs.Steps.{copies, joins, learns_as, reader_joined, reader_knows}
use Rattle.log_row.proofs.row.Slip.compare.Goals as goal

pub split_seat-mine-requires : goal.split_seat-mine-requires
split_seat-mine-requires c =
    let i = c.self.invariant in
    (i.0, omega (arith, i.1, ap (λ z. z.words) i.0), copies _ _)

pub split_seat-theirs-requires : goal.split_seat-theirs-requires
split_seat-theirs-requires c =
    let i = c.self.invariant in
    let one = ap (λ t. t.row) c.other.view_is ∙ c.requires ∙ sym (ap (λ t. t.row) c.self.view_is) in
    (one ∙ i.0, omega (arith, i.1, ap (λ z. z.words) i.0), copies _ _)

pub join_seat-requires : goal.join_seat-requires
join_seat-requires c =
    let i = c.self.invariant in
    let one = ap (λ t. t.row) c.other.view_is ∙ c.requires ∙ sym (ap (λ t. t.row) c.self.view_is) in
    let m = c.split_seat-mine.ensures in
    let t = c.split_seat-theirs.ensures in
    (m.3 ∙ i.0, t.3 ∙ one ∙ i.0, ap (λ x. x.1) t.4, omega (arith, i.1, ap (λ z. z.words) i.0), joins _ _ _ _)

pub load-requires : goal.load-requires
load-requires c =
    let i = c.self.invariant in
    let m = c.split_seat-mine.ensures in
    let t = c.split_seat-theirs.ensures in
    let j = c.join_seat.ensures in
    let a = c.self.inside.seat.me.0 in
    let b = c.other.inside.seat.me.0 in
    let k = reader_knows a b c.join_seat.new.seat.me
    (reader_joined a b c.split_seat-mine.result.me c.split_seat-theirs.result.me c.join_seat.new.seat.me m.4 t.4 j.2) in
    (j.0 ∙ m.3 ∙ i.0, omega (arith, i.1, ap (λ z. z.words) i.0), learns_as _ _ _ k.0 (inr k.1))
