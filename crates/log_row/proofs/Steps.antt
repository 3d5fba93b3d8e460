-- Each of the five kinds of step keeps the rule.
use Rattle.std.proofs.Common.{◌≡◌, ◌≢◌, ◌⊎◌, ℕ, zero, suc, ◌+◌, ◌%◌, ◌^◌, ◌<◌, List, [], ◌∷◌, ◌++◌, length, set, Bool, true, false, true≢false, refl}
use Rattle.std.proofs.Common.{sym, ap, ◌∙◌, subst, inl, inr, ⊎_elim, arith, length-append}
use Rattle.std.specs.Prelude.{slice_index, slice_set, if◌then◌else◌, leb}
use mathlib.Core.Option.{some, none, some-ne-none, some-injective}
use mathlib.Core.List.{IsPrefix}
use lib.ListN.{get_elem?}
use Rattle.std.proofs.Math.Nat.{mod-eq_of_lt}
use Rattle.std.proofs.lemmas.Bool.Decides.{nat_tests}
use Rattle.log_row.specs.LogPrefix.{Agree}
use Rattle.atomic_table.specs.Table.{Me, keeps, step, opening, Allows, Splits, Joins}
use Rattle.atomic_table.proofs.Lists.{at_set, at_snoc, set_again}
use Rattle.canton_model.specs.declared.entry.Entry.{Entry}
use Rattle.log_row.specs.declared.seat.View.{View}
use Rattle.log_row.specs.Lists.{AllBegin, NoneLonger, longer}
use Rattle.log_row.specs.Seats.{writer, reader, Fits, Kept, copied, joined, Appends, Learns}
use Rattle.log_row.proofs.Lists.{prefix_self, prefix_trans, prefix_more, all_begin_more, all_begin_own, choose}

off : false ≡ true → ⊥
off e = true≢false (sym e)

-- after one view is written, each view fits where the others and the new one do
fits_set : (seat : ℕ) (log : List Entry) (views : List View) (by : ℕ) (w : View)
    → ((j : ℕ) (u : View) → j ≢ by → get_elem? views j ≡ some u → Fits seat log j u) → Fits seat log by w → (j : ℕ) (u : View)
    → get_elem? (set views by w) j ≡ some u → Fits seat log j u
fits_set seat log views by w others mine j u e =
    ⊎_elim
    (λ (x : (j ≡ by) × (w ≡ u)). subst (λ (y : ℕ × View). Fits seat log y.0 y.1) (λ i. (sym x.0 i, x.1 i)) mine)
    (λ (x : (j ≢ by) × (get_elem? views j ≡ some u)). others j u x.0 x.1)
    (at_set views by j w u e)

-- Make: the first seat is the writer's, with an empty list
pub begins : Kept (opening (0 ∷ []) [] (writer []))
begins = (0, [], refl, one)
  where
    one : (by : ℕ) (v : View) → get_elem? (writer [] ∷ []) by ≡ some v → Fits 0 [] by v
    one zero v e = subst (Fits 0 [] 0) (some-injective _ _ e) ((λ _. (refl, refl)), ([], refl), tt)
    one (suc by) v e = absurd (some-ne-none v (sym e))

one_more : (n : ℕ) (log : List Entry) (e : Entry) → n ≡ length log → length log + 1 < 2 ^ 64 → (n + 1) % 2 ^ 64 ≡ length (log ++ e ∷ [])
one_more n log e found room =
    let small : n + 1 < 2 ^ 64 = omega arith in
    mod-eq_of_lt small ∙ omega (arith, found, length-append log (e ∷ []))

-- Append: the writer's list grows by the entry
pub appends : (slots by : ℕ) (list : List Entry) (e : Entry) → length list + 1 < 2 ^ 64
    → Allows Kept slots by (writer list, []) 0 (λ n. (n + 1) % 2 ^ 64) (Appends (e ∷ []) (step slots 0 1 0 none) (writer list, []))
appends slots by list e room s h homes at fits =
    let mine = (h.3 by (writer list) at).0 refl in
    let log = h.1 in
    let now = log ++ e ∷ [] in
    let w = writer (list ++ e ∷ []) in
    let found : slice_index s.words 0 ≡ length log = ap (λ ws. slice_index ws 0) h.2 in
    let long : (slice_index s.words 0 + 1) % 2 ^ 64 ≡ length now = one_more (slice_index s.words 0) log e found (omega (arith, ap length mine.1)) in (
      w,
      keeps,
      tt,
      (
        h.0,
        now,
        ap (λ ws. slice_set ws 0 ((slice_index s.words 0 + 1) % 2 ^ 64)) h.2 ∙ ap (λ n. n ∷ []) long,
        fits_set h.0 now s.views by w
            (λ j u apart e'. let f = h.3 j u e' in (
              (λ k. absurd (apart ((f.0 k).0 ∙ sym mine.0))),
              prefix_trans u.list log now f.1 (prefix_more log (e ∷ [])),
              all_begin_more u.joined log (e ∷ []) f.2,
            ))
            ((λ _. (mine.0, ap (λ l. l ++ e ∷ []) mine.1)), subst (λ l. IsPrefix (list ++ e ∷ []) (l ++ e ∷ [])) mine.1 (prefix_self (list ++ e ∷ [])), tt),
      ),
      refl,
    )

-- the same at a view that is known
pub appends_as : (slots by : ℕ) (m : Me (Unit {0}) View) (entries : List Entry) (e : Entry) → m ≡ (writer m.0.list, []) → entries ≡ e ∷ []
    → length m.0.list + 1 < 2 ^ 64
    → Allows Kept slots by m 0 (λ n. (n + 1) % 2 ^ 64) (Appends entries (step slots 0 1 0 none) m)
appends_as slots by m entries e is one room =
    subst (λ (x : Me (Unit {0}) View). Allows Kept slots by x 0 (λ n. (n + 1) % 2 ^ 64) (Appends entries (step slots 0 1 0 none) x)) (sym is)
    (subst (λ (es : List Entry). Allows Kept slots by (writer m.0.list, []) 0 (λ n. (n + 1) % 2 ^ 64)
    (Appends es (step slots 0 1 0 none) (writer m.0.list, []))) (sym one) (appends slots by m.0.list e room))

-- Load: each list that the seat has joined begins its own
pub learns : (slots by : ℕ) (v : View) → (v.writes ≡ true) ⊎ NoneLonger v.joined v.list
    → Allows Kept slots by (v, []) 0 (λ n. n) (Learns (step slots 0 0 0 none) (v, []))
learns slots by v knows s h homes at fits =
    let mine = h.3 by v at in
    let log = h.1 in
    let w : View = record { writes = v.writes; list = v.list; joined = [] } in
    let begun : AllBegin v.joined v.list = ⊎_elim
    (λ (k : v.writes ≡ true). subst (AllBegin v.joined) (sym (mine.0 k).1) mine.2)
    (λ (n : NoneLonger v.joined v.list). all_begin_own v.joined v.list log mine.2 mine.1 n)
    knows in (
      w,
      keeps,
      tt,
      (
        h.0,
        log,
        ap (λ ws. slice_set ws 0 (slice_index s.words 0)) h.2 ∙ ap (λ ws. slice_index ws 0 ∷ []) h.2,
        fits_set h.0 log s.views by w (λ j u _ e. h.3 j u e) (mine.0, mine.1, tt),
      ),
      (refl, begun),
    )

-- Split: the new seat has the same list, and isn't the writer
pub copies : (by : ℕ) (v : View) → Splits Kept by v v (copied v)
copies by v s h at =
    let mine = h.3 by v at in (
      h.0,
      h.1,
      h.2,
      λ j u e. ⊎_elim
          (λ was. h.3 j u (subst (λ l. get_elem? l j ≡ some u) (set_again s.views by v at) was))
          (λ (same : copied v ≡ u). subst (Fits h.0 h.1 j) same ((λ k. absurd (off k)), mine.1, tt))
          (at_snoc (set s.views by v) (copied v) u j e),
    )

own_list : (seat : ℕ) (log : List Entry) (by : ℕ) (b : Bool) (xs ys : List Entry) → (b ≡ true → (by ≡ seat) × (xs ≡ log)) → b ≡ true
    → (by ≡ seat) × ((if b then xs else longer xs ys) ≡ log)
own_list seat log by true xs ys h k = h k
own_list seat log by false xs ys h k = absurd (off k)

-- Join: the longer list is kept, and both are noted
pub joins : (by : ℕ) (v : View) (other : ℕ) (w : View) → Joins Kept by v other w (joined v w) (reader [])
joins by v other w s h at apart there =
    let both = joined v w in
    let log = h.1 in
    let mine = h.3 by v at in
    let theirs =
    ⊎_elim (λ (t : (other ≡ by) × (both ≡ w)). absurd (apart t.0)) (λ (t : (other ≢ by) × (get_elem? s.views other ≡ some w)). h.3 other w t.1)
    (at_set s.views by other both w there) in
    let begun : IsPrefix both.list log =
    choose (λ l. IsPrefix l log) v.writes v.list (longer v.list w.list) mine.1
    (choose (λ l. IsPrefix l log) (leb (length w.list) (length v.list)) v.list w.list mine.1 theirs.1) in
    let fit : Fits h.0 log by both = (own_list h.0 log by v.writes v.list w.list mine.0, begun, (mine.1, (theirs.1, mine.2))) in (
      h.0,
      log,
      h.2,
      fits_set h.0 log (set s.views by both) other (reader []) (λ j u _ e. fits_set h.0 log s.views by both (λ i y _ e'. h.3 i y e') fit j u e)
          ((λ k. absurd (off k)), (log, refl), tt),
    )

-- the same at a view and what it carries
pub learns_as : (slots by : ℕ) (m : Me (Unit {0}) View) → m.1 ≡ [] → (m.0.writes ≡ true) ⊎ NoneLonger m.0.joined m.0.list
    → Allows Kept slots by m 0 (λ n. n) (Learns (step slots 0 0 0 none) m)
learns_as slots by m none_held knows =
    subst (λ (c : List (ℕ × Unit {0})). Allows Kept slots by (m.0, c) 0 (λ n. n) (Learns (step slots 0 0 0 none) (m.0, c))) (sym none_held)
    (learns slots by m.0 knows)

abbrev Held : Type 0
Held = Me (Unit {0}) View

-- the writer has joined a reader's seat
pub writer_joined : (was m : Held) (w : View) → was ≡ (writer was.0.list, []) → m ≡ (joined was.0 w, was.1) → m ≡ (joined (writer was.0.list) w, [])
writer_joined was m w is e = e ∙ ap (λ (x : Held). (joined x.0 w, x.1)) is

pub writer_knows : (m : Held) (w : View) (list : List Entry) → m ≡ (joined (writer list) w, []) → (m.1 ≡ []) × (m.0.writes ≡ true)
writer_knows m w list e = (ap (λ (x : Held). x.1) e, ap (λ (x : Held). x.0.writes) e)

-- what the writer learns: the joined list begins its own, and its view is as before
pub writer_learned : (slots found : ℕ) (list : List Entry) (m now : Held) (w : View) → m ≡ (joined (writer list) w, [])
    → Learns (step slots 0 0 0 none) m found now → (now ≡ (writer list, [])) × IsPrefix w.list list
writer_learned slots found list m now w e l =
    let l' : Learns (step slots 0 0 0 none) (joined (writer list) w, []) found now = subst (λ (x : Held). Learns (step slots 0 0 0 none) x found now) e l in
    (l'.0, l'.1.1.0)

none_longer_if : (b : Bool) (xs ys : List Entry) → leb (length ys) (length xs) ≡ b → NoneLonger (xs ∷ ys ∷ []) (if b then xs else ys)
none_longer_if true xs ys is = (omega arith, (grind (arith, nat_tests), tt))
none_longer_if false xs ys is = (grind (arith, nat_tests), (omega arith, tt))

agree_if : (b : Bool) (xs ys : List Entry) → AllBegin (xs ∷ ys ∷ []) (if b then xs else ys) → Agree xs ys
agree_if true xs ys h = inr h.1.0
agree_if false xs ys h = inl h.0

-- a reader's seat has joined another's
pub reader_joined : (a b : View) (mine theirs m : Held) → mine ≡ (copied a, []) → theirs ≡ (copied b, []) → m ≡ (joined mine.0 theirs.0, mine.1)
    → m ≡ (joined (copied a) (copied b), [])
reader_joined a b mine theirs m p q e = e ∙ ap (λ (x : Held). (joined x.0 theirs.0, x.1)) p ∙ ap (λ (x : Held). (joined (copied a) x.0, [])) q

pub reader_knows : (a b : View) (m : Held) → m ≡ (joined (copied a) (copied b), []) → (m.1 ≡ []) × NoneLonger m.0.joined m.0.list
reader_knows a b m e = (
  ap (λ (x : Held). x.1) e,
  subst (λ (x : Held). NoneLonger x.0.joined x.0.list) (sym e)
      (none_longer_if (leb (length b.list) (length a.list)) a.list b.list refl),
)

pub reader_learned : (slots found : ℕ) (a b : View) (m now : Held) → m ≡ (joined (copied a) (copied b), [])
    → Learns (step slots 0 0 0 none) m found now → Agree a.list b.list
reader_learned slots found a b m now e l =
    let l' : Learns (step slots 0 0 0 none) (joined (copied a) (copied b), []) found now =
    subst (λ (x : Held). Learns (step slots 0 0 0 none) x found now) e l in
    agree_if (leb (length b.list) (length a.list)) a.list b.list l'.1
