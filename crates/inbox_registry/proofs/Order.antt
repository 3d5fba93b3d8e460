-- Inboxes in order, one item more.
use Rattle.std.proofs.Common.{◌≡◌, ℕ, suc, ◌+◌, ◌<◌, ◌≤◌, false, List, [], ◌∷◌, ◌++◌, length, Option, Some, None, refl, arith}
use Rattle.std.proofs.lemmas.Bool.{le-ltb, ne_eqb}
use Rattle.canton_model.specs.declared.verdict.Verdict.{Verdict}
use Rattle.canton_model.specs.Timeline.{decision_on, verdict_on, is_past}
use Rattle.canton_model.specs.Inbox.{Item, moments, verdict_in, last_time}
use Rattle.inbox_registry.specs.Order.{AllLater, Rise, IsBelow, VerdictsBehind, IsInOrder}

all_later_push : (time : ℕ) (items : List Item) (x : Item) → AllLater time items → time < x.time → AllLater time (items ++ x ∷ [])
all_later_push time [] x a h = (h, tt)
all_later_push time (item ∷ items) x a h = (a.0, all_later_push time items x a.1 h)

-- the first isn't later than the last
first_last : (item : Item) (items : List Item) → AllLater item.time items → item.time ≤ last_time (item ∷ items)
first_last item [] a = omega arith
first_last item (next ∷ []) a = let h : item.time < next.time = a.0 in omega (arith, h)
first_last item (next ∷ more ∷ rest) a = first_last_on more rest a.1
  where
    first_last_on : (more : Item) (rest : List Item) → AllLater item.time (more ∷ rest) → item.time ≤ last_time (more ∷ rest)
    first_last_on more [] a = let h : item.time < more.time = a.0 in omega (arith, h)
    first_last_on more (x ∷ xs) a = first_last_on x xs a.1

rise_push : (items : List Item) (x : Item) → Rise items → last_time items < x.time → Rise (items ++ x ∷ [])
rise_push [] x r h = (tt, tt)
rise_push (item ∷ []) x r h = ((h, tt), (tt, tt))
rise_push (item ∷ next ∷ rest) x r h =
    let f : item.time ≤ last_time (item ∷ next ∷ rest) = first_last item (next ∷ rest) r.0 in
    (all_later_push item.time (next ∷ rest) x r.0 (omega (arith, f, h)), rise_push (next ∷ rest) x r.1 h)

-- all verdicts are on requests below a place
abbrev pub VerdictsBelow : ℕ → List Item → Type 0
VerdictsBelow n [] = Unit {0}
VerdictsBelow n (item ∷ items) = IsBelow n (verdict_in item.content) × VerdictsBelow n items

is_below : (k n : ℕ) (o : Option Verdict) → k ≤ n → IsBelow k o → IsBelow n o
is_below k n None h b = tt
is_below k n (Some v) h b = let lt : v.request < k = b in omega (arith, h, lt)

pub behind_below : (k n : ℕ) (items : List Item) → k + length items ≤ n → VerdictsBehind k items → VerdictsBelow n items
behind_below k n [] h b = tt
behind_below k n (item ∷ items) h b =
    (is_below k n (verdict_in item.content) (omega (arith, h)) b.0, behind_below (suc k) n items (omega (arith, h)) b.1)

pub below_end : (items : List Item) → IsInOrder items → VerdictsBelow (length items) items
below_end items o = behind_below 0 (length items) items (omega arith) o.behind

pub behind_more : (k : ℕ) (items : List Item) (x : Item) → VerdictsBehind k items → IsBelow (k + length items) (verdict_in x.content)
    → VerdictsBehind k (items ++ x ∷ [])
behind_more k [] x b h = let n : k + 0 ≡ k = omega arith in (rw n at h, tt)
behind_more k (item ∷ items) x b h =
    let n : k + suc (length items) ≡ suc k + length items = omega arith in
    (b.0, behind_more (suc k) items x b.1 (rw n at h))

pub in_order_push : (items : List Item) (x : Item) → IsInOrder items → last_time items < x.time → IsBelow (length items) (verdict_in x.content)
    → IsInOrder (items ++ x ∷ [])
in_order_push items x o later h =
    let n : length items ≡ 0 + length items = omega arith in
    record { rise = rise_push items x o.rise later; behind = behind_more 0 items x o.behind (rw n at h) }

pub nothing_in_order : IsInOrder []
nothing_in_order = record { rise = tt; behind = tt }

-- no verdict is on a request at the end, or later
pub no_verdict_yet : (n m : ℕ) (items : List Item) → VerdictsBelow n items → n ≤ m → verdict_on m (moments items) ≡ None
no_verdict_yet n m [] b h = refl
no_verdict_yet n m (item ∷ items) b h = rw (one (verdict_in item.content) b.0) (no_verdict_yet n m items b.1 h)
  where
    one : (o : Option Verdict) → IsBelow n o → decision_on m o ≡ None
    one None b = refl
    one (Some v) b = let lt : v.request < n = b in rw (ne_eqb v.request m (λ e. omega (arith, e, lt, h))) refl

-- no time is past a later one
pub not_past_yet : (items : List Item) (time : ℕ) → Rise items → last_time items ≤ time → is_past time (moments items) ≡ false
not_past_yet [] time r h = refl
not_past_yet (item ∷ []) time r h = rw (le-ltb time item.time h) refl
not_past_yet (item ∷ next ∷ rest) time r h =
    let f : item.time ≤ last_time (item ∷ next ∷ rest) = first_last item (next ∷ rest) r.0 in
    rw (le-ltb time item.time (omega (arith, f, h))) (not_past_yet (next ∷ rest) time r.1 h)
