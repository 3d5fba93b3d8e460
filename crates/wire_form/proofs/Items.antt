-- Reading the items of a list one after another, as a loop does: items_at admits item n so_far bytes is what a loop that
-- has n items to go must give.
use Rattle.std.proofs.Common.{◌≡◌, ℕ, suc, ◌-◌, ◌+◌, ◌≤◌, ◌<◌, Bool, List, Result, Ok, Err, refl, sym, ◌∙◌, arith}
use Rattle.wire_form.specs.declared.reader_fault.ReaderFault.{ReaderFault}
use Rattle.wire_form.specs.declared.reader_fault.ReaderFault.TheVariants as faults
use Rattle.wire_form.specs.Formats.{Fails, Reading, one_more, items_at}

module _ {A : Type 0} (admits : List A → A → Bool) (item : Reading A) where
  -- one item was read
  pub goes_on : (count i : ℕ) (so_far new : List A) (bytes after : List ℕ) (total : Result (List A × List ℕ) ℕ) → i < count → one_more admits item so_far bytes ≡ Ok (new, after)
      → items_at admits item (count - i) so_far bytes ≡ total → items_at admits item (count - (i + 1)) new after ≡ total
  unfolding items_at
  goes_on count i so_far new bytes after total lt h before =
      let k : count - i ≡ suc (count - (i + 1)) = omega arith in
      let one : items_at admits item (count - i) so_far bytes ≡ items_at admits item (count - (i + 1)) new after = rw (k, h) refl in
      sym one ∙ before

  -- an item could not be read
  pub ends : (e : ReaderFault) (count i : ℕ) (so_far : List A) (bytes : List ℕ) (total : Result (List A × List ℕ) ℕ) → i < count → Fails e (one_more admits item so_far bytes)
      → items_at admits item (count - i) so_far bytes ≡ total → Fails e total
  unfolding items_at
  ends faults.Memory count i so_far bytes total lt h before = tt
  ends (faults.Left n) count i so_far bytes total lt h before =
      let k : count - i ≡ suc (count - (i + 1)) = omega arith in
      let one : items_at admits item (count - i) so_far bytes ≡ Err n = rw (k, h) refl in
      sym before ∙ one

  -- all items were read
  pub is_done : (count i : ℕ) (so_far : List A) (bytes : List ℕ) (total : Result (List A × List ℕ) ℕ) → count ≤ i → items_at admits item (count - i) so_far bytes ≡ total → total ≡ Ok (so_far, bytes)
  unfolding items_at
  is_done count i so_far bytes total le before =
      let k : count - i ≡ 0 = omega arith in
      let one : items_at admits item (count - i) so_far bytes ≡ Ok (so_far, bytes) = rw k refl in
      sym before ∙ one
