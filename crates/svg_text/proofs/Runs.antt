-- A text is written in runs: what stands before a byte that XML keeps for itself, and that byte's entity.
use Rattle.std.proofs.Common.{◌≡◌, ℕ, ◌+◌, ◌-◌, ◌<◌, ◌≤◌, true, false, List, ◌++◌, length, get_or, take, drop, length-drop, get_or-drop, append_assoc, arith}
use Rattle.std.proofs.lemmas.Bool.Decides.{nat_tests}
use Rattle.std.proofs.lemmas.List.{take_more, at_drop_more}
use Rattle.std.specs.List.{flat_map}
use Rattle.svg_text.specs.Escape.{is_kept, entity, escaped_byte}

pub kept_is_ascii : (b : ℕ) → is_kept b ≡ true → b < 128
kept_is_ascii b h = grind (arith, nat_tests)

-- a byte that is written as it is joins the run before it
pub run_grows : (s before whole : List ℕ) (start i : ℕ) → start ≤ i → i < length s → is_kept (get_or s i 0) ≡ false
    → before ++ (take (i - start) (drop start s) ++ flat_map escaped_byte (drop i s)) ≡ whole
    → before ++ (take (i + 1 - start) (drop start s) ++ flat_map escaped_byte (drop (i + 1) s)) ≡ whole
run_grows s before whole start i low within plain sofar =
    let back : start + (i - start) ≡ i = omega arith in
    let here : get_or (drop start s) (i - start) 0 ≡ get_or s i 0 = rw (get_or-drop start s (i - start) 0, back) in
    let more = take_more (drop start s) (i - start) 0 (omega (arith, length-drop start s)) in
    let next : i + 1 - start ≡ i - start + 1 = omega arith in
    rw (next, more, here) (simp append_assoc (rw (at_drop_more (flat_map escaped_byte) s i 0 within, plain) at sofar))

-- a byte that XML keeps for itself ends it
pub run_ends : (s before whole : List ℕ) (start i : ℕ) → i < length s → is_kept (get_or s i 0) ≡ true
    → before ++ (take (i - start) (drop start s) ++ flat_map escaped_byte (drop i s)) ≡ whole
    → ((before ++ take (i - start) (drop start s)) ++ entity (get_or s i 0)) ++ (take (i + 1 - (i + 1)) (drop (i + 1) s) ++ flat_map escaped_byte (drop (i + 1) s)) ≡ whole
run_ends s before whole start i within needed sofar =
    let zero : i + 1 - (i + 1) ≡ 0 = omega arith in
    let read = rw (at_drop_more (flat_map escaped_byte) s i 0 within, needed) at sofar in
    rw zero (simp append_assoc read)
