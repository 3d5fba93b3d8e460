use Rattle.std.proofs.Common.{◌≡◌, ◌<◌, true, false, length, get_or, refl, arith}
use Rattle.std.proofs.lemmas.Grind.{common_steps}
use Rattle.std.proofs.lemmas.Str.{IsCharBoundary-start, IsCharBoundary-after_ascii}
use Rattle.ledger_terms.specs.Pointers.{is_reserved}
use Rattle.ledger_terms.proofs.Tokens.{reserved_is_ascii, run_grows, run_ends}
use Rattle.ledger_terms.proofs.pointer.push_token.Goals as goal
use Rattle.ledger_terms.proofs.pointer.push_token.Goals.{then-is_reserved_byte+in_ok-push_str+in_ok-push_str-2, else-is_reserved_byte}

pub bytes-init : goal.bytes-init
bytes-init c = record { low = omega arith; bound = IsCharBoundary-start c.args.name.now c.utf8.name; so_far = refl }

pub bytes-preserved : goal.bytes-preserved
bytes-preserved c =
    let l = c.bytes in
    let s = c.args.name.now in
    let within : l.at < length s = omega (arith, c.as_bytes-bytes.ensures.len) in
    elim c.if-is_reserved_byte.branch [
      | then-is_reserved_byte+in_ok-push_str+in_ok-push_str-2 w ↦
          let needed : is_reserved (get_or s l.at 0) ≡ true = grind (arith, common_steps) in
          let next = run_ends s _ _ l.start l.at within needed l.invariant.so_far in
          rw (w.start-is, w.text-is) (record {
            low = omega arith;
            bound = IsCharBoundary-after_ascii s l.at c.utf8.name within (reserved_is_ascii _ needed);
            so_far = grind (arith, common_steps, next);
          })
      | else-is_reserved_byte w ↦
          let plain : is_reserved (get_or s l.at 0) ≡ false = grind (arith, common_steps) in
          let next = run_grows s _ _ l.start l.at l.invariant.low within plain l.invariant.so_far in
          rw (w.start-is, w.text-is) (record { low = omega arith; bound = l.invariant.bound; so_far = next })
    ]
