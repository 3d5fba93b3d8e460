use Rattle.std.proofs.Common.{◌≡◌, ◌<◌, true, false, length, get_or, refl, arith}
use Rattle.std.proofs.lemmas.Grind.{common_steps}
use Rattle.std.proofs.lemmas.Str.{IsCharBoundary-start, IsCharBoundary-after_ascii}
use Rattle.svg_text.specs.Escape.{is_kept}
use Rattle.svg_text.proofs.Runs.{kept_is_ascii, run_grows, run_ends}
use Rattle.svg_text.proofs.escape.put_escaped.Goals as goal
use Rattle.svg_text.proofs.escape.put_escaped.Goals.{then-is_kept+in_ok-push_str+in_ok-push_str-2, else-is_kept}

pub bytes-init : goal.bytes-init
bytes-init c = record { low = omega arith; bound = IsCharBoundary-start c.args.text.now c.utf8.text; so_far = refl }

pub bytes-preserved : goal.bytes-preserved
bytes-preserved c =
    let l = c.bytes in
    let s = c.args.text.now in
    let within : l.at < length s = omega (arith, c.as_bytes-bytes.ensures.len) in
    elim c.if-is_kept.branch [
      | then-is_kept+in_ok-push_str+in_ok-push_str-2 w ↦
          let needed : is_kept (get_or s l.at 0) ≡ true = grind (arith, common_steps) in
          let next = run_ends s _ _ l.start l.at within needed l.invariant.so_far in
          rw (w.start-is, w.out-is) (record {
            low = omega arith;
            bound = IsCharBoundary-after_ascii s l.at c.utf8.text within (kept_is_ascii _ needed);
            so_far = grind (arith, common_steps, next);
          })
      | else-is_kept w ↦
          let plain : is_kept (get_or s l.at 0) ≡ false = grind (arith, common_steps) in
          let next = run_grows s _ _ l.start l.at l.invariant.low within plain l.invariant.so_far in
          rw (w.start-is, w.out-is) (record { low = omega arith; bound = l.invariant.bound; so_far = next })
    ]
