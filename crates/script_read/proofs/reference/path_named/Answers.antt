use Rattle.std.proofs.Common.{◌≡◌, ◌==◌, ◌<◌, ◌≤◌, ℕ, ◌+◌, ◌∷◌, ◌++◌, [], List, Some, None, length, get_or, drop, refl, sym, ap, ◌∙◌, arith}
use Rattle.std.specs.Prelude.{option_and_then}
use Rattle.std.specs.List.{slice_split}
use Rattle.std.specs.Str.Iter.{split_text, split_has_more, split_pattern}
use Rattle.std.proofs.lemmas.List.{at_drop_more, at_drop_all, length_push}
use Rattle.std.proofs.lemmas.Iterator.Consumers.{YieldsList-turn, YieldsList-end}
use Rattle.std.proofs.lemmas.Iterator.Splits.{YieldsList-from_str_split}
use Rattle.script_read.specs.Refs.{step_named, steps_from, path_named}
use Rattle.script_read.proofs.reference.path_named.Goals as goal

-- the words from the i-th on
steps_at : (before : List ℕ) (ws : List (List ℕ)) (i : ℕ) (w : List ℕ) → (i < length ws) × (w ≡ get_or ws i w) → steps_from before (drop i ws) ≡ option_and_then (λ n. steps_from (before ++ n ∷ []) (drop (i + 1) ws)) (step_named w)
steps_at before ws i w h =
    at_drop_more (steps_from before) ws i w h.0 ∙ ap (λ v. option_and_then (λ n. steps_from (before ++ n ∷ []) (drop (i + 1) ws)) (step_named v)) (sym h.1)

pub words-init : goal.words-init
words-init c = rw c.new-path.ensures refl

pub returns-in_default : goal.returns-in_default
unfolding path_named
returns-in_default c =
    let gives = c.into_iter-word-iterator.ensures.into_iter_gives in
    let t = YieldsList-turn (YieldsList-from_str_split 46 c.args.text.now (omega arith) (ap split_text gives ∙ c.split-word-items.ensures.text) (ap split_has_more gives ∙ c.split-word-items.ensures.has_more) (ap split_pattern gives ∙ c.split-word-items.ensures.pattern)) c.words.yielded _ c.words.yielded_by _ _ c.in-Some.word c.in-Some.is c.next.ensures.steps in
    let none : step_named c.in-Some.word.now ≡ None = sym (c.in_default.ensures ∙ ap step_named c.as_bytes.ensures.value) in
    let e = steps_at c.words.path (slice_split (λ b. b == 46) c.args.text.now) (length c.words.yielded) c.in-Some.word.now t in
    sym (sym c.words.invariant ∙ (rw none at e))

pub words-preserved : goal.words-preserved
words-preserved c =
    let gives = c.into_iter-word-iterator.ensures.into_iter_gives in
    let t = YieldsList-turn (YieldsList-from_str_split 46 c.args.text.now (omega arith) (ap split_text gives ∙ c.split-word-items.ensures.text) (ap split_has_more gives ∙ c.split-word-items.ensures.has_more) (ap split_pattern gives ∙ c.split-word-items.ensures.pattern)) c.words.yielded _ c.words.yielded_by _ _ c.in-Some.word c.in-Some.is c.next.ensures.steps in
    let some : step_named c.in-Some.word.now ≡ Some c.in-Some-step_named.step = sym (c.in-Some-step_named.ensures ∙ ap step_named c.as_bytes.ensures.value) in
    let e = steps_at c.words.path (slice_split (λ b. b == 46) c.args.text.now) (length c.words.yielded) c.in-Some.word.now t in
    let n = length_push c.words.yielded c.in-Some.word in
    rw (n, c.in_ok-push.ensures.ok) (sym (rw some at e) ∙ c.words.invariant)

pub returns : goal.returns
unfolding path_named
returns c =
    let gives = c.into_iter-word-iterator.ensures.into_iter_gives in
    let t = YieldsList-end (YieldsList-from_str_split 46 c.args.text.now (omega arith) (ap split_text gives ∙ c.split-word-items.ensures.text) (ap split_has_more gives ∙ c.split-word-items.ensures.has_more) (ap split_pattern gives ∙ c.split-word-items.ensures.pattern)) c.words.yielded _ c.words.yielded_by _ _ c.in-None.is c.next.ensures.steps in
    let past : length (slice_split (λ b. b == 46) c.args.text.now) ≤ length c.words.yielded = omega (arith, t.1) in
    sym (at_drop_all (steps_from c.words.path) (slice_split (λ b. b == 46) c.args.text.now) (length c.words.yielded) past) ∙ c.words.invariant
