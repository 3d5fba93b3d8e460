-- Requests expire, and hold nothing any more.
use Rattle.std.proofs.Common.{◌≡◌, ℕ, true, false, List, None, refl, sym, ap, ◌∙◌}
use Rattle.std.specs.Prelude.{nat_eq, ◌&&◌, not}
use Rattle.ledger_terms.specs.declared.act.Act.{Act}
use Rattle.canton_model.specs.declared.outcome.Outcome.{Outcome}
use Rattle.canton_model.specs.declared.outcome.Outcome.TheVariants.{Expired}
use Rattle.contract_store.specs.Holds.{released}
use Rattle.contract_store.specs.Written.{holding}
use Rattle.contract_store.specs.declared.hold.Hold.{Hold}
use Rattle.contract_store.proofs.Following.{released_follows}
use Rattle.request_track.specs.CleanLaw.{is_open_at}
use Rattle.request_track.specs.Pairs.{Pair, is_undecided, is_late, settled, expired, first_late}
use Rattle.inbox_registry.specs.Changes.{placed_below}
use Rattle.inbox_registry.specs.Steps.{InStep, Passing}
use Rattle.inbox_registry.proofs.Late.{in_step_settled, open_settled, rest_settled, none_late}
use Rattle.inbox_registry.proofs.PlacedBelow.{placed_kept, placed_without}

-- where a request is settled and released, the holds are those of what is open
pub released_settled : (j : ℕ) (o : Outcome) (ps : List Pair) → is_undecided o ≡ false → InStep ps → (f : ℕ → List Act) (n : ℕ) (old : List Hold)
    → old ≡ holding (placed_below (is_open_at ps) f n) → released j old ≡ holding (placed_below (is_open_at (settled j o ps)) f n)
released_settled j o ps u s f n old e =
    ap (released j) e
    ∙ released_follows (placed_below (is_open_at ps) f n) j
    ∙ ap holding (placed_without j (is_open_at ps) f n)
    ∙ ap holding (placed_kept (λ m. is_open_at ps m && not (nat_eq m j)) (is_open_at (settled j o ps)) f n (λ m. sym (open_settled j o ps u s m)))

pub passing_starts : (time : ℕ) (ps : List Pair) (held : List Hold) → InStep ps → Passing time ps ps held held
passing_starts time ps held s = record { rest = refl; in_step = s; holds = λ f n e. e }

pub passing_on : (time j : ℕ) (start ps ps' : List Pair) (held old new : List Hold) → is_late time ps j ≡ true
    → ps' ≡ settled j Expired ps → new ≡ released j old
    → Passing time start ps held old → Passing time start ps' held new
passing_on time j start ps ps' held old new late e r x =
    rw (e, r) (record {
      rest = rest_settled time j ps late ∙ x.rest;
      in_step = in_step_settled j Expired ps x.in_step;
      holds = λ f n h. released_settled j Expired ps refl x.in_step f n old (x.holds f n h);
    })

pub passing_ends : (time : ℕ) (start ps : List Pair) (held new : List Hold) → first_late time ps ≡ None → Passing time start ps held new → ps ≡ expired time start
passing_ends time start ps held new none x = sym (none_late time ps x.in_step none) ∙ x.rest
