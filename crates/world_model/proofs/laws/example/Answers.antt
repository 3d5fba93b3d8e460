use Rattle.std.proofs.Common.{◌≡◌, ℕ, zero, suc, ◌<◌, false, List, [], ◌∷◌, take, Some, None, refl, sym, ap, subst, inl, inr, arith}
use Rattle.std.proofs.Common.{nat_eq, slice_get}
use Rattle.std.specs.Prelude.{Contains}
use Rattle.std.proofs.lemmas.Bool.{cases_Bool, eqb-true}
use Rattle.std.proofs.lemmas.Option.{same_Some, none-some}
use Rattle.world_model.specs.Messages.{Entry, Request, ViewVerdict}
use Rattle.canton_model.specs.Inbox.{inbox}
use Rattle.canton_model.specs.Checks.{verdicts_owed}
use Rattle.canton_model.specs.Example as model
use Rattle.canton_model.proofs.ExampleReading.{example_is_reading}
use Rattle.ledger_model.proofs.Lists.{in_from_Contains}
use Rattle.world_model.specs.Machine.{IsRequestFor}
use Rattle.world_model.specs.Rounds.{is_tick}
use Rattle.world_model.proofs.laws.example.Goals as goal

-- the request of the example, with any command
abbrev wanted : List ℕ → Request
wanted command = record { sender = 0; command = command; confirming = 0 ∷ []; mediator = []; envelopes = [] }

pub returns-clause-machine : goal.returns-clause-machine
returns-clause-machine c =
    record {
      is_reading = example_is_reading;
      prepares = λ what log now r genuine e. elim (cases_Bool (nat_eq what.participant 0)) [
        | inl b ↦
            let same : wanted what.command ≡ r = same_Some _ r (rw b at e) in
            subst (IsRequestFor model.reading what) same
            (record { is_framed = refl; sender = sym (eqb-true what.participant 0 b); command = refl })
        | inr b ↦ let no : None ≡ Some r = rw b at e in absurd (none-some r no)
      ];
    }

quiet : (i : ℕ) (e : Entry) → 0 < i → slice_get model.log i ≡ Some e → is_tick e.message ≡ false
quiet zero e lt h = absurd (omega arith)
quiet (suc zero) e lt h = subst (λ (x : Entry). is_tick x.message ≡ false) (same_Some _ e h) refl
quiet (suc (suc zero)) e lt h = subst (λ (x : Entry). is_tick x.message ≡ false) (same_Some _ e h) refl
quiet (suc (suc (suc i))) e lt h = absurd (none-some e h)

abbrev owed : ℕ → List ViewVerdict
owed p = verdicts_owed model.reading model.params p (inbox model.reading p (take 1 model.log)) 0

pub returns-clause-unhindered : goal.returns-clause-unhindered
returns-clause-unhindered c =
    record {
      approval = record {
        request = model.request;
        there = refl;
        present =
            λ p h. elim
            (in_from_Contains (0 ∷ []) p h) [ inl same ↦ subst (λ (n : ℕ). (n < 1) × (false ≡ false)) same (omega arith, refl) | inr none ↦ absurd none ];
        approves = λ p v h l. elim (in_from_Contains (0 ∷ []) p h) [
          | inl same ↦
              let mine : Contains (owed 0) v = subst (λ (n : ℕ). Contains (owed n) v) (sym same) l in
              elim (in_from_Contains (owed 0) v mine) [ inl is ↦ ap (λ (w : ViewVerdict). w.verdict) (sym is) | inr none ↦ absurd none ]
          | inr none ↦ absurd none
        ];
      };
      no_tick = quiet;
      short = omega arith;
    }
