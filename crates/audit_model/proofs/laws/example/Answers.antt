use Rattle.std.proofs.Common.{◌≡◌, ℕ, zero, suc, ◌<◌, false, Some, List, [], ◌∷◌, refl, sym, subst, arith, take}
use Rattle.std.specs.Prelude.{slice_get}
use Rattle.std.proofs.lemmas.Option.{same_Some, none-some}
use Rattle.canton_model.specs.Example as model
use Rattle.canton_model.specs.Genuine.{Genuine, FitsIfRequest, FitsIfResponse}
use Rattle.canton_model.specs.Ledger.{FitsIfVerdict}
use Rattle.canton_model.proofs.LongerLogs.{genuine_take}
use Rattle.world_model.specs.Messages.{Entry, Message, RequestMessage, ResponseMessage, VerdictMessage, Tick, Approved, TimedOut}
use Rattle.audit_model.specs.Example
use Rattle.audit_model.specs.Cases.{Shows, ShowsFirst, number_of}
use Rattle.audit_model.specs.Judged.{IsProper}
use Rattle.audit_model.specs.declared.why.Why.{Why}
use Rattle.audit_model.specs.declared.why.Why.TheVariants.{Time, Unframed, Repeated, NoRequest, TooLate, WrongCheck, WrongDecision, WrongTrigger}
use Rattle.audit_model.specs.Rules.{is_wrong_trigger}
use Rattle.audit_model.proofs.Deciding.{true_false}
use Rattle.audit_model.proofs.Judging.{fails_next}
use Rattle.audit_model.proofs.laws.example.Goals as goal

verdict_fits : (k : ℕ) (e : Entry) → slice_get model.log k ≡ Some e → FitsIfVerdict model.params model.log k e.time e.message
verdict_fits zero e h = subst (λ (x : Entry). FitsIfVerdict model.params model.log 0 x.time x.message) (same_Some _ e h) tt
verdict_fits (suc zero) e h = subst (λ (x : Entry). FitsIfVerdict model.params model.log 1 x.time x.message) (same_Some _ e h) tt
verdict_fits (suc (suc zero)) e h =
    subst (λ (x : Entry). FitsIfVerdict model.params model.log 2 x.time x.message) (same_Some _ e h) (record { decided = refl; first = refl; in_time = omega arith })
verdict_fits (suc (suc (suc k))) e h = absurd (none-some e h)

response_fits : (k : ℕ) (e : Entry) → slice_get model.log k ≡ Some e → FitsIfResponse model.reading model.params model.log k e.time e.message
response_fits zero e h = subst (λ (x : Entry). FitsIfResponse model.reading model.params model.log 0 x.time x.message) (same_Some _ e h) tt
response_fits (suc zero) e h =
    subst (λ (x : Entry). FitsIfResponse model.reading model.params model.log 1 x.time x.message) (same_Some _ e h)
    (record { request = model.request; earlier = omega arith; there = refl; confirming = (0, omega arith, refl); first = refl; owed = refl; in_time = omega arith })
response_fits (suc (suc zero)) e h = subst (λ (x : Entry). FitsIfResponse model.reading model.params model.log 2 x.time x.message) (same_Some _ e h) tt
response_fits (suc (suc (suc k))) e h = absurd (none-some e h)

request_fits : (k : ℕ) (e : Entry) → slice_get model.log k ≡ Some e → FitsIfRequest model.reading model.log k e.message
request_fits zero e h = subst (λ (x : Entry). FitsIfRequest model.reading model.log 0 x.message) (same_Some _ e h) (record { is_framed = refl; first = refl })
request_fits (suc zero) e h = subst (λ (x : Entry). FitsIfRequest model.reading model.log 1 x.message) (same_Some _ e h) tt
request_fits (suc (suc zero)) e h = subst (λ (x : Entry). FitsIfRequest model.reading model.log 2 x.message) (same_Some _ e h) tt
request_fits (suc (suc (suc k))) e h = absurd (none-some e h)

genuine : Genuine model.reading model.params model.log
genuine = record { timely = record { times = (refl, (refl, (refl, tt))); verdicts = verdict_fits }; requests = request_fits; responses = response_fits }

caused : (n k : ℕ) (e : Entry) → slice_get (take n model.log) k ≡ Some e → (log : List Entry) → is_wrong_trigger Example.standard log e.message ≡ false
caused n k e at log = no_rules e.message
  where
    no_rules : (m : Message) → is_wrong_trigger Example.standard log m ≡ false
    no_rules (RequestMessage q) = refl
    no_rules (ResponseMessage r) = refl
    no_rules (VerdictMessage v) = refl
    no_rules Tick = refl

proper : IsProper Example.standard model.log
proper = record { genuine = genuine; caused = λ k e at. caused 3 k e at (take k model.log) }

before : IsProper Example.standard (take 2 model.log)
before =
    record {
      genuine = genuine_take model.reading model.params model.log 2 genuine;
      caused = λ k e at. caused 2 k e at (take k (take 2 model.log));
    }

not_decided : Some Approved ≡ Some (TimedOut (0 ∷ [])) → ⊥
not_decided e = let wrong = same_Some Approved (TimedOut (0 ∷ [])) e in absurd cc

none_earlier : (other : Why) → number_of other < 7 → ¬ Shows Example.standard (take 2 model.log) Example.wrong other
none_earlier Time lt h = h refl
none_earlier Unframed lt h = h
none_earlier Repeated lt h = true_false h refl
none_earlier NoRequest lt h = none-some model.request (sym h)
none_earlier TooLate lt h = omega (arith, h)
none_earlier WrongCheck lt h = h
none_earlier WrongDecision lt h = omega (arith, lt)
none_earlier WrongTrigger lt h = omega (arith, lt)

first : ShowsFirst Example.standard (take 2 model.log) Example.wrong WrongDecision
first = record { shows = not_decided; first = none_earlier }

pub returns : goal.returns
returns c = record { proper = proper; approved = refl; changed = fails_next Example.standard (take 2 model.log) [] Example.wrong WrongDecision before first }
