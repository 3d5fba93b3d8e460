-- A party that an accepted script names is hosted, in the words of the sealed form.
use Rattle.std.proofs.Common.{◌≡◌, ℕ, suc, Bool, List, [], ◌∷◌, Option, Some, None, refl, ap, ◌∙◌, inl, inr}
use Rattle.std.specs.Prelude.{◌&&◌, All, is_some, option_map}
use Rattle.std.specs.List.{list_all}
use Rattle.std.proofs.lemmas.Bool.{cases_Bool}
use Rattle.ledger_terms.specs.Hosting.{host_of, lists_party}
use Rattle.ledger_terms.specs.declared.host.Host.{Host}
use Rattle.ledger_terms.specs.declared.submission.Submission.{Submission}
use Rattle.ledger_terms.specs.declared.topology.Topology.{Topology}
use Rattle.ledger_terms.specs.declared.what.What.{What}
use Rattle.ledger_terms.specs.declared.what.What.TheVariants.{Commands, Prepared}
use Rattle.lang_eval.specs.Named.{AreKnown}
use Rattle.lang_read.specs.Parties as read
use Rattle.prepare_request.specs.Within.{parties_in_what}
use Rattle.script_read.specs.Accepted.{IsWhat}
use Rattle.script_read.specs.Kept.{IsAccepted, IsRound, IsSubmission}
use Rattle.script_read.specs.declared.script.Script.{Script}
use Rattle.sealed_form.specs.Within as sealed
use Rattle.world_play.specs.Submitting.{CanSubmit}
use Rattle.world_play.proofs.Plays.{each_of}
use Rattle.layer_cases.specs.Sharings.{NameHosted}

found_later : (o : Option ℕ) → is_some (option_map suc o) ≡ is_some o
found_later None = refl
found_later (Some k) = refl

-- a party that some host lists is one that has a host
listed : (hosts : List Host) (party : List ℕ) → is_some (host_of hosts party) ≡ read.is_hosted hosts party
listed [] party = refl
listed (host ∷ hosts) party =
    elim (cases_Bool (lists_party party host)) [
      | inl here ↦ rw here refl
      | inr later ↦ rw later (found_later (host_of hosts party) ∙ listed hosts party)
    ]

known_alike : (test other : List ℕ → Bool) (parties : List (List ℕ)) → ((party : List ℕ) → other party ≡ test party)
    → list_all other parties ≡ list_all test parties
known_alike test other [] same = refl
known_alike test other (party ∷ parties) same =
    ap (λ (b : Bool). b && list_all other parties) (same party) ∙ ap (λ (b : Bool). test party && b) (known_alike test other parties same)

module _ (topology : Topology) where
  pub hosted : (parties : List (List ℕ)) → AreKnown (read.is_hosted topology.hosts) parties → AreKnown (sealed.is_hosted topology) parties
  hosted parties known = known_alike (read.is_hosted topology.hosts) (sealed.is_hosted topology) parties (listed topology.hosts) ∙ known

  named : (what : What) → IsWhat topology.hosts what → AreKnown (sealed.is_hosted topology) (parties_in_what what)
  named (Commands commands) is = hosted _ is.hosted
  named (Prepared borrowed roots) is = hosted _ (is.1).hosted

-- what is submitted in an accepted script can be submitted
pub can_submit : (script : Script) → IsAccepted script → (what : Submission) → IsSubmission (script.topology).hosts script.triggers what
    → CanSubmit script.topology script.checked what
can_submit script accepted what is =
    record {
      valid = accepted.topology;
      named_by_packages = hosted script.topology _ (accepted.packages).hosted;
      named_by_input = named script.topology what.what is.what;
    }

pub can_submit_each : (script : Script) → IsAccepted script → (submits : List Submission) → All (IsSubmission (script.topology).hosts script.triggers) submits
    → All (CanSubmit script.topology script.checked) submits
can_submit_each script accepted submits each k d there = can_submit script accepted _ (each k d there)

pub names_hosted : (script : Script) → IsAccepted script → NameHosted (record { topology = script.topology; checked = script.checked }) script.rounds
names_hosted script accepted =
    record {
      valid = accepted.topology;
      packages = hosted script.topology _ (accepted.packages).hosted;
      submits = λ j k round what at there.
          let round_is = each_of (IsRound (script.topology).hosts script.triggers) script.rounds j round (accepted.rounds).each at in
          let what_is = each_of (IsSubmission (script.topology).hosts script.triggers) round.submits k what round_is.submits there in
          named script.topology what.what what_is.what;
    }
