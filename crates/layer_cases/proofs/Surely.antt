-- Nothing but want of memory stops a run over a source that never fails and a sink that has room for the text.
use Rattle.std.proofs.Common.{◌≡◌, ◌≢◌, ◌↔◌, ◌⊎◌, ℕ, ◌≤◌, ◌<◌, Bool, true, false, List, length, Option, Some, None, Result, Ok, inl, inr, refl, sym, ap, subst, ◌∙◌, arith}
use Rattle.std.specs.Prelude.{IsErr, option_map}
use Rattle.std.proofs.lemmas.Bool.{cases_Bool}
use Rattle.std.proofs.lemmas.List.{length-append}
use Rattle.cli_words.specs.Jobs.{job_of}
use Rattle.cli_words.specs.declared.job.Job.{Job}
use Rattle.cli_words.specs.declared.job.Job.TheVariants.{Audit, Commitments, Dump, Gen, Run}
use Rattle.cn_io.specs.Faults.{Rose}
use Rattle.script_read.specs.Script.{script_in}
use Rattle.script_read.specs.declared.script.Script.{Script}
use Rattle.script_read.specs.declared.script_fault.ScriptFault.{ScriptFault}
use Rattle.trigger_rules.specs.Answers.{Answers}
use Rattle.canton_run.specs.Ends.{AsksForScript, HasInput, IsReadWhole, IsStatus, KeepsFault, OffersScript, Ran, TakesUpTo, most_asked}
use Rattle.canton_run.specs.Jobs.{most_bytes, needs_script, needs_source}
use Rattle.canton_run.specs.declared.finish.Finish.{Finish}
use Rattle.layer_cases.specs.Surely.{IsReady}

same_truth : (test : Bool) → Some test ≡ Some true → test ≡ true
same_truth test is = cc

same_bytes : (bytes other : List ℕ) → Some bytes ≡ Some other → bytes ≡ other
same_bytes bytes other is = cc

some_is_none : (job : Job) → Some job ≡ None → ⊥
some_is_none job is = cc

false_is_true : (test : Bool) → test ≡ false → test ≡ true → ⊥
false_is_true test unmet met = cc

ok_is_err : (r : Result Script ScriptFault) (script : Script) → r ≡ Ok script → IsErr r → ⊥
ok_is_err r script is err = cc

within : (source bytes : List ℕ) (most : ℕ) → Some source ≡ Some bytes → length bytes ≤ most → length source ≤ most
within source bytes most same few = subst (λ (xs : List ℕ). length xs ≤ most) (sym (same_bytes source bytes same)) few

-- a job that takes a script has one
offers_script : (job : Job) (left : Option (List ℕ)) → needs_script job ≡ true → HasInput job left → OffersScript left
offers_script (Run workers log) left needs input = input
offers_script (Gen count seed workers) left needs input = absurd (false_is_true false refl needs)
offers_script (Commitments workers log) left needs input = input
offers_script (Dump workers log) left needs input = input
offers_script Audit left needs input = absurd (false_is_true false refl needs)

-- what a job reads isn't too long
few_bytes : (job : Job) (source : List ℕ) → needs_source job ≡ true → HasInput job (Some source) → length source ≤ most_bytes job
few_bytes (Run workers log) source needs input = within source input.0 (most_bytes (Run workers log)) input.2 input.3
few_bytes (Gen count seed workers) source needs input = absurd (false_is_true false refl needs)
few_bytes (Commitments workers log) source needs input = within source input.0 (most_bytes (Commitments workers log)) input.2 input.3
few_bytes (Dump workers log) source needs input = within source input.0 (most_bytes (Dump workers log)) input.2 input.3
few_bytes Audit source needs input = within source input.0 (most_bytes Audit) input.1 input.2

module _ (may : Answers) (words : List (List ℕ)) (source left : List ℕ) (room : ℕ) (finish : Finish) (ready : IsReady may words source room) where
  -- what is asked of the words is asked of their job
  asked : (test : Job → Bool) → option_map test (job_of words) ≡ Some true → test ready.job ≡ true
  asked test asks = same_truth (test ready.job) (ap (option_map test) (sym ready.asked) ∙ asks)

  no_fault : AsksForScript words → IsErr (script_in source) → ⊥
  no_fault asks err =
      let o = offers_script ready.job (Some source) (asked needs_script asks) ready.input in
      ok_is_err (script_in source) o.1 (ap script_in (same_bytes source o.0 o.2) ∙ o.4) err

  -- the source isn't too long
  no_more : TakesUpTo words (Some source) (Some left) finish → finish.status ≡ 6 → ⊥
  no_more taken six =
      let more : most_asked (job_of words) < length taken.0 = (taken.1.2).0 six in
      elim (cases_Bool (needs_source ready.job)) [
        | inl needed ↦
            let same : most_asked (job_of words) ≡ most_bytes ready.job = ap most_asked ready.asked in
            let all = ap length taken.1.0 ∙ length-append taken.0 left in
            let few = few_bytes ready.job source needed ready.input in omega (arith, more, same, all, few)
        | inr unneeded ↦
            let none = ap length (taken.2 (λ asks. false_is_true (needs_source ready.job) unneeded (asked needs_source asks))) in
            omega (arith, more, none)
      ]

  pub surely : IsStatus finish.status → (finish.status ≢ 70 → (finish.status ≡ 2 ↔ job_of words ≡ None))
      → (finish.status ≡ 3 → KeepsFault words (Some source) (Some left) finish) → (finish.status ≡ 4 → Rose 0 0)
      → TakesUpTo words (Some source) (Some left) finish
      → (finish.status ≡ 5 → (text : List ℕ) × Ran may words (Some source) (Some left) finish text × (room < length text))
      → (AsksForScript words → IsReadWhole finish.status → (finish.status ≡ 3 ↔ IsErr (script_in source)))
      → (finish.status ≡ 0) ⊎ (finish.status ≡ 70)
  surely status usage script read taken cut faulty =
      elim status [
        | inl zero ↦ inl zero
        | inr (inl two) ↦ absurd (some_is_none ready.job (sym ready.asked ∙ (usage (omega (arith, two))).0 two))
        | inr (inr (inl three)) ↦
            let kept = script three in
            absurd (no_fault kept.0 ((faulty kept.0 (omega (arith, three), omega (arith, three), omega (arith, three))).0 three))
        | inr (inr (inr (inl four))) ↦ let rose = read four in absurd (omega (arith, rose))
        | inr (inr (inr (inr (inl five)))) ↦
            let c = cut five in let fits = ready.fits (Some left) finish c.0 c.1 in let past = c.2 in absurd (omega (arith, fits, past))
        | inr (inr (inr (inr (inr (inl six))))) ↦ absurd (no_more taken six)
        | inr (inr (inr (inr (inr (inr seventy))))) ↦ inr seventy
      ]
