-- An audit says yes exactly of a dump of a proper log; and what is written of such a log is judged yes.
use Rattle.std.proofs.Common.{◌≡◌, ℕ, ◌<◌, List, arith, Result, Ok, Err, Option, length, refl, sym, ap, ◌∙◌, subst, inl, inr}
use Rattle.std.specs.Prelude.{All}
use Rattle.std.proofs.lemmas.Bool.{cases_lt}
use Rattle.std.proofs.lemmas.List.{get_or_past}
use Rattle.std.proofs.lemmas.List.Elements.{All-get_or}
use Rattle.world_model.specs.Messages.{Entry}
use Rattle.wire_form.proofs.FormatLaws.{IsBytes, ok_is}
use Rattle.log_dump.specs.Dumps.{dump_in}
use Rattle.log_dump.proofs.DumpLaws.{dump_is_read, read_is_dump}
use Rattle.audit_model.specs.Standard.{Standard}
use Rattle.audit_model.specs.Judged.{IsProper, approved_in}
use Rattle.audit_model.proofs.Judging.{not_both}
use Rattle.log_audit.specs.declared.answer.Audit.{Audit}
use Rattle.log_audit.specs.declared.answer.Audit.TheVariants.{Yes, No, Bad}
use Rattle.log_audit.specs.Audits.{IsAudit, SpellsProperLog, IsYes}

bytes_from_all : (bytes : List ℕ) → All (λ b. b < 256) bytes → IsBytes bytes
bytes_from_all bytes h i =
    elim (cases_lt i (length bytes)) [
      | inl lt ↦ All-get_or (λ b. b < 256) bytes i 0 lt h
      | inr le ↦ rw (get_or_past bytes i 0 le) (omega arith)
    ]

apart : {X : Type 0} (r : Result X ℕ) (x : X) (n : ℕ) → r ≡ Ok x → r ≡ Err n → ⊥
apart r x n ok err = absurd cc

module _ {S : Type 0} (reads : List ℕ → Option S) (most : S → ℕ) (standard : S → Standard) (bytes : List ℕ) where
  pub yes_is_proper : (a : Audit) → All (λ b. b < 256) bytes → IsAudit reads most standard bytes a → IsYes a → SpellsProperLog reads most standard bytes
  yes_is_proper (No place why) fits h y = absurd y
  yes_is_proper (Bad at) fits h y = absurd y
  yes_is_proper (Yes entries approved) fits h y =
      let d = read_is_dump reads most bytes h.0 h.1 (bytes_from_all bytes fits) h.2 in
      record {
        block = d.bytes;
        script = h.0;
        log = h.1;
        spelled = d.spelled;
        is_script = d.is_script;
        is_block = d.block;
        in_range = d.entries;
        proper = h.3;
      }

  dumped : (p : SpellsProperLog reads most standard bytes) → dump_in reads most bytes ≡ Ok (p.script, p.log)
  dumped p = ap (dump_in reads most) p.spelled ∙ dump_is_read reads most p.block p.script p.log p.is_block p.is_script p.in_range

  -- what is written of a proper log is judged yes
  pub is_judged_yes : (p : SpellsProperLog reads most standard bytes) → IsAudit reads most standard bytes (Yes (length p.log) (approved_in p.log))
  is_judged_yes p = (p.script, p.log, dumped p, p.proper, refl, refl)

  pub proper_is_yes : (a : Audit) → SpellsProperLog reads most standard bytes → IsAudit reads most standard bytes a → IsYes a
  proper_is_yes (Yes entries approved) p h = tt
  proper_is_yes (No place why) p h =
      let same : (p.script, p.log) ≡ (h.0, h.1) = ok_is (p.script, p.log) (h.0, h.1) (sym (dumped p) ∙ h.2) in
      let proper : IsProper (standard h.0) h.1 = subst (λ (x : S × List Entry). IsProper (standard x.0) x.1) same p.proper in
      not_both (standard h.0) h.1 place why h.3 proper
  proper_is_yes (Bad at) p h = apart (dump_in reads most bytes) (p.script, p.log) h.0 (dumped p) h.1
