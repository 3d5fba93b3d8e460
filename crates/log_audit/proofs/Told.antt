-- A judgement of what was read is an audit of the bytes, and what is told of a request's form is so.
use Rattle.std.proofs.Common.{◌≡◌, ℕ, List, Option, Some, None, Result, Ok, Err, sym}
use Rattle.std.specs.Prelude.{IfOk, IfSome, is_some}
use Rattle.canton_model.specs.Reading.{Reading}
use Rattle.framed_form.specs.Outlines.{IsOutline}
use Rattle.framed_form.specs.declared.outline.Outline.{Outline}
use Rattle.world_model.specs.Messages.{Entry, Request}
use Rattle.script_read.specs.declared.script.Script.{Script}
use Rattle.log_dump.specs.Dumps.{dump_in}
use Rattle.log_audit.specs.Audits.{IsAudit, audit_of}
use Rattle.log_judge.specs.Judgements.{IsJudgement}
use Rattle.log_judge.specs.declared.judgement.Judgement.{Judgement}
use Rattle.log_judge.specs.declared.judgement.Judgement.TheVariants.{Yes, No}
use Rattle.log_audit.specs.Scripts.{most_of, script_of, standard_of}
use Rattle.log_judge.specs.Framing.{IsFraming}

pub judged : (bytes : List ℕ) (script : Script) (log : List Entry) (j : Judgement) → dump_in script_of most_of bytes ≡ Ok (script, log)
    → IsJudgement (standard_of script) log j → IsAudit script_of most_of standard_of bytes (audit_of j)
judged bytes script log (Yes entries approved) read h = (script, log, read, h.0, h.1, h.2)
judged bytes script log (No place why) read h = (script, log, read, h)

pub framing : {E : Type 0} (reading : Reading) (q : Request) (r : Result (Option Outline) E) → IfOk r (λ o. is_some o ≡ reading.is_framed q)
    → IfOk r (λ o. IfSome o (λ outline. IsOutline q outline)) → IfOk r (IsFraming reading q)
framing reading q (Ok None) f o = sym f
framing reading q (Ok (Some outline)) f o = (sym f, o)
framing reading q (Err e) f o = tt
