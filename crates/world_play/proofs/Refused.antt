-- What the sequencer's answers say of a message that isn't appended.
use Rattle.std.proofs.Common.{ℕ, ◌≡◌, ◌≢◌, [], ◌∷◌, ◌++◌, append-nil, Option, Some, refl, sym, ap, ◌∙◌, subst}
use Rattle.std.specs.Prelude.{IfSome}
use Rattle.world_model.specs.Machine.{Machine}
use Rattle.world_model.specs.Messages.{Message}
use Rattle.world_model.specs.Sequencing as s
use Rattle.seq_log.specs.Sequenced.{Sequenced, cause_of}
use Rattle.world_play.specs.Parts.{GoesOn}
use Rattle.seq_log.specs.declared.fault.AppendFault.{AppendFault}
use Rattle.seq_log.specs.declared.fault.AppendFault.TheVariants.{Already, Unframed, LogFull, TooLate, Memory}

-- a refusal that isn't for want of memory has its cause
pub has_cause : (found : Option s.AppendFault) (fault : AppendFault) → fault ≢ Memory → IfSome (cause_of fault) (λ (cause : s.AppendFault). found ≡ Some cause)
    → (cause : s.AppendFault) × (found ≡ Some cause)
has_cause found (Already place) other is = (s.Already place, is)
has_cause found Unframed other is = (s.Unframed, is)
has_cause found (LogFull reserved need) other is = (s.LogFull reserved need, is)
has_cause found (TooLate decision time) other is = (s.TooLate decision time, is)
has_cause found Memory other is = absurd (other refl)

-- the cause of a refusal that is told
pub cause_is : (found : Option s.AppendFault) (fault told : AppendFault) → fault ≡ told → IfSome (cause_of fault) (λ (cause : s.AppendFault). found ≡ Some cause)
    → IfSome (cause_of told) (λ (cause : s.AppendFault). found ≡ Some cause)
cause_is found fault told same is = subst (λ (f : AppendFault). IfSome (cause_of f) (λ (cause : s.AppendFault). found ≡ Some cause)) same is

-- a sequencer that stays as it was goes on
pub goes_nowhere : (before after : Sequenced) → after ≡ before → GoesOn before after
goes_nowhere before after same =
    subst (λ (q : Sequenced). GoesOn before q) (sym same)
    (record { row = refl; capacity = refl; params = refl; framed = λ request. refl; more = []; is_more = sym (append-nil before.list) })

-- a message that is refused changes no log
pub stays : (m : Machine) (now : ℕ) (before after : Sequenced) (message : Message) → after ≡ before
    → (cause : s.AppendFault) × (s.append_fault m before.list message ≡ Some cause) → after.list ≡ s.sequenced m now before.list message
stays m now before after message same found =
    ap (λ (q : Sequenced). q.list) same
    ∙ sym (ap (λ (f : Option s.AppendFault). s.unless_refused f before.list (before.list ++ s.entry_after now before.list message ∷ [])) found.1)
