-- What a participant owes to a request, from its inbox over the whole log.
use Rattle.std.proofs.Common.{◌≡◌, ℕ, suc, false, List, [], ◌∷◌, map, take, Option, Some, None, refl, sym, ap, ◌∙◌}
use Rattle.ledger_model.specs.Terms.{ParticipantId, Path}
use Rattle.canton_model.specs.Log.{Params}
use Rattle.world_model.specs.Messages.{Entry}
use Rattle.canton_model.specs.Reading.{Reading, is_some_path}
use Rattle.canton_model.specs.Inbox.{Item, Notice, inbox, notice_at}
use Rattle.canton_model.specs.Checks.{verdicts_owed, verdicts_on, verdict_on_offer}
use Rattle.world_model.specs.Machine.{confirms_some_view}
use Rattle.world_model.specs.Node.{owes_at}
use Rattle.canton_model.proofs.InboxOutcomes.{owed_front}
use Rattle.world_model.proofs.NodeFacts.{owed_is}
use Rattle.audit_model.proofs.Deciding.{true_false}

no_path : (paths : List Path) → is_some_path paths ≡ false → paths ≡ []
no_path [] h = refl
no_path (path ∷ paths) h = absurd (true_false refl h)

none_on : (reading : Reading) (params : Params) (p : ParticipantId) (items : List Item) (k : ℕ) (o : Option Notice)
    → confirms_some_view o ≡ false → verdicts_on reading params p items k o ≡ []
none_on reading params p items k None h = refl
none_on reading params p items k (Some notice) h =
    ap (map (λ (path : Path). record { view = path; verdict = verdict_on_offer reading params p items k notice.sender path notice.offer }))
    (no_path notice.confirmed h)

-- who owes nothing there owes the empty list
pub nothing_owed : (reading : Reading) (params : Params) (p : ParticipantId) (log : List Entry) (k : ℕ)
    → owes_at reading p (inbox reading p log) k ≡ false
    → verdicts_owed reading params p (inbox reading p (take (suc k) log)) k ≡ []
nothing_owed reading params p log k h =
    sym (owed_is reading params p log k)
    ∙ (owed_front (inbox reading p log) k reading params p ∙ none_on reading params p (inbox reading p log) k (notice_at (inbox reading p log) k) h)
