-- Inboxes as they come of a log.
use Rattle.std.specs.Prelude.{ℕ, suc, ◌<◌, List, [], ◌∷◌, Option, Some, None}
use Rattle.canton_model.specs.declared.verdict.Verdict.{Verdict}
use Rattle.canton_model.specs.Inbox.{Item, verdict_in}

-- each item of the list has a time later than the first argument
abbrev pub AllLater : ℕ → List Item → Type 0
AllLater time [] = Unit {0}
AllLater time (item ∷ items) = (time < item.time) × AllLater time items

-- the items' times rise strictly
abbrev pub Rise : List Item → Type 0
Rise [] = Unit {0}
Rise (item ∷ items) = AllLater item.time items × Rise items

-- the verdict's request stands before place n; nothing is said of None
abbrev pub IsBelow : ℕ → Option Verdict → Type 0
IsBelow n None = Unit {0}
IsBelow n (Some verdict) = verdict.request < n

-- each verdict among these items stands behind its request, where the first of the items stands at place k
abbrev pub VerdictsBehind : ℕ → List Item → Type 0
VerdictsBehind k [] = Unit {0}
VerdictsBehind k (item ∷ items) = IsBelow k (verdict_in item.content) × VerdictsBehind (suc k) items

-- An inbox is in order, as every inbox of a genuine log is: times rise, and every verdict stands behind its request.
pub record IsInOrder (items : List Item) : Type 0 where
  pub rise : Rise items
  pub behind : VerdictsBehind 0 items
