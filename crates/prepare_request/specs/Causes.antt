-- What a prepared request is of, and why a submission is refused.
use Rattle.std.specs.Prelude.{◌≡◌, ◌≢◌, ℕ, true, List, Some, Err, Contains}
use Rattle.ledger_terms.specs.Forest.{NoRoots}
use Rattle.ledger_terms.specs.Hosting.{confirms_at}
use Rattle.ledger_terms.specs.Trees.{Actions}
use Rattle.ledger_terms.specs.declared.act.Act.{Act}
use Rattle.ledger_terms.specs.declared.known.Known.{Known}
use Rattle.ledger_terms.specs.declared.submission.Submission.{Submission}
use Rattle.ledger_terms.specs.declared.topology.Topology.{Topology}
use Rattle.ledger_terms.specs.declared.what.What.{What}
use Rattle.ledger_terms.specs.declared.what.What.TheVariants.{Commands, Prepared}
use Rattle.ledger_model.specs.Forest.{acts}
use Rattle.canton_model.specs.declared.request.Request.{Request}
use Rattle.lang_eval.specs.Found.{Packages}
use Rattle.lang_eval.specs.Language.{has_roles}
use Rattle.lang_eval.specs.Parts.{PartyNames}
use Rattle.interpret.specs.FilledTree.{FillStops, IsFilled}
use Rattle.interpret.specs.Ids.{Hash}
use Rattle.interpret.specs.Plain.{IsPlain}
use Rattle.interpret.specs.Stops.{StopsWith}
use Rattle.interpret.specs.Wanted.{IsWanted}
use Rattle.interpret.specs.declared.command_fault.CommandFault.{CommandFault}
use Rattle.view_split.specs.declared.split_fault.SplitFault.{SplitFault}
use Rattle.view_split.specs.declared.split_fault.SplitFault.TheVariants.{NoRoles, Memory as SplitMemory}
use Rattle.prepare_request.specs.Prepared.{first_unconfirmed, request_for, seed_for, tx_for, views_for}
use Rattle.prepare_request.specs.declared.submit_fault.SubmitFault.{SubmitFault}
use Rattle.prepare_request.specs.declared.submit_fault.SubmitFault.TheVariants.{Paused, NotHosted, Command, Split, Duplicate, LogFull, Memory}

-- The root actions are those that a submission's commands or prepared tree ask for, over these packages and known contracts, with the transaction's
-- seed, for these requesters.
abbrev pub AreWantedBy : Packages → List Known → Hash → PartyNames → What → Actions → Type 0
AreWantedBy packages known seed act_as (Commands commands) roots = IsWanted packages known seed act_as commands roots
AreWantedBy packages known seed act_as (Prepared borrowed drafts) roots = IsFilled known seed drafts roots

-- A submission's commands or prepared tree stop with this fault, over these packages and known contracts, with the transaction's seed, for these
-- requesters.
abbrev pub StopsBy : Packages → List Known → Hash → PartyNames → What → CommandFault → Type 0
StopsBy packages known seed act_as (Commands commands) fault = StopsWith packages known seed act_as commands fault
StopsBy packages known seed act_as (Prepared borrowed drafts) fault = FillStops known seed drafts fault

-- the root actions are those that the submission asks for, where participant `me` hands it in and knows these contracts
abbrev pub AreWanted : Topology → Packages → (me : ℕ) → List Known → Submission → Actions → Type 0
AreWanted topology packages me known what roots = AreWantedBy packages known (seed_for topology me what) what.act_as what.what roots

-- participant `me` confirms for each requester of the submission
abbrev pub ConfirmsRequesters : Topology → (me : ℕ) → Submission → Type 0
ConfirmsRequesters topology me what = (party : List ℕ) → Contains what.act_as party → confirms_at topology.hosts me party ≡ true

-- Participant `me` confirms for the submission's requesters, and the request is the sealed form of the transaction that it wants over these known
-- contracts, which has an action, and each action of which has roles. `now` is its ledger time where it states none.
pub record IsRequestOf (topology : Topology) (packages : Packages) (me : ℕ) (known : List Known) (what : Submission) (now : ℕ) (request : Request)
    : Type 0 where
  pub roots : Actions
  pub confirmed : ConfirmsRequesters topology me what
  pub wanted : AreWanted topology packages me known what roots
  pub some_root : roots ≢ NoRoots
  pub has_roles : (a : Act) → Contains (acts roots) a → has_roles packages a.action ≡ true
  pub request_is : request ≡ request_for topology packages me what.command (tx_for topology me what now roots)

-- The transaction that the submission wants can't be split into views: the fault's path is that of the action without roles, or the empty one where no
-- action is wanted. `now` is its ledger time where it states none.
pub record IsUnsplit (topology : Topology) (packages : Packages) (me : ℕ) (known : List Known) (what : Submission) (now : ℕ) (fault : SplitFault)
    : Type 0 where
  pub roots : Actions
  pub wanted : AreWanted topology packages me known what roots
  pub no_roles : views_for packages (tx_for topology me what now roots) ≡ Err fault

-- Why a submission of participant `me`, who knows these contracts, wants no request, by the fault that says so. A pause, a command id that stands in
-- the log and a full log are no matter of what it wants, and want of memory never is. `now` is its ledger time where it states none.
abbrev pub HasCause : Topology → Packages → (me : ℕ) → List Known → Submission → (now : ℕ) → SubmitFault → Type 0
HasCause topology packages me known what now (NotHosted party) = first_unconfirmed topology me what.act_as ≡ Some party
HasCause topology packages me known what now (Command fault) =
    ConfirmsRequesters topology me what × StopsBy packages known (seed_for topology me what) what.act_as what.what fault
HasCause topology packages me known what now (Split fault) = ConfirmsRequesters topology me what × IsUnsplit topology packages me known what now fault
HasCause topology packages me known what now Paused = ⊥
HasCause topology packages me known what now (Duplicate place) = ⊥
HasCause topology packages me known what now (LogFull reserved need) = ⊥
HasCause topology packages me known what now Memory = ⊥

-- Want of memory is the fault Memory, and doesn't stand inside another fault.
abbrev pub HoldsNoMemory : SubmitFault → Type 0
HoldsNoMemory (Command fault) = IsPlain fault
HoldsNoMemory (Split (NoRoles path)) = Unit {0}
HoldsNoMemory (Split SplitMemory) = ⊥
HoldsNoMemory (NotHosted party) = Unit {0}
HoldsNoMemory Paused = Unit {0}
HoldsNoMemory (Duplicate place) = Unit {0}
HoldsNoMemory (LogFull reserved need) = Unit {0}
HoldsNoMemory Memory = Unit {0}
