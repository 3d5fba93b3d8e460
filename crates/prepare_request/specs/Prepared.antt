-- The request that a submission wants, or why it wants none.
use Rattle.std.specs.Prelude.{ℕ, not, List, [], Option, Some, None, find, slice_get, Result, Ok, Err}
use Rattle.ledger_terms.specs.Answers.{◌>>=◌}
use Rattle.ledger_terms.specs.Forest.{NoRoots, Root}
use Rattle.ledger_terms.specs.Hosting.{confirms_at}
use Rattle.ledger_terms.specs.Trees.{Actions}
use Rattle.ledger_terms.specs.declared.host.Host.{Host}
use Rattle.ledger_terms.specs.declared.known.Known.{Known}
use Rattle.ledger_terms.specs.declared.seed_of.SeedOf.{SeedOf}
use Rattle.ledger_terms.specs.declared.submission.Submission.{Submission}
use Rattle.ledger_terms.specs.declared.topology.Topology.{Topology}
use Rattle.ledger_terms.specs.declared.tx.Tx.{Tx}
use Rattle.ledger_terms.specs.declared.what.What.{What}
use Rattle.ledger_terms.specs.declared.what.What.TheVariants.{Commands, Prepared}
use Rattle.canton_model.specs.declared.request.Request.{Request}
use Rattle.lang_eval.specs.Found.{Packages}
use Rattle.lang_eval.specs.Parts.{PartyNames}
use Rattle.interpret.specs.Filled.{filling}
use Rattle.interpret.specs.Ids.{Hash, root_seed}
use Rattle.interpret.specs.Interpreted.{interp}
use Rattle.interpret.specs.declared.command_fault.CommandFault.{CommandFault}
use Rattle.interpret.specs.declared.command_fault.CommandFault.TheVariants.{Memory as CommandMemory}
use Rattle.view_split.specs.Faults.{views_of_tx}
use Rattle.view_split.specs.declared.split_fault.SplitFault.{SplitFault}
use Rattle.view_split.specs.declared.split_fault.SplitFault.TheVariants.{NoRoles, Memory as SplitMemory}
use Rattle.view_split.specs.declared.views.Views.{Views}
use Rattle.sealed_form.specs.SealedForm.{Whole, request_of}
use Rattle.sealed_form.specs.Submission.{whole_with_seed}
use Rattle.prepare_request.specs.declared.submit_fault.SubmitFault.{SubmitFault}
use Rattle.prepare_request.specs.declared.submit_fault.SubmitFault.TheVariants.{NotHosted, Command, Split, Memory}

-- ---- the transaction

-- the name of a host, and the empty text where there is none
abbrev pub name_of : Option Host → List ℕ
name_of None = []
name_of (Some host) = host.name

-- the name of the participant at an index, and no bytes where there is none
abbrev pub name_at : Topology → ℕ → List ℕ
name_at topology p = name_of (slice_get topology.hosts p)

-- the seed of the command that a prepared tree names, where it names one, else this seed, which is its own
abbrev pub borrowed_or : Option SeedOf → Hash → Hash
borrowed_or None own = own
borrowed_or (Some other) own = root_seed other.participant other.command

-- the transaction's seed: the one that a prepared tree borrows, else the seed of the second argument, which is that of the participant's command
abbrev pub seed_of_what : What → Hash → Hash
seed_of_what (Commands commands) own = own
seed_of_what (Prepared borrowed roots) own = borrowed_or borrowed own

-- The seed of the transaction that a submission of participant `me` asks for: that of the participant's command, or the one that a prepared tree
-- borrows.
abbrev pub seed_for : Topology → (me : ℕ) → Submission → Hash
seed_for topology me what = seed_of_what what.what (root_seed (name_at topology me) what.command)

-- The root actions that commands ask for, or that a prepared tree stands for with its seeds and ids, or the fault with which they stop. The arguments
-- are the packages, the known contracts, the transaction's seed and the requesters.
abbrev pub actions_of : Packages → List Known → Hash → PartyNames → What → Result Actions CommandFault
actions_of packages known seed act_as (Commands commands) = interp packages known seed act_as commands
actions_of packages known seed act_as (Prepared borrowed roots) = filling known seed roots

-- the root actions that a submission of participant `me` asks for over these known contracts, or the fault with which it stops
abbrev pub actions_for : Topology → Packages → (me : ℕ) → List Known → Submission → Result Actions CommandFault
actions_for topology packages me known what = actions_of packages known (seed_for topology me what) what.act_as what.what

-- the submission's own ledger time, and where it has none the time `now` of its round, both in microseconds
abbrev pub time_or : Option ℕ → (now : ℕ) → ℕ
time_or None now = now
time_or (Some time) now = time

-- the transaction of a submission of participant `me` with these root actions; `now` is its ledger time where it states none
abbrev pub tx_for : Topology → (me : ℕ) → Submission → (now : ℕ) → Actions → Tx
tx_for topology me what now roots =
    record { act_as = what.act_as; ledger_time = time_or what.ledger_time now; seed = seed_for topology me what; roots = roots }

-- ---- the request

-- a transaction with the name of participant `me`, who sends it, and the salts of its seed
abbrev pub whole_for : Topology → (me : ℕ) → Tx → Whole
whole_for topology me tx = whole_with_seed (name_at topology me) tx

-- the sealed form of a transaction that has its sender's name and its salts beside it, as a request with this command id
abbrev pub request_with : Topology → Packages → (sender : ℕ) (command : List ℕ) → Whole → Request
request_with topology packages sender command whole =
    request_of topology packages sender whole.sender command whole.salts whole.transaction

-- the request that participant `me` makes of a transaction by the rules, with this command id
abbrev pub request_for : Topology → Packages → (me : ℕ) (command : List ℕ) → Tx → Request
request_for topology packages me command tx = request_with topology packages me command (whole_for topology me tx)

-- ---- its faults

-- the first requester for whom participant `me` doesn't confirm, and None where it confirms for all
abbrev pub first_unconfirmed : Topology → (me : ℕ) → PartyNames → Option (List ℕ)
first_unconfirmed topology me act_as = find (λ party. not (confirms_at topology.hosts me party)) act_as

-- the answer, where there is no requester for whom the participant doesn't confirm; else the fault NotHosted, with that requester
abbrev pub unless_unconfirmed : Option (List ℕ) → Result Request SubmitFault → Result Request SubmitFault
unless_unconfirmed None answer = answer
unless_unconfirmed (Some party) answer = Err (NotHosted party)

-- The transaction of the root actions that the submission of participant `me` asks for, or the fault of its commands or its prepared tree. `now` is its
-- ledger time where it states none.
abbrev pub tx_where_wanted : Topology → (me : ℕ) → Submission → (now : ℕ) → Result Actions CommandFault → Result Tx SubmitFault
tx_where_wanted topology me what now (Ok roots) = Ok (tx_for topology me what now roots)
tx_where_wanted topology me what now (Err fault) = Err (Command fault)

-- The transaction that a submission of participant `me` wants over these known contracts, or the fault with which it stops. `now` is its ledger time
-- where it states none.
abbrev pub wanted_tx : Topology → Packages → (me : ℕ) → List Known → Submission → (now : ℕ) → Result Tx SubmitFault
wanted_tx topology packages me known what now = tx_where_wanted topology me what now (actions_for topology packages me known what)

-- The result of splitting a transaction into views (second argument), where it has a root action. A transaction has at least one view, so one without
-- actions gets the fault NoRoles, with the empty path.
abbrev pub if_some : Actions → Result Views SplitFault → Result Views SplitFault
if_some NoRoots views = Err (NoRoles [])
if_some (Root act below others) views = views

-- the views of a transaction, or the fault of an action without roles, or of no action
abbrev pub views_for : Packages → Tx → Result Views SplitFault
views_for packages tx = if_some tx.roots (views_of_tx packages tx)

-- the request, where its transaction has views; else the fault of the splitting
abbrev pub where_split : Result Views SplitFault → Request → Result Request SubmitFault
where_split (Ok views) request = Ok request
where_split (Err fault) request = Err (Split fault)

-- the request that participant `me` makes of a transaction with this command id, or the fault where it can't be split into views
abbrev pub sealed_if_split : Topology → Packages → (me : ℕ) (command : List ℕ) → Tx → Result Request SubmitFault
sealed_if_split topology packages me command tx = where_split (views_for packages tx) (request_for topology packages me command tx)

-- The request that a submission of participant `me` wants over these known contracts, or the first fault: the requesters are tried first, then the
-- commands or the prepared tree, then whether there is an action and each has roles. `now` is its ledger time where it states none.
abbrev pub prepared : Topology → Packages → (me : ℕ) → List Known → Submission → (now : ℕ) → Result Request SubmitFault
prepared topology packages me known what now =
    unless_unconfirmed (first_unconfirmed topology me what.act_as)
    (wanted_tx topology packages me known what now >>= sealed_if_split topology packages me what.command)

-- ---- faults of the calls below

-- a fault of commands or of a prepared tree as that of the submission, where want of memory is always Memory itself
abbrev pub of_command : CommandFault → SubmitFault
of_command CommandMemory = Memory
of_command fault = Command fault

-- a fault of the splitting into views as that of the submission, where want of memory is always Memory itself
abbrev pub of_split : SplitFault → SubmitFault
of_split (NoRoles path) = Split (NoRoles path)
of_split SplitMemory = Memory
