-- What is hashed of a log of framed requests, and when two strings of it collide.
use Rattle.std.specs.Prelude.{◌≡◌, ℕ, List, [], ◌∷◌, ◌++◌, map, flat_map, Option, Some, None}
use Rattle.sha2.specs.Sha256.{sha256}
use Rattle.hash_id.specs.Strings.{contract_id_string}
use Rattle.wire_form.specs.Spelling.{spell_instance}
use Rattle.ledger_terms.specs.declared.act.Act.{Act}
use Rattle.ledger_terms.specs.declared.topology.Topology.{Topology}
use Rattle.ledger_model.specs.Terms.{instance_of}
use Rattle.ledger_model.specs.Forest.{acts}
use Rattle.canton_model.specs.Log.{request_at}
use Rattle.canton_model.specs.declared.entry.Entry.{Entry}
use Rattle.canton_model.specs.declared.envelope.Envelope.{Envelope}
use Rattle.canton_model.specs.declared.request.Request.{Request}
use Rattle.canton_model.specs.declared.message.Message.{Message}
use Rattle.canton_model.specs.declared.message.Message.TheVariants.{Request as RequestMessage, Response as ResponseMessage, Verdict as VerdictMessage, Tick}
use Rattle.interpret.specs.Ids.{salt_of}
use Rattle.view_split.specs.Placed.{placed_forest}
use Rattle.view_split.specs.SeenViews.{put_back}
use Rattle.view_split.specs.declared.opened_tree.OpenedTree.{OpenedTree}
use Rattle.blind_tree.specs.Agreement.{Clash}
use Rattle.blind_tree.specs.TreeHashes.{tree_strings}
use Rattle.framed_form.specs.Agreeing.{request_trees}
use Rattle.framed_form.specs.Framed.{IsFramed}
use Rattle.framed_form.specs.FramedForm.{complete_in, offered_by}

-- the string whose hash is the id of the action's contract
abbrev pub id_string : Act → List ℕ
id_string act = contract_id_string (salt_of act) (spell_instance (instance_of act.action))

-- the actions of an opened tree, none where there is no tree
abbrev pub acts_opened : Option OpenedTree → List Act
acts_opened None = []
acts_opened (Some opened) = acts (put_back (placed_forest opened.views))

-- the actions, in order, that those of these envelopes of the request open which are complete
abbrev pub acts_in : Topology → Request → List Envelope → List Act
acts_in topology request [] = []
acts_in topology request (envelope ∷ envelopes) =
    acts_opened (complete_in (offered_by topology envelope.to request envelope.bytes)) ++ acts_in topology request envelopes

-- What is hashed of a request: for the id of every action that a complete envelope opens, and for the leaves, views and roots of its trees.
abbrev pub request_strings : Topology → Request → List (List ℕ)
request_strings topology request =
    map id_string (acts_in topology request request.envelopes) ++ flat_map (tree_strings sha256) (request_trees request)

-- what is hashed of a message: nothing, unless it is a request
abbrev pub message_strings : Topology → Message → List (List ℕ)
message_strings topology (RequestMessage request) = request_strings topology request
message_strings topology (ResponseMessage response) = []
message_strings topology (VerdictMessage verdict) = []
message_strings topology Tick = []

-- all strings that are hashed of a log
abbrev pub hashed : Topology → List Entry → List (List ℕ)
hashed topology log = flat_map (λ (entry : Entry). message_strings topology entry.message) log

-- The log collides: two different strings that are hashed of it have one hash.
abbrev pub Collides : Topology → List Entry → Type 0
Collides topology log = Clash sha256 (hashed topology log) (hashed topology log)

-- each request of the log is framed
abbrev pub AreFramed : Topology → List Entry → Type 0
AreFramed topology log = (k : ℕ) (request : Request) → request_at log k ≡ Some request → IsFramed topology request
