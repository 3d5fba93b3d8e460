-- The lines of a log's entries.
use Rattle.std.specs.Prelude.{ℕ, ◌+◌, ◌||◌, nat_eq, Bool, if◌then◌else◌, List, [], ◌∷◌, ◌++◌, codes, decimal, slice_get, Option, Some, None}
use Rattle.std.specs.List.{flat_map, list_any}
use Rattle.ledger_terms.specs.Hosting.{keeps_party}
use Rattle.ledger_terms.specs.declared.host.Host.{Host}
use Rattle.canton_model.specs.declared.request.Request.{Request}
use Rattle.canton_model.specs.declared.local_verdict.LocalVerdict.{LocalVerdict}
use Rattle.canton_model.specs.declared.local_verdict.LocalVerdict.TheVariants.{Approve, Reject}
use Rattle.canton_model.specs.declared.view_verdict.ViewVerdict.{ViewVerdict}
use Rattle.canton_model.specs.declared.decision.Decision.{Decision}
use Rattle.canton_model.specs.declared.decision.Decision.TheVariants.{Approved, Rejected, TimedOut}
use Rattle.canton_model.specs.declared.message.Message.{Message}
use Rattle.canton_model.specs.declared.message.Message.TheVariants.{Request as RequestMessage, Response as ResponseMessage, Verdict as VerdictMessage, Tick}
use Rattle.canton_model.specs.declared.entry.Entry.{Entry}
use Rattle.canton_model.specs.ReasonNames.{reason_name}
use Rattle.blind_tree.specs.declared.roles_tree.RolesTree.{RolesTree}
use Rattle.blind_tree.specs.declared.view_roles.ViewRoles.{ViewRoles}
use Rattle.proto_model.specs.RequestedViews.{requested_views}
use Rattle.report_text.specs.Values.{between}

-- the name of a host that was looked up; no text where there is none
abbrev pub host_name : Option Host → List ℕ
host_name None = []
host_name (Some host) = host.name

-- the name of the participant with this index in the topology, whose hosts these are; no text where there is none
abbrev pub host_text : List Host → ℕ → List ℕ
host_text hosts p = host_name (slice_get hosts p)

-- the names of the participants with these indices, each with a space before it
abbrev pub hosts_text : List Host → List ℕ → List ℕ
hosts_text hosts ps = flat_map (λ p. codes " " ++ host_text hosts p) ps

-- the views with their roles that a request's mediator bytes tell; none where the bytes tell nothing (None)
abbrev pub views_in : Option RolesTree → List ViewRoles
views_in None = []
views_in (Some told) = told.views

-- the views of a request, as its mediator's bytes tell of them, with their informees and confirmers
abbrev pub views_told : Request → List ViewRoles
views_told request = views_in (requested_views request)

-- whether the participant of this host sees one of the views: it hosts an informee of the view, to confirm for it or only to observe
abbrev pub sees_one : List ViewRoles → Host → Bool
sees_one views host = list_any (λ (view : ViewRoles). list_any (λ party. keeps_party party host) view.informees) views

-- Whether participant p, whose host this is, is a recipient of a request with these views: it is the sender, or it sees one of the views, whether an
-- envelope is addressed to it or not.
abbrev pub is_recipient : (sender : ℕ) → List ViewRoles → ℕ → Host → Bool
is_recipient sender views p host = nat_eq p sender || sees_one views host

-- the names of the recipients of a request among these hosts, in order, each with a space before it; the first of the hosts is that of participant p
abbrev pub recipients_from : (sender : ℕ) → List ViewRoles → ℕ → List Host → List ℕ
recipients_from sender views p [] = []
recipients_from sender views p (host ∷ hosts) =
    (if is_recipient sender views p host then codes " " ++ host.name else []) ++ recipients_from sender views (p + 1) hosts

-- the names of the request's recipients, in the order of the topology, each with a space before it
abbrev pub recipients_text : Request → List Host → List ℕ
recipients_text request hosts = recipients_from request.sender (views_told request) 0 hosts

-- a path in the report: its indices with a point (byte 46) between them, as 0.1
abbrev pub path_text : List ℕ → List ℕ
path_text path = between 46 decimal path

-- a participant's verdict on one view: `approve`, or the name of its reason
abbrev pub local_verdict_text : LocalVerdict → List ℕ
local_verdict_text Approve = codes "approve"
local_verdict_text (Reject reason action) = reason_name reason

-- a space, a view's path, `=` and the verdict on the view
abbrev pub view_text : ViewVerdict → List ℕ
view_text said = codes " " ++ path_text said.view ++ codes "=" ++ local_verdict_text said.verdict

-- The mediator's decision: of a rejection with the participant, the view and the reason, of a timeout with the participants that haven't responded. The
-- hosts are the topology's, for the names of participants.
abbrev pub decision_text : List Host → Decision → List ℕ
decision_text hosts Approved = codes "approved"
decision_text hosts (Rejected from view reason) =
    codes "rejected " ++ host_text hosts from ++ codes " " ++ path_text view ++ codes " " ++ reason_name reason
decision_text hosts (TimedOut missing) = codes "timeout" ++ hosts_text hosts missing

-- A message of the log: a request with its sender, its command and its recipients, a response with its participant, the place of its request and the
-- verdicts on views, a verdict with the place of its request and the decision, or a Tick. The hosts are the topology's, for the names of participants.
abbrev pub message_text : List Host → Message → List ℕ
message_text hosts (RequestMessage request) =
    codes "request " ++ host_text hosts request.sender ++ codes " " ++ request.command ++ codes " to" ++ recipients_text request hosts
message_text hosts (ResponseMessage response) =
    codes "response " ++ host_text hosts response.from ++ codes " for " ++ decimal response.request ++ flat_map view_text response.verdicts
message_text hosts (VerdictMessage verdict) =
    codes "verdict for " ++ decimal verdict.request ++ codes " " ++ decision_text hosts verdict.decision
message_text hosts Tick = codes "tick"

-- the line of an entry: its place, its time in microseconds and its message
abbrev pub entry_line : List Host → ℕ → Entry → List ℕ
entry_line hosts place entry =
    decimal place ++ codes " " ++ decimal entry.time ++ codes " " ++ message_text hosts entry.message ++ codes "\n"

-- a line for each of the entries; `place` is that of the first of them
abbrev pub entry_lines : List Host → ℕ → List Entry → List ℕ
entry_lines hosts place [] = []
entry_lines hosts place (entry ∷ entries) = entry_line hosts place entry ++ entry_lines hosts (place + 1) entries
