-- What a participant knows that has forgotten nothing, and one that is pruned to its base.
use Rattle.std.proofs.Common.{◌≡◌, List, ap, refl, sym}
use Rattle.canton_model.specs.Inbox.{Item}
use Rattle.pruned_inbox.specs.Start.{Start}
use Rattle.node_core.specs.Participant.{HasForgottenNothing, IsPrunedTo, Participant, items_of, params_of, reading_of}
use Rattle.node_core.proofs.Pruned.{pruned_alike}
use Rattle.commitment_text.specs.Knowledge.{KnowsAlike, knowledge_kept, knowledge_of, knowledge_over}

pub knows_whole : (p : Participant) → HasForgottenNothing p → knowledge_of p ≡ knowledge_over (reading_of p) (params_of p) p.me p.base (items_of p)
knows_whole p forgot = ap (λ (start : Start). knowledge_kept (reading_of p) (params_of p) p.me p.base start (items_of p)) forgot.2

pub knows_pruned : (whole : List Item) (p : Participant) → IsPrunedTo whole p
    → KnowsAlike (knowledge_of p) (knowledge_over (reading_of p) (params_of p) p.me p.base whole)
knows_pruned whole p is =
    let alike = pruned_alike whole p is in
    record { base = refl; clean = alike.clean_place; active = λ place from. sym (alike.active place from) }
