use Rattle.std.proofs.Common.{◌≡◌, List, [], ◌∷◌, ◌++◌, false, refl, sym, subst}
use Rattle.world_model.specs.Messages.{Entry}
use Rattle.audit_model.specs.Cases.{is_repeated}
use Rattle.audit_model.specs.declared.why.Why.TheVariants.{Repeated, Unframed}
use Rattle.audit_model.proofs.Deciding.{false_from}
use Rattle.audit_model.proofs.Judging.{proper_next}
use Rattle.log_judge.specs.Known.{standard_of}
use Rattle.log_judge.proofs.Knowing.{knows_next, on_ok_always, on_ok_map, outlined, same_standard}
use Rattle.log_judge.proofs.auditor.Auditor.read.Goals as goal

pub read-requires-clause-known : goal.read-requires-clause-known
read-requires-clause-known g c =
    let a = c.args.self.now in
    let r = c.requires.known in
    let s = standard_of (g.P.Participants.reading a.participants) (g.P.Participants.params a.participants) a in
    (r.0, (r.1).participants, (proper_next s r.0 c.args.entry r.2 r.3).genuine, r.4)

pub read-requires-clause-outlined : goal.read-requires-clause-outlined
read-requires-clause-outlined g c =
    outlined (g.P.Participants.reading c.args.self.now.participants) c.args.entry.message _ c.requires.framing (c.requires.known.3 Unframed)

pub push-requires : goal.push-requires
push-requires g c =
    let r = c.requires.known in
    subst (λ (l : List Entry). is_repeated l c.args.entry.message ≡ false) (sym (r.1).list) (false_from (is_repeated r.0 c.args.entry.message) (r.3 Repeated))

pub returns-clause-standard : goal.returns-clause-standard
returns-clause-standard g c =
    on_ok_always c.push.result _ (same_standard _ _ _ _ _ _ c.in_ok-read.ensures.same.0 c.in_ok-read.ensures.same.1 (c.in_ok-note_uses.ensures).same)

pub returns-clause-known : goal.returns-clause-known
returns-clause-known g c =
    let a = c.args.self.now in
    let reading = g.P.Participants.reading a.participants in
    let params = g.P.Participants.params a.participants in
    let s = standard_of reading params a in
    let entry = c.args.entry in
    on_ok_map c.push.result (c.push.new.self.list ≡ a.log.list ++ entry ∷ []) _ c.push.ensures.ok
    (λ list log k proper none.
    knows_next reading _ params _ (g.P.Participants.have_read a.participants) _ a _ log entry c.in_ok-read.ensures.same.0 c.in_ok-read.ensures.same.1 k
    (c.in_ok-read.ensures.ok log k.participants (proper_next s log entry proper none).genuine) list c.in_ok-read-2.ensures.params c.in_ok-read-2.ensures.ok
    c.in_ok-note_uses.ensures (none Unframed) refl)
