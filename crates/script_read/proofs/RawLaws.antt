-- The walk of raw requests keeps their limits, and the participants that they name.
use Rattle.std.proofs.Common.{◌≡◌, ℕ, ◌<◌, ◌≤◌, ◌^◌, List, [], length, Option, Some, None, Ok, ok_or, arith}
use Rattle.std.specs.Prelude.{codes}
use Rattle.std.specs.List.{AllByRecursion}
use Rattle.serde_json.specs.Data.{Data}
use Rattle.serde_json.specs.Find.{as_str, get}
use Rattle.ledger_terms.specs.Answers.{check}
use Rattle.ledger_terms.specs.Pointers.{at_item, at_member}
use Rattle.ledger_terms.specs.declared.host.Host.{Host}
use Rattle.ledger_terms.specs.declared.raw_envelope.RawEnvelope.{RawEnvelope}
use Rattle.ledger_terms.specs.declared.raw_request.RawRequest.{RawRequest}
use Rattle.json_walk.specs.declared.limits.TheConstants.{RAW_BYTES, RAWS}
use Rattle.json_walk.specs.Lists.{list_of}
use Rattle.json_walk.specs.Walk.{Place, within_limit, items_of, two_of, member_of}
use Rattle.json_walk.specs.declared.walk_fault.WalkFault.TheVariants.{Shape}
use Rattle.json_walk.proofs.Kept.{after, given, limit_kept, list_kept, few_kept}
use Rattle.script_read.specs.Kept.{IsRawEnvelope, IsRaw}
use Rattle.script_read.specs.Participants.{participant_of, participant_member, participant_in}
use Rattle.script_read.specs.Raws.{bytes_named, bytes_of, envelope_of, envelopes_in, confirming_in, mediator_in, has_raw_members, raw_of, raws_if}
use Rattle.script_read.proofs.Lists.{all_of}
use Rattle.script_read.proofs.SameHosts.{AreSame}
use Rattle.script_read.proofs.Participating.{participant_within}
use Rattle.script_read.proofs.RuleWalk.{own_command}
use Rattle.script_read.specs.Triggers.{own_command_in}
use Rattle.trigger_rules.specs.declared.rule.Rule.{Rule}

few_bytes : (at : Place) (d : Data) (bytes : List ℕ) → bytes_of at d ≡ Ok bytes → length bytes ≤ 2 ^ 16
unfolding bytes_of
few_bytes at d bytes h =
    let s = after (ok_or (as_str d) (Shape at)) _ bytes h in
    let b = after (ok_or (bytes_named s.0) (Shape at)) _ bytes s.2 in
    let c = after (within_limit at RAW_BYTES (length b.0)) _ bytes b.2 in
    let few = limit_kept at RAW_BYTES (length b.0) c.0 c.1 in
    rw (given b.0 bytes c.2) (omega (arith, few.1))

module _ (read kept : List Host) (same : AreSame read kept) where
  envelope_read : (at : Place) (d : Data) (e : RawEnvelope) → envelope_of read at d ≡ Ok e → IsRawEnvelope kept e
  unfolding envelope_of
  envelope_read at d e h =
      let i = after (items_of at d) _ e h in
      let t = after (two_of at i.0) _ e i.2 in
      let p = after (participant_of read (at_item at 0) t.0.0) _ e t.2 in
      let b = after (bytes_of (at_item at 1) t.0.1) _ e p.2 in
      rw (given (record { to = p.0; bytes = b.0 }) e b.2) (record {
        to = participant_within read kept same (at_item at 0) t.0.0 p.0 p.1;
        few = few_bytes (at_item at 1) t.0.1 b.0 b.1;
      })

  raw_read : (rules : List Rule) (at : Place) (d : Data) (r : RawRequest) → raw_of read rules at d ≡ Ok r → IsRaw kept rules r
  unfolding raw_of participant_in participant_member confirming_in mediator_in envelopes_in
  raw_read rules at d r h =
      let a = after (check (has_raw_members d) (Shape at)) _ r h in
      let p = after (participant_in read at d) _ r a.2 in
      let c = after (own_command_in rules p.0 at d) _ r p.2 in
      let own = own_command rules p.0 at d c.0 c.1 in
      let f = after (confirming_in read at d) _ r c.2 in
      let m = after (mediator_in at d) _ r f.2 in
      let e = after (envelopes_in read at d) _ r m.2 in
      let p_at = after (member_of at (codes "participant") d) _ p.0 p.1 in
      let f_at = after (member_of at (codes "confirming") d) _ f.0 f.1 in
      let m_at = after (member_of at (codes "mediator") d) _ m.0 m.1 in
      let e_at = after (member_of at (codes "envelopes") d) _ e.0 e.1 in
      rw (given (record { participant = p.0; command = c.0; confirming = f.0; mediator = m.0; envelopes = e.0 }) r e.2) (record {
        participant = participant_within read kept same (at_member at (codes "participant")) p_at.0 p.0 p_at.2;
        command = own.0;
        own = own.1;
        confirming = all_of (λ p. p < length kept) f.0 (list_kept (participant_of read) (λ p. p < length kept) (participant_within read kept same) (at_member at (codes "confirming")) f_at.0 f.0 f_at.2);
        mediator = few_bytes (at_member at (codes "mediator")) m_at.0 m.0 m_at.2;
        envelopes = all_of (IsRawEnvelope kept) e.0 (list_kept (envelope_of read) (IsRawEnvelope kept) envelope_read (at_member at (codes "envelopes")) e_at.0 e.0 e_at.2);
      })

  -- the raw requests of a round
  pub record AreHandedIn (rules : List Rule) (raws : List RawRequest) : Type 0 where
    pub few : length raws ≤ 64
    pub each : AllByRecursion (IsRaw kept rules) raws

  pub raws_read : (rules : List Rule) (at : Place) (o : Option Data) (raws : List RawRequest) → raws_if read rules at o ≡ Ok raws → AreHandedIn rules raws
  raws_read rules at None raws h = rw (given [] raws h) (record { few = omega arith; each = tt })
  raws_read rules at (Some d) raws h =
      let few = few_kept (raw_of read rules) (IsRaw kept rules) (raw_read rules) at RAWS d raws h in
      record { few = omega (arith, few.1); each = few.2 }
