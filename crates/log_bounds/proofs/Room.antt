-- A framed request has room for its spelling, and so has what is owed to it.
use Rattle.std.proofs.Common.{ℕ, ◌<◌, ◌≤◌, ◌^◌, List, length, lit<, arith}
use Rattle.std.proofs.lemmas.List.Elements.{All-contains}
use Rattle.ledger_terms.specs.declared.topology.Topology.{Topology}
use Rattle.lang_eval.specs.Found.{Packages}
use Rattle.ledger_model.proofs.Lists.{contains_from_In}
use Rattle.canton_model.specs.Genuine.{Genuine}
use Rattle.canton_model.specs.Reading.{paths_confirmed}
use Rattle.world_model.specs.Messages.{Entry, Request}
use Rattle.framed_form.specs.Framed.{IsFramed}
use Rattle.framed_form.specs.FramedReading.{framed_reading}
use Rattle.framed_form.proofs.Lawful.{are_framed, lawful}
use Rattle.message_bytes.specs.Spellable.{IsSpellablePath}
use Rattle.log_bounds.proofs.Requests.{all_in, confirmed_fit, few_asked, few_envelopes}
use Rattle.log_dump.specs.Room.{HasRoom}
use Rattle.log_dump.specs.Spellable.{IsSpellableEnvelope, IsSpellableLog, IsSpellableRequest}
use Rattle.log_dump.proofs.RoomLaws.{spellable_genuine}

pub short : (n : ℕ) → n ≤ 4194304 → n < 2 ^ 32
short n le = let most : 4194304 < 2 ^ 32 = lit< tt in omega (arith, le, most)

spellable : (topology : Topology) (request : Request) → length topology.hosts ≤ 255 → IsFramed topology request → IsSpellableRequest request
spellable topology request few framed =
    let asked = few_asked topology request framed in
    let envelopes = few_envelopes topology request framed in
    record {
      confirming = omega (arith, asked, few);
      mediator = short (length request.mediator) framed.short_mediator;
      envelopes = omega (arith, envelopes, few);
      each = all_in IsSpellableEnvelope request.envelopes
          (λ envelope i. short (length envelope.bytes) (framed.short envelope (contains_from_In request.envelopes envelope i)));
    }

has_room : (topology : Topology) (packages : Packages) (request : Request) → length topology.hosts ≤ 255 → IsFramed topology request
    → HasRoom (framed_reading topology packages) request
has_room topology packages request few framed =
    record {
      spellable = spellable topology request few framed;
      few = λ p. (confirmed_fit topology packages request framed.short_mediator p).few;
      short = λ p path i.
          All-contains IsSpellablePath (paths_confirmed (framed_reading topology packages) p request) path
          (confirmed_fit topology packages request framed.short_mediator p).each i;
    }

pub can_be_dumped : (topology : Topology) (packages : Packages) (log : List Entry) → length topology.hosts ≤ 255
    → Genuine (framed_reading topology packages) topology.params log → length log < 2 ^ 32 → IsSpellableLog log
can_be_dumped topology packages log few genuine counted =
    spellable_genuine (framed_reading topology packages) topology.params log (lawful topology packages) genuine counted
    (λ k request at. has_room topology packages request few (are_framed topology packages log genuine k request at))
