-- What a log of framed requests has where it doesn't collide.
use Rattle.std.proofs.Common.{◌≡◌, ℕ, List, [], Option, Some, None, Contains, refl, sym, subst}
use Rattle.ledger_terms.specs.declared.act.Act.{Act}
use Rattle.ledger_terms.specs.declared.topology.Topology.{Topology}
use Rattle.ledger_model.specs.Forest.{acts}
use Rattle.ledger_model.specs.Opening.{Shown, roots_in}
use Rattle.ledger_model.specs.Terms.{ParticipantId}
use Rattle.ledger_model.proofs.Lists.{In, contains_from_In, in_from_Contains}
use Rattle.canton_model.specs.Genuine.{NoCollision}
use Rattle.canton_model.specs.Ledger.{opened_to}
use Rattle.canton_model.specs.Log.{request_at}
use Rattle.canton_model.specs.Reading.{Reading, shown_to}
use Rattle.canton_model.specs.declared.entry.Entry.{Entry}
use Rattle.canton_model.specs.declared.envelope.Envelope.{Envelope}
use Rattle.canton_model.specs.declared.request.Request.{Request}
use Rattle.lang_eval.specs.Found.{Packages}
use Rattle.interpret.specs.Conforming.{conforms}
use Rattle.interpret.specs.Ids.{is_authentic}
use Rattle.interpret.specs.Language.{the_language}
use Rattle.framed_form.specs.Agreeing.{AreAgreed}
use Rattle.framed_form.specs.Collisions.{AreFramed, Collides}
use Rattle.framed_form.specs.Framed.{AreBytes}
use Rattle.framed_form.specs.FramedReading.{framed_reading}
use Rattle.framed_form.proofs.Agreed.{requests_agree}
use Rattle.framed_form.proofs.FramedSound.{framed_sound, is_opened_as}
use Rattle.framed_form.proofs.OneInstance.{IsOpened, one_instance}
use Rattle.framed_form.proofs.Signatories.{they_have}

module _ (topology : Topology) (packages : Packages) (log : List Entry) (framed : AreFramed topology log) where
  abbrev reading : Reading
  reading = framed_reading topology packages

  sent_bytes : (k : ℕ) (request : Request) → request_at log k ≡ Some request → (e : Envelope) → In e request.envelopes → AreBytes e.bytes
  sent_bytes k request there e inside = (framed k request there).bytes e (contains_from_In request.envelopes e inside)

  -- what the reading shows of a request is what a complete envelope opens
  pub opened_of : (k : ℕ) (request : Request) → request_at log k ≡ Some request → (p : ParticipantId) (a : Act) (o : Option Shown)
      → shown_to reading p request ≡ o → Contains (acts (roots_in o)) a → IsOpened topology log a
  opened_of k request there p a None is h = absurd (in_from_Contains [] a h)
  opened_of k request there p a (Some shown) is h =
      let o = is_opened_as topology (the_language packages) (conforms packages) is_authentic request (framed k request there) p shown is in
      record {
        place = k;
        request = request;
        there = there;
        participant = p;
        opened = o.opened;
        is_opened = o.is_opened;
        in_opened = subst (λ (s : Shown). In a (acts s.roots)) (sym o.same) (in_from_Contains (acts shown.roots) a h);
      }

  opened : (k : ℕ) (p : ParticipantId) (a : Act) (o : Option Request) → request_at log k ≡ o → Contains (acts (opened_to reading p o)) a
      → IsOpened topology log a
  opened k p a None is h = absurd (in_from_Contains [] a h)
  opened k p a (Some request) is h = opened_of k request is p a (shown_to reading p request) refl h

  agreed : (Collides topology log → ⊥) → (k : ℕ) (request : Request) → request_at log k ≡ Some request → AreAgreed request
  agreed apart k request there =
      requests_agree topology log k request apart there (framed k request there).mediator_bytes (framed k request there).bytes

  pub no_collision : (Collides topology log → ⊥) → NoCollision reading log
  no_collision apart =
      record {
        one_instance = λ p k q m a b in_a in_b true_a true_b same.
            one_instance topology log sent_bytes apart a b (opened k p a (request_at log k) refl in_a) (opened m q b (request_at log m) refl in_b)
            true_a true_b same;
        sound = λ k request there passes vouched.
            framed_sound topology (the_language packages) (conforms packages) is_authentic request (framed k request there)
            (agreed apart k request there) vouched (they_have packages);
      }
