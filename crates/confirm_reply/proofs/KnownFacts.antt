-- Facts of what is known.
use Rattle.std.proofs.Common.{◌≡◌, ℕ, Bool, true, List, ap, ◌∙◌}
use Rattle.std.specs.Prelude.{All, Contains, IsSome}
use Rattle.std.specs.Str.{bytes_eq}
use Rattle.std.proofs.lemmas.List.Elements.{All-contains}
use Rattle.std.proofs.lemmas.Slice.Eq.{bytes_eq-Decides}
use Rattle.ledger_terms.specs.declared.act.Act.{Act}
use Rattle.ledger_model.specs.declared.status.Status.{Status}
use Rattle.ledger_model.specs.Terms.{Hash, ParticipantId, id_of}
use Rattle.ledger_model.proofs.Lists.{contains_from_In}
use Rattle.canton_model.specs.Inbox.{has_hosted_stakeholder}
use Rattle.canton_model.specs.Reading.{Reading}
use Rattle.confirm_reply.specs.Facts.{AreKnown, IsFactOf, fact_on, is_known_locked, known_status, lock_of, status_of}
use Rattle.confirm_reply.specs.declared.id_facts.IdFacts.{IdFacts}
use Rattle.confirm_reply.proofs.Checked.{found_in, some_of}

module _ (reading : Reading) (p : ParticipantId) (known : Hash → Status) (held : Hash → Bool) (facts : List IdFacts) (all : All (IsFactOf known held) facts) where
  abbrev Agrees : Hash → Type 0
  Agrees c = (known_status facts c ≡ known c) × (is_known_locked facts c ≡ held c)

  agree : (c : Hash) → IsSome (fact_on facts c) → Agrees c
  agree c some =
      let f = some_of (fact_on facts c) some in
      let i = found_in (λ (fact : IdFacts). bytes_eq fact.id c) facts f.0 f.1 in
      let is : IsFactOf known held f.0 = All-contains (IsFactOf known held) facts f.0 all (contains_from_In facts f.0 i.1) in
      let same : (f.0).id ≡ c = (bytes_eq-Decides (f.0).id c).0 i.0 in (
        ap status_of f.1 ∙ (is.status ∙ ap (known) same),
        ap lock_of f.1 ∙ (is.locked ∙ ap (held) same),
      )

  pub are_known : (core : List (ℕ × Act)) → ((a : ℕ × Act) → Contains core a → (reading.language).has_roles (a.1).action ≡ true → has_hosted_stakeholder reading p a.1 ≡ true
      → IsSome (fact_on facts (id_of (a.1).action)))
      → AreKnown reading p known held facts core
  are_known core there =
      record {
        status = λ a i r h. (agree (id_of (a.1).action) (there a i r h)).0;
        locked = λ a i r h. (agree (id_of (a.1).action) (there a i r h)).1;
      }
