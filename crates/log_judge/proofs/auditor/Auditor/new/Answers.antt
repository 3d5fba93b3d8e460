use Rattle.std.proofs.Common.{List, [], sym, refl, ap, subst, ◌∙◌}
use Rattle.world_model.specs.Mediator.{new_mediator}
use Rattle.audit_model.specs.Standard.{Rule}
use Rattle.log_judge.specs.Known.{standard_for}
use Rattle.log_judge.specs.ReadEntries.{ReadEntries}
use Rattle.log_judge.specs.RuleUses.{AreUsed, rules_of}
use Rattle.log_judge.proofs.Uses.{unused_are, unused_rules}
use Rattle.log_judge.proofs.auditor.Auditor.new.Goals as goal

pub returns-clause-standard : goal.returns-clause-standard
returns-clause-standard g c =
    ap (λ (rules : List Rule). standard_for (g.P.Participants.reading c.args.participants) (g.P.Participants.params c.args.participants) rules)
    (ap rules_of c.in_ok-rules.ensures ∙ unused_rules c.args.rules.now)

pub returns-clause-known : goal.returns-clause-known
returns-clause-known g c =
    record {
      same = sym c.requires.params;
      list = ap (λ (r : ReadEntries). r.list) c.new-3.ensures;
      participants = c.requires.read;
      knows =
          record {
            params = c.new-2.ensures.params ∙ sym c.requires.params;
            state = new_mediator;
            keeps = c.new-2.ensures.state;
            has = record { cursor = refl; cases = refl; given = λ k has. cc };
          };
      used =
          subst (AreUsed (g.P.Participants.reading c.args.participants) []) (sym c.in_ok-rules.ensures)
          (unused_are (g.P.Participants.reading c.args.participants) c.args.rules.now);
    }
