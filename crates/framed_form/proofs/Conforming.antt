-- The test of conformance decides it.
use Rattle.std.proofs.Common.{refl}
use Rattle.std.specs.Bool.{Decides}
use Rattle.ledger_terms.proofs.Deciding.{both, both_true}
use Rattle.ledger_terms.specs.declared.act.Act.{Act}
use Rattle.ledger_terms.specs.Forest.{Forest, NoRoots, Root}
use Rattle.ledger_model.specs.Conformance.{Conforms}
use Rattle.lang_eval.specs.Found.{Packages}
use Rattle.interpret.specs.Language.{the_language}
use Rattle.interpret.specs.Tries.{is_tree_possible}
use Rattle.interpret.proofs.Tried.{tree_decides}
use Rattle.interpret.specs.Conforming.{conforms}

pub decides : (packages : Packages) (roots : Forest Act) → Decides (conforms packages roots) (Conforms (the_language packages) roots)
decides packages NoRoots = (λ h. tt, λ h. refl)
decides packages (Root act consequences others) = (
  λ h.
      let p = both (is_tree_possible packages act.action consequences) (conforms packages others) h in
      let t = (tree_decides packages act.action consequences act.seed).0 p.0 in
      (t.0, t.1, (decides packages others).0 p.1),
  λ h. both_true _ _ ((tree_decides packages act.action consequences act.seed).1 (h.0, h.1, tt)) ((decides packages others).1 h.2),
)
