-- Where one of the lists ends.
use Rattle.std.proofs.Common.{◌≡◌, ℕ, ◌≤◌, List, [], ◌∷◌, length, drop, Ok, refl, sym, ◌∙◌}
use Rattle.std.proofs.Math.ListN.{drop_of_length-le}
use Rattle.ledger_terms.specs.declared.kind.Kind.{Kind}
use Rattle.ledger_terms.specs.declared.field_decl.FieldDecl.{FieldDecl}
use Rattle.lang_check.specs.Faults.{Place}
use Rattle.lang_check.specs.Statements.{fit_from}
use Rattle.lang_check.proofs.statements.fit.Goals as goal
use Rattle.lang_check.proofs.statements.fit.Goals.{then-kinds-test+else-i-decls, else-kinds-test}

no_kinds : (at : Place) (i : ℕ) (ks : List Kind) (ds : List FieldDecl) → length ks ≤ i → fit_from at i (drop i ks) (drop i ds) ≡ Ok tt
no_kinds at i ks ds h = rw (drop_of_length-le ks h) (ended (drop i ds)) where
  ended : (ds : List FieldDecl) → fit_from at i [] ds ≡ Ok tt
  ended [] = refl
  ended (d ∷ ds) = refl

no_decls : (at : Place) (i : ℕ) (ks : List Kind) (ds : List FieldDecl) → length ds ≤ i → fit_from at i (drop i ks) (drop i ds) ≡ Ok tt
no_decls at i ks ds h = rw (drop_of_length-le ds h) (ended (drop i ks)) where
  ended : (ks : List Kind) → fit_from at i ks [] ≡ Ok tt
  ended [] = refl
  ended (k ∷ ks) = refl

pub returns : goal.returns
returns c =
    elim c.kinds-test.branch [
      | then-kinds-test+else-i-decls w ↦ sym c.kinds.invariant ∙ no_decls _ _ _ _ w.if-i-decls.false
      | else-kinds-test w ↦ sym c.kinds.invariant ∙ no_kinds _ _ _ _ w.kinds-test.false
    ]
