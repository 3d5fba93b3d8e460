use Rattle.std.proofs.Common.{◌≡◌, ◌∙◌, sym, ap, false}
use Rattle.ledger_terms.specs.Parties.{same_name}
use Rattle.ledger_terms.specs.declared.field_decl.FieldDecl.{FieldDecl}
use Rattle.lang_eval.proofs.Given.{named_passed, named_in_none, named_without_value}
use Rattle.lang_eval.proofs.bound_fields.value_named.Goals as goal
use Rattle.lang_eval.proofs.bound_fields.value_named.Goals.{then-loop-at-test+else-at-values, else-loop-at-test}

pub loop-at-preserved : goal.loop-at-preserved
loop-at-preserved c =
    let same : c.as_bytes.result.now ≡ c.index-decls-at.result.name = c.as_bytes.ensures.text ∙ ap (λ (d : FieldDecl). d.name) (sym c.index-decls-at.is) in
    let other : same_name c.index-decls-at.result.name c.args.name.now ≡ false = rw same at (sym c.is_same_text.ensures ∙ c.if-is_same_text.false) in
    named_passed _ _ _ _ _ _ _ c.loop-at-test.true c.if-at-values.true c.index-decls-at.is c.index-values-at.is other c.loop-at.invariant

pub returns : goal.returns
returns c = elim c.loop-at-test.branch [
  | then-loop-at-test+else-at-values w ↦ named_without_value _ _ _ _ _ w.if-at-values.false c.loop-at.invariant
  | else-loop-at-test w ↦ named_in_none _ _ _ _ _ w.loop-at-test.false c.loop-at.invariant
]
