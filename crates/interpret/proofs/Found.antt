-- What is found is of that id and template, and has its kinds.
use Rattle.std.proofs.Common.{◌≡◌, true, List, [], ◌∷◌, Option, Some, None, refl, sym, ap, subst, ◌∙◌, inl, inr}
use Rattle.std.specs.Prelude.{◌&&◌}
use Rattle.std.proofs.lemmas.Bool.{cases_Bool}
use Rattle.ledger_terms.proofs.Deciding.{both, bytes_decide}
use Rattle.ledger_terms.proofs.SameValues.{template_decides}
use Rattle.ledger_terms.specs.declared.known.Known.{Known}
use Rattle.ledger_terms.specs.declared.template_name.TemplateName.{TemplateName}
use Rattle.ledger_terms.specs.contracts.template_name.TemplateNamePartialEq.TheImpl as template_eq
use Rattle.lang_eval.specs.Found.{Packages}
use Rattle.lang_eval.specs.Kinds.{has_kinds}
use Rattle.interpret.specs.Ids.{Hash}
use Rattle.interpret.specs.Usable.{same_hash, find_known, is_consumed, first_found, of_template, usable}
use Rattle.interpret.specs.declared.progress.Progress.{Progress}

find_id : (id : Hash) (k : Known) (xs : List Known) → find_known id xs ≡ Some k → k.id ≡ id
find_id id k [] h = absurd (let no : None ≡ Some k = h in cc)
find_id id k (x ∷ xs) h =
    elim (cases_Bool (same_hash x.id id)) [
      | inl b ↦ let same : Some x ≡ Some k = rw b at h in let e : x ≡ k = cc in sym (ap (λ (k : Known). k.id) e) ∙ (bytes_decide x.id id).0 b
      | inr b ↦ find_id id k xs (rw b at h)
    ]

pub record IsFound (packages : Packages) (id : Hash) (t : TemplateName) (k : Known) : Type 0 where
  pub id_is : k.id ≡ id
  pub template_is : k.instance.template ≡ t
  pub kinds : has_kinds packages k.instance ≡ true

found_in : (packages : Packages) (id : Hash) (t : TemplateName) (k : Known) (o : Option Known) → ((x : Known) → o ≡ Some x → x.id ≡ id)
    → of_template packages t o ≡ Some k → IsFound packages id t k
found_in packages id t k None f h = absurd (let no : None ≡ Some k = h in cc)
found_in packages id t k (Some x) f h =
    elim (cases_Bool (template_eq.ghosts.eq x.instance.template t && has_kinds packages x.instance)) [
      | inl b ↦
          let same : Some x ≡ Some k = rw b at h in
          let p = both (template_eq.ghosts.eq x.instance.template t) (has_kinds packages x.instance) b in
          let e : x ≡ k = cc in
          subst (λ (k : Known). IsFound packages id t k) e
          (record { id_is = f x refl; template_is = (template_decides x.instance.template t).0 p.0; kinds = p.1 })
      | inr b ↦ let no : None ≡ Some k = rw b at h in absurd cc
    ]

either_found : (packages : Packages) (id : Hash) (t : TemplateName) (k : Known) (o p : Option Known) → (o ≡ Some k → IsFound packages id t k)
    → (p ≡ Some k → IsFound packages id t k) → first_found o p ≡ Some k → IsFound packages id t k
either_found packages id t k None p f g h = g h
either_found packages id t k (Some x) p f g h = f h

pub found_facts : (packages : Packages) (known : List Known) (p : Progress) (id : Hash) (t : TemplateName) (k : Known)
    → usable packages known p id t ≡ Some k → IsFound packages id t k
unfolding usable
found_facts packages known p id t k h =
    elim (cases_Bool (is_consumed id p.consumed)) [
      | inl b ↦ let no : None ≡ Some k = rw b at h in absurd cc
      | inr b ↦
          either_found packages id t k (of_template packages t (find_known id known)) (of_template packages t (find_known id p.created))
          (found_in packages id t k (find_known id known) (λ x. find_id id x known))
          (found_in packages id t k (find_known id p.created) (λ x. find_id id x p.created)) (rw b at h)
    ]
