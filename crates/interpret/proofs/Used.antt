-- What holds of each known contract and of each created one holds of a contract that is used.
use Rattle.std.proofs.Common.{◌≡◌, Bool, List, [], ◌∷◌, ◌++◌, Option, Some, None, refl, subst, inl, inr}
use Rattle.std.specs.Prelude.{◌&&◌, find}
use Rattle.std.proofs.lemmas.Bool.{cases_Bool}
use Rattle.ledger_terms.specs.declared.known.Known.{Known}
use Rattle.ledger_terms.specs.declared.template_name.TemplateName.{TemplateName}
use Rattle.ledger_terms.specs.contracts.template_name.TemplateNamePartialEq.TheImpl as template_eq
use Rattle.lang_eval.specs.Found.{Packages}
use Rattle.lang_eval.specs.Kinds.{has_kinds}
use Rattle.interpret.specs.declared.progress.Progress.{Progress}
use Rattle.interpret.specs.Ids.{Hash}
use Rattle.interpret.specs.Usable.{find_known, is_consumed, first_found, of_template, usable}

module _ (P : Known → Type 0) where
  abbrev pub AllOf : List Known → Type 0
  AllOf [] = Unit {0}
  AllOf (k ∷ ks) = P k × AllOf ks

  pub all_push : (ks : List Known) (k : Known) → AllOf ks → P k → AllOf (ks ++ k ∷ [])
  all_push [] k all one = (one, tt)
  all_push (x ∷ ks) k all one = (all.0, all_push ks k all.1 one)

  pub found : (test : Known → Bool) (k : Known) (ks : List Known) → AllOf ks → find test ks ≡ Some k → P k
  found test k [] all h = absurd (let no : None ≡ Some k = h in cc)
  found test k (x ∷ ks) all h =
      elim (cases_Bool (test x)) [
        | inl b ↦ let same : Some x ≡ Some k = rw b at h in let e : x ≡ k = cc in subst P e all.0
        | inr b ↦ found test k ks all.1 (rw b at h)
      ]

  of_one : (packages : Packages) (t : TemplateName) (k : Known) (o : Option Known) → ((x : Known) → o ≡ Some x → P x) → of_template packages t o ≡ Some k → P k
  of_one packages t k None f h = absurd (let no : None ≡ Some k = h in cc)
  of_one packages t k (Some x) f h =
      elim (cases_Bool (template_eq.ghosts.eq x.instance.template t && has_kinds packages x.instance)) [
        | inl b ↦ let same : Some x ≡ Some k = rw b at h in let e : x ≡ k = cc in subst P e (f x refl)
        | inr b ↦ let no : None ≡ Some k = rw b at h in absurd cc
      ]

  either_one : (k : Known) (o p : Option Known) → (o ≡ Some k → P k) → (p ≡ Some k → P k) → first_found o p ≡ Some k → P k
  either_one k None p f g h = g h
  either_one k (Some x) p f g h = f h

  pub used : (packages : Packages) (known : List Known) (p : Progress) (id : Hash) (t : TemplateName) (k : Known)
      → AllOf known → AllOf p.created → usable packages known p id t ≡ Some k → P k
  unfolding usable
  used packages known p id t k all made h =
      elim (cases_Bool (is_consumed id p.consumed)) [
        | inl b ↦ let no : None ≡ Some k = rw b at h in absurd cc
        | inr b ↦
            either_one k (of_template packages t (find_known id known)) (of_template packages t (find_known id p.created))
            (of_one packages t k (find_known id known) (λ x e. found _ x known all e))
            (of_one packages t k (find_known id p.created) (λ x e. found _ x p.created made e)) (rw b at h)
      ]
