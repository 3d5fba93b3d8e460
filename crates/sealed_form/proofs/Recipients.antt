-- Each recipient gets one envelope, and nobody else any.
use Rattle.std.proofs.Common.{◌≡◌, ℕ, ◌<◌, Bool, true, List, [], ◌∷◌, length, map, Some, None, nat_eq, refl, sym, ap, ◌∙◌, inl, inr}
use Rattle.std.specs.Prelude.{if◌then◌else◌}
use Rattle.std.specs.List.{list_any}
use Rattle.std.proofs.lemmas.Bool.{cases_Bool, both_ways, eqb-true, eq-eqb, false_from_ne_true}
use Rattle.ledger_terms.specs.Forest.{Forest}
use Rattle.ledger_terms.specs.declared.host.Host.{Host}
use Rattle.ledger_model.proofs.Lists.{In, in_any, from_any, in_from_Contains, contains_from_In}
use Rattle.view_split.specs.declared.split_view.SplitView.{SplitView}
use Rattle.blind_tree.specs.Blind.{is_host_named}
use Rattle.blind_tree.specs.Recipients.{is_recipient, recipients_of}
use Rattle.blind_tree.proofs.Recipients.{are_recipients}
use Rattle.sealed_form.specs.SealedForm.{envelope_to}
use Rattle.sealed_form.proofs.Hosts.{named_below}

pub nat_eq_self : (n : ℕ) → nat_eq n n ≡ true
nat_eq_self n = eq-eqb n n refl

-- the first envelope to a participant, of those made for these
pub first_to : (bytes : ℕ → List ℕ) (p : ℕ) (ps : List ℕ)
    → envelope_to p (map (λ (q : ℕ). record { to = q; bytes = bytes q }) ps) ≡ (if list_any (λ (q : ℕ). nat_eq q p) ps then Some (bytes p) else None)
first_to bytes p [] = refl
first_to bytes p (q ∷ ps) =
    elim (cases_Bool (nat_eq q p)) [
      | inl here ↦ rw here (ap (λ (n : ℕ). Some (bytes n)) (eqb-true q p here))
      | inr other ↦ rw other (first_to bytes p ps)
    ]

module _ (hosts : List Host) (views : Forest SplitView) (sender : ℕ) (name : List ℕ) (named : is_host_named hosts sender name ≡ true) where
  abbrev gets : ℕ → Bool
  gets p = is_recipient hosts views sender p

  abbrev recipients : List ℕ
  recipients = recipients_of hosts views sender

  there : sender < length hosts
  there = named_below hosts sender name named

  pub in_recipients : (p : ℕ) → gets p ≡ true → In p recipients
  in_recipients p h = in_from_Contains recipients p ((are_recipients hosts views sender p there).1 h)

  pub are_reached : (p : ℕ) → list_any (λ (q : ℕ). nat_eq q p) recipients ≡ gets p
  are_reached p =
      elim (cases_Bool (gets p)) [
        | inl passes ↦ in_any (λ (q : ℕ). nat_eq q p) recipients p (in_recipients p passes) (nat_eq_self p) ∙ sym passes
        | inr fails ↦
            false_from_ne_true (list_any (λ (q : ℕ). nat_eq q p) recipients) (λ some.
            let q = from_any (λ (q : ℕ). nat_eq q p) recipients some in
            let r = (are_recipients hosts views sender q.0 there).0 (contains_from_In recipients q.0 q.1) in
            both_ways (gets p) fails (ap gets (sym (eqb-true q.0 p q.2)) ∙ r))
            ∙ sym fails
      ]
