-- Whoever confirms an action is informed of it, and roles hang on no size.
use Rattle.std.proofs.Common.{◌≡◌, ℕ, Bool, true, false, List, [], ◌∷◌, ◌++◌, refl, sym, ◌∙◌, ap}
use Rattle.std.specs.Prelude.{◌||◌, if◌then◌else◌}
use Rattle.ledger_terms.specs.Parties.{same_name, has_party, set_of}
use Rattle.ledger_terms.proofs.Members.{has_party-set_of}
use Rattle.ledger_terms.specs.declared.instance.Instance.{Instance}
use Rattle.ledger_terms.specs.declared.value.Value.{Value}
use Rattle.ledger_terms.specs.declared.action.Action.{Action}
use Rattle.ledger_terms.specs.declared.action.Action.TheVariants.{Create, Exercise, Fetch}
use Rattle.ledger_model.specs.declared.step.ChoiceCall.{ChoiceCall}
use Rattle.ledger_model.specs.Language.{roles_of}
use Rattle.lang_eval.specs.Found.{Packages}
use Rattle.lang_eval.specs.Parts.{PartyNames}
use Rattle.lang_eval.specs.Language.{language_of, roles_in, parties_if_typed, observers_if_typed, signatories_in, observers_in, set_given}

or_right : (a b c : Bool) → ((a || b) || c) ≡ (a || (b || c))
or_right true b c = refl
or_right false b c = refl

has_party-append : (a b : PartyNames) (p : List ℕ) → has_party (a ++ b) p ≡ (has_party a p || has_party b p)
has_party-append [] b p = refl
has_party-append (x ∷ a) b p = ap (λ (r : Bool). same_name x p || r) (has_party-append a b p) ∙ sym (or_right (same_name x p) (has_party a p) (has_party b p))

or_weaker : (a b c d : Bool) → (a ≡ true → c ≡ true) → (b ≡ true → d ≡ true) → (a || b) ≡ true → (c || d) ≡ true
or_weaker true b c d f g h = rw (f refl) refl
or_weaker false b true d f g h = refl
or_weaker false b false d f g h = g h

or_left : (a b : Bool) → a ≡ true → (a || b) ≡ true
or_left a b h = rw h refl

or_none : (a : Bool) → (a || false) ≡ true → a ≡ true
or_none true h = refl
or_none false h = h

-- the members of two sets are members of those with more behind each
wider : (a b c d : PartyNames) (p : List ℕ) → (has_party a p ≡ true → has_party c p ≡ true) → (has_party b p ≡ true → has_party d p ≡ true)
    → has_party (set_of (a ++ b)) p ≡ true → has_party (set_of (c ++ d)) p ≡ true
wider a b c d p f g h =
    let before = sym (has_party-append a b p) ∙ (sym (has_party-set_of (a ++ b) p) ∙ h) in
    has_party-set_of (c ++ d) p ∙ (has_party-append c d p ∙ or_weaker (has_party a p) (has_party b p) (has_party c p) (has_party d p) f g before)

more : (a b : PartyNames) (p : List ℕ) → has_party a p ≡ true → has_party (a ++ b) p ≡ true
more a b p h = has_party-append a b p ∙ or_left (has_party a p) (has_party b p) h

told : (consuming : Bool) (s o : PartyNames) (p : List ℕ) → has_party s p ≡ true → has_party (if consuming then set_of (s ++ o) else s) p ≡ true
told true s o p h = has_party-set_of (s ++ o) p ∙ more s o p h
told false s o p h = h

none_there : (p : List ℕ) (d : PartyNames) → has_party [] p ≡ true → has_party d p ≡ true
none_there p d h = cc

pub confirmers_informed : (packages : Packages) (action : Action) (p : List ℕ) → has_party (roles_in packages action).confirmers p ≡ true
    → has_party (roles_in packages action).informees p ≡ true
confirmers_informed packages (Create id i) p h =
    wider (signatories_in (parties_if_typed packages i)) [] (signatories_in (parties_if_typed packages i)) (observers_in (parties_if_typed packages i)) p
    (λ k. k) (none_there p _) h
confirmers_informed packages (Exercise id salt i choice args actors consuming result) p h =
    wider (signatories_in (parties_if_typed packages i)) actors _
    (actors ++ set_given (observers_if_typed packages (record { id = id; instance = i; choice = choice; args = args }))) p
    (told consuming (signatories_in (parties_if_typed packages i)) (observers_in (parties_if_typed packages i)) p) (more actors _ p) h
confirmers_informed packages (Fetch id salt i actors) p h = h

pub no_size : (packages : Packages) (creatable : Instance → Bool) (exercisable : ChoiceCall → PartyNames → Bool → Value → Bool) (action : Action)
    → roles_of (language_of packages creatable exercisable) action ≡ roles_in packages action
no_size packages creatable exercisable (Create id i) = refl
no_size packages creatable exercisable (Exercise id salt i choice args actors consuming result) = refl
no_size packages creatable exercisable (Fetch id salt i actors) = refl
