-- One rule and one round more, and what that notes.
use Rattle.std.proofs.Common.{◌≡◌, ◌≢◌, ℕ, zero, suc, ◌+◌, ◌<◌, ◌≤◌, List, [], ◌∷◌, ◌++◌, Some, take, length, get_or, inl, inr, refl, sym, ap, ◌∙◌, subst, arith, append_assoc, append-nil}
use Rattle.std.proofs.lemmas.List.{take-append-le}
use Rattle.std.specs.Prelude.{slice_get}
use Rattle.std.proofs.lemmas.Bool.{cases_order}
use Rattle.std.proofs.lemmas.Option.{same_Some, none-some, slice_get_within, get_or_from_slice_get}
use Rattle.ledger_model.proofs.Lists.{in_take_at}
use Rattle.ledger_terms.specs.declared.active_row.ActiveRow.{ActiveRow}
use Rattle.canton_model.specs.Log.{Params}
use Rattle.canton_model.specs.Reading.{Reading}
use Rattle.canton_model.specs.Inbox.{inbox, clean, node_active}
use Rattle.world_model.specs.Messages.{Entry}
use Rattle.trigger_rules.specs.declared.caused.Caused.{Caused}
use Rattle.trigger_rules.specs.declared.rule.Rule.{Rule}
use Rattle.trigger_rules.specs.Kept.{AreNamed}
use Rattle.trigger_rules.specs.Answers.{Answers}
use Rattle.trigger_rules.specs.Firing.{Fires, contracts_of}
use Rattle.trigger_model.specs.CausedRun.{AreAskedSo, FiredRound, HasReadTo, RoundsFire, RulesFire, active_at_clean, all_caused, fired_on}
use Rattle.trigger_model.proofs.CausedFacts.{fired_append, fired_others, fired_own, of_rules, own_by}

pub rule_more : (may : Answers) (reading : Reading) (params : Params) (log : List Entry) (round : FiredRound) (earlier : List Caused) (rules : List Rule)
    (rule : Rule) (caused own : List Caused) (n : ℕ) → RulesFire may reading params log round earlier rules caused → HasReadTo round rule.participant n
    → Fires may rule round.number round.now (fired_on rule.name earlier) (active_at_clean reading params rule.participant n log) own
    → RulesFire may reading params log round earlier (rules ++ rule ∷ []) (caused ++ own)
rule_more may reading params log round earlier [] rule caused own n h read f =
    (own, [], ap (λ (xs : List Caused). xs ++ own) h ∙ sym (append-nil own), n, read, f, refl)
rule_more may reading params log round earlier (r ∷ rules) rule caused own n h read f =
    let rest = rule_more may reading params log round earlier rules rule h.1 own n h.6 read f in
    (h.0, h.1 ++ own, ap (λ (xs : List Caused). xs ++ own) h.2 ∙ append_assoc h.0 h.1 own, h.3, h.4, h.5, rest)

pub round_more : (may : Answers) (reading : Reading) (params : Params) (log : List Entry) (rules : List Rule) (earlier : List Caused) (rounds : List FiredRound)
    (round : FiredRound) → RoundsFire may reading params log rules earlier rounds
    → RulesFire may reading params log round (earlier ++ all_caused rounds) rules round.caused
    → RoundsFire may reading params log rules earlier (rounds ++ round ∷ [])
round_more may reading params log rules earlier [] round h step =
    (subst (λ (xs : List Caused). RulesFire may reading params log round xs rules round.caused) (append-nil earlier) step, tt)
round_more may reading params log rules earlier (x ∷ rounds) round h step = (
  h.0,
  round_more may reading params log rules (earlier ++ x.caused) rounds round h.1
      (subst (λ (xs : List Caused). RulesFire may reading params log round xs rules round.caused) (sym (append_assoc earlier x.caused (all_caused rounds))) step),
)

pub noted : (may : Answers) (rule : Rule) (round now : ℕ) (fired : List (List ℕ)) (rows : List ActiveRow) (before own : List Caused)
    → Fires may rule round now fired rows own → fired_on rule.name (before ++ own) ≡ fired_on rule.name before ++ contracts_of own
noted may rule round now fired rows before own f =
    fired_append rule.name before own
    ∙ ap (λ (ids : List (List ℕ)). fired_on rule.name before ++ ids) (fired_own rule.name own (own_by may rule round now fired rows own f))

pub noted_others : (may : Answers) (rule : Rule) (round now : ℕ) (fired : List (List ℕ)) (rows : List ActiveRow) (before own : List Caused) (name : List ℕ)
    → Fires may rule round now fired rows own → name ≢ rule.name → fired_on name (before ++ own) ≡ fired_on name before
noted_others may rule round now fired rows before own name f apart =
    fired_append name before own
    ∙ (ap (λ (ids : List (List ℕ)). fired_on name before ++ ids)
    (fired_others name own (λ one i same. apart (sym same ∙ own_by may rule round now fired rows own f one i)))
    ∙ append-nil (fired_on name before))

pub rules_stay : (may : Answers) (reading : Reading) (params : Params) (log more : List Entry) (round : FiredRound) (earlier : List Caused) (rules : List Rule)
    (caused : List Caused) → round.end ≤ length log → RulesFire may reading params log round earlier rules caused
    → RulesFire may reading params (log ++ more) round earlier rules caused
rules_stay may reading params log more round earlier [] caused le h = h
rules_stay may reading params log more round earlier (rule ∷ rules) caused le h =
    let most = (h.4).at_most in
    let front : take h.3 (log ++ more) ≡ take h.3 log = take-append-le h.3 log more (omega (arith, most, le)) in
    let rows : active_at_clean reading params rule.participant h.3 log ≡ active_at_clean reading params rule.participant h.3 (log ++ more) =
    ap (λ (xs : List Entry). node_active reading rule.participant (inbox reading rule.participant xs) (clean params (inbox reading rule.participant xs))) (sym front) in (
      h.0,
      h.1,
      h.2,
      h.3,
      h.4,
      subst (λ (rs : List ActiveRow). Fires may rule round.number round.now (fired_on rule.name earlier) rs h.0) rows h.5,
      rules_stay may reading params log more round earlier rules h.1 le h.6,
    )

-- ---- one rule after another

take_at : {X : Type 0} (xs : List X) (i : ℕ) (x : X) → slice_get xs i ≡ Some x → take (suc i) xs ≡ take i xs ++ x ∷ []
take_at [] i x e = absurd (none-some x e)
take_at {X = X} (y ∷ xs) zero x e = ap (λ (z : X). z ∷ []) (same_Some y x e)
take_at {X = X} (y ∷ xs) (suc i) x e = ap (λ (zs : List X). y ∷ zs) (take_at xs i x e)

-- two rules at two places have two names
two_names : (rules : List Rule) → AreNamed rules → (i j : ℕ) (a b : Rule) → i < j → slice_get rules i ≡ Some a → slice_get rules j ≡ Some b → b.name ≢ a.name
two_names rules named i j a b lt at bt =
    let within = slice_get_within rules j b bt in
    let apart = named i j a lt (omega (arith, within)) in
    subst (λ (x : Rule). x.name ≢ a.name) (get_or_from_slice_get rules j b a bt)
    (subst (λ (x : Rule). (get_or rules j a).name ≢ x.name) (get_or_from_slice_get rules i a a at) apart)

module _ (may : Answers) (reading : Reading) (params : Params) (log : List Entry) (round : FiredRound) (earlier : List Caused) (rules : List Rule)
    (named : AreNamed rules) where
  -- what was caused by the rules before isn't by this one
  none_own : (count : ℕ) (caused : List Caused) (rule : Rule) → RulesFire may reading params log round earlier (take count rules) caused
      → slice_get rules count ≡ Some rule → fired_on rule.name caused ≡ []
  none_own count caused rule h there =
      fired_others rule.name caused (λ one i same.
      let by = of_rules may reading params log round earlier (take count rules) caused h one i in
      let at = in_take_at rules count by.0 by.1 in
      two_names rules named at.0 count by.0 rule at.1 at.2 there (sym same ∙ by.2))

  pub asked_in_order : (fired fired' : ℕ → List (List ℕ)) (count n : ℕ) (caused own : List Caused) (rule : Rule)
      → AreAskedSo may reading params log round earlier rules fired count caused → slice_get rules count ≡ Some rule → HasReadTo round rule.participant n
      → Fires may rule round.number round.now (fired count) (active_at_clean reading params rule.participant n log) own
      → fired' count ≡ fired count ++ contracts_of own → ((other : ℕ) → other ≢ count → fired' other ≡ fired other)
      → AreAskedSo may reading params log round earlier rules fired' (count + 1) (caused ++ own)
  asked_in_order fired fired' count n caused own rule so there read f its others =
      let before = earlier ++ caused in
      let next : count + 1 ≡ suc count = omega arith in
      let same : fired count ≡ fired_on rule.name earlier =
      so.noted count rule there
      ∙ (fired_append rule.name earlier caused
      ∙ (ap (λ (ids : List (List ℕ)). fired_on rule.name earlier ++ ids) (none_own count caused rule so.fires there) ∙ append-nil (fired_on rule.name earlier))) in
      let rows = active_at_clean reading params rule.participant n log in
      let f' : Fires may rule round.number round.now (fired_on rule.name earlier) rows own =
      subst (λ (ids : List (List ℕ)). Fires may rule round.number round.now ids rows own) same f in
      record {
        fires = subst (λ (rs : List Rule). RulesFire may reading params log round earlier rs (caused ++ own)) (sym (ap (λ (k : ℕ). take k rules) next ∙ take_at rules count rule there))
            (rule_more may reading params log round earlier (take count rules) rule caused own n so.fires read f');
        noted = λ k other at.
            subst (λ (xs : List Caused). fired' k ≡ fired_on other.name xs) (append_assoc earlier caused own)
            (elim (cases_order k count) [
              | inl here ↦
                  let is : rule ≡ other = same_Some rule other (sym there ∙ (ap (slice_get rules) (sym here) ∙ at)) in
                  subst (λ (i : ℕ). fired' i ≡ fired_on other.name (before ++ own)) (sym here)
                  (subst (λ (x : Rule). fired' count ≡ fired_on x.name (before ++ own)) is
                  (its ∙ (ap (λ (ids : List (List ℕ)). ids ++ contracts_of own) (so.noted count rule there)
                  ∙ sym (noted may rule round.number round.now (fired count) rows before own f))))
              | inr o ↦
                  let apart : k ≢ count = λ e. elim o [ inl lt ↦ omega (arith, lt, e) | inr gt ↦ omega (arith, gt, e) ] in
                  let names : other.name ≢ rule.name = elim o [
                    | inl lt ↦ λ e. two_names rules named k count other rule lt at there (sym e)
                    | inr gt ↦ two_names rules named count k rule other gt there at
                  ] in
                  others k apart ∙ (so.noted k other at ∙ sym (noted_others may rule round.number round.now (fired count) rows before own other.name f names))
            ]);
      }
