-- What is kept of the requests of rules tells which of them is wrong.
use Rattle.std.proofs.Common.{◌≡◌, ℕ, ◌≤◌, length, arith, Bool, true, false, ◌&&◌, ◌||◌, List, [], ◌∷◌, ◌++◌, map, Option, Some, None, refl, sym, ap, ◌∙◌, inl, inr}
use Rattle.std.specs.Prelude.{if◌then◌else◌}
use Rattle.std.specs.List.{list_any}
use Rattle.std.specs.Str.{bytes_eq}
use Rattle.std.proofs.lemmas.Bool.{cases_Bool, or_from}
use Rattle.std.proofs.lemmas.List.Folds.{list_any-append}
use Rattle.std.proofs.lemmas.Slice.Eq.{bytes_eq-Decides}
use Rattle.ledger_terms.specs.Grown.{forest_of}
use Rattle.ledger_terms.specs.declared.act.Act.{Act}
use Rattle.ledger_terms.specs.declared.tree.Tree.{Tree}
use Rattle.ledger_model.specs.Terms.{Hash}
use Rattle.ledger_model.specs.Opening.{Transaction}
use Rattle.canton_model.specs.Reading.{Reading}
use Rattle.world_model.specs.Messages.{Entry, Message, RequestMessage, Request}
use Rattle.audit_model.specs.Rules as rules
use Rattle.audit_model.specs.Rules.{exercised_for, exercised_in, has_exercised, is_caused_by, is_contract, is_wrongly_caused_by}
use Rattle.audit_model.proofs.Deciding.{true_false, true_from}
use Rattle.trigger_rules.specs.declared.rule.Rule.{Rule as TriggerRule}
use Rattle.log_judge.specs.RuleUses.{Used, AreUsed, IsNoted, IsUsed, has_used, is_wrong_by, is_wrong_use, rule_of, rules_of, unused, used_after, with_contract}

or_none : (b : Bool) → (b || false) ≡ b
or_none true = refl
or_none false = refl

or_true : (b : Bool) → (b || true) ≡ true
or_true true = refl
or_true false = refl

-- neither holds
left_false : (a b : Bool) → (a || b) ≡ false → a ≡ false
left_false true b h = h
left_false false b h = refl

right_false : (a b : Bool) → (a || b) ≡ false → b ≡ false
right_false true b h = absurd (true_false refl h)
right_false false b h = h

-- the list with one rule
pub one_rule : (a : Bool) → (a || false) ≡ a
one_rule = or_none

-- ---- one contract more

module _ (cs : List Hash) (id c : Hash) where
  same_has : has_used cs id ≡ true → has_used cs c ≡ (has_used cs c || bytes_eq c id)
  same_has there =
      elim (cases_Bool (bytes_eq c id)) [
        | inl e ↦
            let is : c ≡ id = (bytes_eq-Decides c id).0 e in
            let has : has_used cs c ≡ true = ap (has_used cs) is ∙ there in
            has ∙ sym (ap (λ (b : Bool). b || bytes_eq c id) has)
        | inr e ↦ sym (ap (λ (b : Bool). has_used cs c || b) e ∙ or_none (has_used cs c))
      ]

  one_more : has_used (cs ++ id ∷ []) c ≡ (has_used cs c || bytes_eq c id)
  one_more = list_any-append (bytes_eq c) cs (id ∷ []) ∙ ap (λ (b : Bool). has_used cs c || b) (or_none (bytes_eq c id))

  added : has_used (if has_used cs id then cs else cs ++ id ∷ []) c ≡ (has_used cs c || bytes_eq c id)
  added =
      elim (cases_Bool (has_used cs id)) [
        | inl b ↦ rw b (same_has b)
        | inr b ↦ rw b one_more
      ]

noted : (u : Used) (o : Option Hash) (c : Hash) → has_used (with_contract u o).contracts c ≡ (has_used u.contracts c || is_contract o c)
noted u None c = sym (or_none (has_used u.contracts c))
noted u (Some id) c = added u.contracts id c

same_rule : (u : Used) (o : Option Hash) → (with_contract u o).rule ≡ u.rule
same_rule u None = refl
same_rule u (Some id) = refl

rule_stays : (q : Request) (whole : Option Transaction) (u : Used) → (used_after q whole u).rule ≡ u.rule
rule_stays q whole u =
    elim (cases_Bool (is_caused_by (rule_of u.rule) q)) [
      | inl b ↦ rw b (same_rule u (exercised_for (rule_of u.rule) whole))
      | inr b ↦ rw b refl
    ]

pub rules_stay : (q : Request) (whole : Option Transaction) (uses : List Used) → rules_of (map (used_after q whole) uses) ≡ rules_of uses
rules_stay q whole [] = refl
rules_stay q whole (u ∷ uses) =
    ap (λ r. rule_of r ∷ rules_of (map (used_after q whole) uses)) (rule_stays q whole u) ∙ ap (λ rs. rule_of u.rule ∷ rs) (rules_stay q whole uses)

module _ (reading : Reading) (log : List Entry) where
  -- ---- what is wrong

  wrong_use_is : (u : Used) → IsUsed reading log u → (o : Option Hash) → is_wrong_use u.contracts o ≡ rules.is_wrong_use reading (rule_of u.rule) log o
  wrong_use_is u h None = refl
  wrong_use_is u h (Some c) = h c

  pub wrong_is : (q : Request) (whole : Option Transaction) → whole ≡ reading.whole q → (uses : List Used) → AreUsed reading log uses
      → list_any (is_wrong_by q whole) uses ≡ list_any (is_wrongly_caused_by reading log q) (rules_of uses)
  wrong_is q whole same [] h = refl
  wrong_is q whole same (u ∷ uses) h =
      ap (λ (w : Option Transaction). is_wrong_by q w u || list_any (is_wrong_by q whole) uses) same
      ∙ (ap (λ (b : Bool). (is_caused_by (rule_of u.rule) q && b) || list_any (is_wrong_by q whole) uses)
      (wrong_use_is u h.0 (exercised_for (rule_of u.rule) (reading.whole q)))
      ∙ ap (λ (b : Bool). is_wrongly_caused_by reading log q (rule_of u.rule) || b) (wrong_is q whole same uses h.1))

  pub none_wrong : (q : Request) (uses : List Used) → list_any (λ (u : Used). is_caused_by (rule_of u.rule) q) uses ≡ false
      → list_any (is_wrongly_caused_by reading log q) (rules_of uses) ≡ false
  none_wrong q [] h = refl
  none_wrong q (u ∷ uses) h =
      let here = left_false (is_caused_by (rule_of u.rule) q) (list_any (λ (x : Used). is_caused_by (rule_of x.rule) q) uses) h in
      let rest = right_false (is_caused_by (rule_of u.rule) q) (list_any (λ (x : Used). is_caused_by (rule_of x.rule) q) uses) h in
      or_from _ _ (ap (λ (b : Bool). b && rules.is_wrong_use reading (rule_of u.rule) log (exercised_for (rule_of u.rule) (reading.whole q))) here)
      (none_wrong q uses rest)

  -- ---- one entry more

  module _ (e : Entry) where
    abbrev more : List Entry
    more = log ++ e ∷ []

    abbrev exercises : Used → Hash → Entry → Bool
    exercises u c entry = has_exercised reading (rule_of u.rule) c entry.message

    any_more : (u : Used) (c : Hash) → list_any (exercises u c) more ≡ (list_any (exercises u c) log || exercises u c e)
    any_more u c = list_any-append (exercises u c) log (e ∷ []) ∙ ap (λ (b : Bool). list_any (exercises u c) log || b) (or_none (exercises u c e))

    grows : (u : Used) → IsUsed reading log u → ((c : Hash) → exercises u c e ≡ false) → IsUsed reading more u
    grows u h none c =
        h c ∙ sym (any_more u c ∙ (ap (λ (b : Bool). list_any (exercises u c) log || b) (none c) ∙ or_none (list_any (exercises u c) log)))

    grow : (uses : List Used) → AreUsed reading log uses → ((u : Used) (c : Hash) → exercises u c e ≡ false) → AreUsed reading more uses
    grow [] h none = tt
    grow (u ∷ uses) h none = (grows u h.0 (none u), grow uses h.1 none)

  module _ (time : ℕ) (q : Request) where
    abbrev asked : Entry
    asked = record { time = time; message = RequestMessage q }

    uncaused : (uses : List Used) → AreUsed reading log uses → list_any (λ (u : Used). is_caused_by (rule_of u.rule) q) uses ≡ false
        → AreUsed reading (log ++ asked ∷ []) uses
    uncaused [] h none = tt
    uncaused (u ∷ uses) h none =
        let here = left_false (is_caused_by (rule_of u.rule) q) (list_any (λ (x : Used). is_caused_by (rule_of x.rule) q) uses) none in
        let rest = right_false (is_caused_by (rule_of u.rule) q) (list_any (λ (x : Used). is_caused_by (rule_of x.rule) q) uses) none in (
          grows asked u h.0 (λ c. ap (λ (b : Bool). b && is_contract (exercised_for (rule_of u.rule) (reading.whole q)) c) here),
          uncaused uses h.1 rest,
        )

    with_use : (whole : Option Transaction) → whole ≡ reading.whole q → (u : Used) → IsUsed reading log u
        → IsUsed reading (log ++ asked ∷ []) (used_after q whole u)
    with_use whole same u h =
        let r = rule_of u.rule in
        elim (cases_Bool (is_caused_by r q)) [
          | inr away ↦ rw away (grows asked u h (λ c. ap (λ (b : Bool). b && is_contract (exercised_for r (reading.whole q)) c) away))
          | inl here ↦ rw here (λ c.
              let exercised = ap (λ (b : Bool). b && is_contract (exercised_for r (reading.whole q)) c) here in
              let after = with_contract u (exercised_for r whole) in
              let rule : after.rule ≡ u.rule = same_rule u (exercised_for r whole) in
              noted u (exercised_for r whole) c
              ∙ (ap (λ (w : Option Transaction). has_used u.contracts c || is_contract (exercised_for r w) c) same
              ∙ (ap (λ (b : Bool). b || is_contract (exercised_for r (reading.whole q)) c) (h c)
              ∙ (ap (λ (b : Bool). list_any (exercises asked u c) log || b) (sym exercised)
              ∙ (sym (any_more asked u c)
              ∙ ap (λ x. list_any (λ (entry : Entry). has_exercised reading (rule_of x) c entry.message) (log ++ asked ∷ [])) (sym rule))))))
        ]

    with_uses : (whole : Option Transaction) → whole ≡ reading.whole q → (uses : List Used) → AreUsed reading log uses
        → AreUsed reading (log ++ asked ∷ []) (map (used_after q whole) uses)
    with_uses whole same [] h = tt
    with_uses whole same (u ∷ uses) h = (with_use whole same u h.0, with_uses whole same uses h.1)

pub not_noted : (reading : Reading) (q : Request) (uses : List Used) → list_any (λ (u : Used). is_caused_by (rule_of u.rule) q) uses ≡ false
    → IsNoted reading (RequestMessage q) uses uses
not_noted reading q uses none = record { same = refl; used = λ log time framed h. uncaused reading log time q uses h none }

pub is_noted : (reading : Reading) (q : Request) (whole : Option Transaction) (uses : List Used) → (reading.is_framed q ≡ true → whole ≡ reading.whole q)
    → IsNoted reading (RequestMessage q) uses (map (used_after q whole) uses)
is_noted reading q whole uses read =
    record {
      same = rules_stay q whole uses;
      used = λ log time framed h. with_uses reading log time q whole (read (true_from (reading.is_framed q) framed)) uses h;
    }

-- no other message is a request
pub other_noted : (reading : Reading) (m : Message) (uses : List Used) → ((u : Used) (c : Hash) → has_exercised reading (rule_of u.rule) c m ≡ false)
    → IsNoted reading m uses uses
other_noted reading m uses none = record { same = refl; used = λ log time framed h. grow reading log (record { time = time; message = m }) uses h none }

-- ---- at the start

pub unused_rules : (list : List TriggerRule) → rules_of (map unused list) ≡ map rule_of list
unused_rules [] = refl
unused_rules (r ∷ list) = ap (λ rs. rule_of r ∷ rs) (unused_rules list)

pub unused_are : (reading : Reading) (list : List TriggerRule) → AreUsed reading [] (map unused list)
unused_are reading [] = tt
unused_are reading (r ∷ list) = (λ c. refl, unused_are reading list)

-- nothing is exercised by two roots
pub two_roots : (trees : List (Tree Act)) → 2 ≤ length trees → None ≡ exercised_in (forest_of trees)
two_roots [] le = absurd (omega (arith, le))
two_roots (one ∷ []) le = absurd (omega (arith, le))
two_roots (one ∷ other ∷ trees) le = refl
