-- Rules that are asked round after round cause what is said of a run.
use Rattle.std.proofs.Common.{◌≡◌, ◌≢◌, ◌⊎◌, ℕ, zero, suc, ◌<◌, true, false, List, [], ◌∷◌, ◌++◌, Some, None, Ok, filter, take, length, Contains, refl, sym, ap, ◌∙◌, subst, inl, inr, arith, append_assoc, append-nil}
use Rattle.std.specs.Prelude.{slice_get}
use Rattle.std.specs.Str.{bytes_eq}
use Rattle.std.proofs.lemmas.Bool.{both_ways, cases_Bool, cases_order}
use Rattle.std.proofs.lemmas.List.{map-append}
use Rattle.std.proofs.lemmas.List.Elements.{filter-append}
use Rattle.std.proofs.lemmas.List.Folds.{list_any-append}
use Rattle.std.proofs.lemmas.Option.{slice_get_within, get_or_from_slice_get}
use Rattle.std.proofs.lemmas.Slice.Eq.{bytes_eq-Decides}
use Rattle.ledger_model.proofs.Lists.{In, in_append_cases, in_append_left, in_append_right, in_from_Contains, contains_from_In, in_filter, in_map, in_any, in_at, at_in, at_in_take, EachAfter, each_at, each_from, each_append}
use Rattle.ledger_terms.specs.declared.active_row.ActiveRow.{ActiveRow}
use Rattle.canton_model.specs.Log.{Params}
use Rattle.canton_model.specs.Reading.{Reading}
use Rattle.world_model.specs.Messages.{Entry}
use Rattle.world_model.specs.Places.{has_place}
use Rattle.trigger_rules.specs.declared.caused.Caused.{Caused}
use Rattle.trigger_rules.specs.declared.rule.Rule.{Rule}
use Rattle.trigger_rules.specs.Kept.{AreNamed}
use Rattle.trigger_rules.specs.Answers.{Answers}
use Rattle.trigger_rules.specs.Firing.{Fires, FiresOn, contracts_of, has_fired}
use Rattle.trigger_model.specs.CausedRun.{AreOnce, CausedHolds, FiredRound, IsCausedIn, RoundsFire, RulesFire}
use Rattle.trigger_model.specs.CausedRun.{active_at_clean, all_caused, fired_on, is_by}

-- ---- what is new to what was caused before

-- its rule hadn't fired on its contract
abbrev IsNew : List Caused → Caused → Type 0
IsNew before one = has_fired (fired_on one.rule before) one.contract ≡ false

pub fired_append : (name : List ℕ) (xs ys : List Caused) → fired_on name (xs ++ ys) ≡ fired_on name xs ++ fired_on name ys
fired_append name xs ys = ap contracts_of (filter-append (is_by name) xs ys) ∙ map-append (λ (one : Caused). one.contract) (filter (is_by name) xs) (filter (is_by name) ys)

has_append : (xs ys : List (List ℕ)) (id : List ℕ) → has_fired xs id ≡ false → has_fired ys id ≡ false → has_fired (xs ++ ys) id ≡ false
has_append xs ys id x y = list_any-append (bytes_eq id) xs ys ∙ rw (x, y) refl

-- what was caused by it is among that on which it fired
there : (xs : List Caused) (a : Caused) (name id : List ℕ) → In a xs → a.rule ≡ name → a.contract ≡ id → has_fired (fired_on name xs) id ≡ true
there xs a name id i r c =
    in_any (bytes_eq id) (fired_on name xs) a.contract
    (in_map (λ (one : Caused). one.contract) (filter (is_by name) xs) a (in_filter (is_by name) xs a i ((bytes_eq-Decides a.rule name).1 r)))
    ((bytes_eq-Decides id a.contract).1 (sym c))

new_once : (caused : List Caused) → EachAfter IsNew [] caused → AreOnce caused
new_once caused h i j a b at bt r c =
    elim (cases_order i j) [
      | inl same ↦ same
      | inr o ↦ elim o [
        | inl before ↦ absurd (both_ways _ (each_at IsNew [] caused j b h bt) (there (take j caused) a b.rule b.contract (at_in_take caused i j a before at) r c))
        | inr after ↦ absurd (both_ways _ (each_at IsNew [] caused i a h at) (there (take i caused) b a.rule a.contract (at_in_take caused j i b after bt) (sym r) (sym c)))
      ]
    ]

-- ---- one rule

abbrev AreBy : List ℕ → List Caused → Type 0
AreBy name caused = (one : Caused) → In one caused → one.rule ≡ name

-- those of one rule are all that it fired on
pub fired_own : (name : List ℕ) (caused : List Caused) → AreBy name caused → fired_on name caused ≡ contracts_of caused
fired_own name [] h = refl
fired_own name (x ∷ caused) h =
    rw ((bytes_eq-Decides x.rule name).1 (h x (inl refl))) (ap (λ (ids : List (List ℕ)). x.contract ∷ ids) (fired_own name caused (λ one i. h one (inr i))))

-- those of others are none of its
pub fired_others : (name : List ℕ) (caused : List Caused) → ((one : Caused) → In one caused → one.rule ≢ name) → fired_on name caused ≡ []
fired_others name [] h = refl
fired_others name (x ∷ caused) h =
    elim (cases_Bool (bytes_eq x.rule name)) [
      | inl b ↦ absurd (h x (inl refl) ((bytes_eq-Decides x.rule name).0 b))
      | inr b ↦ rw b (fired_others name caused (λ one i. h one (inr i)))
    ]

some_at : {X : Type 0} (xs : List X) (k : ℕ) → k < length xs → (x : X) × (slice_get xs k ≡ Some x)
some_at [] k lt = absurd (omega (arith, lt))
some_at (z ∷ xs) zero lt = (z, refl)
some_at (z ∷ xs) (suc k) lt = some_at xs k (omega (arith, lt))

take_in : {X : Type 0} (k : ℕ) (xs : List X) (x : X) → In x (take k xs) → In x xs
take_in zero xs x h = absurd h
take_in (suc k) [] x h = absurd h
take_in (suc k) (y ∷ xs) x (inl same) = inl same
take_in (suc k) (y ∷ xs) x (inr t) = inr (take_in k xs x t)

module _ (may : Answers) (rule : Rule) (round now : ℕ) (fired : List (List ℕ)) (rows : List ActiveRow) (own : List Caused)
    (f : Fires may rule round now fired rows own) where
  -- the row of each of them
  fires_at : (k : ℕ) (one : Caused) → slice_get own k ≡ Some one
      → (row : ActiveRow) × Contains rows row × FiresOn may rule round now (fired ++ contracts_of (take k own)) row.known one
  fires_at k one e =
      let within = slice_get_within own k one e in
      let at = some_at f.places k (omega (arith, within, f.each_place)) in
      let r = f.each k at.0 one at.1 e in
      (r.0, contains_from_In rows r.0 (at_in rows at.0 r.0 r.1), r.2)

  pub own_by : AreBy rule.name own
  own_by one i =
      let at = in_at own one i in
      let on = fires_at at.0 one at.1 in
      ap (λ (x : Caused). x.rule) (on.2).is

own_new : (may : Answers) (rule : Rule) (round now : ℕ) (earlier : List Caused) (rows : List ActiveRow) (own : List Caused)
    → Fires may rule round now (fired_on rule.name earlier) rows own → EachAfter IsNew earlier own
own_new may rule round now earlier rows own f =
    each_from IsNew earlier own (λ k one e.
    let on = fires_at may rule round now (fired_on rule.name earlier) rows own f k one e in
    let by = own_by may rule round now (fired_on rule.name earlier) rows own f in
    let name : one.rule ≡ rule.name = by one (at_in own k one e) in
    let id : one.contract ≡ ((on.0).known).id = ap (λ (x : Caused). x.contract) (on.2).is in
    let lists : fired_on rule.name (earlier ++ take k own) ≡ fired_on rule.name earlier ++ contracts_of (take k own) =
    fired_append rule.name earlier (take k own)
    ∙ ap (λ (ids : List (List ℕ)). fired_on rule.name earlier ++ ids) (fired_own rule.name (take k own) (λ x i. by x (take_in k own x i))) in
    ap (λ (n : List ℕ). has_fired (fired_on n (earlier ++ take k own)) one.contract) name
    ∙ (ap (λ (ids : List (List ℕ)). has_fired ids one.contract) lists
    ∙ (ap (λ (c : List ℕ). has_fired (fired_on rule.name earlier ++ contracts_of (take k own)) c) id ∙ (on.2).fresh)))

-- more of other rules before them changes nothing
new_beside : (earlier prior : List Caused) (caused : List Caused)
    → ((one other : Caused) → In one caused → In other prior → other.rule ≢ one.rule)
    → EachAfter IsNew earlier caused → EachAfter IsNew (earlier ++ prior) caused
new_beside earlier prior caused apart h =
    each_from IsNew (earlier ++ prior) caused (λ k one e.
    let before = take k caused in
    let own = each_at IsNew earlier caused k one h e in
    let none : fired_on one.rule prior ≡ [] = fired_others one.rule prior (λ other i. apart one other (at_in caused k one e) i) in
    let lists : fired_on one.rule ((earlier ++ prior) ++ before) ≡ fired_on one.rule (earlier ++ before) =
    fired_append one.rule (earlier ++ prior) before
    ∙ (ap (λ (ids : List (List ℕ)). ids ++ fired_on one.rule before)
    (fired_append one.rule earlier prior ∙ (ap (λ (ids : List (List ℕ)). fired_on one.rule earlier ++ ids) none ∙ append-nil (fired_on one.rule earlier)))
    ∙ sym (fired_append one.rule earlier before)) in
    ap (λ (ids : List (List ℕ)). has_fired ids one.contract) lists ∙ own)

-- the first rule's name is no other's, and the others have names of their own
named_first : (rule : Rule) (rules : List Rule) → AreNamed (rule ∷ rules) → (other : Rule) → In other rules → other.name ≢ rule.name
named_first rule rules named other i =
    let at = in_at rules other i in
    let within = slice_get_within rules at.0 other at.1 in
    subst (λ (x : Rule). x.name ≢ rule.name) (get_or_from_slice_get rules at.0 other other at.1) (named 0 (suc at.0) other (omega arith) (omega (arith, within)))

named_rest : (rule : Rule) (rules : List Rule) → AreNamed (rule ∷ rules) → AreNamed rules
named_rest rule rules named i j d lt within = named (suc i) (suc j) d (omega (arith, lt)) (omega (arith, within))

module _ (may : Answers) (reading : Reading) (params : Params) (log : List Entry) where
  -- ---- the rules of a round
  module _ (round : FiredRound) (earlier : List Caused) where
    pub of_rules : (rules : List Rule) (caused : List Caused) → RulesFire may reading params log round earlier rules caused
        → (one : Caused) → In one caused → (rule : Rule) × In rule rules × (one.rule ≡ rule.name)
    of_rules [] caused h one i = absurd (subst (In one) h i)
    of_rules (rule ∷ rules) caused h one i =
        elim (in_append_cases h.0 h.1 one (subst (In one) h.2 i)) [
          | inl own ↦ (rule, inl refl, own_by may rule round.number round.now _ _ h.0 h.5 one own)
          | inr other ↦ let r = of_rules rules h.1 h.6 one other in (r.0, inr r.1, r.2)
        ]

    rules_new : (rules : List Rule) (caused : List Caused) → AreNamed rules → RulesFire may reading params log round earlier rules caused
        → EachAfter IsNew earlier caused
    rules_new [] caused named h = subst (EachAfter IsNew earlier) (sym h) tt
    rules_new (rule ∷ rules) caused named h =
        let own = own_new may rule round.number round.now earlier _ h.0 h.5 in
        let others = rules_new rules h.1 (named_rest rule rules named) h.6 in
        let apart : (one other : Caused) → In one h.1 → In other h.0 → other.rule ≢ one.rule =
        λ one other i j same.
        let r = of_rules rules h.1 h.6 one i in
        let by = own_by may rule round.number round.now _ _ h.0 h.5 other j in
        named_first rule rules named r.0 r.1 (sym r.2 ∙ (sym same ∙ by)) in
        subst (EachAfter IsNew earlier) (sym h.2)
        (each_append IsNew earlier h.0 h.1 own (new_beside earlier h.0 h.1 apart others))

    caused_in : (all rules : List Rule) → ((rule : Rule) → In rule rules → In rule all) → (caused : List Caused)
        → RulesFire may reading params log round earlier rules caused → (one : Caused) → In one caused
        → IsCausedIn may all reading params log round one
    caused_in all [] within caused h one i = absurd (subst (In one) h i)
    caused_in all (rule ∷ rules) within caused h one i =
        elim (in_append_cases h.0 h.1 one (subst (In one) h.2 i)) [
          | inl own ↦
              let at = in_at h.0 one own in
              let on = fires_at may rule round.number round.now _ _ h.0 h.5 at.0 one at.1 in
              record {
                rule = rule;
                is_rule = contains_from_In all rule (within rule (inl refl));
                read_to = h.3;
                has_read = h.4;
                row = on.0;
                active = on.1;
                before = length (fired_on rule.name earlier ++ contracts_of (take at.0 h.0));
                command = (on.2).command;
                is = (on.2).is;
                answered = (on.2).answered;
                exercises = (on.2).exercises;
              }
          | inr other ↦ caused_in all rules (λ r j. within r (inr j)) h.1 h.6 one other
        ]

    abbrev IsAnswered : Rule → ActiveRow → List Caused → Type 0
    IsAnswered rule row caused =
        ((one : Caused) × In one caused × (one.rule ≡ rule.name) × (one.contract ≡ (row.known).id)) ⊎ may rule.name row.known (Ok None)

    asked_in : (rules : List Rule) (caused : List Caused) → RulesFire may reading params log round earlier rules caused → (rule : Rule) (row : ActiveRow)
        → In rule rules → has_place round.paused rule.participant ≡ false
        → Contains (active_at_clean reading params rule.participant round.end log) row
        → has_fired (fired_on rule.name earlier) (row.known).id ≡ false → IsAnswered rule row caused
    asked_in [] caused h rule row i awake active fresh = absurd i
    asked_in (r ∷ rules) caused h rule row (inr i) awake active fresh =
        elim (asked_in rules h.1 h.6 rule row i awake active fresh) [
          | inl fires ↦ inl (fires.0, subst (In fires.0) (sym h.2) (in_append_right h.0 h.1 fires.0 fires.1), fires.2, fires.3)
          | inr none ↦ inr none
        ]
    asked_in (r ∷ rules) caused h rule row (inl same) awake active fresh =
        let so : has_place round.paused r.participant ≡ false → Contains (active_at_clean reading params r.participant round.end log) row
        → has_fired (fired_on r.name earlier) (row.known).id ≡ false → IsAnswered r row caused =
        λ awake' active' fresh'.
        let all = (h.4).awake awake' in
        let here : Contains (active_at_clean reading params r.participant h.3 log) row =
        subst (λ (n : ℕ). Contains (active_at_clean reading params r.participant n log) row) (sym all) active' in
        elim ((h.5).asked row here fresh') [
          | inl fires ↦
              let i = in_from_Contains h.0 fires.0 fires.1 in
              inl (fires.0, subst (In fires.0) (sym h.2) (in_append_left h.0 h.1 fires.0 i), own_by may r round.number round.now _ _ h.0 h.5 fires.0 i, fires.2)
          | inr none ↦ inr none
        ] in
        subst (λ (x : Rule). has_place round.paused x.participant ≡ false → Contains (active_at_clean reading params x.participant round.end log) row
        → has_fired (fired_on x.name earlier) (row.known).id ≡ false → IsAnswered x row caused) same so awake active fresh

  -- ---- rounds
  module _ (rules : List Rule) where
    rounds_new : (earlier : List Caused) (rounds : List FiredRound) → AreNamed rules → RoundsFire may reading params log rules earlier rounds
        → EachAfter IsNew earlier (all_caused rounds)
    rounds_new earlier [] named h = tt
    rounds_new earlier (round ∷ rounds) named h =
        each_append IsNew earlier round.caused (all_caused rounds) (rules_new round earlier rules round.caused named h.0)
        (rounds_new (earlier ++ round.caused) rounds named h.1)

    rounds_caused : (earlier : List Caused) (rounds : List FiredRound) → RoundsFire may reading params log rules earlier rounds
        → (round : FiredRound) (one : Caused) → In round rounds → In one round.caused → IsCausedIn may rules reading params log round one
    rounds_caused earlier [] h round one i j = absurd i
    rounds_caused earlier (x ∷ rounds) h round one (inl same) j =
        subst (λ (y : FiredRound). In one y.caused → IsCausedIn may rules reading params log y one) same
        (caused_in x earlier rules rules (λ r i. i) x.caused h.0 one) j
    rounds_caused earlier (x ∷ rounds) h round one (inr i) j = rounds_caused (earlier ++ x.caused) rounds h.1 round one i j

    rounds_split : (earlier : List Caused) (before after : List FiredRound) (round : FiredRound) → RoundsFire may reading params log rules earlier (before ++ round ∷ after)
        → RulesFire may reading params log round (earlier ++ all_caused before) rules round.caused
    rounds_split earlier [] after round h =
        subst (λ (xs : List Caused). RulesFire may reading params log round xs rules round.caused) (sym (append-nil earlier)) h.0
    rounds_split earlier (x ∷ before) after round h =
        subst (λ (xs : List Caused). RulesFire may reading params log round xs rules round.caused) (append_assoc earlier x.caused (all_caused before))
        (rounds_split (earlier ++ x.caused) before after round h.1)

pub caused_holds : (may : Answers) (rules : List Rule) (reading : Reading) (params : Params) (log : List Entry) → AreNamed rules
    → (rounds : List FiredRound) → RoundsFire may reading params log rules [] rounds → CausedHolds may rules reading params log rounds
caused_holds may rules reading params log named rounds h =
    record {
      once = new_once (all_caused rounds) (rounds_new may reading params log rules [] rounds named h);
      each = λ round one c d. rounds_caused may reading params log rules [] rounds h round one (in_from_Contains rounds round c)
          (in_from_Contains round.caused one d);
      asked = λ before after round rule row split c awake active fresh.
          let h' : RoundsFire may reading params log rules [] (before ++ round ∷ after) = subst (RoundsFire may reading params log rules []) split h in
          let here = rounds_split may reading params log rules [] before after round h' in
          elim (asked_in may reading params log round (all_caused before) rules round.caused here rule row (in_from_Contains rules rule c) awake active fresh) [
            | inl fires ↦ inl (fires.0, contains_from_In round.caused fires.0 fires.1, fires.2, fires.3)
            | inr none ↦ inr none
          ];
    }
