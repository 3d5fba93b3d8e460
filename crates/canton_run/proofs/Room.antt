-- What rules cause has room: no rule fires too often or is asked about too many contracts, and what they cause can be submitted.
use Rattle.std.proofs.Common.{◌≡◌, ℕ, zero, suc, ◌*◌, ◌<◌, ◌≤◌, false, List, [], ◌∷◌, Some, filter, take, length, Contains, refl, sym, ap, ◌∙◌, subst, inl, inr, arith, length-take-le}
use Rattle.std.specs.Prelude.{slice_get}
use Rattle.std.specs.List.{AllByRecursion, IsDistinct}
use Rattle.std.specs.Str.{bytes_eq}
use Rattle.std.proofs.lemmas.Bool.{cases_Bool, cases_order}
use Rattle.std.proofs.lemmas.List.Elements.{All-contains}
use Rattle.std.proofs.lemmas.Option.{get_or_from_slice_get, none-some, slice_get_within}
use Rattle.std.proofs.lemmas.Slice.Eq.{bytes_eq-Decides}
use Rattle.ledger_terms.specs.declared.active_row.ActiveRow.{ActiveRow}
use Rattle.ledger_model.proofs.Lists.{In, contains_from_In, from_filter, in_append_cases, in_at, in_from_Contains}
use Rattle.canton_model.specs.Inbox.{clean, inbox}
use Rattle.canton_model.specs.Log.{request_at}
use Rattle.canton_model.specs.declared.request.Request.{Request}
use Rattle.canton_model.proofs.InboxFacts.{clean_is_clean}
use Rattle.world_model.specs.Messages.{Entry}
use Rattle.world_model.proofs.NodeFacts.{inbox_length}
use Rattle.lang_eval.specs.Named.{AreKnown, parties_in_instance}
use Rattle.sealed_form.specs.Within.{is_hosted}
use Rattle.framed_form.specs.Collisions.{AreFramed}
use Rattle.log_bounds.specs.Bounds.{WasActive}
use Rattle.log_bounds.proofs.Logs.{active_known, few_active, few_contracts}
use Rattle.log_bounds.proofs.Requests.{in_map}
use Rattle.trigger_rules.specs.declared.caused.Caused.{Caused}
use Rattle.trigger_rules.specs.declared.rule.Rule.{Rule}
use Rattle.trigger_rules.specs.Answers.{Answers}
use Rattle.trigger_rules.specs.Kept.{AreNamed}
use Rattle.trigger_rules.proofs.NamedParties.{names_known}
use Rattle.trigger_model.specs.CausedRun.{AreOnce, CausedHolds, FiredRound, IsCausedIn, active_at_clean, all_caused, fired_on, is_by}
use Rattle.script_read.specs.Kept.{IsAccepted, IsRule}
use Rattle.script_read.specs.declared.script.Script.{Script}
use Rattle.world_play.specs.Submitting.{CanSubmit}
use Rattle.canton_run.specs.Run.{params_of, reading_for}
use Rattle.canton_run.proofs.Hosted.{hosted}

-- ---- on which contracts the rule of a name fires

once_behind : (x : Caused) (xs : List Caused) → AreOnce (x ∷ xs) → AreOnce xs
once_behind x xs once i j a b at bt rule contract =
    let same : suc i ≡ suc j = once (suc i) (suc j) a b at bt rule contract in
    omega (arith, same)

-- the first of them is on another contract than those behind it that are by its rule
first_apart : (x : Caused) (xs : List Caused) → AreOnce (x ∷ xs) → (one : Caused) → In one xs → one.rule ≡ x.rule → bytes_eq x.contract one.contract ≡ false
first_apart x xs once one i rule =
    elim (cases_Bool (bytes_eq x.contract one.contract)) [
      | inl same ↦
          (let at = in_at xs one i in
          let none : 0 ≡ suc at.0 = once 0 (suc at.0) x one refl at.1 (sym rule) ((bytes_eq-Decides x.contract one.contract).0 same) in
          absurd (omega (arith, none)))
      | inr apart ↦ apart
    ]

all_apart : (name id : List ℕ) (xs : List Caused) → ((one : Caused) → In one xs → one.rule ≡ name → bytes_eq id one.contract ≡ false)
    → AllByRecursion (λ (other : List ℕ). bytes_eq id other ≡ false) (fired_on name xs)
all_apart name id [] apart = tt
all_apart name id (x ∷ xs) apart =
    let rest = all_apart name id xs (λ one i. apart one (inr i)) in
    elim (cases_Bool (bytes_eq x.rule name)) [
      | inl own ↦ rw own (apart x (inl refl) ((bytes_eq-Decides x.rule name).0 own), rest)
      | inr other ↦ rw other rest
    ]

distinct : (name : List ℕ) (caused : List Caused) → AreOnce caused → IsDistinct bytes_eq (fired_on name caused)
unfolding IsDistinct
distinct name [] once = tt
distinct name (x ∷ xs) once =
    let rest = distinct name xs (once_behind x xs once) in
    elim (cases_Bool (bytes_eq x.rule name)) [
      | inl own ↦
          (let is = (bytes_eq-Decides x.rule name).0 own in
          rw own (all_apart name x.contract xs (λ one i rule. first_apart x xs once one i (rule ∙ sym is)), rest))
      | inr other ↦ rw other rest
    ]

in_rounds : (rounds : List FiredRound) (one : Caused) → In one (all_caused rounds) → (round : FiredRound) × In round rounds × In one round.caused
in_rounds [] one i = absurd i
in_rounds (x ∷ rounds) one i =
    elim (in_append_cases x.caused (all_caused rounds) one i) [
      | inl here ↦ (x, inl refl, here)
      | inr later ↦ let r = in_rounds rounds one later in (r.0, inr r.1, r.2)
    ]

-- the rule at a place is the only one of its name
only_rule : (rules : List Rule) → AreNamed rules → (k : ℕ) (rule other : Rule) → slice_get rules k ≡ Some rule → Contains rules other
    → other.name ≡ rule.name → other ≡ rule
only_rule rules named k rule other at there same =
    let is = get_or_from_slice_get rules k rule other at in
    let within = slice_get_within rules k rule at in
    let its = ap (λ (r : Rule). r.name) is in
    let own = ap (λ (r : Rule). r.name) there.2 in
    elim (cases_order there.0 k) [
      | inl here ↦ sym there.2 ∙ get_or_from_slice_get rules there.0 rule other (ap (slice_get rules) here ∙ at)
      | inr apart ↦ elim apart [
        | inl before ↦ absurd (named there.0 k other before within (its ∙ (sym same ∙ sym own)))
        | inr after ↦ absurd (named k there.0 other after there.1 (own ∙ (same ∙ sym its)))
      ]
    ]

-- ---- what the first entries request

request_front : (n : ℕ) (log : List Entry) (k : ℕ) (request : Request) → request_at (take n log) k ≡ Some request → request_at log k ≡ Some request
request_front zero log k request at = absurd (none-some request at)
request_front (suc n) [] k request at = at
request_front (suc n) (x ∷ log) zero request at = at
request_front (suc n) (x ∷ log) (suc k) request at = request_front n log k request at

module _ (script : Script) (accepted : IsAccepted script) (log : List Entry) (framed : AreFramed script.topology log) where
  framed_front : (n : ℕ) → AreFramed script.topology (take n log)
  framed_front n k request at = framed k request (request_front n log k request at)

  -- how often a rule has fired
  module _ (may : Answers) (rounds : List FiredRound) (causes : CausedHolds may script.triggers (reading_for script) (params_of script) log rounds)
      (k : ℕ) (rule : Rule) (at : slice_get script.triggers k ≡ Some rule) where
    was_active : (id : List ℕ) → Contains (fired_on rule.name (all_caused rounds)) id → WasActive (reading_for script) rule.participant log id
    was_active id there =
        let fires = filter (is_by rule.name) (all_caused rounds) in
        let made = in_map (λ (one : Caused). one.contract) fires id (in_from_Contains (fired_on rule.name (all_caused rounds)) id there) in
        let kept = from_filter (is_by rule.name) (all_caused rounds) made.0 made.1 in
        let round = in_rounds rounds made.0 kept.0 in
        let cause = causes.each round.0 made.0 (contains_from_In rounds round.0 round.1) (contains_from_In (round.0).caused made.0 round.2) in
        let name : (cause.rule).name ≡ rule.name =
        sym (ap (λ (one : Caused). one.rule) cause.is) ∙ (bytes_eq-Decides (made.0).rule rule.name).0 kept.1 in
        let id_is : ((cause.row).known).id ≡ id = sym (ap (λ (one : Caused). one.contract) cause.is) ∙ made.2 in
        subst (λ (r : Rule). WasActive (reading_for script) r.participant log id)
        (only_rule script.triggers (accepted.triggers).named k rule cause.rule at cause.is_rule name)
        (record {
          read = cause.read_to;
          below = clean (params_of script) (inbox (reading_for script) (cause.rule).participant (take cause.read_to log));
          row = cause.row;
          active = cause.active;
          is = id_is;
        })

    pub few_fires : length (fired_on rule.name (all_caused rounds)) ≤ 131072 * length log
    few_fires =
        few_contracts script.topology script.checked rule.participant log framed (fired_on rule.name (all_caused rounds))
        (distinct rule.name (all_caused rounds) causes.once) was_active

  -- about how many contracts it is asked
  pub few_rows : (p n : ℕ) → n ≤ length log → length (active_at_clean (reading_for script) (params_of script) p n log) ≤ 131072 * length log
  few_rows p n le =
      let items = inbox (reading_for script) p (take n log) in
      let few = few_active script.topology script.checked p (take n log) (framed_front n) (clean (params_of script) items) in
      let within = (clean_is_clean (params_of script) items).within in
      let many : length items ≡ length (take n log) = inbox_length (reading_for script) p [] (take n log) in
      let read = length-take-le n log le in
      omega (arith, few, within, many, read, le)

  -- what was caused can be submitted
  pub caused_can : (may : Answers) (round : FiredRound) (one : Caused) → IsCausedIn may script.triggers (reading_for script) (params_of script) log round one
      → CanSubmit script.topology script.checked one.submission × ((one.submission).participant < length (script.topology).hosts)
  caused_can may round one cause =
      let p = (cause.rule).participant in
      let rows = active_at_clean (reading_for script) (params_of script) p cause.read_to log in
      let items = inbox (reading_for script) p (take cause.read_to log) in
      let all = active_known script.topology script.checked p (take cause.read_to log) (framed_front cause.read_to) (clean (params_of script) items) in
      let known : AreKnown (is_hosted script.topology) (parties_in_instance ((cause.row).known).instance) =
      All-contains (λ (row : ActiveRow). AreKnown (is_hosted script.topology) (parties_in_instance row.known.instance)) rows cause.row all cause.active in
      let rule = All-contains (IsRule (script.topology).hosts) script.triggers cause.rule (accepted.triggers).each cause.is_rule in
      subst (λ (x : Caused). CanSubmit script.topology script.checked x.submission × ((x.submission).participant < length (script.topology).hosts)) (sym cause.is) (
        record {
          valid = accepted.topology;
          named_by_packages = hosted script.topology _ (accepted.packages).hosted;
          named_by_input = names_known (is_hosted script.topology) (cause.row).known cause.command cause.exercises known;
        },
        rule.participant,
      )
