-- The walk of the rules keeps them few and apart.
use Rattle.std.proofs.Common.{◌≡◌, ◌≢◌, ℕ, suc, ◌+◌, ◌<◌, ◌≤◌, Bool, true, false, List, [], ◌∷◌, ◌++◌, length, get_or, All, Option, Some, None, Result, Ok, option_map, refl, sym, ap, ◌∙◌, subst, arith}
use Rattle.std.specs.Prelude.{not, codes, ok_or, slice_get, if◌then◌else◌}
use Rattle.std.specs.List.{list_any, AllPairs}
use Rattle.std.proofs.lemmas.Bool.{both_ways}
use Rattle.std.proofs.lemmas.List.{length_push}
use Rattle.std.proofs.lemmas.List.Elements.{All-nil, All-push}
use Rattle.std.proofs.lemmas.List.Quantifiers.{all_pairs_push}
use Rattle.std.proofs.lemmas.Option.{slice_get-get_or}
use Rattle.std.proofs.lemmas.Slice.Eq.{bytes_eq-Decides}
use Rattle.serde_json.specs.Data.{Data, Items}
use Rattle.serde_json.specs.Find.{get}
use Rattle.ledger_terms.specs.Answers.{check}
use Rattle.ledger_terms.specs.Parties.{same_name}
use Rattle.ledger_terms.specs.Pointers.{at_item, at_member}
use Rattle.ledger_terms.specs.declared.host.Host.{Host}
use Rattle.json_walk.specs.Walk.{Place, few_items_of, item_count, items_of, member_of, name_in, name_of, walk_items, within_limit}
use Rattle.json_walk.specs.declared.walk_fault.WalkFault.{WalkFault}
use Rattle.json_walk.specs.declared.walk_fault.WalkFault.TheVariants.{Repeated, Shape, Unknown}
use Rattle.json_walk.proofs.Kept.{after, given, limit_kept, passed, walk_keeps}
use Rattle.lang_read.specs.Parties.{is_hosted, party_of}
use Rattle.ledger_model.proofs.Lists.{at_in, in_any}
use Rattle.trigger_rules.specs.declared.rule.Rule.{Rule}
use Rattle.trigger_rules.specs.Kept.{AreNamed}
use Rattle.trigger_rules.specs.Ids.{is_rule_command}
use Rattle.ledger_terms.specs.Names.{IsName}
use Rattle.script_read.specs.Kept.{AreRules, IsOwn, IsRule}
use Rattle.script_read.specs.Participants.{participant_of}
use Rattle.script_read.specs.Triggers.{has_rule_members, is_rule, own_command_in, rule_name_in, rule_of, rule_participant_in, rule_party_in, rule_step, rules_if, rules_of, triggers_in}
use Rattle.json_walk.specs.declared.limits.TheConstants.{RULE_NAME_BYTES, RULES}
use Rattle.script_read.proofs.Participating.{participant_within}
use Rattle.script_read.proofs.References.{member_name}
use Rattle.script_read.proofs.SameHosts.{AreSame}

not_false : (b : Bool) → not b ≡ true → b ≡ false
not_false true h = absurd (cc)
not_false false h = refl

participant_kept : (read kept : List Host) → AreSame read kept → (at : Place) (d : Data) (k : ℕ) → rule_participant_in read at d ≡ Ok k → k < length kept
unfolding rule_participant_in
participant_kept read kept same at d k h =
    let m = after (member_of at (codes "participant") d) _ k h in
    participant_within read kept same (at_member at (codes "participant")) m.0 k m.2

party_kept : (read kept : List Host) → AreSame read kept → (at : Place) (d : Data) (party : List ℕ) → rule_party_in read at d ≡ Ok party → is_hosted kept party ≡ true
unfolding rule_party_in party_of
party_kept read kept same at d party h =
    let m = after (member_of at (codes "party") d) _ party h in
    let n = after (name_of (at_member at (codes "party")) m.0) _ party m.2 in
    let t = after (check (is_hosted read n.0) (Unknown (at_member at (codes "party")) n.0)) _ party n.2 in
    rw (given n.0 party t.2) (same.hosted n.0 (passed (is_hosted read n.0) _ t.0 t.1))

-- the name is short, and none so far has it
name_kept : (before : List Rule) (at : Place) (d : Data) (name : List ℕ) → rule_name_in before at d ≡ Ok name → (length name ≤ 20) × (is_rule before name ≡ false)
unfolding rule_name_in
name_kept before at d name h =
    let n = after (name_in at (codes "name") d) _ name h in
    let l = after (within_limit (at_member at (codes "name")) RULE_NAME_BYTES (length n.0)) _ name n.2 in
    let t = after (check (not (is_rule before n.0)) (Repeated (at_member at (codes "name")))) _ name l.2 in
    let short = limit_kept (at_member at (codes "name")) RULE_NAME_BYTES (length n.0) l.0 l.1 in
    rw (given n.0 name t.2) (short.1, not_false (is_rule before n.0) (passed _ _ t.0 t.1))

-- the rules of a walk so far
record AreSoFar (hosts : List Host) (i : ℕ) (rules : List Rule) : Type 0 where
  many : length rules ≡ i
  each : All (IsRule hosts) rules
  named : AreNamed rules

module _ (read kept : List Host) (same : AreSame read kept) where
  apart : (before : List Rule) (name : List ℕ) → is_rule before name ≡ false → (k : ℕ) (d : Rule) → k < length before → name ≢ (get_or before k d).name
  apart before name free k d lt same =
      let one = get_or before k d in
      let there = at_in before k one (slice_get-get_or before k d lt) in
      both_ways _ free (in_any (λ (rule : Rule). same_name rule.name name) before one there ((bytes_eq-Decides one.name name).1 (sym same)))

  rule_kept : (at : Place) (i : ℕ) (a b : List Rule) (d : Data) → AreSoFar kept i a → rule_step read at i a d ≡ Ok b → AreSoFar kept (i + 1) b
  unfolding rule_of
  rule_kept at i a b d p h =
      let s = after (check (has_rule_members d) (Shape (at_item at i))) _ b h in
      let n = after (rule_name_in a (at_item at i) d) _ b s.2 in
      let k = after (rule_participant_in read (at_item at i) d) _ b n.2 in
      let q = after (rule_party_in read (at_item at i) d) _ b k.2 in
      let name = name_kept a (at_item at i) d n.0 n.1 in
      let rule : Rule = record { name = n.0; participant = k.0; party = q.0 } in
      let grown = length_push a rule in
      rw (given (a ++ rule ∷ []) b q.2) (record {
        many = omega (arith, grown, p.many);
        each = All-push (IsRule kept) a rule p.each (record {
          short = name.0;
          participant = participant_kept read kept same (at_item at i) d k.0 k.1;
          hosted = party_kept read kept same (at_item at i) d q.0 q.1;
        });
        named = all_pairs_push (λ (one other : Rule). other.name ≢ one.name) a rule p.named (apart a n.0 name.1);
      })

  no_rules : AreSoFar kept 0 []
  no_rules = record { many = refl; each = All-nil (IsRule kept); named = λ i j d lt within. absurd (omega (arith, within)) }

  rules_read : (at : Place) (d : Data) (rules : List Rule) → rules_of read at d ≡ Ok rules → AreRules kept rules
  unfolding rules_of few_items_of
  rules_read at d rules h =
      let f = after (few_items_of at RULES d) _ rules h in
      let g = after (items_of at d) _ f.0 f.1 in
      let k = after (within_limit at RULES (item_count g.0)) _ f.0 g.2 in
      let l = limit_kept at RULES (item_count g.0) k.0 k.1 in
      let items = ap item_count (given g.0 f.0 k.2) in
      let w = walk_keeps (rule_step read at) (AreSoFar kept) (rule_kept at) 0 [] rules f.0 no_rules f.2 in
      record { few = omega (arith, l.1, items, w.many); each = w.each; named = w.named }

  by_member : (at : Place) (o : Option Data) (rules : List Rule) → rules_if read at o ≡ Ok rules → AreRules kept rules
  by_member at None rules h = rw (given [] rules h) (record { few = omega arith; each = no_rules.each; named = no_rules.named })
  by_member at (Some d) rules h = rules_read at d rules h

pub rules_kept : (read kept : List Host) → AreSame read kept → (d : Data) (rules : List Rule) → triggers_in read d ≡ Ok rules → AreRules kept rules
unfolding triggers_in
rules_kept read kept same d rules h = by_member read kept same (at_member [] (codes "triggers")) (get (codes "triggers") d) rules h

-- the id of a command, which is kept for no rule
pub own_command : (rules : List Rule) (participant : ℕ) (at : Place) (d : Data) (command : List ℕ) → own_command_in rules participant at d ≡ Ok command
    → IsName command × IsOwn rules participant command
unfolding own_command_in
own_command rules participant at d command h =
    let n = after (name_in at (codes "command") d) _ command h in
    let t = after (check (not (is_rule_command rules participant n.0)) (Repeated (at_member at (codes "command")))) _ command n.2 in
    let name = member_name at (codes "command") d n.0 n.1 in
    rw (given n.0 command t.2) (name, not_false (is_rule_command rules participant n.0) (passed _ _ t.0 t.1))
