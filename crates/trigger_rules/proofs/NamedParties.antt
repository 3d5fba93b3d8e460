-- Whom what rules exercise names, and which ids are kept.
use Rattle.std.proofs.Common.{◌≡◌, ℕ, ◌<◌, ◌^◌, Bool, true, List, [], ◌∷◌, ◌++◌, length, take, drop, Contains, refl, sym, ap, ◌∙◌, subst, inl, inr, arith, append-nil}
use Rattle.std.specs.Prelude.{nat_eq}
use Rattle.std.specs.Fmt.{decimal}
use Rattle.std.specs.List.{list_all}
use Rattle.std.specs.Str.{bytes_eq}
use Rattle.std.specs.Str.Parse.{digits_value}
use Rattle.std.specs.Str.{all_ascii_digits}
use Rattle.std.specs.Char.{is_ascii_digit}
use Rattle.std.proofs.lemmas.Bool.{and_parts, and_from, eq-eqb, lt-ltb}
use Rattle.std.proofs.lemmas.Fmt.{digits_decimal, decimal_nonempty}
use Rattle.std.proofs.lemmas.Slice.Eq.{bytes_eq-Decides}
use Rattle.std.proofs.lemmas.Str.Parse.{IsNumeralModel, numerals_by_value, tells_all_ascii_digits}
use Rattle.std.proofs.Math.Seq.{take-append_seam, drop-append_seam}
use Rattle.ledger_model.proofs.Lists.{In, in_any, in_from_Contains, from_any}
use Rattle.ledger_terms.specs.Parties.{has_party, same_name}
use Rattle.ledger_terms.specs.declared.command.Command.{Command}
use Rattle.ledger_terms.specs.declared.known.Known.{Known}
use Rattle.lang_eval.specs.HandedIn.{parties_in_args, parties_in_commands}
use Rattle.lang_eval.specs.Named.{AreKnown, parties_in_instance}
use Rattle.trigger_rules.specs.declared.rule.Rule.{Rule}
use Rattle.trigger_rules.specs.Firing.{command_id}
use Rattle.trigger_rules.specs.Ids.{is_number, is_hyphen_and_number, is_numbered, is_rule_command}
use Rattle.trigger_rules.specs.Answers.{IsExerciseOf}

module _ (test : List ℕ → Bool) where
  all_in : (ps : List (List ℕ)) (p : List ℕ) → list_all test ps ≡ true → In p ps → test p ≡ true
  all_in [] p h i = absurd i
  all_in (x ∷ ps) p h (inl same) = ap test (sym same) ∙ (and_parts (test x) (list_all test ps) h).0
  all_in (x ∷ ps) p h (inr i) = all_in ps p (and_parts (test x) (list_all test ps) h).1 i

  all_of : (ps xs : List (List ℕ)) → list_all test ps ≡ true → list_all (has_party ps) xs ≡ true → list_all test xs ≡ true
  all_of ps [] h k = refl
  all_of ps (x ∷ xs) h k =
      let parts = and_parts (has_party ps x) (list_all (has_party ps) xs) k in
      let found = from_any (λ p. same_name p x) ps parts.0 in
      let same : found.0 ≡ x = (bytes_eq-Decides found.0 x).0 found.2 in
      and_from (test x) (list_all test xs) (ap test (sym same) ∙ all_in ps found.0 h found.1) (all_of ps xs h parts.1)

  pub names_known : (known : Known) (command : Command) → IsExerciseOf known command → AreKnown test (parties_in_instance known.instance)
      → AreKnown test (parties_in_commands (command ∷ []))
  names_known known command l h =
      let args = all_of (parties_in_instance known.instance) (parties_in_args l.args) h l.named in
      rw l.exercises (rw (append-nil (parties_in_args l.args)) args)

own : IsNumeralModel (λ ds. all_ascii_digits ds ≡ true) (digits_value 10)
own = numerals_by_value _ tells_all_ascii_digits

all_digits : (ds : List ℕ) → all_ascii_digits ds ≡ true → list_all is_ascii_digit ds ≡ true
all_digits [] h = refl
all_digits (d ∷ ds) h =
    let parts = and_parts (is_ascii_digit d) (all_ascii_digits ds) h in
    and_from (is_ascii_digit d) (list_all is_ascii_digit ds) parts.0 (all_digits ds parts.1)

numbered : (name : List ℕ) (n : ℕ) → n < 2 ^ 64 → is_numbered name (command_id name n) ≡ true
numbered name n lt =
    let front : bytes_eq (take (length name) (command_id name n)) name ≡ true =
    (bytes_eq-Decides (take (length name) (command_id name n)) name).1 (take-append_seam name (45 ∷ decimal n)) in
    let digits : is_number (decimal n) ≡ true =
    and_from _ _ (lt-ltb 0 (length (decimal n)) (decimal_nonempty n lt)) (all_digits (decimal n) (digits_decimal own n lt)) in
    let behind : is_hyphen_and_number (drop (length name) (command_id name n)) ≡ true =
    ap is_hyphen_and_number (drop-append_seam name (45 ∷ decimal n)) ∙ digits in
    and_from _ _ front behind

same_number : (n : ℕ) → nat_eq n n ≡ true
same_number n = eq-eqb n n refl

pub id_is_kept : (rules : List Rule) (rule : Rule) (n : ℕ) → Contains rules rule → n < 100000000000
    → is_rule_command rules rule.participant (command_id rule.name n) ≡ true
id_is_kept rules rule n c few =
    in_any _ rules rule (in_from_Contains rules rule c)
    (and_from _ _ (same_number rule.participant) (numbered rule.name n (omega (arith, few))))
