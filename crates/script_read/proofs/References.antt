-- Names and references to contracts, as they are accepted.
use Rattle.std.proofs.Common.{◌≡◌, ℕ, ◌+◌, ◌-◌, ◌*◌, ◌≤◌, true, List, [], ◌∷◌, ◌++◌, length, Option, Some, None, Result, Ok, Err, ok_or, sym, ◌∙◌, arith, ◌==◌}
use Rattle.std.specs.Prelude.{◌&&◌, nat_le, codes}
use Rattle.std.specs.List.{slice_split, AllByRecursion}
use Rattle.std.specs.Result.{result_ok}
use Rattle.std.proofs.lemmas.Bool.Decides.{nat_tests}
use Rattle.std.proofs.lemmas.List.{length_push}
use Rattle.std.proofs.lemmas.List.Splits.{length-slice_split}
use Rattle.hex.specs.Hex.{decode_sized}
use Rattle.hex.specs.declared.error.FromHexError.{FromHexError}
use Rattle.hex.proofs.HexLemmas.{decode_of-ok, decode_sized-ok, decode_sized-twice}
use Rattle.serde_json.specs.Data.{Data}
use Rattle.serde_json.specs.Find.{as_str}
use Rattle.ledger_terms.specs.Answers.{check}
use Rattle.ledger_terms.specs.Names.{is_name, IsName}
use Rattle.ledger_terms.specs.Pointers.{at_member}
use Rattle.ledger_terms.specs.declared.contract_ref.ContractRef.{ContractRef}
use Rattle.ledger_terms.specs.declared.contract_ref.ContractRef.TheVariants.{Id, Label as LabelRef}
use Rattle.ledger_terms.specs.declared.host.Host.{Host}
use Rattle.ledger_terms.specs.declared.label.Label.{Label}
use Rattle.ledger_terms.specs.declared.template_name.TemplateName.{TemplateName}
use Rattle.ledger_terms.proofs.Deciding.{both}
use Rattle.json_walk.specs.Texts.{parts_round, template_of, template_in}
use Rattle.json_walk.specs.Walk.{Place, name_of, name_in, member_of, within_limit}
use Rattle.json_walk.specs.declared.limits.TheConstants.{LABEL_STEPS}
use Rattle.json_walk.specs.declared.walk_fault.WalkFault.TheVariants.{Shape, Unknown}
use Rattle.json_walk.proofs.Kept.{after, passed, given, limit_kept, all_push}
use Rattle.script_read.specs.Accepted.{IsTemplate, IsLabel, IsReference}
use Rattle.script_read.specs.Commands.{reference_in}
use Rattle.script_read.specs.Hosts.{is_participant}
use Rattle.script_read.specs.Refs.{hash_named, hash_of, is_digit, step_named, steps_from, path_named, label_with, label_named, label_of, behind_mark, reference_by, reference_of}
use Rattle.script_read.proofs.Lists.{all_of, some_read, some_then, some_where}
use Rattle.script_read.proofs.SameHosts.{AreSame}

-- ---- names

pub name_read : (at : Place) (d : Data) (name : List ℕ) → name_of at d ≡ Ok name → IsName name
unfolding name_of
name_read at d name h =
    let s = after (ok_or (as_str d) (Shape at)) _ name h in
    let c = after (check (is_name s.0) (Shape at)) _ name s.2 in
    rw (given s.0 name c.2) (passed (is_name s.0) _ c.0 c.1)

pub member_name : (at : Place) (k : List ℕ) (d : Data) (name : List ℕ) → name_in at k d ≡ Ok name → IsName name
unfolding name_in
member_name at k d name h =
    let m = after (member_of at k d) _ name h in
    name_read (at_member at k) m.0 name m.2

template_named : (at : Place) (d : Data) (t : TemplateName) → template_of at d ≡ Ok t → IsTemplate t
unfolding template_of
template_named at d t h =
    let s = after (ok_or (as_str d) (Shape at)) _ t h in
    let p = after (ok_or (parts_round 46 s.0) (Shape at)) _ t s.2 in
    let c = after (check (is_name p.0.0 && is_name p.0.1) (Shape at)) _ t p.2 in
    let names = both (is_name p.0.0) (is_name p.0.1) (passed (is_name p.0.0 && is_name p.0.1) _ c.0 c.1) in
    rw (given (record { «package» = p.0.0; name = p.0.1 }) t c.2) (record { «package» = names.0; name = names.1 })

pub template_read : (at : Place) (d : Data) (t : TemplateName) → template_in at d ≡ Ok t → IsTemplate t
unfolding template_in
template_read at d t h =
    let m = after (member_of at (codes "template") d) _ t h in
    template_named (at_member at (codes "template")) m.0 t m.2

-- ---- hashes

decoded : (r : Result (List ℕ) FromHexError) (hash : List ℕ) → result_ok r ≡ Some hash → r ≡ Ok hash
decoded (Ok bytes) hash h = cc
decoded (Err e) hash h = absurd (cc)

hash_length : (s hash : List ℕ) → hash_named s ≡ Some hash → length hash ≡ 32
hash_length s hash h =
    let d = decoded (decode_sized s 32) hash h in
    let digits = decode_sized-ok s 32 hash d in
    let bytes = decode_of-ok s hash (sym (decode_sized-twice s 32 digits) ∙ d) in
    omega (arith, digits, bytes.2)

pub hash_read : (at : Place) (d : Data) (hash : List ℕ) → hash_of at d ≡ Ok hash → length hash ≡ 32
unfolding hash_of
hash_read at d hash h =
    let s = after (ok_or (as_str d) (Shape at)) _ hash h in
    hash_length s.0 hash (some_read (hash_named s.0) _ hash s.2)

-- ---- labels

abbrev IsStep : ℕ → Type 0
IsStep n = n ≤ 63

step_low : (w : List ℕ) (n : ℕ) → step_named w ≡ Some n → IsStep n
step_low [] n h = absurd (cc)
step_low (b ∷ []) n h =
    let s = some_where (is_digit b) (b - 48) n h in
    let digit : (nat_le 48 b && nat_le b 57) ≡ true = s.0 in
    let high : nat_le b 57 ≡ true = (both (nat_le 48 b) (nat_le b 57) digit).1 in
    let low : b ≤ 57 = grind (arith, nat_tests) in
    omega (arith, low, s.1)
step_low (b ∷ c ∷ []) n h =
    let s = some_where (nat_le 49 b && (is_digit b && (is_digit c && nat_le ((b - 48) * 10 + (c - 48)) 63))) ((b - 48) * 10 + (c - 48)) n h in
    let x = both (nat_le 49 b) _ s.0 in
    let y = both (is_digit b) _ x.1 in
    let z : nat_le ((b - 48) * 10 + (c - 48)) 63 ≡ true = (both (is_digit c) _ y.1).1 in
    let low : (b - 48) * 10 + (c - 48) ≤ 63 = grind (arith, nat_tests) in
    rw s.1 low
step_low (b ∷ c ∷ e ∷ more) n h = absurd (cc)

record AreSteps (count : ℕ) (path : List ℕ) : Type 0 where
  many : length path ≡ count
  low : AllByRecursion IsStep path

steps_read : (before : List ℕ) (ws : List (List ℕ)) (path : List ℕ) → steps_from before ws ≡ Some path → AllByRecursion IsStep before
    → AreSteps (length before + length ws) path
steps_read before [] path h p =
    let same : path ≡ before = cc in
    rw same (record { many = omega arith; low = p })
steps_read before (w ∷ ws) path h p =
    let s = some_then (step_named w) (λ n. steps_from (before ++ n ∷ []) ws) path h in
    let r = steps_read (before ++ s.0 ∷ []) ws path s.2 (all_push IsStep before s.0 p (step_low w s.0 s.1)) in
    record { many = omega (arith, r.many, length_push before s.0); low = r.low }

-- 1 step at least, each below 64
record IsPath (path : List ℕ) : Type 0 where
  some : 1 ≤ length path
  low : AllByRecursion IsStep path

path_read : (s path : List ℕ) → path_named s ≡ Some path → IsPath path
unfolding path_named
path_read s path h =
    let r = steps_read [] (slice_split (λ b. b == 46) s) path h tt in
    record { some = omega (arith, r.many, length-slice_split (λ b. b == 46) s); low = r.low }

record IsSpelled (l : Label) : Type 0 where
  command : IsName l.command
  path : IsPath l.path

label_spelled : (s : List ℕ) (l : Label) → label_named s ≡ Some l → IsSpelled l
unfolding label_named
label_spelled s l h =
    let p = some_then (parts_round 58 s) _ l h in
    let q = some_then (parts_round 58 p.0.1) _ l p.2 in
    let w = some_then (path_named q.0.1) (label_with p.0.0 q.0.0) l q.2 in
    let c = some_where (is_name p.0.0 && is_name q.0.0) (record { participant = p.0.0; command = q.0.0; path = w.0 }) l w.2 in
    rw c.1 (record { command = (both (is_name p.0.0) (is_name q.0.0) c.0).1; path = path_read q.0.1 w.0 w.1 })

-- ---- references, where what participants were read is kept

module _ (read kept : List Host) (same : AreSame read kept) where
  label_read : (at : Place) (s : List ℕ) (l : Label) → label_of read at s ≡ Ok l → IsLabel kept l
  unfolding label_of
  label_read at s l h =
      let n = after (ok_or (label_named s) (Shape at)) _ l h in
      let f = after (within_limit at LABEL_STEPS (length n.0.path)) _ l n.2 in
      let c = after (check (is_participant read n.0.participant) (Unknown at n.0.participant)) _ l f.2 in
      let spelled = label_spelled s n.0 (some_read (label_named s) _ n.0 n.1) in
      rw (given n.0 l c.2) (record {
        participant = same.named n.0.participant (passed (is_participant read n.0.participant) _ c.0 c.1);
        command = spelled.command;
        some = spelled.path.some;
        few = (limit_kept at LABEL_STEPS (length n.0.path) f.0 f.1).1;
        low = all_of IsStep n.0.path spelled.path.low;
      })

  named_read : (at : Place) (s : List ℕ) (o : Option (List ℕ)) (r : ContractRef) → reference_by read at s o ≡ Ok r → IsReference kept r
  named_read at s (Some label) r h =
      let l = after (label_of read at label) _ r h in
      rw (given (LabelRef l.0) r l.2) (label_read at label l.0 l.1)
  named_read at s None r h =
      let i = after (ok_or (hash_named s) (Shape at)) _ r h in
      rw (given (Id i.0) r i.2) (hash_length s i.0 (some_read (hash_named s) _ i.0 i.1))

  pub reference_read : (at : Place) (d : Data) (r : ContractRef) → reference_of read at d ≡ Ok r → IsReference kept r
  unfolding reference_of
  reference_read at d r h =
      let s = after (ok_or (as_str d) (Shape at)) _ r h in
      named_read at s.0 (behind_mark s.0) r s.2

  pub member_reference : (at : Place) (k : List ℕ) (d : Data) (r : ContractRef) → reference_in read at k d ≡ Ok r → IsReference kept r
  unfolding reference_in
  member_reference at k d r h =
      let m = after (member_of at k d) _ r h in
      reference_read (at_member at k) m.0 r m.2
