-- Fields, arguments and commands, as they are accepted.
use Rattle.std.proofs.Common.{◌≡◌, ℕ, true, List, [], ◌∷◌, length, Result, Ok, ok_or, refl}
use Rattle.std.specs.Prelude.{codes}
use Rattle.serde_json.specs.Data.{Num, Data, null, boolean, number, string, array, object}
use Rattle.serde_json.specs.Find.{as_i64}
use Rattle.ledger_terms.specs.Answers.{◌>>=◌, check}
use Rattle.ledger_terms.specs.Parties.{set_of}
use Rattle.ledger_terms.specs.Pointers.{at_member}
use Rattle.ledger_terms.specs.declared.arg.Arg.{Arg}
use Rattle.ledger_terms.specs.declared.arg.Arg.TheVariants.{Plain, Contract}
use Rattle.ledger_terms.specs.declared.command.Command.{Command}
use Rattle.ledger_terms.specs.declared.command.Command.TheVariants.{Create, Exercise}
use Rattle.ledger_terms.specs.declared.host.Host.{Host}
use Rattle.ledger_terms.specs.declared.value.Value.{Value}
use Rattle.ledger_terms.specs.declared.value.Value.TheVariants.{Unit as UnitValue, Int, Bool as BoolValue, Text, Party, Parties}
use Rattle.ledger_terms.proofs.SetsOf.{all_set_of}
use Rattle.json_walk.specs.Lists.{list_of}
use Rattle.json_walk.specs.Texts.{text_of, template_in}
use Rattle.json_walk.specs.Walk.{Place, name_of, name_in, has_members, member_of, within_limit}
use Rattle.json_walk.specs.declared.limit.Limit.{Limit}
use Rattle.json_walk.specs.declared.limits.TheConstants.{TEXT_BYTES, FIELDS, PARAMETERS}
use Rattle.json_walk.specs.declared.walk_fault.WalkFault.{WalkFault}
use Rattle.json_walk.specs.declared.walk_fault.WalkFault.TheVariants.{Shape, Unknown, NotInteger}
use Rattle.json_walk.proofs.Kept.{after, passed, given, limit_kept, list_kept, few_kept}
use Rattle.lang_eval.specs.HandedIn.{parties_in_arg, parties_in_args, parties_in_command}
use Rattle.lang_eval.specs.Named.{AreKnown, parties_in_value}
use Rattle.lang_read.specs.Literals.{is_party_form, is_parties_form, party_value_of, parties_value_of}
use Rattle.lang_read.specs.Parties.{is_hosted, party_of, parties_of}
use Rattle.script_read.specs.Accepted.{IsShort, IsArg, AreArgs, IsCommand}
use Rattle.script_read.specs.Args.{int_of, text_arg_of, contract_of, plain, object_of, arg_of, args_in}
use Rattle.script_read.specs.Commands.{reference_in, has_create_members, create_of, has_exercise_members, exercise_of, is_create, is_exercise, create_in, exercise_in, command_of}
use Rattle.script_read.specs.Refs.{reference_of}
use Rattle.script_read.proofs.Cases.{by_test}
use Rattle.script_read.proofs.Lists.{all_of, each_weaker, tests_all, flat_known}
use Rattle.script_read.proofs.References.{member_name, template_read, reference_read, member_reference}
use Rattle.script_read.proofs.SameHosts.{AreSame}

module _ (read kept : List Host) (same : AreSame read kept) where
  -- ---- parties

  pub party_hosted : (at : Place) (d : Data) (a : List ℕ) → party_of read at d ≡ Ok a → is_hosted kept a ≡ true
  unfolding party_of
  party_hosted at d a h =
      let t = after (name_of at d) _ a h in
      let u = after (check (is_hosted read t.0) (Unknown at t.0)) _ a t.2 in
      rw (given t.0 a u.2) (same.hosted t.0 (passed (is_hosted read t.0) _ u.0 u.1))

  pub parties_hosted : (at : Place) (d : Data) (set : List (List ℕ)) → parties_of read at d ≡ Ok set → AreKnown (is_hosted kept) set
  unfolding parties_of
  parties_hosted at d set h =
      let n = after (list_of (party_of read) at d) _ set h in
      let each = list_kept (party_of read) (λ a. is_hosted kept a ≡ true) party_hosted at d n.0 n.1 in
      rw (given (set_of n.0) set n.2) (all_set_of (is_hosted kept) n.0 (tests_all (is_hosted kept) n.0 each))

  -- ---- values

  -- a value that is short, whose parties are hosted
  pub record IsValueRead (v : Value) : Type 0 where
    pub short : IsShort v
    pub hosted : AreKnown (is_hosted kept) (parties_in_value v)

  pub text_short : (at : Place) (s text : List ℕ) → text_of at s ≡ Ok text → IsShort (Text text)
  unfolding text_of
  text_short at s text h =
      let l = after (within_limit at TEXT_BYTES (length s)) _ text h in
      rw (given s text l.2) (limit_kept at TEXT_BYTES (length s) l.0 l.1).1

  pub party_value : (at : Place) (d : Data) (v : Value) → party_value_of read at d ≡ Ok v → IsValueRead v
  unfolding party_value_of
  party_value at d v h =
      let m = after (member_of at (codes "party") d) _ v h in
      let p = after (party_of read (at_member at (codes "party")) m.0) _ v m.2 in
      let is : is_hosted kept p.0 ≡ true = party_hosted (at_member at (codes "party")) m.0 p.0 p.1 in
      rw (given (Party p.0) v p.2) (record { short = tt; hosted = rw is refl })

  pub parties_value : (at : Place) (d : Data) (v : Value) → parties_value_of read at d ≡ Ok v → IsValueRead v
  unfolding parties_value_of
  parties_value at d v h =
      let m = after (member_of at (codes "parties") d) _ v h in
      let p = after (parties_of read (at_member at (codes "parties")) m.0) _ v m.2 in
      rw (given (Parties p.0) v p.2) (record { short = tt; hosted = parties_hosted (at_member at (codes "parties")) m.0 p.0 p.1 })

  -- ---- fields and arguments

  pub record IsArgRead (a : Arg) : Type 0 where
    pub accepted : IsArg kept a
    pub hosted : AreKnown (is_hosted kept) (parties_in_arg a)

  plain_read : (r : Result Value WalkFault) (a : Arg) → ((v : Value) → r ≡ Ok v → IsValueRead v) → (r >>= plain) ≡ Ok a → IsArgRead a
  plain_read r a one h =
      let v = after r plain a h in
      let is = one v.0 v.1 in
      rw (given (Plain v.0) a v.2) (record { accepted = is.short; hosted = is.hosted })

  contract_read : (at : Place) (d : Data) (a : Arg) → contract_of read at d ≡ Ok a → IsArgRead a
  unfolding contract_of
  contract_read at d a h =
      let c = after (check (has_members (codes "contract" ∷ []) [] d) (Shape at)) _ a h in
      let m = after (member_of at (codes "contract") d) _ a c.2 in
      let r = after (reference_of read (at_member at (codes "contract")) m.0) _ a m.2 in
      rw (given (Contract r.0) a r.2) (record { accepted = reference_read read kept same (at_member at (codes "contract")) m.0 r.0 r.1; hosted = refl })

  object_read : (at : Place) (d : Data) (a : Arg) → object_of read at d ≡ Ok a → IsArgRead a
  unfolding object_of
  object_read at d a h =
      by_test a (is_party_form d) (party_value_of read at d >>= plain) _
      (plain_read (party_value_of read at d) a (party_value at d))
      (by_test a (is_parties_form d) (parties_value_of read at d >>= plain) (contract_of read at d)
      (plain_read (parties_value_of read at d) a (parties_value at d))
      (contract_read at d a))
      h

  simple_read : (v : Value) (a : Arg) → IsValueRead v → plain v ≡ Ok a → IsArgRead a
  simple_read v a is h = rw (given (Plain v) a h) (record { accepted = is.short; hosted = is.hosted })

  int_read : (at : Place) (n : Num) (a : Arg) → int_of at n ≡ Ok a → IsArgRead a
  unfolding int_of
  int_read at n a h =
      let z = after (ok_or (as_i64 n) (NotInteger at)) _ a h in
      simple_read (Int z.0) a (record { short = tt; hosted = refl }) z.2

  text_read : (at : Place) (s : List ℕ) (a : Arg) → text_arg_of at s ≡ Ok a → IsArgRead a
  unfolding text_arg_of
  text_read at s a h =
      let t = after (text_of at s) _ a h in
      simple_read (Text t.0) a (record { short = text_short at s t.0 t.1; hosted = refl }) t.2

  pub arg_read : (at : Place) (d : Data) (a : Arg) → arg_of read at d ≡ Ok a → IsArgRead a
  unfolding arg_of
  arg_read at null a h = simple_read UnitValue a (record { short = tt; hosted = refl }) h
  arg_read at (boolean b) a h = simple_read (BoolValue b) a (record { short = tt; hosted = refl }) h
  arg_read at (number n) a h = int_read at n a h
  arg_read at (string s) a h = text_read at s a h
  arg_read at (array ds) a h = absurd (cc)
  arg_read at (object ms) a h = object_read at (object ms) a h

  pub record AreArgsRead (most : ℕ) (args : List Arg) : Type 0 where
    pub accepted : AreArgs kept most args
    pub hosted : AreKnown (is_hosted kept) (parties_in_args args)

  pub args_read : (at : Place) (k : List ℕ) (limit : Limit) (d : Data) (args : List Arg) → args_in read at k limit d ≡ Ok args → AreArgsRead limit.most args
  unfolding args_in
  args_read at k limit d args h =
      let m = after (member_of at k d) _ args h in
      let few = few_kept (arg_of read) IsArgRead arg_read (at_member at k) limit m.0 args m.2 in
      let accepted = each_weaker IsArgRead (IsArg kept) args (λ a is. is.accepted) few.2 in
      record {
        accepted = record { few = few.1; each = all_of (IsArg kept) args accepted };
        hosted = flat_known (is_hosted kept) parties_in_arg args (each_weaker IsArgRead (λ a. AreKnown (is_hosted kept) (parties_in_arg a)) args (λ a is. is.hosted) few.2);
      }

  -- ---- commands

  pub record IsCommandRead (c : Command) : Type 0 where
    pub accepted : IsCommand kept c
    pub hosted : AreKnown (is_hosted kept) (parties_in_command c)

  create_read : (at : Place) (d : Data) (c : Command) → create_of read at d ≡ Ok c → IsCommandRead c
  unfolding create_of
  create_read at d c h =
      let m = after (check (has_create_members d) (Shape at)) _ c h in
      let t = after (template_in at d) _ c m.2 in
      let f = after (args_in read at (codes "fields") FIELDS d) _ c t.2 in
      let fields = args_read at (codes "fields") FIELDS d f.0 f.1 in
      rw (given (Create t.0 f.0) c f.2) (record { accepted = (template_read at d t.0 t.1, fields.accepted); hosted = fields.hosted })

  exercise_read : (at : Place) (d : Data) (c : Command) → exercise_of read at d ≡ Ok c → IsCommandRead c
  unfolding exercise_of
  exercise_read at d c h =
      let m = after (check (has_exercise_members d) (Shape at)) _ c h in
      let t = after (template_in at d) _ c m.2 in
      let r = after (reference_in read at (codes "contract") d) _ c t.2 in
      let n = after (name_in at (codes "choice") d) _ c r.2 in
      let f = after (args_in read at (codes "args") PARAMETERS d) _ c n.2 in
      let args = args_read at (codes "args") PARAMETERS d f.0 f.1 in
      rw (given (Exercise t.0 r.0 n.0 f.0) c f.2) (record {
        accepted = (template_read at d t.0 t.1, member_reference read kept same at (codes "contract") d r.0 r.1, member_name at (codes "choice") d n.0 n.1, args.accepted);
        hosted = args.hosted;
      })

  pub command_read : (at : Place) (d : Data) (c : Command) → command_of read at d ≡ Ok c → IsCommandRead c
  unfolding command_of create_in exercise_in
  command_read at d c h =
      by_test c (is_create d) (create_in read at d) (exercise_in read at d)
      (λ k. let m = after (member_of at (codes "create") d) _ c k in create_read (at_member at (codes "create")) m.0 c m.2)
      (λ k. let e = after (check (is_exercise d) (Shape at)) _ c k in
      let m = after (member_of at (codes "exercise") d) _ c e.2 in exercise_read (at_member at (codes "exercise")) m.0 c m.2)
      h
