-- Prepared actions without their children, as they are accepted.
use Rattle.std.proofs.Common.{◌≡◌, ℕ, ◌++◌, Bool, List, Option, Some, None, Ok, refl}
use Rattle.std.specs.Prelude.{codes, MatchOption}
use Rattle.serde_json.specs.Data.{Data, null, boolean, number, string, array, object}
use Rattle.ledger_terms.specs.Answers.{check}
use Rattle.ledger_terms.specs.Drafts.{Drafts}
use Rattle.ledger_terms.specs.declared.draft_action.DraftAction.{DraftAction}
use Rattle.ledger_terms.specs.declared.draft_action.DraftAction.TheVariants.{Create as DraftCreate, Exercise as DraftExercise, Fetch as DraftFetch}
use Rattle.ledger_terms.specs.Names.{IsName}
use Rattle.ledger_terms.specs.Pointers.{at_member}
use Rattle.ledger_terms.specs.declared.arg.Arg.{Arg}
use Rattle.ledger_terms.specs.declared.contract_ref.ContractRef.{ContractRef}
use Rattle.ledger_terms.specs.declared.host.Host.{Host}
use Rattle.ledger_terms.specs.declared.input.Input.{Input}
use Rattle.ledger_terms.specs.declared.input.Input.TheVariants.{Known, Forged}
use Rattle.ledger_terms.specs.declared.limits.TheConstants.{MOST_FIELDS, MOST_PARAMETERS}
use Rattle.ledger_terms.specs.declared.template_name.TemplateName.{TemplateName}
use Rattle.json_walk.specs.Texts.{template_in}
use Rattle.json_walk.specs.Walk.{Place, name_in, truth_in, member_of}
use Rattle.json_walk.specs.declared.limits.TheConstants.{FIELDS, PARAMETERS}
use Rattle.json_walk.specs.declared.walk_fault.WalkFault.TheVariants.{Shape}
use Rattle.json_walk.proofs.Kept.{after, given}
use Rattle.lang_eval.specs.HandedIn.{parties_in_arg, parties_in_args, parties_in_input, parties_in_draft}
use Rattle.lang_eval.specs.Named.{AreKnown}
use Rattle.lang_eval.proofs.Known.{known_append}
use Rattle.lang_read.specs.Parties.{is_hosted}
use Rattle.script_read.specs.Accepted.{IsTemplate, IsReference, AreArgs, IsInput, IsDraft}
use Rattle.script_read.specs.Args.{args_in}
use Rattle.script_read.specs.Commands.{reference_in, has_create_members, is_create}
use Rattle.script_read.specs.Drafts.{is_known, has_forged_members, some_id_of, id_of, id_in, salt_in, instance_of, instance_in, forged_of, known_of, input_of, input_in, actors_in, result_in, alone, create_draft_of, has_fetch_members, fetch_draft_of, create_draft_in, fetch_draft_in, has_draft_members, call_of, effect_of, exercise_draft_of, leaf_of}
use Rattle.script_read.specs.Refs.{reference_of}
use Rattle.script_read.proofs.Arguments.{IsArgRead, AreArgsRead, arg_read, args_read, parties_hosted}
use Rattle.script_read.proofs.Cases.{by_test}
use Rattle.script_read.proofs.References.{member_name, template_read, hash_read, reference_read, member_reference}
use Rattle.script_read.proofs.SameHosts.{AreSame}

module _ (read kept : List Host) (same : AreSame read kept) where
  -- ---- inputs

  abbrev AreHosted : List (List ℕ) → Type 0
  AreHosted parties = AreKnown (is_hosted kept) parties

  abbrev IsId : Option ContractRef → Type 0
  IsId o = MatchOption o Unit (IsReference kept)

  some_id_read : (at : Place) (d : Data) (o : Option ContractRef) → some_id_of read at d ≡ Ok o → IsId o
  unfolding some_id_of
  some_id_read at d o h =
      let r = after (reference_of read at d) _ o h in
      rw (given (Some r.0) o r.2) (reference_read read kept same at d r.0 r.1)

  id_read : (at : Place) (d : Data) (o : Option ContractRef) → id_of read at d ≡ Ok o → IsId o
  unfolding id_of
  id_read at null o h = rw (given None o h) tt
  id_read at (boolean b) o h = some_id_read at (boolean b) o h
  id_read at (number n) o h = some_id_read at (number n) o h
  id_read at (string s) o h = some_id_read at (string s) o h
  id_read at (array ds) o h = some_id_read at (array ds) o h
  id_read at (object ms) o h = some_id_read at (object ms) o h

  -- a template's name with its fields
  record AreParts (template : TemplateName) (fields : List Arg) : Type 0 where
    template_is : IsTemplate template
    accepted : AreArgs kept MOST_FIELDS fields
    hosted : AreHosted (parties_in_args fields)

  parts_read : (at : Place) (d : Data) (parts : TemplateName × List Arg) → instance_of read at d ≡ Ok parts → AreParts parts.0 parts.1
  unfolding instance_of
  parts_read at d parts h =
      let m = after (check (has_create_members d) (Shape at)) _ parts h in
      let t = after (template_in at d) _ parts m.2 in
      let f = after (args_in read at (codes "fields") FIELDS d) _ parts t.2 in
      let fields = args_read read kept same at (codes "fields") FIELDS d f.0 f.1 in
      rw (given (t.0, f.0) parts f.2) (record { template_is = template_read at d t.0 t.1; accepted = fields.accepted; hosted = fields.hosted })

  record IsInputRead (i : Input) : Type 0 where
    accepted : IsInput kept i
    hosted : AreHosted (parties_in_input i)

  forged_read : (at : Place) (d : Data) (i : Input) → forged_of read at d ≡ Ok i → IsInputRead i
  unfolding forged_of id_in salt_in instance_in
  forged_read at d i h =
      let m = after (check (has_forged_members d) (Shape at)) _ i h in
      let o = after (id_in read at d) _ i m.2 in
      let s = after (salt_in at d) _ i o.2 in
      let p = after (instance_in read at d) _ i s.2 in
      let x = after (member_of at (codes "id") d) _ o.0 o.1 in
      let y = after (member_of at (codes "salt") d) _ s.0 s.1 in
      let z = after (member_of at (codes "instance") d) _ p.0 p.1 in
      let parts = parts_read (at_member at (codes "instance")) z.0 p.0 z.2 in
      rw (given (Forged o.0 s.0 p.0.0 p.0.1) i p.2) (record {
        accepted = (id_read (at_member at (codes "id")) x.0 o.0 x.2, hash_read (at_member at (codes "salt")) y.0 s.0 y.2, parts.template_is, parts.accepted);
        hosted = parts.hosted;
      })

  known_read : (at : Place) (d : Data) (i : Input) → known_of read at d ≡ Ok i → IsInputRead i
  unfolding known_of
  known_read at d i h =
      let r = after (reference_in read at (codes "known") d) _ i h in
      rw (given (Known r.0) i r.2) (record { accepted = member_reference read kept same at (codes "known") d r.0 r.1; hosted = refl })

  input_read : (at : Place) (d : Data) (i : Input) → input_in read at d ≡ Ok i → IsInputRead i
  unfolding input_in input_of
  input_read at d i h =
      let m = after (member_of at (codes "contract") d) _ i h in
      by_test i (is_known m.0) (known_of read (at_member at (codes "contract")) m.0) (forged_of read (at_member at (codes "contract")) m.0)
      (known_read (at_member at (codes "contract")) m.0 i) (forged_read (at_member at (codes "contract")) m.0 i) m.2

  actors_read : (at : Place) (d : Data) (actors : List (List ℕ)) → actors_in read at d ≡ Ok actors → AreHosted actors
  unfolding actors_in
  actors_read at d actors h =
      let m = after (member_of at (codes "actors") d) _ actors h in
      parties_hosted read kept same (at_member at (codes "actors")) m.0 actors m.2

  result_read : (at : Place) (d : Data) (a : Arg) → result_in read at d ≡ Ok a → IsArgRead read kept same a
  unfolding result_in
  result_read at d a h =
      let m = after (member_of at (codes "result") d) _ a h in
      arg_read read kept same (at_member at (codes "result")) m.0 a m.2

  -- ---- actions

  pub record IsDraftRead (a : DraftAction) : Type 0 where
    pub accepted : IsDraft kept a
    pub hosted : AreHosted (parties_in_draft a)

  record IsCall (call : Input × List ℕ × List Arg) : Type 0 where
    input : IsInputRead call.0
    choice : IsName call.1
    args : AreArgsRead read kept same MOST_PARAMETERS call.2

  call_read : (at : Place) (d : Data) (call : Input × List ℕ × List Arg) → call_of read at d ≡ Ok call → IsCall call
  unfolding call_of
  call_read at d call h =
      let i = after (input_in read at d) _ call h in
      let n = after (name_in at (codes "choice") d) _ call i.2 in
      let f = after (args_in read at (codes "args") PARAMETERS d) _ call n.2 in
      rw (given (i.0, n.0, f.0) call f.2) (record {
        input = input_read at d i.0 i.1;
        choice = member_name at (codes "choice") d n.0 n.1;
        args = args_read read kept same at (codes "args") PARAMETERS d f.0 f.1;
      })

  record IsEffect (effect : List (List ℕ) × Bool × Arg) : Type 0 where
    actors : AreHosted effect.0
    result : IsArgRead read kept same effect.2

  effect_read : (at : Place) (d : Data) (effect : List (List ℕ) × Bool × Arg) → effect_of read at d ≡ Ok effect → IsEffect effect
  unfolding effect_of
  effect_read at d effect h =
      let x = after (actors_in read at d) _ effect h in
      let y = after (truth_in at (codes "consuming") d) _ effect x.2 in
      let z = after (result_in read at d) _ effect y.2 in
      rw (given (x.0, y.0, z.0) effect z.2) (record { actors = actors_read at d x.0 x.1; result = result_read at d z.0 z.1 })

  pub exercise_read : (at : Place) (d : Data) (a : DraftAction) → exercise_draft_of read at d ≡ Ok a → IsDraftRead a
  unfolding exercise_draft_of
  exercise_read at d a h =
      let m = after (check (has_draft_members d) (Shape at)) _ a h in
      let c = after (call_of read at d) _ a m.2 in
      let e = after (effect_of read at d) _ a c.2 in
      let call = call_read at d c.0 c.1 in
      let effect = effect_read at d e.0 e.1 in
      let actors = e.0.0 in
      let result = parties_in_arg e.0.2 in
      rw (given (DraftExercise c.0.0 c.0.1 c.0.2 e.0.0 e.0.1 e.0.2) a e.2) (record {
        accepted = (call.input.accepted, call.choice, call.args.accepted, effect.result.accepted);
        hosted =
            known_append (is_hosted kept) (parties_in_input c.0.0) (parties_in_args c.0.2 ++ (actors ++ result)) call.input.hosted
            (known_append (is_hosted kept) (parties_in_args c.0.2) (actors ++ result) call.args.hosted
            (known_append (is_hosted kept) actors result effect.actors effect.result.hosted));
      })

  -- a tree of one action that is accepted
  pub record IsLeaf (f : Drafts) : Type 0 where
    pub action : DraftAction
    pub is : f ≡ alone action
    pub accepted : IsDraftRead action

  create_read : (at : Place) (d : Data) (f : Drafts) → create_draft_of read at d ≡ Ok f → IsLeaf f
  unfolding create_draft_of
  create_read at d f h =
      let p = after (instance_of read at d) _ f h in
      let parts = parts_read at d p.0 p.1 in
      record { action = DraftCreate p.0.0 p.0.1; is = given (alone (DraftCreate p.0.0 p.0.1)) f p.2; accepted = record { accepted = (parts.template_is, parts.accepted); hosted = parts.hosted } }

  fetch_read : (at : Place) (d : Data) (f : Drafts) → fetch_draft_of read at d ≡ Ok f → IsLeaf f
  unfolding fetch_draft_of
  fetch_read at d f h =
      let m = after (check (has_fetch_members d) (Shape at)) _ f h in
      let i = after (input_in read at d) _ f m.2 in
      let a = after (actors_in read at d) _ f i.2 in
      let input = input_read at d i.0 i.1 in
      record {
        action = DraftFetch i.0 a.0;
        is = given (alone (DraftFetch i.0 a.0)) f a.2;
        accepted = record { accepted = input.accepted; hosted = known_append (is_hosted kept) (parties_in_input i.0) a.0 input.hosted (actors_read at d a.0 a.1) };
      }

  pub leaf_read : (at : Place) (d : Data) (f : Drafts) → leaf_of read at d ≡ Ok f → IsLeaf f
  unfolding leaf_of create_draft_in fetch_draft_in
  leaf_read at d f h =
      by_test f (is_create d) (create_draft_in read at d) (fetch_draft_in read at d)
      (λ k. let m = after (member_of at (codes "create") d) _ f k in create_read (at_member at (codes "create")) m.0 f m.2)
      (λ k. let m = after (member_of at (codes "fetch") d) _ f k in fetch_read (at_member at (codes "fetch")) m.0 f m.2)
      h
