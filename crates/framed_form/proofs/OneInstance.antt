-- In a log of framed requests that doesn't collide, authentic actions on one contract that complete envelopes open carry one instance.
use Rattle.std.proofs.Common.{◌≡◌, ℕ, true, List, [], ◌∷◌, ◌++◌, length, map, Option, Some, refl, sym, ap, subst, ◌∙◌, inl, inr, arith}
use Rattle.std.specs.Prelude.{flat_map}
use Rattle.std.specs.Str.{bytes_eq}
use Rattle.std.proofs.lemmas.Bool.{cases_Bool, both_ways}
use Rattle.std.proofs.lemmas.Slice.Eq.{bytes_eq-Decides}
use Rattle.sha2.specs.Sha256.{sha256}
use Rattle.ledger_terms.specs.Forest.{preorder}
use Rattle.ledger_terms.specs.declared.act.Act.{Act}
use Rattle.ledger_terms.specs.declared.topology.Topology.{Topology}
use Rattle.ledger_terms.specs.declared.instance.Instance.{Instance}
use Rattle.ledger_terms.specs.declared.action.Action.{Action}
use Rattle.ledger_terms.specs.declared.action.Action.TheVariants.{Create, Exercise, Fetch}
use Rattle.ledger_model.specs.Terms.{id_of, instance_of}
use Rattle.ledger_model.proofs.Lists.{In, contains_from_In, in_append_left, in_append_right, in_map}
use Rattle.canton_model.specs.Log.{request_at}
use Rattle.canton_model.specs.declared.entry.Entry.{Entry}
use Rattle.canton_model.specs.declared.envelope.Envelope.{Envelope}
use Rattle.canton_model.specs.declared.request.Request.{Request}
use Rattle.wire_form.specs.InRange.{IsAction, IsHash, IsInstance}
use Rattle.wire_form.specs.Reading.{instance_at}
use Rattle.wire_form.specs.Spelling.{spell_instance}
use Rattle.wire_form.proofs.FormatLaws.{ok_is}
use Rattle.wire_form.proofs.ValueLaws.{instance_reads}
use Rattle.interpret.specs.Ids.{contract_id, is_authentic, salt_of}
use Rattle.view_split.specs.Placed.{placed_forest}
use Rattle.view_split.specs.SeenViews.{put_back}
use Rattle.view_split.specs.declared.opened_tree.OpenedTree.{OpenedTree}
use Rattle.blind_tree.specs.TreeHashes.{tree_strings}
use Rattle.framed_form.specs.Collisions.{id_string}
use Rattle.framed_form.specs.Agreeing.{request_trees}
use Rattle.framed_form.specs.Collisions.{Collides, acts_in, acts_opened, hashed}
use Rattle.framed_form.specs.Framed.{AreBytes}
use Rattle.framed_form.specs.FramedForm.{complete_in, offered_by, opened_to, paths_seen, sees_root_view}
use Rattle.framed_form.proofs.Agreed.{logged, read_spelled}
use Rattle.framed_form.proofs.Ranged.{IsRanged, opened_ranged, tree_fits}
use Rattle.framed_form.proofs.Sound.{first_envelope, given_by}
use Rattle.framed_form.proofs.Wholes.{complete_from}

-- ---- one string, one instance

salt_is : (seed : List ℕ) (action : Action) → IsHash seed → IsAction action → IsHash (salt_of (record { seed = seed; action = action }))
salt_is seed (Create id i) s r = s
salt_is seed (Exercise id salt i choice args actors consuming result) s r = (r.0).salt_is
salt_is seed (Fetch id salt i actors) s r = (r.0).salt_is

instance_is : (action : Action) → IsAction action → IsInstance (instance_of action)
instance_is (Create id i) r = r.1
instance_is (Exercise id salt i choice args actors consuming result) r = (r.0).instance_is
instance_is (Fetch id salt i actors) r = (r.0).instance_is

parts : {X : Type 0} (s t b c : List X) → length s ≡ length t → s ++ b ≡ t ++ c → (s ≡ t) × (b ≡ c)
parts [] [] b c l e = (refl, e)
parts [] (y ∷ t) b c l e = absurd (omega (arith, l))
parts (x ∷ s) [] b c l e = absurd (omega (arith, l))
parts (x ∷ s) (y ∷ t) b c l e =
    let head : x ≡ y = cc in
    let tail : s ++ b ≡ t ++ c = cc in
    let r = parts s t b c (omega (arith, l)) tail in
    (λ i. head i ∷ r.0 i, r.1)

spelled_once : (a b : Instance) → IsInstance a → IsInstance b → spell_instance a ≡ spell_instance b → a ≡ b
spelled_once a b ra rb e =
    ap (λ (x : Instance × List ℕ). x.0)
    (ok_is (a, []) (b, []) (sym (instance_reads.again a [] ra) ∙ (ap (λ (bytes : List ℕ). instance_at (bytes ++ [])) e ∙ instance_reads.again b [] rb)))

id_is : (a : Act) → is_authentic a ≡ true → id_of a.action ≡ sha256 (id_string a)
unfolding contract_id
id_is a h = (bytes_eq-Decides (id_of a.action) (contract_id (salt_of a) (instance_of a.action))).0 h

one_string : (a b : Act) → IsRanged a → IsRanged b → id_string a ≡ id_string b → instance_of a.action ≡ instance_of b.action
one_string a b ra rb e =
    let body : salt_of a ++ spell_instance (instance_of a.action) ≡ salt_of b ++ spell_instance (instance_of b.action) = cc in
    let long : length (salt_of a) ≡ length (salt_of b) = salt_is a.seed a.action ra.0 ra.1 ∙ sym (salt_is b.seed b.action rb.0 rb.1) in
    spelled_once (instance_of a.action) (instance_of b.action) (instance_is a.action ra.1) (instance_is b.action rb.1)
    (parts (salt_of a) (salt_of b) (spell_instance (instance_of a.action)) (spell_instance (instance_of b.action)) long body).1

-- ---- what is opened of a log

-- an action that a complete envelope of a request of the log opens to a participant
pub record IsOpened (topology : Topology) (log : List Entry) (a : Act) : Type 0 where
  pub place : ℕ
  pub request : Request
  pub there : request_at log place ≡ Some request
  pub participant : ℕ
  pub opened : OpenedTree
  pub is_opened : opened_to topology participant request ≡ Some opened
  pub in_opened : In a (preorder (put_back (placed_forest opened.views)))

module _ (topology : Topology) (log : List Entry) (fits : (k : ℕ) (request : Request) → request_at log k ≡ Some request → (e : Envelope) → In e request.envelopes → AreBytes e.bytes) where
  in_acts : (request : Request) (envelopes : List Envelope) (e : Envelope) (opened : OpenedTree) (a : Act) → In e envelopes → complete_in (offered_by topology e.to request e.bytes) ≡ Some opened
      → In a (preorder (put_back (placed_forest opened.views))) → In a (acts_in topology request envelopes)
  in_acts request [] e opened a h is there = absurd h
  in_acts request (d ∷ envelopes) e opened a (inl same) is there =
      let here : complete_in (offered_by topology d.to request d.bytes) ≡ Some opened = (λ i. complete_in (offered_by topology (same i).to request (same i).bytes)) ∙ is in
      in_append_left (acts_opened (complete_in (offered_by topology d.to request d.bytes))) (acts_in topology request envelopes) a
      (subst (λ (o : Option OpenedTree). In a (acts_opened o)) (sym here) there)
  in_acts request (d ∷ envelopes) e opened a (inr later) is there =
      in_append_right (acts_opened (complete_in (offered_by topology d.to request d.bytes))) (acts_in topology request envelopes) a
      (in_acts request envelopes e opened a later is there)

  record Known (a : Act) : Type 0 where
    hashed_here : In (id_string a) (hashed topology log)
    ranged : IsRanged a

  known : (a : Act) → IsOpened topology log a → Known a
  known a o =
      let given = given_by topology o.request o.participant o.opened o.is_opened in
      let e = first_envelope o.participant (o.request).envelopes given.0 given.1 in
      let complete : complete_in (offered_by topology (e.0).to o.request (e.0).bytes) ≡ Some o.opened =
      (λ i. complete_in (offered_by topology (e.2 i) o.request (e.3 i))) ∙ given.2 in
      let c = complete_from topology (e.0).to o.request (e.0).bytes o.opened complete in
      let bytes = fits o.place o.request o.there e.0 e.1 in
      record {
        hashed_here =
            logged topology log o.place o.request (id_string a) o.there
            (in_append_left (map id_string (acts_in topology o.request (o.request).envelopes)) (flat_map (tree_strings sha256) (request_trees o.request)) (id_string a)
            (in_map id_string (acts_in topology o.request (o.request).envelopes) a (in_acts o.request (o.request).envelopes e.0 o.opened a e.1 complete o.in_opened)));
        ranged =
            opened_ranged (paths_seen topology (e.0).to o.request) (sees_root_view topology (e.0).to o.request) c.tree o.opened
            (tree_fits (e.0).bytes c.tree bytes (read_spelled (e.0).bytes c.tree bytes c.spelled)) c.opens a o.in_opened;
      }

  -- two authentic ones on one contract carry one instance
  pub one_instance : (Collides topology log → ⊥) → (a b : Act) → IsOpened topology log a → IsOpened topology log b → is_authentic a ≡ true → is_authentic b ≡ true
      → id_of a.action ≡ id_of b.action → instance_of a.action ≡ instance_of b.action
  one_instance apart a b in_a in_b true_a true_b same =
      let ka = known a in_a in
      let kb = known b in_b in
      elim (cases_Bool (bytes_eq (id_string a) (id_string b))) [
        | inl one ↦ one_string a b ka.ranged kb.ranged ((bytes_eq-Decides (id_string a) (id_string b)).0 one)
        | inr two ↦ absurd (apart (record {
          one = id_string a;
          other = id_string b;
          of_some = contains_from_In (hashed topology log) (id_string a) ka.hashed_here;
          of_others = contains_from_In (hashed topology log) (id_string b) kb.hashed_here;
          differ = λ e. both_ways _ two ((bytes_eq-Decides (id_string a) (id_string b)).1 e);
          meet = sym (id_is a true_a) ∙ (same ∙ id_is b true_b);
        }))
      ]
