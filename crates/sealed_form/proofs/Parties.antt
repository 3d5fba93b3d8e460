-- The parties of a valid topology are few, and what names no others is among them.
use Rattle.std.proofs.Common.{◌≡◌, ℕ, zero, suc, Bool, true, false, List, [], ◌∷◌, ◌++◌, Option, Some, None, Contains, refl, sym, ◌∙◌, subst, inl, inr, arith}
use Rattle.std.specs.Prelude.{is_some, option_map, if◌then◌else◌}
use Rattle.std.specs.List.{AllByRecursion, flat_map}
use Rattle.std.proofs.lemmas.Bool.{cases_Bool, or_left, or_right}
use Rattle.std.proofs.lemmas.Grind.{flat_map-append}
use Rattle.std.proofs.lemmas.List.Concat.{length-flat_map}
use Rattle.std.proofs.lemmas.List.Elements.{recursion_from_All, All-from_recursion}
use Rattle.std.proofs.lemmas.List.Folds.{list_any-append}
use Rattle.ledger_terms.proofs.Deciding.{bytes_decide}
use Rattle.ledger_terms.specs.Names.{IsName}
use Rattle.ledger_terms.specs.Hosting.{confirms_at, host_of, lists_party}
use Rattle.ledger_terms.specs.Parties.{IsRising, has_party, is_subset, same_name}
use Rattle.ledger_terms.specs.Topologies.{HasNames, IsValid}
use Rattle.ledger_terms.specs.declared.act.Act.{Act}
use Rattle.ledger_terms.specs.Forest.{Forest, NoRoots, Root, preorder}
use Rattle.ledger_terms.specs.declared.action.Action.{Action}
use Rattle.ledger_terms.specs.declared.action.Action.TheVariants.{Create, Exercise, Fetch}
use Rattle.ledger_terms.specs.declared.host.Host.{Host}
use Rattle.ledger_terms.specs.declared.topology.Topology.{Topology}
use Rattle.ledger_model.proofs.Lists.{In}
use Rattle.ledger_model.specs.Language.{Language, informees_of, stakeholders}
use Rattle.ledger_model.specs.declared.roles.Roles.{Roles}
use Rattle.lang_eval.specs.Found.{Packages}
use Rattle.lang_eval.specs.Named.{AreKnown, parties_in_action, parties_in_packages, parties_in_roles}
use Rattle.lang_eval.specs.Parts.{PartyNames}
use Rattle.lang_eval.proofs.Informed.{no_size}
use Rattle.lang_eval.proofs.Known.{known_back, known_front}
use Rattle.lang_eval.proofs.NamedRoles.{roles_known}
use Rattle.interpret.specs.Language.{the_language}
use Rattle.interpret.specs.NamedParties.{parties_in_act, parties_in_forest}
use Rattle.blind_tree.specs.Blind.{is_host_named}
use Rattle.blind_tree.specs.Limits.{AllAmong, AreAmong, AreFew}
use Rattle.blind_tree.proofs.SetLimits.{rising_with}
use Rattle.sealed_form.specs.SealedForm.{roles_by}
use Rattle.sealed_form.specs.Within.{is_hosted}
use Rattle.sealed_form.proofs.Deciding.{all_decide}

abbrev pub parties_of : List Host → PartyNames
parties_of hosts = flat_map (λ (host : Host). host.parties) hosts

-- ---- parties with a host

-- a party that somebody confirms is one of the topology's
listed : (hosts : List Host) (party : List ℕ) → is_some (host_of hosts party) ≡ true → has_party (parties_of hosts) party ≡ true
listed [] party h = absurd cc
listed (host ∷ hosts) party h =
    let parts = list_any-append (λ b. same_name b party) host.parties (parties_of hosts) in
    elim (cases_Bool (lists_party party host)) [
      | inl here ↦ parts ∙ or_left (has_party host.parties party) (has_party (parties_of hosts) party) here
      | inr later ↦
          parts ∙ or_right (has_party host.parties party) (has_party (parties_of hosts) party)
          (listed hosts party (later_host (host_of hosts party) (rw later at h)))
    ]
  where
    later_host : (o : Option ℕ) → is_some (option_map suc o) ≡ true → is_some o ≡ true
    later_host None h = cc
    later_host (Some k) h = refl

first_or_later : (here : Bool) (o : Option ℕ) → is_some o ≡ true → is_some (if here then Some 0 else option_map suc o) ≡ true
first_or_later true o h = refl
first_or_later false None h = h
first_or_later false (Some k) h = refl

-- who confirms for a party is its host, or another is
hosted_somewhere : (hosts : List Host) (p : ℕ) (party : List ℕ) → confirms_at hosts p party ≡ true → is_some (host_of hosts party) ≡ true
hosted_somewhere [] p party h = absurd cc
hosted_somewhere (host ∷ hosts) zero party h = rw h refl
hosted_somewhere (host ∷ hosts) (suc p) party h = first_or_later (lists_party party host) (host_of hosts party) (hosted_somewhere hosts p party h)

-- ---- they are few

both_named : (xs ys : PartyNames) → AllByRecursion IsName xs → AllByRecursion IsName ys → AllByRecursion IsName (xs ++ ys)
both_named [] ys h g = g
both_named (x ∷ xs) ys h g = (h.0, both_named xs ys h.1 g)

each_named : (hosts : List Host) → AllByRecursion HasNames hosts → AllByRecursion IsName (parties_of hosts)
each_named [] h = tt
each_named (host ∷ hosts) h =
    both_named host.parties (parties_of hosts) (recursion_from_All IsName host.parties (h.0).parties) (each_named hosts h.1)

named_host : (hosts : List Host) (p : ℕ) (name : List ℕ) → AllByRecursion HasNames hosts → is_host_named hosts p name ≡ true → IsName name
named_host [] p name h sends = absurd cc
named_host (host ∷ hosts) zero name h sends = subst IsName ((bytes_decide host.name name).0 sends) (h.0).own
named_host (host ∷ hosts) (suc p) name h sends = named_host hosts p name h.1 sends

module _ (topology : Topology) (valid : IsValid topology) where
  pub are_few : AreFew (parties_of topology.hosts)
  are_few =
      record {
        few = let l = length-flat_map (λ (host : Host). host.parties) topology.hosts in omega (arith, l, valid.few_parties);
        names = All-from_recursion IsName (parties_of topology.hosts) (each_named topology.hosts (recursion_from_All HasNames topology.hosts valid.named));
      }

  pub sender_named : (p : ℕ) (name : List ℕ) → is_host_named topology.hosts p name ≡ true → IsName name
  sender_named p name sends = named_host topology.hosts p name (recursion_from_All HasNames topology.hosts valid.named) sends

-- ---- what names no others

module _ (topology : Topology) where
  abbrev Fine : PartyNames → Type 0
  Fine names = AreKnown (is_hosted topology) names

  abbrev all : PartyNames
  all = parties_of topology.hosts

  among_all : (names : PartyNames) → Fine names → is_subset names all ≡ true
  among_all names h =
      (all_decide (has_party all) names).1 (λ party there. listed topology.hosts party ((all_decide (is_hosted topology) names).0 h party there))

  pub requesters_among : (sender : ℕ) (names : PartyNames)
      → ((party : List ℕ) → Contains names party → confirms_at topology.hosts sender party ≡ true) → is_subset names all ≡ true
  requesters_among sender names h =
      (all_decide (has_party all) names).1 (λ party there. listed topology.hosts party (hosted_somewhere topology.hosts sender party (h party there)))

  pub own_known : (xs : List Act) (a : Act) → Fine (flat_map parties_in_act xs) → In a xs → Fine (parties_in_act a)
  own_known [] a h there = absurd there
  own_known (x ∷ xs) a h (inl same) =
      subst (λ (y : Act). Fine (parties_in_act y)) same (known_front (is_hosted topology) (parties_in_act x) (flat_map parties_in_act xs) h)
  own_known (x ∷ xs) a h (inr later) = own_known xs a (known_back (is_hosted topology) (parties_in_act x) (flat_map parties_in_act xs) h) later

  informees_rise : (language : Language) (a : Action) → IsRising (informees_of language a)
  informees_rise language (Create id i) = rising_with (language.signatories i ++ language.observers i) [] tt
  informees_rise language (Exercise id salt i choice args actors consuming result) =
      rising_with (
      (if consuming then stakeholders language i else language.signatories i)
      ++ (actors ++ language.choice_observers (record { id = id; instance = i; choice = choice; args = args }))
      ) [] tt
  informees_rise language (Fetch id salt i actors) = rising_with (language.signatories i ++ actors) [] tt

  module _ (packages : Packages) (fine : Fine (parties_in_packages packages)) where
    record HasKnown (roles : Roles) : Type 0 where
      informees : Fine roles.informees
      confirmers : Fine roles.confirmers

    known_parts : (r : Roles) → Fine (parties_in_roles r) → HasKnown r
    known_parts r h =
        let more = known_back (is_hosted topology) r.signatories (r.observers ++ (r.actors ++ (r.informees ++ r.confirmers))) h in
        let others = known_back (is_hosted topology) r.observers (r.actors ++ (r.informees ++ r.confirmers)) more in
        let last = known_back (is_hosted topology) r.actors (r.informees ++ r.confirmers) others in
        record {
          informees = known_front (is_hosted topology) r.informees r.confirmers last;
          confirmers = known_back (is_hosted topology) r.informees r.confirmers last;
        }

    has_known : (a : Action) → Fine (parties_in_action a) → HasKnown (roles_by packages a)
    has_known a h =
        known_parts (roles_by packages a)
        (subst (λ (r : Roles). Fine (parties_in_roles r))
        (sym (no_size packages (the_language packages).is_creatable (the_language packages).is_exercisable a))
        (roles_known (is_hosted topology) packages a fine h))

    pub informees_known : (a : Action) → Fine (parties_in_action a) → Fine (roles_by packages a).informees
    informees_known a h = (has_known a h).informees

    act_among : (a : Act) → Fine (parties_in_act a) → AreAmong all (roles_by packages a.action)
    act_among a h =
        let k = has_known a.action h in
        record {
          informees = among_all (roles_by packages a.action).informees k.informees;
          confirmers = among_all (roles_by packages a.action).confirmers k.confirmers;
          ascend = informees_rise (the_language packages) a.action;
        }

    pub all_among : (f : Forest Act) → Fine (parties_in_forest f) → AllAmong (roles_by packages) all f
    all_among NoRoots h = tt
    all_among (Root act below others) h =
        let rest =
        subst Fine (flat_map-append parties_in_act (preorder below) (preorder others))
        (known_back (is_hosted topology) (parties_in_act act) (flat_map parties_in_act (preorder below ++ preorder others)) h) in (
          act_among act (known_front (is_hosted topology) (parties_in_act act) (flat_map parties_in_act (preorder below ++ preorder others)) h),
          all_among below (known_front (is_hosted topology) (parties_in_forest below) (parties_in_forest others) rest),
          all_among others (known_back (is_hosted topology) (parties_in_forest below) (parties_in_forest others) rest),
        )
