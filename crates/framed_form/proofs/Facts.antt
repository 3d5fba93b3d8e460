-- What a framed request has, whoever sent it.
use Rattle.std.proofs.Common.{◌≡◌, ℕ, Bool, true, List, [], ◌∷◌, map, Some, Result, Ok, Err, refl, sym, ap, subst, ◌∙◌, inl}
use Rattle.std.specs.Prelude.{◌||◌}
use Rattle.std.specs.List.{list_any}
use Rattle.std.proofs.lemmas.Option.{same_Some, none-some}
use Rattle.ledger_terms.specs.Forest.{paths_from, preorder}
use Rattle.ledger_terms.specs.Hosting.{confirms_at, hosts_at}
use Rattle.ledger_terms.specs.declared.topology.Topology.{Topology}
use Rattle.ledger_model.proofs.Lists.{In, contains_from_In, from_any, from_filter, in_any, in_filter, in_map}
use Rattle.canton_model.specs.declared.request.Request.{Request}
use Rattle.wire_form.specs.declared.wire_fault.WireFault.{WireFault}
use Rattle.blind_tree.specs.Leaves.{Sets}
use Rattle.blind_tree.specs.Opening.{informee_tree_of, view_roles}
use Rattle.blind_tree.specs.declared.view_roles.ViewRoles.{ViewRoles}
use Rattle.sealed_form.specs.SealedForm.{found}
use Rattle.sealed_form.specs.Within.{participants_of}
use Rattle.sealed_form.proofs.Hosts.{confirmer_found, confirmer_hosts}
use Rattle.framed_form.specs.Framed.{IsConfirmed, IsFramed}
use Rattle.framed_form.proofs.Outlined.{Outlined, outlined}
use Rattle.framed_form.proofs.SealedFramed.{from_subset}

found_ok : {A : Type 0} (r : Result A WireFault) (x : A) → found r ≡ Some x → r ≡ Ok x
found_ok {A} (Ok y) x e = ap (λ (z : A). Ok z) (same_Some y x e)
found_ok (Err fault) x e = absurd (none-some x e)

module _ (topology : Topology) (request : Request) (framed : IsFramed topology request) where
  pub told : Outlined framed.tree framed.roles
  told = outlined framed.tree framed.roles (found_ok (informee_tree_of framed.tree) framed.roles framed.tells)

  abbrev pub Placed : Type 0
  Placed = List ℕ × Sets

  -- the views with their paths
  abbrev pub views : List Placed
  views = preorder (paths_from [] 0 told.outline)

  pub each_confirmed : (v : Placed) → In v views → IsConfirmed topology (view_roles v.0 v.1)
  each_confirmed v there =
      framed.views (view_roles v.0 v.1) (contains_from_In (framed.roles).views (view_roles v.0 v.1)
      (subst (In (view_roles v.0 v.1)) (sym told.views) (in_map (λ (x : Placed). view_roles x.0 x.1) views v there)))

  -- there is a view
  pub some_view : (v : Placed) × In v views
  some_view = by_list views refl
    where
      by_list : (vs : List Placed) → views ≡ vs → (v : Placed) × In v views
      by_list [] is = absurd (framed.some_view (told.views ∙ ap (map (λ (x : Placed). view_roles x.0 x.1)) is))
      by_list (v ∷ vs) is = (v, subst (In v) (sym is) (inl refl))

  -- somebody confirms each view
  pub confirmed : (v : Placed) → In v views → (p : ℕ) × (list_any (confirms_at topology.hosts p) (v.1).1 ≡ true)
  confirmed v there = by_party (v.1).1 refl
    where
      by_party : (parties : List (List ℕ)) → (v.1).1 ≡ parties → (p : ℕ) × (list_any (confirms_at topology.hosts p) (v.1).1 ≡ true)
      by_party [] is = absurd ((each_confirmed v there).some is)
      by_party (party ∷ more) is =
          let here : In party (v.1).1 = subst (In party) (sym is) (inl refl) in
          let informed = from_subset (v.1).1 (v.1).0 party (each_confirmed v there).among here in
          let known = (each_confirmed v there).known party (contains_from_In (v.1).0 party informed) in
          let p = confirmer_found topology.hosts party known in
          (p.0, in_any (confirms_at topology.hosts p.0) (v.1).1 party here p.1)

  -- who confirms a view hosts an informee of it
  pub informed : (p : ℕ) (v : Placed) → In v views → list_any (confirms_at topology.hosts p) (v.1).1 ≡ true → list_any (hosts_at topology.hosts p) (v.1).0 ≡ true
  informed p v there confirms =
      let w = from_any (confirms_at topology.hosts p) (v.1).1 confirms in
      in_any (hosts_at topology.hosts p) (v.1).0 w.0 (from_subset (v.1).1 (v.1).0 w.0 (each_confirmed v there).among w.1) (confirmer_hosts topology.hosts p w.0 w.2)

  told_any : (p : ℕ) (vs : List Placed)
      → list_any (λ (view : ViewRoles). list_any (confirms_at topology.hosts p) view.confirmers) (map (λ (x : Placed). view_roles x.0 x.1) vs)
      ≡ list_any (λ (v : Placed). list_any (confirms_at topology.hosts p) (v.1).1) vs
  told_any p [] = refl
  told_any p (v ∷ vs) = ap (λ (b : Bool). (list_any (confirms_at topology.hosts p) (v.1).1) || b) (told_any p vs)

  -- those who are asked are the participants that confirm a view
  pub asked : (p : ℕ) → In p request.confirming → In p (participants_of topology) × (list_any (λ (v : Placed). list_any (confirms_at topology.hosts p) (v.1).1) views ≡ true)
  asked p h =
      let kept = from_filter (λ q. list_any (λ (view : ViewRoles). list_any (confirms_at topology.hosts q) view.confirmers) (framed.roles).views) (participants_of topology) p (subst (In p) framed.confirming h) in
      (kept.0, sym (told_any p views) ∙ (ap (list_any (λ (view : ViewRoles). list_any (confirms_at topology.hosts p) view.confirmers)) (sym told.views) ∙ kept.1))

  pub answers : (p : ℕ) → In p (participants_of topology) → list_any (λ (v : Placed). list_any (confirms_at topology.hosts p) (v.1).1) views ≡ true → In p request.confirming
  answers p there confirms =
      subst (In p) (sym framed.confirming)
      (in_filter (λ q. list_any (λ (view : ViewRoles). list_any (confirms_at topology.hosts q) view.confirmers) (framed.roles).views) (participants_of topology) p there
      (ap (list_any (λ (view : ViewRoles). list_any (confirms_at topology.hosts p) view.confirmers)) told.views ∙ (told_any p views ∙ confirms)))
