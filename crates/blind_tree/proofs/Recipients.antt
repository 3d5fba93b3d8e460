-- Who gets a tree, and who has the sender's name.
use Rattle.std.proofs.Common.{◌≡◌, ◌↔◌, ℕ, zero, suc, ◌+◌, ◌<◌, true, false, List, [], ◌∷◌, get_or, length, Contains, Option, Some, None, nat_eq, refl, sym, ap, ◌∙◌, subst, inl, inr, arith}
use Rattle.std.specs.Prelude.{slice_get}
use Rattle.std.specs.List.{AllPairs, range_with_len}
use Rattle.std.proofs.lemmas.Bool.{cases_Bool, cases_lt, or_cases, eqb-true, eq-eqb, ne_eqb}
use Rattle.std.proofs.lemmas.Option.{same_Some, none-some}
use Rattle.ledger_terms.proofs.Deciding.{bytes_decide}
use Rattle.ledger_terms.specs.Forest.{Forest, preorder}
use Rattle.ledger_terms.specs.Hosting.{hosts_at}
use Rattle.ledger_terms.specs.Topologies.{AreApart}
use Rattle.ledger_terms.specs.declared.host.Host.{Host}
use Rattle.ledger_model.proofs.Lists.{In, contains_from_In, from_any, from_filter, in_filter, in_from_Contains}
use Rattle.view_split.specs.declared.split_view.SplitView.{SplitView}
use Rattle.view_split.specs.SeenViews.{is_sight}
use Rattle.blind_tree.specs.Blind.{has_name, has_sight, is_host_named}
use Rattle.blind_tree.specs.Recipients.{is_recipient, recipients_of}

host_below : (hosts : List Host) (p : ℕ) (party : List ℕ) → hosts_at hosts p party ≡ true → p < length hosts
host_below [] p party h = absurd cc
host_below (host ∷ hosts) zero party h = omega arith
host_below (host ∷ hosts) (suc p) party h = let r = host_below hosts p party h in omega (arith, r)

in_range : (a n k : ℕ) → k < n → In (a + k) (range_with_len a n)
in_range a zero k h = absurd (omega arith)
in_range a (suc n) zero h = inl (omega arith)
in_range a (suc n) (suc k) h =
    let next : (a + 1) + k ≡ a + suc k = omega arith in
    inr (subst (λ (m : ℕ). In m (range_with_len (a + 1) n)) next (in_range (a + 1) n k (omega arith)))

participant : (hosts : List Host) (p : ℕ) → p < length hosts → In p (range_with_len 0 (length hosts))
participant hosts p h =
    let same : 0 + p ≡ p = omega arith in
    subst (λ (m : ℕ). In m (range_with_len 0 (length hosts))) same (in_range 0 (length hosts) p h)

module _ (hosts : List Host) (views : Forest SplitView) (sender p : ℕ) (there : sender < length hosts) where
  below : is_recipient hosts views sender p ≡ true → p < length hosts
  below gets =
      elim (or_cases (nat_eq p sender) (has_sight (hosts_at hosts p) views) gets) [
        | inl sends ↦ let same = eqb-true p sender sends in omega (arith, same, there)
        | inr sees ↦
            let view = from_any (is_sight (hosts_at hosts p)) (preorder views) sees in
            let party = from_any (hosts_at hosts p) (view.0).informees view.2 in
            host_below hosts p party.0 party.2
      ]

  pub are_recipients : Contains (recipients_of hosts views sender) p ↔ (is_recipient hosts views sender p ≡ true)
  are_recipients = (
    λ listed. (from_filter (is_recipient hosts views sender) (range_with_len 0 (length hosts)) p (in_from_Contains (recipients_of hosts views sender) p listed)).1,
    λ gets. contains_from_In (recipients_of hosts views sender) p (in_filter (is_recipient hosts views sender) (range_with_len 0 (length hosts)) p (participant hosts p (below gets)) gets),
  )

-- ---- names

at_index : {X : Type 0} (xs : List X) (i : ℕ) (x d : X) → slice_get xs i ≡ Some x → get_or xs i d ≡ x
at_index [] i x d e = absurd (none-some x e)
at_index (y ∷ xs) zero x d e = same_Some y x e
at_index (y ∷ xs) (suc i) x d e = at_index xs i x d e

below_end : {X : Type 0} (xs : List X) (i : ℕ) (x : X) → slice_get xs i ≡ Some x → i < length xs
below_end [] i x e = absurd (none-some x e)
below_end (y ∷ xs) zero x e = omega arith
below_end (y ∷ xs) (suc i) x e = let r = below_end xs i x e in omega (arith, r)

record Named (hosts : List Host) (p : ℕ) (name : List ℕ) : Type 0 where
  host : Host
  there : slice_get hosts p ≡ Some host
  has : host.name ≡ name

named_host : (hosts : List Host) (p : ℕ) (name : List ℕ) → is_host_named hosts p name ≡ true → Named hosts p name
named_host hosts p name h = by_host (slice_get hosts p) refl h
  where
    by_host : (o : Option Host) → slice_get hosts p ≡ o → has_name o name ≡ true → Named hosts p name
    by_host None e k = cc
    by_host (Some host) e k = record { host = host; there = e; has = (bytes_decide host.name name).0 k }

-- two participants have no name in common
never_both : (hosts : List Host) (p q : ℕ) (name : List ℕ) → AllPairs AreApart hosts → p < q → Named hosts p name → Named hosts q name → ⊥
never_both hosts p q name apart lt a b =
    let pair = apart p q a.host lt (below_end hosts q b.host b.there) in
    pair.names (ap (λ (h : Host). h.name) (at_index hosts p a.host a.host a.there) ∙ (a.has ∙ (sym b.has ∙ sym (ap (λ (h : Host). h.name) (at_index hosts q b.host a.host b.there)))))

pub named_alike : (hosts : List Host) (p s : ℕ) (name : List ℕ) → AllPairs AreApart hosts → is_host_named hosts s name ≡ true → is_host_named hosts p name ≡ nat_eq p s
named_alike hosts p s name apart sends =
    let there = named_host hosts s name sends in
    elim (cases_lt p s) [
      | inl lt ↦ other (λ h. never_both hosts p s name apart lt (named_host hosts p name h) there) (ne_eqb p s (λ e. omega (arith, e, lt)))
      | inr le ↦ elim (cases_lt s p) [
        | inl gt ↦ other (λ h. never_both hosts s p name apart gt there (named_host hosts p name h)) (ne_eqb p s (λ e. omega (arith, e, gt)))
        | inr ge ↦ let same : p ≡ s = omega (arith, le, ge) in ap (λ (n : ℕ). is_host_named hosts n name) same ∙ (sends ∙ sym (eq-eqb p s same))
      ]
    ]
  where
    other : (is_host_named hosts p name ≡ true → ⊥) → nat_eq p s ≡ false → is_host_named hosts p name ≡ nat_eq p s
    other never differ = elim (cases_Bool (is_host_named hosts p name)) [ inl h ↦ absurd (never h) | inr h ↦ h ∙ sym differ ]
