-- Among few parties the sets of each view have room.
use Rattle.std.proofs.Common.{◌≡◌, ℕ, ◌≤◌, true, false, List, [], ◌∷◌, ◌++◌, length, refl, sym, ap, subst, ◌∙◌, inl, inr, arith}
use Rattle.std.specs.List.{AllByRecursion, IsDistinct}
use Rattle.std.specs.Set.{is_member}
use Rattle.std.specs.Ordering.{is_lt, is_eq, nat_cmp}
use Rattle.std.specs.Cmp.Lexicographic.{slice_cmp, texts_ties}
use Rattle.std.specs.declared.cmp.Ordering.{Ordering}
use Rattle.std.specs.declared.cmp.Ordering.TheVariants.{Less, Equal, Greater}
use Rattle.std.proofs.lemmas.Bool.{cases_Bool, and_parts, or_cases}
use Rattle.std.proofs.lemmas.Cmp.{nat_list_eq_equiv}
use Rattle.std.proofs.lemmas.List.Elements.{recursion_from_All, All-from_recursion}
use Rattle.std.proofs.lemmas.List.Folds.{list_any-append}
use Rattle.std.proofs.lemmas.Map.Made.{length-le_from_is_member}
use Rattle.ledger_terms.proofs.Deciding.{bytes_decide}
use Rattle.ledger_terms.specs.Parties.{same_name, AllAbove, IsRising, with_parties, set_of, has_party, is_subset}
use Rattle.ledger_terms.specs.declared.act.Act.{Act}
use Rattle.ledger_terms.specs.Forest.{Forest, NoRoots, Root, join}
use Rattle.ledger_terms.specs.declared.action.Action.{Action}
use Rattle.ledger_terms.proofs.Members.{has_party-set_of}
use Rattle.ledger_terms.proofs.Rising.{IsRising-with_party}
use Rattle.ledger_model.specs.declared.roles.Roles.{Roles}
use Rattle.ledger_model.specs.Views.{its_informees, starts}
use Rattle.ledger_model.proofs.Lists.{In, in_any}
use Rattle.ledger_terms.specs.Names.{IsName}
use Rattle.wire_form.specs.InRange.{IsPartySet}
use Rattle.view_split.specs.Holed.{inner}
use Rattle.view_split.specs.declared.split_view.SplitView.{SplitView}
use Rattle.view_split.specs.Split.{confirmers_in, core_of, view_at, split_below, split}
use Rattle.blind_tree.specs.Limits.{AreFew, AreAmong, AllAmong, HaveSets}

-- ---- sets of names

same_is : (a b : List ℕ) → same_name a b ≡ true → a ≡ b
same_is a b h = (bytes_decide a b).0 h

is_same : (a : List ℕ) → same_name a a ≡ true
is_same a = (bytes_decide a a).1 refl

-- a name that is in the list
party_in : (names : List (List ℕ)) (party : List ℕ) → has_party names party ≡ true → In party names
party_in [] party h = absurd cc
party_in (a ∷ names) party h =
    elim (or_cases (same_name a party) (has_party names party) h) [ inl here ↦ inl (same_is a party here) | inr later ↦ inr (party_in names party later) ]

in_party : (names : List (List ℕ)) (party : List ℕ) → In party names → has_party names party ≡ true
in_party names party h = in_any (λ b. same_name b party) names party h (is_same party)

abbrev Within : List (List ℕ) → List (List ℕ) → Type 0
Within set parties = (party : List ℕ) → has_party set party ≡ true → has_party parties party ≡ true

pub subset_within : (set parties : List (List ℕ)) → is_subset set parties ≡ true → Within set parties
subset_within [] parties h party there = absurd cc
subset_within (a ∷ set) parties h party there =
    let both = and_parts (has_party parties a) (is_subset set parties) h in
    elim (or_cases (same_name a party) (has_party set party) there) [
      | inl here ↦ ap (has_party parties) (sym (same_is a party here)) ∙ both.0
      | inr later ↦ subset_within set parties both.1 party later
    ]

not_equal : (o : Ordering) → is_lt o ≡ true → is_eq o ≡ false
not_equal Less h = refl
not_equal Equal h = cc
not_equal Greater h = cc

above_apart : (a : List ℕ) (set : List (List ℕ)) → AllAbove a set → AllByRecursion (λ (b : List ℕ). same_name a b ≡ false) set
above_apart a [] h = tt
above_apart a (b ∷ set) h = (texts_ties a b ∙ not_equal (slice_cmp nat_cmp a b) h.0, above_apart a set h.1)

rising_distinct : (set : List (List ℕ)) → IsRising set → IsDistinct same_name set
unfolding IsDistinct
rising_distinct [] h = tt
rising_distinct (a ∷ set) h = (above_apart a set h.0, rising_distinct set h.1)

member_in : (names : List (List ℕ)) (q : List ℕ) → is_member same_name names q ≡ true → In q names
member_in [] q h = absurd cc
member_in (a ∷ names) q h =
    elim (or_cases (same_name q a) (is_member same_name names q) h) [ inl here ↦ inl (sym (same_is q a here)) | inr later ↦ inr (member_in names q later) ]

within_length : (set parties : List (List ℕ)) → IsRising set → Within set parties → length set ≤ length parties
within_length set parties rising within =
    length-le_from_is_member nat_list_eq_equiv set parties (rising_distinct set rising)
    (λ q h. in_any (same_name q) parties q (party_in parties q (within q (in_party set q (member_in set q h)))) (is_same q))

name_of : (parties : List (List ℕ)) (party : List ℕ) → AllByRecursion IsName parties → In party parties → IsName party
name_of [] party h there = absurd there
name_of (a ∷ parties) party h (inl same) = subst IsName same h.0
name_of (a ∷ parties) party h (inr later) = name_of parties party h.1 later

names_within : (set parties : List (List ℕ)) → AllByRecursion IsName parties → ((party : List ℕ) → In party set → In party parties) → AllByRecursion IsName set
names_within [] parties names within = tt
names_within (a ∷ set) parties names within =
    (name_of parties a names (within a (inl refl)), names_within set parties names (λ party there. within party (inr there)))

pub set_fits : (set parties : List (List ℕ)) → AreFew parties → IsRising set → Within set parties → IsPartySet set
set_fits set parties few rising within =
    record {
      few = let l = within_length set parties rising within in omega (arith, l, few.few);
      names = All-from_recursion IsName set (names_within set parties (recursion_from_All IsName parties few.names) (λ party there. party_in parties party (within party (in_party set party there))));
      ascend = rising;
    }

pub rising_with : (names set : List (List ℕ)) → IsRising set → IsRising (with_parties names set)
rising_with [] set h = h
rising_with (a ∷ names) set h = rising_with names _ (IsRising-with_party a set h)

-- ---- views

module _ (roles : Action → Roles) (parties : List (List ℕ)) (few : AreFew parties) where
  abbrev IsAmong : Act → Type 0
  IsAmong act = AreAmong parties (roles act.action)

  abbrev EachAmong : List Act → Type 0
  EachAmong acts = AllByRecursion IsAmong acts

  both_among : (xs ys : List Act) → EachAmong xs → EachAmong ys → EachAmong (xs ++ ys)
  both_among [] ys h g = g
  both_among (x ∷ xs) ys h g = (h.0, both_among xs ys h.1 g)

  core_among : (e : List (List ℕ)) (f : Forest Act) → AllAmong roles parties f → EachAmong (inner (core_of roles e f))
  core_among e NoRoots h = tt
  core_among e (Root act below others) h =
      elim (cases_Bool (starts roles e act)) [
        | inl new ↦ rw new (core_among e others h.2)
        | inr old ↦ rw old (h.0, both_among (inner (core_of roles e below)) (inner (core_of roles e others)) (core_among e below h.1) (core_among e others h.2))
      ]

  confirmers_within : (acts : List Act) → EachAmong acts → Within (confirmers_in roles acts) parties
  confirmers_within [] h party there = absurd cc
  confirmers_within (act ∷ acts) h party there =
      let own = (roles act.action).confirmers in
      elim (or_cases (has_party own party) (has_party (confirmers_in roles acts) party) (sym (list_any-append (λ b. same_name b party) own (confirmers_in roles acts)) ∙ there)) [
        | inl here ↦ subset_within own parties h.0.confirmers party here
        | inr later ↦ confirmers_within acts h.1 party later
      ]

  abbrev HasSets : SplitView → Type 0
  HasSets view = IsPartySet view.informees × IsPartySet view.confirmers

  view_sets : (act : Act) (below : Forest Act) → IsAmong act → AllAmong roles parties below → HasSets (view_at roles act below)
  view_sets act below h b =
      let told = confirmers_in roles (act ∷ inner (core_of roles (its_informees roles act) below)) in
      let within = confirmers_within (act ∷ inner (core_of roles (its_informees roles act) below)) (h, core_among (its_informees roles act) below b) in (
        set_fits (its_informees roles act) parties few h.ascend (subset_within (its_informees roles act) parties h.informees),
        set_fits (set_of told) parties few (rising_with told [] tt) (λ party there. within party (sym (has_party-set_of told party) ∙ there)),
      )

  sets_joined : (f g : Forest SplitView) → HaveSets f → HaveSets g → HaveSets (join f g)
  sets_joined NoRoots g h i = i
  sets_joined (Root view subviews others) g h i = (h.0, h.1, sets_joined others g h.2 i)

  sets_below : (e : List (List ℕ)) (f : Forest Act) → AllAmong roles parties f → HaveSets (split_below roles e f)
  sets_below e NoRoots h = tt
  sets_below e (Root act below others) h =
      elim (cases_Bool (starts roles e act)) [
        | inl new ↦ rw new (view_sets act below h.0 h.1, sets_below (its_informees roles act) below h.1, sets_below e others h.2)
        | inr old ↦ rw old (sets_joined (split_below roles e below) (split_below roles e others) (sets_below e below h.1) (sets_below e others h.2))
      ]

  pub split_sets : (f : Forest Act) → AllAmong roles parties f → HaveSets (split roles f)
  split_sets NoRoots h = tt
  split_sets (Root act below others) h = (view_sets act below h.0 h.1, sets_below (its_informees roles act) below h.1, split_sets others h.2)
