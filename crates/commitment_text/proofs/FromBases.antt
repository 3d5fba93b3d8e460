-- What is active below a base isn't told.
use Rattle.std.proofs.Common.{◌≡◌, ℕ, ◌+◌, ◌<◌, ◌≤◌, Bool, List, [], ◌∷◌, ◌++◌, refl, sym, ap, ◌∙◌, inl, inr, arith}
use Rattle.std.specs.Prelude.{codes, if◌then◌else◌, max, min, nat_lt}
use Rattle.std.specs.List.{flat_map}
use Rattle.std.proofs.lemmas.Bool.{cases_Bool, cases_lt, ltb-false, ltb-true}
use Rattle.ledger_terms.specs.declared.host.Host.{Host}
use Rattle.ledger_model.specs.Terms.{ParticipantId}
use Rattle.canton_model.specs.Reading.{Reading}
use Rattle.acs_commit.specs.Shared.{shared_ids}
use Rattle.commitment_text.specs.Commitments.{commitments_of, pair_at, pair_since, pair_text, pairs_text, place_text, pruned_text, shared_text}
use Rattle.commitment_text.specs.Counterparties.{Counterparty, counterparties_from}
use Rattle.commitment_text.specs.Knowledge.{KnowAlike, Knowledge, KnowsAlike}

-- ---- a place at or below a base

pub unforgotten : (reading : Reading) (one other : Counterparty) (base place : ℕ) → base ≤ place
    → pair_since reading one other base place ≡ pair_at reading one other place
unforgotten reading one other base place le =
    elim (cases_Bool (nat_lt place base)) [
      | inl below ↦ absurd (let lt = ltb-true place base below in omega (arith, lt, le))
      | inr from ↦ ap (λ (test : Bool). if test then pruned_text one.name other.name base else pair_at reading one other place) from
    ]

pub forgotten : (reading : Reading) (one other : Counterparty) (base place : ℕ) → place < base
    → pair_since reading one other base place ≡ pruned_text one.name other.name base
forgotten reading one other base place lt =
    elim (cases_Bool (nat_lt place base)) [
      | inl below ↦ ap (λ (test : Bool). if test then pruned_text one.name other.name base else pair_at reading one other place) below
      | inr from ↦ absurd (let le = ltb-false place base from in omega (arith, lt, le))
    ]

-- ---- two participants that know the same as two others

abbrev as_counterparty : ParticipantId → List ℕ → Knowledge → Counterparty
as_counterparty number name knowledge = record { number = number; name = name; knowledge = knowledge }

module _ (reading : Reading) (p q : ParticipantId) (name other : List ℕ) (a a' b b' : Knowledge) (one_alike : KnowsAlike a a') (other_alike : KnowsAlike b b')
  where
    abbrev place : ℕ
    place = min a.clean b.clean

    abbrev base : ℕ
    base = max a.base b.base

    place_same : place ≡ min a'.clean b'.clean
    place_same = λ i. min (one_alike.clean i) (other_alike.clean i)

    base_same : base ≡ max a'.base b'.base
    base_same = λ i. max (one_alike.base i) (other_alike.base i)

    module _ (known : base ≤ place) where
      mine : a.active_at place ≡ a'.active_at (min a'.clean b'.clean)
      mine = one_alike.active place (omega (arith, known)) ∙ ap a'.active_at place_same

      theirs : b.active_at place ≡ b'.active_at (min a'.clean b'.clean)
      theirs = other_alike.active place (omega (arith, known)) ∙ ap b'.active_at place_same

      told_same : pair_at reading (as_counterparty p name a) (as_counterparty q other b) place
          ≡ pair_at reading (as_counterparty p name a') (as_counterparty q other b') (min a'.clean b'.clean)
      told_same = λ i. place_text name other (place_same i) ++ shared_text (shared_ids reading q (mine i)) (shared_ids reading p (theirs i))

    pub same_line : pair_text reading (as_counterparty p name a) (as_counterparty q other b)
        ≡ pair_text reading (as_counterparty p name a') (as_counterparty q other b')
    same_line =
        elim (cases_lt place base) [
          | inl below ↦
              forgotten reading (as_counterparty p name a) (as_counterparty q other b) base place below
              ∙ (ap (pruned_text name other) base_same
              ∙ sym
              (forgotten reading (as_counterparty p name a') (as_counterparty q other b') (max a'.base b'.base) (min a'.clean b'.clean)
              (omega (arith, below, place_same, base_same))))
          | inr known ↦
              unforgotten reading (as_counterparty p name a) (as_counterparty q other b) base place known
              ∙ (told_same known
              ∙ sym
              (unforgotten reading (as_counterparty p name a') (as_counterparty q other b') (max a'.base b'.base) (min a'.clean b'.clean)
              (omega (arith, known, place_same, base_same))))
        ]

-- ---- all of them

module _ (reading : Reading) where
  lines_of_one : (p : ParticipantId) (name : List ℕ) (a a' : Knowledge) → KnowsAlike a a' → (q : ParticipantId) (hosts : List Host) (known known' : List Knowledge)
      → KnowAlike known known'
      → flat_map (pair_text reading (as_counterparty p name a)) (counterparties_from q hosts known)
      ≡ flat_map (pair_text reading (as_counterparty p name a')) (counterparties_from q hosts known')
  lines_of_one p name a a' same q [] known known' alike = refl
  lines_of_one p name a a' same q (host ∷ hosts) [] [] alike = refl
  lines_of_one p name a a' same q (host ∷ hosts) [] (b' ∷ known') alike = absurd alike
  lines_of_one p name a a' same q (host ∷ hosts) (b ∷ known) [] alike = absurd alike
  lines_of_one p name a a' same q (host ∷ hosts) (b ∷ known) (b' ∷ known') alike =
      let line = same_line reading p q name host.name a a' b b' same alike.0 in
      let rest = lines_of_one p name a a' same (q + 1) hosts known known' alike.1 in
      λ i. line i ++ rest i

  same_lines : (p : ParticipantId) (hosts : List Host) (known known' : List Knowledge) → KnowAlike known known'
      → pairs_text reading (counterparties_from p hosts known) ≡ pairs_text reading (counterparties_from p hosts known')
  same_lines p [] known known' alike = refl
  same_lines p (host ∷ hosts) [] [] alike = refl
  same_lines p (host ∷ hosts) [] (a' ∷ known') alike = absurd alike
  same_lines p (host ∷ hosts) (a ∷ known) [] alike = absurd alike
  same_lines p (host ∷ hosts) (a ∷ known) (a' ∷ known') alike =
      let own = lines_of_one p host.name a a' alike.0 (p + 1) hosts known known' alike.1 in
      let rest = same_lines (p + 1) hosts known known' alike.1 in
      λ i. own i ++ rest i

  pub same_commitments : (hosts : List Host) (known known' : List Knowledge) → KnowAlike known known'
      → commitments_of reading hosts known ≡ commitments_of reading hosts known'
  same_commitments hosts known known' alike = λ i. same_lines 0 hosts known known' alike i ++ codes "end\n"
