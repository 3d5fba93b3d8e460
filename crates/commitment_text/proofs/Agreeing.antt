-- Two participants that share the same contracts.
use Rattle.std.proofs.Common.{◌≡◌, ℕ, ◌≤◌, List, ◌++◌, None, Option, length, map, ap, refl, ◌∙◌, subst, arith}
use Rattle.std.specs.Prelude.{codes, max, min}
use Rattle.std.proofs.lemmas.Slice.Eq.{bytes_eq-Decides}
use Rattle.ledger_terms.specs.Parties.{set_of}
use Rattle.canton_model.specs.Inbox.{clean, inbox, node_active}
use Rattle.canton_model.specs.Log.{Params}
use Rattle.canton_model.specs.Reading.{Reading}
use Rattle.canton_model.specs.Shared.{shared_with}
use Rattle.canton_model.specs.declared.entry.Entry.{Entry}
use Rattle.ledger_terms.specs.declared.active_row.ActiveRow.{ActiveRow}
use Rattle.acs_commit.specs.Shared.{row_id, shared_ids}
use Rattle.acs_commit.specs.Trees.{first_difference, root_of}
use Rattle.commitment_text.specs.Commitments.{agreement_text, pair_since, pair_text, place_text, shared_text, told_text}
use Rattle.commitment_text.specs.Counterparties.{counterparty_over}
use Rattle.commitment_text.proofs.FromBases.{unforgotten}

-- a set of ids doesn't differ from itself
no_difference : (ids : List (List ℕ)) → first_difference ids ids ≡ None
unfolding first_difference
no_difference ids = rw ((bytes_eq-Decides (root_of ids) (root_of ids)).1 refl) refl

told_equal : (mine theirs : List (List ℕ)) → mine ≡ theirs → shared_text mine theirs ≡ told_text (length mine) (length mine) (codes "equal")
told_equal mine theirs same =
    subst (λ (ids : List (List ℕ)). shared_text mine ids ≡ told_text (length mine) (length mine) (codes "equal")) same
    (ap (λ (first : Option ℕ). told_text (length mine) (length mine) (agreement_text first)) (no_difference (set_of mine)))

-- they share the same contracts at the lesser of their clean places, which neither has forgotten, and their line says so
pub line_is_equal : (reading : Reading) (params : Params) (log : List Entry) (p q : ℕ) (name other : List ℕ) (b c place : ℕ)
    → b ≤ place → c ≤ place → place ≡ min (clean params (inbox reading p log)) (clean params (inbox reading q log))
    → shared_with reading q (node_active reading p (inbox reading p log) place) ≡ shared_with reading p (node_active reading q (inbox reading q log) place)
    → (count : ℕ) × (pair_text reading (counterparty_over reading params log p name b) (counterparty_over reading params log q other c)
    ≡ place_text name other place ++ told_text count count (codes "equal"))
line_is_equal reading params log p q name other b c place one_from other_from at same =
    let one = counterparty_over reading params log p name b in
    let two = counterparty_over reading params log q other c in
    let mine : List (List ℕ) = shared_ids reading q (node_active reading p (inbox reading p log) place) in
    let theirs : List (List ℕ) = shared_ids reading p (node_active reading q (inbox reading q log) place) in
    let told = told_equal mine theirs (ap (λ (rows : List ActiveRow). map row_id rows) same) in
    let line : pair_since reading one two (max b c) place ≡ place_text name other place ++ told_text (length mine) (length mine) (codes "equal") =
    unforgotten reading one two (max b c) place (omega (arith, one_from, other_from)) ∙ ap (λ (text : List ℕ). place_text name other place ++ text) told in (
      length mine,
      subst
          (λ (m : ℕ).
          pair_since reading one two (max b c) m
          ≡ place_text name other place ++ told_text (length mine) (length mine) (codes "equal"))
          at line,
    )
