-- Names and their parts.
use Rattle.std.proofs.Common.{◌≡◌, ◌≢◌, ◌∙◌, ◌++◌, ℕ, Bool, true, false, List, length, take, Option, None, Some, Bor, refl, sym, ap, codes}
use Rattle.std.proofs.Math.Seq.{take-append_seam}
use Rattle.std.specs.Option.{MatchOption}
use Rattle.std.proofs.lemmas.List.{append_assoc, append_cancel_left}
use Rattle.ledger_terms.specs.Parties.{same_name}
use Rattle.ledger_terms.proofs.Deciding.{bytes_decide}

both_ways : (r s : Bool) → (r ≡ true → s ≡ true) → (s ≡ true → r ≡ true) → r ≡ s
both_ways true s f g = sym (f refl)
both_ways false true f g = g refl
both_ways false false f g = refl

-- a field's name is its owner's and what stands behind it
abbrev pub dotted : List ℕ → List ℕ → List ℕ
dotted owner field = owner ++ codes "." ++ field

-- what stands behind the owner and the dot decides
same_part : (owner field part text : List ℕ) → text ≡ dotted owner part → same_name (dotted owner field) text ≡ same_name field part
same_part owner field part text is = both_ways _ _
    (λ h. (bytes_decide field part).1 (append_cancel_left (owner ++ codes ".") field part ((bytes_decide (dotted owner field) text).0 h ∙ is)))
    (λ h. (bytes_decide (dotted owner field) text).1 (ap (dotted owner) ((bytes_decide field part).0 h) ∙ sym is))

-- a text that begins otherwise is no name of its fields
other_part : (owner field text : List ℕ) → ((part : List ℕ) → text ≢ dotted owner part) → same_name (dotted owner field) text ≡ false
other_part owner field text other = both_ways _ _
    (λ h. absurd (other field (sym ((bytes_decide (dotted owner field) text).0 h)))) (λ h. absurd (let never : false ≡ true = h in cc))

abbrev pub NamesPart : List ℕ → List ℕ → Option (Bor (List ℕ)) → Type 0
NamesPart owner text r = MatchOption r ((field : List ℕ) → same_name (dotted owner field) text ≡ false)
    (λ part. (field : List ℕ) → same_name (dotted owner field) text ≡ same_name field part.now)

pub part_behind : (owner text rest : List ℕ) (r : Option (Bor (List ℕ))) → text ≡ owner ++ rest
    → MatchOption r ((part : List ℕ) → rest ≢ codes "." ++ part) (λ part. rest ≡ codes "." ++ part.now) → NamesPart owner text r
part_behind owner text rest None is other = λ field. other_part owner field text
    (λ part same. other part (append_cancel_left owner rest (codes "." ++ part) (sym is ∙ (same ∙ append_assoc owner (codes ".") part))))
part_behind owner text rest (Some part) is dot = λ field.
    same_part owner field part.now text (is ∙ (ap (λ t. owner ++ t) dot ∙ sym (append_assoc owner (codes ".") part.now)))

pub no_part_behind : (owner text : List ℕ) → ((rest : List ℕ) → text ≢ owner ++ rest) → (field : List ℕ) → same_name (dotted owner field) text ≡ false
no_part_behind owner text other field = other_part owner field text
    (λ part same. other (codes "." ++ part) (same ∙ append_assoc owner (codes ".") part))

-- a text whose first bytes are not a word has nothing behind it
pub begins_otherwise : (text word : List ℕ) → same_name (take (length word) text) word ≡ false → (rest : List ℕ) → text ≢ word ++ rest
begins_otherwise text word other rest is =
    let same = (bytes_decide (take (length word) text) word).1 (ap (take (length word)) is ∙ take-append_seam word rest) in
    let never : false ≡ true = sym other ∙ same in absurd cc
