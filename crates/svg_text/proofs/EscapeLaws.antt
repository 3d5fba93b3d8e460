-- The escape byte by byte: XML keeps five bytes for itself, and every other byte stays.
use Rattle.std.proofs.Common.{◌≡◌, ℕ, ◌==◌, ◌&&◌, ◌||◌, ◌⊎◌, inl, inr, true, false, List, [], ◌∷◌, ◌++◌, Some, None, refl, ap, ◌∙◌, subst, arith}
use Rattle.std.proofs.lemmas.Bool.{cases_Bool, eqb-true}
use Rattle.std.proofs.lemmas.Bool.Decides.{nat_tests}
use Rattle.std.proofs.lemmas.List.Folds.{list_any-append}
use Rattle.std.specs.List.{list_any}
use Rattle.svg_text.specs.Escape.{is_kept, escaped_byte, escaped}
use Rattle.svg_text.specs.ReadBack.{ampersands_begin_entities, is_markup, read_on, unescaped}

-- a byte is one of the five, or isn't kept, and then it is no ampersand and no markup
data Kind (b : ℕ) : Type 0 where
  Ampersand : b ≡ 38 → Kind b
  Less : b ≡ 60 → Kind b
  Greater : b ≡ 62 → Kind b
  Quote : b ≡ 34 → Kind b
  Apostrophe : b ≡ 39 → Kind b
  Other : is_kept b ≡ false → (b == 38) ≡ false → is_markup b ≡ false → Kind b

kind : (b : ℕ) → Kind b
kind b =
    elim (cases_Bool (b == 38)) [
      | inl h ↦ Ampersand (eqb-true b 38 h)
      | inr a ↦
          elim (cases_Bool (b == 60)) [
            | inl h ↦ Less (eqb-true b 60 h)
            | inr l ↦
                elim (cases_Bool (b == 62)) [
                  | inl h ↦ Greater (eqb-true b 62 h)
                  | inr g ↦
                      elim (cases_Bool (b == 34)) [
                        | inl h ↦ Quote (eqb-true b 34 h)
                        | inr q ↦
                            elim (cases_Bool (b == 39)) [
                              | inl h ↦ Apostrophe (eqb-true b 39 h)
                              | inr p ↦ Other (rw (a, l, g, q, p) refl) a (rw (l, g, q, p) refl)
                            ]
                      ]
                ]
          ]
    ]

plain_byte : (b : ℕ) → Kind b → list_any is_markup (escaped_byte b) ≡ false
plain_byte b (Ampersand h) = rw h refl
plain_byte b (Less h) = rw h refl
plain_byte b (Greater h) = rw h refl
plain_byte b (Quote h) = rw h refl
plain_byte b (Apostrophe h) = rw h refl
plain_byte b (Other kept amp markup) = rw kept (rw markup refl)

-- what is escaped has no markup
pub plain : (t : List ℕ) → list_any is_markup (escaped t) ≡ false
plain [] = refl
plain (b ∷ t) = list_any-append is_markup (escaped_byte b) (escaped t) ∙ rw (plain_byte b (kind b), plain t) refl

entities_before : (b : ℕ) (t : List ℕ) → Kind b → ampersands_begin_entities t ≡ true → ampersands_begin_entities (escaped_byte b ++ t) ≡ true
entities_before b t (Ampersand h) rest = rw h rest
entities_before b t (Less h) rest = rw h rest
entities_before b t (Greater h) rest = rw h rest
entities_before b t (Quote h) rest = rw h rest
entities_before b t (Apostrophe h) rest = rw h rest
entities_before b t (Other kept amp markup) rest = rw kept (rw amp rest)

-- each ampersand of what is escaped begins an entity
pub entities : (t : List ℕ) → ampersands_begin_entities (escaped t) ≡ true
entities [] = refl
entities (b ∷ t) = entities_before b (escaped t) (kind b) (entities t)

read_before : (b : ℕ) (t : List ℕ) → Kind b → read_on None (escaped_byte b ++ t) ≡ b ∷ read_on None t
read_before b t (Ampersand h) = rw h refl
read_before b t (Less h) = rw h refl
read_before b t (Greater h) = rw h refl
read_before b t (Quote h) = rw h refl
read_before b t (Apostrophe h) = rw h refl
read_before b t (Other kept amp markup) = rw kept (rw amp refl)

-- what is escaped reads back
pub reads_back : (t : List ℕ) → unescaped (escaped t) ≡ t
reads_back [] = refl
reads_back (b ∷ t) = read_before b (escaped t) (kind b) ∙ ap (λ (more : List ℕ). b ∷ more) (reads_back t)
