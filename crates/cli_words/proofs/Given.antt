-- The arguments that are given, as rows of `clap`.
use Rattle.std.proofs.Common.{◌≡◌, Bool, true, false, List, [], ◌∷◌, ◌++◌, Some, None, map, refl, ◌∙◌, ap, cond, ◌||◌, sym, append-nil, true≢false}
use Rattle.std.specs.Prelude.{option_and_then, slice_get, find}
use Rattle.std.specs.Str.{bytes_eq}
use Rattle.std.proofs.lemmas.List.Folds.{list_any-append}
use Rattle.std.proofs.lemmas.List.{map-append}
use Rattle.clap.specs.Walk.{Row, has_row, at_row, more_values, with_values, without, first_of}
use Rattle.clap.specs.declared.builder.value_parser.Reading.TheVariants as reading
use Rattle.clap.specs.declared.parser.matches.ValueSource.TheVariants.{CommandLine}
use Rattle.cli_words.specs.Arguments.{Text, Argument, is_given, text_of}

abbrev pub row_of_argument : Argument → Row
row_of_argument a =
    record {
      id = a.0;
      values = a.1 ∷ [];
      count = None;
      source = Some CommandLine;
      reading = reading.AsWritten;
    }

abbrev pub rows_of_given : List Argument → List Row
rows_of_given = map row_of_argument

pub has_row-given : (name : Text) (given : List Argument) → has_row name (rows_of_given given) ≡ is_given name given
has_row-given name [] = refl
has_row-given name (a ∷ given) = ap (λ b. bytes_eq a.0 name || b) (has_row-given name given)

pub first_of-given : (name : Text) (given : List Argument) → first_of name (rows_of_given given) ≡ text_of name given
first_of-given name [] = refl
first_of-given name (a ∷ given) = go (first_of-given name given) (bytes_eq a.0 name)
  where
    go : first_of name (rows_of_given given) ≡ text_of name given → (b : Bool)
        → option_and_then (λ (r : Row). slice_get r.values 0) (cond b (Some (row_of_argument a)) (find (λ (r : Row). bytes_eq r.id name) (rows_of_given given)))
        ≡ cond b (Some a.1) (text_of name given)
    go others true = refl
    go others false = others

-- the rows of other arguments stay
at_row-absent : (name : Text) (change : Row → List Row) (missing : List Row) (given : List Argument) → is_given name given ≡ false
    → at_row name change missing (rows_of_given given) ≡ rows_of_given given ++ missing
at_row-absent name change missing [] e = refl
at_row-absent name change missing (a ∷ given) e = go (λ h. at_row-absent name change missing given h) (bytes_eq a.0 name) e
  where
    go : (is_given name given ≡ false → at_row name change missing (rows_of_given given) ≡ rows_of_given given ++ missing)
        → (b : Bool) → (b || is_given name given) ≡ false
        → cond b (change (row_of_argument a) ++ rows_of_given given) (row_of_argument a ∷ at_row name change missing (rows_of_given given))
        ≡ row_of_argument a ∷ (rows_of_given given ++ missing)
    go others true h = absurd (true≢false h)
    go others false h = ap (λ (rs : List Row). row_of_argument a ∷ rs) (others h)

-- a new argument comes behind the others
pub used-absent : (name text : Text) (given : List Argument) → is_given name given ≡ false
    → with_values name reading.AsWritten CommandLine (text ∷ []) (without name (rows_of_given given)) ≡ rows_of_given (given ++ (name, text) ∷ [])
used-absent name text given e =
    let others = at_row-absent name (λ (r : Row). []) [] given e ∙ append-nil (rows_of_given given) in
    let last : List Row = row_of_argument (name, text) ∷ [] in
    rw others (at_row-absent name (more_values CommandLine (text ∷ [])) last given e ∙ sym (map-append row_of_argument given ((name, text) ∷ [])))

-- an argument of another name is given besides
pub absent-more : (name other text : Text) (given : List Argument) → bytes_eq other name ≡ false → is_given name given ≡ false
    → is_given name (given ++ (other, text) ∷ []) ≡ false
absent-more name other text given differs e =
    list_any-append (λ (a : Argument). bytes_eq a.0 name) given ((other, text) ∷ []) ∙ rw (e, differs) refl
