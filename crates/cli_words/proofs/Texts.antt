-- Words as slices, one after another.
use Rattle.std.proofs.Common.{◌≡◌, ℕ, ◌+◌, ◌<◌, true, List, [], ◌∷◌, ◌++◌, map, length, take, get_or, ◌∙◌, ap, sym, subst}
use Rattle.std.specs.Borrow.{Bor}
use Rattle.std.specs.Str.{is_utf8}
use Rattle.std.proofs.lemmas.List.{take_more, map_push}
use Rattle.cli_words.specs.Arguments.{Text, AreUtf8}

utf8-push : (words : List Text) (word : Text) → AreUtf8 words → is_utf8 word ≡ true → AreUtf8 (words ++ word ∷ [])
utf8-push [] word all one = (one, tt)
utf8-push (w ∷ words) word all one = (all.0, utf8-push words word all.1 one)

abbrev pub AreSo : List (Bor Text) → List Text → Type 0
AreSo texts words = (map (λ (text : Bor Text). text.now) texts ≡ words) × AreUtf8 words

pub one_more : (words : List Text) (texts : List (Bor Text)) (text : Bor Text) (i : ℕ) (word : Text) → i < length words → word ≡ get_or words i word
    → text.now ≡ word → is_utf8 word ≡ true → AreSo texts (take i words) → AreSo (texts ++ text ∷ []) (take (i + 1) words)
one_more words texts text i word lt is same utf8 so =
    let longer : take (i + 1) words ≡ take i words ++ word ∷ [] = take_more words i word lt ∙ ap (λ (w : Text). take i words ++ w ∷ []) (sym is) in (
      map_push (λ (t : Bor Text). t.now) texts text ∙ ap (λ (front : List Text). front ++ text.now ∷ []) so.0 ∙ ap (λ (w : Text). take i words ++ w ∷ []) same
          ∙ sym longer,
      subst AreUtf8 (sym longer) (utf8-push (take i words) word so.1 utf8),
    )
