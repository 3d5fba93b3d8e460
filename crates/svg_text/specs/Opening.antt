-- What stands before the first element of a picture.
use Rattle.std.specs.Prelude.{ℕ, List, [], ◌++◌, codes}
use Rattle.svg_text.specs.Elements.{extent, pair_attribute}
use Rattle.svg_text.specs.Escape.{escaped}
use Rattle.svg_text.specs.declared.size.Size.{Size}
use Rattle.svg_text.specs.declared.style.TheConstants.{ROOT, STYLE, TIPS}

-- the attribute `viewBox`: the part of the plane that is drawn, from the point 0 0 on and of this size
abbrev pub view_box : Size → List ℕ
view_box size = pair_attribute (codes "viewBox") (codes "0 0 ") size.width size.height []

-- the first tag of a picture of this size
abbrev pub root : Size → List ℕ
root size = ROOT.now ++ extent size ++ view_box size ++ codes ">\n"

-- the tag that begins an element of this name, with the name for an id too
abbrev pub described_start : List ℕ → List ℕ
described_start name = codes "<" ++ name ++ codes " id=\"" ++ name ++ codes "\">"

-- the tag that ends an element of this name
abbrev pub described_end : List ℕ → List ℕ
described_end name = codes "</" ++ name ++ codes ">\n"

-- an element that holds nothing but a text, with its own name for an id: the name, and the text. The picture's title and description are such.
abbrev pub described : List ℕ → List ℕ → List ℕ
described name text = described_start name ++ escaped text ++ described_end name

-- the style sheet, and the tips of arrows that lines refer to
abbrev pub sheets : List ℕ
sheets = STYLE.now ++ TIPS.now

-- a rectangle of the picture's size under everything that is drawn: the page
abbrev pub page : Size → List ℕ
page size = codes "<rect class=\"sheet\"" ++ extent size ++ codes "/>\n"

-- all that stands before the first element of a picture: of its size, its title and its description
abbrev pub opening : Size → List ℕ → List ℕ → List ℕ
opening size title description =
    root size ++ described (codes "title") title ++ described (codes "desc") description ++ sheets ++ page size
