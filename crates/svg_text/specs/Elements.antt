-- The elements of a picture, each as the bytes of its SVG. Texts are lists of bytes; `codes` gives the bytes of a word.
use Rattle.std.specs.Prelude.{ℕ, List, ◌++◌, codes, decimal}
use Rattle.svg_text.specs.Escape.{escaped}
use Rattle.svg_text.specs.Marks.{mark_path, mark_tone}
use Rattle.svg_text.specs.Words.{anchor_word, dash_word, fill_word, font_word, tone_word}
use Rattle.svg_text.specs.declared.frame.Frame.{Frame}
use Rattle.svg_text.specs.declared.label.Label.{Label}
use Rattle.svg_text.specs.declared.mark.Mark.{Mark}
use Rattle.svg_text.specs.declared.paint.Paint.{Paint}
use Rattle.svg_text.specs.declared.point.Point.{Point}
use Rattle.svg_text.specs.declared.size.Size.{Size}
use Rattle.svg_text.specs.declared.stroke.Stroke.{Stroke}

-- an attribute whose value is a number: a blank, the name, and the number in decimal between quotes
abbrev pub number_attribute : List ℕ → ℕ → List ℕ
number_attribute name number = codes " " ++ name ++ codes "=\"" ++ decimal number ++ codes "\""

-- the beginning of an attribute of this name: a blank, the name, `=` and the first quote
abbrev pub attribute_start : List ℕ → List ℕ
attribute_start name = codes " " ++ name ++ codes "=\""

-- two numbers in decimal with a blank between them
abbrev pub pair : ℕ → ℕ → List ℕ
pair first second = decimal first ++ codes " " ++ decimal second

-- an attribute of this name whose value is two numbers, with other words before and behind them; the words are not escaped
abbrev pub pair_attribute : List ℕ → List ℕ → ℕ → ℕ → List ℕ → List ℕ
pair_attribute name before first second behind =
    attribute_start name ++ before ++ pair first second ++ behind ++ codes "\""

-- an attribute of this name whose value is a word, with other words before and behind it; none of them is escaped
abbrev pub joined_attribute : List ℕ → List ℕ → List ℕ → List ℕ → List ℕ
joined_attribute name before word behind = attribute_start name ++ before ++ word ++ behind ++ codes "\""

-- an attribute of this name whose value is a text, which is escaped
abbrev pub attribute : List ℕ → List ℕ → List ℕ
attribute name text = codes " " ++ name ++ codes "=\"" ++ escaped text ++ codes "\""

-- the attribute `class` with two words of the style sheet, such as a tone and a fill
abbrev pub class_attribute : List ℕ → List ℕ → List ℕ
class_attribute first second = codes " class=\"" ++ first ++ codes " " ++ second ++ codes "\""

-- the attributes `x` and `y` of an element that stands at this point
abbrev pub place : Point → List ℕ
place at = number_attribute (codes "x") at.x ++ number_attribute (codes "y") at.y

-- the attributes `width` and `height` of an element of this size
abbrev pub extent : Size → List ℕ
extent size = number_attribute (codes "width") size.width ++ number_attribute (codes "height") size.height

-- the attributes of a line that goes from the first point to the second
abbrev pub ends : Point → Point → List ℕ
ends from to =
    number_attribute (codes "x1") from.x ++ number_attribute (codes "y1") from.y ++ number_attribute (codes "x2") to.x ++ number_attribute (codes "y2") to.y

-- the title of an element, a text that readers show when the pointer rests on it; it is escaped
abbrev pub title_element : List ℕ → List ℕ
title_element title = codes "<title>" ++ escaped title ++ codes "</title>"

-- the attribute `class` of a line of text: the words of its tone, its font and its anchor
abbrev pub label_class : Label → List ℕ
label_class label =
    codes " class=\"" ++ tone_word label.tone ++ codes " " ++ font_word label.font ++ codes " " ++ anchor_word label.anchor ++ codes "\""

-- the tag that begins a line of text, with its place and its looks
abbrev pub label_start : Label → List ℕ
label_start label = codes "<text" ++ place label.at ++ label_class label ++ codes ">"

-- a line of text, placed and styled by the label, with the words in it, which are escaped
abbrev pub text_element : Label → List ℕ → List ℕ
text_element label words = label_start label ++ escaped words ++ codes "</text>\n"

-- a line of text that may be cut: the label, the words that are drawn, and the whole text, which is its title
abbrev pub titled_text_element : Label → List ℕ → List ℕ → List ℕ
titled_text_element label words whole = label_start label ++ escaped words ++ title_element whole ++ codes "</text>\n"

-- a line from the first point to the second, with the tone and the dash of the stroke
abbrev pub line_element : Point → Point → Stroke → List ℕ
line_element from to stroke =
    codes "<line" ++ ends from to ++ class_attribute (tone_word stroke.tone) (dash_word stroke.dash) ++ codes "/>\n"

-- the attribute that puts the tip of an arrow at the end of a line; the word is that of the tone, for each of which but `paper` the picture defines a
-- tip
unfoldable pub tip : List ℕ → List ℕ
tip word = joined_attribute (codes "marker-end") (codes "url(#tip-") word (codes ")")

-- a line from the first point to the second with the tip of an arrow at the second
abbrev pub arrow_element : Point → Point → Stroke → List ℕ
arrow_element from to stroke =
    codes "<line" ++ ends from to ++ class_attribute (tone_word stroke.tone) (dash_word stroke.dash) ++ tip (tone_word stroke.tone) ++ codes "/>\n"

-- the attribute `class` of a shape: the words of its tone and of its fill
abbrev pub paint_class : Paint → List ℕ
paint_class paint = class_attribute (tone_word paint.tone) (fill_word paint.fill)

-- the attributes of a rectangle: its upper left corner, its size, and the radius of its rounded corners
abbrev pub outline : Frame → List ℕ
outline frame = place frame.corner ++ extent frame.size ++ number_attribute (codes "rx") frame.radius

-- a rectangle at this frame, with the tone and the fill of the paint
abbrev pub rectangle_element : Frame → Paint → List ℕ
rectangle_element frame paint = codes "<rect" ++ outline frame ++ paint_class paint ++ codes "/>\n"

-- the attributes of a circle: its middle and its radius
abbrev pub round : Point → ℕ → List ℕ
round at radius = number_attribute (codes "cx") at.x ++ number_attribute (codes "cy") at.y ++ number_attribute (codes "r") radius

-- a circle round this point with this radius, and with the tone and the fill of the paint
abbrev pub circle_element : Point → ℕ → Paint → List ℕ
circle_element at radius paint = codes "<circle" ++ round at radius ++ paint_class paint ++ codes "/>\n"

-- the attribute that moves a path, which is drawn round the point 0 0, to another point
abbrev pub shift : Point → List ℕ
shift at = pair_attribute (codes "transform") (codes "translate(") at.x at.y (codes ")")

-- a mark round this point, in the tone that the mark has
abbrev pub mark_element : Point → Mark → List ℕ
mark_element at mark =
    codes "<path" ++ shift at ++ attribute (codes "d") (mark_path mark) ++ class_attribute (tone_word (mark_tone mark)) (codes "mark") ++ codes "/>\n"

-- the tag that begins a group of elements with this class, which is escaped
abbrev pub group_start : List ℕ → List ℕ
group_start class = codes "<g" ++ attribute (codes "class") class ++ codes ">"
