-- The words by which elements name how they look: classes of the style sheet (`STYLE` of src/style.rt).
use Rattle.std.specs.Prelude.{ℕ, List, codes}
use Rattle.svg_text.specs.declared.anchor.Anchor.{Anchor}
use Rattle.svg_text.specs.declared.anchor.Anchor.TheVariants.{Start, Middle, End}
use Rattle.svg_text.specs.declared.fill.Fill.{Fill}
use Rattle.svg_text.specs.declared.fill.Fill.TheVariants.{Clear, Page, Tint, Full}
use Rattle.svg_text.specs.declared.font.Font.{Font}
use Rattle.svg_text.specs.declared.font.Font.TheVariants.{Plain, Strong, Code, Small, Title}
use Rattle.svg_text.specs.declared.stroke.Dash.{Dash}
use Rattle.svg_text.specs.declared.stroke.Dash.TheVariants.{Solid, Dashed, Thin}
use Rattle.svg_text.specs.declared.tone.Tone.{Tone}
use Rattle.svg_text.specs.declared.tone.Tone.TheVariants.{Ink, Quiet, Good, Bad, Waiting, Accent, Paper}

-- the class of the style sheet that gives an element the colour of this tone
abbrev pub tone_word : Tone → List ℕ
tone_word Ink = codes "ink"
tone_word Quiet = codes "quiet"
tone_word Good = codes "good"
tone_word Bad = codes "bad"
tone_word Waiting = codes "waiting"
tone_word Accent = codes "accent"
tone_word Paper = codes "paper"

-- the class of the style sheet that sets a text in this font; `plain` needs no rule there
abbrev pub font_word : Font → List ℕ
font_word Plain = codes "plain"
font_word Strong = codes "strong"
font_word Code = codes "code"
font_word Small = codes "small"
font_word Title = codes "title"

-- the class of the style sheet that puts the start, the middle or the end of a text at its point; `start` needs no rule there
abbrev pub anchor_word : Anchor → List ℕ
anchor_word Start = codes "start"
anchor_word Middle = codes "middle"
anchor_word End = codes "end"

-- the class of the style sheet that gives a shape this fill; `clear` needs no rule there
abbrev pub fill_word : Fill → List ℕ
fill_word Clear = codes "clear"
fill_word Page = codes "page"
fill_word Tint = codes "tint"
fill_word Full = codes "full"

-- the class of the style sheet that draws a line with this dash; `solid` needs no rule there
abbrev pub dash_word : Dash → List ℕ
dash_word Solid = codes "solid"
dash_word Dashed = codes "dashed"
dash_word Thin = codes "thin"
