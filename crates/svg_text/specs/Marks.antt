-- Marks: their paths and tones.
use Rattle.std.specs.Prelude.{ℕ, List, codes}
use Rattle.svg_text.specs.declared.mark.Mark.{Mark}
use Rattle.svg_text.specs.declared.mark.Mark.TheVariants.{Approved, Rejected, TimedOut, Expired, Undecided}
use Rattle.svg_text.specs.declared.tone.Tone.{Tone}
use Rattle.svg_text.specs.declared.tone.Tone.TheVariants.{Good, Bad, Waiting}

-- the tone in which a mark is drawn
abbrev pub mark_tone : Mark → Tone
mark_tone Approved = Good
mark_tone Rejected = Bad
mark_tone TimedOut = Waiting
mark_tone Expired = Waiting
mark_tone Undecided = Waiting

-- the lines of a mark, drawn round the point 0 0, in the notation of the attribute `d` of an SVG path
abbrev pub mark_path : Mark → List ℕ
mark_path Approved = codes "M-6 0L-2 4L6 -5"
mark_path Rejected = codes "M-5 -5L5 5M5 -5L-5 5"
mark_path TimedOut = codes "M-6 0A6 6 0 1 0 6 0A6 6 0 1 0 -6 0M0 -4L0 0L3 2"
mark_path Expired = codes "M-6 0A6 6 0 1 0 6 0A6 6 0 1 0 -6 0M-4 4L4 -4"
mark_path Undecided = codes "M-5 -1L-5 1M0 -1L0 1M5 -1L5 1"
