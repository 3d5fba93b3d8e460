-- The items of an inbox that begins at a base.
use Rattle.std.specs.Prelude.{ℕ, zero, suc, ◌-◌, List, [], ◌∷◌, Option, Some, None}
use Rattle.node_inbox.specs.declared.kept_item.KeptItem.{KeptItem}
use Rattle.node_inbox.specs.declared.kept_item.KeptContent.{KeptContent}
use Rattle.node_inbox.specs.declared.kept_item.KeptContent.TheVariants.{Nothing}

-- So many (`count`) items that bring nothing, one microsecond after another, the last of them at the time `last`. They stand for the items below a base.
abbrev pub silent_kept : (count last : ℕ) → List KeptItem
silent_kept zero last = []
silent_kept (suc count) last = record { time = last - count; content = Nothing } ∷ silent_kept count last

-- What an item that may not be there brings, and None where it isn't there.
abbrev pub content_in : Option KeptItem → Option KeptContent
content_in None = None
content_in (Some item) = Some item.content

-- The time of an item that may not be there, in microseconds, and 0 where it isn't there.
abbrev pub time_in : Option KeptItem → ℕ
time_in None = 0
time_in (Some item) = item.time
