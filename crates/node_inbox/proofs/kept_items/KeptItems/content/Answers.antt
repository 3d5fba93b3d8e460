use Rattle.std.proofs.Common.{◌≤◌, ◌-◌, length, Some, refl, sym, ap, ◌∙◌, arith}
use Rattle.std.proofs.lemmas.Option.{slice_get_past, slice_get_read}
use Rattle.node_inbox.specs.KeptItems.{content_in}
use Rattle.node_inbox.proofs.KeptItems.{kept_get, silent_content}
use Rattle.node_inbox.proofs.kept_items.KeptItems.content.Goals as goal

pub returns-then-place-self : goal.returns-then-place-self
returns-then-place-self c =
    let s = c.self.inside in
    rw (← c.self.view_is) (ap Some c.self.invariant.2 ∙ sym (silent_content s.base s.base_time c.args.place s.items.items c.if-place-self.true))

pub returns-in-Some : goal.returns-in-Some
returns-in-Some c =
    let s = c.self.inside in
    let past = c.if-place-self.false in
    let low : s.base ≤ c.args.place = omega (arith, past) in
    let found = rw (c.deref.ensures.value) at c.in-Some.ensures.lookup in
    let at = slice_get_read s.items.items (length s.items.items) (c.args.place - s.base) c.in-Some.item.now refl found.3.0 found.1 in
    rw (← c.self.view_is) (sym (ap content_in (kept_get s.base s.base_time c.args.place s.items.items low ∙ at)))

pub returns-in-None : goal.returns-in-None
returns-in-None c =
    let s = c.self.inside in
    let past = c.if-place-self.false in
    let low : s.base ≤ c.args.place = omega (arith, past) in
    let found = rw (c.deref.ensures.value) at c.in-None.ensures.lookup in
    let at = slice_get_past s.items.items (c.args.place - s.base) found.3 in
    rw (← c.self.view_is) (sym (ap content_in (kept_get s.base s.base_time c.args.place s.items.items low ∙ at)))
