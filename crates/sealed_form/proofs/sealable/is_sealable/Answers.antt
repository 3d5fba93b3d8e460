use Rattle.sealed_form.proofs.Submitted.{filled_is_sealable, wanted_is_sealable}
use Rattle.sealed_form.proofs.sealable.is_sealable.Goals as goal

pub returns-clause-wanted : goal.returns-clause-wanted
returns-clause-wanted c topology packages known commands tx sender name valid submits is_split wanted =
    let s =
    wanted_is_sealable topology valid packages known sender name tx c.args.views.now c.as_slice-requesters.ensures.rising
    (λ s named room. c.are_spellable.ensures.in_range s named (c.are_spellable.ensures.exact.1 room)) is_split
    commands submits wanted in
    (c.are_spellable.ensures.exact.1 s.0, s.1)

pub returns-clause-filled : goal.returns-clause-filled
returns-clause-filled c topology packages known drafts tx sender name valid submits is_split filled =
    let s =
    filled_is_sealable topology valid packages known sender name tx c.args.views.now c.as_slice-requesters.ensures.rising
    (λ s named room. c.are_spellable.ensures.in_range s named (c.are_spellable.ensures.exact.1 room)) is_split
    drafts submits filled in
    (c.are_spellable.ensures.exact.1 s.0, s.1)
