use Rattle.std.proofs.Common.{◌≡◌, ◌<◌, ◌^◌, ◌∙◌, ℕ, List, ap, length, lit<, refl, arith, rules, subst}
use Rattle.canton_model.specs.declared.entry.Entry.{Entry}
use Rattle.cli_words.specs.declared.job.Job.{Job}
use Rattle.cli_words.specs.declared.job.Job.TheVariants.{Audit, Commitments, Dump, Gen, Run}
use Rattle.commitment_text.specs.Knowledge.{KnowAlike, Knowledge}
use Rattle.commitment_text.proofs.FromBases.{same_commitments}
use Rattle.log_dump.specs.InRange.{IsBlock}
use Rattle.node_core.specs.declared.node_view.NodeView.{NodeView}
use Rattle.node_core.specs.declared.submit_result.SubmitResult.{SubmitResult}
use Rattle.script_read.specs.declared.script.Script.{Script}
use Rattle.trigger_rules.specs.declared.caused.Caused.{Caused}
use Rattle.canton_run.specs.Jobs.{knowledge_in, text_over, told_text, views_in}
use Rattle.canton_run.specs.Run.{reading_for}
use Rattle.canton_run.proofs.Judged.{is_spellable}
use Rattle.canton_run.proofs.told_run.told_run.Goals as goal

-- a job's text tells nothing of what is active below bases
known_alike : (job : Job) (bytes : List ℕ) (script : Script) (log : List Entry) (results : List SubmitResult) (views : List NodeView)
    (known known' : List Knowledge) (caused : List Caused) → KnowAlike known known'
    → text_over job bytes script log results views known caused ≡ text_over job bytes script log results views known' caused
known_alike (Run workers capacity) bytes script log results views known known' caused alike = refl
known_alike (Gen count seed workers) bytes script log results views known known' caused alike = refl
known_alike (Commitments workers capacity) bytes script log results views known known' caused alike =
    same_commitments (reading_for script) (script.topology).hosts known known' alike
known_alike (Dump workers capacity) bytes script log results views known known' caused alike = refl
known_alike Audit bytes script log results views known known' caused alike = refl

-- the text of the participants of a run is what the job writes of the script with its bytes
is_told : (job : Job) (bytes bytes' : List ℕ) → bytes ≡ bytes' → (script script' : Script) → script ≡ script' → (log : List Entry)
    (results : List SubmitResult) (ends : List ℕ) (caused : List Caused) → (views : List NodeView) → views ≡ views_in script log ends
    → (known : List Knowledge) → KnowAlike known (knowledge_in script log ends)
    → text_over job bytes script log results views known caused ≡ told_text job bytes' script' log results ends caused
is_told job bytes bytes' one script script' same log results ends caused views seen known knows =
    ap (λ (v : List NodeView). text_over job bytes script log results v known caused) seen
    ∙ known_alike job bytes script log results (views_in script log ends) known (knowledge_in script log ends) caused knows
    ∙ ap (λ (s : Script). told_text job bytes s log results ends caused) same ∙ ap (λ (b : List ℕ). told_text job b script' log results ends caused) one

pub text_of-requires-clause-script : goal.text_of-requires-clause-script
text_of-requires-clause-script g c =
    let same = ap length (c.as_slice.ensures ∙ c.parts_of-setup.ensures.bytes) in
    let short = c.requires.short in
    let most : 4194304 < 2 ^ 32 = lit< tt in omega (arith, same, short, most)

pub text_of-requires-clause-log : goal.text_of-requires-clause-log
text_of-requires-clause-log g c = is_spellable _ _ _ _ _ _ _ _ c.in-Ok.ensures.run (search rules) (search rules)

pub returns-clause-text : goal.returns-clause-text
returns-clause-text g c =
    let parts = c.parts_of-setup in
    let run = c.in-Ok in
    c.in-Ok-text_of.ensures.text parts.result.triggers
    ∙ is_told c.args.job _ _ (c.as_slice.ensures ∙ parts.ensures.bytes) _ _ parts.ensures.script _ _ _ _ _ run.ensures.views _ run.ensures.knowledge

pub returns-clause-spelled : goal.returns-clause-spelled
returns-clause-spelled g c count log is =
    let spelled = c.in-Ok-text_of.ensures.spellable count log is in
    (subst IsBlock (c.as_slice.ensures ∙ c.parts_of-setup.ensures.bytes) spelled.0, spelled.1)
