use Rattle.std.proofs.Common.{◌≡◌, ◌+◌, suc, List, ◌++◌, ◌∷◌, [], take, Some, sym, ap, ◌∙◌, subst, arith}
use Rattle.ledger_terms.specs.declared.submission.Submission.{Submission}
use Rattle.lang_eval.specs.Named.{AreKnown}
use Rattle.sealed_form.specs.Within.{is_hosted}
use Rattle.prepare_request.specs.Within.{parties_in_what}
use Rattle.world_model.proofs.Steps.{take_next}
use Rattle.world_play.proofs.Passing.{item_at}
use Rattle.world_play.proofs.Plays.{each_of}
use Rattle.client_threads.specs.Served.{IsServed}
use Rattle.client_threads.proofs.serving.serve.Goals as goal

pub serve_one-requires : goal.serve_one-requires
serve_one-requires g c =
    let k = c.submits.what-index in
    let x = c.what-item.result in
    let at = item_at c.args.submits.now k x c.submits-test.true ∙ ap Some (sym c.what-item.is) in
    record {
      named = each_of (λ (what : Submission). AreKnown (is_hosted g.S.Session.topology) (parties_in_what what.what)) c.args.submits.now k x c.requires.named at;
    }

pub submits-preserved : goal.submits-preserved
submits-preserved g c =
    let k = c.submits.what-index in
    let x = c.what-item.result in
    let at = item_at c.args.submits.now k x c.submits-test.true ∙ ap Some (sym c.what-item.is) in
    let one : k + 1 ≡ suc k = omega arith in
    let next : take (k + 1) c.args.submits.now ≡ take k c.args.submits.now ++ x ∷ [] =
    ap (λ n. take n c.args.submits.now) one ∙ take_next k c.args.submits.now x at in
    subst
    (λ (ws : List Submission). IsServed g.S.Session.machine g.S.Session.why c.args.shared.now.round.time c.args.shared.now.round.paused c.args.client.list
    ws c.args.client.me c.serve_one.new.client c.serve_one.new.results)
    (sym next) (c.in_ok-serve_one.ensures c.args.client.list (take k c.args.submits.now) c.args.client.me c.submits.invariant)
