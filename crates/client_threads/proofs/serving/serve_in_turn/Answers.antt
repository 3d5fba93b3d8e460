use Rattle.std.proofs.Common.{rules, ◌≡◌, ◌+◌, ◌++◌, ◌∷◌, [], List, drop, length, Some, sym, ap, ◌∙◌, subst, arith}
use Rattle.std.specs.Prelude.{All, slice_get}
use Rattle.std.proofs.lemmas.List.{length-append}
use Rattle.std.proofs.lemmas.List.Elements.{All-head, All-tail}
use Rattle.sync_shared.specs.Clients.{Seen}
use Rattle.client_threads.specs.Served.{IsServed}
use Rattle.client_threads.proofs.Brought.{each_more, each_none, left_after}
use Rattle.client_threads.proofs.serving.serve_in_turn.Goals as goal

pub clients-init : goal.clients-init
clients-init g c =
    let clients = c.args.clients.items in
    let round = c.args.shared.now.round in
    let all : c.into_iter-client-iterator.result.rest.items ≡ clients = search rules in
    let none : c.new-all.result.items ≡ [] = c.new-all.ensures.items in (
      ap (λ (ys : List _). drop (length ys) clients) none ∙ sym all,
      omega (arith, ap length none, ap length all),
      subst (All (λ (client : Seen). client.tickets ≡ 0)) (sym all) c.requires.fresh,
      each_none
          (λ (a : Seen) b. IsServed g.S.Session.machine g.S.Session.why round.time round.paused a.list c.args.submits.now a.me b.client b.results) clients
          c.new-all.result.items none,
    )

pub serve-requires-clause-fresh : goal.serve-requires-clause-fresh
serve-requires-clause-fresh g c =
    All-head (λ (client : Seen). client.tickets ≡ 0) c.in-Some.client c.next.new.self.rest.items
    (subst (All (λ (client : Seen). client.tickets ≡ 0)) c.in-Some.ensures.steps.0 c.clients.invariant.2)

pub clients-preserved : goal.clients-preserved
clients-preserved g c =
    let inv = c.clients.invariant in
    let client = c.in-Some.client in
    let rest = c.next.new.self.rest.items in
    let before = c.clients.all.items in
    let steps : c.clients.client-iterator.rest.items ≡ client ∷ rest = c.in-Some.ensures.steps.0 in
    let served = c.in_ok-served.served in
    let pushed : c.push.new.self.items ≡ before ++ served ∷ [] = search rules in
    let round = c.args.shared.now.round in
    let m = g.S.Session.machine in
    let why = g.S.Session.why in
    let left = inv.0 ∙ steps in
    let long : length (before ++ served ∷ []) ≡ length before + 1 = length-append before (served ∷ []) in (
      ap (λ (ys : List _). drop (length ys) c.args.clients.items) pushed ∙ left_after c.args.clients.items before client rest served left,
      omega (arith, ap length pushed, long, ap length steps, inv.1),
      All-tail (λ (client : Seen). client.tickets ≡ 0) client rest (subst (All (λ (client : Seen). client.tickets ≡ 0)) steps inv.2),
      λ p one two at there.
          each_more (λ (a : Seen) b. IsServed m why round.time round.paused a.list c.args.submits.now a.me b.client b.results) c.args.clients.items before
          client rest served left c.in_ok-served.ensures inv.3 p one two at
          (subst (λ (ys : List _). slice_get ys p ≡ Some two) pushed there),
    )
