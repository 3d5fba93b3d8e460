use Rattle.std.proofs.Common.{ap, sym}
use Rattle.std.proofs.lemmas.Result.{err_from_is_err_and}
use Rattle.canton_model.specs.declared.request.Request.{Request}
use Rattle.prepare_request.specs.Prepared.{name_at}
use Rattle.prepare_request.proofs.Machines.{gives, refuses}
use Rattle.prepare_request.proofs.Opens.{opens_by_rules}
use Rattle.prepare_request.proofs.Prepares.{exact, is_split, keeps_limits, sealable, sealed, some_root, unsplit}
use Rattle.prepare_request.proofs.Sealing.{is_named}
use Rattle.prepare_request.proofs.preparing.prepare.Goals as goal

pub seal-requires-clause-spellable : goal.seal-requires-clause-spellable
seal-requires-clause-spellable g c =
    c.is_sealable-sealable.ensures.exact.0
    (sealable c.args.setup.now.topology c.args.setup.now.checked c.args.me (g.K.KnownContracts.rows c.args.known.now) c.args.what.now c.args.now
    c.requires.valid c.requires.within c.in_ok-tx.tx c.in_ok-views.views (sym c.in_default.ensures) c.in_ok-tx.ensures.exact c.in_ok-views.ensures
    _ c.is_sealable-sealable.ensures.wanted c.is_sealable-sealable.ensures.filled).0

pub returns-clause-exact : goal.returns-clause-exact
returns-clause-exact g c =
    let split = is_split c.args.setup.now.topology c.args.setup.now.checked c.args.me (g.K.KnownContracts.rows c.args.known.now) c.args.what.now c.args.now
    c.requires.valid c.requires.within c.in_ok-tx.tx c.in_ok-views.views (sym c.in_default.ensures) c.in_ok-tx.ensures.exact c.in_ok-views.ensures in
    exact c.args.setup.now.topology c.args.setup.now.checked c.args.me (g.K.KnownContracts.rows c.args.known.now) c.args.what.now c.args.now
    c.requires.valid c.requires.within c.in_ok-tx.tx c.in_ok-views.views (sym c.in_default.ensures) c.in_ok-tx.ensures.exact c.in_ok-views.ensures
    c.in_ok-seal.field-0 (c.in_ok-seal.ensures.made c.args.setup.now.checked c.in_ok-tx.tx (name_at c.args.setup.now.topology c.args.me) c.requires.valid
    split (is_named (c.args.setup.now.topology).hosts c.args.me c.requires.within.is_host))

pub returns-clause-sealed : goal.returns-clause-sealed
returns-clause-sealed g c =
    let split = is_split c.args.setup.now.topology c.args.setup.now.checked c.args.me (g.K.KnownContracts.rows c.args.known.now) c.args.what.now c.args.now
    c.requires.valid c.requires.within c.in_ok-tx.tx c.in_ok-views.views (sym c.in_default.ensures) c.in_ok-tx.ensures.exact c.in_ok-views.ensures in
    sealed c.args.setup.now.topology c.args.setup.now.checked c.args.me (g.K.KnownContracts.rows c.args.known.now) c.args.what.now c.args.now
    c.requires.valid c.requires.within c.in_ok-tx.tx c.in_ok-views.views (sym c.in_default.ensures) c.in_ok-tx.ensures.exact c.in_ok-views.ensures
    _ c.is_sealable-sealable.ensures.wanted c.is_sealable-sealable.ensures.filled c.in_ok-seal.field-0 (c.in_ok-seal.ensures.made c.args.setup.now.checked c.in_ok-tx.tx (name_at c.args.setup.now.topology c.args.me) c.requires.valid
    split (is_named (c.args.setup.now.topology).hosts c.args.me c.requires.within.is_host))

pub returns-clause-framed : goal.returns-clause-framed
returns-clause-framed g c =
    let topology = c.args.setup.now.topology in
    let packages = c.args.setup.now.checked in
    let known = g.K.KnownContracts.rows c.args.known.now in
    let confirms = sym c.in_default.ensures in
    let split = is_split topology packages c.args.me known c.args.what.now c.args.now
    c.requires.valid c.requires.within c.in_ok-tx.tx c.in_ok-views.views confirms c.in_ok-tx.ensures.exact c.in_ok-views.ensures in
    let can = sealable topology packages c.args.me known c.args.what.now c.args.now
    c.requires.valid c.requires.within c.in_ok-tx.tx c.in_ok-views.views confirms c.in_ok-tx.ensures.exact c.in_ok-views.ensures
    _ c.is_sealable-sealable.ensures.wanted c.is_sealable-sealable.ensures.filled in
    let limits = keeps_limits topology packages c.args.me known c.args.what.now c.args.now
    c.requires.valid c.requires.within c.in_ok-tx.tx c.in_ok-views.views confirms c.in_ok-tx.ensures.exact c.in_ok-views.ensures in
    c.in_ok-seal.ensures.framed packages c.in_ok-tx.tx (name_at topology c.args.me) c.requires.valid split can.1 limits
    (some_root topology packages c.args.me known c.args.what.now c.args.now
    c.requires.valid c.requires.within c.in_ok-tx.tx c.in_ok-views.views confirms c.in_ok-tx.ensures.exact c.in_ok-views.ensures)

pub returns-clause-opens : goal.returns-clause-opens
returns-clause-opens g c =
    opens_by_rules c.args.setup.now.topology c.args.setup.now.checked c.in_ok-seal.field-0 (returns-clause-sealed g c) (returns-clause-framed g c)

pub returns-clause-sender : goal.returns-clause-sender
returns-clause-sender g c =
    let split = is_split c.args.setup.now.topology c.args.setup.now.checked c.args.me (g.K.KnownContracts.rows c.args.known.now) c.args.what.now c.args.now
    c.requires.valid c.requires.within c.in_ok-tx.tx c.in_ok-views.views (sym c.in_default.ensures) c.in_ok-tx.ensures.exact c.in_ok-views.ensures in
    ap (λ (r : Request). r.sender) (c.in_ok-seal.ensures.made c.args.setup.now.checked c.in_ok-tx.tx (name_at c.args.setup.now.topology c.args.me) c.requires.valid
    split (is_named (c.args.setup.now.topology).hosts c.args.me c.requires.within.is_host))

pub returns-clause-command : goal.returns-clause-command
returns-clause-command g c =
    let split = is_split c.args.setup.now.topology c.args.setup.now.checked c.args.me (g.K.KnownContracts.rows c.args.known.now) c.args.what.now c.args.now
    c.requires.valid c.requires.within c.in_ok-tx.tx c.in_ok-views.views (sym c.in_default.ensures) c.in_ok-tx.ensures.exact c.in_ok-views.ensures in
    ap (λ (r : Request). r.command) (c.in_ok-seal.ensures.made c.args.setup.now.checked c.in_ok-tx.tx (name_at c.args.setup.now.topology c.args.me) c.requires.valid
    split (is_named (c.args.setup.now.topology).hosts c.args.me c.requires.within.is_host))

pub returns-clause-machine : goal.returns-clause-machine
returns-clause-machine g c offered items own offers =
    let topology = c.args.setup.now.topology in
    let packages = c.args.setup.now.checked in
    let known = g.K.KnownContracts.rows c.args.known.now in
    let can = sealable topology packages c.args.me known c.args.what.now c.args.now
    c.requires.valid c.requires.within c.in_ok-tx.tx c.in_ok-views.views (sym c.in_default.ensures) c.in_ok-tx.ensures.exact c.in_ok-views.ensures
    _ c.is_sealable-sealable.ensures.wanted c.is_sealable-sealable.ensures.filled in
    gives topology packages c.args.me known c.args.what.now c.args.now c.requires.within offered items own offers c.in_ok-tx.tx c.in_ok-seal.field-0
    c.in_ok-tx.ensures.exact can.1 (returns-clause-exact g c) (returns-clause-framed g c)

pub returns-in_err-views-clause-machine : goal.returns-in_err-views-clause-machine
returns-in_err-views-clause-machine g c offered items own offers =
    let topology = c.args.setup.now.topology in
    let packages = c.args.setup.now.checked in
    let known = g.K.KnownContracts.rows c.args.known.now in
    let p = err_from_is_err_and c.from_residual-in_err-views.result c.from_residual-in_err-views.ensures.1 in
    refuses topology packages c.args.me known c.args.what.now c.args.now c.requires.within offered items own offers c.from_residual-in_err-views.result p.0 p.1
    (unsplit topology packages c.args.me known c.args.what.now c.args.now c.in_ok-tx.tx p.0 _ (sym c.in_default.ensures) c.in_ok-tx.ensures.exact p.2
    c.in_err-views.ensures)
