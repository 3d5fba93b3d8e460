use Rattle.std.proofs.Common.{refl, rules, arith}
use Rattle.load_gen.proofs.Named.{numbered_is_name}
use Rattle.load_gen.proofs.names.numbered.Goals as goal

pub unwrap-requires : goal.unwrap-requires
unwrap-requires c =
    let named = numbered_is_name c.args.letter.now c.args.number c.requires (search (rules, arith)) in
    rw (c.read.ensures, c.as_str.ensures.value, c.in_ok-text.ensures.ok, named) refl
