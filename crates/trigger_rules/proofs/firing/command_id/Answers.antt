use Rattle.std.proofs.Common.{refl}
use Rattle.trigger_rules.proofs.Named.{command_is_name}
use Rattle.trigger_rules.proofs.firing.command_id.Goals as goal

pub unwrap-requires : goal.unwrap-requires
unwrap-requires c =
    let named = command_is_name c.args.rule.now.name c.args.before c.as_bytes-named.ensures.name c.requires.short c.requires.few in
    rw (c.read.ensures, c.as_str.ensures.value, c.in_ok-text.ensures.ok, named) refl
