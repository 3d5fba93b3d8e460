-- A wanted transaction keeps the limits under which its trees can be made and written.
use Rattle.std.proofs.Common.{◌≡◌, ℕ, ◌+◌, ◌^◌, ◌≤◌, true, List, [], ◌∷◌, ◌++◌, length, refl, sym, subst, inl, inr, arith}
use Rattle.std.proofs.lemmas.Bool.{cases_Bool}
use Rattle.sha2.proofs.Facts256.{length-sha256}
use Rattle.hash_id.specs.Strings.{child_seed_string}
use Rattle.ledger_terms.specs.Depth.{depth}
use Rattle.ledger_terms.specs.Trees.{Actions}
use Rattle.ledger_terms.specs.Forest.{NoRoots, Root, preorder, size}
use Rattle.ledger_terms.specs.declared.action.Action.{Action}
use Rattle.ledger_terms.specs.declared.command.Command.{Command}
use Rattle.ledger_terms.specs.declared.known.Known.{Known}
use Rattle.ledger_terms.specs.declared.value.Value.{Value}
use Rattle.ledger_terms.specs.declared.value.Value.TheVariants.{Unit as UnitValue}
use Rattle.ledger_model.specs.Authority.{authorisers_below}
use Rattle.ledger_model.specs.Language.{roles_of}
use Rattle.ledger_model.specs.declared.step.ChildResult.{ChildResult}
use Rattle.lang_eval.specs.Found.{Packages}
use Rattle.lang_eval.specs.Parts.{PartyNames}
use Rattle.wire_form.specs.InRange.{IsHash}
use Rattle.wire_form.specs.Spelling.{spell_action}
use Rattle.interpret.specs.Act.{Source}
use Rattle.wire_form.specs.Encoded.{action_bytes, encoded_bytes, is_spelled_action}
use Rattle.interpret.specs.Ids.{Hash, child_seed}
use Rattle.interpret.specs.Keeping.{KeepsRules}
use Rattle.interpret.specs.Commands.{commands_source}
use Rattle.interpret.specs.Interpreted.{nothing_done}
use Rattle.interpret.specs.Language.{the_language}
use Rattle.interpret.specs.Wanted.{IsWanted, Wanted, after, after_all, one_less, result_of, source_of}
use Rattle.interpret.specs.declared.progress.Progress.{Progress}
use Rattle.interpret.proofs.Encoding.{action_spellable}
use Rattle.blind_tree.specs.Limits.{acts_length, AreSpellableActs, KeepLimits}

-- each seed is a hash
abbrev pub AreSeeded : Actions → Type 0
AreSeeded NoRoots = Unit {0}
AreSeeded (Root act below others) = IsHash act.seed × AreSeeded below × AreSeeded others

record IsMeasured (a : Action) : Type 0 where
  spelled : is_spelled_action a ≡ true
  long : action_bytes a ≡ 32 + length (spell_action a)

measured : (a : Action) → action_bytes a ≤ 32768 → IsMeasured a
unfolding action_bytes
measured a h =
    elim (cases_Bool (is_spelled_action a)) [
      | inl spelled ↦ record { spelled = spelled; long = rw spelled refl }
      | inr unspelled ↦ let none : 2 ^ 64 ≤ 32768 = rw unspelled at h in absurd (omega (arith, none))
    ]

record AreMeasured (f : Actions) : Type 0 where
  short : acts_length f ≤ encoded_bytes f
  each : AreSpellableActs f

all_measured : (f : Actions) → AreSeeded f → encoded_bytes f ≤ 32768 → AreMeasured f
all_measured NoRoots seeds h = record { short = omega arith; each = tt }
all_measured (Root act below others) seeds h =
    let m = measured act.action (omega (arith, h)) in
    let b = all_measured below seeds.1 (omega (arith, h)) in
    let o = all_measured others seeds.2 (omega (arith, h)) in
    record { short = omega (arith, m.long, seeds.0, b.short, o.short); each = (action_spellable act.action m.spelled, b.each, o.each) }

pub limits_kept : (f : Actions) → size f ≤ 64 → depth f ≤ 16 → encoded_bytes f ≤ 32768 → AreSeeded f → KeepLimits f
limits_kept f few shallow small seeds =
    let m = all_measured f seeds small in
    record {
      few = few;
      nested = shallow;
      short = omega (arith, m.short, small);
      each = m.each;
    }

pub keeps_limits : (packages : Packages) (act_as : PartyNames) (f : Actions) → KeepsRules packages act_as f → AreSeeded f → KeepLimits f
keeps_limits packages act_as f rules seeds = limits_kept f rules.few rules.shallow rules.small seeds

pub seed_is : (seed : Hash) (index : ℕ) → IsHash (child_seed seed index)
unfolding child_seed
seed_is seed index = length-sha256 (child_seed_string seed index)

wanted_seeded : (packages : Packages) (known : List Known) (left : ℕ) (source : Source) (result : Value) (by : PartyNames) (seen : List ChildResult)
    (seed : Hash) (path : List ℕ) (index : ℕ) (progress : Progress) (f : Actions)
    → Wanted packages known left source result by seen seed path index progress f → AreSeeded f
wanted_seeded packages known left source result by seen seed path index progress NoRoots w = tt
wanted_seeded packages known left source result by seen seed path index progress (Root act below others) w = (
  subst IsHash (sym w.3) (seed_is seed index),
  wanted_seeded packages known (one_less left) (source_of packages (path ++ index ∷ []) act.action) (result_of act.action)
      (authorisers_below (roles_of (the_language packages)) act.action) [] act.seed (path ++ index ∷ []) 0 (after progress act) below w.5,
  wanted_seeded packages known left source result by (source.learn seen act.action) seed path (index + 1)
      (after_all (after progress act) (preorder below)) others w.6,
)

pub wanted_is_seeded : (packages : Packages) (known : List Known) (seed : Hash) (act_as : PartyNames) (commands : List Command) (f : Actions)
    → IsWanted packages known seed act_as commands f → AreSeeded f
wanted_is_seeded packages known seed act_as commands f w =
    wanted_seeded packages known 16 (commands_source packages known commands) UnitValue act_as [] seed [] 0 nothing_done f w.roots
