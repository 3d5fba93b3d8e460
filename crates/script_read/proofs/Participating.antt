-- Which participant a name is, and that it is one.
use Rattle.std.proofs.Common.{◌≡◌, ℕ, suc, ◌<◌, Bool, true, false, List, [], ◌∷◌, length, Option, Some, None, Ok, option_map, refl, arith}
use Rattle.std.specs.Prelude.{if◌then◌else◌}
use Rattle.serde_json.specs.Data.{Data}
use Rattle.ledger_terms.specs.Parties.{same_name}
use Rattle.ledger_terms.specs.declared.host.Host.{Host}
use Rattle.json_walk.specs.Walk.{Place, name_of}
use Rattle.json_walk.proofs.Kept.{after}
use Rattle.script_read.specs.Participants.{participant_named, participant_of}
use Rattle.script_read.proofs.Lists.{some_read}
use Rattle.script_read.proofs.SameHosts.{AreSame}

named_within : (hosts : List Host) (name : List ℕ) (k : ℕ) → participant_named hosts name ≡ Some k → k < length hosts
named_within [] name k h = absurd (cc)
named_within (x ∷ xs) name k h = here (same_name x.name name) (participant_named xs name) k (named_within xs name) h
  where
    here : (b : Bool) (o : Option ℕ) (k : ℕ) → ((j : ℕ) → o ≡ Some j → j < length xs) → (if b then Some 0 else option_map suc o) ≡ Some k → k < length (x ∷ xs)
    here true o k f e = let zero_ : k ≡ 0 = cc in omega arith
    here false None k f e = absurd (cc)
    here false (Some j) k f e = let next : k ≡ suc j = cc in omega (arith, f j refl)

pub participant_within : (read kept : List Host) → AreSame read kept → (at : Place) (d : Data) (k : ℕ) → participant_of read at d ≡ Ok k → k < length kept
unfolding participant_of
participant_within read kept same at d k h =
    let s = after (name_of at d) _ k h in
    omega (arith, same.many, named_within read s.0 k (some_read (participant_named read s.0) _ k s.2))
