-- Seeds and ids, which are hashes (SHA-256) of tagged strings.
use Rattle.std.specs.Prelude.{ℕ, Bool, List, [], ◌∷◌}
use Rattle.std.specs.Str.{bytes_eq}
use Rattle.sha2.specs.Sha256.{sha256}
use Rattle.ledger_terms.specs.declared.instance.Instance.{Instance}
use Rattle.ledger_terms.specs.declared.known.Known.{Known}
use Rattle.ledger_terms.specs.declared.label.Label.{Label}
use Rattle.ledger_model.specs.Terms.{Act, Action, Create, Exercise, Fetch, id_of, instance_of}
use Rattle.wire_form.specs.Spelling.{spell_instance}
use Rattle.hash_id.specs.Strings.{child_seed_string, contract_id_string, root_seed_string}

-- 32 bytes: a seed, a salt or an id
abbrev pub Hash : Type 0
Hash = List ℕ

-- the seed of the child at an index, from 0, of the action with this seed; and of the root at it, of the transaction with this seed
unfoldable pub child_seed : Hash → ℕ → Hash
child_seed seed index = sha256 (child_seed_string seed index)

-- the seed of the transaction that a participant's command makes: of the participant's name and the command's id
unfoldable pub root_seed : List ℕ → List ℕ → Hash
root_seed participant command = sha256 (root_seed_string participant command)

-- the id of the contract that a Create with this salt and this instance makes
unfoldable pub contract_id : Hash → Instance → Hash
contract_id salt i = sha256 (contract_id_string salt (spell_instance i))

-- the seed of the action that these indices lead to from the action, or the transaction, with this seed
abbrev pub seed_below : Hash → List ℕ → Hash
seed_below seed [] = seed
seed_below seed (index ∷ path) = seed_below (child_seed seed index) path

-- the seed of the action that a label names by participant, command and path
abbrev pub label_seed : Label → Hash
label_seed l = seed_below (root_seed l.participant l.command) l.path

-- the salt of the contract of an action with this seed: of a Create the seed, of another action the salt that it carries
abbrev pub salt_in : (seed : Hash) → Action → Hash
salt_in seed (Create id instance) = seed
salt_in seed (Exercise id salt instance choice args actors consuming result) = salt
salt_in seed (Fetch id salt instance actors) = salt

-- the salt of an action's contract
abbrev pub salt_of : Act → Hash
salt_of act = salt_in act.seed act.action

-- whether an action is authentic: its contract's id is the hash of the contract's salt and instance
abbrev pub is_authentic : Act → Bool
is_authentic act = bytes_eq (id_of act.action) (contract_id (salt_of act) (instance_of act.action))

-- whether the id of a known contract is the hash of its salt and instance
abbrev pub is_authentic_contract : Known → Bool
is_authentic_contract k = bytes_eq k.id (contract_id k.salt k.instance)
