-- How the names of variables are spelled.
use Rattle.std.specs.Prelude.{ℕ, List, ◌++◌, codes}
use Rattle.lang_eval.specs.declared.owner.Owner.{Owner}
use Rattle.lang_eval.specs.declared.owner.Owner.TheVariants.{This, Arguments, Fetched}
use Rattle.lang_eval.specs.declared.spelling.Spelling.{Spelling}
use Rattle.lang_eval.specs.declared.spelling.Spelling.TheVariants.{Written, Itself, Plain, Field}

-- the word before the dot of a field's name: `this`, `arg`, or the name that a Fetch binds
abbrev pub owner_word : Owner → List ℕ
owner_word This = codes "this"
owner_word Arguments = codes "arg"
owner_word (Fetched name) = name

-- the text of a bound name, which the code keeps by its parts
abbrev pub spelled : Spelling → List ℕ
spelled (Written text) = text
spelled Itself = codes "self"
spelled (Plain name) = name
spelled (Field owner name) = owner_word owner ++ codes "." ++ name
