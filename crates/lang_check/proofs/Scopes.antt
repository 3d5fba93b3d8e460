-- Scopes of fields and parameters.
use Rattle.std.proofs.Common.{◌≡◌, ℕ, ◌+◌, ◌<◌, List, [], ◌∷◌, ◌++◌, length, get_or, drop, refl, append_assoc}
use Rattle.std.specs.Prelude.{codes}
use Rattle.std.proofs.lemmas.List.{drop_more}
use Rattle.ledger_terms.specs.declared.field_decl.FieldDecl.{FieldDecl}
use Rattle.lang_eval.specs.Typed.{Scope, scope_of}

-- A loop that declares fields puts the next one at the end.
pub declared_step : (all scope new : Scope) (first : List ℕ) (decls : List FieldDecl) (i : ℕ) (d : FieldDecl) → i < length decls → d ≡ get_or decls i d
    → new ≡ scope ++ (first ++ codes "." ++ d.name, d.kind) ∷ [] → scope ++ scope_of first (drop i decls) ≡ all
    → new ++ scope_of first (drop (i + 1) decls) ≡ all
declared_step all scope new first decls i d within at grown before =
    let next : scope_of first (drop i decls) ≡ (first ++ codes "." ++ d.name, d.kind) ∷ scope_of first (drop (i + 1) decls) = rw
    (drop_more decls i d within, ← at) refl in
    rw (grown, append_assoc, ← next) before
