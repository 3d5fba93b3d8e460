-- Vertices written one after another.
use Rattle.std.proofs.Common.{◌≡◌, ℕ, ◌+◌, ◌%◌, ◌/◌, ◌^◌, ◌<◌, List, ◌++◌, length, get_or, drop, refl, sym, ◌∙◌, ap, append_assoc, arith}
use Rattle.std.specs.Int.{w16, w32, to_be_bytes}
use Rattle.blind_tree.specs.Vertices.{Vertices}
use Rattle.blind_tree.specs.VertexLists.{vertices_of, with_vertex}
use Rattle.blind_tree.specs.Spelling.{spell_each, spell_vertex}
use Rattle.blind_tree.specs.declared.vertex.Vertex.{Vertex}
use Rattle.blind_tree.specs.declared.vertex.Vertex.TheVariants.{Blind, Inner}
use Rattle.blind_tree.proofs.Grow.{next_vertex}

-- a number that has no room is written by its lowest bytes
pub two_bytes : (n : ℕ) → to_be_bytes w16 (n % 2 ^ 16) ≡ to_be_bytes w16 n
two_bytes n =
    let high : (n % 2 ^ 16) / 256 % 256 ≡ n / 256 % 256 = omega arith in
    let low : (n % 2 ^ 16) % 256 ≡ n % 256 = omega arith in
    rw (high, low) refl

pub four_bytes : (n : ℕ) → to_be_bytes w32 (n % 2 ^ 32) ≡ to_be_bytes w32 n
four_bytes n =
    let first : (n % 2 ^ 32) / 16777216 % 256 ≡ n / 16777216 % 256 = omega arith in
    let second : (n % 2 ^ 32) / 65536 % 256 ≡ n / 65536 % 256 = omega arith in
    let third : (n % 2 ^ 32) / 256 % 256 ≡ n / 256 % 256 = omega arith in
    let last : (n % 2 ^ 32) % 256 ≡ n % 256 = omega arith in
    rw (first, second, third, last) refl

each_with : (v : Vertex) (rest : Vertices) → spell_each (with_vertex v rest) ≡ spell_vertex v ++ spell_each rest
each_with (Blind hash) rest = refl
each_with (Inner informees contents subviews) rest = refl

pub spell_step : (vs : List Vertex) (i : ℕ) (v : Vertex) (all out new : List ℕ) → i < length vs → v ≡ get_or vs i v → new ≡ out ++ spell_vertex v
    → out ++ spell_each (vertices_of (drop i vs)) ≡ all → new ++ spell_each (vertices_of (drop (i + 1) vs)) ≡ all
spell_step vs i v all out new h at grown before =
    let rest = vertices_of (drop (i + 1) vs) in
    let next : spell_each (vertices_of (drop i vs)) ≡ spell_vertex v ++ spell_each rest = ap spell_each (next_vertex vs i v h at) ∙ each_with v rest in
    ap (λ (xs : List ℕ). xs ++ spell_each rest) grown
    ∙ (append_assoc out (spell_vertex v) (spell_each rest)
    ∙ (ap (λ (xs : List ℕ). out ++ xs) (sym next) ∙ before))
