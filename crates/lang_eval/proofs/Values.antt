-- The values of a list of expressions, one after another.
use Rattle.std.proofs.Common.{◌≡◌, ℕ, ◌+◌, ◌<◌, ◌≤◌, List, [], ◌∷◌, ◌++◌, length, get_or, drop, Result, Ok, Err, refl, sym, ◌∙◌, ap, append_assoc, append-nil}
use Rattle.std.proofs.lemmas.List.{drop_more}
use Rattle.std.proofs.Math.ListN.{drop_of_length-le}
use Rattle.ledger_terms.specs.declared.value.Value.{Value}
use Rattle.ledger_terms.specs.declared.value.Value.TheVariants.{Unit, Int, Bool as BoolValue, Text, Party, Contract, Parties}
use Rattle.ledger_terms.specs.Parties.{with_parties}
use Rattle.ledger_terms.specs.declared.expr.Expr.{Expr}
use Rattle.ledger_terms.specs.ExprForms.{expr_form, exprs_of}
use Rattle.lang_eval.specs.declared.eval_fault.EvalFault.{EvalFault}
use Rattle.lang_eval.specs.Names.{Names}
use Rattle.lang_eval.specs.Value.{val, vals, with_value, parties_among}

-- values behind those that are there
abbrev pub behind : List Value → Result (List Value) EvalFault → Result (List Value) EvalFault
behind vs (Ok ws) = Ok (vs ++ ws)
behind vs (Err e) = Err e

pub behind-none : (r : Result (List Value) EvalFault) → behind [] r ≡ r
behind-none (Ok vs) = refl
behind-none (Err e) = refl

behind-next : (vs : List Value) (v : Value) (r : Result (List Value) EvalFault) → behind vs (with_value r (λ ws. Ok (v ∷ ws))) ≡ behind (vs ++ v ∷ []) r
behind-next vs v (Ok ws) = ap (λ (l : List Value). Ok l) (sym (append_assoc vs (v ∷ []) ws))
behind-next vs v (Err e) = refl

-- A loop over expressions puts the next value behind the others.
pub values_step : (all : Result (List Value) EvalFault) (vs new : List Value) (v : Value) (es : List Expr) (i : ℕ) (e : Expr) (names : Names) → i < length es
    → e ≡ get_or es i e → Ok v ≡ val (expr_form e) names → new ≡ vs ++ v ∷ [] → behind vs (vals (exprs_of (drop i es)) names) ≡ all
    → behind new (vals (exprs_of (drop (i + 1) es)) names) ≡ all
values_step all vs new v es i e names within at is grown before =
    let next : vals (exprs_of (drop i es)) names ≡ with_value (vals (exprs_of (drop (i + 1) es)) names) (λ ws. Ok (v ∷ ws)) = rw
    (drop_more es i e within, ← at, ← is) refl in
    rw grown (sym (behind-next vs v (vals (exprs_of (drop (i + 1) es)) names)) ∙ (ap (behind vs) (sym next) ∙ before))

pub values_end : (all : Result (List Value) EvalFault) (vs : List Value) (es : List Expr) (i : ℕ) (names : Names) → length es ≤ i
    → behind vs (vals (exprs_of (drop i es)) names) ≡ all → Ok vs ≡ all
values_end all vs es i names past before =
    ap (λ (l : List Value). Ok l) (sym (append-nil vs)) ∙ (rw (drop_of_length-le es past) at before)

-- Its first fault is that of the whole.
pub values_fault : (all : Result (List Value) EvalFault) (vs : List Value) (f : EvalFault) (es : List Expr) (i : ℕ) (e : Expr) (names : Names)
    → i < length es → e ≡ get_or es i e → Err f ≡ val (expr_form e) names → behind vs (vals (exprs_of (drop i es)) names) ≡ all → Err f ≡ all
values_fault all vs f es i e names within at is before =
    let next : vals (exprs_of (drop i es)) names ≡ Err f = rw (drop_more es i e within, ← at, ← is) refl in
    ap (behind vs) (sym next) ∙ before

-- the parties among values, put into a set
abbrev pub gathered : List (List ℕ) → Result (List Value) EvalFault → Result (List (List ℕ)) EvalFault
gathered set vs = with_value vs (λ vs. Ok (with_parties (parties_among vs) set))

put_first : (set : List (List ℕ)) (v : Value) (vs : List Value) → with_parties (parties_among (v ∷ vs)) set
    ≡ with_parties (parties_among vs) (with_parties (parties_among (v ∷ [])) set)
put_first set Unit vs = refl
put_first set (Int n) vs = refl
put_first set (BoolValue b) vs = refl
put_first set (Text t) vs = refl
put_first set (Party a) vs = refl
put_first set (Contract id) vs = refl
put_first set (Parties s) vs = refl

gathered-next : (set : List (List ℕ)) (v : Value) (r : Result (List Value) EvalFault) → gathered set (with_value r (λ ws. Ok (v ∷ ws)))
    ≡ gathered (with_parties (parties_among (v ∷ [])) set) r
gathered-next set v (Ok ws) = ap (λ (s : List (List ℕ)). Ok s) (put_first set v ws)
gathered-next set v (Err e) = refl

-- A loop over expressions puts the next value into the set.
pub set_step : (all : Result (List (List ℕ)) EvalFault) (set new : List (List ℕ)) (v : Value) (es : List Expr) (i : ℕ) (e : Expr) (names : Names) → i < length es
    → e ≡ get_or es i e → Ok v ≡ val (expr_form e) names → new ≡ with_parties (parties_among (v ∷ [])) set
    → gathered set (vals (exprs_of (drop i es)) names) ≡ all → gathered new (vals (exprs_of (drop (i + 1) es)) names) ≡ all
set_step all set new v es i e names within at is grown before =
    let next : vals (exprs_of (drop i es)) names ≡ with_value (vals (exprs_of (drop (i + 1) es)) names) (λ ws. Ok (v ∷ ws)) = rw
    (drop_more es i e within, ← at, ← is) refl in
    rw grown (sym (gathered-next set v (vals (exprs_of (drop (i + 1) es)) names)) ∙ (ap (gathered set) (sym next) ∙ before))

pub set_end : (all : Result (List (List ℕ)) EvalFault) (set : List (List ℕ)) (es : List Expr) (i : ℕ) (names : Names) → length es ≤ i
    → gathered set (vals (exprs_of (drop i es)) names) ≡ all → Ok set ≡ all
set_end all set es i names past before = rw (drop_of_length-le es past) at before

-- Its first fault is that of the whole.
pub set_fault : (all : Result (List (List ℕ)) EvalFault) (set : List (List ℕ)) (f : EvalFault) (es : List Expr) (i : ℕ) (e : Expr) (names : Names)
    → i < length es → e ≡ get_or es i e → Err f ≡ val (expr_form e) names → gathered set (vals (exprs_of (drop i es)) names) ≡ all → Err f ≡ all
set_fault all set f es i e names within at is before =
    let next : vals (exprs_of (drop i es)) names ≡ Err f = rw (drop_more es i e within, ← at, ← is) refl in
    ap (gathered set) (sym next) ∙ before
