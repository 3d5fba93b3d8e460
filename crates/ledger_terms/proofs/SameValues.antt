-- Values that test as equal are equal, and equal ones test so.
use Rattle.std.proofs.Common.{◌≡◌, true, false, refl, ap}
use Rattle.std.specs.Bool.{Decides}
use Rattle.std.proofs.lemmas.Bool.Decides.{Decides-int_eq}
use Rattle.ledger_terms.specs.declared.value.Value.{Value}
use Rattle.ledger_terms.specs.declared.value.Value.TheVariants.{Unit as UnitValue, Int, Bool as BoolValue, Text, Party, Contract, Parties}
use Rattle.ledger_terms.specs.declared.kind.Kind.{Kind}
use Rattle.ledger_terms.specs.declared.kind.Kind.TheVariants.{Unit as UnitKind, Int as IntKind, Bool as BoolKind, Text as TextKind, Party as PartyKind, Contract as ContractKind, Parties as PartiesKind}
use Rattle.ledger_terms.specs.contracts.kind.KindPartialEq.TheImpl as kind_eq
use Rattle.ledger_terms.specs.declared.template_name.TemplateName.{TemplateName}
use Rattle.ledger_terms.specs.contracts.value.ValuePartialEq.TheImpl as value_eq
use Rattle.ledger_terms.specs.contracts.template_name.TemplateNamePartialEq.TheImpl as template_eq
use Rattle.ledger_terms.proofs.Deciding.{both, both_true, decided, bytes_decide, lists_decide}

value_same : (a b : Value) → value_eq.ghosts.eq a b ≡ true → a ≡ b
value_same UnitValue UnitValue h = refl
value_same (Int x) (Int y) h = ap Int ((Decides-int_eq x y).0 h)
value_same (BoolValue true) (BoolValue true) h = refl
value_same (BoolValue false) (BoolValue false) h = refl
value_same (Text x) (Text y) h = ap Text ((bytes_decide x y).0 h)
value_same (Party x) (Party y) h = ap Party ((bytes_decide x y).0 h)
value_same (Contract x) (Contract y) h = ap Contract ((bytes_decide x y).0 h)
value_same (Parties x) (Parties y) h = ap Parties ((lists_decide bytes_decide x y).0 h)
value_same a b h = cc

value_refl : (a : Value) → value_eq.ghosts.eq a a ≡ true
value_refl UnitValue = refl
value_refl (Int x) = (Decides-int_eq x x).1 refl
value_refl (BoolValue true) = refl
value_refl (BoolValue false) = refl
value_refl (Text x) = (bytes_decide x x).1 refl
value_refl (Party x) = (bytes_decide x x).1 refl
value_refl (Contract x) = (bytes_decide x x).1 refl
value_refl (Parties x) = (lists_decide bytes_decide x x).1 refl

pub value_decides : (a b : Value) → Decides (value_eq.ghosts.eq a b) (a ≡ b)
value_decides = decided value_eq.ghosts.eq value_refl value_same

template_same : (a b : TemplateName) → template_eq.ghosts.eq a b ≡ true → a ≡ b
template_same a b h =
    let p = both _ _ h in
    let e = (bytes_decide a.«package» b.«package»).0 p.0 in
    let f = (bytes_decide a.name b.name).0 p.1 in
    λ i. record { «package» = e i; name = f i }

template_refl : (a : TemplateName) → template_eq.ghosts.eq a a ≡ true
template_refl a = both_true _ _ ((bytes_decide a.«package» a.«package»).1 refl) ((bytes_decide a.name a.name).1 refl)

pub template_decides : (a b : TemplateName) → Decides (template_eq.ghosts.eq a b) (a ≡ b)
template_decides = decided template_eq.ghosts.eq template_refl template_same

kind_same : (a b : Kind) → kind_eq.ghosts.eq a b ≡ true → a ≡ b
kind_same UnitKind UnitKind h = refl
kind_same IntKind IntKind h = refl
kind_same BoolKind BoolKind h = refl
kind_same TextKind TextKind h = refl
kind_same PartyKind PartyKind h = refl
kind_same ContractKind ContractKind h = refl
kind_same PartiesKind PartiesKind h = refl
kind_same a b h = cc

kind_refl : (a : Kind) → kind_eq.ghosts.eq a a ≡ true
kind_refl UnitKind = refl
kind_refl IntKind = refl
kind_refl BoolKind = refl
kind_refl TextKind = refl
kind_refl PartyKind = refl
kind_refl ContractKind = refl
kind_refl PartiesKind = refl

pub kind_decides : (a b : Kind) → Decides (kind_eq.ghosts.eq a b) (a ≡ b)
kind_decides = decided kind_eq.ghosts.eq kind_refl kind_same
