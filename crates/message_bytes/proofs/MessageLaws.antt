-- The formats of paths, responses and verdicts, composed of those of single fields.
use Rattle.std.proofs.Common.{◌≡◌, ℕ, zero, suc, ◌^◌, ◌<◌, ◌≤◌, List, [], ◌∷◌, ◌++◌, length, Result, Ok, refl, ap, lit<, subst, ◌∙◌, arith}
use Rattle.std.specs.Int.{w16, w64, from_be_bytes, to_be_bytes}
use Rattle.std.specs.List.{AllByRecursion}
use Rattle.std.proofs.lemmas.List.Elements.{recursion_from_All, All-from_recursion}
use Rattle.std.proofs.lemmas.Nat.{be_bytes_2, from_be_bytes-to_be_bytes_2}
use Rattle.wire_form.specs.Formats.{◌>>=◌, both_at, any_item}
use Rattle.wire_form.specs.Fields.{byte_at, bytes_at, number_at, count_at, small_count_at}
use Rattle.wire_form.proofs.FormatLaws.{IsBytes, IsBytes-rest, Takes, Reads, bind_ok, ok_is}
use Rattle.wire_form.proofs.Compose.{both_reads, seen_reads, ranged_reads, counted_reads, under, tag_takes, Admits, any_admitted}
use Rattle.wire_form.proofs.FieldLaws.{bytes_take, bytes_again, u64_reads, count_reads, small_count_reads}
use Rattle.canton_model.specs.declared.reason.Reason.{Reason}
use Rattle.canton_model.specs.declared.reason.Reason.TheVariants.{IdMismatch, NotVetted, TimeSkew, Locked, Inactive, NotFresh, Unordered, NotConformant, NotAuthorised, RootMismatch, ViewMissing, WrongSender, WrongCommon}
use Rattle.canton_model.specs.declared.local_verdict.LocalVerdict.{LocalVerdict}
use Rattle.canton_model.specs.declared.local_verdict.LocalVerdict.TheVariants.{Approve, Reject}
use Rattle.canton_model.specs.declared.view_verdict.ViewVerdict.{ViewVerdict}
use Rattle.canton_model.specs.declared.response.Response.{Response}
use Rattle.canton_model.specs.declared.decision.Decision.{Decision}
use Rattle.canton_model.specs.declared.decision.Decision.TheVariants.{Approved, Rejected, TimedOut}
use Rattle.canton_model.specs.declared.verdict.Verdict.{Verdict}
use Rattle.message_bytes.specs.Spelling.{spell_step, spell_path, reason_number, spell_reason, spell_local, spell_view_verdict, spell_view_verdicts, spell_response, spell_participant, spell_participants, spell_decision, spell_verdict}
use Rattle.message_bytes.specs.Reading.{path_at, numbered_reason_at, reason_at, RejectParts, reject_of, tagged_local_at, local_at, ViewVerdictParts, view_verdict_of, view_verdict_at, view_verdicts_at}
use Rattle.message_bytes.specs.Reading.{ResponseParts, response_of, response_at, is_past, participants_at, RejectedParts, rejected_of, tagged_decision_at, decision_at, VerdictParts, verdict_of, verdict_at}
use Rattle.message_bytes.specs.InRange.{IsStep, IsPath, IsLocalVerdict, IsViewVerdict, IsParticipant, IsResponse, IsParticipantSet, IsDecision, IsVerdict}
use Rattle.message_bytes.specs.Spellable.{IsSpellableViewVerdict, IsSpellableResponse, IsSpellableDecision, IsSpellableVerdict}
use Rattle.message_bytes.proofs.Rising.{increasing_from_admitted, admitted_from_increasing}

abbrev made : {A B : Type 0} → (A → B) → Result (A × List ℕ) ℕ → Result (B × List ℕ) ℕ
made make r = r >>= λ x. Ok (make x.0, x.1)

-- ---- bytes and numbers of two bytes

byte_takes : (bytes : List ℕ) (x : ℕ × List ℕ) → IsBytes bytes → byte_at bytes ≡ Ok x → Takes bytes (x.0 ∷ []) x.1 × (x.0 < 2 ^ 8)
byte_takes [] x fits e = absurd cc
byte_takes (b ∷ rest) x fits e =
    let small : b < 2 ^ 8 = omega (arith, fits 0) in
    subst (λ (y : ℕ × List ℕ). Takes (b ∷ rest) (y.0 ∷ []) y.1 × (y.0 < 2 ^ 8)) (ok_is (b, rest) x e) (record { parts = refl; rest_fits = IsBytes-rest b rest fits }, small)

pub byte_reads : Reads (λ b. b ∷ []) (λ b. b < 2 ^ 8) byte_at
byte_reads = record { takes = byte_takes; again = λ b rest h. refl }

pub u16_reads : Reads (λ n. to_be_bytes w16 n) (λ n. n < 2 ^ 16) (number_at w16)
unfolding number_at
u16_reads = record {
  takes = λ bytes x fits e.
      let b = bind_ok (bytes_at 2 bytes) (λ n. Ok (from_be_bytes w16 n.0, n.1)) x e in
      let t = bytes_take 2 bytes b.0 fits b.1 in
      let below : from_be_bytes w16 b.0.0 < 2 ^ 16 = omega (arith, t.2 0, t.2 1) in
      let same : to_be_bytes w16 (from_be_bytes w16 b.0.0) ≡ b.0.0 = be_bytes_2 b.0.0 _ t.1 t.2 refl in
      subst (λ (y : ℕ × List ℕ). Takes bytes (to_be_bytes w16 y.0) y.1 × (y.0 < 2 ^ 16)) (ok_is (from_be_bytes w16 b.0.0, b.0.1) x b.2) (rw same t.0, below);
  again = λ n rest h.
      let first = bytes_again 2 (to_be_bytes w16 n) rest refl in
      ap (λ (r : Result (List ℕ × List ℕ) ℕ). r >>= λ n. Ok (from_be_bytes w16 n.0, n.1)) first ∙ rw (from_be_bytes-to_be_bytes_2 n h) refl;
}

-- ---- paths

abbrev AdmittedSteps : List ℕ → Type 0
AdmittedSteps path = (length path ≤ 16) × AllByRecursion IsStep path × Admits any_item [] path

pub path_reads : Reads spell_path IsPath path_at
unfolding path_at
path_reads =
    ranged_reads spell_path AdmittedSteps IsPath path_at
    (λ path h. record { few = h.0; steps = All-from_recursion IsStep path h.1 })
    (λ path h. (h.few, recursion_from_All IsStep path h.steps, any_admitted [] path))
    (counted_reads (λ k. k ∷ []) (λ k. k ≤ 16) (small_count_at 16) spell_step IsStep (number_at w16) any_item (small_count_reads 16) u16_reads)

-- ---- reasons

abbrev IsReasonRead : List ℕ → Reason → List ℕ → Type 0
IsReasonRead bytes reason rest = Takes bytes (spell_reason reason) rest × Unit {0}

-- what stands at a number is the reason of that number
number_is : (n : ℕ) (rest : List ℕ) (here : ℕ) (x : Reason × List ℕ) → numbered_reason_at n rest here ≡ Ok x → (n ≡ reason_number x.0) × (rest ≡ x.1)
unfolding numbered_reason_at
number_is zero rest here x e = absurd cc
number_is (suc zero) rest here x e = subst (λ (y : Reason × List ℕ). (1 ≡ reason_number y.0) × (rest ≡ y.1)) (ok_is (IdMismatch, rest) x e) (refl, refl)
number_is (suc (suc zero)) rest here x e = subst (λ (y : Reason × List ℕ). (2 ≡ reason_number y.0) × (rest ≡ y.1)) (ok_is (NotVetted, rest) x e) (refl, refl)
number_is (suc (suc (suc zero))) rest here x e = subst (λ (y : Reason × List ℕ). (3 ≡ reason_number y.0) × (rest ≡ y.1)) (ok_is (TimeSkew, rest) x e) (refl, refl)
number_is (suc (suc (suc (suc zero)))) rest here x e = subst (λ (y : Reason × List ℕ). (4 ≡ reason_number y.0) × (rest ≡ y.1)) (ok_is (Locked, rest) x e) (refl, refl)
number_is (suc (suc (suc (suc (suc zero))))) rest here x e = subst (λ (y : Reason × List ℕ). (5 ≡ reason_number y.0) × (rest ≡ y.1)) (ok_is (Inactive, rest) x e) (refl, refl)
number_is (suc (suc (suc (suc (suc (suc zero)))))) rest here x e = subst (λ (y : Reason × List ℕ). (6 ≡ reason_number y.0) × (rest ≡ y.1)) (ok_is (NotFresh, rest) x e) (refl, refl)
number_is (suc (suc (suc (suc (suc (suc (suc zero))))))) rest here x e = subst (λ (y : Reason × List ℕ). (7 ≡ reason_number y.0) × (rest ≡ y.1)) (ok_is (Unordered, rest) x e) (refl, refl)
number_is (suc (suc (suc (suc (suc (suc (suc (suc zero)))))))) rest here x e = subst (λ (y : Reason × List ℕ). (8 ≡ reason_number y.0) × (rest ≡ y.1)) (ok_is (NotConformant, rest) x e) (refl, refl)
number_is (suc (suc (suc (suc (suc (suc (suc (suc (suc zero))))))))) rest here x e = subst (λ (y : Reason × List ℕ). (9 ≡ reason_number y.0) × (rest ≡ y.1)) (ok_is (NotAuthorised, rest) x e) (refl, refl)
number_is (suc (suc (suc (suc (suc (suc (suc (suc (suc (suc zero)))))))))) rest here x e = subst (λ (y : Reason × List ℕ). (10 ≡ reason_number y.0) × (rest ≡ y.1)) (ok_is (RootMismatch, rest) x e) (refl, refl)
number_is (suc (suc (suc (suc (suc (suc (suc (suc (suc (suc (suc zero))))))))))) rest here x e = subst (λ (y : Reason × List ℕ). (11 ≡ reason_number y.0) × (rest ≡ y.1)) (ok_is (ViewMissing, rest) x e) (refl, refl)
number_is (suc (suc (suc (suc (suc (suc (suc (suc (suc (suc (suc (suc zero)))))))))))) rest here x e = subst (λ (y : Reason × List ℕ). (12 ≡ reason_number y.0) × (rest ≡ y.1)) (ok_is (WrongSender, rest) x e) (refl, refl)
number_is (suc (suc (suc (suc (suc (suc (suc (suc (suc (suc (suc (suc (suc zero))))))))))))) rest here x e = subst (λ (y : Reason × List ℕ). (13 ≡ reason_number y.0) × (rest ≡ y.1)) (ok_is (WrongCommon, rest) x e) (refl, refl)
number_is (suc (suc (suc (suc (suc (suc (suc (suc (suc (suc (suc (suc (suc (suc n)))))))))))))) rest here x e = absurd cc

reason_takes : (bytes : List ℕ) (x : Reason × List ℕ) → IsBytes bytes → reason_at bytes ≡ Ok x → IsReasonRead bytes x.0 x.1
unfolding reason_at
reason_takes [] x fits e = absurd cc
reason_takes (b ∷ rest) x fits e =
    let n = number_is b rest (length (b ∷ rest)) x e in
    let there : Takes (b ∷ rest) (b ∷ []) rest = record { parts = refl; rest_fits = IsBytes-rest b rest fits } in
    (subst (λ (k : List ℕ). Takes (b ∷ rest) (spell_reason x.0) k) n.1 (subst (λ (k : ℕ). Takes (b ∷ rest) (k ∷ []) rest) n.0 there), tt)

reason_again : (reason : Reason) (rest : List ℕ) → Unit {0} → reason_at (spell_reason reason ++ rest) ≡ Ok (reason, rest)
unfolding reason_at numbered_reason_at
reason_again IdMismatch rest h = refl
reason_again NotVetted rest h = refl
reason_again TimeSkew rest h = refl
reason_again Locked rest h = refl
reason_again Inactive rest h = refl
reason_again NotFresh rest h = refl
reason_again Unordered rest h = refl
reason_again NotConformant rest h = refl
reason_again NotAuthorised rest h = refl
reason_again RootMismatch rest h = refl
reason_again ViewMissing rest h = refl
reason_again WrongSender rest h = refl
reason_again WrongCommon rest h = refl

pub reason_reads : Reads spell_reason (λ _. Unit {0}) reason_at
reason_reads = record { takes = reason_takes; again = reason_again }

-- ---- local verdicts

abbrev spell_reject : RejectParts → List ℕ
spell_reject p = spell_reason p.0 ++ to_be_bytes w16 p.1

abbrev FitReject : RejectParts → Type 0
FitReject p = Unit {0} × (p.1 < 2 ^ 16)

reject_reads : Reads spell_reject FitReject (both_at reason_at (number_at w16))
reject_reads = both_reads spell_reason (λ _. Unit {0}) reason_at (λ n. to_be_bytes w16 n) (λ n. n < 2 ^ 16) (number_at w16) reason_reads u16_reads

abbrev IsLocalRead : List ℕ → LocalVerdict → List ℕ → Type 0
IsLocalRead bytes v rest = Takes bytes (spell_local v) rest × IsLocalVerdict v

local_takes : (bytes : List ℕ) (x : LocalVerdict × List ℕ) → IsBytes bytes → local_at bytes ≡ Ok x → IsLocalRead bytes x.0 x.1
unfolding local_at tagged_local_at
local_takes [] x fits e = absurd cc
local_takes (zero ∷ rest) x fits e =
    subst (λ (y : LocalVerdict × List ℕ). IsLocalRead (0 ∷ rest) y.0 y.1) (ok_is (Approve, rest) x e) (record { parts = refl; rest_fits = IsBytes-rest 0 rest fits }, tt)
local_takes (suc zero ∷ rest) x fits e =
    let u = under reject_of spell_reject FitReject (both_at reason_at (number_at w16)) reject_reads rest x (IsBytes-rest 1 rest fits) e in
    subst (λ (v : LocalVerdict). IsLocalRead (1 ∷ rest) v x.1) u.1 (tag_takes 1 rest _ x.1 u.2, u.3.1)
local_takes (suc (suc n) ∷ rest) x fits e = absurd cc

local_again : (v : LocalVerdict) (rest : List ℕ) → IsLocalVerdict v → local_at (spell_local v ++ rest) ≡ Ok (v, rest)
unfolding local_at tagged_local_at
local_again Approve rest h = refl
local_again (Reject reason action) rest h = ap (made reject_of) (reject_reads.again (reason, action) rest (tt, h))

local_reads : Reads spell_local IsLocalVerdict local_at
local_reads = record { takes = local_takes; again = local_again }

-- ---- verdicts on views, and responses

abbrev parts_of_view_verdict : ViewVerdict → ViewVerdictParts
parts_of_view_verdict v = (v.view, v.verdict)

abbrev FitViewVerdict : ViewVerdictParts → Type 0
FitViewVerdict p = IsPath p.0 × IsLocalVerdict p.1

view_verdict_reads : Reads spell_view_verdict IsViewVerdict view_verdict_at
unfolding view_verdict_at
view_verdict_reads =
    let parts = both_reads spell_path IsPath path_at spell_local IsLocalVerdict local_at path_reads local_reads in
    ranged_reads spell_view_verdict (λ v. FitViewVerdict (parts_of_view_verdict v)) IsViewVerdict view_verdict_at
    (λ v h. record { view_is = h.0; verdict_is = h.1 }) (λ v h. (h.view_is, h.verdict_is))
    (seen_reads view_verdict_of parts_of_view_verdict (λ p. refl) (λ v. refl) (λ (p : ViewVerdictParts). spell_path p.0 ++ spell_local p.1) FitViewVerdict (both_at path_at local_at) parts)

abbrev FitVerdicts : List ViewVerdict → Type 0
FitVerdicts vs = (length vs ≤ 65535) × AllByRecursion IsViewVerdict vs × Admits any_item [] vs

view_verdicts_reads : Reads spell_view_verdicts FitVerdicts view_verdicts_at
unfolding view_verdicts_at
view_verdicts_reads =
    counted_reads (λ k. to_be_bytes w16 k) (λ k. k ≤ 65535) (count_at 65535) spell_view_verdict IsViewVerdict view_verdict_at any_item (count_reads 65535 (lit< tt)) view_verdict_reads

abbrev parts_of_response : Response → ResponseParts
parts_of_response r = ((r.from, r.request), r.verdicts)

abbrev FitResponse : (most : ℕ) → ResponseParts → Type 0
FitResponse most p = ((p.0.0 ≤ most) × (p.0.1 < 2 ^ 64)) × FitVerdicts p.1

abbrev spell_head : ℕ × ℕ → List ℕ
spell_head p = (p.0 ∷ []) ++ to_be_bytes w64 p.1

abbrev FitHead : (most : ℕ) → ℕ × ℕ → Type 0
FitHead most p = (p.0 ≤ most) × (p.1 < 2 ^ 64)

pub response_reads : (most : ℕ) → Reads spell_response (IsResponse most) (response_at most)
unfolding response_at
response_reads most =
    let head = both_reads (λ b. b ∷ []) (λ b. b ≤ most) (small_count_at most) (λ n. to_be_bytes w64 n) (λ n. n < 2 ^ 64) (number_at w64) (small_count_reads most) u64_reads in
    let parts = both_reads spell_head (FitHead most) (both_at (small_count_at most) (number_at w64)) spell_view_verdicts FitVerdicts view_verdicts_at head view_verdicts_reads in
    ranged_reads spell_response (λ r. FitResponse most (parts_of_response r)) (IsResponse most) (response_at most)
    (λ r h. record { from_is = h.0.0; request_is = h.0.1; few = h.1.0; each = All-from_recursion IsViewVerdict r.verdicts h.1.1 })
    (λ r h. ((h.from_is, h.request_is), (h.few, recursion_from_All IsViewVerdict r.verdicts h.each, any_admitted [] r.verdicts)))
    (seen_reads response_of parts_of_response (λ p. refl) (λ r. refl) (λ (p : ResponseParts). spell_head p.0 ++ spell_view_verdicts p.1) (FitResponse most) (both_at (both_at (small_count_at most) (number_at w64)) view_verdicts_at) parts)

-- ---- participants, decisions and verdicts

abbrev AdmittedParticipants : (most : ℕ) → List ℕ → Type 0
AdmittedParticipants most ps = (length ps ≤ 255) × AllByRecursion (IsParticipant most) ps × Admits is_past [] ps

participants_reads : (most : ℕ) → Reads spell_participants (IsParticipantSet most) (participants_at most)
unfolding participants_at
participants_reads most =
    ranged_reads spell_participants (AdmittedParticipants most) (IsParticipantSet most) (participants_at most)
    (λ ps h. record { few = h.0; each = All-from_recursion (IsParticipant most) ps h.1; ascend = increasing_from_admitted ps h.2 })
    (λ ps h. (h.few, recursion_from_All (IsParticipant most) ps h.each, admitted_from_increasing ps h.ascend))
    (counted_reads (λ k. k ∷ []) (λ k. k ≤ 255) (small_count_at 255) spell_participant (IsParticipant most) (small_count_at most) is_past (small_count_reads 255) (small_count_reads most))

abbrev spell_rejected : RejectedParts → List ℕ
spell_rejected p = ((p.0.0 ∷ []) ++ spell_path p.0.1) ++ spell_reason p.1

abbrev FitRejected : (most : ℕ) → RejectedParts → Type 0
FitRejected most p = (IsParticipant most p.0.0 × IsPath p.0.1) × Unit {0}

rejected_reads : (most : ℕ) → Reads spell_rejected (FitRejected most) (both_at (both_at (small_count_at most) path_at) reason_at)
rejected_reads most =
    let first = both_reads (λ b. b ∷ []) (IsParticipant most) (small_count_at most) spell_path IsPath path_at (small_count_reads most) path_reads in
    both_reads (λ (p : ℕ × List ℕ). (p.0 ∷ []) ++ spell_path p.1) (λ p. IsParticipant most p.0 × IsPath p.1) (both_at (small_count_at most) path_at) spell_reason (λ _. Unit {0}) reason_at first reason_reads

abbrev IsDecisionRead : (most : ℕ) → List ℕ → Decision → List ℕ → Type 0
IsDecisionRead most bytes d rest = Takes bytes (spell_decision d) rest × IsDecision most d

decision_takes : (most : ℕ) (bytes : List ℕ) (x : Decision × List ℕ) → IsBytes bytes → decision_at most bytes ≡ Ok x → IsDecisionRead most bytes x.0 x.1
unfolding decision_at tagged_decision_at
decision_takes most [] x fits e = absurd cc
decision_takes most (zero ∷ rest) x fits e =
    subst (λ (y : Decision × List ℕ). IsDecisionRead most (0 ∷ rest) y.0 y.1) (ok_is (Approved, rest) x e) (record { parts = refl; rest_fits = IsBytes-rest 0 rest fits }, tt)
decision_takes most (suc zero ∷ rest) x fits e =
    let u = under rejected_of spell_rejected (FitRejected most) (both_at (both_at (small_count_at most) path_at) reason_at) (rejected_reads most) rest x (IsBytes-rest 1 rest fits) e in
    subst (λ (d : Decision). IsDecisionRead most (1 ∷ rest) d x.1) u.1 (tag_takes 1 rest _ x.1 u.2, u.3.0)
decision_takes most (suc (suc zero) ∷ rest) x fits e =
    let u = under TimedOut spell_participants (IsParticipantSet most) (participants_at most) (participants_reads most) rest x (IsBytes-rest 2 rest fits) e in
    subst (λ (d : Decision). IsDecisionRead most (2 ∷ rest) d x.1) u.1 (tag_takes 2 rest _ x.1 u.2, u.3)
decision_takes most (suc (suc (suc n)) ∷ rest) x fits e = absurd cc

decision_again : (most : ℕ) (d : Decision) (rest : List ℕ) → IsDecision most d → decision_at most (spell_decision d ++ rest) ≡ Ok (d, rest)
unfolding decision_at tagged_decision_at
decision_again most Approved rest h = refl
decision_again most (Rejected from view reason) rest h = ap (made rejected_of) ((rejected_reads most).again ((from, view), reason) rest ((h.0, h.1), tt))
decision_again most (TimedOut missing) rest h = ap (made TimedOut) ((participants_reads most).again missing rest h)

decision_reads : (most : ℕ) → Reads spell_decision (IsDecision most) (decision_at most)
decision_reads most = record { takes = decision_takes most; again = decision_again most }

abbrev parts_of_verdict : Verdict → VerdictParts
parts_of_verdict v = (v.request, v.decision)

abbrev FitVerdict : (most : ℕ) → VerdictParts → Type 0
FitVerdict most p = (p.0 < 2 ^ 64) × IsDecision most p.1

pub verdict_reads : (most : ℕ) → Reads spell_verdict (IsVerdict most) (verdict_at most)
unfolding verdict_at
verdict_reads most =
    let parts = both_reads (λ n. to_be_bytes w64 n) (λ n. n < 2 ^ 64) (number_at w64) spell_decision (IsDecision most) (decision_at most) u64_reads (decision_reads most) in
    ranged_reads spell_verdict (λ v. FitVerdict most (parts_of_verdict v)) (IsVerdict most) (verdict_at most)
    (λ v h. record { request_is = h.0; decision_is = h.1 }) (λ v h. (h.request_is, h.decision_is))
    (seen_reads verdict_of parts_of_verdict (λ p. refl) (λ v. refl) (λ (p : VerdictParts). to_be_bytes w64 p.0 ++ spell_decision p.1) (FitVerdict most) (both_at (number_at w64) (decision_at most)) parts)

-- ---- what is in range has room in a spelling

spellable_views : (vs : List ViewVerdict) → AllByRecursion IsViewVerdict vs → AllByRecursion IsSpellableViewVerdict vs
spellable_views [] h = tt
spellable_views (v ∷ vs) h = ((h.0).view_is.few, spellable_views vs h.1)

pub spellable_response : (most : ℕ) (r : Response) → IsResponse most r → IsSpellableResponse r
spellable_response most r h =
    record { few = h.few; each = All-from_recursion IsSpellableViewVerdict r.verdicts (spellable_views r.verdicts (recursion_from_All IsViewVerdict r.verdicts h.each)) }

spellable_decision : (most : ℕ) (d : Decision) → IsDecision most d → IsSpellableDecision d
spellable_decision most Approved h = tt
spellable_decision most (Rejected from view reason) h = h.1.few
spellable_decision most (TimedOut missing) h = record { few = h.few; ascend = h.ascend }

pub spellable_verdict : (most : ℕ) (v : Verdict) → IsVerdict most v → IsSpellableVerdict v
spellable_verdict most v h = spellable_decision most v.decision h.decision_is
