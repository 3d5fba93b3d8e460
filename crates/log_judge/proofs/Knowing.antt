-- What the auditor's tests decide, and what it knows after one entry more.
use Rattle.std.proofs.Common.{◌≡◌, ◌≢◌, Bool, true, false, not, List, [], ◌∷◌, ◌++◌, Option, Some, None, refl, sym, ap, ◌∙◌, subst}
use Rattle.std.specs.Prelude.{Decides, IfOk, OnOk, Result, Ok, Err}
use Rattle.std.proofs.lemmas.Bool.Decides.{Decides-not, Decides-like}
use Rattle.std.proofs.lemmas.Option.{none-some, same_Some}
use Rattle.ledger_terms.specs.declared.params.Params.{Params}
use Rattle.canton_model.specs.Mediation.{scan}
use Rattle.canton_model.specs.Reading.{Reading}
use Rattle.canton_model.specs.Genuine.{Genuine}
use Rattle.world_model.specs.Messages.{Entry, Message, RequestMessage, ResponseMessage, VerdictMessage, Tick, Verdict, Decision}
use Rattle.world_model.specs.Machine.{Machine}
use Rattle.world_model.specs.Mediator.{MediatorState, read_by_mediator}
use Rattle.world_model.proofs.Steps.{mediator_has_read}
use Rattle.mediator.specs.KeptCases.{KeptMediator, Keeps, Knows, known_decision}
use Rattle.mediator.proofs.Known.{decision_is}
use Rattle.framed_form.specs.Outlines.{IsOutlined}
use Rattle.framed_form.specs.declared.outline.Outline.{Outline}
use Rattle.audit_model.specs.Cases.{IsOtherDecision, IsUnframed, is_repeated}
use Rattle.audit_model.specs.Standard.{Rule}
use Rattle.audit_model.proofs.Fitting.{no_verdict}
use Rattle.log_judge.specs.Framing.{IsFramingOf}
use Rattle.log_judge.specs.Known.{KnowsLog, machine_for, standard_for}
use Rattle.log_judge.specs.RuleUses.{AreUsed, IsNoted}
use Rattle.log_judge.specs.declared.auditor.Auditor.{Auditor}

pub if_ok_map : {X E : Type 0} (r : Result X E) (P Q : X → Type 0) → IfOk r P → ((x : X) → P x → Q x) → IfOk r Q
if_ok_map (Ok x) P Q h f = f x h
if_ok_map (Err e) P Q h f = tt

pub on_ok_map : {X E : Type 0} (r : Result X E) (P Q : Type 0) → OnOk r P → (P → Q) → OnOk r Q
on_ok_map (Ok x) P Q h f = f h
on_ok_map (Err e) P Q h f = tt

pub on_ok_always : {X E : Type 0} (r : Result X E) (P : Type 0) → P → OnOk r P
on_ok_always (Ok x) P p = p
on_ok_always (Err e) P p = tt

pub decides_test : (b t : Bool) → b ≡ t → Decides b (t ≡ true)
decides_test b t e = (λ h. sym e ∙ h, λ h. e ∙ h)

-- ---- framing

-- a request that isn't unframed has an outline
pub outlined : (reading : Reading) (m : Message) (o : Option Outline) → IsFramingOf reading m o → ¬ IsUnframed reading m → IsOutlined m o
outlined reading (RequestMessage q) None is framed = absurd (framed is)
outlined reading (RequestMessage q) (Some outline) is framed = is.1
outlined reading (ResponseMessage r) o is framed = tt
outlined reading (VerdictMessage v) o is framed = tt
outlined reading Tick o is framed = tt

-- ---- decisions

differs : (b : Bool) (d e : Decision) (o : Option Decision) → o ≡ Some d → Decides b (d ≡ e) → Decides (not b) (o ≢ Some e)
differs b d e o is same =
    Decides-like (not b) (λ other h. other (same_Some d e (sym is ∙ h))) (λ other h. other (is ∙ ap Some h)) (Decides-not b same)

nothing_differs : (e : Decision) (o : Option Decision) → o ≡ None → Decides true (o ≢ Some e)
nothing_differs e o is = (λ t h. none-some e (sym is ∙ h), λ h. refl)

module _ {P : Type 0} (reading : Reading) (params : Params) (have_read : List Entry → Type 0) (a : Auditor P) (log : List Entry)
    (k : KnowsLog reading params have_read a log) (genuine : Genuine reading params log) where
  -- what the mediator knows of a request without a verdict is the scan
  known_is_scan : (v : Verdict) → is_repeated log (VerdictMessage v) ≡ false → known_decision v.request a.mediator.cases ≡ scan params log v.request
  known_is_scan v new = decision_is (machine_for reading params) log a.mediator v.request genuine k.knows (no_verdict v.request log new)

  pub some_decides : (m : Message) (v : Verdict) → m ≡ VerdictMessage v → is_repeated log m ≡ false → (d : Decision) (b : Bool)
      → known_decision v.request a.mediator.cases ≡ Some d → Decides b (d ≡ v.decision) → Decides (not b) (IsOtherDecision params log m)
  some_decides m v is new d b known same =
      let fresh : is_repeated log (VerdictMessage v) ≡ false = subst (λ (x : Message). is_repeated log x ≡ false) is new in
      subst (λ (x : Message). Decides (not b) (IsOtherDecision params log x)) (sym is)
      (differs b d v.decision (scan params log v.request) (sym (known_is_scan v fresh) ∙ known) same)

  pub none_decides : (m : Message) (v : Verdict) → m ≡ VerdictMessage v → is_repeated log m ≡ false
      → known_decision v.request a.mediator.cases ≡ None → Decides true (IsOtherDecision params log m)
  none_decides m v is new known =
      let fresh : is_repeated log (VerdictMessage v) ≡ false = subst (λ (x : Message). is_repeated log x ≡ false) is new in
      subst (λ (x : Message). Decides true (IsOtherDecision params log x)) (sym is)
      (nothing_differs v.decision (scan params log v.request) (sym (known_is_scan v fresh) ∙ known))

-- ---- one entry more

knows_read : (m : Machine) (log : List Entry) (before after : KeptMediator) (entry : Entry) → Knows m log before → after.params ≡ before.params
    → ((state : MediatorState) → Keeps before state → Keeps after (read_by_mediator before.params state entry)) → Knows m (log ++ entry ∷ []) after
knows_read m log before after entry knows same step =
    record {
      params = same ∙ knows.params;
      state = read_by_mediator m.params knows.state entry;
      keeps = subst (λ (p : Params). Keeps after (read_by_mediator p knows.state entry)) knows.params (step knows.state knows.keeps);
      has = mediator_has_read m log knows.state entry knows.has;
    }

pub same_standard : (reading other : Reading) (params others : Params) (rules more : List Rule) → other ≡ reading → others ≡ params → more ≡ rules
    → standard_for other others more ≡ standard_for reading params rules
same_standard reading other params others rules more er ep e =
    ap (λ (r : Reading). standard_for r others more) er
    ∙ (ap (λ (p : Params). standard_for reading p more) ep ∙ ap (λ (l : List Rule). standard_for reading params l) e)

pub knows_next : {P : Type 0} (reading other : Reading) (params others : Params) (have_read read_now : List Entry → Type 0) (before after : Auditor P)
    (log : List Entry) (entry : Entry) → other ≡ reading → others ≡ params
    → KnowsLog reading params have_read before log → read_now (log ++ entry ∷ []) → after.log.list ≡ before.log.list ++ entry ∷ []
    → after.mediator.params ≡ before.mediator.params
    → ((state : MediatorState) → Keeps before.mediator state → Keeps after.mediator (read_by_mediator before.mediator.params state entry))
    → IsNoted reading entry.message before.rules after.rules → ¬ IsUnframed reading entry.message → after.params ≡ before.params
    → KnowsLog other others read_now after (log ++ entry ∷ [])
knows_next reading other params others have_read read_now before after log entry er ep k have list same step noted framed own =
    record {
      same = own ∙ (k.same ∙ sym ep);
      list = list ∙ ap (λ (l : List Entry). l ++ entry ∷ []) k.list;
      participants = have;
      knows =
          subst (λ (r : Reading). Knows (machine_for r others) (log ++ entry ∷ []) after.mediator) (sym er)
          (subst (λ (p : Params). Knows (machine_for reading p) (log ++ entry ∷ []) after.mediator) (sym ep)
          (knows_read (machine_for reading params) log before.mediator after.mediator entry k.knows same step));
      used = subst (λ (r : Reading). AreUsed r (log ++ entry ∷ []) after.rules) (sym er) (noted.used log entry.time framed k.used);
    }
