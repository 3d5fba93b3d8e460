-- What a participant's submission wants, by what its inbox and its setup say.
use Rattle.std.proofs.Common.{◌≡◌, ◌≢◌, ℕ, List, Some, None, Result, Ok, Err, MatchResult}
use Rattle.std.proofs.Common.{Bool, false, if◌then◌else◌, subst, sym}
use Rattle.ledger_terms.specs.Answers.{Follows}
use Rattle.ledger_terms.specs.declared.known.Known.{Known}
use Rattle.ledger_terms.specs.declared.submission.Submission.{Submission}
use Rattle.ledger_terms.specs.declared.topology.Topology.{Topology}
use Rattle.canton_model.specs.Inbox.{Item}
use Rattle.canton_model.specs.declared.request.Request.{Request}
use Rattle.lang_eval.specs.Found.{Packages}
use Rattle.prepare_request.specs.Machine.{Offered, prepare_over, why_over}
use Rattle.prepare_request.specs.Prepared.{prepared}
use Rattle.prepare_request.specs.declared.submit_fault.SubmitFault.{SubmitFault}
use Rattle.prepare_request.specs.declared.submit_fault.SubmitFault.TheVariants.{Memory, Paused}

-- what a request or a fault says of what is wanted
abbrev pub Wanted : Topology → Packages → Offered → Submission → List Item → (now : ℕ) → Result Request SubmitFault → Type 0
Wanted topology packages offered what items now result =
    MatchResult result (λ request. prepare_over topology packages offered what items now ≡ Some request)
    (λ fault. fault ≢ Memory → (prepare_over topology packages offered what items now ≡ None) × (why_over topology packages offered what items now ≡ fault))

-- the same, where the participant may be paused
abbrev pub WantedUnlessPaused : Topology → Packages → Offered → Submission → List Item → (now : ℕ) → Result Request SubmitFault → Type 0
WantedUnlessPaused topology packages offered what items now result =
    MatchResult result (λ request. prepare_over topology packages offered what items now ≡ Some request)
    (λ fault. fault ≢ Memory → fault ≢ Paused
    → (prepare_over topology packages offered what items now ≡ None) × (why_over topology packages offered what items now ≡ fault))

pub unless_paused : (t u : Topology) (ps qs : Packages) (offered : Offered) (what : Submission) (items : List Item) (now : ℕ) (result : Result Request SubmitFault)
    → t ≡ u → ps ≡ qs → Wanted t ps offered what items now result → WantedUnlessPaused u qs offered what items now result
unless_paused t u ps qs offered what items now result a b w =
    weaker result
    (subst (λ (x : Topology). Wanted x qs offered what items now result) a (subst (λ (x : Packages). Wanted t x offered what items now result) b w))
  where
    weaker : (r : Result Request SubmitFault) → Wanted u qs offered what items now r → WantedUnlessPaused u qs offered what items now r
    weaker (Ok request) h = h
    weaker (Err fault) h = λ memory paused. h memory

-- what holds over a setup holds over an equal one
pub over_setup : (P : Topology → Packages → Type 0) (t u : Topology) (ps qs : Packages) → t ≡ u → ps ≡ qs → P t ps → P u qs
over_setup P t u ps qs a b h = subst (λ (x : Topology). P x qs) a (subst (P t) b h)

-- what follows what is prepared follows it over an equal setup and equal contracts, where the participant isn't paused
pub follows_awake : (topology topology' : Topology) (packages packages' : Packages) (me me' : ℕ) (known known' : List Known) (what : Submission) (now : ℕ)
    (paused : Bool) (result : Result Request SubmitFault) → topology ≡ topology' → packages ≡ packages' → me ≡ me' → known ≡ known' → paused ≡ false
    → Follows Memory result (prepared topology packages me known what now)
    → Follows Memory result (if paused then Err Paused else prepared topology' packages' me' known' what now)
follows_awake topology topology' packages packages' me me' known known' what now paused result t q m k awake follows =
    subst (λ (b : Bool). Follows Memory result (if b then Err Paused else prepared topology' packages' me' known' what now)) (sym awake)
    (subst (λ (x : List Known). Follows Memory result (prepared topology' packages' me' x what now)) k
    (subst (λ (x : ℕ). Follows Memory result (prepared topology' packages' x known what now)) m
    (subst (λ (x : Packages). Follows Memory result (prepared topology' x me known what now)) q
    (subst (λ (x : Topology). Follows Memory result (prepared x packages me known what now)) t follows))))
