-- Each rejection's named cause holds.
use Rattle.std.proofs.Common.{◌≡◌, ◌⊎◌, ℕ, zero, suc, ◌<◌, Bool, true, false, List, [], ◌∷◌, take, length, Option, Some, None, refl, sym, ap, ◌∙◌, subst, inl, inr, arith}
use Rattle.std.specs.Prelude.{slice_get, nat_eq, ◌&&◌}
use Rattle.std.specs.List.{list_any}
use Rattle.std.proofs.lemmas.Bool.{cases_Bool, cases_order, and_parts, both_ways, not-true, not-false, eq-eqb}
use Rattle.std.proofs.lemmas.Option.{none-some, slice_get_within}
use Rattle.ledger_model.specs.Terms.{Act, id_of, creates, ParticipantId, Path}
use Rattle.ledger_model.specs.Forest.{acts}
use Rattle.ledger_model.specs.Status.{is_active}
use Rattle.ledger_model.specs.Opening.{OpenedView, Shown, roots_in}
use Rattle.canton_model.specs.Log.{Params, Entry, Request, Reject, Reason, IdMismatch, NotVetted, TimeSkew, Locked, Inactive, NotFresh, Unordered, NotConformant, NotAuthorised, RootMismatch, ViewMissing, WrongSender, WrongCommon, Rejected, request_in, request_at}
use Rattle.canton_model.specs.Timeline.{timeline_of, verdict_on}
use Rattle.canton_model.specs.Reading.{Reading, Offer, Mismatch, Missing, Open, shown_to, is_recipient}
use Rattle.canton_model.specs.Ledger.{opened_to, status_in, is_withheld}
use Rattle.canton_model.specs.Inbox.{inbox, item_time, status_in_inbox, is_locked_in_inbox}
use Rattle.canton_model.specs.Checks.{Check, first_shown, first_place, checks, is_from, is_well_split, view_at, verdict_on_found, verdict_on_offer}
use Rattle.canton_model.specs.Genuine.{Genuine, IsReading, NoCollision}
use Rattle.canton_model.specs.Causes.{LocalReasonHolds, LedgerReasonHolds, LocalRejectionHolds, RejectionHolds, RejectionStands, SomeCore}
use Rattle.ledger_model.proofs.Lists.{In, contains_from_In, in_from_Contains, in_any, from_any, at_in}
use Rattle.canton_model.proofs.Fits.{framed_of}
use Rattle.canton_model.proofs.FoundViews.{view_at_in}
use Rattle.canton_model.proofs.Approved.{confirmer_receives}
use Rattle.canton_model.proofs.FromGenuine.{second}
use Rattle.canton_model.proofs.HostLaw.{locked_in_log, known_in_log, status_of_host}
use Rattle.canton_model.proofs.RejectionChecks.{rejection_stands}

-- reasons told apart by computation
abbrev number : Reason → ℕ
number IdMismatch = 1
number NotVetted = 2
number TimeSkew = 3
number Locked = 4
number Inactive = 5
number NotFresh = 6
number Unordered = 7
number NotConformant = 8
number NotAuthorised = 9
number RootMismatch = 10
number ViewMissing = 11
number WrongSender = 12
number WrongCommon = 13

apart : (a b : Reason) → nat_eq (number a) (number b) ≡ false → a ≡ b → ⊥
apart a b h e = both_ways _ h (eq-eqb _ _ (ap number e))

rejected_same : (a b : Reason) (i j : ℕ) → Reject a i ≡ Reject b j → a ≡ b
rejected_same a b i j e = cc

abbrev tail : List Check → List Check
tail [] = []
tail (c ∷ cs) = cs

abbrev first_number : List Check → ℕ
first_number [] = 0
first_number (c ∷ cs) = number c.reason

abbrev first_shows : List Check → ℕ × Act → Bool
first_shows [] a = false
first_shows (c ∷ cs) a = c.is_shown_by a

no_more : (core : List (ℕ × Act)) (reason : Reason) (i : ℕ) → first_shown [] core ≡ Reject reason i → ⊥
no_more core reason i h = cc

-- the check before the one that gives the reason shows nothing
skip : (cs : List Check) (core : List (ℕ × Act)) (reason : Reason) (i : ℕ) → first_shown cs core ≡ Reject reason i → nat_eq (first_number cs) (number reason) ≡ false → ((a : ℕ × Act) → In a core → first_shows cs a ≡ false) × (first_shown (tail cs) core ≡ Reject reason i)
skip [] core reason i h other = absurd (no_more core reason i h)
skip (c ∷ rest) core reason i h other =
    elim (cases_Bool (list_any c.is_shown_by core)) [
      | inl shown ↦ let same : Reject c.reason (first_place c.is_shown_by core) ≡ Reject reason i = rw shown at h in absurd (apart c.reason reason other (rejected_same _ _ _ _ same))
      | inr none ↦ (none_of none, rw none at h)
    ]
  where
    none_of : list_any c.is_shown_by core ≡ false → (a : ℕ × Act) → In a core → c.is_shown_by a ≡ false
    none_of none a j = elim (cases_Bool (c.is_shown_by a)) [ inl t ↦ absurd (both_ways _ none (in_any c.is_shown_by core a j t)) | inr f ↦ f ]

-- the check that gives it is shown by some action, where no later one gives the same
hit : (cs : List Check) (core : List (ℕ × Act)) (reason : Reason) (i : ℕ) → first_shown cs core ≡ Reject reason i → (first_shown (tail cs) core ≡ Reject reason i → ⊥) → (a : ℕ × Act) × In a core × (first_shows cs a ≡ true)
hit [] core reason i h not_later = absurd (no_more core reason i h)
hit (c ∷ rest) core reason i h not_later =
    elim (cases_Bool (list_any c.is_shown_by core)) [
      | inl shown ↦ from_any c.is_shown_by core shown
      | inr none ↦ absurd (not_later (rw none at h))
    ]

-- no place below j is withheld, or one is
search_withheld : (is_withheld : ℕ → Bool) (j : ℕ) → ((m : ℕ) → m < j → is_withheld m ≡ false) ⊎ ((m : ℕ) × (m < j) × (is_withheld m ≡ true))
search_withheld is_withheld zero = inl (λ m lt. absurd (omega (arith, lt)))
search_withheld is_withheld (suc j) =
    elim (search_withheld is_withheld j) [
      | inr w ↦ inr (w.0, omega (arith, w.1), w.2)
      | inl none ↦ elim (cases_Bool (is_withheld j)) [
        | inl held ↦ inr (j, omega arith, held)
        | inr free ↦ inl (λ m lt. elim (cases_order m j) [
          | inl same ↦ ap is_withheld same ∙ free
          | inr o ↦ elim o [ inl below ↦ none m below | inr above ↦ absurd (omega (arith, lt, above)) ]
        ])
      ]
    ]

any_weaker : (f g : Act → Bool) (xs : List Act) → list_any g xs ≡ false → list_any (λ x. f x && g x) xs ≡ false
any_weaker f g xs none =
    elim (cases_Bool (list_any (λ x. f x && g x) xs)) [
      | inr b ↦ b
      | inl some' ↦ let w = from_any (λ x. f x && g x) xs some' in absurd (both_ways _ none (in_any g xs w.0 w.1 (and_parts _ _ w.2).1))
    ]

module _ (reading : Reading) (params : Params) (log : List Entry) (lawful : IsReading reading) (genuine : Genuine reading params log) where
  abbrev nine : ℕ → Shown → ParticipantId → OpenedView → List Check
  nine j s p view =
      checks reading params p (item_time (slice_get (inbox reading p (take (suc j) log)) j)) s view
      (status_in_inbox reading (inbox reading p (take (suc j) log)) j) (is_locked_in_inbox reading params (inbox reading p (take (suc j) log)) j)

  -- The reason is one of the nine, of a view that is opened.
  record IsOpen (j : ℕ) (p : ParticipantId) (q : Request) (path : Path) (reason : Reason) (i : ℕ) : Type 0 where
    shown : Shown
    is_shown : shown_to reading p q ≡ Some shown
    view : OpenedView
    is_in : In view shown.views
    has_path : view.path ≡ path
    check : first_shown (nine j shown p view) view.core ≡ Reject reason i

  abbrev IsOfNine : Reason → Type 0
  IsOfNine reason = (nat_eq 10 (number reason) ≡ false) × (nat_eq 11 (number reason) ≡ false) × (nat_eq 12 (number reason) ≡ false) × (nat_eq 13 (number reason) ≡ false)

  open_view : (j : ℕ) (p : ParticipantId) (q : Request) (path : Path) (reason : Reason) (i : ℕ) → IsOfNine reason → (s : Shown) → shown_to reading p q ≡ Some s → (o : Option OpenedView) → view_at path s.views ≡ o → verdict_on_found reading params p (inbox reading p (take (suc j) log)) j q.sender s o ≡ Reject reason i → IsOpen j p q path reason i
  open_view j p q path reason i other s is None e h = absurd (apart ViewMissing reason other.1 (rejected_same _ _ _ _ h))
  open_view j p q path reason i other s is (Some view) e h =
      elim (cases_Bool (is_from reading q.sender s)) [
        | inr wrong ↦ let h' : Reject WrongSender 0 ≡ Reject reason i = rw wrong at h in absurd (apart WrongSender reason other.2 (rejected_same _ _ _ _ h'))
        | inl from ↦ elim (cases_Bool (is_well_split reading s view)) [
          | inr wrong ↦ let h' : Reject WrongCommon 0 ≡ Reject reason i = rw (from, wrong) at h in absurd (apart WrongCommon reason other.3 (rejected_same _ _ _ _ h'))
          | inl split ↦
              let there = view_at_in path s.views view e in
              record { shown = s; is_shown = is; view = view; is_in = there.0; has_path = there.1; check = rw (from, split) at h }
        ]
      ]

  open_offer : (j : ℕ) (p : ParticipantId) (q : Request) (path : Path) (reason : Reason) (i : ℕ) → IsOfNine reason → is_recipient reading p q ≡ true → (o : Offer) → reading.offered p q ≡ o → verdict_on_offer reading params p (inbox reading p (take (suc j) log)) j q.sender path o ≡ Reject reason i → IsOpen j p q path reason i
  open_offer j p q path reason i other receives Mismatch e h = absurd (apart RootMismatch reason other.0 (rejected_same _ _ _ _ h))
  open_offer j p q path reason i other receives Missing e h = absurd (apart ViewMissing reason other.1 (rejected_same _ _ _ _ h))
  open_offer j p q path reason i other receives (Open s) e h = open_view j p q path reason i other s (rw (receives, e) refl) (view_at path s.views) refl h

  -- where the reason stands and its action
  module _ (j : ℕ) (p : ParticipantId) (path : Path) (reason : Reason) (stands : RejectionStands reading params log j p path reason) where
    abbrev q : Request
    q = stands.request

    opened : IsOfNine reason → IsOpen j p q path reason stands.action
    opened other =
        open_offer j p q path reason stands.action other
        (confirmer_receives reading params log lawful genuine j q p path stands.there (in_from_Contains _ path stands.is_confirmed)) (reading.offered p q) refl stands.check

    short : j < length log
    short = within (slice_get log j) refl stands.there
      where
        within : (o : Option Entry) → slice_get log j ≡ o → request_in o ≡ Some q → j < length log
        within None e h = absurd (none-some q h)
        within (Some x) e h = slice_get_within log j x e

    -- an action of the core stands in what is opened
    stands_opened : (o : IsOpen j p q path reason stands.action) (a : ℕ × Act) → In a o.view.core → In a.1 (acts (opened_to reading p (request_at log j)))
    stands_opened o a core =
        let placed = (framed_of reading params log genuine lawful j q stands.there).placed p o.shown o.is_shown in
        let place = placed.numbered o.view a.0 a.1 (contains_from_In _ o.view o.is_in) (contains_from_In _ a core) in
        subst (λ (xs : List Act). In a.1 xs) (sym (ap (λ (x : Option Request). acts (opened_to reading p x)) stands.there ∙ ap (λ (x : Option Shown). acts (roots_in x)) o.is_shown))
        (at_in (acts (o.shown).roots) a.0 a.1 place)

    some_core : (P : Shown → ℕ × Act → Type 0) (o : IsOpen j p q path reason stands.action) (a : ℕ × Act) → In a o.view.core → P o.shown a → SomeCore reading p q path P
    some_core P o a core holds =
        record {
          shown = o.shown;
          is_shown = o.is_shown;
          view = o.view;
          is_opened = contains_from_In _ o.view o.is_in;
          has_path = o.has_path;
          action = a;
          in_core = contains_from_In _ a core;
          holds = holds;
        }

  locked_holds : (j : ℕ) (p : ParticipantId) (path : Path) (stands : RejectionStands reading params log j p path Locked) → LocalReasonHolds reading params log j p stands.request path Locked
  locked_holds j p path stands =
      let o = opened j p path Locked stands (refl, refl, refl, refl) in
      let i = stands.action in
      let core = (o.view).core in
      let cs = nine j o.shown p o.view in
      let s1 = skip cs core Locked i o.check refl in
      let s2 = skip (tail cs) core Locked i s1.1 refl in
      let s3 = skip (tail (tail cs)) core Locked i s2.1 refl in
      let a = hit (tail (tail (tail cs))) core Locked i s3.1 (λ k.
      let t1 = skip (tail (tail (tail (tail cs)))) core Locked i k refl in
      let t2 = skip (tail (tail (tail (tail (tail cs))))) core Locked i t1.1 refl in
      let t3 = skip (tail (tail (tail (tail (tail (tail cs)))))) core Locked i t2.1 refl in
      let t4 = skip (tail (tail (tail (tail (tail (tail (tail cs))))))) core Locked i t3.1 refl in
      let t5 = skip (tail (tail (tail (tail (tail (tail (tail (tail cs)))))))) core Locked i t4.1 refl in
      no_more core Locked i t5.1) in
      some_core j p path Locked stands _ o a.0 a.1
      (locked_in_log reading params log genuine.timely p j (id_of ((a.0).1).action) (and_parts _ _ a.2).1)

  local_reason_holds : (j : ℕ) (p : ParticipantId) (path : Path) (reason : Reason) (stands : RejectionStands reading params log j p path reason) → LocalReasonHolds reading params log j p stands.request path reason
  local_reason_holds j p path RootMismatch stands = tt
  local_reason_holds j p path ViewMissing stands = tt
  local_reason_holds j p path WrongSender stands = tt
  local_reason_holds j p path WrongCommon stands = tt
  local_reason_holds j p path IdMismatch stands = tt
  local_reason_holds j p path NotVetted stands = tt
  local_reason_holds j p path TimeSkew stands = tt
  local_reason_holds j p path Inactive stands = tt
  local_reason_holds j p path NotFresh stands = tt
  local_reason_holds j p path Unordered stands = tt
  local_reason_holds j p path NotConformant stands = tt
  local_reason_holds j p path NotAuthorised stands = tt
  local_reason_holds j p path Locked stands = locked_holds j p path stands

  pub local_rejection_holds : (j : ℕ) (from : ParticipantId) (path : Path) (reason : Reason) → verdict_on j (timeline_of log) ≡ Some (Rejected from path reason) → LocalRejectionHolds reading params log j from path reason
  local_rejection_holds j from path reason h =
      let s = rejection_stands reading params log genuine j from path reason h in
      record { stands = s; holds = local_reason_holds j from path reason s }

  module _ (distinct : NoCollision reading log) where
    inactive_holds : (j : ℕ) (p : ParticipantId) (path : Path) (stands : RejectionStands reading params log j p path Inactive) → LedgerReasonHolds reading log j p stands.request path Inactive
    inactive_holds j p path stands =
        let o = opened j p path Inactive stands (refl, refl, refl, refl) in
        let i = stands.action in
        let core = (o.view).core in
        let cs = nine j o.shown p o.view in
        let s1 = skip cs core Inactive i o.check refl in
        let s2 = skip (tail cs) core Inactive i s1.1 refl in
        let s3 = skip (tail (tail cs)) core Inactive i s2.1 refl in
        let s4 = skip (tail (tail (tail cs))) core Inactive i s3.1 refl in
        let a = hit (tail (tail (tail (tail cs)))) core Inactive i s4.1 (λ k.
        let t1 = skip (tail (tail (tail (tail (tail cs))))) core Inactive i k refl in
        let t2 = skip (tail (tail (tail (tail (tail (tail cs)))))) core Inactive i t1.1 refl in
        let t3 = skip (tail (tail (tail (tail (tail (tail (tail cs))))))) core Inactive i t2.1 refl in
        let t4 = skip (tail (tail (tail (tail (tail (tail (tail (tail cs)))))))) core Inactive i t3.1 refl in
        no_more core Inactive i t4.1) in
        let parts = and_parts _ _ a.2 in
        let shows = and_parts _ _ parts.1 in
        let rest = and_parts _ _ shows.1 in
        let real = not-false _ (s1.0 a.0 a.1) in
        let there = stands_opened j p path Inactive stands o a.0 a.1 in
        let unlocked = second _ _ parts.0 (s4.0 a.0 a.1) in
        let c = id_of ((a.0).1).action in
        let agrees : ((m : ℕ) → m < j → is_withheld reading log p m ≡ false) → is_active (status_in reading log j c) ≡ false =
        λ free. ap is_active (sym (status_of_host reading params log lawful genuine distinct p p j (a.0).1 there real parts.0 j free (short j p path Inactive stands) unlocked)) ∙ not-true _ rest.0 in
        some_core j p path Inactive stands _ o a.0 a.1 (
          not-true _ shows.0,
          any_weaker reading.is_authentic (creates c) _ (not-true _ rest.1),
          elim (search_withheld (is_withheld reading log p) j) [ inl free ↦ inl (agrees free) | inr held ↦ inr held ],
        )

    not_fresh_holds : (j : ℕ) (p : ParticipantId) (path : Path) (stands : RejectionStands reading params log j p path NotFresh) → LedgerReasonHolds reading log j p stands.request path NotFresh
    not_fresh_holds j p path stands =
        let o = opened j p path NotFresh stands (refl, refl, refl, refl) in
        let i = stands.action in
        let core = (o.view).core in
        let cs = nine j o.shown p o.view in
        let s1 = skip cs core NotFresh i o.check refl in
        let s2 = skip (tail cs) core NotFresh i s1.1 refl in
        let s3 = skip (tail (tail cs)) core NotFresh i s2.1 refl in
        let s4 = skip (tail (tail (tail cs))) core NotFresh i s3.1 refl in
        let s5 = skip (tail (tail (tail (tail cs)))) core NotFresh i s4.1 refl in
        let a = hit (tail (tail (tail (tail (tail cs))))) core NotFresh i s5.1 (λ k.
        let t1 = skip (tail (tail (tail (tail (tail (tail cs)))))) core NotFresh i k refl in
        let t2 = skip (tail (tail (tail (tail (tail (tail (tail cs))))))) core NotFresh i t1.1 refl in
        let t3 = skip (tail (tail (tail (tail (tail (tail (tail (tail cs)))))))) core NotFresh i t2.1 refl in
        no_more core NotFresh i t3.1) in
        let parts = and_parts _ _ a.2 in
        let shows = and_parts _ _ parts.1 in
        let c = id_of ((a.0).1).action in
        some_core j p path NotFresh stands _ o a.0 a.1
        (shows.0, known_in_log reading params log lawful genuine distinct p j c (short j p path NotFresh stands) (not-true _ shows.1))

    ledger_reason_holds : (j : ℕ) (p : ParticipantId) (path : Path) (reason : Reason) (stands : RejectionStands reading params log j p path reason) → LedgerReasonHolds reading log j p stands.request path reason
    ledger_reason_holds j p path RootMismatch stands = tt
    ledger_reason_holds j p path ViewMissing stands = tt
    ledger_reason_holds j p path WrongSender stands = tt
    ledger_reason_holds j p path WrongCommon stands = tt
    ledger_reason_holds j p path IdMismatch stands = tt
    ledger_reason_holds j p path NotVetted stands = tt
    ledger_reason_holds j p path TimeSkew stands = tt
    ledger_reason_holds j p path Locked stands = tt
    ledger_reason_holds j p path Unordered stands = tt
    ledger_reason_holds j p path NotConformant stands = tt
    ledger_reason_holds j p path NotAuthorised stands = tt
    ledger_reason_holds j p path Inactive stands = inactive_holds j p path stands
    ledger_reason_holds j p path NotFresh stands = not_fresh_holds j p path stands

    pub rejection_holds : (j : ℕ) (from : ParticipantId) (path : Path) (reason : Reason) → verdict_on j (timeline_of log) ≡ Some (Rejected from path reason) → RejectionHolds reading params log j from path reason
    rejection_holds j from path reason h =
        let locally = local_rejection_holds j from path reason h in
        record { locally = locally; holds = ledger_reason_holds j from path reason locally.stands }
