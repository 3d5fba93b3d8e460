-- One more entry, and where the keys lead.
use Rattle.std.proofs.Common.{◌≡◌, ℕ, suc, ◌+◌, Bool, true, false, cond, List, [], ◌∷◌, ◌++◌, length, Option, Some, None, refl, sym, ap, ◌∙◌, subst}
use Rattle.std.proofs.Common.{inl, inr, arith, nat_eq}
use Rattle.std.specs.Prelude.{◌&&◌, if◌then◌else◌}
use Rattle.std.specs.Str.{bytes_eq}
use Rattle.std.proofs.lemmas.Bool.{cases_Bool, eqb-true}
use Rattle.std.proofs.lemmas.Option.{none-some}
use Rattle.std.proofs.lemmas.Slice.Eq.{bytes_eq-Decides}
use Rattle.world_model.specs.Messages.{Entry, Message, RequestMessage, ResponseMessage, VerdictMessage, Tick}
use Rattle.world_model.specs.Sequencing.{first_from, is_same}
use Rattle.seq_log.specs.Keys.{key_of, key_eq, is_key}
use Rattle.seq_log.specs.Faults.{Leads}
use Rattle.seq_log.specs.declared.key.Key.{Key}
use Rattle.seq_log.specs.declared.key.Key.TheVariants.{Request, Response, Verdict}

both_true : (a b : Bool) → (a && b) ≡ true → (a ≡ true) × (b ≡ true)
both_true true true e = (refl, refl)
both_true true false e = absurd (cc)
both_true false b e = absurd (cc)

same_number : (a b : ℕ) → nat_eq a b ≡ true → a ≡ b
same_number a b e = eqb-true a b e

same_bytes : (a b : List ℕ) → bytes_eq a b ≡ true → a ≡ b
same_bytes a b e = (bytes_eq-Decides a b).0 e

pub key_same : (a b : Key) → key_eq a b ≡ true → a ≡ b
key_same (Request p c) (Request q d) e =
    let both = both_true (nat_eq p q) (bytes_eq c d) e in
    let one = same_number p q both.0 in
    let two = same_bytes c d both.1 in cc (one, two)
key_same (Request p c) (Response q j) e = absurd (cc)
key_same (Request p c) (Verdict j) e = absurd (cc)
key_same (Response p k) (Request q d) e = absurd (cc)
key_same (Response p k) (Response q j) e =
    let both = both_true (nat_eq p q) (nat_eq k j) e in
    let one = same_number p q both.0 in
    let two = same_number k j both.1 in cc (one, two)
key_same (Response p k) (Verdict j) e = absurd (cc)
key_same (Verdict k) (Request q d) e = absurd (cc)
key_same (Verdict k) (Response q j) e = absurd (cc)
key_same (Verdict k) (Verdict j) e = ap Verdict (same_number k j e)

-- the test for the same message is that for its key
pub same_is_key : (m : Message) (key : Key) → key_of m ≡ Some key → is_same m ≡ is_key key
same_is_key (RequestMessage r) key e = let k : Request r.sender r.command ≡ key = cc in ap is_key k
same_is_key (ResponseMessage r) key e = let k : Response r.from r.request ≡ key = cc in ap is_key k
same_is_key (VerdictMessage v) key e = let k : Verdict v.request ≡ key = cc in ap is_key k
same_is_key Tick key e = absurd (none-some key e)

abbrev has_key : Option Key → Key → Bool
has_key None q = false
has_key (Some key) q = key_eq key q

by_key : (m : Message) (q : Key) → is_key q m ≡ has_key (key_of m) q
by_key (RequestMessage r) (Request p c) = refl
by_key (RequestMessage r) (Response p j) = refl
by_key (RequestMessage r) (Verdict j) = refl
by_key (ResponseMessage r) (Request p c) = refl
by_key (ResponseMessage r) (Response p j) = refl
by_key (ResponseMessage r) (Verdict j) = refl
by_key (VerdictMessage v) (Request p c) = refl
by_key (VerdictMessage v) (Response p j) = refl
by_key (VerdictMessage v) (Verdict j) = refl
by_key Tick (Request p c) = refl
by_key Tick (Response p j) = refl
by_key Tick (Verdict j) = refl

module _ (test : Message → Bool) (e : Entry) where
  miss : (k : ℕ) (list : List Entry) → test e.message ≡ false → first_from test k (list ++ e ∷ []) ≡ first_from test k list
  miss k [] no_e = rw no_e refl
  miss k (x ∷ list) no_e = ap (cond (test x.message) (Some k)) (miss (suc k) list no_e)

  hit : (k : ℕ) (list : List Entry) → test e.message ≡ true → first_from test k list ≡ None → first_from test k (list ++ e ∷ []) ≡ Some (length list + k)
  hit k [] is none = rw is (ap Some (omega arith))
  hit k (x ∷ list) is none =
      elim (cases_Bool (test x.message)) [
        | inl b ↦ let past : Some k ≡ None = rw b at none in absurd (none-some k (sym past))
        | inr b ↦ rw b (hit (suc k) list is (rw b at none) ∙ ap Some (omega arith))
      ]

-- a message without a key changes nothing
pub leads_past : (places : Key → Option ℕ) (list : List Entry) (e : Entry) → Leads list places → key_of e.message ≡ None → Leads (list ++ e ∷ []) places
leads_past places list e leads none = λ q. leads q ∙ sym (miss (is_key q) e 0 list (by_key e.message q ∙ ap (λ o. has_key o q) none))

-- a message with a key that wasn't there
pub leads_more : (places new : Key → Option ℕ) (key : Key) (place : ℕ) (list : List Entry) (e : Entry) → Leads list places → length list ≡ place
    → key_of e.message ≡ Some key → first_from (is_same e.message) 0 list ≡ None
    → ((q : Key) → new q ≡ (if key_eq key q then Some place else places q)) → Leads (list ++ e ∷ []) new
leads_more places new key place list e leads long is none put = λ q. put q ∙ by q (key_eq key q) refl
  where
    by : (q : Key) (b : Bool) → key_eq key q ≡ b → (if b then Some place else places q) ≡ first_from (is_key q) 0 (list ++ e ∷ [])
    by q true h =
        let same : key ≡ q = key_same key q h in
        let before : first_from (is_key q) 0 list ≡ None =
        subst (λ k. first_from (is_key k) 0 list ≡ None) same (subst (λ t. first_from t 0 list ≡ None) (same_is_key e.message key is) none) in
        ap Some (sym long) ∙ ap Some (omega arith) ∙ sym (hit (is_key q) e 0 list (by_key e.message q ∙ ap (λ o. has_key o q) is ∙ h) before)
    by q false h = leads q ∙ sym (miss (is_key q) e 0 list (by_key e.message q ∙ ap (λ o. has_key o q) is ∙ h))

nothing : (k : ℕ) (list : List Entry) → first_from (λ (message : Message). false) k list ≡ None
nothing k [] = refl
nothing k (x ∷ list) = nothing (suc k) list

-- a message without a key is nowhere
pub none_for_none : (m : Message) (list : List Entry) → key_of m ≡ None → None ≡ first_from (is_same m) 0 list
none_for_none (RequestMessage r) list e = absurd (none-some (Request r.sender r.command) (sym e))
none_for_none (ResponseMessage r) list e = absurd (none-some (Response r.from r.request) (sym e))
none_for_none (VerdictMessage v) list e = absurd (none-some (Verdict v.request) (sym e))
none_for_none Tick list e = sym (nothing 0 list)
