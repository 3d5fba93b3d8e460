-- Where all that a verdict's request creates is new to the store, each contract is still created once.
use Rattle.std.proofs.Common.{◌≡◌, ℕ, ◌+◌, ◌≤◌, Bool, true, false, cond, if◌then◌else◌, List, [], ◌∷◌, ◌++◌, length, map, filter, Option, Some, None, refl, sym, ap, ◌∙◌, subst, inl, inr, arith, append-nil, append_assoc, true≢false}
use Rattle.std.specs.Prelude.{◌||◌, ◌&&◌, not}
use Rattle.std.specs.Str.{bytes_eq}
use Rattle.std.specs.List.{list_any}
use Rattle.std.proofs.lemmas.Bool.{and_parts, cases_Bool, or_parts}
use Rattle.std.proofs.lemmas.List.{map-append}
use Rattle.std.proofs.lemmas.List.Folds.{list_any-append}
use Rattle.ledger_terms.specs.declared.act.Act.{Act}
use Rattle.ledger_model.specs.Status.{status_after}
use Rattle.ledger_model.specs.Terms.{Hash, consumes, creates, id_of, is_consuming, is_create}
use Rattle.ledger_model.specs.declared.status.Status.TheVariants.{Unknown, Active, Consumed}
use Rattle.canton_model.specs.Inbox.{Item, verdict_in}
use Rattle.canton_model.specs.Reading.{Reading}
use Rattle.canton_model.specs.declared.verdict.Verdict.{Verdict}
use Rattle.contract_store.specs.Below.{at_place}
use Rattle.contract_store.specs.Rows.{status_in}
use Rattle.contract_store.specs.Written.{Placed, acts_of, is_change, written}
use Rattle.contract_store.specs.declared.row.StoreRow.{StoreRow}
use Rattle.contract_store.proofs.Following.{status_follows}
use Rattle.contract_store.proofs.Maps.{equal_bytes, same_bytes}
use Rattle.inbox_registry.specs.ChangeLists.{change_of, changes_of}
use Rattle.pruned_inbox.specs.Start.{Start, is_gone}
use Rattle.inbox_registry.specs.Changes.{NoneGone, acts_of_verdict, approves_first, authentic_at, changes_in, changes_of_verdict, changes_since, creation_of}
use Rattle.inbox_registry.specs.Offered.{CreatedOnce}
use Rattle.inbox_registry.specs.declared.change.Change.{Change}
use Rattle.inbox_registry.proofs.Grown.{changes_push}
use Rattle.prepare_request.specs.Hosted.{is_among}
use Rattle.node_inbox.specs.AddedIds.{AreNew, are_new, creates_gone, is_unheard, is_unknown}
use Rattle.node_inbox.specs.KeptActive.{CreateOnly}
use Rattle.node_inbox.specs.Offered.{AreOnce}

abbrev how_many : Hash → List Act → ℕ
how_many c xs = length (filter (creates c) xs)

count_both : (c : Hash) (xs ys : List Act) → how_many c (xs ++ ys) ≡ how_many c xs + how_many c ys
count_both c [] ys = omega arith
count_both c (x ∷ xs) ys = by (creates c x) (count_both c xs ys)
  where
    by : (t : Bool) → how_many c (xs ++ ys) ≡ how_many c xs + how_many c ys
        → length (cond t (x ∷ filter (creates c) (xs ++ ys)) (filter (creates c) (xs ++ ys)))
        ≡ length (cond t (x ∷ filter (creates c) xs) (filter (creates c) xs)) + how_many c ys
    by true e = omega (arith, e)
    by false e = e

none_any : (c : Hash) (xs : List Act) → list_any (creates c) xs ≡ false → how_many c xs ≡ 0
none_any c [] e = refl
none_any c (x ∷ xs) e = by (creates c x) e (none_any c xs)
  where
    by : (t : Bool) → (t || list_any (creates c) xs) ≡ false → (list_any (creates c) xs ≡ false → how_many c xs ≡ 0)
        → length (cond t (x ∷ filter (creates c) xs) (filter (creates c) xs)) ≡ 0
    by true e rest = absurd (true≢false e)
    by false e rest = rest e

acts_placed : (place : ℕ) (xs : List Act) → acts_of (map (at_place place) xs) ≡ xs
acts_placed place [] = refl
acts_placed place (x ∷ xs) = ap (λ (ys : List Act). x ∷ ys) (acts_placed place xs)

-- what an action creates
abbrev Creates : Hash → Act → Type 0
Creates c a = (is_create a.action ≡ true) × (id_of a.action ≡ c)

creates_so : (c : Hash) (a : Act) → creates c a ≡ true → Creates c a
creates_so c a e = let p = and_parts (bytes_eq (id_of a.action) c) (is_create a.action) e in (p.1, same_bytes (id_of a.action) c p.0)

-- of the changes of one more action
abbrev more_of : Bool → Act → List Act → List Change
more_of b a xs = if b then change_of a ∷ changes_of xs else changes_of xs

more_is : (a : Act) (xs : List Act) → changes_of (a ∷ xs) ≡ more_of (is_change a) a xs
more_is a xs = by (is_change a)
  where
    by : (b : Bool) → map change_of (cond b (a ∷ filter is_change xs) (filter is_change xs)) ≡ more_of b a xs
    by true = refl
    by false = refl

or_right : (a b : Bool) → b ≡ true → (a || b) ≡ true
or_right true b h = refl
or_right false b h = h

module _ (rows : List StoreRow) where
  -- what all new changes say of the first action and of the others
  record First (changed : List Hash) (a : Act) (xs : List Act) : Type 0 where
    unheard : is_create a.action ≡ true → is_unheard rows changed (id_of a.action) ≡ true
    later : List Hash
    more : (c : Hash) → is_among changed c ≡ true → is_among later c ≡ true
    own : is_create a.action ≡ true → is_among later (id_of a.action) ≡ true
    rest : are_new rows later (changes_of xs) ≡ true

  first : (changed : List Hash) (a : Act) (xs : List Act) → are_new rows changed (changes_of (a ∷ xs)) ≡ true → First changed a xs
  first changed a xs new =
      by (is_create a.action) (is_consuming a.action) refl (subst (λ (cs : List Change). are_new rows changed cs ≡ true) (more_is a xs) new)
    where
      by : (cr co : Bool) → is_create a.action ≡ cr → are_new rows changed (more_of (cr || co) a xs) ≡ true → First changed a xs
      by true co e h =
          let p = and_parts (not (is_create a.action) || is_unheard rows changed (id_of a.action)) (are_new rows (id_of a.action ∷ changed) (changes_of xs)) h in
          record {
            unheard = λ w. subst (λ (t : Bool). (not t || is_unheard rows changed (id_of a.action)) ≡ true) e p.0;
            later = id_of a.action ∷ changed;
            more = λ c i. or_right (bytes_eq c (id_of a.action)) (is_among changed c) i;
            own = λ w. ap (λ (t : Bool). t || is_among changed (id_of a.action)) (equal_bytes (id_of a.action));
            rest = p.1;
          }
      by false true e h =
          let p = and_parts (not (is_create a.action) || is_unheard rows changed (id_of a.action)) (are_new rows (id_of a.action ∷ changed) (changes_of xs)) h in
          record {
            unheard = λ w. absurd (true≢false (sym w ∙ e));
            later = id_of a.action ∷ changed;
            more = λ c i. or_right (bytes_eq c (id_of a.action)) (is_among changed c) i;
            own = λ w. absurd (true≢false (sym w ∙ e));
            rest = p.1;
          }
      by false false e h =
          record {
            unheard = λ w. absurd (true≢false (sym w ∙ e));
            later = changed;
            more = λ c i. i;
            own = λ w. absurd (true≢false (sym w ∙ e));
            rest = h;
          }

  heard : (changed : List Hash) (c : Hash) → is_among changed c ≡ true → is_unheard rows changed c ≡ true → ⊥
  heard changed c i u =
      let p = and_parts (is_unknown (status_in rows c)) (not (is_among changed c)) u in true≢false (sym p.1 ∙ ap not i)

  -- none creates a contract on which there was a change
  none_again : (xs : List Act) (changed : List Hash) (c : Hash) → is_among changed c ≡ true → are_new rows changed (changes_of xs) ≡ true → how_many c xs ≡ 0
  none_again [] changed c i new = refl
  none_again (a ∷ xs) changed c i new =
      let f = first changed a xs new in by f (none_again xs f.later c (f.more c i) f.rest) (creates c a) refl
    where
      by : First changed a xs → how_many c xs ≡ 0 → (t : Bool) → creates c a ≡ t
          → length (cond t (a ∷ filter (creates c) xs) (filter (creates c) xs)) ≡ 0
      by f rest true b =
          let w = creates_so c a b in
          absurd (heard changed (id_of a.action) (subst (λ (x : Hash). is_among changed x ≡ true) (sym w.1) i) (f.unheard w.0))
      by f rest false b = rest

  abbrev OnceNew : Hash → ℕ → Type 0
  OnceNew c n = (n ≤ 1) × (is_unknown (status_in rows c) ≡ false → n ≡ 0)

  -- each is created once, and the store doesn't know it
  once_in : (xs : List Act) (changed : List Hash) (c : Hash) → are_new rows changed (changes_of xs) ≡ true → OnceNew c (how_many c xs)
  once_in [] changed c new = (omega arith, λ e. refl)
  once_in (a ∷ xs) changed c new = let f = first changed a xs new in by f (once_in xs f.later c f.rest) (creates c a) refl
    where
      by : First changed a xs → OnceNew c (how_many c xs) → (t : Bool) → creates c a ≡ t
          → OnceNew c (length (cond t (a ∷ filter (creates c) xs) (filter (creates c) xs)))
      by f rest true b =
          let w = creates_so c a b in
          let none : how_many c xs ≡ 0 = none_again xs f.later c (subst (λ (x : Hash). is_among f.later x ≡ true) w.1 (f.own w.0)) f.rest in
          let known = and_parts (is_unknown (status_in rows (id_of a.action))) (not (is_among changed (id_of a.action))) (f.unheard w.0) in (
            omega (arith, none),
            λ e. absurd (true≢false (sym (subst (λ (x : Hash). is_unknown (status_in rows x) ≡ true) w.1 known.0) ∙ e)),
          )
      by f rest false b = rest

  -- the store knows none of what they create
  pub all_unknown : (xs : List Act) (changed : List Hash) → are_new rows changed (changes_of xs) ≡ true → CreateOnly (λ c. is_unknown (status_in rows c)) xs
  all_unknown [] changed new = tt
  all_unknown (a ∷ xs) changed new =
      let f = first changed a xs new in (
        λ is. (and_parts (is_unknown (status_in rows (id_of a.action))) (not (is_among changed (id_of a.action))) (f.unheard is)).0,
        all_unknown xs f.later f.rest,
      )

-- a contract of which nothing is known wasn't created
none_known : (past : List Act) (c : Hash) → is_unknown (status_after past c) ≡ true → how_many c past ≡ 0
none_known past c e = none_any c past (by (list_any (consumes c) past) (list_any (creates c) past) e)
  where
    by : (co cr : Bool) → is_unknown (if co then Consumed else if cr then Active else Unknown) ≡ true → cr ≡ false
    by true cr e = absurd (true≢false (sym e))
    by false true e = absurd (true≢false (sym e))
    by false false e = refl

-- one verdict more
pub still_once : (ps : List Placed) (place : ℕ) (xs : List Act) → CreatedOnce ps → are_new (written ps []) [] (changes_of xs) ≡ true
    → CreatedOnce (ps ++ map (at_place place) xs)
still_once ps place xs once new c =
    let both : how_many c (acts_of (ps ++ map (at_place place) xs)) ≡ how_many c (acts_of ps) + how_many c xs =
    ap (how_many c) (map-append (λ (p : Placed). p.act) ps (map (at_place place) xs) ∙ ap (λ (ys : List Act). acts_of ps ++ ys) (acts_placed place xs))
    ∙ count_both c (acts_of ps) xs in
    let new_once = once_in (written ps []) xs [] c new in
    let old_once : how_many c (acts_of ps) ≤ 1 = once c in
    elim (cases_Bool (is_unknown (status_in (written ps []) c))) [
      | inl b ↦ (let none : how_many c (acts_of ps) ≡ 0 = none_known (acts_of ps) c (ap is_unknown (sym (status_follows ps c)) ∙ b) in
          let few : how_many c xs ≤ 1 = new_once.0 in
          omega (arith, both, none, few))
      | inr b ↦ (let none : how_many c xs ≡ 0 = new_once.1 b in omega (arith, both, none, old_once))
    ]

placed_of_verdict : (reading : Reading) (items : List Item) (v : Verdict)
    → changes_of_verdict reading items (Some v) ≡ map (at_place v.request) (acts_of_verdict reading items v)
placed_of_verdict reading items v = by (approves_first items v)
  where
    by : (b : Bool) → (if b then map (at_place v.request) (authentic_at reading items v.request) else [])
        ≡ map (at_place v.request) (if b then authentic_at reading items v.request else [])
    by true = refl
    by false = refl

-- what was done since, one item more
more_since : (reading : Reading) (start : Start) (items : List Item) (x : Item) (o : Option Verdict) (ps : List Placed) → verdict_in x.content ≡ o
    → changes_of_verdict reading items o ≡ ps → changes_since reading start (items ++ x ∷ []) ≡ changes_since reading start items ++ ps
more_since reading start items x o ps e done =
    ap (λ (qs : List Placed). map creation_of start.active ++ qs)
    (changes_push reading items x
    ∙ (ap (λ (v : Option Verdict). changes_in reading items ++ changes_of_verdict reading items v) e
    ∙ ap (λ (qs : List Placed). changes_in reading items ++ qs) done))
    ∙ sym (append_assoc (map creation_of start.active) (changes_in reading items) ps)

-- an item that is no verdict
pub once_same : (reading : Reading) (start : Start) (items : List Item) (x : Item) → verdict_in x.content ≡ None → AreOnce reading start items
    → AreOnce reading start (items ++ x ∷ [])
once_same reading start items x none are =
    let same : changes_since reading start items ≡ changes_since reading start (items ++ x ∷ []) =
    sym (more_since reading start items x None [] none refl ∙ append-nil (changes_since reading start items)) in
    record { once = subst CreatedOnce same are.once; none_gone = subst (NoneGone start) same are.none_gone }

-- changes that create nothing that is gone
none_creates : (start : Start) (xs : List Act) → list_any (creates_gone start) (changes_of xs) ≡ false → (c : Hash) → is_gone start c ≡ true
    → list_any (creates c) xs ≡ false
none_creates start [] e c gone = refl
none_creates start (x ∷ xs) e c gone =
    by (λ f. none_creates start xs f c gone) (is_create x.action) refl (bytes_eq (id_of x.action) c) refl
    (subst (λ (cs : List Change). list_any (creates_gone start) cs ≡ false) (more_is x xs) e)
  where
    rest : (b : Bool) → list_any (creates_gone start) (more_of b x xs) ≡ false → list_any (creates_gone start) (changes_of xs) ≡ false
    rest true e = (or_parts (creates_gone start (change_of x)) (list_any (creates_gone start) (changes_of xs)) e).1
    rest false e = e

    by : (list_any (creates_gone start) (changes_of xs) ≡ false → list_any (creates c) xs ≡ false) → (cr : Bool) → is_create x.action ≡ cr
        → (same : Bool) → bytes_eq (id_of x.action) c ≡ same
        → list_any (creates_gone start) (more_of (cr || is_consuming x.action) x xs) ≡ false → ((same && cr) || list_any (creates c) xs) ≡ false
    by later true made true its e =
        let first = (or_parts (creates_gone start (change_of x)) (list_any (creates_gone start) (changes_of xs)) e).0 in
        let here : creates_gone start (change_of x) ≡ true =
        ap (λ (b : Bool). b && is_gone start (id_of x.action)) made ∙ (ap (is_gone start) (same_bytes (id_of x.action) c its) ∙ gone) in
        absurd (true≢false (sym here ∙ first))
    by later true made false its e = later (rest true e)
    by later false made true its e = later (rest (is_consuming x.action) e)
    by later false made false its e = later (rest (is_consuming x.action) e)

-- a verdict
pub once_told : (reading : Reading) (start : Start) (items : List Item) (x : Item) (v : Verdict) → verdict_in x.content ≡ Some v → AreOnce reading start items
    → AreNew start (written (changes_since reading start items) []) (changes_of (acts_of_verdict reading items v))
    → AreOnce reading start (items ++ x ∷ [])
once_told reading start items x v some are new =
    let done = map (at_place v.request) (acts_of_verdict reading items v) in
    let same : changes_since reading start items ++ done ≡ changes_since reading start (items ++ x ∷ []) =
    sym (more_since reading start items x (Some v) done some (placed_of_verdict reading items v)) in
    record {
      once = subst CreatedOnce same (still_once (changes_since reading start items) v.request (acts_of_verdict reading items v) are.once new.unheard);
      none_gone = subst (NoneGone start) same (λ c gone.
          let both : acts_of (changes_since reading start items ++ done) ≡ acts_of (changes_since reading start items) ++ acts_of_verdict reading items v =
          map-append (λ (p : Placed). p.act) (changes_since reading start items) done
          ∙ ap (λ (ys : List Act). acts_of (changes_since reading start items) ++ ys) (acts_placed v.request (acts_of_verdict reading items v)) in
          ap (list_any (creates c)) both
          ∙ (list_any-append (creates c) (acts_of (changes_since reading start items)) (acts_of_verdict reading items v)
          ∙ (ap (λ (t : Bool). t || list_any (creates c) (acts_of_verdict reading items v)) (are.none_gone c gone)
          ∙ none_creates start (acts_of_verdict reading items v) new.not_gone c gone)));
    }
