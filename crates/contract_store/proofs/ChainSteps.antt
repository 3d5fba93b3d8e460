-- What one more item, and one that is no longer live, do to chains.
use Rattle.std.proofs.Common.{◌≡◌, ℕ, suc, ◌≤◌, Bool, true, false, List, [], ◌∷◌, ◌++◌, length, set, Option, Some, None, refl, sym, ap, ◌∙◌, subst}
use Rattle.std.proofs.Common.{inl, inr, arith}
use Rattle.std.specs.Prelude.{◌&&◌, slice_get, if◌then◌else◌}
use Rattle.contract_store.specs.Chains.{Link, above, is_live_at, NoneFrom, IsLast, IsLinked, Reaches, Chains}
use Rattle.std.proofs.lemmas.Bool.{cases_eq, cases_order, and_from}
use Rattle.contract_store.proofs.Places.{get_before, get_last, push_cases, get_within, set_cases, set_here, set_there}

module _ {K : Type 0} (eq : K → K → Bool) (same : (a b : K) → eq a b ≡ true → a ≡ b) (equal : (a : K) → eq a a ≡ true) where
  both_true : (a b : Bool) → (a && b) ≡ true → (a ≡ true) × (b ≡ true)
  both_true true true e = (refl, refl)
  both_true true false e = absurd (cc)
  both_true false b e = absurd (cc)

  no_left : (a b : Bool) → a ≡ false → (a && b) ≡ false
  no_left true b e = absurd (cc)
  no_left false b e = refl

  no_right : (a b : Bool) → b ≡ false → (a && b) ≡ false
  no_right true b e = e
  no_right false b e = refl

  -- the key of a live item
  pub key_of : (k : K) (l : Link K) → is_live_at eq k l ≡ true → l.key ≡ k
  key_of k l e = same l.key k (both_true l.live (eq l.key k) e).1

  module _ (links : List (Link K)) (leads : K → Option ℕ) (chains : Chains eq links leads) (x : Link K)
      (live : x.live ≡ true) (before : x.before ≡ leads x.key) where
    last_after : K → Option ℕ
    last_after q = if eq x.key q then Some (length links) else leads q

    push_last : (q : K) (b : Bool) → eq x.key q ≡ b → IsLast eq (links ++ x ∷ []) q (if b then Some (length links) else leads q)
    push_last q true e = record {
      none = λ j l h at. elim (push_cases links x j l at) [
        | inl w ↦ absurd (omega arith)
        | inr w ↦ absurd (let k = get_within links j l w in omega arith)
      ];
      here = λ i h. (
        x,
        subst (λ n. slice_get (links ++ x ∷ []) n ≡ Some x) (let p : Some (length links) ≡ Some i = h in cc) (get_last links x),
        ap (λ b. b && eq x.key q) live ∙ e,
      );
    }
    push_last q false e = record {
      none = λ j l h at. elim (push_cases links x j l at) [
        | inl w ↦ no_right l.live (eq l.key q) (ap (λ (m : Link K). eq m.key q) (sym w.1) ∙ e)
        | inr w ↦ (chains.last q).none j l h w
      ];
      here = λ i h. let old = (chains.last q).here i h in (old.0, get_before links x i old.0 old.1, old.2);
    }

    new_below : (o : Option ℕ) → IsLast eq links x.key o → above o ≤ length links
    new_below None h = omega arith
    new_below (Some i) h = let l = h.here i refl in let k = get_within links i l.0 l.1 in omega arith

    push_linked : IsLinked eq (links ++ x ∷ [])
    push_linked = record {
      below = λ i l at. elim (push_cases links x i l at) [
        | inl w ↦ (let h = new_below (leads x.key) (chains.last x.key) in
            subst (λ (m : Link K). above m.before ≤ i) w.1 (rw before (omega arith)))
        | inr w ↦ chains.linked.below i l w
      ];
      alike = λ i j l at b. elim (push_cases links x i l at) [
        | inl w ↦ (let old = (chains.last x.key).here j (sym before ∙ ap (λ (m : Link K). m.before) w.1 ∙ b) in
            (old.0, get_before links x j old.0 old.1, ap (λ (m : Link K). eq old.0.key m.key) (sym w.1) ∙ (both_true old.0.live (eq old.0.key x.key) old.2).1))
        | inr w ↦ (let old = chains.linked.alike i j l w b in (old.0, get_before links x j old.0 old.1, old.2))
      ];
      between = λ i j l m at to h under. elim (push_cases links x j m to) [
        | inl v ↦ elim (push_cases links x i l at) [
          | inl w ↦ absurd (omega arith)
          | inr w ↦ absurd (let k = get_within links i l w in omega arith)
        ]
        | inr v ↦ elim (push_cases links x i l at) [
          | inl w ↦ (let past = (chains.last x.key).none j m (subst (λ o. above o ≤ j) before (subst (λ (n : Link K). above n.before ≤ j) (sym w.1) h)) v in
              ap (λ (n : Link K). is_live_at eq n.key m) (sym w.1) ∙ past)
          | inr w ↦ chains.linked.between i j l m w v h under
        ]
      ];
    }

    -- one more item, before which the last one with its key stands
    pub chains_push : Chains eq (links ++ x ∷ []) (λ q. if eq x.key q then Some (length links) else leads q)
    chains_push = record { last = λ q. push_last q (eq x.key q) refl; linked = push_linked }

  fewer_bool : (a b c : Bool) → (a ≡ false → b ≡ false) → (a && c) ≡ false → (b && c) ≡ false
  fewer_bool true b c h e = no_right b c e
  fewer_bool false b c h e = no_left b c (h refl)

  fewer : (q : K) (n m : Link K) → n.key ≡ m.key → (n.live ≡ false → m.live ≡ false) → is_live_at eq q n ≡ false → is_live_at eq q m ≡ false
  fewer q n m k h e = fewer_bool n.live m.live (eq m.key q) h (ap (λ x. n.live && eq x q) (sym k) ∙ e)

  -- an item that is no longer live
  module _ (links : List (Link K)) (i : ℕ) (l : Link K) (at : slice_get links i ≡ Some l) where
    abbrev pub killed : List (Link K)
    killed = set links i (record { key = l.key; live = false; before = l.before })

    was : (j : ℕ) (m : Link K) → slice_get killed j ≡ Some m → (n : Link K) × (slice_get links j ≡ Some n) × (n.key ≡ m.key) × (n.before ≡ m.before)
        × (n.live ≡ false → m.live ≡ false) × (j ≡ i → m.live ≡ false)
    was j m h = elim (set_cases links i (record { key = l.key; live = false; before = l.before }) j m h) [
      | inl w ↦ (
        l,
        rw w.0 at,
        ap (λ (n : Link K). n.key) w.1,
        ap (λ (n : Link K). n.before) w.1,
        (λ e. sym (ap (λ (n : Link K). n.live) w.1)),
        (λ e. sym (ap (λ (n : Link K). n.live) w.1)),
      )
      | inr w ↦ (m, w.1, refl, refl, (λ e. e), (λ e. absurd (w.0 e)))
    ]

    -- fewer are live
    pub none_killed : (q : K) (a : ℕ) → NoneFrom eq links q a → NoneFrom eq killed q a
    none_killed q a none = λ j m h to. let old = was j m to in fewer q old.0 m old.2 old.4 (none j old.0 h old.1)

    kept : (j : ℕ) (m : Link K) → slice_get links j ≡ Some m → (n : Link K) × (slice_get killed j ≡ Some n) × (n.key ≡ m.key)
    kept j m h = elim (cases_eq j i) [
      | inl w ↦ (let here = set_here links i (record { key = l.key; live = false; before = l.before }) l at in (
        record { key = l.key; live = false; before = l.before },
        rw w here,
        (let e : Some l ≡ Some m = sym at ∙ rw w at h in let f : l ≡ m = cc in ap (λ (n : Link K). n.key) f),
      ))
      | inr w ↦ (m, set_there links i _ j m w h, refl)
    ]

    pub linked_killed : IsLinked eq links → IsLinked eq killed
    linked_killed linked = record {
      below = λ j m to. let old = was j m to in subst (λ o. above o ≤ j) old.3 (linked.below j old.0 old.1);
      alike = λ j n m to b. (let old = was j m to in
          let one = linked.alike j n old.0 old.1 (old.3 ∙ b) in
          let now = kept n one.0 one.1 in
          (now.0, now.1, ap (λ k. eq k m.key) now.2 ∙ ap (λ k. eq one.0.key k) (sym old.2) ∙ one.2));
      between = λ j n m x to at' h under. (let old = was j m to in
          let one = was n x at' in
          ap (λ k. is_live_at eq k x) (sym old.2)
          ∙ fewer old.0.key one.0 x one.2 one.4 (linked.between j n old.0 one.0 old.1 one.1 (subst (λ o. above o ≤ n) (sym old.3) h) under));
    }

    -- the last one at another place, or of another key, stays
    pub last_elsewhere : (q : K) (o : Option ℕ) → (o ≡ Some i → ⊥) → IsLast eq links q o → IsLast eq killed q o
    last_elsewhere q o apart last = record {
      none = none_killed q (above o) last.none;
      here = λ j h. let old = last.here j h in (old.0, set_there links i _ j old.0 (λ e. apart (h ∙ ap Some e)) old.1, old.2);
    }

    -- and if it was the last one, the chain leads on from it
    pub reaches_before : (q : K) → eq l.key q ≡ true → IsLinked eq links → NoneFrom eq links q (suc i) → Reaches eq killed q l.before
    reaches_before q e linked none = record {
      none = λ j m h to. (let old = was j m to in elim (cases_order j i) [
        | inl w ↦ no_left m.live (eq m.key q) (old.5 w)
        | inr w ↦ elim w [
          | inl under ↦ fewer q old.0 m old.2 old.4 (ap (λ k. is_live_at eq k old.0) (sym (same l.key q e)) ∙ linked.between i j l old.0 at old.1 h under)
          | inr over ↦ fewer q old.0 m old.2 old.4 (none j old.0 over old.1)
        ]
      ]);
      alike = λ j b. (let one = linked.alike i j l at b in
          let now = kept j one.0 one.1 in
          (now.0, now.1, ap (λ k. eq k q) now.2 ∙ ap (λ k. eq one.0.key k) (sym (same l.key q e)) ∙ one.2));
    }

  module _ (links : List (Link K)) (q : K) where
    -- nothing is left
    pub last_none : Reaches eq links q None → IsLast eq links q None
    last_none reaches = record { none = reaches.none; here = λ i h. absurd (cc) }

    -- a live one is the last
    pub last_found : (i : ℕ) → Reaches eq links q (Some i) → (l : Link K) → slice_get links i ≡ Some l → l.live ≡ true → IsLast eq links q (Some i)
    last_found i reaches l at live = record {
      none = reaches.none;
      here = λ j h. (let found = reaches.alike j h in
          let e : i ≡ j = cc in
          let f : Some l ≡ Some found.0 = sym at ∙ ap (slice_get links) e ∙ found.1 in
          let g : l ≡ found.0 = cc in
          (found.0, found.1, and_from found.0.live (eq found.0.key q) (ap (λ (m : Link K). m.live) (sym g) ∙ live) found.2));
    }

    -- one that isn't live is passed
    pub reaches_on : IsLinked eq links → (i : ℕ) → Reaches eq links q (Some i) → (l : Link K) → slice_get links i ≡ Some l → l.live ≡ false
        → eq l.key q ≡ true → Reaches eq links q l.before
    reaches_on linked i reaches l at dead like = let own = same l.key q like in record {
      none = λ j m h to. (elim (cases_order j i) [
        | inl w ↦ (let f : Some m ≡ Some l = sym to ∙ ap (slice_get links) w ∙ at in
            let g : m ≡ l = cc in
            no_left m.live (eq m.key q) (ap (λ (n : Link K). n.live) g ∙ dead))
        | inr w ↦ elim w [
          | inl under ↦ ap (λ k. is_live_at eq k m) (sym own) ∙ linked.between i j l m at to h under
          | inr over ↦ reaches.none j m over to
        ]
      ]);
      alike = λ j b. (let one = linked.alike i j l at b in (one.0, one.1, ap (eq one.0.key) (sym own) ∙ one.2));
    }

  -- the map's answers, written otherwise
  pub chains_as : (links : List (Link K)) (f g : K → Option ℕ) → Chains eq links f → ((k : K) → g k ≡ f k) → Chains eq links g
  chains_as links f g chains e = record { last = λ k. rw (e k) (chains.last k); linked = chains.linked }
