-- A participant that was pruned is pruned again.
use Rattle.std.proofs.Common.{◌≡◌, ℕ, zero, suc, ◌-◌, ◌≤◌, List, [], ◌∷◌, ◌++◌, drop, length, take, refl, sym, ap, ◌∙◌, subst, inl, inr, arith, take-take}
use Rattle.std.proofs.lemmas.Bool.{cases_lt}
use Rattle.canton_model.specs.Inbox.{Item, Nothing, last_time}
use Rattle.pruned_inbox.specs.Base.{IsBase}
use Rattle.pruned_inbox.specs.Forgotten.{silent_front}
use Rattle.pruned_inbox.specs.Start.{GoesOn, Start}
use Rattle.pruned_inbox.proofs.Restarted.{front_again}
use Rattle.node_core.specs.Participant.{IsPrunedTo, Participant, items_of, params_of, pruned_at, reading_of}
use Rattle.node_core.proofs.Pruned.{kept_is, pruned_alike, same_last}

-- what stands before a place from the base on
take_kept : (n b t : ℕ) (whole : List Item) → n ≤ b → n ≤ length whole
    → take b (silent_front n t ++ drop n whole) ≡ silent_front n t ++ drop n (take b whole)
take_kept zero b t whole le within = refl
take_kept (suc n) zero t whole le within = absurd (omega (arith, le))
take_kept (suc n) (suc b) t [] le within = absurd (omega (arith, within))
take_kept (suc n) (suc b) t (x ∷ xs) le within =
    ap (λ (items : List Item). record { time = t - n; content = Nothing } ∷ items) (take_kept n b t xs (omega (arith, le)) (omega (arith, within)))

-- what stands from there on
pub drop_kept : (n b t : ℕ) (whole : List Item) → n ≤ b → n ≤ length whole → drop b (silent_front n t ++ drop n whole) ≡ drop b whole
drop_kept zero b t whole le within = refl
drop_kept (suc n) zero t whole le within = absurd (omega (arith, le))
drop_kept (suc n) (suc b) t [] le within = absurd (omega (arith, within))
drop_kept (suc n) (suc b) t (x ∷ xs) le within = drop_kept n b t xs (omega (arith, le)) (omega (arith, within))

long_take : (n : ℕ) (xs : List Item) → n ≤ length xs → length (take n xs) ≡ n
long_take zero xs le = refl
long_take (suc n) [] le = absurd (omega (arith, le))
long_take (suc n) (x ∷ xs) le = ap suc (long_take n xs (omega (arith, le)))

module _ (whole : List Item) (p : Participant) (is : IsPrunedTo whole p) (b : ℕ) (le : p.base ≤ b) (based : IsBase (params_of p) (items_of p) b) where
  within : b ≤ length whole
  within = let w = based.within in let long = (pruned_alike whole p is).cursor in omega (arith, w, long)

  inside : p.base ≤ length whole
  inside = (is.is_base).within

  pub whole_based : IsBase (params_of p) whole b
  whole_based =
      let alike = pruned_alike whole p is in
      record {
        within = within;
        decided = λ m lt received. elim (cases_lt m p.base) [
          | inl below ↦ alike.decided_below m b below le received
          | inr far ↦ sym (alike.decided m b far received) ∙ based.decided m lt (alike.received m far ∙ received)
        ];
      }

  same_time : last_time (take b (items_of p)) ≡ last_time (take b whole)
  same_time =
      let t = last_time (take p.base whole) in
      let front : take p.base (take b whole) ≡ take p.base whole = take-take p.base b whole le in
      ap last_time (ap (take b) (kept_is whole p is) ∙ take_kept p.base b t whole le inside)
      ∙ (ap (λ (u : ℕ). last_time (silent_front p.base u ++ drop p.base (take b whole))) (ap last_time (sym front))
      ∙ same_last p.base (take b whole) (omega (arith, le, long_take b whole within)))

  same_rest : drop b (items_of p) ≡ drop b whole
  same_rest = ap (drop b) (kept_is whole p is) ∙ drop_kept p.base b (last_time (take p.base whole)) whole le inside

  pub pruned_again : (next : Start) → GoesOn (reading_of p) (items_of p) b p.start next → IsPrunedTo whole (pruned_at b next p)
  pruned_again next on =
      record {
        orderly = is.orderly;
        is_base = whole_based;
        starts =
            front_again (reading_of p) (params_of p) p.me p.base whole is.orderly is.is_base p.start is.starts b next le
            (subst (λ (items : List Item). GoesOn (reading_of p) items b p.start next) (kept_is whole p is) on);
        time = same_time;
        kept = ap (λ (items : List Item). silent_front b (last_time (take b (items_of p))) ++ items) same_rest;
      }
