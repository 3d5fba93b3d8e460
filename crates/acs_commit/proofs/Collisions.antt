-- Two sets with one root are one, or two different strings hashed in them have one hash.
use Rattle.std.proofs.Common.{◌≡◌, ◌⊎◌, ℕ, zero, suc, ◌+◌, ◌*◌, ◌/◌, ◌%◌, ◌<◌, List, [], ◌∷◌, ◌++◌, length, nat_eq, refl, sym, ap, ◌∙◌, inl, inr, arith}
use Rattle.std.specs.List.{concat}
use Rattle.std.specs.Str.{bytes_eq}
use Rattle.std.proofs.lemmas.Bool.{cases_Bool, cases_order, both_ways}
use Rattle.std.proofs.lemmas.List.{length-append}
use Rattle.std.proofs.lemmas.Slice.Eq.{bytes_eq-Decides}
use Rattle.sha2.specs.Sha256.{sha256}
use Rattle.sha2.proofs.Facts256.{length-sha256}
use Rattle.hash_id.specs.Strings.{be32}
use Rattle.blind_tree.specs.Agreement.{Clash}
use Rattle.blind_tree.specs.TreeHashes.{Hashing}
use Rattle.blind_tree.proofs.Agreement.{parts}
use Rattle.ledger_model.proofs.Lists.{In, in_append_left, in_append_right, contains_from_In, in_from_Contains}
use Rattle.acs_commit.specs.Strings.{bucket_string, node_string}
use Rattle.acs_commit.specs.Trees.{AreIds, IsIdSet, bucket, first_byte, hash_at, root_of, strings_at, tree_strings}
use Rattle.acs_commit.proofs.Sets.{sets_meet}

concat_length : (d : List ℕ) (ds : List (List ℕ)) → length (concat (d ∷ ds)) ≡ length d + length (concat ds)
concat_length d ds = length-append d (concat ds)

concat_parts : (ds es : List (List ℕ)) → AreIds ds → AreIds es → concat ds ≡ concat es → ds ≡ es
concat_parts [] [] s t e = refl
concat_parts [] (d ∷ ds) s t e = let l = concat_length d ds in let m = ap (λ (xs : List ℕ). length xs) e in let n = (t.0).long in absurd (omega (arith, l, m, n))
concat_parts (d ∷ ds) [] s t e = let l = concat_length d ds in let m = ap (λ (xs : List ℕ). length xs) e in let n = (s.0).long in absurd (omega (arith, l, m, n))
concat_parts (d ∷ ds) (e ∷ es) s t same =
    let r = parts d e (concat ds) (concat es) ((s.0).long ∙ sym (t.0).long) same in
    let more = concat_parts ds es s.1 t.1 r.1 in
    λ i. r.0 i ∷ more i

bucket_ids : (b : ℕ) (ids : List (List ℕ)) → AreIds ids → AreIds (bucket ids b)
bucket_ids b [] h = tt
bucket_ids b (x ∷ ids) h =
    elim (cases_Bool (nat_eq (first_byte x) b)) [ inl t ↦ rw t (h.0, bucket_ids b ids h.1) | inr f ↦ rw f (bucket_ids b ids h.1) ]

-- the strings of buckets tell their ids, and those of nodes the hashes below
bucket_parts : (xs ys : List (List ℕ)) → AreIds xs → AreIds ys → bucket_string xs ≡ bucket_string ys → xs ≡ ys
bucket_parts xs ys s t e =
    let whole : 8 ∷ (be32 (length xs) ++ concat xs) ≡ 8 ∷ (be32 (length ys) ++ concat ys) = e in
    let body : be32 (length xs) ++ concat xs ≡ be32 (length ys) ++ concat ys = cc in
    concat_parts xs ys s t (parts (be32 (length xs)) (be32 (length ys)) (concat xs) (concat ys) refl body).1

node_parts : (a b c d : List ℕ) → length a ≡ 32 → length c ≡ 32 → node_string a b ≡ node_string c d → (a ≡ c) × (b ≡ d)
node_parts a b c d la lc e =
    let whole : 9 ∷ (a ++ b) ≡ 9 ∷ (c ++ d) = e in
    let body : a ++ b ≡ c ++ d = cc in
    parts a c b d (la ∙ sym lc) body

-- where the bucket of a byte stands at a height, counted from the left
abbrev up : (height b : ℕ) → ℕ
up zero b = b
up (suc height) b = up height b / 2

abbrev Same : List (List ℕ) → List (List ℕ) → (height n : ℕ) → Type 0
Same xs ys height n = (b : ℕ) → up height b ≡ n → bucket xs b ≡ bucket ys b

same_both : (xs ys : List (List ℕ)) (height n : ℕ) → Same xs ys height (2 * n) → Same xs ys height (2 * n + 1) → Same xs ys (suc height) n
same_both xs ys height n l r b e =
    elim (cases_order (up height b % 2) 0) [
      | inl even ↦ l b (omega (arith, e, even))
      | inr o ↦ elim o [
        | inl less ↦ absurd (omega (arith, less))
        | inr odd ↦ r b (omega (arith, e, odd))
      ]
    ]

module _ (sha : Hashing) (long : (s : List ℕ) → length (sha s) ≡ 32) where
  wider : (xs ys us vs : List (List ℕ)) → ((s : List ℕ) → In s xs → In s us) → ((s : List ℕ) → In s ys → In s vs) → Clash sha xs ys → Clash sha us vs
  wider xs ys us vs f g c =
      record {
        one = c.one;
        other = c.other;
        of_some = contains_from_In us c.one (f c.one (in_from_Contains xs c.one c.of_some));
        of_others = contains_from_In vs c.other (g c.other (in_from_Contains ys c.other c.of_others));
        differ = c.differ;
        meet = c.meet;
      }

  one_or_clash : (s t : List ℕ) (xs ys : List (List ℕ)) → In s xs → In t ys → sha s ≡ sha t → (s ≡ t) ⊎ Clash sha xs ys
  one_or_clash s t xs ys i j e =
      elim (cases_Bool (bytes_eq s t)) [
        | inl same ↦ inl ((bytes_eq-Decides s t).0 same)
        | inr other ↦ inr (record {
          one = s;
          other = t;
          of_some = contains_from_In xs s i;
          of_others = contains_from_In ys t j;
          differ = λ same. both_ways _ other ((bytes_eq-Decides s t).1 same);
          meet = e;
        })
      ]

  hash_long : (ids : List (List ℕ)) (height n : ℕ) → length (hash_at sha ids height n) ≡ 32
  unfolding hash_at
  hash_long ids zero n = long _
  hash_long ids (suc height) n = long _

  same_or_clash : (xs ys : List (List ℕ)) → AreIds xs → AreIds ys → (height n : ℕ) → hash_at sha xs height n ≡ hash_at sha ys height n
      → Same xs ys height n ⊎ Clash sha (strings_at sha xs height n) (strings_at sha ys height n)
  unfolding hash_at strings_at
  same_or_clash xs ys ix iy zero n e =
      elim (one_or_clash (bucket_string (bucket xs n)) (bucket_string (bucket ys n)) (strings_at sha xs zero n) (strings_at sha ys zero n) (inl refl) (inl refl) e) [
        | inr clash ↦ inr clash
        | inl same ↦
            let one = bucket_parts (bucket xs n) (bucket ys n) (bucket_ids n xs ix) (bucket_ids n ys iy) same in
            inl (λ b at. ap (bucket xs) at ∙ (one ∙ ap (bucket ys) (sym at)))
      ]
  same_or_clash xs ys ix iy (suc height) n e =
      let xl = hash_at sha xs height (2 * n) in
      let xr = hash_at sha xs height (2 * n + 1) in
      let yl = hash_at sha ys height (2 * n) in
      let yr = hash_at sha ys height (2 * n + 1) in
      let us = strings_at sha xs height (2 * n) in
      let vs = strings_at sha xs height (2 * n + 1) in
      let ws = strings_at sha ys height (2 * n) in
      let zs = strings_at sha ys height (2 * n + 1) in
      elim (one_or_clash (node_string xl xr) (node_string yl yr) (strings_at sha xs (suc height) n) (strings_at sha ys (suc height) n) (inl refl) (inl refl) e) [
        | inr clash ↦ inr clash
        | inl same ↦
            let p = node_parts xl xr yl yr (hash_long xs height (2 * n)) (hash_long ys height (2 * n)) same in
            elim (same_or_clash xs ys ix iy height (2 * n) p.0) [
              | inr clash ↦ inr (wider us ws _ _ (λ s h. inr (in_append_left us vs s h)) (λ s h. inr (in_append_left ws zs s h)) clash)
              | inl left ↦ elim (same_or_clash xs ys ix iy height (2 * n + 1) p.1) [
                | inr clash ↦ inr (wider vs zs _ _ (λ s h. inr (in_append_right us vs s h)) (λ s h. inr (in_append_right ws zs s h)) clash)
                | inl right ↦ inl (same_both xs ys height n left right)
              ]
            ]
      ]

small_up : (b height : ℕ) → height ≡ 8 → b < 256 → up 8 b ≡ 0
small_up b height e lt = omega (arith, lt)

pub one_set : (xs ys : List (List ℕ)) → IsIdSet xs → IsIdSet ys → root_of xs ≡ root_of ys → (xs ≡ ys) ⊎ Clash sha256 (tree_strings xs) (tree_strings ys)
unfolding root_of tree_strings
one_set xs ys sx sy e =
    elim (same_or_clash sha256 length-sha256 xs ys sx.ids_are sy.ids_are 8 0 e) [
      | inr clash ↦ inr clash
      | inl same ↦ inl (sets_meet xs ys sx sy (λ b lt. same b (small_up b 8 refl lt)))
    ]
