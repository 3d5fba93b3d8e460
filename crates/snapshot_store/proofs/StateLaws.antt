-- The format of states, composed of those of single fields and of messages.
use Rattle.std.proofs.Common.{◌≡◌, ℕ, zero, suc, ◌^◌, ◌<◌, ◌≤◌, List, [], ◌∷◌, ◌++◌, length, Option, Some, None, Result, Ok, refl, sym, ap, lit<, subst, ◌∙◌, append_assoc}
use Rattle.std.specs.Int.{w16, w32, w64, to_be_bytes}
use Rattle.std.specs.List.{AllByRecursion, flat_map}
use Rattle.std.proofs.lemmas.List.Elements.{recursion_from_All, All-from_recursion}
use Rattle.ledger_terms.specs.Names.{IsName}
use Rattle.ledger_terms.specs.Parties.{stands_above}
use Rattle.ledger_terms.specs.declared.active_row.ActiveRow.{ActiveRow}
use Rattle.canton_model.specs.declared.response.Response.{Response}
use Rattle.wire_form.specs.Formats.{◌>>=◌, Reading, both_at, seen_at, counted_at, any_item}
use Rattle.wire_form.specs.Fields.{byte_at, bytes_at, number_at, count_at, hash_at, name_at, truth_at}
use Rattle.wire_form.specs.Reading.{instance_at}
use Rattle.wire_form.specs.Spelling.{spell_name, spell_truth, spell_instance}
use Rattle.wire_form.specs.InRange.{IsHash, IsInstance}
use Rattle.wire_form.proofs.FormatLaws.{IsBytes, IsBytes-rest, Takes, Takes-then, Reads, bind_ok, ok_is}
use Rattle.wire_form.proofs.Compose.{both_reads, seen_reads, ranged_reads, counted_reads, under, tag_takes, Admits, any_admitted}
use Rattle.wire_form.proofs.FieldLaws.{bytes_take, bytes_again, u32_reads, u64_reads, count_reads, hash_reads, name_reads, truth_reads}
use Rattle.wire_form.proofs.PartyLaws.{rising_from_admitted, admitted_from_rising}
use Rattle.wire_form.proofs.ValueLaws.{instance_reads}
use Rattle.wire_form.proofs.RangeLaws.{spellable_instance}
use Rattle.message_bytes.specs.Spelling.{spell_participant, spell_path, spell_response, spell_verdict}
use Rattle.message_bytes.specs.Reading.{is_past, path_at, response_at, verdict_at}
use Rattle.message_bytes.specs.InRange.{IsPath, IsPlace, IsResponse, IsVerdict}
use Rattle.message_bytes.specs.Spellable.{IsSpellablePath, IsSpellableResponse}
use Rattle.message_bytes.proofs.MessageLaws.{byte_reads, path_reads, response_reads, verdict_reads, spellable_response, spellable_verdict}
use Rattle.message_bytes.proofs.Rising.{increasing_from_admitted, admitted_from_increasing}
use Rattle.interpret.specs.Ids.{contract_id}
use Rattle.snapshot_store.specs.Spelling.{spell_counted, spell_row, spell_rows, spell_id, spell_ids, spell_paths, spell_envelope, spell_what, spell_item, spell_items, spell_responses, spell_place, spell_places, spell_owner, spell_position, spell_head, spell_state}
use Rattle.snapshot_store.specs.Reading.{RowParts, row_of, row_at, rows_at, ids_at, paths_at, long_bytes_at, tagged_envelope_at, envelope_at, RequestParts, request_of, request_at, tagged_what_at, what_at}
use Rattle.snapshot_store.specs.Reading.{ItemParts, item_of, item_at, items_listed_at, responses_at, places_at, version_at, HeadParts, head_at, StateParts, state_of, state_at}
use Rattle.snapshot_store.specs.InRange.{AreCounted, IsByte, IsRow, AreIds, ArePaths, IsEnvelope, IsWhat, IsTime, IsItem, ArePlaces, IsState}
use Rattle.snapshot_store.specs.Spellable.{IsSpellableRow, AreSpellablePaths, IsSpellableEnvelope, IsSpellableWhat, IsSpellableItem, IsSpellableState}
use Rattle.node_state.specs.declared.item.Item.{Item}
use Rattle.node_state.specs.declared.item_what.ItemWhat.{ItemWhat}
use Rattle.node_state.specs.declared.item_what.ItemWhat.TheVariants.{Nothing, Request, Verdict}
use Rattle.node_state.specs.declared.node_state.NodeState.{NodeState}

abbrev made : {A B : Type 0} → (A → B) → Result (A × List ℕ) ℕ → Result (B × List ℕ) ℕ
made make r = r >>= λ x. Ok (make x.0, x.1)

-- seen through a function that another one undoes for what is in range
computed_reads : {A B : Type 0} (to : A → B) (from : B → A) → ((a : A) → from (to a) ≡ a) → (s : A → List ℕ) (F : A → Type 0) (f : Reading A) → Reads s F f
    → Reads (λ b. s (from b)) (λ b. F (from b) × (to (from b) ≡ b)) (seen_at to f)
computed_reads {A} {B} to from back s F f r = record {
  takes = λ bytes x fits e.
      let b = bind_ok (f bytes) (λ x. Ok (to x.0, x.1)) x e in
      let p = r.takes bytes b.0 fits b.1 in
      let mine : Takes bytes (s (from (to b.0.0))) b.0.1 × (F (from (to b.0.0)) × (to (from (to b.0.0)) ≡ to b.0.0)) =
      subst (λ (a : A). Takes bytes (s a) b.0.1 × (F a × (to a ≡ to b.0.0))) (sym (back b.0.0)) (p.0, (p.1, refl)) in
      subst (λ (y : B × List ℕ). Takes bytes (s (from y.0)) y.1 × (F (from y.0) × (to (from y.0) ≡ y.0))) (ok_is (to b.0.0, b.0.1) x b.2) mine;
  again = λ b rest h. ap (made to) (r.again (from b) rest h.0) ∙ ap (λ (v : B). Ok (v, rest)) h.1;
}

-- four bytes of count and the items
listed_reads : {A : Type 0} (s : A → List ℕ) (Is : A → Type 0) (item : Reading A) → Reads s Is item → Reads (spell_counted s) (AreCounted Is) (counted_at (number_at w32) any_item item)
listed_reads {A} s Is item r =
    ranged_reads (spell_counted s) (λ (xs : List A). (length xs < 2 ^ 32) × AllByRecursion Is xs × Admits any_item [] xs) (AreCounted Is) (counted_at (number_at w32) any_item item)
    (λ xs h. record { few = h.0; each = All-from_recursion Is xs h.1 })
    (λ xs h. (h.few, recursion_from_All Is xs h.each, any_admitted [] xs))
    (counted_reads (λ k. to_be_bytes w32 k) (λ k. k < 2 ^ 32) (number_at w32) s Is item any_item u32_reads r)

-- ---- contracts

abbrev parts_of_row : ActiveRow → RowParts
parts_of_row row = ((row.created_at, row.known.salt), row.known.instance)

abbrev spell_row_parts : RowParts → List ℕ
spell_row_parts p = to_be_bytes w64 p.0.0 ++ p.0.1 ++ spell_instance p.1

abbrev FitRow : RowParts → Type 0
FitRow p = ((p.0.0 < 2 ^ 64) × IsHash p.0.1) × IsInstance p.1

row_is : (row : ActiveRow) → row.known.id ≡ contract_id row.known.salt row.known.instance → row_of (parts_of_row row) ≡ row
row_is row h =
    let with_id : List ℕ → ActiveRow = λ id. record { created_at = row.created_at; known = record { id = id; salt = row.known.salt; instance = row.known.instance } } in
    ap with_id (sym h)

row_reads : Reads spell_row IsRow row_at
unfolding row_at
row_reads =
    let first = both_reads (λ n. to_be_bytes w64 n) (λ n. n < 2 ^ 64) (number_at w64) (λ h. h) IsHash hash_at u64_reads hash_reads in
    let parts = both_reads (λ (p : ℕ × List ℕ). to_be_bytes w64 p.0 ++ p.1) (λ p. (p.0 < 2 ^ 64) × IsHash p.1) (both_at (number_at w64) hash_at) spell_instance IsInstance instance_at first instance_reads in
    ranged_reads spell_row (λ row. FitRow (parts_of_row row) × (row_of (parts_of_row row) ≡ row)) IsRow row_at
    (λ row h. record { place = h.0.0.0; salt = h.0.0.1; instance = h.0.1; id = ap (λ (r : ActiveRow). r.known.id) (sym h.1) })
    (λ row h. (((h.place, h.salt), h.instance), row_is row h.id))
    (computed_reads row_of parts_of_row (λ p. refl) spell_row_parts FitRow (both_at (both_at (number_at w64) hash_at) instance_at) parts)

rows_reads : Reads spell_rows (AreCounted IsRow) rows_at
unfolding spell_rows rows_at
rows_reads = listed_reads spell_row IsRow row_at row_reads

-- ---- ids

abbrev AdmittedIds : List (List ℕ) → Type 0
AdmittedIds ids = (length ids < 2 ^ 32) × AllByRecursion IsHash ids × Admits stands_above [] ids

ids_reads : Reads spell_ids AreIds ids_at
unfolding spell_ids ids_at
ids_reads =
    ranged_reads (spell_counted spell_id) AdmittedIds AreIds ids_at
    (λ ids h. record { counted = record { few = h.0; each = All-from_recursion IsHash ids h.1 }; ascend = rising_from_admitted ids [] tt h.2 })
    (λ ids h. ((h.counted).few, recursion_from_All IsHash ids (h.counted).each, admitted_from_rising ids [] h.ascend))
    (counted_reads (λ k. to_be_bytes w32 k) (λ k. k < 2 ^ 32) (number_at w32) spell_id IsHash hash_at stands_above u32_reads hash_reads)

-- ---- items

abbrev AdmittedPaths : List (List ℕ) → Type 0
AdmittedPaths paths = (length paths ≤ 65535) × AllByRecursion IsPath paths × Admits any_item [] paths

paths_reads : Reads spell_paths ArePaths paths_at
unfolding spell_paths paths_at
paths_reads =
    ranged_reads (λ (paths : List (List ℕ)). to_be_bytes w16 (length paths) ++ flat_map spell_path paths) AdmittedPaths ArePaths paths_at
    (λ paths h. record { few = h.0; each = All-from_recursion IsPath paths h.1 })
    (λ paths h. (h.few, recursion_from_All IsPath paths h.each, any_admitted [] paths))
    (counted_reads (λ k. to_be_bytes w16 k) (λ k. k ≤ 65535) (count_at 65535) spell_path IsPath path_at any_item (count_reads 65535 (lit< tt)) path_reads)

abbrev spell_bytes : List ℕ → List ℕ
spell_bytes bytes = to_be_bytes w32 (length bytes) ++ bytes

abbrev AreShort : List ℕ → Type 0
AreShort bytes = length bytes < 2 ^ 32

long_bytes_reads : Reads spell_bytes AreShort long_bytes_at
unfolding long_bytes_at
long_bytes_reads = record {
  takes = λ bytes x fits e.
      let b = bind_ok (number_at w32 bytes) (λ len. bytes_at len.0 len.1) x e in
      let t = u32_reads.takes bytes b.0 fits b.1 in
      let u = bytes_take b.0.0 b.0.1 x t.0.rest_fits b.2 in
      let both = Takes-then bytes (to_be_bytes w32 b.0.0) b.0.1 x.0 x.1 t.0 u.0 in
      (subst (λ (k : ℕ). Takes bytes (to_be_bytes w32 k ++ x.0) x.1) (sym u.1) both, subst (λ (k : ℕ). k < 2 ^ 32) (sym u.1) t.1);
  again = λ b rest h.
      let first = u32_reads.again (length b) (b ++ rest) h in
      ap long_bytes_at (append_assoc (to_be_bytes w32 (length b)) b rest) ∙ rw (first, bytes_again (length b) b rest refl) refl;
}

abbrev IsEnvelopeRead : List ℕ → Option (List ℕ) → List ℕ → Type 0
IsEnvelopeRead bytes envelope rest = Takes bytes (spell_envelope envelope) rest × IsEnvelope envelope

envelope_takes : (bytes : List ℕ) (x : Option (List ℕ) × List ℕ) → IsBytes bytes → envelope_at bytes ≡ Ok x → IsEnvelopeRead bytes x.0 x.1
unfolding envelope_at tagged_envelope_at spell_envelope
envelope_takes [] x fits e = absurd cc
envelope_takes (zero ∷ rest) x fits e =
    subst (λ (y : Option (List ℕ) × List ℕ). IsEnvelopeRead (0 ∷ rest) y.0 y.1) (ok_is (None, rest) x e) (record { parts = refl; rest_fits = IsBytes-rest 0 rest fits }, tt)
envelope_takes (suc zero ∷ rest) x fits e =
    let u = under Some spell_bytes AreShort long_bytes_at long_bytes_reads rest x (IsBytes-rest 1 rest fits) e in
    subst (λ (o : Option (List ℕ)). IsEnvelopeRead (1 ∷ rest) o x.1) u.1 (tag_takes 1 rest _ x.1 u.2, u.3)
envelope_takes (suc (suc n) ∷ rest) x fits e = absurd cc

envelope_again : (o : Option (List ℕ)) (rest : List ℕ) → IsEnvelope o → envelope_at (spell_envelope o ++ rest) ≡ Ok (o, rest)
unfolding envelope_at tagged_envelope_at spell_envelope
envelope_again None rest h = refl
envelope_again (Some bytes) rest h = ap (made Some) (long_bytes_reads.again bytes rest h)

envelope_reads : Reads spell_envelope IsEnvelope envelope_at
envelope_reads = record { takes = envelope_takes; again = envelope_again }

abbrev spell_named : ℕ × List ℕ → List ℕ
spell_named p = spell_participant p.0 ++ spell_name p.1

abbrev FitNamed : ℕ × List ℕ → Type 0
FitNamed p = IsByte p.0 × IsName p.1

abbrev named_at : Reading (ℕ × List ℕ)
named_at = both_at byte_at name_at

abbrev spell_rooted : (ℕ × List ℕ) × List ℕ → List ℕ
spell_rooted p = spell_named p.0 ++ p.1

abbrev FitRooted : (ℕ × List ℕ) × List ℕ → Type 0
FitRooted p = FitNamed p.0 × IsHash p.1

abbrev rooted_at : Reading ((ℕ × List ℕ) × List ℕ)
rooted_at = both_at named_at hash_at

abbrev SeenParts : Type 0
SeenParts = ((ℕ × List ℕ) × List ℕ) × List (List ℕ)

abbrev spell_seen : SeenParts → List ℕ
spell_seen p = spell_rooted p.0 ++ spell_paths p.1

abbrev FitSeen : SeenParts → Type 0
FitSeen p = FitRooted p.0 × ArePaths p.1

abbrev seen_paths_at : Reading SeenParts
seen_paths_at = both_at rooted_at paths_at

abbrev spell_confirmed : SeenParts × List (List ℕ) → List ℕ
spell_confirmed p = spell_seen p.0 ++ spell_paths p.1

abbrev FitConfirmed : SeenParts × List (List ℕ) → Type 0
FitConfirmed p = FitSeen p.0 × ArePaths p.1

abbrev confirmed_at : Reading (SeenParts × List (List ℕ))
confirmed_at = both_at seen_paths_at paths_at

abbrev spell_request : RequestParts → List ℕ
spell_request p = spell_confirmed p.0 ++ spell_envelope p.1

abbrev FitRequest : RequestParts → Type 0
FitRequest p = FitConfirmed p.0 × IsEnvelope p.1

request_reads : Reads spell_request FitRequest (both_at confirmed_at envelope_at)
request_reads =
    let named = both_reads spell_participant IsByte byte_at spell_name IsName name_at byte_reads name_reads in
    let rooted = both_reads spell_named FitNamed named_at (λ h. h) IsHash hash_at named hash_reads in
    let seen = both_reads spell_rooted FitRooted rooted_at spell_paths ArePaths paths_at rooted paths_reads in
    let confirmed = both_reads spell_seen FitSeen seen_paths_at spell_paths ArePaths paths_at seen paths_reads in
    both_reads spell_confirmed FitConfirmed confirmed_at spell_envelope IsEnvelope envelope_at confirmed envelope_reads

abbrev IsWhatRead : List ℕ → ItemWhat → List ℕ → Type 0
IsWhatRead bytes what rest = Takes bytes (spell_what what) rest × IsWhat what

what_takes : (bytes : List ℕ) (x : ItemWhat × List ℕ) → IsBytes bytes → what_at bytes ≡ Ok x → IsWhatRead bytes x.0 x.1
unfolding what_at tagged_what_at request_at spell_what
what_takes [] x fits e = absurd cc
what_takes (zero ∷ rest) x fits e =
    subst (λ (y : ItemWhat × List ℕ). IsWhatRead (0 ∷ rest) y.0 y.1) (ok_is (Nothing, rest) x e) (record { parts = refl; rest_fits = IsBytes-rest 0 rest fits }, tt)
what_takes (suc zero ∷ rest) x fits e =
    let u = under request_of spell_request FitRequest (both_at confirmed_at envelope_at) request_reads rest x (IsBytes-rest 1 rest fits) e in
    let h = u.3 in
    subst (λ (w : ItemWhat). IsWhatRead (1 ∷ rest) w x.1) u.1 (tag_takes 1 rest _ x.1 u.2, (h.0.0.0.0.0, h.0.0.0.0.1, h.0.0.0.1, h.0.0.1, h.0.1, h.1))
what_takes (suc (suc zero) ∷ rest) x fits e =
    let u = under Verdict spell_verdict (IsVerdict 255) (verdict_at 255) (verdict_reads 255) rest x (IsBytes-rest 2 rest fits) e in
    subst (λ (w : ItemWhat). IsWhatRead (2 ∷ rest) w x.1) u.1 (tag_takes 2 rest _ x.1 u.2, u.3)
what_takes (suc (suc (suc n)) ∷ rest) x fits e = absurd cc

what_again : (what : ItemWhat) (rest : List ℕ) → IsWhat what → what_at (spell_what what ++ rest) ≡ Ok (what, rest)
unfolding what_at tagged_what_at request_at spell_what
what_again Nothing rest h = refl
what_again (Request sender command root seen confirmed envelope) rest h =
    ap (made request_of) (request_reads.again (((((sender, command), root), seen), confirmed), envelope) rest (((((h.0, h.1), h.2), h.3), h.4), h.5))
what_again (Verdict verdict) rest h = ap (made Verdict) ((verdict_reads 255).again verdict rest h)

what_reads : Reads spell_what IsWhat what_at
what_reads = record { takes = what_takes; again = what_again }

abbrev parts_of_item : Item → ItemParts
parts_of_item item = (item.time, item.what)

abbrev FitItem : ItemParts → Type 0
FitItem p = (p.0 < 2 ^ 64) × IsWhat p.1

item_reads : Reads spell_item IsItem item_at
unfolding item_at
item_reads =
    let parts = both_reads (λ n. to_be_bytes w64 n) (λ n. n < 2 ^ 64) (number_at w64) spell_what IsWhat what_at u64_reads what_reads in
    ranged_reads spell_item (λ item. FitItem (parts_of_item item)) IsItem item_at
    (λ item h. record { time = h.0; what = h.1 }) (λ item h. (h.time, h.what))
    (seen_reads item_of parts_of_item (λ p. refl) (λ item. refl) (λ (p : ItemParts). to_be_bytes w64 p.0 ++ spell_what p.1) FitItem (both_at (number_at w64) what_at) parts)

items_reads : Reads spell_items (AreCounted IsItem) items_listed_at
unfolding spell_items items_listed_at
items_reads = listed_reads spell_item IsItem item_at item_reads

-- ---- responses and places

responses_reads : Reads spell_responses (AreCounted (IsResponse 255)) responses_at
unfolding spell_responses responses_at
responses_reads = listed_reads spell_response (IsResponse 255) (response_at 255) (response_reads 255)

abbrev AdmittedPlaces : List ℕ → Type 0
AdmittedPlaces places = (length places < 2 ^ 32) × AllByRecursion IsPlace places × Admits is_past [] places

places_reads : Reads spell_places ArePlaces places_at
unfolding spell_places places_at
places_reads =
    ranged_reads (spell_counted spell_place) AdmittedPlaces ArePlaces places_at
    (λ places h. record { counted = record { few = h.0; each = All-from_recursion IsPlace places h.1 }; ascend = increasing_from_admitted places h.2 })
    (λ places h. ((h.counted).few, recursion_from_All IsPlace places (h.counted).each, admitted_from_increasing places h.ascend))
    (counted_reads (λ k. to_be_bytes w32 k) (λ k. k < 2 ^ 32) (number_at w32) spell_place IsPlace (number_at w64) is_past u32_reads u64_reads)

-- ---- the first fields

abbrev spell_version : Unit {0} → List ℕ
spell_version u = 1 ∷ []

version_takes : (bytes : List ℕ) (x : Unit {0} × List ℕ) → IsBytes bytes → version_at bytes ≡ Ok x → Takes bytes (1 ∷ []) x.1 × Unit {0}
unfolding version_at
version_takes [] x fits e = absurd cc
version_takes (zero ∷ rest) x fits e = absurd cc
version_takes (suc zero ∷ rest) x fits e =
    subst (λ (y : Unit {0} × List ℕ). Takes (1 ∷ rest) (1 ∷ []) y.1 × Unit {0}) (ok_is (tt, rest) x e) (record { parts = refl; rest_fits = IsBytes-rest 1 rest fits }, tt)
version_takes (suc (suc n) ∷ rest) x fits e = absurd cc

version_again : (u : Unit {0}) (rest : List ℕ) → Unit {0} → version_at (spell_version u ++ rest) ≡ Ok (u, rest)
unfolding version_at
version_again u rest h = refl

version_reads : Reads spell_version (λ _. Unit {0}) version_at
version_reads = record { takes = version_takes; again = version_again }

abbrev VersionParts : Type 0
VersionParts = Unit {0} × ℕ

abbrev spell_me : VersionParts → List ℕ
spell_me p = spell_version p.0 ++ p.1 ∷ []

abbrev FitMe : VersionParts → Type 0
FitMe p = Unit {0} × IsByte p.1

abbrev me_at : Reading VersionParts
me_at = both_at version_at byte_at

abbrev spell_base : VersionParts × ℕ → List ℕ
spell_base p = spell_me p.0 ++ to_be_bytes w64 p.1

abbrev FitBase : VersionParts × ℕ → Type 0
FitBase p = FitMe p.0 × IsPlace p.1

abbrev base_at : Reading (VersionParts × ℕ)
base_at = both_at me_at (number_at w64)

abbrev spell_base_time : (VersionParts × ℕ) × ℕ → List ℕ
spell_base_time p = spell_base p.0 ++ to_be_bytes w64 p.1

abbrev FitBaseTime : (VersionParts × ℕ) × ℕ → Type 0
FitBaseTime p = FitBase p.0 × IsTime p.1

abbrev base_time_at : Reading ((VersionParts × ℕ) × ℕ)
base_time_at = both_at base_at (number_at w64)

abbrev spell_head_parts : HeadParts → List ℕ
spell_head_parts p = spell_base_time p.0 ++ spell_truth p.1

abbrev FitHead : HeadParts → Type 0
FitHead p = FitBaseTime p.0 × Unit {0}

head_reads : Reads spell_head_parts FitHead head_at
unfolding head_at
head_reads =
    let me = both_reads spell_version (λ _. Unit {0}) version_at (λ b. b ∷ []) IsByte byte_at version_reads byte_reads in
    let base = both_reads spell_me FitMe me_at (λ n. to_be_bytes w64 n) IsPlace (number_at w64) me u64_reads in
    let time = both_reads spell_base FitBase base_at (λ n. to_be_bytes w64 n) IsPlace (number_at w64) base u64_reads in
    both_reads spell_base_time FitBaseTime base_time_at spell_truth (λ _. Unit {0}) truth_at time truth_reads

-- ---- states

abbrev parts_of_head : NodeState → HeadParts
parts_of_head state = ((((tt, state.me), state.base), state.base_time), state.paused)

abbrev parts_of_state : NodeState → StateParts
parts_of_state state = (((((parts_of_head state, state.active), state.gone), state.items), state.outbox), state.done)

abbrev ActiveParts : Type 0
ActiveParts = HeadParts × List ActiveRow

abbrev spell_active : ActiveParts → List ℕ
spell_active p = spell_head_parts p.0 ++ spell_rows p.1

abbrev FitActive : ActiveParts → Type 0
FitActive p = FitHead p.0 × AreCounted IsRow p.1

abbrev active_at : Reading ActiveParts
active_at = both_at head_at rows_at

abbrev GoneParts : Type 0
GoneParts = ActiveParts × List (List ℕ)

abbrev spell_gone : GoneParts → List ℕ
spell_gone p = spell_active p.0 ++ spell_ids p.1

abbrev FitGone : GoneParts → Type 0
FitGone p = FitActive p.0 × AreIds p.1

abbrev gone_at : Reading GoneParts
gone_at = both_at active_at ids_at

abbrev InboxParts : Type 0
InboxParts = GoneParts × List Item

abbrev spell_inbox : InboxParts → List ℕ
spell_inbox p = spell_gone p.0 ++ spell_items p.1

abbrev FitInbox : InboxParts → Type 0
FitInbox p = FitGone p.0 × AreCounted IsItem p.1

abbrev inbox_at : Reading InboxParts
inbox_at = both_at gone_at items_listed_at

abbrev OutboxParts : Type 0
OutboxParts = InboxParts × List Response

abbrev spell_outbox : OutboxParts → List ℕ
spell_outbox p = spell_inbox p.0 ++ spell_responses p.1

abbrev FitOutbox : OutboxParts → Type 0
FitOutbox p = FitInbox p.0 × AreCounted (IsResponse 255) p.1

abbrev outbox_at : Reading OutboxParts
outbox_at = both_at inbox_at responses_at

abbrev spell_parts : StateParts → List ℕ
spell_parts p = spell_outbox p.0 ++ spell_places p.1

abbrev FitState : StateParts → Type 0
FitState p = FitOutbox p.0 × ArePlaces p.1

parts_read : Reads spell_parts FitState (both_at outbox_at places_at)
parts_read =
    let active = both_reads spell_head_parts FitHead head_at spell_rows (AreCounted IsRow) rows_at head_reads rows_reads in
    let gone = both_reads spell_active FitActive active_at spell_ids AreIds ids_at active ids_reads in
    let inbox = both_reads spell_gone FitGone gone_at spell_items (AreCounted IsItem) items_listed_at gone items_reads in
    let outbox = both_reads spell_inbox FitInbox inbox_at spell_responses (AreCounted (IsResponse 255)) responses_at inbox responses_reads in
    both_reads spell_outbox FitOutbox outbox_at spell_places ArePlaces places_at outbox places_reads

to_state : (state : NodeState) → FitState (parts_of_state state) → IsState state
to_state state h =
    let head = h.0.0.0.0.0.0 in
    record {
      me = head.0.0.1;
      base = head.0.1;
      base_time = head.1;
      active = h.0.0.0.0.1;
      gone = h.0.0.0.1;
      items = h.0.0.1;
      outbox = h.0.1;
      done = h.1;
    }

from_state : (state : NodeState) → IsState state → FitState (parts_of_state state)
from_state state h = (((((((((tt, h.me), h.base), h.base_time), tt), h.active), h.gone), h.items), h.outbox), h.done)

pub state_reads : Reads spell_state IsState state_at
unfolding spell_state spell_head spell_owner spell_position state_at
state_reads =
    ranged_reads spell_state (λ state. FitState (parts_of_state state)) IsState state_at to_state from_state
    (seen_reads state_of parts_of_state (λ p. refl) (λ state. refl) spell_parts FitState (both_at outbox_at places_at) parts_read)

-- ---- what is in range has room in a spelling

each_so : {A : Type 0} (Is Also : A → Type 0) → ((x : A) → Is x → Also x) → (xs : List A) → AllByRecursion Is xs → AllByRecursion Also xs
each_so Is Also f [] h = tt
each_so Is Also f (x ∷ xs) h = (f x h.0, each_so Is Also f xs h.1)

counted_so : {A : Type 0} (Is Also : A → Type 0) → ((x : A) → Is x → Also x) → (xs : List A) → AreCounted Is xs → AreCounted Also xs
counted_so Is Also f xs h = record { few = h.few; each = All-from_recursion Also xs (each_so Is Also f xs (recursion_from_All Is xs h.each)) }

spellable_row : (row : ActiveRow) → IsRow row → IsSpellableRow row
spellable_row row h = record { instance = spellable_instance row.known.instance h.instance; id = h.id }

spellable_paths : (paths : List (List ℕ)) → ArePaths paths → AreSpellablePaths paths
spellable_paths paths h =
    record { few = h.few; each = All-from_recursion IsSpellablePath paths (each_so IsPath IsSpellablePath (λ path p. p.few) paths (recursion_from_All IsPath paths h.each)) }

spellable_envelope : (o : Option (List ℕ)) → IsEnvelope o → IsSpellableEnvelope o
spellable_envelope None h = tt
spellable_envelope (Some bytes) h = h

spellable_what : (what : ItemWhat) → IsWhat what → IsSpellableWhat what
spellable_what Nothing h = tt
spellable_what (Request sender command root seen confirmed envelope) h =
    (spellable_paths seen h.3, spellable_paths confirmed h.4, spellable_envelope envelope h.5)
spellable_what (Verdict verdict) h = spellable_verdict 255 verdict h

pub spellable_state : (state : NodeState) → IsState state → IsSpellableState state
spellable_state state h =
    record {
      active = counted_so IsRow IsSpellableRow spellable_row state.active h.active;
      gone = record { few = ((h.gone).counted).few; ascend = (h.gone).ascend };
      items = counted_so IsItem IsSpellableItem (λ item i. spellable_what item.what i.what) state.items h.items;
      outbox = counted_so (IsResponse 255) IsSpellableResponse (spellable_response 255) state.outbox h.outbox;
      done = record { few = ((h.done).counted).few; ascend = (h.done).ascend };
    }
