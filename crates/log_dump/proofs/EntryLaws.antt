-- The formats of entries and logs, composed of those of single fields and messages.
use Rattle.std.proofs.Common.{◌≡◌, ℕ, zero, suc, ◌^◌, ◌<◌, ◌≤◌, List, [], ◌∷◌, ◌++◌, length, Result, Ok, refl, ap, subst, ◌∙◌, append_assoc, arith}
use Rattle.std.specs.Prelude.{All}
use Rattle.std.specs.Int.{w32, w64, to_be_bytes}
use Rattle.std.specs.List.{AllByRecursion}
use Rattle.std.proofs.lemmas.List.Elements.{recursion_from_All, All-from_recursion}
use Rattle.ledger_terms.specs.Names.{IsName}
use Rattle.canton_model.specs.declared.envelope.Envelope.{Envelope}
use Rattle.canton_model.specs.declared.request.Request.{Request}
use Rattle.canton_model.specs.declared.message.Message.{Message}
use Rattle.canton_model.specs.declared.message.Message.TheVariants.{Request as RequestMessage, Response as ResponseMessage, Verdict as VerdictMessage, Tick}
use Rattle.canton_model.specs.declared.entry.Entry.{Entry}
use Rattle.wire_form.specs.Formats.{◌>>=◌, Reading, both_at, any_item}
use Rattle.wire_form.specs.Fields.{bytes_at, number_at, small_count_at, name_at}
use Rattle.wire_form.specs.Spelling.{spell_name}
use Rattle.wire_form.proofs.FormatLaws.{IsBytes, IsBytes-rest, Takes, Takes-then, Reads, bind_ok, ok_is}
use Rattle.wire_form.proofs.Compose.{both_reads, seen_reads, ranged_reads, counted_reads, under, tag_takes, Admits, any_admitted}
use Rattle.wire_form.proofs.FieldLaws.{bytes_take, bytes_again, u32_reads, u64_reads, small_count_reads, name_reads}
use Rattle.message_bytes.specs.Reading.{response_at, verdict_at}
use Rattle.message_bytes.specs.Spelling.{spell_participant, spell_participants, spell_response, spell_verdict}
use Rattle.message_bytes.specs.InRange.{IsParticipant, IsResponse, IsVerdict}
use Rattle.message_bytes.proofs.MessageLaws.{response_reads, verdict_reads, spellable_response, spellable_verdict}
use Rattle.log_dump.specs.Spelling.{spell_block, spell_envelope, spell_envelopes, spell_request, spell_message, spell_entry, spell_log}
use Rattle.log_dump.specs.Reading.{block_at, EnvelopeParts, envelope_of, envelope_at, participants_at, envelopes_at, RequestParts, request_of, request_at}
use Rattle.log_dump.specs.Reading.{tagged_message_at, message_at, EntryParts, entry_of, entry_at, log_at}
use Rattle.log_dump.specs.InRange.{IsBlock, IsEnvelope, AreParticipants, AreEnvelopes, IsRequest, IsMessage, IsEntry, IsLog}
use Rattle.log_dump.specs.Spellable.{IsSpellableEnvelope, IsSpellableMessage, IsSpellableEntry, IsSpellableLog}

abbrev made : {A B : Type 0} → (A → B) → Result (A × List ℕ) ℕ → Result (B × List ℕ) ℕ
made make r = r >>= λ x. Ok (make x.0, x.1)

-- ---- blocks

pub all_from_bytes : (xs : List ℕ) → IsBytes xs → All (λ b. b < 256) xs
all_from_bytes [] h k d lt = absurd (omega (arith, lt))
all_from_bytes (x ∷ xs) h zero d lt = h 0
all_from_bytes (x ∷ xs) h (suc k) d lt = all_from_bytes xs (λ i. h (suc i)) k d (omega (arith, lt))

pub block_reads : Reads spell_block IsBlock block_at
unfolding block_at
block_reads = record {
  takes = λ bytes x fits e.
      let b = bind_ok (number_at w32 bytes) (λ n. bytes_at n.0 n.1) x e in
      let t = u32_reads.takes bytes b.0 fits b.1 in
      let u = bytes_take b.0.0 b.0.1 x t.0.rest_fits b.2 in
      let long : length x.0 ≡ b.0.0 = u.1 in
      let both : Takes bytes (to_be_bytes w32 b.0.0 ++ x.0) x.1 = Takes-then bytes (to_be_bytes w32 b.0.0) b.0.1 x.0 x.1 t.0 u.0 in
      (rw long both, record { few = rw long t.1; each = all_from_bytes x.0 u.2 });
  again = λ block rest h.
      ap block_at (append_assoc (to_be_bytes w32 (length block)) block rest)
      ∙ ap (λ (q : Result (ℕ × List ℕ) ℕ). q >>= λ n. bytes_at n.0 n.1) (u32_reads.again (length block) (block ++ rest) h.few)
      ∙ bytes_again (length block) block rest refl;
}

-- ---- envelopes

abbrev parts_of_envelope : Envelope → EnvelopeParts
parts_of_envelope e = (e.to, e.bytes)

abbrev FitEnvelope : (most : ℕ) → EnvelopeParts → Type 0
FitEnvelope most p = IsParticipant most p.0 × IsBlock p.1

envelope_reads : (most : ℕ) → Reads spell_envelope (IsEnvelope most) (envelope_at most)
unfolding envelope_at
envelope_reads most =
    let parts = both_reads (λ b. b ∷ []) (IsParticipant most) (small_count_at most) spell_block IsBlock block_at (small_count_reads most) block_reads in
    ranged_reads spell_envelope (λ e. FitEnvelope most (parts_of_envelope e)) (IsEnvelope most) (envelope_at most)
    (λ e h. record { to_is = h.0; bytes_are = h.1 }) (λ e h. (h.to_is, h.bytes_are))
    (seen_reads envelope_of parts_of_envelope (λ p. refl) (λ e. refl) (λ (p : EnvelopeParts). (p.0 ∷ []) ++ spell_block p.1) (FitEnvelope most) (both_at (small_count_at most) block_at) parts)

abbrev FitEnvelopes : (most : ℕ) → List Envelope → Type 0
FitEnvelopes most es = (length es ≤ 255) × AllByRecursion (IsEnvelope most) es × Admits any_item [] es

envelopes_reads : (most : ℕ) → Reads spell_envelopes (AreEnvelopes most) (envelopes_at most)
unfolding envelopes_at
envelopes_reads most =
    ranged_reads spell_envelopes (FitEnvelopes most) (AreEnvelopes most) (envelopes_at most)
    (λ es h. record { few = h.0; each = All-from_recursion (IsEnvelope most) es h.1 })
    (λ es h. (h.few, recursion_from_All (IsEnvelope most) es h.each, any_admitted [] es))
    (counted_reads (λ k. k ∷ []) (λ k. k ≤ 255) (small_count_at 255) spell_envelope (IsEnvelope most) (envelope_at most) any_item (small_count_reads 255) (envelope_reads most))

-- ---- participants

abbrev FitParticipants : (most : ℕ) → List ℕ → Type 0
FitParticipants most ps = (length ps ≤ 255) × AllByRecursion (IsParticipant most) ps × Admits any_item [] ps

participants_reads : (most : ℕ) → Reads spell_participants (AreParticipants most) (participants_at most)
unfolding participants_at
participants_reads most =
    ranged_reads spell_participants (FitParticipants most) (AreParticipants most) (participants_at most)
    (λ ps h. record { few = h.0; each = All-from_recursion (IsParticipant most) ps h.1 })
    (λ ps h. (h.few, recursion_from_All (IsParticipant most) ps h.each, any_admitted [] ps))
    (counted_reads (λ k. k ∷ []) (λ k. k ≤ 255) (small_count_at 255) spell_participant (IsParticipant most) (small_count_at most) any_item (small_count_reads 255) (small_count_reads most))

-- ---- requests

abbrev parts_of_request : Request → RequestParts
parts_of_request q = ((((q.sender, q.command), q.confirming), q.mediator), q.envelopes)

abbrev Named : Type 0
Named = ℕ × List ℕ

abbrev spell_named : Named → List ℕ
spell_named p = (p.0 ∷ []) ++ spell_name p.1

abbrev FitNamed : (most : ℕ) → Named → Type 0
FitNamed most p = IsParticipant most p.0 × IsName p.1

abbrev spell_asking : Named × List ℕ → List ℕ
spell_asking p = spell_named p.0 ++ spell_participants p.1

abbrev FitAsking : (most : ℕ) → Named × List ℕ → Type 0
FitAsking most p = FitNamed most p.0 × AreParticipants most p.1

abbrev Told : Type 0
Told = (Named × List ℕ) × List ℕ

abbrev spell_told : Told → List ℕ
spell_told p = spell_asking p.0 ++ spell_block p.1

abbrev FitTold : (most : ℕ) → Told → Type 0
FitTold most p = FitAsking most p.0 × IsBlock p.1

abbrev spell_parts : RequestParts → List ℕ
spell_parts p = spell_told p.0 ++ spell_envelopes p.1

abbrev FitRequest : (most : ℕ) → RequestParts → Type 0
FitRequest most p = FitTold most p.0 × AreEnvelopes most p.1

abbrev named_at : (most : ℕ) → Reading Named
named_at most = both_at (small_count_at most) name_at

abbrev asking_at : (most : ℕ) → Reading (Named × List ℕ)
asking_at most = both_at (named_at most) (participants_at most)

abbrev told_at : (most : ℕ) → Reading Told
told_at most = both_at (asking_at most) block_at

request_reads : (most : ℕ) → Reads spell_request (IsRequest most) (request_at most)
unfolding request_at
request_reads most =
    let named = both_reads (λ b. b ∷ []) (IsParticipant most) (small_count_at most) spell_name IsName name_at (small_count_reads most) name_reads in
    let asking = both_reads spell_named (FitNamed most) (named_at most) spell_participants (AreParticipants most) (participants_at most) named (participants_reads most) in
    let told = both_reads spell_asking (FitAsking most) (asking_at most) spell_block IsBlock block_at asking block_reads in
    let parts = both_reads spell_told (FitTold most) (told_at most) spell_envelopes (AreEnvelopes most) (envelopes_at most) told (envelopes_reads most) in
    ranged_reads spell_request (λ q. FitRequest most (parts_of_request q)) (IsRequest most) (request_at most)
    (λ q h. record { sender_is = h.0.0.0.0; command_is = h.0.0.0.1; confirming_are = h.0.0.1; mediator_is = h.0.1; envelopes_are = h.1 })
    (λ q h. ((((h.sender_is, h.command_is), h.confirming_are), h.mediator_is), h.envelopes_are))
    (seen_reads request_of parts_of_request (λ p. refl) (λ q. refl) spell_parts (FitRequest most) (both_at (told_at most) (envelopes_at most)) parts)

-- ---- messages

abbrev IsMessageRead : (most : ℕ) → List ℕ → Message → List ℕ → Type 0
IsMessageRead most bytes m rest = Takes bytes (spell_message m) rest × IsMessage most m

message_takes : (most : ℕ) (bytes : List ℕ) (x : Message × List ℕ) → IsBytes bytes → message_at most bytes ≡ Ok x → IsMessageRead most bytes x.0 x.1
unfolding message_at tagged_message_at
message_takes most [] x fits e = absurd cc
message_takes most (zero ∷ rest) x fits e =
    subst (λ (y : Message × List ℕ). IsMessageRead most (0 ∷ rest) y.0 y.1) (ok_is (Tick, rest) x e) (record { parts = refl; rest_fits = IsBytes-rest 0 rest fits }, tt)
message_takes most (suc zero ∷ rest) x fits e =
    let u = under RequestMessage spell_request (IsRequest most) (request_at most) (request_reads most) rest x (IsBytes-rest 1 rest fits) e in
    subst (λ (m : Message). IsMessageRead most (1 ∷ rest) m x.1) u.1 (tag_takes 1 rest _ x.1 u.2, u.3)
message_takes most (suc (suc zero) ∷ rest) x fits e =
    let u = under ResponseMessage spell_response (IsResponse most) (response_at most) (response_reads most) rest x (IsBytes-rest 2 rest fits) e in
    subst (λ (m : Message). IsMessageRead most (2 ∷ rest) m x.1) u.1 (tag_takes 2 rest _ x.1 u.2, u.3)
message_takes most (suc (suc (suc zero)) ∷ rest) x fits e =
    let u = under VerdictMessage spell_verdict (IsVerdict most) (verdict_at most) (verdict_reads most) rest x (IsBytes-rest 3 rest fits) e in
    subst (λ (m : Message). IsMessageRead most (3 ∷ rest) m x.1) u.1 (tag_takes 3 rest _ x.1 u.2, u.3)
message_takes most (suc (suc (suc (suc n))) ∷ rest) x fits e = absurd cc

message_again : (most : ℕ) (m : Message) (rest : List ℕ) → IsMessage most m → message_at most (spell_message m ++ rest) ≡ Ok (m, rest)
unfolding message_at tagged_message_at
message_again most Tick rest h = refl
message_again most (RequestMessage request) rest h = ap (made RequestMessage) ((request_reads most).again request rest h)
message_again most (ResponseMessage response) rest h = ap (made ResponseMessage) ((response_reads most).again response rest h)
message_again most (VerdictMessage verdict) rest h = ap (made VerdictMessage) ((verdict_reads most).again verdict rest h)

message_reads : (most : ℕ) → Reads spell_message (IsMessage most) (message_at most)
message_reads most = record { takes = message_takes most; again = message_again most }

-- ---- entries and logs

abbrev parts_of_entry : Entry → EntryParts
parts_of_entry entry = (entry.time, entry.message)

abbrev FitEntry : (most : ℕ) → EntryParts → Type 0
FitEntry most p = (p.0 < 2 ^ 64) × IsMessage most p.1

pub entry_reads : (most : ℕ) → Reads spell_entry (IsEntry most) (entry_at most)
unfolding entry_at
entry_reads most =
    let parts = both_reads (λ n. to_be_bytes w64 n) (λ n. n < 2 ^ 64) (number_at w64) spell_message (IsMessage most) (message_at most) u64_reads (message_reads most) in
    ranged_reads spell_entry (λ e. FitEntry most (parts_of_entry e)) (IsEntry most) (entry_at most)
    (λ e h. record { time_is = h.0; message_is = h.1 }) (λ e h. (h.time_is, h.message_is))
    (seen_reads entry_of parts_of_entry (λ p. refl) (λ e. refl) (λ (p : EntryParts). to_be_bytes w64 p.0 ++ spell_message p.1) (FitEntry most) (both_at (number_at w64) (message_at most)) parts)

abbrev FitLog : (most : ℕ) → List Entry → Type 0
FitLog most log = (length log < 2 ^ 32) × AllByRecursion (IsEntry most) log × Admits any_item [] log

pub log_reads : (most : ℕ) → Reads spell_log (IsLog most) (log_at most)
unfolding log_at
log_reads most =
    ranged_reads spell_log (FitLog most) (IsLog most) (log_at most)
    (λ log h. record { few = h.0; each = All-from_recursion (IsEntry most) log h.1 })
    (λ log h. (h.few, recursion_from_All (IsEntry most) log h.each, any_admitted [] log))
    (counted_reads (λ k. to_be_bytes w32 k) (λ k. k < 2 ^ 32) (number_at w32) spell_entry (IsEntry most) (entry_at most) any_item u32_reads (entry_reads most))

-- ---- what is in range has room in a spelling

spellable_envelopes : (most : ℕ) (es : List Envelope) → AllByRecursion (IsEnvelope most) es → AllByRecursion IsSpellableEnvelope es
spellable_envelopes most [] h = tt
spellable_envelopes most (e ∷ es) h = ((h.0).bytes_are.few, spellable_envelopes most es h.1)

spellable_message : (most : ℕ) (m : Message) → IsMessage most m → IsSpellableMessage m
spellable_message most Tick h = tt
spellable_message most (RequestMessage q) h =
    let all = h.envelopes_are in
    record {
      confirming = (h.confirming_are).few;
      mediator = (h.mediator_is).few;
      envelopes = all.few;
      each = All-from_recursion IsSpellableEnvelope q.envelopes (spellable_envelopes most q.envelopes (recursion_from_All (IsEnvelope most) q.envelopes all.each));
    }
spellable_message most (ResponseMessage r) h = spellable_response most r h
spellable_message most (VerdictMessage v) h = spellable_verdict most v h

pub spellable_entry : (most : ℕ) (e : Entry) → IsEntry most e → IsSpellableEntry e
spellable_entry most e h = spellable_message most e.message h.message_is

spellable_entries : (most : ℕ) (log : List Entry) → AllByRecursion (IsEntry most) log → AllByRecursion IsSpellableEntry log
spellable_entries most [] h = tt
spellable_entries most (e ∷ es) h = (spellable_entry most e h.0, spellable_entries most es h.1)

pub spellable_log : (most : ℕ) (log : List Entry) → IsLog most log → IsSpellableLog log
spellable_log most log h =
    record { few = h.few; each = All-from_recursion IsSpellableEntry log (spellable_entries most log (recursion_from_All (IsEntry most) log h.each)) }
