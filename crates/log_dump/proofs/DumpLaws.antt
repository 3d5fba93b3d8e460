-- A dump is read as what it was made of, and nothing else is read as that.
use Rattle.std.proofs.Common.{◌≡◌, ℕ, List, [], ◌∷◌, ◌++◌, length, Result, Ok, Option, Some, None, refl, sym, ap, subst, ◌∙◌, append_assoc, append-nil}
use Rattle.std.specs.Int.{w32, to_be_bytes}
use Rattle.canton_model.specs.declared.entry.Entry.{Entry}
use Rattle.wire_form.specs.Formats.{◌>>=◌}
use Rattle.wire_form.specs.Fields.{number_at, bytes_at}
use Rattle.wire_form.proofs.FormatLaws.{IsBytes, Takes, Takes-then, bind_ok, ok_is}
use Rattle.wire_form.proofs.FieldLaws.{bytes_take, bytes_again, u32_reads}
use Rattle.log_dump.specs.Spelling.{spell_block, spell_log, spell_dump}
use Rattle.log_dump.specs.Reading.{log_at}
use Rattle.log_dump.specs.InRange.{IsBlock, IsLog}
use Rattle.log_dump.specs.Dumps.{known_or, ended, script_block_at, dump_in}
use Rattle.log_dump.proofs.EntryLaws.{all_from_bytes, log_reads}

-- what was read as a dump
pub record IsDumpOf {S : Type 0} (script : List ℕ → Option S) (most : S → ℕ) (dump : List ℕ) (s : S) (log : List Entry) : Type 0 where
  pub bytes : List ℕ
  pub spelled : dump ≡ spell_dump bytes log
  pub is_script : script bytes ≡ Some s
  pub block : IsBlock bytes
  pub entries : IsLog (most s) log

module _ {S : Type 0} (script : List ℕ → Option S) (most : S → ℕ) where
  known_is : (here : ℕ) (o : Option S) (s : S) → known_or here o ≡ Ok s → o ≡ Some s
  known_is here None s e = absurd cc
  known_is here (Some x) s e = ap Some (ok_is x s e)

  ended_is : (x : List Entry × List ℕ) (log : List Entry) → ended x ≡ Ok log → x ≡ (log, [])
  ended_is (a, []) log e = ap (λ (k : List Entry). (k, [])) (ok_is a log e)
  ended_is (a, b ∷ rest) log e = absurd cc

  -- the script's bytes and what is behind them
  record FrontTaken (dump : List ℕ) (x : S × List ℕ) : Type 0 where
    bytes : List ℕ
    taken : Takes dump (spell_block bytes) x.1
    is_script : script bytes ≡ Some x.0
    block : IsBlock bytes

  front_takes : (dump : List ℕ) (x : S × List ℕ) → IsBytes dump → script_block_at script dump ≡ Ok x → FrontTaken dump x
  unfolding script_block_at
  front_takes dump x fits e =
      let b = bind_ok (number_at w32 dump) (λ len. bytes_at len.0 len.1 >>= λ block. known_or (length len.1) (script block.0) >>= λ s. Ok (s, block.1)) x e in
      let t = u32_reads.takes dump b.0 fits b.1 in
      let d = bind_ok (bytes_at b.0.0 b.0.1) (λ block. known_or (length b.0.1) (script block.0) >>= λ s. Ok (s, block.1)) x b.2 in
      let u = bytes_take b.0.0 b.0.1 d.0 t.0.rest_fits d.1 in
      let k = bind_ok (known_or (length b.0.1) (script d.0.0)) (λ s. Ok (s, d.0.1)) x d.2 in
      let same : (k.0, d.0.1) ≡ x = ok_is (k.0, d.0.1) x k.2 in
      let long : length d.0.0 ≡ b.0.0 = u.1 in
      let both : Takes dump (to_be_bytes w32 b.0.0 ++ d.0.0) d.0.1 = Takes-then dump (to_be_bytes w32 b.0.0) b.0.1 d.0.0 d.0.1 t.0 u.0 in
      subst (FrontTaken dump) same (record {
        bytes = d.0.0;
        taken = rw long both;
        is_script = known_is (length b.0.1) (script d.0.0) k.0 k.1;
        block = record { few = rw long t.1; each = all_from_bytes d.0.0 u.2 };
      })

  front_again : (bytes rest : List ℕ) (s : S) → IsBlock bytes → script bytes ≡ Some s → script_block_at script (spell_block bytes ++ rest) ≡ Ok (s, rest)
  unfolding script_block_at
  front_again bytes rest s h e =
      ap (script_block_at script) (append_assoc (to_be_bytes w32 (length bytes)) bytes rest)
      ∙ ap (λ (q : Result (ℕ × List ℕ) ℕ). q >>= λ len. bytes_at len.0 len.1 >>= λ block. known_or (length len.1) (script block.0) >>= λ s. Ok (s, block.1))
      (u32_reads.again (length bytes) (bytes ++ rest) h.few)
      ∙ ap (λ (q : Result (List ℕ × List ℕ) ℕ). q >>= λ block. known_or (length (bytes ++ rest)) (script block.0) >>= λ s. Ok (s, block.1))
      (bytes_again (length bytes) bytes rest refl)
      ∙ ap (λ (o : Option S). known_or (length (bytes ++ rest)) o >>= λ s. Ok (s, rest)) e

  pub dump_is_read : (bytes : List ℕ) (s : S) (log : List Entry) → IsBlock bytes → script bytes ≡ Some s → IsLog (most s) log
      → dump_in script most (spell_dump bytes log) ≡ Ok (s, log)
  unfolding dump_in
  dump_is_read bytes s log h e fits =
      let again : log_at (most s) (spell_log log) ≡ Ok (log, []) =
      ap (log_at (most s)) (sym (append-nil (spell_log log))) ∙ (log_reads (most s)).again log [] fits in
      ap (λ (q : Result (S × List ℕ) ℕ). q >>= λ front. log_at (most front.0) front.1 >>= λ l. ended l >>= λ entries. Ok (front.0, entries))
      (front_again bytes (spell_log log) s h e)
      ∙ ap (λ (q : Result (List Entry × List ℕ) ℕ). q >>= λ l. ended l >>= λ entries. Ok (s, entries)) again

  pub read_is_dump : (dump : List ℕ) (s : S) (log : List Entry) → IsBytes dump → dump_in script most dump ≡ Ok (s, log) → IsDumpOf script most dump s log
  unfolding dump_in
  read_is_dump dump s log fits e =
      let b = bind_ok (script_block_at script dump) (λ front. log_at (most front.0) front.1 >>= λ l. ended l >>= λ entries. Ok (front.0, entries)) (s, log) e in
      let front = front_takes dump b.0 fits b.1 in
      let d = bind_ok (log_at (most b.0.0) b.0.1) (λ l. ended l >>= λ entries. Ok (b.0.0, entries)) (s, log) b.2 in
      let t = (log_reads (most b.0.0)).takes b.0.1 d.0 (front.taken).rest_fits d.1 in
      let k = bind_ok (ended d.0) (λ entries. Ok (b.0.0, entries)) (s, log) d.2 in
      let at_end = ended_is d.0 k.0 k.1 in
      let same : (b.0.0, k.0) ≡ (s, log) = ok_is (b.0.0, k.0) (s, log) k.2 in
      let whole : Takes dump (spell_block front.bytes ++ spell_log d.0.0) d.0.1 =
      Takes-then dump (spell_block front.bytes) b.0.1 (spell_log d.0.0) d.0.1 front.taken t.0 in
      let parts : dump ≡ spell_block front.bytes ++ spell_log k.0 =
      whole.parts ∙ ap (λ (x : List Entry × List ℕ). (spell_block front.bytes ++ spell_log x.0) ++ x.1) at_end ∙ append-nil (spell_block front.bytes ++ spell_log k.0) in
      let entries : IsLog (most b.0.0) k.0 = subst (λ (x : List Entry × List ℕ). IsLog (most b.0.0) x.0) at_end t.1 in
      subst (λ (x : S × List Entry). IsDumpOf script most dump x.0 x.1) same (record {
        bytes = front.bytes;
        spelled = parts;
        is_script = front.is_script;
        block = front.block;
        entries = entries;
      })
