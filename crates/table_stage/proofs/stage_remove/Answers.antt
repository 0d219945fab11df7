-- `table_stage::stage_remove` meets its contract. Assumes nothing.
use Rattle.std.proofs.lemmas.Result.{err_from_is_err_and}
use Rattle.table_stage.proofs.Prelude.{ℕ, sym, ap, ◌∙◌, ◌∷◌, arith, length, splice, key_refusal, Free, refusal_free, staging_refused, staging_written}
use Rattle.plain_table.specs.Staged.{remove_key, words_of}
use Rattle.table.specs.Stores.{record_words}
use Rattle.table_stage.proofs.stage_remove.Goals.{In_ok-check_record}
use Rattle.table_stage.proofs.stage_remove.Goals as goal

-- what holds if nothing is refused
free : (c : In_ok-check_record) → let a = c.args in Free a.h (length a.pending.now) (length a.key.now) a.h.keys 2
free c = refusal_free _ _ _ _ _ _ (sym c.in_ok-check_record.ensures)

pub returns-in_err-check_record : goal.returns-in_err-check_record
unfolding record_words words_of
returns-in_err-check_record c =
    let p = err_from_is_err_and c.from_residual.result c.from_residual.ensures.1 in
    rw (p.1, p.2) (let a = c.args in staging_refused a.h a.pending.now (remove_key a.key.now) _ (c.in_err-check_record.ensures ∙ key_refusal _ _ _))

pub write_record-requires : goal.write_record-requires
write_record-requires c = omega (arith, free (goal.at.write_record-requires c).In_ok-check_record)

pub overflow_add-n : goal.overflow_add-n
overflow_add-n c = omega (arith, free (goal.at.overflow_add-n c).In_ok-check_record)

pub overflow_add-n-2 : goal.overflow_add-n-2
overflow_add-n-2 c = omega (arith, free (goal.at.overflow_add-n-2 c).In_ok-check_record)

pub returns : goal.returns
unfolding record_words words_of
returns c =
    let a = c.args in
    staging_written a.h a.pending.now (remove_key a.key.now) _ (sym (key_refusal _ _ _) ∙ sym c.in_ok-check_record.ensures)
    (c.write_record.ensures ∙ ap (λ (hash : ℕ). splice a.pending.now a.h.pending (1 ∷ hash ∷ a.key.now)) c.compact_hash-hash.ensures)
