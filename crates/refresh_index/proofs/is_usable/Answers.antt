-- `refresh_index::is_usable` meets its contract. Assumes nothing.
use Rattle.refresh_index.proofs.Prelude.{sym, ◌∙◌, arith, length, le-leb, lt-leb, eq-eqb, ne_eqb}
use Rattle.refresh_spec.specs.Index.{generation_seen, rows_seen, columns_named}
use Rattle.refresh_spec.specs.inner.Finding.{usable}
use Rattle.refresh_index.proofs.Sizes.{Small, small}
use Rattle.refresh_index.proofs.is_usable.Goals.{Start}
use Rattle.refresh_index.proofs.is_usable.Goals as goal

sizes : (s : Start) → Small s.args.h (length s.args.columns.now)
sizes s = small _ _ s.requires.0 s.requires.1

pub returns-then-index-ne-MARK : goal.returns-then-index-ne-MARK
unfolding usable
returns-then-index-ne-MARK c = rw (ne_eqb _ _ c.if-index-ne-MARK.true)

pub returns-then-index-h : goal.returns-then-index-h
unfolding usable generation_seen
returns-then-index-h c = rw (eq-eqb _ _ c.if-index-ne-MARK.false, ne_eqb _ _ c.if-index-h.true)

pub returns-then-index-columns : goal.returns-then-index-columns
unfolding usable generation_seen columns_named
returns-then-index-columns c = rw (eq-eqb _ _ c.if-index-ne-MARK.false, eq-eqb _ _ c.if-index-h.false, ne_eqb _ _ c.if-index-columns.true)

pub returns-then-not-same_key : goal.returns-then-not-same_key
unfolding usable generation_seen columns_named
returns-then-not-same_key c = rw (eq-eqb _ _ c.if-index-ne-MARK.false, eq-eqb _ _ c.if-index-h.false, eq-eqb _ _ c.if-index-columns.false, sym c.same_key.ensures ∙ c.if-not-same_key.true)

pub returns-then-h-index : goal.returns-then-h-index
unfolding usable generation_seen columns_named rows_seen
returns-then-h-index c = rw (eq-eqb _ _ c.if-index-ne-MARK.false, eq-eqb _ _ c.if-index-h.false, eq-eqb _ _ c.if-index-columns.false, sym c.same_key.ensures ∙ c.if-not-same_key.false, lt-leb _ _ c.if-h-index.true)

pub overflow_mul-h : goal.overflow_mul-h
overflow_mul-h c = omega (arith, sizes (goal.at.overflow_mul-h c).Start)

pub returns-then-buckets-h : goal.returns-then-buckets-h
unfolding usable generation_seen columns_named rows_seen
returns-then-buckets-h c =
    rw (eq-eqb _ _ c.if-index-ne-MARK.false, eq-eqb _ _ c.if-index-h.false, eq-eqb _ _ c.if-index-columns.false, sym c.same_key.ensures ∙ c.if-not-same_key.false, le-leb _ _ c.if-h-index.false, lt-leb _ _ c.if-buckets-h.true)

pub overflow_mul-result : goal.overflow_mul-result
overflow_mul-result c = omega (arith, sizes (goal.at.overflow_mul-result c).Start)

pub overflow_mul-result-2 : goal.overflow_mul-result-2
overflow_mul-result-2 c = omega (arith, sizes (goal.at.overflow_mul-result-2 c).Start)

pub returns : goal.returns
unfolding usable generation_seen columns_named rows_seen
returns c =
    rw (eq-eqb _ _ c.if-index-ne-MARK.false, eq-eqb _ _ c.if-index-h.false, eq-eqb _ _ c.if-index-columns.false, sym c.same_key.ensures ∙ c.if-not-same_key.false, le-leb _ _ c.if-h-index.false, le-leb _ _ c.if-buckets-h.false)
