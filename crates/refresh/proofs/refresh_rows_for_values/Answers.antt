-- `refresh::refresh_rows_for_values` meets its contract. Assumes nothing.
use Rattle.std.proofs.lemmas.Result.{err_from_is_err_and}
use Rattle.refresh.proofs.Prelude.{sym, ◌∙◌, length, Lendable}
use Rattle.refresh.proofs.TestSteps.{Passed, passed, lendable}
use Rattle.refresh.proofs.RefreshSteps.{refused_early}
use Rattle.refresh.proofs.refresh_rows_for_values.Goals.{In_ok-check_refresh}
use Rattle.refresh.proofs.refresh_rows_for_values.Goals as goal

-- no test before 7 refuses it
accepts : (c : In_ok-check_refresh) → let a = c.args in Passed a.h (length a.rows.now) (length a.pending.now) (length a.index.now) (record { columns = a.columns.now; values = a.values.now; stamp = a.stamp })
accepts c = passed _ _ _ _ _ (sym c.in_ok-check_refresh.ensures)

lent : (c : In_ok-check_refresh) → let a = c.args in Lendable a.h a.rows.now a.columns.now a.index.now
lent c = lendable _ _ _ _ _ (accepts c)

pub returns-in_err-check_refresh : goal.returns-in_err-check_refresh
returns-in_err-check_refresh c =
    let p = err_from_is_err_and c.from_residual.result c.from_residual.ensures.1 in
    rw (p.1, p.2) (refused_early _ _ _ _ _ _ c.in_err-check_refresh.ensures)

pub is_usable-goes_on-requires : goal.is_usable-goes_on-requires
is_usable-goes_on-requires c = let l = lent (goal.at.is_usable-goes_on-requires c).In_ok-check_refresh in (l.inside, l.columns_few, l.index_long)

pub is_tight-requires : goal.is_tight-requires
is_tight-requires c = (lent (goal.at.is_tight-requires c).In_ok-check_refresh).inside

pub refresh_by_index-refreshed-requires : goal.refresh_by_index-refreshed-requires
refresh_by_index-refreshed-requires c = (
  record {
    checked = sym c.in_ok-check_refresh.ensures;
    continues = c.is_usable-goes_on.ensures;
  },
  sym c.is_tight.ensures ∙ c.if-is_tight.false,
)
