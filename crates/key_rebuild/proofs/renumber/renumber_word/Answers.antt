-- `key_rebuild::renumber::renumber_word` meets its contract. Assumes nothing.
use Rattle.key_rebuild.proofs.Prelude.{◌-◌, ◌/◌, ◌%◌, ◌^◌, ◌≤◌, ◌<◌, ◌≡◌, sym, ◌∙◌, true, arith, length, get_or, set_below_le, names_row}
use Rattle.key_rebuild.proofs.RenumberSteps.{stays, too_large, has_new, in_words}
use Rattle.key_rebuild.proofs.renumber.renumber_word.Goals.{After-rank, Else-not-names_row}
use Rattle.key_rebuild.proofs.renumber.renumber_word.Goals as goal

-- the word names a row, whose bitmap word and base are inside their lists
names : (c : Else-not-names_row) → let a = c.args in names_row a.t a.word ≡ true
names c = sym c.names_row.ensures ∙ c.if-not-names_row.false

inside : (c : Else-not-names_row) → let a = c.args in
    (0 < a.word % 2 ^ 17) × ((a.word % 2 ^ 17 - 1) / 64 < length a.live.now) × ((a.word % 2 ^ 17 - 1) / 64 < length a.base.now)
inside c = in_words _ _ _ _ (names c) c.requires

-- the new number is small
few : (c : After-rank) → c.rank.result ≤ 65600
few c =
    let a = c.args in
    omega (arith, c.rank.ensures, c.if-first-gt-MOST_ROWS.false, set_below_le (get_or a.live.now ((a.word % 2 ^ 17 - 1) / 64) 0) ((a.word % 2 ^ 17 - 1) % 64))

pub returns-then-not-names_row : goal.returns-then-not-names_row
returns-then-not-names_row c = stays _ _ _ _ (sym c.names_row.ensures ∙ c.if-not-names_row.true)

pub overflow_sub-row : goal.overflow_sub-row
overflow_sub-row c = omega (arith, inside c)

pub bounds-base-at : goal.bounds-base-at
bounds-base-at c = omega (arith, inside (goal.at.bounds-base-at c).Else-not-names_row)

pub returns-then-first-gt-MOST_ROWS : goal.returns-then-first-gt-MOST_ROWS
returns-then-first-gt-MOST_ROWS c = too_large _ _ _ _ (names (goal.at.returns-then-first-gt-MOST_ROWS c).Else-not-names_row) c.if-first-gt-MOST_ROWS.true

pub bounds-live-at : goal.bounds-live-at
bounds-live-at c = omega (arith, inside (goal.at.bounds-live-at c).Else-not-names_row)

pub overflow_add-result : goal.overflow_add-result
overflow_add-result c = omega (arith, few c)

pub overflow_add-result-2 : goal.overflow_add-result-2
overflow_add-result-2 c = omega (arith, few c)

pub returns : goal.returns
returns c = has_new _ _ _ _ (names (goal.at.returns c).Else-not-names_row) _ c.if-first-gt-MOST_ROWS.false c.rank.ensures
