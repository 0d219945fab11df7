-- The ways of `mark_entry` to return. Assumes nothing.
use Rattle.refresh_index.proofs.Prelude.{ℕ, ◌*◌, ◌<◌, ◌≡◌, refl, sym, ap, ◌∙◌, Bool, true, false, not, ◌&&◌, List, eqb, get_or, eq-eqb, ne_eqb, and_right, live_first, Header, MarkedOne, marked_one, marked_none, marked_weaker, MarkedAll}
use Rattle.cells.specs.Cells.{is_dead}
use Rattle.refresh_spec.specs.Index.{leads_to}
use Rattle.refresh_index.specs.inner.Entries.{cell_named, entry_row, entry_live, entry_value}

module _ (h : Header) (rows columns : List ℕ) where
  -- an entry's row is live or dead by its first cell
  pub live_by : (entry : ℕ) (dead : Bool) → 0 < h.columns → dead ≡ is_dead (get_or rows (entry_row columns entry * h.columns) 0) → entry_live h rows columns entry ≡ not dead
  unfolding entry_live
  live_by entry dead some e = live_first h.columns (entry_row columns entry) rows some ∙ ap not (sym e)

  module _ (value entry : ℕ) where
    none_led : (words : List ℕ) → ((i : ℕ) → leads_to h rows columns value entry i ≡ false) → MarkedAll (leads_to h rows columns value entry) words words 0
    none_led words f = marked_weaker (λ i a. a) (λ i e. sym (f i) ∙ e) marked_none

    -- a dead row, another value in the entry's column, and a row that it leads to
    pub dead_led : (words : List ℕ) → entry_live h rows columns entry ≡ false → MarkedAll (leads_to h rows columns value entry) words words 0
    dead_led words e = none_led words (λ i. unfold leads_to entry_live in rw e)

    pub other_led : (words : List ℕ) → entry_live h rows columns entry ≡ true → (entry_value h rows columns entry ≡ value → ⊥) → MarkedAll (leads_to h rows columns value entry) words words 0
    other_led words e n = none_led words (λ i. unfold leads_to entry_live entry_value cell_named in rw (e, ne_eqb _ _ n))

    pub row_led : (words words' : List ℕ) (more : ℕ) → entry_live h rows columns entry ≡ true → entry_value h rows columns entry ≡ value → entry_row columns entry < 65536
        → MarkedOne words (entry_row columns entry) words' more → MarkedAll (leads_to h rows columns value entry) words words' more
    unfolding leads_to entry_live entry_value cell_named
    row_led words words' more e v few m =
        marked_weaker (λ i a. a) (λ i l. and_right (entry_live h rows columns entry && eqb (entry_value h rows columns entry) value) _ l)
        (marked_one {allowed = leads_to h rows columns value entry} m few (rw (e, eq-eqb _ _ v, eq-eqb (entry_row columns entry) _ refl)))
