-- Contract of the search for the rows of a refresh. Assumes nothing.
use Rattle.std.specs.Prelude.{ℕ, ◌≡◌, Bool, true, List}
use Rattle.bitmap.specs.inner.Bitmaps.{Marked}
use Rattle.table.specs.declared.Header.{Header}
use Rattle.refresh_spec.specs.Index.{IndexSound}
use Rattle.refresh_spec.specs.inner.Finding.{mentions_at}

-- it sets the bits of live rows that mention a value only and, with a sound index store, of all of those
abbrev pub RowsFound : Header → List ℕ → List ℕ → List ℕ → List ℕ → List ℕ → List ℕ → ℕ → Type 0
RowsFound h rows index columns values words words' count =
    (needed : ℕ → Bool) → ((i : ℕ) → needed i ≡ true → IndexSound h rows columns index × (mentions_at h rows columns values i ≡ true))
    → Marked (mentions_at h rows columns values) needed words words' count
