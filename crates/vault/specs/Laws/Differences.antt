-- One column: differences and sums are inverse to each other; the value at each place. Assumes nothing.
use Rattle.vault.specs.Laws.Prelude.{ℕ, zero, suc, refl, ap, ap₂, ◌∙◌, arith, length, get_or}
use Rattle.std.specs.Prelude.{List, [], ◌∷◌, ◌+◌, ◌%◌, ◌^◌, ◌<◌, ◌≡◌}
use mathlib.Core.List.{zip_with}
use Rattle.vault.specs.Columns.{minus, differences, sums_below, sums}

-- each cell is a u32
abbrev pub Cells : List ℕ → Type 0
Cells cells = (i : ℕ) → get_or cells i 0 < 2 ^ 32

-- the sum of a difference and the cell above
abbrev pub plus : ℕ → ℕ → ℕ
plus difference above = (difference + above) % 2 ^ 32

plus_minus : (cell above : ℕ) → cell < 2 ^ 32 → above < 2 ^ 32 → plus (minus cell above) above ≡ cell
unfolding minus
plus_minus cell above h k = omega arith

minus_plus : (d above : ℕ) → d < 2 ^ 32 → above < 2 ^ 32 → minus (plus d above) above ≡ d
unfolding minus
minus_plus d above h k = omega arith

plus_below : (d above : ℕ) → plus d above < 2 ^ 32
plus_below d above = omega arith

-- ---- the cells below one, each replaced by its difference from the cell above

unfoldable pub differences_below : ℕ → List ℕ → List ℕ
differences_below above [] = []
differences_below above (cell ∷ cells) = minus cell above ∷ differences_below cell cells

below_is : (above : ℕ) (cells : List ℕ) → zip_with minus cells (above ∷ cells) ≡ differences_below above cells
unfolding zip_with differences_below
below_is above [] = refl
below_is above (cell ∷ cells) = ap (λ (r : List ℕ). minus cell above ∷ r) (below_is cell cells)

differences_none : differences [] ≡ []
unfolding differences zip_with
differences_none = refl

differences_some : (cell : ℕ) (cells : List ℕ) → differences (cell ∷ cells) ≡ cell ∷ differences_below cell cells
unfolding differences
differences_some cell cells = ap (λ (r : List ℕ). cell ∷ r) (below_is cell cells)

-- ---- either after the other

sums_below_differences_below : (above : ℕ) (cells : List ℕ) → above < 2 ^ 32 → Cells cells → sums_below above (differences_below above cells) ≡ cells
unfolding sums_below differences_below
sums_below_differences_below above [] h f = refl
sums_below_differences_below above (cell ∷ cells) h f =
    rw (plus_minus cell above (f 0) h) (ap (λ (r : List ℕ). cell ∷ r) (sums_below_differences_below cell cells (f 0) (λ i. f (suc i))))

differences_below_sums_below : (above : ℕ) (ds : List ℕ) → above < 2 ^ 32 → Cells ds → differences_below above (sums_below above ds) ≡ ds
unfolding sums_below differences_below
differences_below_sums_below above [] h f = refl
differences_below_sums_below above (d ∷ ds) h f =
    ap₂ (λ (x : ℕ) (r : List ℕ). x ∷ r) (minus_plus d above (f 0) h) (differences_below_sums_below (plus d above) ds (plus_below d above) (λ i. f (suc i)))

pub sums_differences : (cells : List ℕ) → Cells cells → sums (differences cells) ≡ cells
unfolding sums
sums_differences [] f = ap sums differences_none
sums_differences (cell ∷ cells) f = ap sums (differences_some cell cells) ∙ ap (λ (r : List ℕ). cell ∷ r) (sums_below_differences_below cell cells (f 0) (λ i. f (suc i)))

pub differences_sums : (ds : List ℕ) → Cells ds → differences (sums ds) ≡ ds
unfolding sums
differences_sums [] f = differences_none
differences_sums (d ∷ ds) f = differences_some d (sums_below d ds) ∙ ap (λ (r : List ℕ). d ∷ r) (differences_below_sums_below d ds (f 0) (λ i. f (suc i)))

-- ---- lengths

length_differences_below : (above : ℕ) (cells : List ℕ) → length (differences_below above cells) ≡ length cells
unfolding differences_below
length_differences_below above [] = refl
length_differences_below above (cell ∷ cells) = ap suc (length_differences_below cell cells)

pub length_differences : (cells : List ℕ) → length (differences cells) ≡ length cells
length_differences [] = ap length differences_none
length_differences (cell ∷ cells) = ap length (differences_some cell cells) ∙ ap suc (length_differences_below cell cells)

length_sums_below : (above : ℕ) (ds : List ℕ) → length (sums_below above ds) ≡ length ds
unfolding sums_below
length_sums_below above [] = refl
length_sums_below above (d ∷ ds) = ap suc (length_sums_below (plus d above) ds)

pub length_sums : (ds : List ℕ) → length (sums ds) ≡ length ds
unfolding sums
length_sums [] = refl
length_sums (d ∷ ds) = ap suc (length_sums_below d ds)

-- ---- place by place

-- the cell above a cell; 0 above the first, whose difference from 0 is itself
unfoldable pub above : List ℕ → ℕ → ℕ
above cells zero = 0
above cells (suc i) = get_or cells i 0

differences_below_at : (a : ℕ) (cells : List ℕ) (i : ℕ) → i < length cells
    → get_or (differences_below a cells) i 0 ≡ minus (get_or cells i 0) (above (a ∷ cells) (suc i))
unfolding differences_below above
differences_below_at a [] i h = absurd (omega arith)
differences_below_at a (cell ∷ cells) zero h = refl
differences_below_at a (cell ∷ cells) (suc i) h = differences_below_at cell cells i (omega arith)

minus_zero : (cell : ℕ) → cell < 2 ^ 32 → cell ≡ minus cell 0
unfolding minus
minus_zero cell h = omega arith

pub differences_at : (cells : List ℕ) → Cells cells → (i : ℕ) → i < length cells → get_or (differences cells) i 0 ≡ minus (get_or cells i 0) (above cells i)
unfolding above
differences_at [] f i h = absurd (omega arith)
differences_at (cell ∷ cells) f zero h = ap (λ (l : List ℕ). get_or l 0 0) (differences_some cell cells) ∙ minus_zero cell (f 0)
differences_at (cell ∷ cells) f (suc i) h = ap (λ (l : List ℕ). get_or l (suc i) 0) (differences_some cell cells) ∙ differences_below_at cell cells i (omega arith)

sums_below_at : (a : ℕ) (ds : List ℕ) (i : ℕ) → i < length ds
    → get_or (sums_below a ds) i 0 ≡ plus (get_or ds i 0) (above (a ∷ sums_below a ds) (suc i))
unfolding sums_below above
sums_below_at a [] i h = absurd (omega arith)
sums_below_at a (d ∷ ds) zero h = refl
sums_below_at a (d ∷ ds) (suc i) h = sums_below_at (plus d a) ds i (omega arith)

plus_zero : (d : ℕ) → d < 2 ^ 32 → d ≡ plus d 0
plus_zero d h = omega arith

pub sums_at : (ds : List ℕ) → Cells ds → (i : ℕ) → i < length ds → get_or (sums ds) i 0 ≡ plus (get_or ds i 0) (above (sums ds) i)
unfolding sums above
sums_at [] f i h = absurd (omega arith)
sums_at (d ∷ ds) f zero h = plus_zero d (f 0)
sums_at (d ∷ ds) f (suc i) h = sums_below_at d ds i (omega arith)
