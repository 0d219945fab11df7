-- Rows and columns: the columns of the columns are the rows. Assumes nothing.
use Rattle.std.specs.Prelude.{◌+◌, ◌*◌, ◌<◌, ◌≡◌, ◌∷◌}
use Rattle.vault.specs.Laws.Prelude.{ℕ, zero, suc, refl, sym, ap, ap₂, ◌∙◌, true, List, [], map, append-nil, zero-add, dec_lt, arith, eqb, length, take, drop, get_or, length-map, List·getD-eq-default, get_or-drop, ext_get_or, eqb-true, eq-eqb, all_get_d, all_head, all_tail, all_cons, get_d_map_below, length_iota, get_d_iota, widths, get_d_rows_of, get_d_row_at, rows_of_flatten}
use Rattle.lists.specs.Lists.{all, rows_of, flatten, iota}
use Rattle.vault.specs.Columns.{transposed}
use Rattle.vault.specs.Laws.Differences.{Cells}

-- the cells of column j
abbrev pub column : ℕ → List (List ℕ) → List ℕ
column j rows = map (λ row. get_or row j 0) rows

pub length_column : (j : ℕ) (rows : List (List ℕ)) → length (column j rows) ≡ length rows
length_column j rows = length-map rows _

pub length_transposed : (n : ℕ) (rows : List (List ℕ)) → length (transposed n rows) ≡ n
unfolding transposed
length_transposed n rows = length-map (iota 0 n) _ ∙ length_iota 0 n

-- the cell of row i in column j
pub column_at : (j : ℕ) (rows : List (List ℕ)) (i : ℕ) → i < length rows → get_or (column j rows) i 0 ≡ get_or (get_or rows i []) j 0
column_at j rows i h = get_d_map_below (λ row. get_or row j 0) rows i [] 0 h

pub transposed_at : (n : ℕ) (rows : List (List ℕ)) (j : ℕ) → j < n → get_or (transposed n rows) j [] ≡ column j rows
unfolding transposed
transposed_at n rows j h =
    let k : j < length (iota 0 n) = rw (length_iota 0 n) h in
    get_d_map_below (λ i. column i rows) (iota 0 n) j 0 [] k ∙ ap (λ (i : ℕ). column i rows) (get_d_iota 0 n j 0 h ∙ zero-add j)

-- ---- widths

pub width_at : (w : ℕ) (rows : List (List ℕ)) → widths w rows ≡ true → (i : ℕ) → i < length rows → length (get_or rows i []) ≡ w
width_at w rows q i h = eqb-true _ _ (all_get_d (λ r. eqb (length r) w) rows q i h [])

columns_widths : (rows : List (List ℕ)) (js : List ℕ) → widths (length rows) (map (λ j. column j rows) js) ≡ true
columns_widths rows [] = unfold all in refl
columns_widths rows (j ∷ js) = all_cons (λ r. eqb (length r) (length rows)) _ _ (eq-eqb _ _ (length_column j rows)) (columns_widths rows js)

pub transposed_widths : (n : ℕ) (rows : List (List ℕ)) → widths (length rows) (transposed n rows) ≡ true
unfolding transposed
transposed_widths n rows = columns_widths rows (iota 0 n)

pub map_widths : (f : List ℕ → List ℕ) → ((l : List ℕ) → length (f l) ≡ length l) → (w : ℕ) (ls : List (List ℕ)) → widths w ls ≡ true → widths w (map f ls) ≡ true
map_widths f e w [] q = q
map_widths f e w (l ∷ ls) q =
    let a : length l ≡ w = eqb-true _ _ (all_head (λ r. eqb (length r) w) l ls q) in
    all_cons (λ r. eqb (length r) w) _ _ (eq-eqb _ _ (e l ∙ a)) (map_widths f e w ls (all_tail (λ r. eqb (length r) w) l ls q))

-- the columns of the columns are the rows
pub transposed_twice : (w : ℕ) (rows : List (List ℕ)) → widths w rows ≡ true → transposed (length rows) (transposed w rows) ≡ rows
transposed_twice w rows q = ext_get_or [] _ _ (length_transposed (length rows) (transposed w rows)) each
  where
    each : (i : ℕ) → i < length (transposed (length rows) (transposed w rows)) → get_or (transposed (length rows) (transposed w rows)) i [] ≡ get_or rows i []
    each i h =
        let k : i < length rows = rw (length_transposed (length rows) (transposed w rows)) at h in
        let e : length (column i (transposed w rows)) ≡ length (get_or rows i []) = length_column i (transposed w rows) ∙ length_transposed w rows ∙ sym (width_at w rows q i k) in
        transposed_at (length rows) (transposed w rows) i k
        ∙ ext_get_or 0 (column i (transposed w rows)) (get_or rows i []) e
        (λ j g.
        let m : j < length (transposed w rows) = rw (length_column i (transposed w rows)) at g in
        let n : j < w = rw (length_transposed w rows) at m in
        column_at i (transposed w rows) j m ∙ ap (λ (r : List ℕ). get_or r i 0) (transposed_at w rows j n) ∙ column_at j rows i k)

-- cell b of list a, where lists of one width follow one another
pub flat_at : (w : ℕ) (ls : List (List ℕ)) → widths w ls ≡ true → (a b : ℕ) → a < length ls → b < w → get_or (flatten ls) (a * w + b) 0 ≡ get_or (get_or ls a []) b 0
flat_at w ls q a b h k =
    sym (get_d_row_at w a (flatten ls) b 0 k)
    ∙ ap (λ (r : List ℕ). get_or r b 0) (sym (get_d_rows_of w (length ls) (flatten ls) a h))
    ∙ ap (λ (rs : List (List ℕ)). get_or (get_or rs a []) b 0) (ap (rows_of w (length ls)) (sym (append-nil (flatten ls))) ∙ rows_of_flatten w ls q [])

-- ---- cells of rows are cells

-- each cell of each list is a u32
abbrev pub AllCells : List (List ℕ) → Type 0
AllCells ls = (i : ℕ) → Cells (get_or ls i [])

take_cells : (w : ℕ) (cells : List ℕ) → Cells cells → Cells (take w cells)
take_cells zero cells f i = omega arith
take_cells (suc w) [] f i = f i
take_cells (suc w) (x ∷ xs) f zero = f zero
take_cells (suc w) (x ∷ xs) f (suc i) = take_cells w xs (λ k. f (suc k)) i

pub rows_of_cells : (w n : ℕ) (cells : List ℕ) → Cells cells → AllCells (rows_of w n cells)
unfolding rows_of
rows_of_cells w zero cells f i j = omega arith
rows_of_cells w (suc n) cells f zero j = take_cells w cells f j
rows_of_cells w (suc n) cells f (suc i) j = rows_of_cells w n (drop w cells) (λ k. rw get_or-drop (f (w + k))) i j

pub column_cells : (j : ℕ) (rows : List (List ℕ)) → AllCells rows → Cells (column j rows)
column_cells j [] f i = omega arith
column_cells j (row ∷ rows) f zero = f 0 j
column_cells j (row ∷ rows) f (suc i) = column_cells j rows (λ k. f (suc k)) i

pub transposed_cells : (n : ℕ) (rows : List (List ℕ)) → AllCells rows → AllCells (transposed n rows)
transposed_cells n rows f j =
    elim (dec_lt j n) [
      | yes h ↦ rw (transposed_at n rows j h) (column_cells j rows f)
      | no h ↦ λ i. rw (List·getD-eq-default (transposed n rows) [] {n = j} (rw (length_transposed n rows) (omega arith))) (omega arith)
    ]

-- a function on lists, mapped after its inverse
pub map_undone : (f g : List ℕ → List ℕ) → ((l : List ℕ) → Cells l → f (g l) ≡ l) → (ls : List (List ℕ)) → AllCells ls → map f (map g ls) ≡ ls
map_undone f g e [] k = refl
map_undone f g e (l ∷ ls) k = ap₂ (λ (r : List ℕ) (rs : List (List ℕ)). r ∷ rs) (e l (k 0)) (map_undone f g e ls (λ i. k (suc i)))
