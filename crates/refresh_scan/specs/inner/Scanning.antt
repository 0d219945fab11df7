-- What a scan of rows for values requires, and how the values of a part of the list are linked. Assumes nothing.
use Rattle.std.specs.Prelude.{ℕ, zero, suc, ◌+◌, ◌*◌, ◌≤◌, ◌<◌, ◌≡◌, Bool, true, false, cond, ◌&&◌, List, eqb, ltb, length, get_or}
use Rattle.lists.specs.Lists.{all}
use Rattle.table.specs.declared.Header.{Header}
use Rattle.table.specs.Refusing.{outside}
use Rattle.refresh_spec.specs.Index.{bucket_of}
use Rattle.refresh_spec.specs.inner.Finding.{mentions_at}

-- the rows from this one on can be scanned, in these columns, and there is a bitmap of rows
pub record Scannable (h : Header) (rows : List ℕ) (from : ℕ) (columns words : List ℕ) : Type 0 where
  pub inside : outside h ≡ false
  pub rows_long : h.capacity * h.columns ≤ length rows
  pub from_inside : from ≤ h.rows
  pub columns_few : length columns ≤ 8
  pub columns_there : all (λ column. ltb column h.columns) columns ≡ true
  pub words_long : length words ≡ 1040

-- row i is this one, is live and mentions a value
unfoldable pub mentions_only : Header → List ℕ → List ℕ → List ℕ → ℕ → ℕ → Bool
mentions_only h rows columns values row i = eqb i row && mentions_at h rows columns values i

-- the link to the last of the first n values that is in a bucket: its place plus 1, or 0 if there is none
unfoldable pub link_to : List ℕ → ℕ → ℕ → ℕ
link_to values bucket zero = 0
link_to values bucket (suc n) = cond (eqb (bucket_of 4096 (get_or values n 0)) bucket) (suc n) (link_to values bucket n)

-- The first n of up to 1,024 values are linked. At a value's place is the link to the previous value of its bucket; from place
-- 1,024 on there is, for each bucket, the link to its last value.
pub record Linked (values : List ℕ) (n : ℕ) (links : List ℕ) : Type 0 where
  pub few : length values ≤ 1024
  pub long : length links ≡ 5120
  pub before : (i : ℕ) → i < n → get_or links i 0 ≡ link_to values (bucket_of 4096 (get_or values i 0)) i
  pub last : (bucket : ℕ) → bucket < 4096 → get_or links (1024 + bucket) 0 ≡ link_to values bucket n
