-- The rows that entries under values refer to, and the values looked up before. Assumes nothing.
use Rattle.std.specs.Prelude.{ℕ, ◌<◌, ◌≡◌, Bool, List, length, get_or}
use Rattle.lists.specs.Lists.{any}
use Rattle.table.specs.declared.Header.{Header}
use Rattle.bitmap.specs.inner.Bitmaps.{Marked}
use Rattle.refresh_spec.specs.Index.{bucket_of, entries_under}
use Rattle.refresh_spec.specs.inner.Finding.{leads}

-- the bits of all rows that pass the test are set, and no others
abbrev pub MarkedAll : (ℕ → Bool) → List ℕ → List ℕ → ℕ → Type 0
MarkedAll test words words' more = Marked test test words words' more

-- an entry under one of the values refers to row i
unfoldable pub found : Header → List ℕ → List ℕ → List ℕ → List ℕ → ℕ → Bool
found h rows index columns values i = any (λ value. leads h rows columns value (entries_under h.capacity index value) i) values

-- Slots for values looked up before, one for each of 1,024 buckets: a value that is in its slot is one of the first n.
pub record Noted (values : List ℕ) (n : ℕ) (recent : List ℕ) : Type 0 where
  pub long : length recent ≡ 1024
  pub earlier : (value : ℕ) → get_or recent (bucket_of 1024 value) 0 ≡ value → (i : ℕ) × (i < n) × (get_or values i 0 ≡ value)
