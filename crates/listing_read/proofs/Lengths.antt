-- The ways through `numbers_length` and `convert_row`. Assumes nothing.
use Rattle.listing_read.proofs.Prelude.{ℕ, ◌+◌, ◌-◌, ◌*◌, ◌≤◌, ◌<◌, ◌≡◌, refl, Bool, true, false, List, ◌∷◌, map, arith, length, take, drop, length-append, zero-add, take_drop, iota_snoc, length_iota, field, fields_more, length_fields}
use Rattle.lists.specs.Lists.{flatten, iota}
use Rattle.listing_spec.specs.Listings.{prefix_width}
use Rattle.listing_spec.specs.Laws.Conversions.{fields_length}
use Rattle.listing_read.specs.inner.Converting.{converted_row}

-- at most eleven for each
pub numbers_few : (count : ℕ) → length (flatten (map field (iota 0 count))) ≤ 11 * count
numbers_few count = omega (arith, length_fields (iota 0 count), length_iota 0 count)

-- the bytes of the numbers so far
pub record Summing (count total number : ℕ) : Type 0 where
  pub inside : number ≤ count
  pub summed : total ≡ length (flatten (map field (iota 0 number)))

pub summing_begin : (count : ℕ) → Summing count 0 0
summing_begin count = record { inside = omega arith; summed = unfold flatten iota in refl }

pub summing_few : {count total number : ℕ} → Summing count total number → total ≤ 11 * number
summing_few {count} {total} {number} v = omega (arith, v.summed, numbers_few number)

pub summing_more : {count total number next : ℕ} → Summing count total number → number < count → next ≡ length (field number) → Summing count (total + next) (number + 1)
summing_more {count} {total} {number} {next} v less e = record { inside = omega arith; summed = omega (arith, v.summed, e, longer) }
  where
    longer : length (flatten (map field (iota 0 (number + 1)))) ≡ length (flatten (map field (iota 0 number))) + length (field number)
    longer =
        rw (iota_snoc 0 number, zero-add number, fields_more (iota 0 number) number)
        (length-append (flatten (map field (iota 0 number))) (field number))

pub summing_end : {count total number : ℕ} → Summing count total number → count ≤ number → total ≡ length (flatten (map field (iota 0 count)))
summing_end {count} {total} {number} v over = let same : number ≡ count = omega (arith, v.inside) in rw same at v.summed

-- ---- a row's numbers in the other form

module _ (columns number : ℕ) (numbers : List ℕ) where
  pub row_back : take (columns + 1 - 1) (drop 1 numbers) ≡ converted_row true number (take (prefix_width true + columns) numbers)
  unfolding converted_row prefix_width
  row_back = let n : columns + 1 - 1 ≡ columns = omega arith in rw n (take_drop 1 columns numbers)

  pub row_forth : number ∷ take columns numbers ≡ converted_row false number (take (prefix_width false + columns) numbers)
  unfolding converted_row prefix_width
  row_forth = let none : 0 + columns ≡ columns = omega arith in rw none

module _ {numbered : Bool} (columns : ℕ) {long : ℕ} where
  pub long_back : numbered ≡ true → prefix_width numbered + columns ≤ long → columns + 1 ≤ long
  unfolding prefix_width
  long_back e h = let k : 1 + columns ≤ long = rw e at h in omega (arith, k)

  pub long_forth : numbered ≡ false → prefix_width numbered + columns ≤ long → columns ≤ long
  unfolding prefix_width
  long_forth e h = let k : 0 + columns ≤ long = rw e at h in omega (arith, k)

-- with the count's own
pub fields_sum : (rows : ℕ) {a b : ℕ} → a ≡ length (field rows) → b ≡ length (flatten (map field (iota 0 rows))) → a + b ≡ fields_length rows
unfolding fields_length
fields_sum rows e f = omega (arith, e, f)
