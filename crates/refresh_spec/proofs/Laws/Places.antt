-- An entry's row and its place among the named columns. Assumes nothing.
use Rattle.refresh_spec.proofs.Laws.Prelude.{ℕ, zero, suc, ◌+◌, ◌*◌, ◌/◌, ◌%◌, ◌<◌, ◌≡◌, ap, ◌∙◌, add-zero, mul-zero, mul-add-div_right, mul-add-mod_self_right, div-eq_of_lt, div-lt_iff_lt-mul, mod-eq_of_lt, mod-lt, arith, row_in}

-- the entry of a row and a place, if each row has `count` places
pub record EntryIn (rows count row place : ℕ) : Type 0 where
  pub row_of : (row * count + place) / count ≡ row
  pub place_of : (row * count + place) % count ≡ place
  pub below : row * count + place < rows * count

pub entry_in : (rows count row place : ℕ) → row < rows → place < count → EntryIn rows count row place
entry_in rows count row place r p =
    record {
      row_of = mul-add-div_right (omega arith) row place ∙ ap (λ (k : ℕ). row + k) (div-eq_of_lt p) ∙ add-zero row;
      place_of = mul-add-mod_self_right row count place ∙ mod-eq_of_lt p;
      below = omega (arith, row_in row rows count r);
    }

-- an entry of one of these rows
pub record EntryInRange (rows count entry : ℕ) : Type 0 where
  pub some : 0 < count
  pub row_there : entry / count < rows
  pub place_there : entry % count < count

pub entry_in_range : (rows count entry : ℕ) → entry < rows * count → EntryInRange rows count entry
entry_in_range rows zero entry h = absurd (let none : entry < 0 = rw (mul-zero rows) at h in omega arith)
entry_in_range rows (suc count) entry h =
    let some : 0 < suc count = omega arith in
    record { some = some; row_there = (div-lt_iff_lt-mul some).1 h; place_there = mod-lt entry some }
