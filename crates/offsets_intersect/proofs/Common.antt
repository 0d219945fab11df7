-- The ids within a range, and what two lists have in common from either side. Assumes nothing.
use Rattle.offsets_intersect.proofs.Prelude.{ℕ, ◌-◌, ◌≤◌, ◌≡◌, sym, ap, ◌∙◌, true, List, arith, length, take, drop, length-drop, length-take-le, splice, filter, rising, within, filter_elem_comm, not_below_le, filter_within_places, common, Wrote, first_not_below}

-- ---- ids within a range

pub wrote_within : (ids output : List ℕ) (start end low high : ℕ) (output' : List ℕ) → rising ids ≡ true → start ≤ end → low ≡ first_not_below start ids → high ≡ first_not_below end ids
    → output' ≡ splice output 0 (take (high - low) (drop low ids)) → Wrote output (filter (within start end) ids) (high - low) output'
wrote_within ids output start end low high output' e h p q r =
    let k : filter (within start end) ids ≡ take (high - low) (drop low ids) = rw (p, q) (filter_within_places ids start end e h) in
    let n : length (take (high - low) (drop low ids)) ≡ high - low =
    length-take-le (high - low) (drop low ids) (let a = not_below_le end ids in simp length-drop (omega arith)) in
    record { number = sym n ∙ ap length (sym k); cells = r ∙ ap (splice output 0) (sym k) }

-- ---- what two lists have in common, from either side

pub common_comm : (ids others : List ℕ) → rising ids ≡ true → rising others ≡ true → common ids others ≡ common others ids
unfolding common
common_comm ids others e f = filter_elem_comm ids others e f

pub wrote_turned : (ids others output : List ℕ) (n : ℕ) (output' : List ℕ) → rising ids ≡ true → rising others ≡ true → Wrote output (common others ids) n output'
    → Wrote output (common ids others) n output'
wrote_turned ids others output n output' e f w = rw (common_comm ids others e f) w
