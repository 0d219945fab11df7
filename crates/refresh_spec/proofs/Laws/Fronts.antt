-- An index store and its first parts: a first part that is long enough for the entries is an index exactly if the whole store is.
-- Assumes nothing.
use Rattle.refresh_spec.proofs.Laws.Prelude.{ℕ, zero, suc, ◌+◌, ◌*◌, ◌%◌, ◌^◌, ◌≤◌, ◌<◌, ◌≡◌, refl, sym, ap, inl, inr, Bool, true, false, not, ◌||◌, List, ◌++◌, mod-lt, mul-le-mul_right, mul-lt-mul_of_pos_right, arith, eqb, length, take, drop, get_or, length-take, length-drop, List·getD-append, eqb-true, row_at, or_no_left, or_no_right, same_eq, row_in, some_number, Header}
use Rattle.refresh_spec.specs.Index.{is_new, generation_seen, rows_seen, columns_named, named_in, bucket_of, chain, entries_under, IndexOf, starts_afresh}

-- equal links make equal chains
pub chain_same : (n : ℕ) (index index' : List ℕ) (link : ℕ) → ((e : ℕ) → e < n → get_or index' (16 + e) 0 ≡ get_or index (16 + e) 0)
    → chain index' n link ≡ chain index n link
unfolding chain
chain_same zero index index' link f = refl
chain_same (suc n) index index' link f =
    let g : (e : ℕ) → e < n → get_or index' (16 + e) 0 ≡ get_or index (16 + e) 0 = λ e h. f e (omega arith) in
    rw (f n (omega arith), chain_same n index index' link g, chain_same n index index' (get_or index (16 + n) 0) g)

pub bucket_below : (buckets value : ℕ) → 0 < buckets → bucket_of buckets value < buckets
unfolding bucket_of
bucket_below buckets value some =
    let m : (value * 2654435769 % 2 ^ 32) * buckets < 2 ^ 32 * buckets = mul-lt-mul_of_pos_right (mod-lt (value * 2654435769) (omega arith)) some in
    omega arith

bucket_none : (value : ℕ) → bucket_of 0 value ≡ 0
unfolding bucket_of
bucket_none value = omega arith

bucket_in : (buckets value room : ℕ) → buckets ≤ room → 0 < room → bucket_of buckets value < room
bucket_in buckets value room few some =
    elim (some_number buckets) [
      | inl e ↦ rw (e, bucket_none value) some
      | inr h ↦ omega (arith, bucket_below buckets value h)
    ]

-- ---- two index stores with the same words wherever an index is read

module _ (h : Header) (index index' : List ℕ) (fit : h.rows ≤ h.capacity)
    (alike : (i : ℕ) → i < 16 + 3 * (h.capacity * columns_named index) → get_or index' i 0 ≡ get_or index i 0) where
  count_alike : columns_named index' ≡ columns_named index
  unfolding columns_named
  count_alike = alike 3 (omega arith)

  seen_alike : rows_seen index' ≡ rows_seen index
  unfolding rows_seen
  seen_alike = alike 2 (omega arith)

  name_alike : (place : ℕ) → place < h.capacity * columns_named index → get_or index' (4 + place) 0 ≡ get_or index (4 + place) 0
  name_alike place k = alike (4 + place) (omega arith)

  entries_alike : {rows : List ℕ} (value : ℕ) → IndexOf h rows index → 0 < h.capacity * columns_named index
      → entries_under h.capacity index' value ≡ entries_under h.capacity index value
  unfolding entries_under
  entries_alike value o some =
      let n = columns_named index in
      let m : rows_seen index * n ≤ h.capacity * n = mul-le-mul_right n (omega (arith, o.seen)) in
      let b = bucket_in (get_or index 12 0) value (2 * (h.capacity * n)) o.buckets_few (omega arith) in
      rw (seen_alike, count_alike, alike 12 (omega arith), alike (16 + h.capacity * n + bucket_of (get_or index 12 0) value) (omega arith))
      (chain_same (rows_seen index * n) index index' _ (λ e k. alike (16 + e) (omega arith)))

  pub index_alike : {rows : List ℕ} → IndexOf h rows index → IndexOf h rows index'
  index_alike {rows} o =
      let n = columns_named index in
      record {
        seen = rw seen_alike o.seen;
        buckets_few = rw (count_alike, alike 12 (omega arith)) o.buckets_few;
        listed = λ row place below live there.
            let k : row < rows_seen index = rw seen_alike at below in
            let l : place < n = rw count_alike at there in
            let m : rows_seen index * n ≤ h.capacity * n = mul-le-mul_right n (omega (arith, o.seen)) in
            let i = row_in row (rows_seen index) n k in
            rw (count_alike, name_alike place (omega arith), entries_alike (get_or (row_at h.columns row rows) (get_or index (4 + place) 0) 0) o (omega arith))
            (o.listed row place k live l);
      }

-- ---- a first part

module _ (h : Header) (index more : List ℕ) (fit : h.rows ≤ h.capacity) (long : 16 + 3 * (h.capacity * columns_named index) ≤ length index) where
  word_front : (i : ℕ) → i < 16 + 3 * (h.capacity * columns_named index) → get_or (index ++ more) i 0 ≡ get_or index i 0
  word_front i k = List·getD-append index more 0 i (omega arith)

  -- an index in a first part is an index in the whole store
  pub index_more : {rows : List ℕ} → IndexOf h rows index → IndexOf h rows (index ++ more)
  index_more = index_alike h index (index ++ more) fit word_front

  pub index_front : {rows : List ℕ} → IndexOf h rows (index ++ more) → IndexOf h rows index
  index_front = index_alike h (index ++ more) index fit (λ i k. sym (word_front i (rw (count_alike h index (index ++ more) fit word_front) at k)))

module _ (index more : List ℕ) (long : 16 ≤ length index) where
  pub new_front : is_new (index ++ more) ≡ is_new index
  unfolding is_new
  new_front = rw (List·getD-append index more 0 0 (omega arith))

  pub generation_front : generation_seen (index ++ more) ≡ generation_seen index
  unfolding generation_seen
  generation_front = List·getD-append index more 0 1 (omega arith)

-- ---- a store that a refresh continues with

pub record Continues (h : Header) (columns index : List ℕ) : Type 0 where
  pub written : is_new index ≡ false
  pub generation : generation_seen index ≡ h.generation
  pub columns_are : named_in index ≡ columns

not-false : (b : Bool) → not b ≡ false → b ≡ true
not-false true e = refl
not-false false e = sym e

pub continues : (h : Header) (columns index : List ℕ) → starts_afresh h columns index ≡ false → Continues h columns index
unfolding starts_afresh
continues h columns index e =
    let a = is_new index || not (eqb (generation_seen index) h.generation) in
    let b : a ≡ false = or_no_left a _ e in
    record {
      written = or_no_left (is_new index) _ b;
      generation = eqb-true _ _ (not-false _ (or_no_right (is_new index) _ b));
      columns_are = same_eq _ _ (not-false _ (or_no_right a _ e));
    }

-- in a store that is long enough for these columns, the stored column count is their number
pub named_count : (capacity : ℕ) (columns index : List ℕ) → 0 < capacity → 16 + 3 * (capacity * length columns) ≤ length index → named_in index ≡ columns
    → columns_named index ≡ length columns
unfolding named_in
named_count capacity columns index some long e =
    let n = length-take (columns_named index) (drop 4 index) in
    let l = length-drop 4 index in
    let m : 1 * length columns ≤ capacity * length columns = mul-le-mul_right (length columns) some in
    let k : length (take (columns_named index) (drop 4 index)) ≡ length columns = ap length e in
    omega arith
