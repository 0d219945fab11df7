-- The turns of `push_row`, `push_live` and `fill`: entries pushed one after another. Assumes nothing.
use Rattle.refresh_index.proofs.Prelude.{ℕ, suc, ◌+◌, ◌-◌, ◌*◌, ◌≤◌, ◌<◌, ◌≡◌, refl, sym, ap, ◌∙◌, true, false, false≢true, List, ℕ_discrete, dec_lt, add-one, arith, length, drop, get_or, set, get_or-set_other, drop-set-lt, elem, row_at, elem_here, is_live, Header, bucket_of, chain, chain_longer, pushed_own, pushed_keeps, entry_in, bucket_below}
use Rattle.refresh_index.specs.inner.Entries.{cell_named, entry_live, entry_value, heads_at, pushed, Listed, Fillable, Pushed}
use Rattle.refresh_index.proofs.Sizes.{small}

pushed_past : (index : List ℕ) (head entry n : ℕ) → 16 + entry < n → head < n → drop n (pushed index head entry) ≡ drop n index
unfolding pushed
pushed_past index head entry n h k =
    drop-set-lt n (set index (16 + entry) (get_or index head 0)) head (entry + 1) k ∙ drop-set-lt n index (16 + entry) (get_or index head 0) h

pushed_below : (index : List ℕ) (head entry : ℕ) → 16 + entry < head → (e : ℕ) → e < entry → get_or (pushed index head entry) (16 + e) 0 ≡ get_or index (16 + e) 0
unfolding pushed
pushed_below index head entry h e k =
    get_or-set_other (set index (16 + entry) (get_or index head 0)) head (16 + e) (entry + 1) 0 (omega arith)
    ∙ get_or-set_other index (16 + entry) (16 + e) (get_or index head 0) 0 (omega arith)

pub push_none : {h : Header} {rows columns index : List ℕ} {buckets n : ℕ} → Pushed h rows columns buckets n index n index
push_none = record { up = omega arith; lists = λ l. l; same_below = λ entry k. refl; past = refl }

pub push_then : {h : Header} {rows columns index index₁ index₂ : List ℕ} {buckets n n₁ n₂ : ℕ} → Pushed h rows columns buckets n index n₁ index₁
    → Pushed h rows columns buckets n₁ index₁ n₂ index₂ → Pushed h rows columns buckets n index n₂ index₂
push_then p q =
    record {
      up = omega (arith, p.up, q.up);
      lists = λ l. q.lists (p.lists l);
      same_below = λ entry k. q.same_below entry (omega (arith, k, p.up)) ∙ p.same_below entry k;
      past = q.past ∙ p.past;
    }

-- the entries of a dead row need not be pushed
module _ (h : Header) (rows columns : List ℕ) (row : ℕ) (dead : is_live (row_at h.columns row rows) ≡ false) where
  dead_place : (place : ℕ) → place < length columns → entry_live h rows columns (row * length columns + place) ≡ false
  unfolding entry_live
  dead_place place p = rw (entry_in (suc row) (length columns) row place (omega arith) p).row_of dead

  dead_entry : (entry : ℕ) → row * length columns ≤ entry → entry < row * length columns + length columns → entry_live h rows columns entry ≡ false
  dead_entry entry low high =
      let e : row * length columns + (entry - row * length columns) ≡ entry = omega (arith, low) in
      sym (ap (entry_live h rows columns) e) ∙ dead_place (entry - row * length columns) (omega (arith, low, high))

  pub push_dead : (buckets : ℕ) (index : List ℕ) → Pushed h rows columns buckets (row * length columns) index (row * length columns + length columns) index
  push_dead buckets index =
      record {
        up = omega arith;
        lists = λ l. record {
          each = λ entry k live.
              elim (dec_lt entry (row * length columns)) [
                | yes b ↦ chain_longer index (row * length columns) _ entry (l.each entry b live) (length columns)
                | no b ↦ absurd (false≢true (sym (dead_entry entry (omega (arith, b)) k) ∙ live))
              ];
        };
        same_below = λ entry k. refl;
        past = refl;
      }

module _ (h : Header) (rows columns : List ℕ) (buckets : ℕ) where
  -- one more entry is listed under its value
  listed_one : (n : ℕ) (index : List ℕ) → 16 + n < heads_at h columns → heads_at h columns + bucket_of buckets (entry_value h rows columns n) < length index
      → Listed h rows columns buckets n index
      → Listed h rows columns buckets (n + 1) (pushed index (heads_at h columns + bucket_of buckets (entry_value h rows columns n)) n)
  listed_one n index below inside l =
      record {
        each = λ e k live.
            rw add-one (elim (ℕ_discrete e n) [
              | yes p ↦ own e p
              | no p ↦ pushed_keeps index _ n (omega arith) inside _ e (omega arith) (l.each e (omega arith) live)
            ]);
      }
    where
      own : (e : ℕ) → e ≡ n → let index' = pushed index (heads_at h columns + bucket_of buckets (entry_value h rows columns n)) n in
          elem e (chain index' (suc n) (get_or index' (heads_at h columns + bucket_of buckets (entry_value h rows columns e)) 0)) ≡ true
      own e p = rw (p, pushed_own index (heads_at h columns + bucket_of buckets (entry_value h rows columns n)) n (omega arith) inside) (elem_here n n _ refl)

  -- the entry of a row and a place fits
  pub record Pushable (row place : ℕ) (index : List ℕ) : Type 0 where
    pub some : 0 < buckets
    pub few : row * length columns + place < 524288
    pub below : 16 + (row * length columns + place) < heads_at h columns
    pub room : heads_at h columns + buckets ≤ length index

  module _ (index : List ℕ) (f : Fillable h rows columns buckets index) (row place : ℕ) (r : row < h.rows) (p : place < length columns) where
    pub pushable : (index' : List ℕ) → length index' ≡ length index → Pushable row place index'
    pushable index' same =
        let s = small h (length columns) f.lendable.inside f.lendable.columns_few in
        let e = entry_in h.rows (length columns) row place r p in
        record { some = omega (arith, f.enough); few = omega arith; below = omega arith; room = omega (arith, f.room, f.lendable.index_long) }

    value_of : entry_value h rows columns (row * length columns + place) ≡ cell_named h rows columns row place
    unfolding entry_value
    value_of = let e = entry_in h.rows (length columns) row place r p in rw (e.row_of, e.place_of)

    pub push_one : (index₁ : List ℕ) → length index₁ ≡ length index → (value : ℕ) → value ≡ cell_named h rows columns row place
        → (index₂ : List ℕ) → index₂ ≡ pushed index₁ (heads_at h columns + bucket_of buckets value) (row * length columns + place)
        → Pushed h rows columns buckets (row * length columns + place) index₁ (row * length columns + (place + 1)) index₂
    push_one index₁ same value v index₂ done =
        let a = pushable index₁ same in
        let b = bucket_below buckets value a.some in
        let next : row * length columns + (place + 1) ≡ row * length columns + place + 1 = omega arith in
        let e : value ≡ entry_value h rows columns (row * length columns + place) = v ∙ sym value_of in
        let inside : heads_at h columns + bucket_of buckets value < length index₁ = omega arith in
        record {
          up = omega arith;
          same_below = λ entry k. rw done (pushed_below index₁ (heads_at h columns + bucket_of buckets value) (row * length columns + place) (omega (arith, a.below)) entry k);
          lists = λ l. rw (done, next, e) (listed_one (row * length columns + place) index₁ a.below (rw e at inside) l);
          past = rw done (pushed_past index₁ (heads_at h columns + bucket_of buckets value) (row * length columns + place) (16 + 3 * (h.capacity * length columns)) (omega arith) (omega (arith, f.room)));
        }
