-- The turns of `mark_chain`, from entry to entry. Assumes nothing.
use Rattle.refresh_index.proofs.Prelude.{ℕ, ◌+◌, ◌-◌, ◌*◌, ◌≤◌, ◌<◌, ◌≡◌, Bool, true, List, [], mul-le-mul_right, length, get_or, Header, Lendable, usable, heads_at, MarkedAll, chain_on, usable_is}
use Rattle.lists.specs.Lists.{any}
use Rattle.refresh_spec.specs.Index.{rows_seen, bucket_of, chain, entries_under, leads_to}
use Rattle.refresh_spec.specs.inner.Finding.{leads}
use Rattle.refresh_index.proofs.Sizes.{small}
use Rattle.refresh_index.proofs.Goings.{Going, going_begin, going_on, going_end}

-- the numbers of a store that is looked up
pub record ChainReady (h : Header) (columns index : List ℕ) : Type 0 where
  pub seen : get_or index 2 0 * length columns ≤ h.rows * length columns
  pub enough : h.rows * length columns ≤ get_or index 12 0
  pub room : get_or index 12 0 ≤ 2 * (h.capacity * length columns)
  pub fits : h.rows * length columns ≤ h.capacity * length columns
  pub few : h.capacity * length columns ≤ 524288
  pub long : 16 + 3 * (h.capacity * length columns) ≤ length index

pub chain_ready : (h : Header) (rows columns index : List ℕ) → Lendable h rows columns index → usable h columns index ≡ true → ChainReady h columns index
unfolding rows_seen
chain_ready h rows columns index l u =
    let s = small h (length columns) l.inside l.columns_few in
    let v = usable_is h columns index u in
    record {
      seen = mul-le-mul_right (length columns) v.seen;
      enough = v.enough;
      room = v.room;
      fits = s.entries_fit;
      few = s.entries_few;
      long = l.index_long;
    }

-- the chain of a value, as the code starts it
pub under_is : (h : Header) (columns index : List ℕ) (value : ℕ) → usable h columns index ≡ true
    → entries_under h.capacity index value ≡ chain index (get_or index 2 0 * length columns) (get_or index (heads_at h columns + bucket_of (get_or index 12 0) value) 0)
unfolding entries_under rows_seen
under_is h columns index value u = rw (usable_is h columns index u).named.count

-- from entry to entry

pub chain_begin : (h : Header) (rows columns : List ℕ) (value : ℕ) (whole entries words : List ℕ) → whole ≡ entries
    → Going (leads h rows columns value whole) (leads h rows columns value entries) words words 0
chain_begin h rows columns value whole entries words e = rw (← e) (going_begin (leads h rows columns value whole) words)

module _ (h : Header) (rows columns : List ℕ) (value : ℕ) {all : ℕ → Bool} {words words₁ : List ℕ} {a : ℕ} where
  pub chain_step : {words₂ : List ℕ} {b : ℕ} (index : List ℕ) (limit link : ℕ) → 0 < link → link ≤ limit → Going all (leads h rows columns value (chain index limit link)) words words₁ a
      → MarkedAll (leads_to h rows columns value (link - 1)) words₁ words₂ b
      → Going all (leads h rows columns value (chain index (link - 1) (get_or index (16 + (link - 1)) 0))) words words₂ (a + b)
  unfolding leads any
  chain_step index limit link some below g m = going_on g (λ i. rw (chain_on index limit link some below)) m

  pub chain_end : (entries : List ℕ) → entries ≡ [] → Going all (leads h rows columns value entries) words words₁ a → MarkedAll all words words₁ a
  unfolding leads any
  chain_end entries e g = going_end g (λ i. rw e)
