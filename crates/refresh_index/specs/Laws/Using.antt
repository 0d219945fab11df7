-- What is known of an index store that a refresh continues with. Assumes nothing.
use Rattle.std.specs.Prelude.{◌*◌, ◌≤◌, ◌≡◌, ◌&&◌}
use Rattle.refresh_index.specs.Laws.Prelude.{ℕ, true, List, leb, eqb, length, take, drop, get_or, leb-true, eqb-true, eq-eqb, le-leb, le-ltb, same, and_left, and_right, same_eq, same_refl, Header, Names}
use Rattle.plain_table.specs.Refreshing.{index_short}
use Rattle.refresh_spec.specs.Index.{is_new, generation_seen, rows_seen, columns_named, named_in, starts_afresh, IndexOf, IndexSound}
use Rattle.refresh_spec.specs.inner.Finding.{Lendable, usable}

pub record Usable (h : Header) (columns index : List ℕ) : Type 0 where
  pub first : get_or index 0 0 ≡ 1
  pub generation : generation_seen index ≡ h.generation
  pub named : Names columns index
  pub seen : rows_seen index ≤ h.rows
  pub enough : h.rows * length columns ≤ get_or index 12 0
  pub room : get_or index 12 0 ≤ 2 * (h.capacity * length columns)

pub usable_is : (h : Header) (columns index : List ℕ) → usable h columns index ≡ true → Usable h columns index
unfolding usable
usable_is h columns index u =
    let e₁ = eqb (get_or index 0 0) 1 in
    let e₂ = e₁ && eqb (generation_seen index) h.generation in
    let e₃ = e₂ && eqb (columns_named index) (length columns) in
    let e₄ = e₃ && same (take (length columns) (drop 4 index)) columns in
    let e₅ = e₄ && leb (rows_seen index) h.rows in
    let e₆ = e₅ && leb (h.rows * length columns) (get_or index 12 0) in
    let u₆ : e₆ ≡ true = and_left e₆ _ u in
    let u₅ : e₅ ≡ true = and_left e₅ _ u₆ in
    let u₄ : e₄ ≡ true = and_left e₄ _ u₅ in
    let u₃ : e₃ ≡ true = and_left e₃ _ u₄ in
    let u₂ : e₂ ≡ true = and_left e₂ _ u₃ in
    record {
      first = eqb-true _ _ (and_left e₁ _ u₂);
      generation = eqb-true _ _ (and_right e₁ _ u₂);
      named = record { count = eqb-true _ _ (and_right e₂ _ u₃); names = same_eq _ _ (and_right e₃ _ u₄) };
      seen = leb-true _ _ (and_right e₄ _ u₅);
      enough = leb-true _ _ (and_right e₅ _ u₆);
      room = leb-true _ _ (and_right e₆ _ u);
    }

pub usable_of : (h : Header) (columns index : List ℕ) → Usable h columns index → usable h columns index ≡ true
unfolding usable
usable_of h columns index u =
    rw (eq-eqb _ _ u.first, eq-eqb _ _ u.generation, eq-eqb _ _ u.named.count, u.named.names, same_refl columns, le-leb _ _ u.seen, le-leb _ _ u.enough, le-leb _ _ u.room)

-- a sound store is an index of the rows that it has seen
pub usable_index : {h : Header} {rows columns index : List ℕ} → Lendable h rows columns index → usable h columns index ≡ true → IndexSound h rows columns index → IndexOf h rows index
unfolding index_short starts_afresh is_new named_in
usable_index {h} {rows} {columns} {index} l u sound =
    let v = usable_is h columns index u in
    sound l.rows_long (le-ltb _ _ l.index_long) (rw (v.first, eq-eqb _ _ v.generation, v.named.count, v.named.names, same_refl columns))
