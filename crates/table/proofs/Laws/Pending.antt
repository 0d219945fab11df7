-- Laws of the pending store: the number of words that staged records take, and the effect of more records. Assumes nothing.
use Rattle.table.proofs.Laws.Prelude.{ℕ, ◌+◌, ◌≤◌, ◌≡◌, refl, sym, ap, ap₂, ◌∙◌, false, not, List, [], ◌∷◌, ◌++◌, map, map-append, arith, length, length-append, length-take, eqb-true, not-true, not-false, front_splice, all_head, all_tail, all_append, flatten_append, Whole}
use Rattle.lists.specs.Lists.{splice, flatten}
use Rattle.plain_table.specs.Staged.{Opening, Staged, insert, remove_key, remove_row, words_of, words_all}
use Rattle.plain_table.specs.Refusing.{wrong_width}
use Rattle.table.specs.Stores.{record_words, Holds}

-- "columns plus 2, keys plus 2, keys plus 3"
pub length_record_words : (o : Opening) (r : Staged) → wrong_width o r ≡ false → length (record_words o.keys r) ≡ words_of o r
unfolding record_words words_of wrong_width
length_record_words o (insert cells) e = let q : length cells ≡ o.columns = eqb-true _ _ (not-false _ e) in omega arith
length_record_words o (remove_key key) e = let q : length key ≡ o.keys = eqb-true _ _ (not-false _ e) in omega arith
length_record_words o (remove_row row key) e = let q : length key ≡ o.keys = eqb-true _ _ (not-false _ e) in omega arith

-- the words of a list of records
pub length_records : (o : Opening) (staged : List Staged) → Whole o staged → length (flatten (map (record_words o.keys) staged)) ≡ words_all o staged
unfolding flatten words_all
length_records o [] e = refl
length_records o (r ∷ rs) e =
    length-append (record_words o.keys r) (flatten (map (record_words o.keys) rs))
    ∙ ap₂ ◌+◌ (length_record_words o r (not-true _ (all_head (λ r. not (wrong_width o r)) r rs e))) (length_records o rs (all_tail (λ r. not (wrong_width o r)) r rs e))

-- the words of two lists of records
pub words_all_append : (o : Opening) (a b : List Staged) → words_all o (a ++ b) ≡ words_all o a + words_all o b
unfolding words_all
words_all_append o [] b = omega arith
words_all_append o (r ∷ a) b = let h = words_all_append o a b in omega arith

records_append : (keys : ℕ) (a b : List Staged) → flatten (map (record_words keys) (a ++ b)) ≡ flatten (map (record_words keys) a) ++ flatten (map (record_words keys) b)
records_append keys a b = ap flatten (map-append (record_words keys) a b) ∙ flatten_append (map (record_words keys) a) (map (record_words keys) b)

-- a pending store is at least as long as the records that it holds
pub holds_fits : {o : Opening} {pending : List ℕ} {staged : List Staged} → Holds o pending staged → words_all o staged ≤ length pending
holds_fits {o} {pending} {staged} h =
    let e = ap length h.in_order ∙ length_records o staged h.whole in
    omega (arith, simp length-take at e)

-- records that are written after the others are held too
pub holds_more : {o : Opening} {pending : List ℕ} {staged : List Staged} (rs : List Staged) → Holds o pending staged → Whole o rs
    → words_all o staged + words_all o rs ≤ length pending
    → Holds o (splice pending (words_all o staged) (flatten (map (record_words o.keys) rs))) (staged ++ rs)
holds_more {o} {pending} {staged} rs h w k =
    let words : List ℕ = flatten (map (record_words o.keys) rs) in
    let n : length words ≡ words_all o rs = length_records o rs w in
    let e : words_all o (staged ++ rs) ≡ words_all o staged + length words = omega (arith, words_all_append o staged rs) in
    record {
      whole = all_append (λ q. not (wrong_width o q)) staged rs h.whole w;
      in_order =
          rw e (front_splice pending words (words_all o staged) (omega arith))
          ∙ ap (λ (l : List ℕ). l ++ words) h.in_order
          ∙ sym (records_append o.keys staged rs);
    }
