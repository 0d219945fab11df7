-- The loop iterations of `read_conditions`. Assumes nothing.
use Rattle.constraints.proofs.Prelude.{ℕ, suc, ◌+◌, ◌≤◌, ◌<◌, ◌≡◌, sym, ◌∙◌, ap, List, [], ◌∷◌, ◌++◌, arith, length, take, set, length-set, take-suc-set, Constraint, condition_in, conditions_in, none_in, more_in}

pub record Reading (words : List ℕ) (count : ℕ) (all : List Constraint) (i : ℕ) : Type 0 where
  pub long : length all ≡ 16
  pub upto : i ≤ count
  pub front : take i all ≡ conditions_in i words

module _ {words : List ℕ} {count : ℕ} {all : List Constraint} where
  pub reading_begin : length all ≡ 16 → Reading words count all 0
  reading_begin l = record { long = l; upto = omega arith; front = sym (none_in words) }

  pub reading_again : {i : ℕ} {c : Constraint} → count ≤ 16 → i < count → Reading words count all i → c ≡ condition_in words i → Reading words count (set all i c) (i + 1)
  reading_again {i} {c} most less v e =
      let inside : i < length all = omega (arith, v.long) in
      let next : i + 1 ≡ suc i = omega arith in
      record {
        long = length-set all i c ∙ v.long;
        upto = omega arith;
        front = rw next (take-suc-set all i c inside) ∙ ap (λ (l : List Constraint). l ++ (c ∷ [])) v.front ∙ ap (λ (b : Constraint). conditions_in i words ++ (b ∷ [])) e ∙ sym (more_in words i);
      }

  pub reading_end : {i : ℕ} → Reading words count all i → count ≤ i → take count all ≡ conditions_in count words
  reading_end {i} v past = let is : i ≡ count = omega (arith, v.upto) in rw is at v.front
