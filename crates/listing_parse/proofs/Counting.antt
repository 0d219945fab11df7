-- The ways through `count_rows`: what is to come from a place is what was to come from the start. Assumes nothing.
use Rattle.listing_parse.proofs.Prelude.{ℕ, ◌+◌, ◌-◌, ◌≤◌, ◌<◌, ◌≡◌, refl, ap, ◌∙◌, Bool, false, List, [], ◌∷◌, arith, length, drop, get_or, length-drop, drop_of_length-le, ne_eqb, lt-ltb, inl, inr, add-one, split, good_last, good_more, RowFound, RowAt, Counted}
use Rattle.listing_spec.specs.inner.Checking.{pieces, is_nil, rows_good, lines_to_rows}
use Rattle.listing_spec.specs.Laws.Pieces.{joined, joined_pieces}

pub record Counting (numbered : Bool) (columns count : ℕ) (text : List ℕ) (start : ℕ) (lent stored : List ℕ) (at least rows : ℕ) : Type 0 where
  pub inside : at ≤ length text
  pub few : rows ≤ 65536
  pub same : length stored ≡ length lent
  pub good : rows_good numbered columns count 0 65536 (pieces (drop start text)) ≡ rows_good numbered columns count least (65536 - rows) (pieces (drop at text))
  pub counted : length (lines_to_rows (pieces (drop start text))) ≡ rows + length (lines_to_rows (pieces (drop at text)))

module _ (numbered : Bool) (columns count : ℕ) (text : List ℕ) (start : ℕ) (lent : List ℕ) where
  pub counting_begin : start ≤ length text → Counting numbered columns count text start lent lent start 0 0
  counting_begin inside = record { inside = inside; few = omega arith; same = refl; good = refl; counted = omega arith }

  wrong_counted : rows_good numbered columns count 0 65536 (pieces (drop start text)) ≡ false → Counted numbered columns count text start 65537
  wrong_counted e = record { bounded = omega arith; wrong = λ z. e; right = λ ne. absurd (ne refl) }

  none_left : (least : ℕ) (ps : List (List ℕ)) → 0 < length (joined ps) → rows_good numbered columns count least 0 ps ≡ false
  none_left least [] long = unfold rows_good in refl
  none_left least (line ∷ rest) long =
      elim (split (is_nil rest)) [
        | inl n ↦
            let same : joined (line ∷ rest) ≡ line = unfold joined in rw n in
            good_last numbered columns count line rest least 0 n ∙ ne_eqb (length line) 0 (λ z. omega (arith, long, z, ap length same))
        | inr n ↦ good_more numbered columns count line rest least 0 n
      ]

  module _ {stored : List ℕ} {at least rows : ℕ} (v : Counting numbered columns count text start lent stored at least rows) where
    pub counting_full : at < length text → rows ≡ 65536 → Counted numbered columns count text start 65537
    counting_full before full =
        let left : 65536 - rows ≡ 0 = omega arith in
        wrong_counted (v.good ∙ rw left (none_left least (pieces (drop at text)) (rw (joined_pieces (drop at text)) (omega (arith, length-drop at text)))))

    pub counting_wrong : {next : ℕ} {stored' : List ℕ} → RowAt numbered columns count least text at next stored' → next ≡ 0 → Counted numbered columns count text start 65537
    counting_wrong r zero = wrong_counted (v.good ∙ r.wrong zero (65536 - rows))

    pub counting_more : {next : ℕ} {stored' : List ℕ} → (rows ≡ 65536 → ⊥) → RowFound numbered columns count least text at next stored' → length stored' ≡ length stored
        → Counting numbered columns count text start lent stored' next (get_or stored' 0 0 + 1) (rows + 1)
    counting_more {next} {stored'} ne r long =
        let room : 0 < 65536 - rows = omega (arith, v.few) in
        let left : 65536 - rows - 1 ≡ 65536 - (rows + 1) = omega arith in
        record {
          inside = r.inside;
          few = omega (arith, v.few);
          same = long ∙ v.same;
          good = v.good ∙ r.good (65536 - rows) ∙ rw (lt-ltb 0 (65536 - rows) room, left, add-one (get_or stored' 0 0));
          counted = omega (arith, v.counted, ap length r.row);
        }

    pub counting_end : length text ≤ at → Counted numbered columns count text start rows
    counting_end over = record {
      bounded = omega (arith, v.few);
      wrong = λ z. absurd (omega (arith, v.few, z));
      right = λ ne. (v.good ∙ rw none_come (unfold rows_good is_nil in refl), omega (arith, v.counted, no_rows));
    }
      where
        none_come : pieces (drop at text) ≡ [] ∷ []
        none_come = rw (drop_of_length-le text over) (unfold pieces in refl)

        no_rows : length (lines_to_rows (pieces (drop at text))) ≡ 0
        no_rows = rw none_come (unfold lines_to_rows is_nil in refl)
