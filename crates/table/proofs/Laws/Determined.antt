-- Each contract determines the outcome: two outcomes that both meet it, on the same input, have the same answer and the same lent
-- cells. So it excludes every program with another outcome. Choice is left in four places only: after a merge or a compaction, the
-- key store's slots below 2 × capacity; after an opening or a clear, those of them that are not in use; after a compaction, the
-- compaction words needed; and, if the stores represent no table, everything but the refusal and what is never written. Assumes
-- nothing.
use Rattle.table.specs.declared.Version.{Version}
use Rattle.table.specs.declared.Merge.{Merge}
use Rattle.refusals.specs.Laws.Numbers.{answer_view_injective, found_view_injective, number_injective}
use Rattle.sort_entries.specs.declared.Range.{Range}
use Rattle.refusals.specs.declared.Refusal.{Refusal}
use Rattle.std.specs.Prelude.{Result, Ok, Err, Option as Optional, Bool}
use Rattle.table.proofs.Laws.Prelude.{ℕ, ◌*◌, ◌<◌, ◌≡◌, refl, sym, ap, ap₂, ◌∙◌, ⊎_elim, true, false, List, [], arith, length, take, length-take, length-replicate, get_or-replicate, ext_get_or, get_or-take, some_number, Same, SameAnswer, refused_same, answer_same, Constraint, entries_of, entries_sound, size_class_for, KeysSound, zeros, empty_free, size_class_most, Opening, Staged, open_refusal, Header, stage_refusal, merge_refusal, compact_refusal, clear_refusal, lookup_refusal, cell_refusal, fast_refusal, index_shape_of, KeysDiffer, stores, lengths, Represents, SamePast, Opened, Staging, Merging, Compacting, Clearing, LookedUp, CellRead, RangeRead, VersionRead, RowsSince, RowsSinceVersion, Checked, Body, body_of, joined, CompactionWords, lengths_lent, Stores}
use Rattle.refusals.specs.Refusals.{outcome}
use Rattle.plain_table.specs.Plain.{Plain, opened, merged, cleared}
use Rattle.refusals.specs.Refusals.{answer_view, found_view}
use Rattle.table.specs.Numbers.{range_view}
use Rattle.table.proofs.Laws.Shown.{represents_long, rows_counted}
use Rattle.table.proofs.Laws.Opening.{cleared_rows, cleared_opening}
use Rattle.table.proofs.Laws.Answers.{range_view_injective}
use Rattle.table.specs.Outcomes.{WordsPast}

-- ---- *Open*

-- the slots in use of a table without rows
abbrev pub slots_used : ℕ → List ℕ → List ℕ
slots_used capacity keys = take (2 * size_class_for capacity 0) keys

-- they leave no choice: every slot is free
empty_keys : (p : Plain) (h : Header) (rows keys sorts pending : List ℕ) → length p.rows ≡ 0 → Represents p (stores h rows keys sorts pending)
    → slots_used p.opening.capacity keys ≡ zeros (2 * size_class_for p.opening.capacity 0)
empty_keys p h rows keys sorts pending none r =
    let e : size_class_for h.capacity h.rows ≡ size_class_for p.opening.capacity 0 = ap₂ size_class_for (ap (λ (x : Header). x.capacity) r.shown.header) (rows_counted r ∙ none) in
    let n = 2 * size_class_for p.opening.capacity 0 in
    let l : length (take n keys) ≡ n = length-take n keys ∙ omega (arith, (represents_long r).keys_long, size_class_most p.opening.capacity 0) in
    let z : length (zeros n) ≡ n = length-replicate n 0 in
    ext_get_or 0 (take n keys) (zeros n) (l ∙ sym z) (λ i k.
    let m : i < n = omega arith in
    get_or-take n keys i 0 m ∙ empty_free _ rows keys (λ j live. omega (arith, live.0, rows_counted r)) r.keys_sound i (omega arith) ∙ sym (get_or-replicate n i 0 0 m))

module _ (o : Opening) (generation : ℕ) (s : Body) (pending : List ℕ) (a : Result Header Refusal) (keys₁ : List ℕ) (b : Result Header Refusal) (keys₂ : List ℕ) where
  pub record SameOpening : Type 0 where
    pub refused : 0 < open_refusal o (lengths s.rows s.keys s.sorts pending [] []) → Same a b keys₁ keys₂
    pub slots_past : SamePast (2 * o.capacity) keys₁ keys₂
    -- equal but for the choice
    pub table : Same a b (slots_used o.capacity keys₁) (slots_used o.capacity keys₂)

  pub opened_determined : Opened o generation s pending a keys₁ → Opened o generation s pending b keys₂ → SameOpening
  unfolding opened
  opened_determined x y =
      let answers : a ≡ b = answer_view_injective a b (x.answers ∙ sym y.answers) in
      record {
        refused = λ some. record { answer = answers; cells = x.unchanged some ∙ sym (y.unchanged some) };
        slots_past = y.past ∙ sym x.past;
        table = record {
          answer = answers;
          cells =
              ⊎_elim
              (λ none. empty_keys (opened o generation) _ s.rows keys₁ s.sorts pending refl (x.represents none) ∙ sym (empty_keys (opened o generation) _ s.rows keys₂ s.sorts pending refl (y.represents none)))
              (λ some. ap (slots_used o.capacity) (x.unchanged some ∙ sym (y.unchanged some)))
              (some_number (open_refusal o (lengths s.rows s.keys s.sorts pending [] [])));
        };
      }

-- ---- *Stage*

-- the paper leaves the layout of the pending store open; the contract does not
pub staging_determined : {h : Header} {r : Staged} {pending pending₁ pending₂ : List ℕ} {a b : Result Header Refusal}
    → Staging h pending r a pending₁ → Staging h pending r b pending₂ → Same a b pending₁ pending₂
staging_determined {h} {r} {pending} {a = a} {b = b} x y =
    record {
      answer = answer_view_injective a b (x.answers ∙ sym y.answers);
      cells =
          ⊎_elim (λ none. x.written none ∙ sym (y.written none)) (λ some. x.unchanged some ∙ sym (y.unchanged some))
          (some_number (stage_refusal h (length pending) r));
    }

-- ---- *Merge*, *Compact*

-- the outcome of a merge or compaction: its answer, and the stores and words that it may write
pub record CallResult (A : Type 0) : Type 0 where
  pub answer : A
  pub body : Body
  pub words : CompactionWords

-- two outcomes on a table: equal but for the choices
pub record SameTable {A : Type 0} (x y : CallResult A) : Type 0 where
  pub answer : x.answer ≡ y.answer
  pub rows : x.body.rows ≡ y.body.rows
  pub sorts : x.body.sorts ≡ y.body.sorts

-- equal outcomes are equal but for the choices
same_table : {A : Type 0} {x y : CallResult A} → x ≡ y → SameTable x y
same_table {A} e =
    record { answer = ap (λ (z : CallResult A). z.answer) e; rows = ap (λ (z : CallResult A). z.body.rows) e; sorts = ap (λ (z : CallResult A). z.body.sorts) e }

-- two outcomes that leave the lent stores unchanged are equal
unchanged_same : {A : Type 0} (b : Body) (w : CompactionWords) (x y : CallResult A) → x.answer ≡ y.answer
    → (x.body ≡ b) × (x.words ≡ w) → (y.body ≡ b) × (y.words ≡ w) → x ≡ y
unchanged_same b w x y answers u v =
    λ i. record { answer = answers i; body = (u.0 ∙ sym v.0) i; words = (u.1 ∙ sym v.1) i }

module _ (s : Stores) (w : CompactionWords) (x y : CallResult (Result Merge Refusal)) where
  pub record SameMerge : Type 0 where
    -- on any stores: refused with the same number, or both accepted
    pub outcomes : outcome (answer_view x.answer) ≡ outcome (answer_view y.answer)
    pub refused : 0 < merge_refusal s.header (lengths_lent s w) → x ≡ y
    -- equal in what is never written
    pub slots_past : SamePast (2 * s.header.capacity) x.body.keys y.body.keys
    pub words_past : WordsPast s.header.capacity x.words y.words
    -- on a table: equal but for the choices
    pub table : (p : Plain) → Represents p s → SameTable x y
    -- equal compaction words, if nothing is compacted
    pub words : (p : Plain) → Represents p s → (merged p).table.generation ≡ p.generation → x.words ≡ y.words

  pub merging_determined : Merging s w x.answer x.body x.words → Merging s w y.answer y.body y.words → SameMerge
  merging_determined u v =
      let n = some_number (merge_refusal s.header (lengths_lent s w)) in
      let alike : 0 < merge_refusal s.header (lengths_lent s w) → x ≡ y =
      λ some. unchanged_same (body_of s) w x y (refused_same answer_view_injective u.refusal v.refusal some) (u.unchanged some) (v.unchanged some) in
      record {
        outcomes = u.refusal ∙ sym v.refusal;
        refused = alike;
        slots_past = v.past ∙ sym u.past;
        words_past = (v.words_past.0 ∙ sym u.words_past.0, v.words_past.1 ∙ sym u.words_past.1);
        table = λ p t.
            ⊎_elim
            (λ none.
            let e = u.table none p t in
            let f = v.table none p t in
            record { answer = answer_view_injective _ _ (e.answers ∙ sym f.answers); rows = e.rows_after ∙ sym f.rows_after; sorts = e.sorts_after ∙ sym f.sorts_after })
            (λ some. same_table (alike some))
            n;
        words = λ p t same.
            ⊎_elim (λ none. (u.table none p t).words same ∙ sym ((v.table none p t).words same))
            (λ some. ap (λ (z : CallResult (Result Merge Refusal)). z.words) (alike some))
            n;
      }

module _ (h : Header) (b : Body) (w : CompactionWords) (x y : CallResult (Result Header Refusal)) where
  pub record SameCompaction : Type 0 where
    -- on any stores: refused with the same number, or both accepted
    pub outcomes : outcome (answer_view x.answer) ≡ outcome (answer_view y.answer)
    pub refused : 0 < compact_refusal h (lengths_lent (joined h b []) w) → x ≡ y
    -- equal in what is never written
    pub slots_past : SamePast (2 * h.capacity) x.body.keys y.body.keys
    pub words_past : WordsPast h.capacity x.words y.words
    -- on a table: equal but for the choices
    pub table : (pending : List ℕ) (p : Plain) → Represents p (joined h b pending) → SameTable x y

  pub compacting_determined : Compacting h b w x.answer x.body x.words → Compacting h b w y.answer y.body y.words → SameCompaction
  compacting_determined u v =
      let alike : 0 < compact_refusal h (lengths_lent (joined h b []) w) → x ≡ y =
      λ some. unchanged_same b w x y (refused_same answer_view_injective u.refusal v.refusal some) (u.unchanged some) (v.unchanged some) in
      record {
        outcomes = u.refusal ∙ sym v.refusal;
        refused = alike;
        slots_past = v.past ∙ sym u.past;
        words_past = (v.words_past.0 ∙ sym u.words_past.0, v.words_past.1 ∙ sym u.words_past.1);
        table = λ pending p t.
            ⊎_elim
            (λ none.
            let e = u.table none pending p t in
            let f = v.table none pending p t in
            record { answer = answer_view_injective _ _ (e.answers ∙ sym f.answers); rows = e.rows_after ∙ sym f.rows_after; sorts = e.sorts_after ∙ sym f.sorts_after })
            (λ some. same_table (alike some))
            (some_number (compact_refusal h (lengths_lent (joined h b []) w)));
      }

-- ---- *Clear*

module _ (h : Header) (keys : List ℕ) (a : Result Header Refusal) (keys₁ : List ℕ) (b : Result Header Refusal) (keys₂ : List ℕ) where
  pub record SameClear : Type 0 where
    -- on any stores: refused with the same number, or both accepted
    pub outcomes : outcome (answer_view a) ≡ outcome (answer_view b)
    pub refused : 0 < clear_refusal h (length keys) → Same a b keys₁ keys₂
    -- equal in what is never written
    pub slots_past : SamePast (2 * h.capacity) keys₁ keys₂
    -- on a table: equal but for the choice
    pub table : (rows sorts pending : List ℕ) (p : Plain) → Represents p (stores h rows keys sorts pending) → Same a b (slots_used h.capacity keys₁) (slots_used h.capacity keys₂)

  pub clearing_determined : Clearing h keys a keys₁ → Clearing h keys b keys₂ → SameClear
  clearing_determined u v =
      let alike : 0 < clear_refusal h (length keys) → Same a b keys₁ keys₂ =
      λ some. record { answer = refused_same answer_view_injective u.refusal v.refusal some; cells = u.unchanged some ∙ sym (v.unchanged some) } in
      record {
        outcomes = u.refusal ∙ sym v.refusal;
        refused = alike;
        slots_past = v.past ∙ sym u.past;
        table = λ rows sorts pending p t.
            ⊎_elim
            (λ none.
            let e = u.table none rows sorts pending p t in
            let f = v.table none rows sorts pending p t in
            let c : h.capacity ≡ (cleared p).opening.capacity =
            ap (λ (g : Header). g.capacity) t.shown.header ∙ ap (λ (o : Opening). o.capacity) (sym (cleared_opening p)) in
            record {
              answer = answer_view_injective a b (e.answers ∙ sym f.answers);
              cells = rw c (empty_keys (cleared p) _ rows keys₁ sorts pending (cleared_rows p) e.represents ∙ sym (empty_keys (cleared p) _ rows keys₂ sorts pending (cleared_rows p) f.represents));
            })
            (λ some. record { answer = (alike some).answer; cells = ap (slots_used h.capacity) (alike some).cells })
            (some_number (clear_refusal h (length keys)));
      }

-- ---- *Key lookup*, *one cell*, *Fast range*

-- the key store leads to the live rows, and their keys differ
abbrev pub KnownKeys : Header → List ℕ → List ℕ → Type 0
KnownKeys h rows keys = KeysSound (index_shape_of h) rows keys × KeysDiffer h rows

pub looked_up_determined : {h : Header} {rows keys key : List ℕ} {a b : Result (Optional ℕ) Refusal} → LookedUp h rows keys key a → LookedUp h rows keys key b
    → SameAnswer found_view (lookup_refusal h (length rows) (length keys) (length key)) (KnownKeys h rows keys) a b
looked_up_determined u v =
    answer_same found_view_injective u.refusal v.refusal (λ none k. u.table none k.0 k.1 ∙ sym (v.table none k.0 k.1))

pub cell_read_determined : {h : Header} {rows keys key : List ℕ} {column : ℕ} {a b : Result (Optional ℕ) Refusal} → CellRead h rows keys key column a → CellRead h rows keys key column b
    → SameAnswer found_view (cell_refusal h (length rows) (length keys) (length key) column) (KnownKeys h rows keys) a b
cell_read_determined u v =
    answer_same found_view_injective u.refusal v.refusal (λ none k. u.table none k.0 k.1 ∙ sym (v.table none k.0 k.1))

pub range_read_determined : {h : Header} {sorts : List ℕ} {c : Constraint} {a b : Result (Optional Range) Refusal} → RangeRead h sorts c a → RangeRead h sorts c b
    → SameAnswer range_view (fast_refusal h (length sorts) c) (entries_sound (entries_of h.entries sorts) h.rows ≡ true) a b
range_read_determined u v = answer_same range_view_injective u.refusal v.refusal (λ none rise. u.table none rise ∙ sym (v.table none rise))

-- ---- *Version*, *Rows since*

pub version_read_determined : {h : Header} {a b : Result Version Refusal} → VersionRead h a → VersionRead h b → a ≡ b
version_read_determined {a = a} {b = b} x y = answer_view_injective a b (x.answers ∙ sym y.answers)

pub rows_since_determined : {h : Header} {row : ℕ} {a b : Result (Optional Range) Refusal} → RowsSince h row a → RowsSince h row b → a ≡ b
rows_since_determined {a = a} {b = b} x y = range_view_injective a b (x.answers ∙ sym y.answers)

pub rows_since_version_determined : {h : Header} {generation count : ℕ} {a b : Result (Optional Range) Refusal} → RowsSinceVersion h generation count a → RowsSinceVersion h generation count b → a ≡ b
rows_since_version_determined {a = a} {b = b} x y = range_view_injective a b (x.answers ∙ sym y.answers)

-- ---- the soundness check: stores are sound or they are not

pub checked_determined : {h : Header} {rows keys sorts pending : List ℕ} {a b : Result Bool Refusal}
    → Checked h rows keys sorts pending a → Checked h rows keys sorts pending b → a ≡ b
unfolding answer_view outcome
checked_determined {a = Err m} {b = Err n} x y = let e = x.refusal ∙ sym y.refusal in ap Err (number_injective m n cc)
checked_determined {a = Err m} {b = Ok s} x y = let e = x.refusal ∙ sym y.refusal in cc
checked_determined {a = Ok r} {b = Err n} x y = let e = x.refusal ∙ sym y.refusal in cc
checked_determined {a = Ok true} {b = Ok true} x y = refl
checked_determined {a = Ok true} {b = Ok false} x y = let s = x.sound refl in absurd (y.unsound refl s.0 s.1)
checked_determined {a = Ok false} {b = Ok true} x y = let s = y.sound refl in absurd (x.unsound refl s.0 s.1)
checked_determined {a = Ok false} {b = Ok false} x y = refl
