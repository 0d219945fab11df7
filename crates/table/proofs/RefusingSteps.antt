-- The tests of refusing.rt one by one: what each exit of a function proves of its refusal. Assumes nothing.
use Rattle.table.proofs.Prelude.{ℕ, ◌+◌, ◌*◌, ◌/◌, ◌≤◌, ◌<◌, ◌≡◌, refl, sym, ◌∙◌, inl, inr, Bool, true, false, not, ◌||◌, List, [], ◌∷◌, mul-le-mul, arith, leb, ltb, leb-true, leb-false, lt-ltb, le-ltb, le-leb, lt-leb, eq-eqb, ne_eqb, split, or_no_left, Constraint, known, first_refusal_no, first_refusal_rest, Bounds, openable_bounds, Header, opening_of, Inside, outside_inside, bounds_kept, ◌&&◌, and-true}
use Rattle.refusals.specs.Refusals.{Check, check, first_refusal}
use Rattle.plain_table.specs.Staged.{Opening, openable}
use Rattle.plain_table.specs.Refusing.{Lengths, stores_short, words_short, open_refusal, compact_checks, merge_checks, clear_checks}
use Rattle.table.specs.Refusing.{outside, pending_outside, rows_short, pairs_short, merge_refusal, compact_refusal, clear_refusal, lookup_refusal, cell_refusal, fast_refusal, version_refusal, since_refusal, noted_refusal, sound_refusal, lookup_checks}

not_leb : (a b : ℕ) → ltb b a ≡ not (leb a b)
not_leb a b = elim (split (leb a b)) [ inl e ↦ rw (e, le-ltb b a (leb-true a b e)) | inr e ↦ rw (e, lt-ltb b a (leb-false a b e)) ]

-- adds a fourth check to a list of three: what the three refuse is refused with the same number
module _ (a b c : Bool) (rest : List Check) where
  three_some : (first_refusal (check a 1 ∷ check b 2 ∷ check c 3 ∷ []) ≡ 0 → ⊥) → first_refusal (check a 1 ∷ check b 2 ∷ check c 3 ∷ []) ≡ first_refusal (check a 1 ∷ check b 2 ∷ check c 3 ∷ rest)
  unfolding first_refusal
  three_some some =
      elim (split a) [
        | inl p ↦ rw p
        | inr p ↦ elim (split b) [
          | inl q ↦ rw (p, q)
          | inr q ↦ elim (split c) [ inl r ↦ rw (p, q, r) | inr r ↦ absurd (some (rw (p, q, r))) ]
        ]
      ]

  three_past : a ≡ false → b ≡ false → c ≡ false → first_refusal (check a 1 ∷ check b 2 ∷ check c 3 ∷ rest) ≡ first_refusal rest
  unfolding first_refusal
  three_past p q r = rw (p, q, r)

  -- otherwise the added check decides
  three_none : first_refusal (check a 1 ∷ check b 2 ∷ check c 3 ∷ []) ≡ 0 → first_refusal (check a 1 ∷ check b 2 ∷ check c 3 ∷ rest) ≡ first_refusal rest
  three_none e =
      let u = first_refusal_rest a 0 _ e in
      let v = first_refusal_rest b 1 _ u in
      three_past (first_refusal_no a 0 _ e) (first_refusal_no b 1 _ u) (first_refusal_no c 2 _ v)

-- ---- test 1

module _ (o : Opening) where
  -- a number of the opening is out of its bounds
  pub unopenable : (Bounds o → ⊥) → false ≡ openable o
  unopenable wrong = elim (split (openable o)) [ inl e ↦ absurd (wrong (openable_bounds o e)) | inr e ↦ sym e ]

  -- the bounds of the capacity come last
  openable_kept : openable o ≡ (bounds_kept o.columns o.keys o.sort o.rule && leb 1 o.capacity && leb o.capacity 65536)
  unfolding openable
  openable_kept = rw (and-true, and-true)

  -- another number is out of its bounds
  pub unkept : bounds_kept o.columns o.keys o.sort o.rule ≡ false → false ≡ openable o
  unkept e = rw (openable_kept, e)

  -- all but the last are within them
  pub openable_last : bounds_kept o.columns o.keys o.sort o.rule ≡ true → 1 ≤ o.capacity → leb o.capacity 65536 ≡ openable o
  openable_last e g = rw (openable_kept, e, le-leb _ _ g)

-- all but the rule are within them
pub kept_last : (columns keys sort rule : ℕ) → 1 ≤ columns → columns ≤ 8 → 1 ≤ keys → keys ≤ columns → sort < columns → leb rule 3 ≡ bounds_kept columns keys sort rule
unfolding openable
kept_last columns keys sort rule a b c d e = rw (le-leb _ _ a, le-leb _ _ b, le-leb _ _ c, le-leb _ _ d, lt-ltb _ _ e, and-true, and-true)

-- the compaction words of a capacity
module _ (o : Opening) (l : Lengths) where
  pub words_live : l.live_words < (o.capacity + 63) / 64 → true ≡ words_short o l
  unfolding words_short
  words_live k = rw (lt-ltb _ _ k)

  pub words_base : (o.capacity + 63) / 64 ≤ l.live_words → ltb l.base_words ((o.capacity + 63) / 64) ≡ words_short o l
  unfolding words_short
  words_base k = rw (le-ltb _ _ k)

module _ (h : Header) where
  -- a number of the header is out of its bounds
  pub outside_some : (Inside h → ⊥) → true ≡ outside h
  outside_some wrong = elim (split (outside h)) [ inl e ↦ sym e | inr e ↦ absurd (wrong (outside_inside h e)) ]

  pub outside_unopenable : openable (opening_of h) ≡ false → true ≡ outside h
  unfolding outside
  outside_unopenable e = rw e

  pub outside_last : openable (opening_of h) ≡ true → h.rows ≤ h.capacity → h.dead ≤ h.rows → ltb h.rows h.entries ≡ outside h
  unfolding outside
  outside_last e a b = rw (e, le-leb _ _ a, le-leb _ _ b) (not_leb h.entries h.rows)

  pub pending_some : (pending : ℕ) → outside h ≡ true → true ≡ pending_outside h pending
  unfolding pending_outside
  pending_some pending e = rw e

  pub pending_last : (pending : ℕ) → outside h ≡ false → ltb pending h.pending ≡ pending_outside h pending
  unfolding pending_outside
  pending_last pending e = rw e

  -- within its bounds with the pending store, and without
  pub inside_alone : (pending : ℕ) → pending_outside h pending ≡ false → outside h ≡ false
  unfolding pending_outside
  inside_alone pending e = or_no_left (outside h) _ e

  -- ---- test 2

  -- the number of cells that a capacity needs is a u32
  pub cells_few : outside h ≡ false → h.capacity * h.columns ≤ 524288
  cells_few e = let i = outside_inside h e in mul-le-mul i.bounds.capacity_few i.bounds.columns_few

  pub capacity_few : outside h ≡ false → h.capacity ≤ 65536
  capacity_few e = (outside_inside h e).bounds.capacity_few

  pub rows_short_lem : (rows : ℕ) → ltb rows (h.capacity * h.columns) ≡ rows_short h rows
  unfolding rows_short
  rows_short_lem rows = refl

  pub pairs_short_lem : (store : ℕ) → ltb store (2 * h.capacity) ≡ pairs_short h store
  unfolding pairs_short
  pairs_short_lem store = refl

  pub sound_outside : (rows keys sorts pending : ℕ) → pending_outside h pending ≡ true → 1 ≡ sound_refusal h rows keys sorts pending
  unfolding sound_refusal first_refusal
  sound_outside rows keys sorts pending e = rw e

  module _ (l : Lengths) where
    stores_tests : stores_short (opening_of h) l ≡ (rows_short h l.rows || pairs_short h l.keys || pairs_short h l.sorts)
    unfolding stores_short rows_short pairs_short
    stores_tests = refl

    pub stores_rows : rows_short h l.rows ≡ true → true ≡ stores_short (opening_of h) l
    stores_rows e = rw (stores_tests, e)

    pub stores_keys : rows_short h l.rows ≡ false → pairs_short h l.keys ≡ true → true ≡ stores_short (opening_of h) l
    stores_keys a e = rw (stores_tests, a, e)

    pub stores_sorts : rows_short h l.rows ≡ false → pairs_short h l.keys ≡ false → pairs_short h l.sorts ≡ stores_short (opening_of h) l
    stores_sorts a b = rw (stores_tests, a, b)

    -- ---- *Open*

    -- with no rows, test 1 is the opening's numbers
    opening_alone : (h.rows ≡ 0) × (h.dead ≡ 0) × (h.entries ≡ 0) → outside h ≡ not (openable (opening_of h))
    opening_alone empty =
        elim (split (openable (opening_of h))) [
          | inl e ↦ rw (e, ← outside_last e (omega (arith, empty)) (omega (arith, empty)), le-ltb h.rows h.entries (omega (arith, empty)))
          | inr e ↦ rw (e, ← outside_unopenable e)
        ]

    pub open_outside : (h.rows ≡ 0) × (h.dead ≡ 0) × (h.entries ≡ 0) → outside h ≡ true → 1 ≡ open_refusal (opening_of h) l
    unfolding open_refusal first_refusal
    open_outside empty e = rw (sym (opening_alone empty) ∙ e)

    pub open_short : (h.rows ≡ 0) × (h.dead ≡ 0) × (h.entries ≡ 0) → outside h ≡ false → stores_short (opening_of h) l ≡ true → 2 ≡ open_refusal (opening_of h) l
    unfolding open_refusal first_refusal
    open_short empty e s = rw (sym (opening_alone empty) ∙ e, s)

    pub open_none : (h.rows ≡ 0) × (h.dead ≡ 0) × (h.entries ≡ 0) → outside h ≡ false → stores_short (opening_of h) l ≡ false → 0 ≡ open_refusal (opening_of h) l
    unfolding open_refusal first_refusal
    open_none empty e s = rw (sym (opening_alone empty) ∙ e, s)

    -- ---- the soundness check

    pub sound_short : pending_outside h l.pending ≡ false → stores_short (opening_of h) l ≡ true → 2 ≡ sound_refusal h l.rows l.keys l.sorts l.pending
    unfolding sound_refusal first_refusal
    sound_short e s = rw (e, sym stores_tests ∙ s)

    pub sound_none : pending_outside h l.pending ≡ false → stores_short (opening_of h) l ≡ false → 0 ≡ sound_refusal h l.rows l.keys l.sorts l.pending
    unfolding sound_refusal first_refusal
    sound_none e s = rw (e, sym stores_tests ∙ s)

    -- if nothing is refused
    sound_clear : sound_refusal h l.rows l.keys l.sorts l.pending ≡ 0 → (pending_outside h l.pending ≡ false) × (stores_short (opening_of h) l ≡ false)
    unfolding sound_refusal
    sound_clear e = (first_refusal_no _ 0 _ e, stores_tests ∙ first_refusal_no _ 1 _ (first_refusal_rest _ 0 _ e))

    pub sound_inside : sound_refusal h l.rows l.keys l.sorts l.pending ≡ 0 → outside h ≡ false
    sound_inside e = inside_alone l.pending (sound_clear e).0

    -- ---- *Merge*

    merge_outside : pending_outside h l.pending ≡ true → 1 ≡ merge_refusal h l
    unfolding merge_refusal first_refusal merge_checks
    merge_outside e = rw e

    merge_stores : pending_outside h l.pending ≡ false → stores_short (opening_of h) l ≡ true → 2 ≡ merge_refusal h l
    unfolding merge_refusal first_refusal merge_checks
    merge_stores e s = rw (e, s)

    -- what the soundness check refuses is refused with the same number
    pub merge_sound : (sound_refusal h l.rows l.keys l.sorts l.pending ≡ 0 → ⊥) → sound_refusal h l.rows l.keys l.sorts l.pending ≡ merge_refusal h l
    merge_sound some =
        elim (split (pending_outside h l.pending)) [
          | inl e ↦ sym (sound_outside l.rows l.keys l.sorts l.pending e) ∙ merge_outside e
          | inr e ↦ elim (split (stores_short (opening_of h) l)) [ inl s ↦ sym (sound_short e s) ∙ merge_stores e s | inr s ↦ absurd (some (sym (sound_none e s))) ]
        ]

    pub merge_words : sound_refusal h l.rows l.keys l.sorts l.pending ≡ 0 → words_short (opening_of h) l ≡ true → 2 ≡ merge_refusal h l
    unfolding merge_refusal first_refusal merge_checks
    merge_words e w = let c = sound_clear e in rw (c.0, c.1, w)

    pub merge_none : sound_refusal h l.rows l.keys l.sorts l.pending ≡ 0 → words_short (opening_of h) l ≡ false → 0 ≡ merge_refusal h l
    unfolding merge_refusal first_refusal merge_checks
    merge_none e w = let c = sound_clear e in rw (c.0, c.1, w)

    -- ---- *Compact*

    pub compact_outside : outside h ≡ true → 1 ≡ compact_refusal h l
    unfolding compact_refusal first_refusal compact_checks
    compact_outside e = rw e

    pub compact_stores : outside h ≡ false → stores_short (opening_of h) l ≡ true → 2 ≡ compact_refusal h l
    unfolding compact_refusal first_refusal compact_checks
    compact_stores e s = rw (e, s)

    module _ (e : outside h ≡ false) (s : stores_short (opening_of h) l ≡ false) where
      pub compact_words : words_short (opening_of h) l ≡ true → 2 ≡ compact_refusal h l
      unfolding compact_refusal first_refusal compact_checks
      compact_words w = rw (e, s, w)

      pub compact_last : words_short (opening_of h) l ≡ false → h.generation ≡ 4294967295 → 10 ≡ compact_refusal h l
      unfolding compact_refusal first_refusal compact_checks
      compact_last w g = rw (e, s, w, eq-eqb _ _ g)

      pub compact_none : words_short (opening_of h) l ≡ false → (h.generation ≡ 4294967295 → ⊥) → 0 ≡ compact_refusal h l
      unfolding compact_refusal first_refusal compact_checks
      compact_none w g = rw (e, s, w, ne_eqb _ _ g)

  -- ---- *Clear*

  module _ (keys : ℕ) where
    pub clear_outside : outside h ≡ true → 1 ≡ clear_refusal h keys
    unfolding clear_refusal first_refusal clear_checks pairs_short
    clear_outside e = rw e

    pub clear_short : outside h ≡ false → pairs_short h keys ≡ true → 2 ≡ clear_refusal h keys
    unfolding clear_refusal first_refusal clear_checks pairs_short
    clear_short e s = rw (e, s)

    module _ (e : outside h ≡ false) (s : pairs_short h keys ≡ false) where
      pub clear_early : (h.generation ≡ 4294967295 → ⊥) → 0 ≡ clear_refusal h keys
      unfolding clear_refusal first_refusal clear_checks pairs_short
      clear_early g = rw (e, s, ne_eqb _ _ g)

      pub clear_empty : h.generation ≡ 4294967295 → h.rows ≡ 0 → 0 ≡ clear_refusal h keys
      unfolding clear_refusal first_refusal clear_checks pairs_short
      clear_empty g n = rw (e, s, eq-eqb _ _ g, le-ltb 0 h.rows (omega arith))

      pub clear_last : h.generation ≡ 4294967295 → (h.rows ≡ 0 → ⊥) → 10 ≡ clear_refusal h keys
      unfolding clear_refusal first_refusal clear_checks pairs_short
      clear_last g n = rw (e, s, eq-eqb _ _ g, lt-ltb 0 h.rows (omega arith))

  -- ---- *Key lookup*, *one cell*

  module _ (rows keys cells : ℕ) where
    pub lookup_outside : outside h ≡ true → 1 ≡ lookup_refusal h rows keys cells
    unfolding lookup_refusal first_refusal lookup_checks
    lookup_outside e = rw e

    pub lookup_rows : outside h ≡ false → rows_short h rows ≡ true → 2 ≡ lookup_refusal h rows keys cells
    unfolding lookup_refusal first_refusal lookup_checks
    lookup_rows e r = rw (e, r)

    module _ (e : outside h ≡ false) (r : rows_short h rows ≡ false) where
      pub lookup_keys : pairs_short h keys ≡ true → 2 ≡ lookup_refusal h rows keys cells
      unfolding lookup_refusal first_refusal lookup_checks
      lookup_keys k = rw (e, r, k)

      pub lookup_width : pairs_short h keys ≡ false → (cells ≡ h.keys → ⊥) → 3 ≡ lookup_refusal h rows keys cells
      unfolding lookup_refusal first_refusal lookup_checks
      lookup_width k n = rw (e, r, k, ne_eqb _ _ n)

      pub lookup_none : pairs_short h keys ≡ false → cells ≡ h.keys → 0 ≡ lookup_refusal h rows keys cells
      unfolding lookup_refusal first_refusal lookup_checks
      lookup_none k n = rw (e, r, k, eq-eqb _ _ n)

    module _ (column : ℕ) where
      pub cell_lookup : (lookup_refusal h rows keys cells ≡ 0 → ⊥) → lookup_refusal h rows keys cells ≡ cell_refusal h rows keys cells column
      unfolding lookup_refusal cell_refusal lookup_checks
      cell_lookup some = three_some _ _ _ _ some

      cell_rest : lookup_refusal h rows keys cells ≡ 0 → cell_refusal h rows keys cells column ≡ first_refusal (check (leb h.columns column) 6 ∷ [])
      unfolding lookup_refusal cell_refusal lookup_checks
      cell_rest e = three_none _ _ _ _ e

      pub cell_above_lem : lookup_refusal h rows keys cells ≡ 0 → h.columns ≤ column → 6 ≡ cell_refusal h rows keys cells column
      unfolding first_refusal
      cell_above_lem e k = rw (cell_rest e, le-leb _ _ k)

      pub cell_none : lookup_refusal h rows keys cells ≡ 0 → column < h.columns → 0 ≡ cell_refusal h rows keys cells column
      unfolding first_refusal
      cell_none e k = rw (cell_rest e, lt-leb _ _ k)

  -- ---- *Fast range*

  module _ (sorts : ℕ) (c : Constraint) where
    pub fast_outside : outside h ≡ true → 1 ≡ fast_refusal h sorts c
    unfolding fast_refusal first_refusal
    fast_outside e = rw e

    pub fast_short : outside h ≡ false → pairs_short h sorts ≡ true → 2 ≡ fast_refusal h sorts c
    unfolding fast_refusal first_refusal
    fast_short e s = rw (e, s)

    pub fast_unknown : outside h ≡ false → pairs_short h sorts ≡ false → known h.columns c ≡ false → 6 ≡ fast_refusal h sorts c
    unfolding fast_refusal first_refusal
    fast_unknown e s k = rw (e, s, k)

    pub fast_none : outside h ≡ false → pairs_short h sorts ≡ false → known h.columns c ≡ true → 0 ≡ fast_refusal h sorts c
    unfolding fast_refusal first_refusal
    fast_none e s k = rw (e, s, k)

  -- ---- *Version*, *Rows since*

  pub version_outside : outside h ≡ true → 1 ≡ version_refusal h
  unfolding version_refusal first_refusal
  version_outside e = rw e

  pub version_none : outside h ≡ false → 0 ≡ version_refusal h
  unfolding version_refusal first_refusal
  version_none e = rw e

  pub since_outside : (row : ℕ) → outside h ≡ true → 1 ≡ since_refusal h row
  unfolding since_refusal first_refusal
  since_outside row e = rw e

  pub since_above : (row : ℕ) → outside h ≡ false → h.rows < row → 5 ≡ since_refusal h row
  unfolding since_refusal first_refusal
  since_above row e k = rw (e, lt-ltb _ _ k)

  pub since_none : (row : ℕ) → outside h ≡ false → row ≤ h.rows → 0 ≡ since_refusal h row
  unfolding since_refusal first_refusal
  since_none row e k = rw (e, le-ltb _ _ k)

  module _ (generation count : ℕ) where
    pub noted_outside : outside h ≡ true → 1 ≡ noted_refusal h generation count
    unfolding noted_refusal first_refusal
    noted_outside e = rw e

    pub noted_other : outside h ≡ false → (generation ≡ h.generation → ⊥) → 18 ≡ noted_refusal h generation count
    unfolding noted_refusal first_refusal
    noted_other e other = rw (e, ne_eqb _ _ other)

    pub noted_above : outside h ≡ false → generation ≡ h.generation → h.rows < count → 18 ≡ noted_refusal h generation count
    unfolding noted_refusal first_refusal
    noted_above e is k = rw (e, eq-eqb _ _ is, lt-ltb _ _ k)

    pub noted_none : outside h ≡ false → generation ≡ h.generation → count ≤ h.rows → 0 ≡ noted_refusal h generation count
    unfolding noted_refusal first_refusal
    noted_none e is k = rw (e, eq-eqb _ _ is, le-ltb _ _ k)
