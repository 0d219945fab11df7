-- One insert of a merge: the effect of its parts on the stores is that of the plain table's insertion. First come the cases of an
-- insertion, then the row made and the key store afterwards, then the contract of the insert for each case. Assumes nothing.
use Prim.Native.Nat.{ℕ, zero, suc, ◌+◌, ◌*◌, ◌≤◌, ◌<◌}
use Rattle.std.specs.Prelude.{◌≡◌, Bool, true, false, Option as RustOption, Some, None, Result, Ok, Err, leb, length, drop, get_or, set}
use Rattle.std.proofs.Math.Path.{refl, ap, ap₂}
use Rattle.std.proofs.Common.{sym, ◌∙◌, inl, inr, add-zero, suc-mul, add-one, arith, length-set, leb-true, eqb-true}
use Rattle.std.proofs.Math.Option.{Option, none, some}
use mathlib.Core.List.{List}
use Rattle.std.proofs.Math.ListN.{take}
use Rattle.std.proofs.lemmas.Bool.{not-false}
use Rattle.lists.specs.Lists.{splice, row_at}
use Rattle.lists.specs.Laws.Filter.{split}
use Rattle.lists.specs.Laws.Parts.{part_before, part_splice}
use Rattle.lists.specs.Laws.Rows.{row_in, length_row_at, row_at_set_same, row_at_set_other}
use Rattle.cells.specs.Cells.{is_dead, compact_hash, key_hash}
use Rattle.constraints.specs.Constraints.{is_live}
use Rattle.refusals.specs.Refusals.{refused, accepted, reply}
use Rattle.merge_rules.specs.Rules.{changes_from, made_from, ruled, survivor}
use Rattle.merge_rules.specs.Laws.Rules.{made_length, made_keys, made_first, kept_of, made_of, survives, survivor_length, ruled_made}
use Rattle.key_index.specs.declared.Hit.{Hit}
use Rattle.key_index.specs.Slots.{size_class_for, slots, KeysSound}
use Rattle.key_index.specs.inner.Ring.{tagged}
use Rattle.key_index.specs.inner.Index.{Fits, FoundAt, FoundIs, PutIs}
use Rattle.key_index.specs.Laws.Index.{put_sound, replace_sound}
use Rattle.key_index.specs.Laws.SizeClasses.{size_class_enough}
use Rattle.key_index.specs.Laws.Rows.{WithRows, grown_rows, swapped_rows}
use Rattle.plain_table.specs.Staged.{skipped}
use Rattle.plain_table.specs.Plain.{Row, Plain, with_rows, with_row, lookup, dead, live_with_key, kill_if, stop, append, upsert, insertion}
use Rattle.plain_table.specs.Proper.{row_of}
use Rattle.plain_table.proofs.Laws.Rows.{keys_distinct_of}
use Rattle.plain_table.proofs.Laws.Proper.{insertion_proper}
use Rattle.table.specs.declared.Header.{Header}
use Rattle.merge_insert.specs.declared.append.Stop.{Stop}
use Rattle.table.specs.Sound.{index_shape_of}
use Rattle.table.specs.inner.FullIndexShape.{full_index_shape_of}
use Rattle.table.proofs.Laws.Refusals.{full_shape_fits}
use Rattle.table.specs.Outcomes.{Stores, stores, Represents}
use Rattle.merge_pending.specs.inner.Becoming.{Recounted, hash_of}
use Rattle.merge_insert.specs.inner.Inserting.{InsertAgrees, Inserting}
use Rattle.merge_insert.specs.inner.Appending.{Insertion, appended, stop_number, grown_to, outgrown, KeysGrown, Grew, NewIs, Replaced}
use Rattle.merge_insert.specs.inner.Ruling.{Changes, row_made, KnownIs}
use Rattle.table.proofs.Laws.Stored.{marked_dead}
use Rattle.table.proofs.Laws.Shown.{in_live}
use Rattle.table.proofs.Laws.Lookup.{live_passes, row_lookup, none_found}
use Rattle.merge_pending.specs.Laws.Dying.{kill_at, kill_if_one, dead_kill_at}
use Rattle.merge_insert.specs.Laws.Admission.{stop_same}
use Rattle.merge_insert.specs.Laws.Growth.{prepared_same, prepared_dead, grown_steps}

keys_same : {p : Plain} {s : Stores} → Represents p s → s.header.keys ≡ p.opening.keys
keys_same r = ap (λ (h : Header). h.keys) r.shown.header

-- ---- the plain table's insertion, case by case

module _ (cells : List ℕ) (p : Plain) where
  -- "An insert with a dead first cell is skipped"
  pub insertion_skips : skipped cells ≡ true → insertion cells p ≡ accepted p
  unfolding insertion
  insertion_skips e = rw e

  -- "A new key is appended"
  insertion_new : skipped cells ≡ false → lookup p (take p.opening.keys cells) ≡ none
      → insertion cells p ≡ append cells p p.rows
  unfolding insertion upsert
  insertion_new e f = rw (e, f)

  -- "A known key goes through the rule"
  module _ (e : skipped cells ≡ false) (number : ℕ) (old : List ℕ) (f : lookup p (take p.opening.keys cells) ≡ some (record { number = number; cells = old })) where
    put_ruled : (x : Option (List ℕ)) → ruled p.opening.rule p.opening.keys p.opening.sort old cells ≡ x
        → upsert cells (some (record { number = number; cells = old })) p
        ≡ elim x [ none ↦ accepted p | some row ↦ append row p (kill_if (live_with_key p.opening.keys (take p.opening.keys cells)) p.rows) ]
    unfolding upsert
    put_ruled x g =
        ap
        (λ (y : Option (List ℕ)). elim y [ none ↦ accepted p | some row ↦ append row p (kill_if (live_with_key p.opening.keys (take p.opening.keys cells)) p.rows) ])
        g

    insertion_keeps : changes_from p.opening.rule p.opening.keys p.opening.sort 0 old cells ≡ false → insertion cells p ≡ accepted p
    unfolding insertion
    insertion_keeps g = rw (e, f) (put_ruled none (kept_of p.opening.rule p.opening.keys p.opening.sort old cells g))

    insertion_makes : changes_from p.opening.rule p.opening.keys p.opening.sort 0 old cells ≡ true
        → insertion cells p
        ≡ append (made_from p.opening.rule p.opening.keys p.opening.sort 0 old cells) p (kill_if (live_with_key p.opening.keys (take p.opening.keys cells)) p.rows)
    unfolding insertion
    insertion_makes g = rw (e, f) (put_ruled (some _) (made_of p.opening.rule p.opening.keys p.opening.sort old cells g))

module _ (cells : List ℕ) (p : Plain) (rows : List Row) where
  append_stops : (n : ℕ) → stop cells p ≡ n → 0 < n → append cells p rows ≡ refused n
  unfolding append reply
  append_stops zero e h = absurd (omega arith)
  append_stops (suc n) e h = rw e

  append_goes : stop cells p ≡ 0 → append cells p rows ≡ accepted (with_row p rows cells)
  unfolding append reply
  append_goes e = rw e

-- ---- the row made

-- for rules 0 and 1 too, it is the row that the rule makes
pub row_made_lem : (h : Header) (old new : List ℕ) → length old ≡ length new → take h.keys old ≡ take h.keys new → Changes h old new ≡ true
    → row_made h old new ≡ made_from h.rule h.keys h.sort 0 old new
unfolding row_made
row_made_lem h old new n k c =
    elim (split (leb h.rule 1)) [
      | inl e ↦
          rw e
          (sym (ruled_made h.rule h.keys h.sort old new (survivor h.rule h.keys h.sort old new)
          (survives h.keys h.sort old new n k h.rule (leb-true _ _ e) ∙ rw c)
          ).1)
      | inr e ↦ rw e
    ]

-- it is as wide as the two rows, on any stores
pub length_made : (h : Header) (old new : List ℕ) → length old ≡ length new → length (row_made h old new) ≡ length old
unfolding row_made
length_made h old new n =
    elim (split (leb h.rule 1)) [
      | inl e ↦ rw e (survivor_length h.rule h.keys h.sort old new n)
      | inr e ↦ rw e (made_length h.rule h.keys h.sort old new n)
    ]

-- ---- the key store

module _ (w n : ℕ) (base cells : List ℕ) (width : length cells ≡ w) (fits : n * w + length cells ≤ length base) where
  -- the rows before an appended row, and that row
  row_at_before : (i : ℕ) → i < n → row_at w i (splice base (n * w) cells) ≡ row_at w i base
  unfolding row_at
  row_at_before i h = part_before base cells (n * w) fits (i * w) w (row_in i n w h)

  row_at_new : row_at w n (splice base (n * w) cells) ≡ cells
  unfolding row_at
  row_at_new = ap (λ (k : ℕ). take k (drop (n * w) (splice base (n * w) cells))) (sym width) ∙ part_splice base cells (n * w) fits

module _ (w old : ℕ) (rows : List ℕ) (some : 0 < w) where
  -- the row that is marked dead, and the others
  row_at_marked : row_at w old (set rows (old * w) 4294967295) ≡ set (row_at w old rows) 0 4294967295
  row_at_marked = ap (λ (k : ℕ). row_at w old (set rows k 4294967295)) (sym (add-zero (old * w))) ∙ row_at_set_same w old 0 rows 4294967295 some

  row_at_others : (i : ℕ) → (i ≡ old → ⊥) → row_at w i (set rows (old * w) 4294967295) ≡ row_at w i rows
  row_at_others i ne =
      ap (λ (k : ℕ). row_at w i (set rows k 4294967295)) (sym (add-zero (old * w)))
      ∙ row_at_set_other w old i 0 rows 4294967295 (λ q. ne (sym q)) some

-- with the same number of slots
slots_same : (h : Header) → outgrown h ≡ false → size_class_for h.capacity (h.rows + 1) ≡ size_class_for h.capacity h.rows
unfolding outgrown
slots_same h o = eqb-true _ _ (not-false _ o)

one_more : (h : Header) (d e v : ℕ) → outgrown h ≡ false → WithRows (index_shape_of h) (index_shape_of (grown_to h d e v)) (h.rows + 1)
one_more h d e v o = record { columns = refl; keys = refl; room = slots_same h o; count = refl }

-- a live first cell
first_live : (cells : List ℕ) → is_dead (get_or cells 0 0) ≡ false → is_live cells ≡ true
unfolding is_live
first_live cells e = rw e

module _ (h : Header) (rows keys cells : List ℕ) (hash : ℕ) (fits : Fits (full_index_shape_of h) rows keys) (room : h.rows < h.capacity) (width : length cells ≡ h.columns)
    (sound : KeysSound (index_shape_of h) rows keys) (live : is_dead (get_or cells 0 0) ≡ false) (d e v : ℕ) where
  cells_in : h.rows * h.columns + length cells ≤ length rows
  cells_in = omega (arith, row_in h.rows h.capacity h.columns room, fits.cells, width)

  -- the slots in use fit
  used_fits : Fits (index_shape_of h) rows keys
  used_fits = full_shape_fits h rows keys fits

  -- there is a slot for the row, unless it needs more slots
  has_slot : outgrown h ≡ false → h.rows < size_class_for h.capacity h.rows
  has_slot o = omega (arith, slots_same h o, size_class_enough h.capacity (h.rows + 1) (omega (arith, room)) fits.most)

  -- the row of a new key
  new_keys : hash ≡ compact_hash (key_hash (take h.keys cells)) → outgrown h ≡ false → (r : Bool) (keys' : List ℕ) → PutIs (slots (index_shape_of h)) keys hash h.rows r keys'
      → KeysSound (index_shape_of (grown_to h d e v)) (splice rows (h.rows * h.columns) cells) keys'
  new_keys hash-is o r keys' put_is =
      let rows' : List ℕ = splice rows (h.rows * h.columns) cells in
      let new = row_at_new h.columns h.rows rows cells width cells_in in
      put_sound (index_shape_of h) (index_shape_of (grown_to h d e v)) rows rows' keys keys' hash r used_fits sound
      (grown_rows (index_shape_of h) (index_shape_of (grown_to h d e v)) rows rows' (one_more h d e v o) (has_slot o)
      (row_at_before h.columns h.rows rows cells width cells_in)
      (ap is_live new ∙ first_live cells live))
      (hash-is ∙ ap (λ (l : List ℕ). compact_hash (key_hash (take h.keys l))) (sym new))
      put_is

  -- the row of a known key
  known_keys : (key : List ℕ) → hash ≡ compact_hash (key_hash key) → outgrown h ≡ false → take h.keys cells ≡ key → (old slot : ℕ) → FoundAt (index_shape_of h) rows keys key old slot
      → (keys' : List ℕ) → keys' ≡ set keys slot (tagged hash h.rows)
      → KeysSound (index_shape_of (grown_to h d e v)) (splice (set rows (old * h.columns) 4294967295) (h.rows * h.columns) cells) keys'
  known_keys key hash-is o key_is old slot found keys' keys-is =
      let base : List ℕ = set rows (old * h.columns) 4294967295 in
      let rows' : List ℕ = splice base (h.rows * h.columns) cells in
      let base-in : h.rows * h.columns + length cells ≤ length base = simp length-set cells_in in
      let new = row_at_new h.columns h.rows base cells width base-in in
      let before = row_at_before h.columns h.rows base cells width base-in in
      let below : old < h.rows = found.live.0 in
      let old_wide : 1 ≤ length (row_at h.columns old rows) =
      omega (arith, length_row_at h.columns old rows (rw (add-one old, suc-mul) (omega (arith, row_in old h.rows h.columns below, row_in h.rows h.capacity h.columns room, fits.cells))), fits.some_columns) in
      replace_sound (index_shape_of h) (index_shape_of (grown_to h d e v)) rows rows' keys keys' key hash old slot used_fits sound
      (swapped_rows (index_shape_of h) (index_shape_of (grown_to h d e v)) rows rows' old (one_more h d e v o) (has_slot o)
      (λ i k ne. before i k ∙ row_at_others h.columns old rows fits.some_columns i ne)
      (ap is_live (before old below ∙ row_at_marked h.columns old rows fits.some_columns) ∙ marked_dead (row_at h.columns old rows) old_wide)
      (ap is_live new ∙ first_live cells live)
      (ap (take h.keys) new ∙ key_is ∙ sym found.key_is))
      found hash-is keys-is

-- the key store refers to all rows including the new one, after its entry is added or the store is rebuilt
led : {h h' : Header} {rows' keys : List ℕ} {Entry : Type 0} {keys' : List ℕ} → KeysGrown h h' rows' keys Entry keys'
    → (outgrown h ≡ false → Entry → KeysSound (index_shape_of h') rows' keys') → KeysSound (index_shape_of h') rows' keys'
led {h} l steps = elim (split (outgrown h)) [ inl o ↦ l.more o | inr o ↦ steps o (l.stepped o) ]

-- ---- the contract of an insert

header_in : Header → Insertion → Header
header_in d (Ok None) = d
header_in d (Ok (Some h)) = h
header_in d (Err stop) = d

same_header : (a b : Header) → ◌≡◌ {A = Insertion} (Ok (Some a)) (Ok (Some b)) → a ≡ b
unfolding header_in
same_header a b e = ap (header_in a) e

kept_no : (h : Header) → ◌≡◌ {A = Insertion} (Ok None) (Ok (Some h)) → ⊥
kept_no h e = let z : ◌≡◌ {A = ℕ} 0 1 = cc in omega arith

stopped_no : (stop : Stop) (h : Header) → ◌≡◌ {A = Insertion} (Err stop) (Ok (Some h)) → ⊥
stopped_no stop h e = let z : ◌≡◌ {A = ℕ} 0 1 = cc in omega arith

-- the counts with one more row still fit
recounted : (h : Header) (d e v : ℕ) → h.rows < h.capacity → h.entries ≤ h.rows → e ≤ h.entries + 1 → d ≤ h.dead + 1
    → Recounted h (grown_to h d e v)
recounted h d e v room few k l =
    record { counts = refl; rows_fit = omega arith; rows_grow = omega arith; entries_fit = omega arith; dead_fit = omega arith }

module _ (h : Header) (rows keys sorts cells : List ℕ) (hash : ℕ) where
  -- "An insert with a dead first cell is skipped"
  pub skip_inserts : is_dead (get_or cells 0 0) ≡ true → Inserting h rows keys sorts cells hash (Ok None) rows keys sorts
  unfolding skipped
  skip_inserts e =
      record {
        past = refl;
        header = λ h' q. absurd (kept_no h' q);
        unchanged = λ f. (refl, refl, refl);
        table = λ hash-is pending p r. insertion_skips cells p e;
      }

  module _ (fits : Fits (full_index_shape_of h) rows keys) (entries_fit : h.entries ≤ h.rows) (width : length cells ≡ h.columns) (live : is_dead (get_or cells 0 0) ≡ false)
      (f : RustOption Hit) (found : FoundIs (index_shape_of h) rows keys (take h.keys cells) hash f) where
    module _ (hash-is : hash ≡ compact_hash (key_hash (take h.keys cells))) {p : Plain} {pending : List ℕ} (r : Represents p (stores h rows keys sorts pending)) where
      key_same : take p.opening.keys cells ≡ take h.keys cells
      key_same = ap (λ (k : ℕ). take k cells) (sym (keys_same r))

      wide : length cells ≡ p.opening.columns
      wide = width ∙ ap (λ (h : Header). h.columns) r.shown.header

      dead_same : h.dead ≡ dead p
      dead_same = ap (λ (h : Header). h.dead) r.shown.header

      -- a new key
      new_way : f ≡ None → insertion cells p ≡ append cells p p.rows
      unfolding skipped
      new_way e = insertion_new cells p live (rw key_same (none_found r (take h.keys cells) (found.none hash-is r.keys_sound e)))

      -- a known key
      module _ (hit : Hit) (e : f ≡ Some hit) where
        there : FoundAt (index_shape_of h) rows keys (take h.keys cells) hit.row hit.slot
        there = found.at hash-is r.keys_sound hit e

        old_live : (row_of p hit.row).live ≡ true
        old_live = in_live r hit.row there.live

        old_wide : length (row_at h.columns hit.row rows) ≡ length cells
        old_wide =
            length_row_at h.columns hit.row rows
            (rw (add-one hit.row, suc-mul) (omega (arith, row_in hit.row h.capacity h.columns (omega (arith, there.live.0, fits.count)), fits.cells)))
            ∙ sym width

        old_is : lookup p (take p.opening.keys cells) ≡ some (record { number = hit.row; cells = row_at h.columns hit.row rows })
        old_is = rw key_same (row_lookup r (take h.keys cells) hit.row there.live there.key_is)

        rule_same : h.rule ≡ p.opening.rule
        rule_same = ap (λ (h : Header). h.rule) r.shown.header

        sort_same : h.sort ≡ p.opening.sort
        sort_same = ap (λ (h : Header). h.sort) r.shown.header

        changes_same : changes_from p.opening.rule p.opening.keys p.opening.sort 0 (row_at h.columns hit.row rows) cells ≡ Changes h (row_at h.columns hit.row rows) cells
        changes_same = rw (← rule_same, ← keys_same r, ← sort_same)

        -- the old row is kept
        keep_way : Changes h (row_at h.columns hit.row rows) cells ≡ false → insertion cells p ≡ accepted p
        unfolding skipped
        keep_way c = insertion_keeps cells p live hit.row (row_at h.columns hit.row rows) old_is (changes_same ∙ c)

        kill_same : kill_if (live_with_key p.opening.keys (take p.opening.keys cells)) p.rows ≡ kill_at hit.row p.rows
        kill_same =
            kill_if_one p.opening.keys (take p.opening.keys cells) p.rows hit.row (keys_distinct_of p.opening.keys p.rows r.proper.keys_differ)
            (rw key_same (live_passes r (take h.keys cells) hit.row there.live there.key_is))

        module _ (c : Changes h (row_at h.columns hit.row rows) cells ≡ true) where
          row_is : row_made h (row_at h.columns hit.row rows) cells ≡ made_from h.rule h.keys h.sort 0 (row_at h.columns hit.row rows) cells
          row_is = row_made_lem h (row_at h.columns hit.row rows) cells old_wide there.key_is c

          -- a row is made
          make_way : insertion cells p ≡ append (row_made h (row_at h.columns hit.row rows) cells) p (kill_at hit.row p.rows)
          unfolding skipped
          make_way =
              insertion_makes cells p live hit.row (row_at h.columns hit.row rows) old_is (changes_same ∙ c)
              ∙ ap₂ (λ (row : List ℕ) (kept : List Row). append row p kept) (rw (← rule_same, ← keys_same r, ← sort_same) (sym row_is)) kill_same

          made_wide : length (row_made h (row_at h.columns hit.row rows) cells) ≡ h.columns
          made_wide = length_made h (row_at h.columns hit.row rows) cells old_wide ∙ old_wide ∙ width

          made_live : is_dead (get_or (row_made h (row_at h.columns hit.row rows) cells) 0 0) ≡ false
          made_live = rw row_is (ap is_dead (made_first h.rule h.keys h.sort (row_at h.columns hit.row rows) cells fits.some_keys old_wide there.key_is) ∙ live)

          made_key : take h.keys (row_made h (row_at h.columns hit.row rows) cells) ≡ take h.keys cells
          made_key = rw row_is (made_keys h.rule h.keys h.sort (row_at h.columns hit.row rows) cells old_wide there.key_is ∙ there.key_is)

          -- the stores after the row made is appended and the old row is dead
          replaced_steps : (h' : Header) (rows' keys' sorts' : List ℕ) → Replaced h rows keys sorts (row_made h (row_at h.columns hit.row rows) cells) hash hit.row hit.slot h' rows' keys' sorts'
              → InsertAgrees p cells (stores h rows keys sorts pending) rows' keys' sorts' (Ok (Some h'))
          replaced_steps h' rows' keys' sorts' g =
              let row : List ℕ = row_made h (row_at h.columns hit.row rows) cells in
              let goes : insertion cells p ≡ accepted (with_row p (kill_at hit.row p.rows) row) =
              make_way ∙ append_goes row p (kill_at hit.row p.rows) (stop_same r row ∙ g.entered.free) in
              let died : h.dead + 1 ≡ dead (with_rows p (kill_at hit.row p.rows)) = ap (λ (n : ℕ). n + 1) dead_same ∙ sym (dead_kill_at p hit.row old_live) in (
                with_row p (kill_at hit.row p.rows) row,
                goes,
                rw g.header
                    (grown_steps r (prepared_dead r hit.row old_live) row made_wide g.entered.room h'.entries sorts' g.entered
                    (insertion_proper cells p _ r.proper wide goes) (h.dead + 1) died rows' g.rows_after keys'
                    g.keys_after.same
                    (rw g.header at (led g.keys_after (λ o keys-is. rw (g.header, g.rows_after)
                    (known_keys h rows keys row hash fits g.entered.room made_wide r.keys_sound made_live (h.dead + 1) h'.entries (get_or row h.sort 0) (take h.keys cells) hash-is o made_key hit.row hit.slot there keys' keys-is))))),
              )

      -- the stores after the row of a new key is appended
      grew_steps : f ≡ None → (h' : Header) (rows' keys' sorts' : List ℕ) → Grew h rows keys sorts cells hash h' rows' keys' sorts'
          → InsertAgrees p cells (stores h rows keys sorts pending) rows' keys' sorts' (Ok (Some h'))
      grew_steps e h' rows' keys' sorts' g =
          let goes : insertion cells p ≡ accepted (with_row p p.rows cells) =
          new_way e ∙ append_goes cells p p.rows (stop_same r cells ∙ g.entered.free) in (
            with_row p p.rows cells,
            goes,
            rw g.header
                (grown_steps r (prepared_same r) cells width g.entered.room h'.entries sorts' g.entered
                (insertion_proper cells p _ r.proper wide goes) h.dead dead_same rows' g.rows_after keys'
                g.keys_after.same
                (rw g.header at (led g.keys_after (λ o put_is. rw (g.header, g.rows_after)
                (new_keys h rows keys cells hash fits g.entered.room width r.keys_sound live h.dead h'.entries (get_or cells h.sort 0) hash-is o put_is.0 keys' put_is.1))))),
          )

    -- "A new key is appended"
    pub new_inserts : f ≡ None → (r : Result Header Stop) (rows' keys' sorts' : List ℕ) → NewIs h rows keys sorts cells hash rows' keys' sorts' r
        → Inserting h rows keys sorts cells hash (appended r) rows' keys' sorts'
    unfolding hash_of
    new_inserts e (Ok h') rows' keys' sorts' g =
        record {
          past = g.keys_after.past;
          header = λ h'' q.
              rw (← same_header h' h'' q, g.header)
              (recounted h h.dead h'.entries _ g.entered.room entries_fit g.entered.few (omega arith));
          unchanged = λ no. absurd (no h' refl);
          table = λ hash-is pending p r. grew_steps hash-is r e h' rows' keys' sorts' g;
        }
    new_inserts e (Err stop) rows' keys' sorts' g =
        record {
          past = ap (drop (2 * h.capacity)) g.same_keys;
          header = λ h'' q. absurd (stopped_no stop h'' q);
          unchanged = λ no. (g.same_rows, g.same_keys, g.same_sorts);
          table = λ hash-is pending p r. (new_way hash-is r e ∙ append_stops cells p p.rows (stop_number stop) (stop_same r cells ∙ g.stops.number) g.stops.some, g.stops.some);
        }

    -- "A known key goes through the rule; a row so made is appended and the old row dies"
    pub known_inserts : (hit : Hit) → f ≡ Some hit → (r : Insertion) (rows' keys' sorts' : List ℕ) → KnownIs h rows keys sorts cells hash hit.row hit.slot rows' keys' sorts' r
        → Inserting h rows keys sorts cells hash r rows' keys' sorts'
    unfolding hash_of
    known_inserts hit e (Ok None) rows' keys' sorts' g =
        record {
          past = ap (drop (2 * h.capacity)) g.same_keys;
          header = λ h'' q. absurd (kept_no h'' q);
          unchanged = λ no. (g.same_rows, g.same_keys, g.same_sorts);
          table = λ hash-is pending p r. keep_way hash-is r hit e g.unchanged;
        }
    known_inserts hit e (Ok (Some h')) rows' keys' sorts' g =
        record {
          past = g.1.keys_after.past;
          header = λ h'' q.
              rw (← same_header h' h'' q, g.1.header)
              (recounted h (h.dead + 1) h'.entries _ g.1.entered.room entries_fit g.1.entered.few (omega arith));
          unchanged = λ no. absurd (no h' refl);
          table = λ hash-is pending p r. replaced_steps hash-is r hit e g.0 h' rows' keys' sorts' g.1;
        }
    known_inserts hit e (Err stop) rows' keys' sorts' g =
        record {
          past = ap (drop (2 * h.capacity)) g.1.same_keys;
          header = λ h'' q. absurd (stopped_no stop h'' q);
          unchanged = λ no. (g.1.same_rows, g.1.same_keys, g.1.same_sorts);
          table = λ hash-is pending p r. (
            make_way hash-is r hit e g.0
                ∙ append_stops _ p (kill_at hit.row p.rows) (stop_number stop) (stop_same r _ ∙ g.1.stops.number) g.1.stops.some,
            g.1.stops.some,
          );
        }
