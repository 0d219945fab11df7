-- Only the used prefix of each store matters: a table shows the same plain table on a first part of each store that is long enough,
-- and with more cells behind. Assumes nothing.
use Rattle.table.proofs.Laws.Prelude.{ℕ, ◌*◌, ◌≤◌, ◌<◌, ◌≡◌, refl, sym, ap, ◌∙◌, List, [], ◌++◌, mul-le-mul_right, arith, length, take, get_or, length-append, get_or-take, take-take, take-append-le, row_at, get_d_rows_of, rows_of_same, is_live, IndexShape, key_at, slots, home, slot_from, ReachableAt, KeysSound, slot_below, size_class_most, SameLive, keys_same, entries_of_same, words_all, Plain, Header, opening_of, index_shape_of, Body, body, joined, stores, lengths, Represents}
use Rattle.table.proofs.Laws.Shown.{LongEnough, long_stores, represents_long, represents_inside}
use Rattle.table.proofs.Laws.Pending.{holds_fits}
use Rattle.table.proofs.Laws.Refusals.{Inside, outside_inside}

-- ---- one store

-- equal prefixes have equal shorter prefixes
fewer : {A : Type 0} (l m : List A) (n k : ℕ) → k ≤ n → take n l ≡ take n m → take k l ≡ take k m
fewer l m n k h e = sym (take-take k n l h) ∙ ap (take k) e ∙ take-take k n m h

-- equal prefixes have equal elements
one_alike : (l m : List ℕ) (n : ℕ) → take n l ≡ take n m → (i : ℕ) → i < n → get_or l i 0 ≡ get_or m i 0
one_alike l m n e i h =
    sym (get_or-take n l i 0 h) ∙ ap (λ (x : List ℕ). get_or x i 0) e ∙ get_or-take n m i 0 h

-- a key store with the same slots is sound too
pub slots_alike : {t : IndexShape} {rows store store' : List ℕ} → ((slot : ℕ) → slot < slots t → get_or store' slot 0 ≡ get_or store slot 0)
    → KeysSound t rows store → KeysSound t rows store'
slots_alike {t} {rows} {store} {store'} same sound =
    record {
      only_live = λ slot h some. let o = sound.only_live slot h (rw (same slot h) at some) in (o.0, o.1, same slot h ∙ o.2);
      once = λ a b h k some e. sound.once a b h k (rw (same a h) at some) (sym (same a h) ∙ e ∙ same b k);
      leads = λ i live. let d = sound.leads i live in (d.0, stands i d.0 d.1);
    }
  where
    stands : (i d : ℕ) → ReachableAt (slots t) store (key_at t rows i) i d → ReachableAt (slots t) store' (key_at t rows i) i d
    stands i d s = record { below = s.below; there = at d ∙ s.there; way = λ e h z. s.way e h (sym (at e) ∙ z) }
      where
        at : (e : ℕ) → get_or store' (slot_from (slots t) (home (slots t) (key_at t rows i)) e) 0 ≡ get_or store (slot_from (slots t) (home (slots t) (key_at t rows i)) e) 0
        at e = same _ (slot_below (slots t) (home (slots t) (key_at t rows i)) e (omega (arith, s.below)))

-- ---- the stores

-- all cells that a table needs are equal in the other stores
pub record Fronts (h : Header) (b : Body) (pending : List ℕ) (b' : Body) (pending' : List ℕ) : Type 0 where
  pub long : LongEnough (opening_of h) (length b'.rows) (length b'.keys) (length b'.sorts)
  pub rows_same : take (h.capacity * h.columns) b'.rows ≡ take (h.capacity * h.columns) b.rows
  pub keys_same : take (2 * h.capacity) b'.keys ≡ take (2 * h.capacity) b.keys
  pub sorts_same : take (2 * h.capacity) b'.sorts ≡ take (2 * h.capacity) b.sorts
  pub pending_same : take h.pending pending' ≡ take h.pending pending

module _ {p : Plain} {h : Header} {b : Body} {pending : List ℕ} (b' : Body) (pending' : List ℕ) (r : Represents p (joined h b pending)) (f : Fronts h b pending b' pending') where
  inside : Inside h
  inside = outside_inside h (represents_inside r)

  row_same : (i : ℕ) → i < h.rows → row_at h.columns i b'.rows ≡ row_at h.columns i b.rows
  row_same i k =
      sym (get_d_rows_of h.columns h.rows b'.rows i k)
      ∙ ap (λ (rows : List (List ℕ)). get_or rows i [])
      (rows_of_same h.columns h.rows b'.rows b.rows (fewer _ _ (h.capacity * h.columns) (h.rows * h.columns) (mul-le-mul_right h.columns inside.rows_fit) f.rows_same))
      ∙ get_d_rows_of h.columns h.rows b.rows i k

  live_same : SameLive (index_shape_of h) (index_shape_of h) b.rows b'.rows
  live_same =
      record {
        room = refl;
        keeps = λ i l. (l.0, ap is_live (row_same i l.0) ∙ l.1);
        only = λ i l. (l.0, sym (ap is_live (row_same i l.0)) ∙ l.1);
        key = λ i l. ap (take h.keys) (row_same i l.0);
      }

  pub fronts_represent : Represents p (joined h b' pending')
  fronts_represent =
      let o : opening_of h ≡ p.opening = ap opening_of r.shown.header in
      let used : h.pending ≡ words_all p.opening p.staged = ap (λ (x : Header). x.pending) r.shown.header in
      record {
        proper = r.proper;
        long_enough = rw (← o) (long_stores (opening_of h) (lengths b'.rows b'.keys b'.sorts pending' [] []) f.long);
        shown =
            record {
              header = r.shown.header;
              rows_shown = λ i k. rw (row_same i k) (r.shown.rows_shown i k);
              entries_shown =
                  entries_of_same h.entries b'.sorts b.sorts (fewer _ _ (2 * h.capacity) (2 * h.entries) (omega (arith, inside.rows_fit, inside.entries_fit)) f.sorts_same)
                  ∙ r.shown.entries_shown;
              pending_held =
                  record {
                    whole = r.shown.pending_held.whole;
                    in_order = (rw used at f.pending_same) ∙ r.shown.pending_held.in_order;
                  };
            };
        keys_sound =
            slots_alike (λ slot k. one_alike b'.keys b.keys (2 * h.capacity) f.keys_same slot (omega (arith, size_class_most h.capacity h.rows)))
            (keys_same (index_shape_of h) (index_shape_of h) b.rows b'.rows b.keys r.keys_sound live_same);
      }

-- ---- stores with more cells behind, and without them

-- stores that represent a plain table pass test 2 for the header's numbers
pub long_header : {p : Plain} {h : Header} {rows keys sorts pending : List ℕ} → Represents p (stores h rows keys sorts pending)
    → LongEnough (opening_of h) (length rows) (length keys) (length sorts)
long_header r = rw (ap opening_of r.shown.header) (represents_long r)

module _ {p : Plain} {h : Header} {rows keys sorts pending : List ℕ} where
  -- the pending store
  pub pending_part : (more : List ℕ) → Represents p (stores h rows keys sorts (pending ++ more)) → h.pending ≤ length pending
      → Represents p (stores h rows keys sorts pending)
  pending_part more r fits =
      fronts_represent (body rows keys sorts) pending r
      (record { long = long_header r; rows_same = refl; keys_same = refl; sorts_same = refl; pending_same = sym (take-append-le h.pending pending more fits) })

  pub pending_more : (more : List ℕ) → Represents p (stores h rows keys sorts pending) → Represents p (stores h rows keys sorts (pending ++ more))
  pending_more more r =
      let fits : h.pending ≤ length pending = rw r.shown.header (holds_fits r.shown.pending_held) in
      fronts_represent (body rows keys sorts) (pending ++ more) r
      (record { long = long_header r; rows_same = refl; keys_same = refl; sorts_same = refl; pending_same = take-append-le h.pending pending more fits })

  -- the row store
  pub rows_part : (more : List ℕ) → Represents p (stores h (rows ++ more) keys sorts pending) → h.capacity * h.columns ≤ length rows
      → Represents p (stores h rows keys sorts pending)
  rows_part more r long =
      let l = long_header r in
      fronts_represent (body rows keys sorts) pending r
      (record {
        long = record { rows_long = long; keys_long = l.keys_long; sorts_long = l.sorts_long };
        rows_same = sym (take-append-le (h.capacity * h.columns) rows more long);
        keys_same = refl;
        sorts_same = refl;
        pending_same = refl;
      })

  pub rows_more : (more : List ℕ) → Represents p (stores h rows keys sorts pending) → Represents p (stores h (rows ++ more) keys sorts pending)
  rows_more more r =
      let l = long_header r in
      fronts_represent (body (rows ++ more) keys sorts) pending r
      (record {
        long = record { rows_long = simp length-append (omega (arith, l.rows_long)); keys_long = l.keys_long; sorts_long = l.sorts_long };
        rows_same = take-append-le (h.capacity * h.columns) rows more l.rows_long;
        keys_same = refl;
        sorts_same = refl;
        pending_same = refl;
      })

  -- the key store
  pub keys_part : (more : List ℕ) → Represents p (stores h rows (keys ++ more) sorts pending) → 2 * h.capacity ≤ length keys
      → Represents p (stores h rows keys sorts pending)
  keys_part more r long =
      let l = long_header r in
      fronts_represent (body rows keys sorts) pending r
      (record {
        long = record { rows_long = l.rows_long; keys_long = long; sorts_long = l.sorts_long };
        rows_same = refl;
        keys_same = sym (take-append-le (2 * h.capacity) keys more long);
        sorts_same = refl;
        pending_same = refl;
      })

  pub keys_more : (more : List ℕ) → Represents p (stores h rows keys sorts pending) → Represents p (stores h rows (keys ++ more) sorts pending)
  keys_more more r =
      let l = long_header r in
      fronts_represent (body rows (keys ++ more) sorts) pending r
      (record {
        long = record { rows_long = l.rows_long; keys_long = simp length-append (omega (arith, l.keys_long)); sorts_long = l.sorts_long };
        rows_same = refl;
        keys_same = take-append-le (2 * h.capacity) keys more l.keys_long;
        sorts_same = refl;
        pending_same = refl;
      })

  -- all but the pending store
  module _ (rest : Body) where
    pub body_part : Represents p (stores h (rows ++ rest.rows) (keys ++ rest.keys) (sorts ++ rest.sorts) pending)
        → LongEnough (opening_of h) (length rows) (length keys) (length sorts) → Represents p (stores h rows keys sorts pending)
    body_part r l =
        fronts_represent (body rows keys sorts) pending r
        (record {
          long = l;
          rows_same = sym (take-append-le (h.capacity * h.columns) rows rest.rows l.rows_long);
          keys_same = sym (take-append-le (2 * h.capacity) keys rest.keys l.keys_long);
          sorts_same = sym (take-append-le (2 * h.capacity) sorts rest.sorts l.sorts_long);
          pending_same = refl;
        })

    pub body_more : Represents p (stores h rows keys sorts pending) → Represents p (stores h (rows ++ rest.rows) (keys ++ rest.keys) (sorts ++ rest.sorts) pending)
    body_more r =
        let l = long_header r in
        fronts_represent (body (rows ++ rest.rows) (keys ++ rest.keys) (sorts ++ rest.sorts)) pending r
        (record {
          long =
              record {
                rows_long = simp length-append (omega (arith, l.rows_long));
                keys_long = simp length-append (omega (arith, l.keys_long));
                sorts_long = simp length-append (omega (arith, l.sorts_long));
              };
          rows_same = take-append-le (h.capacity * h.columns) rows rest.rows l.rows_long;
          keys_same = take-append-le (2 * h.capacity) keys rest.keys l.keys_long;
          sorts_same = take-append-le (2 * h.capacity) sorts rest.sorts l.sorts_long;
          pending_same = refl;
        })
