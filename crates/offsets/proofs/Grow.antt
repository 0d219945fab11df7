-- A growing answer, an id at a time. Assumes nothing.
use Rattle.std.specs.Prelude.{Ok}
use Rattle.std.proofs.Common.{◌≡◌, ℕ, suc, ◌+◌, ◌-◌, ◌<◌, ◌≤◌, true, List, [], ◌∷◌, ◌++◌, length, get_or, set, sym, refl, ap, ◌∙◌, ap₂, add-zero, zero-add, arith, length-append, length-set}
use native.Mathlib.Decide.{ℕ_discrete}
use lib.ListN.{get_or-append}
use lib.Seq.{get_or_at}
use Rattle.lists.specs.Lists.{splice, iota, rising}
use Rattle.lists.specs.Laws.Parts.{splice_nil, length_splice}
use Rattle.lists.specs.Laws.Rising.{length_iota, get_d_iota, iota_snoc, rising_at, rising_gap}
use Rattle.lists.specs.Laws.Search.{put_more}
use Rattle.refusals.specs.Refusals.{accepted}
use Rattle.offsets.specs.declared.retain.RetainBuilder.{RetainBuilder}
use Rattle.offsets.specs.declared.SubsetForm.TheVariants.{Range, List as Ids}
use Rattle.offsets.specs.Subsets.{range, list, shaped}
use Rattle.offsets.specs.Answers.{Answered}
use Rattle.offsets.specs.inner.RetainBuilder.{pushed, Builds, NextId, CanAdd, Adds, BuilderBegins, BuilderEnds}
use Rattle.offsets.specs.Laws.Subsets.{range_writes_nothing, answered_list, shaped_list, shaped_iota}

-- ---- neighbouring ids

pub record Filled (output₀ output : List ℕ) (start count i : ℕ) : Type 0 where
  pub upto : i ≤ count
  pub same : length output ≡ length output₀
  pub cells : output ≡ splice output₀ 0 (iota start i)

pub filled_begin : (output₀ : List ℕ) (start count : ℕ) → Filled output₀ output₀ start count 0
unfolding iota
filled_begin output₀ start count = record { upto = omega arith; same = refl; cells = sym (splice_nil output₀ 0) }

pub filled_more : (output₀ output : List ℕ) (start count i : ℕ) → count ≤ length output₀ → Filled output₀ output start count i → i < count → Filled output₀ (set output i (start + i)) start count (i + 1)
filled_more output₀ output start count i h s k =
    record {
      upto = omega arith;
      same = simp length-set s.same;
      cells =
          ap (λ (l : List ℕ). set l i (start + i)) s.cells
          ∙ put_more output₀ (iota start i) i (start + i) (sym (length_iota start i)) (omega arith)
          ∙ ap (splice output₀ 0) (sym (iota_snoc start i));
    }

pub filled_end : (output₀ output : List ℕ) (start count i : ℕ) → Filled output₀ output start count i → count ≤ i → output ≡ splice output₀ 0 (iota start count)
filled_end output₀ output start count i s h = let e : i ≡ count = omega (arith, s.upto) in s.cells ∙ ap (λ (k : ℕ). splice output₀ 0 (iota start k)) e

-- ---- what the next id is known by

module _ (kept : List ℕ) (id : ℕ) (e : rising (kept ++ (id ∷ [])) ≡ true) where
  last_is : get_or (kept ++ (id ∷ [])) (length kept) 0 ≡ id
  last_is = get_or_at kept id [] 0 (length kept) refl

  long : length (kept ++ (id ∷ [])) ≡ length kept + 1
  long = simp length-append

  -- the kept ids are below the new one
  kept_below : (i : ℕ) → i < length kept → get_or kept i 0 < id
  kept_below i h =
      let a = rising_at (kept ++ (id ∷ [])) e i (length kept) h (omega (arith, long)) in
      let b = get_or-append kept (id ∷ []) 0 i h in
      omega (arith, last_is)

  -- so their number is at most the new id
  pub kept_few : length kept ≤ id
  kept_few =
      let a = rising_gap (kept ++ (id ∷ [])) e 0 (length kept) (omega (arith, long)) in
      let b = rw zero-add at a in
      omega (arith, last_is)

  -- the ids are not consecutive if the kept ids and one more end before the new one
  gap_of : 0 < length kept → get_or kept 0 0 + length kept + 1 ≤ id
      → get_or (kept ++ (id ∷ [])) 0 0 + length (kept ++ (id ∷ [])) ≤ get_or (kept ++ (id ∷ [])) (length (kept ++ (id ∷ [])) - 1) 0
  gap_of h k =
      let z : length (kept ++ (id ∷ [])) - 1 ≡ length kept = omega (arith, long) in
      let a = get_or-append kept (id ∷ []) 0 0 h in
      rw z (omega (arith, last_is, long))

shaped_nil : shaped [] ≡ range 0 0
unfolding shaped
shaped_nil = refl

-- ---- the states

pub begun : BuilderBegins (record { start = 0; count = 0; written = 0 })
unfolding rising iota
begun =
    record {
      nothing = refl;
      begins = λ output.
          record {
            up = refl;
            same = refl;
            number = refl;
            as_range = λ e. record { ids = refl; none = λ q. refl; fits = omega arith; unwritten = refl };
            as_list = λ e. absurd (e refl);
          };
    }

-- the kept ids while the answer is a range
module _ (output₀ output : List ℕ) (g : RetainBuilder) (kept : List ℕ) (s : Builds output₀ output g kept) (d : g.written ≡ 0) where
  first_is : 0 < g.count → get_or kept 0 0 ≡ g.start
  first_is h = ap (λ (l : List ℕ). get_or l 0 0) (s.as_range d).ids ∙ get_d_iota g.start g.count 0 0 h ∙ add-zero g.start

  top_below : (id : ℕ) → rising (kept ++ (id ∷ [])) ≡ true → 0 < g.count → g.start + g.count ≤ id
  top_below id e h =
      let top = get_d_iota g.start g.count (g.count - 1) 0 (omega arith) in
      let is : get_or kept (g.count - 1) 0 ≡ g.start + (g.count - 1) = ap (λ (l : List ℕ). get_or l (g.count - 1) 0) (s.as_range d).ids ∙ top in
      let below = kept_below kept id e (g.count - 1) (omega (arith, s.number)) in
      omega arith

module _ (output : List ℕ) (g : RetainBuilder) (id : ℕ) where
  -- what the code may rely on
  pub record Sure : Type 0 where
    pub few : g.count < 4294967295
    pub sum : g.written ≡ 0 → (g.count ≡ 0 → ⊥) → g.start + g.count < 4294967296
    pub room : (g.count ≡ 0 → ⊥) → g.count < length output
    pub some : (g.written ≡ 0 → ⊥) → g.count ≡ 0 → ⊥

  pub sure : CanAdd output g id → Sure
  sure c =
      record {
        few = omega (arith, c.grows.number, kept_few c.kept id c.next.up, c.next.small);
        sum = λ d n. omega (arith, top_below c.output₀ output g c.kept c.grows d id c.next.up (omega (arith, n)), c.next.small);
        room = λ n. omega (arith, c.next.room (omega (arith, c.grows.number, n)), c.grows.number, c.grows.same);
        some = λ d n. d ((c.grows.as_list d).wrote.number ∙ sym c.grows.number ∙ n);
      }

  -- the first id
  pub adds_first : g.written ≡ 0 → g.count ≡ 0 → Adds output g id (record { start = id; count = 1; written = g.written }) output
  unfolding iota
  adds_first d z =
      record {
        one_more = omega arith;
        adds = λ output₀ kept s n.
            let r = s.as_range d in
            let none : kept ≡ [] = r.ids ∙ ap (iota g.start) z in
            record {
              up = n.up;
              same = s.same;
              number = omega (arith, s.number, long kept id n.up);
              as_range = λ e. record { ids = ap (λ (l : List ℕ). l ++ (id ∷ [])) none; none = λ q. absurd (omega arith); fits = omega (arith, n.small); unwritten = r.unwritten };
              as_list = λ e. absurd (e d);
            };
      }

  -- a neighbour
  pub adds_neighbour : g.written ≡ 0 → g.start + g.count ≡ id → Adds output g id (record { start = g.start; count = g.count + 1; written = g.written }) output
  adds_neighbour d z =
      record {
        one_more = refl;
        adds = λ output₀ kept s n.
            let r = s.as_range d in
            let ids : kept ++ (id ∷ []) ≡ iota g.start (g.count + 1) = rw (r.ids, ← z) (sym (iota_snoc g.start g.count)) in
            record {
              up = n.up;
              same = s.same;
              number = omega (arith, s.number, long kept id n.up);
              as_range = λ e. record { ids = ids; none = λ q. absurd (omega arith); fits = omega (arith, n.small); unwritten = r.unwritten };
              as_list = λ e. absurd (e d);
            };
      }

  -- an id that is not consecutive: the range is written out, and the id after it
  pub adds_gap : (filled : List ℕ) → g.written ≡ 0 → (g.count ≡ 0 → ⊥) → (g.start + g.count ≡ id → ⊥) → filled ≡ splice output 0 (iota g.start g.count)
      → Adds output g id (pushed g) (set filled g.count id)
  unfolding pushed
  adds_gap filled d p q f = record { one_more = refl; adds = added }
    where
      added : (output₀ kept : List ℕ) → Builds output₀ output g kept → NextId output₀ kept id
          → Builds output₀ (set filled g.count id) (pushed g) (kept ++ (id ∷ []))
      added output₀ kept s n =
          let r = s.as_range d in
          let cells : filled ≡ splice output₀ 0 kept = rw (r.ids, ← r.unwritten) f in
          let put = put_more output₀ kept g.count id s.number (omega (arith, n.room (omega (arith, s.number, p)), s.number)) in
          let some : 0 < g.count = omega (arith, p) in
          let top = top_below output₀ output g kept s d id n.up some in
          record {
            up = n.up;
            same = length_of output₀ kept cells put (omega (arith, n.room (omega (arith, s.number)), long kept id n.up));
            number = omega (arith, s.number, long kept id n.up);
            as_range = λ e. absurd (omega arith);
            as_list = λ e.
                record {
                  wrote = record { number = omega (arith, s.number, long kept id n.up); cells = ap (λ (l : List ℕ). set l g.count id) cells ∙ put };
                  gap = gap_of kept id n.up (omega (arith, s.number)) (omega (arith, first_is output₀ output g kept s d some, s.number, q));
                };
          }
        where
          length_of : (output₀ kept : List ℕ) → filled ≡ splice output₀ 0 kept → set (splice output₀ 0 kept) g.count id ≡ splice output₀ 0 (kept ++ (id ∷ [])) → length (kept ++ (id ∷ [])) ≤ length output₀
              → length (set filled g.count id) ≡ length output₀
          length_of output₀ kept c w l = ap (λ (m : List ℕ). length (set m g.count id)) c ∙ ap length w ∙ length_splice output₀ (kept ++ (id ∷ [])) 0 (omega (arith, l))

  -- the list grows
  pub adds_more : (g.written ≡ 0 → ⊥) → Adds output g id (pushed g) (set output g.count id)
  unfolding pushed
  adds_more d =
      record {
        one_more = refl;
        adds = λ output₀ kept s n.
            let r = s.as_list d in
            let some : 0 < length kept = omega (arith, r.wrote.number, d) in
            let below = kept_below kept id n.up (length kept - 1) (omega arith) in
            record {
              up = n.up;
              same = simp length-set s.same;
              number = omega (arith, s.number, long kept id n.up);
              as_range = λ e. absurd (omega arith);
              as_list = λ e.
                  record {
                    wrote =
                        record {
                          number = omega (arith, s.number, long kept id n.up);
                          cells = ap (λ (l : List ℕ). set l g.count id) r.wrote.cells ∙ put_more output₀ kept g.count id s.number (omega (arith, n.room some, s.number));
                        };
                    gap = gap_of kept id n.up some (omega (arith, r.gap));
                  };
            };
      }

-- ---- the answer

pub ended_range : (g : RetainBuilder) → g.written ≡ 0 → BuilderEnds g (Range g.start (g.start + g.count))
ended_range g d =
    record {
      ends = λ output₀ output kept s.
          let r = s.as_range d in
          let e : shaped kept ≡ range g.start (g.start + g.count) =
          ap shaped r.ids
          ∙ elim (ℕ_discrete g.count 0) [
            | yes q ↦ unfold iota in ap (λ (k : ℕ). shaped (iota g.start k)) q ∙ shaped_nil ∙ ap₂ range (sym (r.none q)) (omega (arith, r.none q))
            | no q ↦ shaped_iota g.start g.count (omega (arith, q))
          ] in
          rw (e, r.unwritten) (range_writes_nothing g.start (g.start + g.count) output₀);
    }

pub ended_list : (g : RetainBuilder) → (g.written ≡ 0 → ⊥) → BuilderEnds g (Ids g.count)
ended_list g d = record { ends = ended }
  where
    ended : (output₀ output kept : List ℕ) → Builds output₀ output g kept → Answered (accepted (shaped kept)) output₀ (Ok (Ids g.count)) output
    ended output₀ output [] s = absurd (d (s.as_list d).wrote.number)
    ended output₀ output (x ∷ xs) s =
        let r = s.as_list d in
        let k : suc (length xs) - 1 ≡ length xs = omega arith in
        let gap : x + suc (length xs) ≤ get_or (x ∷ xs) (length xs) 0 = rw k at r.gap in
        let apart : (x ∷ xs) ≡ iota x (suc (length xs)) → ⊥ =
        λ q. let last : get_or (x ∷ xs) (length xs) 0 ≡ x + length xs = rw q (get_d_iota x (suc (length xs)) (length xs) 0 (omega arith)) in omega arith in
        let e : shaped (x ∷ xs) ≡ list (x ∷ xs) = shaped_list x xs apart in
        rw e (answered_list (x ∷ xs) output₀ g.count output (record { number = s.number; cells = r.wrote.cells }))
