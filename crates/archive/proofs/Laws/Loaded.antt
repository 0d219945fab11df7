-- Reading an image after writing it. Assumes nothing.
use Rattle.refusals.specs.declared.Refusal.{Refusal}
use Rattle.std.specs.Prelude.{Result, Ok}
use Rattle.archive.proofs.Laws.Prelude.{ℕ, zero, suc, ◌<◌, ◌≡◌, refl, sym, ap, ◌∙◌, Bool, true, false, ◌||◌, List, [], ◌∷◌, ⊎_elim, some, mul-le-mul_right, arith, length, take, take_at, ltb, split, length_splice, or_no_left, words_all, row_of, first_refusal_no, first_refusal_rest, bounds_openable, Header, outside, Stores, Body, joined, lengths, Represents, stores_long, Inside, outside_inside, reads_unique, Saved, resized}
use Rattle.std.proofs.Math.Option.{Option-elim}
use Rattle.lists.specs.Lists.{splice, row_at}
use Rattle.refusals.specs.Refusals.{check, first_refusal, Reply, accepted, reply, outcome}
use Rattle.plain_table.specs.Refusing.{stores_short}
use Rattle.plain_table.specs.Plain.{Plain, dead}
use Rattle.refusals.specs.Refusals.{answer_view}
use Rattle.table.specs.Numbers.{opening_of}
use Rattle.table.specs.Stores.{entries, header_of, RowShown}
use Rattle.image_spec.specs.Outcomes.{with_capacity, read_refusal, Loaded, ImageRead}
use Rattle.archive.proofs.Laws.Contents.{SameInUse, row_same, entries_same}
use Rattle.archive.proofs.Laws.Resized.{SameShape, all_words_same, all_widths_same}
use Rattle.archive.proofs.Laws.Saved.{saved_image, saved_parts, saved_reads, saved_sound}

-- the front of a store over which a list is put
pub front_put : (l w : List ℕ) (n : ℕ) → length w ≡ n → take n (splice l 0 w) ≡ w
unfolding splice
front_put l w n e = take_at w _ n e

-- a verdict that is accepted
pub accepted_none : {A : Type 0} (a : A) (n : ℕ) → outcome (accepted a) ≡ reply n tt → n ≡ 0
unfolding outcome reply
accepted_none a zero e = refl
accepted_none a (suc n) e = absurd (let z : ◌≡◌ {A = ℕ} 0 1 = cc in omega arith)

module _ {p : Plain} {s : Stores} (r : Represents p s) {words : List ℕ} (saved : Saved s words) (capacity : ℕ)
    {b : Body} {pending : List ℕ} {answer : Result Header Refusal} {b' : Body} {pending' : List ℕ} (m : ImageRead words capacity b pending answer b' pending') where
  image_is : m.decoded.image ≡ some (saved_image r saved)
  image_is = reads_unique words _ _ m.decoded.reads (saved_reads r saved)

  sound_is : m.decoded.sound ≡ true
  sound_is = ⊎_elim (λ e. e) (λ e. absurd (m.decoded.if_unsound e (saved_image r saved) image_is (saved_sound r saved))) (split m.decoded.sound)

  abbrev after : Header
  after = with_capacity s.header capacity

  abbrev short : Bool
  short = stores_short (opening_of after) (lengths b.rows b.keys b.sorts pending [] []) || ltb (length pending) s.header.pending

  abbrev left_number : ℕ
  left_number = first_refusal (check (outside after) 1 ∷ check short 2 ∷ [])

  number_is : read_refusal m.decoded.image m.decoded.sound capacity b pending ≡ left_number
  unfolding read_refusal Option-elim first_refusal
  number_is = rw (image_is, sound_is)

  pub refusal_is : outcome (answer_view answer) ≡ reply left_number tt
  refusal_is = rw (← number_is) m.refusal

  module _ (h : Header) (e : answer ≡ Ok h) where
    none_left : left_number ≡ 0
    unfolding answer_view
    none_left = accepted_none h left_number (rw e at refusal_is)

    loaded : Loaded (saved_image r saved) capacity b pending answer b' pending'
    loaded = m.loaded (saved_image r saved) image_is (number_is ∙ none_left)

    header_is : h ≡ after
    unfolding answer_view
    header_is = let q : ◌≡◌ {A = Reply Header} (accepted h) (accepted after) = (rw e at loaded.answers) in cc

    inside : Inside after
    inside = outside_inside after (first_refusal_no _ _ _ none_left)

    not_short : short ≡ false
    not_short = first_refusal_no _ _ _ (first_refusal_rest _ _ _ none_left)

    same : SameInUse s.header s.rows s.sorts s.pending b'.rows b'.sorts pending'
    same =
        let parts = saved_parts r saved in
        record {
          rows_same = rw loaded.rows_after (front_put b.rows _ _ parts.rows_counted);
          sorts_same = rw loaded.sorts_after (front_put b.sorts _ _ parts.sorts_counted);
          pending_same = rw loaded.pending_after (front_put pending _ _ parts.pending_counted);
        }

    -- the stores are as long as they were
    long_after : stores_short (opening_of after) (lengths b'.rows b'.keys b'.sorts pending' [] []) ≡ false
    unfolding stores_short
    long_after =
        let parts = saved_parts r saved in
        let long : stores_short (opening_of after) (lengths b.rows b.keys b.sorts pending [] []) ≡ false = or_no_left _ _ not_short in
        let l = stores_long (opening_of after) (lengths b.rows b.keys b.sorts pending [] []) long in
        let fit = mul-le-mul_right s.header.columns inside.rows_fit in
        let rows : length b'.rows ≡ length b.rows =
        rw loaded.rows_after (length_splice b.rows _ 0 (omega (arith, parts.rows_counted, l.rows_long, fit))) in
        let sorts : length b'.sorts ≡ length b.sorts =
        rw loaded.sorts_after (length_splice b.sorts _ 0 (omega (arith, parts.sorts_counted, l.sorts_long, inside.rows_fit, inside.entries_fit))) in
        rw (rows, sorts, loaded.slots) long

    shape : SameShape p.opening (resized p capacity).opening
    shape = record { columns = refl; keys = refl }

    header_shown : after ≡ header_of (resized p capacity)
    unfolding entries dead
    header_shown =
        ap (λ (x : Header). with_capacity x capacity) r.shown.header
        ∙ ap (λ (n : ℕ). record {
          columns = p.opening.columns;
          keys = p.opening.keys;
          sort = p.opening.sort;
          rule = p.opening.rule;
          capacity = (resized p capacity).opening.capacity;
          rows = length p.rows;
          dead = (header_of p).dead;
          entries = (header_of p).entries;
          pending = n;
          generation = p.generation;
          largest = (header_of p).largest;
        }) (all_words_same shape p.staged)

    rows_shown_after : (i : ℕ) → i < after.rows → RowShown (row_of p i) (row_at after.columns i b'.rows)
    rows_shown_after i k = rw (row_same same i k) (r.shown.rows_shown i k)

    pub loaded_represents : Represents (resized p capacity) (joined h b' pending')
    unfolding entries
    loaded_represents =
        let used : s.header.pending ≡ words_all p.opening p.staged = ap (λ (x : Header). x.pending) r.shown.header in
        record {
          proper =
              record {
                numbers = rw r.shown.header at (bounds_openable (opening_of after) inside.bounds);
                generation_fits = r.proper.generation_fits;
                rows_fit = rw r.shown.header at inside.rows_fit;
                widths = r.proper.widths;
                live_first = r.proper.live_first;
                keys_differ = r.proper.keys_differ;
                sorted = r.proper.sorted;
                largest_kept = r.proper.largest_kept;
                staged_whole = sym (all_widths_same shape p.staged) ∙ r.proper.staged_whole;
              };
          long_enough = rw r.shown.header at long_after;
          shown =
              record {
                header = header_is ∙ header_shown;
                rows_shown = rw header_is rows_shown_after;
                entries_shown = rw header_is (entries_same same ∙ r.shown.entries_shown);
                pending_held =
                    record {
                      whole = sym (all_widths_same shape p.staged) ∙ r.shown.pending_held.whole;
                      in_order = rw (← all_words_same shape p.staged) ((rw used at same.pending_same) ∙ r.shown.pending_held.in_order);
                    };
              };
          keys_sound = rw header_is loaded.keys_sound;
        }
