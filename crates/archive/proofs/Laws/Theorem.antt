-- What archives guarantee. Assumes nothing but the contracts that the definitions cite.
use Rattle.refusals.specs.declared.Refusal.{Refusal}
use Rattle.std.specs.Prelude.{Result, Ok}
use Rattle.archive.proofs.Laws.Prelude.{ℕ, ◌*◌, ◌≤◌, ◌≡◌, refl, sym, ap, ◌∙◌, Bool, false, not, ◌||◌, List, [], ◌∷◌, inl, inr, Option, some, mul-le-mul_right, arith, length, take, append-nil, ltb, eqb, take_all, ltb-false, ne_eqb, not-false, le-ltb, splice, or_no_left, or_no_right, length_splice, stores_short, Plain, first_refusal_no, first_refusal_rest, Header, Sound, Stores, Body, body, joined, lengths, Represents, LongEnough, stores_long, Inside, outside_inside, sound_represents, live_shown, long_header, pending_part, pending_more, body_part, body_more, Image, image_words, SoundImage, image_of, Parts, image_parts, reads_unique, behind, step_represents, history_represents, narrowed_wanted, narrowed_rising, run_narrows, Saved, ReadAfterWrite, ImageOfLoaded, reloaded, Archived, made, loads, goes_on, Archives}
use Rattle.refusals.specs.Refusals.{check, first_refusal, Reply, accepted, reply, Effect}
use Rattle.refusals.specs.Refusals.{answer_view}
use Rattle.table.specs.Numbers.{opening_of}
use Rattle.table.specs.Refusing.{outside, pending_outside, rows_short, pairs_short, sound_refusal}
use Rattle.image_spec.specs.Outcomes.{write_refusal, with_capacity, read_refusal, Loaded, ImageRead, text_refusal, text_of, TextRead}
use Rattle.history.specs.Claim.{live_in, Claimed}
use Rattle.archive.proofs.Laws.Contents.{SameInUse, contents_same}
use Rattle.archive.proofs.Laws.Resized.{SameShape, all_words_same, all_widths_same}
use Rattle.archive.proofs.Laws.Saved.{accepted_number, saved_image, saved_reads}
use Rattle.archive.proofs.Laws.Loaded.{front_put, accepted_none, refusal_is, loaded_represents}
use Rattle.archive.proofs.Laws.Damage.{IsImage, read_cases, damage_refused}
use Rattle.std.proofs.Math.Option.{Option-elim}

-- ---- loading after saving

pub read_after_write : (p : Plain) (s : Stores) (words : List ℕ) (capacity : ℕ) (b : Body) (pending : List ℕ) (answer : Result Header Refusal) (b' : Body) (pending' : List ℕ)
    → Represents p s → Saved s words → ImageRead words capacity b pending answer b' pending'
    → ReadAfterWrite p s capacity b pending answer b' pending'
read_after_write p s words capacity b pending answer b' pending' r saved m =
    record { refusal = refusal_is r saved capacity m; represents = loaded_represents r saved capacity m }

pub text_after_write : (p : Plain) (s : Stores) (words : List ℕ) → Represents p s → (saved : Saved s words)
    → (output : List ℕ) (answer : Result ℕ Refusal) (output' : List ℕ) → TextRead words output answer output'
    → Effect (first_refusal (check (ltb (length output) (length saved.text)) 2 ∷ [])) (answer_view answer) (length saved.text) output output' (splice output 0 saved.text)
unfolding text_refusal text_of Option-elim
text_after_write p s words r saved output answer output' m =
    let e : m.image ≡ some (saved_image r saved) = reads_unique words _ _ m.reads (saved_reads r saved) in
    record {
      answers = m.effect.answers ∙ ap (λ (o : Option Image). reply (text_refusal o (length output)) (length (text_of o))) e;
      unchanged = λ k. m.effect.unchanged (rw (ap (λ (o : Option Image). text_refusal o (length output)) e) k);
      written = λ z.
          m.effect.written (ap (λ (o : Option Image). text_refusal o (length output)) e ∙ z) ∙ ap (λ (o : Option Image). splice output 0 (text_of o)) e;
    }

-- ---- an image that was accepted

-- the capacity of an image put back
capacity_back : (h i : Header) (capacity : ℕ) → h ≡ with_capacity i capacity → eqb i.capacity 0 ≡ false → with_capacity h i.capacity ≡ i
capacity_back h i capacity e own = ap (λ (x : Header). with_capacity x i.capacity) e ∙ rw own

at_header : {p : Plain} (h k : Header) (b : Body) (pending : List ℕ) → h ≡ k → Represents p (joined k b pending) → Represents p (joined h b pending)
at_header h k b pending e r = rw e r

module _ (words : List ℕ) (capacity : ℕ) (b : Body) (pending : List ℕ) (h : Header) (b' : Body) (pending' : List ℕ) (m : ImageRead words capacity b pending (Ok h) b' pending') where
  none_refused : read_refusal m.decoded.image m.decoded.sound capacity b pending ≡ 0
  unfolding answer_view
  none_refused = accepted_none h _ m.refusal

  -- the image
  accepted_image : IsImage words m.decoded.image
  unfolding read_refusal Option-elim
  accepted_image =
      elim (read_cases words m.decoded.image m.decoded.reads) [
        | inl e ↦ absurd (let z : 19 ≡ 0 = sym (ap (λ (o : Option Image). read_refusal o m.decoded.sound capacity b pending) e) ∙ none_refused in omega (arith, z))
        | inr k ↦ k
      ]

  abbrev image : Image
  image = accepted_image.image

  loaded : Loaded image capacity b pending (Ok h) b' pending'
  loaded = m.loaded image accepted_image.is_read none_refused

  parts : Parts image
  parts = image_parts image accepted_image.passes

  header_is : h ≡ with_capacity image.header capacity
  unfolding answer_view
  header_is = let q : ◌≡◌ {A = Reply Header} (accepted h) (accepted (with_capacity image.header capacity)) = loaded.answers in cc

  -- its capacity is not 0
  own_capacity : eqb image.header.capacity 0 ≡ false
  own_capacity =
      let i : Inside image.header = outside_inside image.header parts.header_fits in
      ne_eqb image.header.capacity 0 (λ e. omega (arith, e, i.bounds.capacity_some))

  back_header : with_capacity h image.header.capacity ≡ image.header
  back_header = capacity_back h image.header capacity header_is own_capacity

  rows_front : take (image.header.rows * image.header.columns) b'.rows ≡ image.rows
  rows_front = ap (take (image.header.rows * image.header.columns)) loaded.rows_after ∙ front_put b.rows image.rows _ parts.rows_counted

  sorts_front : take (2 * image.header.entries) b'.sorts ≡ image.sorts
  sorts_front = ap (take (2 * image.header.entries)) loaded.sorts_after ∙ front_put b.sorts image.sorts _ parts.sorts_counted

  pending_front : take image.header.pending pending' ≡ image.pending
  pending_front = ap (take image.header.pending) loaded.pending_after ∙ front_put pending image.pending _ parts.pending_counted

  image_back : image_of image.header b'.rows b'.sorts pending' image.text ≡ image
  image_back = λ j. record { header = image.header; text = image.text; rows = rows_front j; sorts = sorts_front j; pending = pending_front j }

  -- ---- the table that was loaded is sound

  abbrev after_load : Header
  after_load = with_capacity image.header capacity

  abbrev are_stores_short : Bool
  are_stores_short =
      stores_short (opening_of after_load) (lengths b.rows b.keys b.sorts pending [] []) || ltb (length pending) image.header.pending

  checks_passed : first_refusal (check (not m.decoded.sound) 20 ∷ check (outside after_load) 1 ∷ check are_stores_short 2 ∷ []) ≡ 0
  unfolding read_refusal Option-elim
  checks_passed = sym (ap (λ (o : Option Image). read_refusal o m.decoded.sound capacity b pending) accepted_image.is_read) ∙ none_refused

  image_sound : SoundImage image
  image_sound = m.decoded.if_sound (not-false _ (first_refusal_no _ _ _ checks_passed)) image accepted_image.is_read

  bounds_pass : outside after_load ≡ false
  bounds_pass = first_refusal_no _ _ _ (first_refusal_rest _ _ _ checks_passed)

  inside : Inside after_load
  inside = outside_inside after_load bounds_pass

  none_short_loaded : are_stores_short ≡ false
  none_short_loaded = first_refusal_no _ _ _ (first_refusal_rest _ _ _ (first_refusal_rest _ _ _ checks_passed))

  long : LongEnough (opening_of after_load) (length b.rows) (length b.keys) (length b.sorts)
  long = stores_long (opening_of after_load) (lengths b.rows b.keys b.sorts pending [] []) (or_no_left _ _ none_short_loaded)

  pending_fits : image.header.pending ≤ length pending
  pending_fits =
      ltb-false _ _
      (or_no_right (stores_short (opening_of after_load) (lengths b.rows b.keys b.sorts pending [] [])) (ltb (length pending) image.header.pending) none_short_loaded)

  same_rows : length b'.rows ≡ length b.rows
  same_rows =
      let fit = mul-le-mul_right image.header.columns inside.rows_fit in
      ap length loaded.rows_after ∙ length_splice b.rows _ 0 (omega (arith, parts.rows_counted, long.rows_long, fit))

  same_sorts : length b'.sorts ≡ length b.sorts
  same_sorts =
      ap length loaded.sorts_after ∙ length_splice b.sorts _ 0 (omega (arith, parts.sorts_counted, long.sorts_long, inside.rows_fit, inside.entries_fit))

  same_pending : length pending' ≡ length pending
  same_pending = ap length loaded.pending_after ∙ length_splice pending _ 0 (omega (arith, parts.pending_counted, pending_fits))

  tested : sound_refusal after_load (length b'.rows) (length b'.keys) (length b'.sorts) (length pending') ≡ 0
  unfolding sound_refusal pending_outside rows_short pairs_short first_refusal
  tested =
      let pending-pass : ltb (length pending') image.header.pending ≡ false = le-ltb (length pending') image.header.pending (omega (arith, same_pending, pending_fits)) in
      let rows_pass : ltb (length b'.rows) (after_load.capacity * after_load.columns) ≡ false = le-ltb (length b'.rows) (after_load.capacity * after_load.columns) (omega (arith, same_rows, long.rows_long)) in
      let keys-pass : ltb (length b'.keys) (2 * after_load.capacity) ≡ false = le-ltb (length b'.keys) (2 * after_load.capacity) (omega (arith, loaded.slots, long.keys_long)) in
      let sorts-pass : ltb (length b'.sorts) (2 * after_load.capacity) ≡ false = le-ltb (length b'.sorts) (2 * after_load.capacity) (omega (arith, same_sorts, long.sorts_long)) in
      rw (bounds_pass, pending-pass, rows_pass, keys-pass, sorts-pass)

  same_in_use : SameInUse image.header image.rows image.sorts image.pending b'.rows b'.sorts pending'
  same_in_use =
      record {
        rows_same = rows_front ∙ sym (take_all (image.header.rows * image.header.columns) image.rows (omega (arith, parts.rows_counted)));
        sorts_same = sorts_front ∙ sym (take_all (2 * image.header.entries) image.sorts (omega (arith, parts.sorts_counted)));
        pending_same = pending_front ∙ sym (take_all image.header.pending image.pending (omega (arith, parts.pending_counted)));
      }

  sound_after : Sound after_load b'.rows b'.keys b'.sorts pending' image_sound.0
  sound_after =
      let c = contents_same same_in_use image_sound.1 in
      record {
        tested = tested;
        contents =
            record {
              dead_counted = c.dead_counted;
              keys_differ = c.keys_differ;
              entries_rise = c.entries_rise;
              sorted = c.sorted;
              largest_kept = c.largest_kept;
              pending_counted = c.pending_counted ∙ all_words_same shape image_sound.0;
              pending_whole =
                  record {
                    whole = sym (all_widths_same shape image_sound.0) ∙ c.pending_whole.whole;
                    in_order = rw (← all_words_same shape image_sound.0) c.pending_whole.in_order;
                  };
            };
        keys_sound = loaded.keys_sound;
      }
    where
      shape : SameShape (opening_of image.header) (opening_of after_load)
      shape = record { columns = refl; keys = refl }

  pub loaded_sound : h.generation ≤ 4294967295 → (p : Plain) × Represents p (joined h b' pending')
  loaded_sound fits =
      let g : after_load.generation ≤ 4294967295 = omega (arith, fits, ap (λ (x : Header). x.generation) header_is) in
      let r = sound_represents sound_after g in
      (r.0, at_header h after_load b' pending' header_is r.1)

  pub one_image : ImageOfLoaded words h b' pending'
  one_image =
      record {
        capacity = image.header.capacity;
        text = image.text;
        bytes = parts.text_bytes;
        is = accepted_image.are
            ∙ ap image_words (sym image_back)
            ∙ ap (λ (x : Header). image_words (image_of x b'.rows b'.sorts pending' image.text)) (sym back_header);
        sound = loaded_sound;
      }

-- ---- histories go on

module _ {p : Plain} {s : Stores} (rows sorts pending : List ℕ) (r : Represents p (behind s (body rows [] sorts) pending)) {words : List ℕ} (saved : Saved s words) where
  none_short : write_refusal s.header (length s.rows) (length s.sorts) (length s.pending) (length saved.text) (length saved.output) ≡ 0
  unfolding answer_view
  none_short = (accepted_number _ _ _ saved.written.effect.answers).0

  -- what `write_image` is lent represents the table as well
  lent_represents : Represents p s
  unfolding write_refusal pending_outside rows_short pairs_short
  lent_represents =
      let outside-no = first_refusal_no _ _ _ none_short in
      let short-no = first_refusal_no _ _ _ (first_refusal_rest _ _ _ none_short) in
      let fits = ltb-false _ _ (or_no_right (outside s.header) _ outside-no) in
      let whole = long_header r in
      body_part (body rows [] sorts) (pending_part pending r fits)
      (record {
        rows_long = ltb-false _ _ (or_no_left (rows_short s.header (length s.rows)) (pairs_short s.header (length s.sorts)) short-no);
        keys_long = rw (append-nil s.keys) at whole.keys_long;
        sorts_long = ltb-false _ _ (or_no_right (rows_short s.header (length s.rows)) (pairs_short s.header (length s.sorts)) short-no);
      })

-- the stores of an archive represent its plain table
pub archive_represents : {p : Plain} {s : Stores} → Archived p s → Represents p s
archive_represents (made h) = history_represents h
archive_represents (loads capacity a (reloaded {s} {t} rows sorts pending words saved b before m rest more)) =
    pending_more more (body_more rest (loaded_represents (lent_represents rows sorts pending (archive_represents a) saved) saved capacity m t.header refl))
archive_represents (goes_on a step) = step_represents (archive_represents a) step

pub archived_claimed : (p : Plain) (s : Stores) → Archived p s → Claimed p s
archived_claimed p s a =
    let shown = archive_represents a in
    record {
      live_rows_shown = unfold live_in in live_shown shown;
      ids_left = λ start queries end accepted run refined.
          let left = run_narrows shown run in
          (narrowed_wanted left refined, narrowed_rising left refined);
    }

pub archives : Archives
archives =
    record {
      read_after_write = read_after_write;
      text_after_write = text_after_write;
      one_image = one_image;
      damage_refused = damage_refused;
      term_three = archived_claimed;
    }
