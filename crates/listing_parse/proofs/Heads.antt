-- The ways through `head_at` and `scan_text`. Assumes nothing.
use Rattle.listing_parse.proofs.Prelude.{ℕ, ◌-◌, ◌≤◌, ◌<◌, ◌≡◌, refl, sym, ap, ◌∙◌, Bool, true, false, cond, not, ◌&&◌, false≢true, inl, inr, split, List, [], ◌∷◌, ◌++◌, map, append-nil, append_assoc, arith, length-append, get_or_at, line_of, line_ended, shown_text, text_shown, length, take, drop, get_or, List·getD-eq-default, eq-eqb, ne_eqb, le-leb, lt-leb, lt-ltb, leb, eqb, get_or-take, length-take-le, take-suc, ℕ_discrete, Survey, line_from, Found, LineAt}
use Rattle.lists.specs.Lists.{flatten}
use Rattle.levels_text.specs.Written.{text_line}
use Rattle.listing_spec.specs.Listings.{listing_text, head_letter, head_width, is_head}
use Rattle.plain_table.proofs.Laws.Proper.{openable_bounds}
use Rattle.table.specs.inner.Bounds.{bounds_kept}
use Rattle.listing_spec.specs.inner.Checking.{pieces, begins, rows_good, lines_to_rows, pieces_good, listing_of, text_good, listing_in}
use Rattle.listing_parse.specs.inner.Lines.{ends_line}
use Rattle.listing_parse.specs.inner.Surveys.{Counted, HeadFound, HeadAt, head_of, Surveyed}

-- ---- the head line

width_some : (numbered : Bool) → 5 ≤ head_width numbered
unfolding head_width
width_some true = omega arith
width_some false = omega arith

last_number : (numbered : Bool) (stored : List ℕ) → head_width numbered ≤ length stored → get_or (take (head_width numbered) stored) 5 0 ≡ cond numbered (get_or stored 5 0) 0
unfolding head_width
last_number true stored wide = get_or-take 6 stored 5 0 (omega arith)
last_number false stored wide = List·getD-eq-default (take 5 stored) 0 (omega (arith, length-take-le 5 stored wide))

pub head_no_line : (numbered : Bool) (text : List ℕ) {next : ℕ} {stored stored' : List ℕ} → LineAt text 0 (head_letter numbered) (head_width numbered) next stored → next ≡ 0 → HeadAt numbered text 0 stored'
head_no_line numbered text l zero = record { wrong = λ z. unfold text_good in no_head (pieces text) (l.wrong zero); found = λ some. absurd (omega (arith, some)) }
  where
    no_head : (ps : List (List ℕ)) → begins (head_letter numbered) (head_width numbered) ps ≡ false → pieces_good numbered ps ≡ false
    no_head [] e = unfold pieces_good in refl
    no_head (line ∷ rest) e = unfold pieces_good in rw e

module _ (numbered : Bool) (text : List ℕ) {next : ℕ} {stored : List ℕ} (f : Found text 0 (head_letter numbered) (head_width numbered) next stored)
    (count : ℕ) (counted : count ≡ cond numbered (get_or stored 5 0) 0) where
  abbrev ns : List ℕ
  ns = take (head_width numbered) stored

  cut : pieces text ≡ line_from text ∷ pieces (drop next text)
  cut = f.cut

  at_place : (i : ℕ) → i < 5 → get_or ns i 0 ≡ get_or stored i 0
  at_place i h = get_or-take (head_width numbered) stored i 0 (omega (arith, width_some numbered))

  last : get_or ns 5 0 ≡ count
  last = last_number numbered stored f.wide ∙ sym counted

  in_bounds : Bool
  in_bounds = bounds_kept (get_or stored 0 0) (get_or stored 1 0) (get_or stored 2 0) (get_or stored 3 0)

  head_tests : is_head numbered ns ≡ (leb count 65536 && in_bounds)
  unfolding is_head in_bounds
  head_tests =
      rw (eq-eqb (length ns) (head_width numbered) (length-take-le (head_width numbered) stored f.wide), at_place 0 (omega arith), at_place 1 (omega arith), at_place 2 (omega arith), at_place 3 (omega arith), last)

  text_tests : text_good numbered text ≡ (leb count 65536 && in_bounds && rows_good numbered (get_or stored 0 0) count 0 65536 (pieces (drop next text)))
  unfolding text_good pieces_good
  text_tests =
      let good : begins (head_letter numbered) (head_width numbered) (line_from text ∷ pieces (drop next text)) ≡ true = rw cut at f.good in
      rw (cut, good, ← f.read, head_tests, at_place 0 (omega arith), last)

  pub head_large : {stored' : List ℕ} → 65536 < count → HeadAt numbered text 0 stored'
  head_large h = record { wrong = λ z. text_tests ∙ rw (lt-leb count 65536 h); found = λ some. absurd (omega (arith, some)) }

  module _ (few : count ≤ 65536) {b : Bool} (kept : b ≡ bounds_kept (get_or stored 0 0) (get_or stored 1 0) (get_or stored 2 0) (get_or stored 3 0)) where
    pub head_unbound : {stored' : List ℕ} → b ≡ false → HeadAt numbered text 0 stored'
    unfolding in_bounds
    head_unbound no-bounds = record { wrong = λ z. text_tests ∙ rw (le-leb count 65536 few, ← kept, no-bounds); found = λ some. absurd (omega (arith, some)) }

    pub head_found : b ≡ true → HeadAt numbered text next stored
    unfolding in_bounds
    head_found all_kept = record {
      wrong = λ z. absurd (omega (arith, z, f.forward));
      found = λ some. record {
        inside = f.inside;
        narrow = let bounds = openable_bounds _ (sym kept ∙ all_kept) in (bounds.columns_some, bounds.columns_few);
        good = text_tests ∙ rw (le-leb count 65536 few, ← kept, all_kept, counted);
        head = head_same;
        rows = rows_same;
      };
    }
      where
        head_same : (listing_in text).head ≡ ns
        head_same = unfold listing_in listing_of in rw (cut, f.read)

        rows_same : (listing_in text).rows ≡ lines_to_rows (pieces (drop next text))
        rows_same = unfold listing_in listing_of in rw cut

-- ---- the last byte

record Ends (text : List ℕ) : Type 0 where
  pub front : List ℕ
  pub same : text ≡ front ++ (10 ∷ [])

ends_line_lem : (front : List ℕ) → ends_line (front ++ (10 ∷ [])) ≡ true
unfolding ends_line
ends_line_lem front =
    let long = length-append front (10 ∷ []) in
    let some : 0 < length (front ++ (10 ∷ [])) = omega arith in
    let last : get_or (front ++ (10 ∷ [])) (length (front ++ (10 ∷ [])) - 1) 0 ≡ 10 = get_or_at front 10 [] 0 (length (front ++ (10 ∷ [])) - 1) (omega arith) in
    rw (lt-ltb 0 (length (front ++ (10 ∷ []))) some, eq-eqb (get_or (front ++ (10 ∷ [])) (length (front ++ (10 ∷ [])) - 1) 0) 10 last)

rows_end : (text : List ℕ) (rows : List (List ℕ)) → Ends text → Ends (text ++ flatten (map (text_line 68) rows))
unfolding flatten
rows_end text [] e = rw (append-nil text) e
rows_end text (ns ∷ rows) e =
    rw (← append_assoc text (text_line 68 ns) (flatten (map (text_line 68) rows)))
    (rows_end (text ++ text_line 68 ns) rows (record { front = text ++ line_of 68 ns; same = rw (line_ended 68 ns) (sym (append_assoc text (line_of 68 ns) (10 ∷ []))) }))

unended : (numbered : Bool) (text : List ℕ) → ends_line text ≡ false → text_good numbered text ≡ false
unended numbered text e =
    elim (split (text_good numbered text)) [
      | inl g ↦ let last = ends g in absurd (false≢true (sym e ∙ ap ends_line last.same ∙ ends_line_lem last.front))
      | inr g ↦ g
    ]
  where
    ends : text_good numbered text ≡ true → Ends text
    ends g =
        let l = listing_in text in
        let head = text_line (head_letter numbered) l.head in
        let whole : text ≡ head ++ flatten (map (text_line 68) l.rows) = shown_text (text_shown numbered text g) ∙ unfold listing_text in refl in
        rw whole (rows_end head l.rows (record { front = line_of (head_letter numbered) l.head; same = line_ended (head_letter numbered) l.head }))

-- ---- the whole text

head_shown : (numbered : Bool) (stored : List ℕ) → 6 ≤ length stored → (s : Survey) → s.columns ≡ get_or stored 0 0 → s.keys ≡ get_or stored 1 0 → s.sort ≡ get_or stored 2 0
    → s.rule ≡ get_or stored 3 0 → s.generation ≡ get_or stored 4 0 → s.count ≡ cond numbered (get_or stored 5 0) 0 → take (head_width numbered) stored ≡ head_of numbered s
unfolding head_width head_of
head_shown true stored long s a b c d g n =
    rw (a, b, c, d, g, n) (take-suc stored 5 0 (omega arith) ∙ rw (take-suc stored 4 0 (omega arith), take-suc stored 3 0 (omega arith), take-suc stored 2 0 (omega arith), take-suc stored 1 0 (omega arith), take-suc stored 0 0 (omega arith)))
head_shown false stored long s a b c d g n =
    rw (a, b, c, d, g) (take-suc stored 4 0 (omega arith) ∙ rw (take-suc stored 3 0 (omega arith), take-suc stored 2 0 (omega arith), take-suc stored 1 0 (omega arith), take-suc stored 0 0 (omega arith)))

pub surveyed_none : (numbered : Bool) (text : List ℕ) {next : ℕ} {stored : List ℕ} {s : Survey} → HeadAt numbered text next stored → next ≡ 0 → s.is_listing ≡ false → Surveyed numbered text s
surveyed_none numbered text h zero e = record { tested = e ∙ sym (h.wrong zero); found = λ t. absurd (false≢true (sym e ∙ t)) }

pub surveyed_unended : (numbered : Bool) (text : List ℕ) {s : Survey} → ends_line text ≡ false → s.is_listing ≡ false → Surveyed numbered text s
surveyed_unended numbered text last e = record { tested = e ∙ sym (unended numbered text last); found = λ t. absurd (false≢true (sym e ∙ t)) }

pub surveyed : (numbered : Bool) (text : List ℕ) {stored : List ℕ} (s : Survey) → HeadFound numbered text s.start stored → 6 ≤ length stored
    → s.columns ≡ get_or stored 0 0 → s.keys ≡ get_or stored 1 0 → s.sort ≡ get_or stored 2 0 → s.rule ≡ get_or stored 3 0 → s.generation ≡ get_or stored 4 0
    → s.count ≡ cond numbered (get_or stored 5 0) 0 → Counted numbered s.columns s.count text s.start s.rows → s.is_listing ≡ not (eqb s.rows 65537)
    → Surveyed numbered text s
surveyed numbered text {stored} s f long a b c d g n k t =
    elim (ℕ_discrete s.rows 65537) [
      | yes e ↦
          let no_listing : s.is_listing ≡ false = t ∙ rw (eq-eqb s.rows 65537 e) in
          record { tested = no_listing ∙ sym (good ∙ k.wrong e); found = λ y. absurd (false≢true (sym no_listing ∙ y)) }
      | no e ↦
          let r = k.right e in
          record {
            tested = rw (t, ne_eqb s.rows 65537 e) (sym (good ∙ r.0));
            found = λ y. record {
              of_form = good ∙ r.0;
              narrow = rw a f.narrow;
              few = omega (arith, k.bounded, e);
              inside = f.inside;
              head = f.head ∙ head_shown numbered stored long s a b c d g n;
              counted = r.1 ∙ ap length (sym f.rows);
              rows_there = f.rows;
              good = r.0;
            };
          }
    ]
  where
    good : text_good numbered text ≡ rows_good numbered s.columns s.count 0 65536 (pieces (drop s.start text))
    good = rw (a, n) f.good
