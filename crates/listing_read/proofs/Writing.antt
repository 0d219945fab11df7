-- The ways through `write_rows`: what is to be written from a place on ends where all of it does. Assumes nothing.
use Rattle.listing_read.proofs.Prelude.{ℕ, ◌+◌, ◌-◌, ◌≤◌, ◌<◌, ◌≡◌, refl, sym, ap, ◌∙◌, Bool, List, [], ◌++◌, arith, length, take, drop, zero-add, length-append, length-drop, length-take-le, length_splice, splice_nil, splice_then, put_mid, put_part, prefix_width, Found, LineReread, rows_from, ValidRows, valid_rows_room, valid_rows_next, valid_rows_row, none_from}
use Rattle.lists.specs.Lists.{splice, flatten}

pub record Writing (numbered : Bool) (columns : ℕ) (text : List ℕ) (start : ℕ) (output₀ output : List ℕ) (at used : ℕ) : Type 0 where
  pub inside : at ≤ length text
  pub same : length output ≡ length output₀
  pub valid_rows : ValidRows numbered columns text at
  pub room : used + length (flatten (rows_from text at)) ≤ length output
  pub rest : splice output used (flatten (rows_from text at)) ≡ splice output₀ 0 (flatten (rows_from text start))

module _ (numbered : Bool) (columns : ℕ) (text : List ℕ) (start : ℕ) (output₀ : List ℕ) where
  pub writing_begin : start ≤ length text → ValidRows numbered columns text start → length (flatten (rows_from text start)) ≤ length output₀
      → Writing numbered columns text start output₀ output₀ start 0
  writing_begin inside w room = record { inside = inside; same = refl; valid_rows = w; room = omega arith; rest = refl }

  module _ {output : List ℕ} {at used : ℕ} (v : Writing numbered columns text start output₀ output at used) where
    -- before the end there is room for one more row
    pub writing_fits : {width : ℕ} → width ≡ prefix_width numbered + columns → at < length text → used + width ≤ length output
    writing_fits e before = omega (arith, e, v.room, valid_rows_room numbered columns text at before v.valid_rows)

    pub writing_part : {width : ℕ} → width ≡ prefix_width numbered + columns → at < length text → width ≤ length (take (length output - used) (drop used output))
    writing_part e before =
        let part = length-drop used output in
        omega (arith, writing_fits e before, part, length-take-le (length output - used) (drop used output) (omega arith))

    module _ {width next : ℕ} {stored' : List ℕ} (e : width ≡ prefix_width numbered + columns) (f : Found text at 68 width next stored') where
      abbrev row : List ℕ
      row = take width stored'

      there : Found text at 68 (prefix_width numbered + columns) next stored'
      there = rw e at f

      more : flatten (rows_from text at) ≡ row ++ flatten (rows_from text next)
      unfolding flatten
      more = rw (e, valid_rows_row numbered columns text at there)

      wide : length row ≡ width
      wide = length-take-le width stored' f.wide

      writing_room : used + width + length (flatten (rows_from text next)) ≤ length output
      writing_room = omega (arith, v.room, wide, ap length more, length-append row (flatten (rows_from text next)))

      writing_more : {output' : List ℕ} → output' ≡ splice output used row → Writing numbered columns text start output₀ output' next (used + width)
      writing_more {output'} put =
          let fits : used + length row ≤ length output = omega (arith, writing_room, wide) in
          let kept : length output' ≡ length output = rw put (length_splice output row used fits) in
          record {
            inside = f.inside;
            same = kept ∙ v.same;
            valid_rows = valid_rows_next numbered columns text at there v.valid_rows;
            room = omega (arith, writing_room, kept);
            rest =
                ap (λ (o : List ℕ). splice o (used + width) (flatten (rows_from text next))) put
                ∙ ap (λ (n : ℕ). splice (splice output used row) (used + n) (flatten (rows_from text next))) (sym wide)
                ∙ splice_then output row (flatten (rows_from text next)) used (omega (arith, writing_room, wide))
                ∙ ap (splice output used) (sym more)
                ∙ v.rest;
          }

    -- the numbers of a line are put into the part of the output that is lent
    pub writing_reread : {width next : ℕ} {stored' : List ℕ} → width ≡ prefix_width numbered + columns → LineReread text at width (take (length output - used) (drop used output)) next stored'
        → Writing numbered columns text start output₀ (put_mid used (length output - used) output stored') next (used + width)
    unfolding splice
    writing_reread {width} {next} {stored'} e r =
        let part = take (length output - used) (drop used output) in
        let row = take width stored' in
        let put : stored' ≡ row ++ drop (length row) part = rw (zero-add (length row)) at r.put in
        writing_more e r.found (ap (put_mid used (length output - used) output) put ∙ put_part output row used)

    pub writing_end : length text ≤ at → output ≡ splice output₀ 0 (flatten (rows_from text start))
    writing_end over = sym (splice_nil output used) ∙ ap (λ (l : List ℕ). splice output used l) (sym none) ∙ v.rest
      where
        none : flatten (rows_from text at) ≡ []
        none = rw (none_from text at over) (unfold flatten in refl)
