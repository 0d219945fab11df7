-- L and U print the text of a listing, in the old form and in the new (document 02, change 11). This holds for every proper table
-- in whose live rows every cell is a u32. Every table of a session is such a table: Laws/Printed. Assumes nothing.
use Rattle.std.specs.Prelude.{◌≡◌}
use Rattle.levels_spec.specs.Laws.Prelude.{Bool, true, false, some, all, Plain, Proper, openable_bounds, Listing, listing_text, ParsesAs, table_listing, live_fits, table_listed}
use Rattle.levels_spec.specs.Response.{list_text}

-- the listing of a table
abbrev pub listing_of : Bool → Plain → Listing
listing_of numbered p = table_listing numbered p.opening p.generation p.rows

module _ (p : Plain) (proper : Proper p) (cells : all live_fits p.rows ≡ true) where
  listed : (numbered : Bool) → ParsesAs numbered (listing_text numbered (listing_of numbered p)) (some (listing_of numbered p))
  listed =
      table_listed p.opening p.generation p.rows (openable_bounds p.opening proper.numbers) proper.generation_fits proper.rows_fit
      proper.widths proper.live_first cells

  -- "the new form, which `levels` prints for a line U"
  pub numbered_text_parses : ParsesAs true (list_text true p) (some (listing_of true p))
  unfolding list_text
  numbered_text_parses = listed true

  -- the old form, which it prints for L
  pub plain_text_parses : ParsesAs false (list_text false p) (some (listing_of false p))
  unfolding list_text
  plain_text_parses = listed false
