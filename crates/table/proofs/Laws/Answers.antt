-- The answer of a fast range is determined by its view. Assumes nothing.
use Rattle.refusals.specs.Laws.Numbers.{number_injective}
use Rattle.sort_entries.specs.declared.Range.{Range}
use Rattle.refusals.specs.declared.Refusal.{Refusal}
use Rattle.std.specs.Prelude.{Result, Ok, Err, Some, None, Option as Optional}
use Rattle.table.proofs.Laws.Prelude.{◌≡◌, refl, ap}
use Rattle.offsets.specs.Subsets.{range}
use Rattle.table.specs.Numbers.{range_view}

pub range_view_injective : (a b : Result (Optional Range) Refusal) → range_view a ≡ range_view b → a ≡ b
unfolding range_view
range_view_injective (Ok None) (Ok None) e = refl
range_view_injective (Ok None) (Ok (Some d)) e = cc
range_view_injective (Ok None) (Err q) e = cc
range_view_injective (Ok (Some c)) (Ok None) e = cc
range_view_injective (Ok (Some c)) (Ok (Some d)) e =
    let same : range c.start c.end ≡ range d.start d.end = cc in
    let start : c.start ≡ d.start = cc in
    let end : c.end ≡ d.end = cc in
    ap (λ r. Ok (Some r)) (λ i. record { start = start i; end = end i })
range_view_injective (Ok (Some c)) (Err q) e = cc
range_view_injective (Err r) (Ok None) e = cc
range_view_injective (Err r) (Ok (Some d)) e = cc
range_view_injective (Err r) (Err q) e = ap Err (number_injective r q cc)
