-- Old stamps stay out of every history, from the contracts alone. Assumes nothing.
use Rattle.history.proofs.Laws.Prelude.{ap, ◌∙◌, stamped_history, Header, largest_view, largest_view_largest_of, OldStampsStayOut}
use Rattle.history.proofs.Laws.Calls.{history_represents}

pub stamps_kept : OldStampsStayOut
stamps_kept o generation calls s h =
    let k = stamped_history o generation calls in
    record {
      largest_kept = ap (λ (x : Header). largest_view x.largest) (history_represents h).shown.header ∙ largest_view_largest_of _ ∙ k.largest_kept;
      never_fall = k.never_fall;
    }
