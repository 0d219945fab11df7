-- A local array whose first elements are lent as a shared slice for a lifetime, and whose memory is free again when that is over.
-- Assumes `Logic`.
use Rattle.manual_proofs.proofs.Prelude.{◌≡◌, refl, sym, ℕ, List, [], ◌∷◌, ◌++◌, length, take, take-append-drop, Ura, full_share, Lifetime, ty_array, Val, ent, sep, Lft, Fml, fsep, fat, froom, fdead, flent, ‵, ◌⊛◌, later, ◌$◌, ◌∵◌, !, qed, move, use1, use2, drop as toss, split, rewrite, fsplit, fjoin, feq_i, feq_l, await, updating, done, lent_back, cells, RattleType, mem, shares, lone, part_at, Array, lends_shr_slice, Room, ShrSlice, slice_val, at, cut_app, join_app, part_in, Sh, parts-cells, part_room, Room-take}
use lib.ListN.{drop}
use base.Fml.{Incl}
use ghost.Rules.{Toks, span}
use denote.Memory.{shared_of}
use denote.Shares.{SharesAsFrom}
use types.Logic.{Logic, sem, lfts}
use types.Kit.{now, raw, join}
use types.Share.{arr_parts}
use denote.ArrayMemory.{Single, Array-apart, Array-whole}

module _ (R : RattleType) (k b : ℕ) (xs : List R.Denot) where
  -- the first k elements in memory, and the others
  abbrev Front : Fml
  Front = (arr_parts (shares R) (length (take k xs))).part full_share (take k xs) b 0

  abbrev Rest : Fml
  Rest = cells (Sh R full_share) (drop k xs) b (at 0 (mem R).size (length (take k xs)))

  -- what the lender keeps
  abbrev pub Kept : Lft → Fml
  Kept κ = fsep (flent κ Front) Rest

  module _ {M : Type 1} {𝓤 : Ura M} (𝓛 : Logic 𝓤) (n : ℕ) where
    open 𝓛 use {H, A}

    abbrev pub Lent : Lifetime → Lft → Fml
    Lent ℓ κ = (ShrSlice ℓ κ R).own_val (record { ref_ptr = (b, 0); now = take k xs }) (slice_val (b, 0) (length (take k xs)) ∷ [])

    -- with tokens, which come back
    pub lends_front : (ℓ : Lifetime) (κ : Lft) (v : Val) → Single R.mir → Room R n → (l : Lft) → SharesAsFrom 𝓛 full_share R (shared_of R) l → (ts : Toks) → Incl (span ts) l → Incl (span ts) κ
        → ent 𝓤 (sep 𝓤 (H.at full_share (ty_array (lone R.mir) n) b 0 v) (sep 𝓤 (sem 𝓛 ((Array R n).own_val xs (v ∷ []))) (lfts 𝓛 ts)))
        (H.⇛ (sep 𝓤 (sep 𝓤 (sem 𝓛 (Lent ℓ κ)) (sem 𝓛 (Kept κ))) (lfts 𝓛 ts)))
    lends_front ℓ κ v one rm l s ts inc sp =
        qed 𝓛 (‵ (fat full_share (ty_array (lone R.mir) n) b 0 v) ∷ ‵ ((Array R n).own_val xs (v ∷ [])) ∷ raw (lfts 𝓛 ts) ∷ []) ∵ updating ! $
        use2 𝓛 (‵ (part_at (Array R n) full_share xs b 0)) (part_in 𝓛 (Array R n) refl full_share xs b 0 v) $
        use1 𝓛 (‵ ((arr_parts (shares R) n).part full_share xs b 0)) (Array-apart 𝓛 R full_share one n xs b 0) $ fsplit ! $ feq_l ! (λ e.
        rewrite ! 0 (λ (F : Fml). ‵ F) (parts-cells R full_share xs b 0) refl $ rewrite ! 0 (λ (ys : List R.Denot). ‵ (cells (Sh R full_share) ys b 0)) (sym (take-append-drop k xs)) refl $
        use1 𝓛 (‵ (cells (Sh R full_share) (take k xs) b 0) ⊛ ‵ Rest) (cut_app 𝓛 (Sh R full_share) (take k xs) (drop k xs) b 0) $ split ! $
        rewrite ! 0 (λ (F : Fml). ‵ F) (sym (parts-cells R full_share (take k xs) b 0)) refl $ feq_i ! ℕ (length (take k xs)) (length (take k xs)) refl $ fjoin ! $
        -- [the first elements; the others; the tokens]
        move ! (0 ∷ 2 ∷ []) $ use2 𝓛 (later ((‵ (Lent ℓ κ) ⊛ ‵ (flent κ Front)) ⊛ raw (lfts 𝓛 ts))) (lends_shr_slice 𝓛 R ℓ κ full_share (take k xs) b 0 (Room-take R n k xs e rm) l s ts inc sp) $ await ! tt $ split ! $ split ! $
        -- [the slice; what is lent; the tokens; the others]
        now ! $ move ! (1 ∷ 3 ∷ 0 ∷ 2 ∷ []) $ fjoin ! $ move ! (1 ∷ 0 ∷ []) $ join ! $ done !)

    pub front_back : (κ : Lft) → length xs ≡ n → ent 𝓤 (sep 𝓤 (A.dead κ) (sem 𝓛 (Kept κ))) (H.⇛ (H.room (ty_array (lone R.mir) n) b 0))
    front_back κ l =
        qed 𝓛 (‵ (fdead κ) ∷ ‵ (Kept κ) ∷ []) ∵ updating ! $ move ! (1 ∷ []) $ fsplit ! $ move ! (2 ∷ 0 ∷ []) $ lent_back ! tt $ fsplit ! $ toss ! $
        rewrite ! 0 (λ (F : Fml). ‵ F) (parts-cells R full_share (take k xs) b 0) refl $
        use2 𝓛 (‵ (cells (Sh R full_share) (take k xs ++ drop k xs) b 0)) (join_app 𝓛 (Sh R full_share) (take k xs) (drop k xs) b 0) $
        rewrite ! 0 (λ (ys : List R.Denot). ‵ (cells (Sh R full_share) ys b 0)) (take-append-drop k xs) refl $ rewrite ! 0 (λ (F : Fml). ‵ F) (sym (parts-cells R full_share xs b 0)) refl $
        feq_i ! ℕ (length xs) n l $ fjoin ! $ use1 𝓛 (‵ (part_at (Array R n) full_share xs b 0)) (Array-whole 𝓛 R full_share n xs b 0) $
        use1 𝓛 (‵ (froom (ty_array (lone R.mir) n) b 0)) (part_room 𝓛 (Array R n) xs b 0) $ now ! $ done !
