-- A `&κ mut [T]` that is lent again for a lifetime κ' of a call, and returned: `Denote/Lend.antt`'s `lends_again` and
-- `comes_back`, of a slice.
--     LentAgain      what the holder keeps while the slice is lent again under the name γ₁: the lender's part at κ', and its
--                    own borrow at κ, open, with both halves of its ghost variable
--     lends_again    own (`&κ mut [T]` ((b, o), γ, ys)) ∗ [κ]_q  ⊢ ⇛ ∃ γ₁. own (`&κ' mut [T]` ((b, o), γ₁, ys)) ∗ LentAgain γ₁
--     comes_back     given `Room` and that zs is as long as ys:
--                    [†κ'] ∗ LentAgain γ₁ ∗ finally γ₁ zs  ⊢ ⇛ (own (`&κ mut [T]` ((b, o), γ, zs)) ∗ [κ]_q)
--     lends, gets_back    both as steps of a manual proof, for a lifetime ν that begins with the one and ends with the other
-- Assumes `Logic`.
use types.Logic.{Logic, sem}
use denote.Slice.{mut_slice_at}
use denote.Ref.{MutBor}
use Rattle.manual_proofs.proofs.Prelude.{◌≡◌, sym, ap, subst, ℕ, List, [], ◌∷◌, length, Ura, full_share, Lifetime, Val, ent, sep, ex, Lft, GName, Share, Fml, fsep, flft, fdead, fobs, fauth, flent, fobor, Goal, Item, Seq, Soaks, Step, step, ‵, ◌⊛◌, some, later, ◌$◌, ◌∵◌, !, qed, move, use1, use2, use3, drop, split, pick, fsplit, fjoin, frame, await, updating, show, done, cells, Arr, lft_new, lft_end, RattleType, mem, slice_val, MutSlice, heres, Room, finally, coded_holeys, Held, lends_slice, slice_back, row, whole_out, whole_in, opens_slice, closes_slice, at_once}
use denote.Shadow.{pure_l, pure_i}

module _ (R : RattleType) (κ : Lft) (q : Share) (γ : GName) (b o : ℕ) where
  abbrev at_list : GName → List R.Denot → MutBor (List R.Denot)
  at_list δ ys = record { ref_ptr = (b, o); ghost_name = δ; now = ys }

  abbrev vals : List R.Denot → List Val
  vals ys = slice_val (b, o) (length ys) ∷ []

  abbrev pub LentAgain : Lft → GName → List R.Denot → Fml
  LentAgain κ' γ₁ ys = fsep (flent κ' (Held R (length ys) b o γ₁)) (fsep (fobor κ q (Held R (length ys) b o γ)) (fsep (fobs γ ((coded_holeys R).code (heres R ys))) (fauth γ ((coded_holeys R).code (heres R ys)))))

  module _ (κ' : Lft) {M : Type 1} {𝓤 : Ura M} (𝓛 : Logic 𝓤) (ℓ ℓ' : Lifetime) (ys : List R.Denot) where
    open 𝓛 use {H, A}

    lends_again : ent 𝓤 (sep 𝓤 (sem 𝓛 ((MutSlice ℓ κ R).own_val (at_list γ ys) (vals ys))) (A.lft κ q))
        (H.⇛ (ex 𝓤 (λ (γ₁ : GName). sep 𝓤 (sem 𝓛 ((MutSlice ℓ' κ' R).own_val (at_list γ₁ ys) (vals ys))) (sem 𝓛 (LentAgain κ' γ₁ ys)))))
    lends_again =
        qed 𝓛 (‵ ((MutSlice ℓ κ R).own_val (at_list γ ys) (vals ys)) ∷ ‵ (flft κ q) ∷ []) ∵ updating ! $ fsplit ! $ pure_l ! (mut_slice_at R (at_list γ ys) (vals ys)) (λ p. fsplit ! $ opens_slice ! tt R ys b o $
        use1 𝓛 (‵ (cells (mem R) ys b o)) (whole_in 𝓛 R ys b o) $
        use1 𝓛 (later (some (λ (γ₁ : GName). ‵ ((MutSlice ℓ' κ' R).own_val (at_list γ₁ ys) (vals ys)) ⊛ ‵ (flent κ' (Held R (length ys) b o γ₁))))) (lends_slice 𝓛 R ℓ' κ' ys b o p.1) $ await ! tt $ pick ! (λ γ₁. split ! $
        -- [the new slice; the lender's part at κ'; the open borrow at κ; obs γ; auth γ]
        at_once ! $ show ! (λ (γ' : GName). sep 𝓤 (sem 𝓛 ((MutSlice ℓ' κ' R).own_val (at_list γ' ys) (vals ys))) (sem 𝓛 (LentAgain κ' γ' ys))) γ₁ $ frame ! $
        move ! (2 ∷ 3 ∷ []) $ fjoin ! $ move ! (2 ∷ 0 ∷ []) $ fjoin ! $ move ! (1 ∷ 0 ∷ []) $ fjoin ! $ done !))

    comes_back : (γ₁ : GName) (zs : List R.Denot) → Room R (length ys) → length zs ≡ length ys
        → ent 𝓤 (sep 𝓤 (A.dead κ') (sep 𝓤 (sem 𝓛 (LentAgain κ' γ₁ ys)) (sem 𝓛 (finally R γ₁ zs)))) (H.⇛ (sep 𝓤 (sem 𝓛 ((MutSlice ℓ κ R).own_val (at_list γ zs) (vals ys))) (A.lft κ q)))
    comes_back γ₁ zs room e =
        qed 𝓛 (‵ (fdead κ') ∷ ‵ (LentAgain κ' γ₁ ys) ∷ ‵ (finally R γ₁ zs) ∷ []) ∵ updating ! $ move ! (1 ∷ []) $ fsplit ! $ move ! (2 ∷ 0 ∷ 3 ∷ []) $
        use3 𝓛 (later (‵ ((Arr (mem R) (length ys)).own_at zs b o))) (slice_back 𝓛 R κ' γ₁ zs (length ys) b o) $ await ! tt $ fsplit ! $ drop ! $ use1 𝓛 (‵ (row R full_share zs b o)) (whole_out 𝓛 R zs b o) $
        move ! (1 ∷ []) $ fsplit ! $ move ! (1 ∷ []) $ fsplit ! $ move ! (3 ∷ 2 ∷ 0 ∷ 1 ∷ []) $ closes_slice ! tt R ys zs e b o $ at_once ! $
        fjoin ! $ pure_i ! (mut_slice_at R (at_list γ zs) (vals ys)) (tt, (tt, tt)) (ap (λ (m : ℕ). slice_val (b, o) m ∷ []) (sym e), subst (Room R) (sym e) room) $ fjoin ! $ done !

  module _ {M : Type 1} {𝓤 : Ura M} {𝓛 : Logic 𝓤} {K : Type 0} {Γ : List (Item 𝓤)} {G : Goal 𝓤 𝓛.H} (ℓ ℓ' : Lifetime) (ys : List R.Denot) where
    pub lends : K → Soaks G → ((ν : ℕ) (δ : GName) → Seq K 𝓛 (‵ (flft (ν ∷ []) full_share) ∷ ‵ ((MutSlice ℓ' (ν ∷ []) R).own_val (at_list δ ys) (vals ys)) ∷ ‵ (LentAgain (ν ∷ []) δ ys) ∷ Γ) G)
        → Seq K 𝓛 (‵ (flft κ q) ∷ ‵ ((MutSlice ℓ κ R).own_val (at_list γ ys) (vals ys)) ∷ Γ) G
    lends t z k =
        lft_new t z (λ ν. move t (2 ∷ 1 ∷ []) $ use2 𝓛 (later (some (λ (δ : GName). ‵ ((MutSlice ℓ' (ν ∷ []) R).own_val (at_list δ ys) (vals ys)) ⊛ ‵ (LentAgain (ν ∷ []) δ ys)))) (lends_again (ν ∷ []) 𝓛 ℓ ℓ' ys) $
        await t z $ pick t (λ δ. split t $ move t (2 ∷ 0 ∷ []) $ k ν δ))

    pub gets_back : K → Soaks G → (ν : ℕ) (δ : GName) (zs : List R.Denot) → Room R (length ys) → length zs ≡ length ys
        → Step K 𝓛 (‵ (flft κ q) ∷ ‵ ((MutSlice ℓ κ R).own_val (at_list γ zs) (vals ys)) ∷ Γ) G (‵ (flft (ν ∷ []) full_share) ∷ ‵ (LentAgain (ν ∷ []) δ ys) ∷ ‵ (finally R δ zs) ∷ Γ) G
    gets_back t z ν δ zs room e = step (λ s. lft_end t z $ use3 𝓛 (later (‵ ((MutSlice ℓ κ R).own_val (at_list γ zs) (vals ys)) ⊛ ‵ (flft κ q))) (comes_back (ν ∷ []) 𝓛 ℓ ℓ' ys δ zs room e) $ await t z $ split t $ move t (1 ∷ []) $ s)
