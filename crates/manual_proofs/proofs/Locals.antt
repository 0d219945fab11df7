-- The manual proof of straight-line code with all locals of the function as one entry of the context, the first.
--     locals E hs      the locals of E, and for each what it holds, if anything
--     enters           a function is entered: its parameters hold what is passed
--     held, cell, fills       what local i holds, and that it is read; local i is filled
--     copies, copies-field, lends, makes      a local, a field of one is copied; a `&mut [T]` is lent on; a struct is made of locals and numbers
--     operands, all_read      what operands that are locals or numbers give, and that they are read
--     leaves           the function returns: what local 0 holds is its result
-- Assumes `Logic`.
use Rattle.manual_proofs.proofs.Prelude.{ℕ, zero, suc, ◌^◌, ◌≡◌, refl, sym, ap, subst, Option, none, just, List, [], ◌∷◌, Ura, full_share, T, ltb, Sym, Width, Ty, ty_struct, Tys, place, field, deref, Operand, copy, int, int_neg, int_big, float, opd_true, opd_false, opd_unit, ptr_const, size_of, align_of, num_of, fn_addr, vtable, rv_opd, addr_of, aggregate, Body, seq, assign, return, Local, local, Fn, Val, Vals, vint, vptr, vstruct, of_list, WT, has_ty, bits, get_v, SProp, ent, sep, wand, all, emp, id⊢, apply∗, all_e, guard_i, guard_e, froom, fdies, fat, field_of, field_at, Heap, Calls, Loops, WpFn, spot_of, Item, ‵, raw, ◌⊛◌, given, mean, Post, at_ret, Goal, prop, runs, allocs, params', passes, frees, Seq, Step, step, ◌$◌, ◌∵◌, !, qed, by, move, use0, use1, use2, split, join, drop, frame, each, assume, check, done, Reads, Writes, Opd, Opds, init, load, from, stop, hop, fld, lit, addr, and_then, no_more, of_opd, assigns, returns, enter, alloc1, alloc0, params1, pass1, pass0, free1, free0, Part, look_in, sub, agg, slice_ty, slice_val, Bool, true, false}
use types.Logic.{Logic}

-- what local i holds
abbrev pub held : List (Ty × ℕ) → List (Option Val) → ℕ → Option Val
held [] hs i = none
held (e ∷ E) [] i = none
held (e ∷ E) (h ∷ hs) zero = h
held (e ∷ E) (h ∷ hs) (suc i) = held E hs i

abbrev pub set : List (Option Val) → ℕ → Val → List (Option Val)
set [] i v = []
set (h ∷ hs) zero v = just v ∷ hs
set (h ∷ hs) (suc i) v = h ∷ set hs i v

-- there is a local i
abbrev pub Within : List (Ty × ℕ) → List (Option Val) → ℕ → Type 0
Within [] hs i = ⊥
Within (e ∷ E) [] i = ⊥
Within (e ∷ E) (h ∷ hs) zero = Unit {0}
Within (e ∷ E) (h ∷ hs) (suc i) = Within E hs i

-- there is one that holds v, and to set it to v changes nothing
abbrev Nothing : Option Val → Type 0
Nothing none = Unit {0}
Nothing (just v) = ⊥

within : (E : List (Ty × ℕ)) (hs : List (Option Val)) (i : ℕ) (v : Val) → held E hs i ≡ just v → Within E hs i × (set hs i v ≡ hs)
within [] hs i v p = absurd (subst Nothing p tt)
within (e ∷ E) [] i v p = absurd (subst Nothing p tt)
within (e ∷ E) (h ∷ hs) zero v p = (tt, ap (λ (x : Option Val). x ∷ hs) (sym p))
within (e ∷ E) (h ∷ hs) (suc i) v p = ((within E hs i v p).0, ap (λ (x : List (Option Val)). h ∷ x) (within E hs i v p).1)

pub data Holding (E : List (Ty × ℕ)) (hs : List (Option Val)) : Type 0 where
  holding : Holding E hs

module _ {M : Type 1} (𝓤 : Ura M) (H : Heap 𝓤) where
  abbrev lies : Ty × ℕ → Option Val → SProp 𝓤
  lies e none = H.room e.0 e.1 zero
  lies e (just v) = H.at full_share e.0 e.1 zero v

  unfoldable pub locals : List (Ty × ℕ) → List (Option Val) → SProp 𝓤
  locals [] hs = emp 𝓤
  locals (e ∷ E) [] = emp 𝓤
  locals (e ∷ E) (h ∷ hs) = sep 𝓤 (sep 𝓤 (lies e h) (H.dies e.0 e.1)) (locals E hs)

  -- the entry: E and hs are arguments of it, so that a step finds them there
  abbrev pub Locals : List (Ty × ℕ) → List (Option Val) → Item 𝓤
  Locals E hs = given (Holding E hs) (raw (locals E hs))

module _ {M : Type 1} {𝓤 : Ura M} (𝓛 : Logic 𝓤) where
  open 𝓛 use {H}

  shuts : (E : List (Ty × ℕ)) (hs : List (Option Val)) → ent 𝓤 (locals 𝓤 H E hs) (mean 𝓛 (Locals 𝓤 H E hs))
  shuts E hs = guard_i 𝓤 (Holding E hs) (locals 𝓤 H E hs) holding

  opens : (E : List (Ty × ℕ)) (hs : List (Option Val)) → ent 𝓤 (mean 𝓛 (Locals 𝓤 H E hs)) (locals 𝓤 H E hs)
  opens E hs = guard_e 𝓤 (Holding E hs) (locals 𝓤 H E hs) (λ _. id⊢ 𝓤 (locals 𝓤 H E hs))

  lies_room : (e : Ty × ℕ) (h : Option Val) → ent 𝓤 (lies 𝓤 H e h) (H.room e.0 e.1 zero)
  lies_room e none = id⊢ 𝓤 (H.room e.0 e.1 zero)
  lies_room e (just v) = 𝓛.laws.at_room e.0 e.1 zero v

  abbrev Filling : List (Ty × ℕ) → List (Option Val) → ℕ → Val → SProp 𝓤
  Filling E hs i u = wand 𝓤 (H.at full_share (spot_of 𝓤 H E i).0 (spot_of 𝓤 H E i).1 zero u) (locals 𝓤 H E (set hs i u))

  -- local i is taken out, and may be put back with any value
  opened : (E : List (Ty × ℕ)) (hs : List (Option Val)) (i : ℕ) → Within E hs i
      → ent 𝓤 (locals 𝓤 H E hs) (sep 𝓤 (lies 𝓤 H ((spot_of 𝓤 H E i).0, (spot_of 𝓤 H E i).1) (held E hs i)) (all 𝓤 (Filling E hs i)))
  unfolding locals
  opened [] hs i z = absurd z
  opened (e ∷ E) [] i z = absurd z
  opened (e ∷ E) (h ∷ hs) zero z =
      qed 𝓛 (((raw (lies 𝓤 H e h) ⊛ ‵ (fdies e.0 e.1)) ⊛ raw (locals 𝓤 H E hs)) ∷ []) ∵ split ! $ split ! $ frame ! $
      each ! (Filling (e ∷ E) (h ∷ hs) zero) (λ u. assume ! (‵ (fat full_share e.0 e.1 zero u)) $ join ! $ join ! $ done !)
  opened (e ∷ E) (h ∷ hs) (suc i) z =
      qed 𝓛 (((raw (lies 𝓤 H e h) ⊛ ‵ (fdies e.0 e.1)) ⊛ raw (locals 𝓤 H E hs)) ∷ []) ∵ split ! $ move ! (1 ∷ []) $
      use1 𝓛 (raw (lies 𝓤 H ((spot_of 𝓤 H E i).0, (spot_of 𝓤 H E i).1) (held E hs i)) ⊛ raw (all 𝓤 (Filling E hs i))) (opened E hs i z) $ split ! $ frame ! $
      each ! (Filling (e ∷ E) (h ∷ hs) (suc i)) (λ u. assume ! (‵ (fat full_share (spot_of 𝓤 H E i).0 (spot_of 𝓤 H E i).1 zero u)) $
      move ! (1 ∷ []) $ use1 𝓛 (raw (Filling E hs i u)) (all_e 𝓤 (Filling E hs i) u) $ move ! (1 ∷ 0 ∷ []) $
      use2 𝓛 (raw (locals 𝓤 H E (set hs i u))) (apply∗ 𝓤 (H.at full_share (spot_of 𝓤 H E i).0 (spot_of 𝓤 H E i).1 zero u) (locals 𝓤 H E (set hs i u))) $ move ! (1 ∷ 0 ∷ []) $ join ! $ done !)

  -- the same of the entry
  abbrev Refilling : List (Ty × ℕ) → List (Option Val) → ℕ → Val → SProp 𝓤
  Refilling E hs i u = wand 𝓤 (H.at full_share (spot_of 𝓤 H E i).0 (spot_of 𝓤 H E i).1 zero u) (mean 𝓛 (Locals 𝓤 H E (set hs i u)))

  taken : (E : List (Ty × ℕ)) (hs : List (Option Val)) (i : ℕ) → Within E hs i
      → ent 𝓤 (mean 𝓛 (Locals 𝓤 H E hs)) (sep 𝓤 (lies 𝓤 H ((spot_of 𝓤 H E i).0, (spot_of 𝓤 H E i).1) (held E hs i)) (all 𝓤 (Refilling E hs i)))
  taken E hs i z =
      qed 𝓛 (Locals 𝓤 H E hs ∷ []) ∵ use1 𝓛 (raw (locals 𝓤 H E hs)) (opens E hs) $
      use1 𝓛 (raw (lies 𝓤 H ((spot_of 𝓤 H E i).0, (spot_of 𝓤 H E i).1) (held E hs i)) ⊛ raw (all 𝓤 (Filling E hs i))) (opened E hs i z) $ split ! $ frame ! $
      each ! (Refilling E hs i) (λ u. assume ! (‵ (fat full_share (spot_of 𝓤 H E i).0 (spot_of 𝓤 H E i).1 zero u)) $
      move ! (1 ∷ []) $ use1 𝓛 (raw (Filling E hs i u)) (all_e 𝓤 (Filling E hs i) u) $ move ! (1 ∷ 0 ∷ []) $
      use2 𝓛 (raw (locals 𝓤 H E (set hs i u))) (apply∗ 𝓤 (H.at full_share (spot_of 𝓤 H E i).0 (spot_of 𝓤 H E i).1 zero u) (locals 𝓤 H E (set hs i u))) $
      use1 𝓛 (Locals 𝓤 H E (set hs i u)) (shuts E (set hs i u)) $ done !)

-- ---- what operands that are locals or numbers give
abbrev number : Bool → Width → ℕ → Option Val
number true w n = just (vint w n)
number false w n = none

abbrev operand : List (Ty × ℕ) → List (Option Val) → Operand → Option Val
operand E hs (copy (place i [])) = held E hs i
operand E hs (copy (place i (s ∷ st))) = none
operand E hs (int w n) = number (ltb n (2 ^ bits w)) w n
operand E hs (int_neg w k) = none
operand E hs (int_big w n) = none
operand E hs (float f n) = none
operand E hs opd_true = none
operand E hs opd_false = none
operand E hs opd_unit = none
operand E hs (ptr_const n) = none
operand E hs (size_of τ) = none
operand E hs (align_of τ) = none
operand E hs (num_of w τ) = none
operand E hs (fn_addr f s) = none
operand E hs (vtable τ fs) = none

abbrev both : Option Val → Option (List Val) → Option (List Val)
both none os = none
both (just v) none = none
both (just v) (just vs) = just (v ∷ vs)

abbrev pub operands : List (Ty × ℕ) → List (Option Val) → List Operand → Option (List Val)
operands E hs [] = just []
operands E hs (x ∷ xs) = both (operand E hs x) (operands E hs xs)

module _ {M : Type 1} {𝓤 : Ura M} {𝓛 : Logic 𝓤} {K : Type 0} (t : K) (E : List (Ty × ℕ)) (hs : List (Option Val)) (Γ : List (Item 𝓤)) (at-locals : (i : ℕ) (v : Val) → held E hs i ≡ just v → Reads K 𝓛 Γ (spot_of 𝓤 𝓛.H E i).0 (spot_of 𝓤 𝓛.H E i).1 zero v) where
  abbrev Gives : Operand → Option Val → Type 2
  Gives x none = Unit {2}
  Gives x (just v) = Opd K 𝓛 Γ E x v

  abbrev Give : List Operand → Option (List Val) → Type 2
  Give xs none = Unit {2}
  Give xs (just vs) = Opds K 𝓛 Γ E xs vs

  local_gives : (i : ℕ) (o : Option Val) → held E hs i ≡ o → Gives (copy (place i [])) o
  local_gives i none e = tt
  local_gives i (just v) e = load t (from t (stop t)) (at-locals i v e)

  number_gives : (w : Width) (n : ℕ) (b : Bool) → ltb n (2 ^ bits w) ≡ b → Gives (int w n) (number b w n)
  number_gives w n true e = lit t (subst T (sym e) tt)
  number_gives w n false e = tt

  gives : (x : Operand) → Gives x (operand E hs x)
  gives (copy (place i [])) = local_gives i (held E hs i) refl
  gives (copy (place i (s ∷ st))) = tt
  gives (int w n) = number_gives w n (ltb n (2 ^ bits w)) refl
  gives (int_neg w k) = tt
  gives (int_big w n) = tt
  gives (float f n) = tt
  gives opd_true = tt
  gives opd_false = tt
  gives opd_unit = tt
  gives (ptr_const n) = tt
  gives (size_of τ) = tt
  gives (align_of τ) = tt
  gives (num_of w τ) = tt
  gives (fn_addr f s) = tt
  gives (vtable τ fs) = tt

  both_give : (x : Operand) (xs : List Operand) (o : Option Val) (os : Option (List Val)) → Gives x o → Give xs os → Give (x ∷ xs) (both o os)
  both_give x xs none os a b = tt
  both_give x xs (just v) none a b = tt
  both_give x xs (just v) (just vs) a b = and_then t a b

  all_give : (xs : List Operand) → Give xs (operands E hs xs)
  all_give [] = no_more t
  all_give (x ∷ xs) = both_give x xs (operand E hs x) (operands E hs xs) (gives x) (all_give xs)

  pub all_read : (xs : List Operand) {vs : List Val} → operands E hs xs ≡ just vs → Opds K 𝓛 Γ E xs vs
  all_read xs e = subst (Give xs) e (all_give xs)

-- ---- a function's locals, where they are and what its parameters hold
abbrev pub Places : List Local → Type 0
Places [] = Unit {0}
Places (local τ h ∷ ls) = ℕ × Places ls

abbrev pub environment : (ls : List Local) → Places ls → List (Ty × ℕ)
environment [] bs = []
environment (local τ h ∷ ls) bs = (τ, bs.0) ∷ environment ls bs.1

abbrev pub unfilled : List Local → List (Option Val)
unfilled [] = []
unfilled (l ∷ ls) = none ∷ unfilled ls

abbrev pub stored : List (Option Val) → List Val → List (Option Val)
stored hs [] = hs
stored [] (v ∷ vs) = []
stored (h ∷ hs) (v ∷ vs) = just v ∷ stored hs vs

-- the parameters are the locals after the result
abbrev pub entering : List (Option Val) → List Val → List (Option Val)
entering [] vs = []
entering (h ∷ hs) vs = h ∷ stored hs vs

abbrev pub Fit : List (Ty × ℕ) → List (Option Val) → List Val → Type 0
Fit E hs [] = Unit {0}
Fit [] hs (v ∷ vs) = ⊥
Fit (e ∷ E) [] (v ∷ vs) = ⊥
Fit (e ∷ E) (h ∷ hs) (v ∷ vs) = (T (has_ty e.0 v) × WT v) × Fit E hs vs

abbrev pub Passed : List (Ty × ℕ) → List (Option Val) → List Val → Type 0
Passed [] hs vs = ⊥
Passed (e ∷ E) [] vs = ⊥
Passed (e ∷ E) (h ∷ hs) vs = Fit E hs vs

abbrev pub Filled : List (Ty × ℕ) → List (Option Val) → Type 0
Filled [] hs = Unit {0}
Filled (e ∷ E) [] = ⊥
Filled (e ∷ E) (h ∷ hs) = Filled E hs

module _ {M : Type 1} {𝓤 : Ura M} {𝓛 : Logic 𝓤} {K : Type 0} where
  open 𝓛 use {H}

  allocates : K → (ls : List Local) {Γ : List (Item 𝓤)} {Kt : List (Ty × ℕ) → Goal 𝓤 H} → ((bs : Places ls) → Seq K 𝓛 (raw (locals 𝓤 H (environment ls bs) (unfilled ls)) ∷ Γ) (Kt (environment ls bs))) → Seq K 𝓛 Γ (allocs ls Kt)
  unfolding locals
  allocates t [] k = alloc0 t $ use0 𝓛 (raw (emp 𝓤)) (id⊢ 𝓤 (emp 𝓤)) $ k tt
  allocates t (local τ h ∷ ls) k = alloc1 t (λ b. allocates t ls (λ bs. move t (1 ∷ 2 ∷ 0 ∷ []) $ join t $ join t $ use1 𝓛 (raw (locals 𝓤 H ((τ, b) ∷ environment ls bs) (none ∷ unfilled ls))) (id⊢ 𝓤 _) $ k (b, bs)))

  stores : K → (E : List (Ty × ℕ)) (hs : List (Option Val)) (vs : List Val) {Γ : List (Item 𝓤)} {g : Goal 𝓤 H} → Fit E hs vs → Seq K 𝓛 (raw (locals 𝓤 H E (stored hs vs)) ∷ Γ) g → Seq K 𝓛 (raw (locals 𝓤 H E hs) ∷ Γ) (passes E vs g)
  unfolding locals
  stores t E hs [] ok s = pass0 t $ s
  stores t [] hs (v ∷ vs) ok s = absurd ok
  stores t (e ∷ E) [] (v ∷ vs) ok s = absurd ok
  stores t (e ∷ E) (h ∷ hs) (v ∷ vs) ok s =
      use1 𝓛 ((raw (lies 𝓤 H e h) ⊛ ‵ (fdies e.0 e.1)) ⊛ raw (locals 𝓤 H E hs)) (id⊢ 𝓤 _) $ split t $ split t $ use1 𝓛 (‵ (froom e.0 e.1 zero)) (lies_room 𝓛 e h) $
      pass1 t (init t 0 refl ok.0) $ move t (2 ∷ []) $ stores t E hs vs ok.1 (move t (1 ∷ 2 ∷ 0 ∷ []) $ join t $ join t $ use1 𝓛 (raw (locals 𝓤 H (e ∷ E) (just v ∷ stored hs vs))) (id⊢ 𝓤 _) $ s)

  passes_all : K → (E : List (Ty × ℕ)) (hs : List (Option Val)) (vs : List Val) {Γ : List (Item 𝓤)} {g : Goal 𝓤 H} → Passed E hs vs → Seq K 𝓛 (raw (locals 𝓤 H E (entering hs vs)) ∷ Γ) g → Seq K 𝓛 (raw (locals 𝓤 H E hs) ∷ Γ) (params' E vs g)
  unfolding locals
  passes_all t [] hs vs ok s = absurd ok
  passes_all t (e ∷ E) [] vs ok s = absurd ok
  passes_all t (e ∷ E) (h ∷ hs) vs ok s =
      params1 t $ use1 𝓛 ((raw (lies 𝓤 H e h) ⊛ ‵ (fdies e.0 e.1)) ⊛ raw (locals 𝓤 H E hs)) (id⊢ 𝓤 _) $ split t $ move t (1 ∷ []) $
      stores t E hs vs ok (move t (1 ∷ 0 ∷ []) $ join t $ use1 𝓛 (raw (locals 𝓤 H (e ∷ E) (h ∷ stored hs vs))) (id⊢ 𝓤 _) $ s)

  pub enters : K → (C : Calls 𝓤 H) (Λ : Loops 𝓤 H) (f : Fn) (vs : List Val) (Kf : Val → SProp 𝓤) {Γ : List (Item 𝓤)} → ((bs : Places f.locals) → Passed (environment f.locals bs) (unfilled f.locals) vs)
      → ((bs : Places f.locals) → Seq K 𝓛 (Locals 𝓤 H (environment f.locals bs) (entering (unfilled f.locals) vs) ∷ Γ) (runs C Λ (environment f.locals bs) f.body (at_ret (environment f.locals bs) Kf)))
      → Seq K 𝓛 Γ (prop (WpFn 𝓤 H C Λ f vs Kf))
  enters t C Λ f vs Kf ok k =
      enter t C Λ f vs Kf $ allocates t f.locals (λ bs. passes_all t (environment f.locals bs) (unfilled f.locals) vs (ok bs)
      (use1 𝓛 (Locals 𝓤 H (environment f.locals bs) (entering (unfilled f.locals) vs)) (shuts 𝓛 (environment f.locals bs) (entering (unfilled f.locals) vs)) $ k bs))

  releases : K → (E : List (Ty × ℕ)) (hs : List (Option Val)) {Γ : List (Item 𝓤)} {g : Goal 𝓤 H} → Filled E hs → Seq K 𝓛 Γ g → Seq K 𝓛 (raw (locals 𝓤 H E hs) ∷ Γ) (frees E g)
  unfolding locals
  releases t [] hs ok s = drop t $ free0 t $ s
  releases t (e ∷ E) [] ok s = absurd ok
  releases t (e ∷ E) (h ∷ hs) ok s =
      use1 𝓛 ((raw (lies 𝓤 H e h) ⊛ ‵ (fdies e.0 e.1)) ⊛ raw (locals 𝓤 H E hs)) (id⊢ 𝓤 _) $ split t $ split t $ use1 𝓛 (‵ (froom e.0 e.1 zero)) (lies_room 𝓛 e h) $ free1 t $ releases t E hs ok s

  module _ {E : List (Ty × ℕ)} {hs : List (Option Val)} where
    pub cell : K → (i : ℕ) {v : Val} → held E hs i ≡ just v
        → Part K 𝓛 (Locals 𝓤 H E hs) full_share (spot_of 𝓤 H E i).0 (spot_of 𝓤 H E i).1 zero v (λ u. Locals 𝓤 H E (set hs i u))
    cell t i {v} e = record {
      out = subst (λ (h : Option Val). ent 𝓤 (mean 𝓛 (Locals 𝓤 H E hs)) (sep 𝓤 (lies 𝓤 H ((spot_of 𝓤 H E i).0, (spot_of 𝓤 H E i).1) h) (all 𝓤 (Refilling 𝓛 E hs i)))) e (taken 𝓛 E hs i (within E hs i v e).0);
      same = ap (λ (hs' : List (Option Val)). Locals 𝓤 H E hs') (within E hs i v e).1;
    }

    module _ {Γ : List (Item 𝓤)} where
      pub fills : K → (i : ℕ) {v : Val} → Within E hs i → T (has_ty (spot_of 𝓤 H E i).0 v) × WT v
          → Writes K 𝓛 (Locals 𝓤 H E hs ∷ Γ) (spot_of 𝓤 H E i).0 (spot_of 𝓤 H E i).1 zero v (Locals 𝓤 H E (set hs i v) ∷ Γ)
      fills t i {v} z wt = record {
        go = λ P h. qed 𝓛 (Locals 𝓤 H E hs ∷ Γ) ∵ check ! wt $
            use1 𝓛 (raw (lies 𝓤 H ((spot_of 𝓤 H E i).0, (spot_of 𝓤 H E i).1) (held E hs i)) ⊛ raw (all 𝓤 (Refilling 𝓛 E hs i))) (taken 𝓛 E hs i z) $ split ! $
            use1 𝓛 (‵ (froom (spot_of 𝓤 H E i).0 (spot_of 𝓤 H E i).1 zero)) (lies_room 𝓛 ((spot_of 𝓤 H E i).0, (spot_of 𝓤 H E i).1) (held E hs i)) $ frame ! $
            assume ! (‵ (fat full_share (spot_of 𝓤 H E i).0 (spot_of 𝓤 H E i).1 zero v)) $ move ! (1 ∷ []) $ use1 𝓛 (raw (Refilling 𝓛 E hs i v)) (all_e 𝓤 (Refilling 𝓛 E hs i) v) $ move ! (1 ∷ 0 ∷ []) $
            use2 𝓛 (Locals 𝓤 H E (set hs i v)) (apply∗ 𝓤 (H.at full_share (spot_of 𝓤 H E i).0 (spot_of 𝓤 H E i).1 zero v) (mean 𝓛 (Locals 𝓤 H E (set hs i v)))) $ by ! h;
      }

      pub leaves : K → {C : Calls 𝓤 H} {Λ : Loops 𝓤 H} {Kf : Val → SProp 𝓤} {v : Val} → held E hs 0 ≡ just v → Filled E hs → Step K 𝓛 Γ (prop (Kf v)) (Locals 𝓤 H E hs ∷ Γ) (runs C Λ E return (at_ret E Kf))
      leaves t e ok = step (λ s. returns t (look_in t 0 (cell t 0 e)) $ use1 𝓛 (raw (locals 𝓤 H E hs)) (opens 𝓛 E hs) $ releases t E hs ok s)

module _ {M : Type 1} {𝓤 : Ura M} {𝓛 : Logic 𝓤} {K : Type 0} {E : List (Ty × ℕ)} {hs : List (Option Val)} {Γ : List (Item 𝓤)} {C : Calls 𝓤 𝓛.H} {Λ : Loops 𝓤 𝓛.H} {q : Post 𝓤 𝓛.H} {rest : Body} where
  -- local j is made a struct of operands
  open 𝓛 use {H}

  pub makes : K → {j : ℕ} {xs : List Operand} {vs : List Val} → operands E hs xs ≡ just vs → Within E hs j → T (has_ty (spot_of 𝓤 H E j).0 (vstruct (of_list vs))) × WT (vstruct (of_list vs))
      → Step K 𝓛 (Locals 𝓤 H E (set hs j (vstruct (of_list vs))) ∷ Γ) (runs C Λ E rest q) (Locals 𝓤 H E hs ∷ Γ) (runs C Λ E (seq (assign (place j []) (aggregate xs)) rest) q)
  makes t {j} {xs} e z wt = assigns t (agg t (all_read t E hs (Locals 𝓤 H E hs ∷ Γ) (λ i v p. look_in t 0 (cell t i p)) xs e)) (from t (stop t)) (fills t j z wt)

  -- local i is copied to local j
  pub copies : K → {i j : ℕ} {v : Val} → held E hs i ≡ just v → Within E hs j → T (has_ty (spot_of 𝓤 H E j).0 v) × WT v
      → Step K 𝓛 (Locals 𝓤 H E (set hs j v) ∷ Γ) (runs C Λ E rest q) (Locals 𝓤 H E hs ∷ Γ) (runs C Λ E (seq (assign (place j []) (rv_opd (copy (place i [])))) rest) q)
  copies t {i} {j} e z wt = assigns t (of_opd t (load t (from t (stop t)) (look_in t 0 (cell t i e)))) (from t (stop t)) (fills t j z wt)

  -- field k of local i is copied to local j
  pub copies_field : K → {i j k : ℕ} {ν : Sym} {τs : Tys} {vs : Vals} {back : Val → Item 𝓤} {τ : Ty} {d : ℕ} → Part K 𝓛 (Locals 𝓤 H E hs) full_share (ty_struct ν τs) (spot_of 𝓤 H E i).1 zero (vstruct vs) back
      → field_of (spot_of 𝓤 H E i).0 k ≡ just (τ, d) → field_at zero τs k ≡ just (τ, d) → Within E hs j → T (has_ty (spot_of 𝓤 H E j).0 (get_v vs k)) × WT (get_v vs k)
      → Step K 𝓛 (Locals 𝓤 H E (set hs j (get_v vs k)) ∷ Γ) (runs C Λ E rest q) (Locals 𝓤 H E hs ∷ Γ) (runs C Λ E (seq (assign (place j []) (rv_opd (copy (place i (field k ∷ []))))) rest) q)
  copies_field t {i} {j} {k} p fo fa z wt = assigns t (of_opd t (load t (from t (fld t fo (stop t))) (look_in t 0 (sub t k fa p)))) (from t (stop t)) (fills t j z wt)

  -- local i, a `&mut [T]`, is lent on: its pointer to local j, and with its length to local k
  pub lends : K → {i j k b o n : ℕ} {R τ : Ty} → (spot_of 𝓤 H E i).0 ≡ slice_ty R → held E hs i ≡ just (slice_val (b, o) n) → Within E hs j → T (has_ty (spot_of 𝓤 H E j).0 (vptr b o)) × WT (vptr b o)
      → held E (set hs j (vptr b o)) i ≡ just (slice_val (b, o) n) → held E (set hs j (vptr b o)) j ≡ just (vptr b o) → Within E (set hs j (vptr b o)) k → T (has_ty (spot_of 𝓤 H E k).0 (slice_val (b, o) n)) × WT (slice_val (b, o) n)
      → Step K 𝓛 (Locals 𝓤 H E (set (set hs j (vptr b o)) k (slice_val (b, o) n)) ∷ Γ) (runs C Λ E rest q)
      (Locals 𝓤 H E hs ∷ Γ) (runs C Λ E (seq (assign (place j []) (addr_of (place i (field 0 ∷ deref τ ∷ [])))) (seq (assign (place k []) (aggregate (copy (place j []) ∷ copy (place i (field 1 ∷ [])) ∷ []))) rest)) q)
  lends t {i} {j} {k} {b} {o} {n} {R} is e zj wt e' ej zk wt' =
      let held_at : (hs' : List (Option Val)) → held E hs' i ≡ just (slice_val (b, o) n) → Part K 𝓛 (Locals 𝓤 H E hs') full_share (slice_ty R) (spot_of 𝓤 H E i).1 zero (slice_val (b, o) n) (λ u. Locals 𝓤 H E (set hs' i u)) = λ hs' p.
      subst (λ (σ : Ty). Part K 𝓛 (Locals 𝓤 H E hs') full_share σ (spot_of 𝓤 H E i).1 zero (slice_val (b, o) n) (λ u. Locals 𝓤 H E (set hs' i u))) is (cell t i p) in
      let at_field : (m : ℕ) → field_of (spot_of 𝓤 H E i).0 m ≡ field_of (slice_ty R) m = λ m. ap (λ (σ : Ty). field_of σ m) is in
      step (λ s. assigns t (addr t (from t (fld t (at_field 0) (hop t (look_in t 0 (sub t 0 refl (held_at hs e))) (stop t))))) (from t (stop t)) (fills t j zj wt) $
      assigns t (agg t (and_then t (load t (from t (stop t)) (look_in t 0 (cell t j ej))) (and_then t (load t (from t (fld t (at_field 1) (stop t))) (look_in t 0 (sub t 1 refl (held_at (set hs j (vptr b o)) e')))) (no_more t)))) (from t (stop t)) (fills t k zk wt') $ s)
